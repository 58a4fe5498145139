use Rattle.std.proofs.Common.{◌≡◌, ◌∙◌, sym, ap, Some}
use Rattle.rep_op.specs.Sets.{same_client}
use Rattle.rep_answer.specs.Answers.{entry_of}
use Rattle.rep_digest.specs.WellMade.{IsDigestEntry}
use Rattle.rep_answer.proofs.Finding.{found, absent, found_all}
use Rattle.rep_answer.proofs.cover.find_entry.Goals as goal

pub returns-in-Ok : goal.returns-in-Ok
returns-in-Ok c =
    let entry : entry_of c.args.client.now c.args.entries.now ≡ Some c.index-entries-at.result =
    found c.args.entries.now c.in-Ok.at c.args.client.now c.index-entries-at.result c.in-Ok.ensures.1 ∙ ap Some (sym c.index-entries-at.is) in
    (entry, found_all IsDigestEntry (λ e. same_client c.args.client.now e.client) c.args.entries.now c.requires.entries c.index-entries-at.result entry)

pub returns-in-Err : goal.returns-in-Err
returns-in-Err c = absent c.args.entries.now c.in-Err.field-0 c.args.client.now c.in-Err.ensures.1
