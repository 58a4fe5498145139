use Rattle.std.proofs.Common.{◌≡◌, ◌++◌, [], refl, sym, ap, ◌∙◌, subst, rules}
use Rattle.rep_model.specs.Keep.{IsKeptOf}
use Rattle.gw_node.specs.Parts.{state_of}
use Rattle.gw_answer.specs.Answers.{only_sends}
use Rattle.gw_node.specs.inner.Writing.{refusal_of_journal}
use Rattle.gw_node.proofs.Calling.{noted, left}
use Rattle.gw_node.proofs.carrying.write_and_take.Goals as goal

pub returns-in-Ok : goal.returns-in-Ok
returns-in-Ok g c = (
  search rules,
  search rules,
  record {
    config = refl;
    records = refl;
    is_delta = c.in_ok-ready.ensures.delta;
    fits = c.in_ok-ready.ensures.fits;
    kept = subst (λ K. IsKeptOf (g.R.Replica.kept c.args.node.now.replica ++ c.args.delta.now) K) (sym c.commit.ensures.kept) c.in_ok-ready.ensures.taken;
    local = c.keep_owned.ensures.dropped;
    noted = noted c.args.node.now.journal c.write_if_any.new.journal c.args.delta.now c.in-Ok.field-0 c.in-Ok.ensures;
  },
)

pub returns-in-Err : goal.returns-in-Err
returns-in-Err g c =
    let nothing : c.in_ok-nothing.nothing ≡ only_sends [] = c.in_ok-nothing.ensures ∙ c.of_sends.ensures ∙ ap only_sends c.empty.ensures in
    let told : c.refused.result ≡ refusal_of_journal c.in-Err.fault (only_sends []) = c.refused.ensures ∙ ap (refusal_of_journal c.in-Err.fault) nothing in
    rw told
    (left (state_of g.R.Replica.kept c.args.node.now)
    (record { config = c.args.node.now.config; kept = g.R.Replica.kept c.prepare.new.replica; local = c.args.node.now.dialogs.local; journal = c.write_if_any.new.journal; records = c.args.node.now.records })
    c.args.delta.now c.in-Err.fault (search rules) refl c.prepare.ensures.unchanged refl refl c.in_ok-ready.ensures.delta c.in_ok-ready.ensures.fits c.in-Err.ensures)
