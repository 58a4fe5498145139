-- Where no moment is there and nothing else is due, nothing is due.
use Rattle.std.proofs.Common.{List, sym, ◌∙◌, ap, true≢false}
use Rattle.std.specs.Option.{option_copied}
use Rattle.rep_op.specs.declared.op.Put.{Put}
use Rattle.sn_tick.specs.Due.{due_session}
use Rattle.sn_tick.proofs.Resting.{all_quiet}
use Rattle.sn_tick.proofs.due.is_quiet.Goals as goal

pub returns-then-past : goal.returns-then-past
returns-then-past c = λ is. absurd (true≢false (sym is))

pub returns : goal.returns
returns c =
    λ is a. all_quiet c.args.now c.args.pending.now (option_copied c.args.timer) a c.args.session.now
    (sym c.any_past-past.ensures ∙ c.if-past.false)
    (ap (λ (ps : List Put). due_session c.args.now ps (option_copied c.args.timer) a c.args.session.now) (sym c.as_slice-puts.ensures) ∙ c.is_at_rest.ensures is a)
