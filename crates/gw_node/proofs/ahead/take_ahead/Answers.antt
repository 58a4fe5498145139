use Rattle.std.proofs.Common.{◌++◌, List, refl, sym, ◌∙◌, subst, append-nil}
use Rattle.rep_op.specs.declared.op.Op.{Op}
use Rattle.rep_model.specs.Keep.{IsKeptOf}
use Rattle.gw_node.specs.Parts.{state_of}
use Rattle.gw_node.proofs.Unwritten.{not_taken}
use Rattle.gw_node.proofs.ahead.take_ahead.Goals as goal

-- ---- the delta cannot be taken

pub returns-in-Err-clause-call : goal.returns-in-Err-clause-call
returns-in-Err-clause-call g c =
    not_taken (state_of g.R.Replica.kept c.args.node.now)
    (record { config = c.args.node.now.config; kept = g.R.Replica.kept c.prepare.new.replica; local = c.args.node.now.dialogs.local; journal = c.args.node.now.journal; records = c.args.node.now.records })
    c.args.delta.now c.in-Err.refusal c.in-Err.ensures.misfit
    (record { config = refl; kept = c.prepare.ensures.unchanged; local = refl; journal = record { gateway = refl; slot = refl; generation = refl; halted = refl; disk = refl }; records = refl })

pub returns-in-Err-clause-records : goal.returns-in-Err-clause-records
returns-in-Err-clause-records g c = sym (append-nil c.args.records.now)

pub returns-in-Err-clause-can : goal.returns-in-Err-clause-can
returns-in-Err-clause-can g c = (c.prepare.ensures.aside c.args.aside.now c.requires).0

pub returns-in-Err-clause-back : goal.returns-in-Err-clause-back
returns-in-Err-clause-back g c = (c.prepare.ensures.aside c.args.aside.now c.requires).1

-- ---- no memory for the answer, for what lies aside, or for the record

pub answer_taken-requires-clause-can : goal.answer_taken-requires-clause-can
answer_taken-requires-clause-can g c = (c.prepare.ensures.aside c.args.aside.now c.requires).0

pub returns-in_default-clause-records : goal.returns-in_default-clause-records
returns-in_default-clause-records g c = c.in_default.ensures.err ∙ sym (append-nil c.args.records.now)

pub returns-in_default-clause-back : goal.returns-in_default-clause-back
returns-in_default-clause-back g c = c.answer_taken.ensures.back ∙ (c.prepare.ensures.aside c.args.aside.now c.requires).1

-- ---- the delta is taken

pub returns-clause-call : goal.returns-clause-call
returns-clause-call g c = (
  c.in-Ok-answer_taken.ensures.answer,
  record {
    config = refl;
    records = refl;
    journal = record { gateway = refl; slot = refl; generation = refl; halted = refl; disk = refl };
    is_delta = c.prepare.ensures.delta;
    fits = c.in-Ok.ensures.fits;
    kept = subst (λ (kept : List Op). IsKeptOf (g.R.Replica.kept c.args.node.now.replica ++ c.args.delta.now) kept) (sym c.commit.ensures.kept) c.in-Ok.ensures.taken;
    local = c.keep_owned.ensures.dropped;
  },
)

pub returns-clause-can : goal.returns-clause-can
returns-clause-can g c = (c.commit.ensures.aside c.answer_taken.new.aside c.in-Ok-answer_taken.ensures.saved c.answer_taken.ensures.can).0

pub returns-clause-back : goal.returns-clause-back
returns-clause-back g c =
    (c.commit.ensures.aside c.answer_taken.new.aside c.in-Ok-answer_taken.ensures.saved c.answer_taken.ensures.can).1 ∙ c.answer_taken.ensures.back
    ∙ (c.prepare.ensures.aside c.args.aside.now c.requires).1
