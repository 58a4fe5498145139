-- One more record, and all of them.
use Rattle.std.proofs.Common.{List, refl, subst, take_all}
use Rattle.std.proofs.lemmas.Option.{slice_get_read}
use Rattle.rep_op.specs.declared.op.Op.{Op}
use Rattle.rep_ops.specs.Splitting.{all_of}
use Rattle.rep_model.specs.Keep.{CountsAs}
use Rattle.jr_read.proofs.Taken.{counts_none, counts_more}
use Rattle.jr_read.proofs.folding.take_all.Goals as goal

pub loop-before-init : goal.loop-before-init
loop-before-init g c = counts_none (g.R.Replica.kept c.args.replica.now) c.requires

pub loop-before-preserved : goal.loop-before-preserved
loop-before-preserved g c =
    counts_more c.args.records.now c.loop-before.before c.index-records-before.result (g.R.Replica.kept c.loop-before.replica) (g.R.Replica.after c.prepare.new.self c.in-Ok.staged) (g.R.Replica.kept c.commit.new.self) c.loop-before-test.true c.index-records-before.is c.loop-before.invariant c.in-Ok.ensures.taken c.commit.ensures.kept

pub returns-in-Err-clause-err : goal.returns-in-Err-clause-err
returns-in-Err-clause-err g c = record {
  delta = c.index-records-before.result;
  delta_is = slice_get_read c.args.records.now _ c.loop-before.before c.index-records-before.result refl c.loop-before-test.true c.index-records-before.is;
  kept = g.R.Replica.kept c.loop-before.replica;
  counts = c.loop-before.invariant;
  fault = c.in-Err.ensures.fault;
}

pub returns-clause-ok : goal.returns-clause-ok
returns-clause-ok g c =
    subst (λ (ds : List (List Op)). CountsAs (all_of ds) (g.R.Replica.kept c.loop-before.replica)) (take_all c.loop-before.before c.args.records.now c.loop-before-test.false) c.loop-before.invariant
