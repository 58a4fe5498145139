-- Where it is refused.
use Rattle.std.proofs.Common.{refl}
use Rattle.std.proofs.lemmas.Result.{err_from_is_err_and}
use Rattle.gw_node.specs.Parts.{state_of}
use Rattle.gw_node.proofs.Reopened.{wanting, given_back}
use Rattle.gw_node.proofs.rewriting.handle_reopen.Goals as goal

pub returns-in_default : goal.returns-in_default
returns-in_default g c = (tt, wanting (state_of g.R.Replica.kept c.args.node.now))

pub returns-in_err-answer : goal.returns-in_err-answer
returns-in_err-answer g c =
    let p = err_from_is_err_and c.from_residual.result c.from_residual.ensures.1 in
    rw (p.1, p.2) (tt, wanting (state_of g.R.Replica.kept c.args.node.now))

pub returns-in-Err-refill : goal.returns-in-Err-refill
returns-in-Err-refill g c =
    given_back (state_of g.R.Replica.kept c.args.node.now)
    (record { config = c.args.node.now.config; kept = g.R.Replica.kept c.args.node.now.replica; local = c.args.node.now.dialogs.local; journal = c.reopen.new.self; records = c.args.node.now.records })
    (state_of g.R.Replica.kept c.refill.new.node)
    c.in-Ok-reopen.deltas.items c.is_halted-halted.result c.in-Err-refill.refusal c.is_halted-halted.ensures
    (record {
      config = refl;
      records = refl;
      kept = refl;
      local = refl;
      gateway = c.in-Ok-reopen.ensures.same;
      runs = c.in-Ok-reopen.ensures.starts;
      failures = c.in-Ok-reopen.ensures.counts;
      starved = c.in-Ok-reopen.ensures.starved;
      found = c.in-Ok-reopen.ensures.records;
      sound = c.in-Ok-reopen.ensures.found;
      known = c.in-Ok-reopen.ensures.known;
      durable = c.in-Ok-reopen.ensures.durable;
      quiet = λ honest fed quiet. (c.in-Ok-reopen.ensures.quiet honest fed quiet).1;
    })
    c.in-Err-refill.ensures
