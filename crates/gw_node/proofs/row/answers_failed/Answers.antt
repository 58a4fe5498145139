use Rattle.std.proofs.Common.{◌<◌, arith, Result, Err, length, sym, subst, List}
use Rattle.gw_answer.specs.declared.out.Out.{Out}
use Rattle.gw_answer.specs.declared.refusal.Refusal.{Refusal}
use Rattle.gw_answer.specs.declared.refusal.Refusal.TheVariants as refusals
use Rattle.gw_node.proofs.Each.{first_excused, some_still}
use Rattle.gw_node.proofs.row.answers_failed.Goals as goal

-- there is a first one
pub index_mut-requires : goal.index_mut-requires
index_mut-requires c =
    let some : 0 < length c.halt_all.new.replies.items = subst (λ (xs : List (Result Out Refusal)). 0 < length xs) (sym c.halt_all.ensures) (some_still (λ (a : Result Out Refusal). Err refusals.Halted) c.args.replies.items c.requires) in
    omega (arith, some, c.halt_all.new.replies.ok)

pub returns : goal.returns
returns c = rw c.halt_all.ensures (first_excused c.args.excuse c.args.replies.items c.requires)
