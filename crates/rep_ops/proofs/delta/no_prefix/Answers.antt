use Rattle.std.proofs.Common.{arith}
use Rattle.std.proofs.lemmas.List.{length-append}
use Rattle.rep_ops.specs.Spelling.{delta_spelling}
use Rattle.rep_ops.proofs.Format.{fits_front, one_front, cut_off, more_behind}
use Rattle.rep_ops.proofs.delta.no_prefix.Goals as goal

pub returns-clause-free : goal.returns-clause-free
returns-clause-free c = λ a b x y da va la db vb lb e. one_front a b x y (fits_front a da va la) (fits_front b db vb lb) e

pub returns-clause-cut : goal.returns-clause-cut
returns-clause-cut c = λ d front rest dd vd ld e ne. cut_off d front rest (fits_front d dd vd ld) ld e ne

pub returns-clause-behind : goal.returns-clause-behind
returns-clause-behind c = λ d rest dd vd ne size. more_behind d rest (fits_front d dd vd (omega (arith, length-append (delta_spelling d) rest))) size ne
