use Rattle.std.proofs.Common.{◌++◌, arith, subst}
use Rattle.rep_write.specs.Writing.{Writes}
use Rattle.rep_ops.specs.Spelling.{spelled_in, version_of}
use Rattle.rep_ops.proofs.Sizes.{length_ops}
use Rattle.rep_ops.proofs.write.write_delta.Goals as goal

pub write_text-requires-clause-few : goal.write_text-requires-clause-few
write_text-requires-clause-few c = let few = length_ops (version_of c.args.ops.now) c.args.ops.now in let size = c.requires.size in omega arith

pub returns : goal.returns
returns c = subst (λ v. Writes (spelled_in v c.args.ops.now) c.args.out.now.items c.write_text.new.out.items c.write_text.result) c.version_of.ensures c.write_text.ensures
