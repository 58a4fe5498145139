use Rattle.std.proofs.Common.{arith}
use Rattle.rep_digest.proofs.Format.{length_entries, writable}
use Rattle.rep_digest.proofs.write.write_clients.Goals as goal

pub overflow_cast-entries : goal.overflow_cast-entries
overflow_cast-entries c = let few = length_entries c.args.entries.now in let size = c.requires.size in omega arith

pub write_entries-requires : goal.write_entries-requires
write_entries-requires c = writable c.args.entries.now c.requires.clients c.requires.size
