use Rattle.gw_node.proofs.Roomy.{no_full, no_conflict}
use Rattle.gw_node.proofs.Started.{wants_memory}
use Rattle.gw_node.proofs.Beginning.{begins}
use Rattle.jr_journal.specs.Records.{records}
use Rattle.gw_node.proofs.laws.opening_laws.Goals as goal

pub returns : goal.returns
returns c = record {
  room = λ gateway S refused i h. no_full (records gateway i) h.roomy;
  agreement = λ gateway S refused i client h. no_conflict (records gateway i) h.proper client;
  memory = wants_memory;
  begins = begins;
}
