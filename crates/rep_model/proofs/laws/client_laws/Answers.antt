use Rattle.rep_model.specs.Keep.{keep}
use Rattle.rep_model.proofs.laws.client_laws.Goals as goal
use Rattle.rep_model.proofs.Thin.{thin-keep}
use Rattle.rep_model.proofs.Named.{is_named-thin, clients-thin, clients-named, clients-ascend, unnamed-unseen, unnamed-next_epoch, unnamed-next_seq}

pub returns : goal.returns
returns c = record {
  named = λ c S. is_named-thin c (keep S) S (thin-keep S);
  kept = λ S. clients-thin (keep S) S (thin-keep S);
  listed = clients-named;
  ascending = clients-ascend;
  unseen = unnamed-unseen;
  first_epoch = unnamed-next_epoch;
  first_seq = λ c gateway S h. unnamed-next_seq c S h gateway;
}
