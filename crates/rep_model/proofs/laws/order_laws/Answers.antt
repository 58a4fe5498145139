use Rattle.rep_model.proofs.laws.order_laws.Goals as goal
use Rattle.rep_model.proofs.Thin.{thin-same, view-thin}
use Rattle.rep_model.proofs.Joins.{same-elements}
use Rattle.rep_model.proofs.Agreeing.{consistent-elements}
use Rattle.rep_model.proofs.Fresh.{next_epoch-thin, next_seq-thin}
use Rattle.rep_model.proofs.Named.{is_named-thin, clients-thin}
use Rattle.rep_model.proofs.Topics.{all_retained-thin, next_clock-thin}
use Rattle.rep_model.proofs.Limits.{first_passed-thin}

pub returns : goal.returns
returns c = record {
  elements = λ A B k h. same-elements A B k (λ op. (h op).0) (λ op. (h op).1);
  consistent = λ A B k h. consistent-elements A B k (λ op. (h op).0) (λ op. (h op).1);
  seen = λ c A B s. view-thin A B (thin-same A B s) c;
  named = λ c A B s. is_named-thin c A B (thin-same A B s);
  clients = λ A B s. clients-thin A B (thin-same A B s);
  epoch = λ c A B s. next_epoch-thin A B (thin-same A B s) c;
  retained = λ A B s. all_retained-thin A B (thin-same A B s);
  clock = λ t A B s. next_clock-thin t A B (thin-same A B s);
  seq = λ c gateway A B s. next_seq-thin c gateway A B (thin-same A B s);
  limit = λ A B s. first_passed-thin A B (thin-same A B s);
}
