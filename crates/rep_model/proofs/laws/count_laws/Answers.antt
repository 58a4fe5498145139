use Rattle.rep_model.proofs.laws.count_laws.Goals as goal
use Rattle.rep_model.proofs.Joins.{counts-refl, counts-join, view-counts}
use Rattle.rep_model.proofs.Fresh.{next_epoch-counts, next_seq-counts}
use Rattle.rep_model.proofs.Named.{is_named-counts, clients-counts}
use Rattle.rep_model.proofs.Topics.{all_retained-counts, retained_matching-counts, next_clock-counts}
use Rattle.rep_model.proofs.Limits.{first_passed-counts, first_passed-more}

pub returns : goal.returns
returns c = record {
  itself = counts-refl;
  taken = counts-join;
  seen = view-counts;
  named = is_named-counts;
  clients = clients-counts;
  epoch = next_epoch-counts;
  retained = all_retained-counts;
  matching = retained_matching-counts;
  clock = next_clock-counts;
  seq = next_seq-counts;
  limit = first_passed-counts;
  limit_with_more = first_passed-more;
}
