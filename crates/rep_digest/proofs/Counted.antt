-- What counts as a set has its digest.
use Rattle.std.proofs.Common.{◌≡◌, ℕ, List, map, filter, length}
use Rattle.rep_op.specs.declared.op.Op.{Op}
use Rattle.rep_model.specs.Views.{visible, history}
use Rattle.rep_model.specs.Keep.{CountsAs}
use Rattle.rep_model.proofs.Thin.{visible-thin, history-thin}
use Rattle.rep_model.proofs.Joins.{same_by_counts}
use Rattle.rep_model.proofs.Limits.{pending-counts, acknowledged-counts}
use Rattle.rep_model.proofs.Named.{clients-counts}
use Rattle.rep_digest.specs.Digests.{number_as_range, origin_entry, has_ranges, numbers_from, origin_entries, client_entry, client_entries, digest}
use Rattle.rep_model.specs.Limits.{joined}
use Rattle.std.specs.List.{filter_map}
use Rattle.rep_digest.proofs.Retaining.{topics_counted}

module _ (S K : List Op) (h : CountsAs S K) where
  same_origin : (c : List ℕ) (origin : ℕ) → origin_entry c K origin ≡ origin_entry c S origin
  same_origin c origin = λ i. record {
    origin = origin;
    acknowledged = acknowledged-counts c origin S K h i;
    waiting = joined (filter_map (number_as_range origin) (pending-counts c S K h i));
  }

  same_origins : (c : List ℕ) → origin_entries c K ≡ origin_entries c S
  unfolding origin_entries
  same_origins c = λ i. filter has_ranges (map (λ origin. same_origin c origin i) (numbers_from 1 255))

  same_client_entry : (c : List ℕ) → client_entry K c ≡ client_entry S c
  same_client_entry c = λ i. record {
    client = c;
    stamp = same_by_counts (visible c) (λ N W t. visible-thin N W t c) S K h i;
    prefix = length (same_by_counts (history c) (λ N W t. history-thin N W t c) S K h i);
    origins = same_origins c i;
  }

  same_clients : client_entries K ≡ client_entries S
  same_clients = λ i. map (λ c. same_client_entry c i) (clients-counts S K h i)

  pub same_digest : digest K ≡ digest S
  same_digest = λ i. record { clients = same_clients i; topics = topics_counted S K h i }
