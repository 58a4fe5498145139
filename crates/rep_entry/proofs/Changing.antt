-- What is staged of a client is what it is said to be.
use Rattle.std.proofs.Common.{◌≡◌, ℕ, List, length, Option, Some, None, T, sym, ap, ◌∙◌}
use Rattle.std.specs.FinMap.{is_sorted}
use Rattle.rep_op.specs.declared.op.Put.{Put}
use Rattle.rep_op.specs.Orders.{operation_cmp}
use Rattle.rep_model.specs.Limits.{parked, exceptions}
use Rattle.rep_shared.specs.Steps.{capped}
use Rattle.rep_log.specs.declared.log.Log.{Log}
use Rattle.rep_entry.specs.declared.entry.Entry.{Entry}
use Rattle.rep_log.specs.Logs.{IsFolded, all_in_log, known_on}
use Rattle.rep_log.specs.Origins.{ranges_in, AreOrigins, origins_after, ranges_on}
use Rattle.rep_entry.specs.Entries.{AreChanges, IsEntry, whole_after, base_of, left_on, row_on}
use Rattle.rep_entry.specs.Staging.{IsLogFit, AreAcksFit}
use Rattle.rep_entry.specs.inner.Entries.{parked_on, exceptions_on, HasLogRoom}
use Rattle.rep_entry.proofs.Counts.{parked_row, exceptions_row}

module _ (c : List ℕ) (e : Entry) (h : IsEntry c e) where
  pub log_fits : (log : Option Log) (room : ℕ) → IsFolded (whole_after e log) → T (is_sorted operation_cmp (known_on e.known log)) → AreChanges (known_on e.known log) → HasLogRoom e.known log room → IsLogFit e.known log room
  log_fits None room folded ordered changes more = tt
  log_fits (Some log) room folded ordered changes more = (folded, ordered, changes, more)

  pub acks_fit : (acks : Option (List (ℕ × List (ℕ × ℕ)))) → AreOrigins (origins_after e.acks acks) → AreAcksFit acks
  acks_fit None origins = tt
  acks_fit (Some acks) origins = origins

  -- the counts are those of what is kept
  pub parked_fit : (log : Option Log) (news : List Put) (acks : Option (List (ℕ × List (ℕ × ℕ)))) → IsFolded (whole_after e log) → T (is_sorted operation_cmp (known_on e.known log)) → parked_on e log ≡ length (parked c (row_on c (base_of e) log news acks))
  parked_fit None news acks folded ordered =
      h.parked
      ∙ sym (parked_row c e.known e.seen.pending (ranges_in e.acks) e.seen.stamp e.seen.prefix e.seen.session h.folded h.ordered)
      ∙ parked_row c e.known (left_on (base_of e) news acks) (ranges_on (ranges_in e.acks) acks) e.seen.stamp e.seen.prefix e.seen.session h.folded h.ordered
  parked_fit (Some log) news acks folded ordered =
      parked_row c (all_in_log e.known log) (left_on (base_of e) news acks) (ranges_on (ranges_in e.acks) acks) log.stamp log.prefix log.session folded ordered

  pub exceptions_fit : (log : Option Log) (news : List Put) (acks : Option (List (ℕ × List (ℕ × ℕ)))) → AreOrigins (origins_after e.acks acks) → exceptions_on e acks ≡ capped (exceptions c (row_on c (base_of e) log news acks))
  exceptions_fit log news None origins =
      h.exceptions
      ∙ ap capped (sym (exceptions_row c e.known e.seen.pending e.acks h.origins) ∙ exceptions_row c (known_on e.known log) (left_on (base_of e) news None) e.acks h.origins)
  exceptions_fit log news (Some acks) origins = ap capped (exceptions_row c (known_on e.known log) (left_on (base_of e) news (Some acks)) acks origins)
