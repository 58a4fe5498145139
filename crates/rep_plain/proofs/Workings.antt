-- What the operations of a client come to, found by way of their order and of ranges.
use Rattle.std.proofs.Common.{◌≡◌, ℕ, List, [], length, Option, sym, ap, ◌∙◌}
use Rattle.std.specs.List.{filter_map}
use Rattle.std.specs.FinMap.{find}
use Rattle.sn_session.specs.declared.change.SessionOp.{SessionOp}
use Rattle.rep_op.specs.declared.op.Stamp.{Stamp}
use Rattle.rep_op.specs.declared.op.Op.{Op}
use Rattle.rep_op.specs.Orders.{operation_cmp}
use Rattle.rep_op.specs.Sets.{operations}
use Rattle.rep_model.specs.Views.{view, unseen, visible, in_order, history, history_at}
use Rattle.rep_model.specs.Limits.{parked, joined, above_a_gap, sum_to, exceptions}
use Rattle.rep_model.proofs.Lookup.{find-in_order}
use Rattle.rep_model.proofs.Readers.{operation_total}
use Rattle.rep_plain.specs.declared.ranges.Range.{Range}
use Rattle.rep_plain.specs.declared.entry.Entry.{Entry}
use Rattle.rep_plain.specs.Entries.{IsWorkedOut}
use Rattle.rep_shared.specs.Steps.{capped}
use Rattle.rep_plain.specs.inner.Steps.{range_in, range_numbers, above_gaps}
use Rattle.rep_plain.proofs.Entering.{numbers_acknowledged}

-- the history that is read in the order of names is that of the list
pub history_in_order : (c : List ℕ) (S : List Op) (known : List ((Stamp × ℕ) × SessionOp)) (seen : Option Stamp) → known ≡ in_order operation_cmp (operations c S) → seen ≡ visible c S → history_at (λ name. find operation_cmp name known) seen ≡ history c S
history_in_order c S known seen k v =
    (λ i. history_at (λ name. find operation_cmp name (k i)) (v i))
    ∙ (λ i. history_at (λ name. find-in_order operation_cmp operation_total name (operations c S) i) (visible c S))

-- the ranges of the client have its exceptions
pub exceptions_of_ranges : (c : List ℕ) (S : List Op) (ranges : List Range) → ranges ≡ filter_map (range_in c) S → above_gaps ranges 255 ≡ exceptions c S
unfolding exceptions above_gaps
exceptions_of_ranges c S ranges is =
    ap (λ (rs : List Range). sum_to (λ origin. above_a_gap (joined (filter_map (range_numbers origin) rs))) 255) is
    ∙ (λ i. sum_to (λ origin. above_a_gap (joined (numbers_acknowledged c S origin i))) 255)

-- nothing comes to nothing
pub nothing_worked_out : (c : List ℕ) (entry : Entry) → entry.ops.items ≡ [] → entry.seen ≡ unseen → entry.parked ≡ 0 → entry.exceptions ≡ 0 → IsWorkedOut c entry
unfolding exceptions
nothing_worked_out c entry ops seen none no_exception = record {
  seen = seen ∙ sym (ap (view c) ops);
  parked = none ∙ sym (ap (λ S. length (parked c S)) ops);
  exceptions = no_exception ∙ sym (ap (λ S. capped (exceptions c S)) ops);
}
