-- One put more in front of a list, and what ranges cover of it.
use Rattle.std.proofs.Common.{◌≡◌, ℕ, true, false, not, ◌&&◌, ◌||◌, ◌==◌, nat_le, if◌then◌else◌, List, [], ◌∷◌, map, filter, Some, None, refl, sym, ap, ◌∙◌, nat_eq}
use Rattle.std.specs.List.{filter_map, list_any, cons_option}
use Rattle.std.specs.Cmp.Lexicographic.{pointwise}
use Rattle.std.specs.BTreeMap.{insert_entry}
use Rattle.std.specs.FinMap.{put as place}
use Rattle.rep_op.specs.declared.op.Put.{Put}
use Rattle.rep_op.specs.declared.op.Op.{Op}
use Rattle.rep_op.specs.declared.op.Op.TheVariants.{Session as OfSession, Put as OfPut, Ack, Retain as OfRetain}
use Rattle.rep_op.specs.Orders.{put_cmp}
use Rattle.rep_op.specs.Sets.{same_client, puts, is_acknowledged}
use Rattle.rep_model.specs.Views.{in_order, pending}
use Rattle.rep_model.specs.Limits.{range_of}
use Rattle.rep_plain.specs.declared.ranges.Range.{Range}
use Rattle.rep_plain.specs.inner.Steps.{range_in, range_has, range_numbers, unacknowledged_by}
use Rattle.rep_shared.proofs.Maps.{insert_is_put}
use Rattle.rep_shared.proofs.Entering.{same_back}

pub entered_put : (c d : List ℕ) (p : Put) (op : Op) (ranges : List Range) (S : List Op) (es : List ((ℕ × ℕ) × Put)) → op ≡ OfPut d p → pointwise nat_eq d c ≡ true → list_any (range_has (p.seq, p.origin)) ranges ≡ false → es ≡ in_order put_cmp (unacknowledged_by ranges c S) → insert_entry put_cmp es (p.seq, p.origin) p ≡ in_order put_cmp (unacknowledged_by ranges c (op ∷ S))
entered_put c d p op ranges S es is same free h =
    insert_is_put put_cmp (p.seq, p.origin) p es
    ∙ ap (λ rest. place put_cmp (p.seq, p.origin) p rest) h
    ∙ sym (ap (λ o. in_order put_cmp (unacknowledged_by ranges c (o ∷ S))) is
    ∙ ap (λ b. in_order put_cmp (filter (λ e. not (list_any (range_has e.0) ranges)) (cons_option (if b then Some ((p.seq, p.origin), p) else None) (puts c S)))) (same_back c d same)
    ∙ ap (λ b. in_order put_cmp (if not b then ((p.seq, p.origin), p) ∷ unacknowledged_by ranges c S else unacknowledged_by ranges c S)) free)

-- the ranges of a list cover what the list acknowledges
pub covers_acknowledged : (c : List ℕ) (S : List Op) (name : ℕ × ℕ) → list_any (range_has name) (filter_map (range_in c) S) ≡ is_acknowledged c S name
covers_acknowledged c [] name = refl
covers_acknowledged c (OfSession d stamp counter change ∷ S) name = covers_acknowledged c S name
covers_acknowledged c (OfPut d p ∷ S) name = covers_acknowledged c S name
covers_acknowledged c (Ack d origin first last ∷ S) name =
    elim (same_client c d) as (λ b. list_any (range_has name) (cons_option (if b then Some (record { origin = origin; first = first; last = last }) else None) (filter_map (range_in c) S)) ≡ ((b && (name.1 == origin) && nat_le first name.0 && nat_le name.0 last) || is_acknowledged c S name)) [
      | true ↦ ap (λ rest. ((name.1 == origin) && nat_le first name.0 && nat_le name.0 last) || rest) (covers_acknowledged c S name)
      | false ↦ covers_acknowledged c S name
    ]
covers_acknowledged c (OfRetain t k ∷ S) name = covers_acknowledged c S name

-- what no range covers waits
pub waiting_is_pending : (c : List ℕ) (S : List Op) (ranges : List Range) → ranges ≡ filter_map (range_in c) S → map (λ e. e.1) (in_order put_cmp (unacknowledged_by ranges c S)) ≡ pending c S
waiting_is_pending c S ranges is =
    ap (λ rs. map (λ e. e.1) (in_order put_cmp (unacknowledged_by rs c S))) is
    ∙ (λ i. map (λ e. e.1) (in_order put_cmp (filter (λ e. not (covers_acknowledged c S e.0 i)) (puts c S))))

-- the ranges of an origin
pub numbers_acknowledged : (c : List ℕ) (S : List Op) (origin : ℕ) → filter_map (range_numbers origin) (filter_map (range_in c) S) ≡ filter_map (range_of c origin) S
numbers_acknowledged c [] origin = refl
numbers_acknowledged c (OfSession d stamp counter change ∷ S) origin = numbers_acknowledged c S origin
numbers_acknowledged c (OfPut d p ∷ S) origin = numbers_acknowledged c S origin
numbers_acknowledged c (Ack d o first last ∷ S) origin =
    elim (same_client c d) as (λ b. filter_map (range_numbers origin) (cons_option (if b then Some (record { origin = o; first = first; last = last }) else None) (filter_map (range_in c) S)) ≡ cons_option (if b && (origin == o) && nat_le first last then Some (first, last) else None) (filter_map (range_of c origin) S)) [
      | true ↦ ap (λ rest. cons_option (if (origin == o) && nat_le first last then Some (first, last) else None) rest) (numbers_acknowledged c S origin)
      | false ↦ numbers_acknowledged c S origin
    ]
numbers_acknowledged c (OfRetain t k ∷ S) origin = numbers_acknowledged c S origin
