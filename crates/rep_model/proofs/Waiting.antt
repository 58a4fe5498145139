-- The messages that wait for a client, under their names.
use Rattle.std.proofs.Common.{◌≡◌, ℕ, Bool, true, false, cond, not, T, if◌then◌else◌, List, [], ◌∷◌, filter, Some, None, refl, sym, ◌∙◌, Less, Equal, Greater}
use Rattle.std.specs.List.{cons_option, AllByRecursion}
use Rattle.std.specs.FinMap.{find}
use Rattle.std.specs.FinMap.Entries.{by_order, put, is_sorted}
use Rattle.rep_op.specs.declared.op.Put.{Put}
use Rattle.rep_op.specs.declared.op.Op.{Op}
use Rattle.rep_op.specs.declared.op.Op.TheVariants.{Session as OfSession, Put as OfPut, Ack, Retain as OfRetain}
use Rattle.rep_op.specs.Orders.{put_cmp}
use Rattle.rep_op.specs.Sets.{same_client, puts, is_acknowledged}
use Rattle.rep_model.specs.Views.{unacknowledged, pending_at, in_order}
use Rattle.rep_model.proofs.Lookup.{find-in_order, is_sorted-in_order}
use Rattle.rep_model.proofs.Readers.{put_total, put_exact}

-- the entry stands under the name of its message
abbrev pub IsUnderName : (ℕ × ℕ) × Put → Type 0
IsUnderName e = e.0 ≡ (e.1.seq, e.1.origin)

abbrev pub AreUnderNames : List ((ℕ × ℕ) × Put) → Type 0
AreUnderNames es = AllByRecursion IsUnderName es

put_under : (k : ℕ × ℕ) (v : Put) (es : List ((ℕ × ℕ) × Put)) → k ≡ (v.seq, v.origin) → AreUnderNames es → AreUnderNames (put put_cmp k v es)
put_under k v [] is all = (is, tt)
put_under k v (e ∷ es) is all =
    elim (put_cmp k e.0) as (λ o. put_cmp k e.0 ≡ o → AreUnderNames (by_order o ((k, v) ∷ e ∷ es) ((e.0, v) ∷ es) (e ∷ put put_cmp k v es))) [
      | Less ↦ λ _. (is, all)
      | Equal ↦ λ t. (sym (put_exact k e.0 t) ∙ is, all.1)
      | Greater ↦ λ _. (all.0, put_under k v es is all.1)
    ] refl

in_order_under : (es : List ((ℕ × ℕ) × Put)) → AreUnderNames es → AreUnderNames (in_order put_cmp es)
in_order_under [] all = tt
in_order_under (e ∷ es) all = put_under e.0 e.1 (in_order put_cmp es) all.0 (in_order_under es all.1)

kept_under : (b : Bool) (e : (ℕ × ℕ) × Put) (es : List ((ℕ × ℕ) × Put)) → e.0 ≡ (e.1.seq, e.1.origin) → AreUnderNames es → AreUnderNames (cond b (e ∷ es) es)
kept_under true e es is all = (is, all)
kept_under false e es is all = all

filter_under : (test : (ℕ × ℕ) × Put → Bool) (es : List ((ℕ × ℕ) × Put)) → AreUnderNames es → AreUnderNames (filter test es)
filter_under test [] all = tt
filter_under test (e ∷ es) all = kept_under (test e) e (filter test es) all.0 (filter_under test es all.1)

puts_under : (c : List ℕ) (S : List Op) → AreUnderNames (puts c S)
puts_under c [] = tt
puts_under c (OfSession d stamp counter change ∷ S) = puts_under c S
puts_under c (OfPut d p ∷ S) =
    elim (same_client c d) as (λ b. AreUnderNames (cons_option (if b then Some ((p.seq, p.origin), p) else None) (puts c S))) [
      | true ↦ (refl, puts_under c S)
      | false ↦ puts_under c S
    ]
puts_under c (Ack d origin first last ∷ S) = puts_under c S
puts_under c (OfRetain t k ∷ S) = puts_under c S

-- what waits for the client, under names
abbrev pub waiting_entries : List ℕ → List Op → List ((ℕ × ℕ) × Put)
waiting_entries c S = in_order put_cmp (unacknowledged c S)

pub waiting_under : (c : List ℕ) (S : List Op) → AreUnderNames (waiting_entries c S)
waiting_under c S = in_order_under (unacknowledged c S) (filter_under (λ e. not (is_acknowledged c S e.0)) (puts c S) (puts_under c S))

pub waiting_sorted : (c : List ℕ) (S : List Op) → T (is_sorted put_cmp (waiting_entries c S))
waiting_sorted c S = is_sorted-in_order put_cmp put_total (unacknowledged c S)

pub waiting_found : (c : List ℕ) (S : List Op) (name : ℕ × ℕ) → find put_cmp name (waiting_entries c S) ≡ pending_at c S name
waiting_found c S name = find-in_order put_cmp put_total name (unacknowledged c S)
