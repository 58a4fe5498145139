-- Messages that wait are there.
use Rattle.std.proofs.Common.{◌≡◌, ℕ, ◌==◌, Bool, true, false, cond, not, ◌||◌, if◌then◌else◌, List, [], ◌∷◌, map, Some, None, is_some, refl, sym, ap, ◌∙◌, true≢false, eqb-true, le_antisymm, is_eq}
use Rattle.std.specs.List.{filter_map, cons_option}
use Rattle.std.specs.Ordering.{eq_by_cmp}
use Rattle.std.specs.FinMap.{find}
use Rattle.std.proofs.lemmas.Cmp.{tied_itself}
use Rattle.rep_op.specs.declared.op.Put.{Put}
use Rattle.rep_op.specs.declared.op.Op.{Op}
use Rattle.rep_op.specs.Orders.{put_cmp}
use Rattle.rep_op.specs.Sets.{put_at, is_acknowledged}
use Rattle.rep_model.specs.Views.{pending}
use Rattle.rep_model.specs.Ranges.{is_within, in_ranges}
use Rattle.rep_model.proofs.Readers.{put_total}
use Rattle.rep_model.proofs.Thin.{kept_some, pending_at-reads}
use Rattle.rep_model.proofs.Waiting.{AreUnderNames, waiting_entries, waiting_under, waiting_found}
use Rattle.rep_model.proofs.Ranges.{within-parts, in-joined}
use Rattle.rep_digest.specs.Digests.{number_as_range, waiting}

-- one of the two holds
pub by_or : {P : Type 0} (x y : Bool) → (x || y) ≡ true → (x ≡ true → P) → (y ≡ true → P) → P
by_or true y e f g = f refl
by_or false y e f g = g e

number_found : (seq origin : ℕ) (es : List ((ℕ × ℕ) × Put)) → AreUnderNames es → in_ranges seq (filter_map (number_as_range origin) (map (λ e. e.1) es)) ≡ true → is_some (find put_cmp (seq, origin) es) ≡ true
number_found seq origin [] all e = absurd (true≢false (sym e))
number_found seq origin (e ∷ es) all h =
    let rest = filter_map (number_as_range origin) (map (λ e. e.1) es) in
    let more = number_found seq origin es all.1 in
    elim (eq_by_cmp put_cmp (seq, origin) e.0) as (λ b. eq_by_cmp put_cmp (seq, origin) e.0 ≡ b → is_some (cond b (Some e.1) (find put_cmp (seq, origin) es)) ≡ true) [
      | true ↦ λ _. refl
      | false ↦ λ apart. elim (origin == e.1.origin) as (λ t. (origin == e.1.origin) ≡ t → in_ranges seq (cons_option (if t then Some (e.1.seq, e.1.seq) else None) rest) ≡ true → is_some (find put_cmp (seq, origin) es) ≡ true) [
        | true ↦ λ own k. by_or (is_within seq (e.1.seq, e.1.seq)) (in_ranges seq rest) k
            (λ within.
            let w = within-parts seq (e.1.seq, e.1.seq) within in
            let number : seq ≡ e.1.seq = le_antisymm w.1 w.0 in
            let name : (seq, origin) ≡ e.0 = (λ i. (number i, eqb-true origin e.1.origin own i)) ∙ sym all.0 in
            absurd (true≢false (sym (ap is_eq (tied_itself put_total (seq, origin))) ∙ ap (λ x. eq_by_cmp put_cmp (seq, origin) x) name ∙ apart)))
            more
        | false ↦ λ _ k. more k
      ] refl h
    ] refl

pub waiting_there : (c : List ℕ) (origin seq : ℕ) (T : List Op) → in_ranges seq (waiting c origin T) ≡ true → is_some (put_at c T (seq, origin)) ≡ true
waiting_there c origin seq T e =
    let found = number_found seq origin (waiting_entries c T) (waiting_under c T) (sym (in-joined seq (filter_map (number_as_range origin) (pending c T))) ∙ e) in
    kept_some (not (is_acknowledged c T (seq, origin))) (put_at c T (seq, origin)) (ap is_some (sym (waiting_found c T (seq, origin) ∙ pending_at-reads c T (seq, origin))) ∙ found)
