-- Whether anything is kept of a client.
use Rattle.std.proofs.Common.{◌≡◌, ℕ, ◌+◌, true, false, not, ◌==◌, ◌||◌, List, [], ◌∷◌, ◌++◌, map, length, refl, sym, ap, ◌∙◌, arith}
use Rattle.std.specs.List.{list_any}
use Rattle.std.proofs.lemmas.Bool.Decides.{nat_tests}
use Rattle.sn_session.specs.declared.change.SessionOp.{SessionOp}
use Rattle.rep_op.specs.declared.op.Stamp.{Stamp}
use Rattle.rep_op.specs.declared.op.Put.{Put}
use Rattle.rep_op.specs.declared.op.Op.{Op}
use Rattle.rep_shared.specs.Rows.{has_any}
use Rattle.rep_entry.specs.declared.entry.Entry.{Entry}
use Rattle.rep_log.specs.Origins.{ranges_in}
use Rattle.rep_log.specs.Kept.{of_log, of_mail, of_acks}
use Rattle.rep_entry.specs.Entries.{entry_row}
use Rattle.rep_log.proofs.Ranges.{acks_both}

any_both : (a b : List Op) → has_any (a ++ b) ≡ (has_any a || has_any b)
any_both [] b = refl
any_both (x ∷ a) b = refl

some_length : {A : Type 0} (x : A) (xs : List A) → not (length (x ∷ xs) == 0) ≡ true
some_length x xs = let e : (length (x ∷ xs) == 0) ≡ false = grind (arith, nat_tests) in ap not e

any_log : (c : List ℕ) (es : List ((Stamp × ℕ) × SessionOp)) → has_any (of_log c es) ≡ not (length es == 0)
any_log c [] = refl
any_log c (e ∷ es) = sym (some_length e es)

any_mail : (c : List ℕ) (ps : List Put) → has_any (of_mail c ps) ≡ not (length ps == 0)
any_mail c [] = refl
any_mail c (p ∷ ps) = sym (some_length p ps)

any_origin : (c : List ℕ) (o : ℕ) (rs : List (ℕ × ℕ)) → has_any (of_acks c (map (λ r. (o, r)) rs)) ≡ not (length rs == 0)
any_origin c o [] = refl
any_origin c o (r ∷ rs) = sym (some_length r rs)

any_acks : (c : List ℕ) (os : List (ℕ × List (ℕ × ℕ))) → has_any (of_acks c (ranges_in os)) ≡ list_any (λ (o : ℕ × List (ℕ × ℕ)). not (length o.1 == 0)) os
any_acks c [] = refl
any_acks c (o ∷ os) = ap has_any (acks_both c (map (λ r. (o.0, r)) o.1) (ranges_in os)) ∙ any_both (of_acks c (map (λ r. (o.0, r)) o.1)) (of_acks c (ranges_in os)) ∙ (λ i. any_origin c o.0 o.1 i || any_acks c os i)

pub any_row : (c : List ℕ) (e : Entry) → has_any (entry_row c e) ≡ (not (length e.known == 0) || (not (length e.seen.pending == 0) || list_any (λ (o : ℕ × List (ℕ × ℕ)). not (length o.1 == 0)) e.acks))
any_row c e =
    any_both (of_log c e.known) (of_mail c e.seen.pending ++ of_acks c (ranges_in e.acks))
    ∙ (λ i. any_log c e.known i || (any_both (of_mail c e.seen.pending) (of_acks c (ranges_in e.acks)) ∙ (λ j. any_mail c e.seen.pending j || any_acks c e.acks j)) i)
