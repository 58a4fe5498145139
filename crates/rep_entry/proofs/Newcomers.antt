-- New messages in the order of their names, each seen under its name.
use Rattle.std.proofs.Common.{◌≡◌, ℕ, zero, suc, List, [], ◌∷◌, T, refl, ap, subst, ◌∙◌}
use Rattle.std.specs.List.{insert}
use Rattle.std.specs.FinMap.{put as with, is_sorted}
use Rattle.sn_tables.specs.inner.Tables.{AllAbove, IsGap}
use Rattle.rep_op.specs.declared.op.Put.{Put}
use Rattle.rep_op.specs.Orders.{name_of, put_cmp}
use Rattle.rep_model.proofs.Readers.{put_total}
use Rattle.rep_log.specs.Mail.{named_puts, Rising}
use Rattle.rep_entry.specs.Entries.{AreUnderNames, messages}
use Rattle.rep_entry.proofs.Freshness.{rising_messages}
use Rattle.rep_log.proofs.Sorting.{put_gap}

under_names : (ps : List Put) → AreUnderNames (named_puts ps)
under_names [] = tt
under_names (p ∷ ps) = (refl, under_names ps)

pub messages_are : (ps : List Put) → messages (named_puts ps) ≡ ps
messages_are [] = refl
messages_are (p ∷ ps) = ap (λ rest. p ∷ rest) (messages_are ps)

pub rising_of : (ps : List Put) → T (is_sorted put_cmp (named_puts ps)) → Rising ps
rising_of ps h = subst Rising (messages_are ps) (rising_messages (named_puts ps) (under_names ps) h)

all_above : (q : ℕ × ℕ) (ps : List Put) → AllAbove (λ p. put_cmp (name_of p) q) ps → AllAbove (λ (e : (ℕ × ℕ) × Put). put_cmp e.0 q) (named_puts ps)
all_above q [] h = tt
all_above q (p ∷ ps) h = (h.0, all_above q ps h.1)

gap_named : (q : ℕ × ℕ) (ps : List Put) (i : ℕ) → IsGap (λ p. put_cmp (name_of p) q) ps i → IsGap (λ (e : (ℕ × ℕ) × Put). put_cmp e.0 q) (named_puts ps) i
gap_named q ps zero h = all_above q ps h
gap_named q [] (suc i) h = absurd h
gap_named q (p ∷ ps) (suc i) h = (h.0, gap_named q ps i h.1)

insert_named : (ps : List Put) (i : ℕ) (p : Put) → named_puts (insert ps i p) ≡ insert (named_puts ps) i (name_of p, p)
insert_named [] zero p = refl
insert_named [] (suc i) p = refl
insert_named (q ∷ ps) zero p = refl
insert_named (q ∷ ps) (suc i) p = ap (λ rest. (name_of q, q) ∷ rest) (insert_named ps i p)

-- a message goes to the gap for it
pub with_gap : (ps : List Put) (i : ℕ) (p : Put) → IsGap (λ q. put_cmp (name_of q) (name_of p)) ps i → named_puts (insert ps i p) ≡ with put_cmp (name_of p) p (named_puts ps)
with_gap ps i p h = insert_named ps i p ∙ put_gap put_cmp put_total (name_of p) p (named_puts ps) i (gap_named (name_of p) ps i h)
