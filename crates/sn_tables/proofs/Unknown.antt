-- a table of which the client knows nothing any more is a table
use Rattle.std.proofs.Common.{◌≡◌, ℕ, zero, suc, ◌<◌, ◌≤◌, Bool, List, [], ◌∷◌, ◌++◌, length, map, take, drop, get_or, set, ◌&&◌, refl, ap, arith}
use Rattle.std.proofs.lemmas.List.{take_all, drop_all, append-nil}
use Rattle.std.specs.Ordering.{is_lt}
use Rattle.sn_tables.specs.declared.topics.TopicEntry.{TopicEntry}
use Rattle.sn_tables.specs.Topics.{topic_cmp, unknown}
use Rattle.sn_tables.specs.Tables.{IsTable, is_ascending}

pub unknown_ascending : (xs : List TopicEntry) → is_ascending topic_cmp (map unknown xs) ≡ is_ascending topic_cmp xs
unknown_ascending [] = refl
unknown_ascending (a ∷ []) = refl
unknown_ascending (a ∷ b ∷ rest) = ap (λ t. is_lt (topic_cmp a b) && t) (unknown_ascending (b ∷ rest))

pub unknown_length : (xs : List TopicEntry) → length (map unknown xs) ≡ length xs
unknown_length [] = refl
unknown_length (a ∷ rest) = ap suc (unknown_length rest)

pub unknown_table : (xs : List TopicEntry) → IsTable topic_cmp xs → IsTable topic_cmp (map unknown xs)
unknown_table xs h = rw (unknown_ascending xs, unknown_length xs) h

-- one entry more is unknown
pub unknown_next : (old : List TopicEntry) (i : ℕ) (d : TopicEntry) → i < length old →
    set (map unknown (take i old) ++ drop i old) i (unknown (get_or (map unknown (take i old) ++ drop i old) i d)) ≡ map unknown (take (suc i) old) ++ drop (suc i) old
unknown_next [] i d lt = absurd (omega arith)
unknown_next (x ∷ rest) zero d lt = refl
unknown_next (x ∷ rest) (suc i) d lt = ap (λ xs. unknown x ∷ xs) (unknown_next rest i d (omega arith))

-- after the last entry all are unknown
pub all_unknown : (old : List TopicEntry) (i : ℕ) → length old ≤ i → map unknown (take i old) ++ drop i old ≡ map unknown old
all_unknown old i le = rw (take_all i old le, drop_all i old le) (append-nil (map unknown old))
