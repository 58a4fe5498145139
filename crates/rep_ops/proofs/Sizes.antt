-- How long a part of a spelling is.
use Rattle.std.proofs.Common.{◌≡◌, ℕ, ◌+◌, ◌*◌, ◌<◌, ◌≤◌, Bool, true, false, List, [], ◌∷◌, ◌++◌, length, take, get_or, refl, sym, ap, subst, ◌∙◌, inl, inr, arith}
use Rattle.byteorder.specs.Endian.{big_bytes}
use Rattle.std.specs.Prelude.{◌||◌}
use Rattle.std.specs.List.{flat_map, list_any}
use Rattle.std.proofs.lemmas.Bool.{cases_Bool}
use Rattle.std.proofs.lemmas.Grind.{flat_map-append}
use Rattle.std.proofs.lemmas.List.{length-append, append-nil}
use Rattle.std.proofs.lemmas.List.Folds.{length-flat_map-take, list_any-append}
use Rattle.rep_op.specs.declared.op.Put.{Put}
use Rattle.rep_op.specs.declared.op.Op.{Op}
use Rattle.rep_op.specs.declared.op.Op.TheVariants.{Session as OfSession, Put as OfPut, Ack, Retain as OfRetain}
use Rattle.rep_op.specs.declared.version.Version.{Version}
use Rattle.rep_op.specs.declared.version.Version.TheVariants.{One, Two}
use Rattle.rep_op.specs.Versions.{needs_two}
use Rattle.rep_op.specs.Spelling.{later_octets, op_octets}
use Rattle.rep_ops.specs.Spelling.{spelled_in, version_of, delta_spelling}
use Rattle.rep_ops.proofs.Versions.{is_one, is_two}

some_octet : (version : Version) (op : Op) → 1 ≤ length (op_octets version op)
some_octet version (OfSession c s i o) = omega arith
some_octet version (OfPut c p) = omega arith
some_octet version (Ack c r f l) = omega arith
some_octet version (OfRetain t k) = omega arith

pub length_more : (version : Version) (ops : List Op) (i : ℕ) (op : Op) → i < length ops → op ≡ get_or ops i op
    → length (flat_map (op_octets version) (take i ops)) + length (op_octets version op) ≤ length (flat_map (op_octets version) ops)
length_more version ops i op lt e = rw e (length-flat_map-take (op_octets version) ops i op lt)

-- an operation is spelled in one octet at least
pub length_ops : (version : Version) (ops : List Op) → length ops ≤ length (flat_map (op_octets version) ops)
length_ops version [] = omega arith
length_ops version (op ∷ rest) =
    let more = length_ops version rest in
    let one = some_octet version op in
    let sum = length-append (op_octets version op) (flat_map (op_octets version) rest) in
    omega arith

-- each id is two octets
pub length_ids : (ids : List ℕ) → length (flat_map (big_bytes 2) ids) ≡ 2 * length ids
length_ids [] = refl
length_ids (id ∷ ids) = let rest = length_ids ids in omega arith

-- ---- the octets of operations by each version

pub octets_in : Version → List Op → ℕ
octets_in version ops = length (flat_map (op_octets version) ops)

pub spelled : (version : Version) (ops : List Op) → length (spelled_in version ops) ≡ 5 + octets_in version ops
unfolding octets_in
spelled version ops = omega arith

octets_append : (version : Version) (a b : List Op) → octets_in version (a ++ b) ≡ octets_in version a + octets_in version b
unfolding octets_in
octets_append version a b = ap length (flat_map-append (op_octets version) a b) ∙ length-append (flat_map (op_octets version) a) (flat_map (op_octets version) b)

pub octets_more : (version : Version) (ops : List Op) (op : Op) → octets_in version (ops ++ op ∷ []) ≡ octets_in version ops + length (op_octets version op)
unfolding octets_in
octets_more version ops op =
    octets_append version ops (op ∷ []) ∙ ap (λ (n : ℕ). octets_in version ops + n) (ap length (append-nil (op_octets version op)))

-- a message is 16 octets, its client, topic and body, and what version 2 says of it
put_length : (version : Version) (c : List ℕ) (p : Put)
    → length (op_octets version (OfPut c p)) ≡ 16 + length c + length p.topic + length p.body + length (later_octets version p.retain p.expires)
put_length version c p = simp length-append (omega arith)

-- version 2 spells an operation in no fewer octets than version 1, and in at most twice as many
record IsLonger (op : Op) : Type 0 where
  least : length (op_octets One op) ≤ length (op_octets Two op)
  most : length (op_octets Two op) ≤ 2 * length (op_octets One op)

is_longer : (op : Op) → IsLonger op
is_longer (OfSession c s i o) = record { least = omega arith; most = omega arith }
is_longer (OfPut c p) =
    let one = put_length One c p in
    let two = put_length Two c p in
    record { least = omega (arith, one, two); most = omega (arith, one, two) }
is_longer (Ack c r f l) = record { least = omega arith; most = omega arith }
is_longer (OfRetain t k) = record { least = omega arith; most = omega arith }

-- an operation is as long in both versions if what it is equal to is
pub as_long : (op other : Op) → op ≡ other → length (op_octets One other) ≡ length (op_octets Two other) → length (op_octets One op) ≡ length (op_octets Two op)
as_long op other e h = subst (λ (o : Op). length (op_octets One o) ≡ length (op_octets Two o)) (sym e) h

pub least_octets : (ops : List Op) → octets_in One ops ≤ octets_in Two ops
unfolding octets_in
least_octets [] = omega arith
least_octets (op ∷ rest) =
    let more = least_octets rest in
    let here = (is_longer op).least in
    let one = length-append (op_octets One op) (flat_map (op_octets One) rest) in
    let two = length-append (op_octets Two op) (flat_map (op_octets Two) rest) in
    omega (arith, more, here, one, two)

pub most_octets : (ops : List Op) → octets_in Two ops ≤ 2 * octets_in One ops
unfolding octets_in
most_octets [] = omega arith
most_octets (op ∷ rest) =
    let more = most_octets rest in
    let here = (is_longer op).most in
    let one = length-append (op_octets One op) (flat_map (op_octets One) rest) in
    let two = length-append (op_octets Two op) (flat_map (op_octets Two) rest) in
    omega (arith, more, here, one, two)

-- ---- the octets of a delta

pub spelled_two : (ops : List Op) → list_any needs_two ops ≡ true → length (delta_spelling ops) ≡ 5 + octets_in Two ops
spelled_two ops e = subst (λ (v : Version). length (spelled_in v ops) ≡ 5 + octets_in Two ops) (sym (is_two ops e)) (spelled Two ops)

pub spelled_one : (ops : List Op) → list_any needs_two ops ≡ false → length (delta_spelling ops) ≡ 5 + octets_in One ops
spelled_one ops e = subst (λ (v : Version). length (spelled_in v ops) ≡ 5 + octets_in One ops) (sym (is_one ops e)) (spelled One ops)

-- whatever the version, there is no fewer than version 1 needs
pub spelled_least : (ops : List Op) → 5 + octets_in One ops ≤ length (delta_spelling ops)
spelled_least ops =
    elim (cases_Bool (list_any needs_two ops)) [
      | inl two ↦ let size = spelled_two ops two in let least = least_octets ops in omega (arith, size, least)
      | inr none ↦ let size = spelled_one ops none in omega (arith, size)
    ]

any_front : (a b : Bool) → a ≡ true → (a || b) ≡ true
any_front a b e = rw e refl

-- more operations have no fewer octets
pub spelled_longer : (a b : List Op) → length (delta_spelling a) ≤ length (delta_spelling (a ++ b))
spelled_longer a b =
    elim (cases_Bool (list_any needs_two a)) [
      | inl two ↦
          let front = spelled_two a two in
          let needed : list_any needs_two (a ++ b) ≡ true = list_any-append needs_two a b ∙ any_front (list_any needs_two a) (list_any needs_two b) two in
          let whole = spelled_two (a ++ b) needed in
          let parts = octets_append Two a b in
          omega (arith, front, whole, parts)
      | inr none ↦
          let front = spelled_one a none in
          let whole = spelled_least (a ++ b) in
          let parts = octets_append One a b in
          omega (arith, front, whole, parts)
    ]
