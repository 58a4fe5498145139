-- A message in front of a stream, and the octets after it.
use Rattle.std.proofs.Common.{◌≡◌, ℕ, zero, suc, ◌+◌, ◌-◌, ◌<◌, ◌≤◌, ◌^◌, Bool, true, false, cond, not, ◌&&◌, ◌==◌, if◌then◌else◌, nat_le, List, [], ◌∷◌, ◌++◌, take, drop, length, get_or, Option, Some, None, Result, Ok, Err, refl, sym, ap, subst, ◌∙◌, arith, leb-true, le-leb, eqb-true, true≢false, append_assoc, append-nil}
use Rattle.std.specs.Prelude.{nat_lt, slice_index}
use Rattle.std.specs.Int.{w32, to_be_bytes}
use Rattle.std.specs.List.{flat_map, AllByRecursion}
use Rattle.std.proofs.lemmas.Bool.{cases_Bool, and_parts, eqb-false, ltb-false}
use Rattle.std.proofs.lemmas.List.{length-append, length-take, take-append-drop, drop_at}
use Rattle.std.proofs.lemmas.Grind.{flat_map-append}
use Rattle.byteorder.specs.Endian.{big_bytes}
use Rattle.rep_op.specs.declared.fault.OpsFault.{OpsFault}
use Rattle.rep_op.specs.declared.op.Op.{Op}
use Rattle.rep_ops.specs.Reading.{AreOctets, delta_reading}
use Rattle.rep_read.specs.Reading.{number_at}
use Rattle.rep_ops.specs.Spelling.{max_octets}
use Rattle.rep_read.proofs.Laws.{IsBytes, Taken, number_law, wide32}
use Rattle.rep_ops.proofs.Format.{read_spelled as delta_spelled}
use Rattle.rep_digest.specs.Digests.{Digested}
use Rattle.rep_digest.specs.Reading.{digest_reading}
use Rattle.rep_digest.proofs.Format.{read_spelled as digest_spelled}
use Rattle.gw_net.specs.declared.fault.LinkFault.{LinkFault}
use Rattle.gw_net.specs.declared.fault.LinkFault.TheVariants as faults
use Rattle.gw_net.specs.declared.message.LinkMessage.{LinkMessage}
use Rattle.gw_net.specs.declared.message.LinkMessage.TheVariants.{Hello, Digest as OfDigest, Delta as OfDelta}
use Rattle.gw_net.specs.Messages.{message_kind, body_of_message, message_spelling, IsLinkMessage, hello_at, read_or_none, message_at}
use Rattle.gw_net.specs.Streams.{Front, with_body, front_sized, front, EndsMessages, IsRead}

-- octets that begin with others
pub octets-right : (xs ys : List ℕ) → AreOctets (xs ++ ys) → AreOctets ys
octets-right [] ys h = h
octets-right (x ∷ xs) ys h = octets-right xs ys (λ i. h (suc i))

pub octets-left : (xs ys : List ℕ) → AreOctets (xs ++ ys) → AreOctets xs
octets-left [] ys h = λ i. omega arith
octets-left (x ∷ xs) ys h = λ i. elim i as (λ i. slice_index (x ∷ xs) i < 256) [ zero ↦ h zero | suc i ↦ octets-left xs ys (λ j. h (suc j)) i ]

-- the body of a kind that is a message
record IsBodyOf (kind : ℕ) (body : List ℕ) (m : LinkMessage) : Type 0 where
  message : IsLinkMessage m
  kind_is : kind ≡ message_kind m
  body_is : body ≡ body_of_message m

some_is : {X : Type 0} (x y : X) → Some x ≡ Some y → x ≡ y
some_is x y e = cc

none_some : {X : Type 0} (y : X) → None ≡ Some y → ⊥
none_some y e = cc

hello_body : (body : List ℕ) (m : LinkMessage) → AreOctets body → hello_at body ≡ Some m → IsBodyOf 1 body m
hello_body [] m octets e = absurd (none_some m e)
hello_body (g ∷ x ∷ rest) m octets e = absurd (none_some m e)
hello_body (g ∷ []) m octets e =
    elim (nat_le 1 g) as (λ b. nat_le 1 g ≡ b → (if b then Some (Hello g) else None) ≡ Some m → IsBodyOf 1 (g ∷ []) m) [
      | true ↦ λ t s. subst (λ (x : LinkMessage). IsBodyOf 1 (g ∷ []) x) (some_is (Hello g) m s) (record { message = (leb-true 1 g t, octets zero); kind_is = refl; body_is = refl })
      | false ↦ λ _ s. absurd (none_some m s)
    ] refl e

digest_body : (body : List ℕ) (m : LinkMessage) (r : Result Digested OpsFault) → digest_reading body ≡ r → AreOctets body → read_or_none (λ d. OfDigest d) r ≡ Some m → IsBodyOf 2 body m
digest_body body m (Err f) is octets e = absurd (none_some m e)
digest_body body m (Ok d) is octets e =
    let s = digest_spelled body d octets is in
    subst (λ (x : LinkMessage). IsBodyOf 2 body x) (some_is (OfDigest d) m e) (record { message = (s.0, s.1); kind_is = refl; body_is = s.2 })

delta_body : (body : List ℕ) (m : LinkMessage) (r : Result (List Op) OpsFault) → delta_reading body ≡ r → AreOctets body → read_or_none (λ d. OfDelta d) r ≡ Some m → IsBodyOf 3 body m
delta_body body m (Err f) is octets e = absurd (none_some m e)
delta_body body m (Ok d) is octets e =
    let s = delta_spelled body d octets is in
    subst (λ (x : LinkMessage). IsBodyOf 3 body x) (some_is (OfDelta d) m e) (record { message = (s.0.delta, s.1, s.0.limit); kind_is = refl; body_is = s.0.spelled })

message_body : (kind : ℕ) (body : List ℕ) (m : LinkMessage) → 1 ≤ kind → kind ≤ 3 → AreOctets body → message_at kind body ≡ Some m → IsBodyOf kind body m
unfolding message_at
message_body kind body m low high octets e =
    elim (kind == 1) as (λ b. (kind == 1) ≡ b → (if b then hello_at body else (if kind == 2 then read_or_none (λ d. OfDigest d) (digest_reading body) else read_or_none (λ d. OfDelta d) (delta_reading body))) ≡ Some m → IsBodyOf kind body m) [
      | true ↦ λ t s. subst (λ k. IsBodyOf k body m) (sym (eqb-true kind 1 t)) (hello_body body m octets s)
      | false ↦ λ no_hello. elim (kind == 2) as (λ b. (kind == 2) ≡ b → (if b then read_or_none (λ d. OfDigest d) (digest_reading body) else read_or_none (λ d. OfDelta d) (delta_reading body)) ≡ Some m → IsBodyOf kind body m) [
        | true ↦ λ t s. subst (λ k. IsBodyOf k body m) (sym (eqb-true kind 2 t)) (digest_body body m (digest_reading body) refl octets s)
        | false ↦ λ no_digest s.
            let not_one = eqb-false kind 1 no_hello in
            let not_two = eqb-false kind 2 no_digest in
            let three : 3 ≡ kind = omega (arith, low, high, not_one, not_two) in
            subst (λ k. IsBodyOf k body m) three (delta_body body m (delta_reading body) refl octets s)
      ] refl
    ] refl e

-- ---- the front

pub record Taken_front (bytes : List ℕ) (m : LinkMessage) (rest : List ℕ) : Type 0 where
  pub message : IsLinkMessage m
  pub parts : bytes ≡ message_spelling m ++ rest

abbrev given : LinkMessage × List ℕ → Front
given x = Ok (Some x)

abbrev failing : LinkFault → Front
failing f = Err f

abbrev waiting : Front
waiting = Ok None

given_is : (x y : LinkMessage × List ℕ) → given x ≡ given y → x ≡ y
given_is x y e = cc

not_failing : (f : LinkFault) (x : LinkMessage × List ℕ) → failing f ≡ given x → ⊥
not_failing f x e = cc

not_waiting : (x : LinkMessage × List ℕ) → waiting ≡ given x → ⊥
not_waiting x e = cc

with_some : (o : Option LinkMessage) (rest : List ℕ) (x : LinkMessage × List ℕ) → with_body o rest ≡ Ok (Some x) → (o ≡ Some x.0) × (rest ≡ x.1)
with_some None rest x e = absurd (not_failing faults.Body x e)
with_some (Some m) rest x e = let same : (m, rest) ≡ x = given_is (m, rest) x e in (ap (λ (y : LinkMessage × List ℕ). Some y.0) same, ap (λ (y : LinkMessage × List ℕ). y.1) same)

sized_some : (kind : ℕ) (bytes : List ℕ) (r : Result (ℕ × List ℕ) OpsFault) (x : LinkMessage × List ℕ) → 1 ≤ kind → kind ≤ 3 → AreOctets bytes → number_at w32 bytes ≡ r → front_sized kind r ≡ Ok (Some x) → Taken_front (kind ∷ bytes) x.0 x.1
sized_some kind bytes (Err f) x low high octets is e = absurd (not_waiting x e)
sized_some kind bytes (Ok read) x low high octets is e =
    let t = (number_law w32 (2 ^ 32) wide32).takes bytes read octets is in
    elim (nat_lt max_octets read.0) as (λ b. (if b then failing faults.TooLong else (if nat_lt (length read.1) read.0 then Ok None else with_body (message_at kind (take read.0 read.1)) (drop read.0 read.1))) ≡ Ok (Some x) → Taken_front (kind ∷ bytes) x.0 x.1) [
      | true ↦ λ s. absurd (not_failing faults.TooLong x s)
      | false ↦ elim (nat_lt (length read.1) read.0) as (λ b. nat_lt (length read.1) read.0 ≡ b → (if b then Ok None else with_body (message_at kind (take read.0 read.1)) (drop read.0 read.1)) ≡ Ok (Some x) → Taken_front (kind ∷ bytes) x.0 x.1) [
        | true ↦ λ _ s. absurd (not_waiting x s)
        | false ↦ λ there s.
            let w = with_some (message_at kind (take read.0 read.1)) (drop read.0 read.1) x s in
            let long : read.0 ≤ length read.1 = ltb-false (length read.1) read.0 there in
            let split : take read.0 read.1 ++ drop read.0 read.1 ≡ read.1 = take-append-drop read.0 read.1 in
            let body_octets = octets-left (take read.0 read.1) (drop read.0 read.1) (subst AreOctets (sym split) t.rest) in
            let b = message_body kind (take read.0 read.1) x.0 low high body_octets w.0 in
            let size : read.0 ≡ length (body_of_message x.0) = (let len = length-take read.0 read.1 in omega (arith, len, long)) ∙ ap length b.body_is in
            let behind : read.1 ≡ body_of_message x.0 ++ x.1 = sym split ∙ (λ i. b.body_is i ++ w.1 i) in
            record {
              message = b.message;
              parts = (λ i. b.kind_is i ∷ (t.parts ∙ (λ j. to_be_bytes w32 (size j) ++ behind j) ∙ sym (append_assoc (to_be_bytes w32 (length (body_of_message x.0))) (body_of_message x.0) x.1)) i);
            }
      ] refl
    ] e

pub front_taken : (bytes : List ℕ) (m : LinkMessage) (rest : List ℕ) → AreOctets bytes → front bytes ≡ Ok (Some (m, rest)) → Taken_front bytes m rest
unfolding front
front_taken [] m rest octets e = absurd (not_waiting (m, rest) e)
front_taken (kind ∷ bytes) m rest octets e =
    elim (nat_le 1 kind && nat_le kind 3) as (λ b. (nat_le 1 kind && nat_le kind 3) ≡ b → (if b then front_sized kind (number_at w32 bytes) else failing faults.Kind) ≡ given (m, rest) → Taken_front (kind ∷ bytes) m rest) [
      | true ↦ λ t s. let w = and_parts (nat_le 1 kind) (nat_le kind 3) t in
          sized_some kind bytes (number_at w32 bytes) (m, rest) (leb-true 1 kind w.0) (leb-true kind 3 w.1) (λ i. octets (suc i)) refl s
      | false ↦ λ _ s. absurd (not_failing faults.Kind (m, rest) s)
    ] refl e

-- a message takes octets
pub shorter : (bytes : List ℕ) (m : LinkMessage) (rest : List ℕ) → bytes ≡ message_spelling m ++ rest → length rest < length bytes
shorter bytes m rest e = let len = ap length e in let sum = length-append (message_spelling m) rest in omega (arith, len, sum)

-- what is left after a part
pub left_behind : (whole front rest : List ℕ) → whole ≡ front ++ rest → (length rest ≤ length whole) × (rest ≡ drop (length whole - length rest) whole)
left_behind whole front rest e =
    let len = ap length e ∙ length-append front rest in
    let at : length whole - length rest ≡ length front = omega (arith, len) in
    (omega (arith, len), sym ((λ i. drop (at i) (e i)) ∙ drop_at front rest (length front) refl))

-- what is read so far of a stream
pub record IsBegun (stream : List ℕ) (messages : List LinkMessage) (rest : List ℕ) : Type 0 where
  pub all : AllByRecursion IsLinkMessage messages
  pub parts : stream ≡ flat_map message_spelling messages ++ rest

pub all_both : (xs ys : List LinkMessage) → AllByRecursion IsLinkMessage xs → AllByRecursion IsLinkMessage ys → AllByRecursion IsLinkMessage (xs ++ ys)
all_both [] ys f g = g
all_both (x ∷ xs) ys f g = (f.0, all_both xs ys f.1 g)

pub rest_taken : (stream : List ℕ) (messages : List LinkMessage) (rest : List ℕ) (m : LinkMessage) (after : List ℕ) → AreOctets stream → stream ≡ flat_map message_spelling messages ++ rest → front rest ≡ Ok (Some (m, after)) → Taken_front rest m after
rest_taken stream messages rest m after octets parts e = front_taken rest m after (octets-right (flat_map message_spelling messages) rest (subst AreOctets parts octets)) e

-- one message more
pub one_more : (stream : List ℕ) (messages new : List LinkMessage) (rest : List ℕ) (m : LinkMessage) (after : List ℕ) → AllByRecursion IsLinkMessage messages → stream ≡ flat_map message_spelling messages ++ rest → Taken_front rest m after → new ≡ messages ++ m ∷ [] → IsBegun stream new after
one_more stream messages new rest m after all parts taken behind = subst (λ (ms : List LinkMessage). IsBegun stream ms after) (sym behind) (record {
  all = all_both messages (m ∷ []) all (taken.message, tt);
  parts = parts ∙ ap (λ (r : List ℕ). flat_map message_spelling messages ++ r) taken.parts
      ∙ sym (append_assoc (flat_map message_spelling messages) (message_spelling m) after)
      ∙ ap (λ (t : List ℕ). t ++ after) (ap (λ (t : List ℕ). flat_map message_spelling messages ++ t) (sym (append-nil (message_spelling m))) ∙ sym (flat_map-append message_spelling messages (m ∷ [])));
})
