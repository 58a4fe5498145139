-- A stream says one thing, however it is cut.
use Rattle.std.proofs.Common.{◌≡◌, ℕ, ◌+◌, ◌<◌, ◌≤◌, ◌^◌, true, false, ◌&&◌, if◌then◌else◌, nat_le, List, [], ◌∷◌, ◌++◌, take, drop, length, Option, Some, None, Result, Ok, Err, refl, sym, ap, subst, ◌∙◌, arith, append_assoc, append-nil, le-leb, true≢false}
use Rattle.std.specs.Prelude.{nat_lt}
use Rattle.std.specs.Int.{w32, to_be_bytes}
use Rattle.std.specs.List.{flat_map, AllByRecursion}
use Rattle.std.proofs.lemmas.Bool.{le-ltb}
use Rattle.std.proofs.lemmas.List.{length-append, take_at, drop_at}
use Rattle.std.proofs.lemmas.Grind.{flat_map-append}
use Rattle.rep_op.specs.declared.fault.OpsFault.{OpsFault}
use Rattle.rep_read.specs.Reading.{number_at}
use Rattle.rep_ops.specs.Reading.{delta_reading}
use Rattle.rep_ops.specs.Spelling.{max_octets, delta_spelling}
use Rattle.rep_read.proofs.Laws.{number_law, wide32}
use Rattle.rep_ops.proofs.Format.{read_again as delta_again}
use Rattle.rep_digest.specs.Reading.{digest_reading}
use Rattle.rep_digest.specs.Spelling.{digest_spelling}
use Rattle.rep_digest.proofs.Format.{read_again as digest_again}
use Rattle.gw_net.specs.declared.fault.LinkFault.{LinkFault}
use Rattle.gw_net.specs.declared.fault.LinkFault.TheVariants as faults
use Rattle.gw_net.specs.declared.message.LinkMessage.{LinkMessage}
use Rattle.gw_net.specs.declared.message.LinkMessage.TheVariants.{Hello, Digest as OfDigest, Delta as OfDelta}
use Rattle.gw_net.specs.Messages.{message_kind, body_of_message, message_spelling, IsLinkMessage, hello_at, read_or_none, message_at}
use Rattle.gw_net.specs.Streams.{Front, with_body, front_sized, front, EndsMessages, IsRead}
use Rattle.gw_net.proofs.Fronts.{all_both}

-- ---- a message in front is read

abbrev pub failing : LinkFault → Front
failing f = Err f

message_again : (m : LinkMessage) → IsLinkMessage m → message_at (message_kind m) (body_of_message m) ≡ Some m
unfolding message_at
message_again (Hello g) h = ap (λ b. if b then Some (Hello g) else None) (le-leb 1 g h.0)
message_again (OfDigest d) h = ap (read_or_none (λ x. OfDigest x)) (digest_again d h.0 h.1)
message_again (OfDelta d) h = ap (read_or_none (λ x. OfDelta x)) (delta_again d h.0 h.1 h.2)

pub short_body : (m : LinkMessage) → IsLinkMessage m → length (body_of_message m) ≤ max_octets
short_body (Hello g) h = omega arith
short_body (OfDigest d) h = h.1
short_body (OfDelta d) h = h.2

pub known_kind : (m : LinkMessage) → (nat_le 1 (message_kind m) && nat_le (message_kind m) 3) ≡ true
known_kind (Hello g) = refl
known_kind (OfDigest d) = refl
known_kind (OfDelta d) = refl

sized_again : (kind : ℕ) (body rest : List ℕ) (m : LinkMessage) → length body ≤ max_octets → message_at kind body ≡ Some m → front_sized kind (number_at w32 (to_be_bytes w32 (length body) ++ (body ++ rest))) ≡ Ok (Some (m, rest))
sized_again kind body rest m short is =
    let sum = length-append body rest in
    ap (front_sized kind) ((number_law w32 (2 ^ 32) wide32).again (length body) (body ++ rest) (omega (arith, short)))
    ∙ rw (le-ltb max_octets (length body) short, le-ltb (length (body ++ rest)) (length body) (omega (arith, sum)), take_at body rest (length body) refl, drop_at body rest (length body) refl, is) refl

pub front_again : (m : LinkMessage) (rest : List ℕ) → IsLinkMessage m → front (message_spelling m ++ rest) ≡ Ok (Some (m, rest))
unfolding front
front_again m rest h =
    ap (λ b. if b then front_sized (message_kind m) (number_at w32 ((to_be_bytes w32 (length (body_of_message m)) ++ body_of_message m) ++ rest)) else failing faults.Kind) (known_kind m)
    ∙ ap (λ t. front_sized (message_kind m) (number_at w32 t)) (append_assoc (to_be_bytes w32 (length (body_of_message m))) (body_of_message m) rest)
    ∙ sized_again (message_kind m) (body_of_message m) rest m (short_body m h) (message_again m h)

-- ---- pieces

pub joined : (stream piece rest after : List ℕ) (messages more : List LinkMessage) (fault : Option LinkFault)
    → IsRead stream messages None rest → IsRead (rest ++ piece) more fault after → IsRead (stream ++ piece) (messages ++ more) fault after
joined stream piece rest after messages more fault r s = record {
  all = all_both messages more r.all s.all;
  parts = ap (λ (t : List ℕ). t ++ piece) r.parts ∙ append_assoc (flat_map message_spelling messages) rest piece
      ∙ ap (λ (t : List ℕ). flat_map message_spelling messages ++ t) s.parts ∙ sym (append_assoc (flat_map message_spelling messages) (flat_map message_spelling more) after)
      ∙ ap (λ (t : List ℕ). t ++ after) (sym (flat_map-append message_spelling messages more));
  ends = s.ends;
}

-- ---- one reading

abbrev pub given : LinkMessage × List ℕ → Front
given x = Ok (Some x)

abbrev waiting : Front
waiting = Ok None

pub given_is : (x y : LinkMessage × List ℕ) → given x ≡ given y → x ≡ y
given_is x y e = cc

failing_is : (f g : LinkFault) → failing f ≡ failing g → f ≡ g
failing_is f g e = cc

not_failing : (f : LinkFault) (x : LinkMessage × List ℕ) → failing f ≡ given x → ⊥
not_failing f x e = cc

not_waiting : (x : LinkMessage × List ℕ) → waiting ≡ given x → ⊥
not_waiting x e = cc

waits_or_fails : (f : LinkFault) → waiting ≡ failing f → ⊥
waits_or_fails f e = cc

same_end : (rest : List ℕ) (f g : Option LinkFault) → EndsMessages rest f → EndsMessages rest g → f ≡ g
same_end rest None None p q = refl
same_end rest None (Some g) p q = absurd (waits_or_fails g (sym p ∙ q))
same_end rest (Some f) None p q = absurd (waits_or_fails f (sym q ∙ p))
same_end rest (Some f) (Some g) p q = ap Some (failing_is f g (sym p ∙ q))

no_message : (rest : List ℕ) (f : Option LinkFault) (x : LinkMessage × List ℕ) → EndsMessages rest f → front rest ≡ Ok (Some x) → ⊥
no_message rest None x p q = not_waiting x (sym p ∙ q)
no_message rest (Some f) x p q = not_failing f x (sym p ∙ q)

first_of : (stream : List ℕ) (m : LinkMessage) (messages : List LinkMessage) (rest : List ℕ) → IsLinkMessage m → stream ≡ flat_map message_spelling (m ∷ messages) ++ rest → front stream ≡ Ok (Some (m, flat_map message_spelling messages ++ rest))
first_of stream m messages rest h e = ap front (e ∙ append_assoc (message_spelling m) (flat_map message_spelling messages) rest) ∙ front_again m (flat_map message_spelling messages ++ rest) h

pub one : (stream rest other : List ℕ) (messages more : List LinkMessage) (fault cause : Option LinkFault)
    → IsRead stream messages fault rest → IsRead stream more cause other → (messages ≡ more) × (fault ≡ cause) × (rest ≡ other)
one stream rest other [] [] fault cause r s =
    let same : rest ≡ other = sym r.parts ∙ s.parts in
    (refl, same_end other fault cause (subst (λ t. EndsMessages t fault) same r.ends) s.ends, same)
one stream rest other [] (n ∷ more) fault cause r s =
    absurd (no_message rest fault (n, flat_map message_spelling more ++ other) r.ends (ap front (sym r.parts) ∙ first_of stream n more other s.all.0 s.parts))
one stream rest other (m ∷ messages) [] fault cause r s =
    absurd (no_message other cause (m, flat_map message_spelling messages ++ rest) s.ends (ap front (sym s.parts) ∙ first_of stream m messages rest r.all.0 r.parts))
one stream rest other (m ∷ messages) (n ∷ more) fault cause r s =
    let first = given_is (m, flat_map message_spelling messages ++ rest) (n, flat_map message_spelling more ++ other) (sym (first_of stream m messages rest r.all.0 r.parts) ∙ first_of stream n more other s.all.0 s.parts) in
    let same = ap (λ (x : LinkMessage × List ℕ). x.1) first in
    let behind = one (flat_map message_spelling messages ++ rest) rest other messages more fault cause (record { all = r.all.1; parts = refl; ends = r.ends }) (record { all = s.all.1; parts = same; ends = s.ends }) in
    ((λ i. (first i).0 ∷ behind.0 i), behind.1, behind.2)
