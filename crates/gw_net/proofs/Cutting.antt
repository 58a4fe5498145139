-- No message begins another, and one that is cut off is waited for.
use Rattle.std.proofs.Common.{◌≡◌, ◌≢◌, ℕ, ◌+◌, ◌<◌, ◌≤◌, ◌^◌, true, inl, inr, ◌&&◌, if◌then◌else◌, nat_le, List, [], ◌∷◌, ◌++◌, length, None, Result, Ok, Err, refl, sym, ap, subst, ◌∙◌, arith}
use Rattle.std.specs.Int.{w32, to_be_bytes}
use Rattle.std.proofs.lemmas.Bool.{le-ltb, lt-ltb}
use Rattle.std.proofs.lemmas.List.{length-append}
use Rattle.rep_op.specs.declared.fault.OpsFault.{OpsFault}
use Rattle.rep_read.specs.Reading.{number_at}
use Rattle.rep_read.proofs.Laws.{extended, number_law, wide32, ok_is}
use Rattle.rep_ops.specs.Spelling.{max_octets}
use Rattle.gw_net.specs.declared.fault.LinkFault.TheVariants as faults
use Rattle.gw_net.specs.declared.message.LinkMessage.{LinkMessage}
use Rattle.gw_net.specs.Messages.{message_kind, body_of_message, message_spelling, IsLinkMessage}
use Rattle.gw_net.specs.Streams.{Front, front_sized, front, IsRead}
use Rattle.gw_net.proofs.Joining.{failing, given_is, front_again, short_body, known_kind}

pub one_message : (m n : LinkMessage) (x y : List ℕ) → IsLinkMessage m → IsLinkMessage n → message_spelling m ++ x ≡ message_spelling n ++ y → (m ≡ n) × (x ≡ y)
one_message m n x y hm hn e =
    let same : (m, x) ≡ (n, y) = given_is (m, x) (n, y) (sym (front_again m x hm) ∙ ap front e ∙ front_again n y hn) in
    (ap (λ (p : LinkMessage × List ℕ). p.0) same, ap (λ (p : LinkMessage × List ℕ). p.1) same)

-- ---- a message that is cut off

some_octets : (rest : List ℕ) → rest ≢ [] → 0 < length rest
some_octets [] some = absurd (some refl)
some_octets (x ∷ rest) some = omega arith

abbrev waiting : Front
waiting = Ok None

-- its length is there, and not all of its body
cut_body : (kind : ℕ) (body rest : List ℕ) (r : Result (ℕ × List ℕ) OpsFault) → length body ≤ max_octets → rest ≢ [] → extended rest r ≡ Ok (length body, body) → front_sized kind r ≡ waiting
cut_body kind body rest (Ok x) short some e =
    let pair : (x.0, x.1 ++ rest) ≡ (length body, body) = ok_is (x.0, x.1 ++ rest) (length body, body) e in
    let size : x.0 ≡ length body = ap (λ (p : ℕ × List ℕ). p.0) pair in
    let parts : x.1 ++ rest ≡ body = ap (λ (p : ℕ × List ℕ). p.1) pair in
    let len : length body ≡ length x.1 + length rest = ap length (sym parts) ∙ length-append x.1 rest in
    let more = some_octets rest some in
    rw (le-ltb max_octets x.0 (omega (arith, size, short)), lt-ltb (length x.1) x.0 (omega (arith, size, len, more))) refl
cut_body kind body rest (Err f) short some e = absurd cc

-- of its length and its body something is missing
cut_size : (kind : ℕ) (body bytes rest : List ℕ) → length body ≤ max_octets → rest ≢ [] → to_be_bytes w32 (length body) ++ body ≡ bytes ++ rest → front_sized kind (number_at w32 bytes) ≡ waiting
cut_size kind body bytes rest short some e =
    let whole : number_at w32 (bytes ++ rest) ≡ Ok (length body, body) = ap (number_at w32) (sym e) ∙ (number_law w32 (2 ^ 32) wide32).again (length body) body (omega (arith, short)) in
    elim ((number_law w32 (2 ^ 32) wide32).stable bytes rest) [
      | inl cut ↦ ap (front_sized kind) cut
      | inr same ↦ cut_body kind body rest (number_at w32 bytes) short some (sym same ∙ whole)
    ]

cut_front : (m : LinkMessage) (cut rest : List ℕ) → IsLinkMessage m → message_spelling m ≡ cut ++ rest → rest ≢ [] → front cut ≡ waiting
unfolding front
cut_front m [] rest h e some = refl
cut_front m (kind ∷ bytes) rest h e some =
    let first : message_kind m ≡ kind = cc in
    let behind : to_be_bytes w32 (length (body_of_message m)) ++ body_of_message m ≡ bytes ++ rest = cc in
    ap (λ b. if b then front_sized kind (number_at w32 bytes) else failing faults.Kind) (subst (λ (k : ℕ). (nat_le 1 k && nat_le k 3) ≡ true) first (known_kind m))
    ∙ cut_size kind (body_of_message m) bytes rest (short_body m h) some behind

pub cut_waits : (m : LinkMessage) (cut rest : List ℕ) → IsLinkMessage m → message_spelling m ≡ cut ++ rest → rest ≢ [] → IsRead cut [] None cut
cut_waits m cut rest h e some = record { all = tt; parts = refl; ends = cut_front m cut rest h e some }
