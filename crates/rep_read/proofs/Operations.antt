-- The readers of operations.
use Rattle.std.proofs.Common.{◌≡◌, ℕ, ◌<◌, ◌≤◌, ◌^◌, Bool, true, false, cond, ◌&&◌, not, List, ◌∷◌, ◌++◌, length, Ok, refl, sym, subst, ◌∙◌, inl, inr, append_assoc, arith}
use Rattle.std.specs.Prelude.{IsTrue, nat_le, nat_lt, ◌==◌, ◌||◌}
use Rattle.std.specs.Int.{w64, to_be_bytes}
use Rattle.std.proofs.lemmas.Bool.{cases_Bool, and_parts, and_from, leb-true, le-leb, eqb-true, eqb-false}
use Rattle.std.proofs.lemmas.Bool.Decides.{nat_tests}
use Rattle.byteorder.specs.Endian.{big_bytes}
use Rattle.sn_topic.specs.Topics.{IsName}
use Rattle.sn_session.specs.declared.change.SessionOp.{SessionOp}
use Rattle.rep_op.specs.ClientIds.{IsClientId}
use Rattle.rep_op.specs.declared.op.Put.{Put}
use Rattle.rep_op.specs.declared.op.Op.{Op}
use Rattle.rep_op.specs.declared.op.Op.TheVariants.{Session as OfSession, Put as OfPut, Ack, Retain as OfRetain}
use Rattle.rep_read.specs.Reading.{Reader, both, by_first, ranged, octet_at, number_at, is_positive, client_id_at, topic_at, flag_at, qos_at, body_at, change_at, session_op_of, session_op_at, later_at, put_op_of, content_at, put_op_at, ack_from, range_at, ack_at, retain_op_of, retain_op_at, is_kind, of_kind_at, op_at}
use Rattle.rep_op.specs.Spelling.{client_octets, later_octets, put_octets, retained_octets, op_octets}
use Rattle.rep_op.specs.Sessions.{text_octets, flag_octet, change_octets}
use Rattle.rep_op.specs.Values.{IsOpValue}
use Rattle.rep_op.specs.Versions.{needs_two}
use Rattle.rep_op.specs.WellMade.{is_well_made}
use Rattle.rep_op.specs.declared.version.Version.{Version}
use Rattle.rep_op.specs.declared.version.Version.TheVariants.{One, Two}
use Rattle.rep_read.proofs.Laws.{IsBytes, Taken, IsStable, Law, bind_ok, bind_stable, by_first_law, both_law, made_law, ranged_law, same_law, octet_law, wide64, number_law, ok_is}
use Rattle.rep_read.proofs.Fields.{one_octet, IsOctet, client_law, topic_law, flag_law, IsQos, qos_law, body_law}
use Rattle.rep_read.proofs.Parts.{IsEight, eight_law, IsOne, one_law}
use Rattle.rep_read.proofs.Changes.{FitsChange, change_law}

-- whether the version can say the operation
abbrev pub can_say : Version → Op → Bool
can_say One op = not (needs_two op)
can_say Two op = true

-- what has a spelling of this version that is read again
pub record FitsOp (version : Version) (op : Op) : Type 0 where
  pub made : IsTrue (is_well_made op)
  pub value : IsOpValue op
  pub said : can_say version op ≡ true

-- what does not need version 2 both versions can say
both_say : (version : Version) (op : Op) → needs_two op ≡ false → can_say version op ≡ true
both_say One op e = rw e refl
both_say Two op e = refl

-- an operation without its kind
abbrev pub tail_octets : Version → Op → List ℕ
tail_octets version (OfSession client stamp counter change) = client_octets client ++ big_bytes 8 stamp.epoch ++ stamp.gateway ∷ counter ∷ change_octets change
tail_octets version (OfPut client put) = client_octets client ++ put_octets version put
tail_octets version (Ack client origin first last) = client_octets client ++ (origin ∷ big_bytes 8 first) ++ big_bytes 8 last
tail_octets version (OfRetain topic kept) = text_octets topic ++ retained_octets kept

abbrev FitsSessionOp : Version → Op → Type 0
FitsSessionOp version (OfSession c s i o) = FitsOp version (OfSession c s i o)
FitsSessionOp version (OfPut c p) = ⊥
FitsSessionOp version (Ack c r f l) = ⊥
FitsSessionOp version (OfRetain t k) = ⊥

abbrev FitsPutOp : Version → Op → Type 0
FitsPutOp version (OfSession c s i o) = ⊥
FitsPutOp version (OfPut c p) = FitsOp version (OfPut c p)
FitsPutOp version (Ack c r f l) = ⊥
FitsPutOp version (OfRetain t k) = ⊥

abbrev FitsAck : Version → Op → Type 0
FitsAck version (OfSession c s i o) = ⊥
FitsAck version (OfPut c p) = ⊥
FitsAck version (Ack c r f l) = FitsOp version (Ack c r f l)
FitsAck version (OfRetain t k) = ⊥

abbrev FitsRetain : Op → Type 0
FitsRetain (OfSession c s i o) = ⊥
FitsRetain (OfPut c p) = ⊥
FitsRetain (Ack c r f l) = ⊥
FitsRetain (OfRetain t k) = FitsOp Two (OfRetain t k)

-- ---- session operations

abbrev SessionParts : Type 0
SessionParts = List ℕ × (ℕ × (ℕ × (ℕ × SessionOp)))

abbrev session_text : SessionParts → List ℕ
session_text x = client_octets x.0 ++ (to_be_bytes w64 x.1.0 ++ (one_octet x.1.1.0 ++ (one_octet x.1.1.1.0 ++ change_octets x.1.1.1.1)))

abbrev FitsSessionParts : SessionParts → Type 0
FitsSessionParts x = IsClientId x.0 × (IsEight x.1.0 × (IsOne x.1.1.0 × (IsOctet x.1.1.1.0 × FitsChange x.1.1.1.0 x.1.1.1.1)))

session_over : (v : Version) (x : SessionParts) → FitsSessionParts x → (session_text x ≡ tail_octets v (session_op_of x)) × FitsSessionOp v (session_op_of x)
session_over v x h = (
  sym (append_assoc (client_octets x.0) (big_bytes 8 x.1.0) (x.1.1.0 ∷ x.1.1.1.0 ∷ change_octets x.1.1.1.1)),
  record {
    made = and_from _ _ (and_from _ _ (and_from _ _ h.1.0.1 h.1.1.0.1) h.1.1.1.1.counted) h.1.1.1.1.change;
    value = (h.0, h.1.0.0, h.1.1.0.0, h.1.1.1.0, h.1.1.1.1.value);
    said = both_say v (session_op_of x) refl;
  },
)

session_back : (v : Version) (op : Op) → FitsSessionOp v op → (x : SessionParts) × (session_op_of x ≡ op) × FitsSessionParts x × (session_text x ≡ tail_octets v op)
session_back v (OfPut c p) h = absurd h
session_back v (Ack c r f l) h = absurd h
session_back v (OfRetain t k) h = absurd h
session_back v (OfSession c s i o) h =
    let m = and_parts _ _ h.made in
    let n = and_parts _ _ m.0 in
    let stamp = and_parts _ _ n.0 in
    let u = h.value in
    let x : SessionParts = (c, (s.epoch, (s.gateway, (i, o)))) in
    let fits : FitsSessionParts x = (u.0, ((u.1, stamp.0), ((u.2, stamp.1), (u.3, record { counted = n.1; change = m.1; value = u.4 })))) in
    (x, refl, fits, (session_over v x fits).0)

session_op_law : (v : Version) → Law session_op_at (tail_octets v) (FitsSessionOp v)
unfolding session_op_at
session_op_law v =
    made_law session_op_of (both client_id_at (both (ranged is_positive (number_at w64)) (both (ranged is_positive octet_at) (by_first octet_at change_at)))) session_text FitsSessionParts
    (both_law client_id_at client_octets IsClientId client_law
    (both (ranged is_positive (number_at w64)) (both (ranged is_positive octet_at) (by_first octet_at change_at))) _ _ (both_law (ranged is_positive (number_at w64)) (to_be_bytes w64) IsEight eight_law
    (both (ranged is_positive octet_at) (by_first octet_at change_at)) _ _ (both_law (ranged is_positive octet_at) one_octet IsOne one_law
    (by_first octet_at change_at) (λ x. one_octet x.0 ++ change_octets x.1) (λ x. IsOctet x.0 × FitsChange x.0 x.1) (by_first_law octet_at one_octet IsOctet octet_law change_at (λ _. change_octets) FitsChange change_law))))
    (tail_octets v) (FitsSessionOp v) (session_over v) (session_back v)

-- ---- puts

-- whether it was retained, and when it expires
abbrev later_text : Version → Bool × ℕ → List ℕ
later_text version x = later_octets version x.0 x.1

abbrev FitsLater : Version → Bool × ℕ → Type 0
FitsLater One x = (x.0 ≡ false) × (x.1 ≡ 0)
FitsLater Two x = x.1 < 2 ^ 64

-- the moment fits eight octets
in_eight : (version : Version) (x : Bool × ℕ) → FitsLater version x → x.1 < 2 ^ 64
in_eight One x h = omega (arith, h.1)
in_eight Two x h = h

later_said : (version : Version) (c : List ℕ) (p : Put) → FitsLater version (p.retain, p.expires) → can_say version (OfPut c p) ≡ true
later_said One c p h = rw (h.0, h.1) refl
later_said Two c p h = refl

neither : (a b : Bool) → not (a || b) ≡ true → (a ≡ false) × (b ≡ false)
neither true b e = absurd cc
neither false true e = absurd cc
neither false false e = (refl, refl)

no_moment : (n : ℕ) → nat_lt 0 n ≡ false → n ≡ 0
no_moment n e = grind (arith, nat_tests)

said_later : (version : Version) (c : List ℕ) (p : Put) → can_say version (OfPut c p) ≡ true → p.expires < 2 ^ 64 → FitsLater version (p.retain, p.expires)
said_later One c p e fits = let off = neither p.retain (nat_lt 0 p.expires) e in (off.0, no_moment p.expires off.1)
said_later Two c p e fits = fits

one_later : Law (later_at One) (later_text One) (FitsLater One)
unfolding later_at
one_later = record {
  takes = λ bytes x fits e.
      let none : (Bool × ℕ) × List ℕ = ((false, 0), bytes) in
      subst (λ (y : (Bool × ℕ) × List ℕ). Taken (later_text One) (FitsLater One) bytes y) (ok_is none x e) (record { parts = refl; rest = fits; fits = (refl, refl) });
  again = λ a rest h. (λ i. Ok ((sym h.0 i, sym h.1 i), rest));
  stable = λ bytes more. inr refl;
}

two_later : Law (later_at Two) (later_text Two) (FitsLater Two)
unfolding later_at
two_later =
    same_law (later_at Two) (λ x. one_octet (flag_octet x.0) ++ to_be_bytes w64 x.1) (λ x. Unit {0} × (x.1 < 2 ^ 64))
    (both_law flag_at (λ b. one_octet (flag_octet b)) (λ b. Unit {0}) flag_law
    (number_at w64) (to_be_bytes w64) (λ n. n < 2 ^ 64) (number_law w64 (2 ^ 64) wide64))
    (later_text Two) (FitsLater Two)
    (λ x h. (refl, h.1))
    (λ x h. (tt, h))

later_law : (version : Version) → Law (later_at version) (later_text version) (FitsLater version)
later_law One = one_later
later_law Two = two_later

abbrev PutParts : Type 0
PutParts = List ℕ × (ℕ × (ℕ × (List ℕ × (ℕ × ((Bool × ℕ) × List ℕ)))))

abbrev put_text : Version → PutParts → List ℕ
put_text version x =
    client_octets x.0 ++ (one_octet x.1.0 ++ (to_be_bytes w64 x.1.1.0 ++ (text_octets x.1.1.1.0 ++ (one_octet x.1.1.1.1.0 ++ (later_text version x.1.1.1.1.1.0 ++ text_octets x.1.1.1.1.1.1)))))

abbrev FitsPutParts : Version → PutParts → Type 0
FitsPutParts version x = IsClientId x.0 × (IsOne x.1.0 × (IsEight x.1.1.0 × (IsName x.1.1.1.0 × (IsQos x.1.1.1.1.0 × (FitsLater version x.1.1.1.1.1.0 × (length x.1.1.1.1.1.1 ≤ 4096))))))

put_over : (v : Version) (x : PutParts) → FitsPutParts v x → (put_text v x ≡ tail_octets v (put_op_of x)) × FitsPutOp v (put_op_of x)
put_over v x h =
    let p : Put = record { origin = x.1.0; seq = x.1.1.0; topic = x.1.1.1.0; qos = x.1.1.1.1.0; retain = x.1.1.1.1.1.0.0; expires = x.1.1.1.1.1.0.1; body = x.1.1.1.1.1.1 } in (
      refl,
      record {
        made = and_from _ _ (and_from _ _ (and_from _ _ h.1.0.1 h.1.1.0.1) h.1.1.1.1.0.1) (le-leb _ _ h.1.1.1.1.1.1);
        value = (h.0, h.1.0.0, h.1.1.0.0, h.1.1.1.0, in_eight v x.1.1.1.1.1.0 h.1.1.1.1.1.0);
        said = later_said v x.0 p h.1.1.1.1.1.0;
      },
    )

put_back : (v : Version) (op : Op) → FitsPutOp v op → (x : PutParts) × (put_op_of x ≡ op) × FitsPutParts v x × (put_text v x ≡ tail_octets v op)
put_back v (OfSession c s i o) h = absurd h
put_back v (Ack c r f l) h = absurd h
put_back v (OfRetain t k) h = absurd h
put_back v (OfPut c p) h =
    let m = and_parts _ _ h.made in
    let n = and_parts _ _ m.0 in
    let k = and_parts _ _ n.0 in
    let qos : p.qos ≤ 2 = leb-true _ _ n.1 in
    let u = h.value in
    let later : FitsLater v (p.retain, p.expires) = said_later v c p h.said u.4 in
    let x : PutParts = (c, (p.origin, (p.seq, (p.topic, (p.qos, ((p.retain, p.expires), p.body)))))) in
    let fits : FitsPutParts v x = (u.0, ((u.1, k.0), ((u.2, k.1), (u.3, ((omega arith, n.1), (later, leb-true _ _ m.1)))))) in
    (x, refl, fits, refl)

put_op_law : (v : Version) → Law (put_op_at v) (tail_octets v) (FitsPutOp v)
unfolding put_op_at content_at
put_op_law v =
    made_law put_op_of (both client_id_at (both (ranged is_positive octet_at) (both (ranged is_positive (number_at w64)) (both topic_at (both qos_at (both (later_at v) body_at)))))) (put_text v) (FitsPutParts v)
    (both_law client_id_at client_octets IsClientId client_law
    (both (ranged is_positive octet_at) (both (ranged is_positive (number_at w64)) (both topic_at (both qos_at (both (later_at v) body_at))))) _ _ (both_law (ranged is_positive octet_at) one_octet IsOne one_law
    (both (ranged is_positive (number_at w64)) (both topic_at (both qos_at (both (later_at v) body_at)))) _ _ (both_law (ranged is_positive (number_at w64)) (to_be_bytes w64) IsEight eight_law
    (both topic_at (both qos_at (both (later_at v) body_at))) _ _ (both_law topic_at text_octets IsName topic_law
    (both qos_at (both (later_at v) body_at)) _ _ (both_law qos_at one_octet IsQos qos_law
    (both (later_at v) body_at) _ _ (both_law (later_at v) (later_text v) (FitsLater v) (later_law v)
    body_at text_octets (λ t. length t ≤ 4096) body_law))))))
    (tail_octets v) (FitsPutOp v) (put_over v) (put_back v)

-- ---- acknowledgements

abbrev pub range_text : ℕ × ℕ → List ℕ
range_text x = to_be_bytes w64 x.0 ++ to_be_bytes w64 x.1

abbrev pub FitsRange : ℕ × ℕ → Type 0
FitsRange x = (IsEight x.0 × (x.1 < 2 ^ 64)) × (nat_le x.0 x.1 ≡ true)

pub range_law : Law range_at range_text FitsRange
unfolding range_at
range_law =
    ranged_law (λ x. nat_le x.0 x.1) (both (ranged is_positive (number_at w64)) (number_at w64)) range_text (λ x. IsEight x.0 × (x.1 < 2 ^ 64))
    (both_law (ranged is_positive (number_at w64)) (to_be_bytes w64) IsEight eight_law (number_at w64) (to_be_bytes w64) (λ n. n < 2 ^ 64) (number_law w64 (2 ^ 64) wide64))

abbrev AckParts : Type 0
AckParts = List ℕ × (ℕ × (ℕ × ℕ))

abbrev ack_text : AckParts → List ℕ
ack_text x = client_octets x.0 ++ (one_octet x.1.0 ++ range_text x.1.1)

abbrev FitsAckParts : AckParts → Type 0
FitsAckParts x = IsClientId x.0 × (IsOne x.1.0 × FitsRange x.1.1)

ack_over : (v : Version) (x : AckParts) → FitsAckParts x → (ack_text x ≡ tail_octets v (ack_from x)) × FitsAck v (ack_from x)
ack_over v x h = (
  sym (append_assoc (client_octets x.0) (x.1.0 ∷ big_bytes 8 x.1.1.0) (big_bytes 8 x.1.1.1)),
  record {
    made = and_from _ _ (and_from _ _ h.1.0.1 h.1.1.0.0.1) h.1.1.1;
    value = (h.0, h.1.0.0, h.1.1.0.0.0, h.1.1.0.1);
    said = both_say v (ack_from x) refl;
  },
)

ack_back : (v : Version) (op : Op) → FitsAck v op → (x : AckParts) × (ack_from x ≡ op) × FitsAckParts x × (ack_text x ≡ tail_octets v op)
ack_back v (OfSession c s i o) h = absurd h
ack_back v (OfPut c p) h = absurd h
ack_back v (OfRetain t k) h = absurd h
ack_back v (Ack c r f l) h =
    let m = and_parts _ _ h.made in
    let n = and_parts _ _ m.0 in
    let u = h.value in
    let x : AckParts = (c, (r, (f, l))) in
    let fits : FitsAckParts x = (u.0, ((u.1, n.0), (((u.2, n.1), u.3), m.1))) in
    (x, refl, fits, (ack_over v x fits).0)

ack_law : (v : Version) → Law ack_at (tail_octets v) (FitsAck v)
unfolding ack_at
ack_law v =
    made_law ack_from (both client_id_at (both (ranged is_positive octet_at) range_at)) ack_text FitsAckParts
    (both_law client_id_at client_octets IsClientId client_law (both (ranged is_positive octet_at) range_at) _ _ (both_law (ranged is_positive octet_at) one_octet IsOne one_law range_at range_text FitsRange range_law))
    (tail_octets v) (FitsAck v) (ack_over v) (ack_back v)

-- ---- what is retained

abbrev RetainParts : Type 0
RetainParts = List ℕ × (ℕ × (ℕ × (ℕ × List ℕ)))

abbrev retain_text : RetainParts → List ℕ
retain_text x = text_octets x.0 ++ (to_be_bytes w64 x.1.0 ++ (one_octet x.1.1.0 ++ (one_octet x.1.1.1.0 ++ text_octets x.1.1.1.1)))

abbrev FitsRetainParts : RetainParts → Type 0
FitsRetainParts x = IsName x.0 × (IsEight x.1.0 × (IsOne x.1.1.0 × (IsQos x.1.1.1.0 × (length x.1.1.1.1 ≤ 4096))))

retain_over : (x : RetainParts) → FitsRetainParts x → (retain_text x ≡ tail_octets Two (retain_op_of x)) × FitsRetain (retain_op_of x)
retain_over x h = (
  refl,
  record {
    made = and_from _ _ (and_from _ _ (and_from _ _ h.1.0.1 h.1.1.0.1) h.1.1.1.0.1) (le-leb _ _ h.1.1.1.1);
    value = (h.0, h.1.0.0, h.1.1.0.0);
    said = refl;
  },
)

retain_back : (op : Op) → FitsRetain op → (x : RetainParts) × (retain_op_of x ≡ op) × FitsRetainParts x × (retain_text x ≡ tail_octets Two op)
retain_back (OfSession c s i o) h = absurd h
retain_back (OfPut c p) h = absurd h
retain_back (Ack c r f l) h = absurd h
retain_back (OfRetain t k) h =
    let m = and_parts _ _ h.made in
    let n = and_parts _ _ m.0 in
    let w = and_parts _ _ n.0 in
    let qos : k.qos ≤ 2 = leb-true _ _ n.1 in
    let u = h.value in
    let x : RetainParts = (t, (k.clock, (k.gateway, (k.qos, k.body)))) in
    let fits : FitsRetainParts x = (u.0, ((u.1, w.0), ((u.2, w.1), ((omega arith, n.1), leb-true _ _ m.1)))) in
    (x, refl, fits, refl)

retain_op_law : Law retain_op_at (tail_octets Two) FitsRetain
unfolding retain_op_at
retain_op_law =
    made_law retain_op_of (both topic_at (both (ranged is_positive (number_at w64)) (both (ranged is_positive octet_at) (both qos_at body_at)))) retain_text FitsRetainParts
    (both_law topic_at text_octets IsName topic_law
    (both (ranged is_positive (number_at w64)) (both (ranged is_positive octet_at) (both qos_at body_at))) _ _ (both_law (ranged is_positive (number_at w64)) (to_be_bytes w64) IsEight eight_law
    (both (ranged is_positive octet_at) (both qos_at body_at)) _ _ (both_law (ranged is_positive octet_at) one_octet IsOne one_law
    (both qos_at body_at) _ _ (both_law qos_at one_octet IsQos qos_law
    body_at text_octets (λ t. length t ≤ 4096) body_law))))
    (tail_octets Two) FitsRetain retain_over retain_back

-- ---- operations

abbrev kind_at : Version → Reader ℕ
kind_at v = ranged (is_kind v) octet_at

kind_law : (v : Version) → Law (kind_at v) one_octet (λ n. IsOctet n × (is_kind v n ≡ true))
kind_law v = ranged_law (is_kind v) octet_at one_octet IsOctet octet_law

took_session : (v : Version) (kind : ℕ) (bytes after : List ℕ) (x : Op × List ℕ) → bytes ≡ kind ∷ after → kind ≡ 1 → Taken (tail_octets v) (FitsSessionOp v) after x → Taken (op_octets v) (FitsOp v) bytes x
took_session v kind bytes after (OfSession c s i o, rest) parts is t = record { parts = parts ∙ (λ j. is j ∷ t.parts j); rest = t.rest; fits = t.fits }
took_session v kind bytes after (OfPut c p, rest) parts is t = absurd t.fits
took_session v kind bytes after (Ack c r f l, rest) parts is t = absurd t.fits
took_session v kind bytes after (OfRetain u k, rest) parts is t = absurd t.fits

took_put : (v : Version) (kind : ℕ) (bytes after : List ℕ) (x : Op × List ℕ) → bytes ≡ kind ∷ after → kind ≡ 2 → Taken (tail_octets v) (FitsPutOp v) after x → Taken (op_octets v) (FitsOp v) bytes x
took_put v kind bytes after (OfSession c s i o, rest) parts is t = absurd t.fits
took_put v kind bytes after (OfPut c p, rest) parts is t = record { parts = parts ∙ (λ j. is j ∷ t.parts j); rest = t.rest; fits = t.fits }
took_put v kind bytes after (Ack c r f l, rest) parts is t = absurd t.fits
took_put v kind bytes after (OfRetain u k, rest) parts is t = absurd t.fits

took_ack : (v : Version) (kind : ℕ) (bytes after : List ℕ) (x : Op × List ℕ) → bytes ≡ kind ∷ after → kind ≡ 3 → Taken (tail_octets v) (FitsAck v) after x → Taken (op_octets v) (FitsOp v) bytes x
took_ack v kind bytes after (OfSession c s i o, rest) parts is t = absurd t.fits
took_ack v kind bytes after (OfPut c p, rest) parts is t = absurd t.fits
took_ack v kind bytes after (Ack c r f l, rest) parts is t = record { parts = parts ∙ (λ j. is j ∷ t.parts j); rest = t.rest; fits = t.fits }
took_ack v kind bytes after (OfRetain u k, rest) parts is t = absurd t.fits

took_retain : (kind : ℕ) (bytes after : List ℕ) (x : Op × List ℕ) → bytes ≡ kind ∷ after → kind ≡ 4 → Taken (tail_octets Two) FitsRetain after x → Taken (op_octets Two) (FitsOp Two) bytes x
took_retain kind bytes after (OfSession c s i o, rest) parts is t = absurd t.fits
took_retain kind bytes after (OfPut c p, rest) parts is t = absurd t.fits
took_retain kind bytes after (Ack c r f l, rest) parts is t = absurd t.fits
took_retain kind bytes after (OfRetain u k, rest) parts is t = record { parts = parts ∙ (λ j. is j ∷ t.parts j); rest = t.rest; fits = t.fits }

kind_four : (kind : ℕ) → is_kind Two kind ≡ true → (kind ≡ 1 → ⊥) → (kind ≡ 2 → ⊥) → (kind ≡ 3 → ⊥) → kind ≡ 4
kind_four kind e one two three =
    let p : (nat_le 1 kind ≡ true) × (nat_le kind 4 ≡ true) = and_parts (nat_le 1 kind) (nat_le kind 4) e in
    let low : 1 ≤ kind = leb-true 1 kind p.0 in
    let high : kind ≤ 4 = leb-true kind 4 p.1 in
    omega arith

no_four : (kind : ℕ) → is_kind One kind ≡ true → (kind ≡ 1 → ⊥) → (kind ≡ 2 → ⊥) → (kind ≡ 3 → ⊥) → ⊥
no_four kind e one two three =
    let p : (nat_le 1 kind ≡ true) × (nat_le kind 3 ≡ true) = and_parts (nat_le 1 kind) (nat_le kind 3) e in
    let low : 1 ≤ kind = leb-true 1 kind p.0 in
    let high : kind ≤ 3 = leb-true kind 3 p.1 in
    omega arith

last_takes : (v : Version) (kind : ℕ) (bytes after : List ℕ) (x : Op × List ℕ) → bytes ≡ kind ∷ after → IsBytes after → is_kind v kind ≡ true → (kind ≡ 1 → ⊥) → (kind ≡ 2 → ⊥) → (kind ≡ 3 → ⊥)
    → retain_op_at after ≡ Ok x → Taken (op_octets v) (FitsOp v) bytes x
last_takes One kind bytes after x parts rest e one two three read = absurd (no_four kind e one two three)
last_takes Two kind bytes after x parts rest e one two three read = took_retain kind bytes after x parts (kind_four kind e one two three) (retain_op_law.takes after x rest read)

op_takes : (v : Version) (bytes : List ℕ) (x : Op × List ℕ) → IsBytes bytes → op_at v bytes ≡ Ok x → Taken (op_octets v) (FitsOp v) bytes x
unfolding op_at
op_takes v bytes x fits e =
    let b = bind_ok (kind_at v bytes) (λ kind. of_kind_at v kind.0 kind.1) x e in
    let t = (kind_law v).takes bytes b.0 fits b.1 in
    elim (cases_Bool (b.0.0 == 1)) [
      | inl one ↦ (let read : session_op_at b.0.1 ≡ Ok x = rw one at b.2 in took_session v b.0.0 bytes b.0.1 x t.parts (eqb-true _ _ one) ((session_op_law v).takes b.0.1 x t.rest read))
      | inr not_one ↦ (
          let next : cond (b.0.0 == 2) (put_op_at v b.0.1) (cond (b.0.0 == 3) (ack_at b.0.1) (retain_op_at b.0.1)) ≡ Ok x = rw not_one at b.2 in
          elim (cases_Bool (b.0.0 == 2)) [
            | inl two ↦ (let read : put_op_at v b.0.1 ≡ Ok x = rw two at next in took_put v b.0.0 bytes b.0.1 x t.parts (eqb-true _ _ two) ((put_op_law v).takes b.0.1 x t.rest read))
            | inr not_two ↦ (
                let last : cond (b.0.0 == 3) (ack_at b.0.1) (retain_op_at b.0.1) ≡ Ok x = rw not_two at next in
                elim (cases_Bool (b.0.0 == 3)) [
                  | inl three ↦ (let read : ack_at b.0.1 ≡ Ok x = rw three at last in took_ack v b.0.0 bytes b.0.1 x t.parts (eqb-true _ _ three) ((ack_law v).takes b.0.1 x t.rest read))
                  | inr not_three ↦ (let read : retain_op_at b.0.1 ≡ Ok x = rw not_three at last in
                      last_takes v b.0.0 bytes b.0.1 x t.parts t.rest t.fits.1 (eqb-false _ _ not_one) (eqb-false _ _ not_two) (eqb-false _ _ not_three) read)
                ])
          ])
    ]

op_again : (v : Version) (op : Op) (rest : List ℕ) → FitsOp v op → op_at v (op_octets v op ++ rest) ≡ Ok (op, rest)
unfolding op_at
op_again One (OfSession c s i o) rest h = (session_op_law One).again (OfSession c s i o) rest h
op_again Two (OfSession c s i o) rest h = (session_op_law Two).again (OfSession c s i o) rest h
op_again One (OfPut c p) rest h = (put_op_law One).again (OfPut c p) rest h
op_again Two (OfPut c p) rest h = (put_op_law Two).again (OfPut c p) rest h
op_again One (Ack c r f l) rest h = (ack_law One).again (Ack c r f l) rest h
op_again Two (Ack c r f l) rest h = (ack_law Two).again (Ack c r f l) rest h
op_again One (OfRetain t k) rest h = absurd (let no : false ≡ true = h.said in cc)
op_again Two (OfRetain t k) rest h = retain_op_law.again (OfRetain t k) rest h

kinds_stable : (v : Version) (kind : ℕ) (after more : List ℕ) → IsStable more (of_kind_at v kind after) (of_kind_at v kind (after ++ more))
kinds_stable v kind after more =
    elim (cases_Bool (kind == 1)) [
      | inl one ↦ rw one ((session_op_law v).stable after more)
      | inr not_one ↦ rw not_one (elim (cases_Bool (kind == 2)) [
        | inl two ↦ rw two ((put_op_law v).stable after more)
        | inr not_two ↦ rw not_two (elim (cases_Bool (kind == 3)) [
          | inl three ↦ rw three ((ack_law v).stable after more)
          | inr not_three ↦ rw not_three (retain_op_law.stable after more)
        ])
      ])
    ]

pub op_law : (v : Version) → Law (op_at v) (op_octets v) (FitsOp v)
unfolding op_at
op_law v = record {
  takes = op_takes v;
  again = op_again v;
  stable = λ bytes more. bind_stable more (kind_at v bytes) (kind_at v (bytes ++ more)) (λ kind. of_kind_at v kind.0 kind.1) ((kind_law v).stable bytes more) (λ x. kinds_stable v x.0 x.1 more);
}
