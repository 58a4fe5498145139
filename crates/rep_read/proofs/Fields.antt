-- Octets, numbers and texts: each reader is the reader of its spelling.
use Rattle.std.proofs.Common.{◌≡◌, ℕ, zero, suc, ◌<◌, ◌≤◌, ◌^◌, Bool, true, false, not, ◌&&◌, List, [], ◌∷◌, ◌++◌, length, refl, arith}
use Rattle.std.specs.Prelude.{nat_le, ◌==◌}
use Rattle.std.specs.Int.{w16, to_be_bytes}
use Rattle.std.proofs.lemmas.Bool.{and_parts, and_from, leb-true, le-leb, not-true, not_from_false}
use Rattle.sn_topic.specs.Levels.{has_wildcard, levels, wildcards_stand_alone}
use Rattle.sn_topic.specs.Topics.{IsName, IsFilter}
use Rattle.sn_session.specs.declared.presence.Presence.{Presence}
use Rattle.sn_session.specs.declared.presence.Presence.TheVariants as presences
use Rattle.sn_session.specs.declared.outbound.Phase.{Phase}
use Rattle.sn_session.specs.declared.outbound.Phase.TheVariants as phases
use Rattle.rep_op.specs.ClientIds.{IsClientId}
use Rattle.sn_tables.specs.Levels.{is_qos}
use Rattle.rep_read.specs.Reading.{ranged, octet_at, number_at, sized_at, client_id_at, topic_at, filter_at, body_at, flag_at, presence_of, presence_at, phase_from, phase_at, qos_at}
use Rattle.rep_op.specs.Spelling.{client_octets}
use Rattle.rep_op.specs.Sessions.{text_octets, flag_octet, presence_octet, phase_octet}
use Rattle.rep_read.proofs.Laws.{Law, made_law, ranged_law, same_law, octet_law, wide16, number_law, sized_law}

abbrev pub one_octet : ℕ → List ℕ
one_octet n = n ∷ []

abbrev pub IsOctet : ℕ → Type 0
IsOctet n = n < 256

-- ---- texts

pub client_law : Law client_id_at client_octets IsClientId
unfolding client_id_at
client_law =
    same_law client_id_at (λ t. one_octet (length t) ++ t) (λ t. IsOctet (length t) × ((nat_le 1 (length t) && nat_le (length t) 23) ≡ true))
    (sized_law (λ n. nat_le 1 n && nat_le n 23) octet_at one_octet IsOctet octet_law) client_octets IsClientId
    (λ c h. (refl, let p = and_parts _ _ h.1 in (leb-true _ _ p.0, leb-true _ _ p.1)))
    (λ c h. (let most = h.1 in omega arith, and_from _ _ (le-leb _ _ h.0) (le-leb _ _ h.1)))

pub topic_law : Law topic_at text_octets IsName
unfolding topic_at
topic_law =
    same_law topic_at (λ t. to_be_bytes w16 (length t) ++ t) (λ t. ((length t < 2 ^ 16) × ((nat_le 1 (length t) && nat_le (length t) 256) ≡ true)) × (not (has_wildcard t) ≡ true))
    (ranged_law (λ name. not (has_wildcard name)) (sized_at (λ n. nat_le 1 n && nat_le n 256) (number_at w16)) (λ t. to_be_bytes w16 (length t) ++ t) (λ t. (length t < 2 ^ 16) × ((nat_le 1 (length t) && nat_le (length t) 256) ≡ true))
    (sized_law (λ n. nat_le 1 n && nat_le n 256) (number_at w16) (to_be_bytes w16) (λ n. n < 2 ^ 16) (number_law w16 (2 ^ 16) wide16)))
    text_octets IsName
    (λ t h. (refl, let p = and_parts _ _ h.0.1 in ((leb-true _ _ p.0, leb-true _ _ p.1), not-true _ h.1)))
    (λ t h. ((let most = h.0.1 in omega arith, and_from _ _ (le-leb _ _ h.0.0) (le-leb _ _ h.0.1)), not_from_false _ h.1))

pub filter_law : Law filter_at text_octets IsFilter
unfolding filter_at
filter_law =
    same_law filter_at (λ t. to_be_bytes w16 (length t) ++ t) (λ t. ((length t < 2 ^ 16) × ((nat_le 1 (length t) && nat_le (length t) 256) ≡ true)) × (wildcards_stand_alone (levels t) ≡ true))
    (ranged_law (λ name. wildcards_stand_alone (levels name)) (sized_at (λ n. nat_le 1 n && nat_le n 256) (number_at w16)) (λ t. to_be_bytes w16 (length t) ++ t) (λ t. (length t < 2 ^ 16) × ((nat_le 1 (length t) && nat_le (length t) 256) ≡ true))
    (sized_law (λ n. nat_le 1 n && nat_le n 256) (number_at w16) (to_be_bytes w16) (λ n. n < 2 ^ 16) (number_law w16 (2 ^ 16) wide16)))
    text_octets IsFilter
    (λ t h. (refl, let p = and_parts _ _ h.0.1 in ((leb-true _ _ p.0, leb-true _ _ p.1), h.1)))
    (λ t h. ((let most = h.0.1 in omega arith, and_from _ _ (le-leb _ _ h.0.0) (le-leb _ _ h.0.1)), h.1))

pub body_law : Law body_at text_octets (λ t. length t ≤ 4096)
unfolding body_at
body_law =
    same_law body_at (λ t. to_be_bytes w16 (length t) ++ t) (λ t. (length t < 2 ^ 16) × (nat_le (length t) 4096 ≡ true))
    (sized_law (λ n. nat_le n 4096) (number_at w16) (to_be_bytes w16) (λ n. n < 2 ^ 16) (number_law w16 (2 ^ 16) wide16))
    text_octets (λ t. length t ≤ 4096)
    (λ t h. (refl, leb-true _ _ h.1))
    (λ t h. (omega arith, le-leb _ _ h))

-- ---- sessions

flag_over : (n : ℕ) → nat_le n 1 ≡ true → one_octet n ≡ one_octet (flag_octet (n == 1))
flag_over zero e = refl
flag_over (suc zero) e = refl
flag_over (suc (suc n)) e = absurd (let le = leb-true _ _ e in omega arith)

flag_back : (b : Bool) → (n : ℕ) × ((n == 1) ≡ b) × (IsOctet n × (nat_le n 1 ≡ true)) × (one_octet n ≡ one_octet (flag_octet b))
flag_back true = (1, refl, (omega arith, refl), refl)
flag_back false = (0, refl, (omega arith, refl), refl)

pub flag_law : Law flag_at (λ b. one_octet (flag_octet b)) (λ b. Unit {0})
unfolding flag_at
flag_law =
    made_law (λ n. n == 1) (ranged (λ n. nat_le n 1) octet_at) one_octet (λ n. IsOctet n × (nat_le n 1 ≡ true)) (ranged_law (λ n. nat_le n 1) octet_at one_octet IsOctet octet_law)
    (λ b. one_octet (flag_octet b)) (λ b. Unit {0}) (λ n h. (flag_over n h.1, tt)) (λ b h. flag_back b)

presence_over : (n : ℕ) → nat_le n 4 ≡ true → one_octet n ≡ one_octet (presence_octet (presence_of n))
presence_over zero e = refl
presence_over (suc zero) e = refl
presence_over (suc (suc zero)) e = refl
presence_over (suc (suc (suc zero))) e = refl
presence_over (suc (suc (suc (suc zero)))) e = refl
presence_over (suc (suc (suc (suc (suc n))))) e = absurd (let le = leb-true _ _ e in omega arith)

presence_back : (p : Presence) → (n : ℕ) × (presence_of n ≡ p) × (IsOctet n × (nat_le n 4 ≡ true)) × (one_octet n ≡ one_octet (presence_octet p))
presence_back presences.Active = (0, refl, (omega arith, refl), refl)
presence_back presences.Asleep = (1, refl, (omega arith, refl), refl)
presence_back presences.Awake = (2, refl, (omega arith, refl), refl)
presence_back presences.Disconnected = (3, refl, (omega arith, refl), refl)
presence_back presences.Lost = (4, refl, (omega arith, refl), refl)

pub presence_law : Law presence_at (λ p. one_octet (presence_octet p)) (λ p. Unit {0})
unfolding presence_at
presence_law =
    made_law presence_of (ranged (λ n. nat_le n 4) octet_at) one_octet (λ n. IsOctet n × (nat_le n 4 ≡ true)) (ranged_law (λ n. nat_le n 4) octet_at one_octet IsOctet octet_law)
    (λ p. one_octet (presence_octet p)) (λ p. Unit {0}) (λ n h. (presence_over n h.1, tt)) (λ p h. presence_back p)

phase_over : (n : ℕ) → nat_le n 2 ≡ true → one_octet n ≡ one_octet (phase_octet (phase_from n))
phase_over zero e = refl
phase_over (suc zero) e = refl
phase_over (suc (suc zero)) e = refl
phase_over (suc (suc (suc n))) e = absurd (let le = leb-true _ _ e in omega arith)

phase_back : (p : Phase) → (n : ℕ) × (phase_from n ≡ p) × (IsOctet n × (nat_le n 2 ≡ true)) × (one_octet n ≡ one_octet (phase_octet p))
phase_back phases.Registering = (0, refl, (omega arith, refl), refl)
phase_back phases.Published = (1, refl, (omega arith, refl), refl)
phase_back phases.Released = (2, refl, (omega arith, refl), refl)

pub phase_law : Law phase_at (λ p. one_octet (phase_octet p)) (λ p. Unit {0})
unfolding phase_at
phase_law =
    made_law phase_from (ranged (λ n. nat_le n 2) octet_at) one_octet (λ n. IsOctet n × (nat_le n 2 ≡ true)) (ranged_law (λ n. nat_le n 2) octet_at one_octet IsOctet octet_law)
    (λ p. one_octet (phase_octet p)) (λ p. Unit {0}) (λ n h. (phase_over n h.1, tt)) (λ p h. phase_back p)

abbrev pub IsQos : ℕ → Type 0
IsQos n = IsOctet n × (is_qos n ≡ true)

pub qos_law : Law qos_at one_octet IsQos
unfolding qos_at
qos_law = ranged_law is_qos octet_at one_octet IsOctet octet_law
