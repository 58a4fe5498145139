-- Worked examples of the definitions.
use Rattle.std.proofs.Common.{◌≡◌, ℕ, List, [], ◌∷◌, refl, true}
use Rattle.sn_session.specs.declared.change.SessionOp.TheVariants.{Take}
use Rattle.sn_session.specs.Session.{empty_session}
use Rattle.rep_op.specs.declared.op.Op.{Op}
use Rattle.rep_op.specs.declared.op.Op.TheVariants.{Session as OfSession}
use Rattle.rep_model.specs.Views.{gapless}
use Rattle.rep_digest.specs.Digests.{digest, origin_entries, numbers_from}
use Rattle.rep_digest.specs.Spelling.{digest_spelling}

-- a client `s1`
abbrev pub s1 : List ℕ
s1 = 0x73 ∷ 0x31 ∷ []

-- it connected for 60 seconds with a clean session
abbrev connected : Op
connected = OfSession s1 (record { epoch = 1; gateway = 1 }) 0 (Take (record empty_session { clean = true; duration = 60 }))

-- stamp 1.1, one operation, no message
abbrev digest_octets : List ℕ
digest_octets =
    0x01 ∷ 0x00 ∷ 0x00 ∷ 0x00 ∷ 0x01 ∷ 0x02 ∷ 0x73 ∷ 0x31 ∷ 0x00 ∷ 0x00 ∷ 0x00 ∷ 0x00 ∷ 0x00 ∷ 0x00 ∷ 0x00 ∷ 0x01 ∷ 0x01 ∷ 0x00 ∷ 0x01 ∷ 0x00 ∷ 0x00 ∷ []

digest_spelled : digest_spelling (digest (connected ∷ [])) ≡ digest_octets
unfolding gapless origin_entries numbers_from
digest_spelled = refl
