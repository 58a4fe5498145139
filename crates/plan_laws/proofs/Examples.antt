-- Worked rows: topics of wills that a dialog may have been given, and the operation that a first CONNECT makes; who is up after it.
use Rattle.std.proofs.Common.{◌≡◌, ℕ, true, false, List, [], ◌∷◌, refl}
use Rattle.sn_session.specs.declared.will.WillTopic.{WillTopic}
use Rattle.sn_local.specs.declared.local.Awaited.TheVariants.{Topic, Message}
use Rattle.rep_op.specs.declared.op.Op.TheVariants.{Session as OfSession, Ack}
use Rattle.rep_op.specs.WellMade.{is_well_made}
use Rattle.rep_model.specs.Views.{view, gapless}
use Rattle.sn_session.specs.declared.change.SessionOp.TheVariants.{Take}
use Rattle.sn_local.specs.Bindings.{is_owned}
use Rattle.sn_plan.specs.Others.{can_wake}
use Rattle.sn_local.specs.Seen.{seen_of}
use Rattle.sn_flow.proofs.Rows.{s1, session_of_s1, first_take}
use Rattle.plan_laws.specs.KeepsWell.{is_asked}

abbrev topic_at : ℕ → WillTopic
topic_at qos = record { topic = 97 ∷ []; qos = qos; retain = false }

-- no topic was given yet; one of quality of service 2; one of 3, which no frame gives
asked_nothing : is_asked Topic ≡ true
asked_nothing = refl

asked_two : is_asked (Message (topic_at 2)) ≡ true
asked_two = refl

asked_three : is_asked (Message (topic_at 3)) ≡ false
asked_three = refl

-- the Take of a first CONNECT can be written; under gateway number 0, or with another counter, it could not
first_made : is_well_made first_take ≡ true
first_made = refl

unnumbered : is_well_made (OfSession s1 (record { epoch = 1; gateway = 0 }) 0 (Take session_of_s1)) ≡ false
unnumbered = refl

miscounted : is_well_made (OfSession s1 (record { epoch = 1; gateway = 1 }) 1 (Take session_of_s1)) ≡ false
miscounted = refl

-- an acknowledgement of message 0 could not
no_message : is_well_made (Ack s1 1 0 0) ≡ false
no_message = refl

-- after that Take the client is gateway 1's, and up; it is not gateway 2's, and where there is no Take it is not up
owned_first : is_owned 1 (seen_of (first_take ∷ [])) s1 ≡ true
owned_first = refl

owned_elsewhere : is_owned 2 (seen_of (first_take ∷ [])) s1 ≡ false
owned_elsewhere = refl

up_first : can_wake (view s1 (first_take ∷ [])).session ≡ true
unfolding gapless
up_first = refl

nobody_up : can_wake (view s1 []).session ≡ false
nobody_up = refl
