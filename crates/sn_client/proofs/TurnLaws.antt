-- A frame that moves an exchange on, or ends it well, has the message id of what is awaited.
use Rattle.std.proofs.Common.{◌≡◌, ℕ, ◌==◌, true, false, if◌then◌else◌, eqb-true, refl}
use Rattle.sn_frame.specs.declared.frame.Frame.{Frame}
use Rattle.sn_frame.specs.declared.frame.Frame.TheVariants as frames
use Rattle.sn_client.specs.declared.talk.Awaited.{Awaited}
use Rattle.sn_client.specs.declared.talk.Awaited.TheVariants as waits
use Rattle.sn_client.specs.declared.talk.Outcome.TheVariants as outcomes
use Rattle.sn_client.specs.declared.talk.Turn.{Turn}
use Rattle.sn_client.specs.declared.talk.Turn.TheVariants as turns
use Rattle.sn_client.specs.inner.Talking.{turn_of, turn_under, turn_by_code, turn_by_refusal, turn_by_reg_ack, msg_id_of, id_awaited, OnProgress}

-- what holds is held on progress too
progress : (turn : Turn) (P : Type 0) → P → OnProgress turn P
progress turns.Stay P p = tt
progress (turns.Publish topic) P p = p
progress (turns.Release id) P p = p
progress (turns.End outcomes.Accepted) P p = p
progress (turns.End outcomes.Refused) P p = tt
progress (turns.End outcomes.Unanswered) P p = tt

-- a turn under one message id
under : (id came : ℕ) (turn : Turn) → OnProgress (turn_under id came turn) (came ≡ id)
under id came turn =
    elim (came == id) as (λ b. (came == id) ≡ b → OnProgress (if b then turn else turns.Stay) (came ≡ id)) [
      | true ↦ λ e. progress turn (came ≡ id) (eqb-true came id e)
      | false ↦ λ e. tt
    ] refl

-- each answer to what is awaited, and all else
pub own : (awaited : Awaited) (f : Frame) → OnProgress (turn_of awaited f) (msg_id_of f ≡ id_awaited awaited)
own waits.Gateway (frames.GwInfo gateway address) = refl
own waits.Connection (frames.ConnAck code) = progress (turn_by_code code) (0 ≡ 0) refl
own (waits.Registration id) (frames.RegAck topic came code) = under id came (turn_by_reg_ack topic code)
own (waits.Subscription id) (frames.SubAck flags topic came code) = under id came (turn_by_code code)
own (waits.Withdrawal id) (frames.UnsubAck came) = under id came (turns.End outcomes.Accepted)
own (waits.Publication id) (frames.PubAck topic came code) = under id came (turn_by_code code)
own (waits.Receipt id) (frames.PubAck topic came code) = under id came (turn_by_refusal code)
own (waits.Refusal id) (frames.PubAck topic came code) = under id came (turn_by_refusal code)
own (waits.Receipt id) (frames.PubRec came) = under id came (turns.Release id)
own (waits.Completion id) (frames.PubComp came) = under id came (turns.End outcomes.Accepted)
own waits.Waking frames.PingResp = refl
own waits.Farewell (frames.Disconnect duration) = refl
own awaited (frames.Disconnect duration) = tt
own awaited f = tt
