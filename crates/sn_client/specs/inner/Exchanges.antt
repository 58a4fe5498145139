-- An exchange from frame to frame.
use Rattle.std.specs.Prelude.{◌≡◌, ℕ, Bool, List, IfSome, if◌then◌else◌, Option, Some, None}
use Rattle.sn_frame.specs.declared.frame.Frame.{Frame}
use Rattle.sn_frame.specs.declared.frame.Frame.TheVariants as frames
use Rattle.sn_client.specs.declared.talk.Awaited.{Awaited}
use Rattle.sn_client.specs.declared.talk.Awaited.TheVariants as waits
use Rattle.sn_client.specs.declared.talk.Outcome.{Outcome}
use Rattle.sn_client.specs.declared.talk.Outcome.TheVariants as outcomes
use Rattle.sn_client.specs.declared.talk.Publication.{Publication}
use Rattle.sn_client.specs.declared.talk.Talk.{Talk}
use Rattle.sn_client.specs.declared.talk.Turn.{Turn}
use Rattle.sn_client.specs.declared.talk.Turn.TheVariants as turns
use Rattle.sn_client.specs.inner.Talking.{awaited_at, outcome_at, msg_id_of, id_awaited}

-- an exchange that begins with a frame
abbrev pub beginning : Option Frame → Awaited → Talk
beginning frame awaited =
    record { awaited = awaited; pending = frame; planned = None; outcome = None }

-- a publication after the registration of its topic's name
abbrev pub registering : Publication → List ℕ → ℕ → Talk
registering p name id =
    record {
      awaited = waits.Registration id;
      pending = Some (frames.Register 0 id name);
      planned = Some p;
      outcome = None;
    }

-- a publication by the id of its topic
abbrev pub frame_by_id : Publication → ℕ → Frame
frame_by_id p topic = frames.Publish p.flags topic p.msg_id p.body

-- an exchange that is that publication
abbrev pub publishing_of : Publication → ℕ → Talk
publishing_of p topic = record {
  awaited = awaited_at p.qos p.msg_id;
  pending = Some (frame_by_id p topic);
  planned = None;
  outcome = outcome_at p.qos;
}

-- what is planned is published, if something is
abbrev pub planned_of : Option Publication → ℕ → Talk → Talk
planned_of None topic talk = talk
planned_of (Some p) topic talk = publishing_of p topic

-- How an exchange has ended if one more answer comes. Its frame may have been sent again, so what
-- was accepted stays accepted. If nothing accepts, and it was only taken for accepted, a refusal
-- counts.
abbrev pub outcome_after : Awaited → Option Outcome → Outcome → Outcome
outcome_after (waits.Refusal id) had outcome = outcome
outcome_after awaited (Some outcomes.Accepted) outcome = outcomes.Accepted
outcome_after awaited had outcome = outcome

-- the exchange after a turn
abbrev pub turned : Turn → Talk → Talk
turned turns.Stay talk = talk
turned (turns.Publish topic) talk = planned_of talk.planned topic talk
turned (turns.Release id) talk =
    record talk { awaited = waits.Completion id; pending = Some (frames.PubRel id) }
turned (turns.End outcome) talk =
    record talk { outcome = Some (outcome_after talk.awaited talk.outcome outcome) }

-- how a run ends if nothing has ended the exchange
abbrev pub outcome_of_silence : Awaited → Bool → Outcome
outcome_of_silence waits.Anything came = if came then outcomes.Accepted else outcomes.Unanswered
outcome_of_silence awaited came = outcomes.Unanswered

-- how a run ends: as the exchange did, else by silence
abbrev pub outcome_of : Option Outcome → Awaited → Bool → Outcome
outcome_of None awaited came = outcome_of_silence awaited came
outcome_of (Some outcome) awaited came = outcome

-- what is awaited has the message id of what is sent
abbrev pub IsAsked : Talk → Type 0
IsAsked talk = IfSome talk.pending (λ frame. msg_id_of frame ≡ id_awaited talk.awaited)
