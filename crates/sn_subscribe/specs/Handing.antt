-- What a subscriber is handed of what is retained (MQTT-SN 1.2 section 6.9).
use Rattle.std.specs.Prelude.{ℕ, ◌-◌, min, List, length, filter, map, take}
use Rattle.rep_op.specs.declared.op.Retained.{Retained}
use Rattle.rep_model.specs.Topics.{is_offered}
use Rattle.sn_local.specs.Seen.{Seen}
use Rattle.sn_plan.specs.declared.draft.Posted.{Posted}
use Rattle.sn_plan.specs.declared.limits.TheConstants.{MAX_PENDING}

-- how many messages wait for the client
abbrev pub waiting_for : Seen → List ℕ → ℕ
waiting_for seen c = length (seen.of c).pending

-- what is retained of a topic, at this quality of service at most
abbrev pub at_most : ℕ → List ℕ × Retained → Posted
at_most qos e = record { topic = e.0; qos = min e.1.qos qos; body = e.1.body }

-- What a client that subscribes to the filter is handed: what is retained of the topics that the
-- filter asks for, in ascending order, as long as fewer than 1,024 messages wait for it.
abbrev pub handed_for : Seen → List ℕ → ℕ → ℕ → List Posted
handed_for seen asked qos waiting =
    map (at_most qos) (take (MAX_PENDING - waiting) (filter (is_offered asked) seen.topics))
