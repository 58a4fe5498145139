-- What is retained of a publication.
use Rattle.std.specs.Prelude.{ℕ, Bool, ◌&&◌, ◌||◌, if◌then◌else◌, nat_lt, List, length, Option, Some, None, is_some}
use Rattle.sn_session.specs.declared.will.Will.{Will}
use Rattle.sn_plan.specs.declared.draft.Posted.{Posted}
use Rattle.sn_plan.specs.declared.limits.TheConstants.{MAX_TOPICS}
use Rattle.sn_local.specs.Seen.{Seen}

-- whether the topic has a place: something was retained of it before, or there are fewer than 1,024
-- topics of which something was
abbrev pub has_place : Seen → List ℕ → Bool
has_place seen topic = is_some (seen.retained topic) || nat_lt (length seen.topics) MAX_TOPICS

-- what is retained of a publication, if that is asked for and the topic has a place
abbrev pub retained_of : Seen → Bool → List ℕ → ℕ → List ℕ → Option Posted
retained_of seen asked topic qos body =
    if asked && has_place seen topic then Some (record { topic = topic; qos = qos; body = body })
    else None

-- what is retained of a will that is published
abbrev pub retained_of_will : Seen → Will → Option Posted
retained_of_will seen will = retained_of seen will.retain will.topic will.qos will.message
