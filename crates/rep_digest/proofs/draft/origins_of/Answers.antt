use Rattle.std.proofs.Common.{[], ◌∙◌}
use Rattle.rep_digest.proofs.Drafting.{drafted_none}
use Rattle.rep_digest.proofs.draft.origins_of.Goals as goal

pub note_acknowledged-requires : goal.note_acknowledged-requires
note_acknowledged-requires c = ([], [], c.new-origins.ensures.items ∙ drafted_none)

pub note_waiting-requires : goal.note_waiting-requires
note_waiting-requires c = (c.args.acks.now, [], c.in_ok-note_acknowledged.ensures [] [] (c.new-origins.ensures.items ∙ drafted_none))

pub returns : goal.returns
returns c =
    c.new.ensures ∙ c.in_ok-note_waiting.ensures c.args.acks.now [] (c.in_ok-note_acknowledged.ensures [] [] (c.new-origins.ensures.items ∙ drafted_none))
