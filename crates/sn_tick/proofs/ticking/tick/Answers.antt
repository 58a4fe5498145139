use Rattle.sn_tick.proofs.ticking.tick.Goals as goal

pub returns : goal.returns
returns g c = rw (c.last_until.ensures, c.expires_at-moment.ensures, c.in_ok-draft.ensures) at c.plan_one_thing.ensures
