use Rattle.sn_tick.proofs.Idle.{idle_tick, idle_before}
use Rattle.step_laws.proofs.laws.idle_lasts.Goals as goal

pub returns-clause-nothing : goal.returns-clause-nothing
returns-clause-nothing c = λ g lifetime advertise field predefined seen local now h. idle_tick g lifetime advertise field predefined seen local now h

pub returns-clause-before : goal.returns-clause-before
returns-clause-before c = λ g advertise field seen local earlier now before h. idle_before earlier now before g advertise field seen local h
