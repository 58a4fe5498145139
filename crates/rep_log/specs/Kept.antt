-- What a replica keeps of one client, as a list of operations.
use Rattle.std.specs.Prelude.{ℕ, List, ◌++◌, map}
use Rattle.sn_session.specs.declared.change.SessionOp.{SessionOp}
use Rattle.rep_op.specs.declared.op.Stamp.{Stamp}
use Rattle.rep_op.specs.declared.op.Put.{Put}
use Rattle.rep_op.specs.declared.op.Op.{Op}
use Rattle.rep_op.specs.declared.op.Op.TheVariants.{Session as OfSession, Put as OfPut, Ack}
use Rattle.rep_log.specs.Mail.{Range}

-- the session operations of a client, out of its log
abbrev pub of_log : List ℕ → List ((Stamp × ℕ) × SessionOp) → List Op
of_log c es = map (λ e. OfSession c e.0.0 e.0.1 e.1) es

-- the messages of a client, as operations
abbrev pub of_mail : List ℕ → List Put → List Op
of_mail c ps = map (λ p. OfPut c p) ps

-- the acknowledged ranges of a client, as operations
abbrev pub of_acks : List ℕ → List Range → List Op
of_acks c rs = map (λ r. Ack c r.0 r.1.0 r.1.1) rs

-- the client's session operations, messages and acknowledgements
abbrev pub kept_ops : List ℕ → List ((Stamp × ℕ) × SessionOp) → List Put → List Range → List Op
kept_ops c es ps rs = of_log c es ++ (of_mail c ps ++ of_acks c rs)
