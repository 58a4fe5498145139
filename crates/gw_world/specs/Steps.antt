-- What one event may do at one gateway, beyond what a call of its node does: it stops and is opened
-- again, or its digest goes to a peer.
use Rattle.std.specs.Prelude.{◌≡◌, ℕ, length, List, [], Result, Ok, Err}
use Rattle.std.specs.List.{AllByRecursion}
use Rattle.rep_op.specs.declared.op.Op.{Op}
use Rattle.rep_answer.specs.Answers.{IsAnswer}
use Rattle.rep_digest.specs.Digests.{digest}
use Rattle.rep_digest.specs.Spelling.{IsDigestWithinLimit}
use Rattle.jr_journal.specs.Records.{records}
use Rattle.gw_answer.specs.declared.out.Out.{Out}
use Rattle.gw_answer.specs.declared.refusal.Refusal.{Refusal}
use Rattle.gw_answer.specs.declared.refusal.Refusal.TheVariants as refusals
use Rattle.gw_event.specs.Drives.{left_by}
use Rattle.gw_event.specs.Gateways.{Gateway, reopened}
use Rattle.gw_answer.specs.Answers.{only_sends}
use Rattle.gw_event.specs.Event.{IsWritable}

-- how many records an opening reads if a stop leaves so many unsynced bytes of each slot
abbrev pub records_left : ℕ → Gateway → ℕ
records_left kept old = length (records old.config.gateway (left_by kept old.drive))

-- the gateway stops, so many unsynced bytes of each slot are left, and it is opened again on that
abbrev pub restarted : ℕ → Gateway → Gateway
restarted kept old = reopened (left_by kept old.drive) old

-- A gateway's digest goes to a peer, which answers with what it must keep and the digest does not
-- cover. Neither changes. A digest that is too long is not made, and the answer is Full.
abbrev pub AnswerStep : Gateway → Gateway → Result Out Refusal → List (List Op) → Type 0
AnswerStep asker peer (Ok out) made =
    IsDigestWithinLimit (digest asker.taken) × IsAnswer (digest asker.taken) peer.taken made
    × AllByRecursion IsWritable made
    × (out ≡ record (only_sends []) { answer = made })
AnswerStep asker peer (Err refusals.Full) made =
    (¬ (IsDigestWithinLimit (digest asker.taken))) × (made ≡ [])
AnswerStep asker peer answer made = ⊥
