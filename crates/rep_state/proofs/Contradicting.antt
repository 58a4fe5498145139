-- An operation against what is kept under its name.
use Rattle.std.proofs.Common.{◌≡◌, ℕ, List, [], Option, IfSome, sym, ap, ◌∙◌, subst}
use Rattle.std.specs.FinMap.{find}
use Rattle.sn_session.specs.declared.change.SessionOp.{SessionOp}
use Rattle.rep_op.specs.declared.op.Stamp.{Stamp}
use Rattle.rep_op.specs.declared.op.Put.{Put}
use Rattle.rep_op.specs.declared.op.Op.{Op}
use Rattle.rep_op.specs.declared.op.Op.TheVariants.{Session as OfSession, Put as OfPut, Ack, Retain as OfRetain}
use Rattle.rep_op.specs.Orders.{operation_cmp, put_cmp, client_of}
use Rattle.rep_op.specs.Sets.{operation_at, put_at, Agrees}
use Rattle.rep_entry.specs.declared.entry.Entry.{Entry}
use Rattle.rep_entry.specs.Entries.{entry_row}
use Rattle.rep_log.specs.Mail.{put_by_name}
use Rattle.rep_log.specs.Origins.{ranges_in}
use Rattle.rep_entry.proofs.Client.{kept_operations, kept_puts}

pub agrees_session : (e : Entry) (c : List ℕ) (s : Stamp) (k : ℕ) (x : SessionOp) (op : Op) (o : Option SessionOp) (B : Type 0) → op ≡ OfSession c s k x → o ≡ find operation_cmp (s, k) e.known
    → (B → IfSome o (λ (kept : SessionOp). kept ≡ x)) × (IfSome o (λ (kept : SessionOp). kept ≡ x) → B)
    → (B → Agrees (entry_row (client_of op) e) op) × (Agrees (entry_row (client_of op) e) op → B)
agrees_session e c s k x op o B is h both =
    let found : o ≡ operation_at c (entry_row c e) (s, k) = h ∙ sym (ap (find operation_cmp (s, k)) (kept_operations c e.known e.seen.pending (ranges_in e.acks))) in (
      λ b. subst (λ (op : Op). Agrees (entry_row (client_of op) e) op) (sym is) (subst (λ (o : Option SessionOp). IfSome o (λ (kept : SessionOp). kept ≡ x)) found (both.0 b)),
      λ a. both.1 (subst (λ (o : Option SessionOp). IfSome o (λ (kept : SessionOp). kept ≡ x)) (sym found) (subst (λ (op : Op). Agrees (entry_row (client_of op) e) op) is a)),
    )

pub agrees_put : (e : Entry) (c : List ℕ) (p : Put) (op : Op) (o : Option Put) (B : Type 0) → op ≡ OfPut c p → o ≡ put_by_name (p.seq, p.origin) e.seen.pending
    → (B → IfSome o (λ (kept : Put). kept ≡ p)) × (IfSome o (λ (kept : Put). kept ≡ p) → B)
    → (B → Agrees (entry_row (client_of op) e) op) × (Agrees (entry_row (client_of op) e) op → B)
agrees_put e c p op o B is h both =
    let found : o ≡ put_at c (entry_row c e) (p.seq, p.origin) = h ∙ sym (ap (find put_cmp (p.seq, p.origin)) (kept_puts c e.known e.seen.pending (ranges_in e.acks))) in (
      λ b. subst (λ (op : Op). Agrees (entry_row (client_of op) e) op) (sym is) (subst (λ (o : Option Put). IfSome o (λ (kept : Put). kept ≡ p)) found (both.0 b)),
      λ a. both.1 (subst (λ (o : Option Put). IfSome o (λ (kept : Put). kept ≡ p)) (sym found) (subst (λ (op : Op). Agrees (entry_row (client_of op) e) op) is a)),
    )

-- nothing is contradicted where nothing is kept
pub agrees_nothing : (op : Op) → Agrees [] op
agrees_nothing (OfSession c s k x) = tt
agrees_nothing (OfPut c p) = tt
agrees_nothing (Ack c origin first last) = tt
agrees_nothing (OfRetain t k) = tt
