-- The exits of an append.
use Rattle.std.proofs.Common.{◌≡◌, ℕ, Bool, true, false, ◌||◌, List, [], ◌∷◌, ◌++◌, length, take, min, Some, None, Result, Ok, Err, refl, sym, ap, subst, ◌∙◌, arith}
use Rattle.std.specs.Prelude.{IsTrue, IfErr, OnOk, OnErr, IsErr, IsErrAnd}
use Rattle.std.specs.Result.{is_err}
use Rattle.std.proofs.lemmas.Bool.{and_parts, eqb-true}
use Rattle.std.proofs.lemmas.List.{take_all, take_min}
use Rattle.rep_op.specs.declared.op.Op.{Op}
use Rattle.jr_disk.specs.declared.disk.Slot.{Slot}
use Rattle.jr_disk.specs.declared.disk.Slot.TheVariants.{First, Second}
use Rattle.jr_disk.specs.declared.disk.Short.{Short}
use Rattle.jr_disk.specs.declared.disk.DiskFault.{DiskFault}
use Rattle.jr_disk.specs.declared.disk.Failure.TheVariants.{Stop, KeepBack, FailSync}
use Rattle.jr_journal.specs.declared.piece.Found.{Found}
use Rattle.jr_disk.specs.Disk.{SlotBytes, Slots, at, replaced, image, appended, all_synced, AppendsAs, SyncsAs}
use Rattle.jr_journal.specs.Records.{written, slot_content, generation_in, records}
use Rattle.jr_journal.specs.Readable.{IsReadable}
use Rattle.jr_journal.specs.Crashes.{Leaves, LeavesOneMore}
use Rattle.jr_journal.specs.Arranged.{after_append, IsStruck, AppendedAs}
use Rattle.jr_journal.specs.inner.Journals.{is_in_use}
use Rattle.jr_journal.proofs.Calm.{Outlook}
use Rattle.jr_journal.proofs.Settled.{IsUsed, in_use_shape, in_use_again, used_leaves, used_records, more_leaves, synced_used}

-- ---- a result that was tested

pub on_ok : {T E P : Type 0} (r : Result T E) → false ≡ is_err r → OnOk r P → P
on_ok (Ok x) e h = h
on_ok (Err x) e h = absurd cc

pub on_err : {T E P : Type 0} (r : Result T E) → true ≡ is_err r → OnErr r P → P
on_err (Ok x) e h = absurd cc
on_err (Err x) e h = h

pub err_written : {T : Type 0} (r : Result T Short) (P : ℕ → Type 0) → true ≡ is_err r → IfErr r (λ short. P short.written) → (w : ℕ) × P w
err_written (Ok x) P e h = absurd cc
err_written (Err short) P e h = (short.written, h)

-- ---- where the journal was not halted

abbrev pub IsKept : ℕ → Slot → ℕ → Bool → Slots → Type 0
IsKept gateway slot generation halted d = IsTrue (halted || is_in_use gateway slot generation d)

pub going_on : (gateway : ℕ) (slot : Slot) (generation : ℕ) (halted : Bool) (d : Slots) → IsKept gateway slot generation halted d → halted ≡ false → (f : Found) × IsUsed gateway slot d generation f
going_on gateway slot generation true d h e = absurd cc
going_on gateway slot generation false d h e = in_use_shape gateway slot generation d h

pub number_kept : (gateway : ℕ) (slot : Slot) (generation : ℕ) (halted : Bool) (d : Slots) → IsKept gateway slot generation halted d → halted ≡ false → generation ≡ generation_in (slot_content gateway (at d slot).synced)
number_kept gateway slot generation true d h e = absurd cc
number_kept gateway slot generation false d h e = sym (eqb-true (generation_in (slot_content gateway (at d slot).synced)) generation (and_parts _ _ h).1)

pub torn_after : (gateway : ℕ) (slot : Slot) (generation : ℕ) (halted : Bool) (old new : Slots) (delta : List Op) (bytes : List ℕ) (w : ℕ) → IsKept gateway slot generation halted old → halted ≡ false → IsReadable delta → bytes ≡ written delta
    → new ≡ replaced old slot (appended (at old slot) (take w bytes)) → LeavesOneMore gateway new (records gateway (image old)) delta
torn_after gateway slot generation halted old new delta bytes w kept runs readable spelled is =
    let u = going_on gateway slot generation halted old kept runs in
    let more : new ≡ replaced old slot (appended (at old slot) (take w (written delta))) = is ∙ ap (λ xs. replaced old slot (appended (at old slot) (take w xs))) spelled in
    subst (λ (d : Slots). LeavesOneMore gateway d (records gateway (image old)) delta) (sym more) (more_leaves gateway slot old generation u.0 delta w u.1 readable)

pub all_out : (slot : Slot) (old middle new : Slots) (bytes : List ℕ) → middle ≡ replaced old slot (appended (at old slot) bytes) → new ≡ middle → new ≡ replaced old slot (appended (at old slot) (take (length bytes) bytes))
all_out slot old middle new bytes e f = f ∙ (e ∙ ap (λ xs. replaced old slot (appended (at old slot) xs)) (sym (take_all (length bytes) bytes (omega arith))))

replaced_twice : (slot : Slot) (d : Slots) (s : SlotBytes) → replaced (replaced d slot s) slot (all_synced (at (replaced d slot s) slot)) ≡ replaced d slot (all_synced s)
replaced_twice First d s = refl
replaced_twice Second d s = refl

pub synced_is : (slot : Slot) (old middle new : Slots) (delta : List Op) (bytes : List ℕ) → bytes ≡ written delta → middle ≡ replaced old slot (appended (at old slot) bytes) → new ≡ replaced middle slot (all_synced (at middle slot))
    → new ≡ replaced old slot (all_synced (appended (at old slot) (written delta)))
synced_is slot old middle new delta bytes spelled e f =
    f ∙ (ap (λ d. replaced d slot (all_synced (at d slot))) e ∙ (replaced_twice slot old (appended (at old slot) bytes) ∙ ap (λ xs. replaced old slot (all_synced (appended (at old slot) xs))) spelled))

pub settles_after : (gateway : ℕ) (slot : Slot) (generation : ℕ) (halted : Bool) (old new : Slots) (delta : List Op) → IsKept gateway slot generation halted old → halted ≡ false → IsReadable delta
    → new ≡ replaced old slot (all_synced (appended (at old slot) (written delta))) → is_in_use gateway slot generation new ≡ true
settles_after gateway slot generation halted old new delta kept runs readable is =
    let u = going_on gateway slot generation halted old kept runs in
    let s = synced_used gateway slot old generation u.0 delta u.1 readable in
    ap (λ d. is_in_use gateway slot generation d) is ∙ in_use_again gateway slot (replaced old slot (all_synced (appended (at old slot) (written delta)))) generation _ s

pub durable_after : (gateway : ℕ) (slot : Slot) (generation : ℕ) (halted : Bool) (old new : Slots) (delta : List Op) → IsKept gateway slot generation halted old → halted ≡ false → IsReadable delta
    → new ≡ replaced old slot (all_synced (appended (at old slot) (written delta))) → Leaves gateway new (records gateway (image old) ++ delta ∷ [])
durable_after gateway slot generation halted old new delta kept runs readable is =
    let u = going_on gateway slot generation halted old kept runs in
    let s = synced_used gateway slot old generation u.0 delta u.1 readable in
    let l = used_leaves gateway slot (replaced old slot (all_synced (appended (at old slot) (written delta)))) generation _ s in
    let before : u.0.deltas ≡ records gateway (image old) = sym (used_records gateway slot old generation u.0 u.1) in
    subst (λ (d : Slots). Leaves gateway d (records gateway (image old) ++ delta ∷ [])) (sym is)
    (subst (λ (xs : List (List Op)). Leaves gateway (replaced old slot (all_synced (appended (at old slot) (written delta)))) (xs ++ delta ∷ [])) before l)

-- ---- the failure that came

-- so much went out
pub struck_short : (r : Result (Unit {0}) Short) (Honest : Type 0) (slot : Slot) (old new : Slots) (out bytes : List ℕ) → true ≡ is_err r → bytes ≡ out
    → (Honest → IfErr r (λ short. new ≡ replaced old slot (appended (at old slot) (take short.written bytes)))) → IsStruck Honest old slot out new
struck_short (Ok done) Honest slot old new out bytes e spelled is = absurd cc
struck_short (Err short) Honest slot old new out bytes e spelled is = (
  Stop short.written,
  λ honest.
      is honest ∙ ap (λ xs. replaced old slot (appended (at old slot) (take short.written xs))) spelled
      ∙ ap (λ xs. replaced old slot (appended (at old slot) xs)) (sym (take_min short.written out)),
)

-- all went out, and the sync after it failed
pub struck_kept : (Honest : Type 0) (slot : Slot) (old middle new : Slots) (out bytes : List ℕ) → bytes ≡ out
    → (Honest → middle ≡ replaced old slot (appended (at old slot) bytes)) → (Honest → new ≡ middle) → IsStruck Honest old slot out new
struck_kept Honest slot old middle new out bytes spelled e f =
    (KeepBack, λ honest. f honest ∙ e honest ∙ ap (λ xs. replaced old slot (appended (at old slot) xs)) spelled)

-- ---- where it is known what is arranged

no_err : {T E A : Type 0} (P : E → Type 0) (r : Result T E) → false ≡ is_err r → IsErrAnd r P → A
no_err P (Ok x) e h = absurd h
no_err P (Err x) e h = absurd cc

was_err : {T E A : Type 0} (r : Result T E) → false ≡ is_err r → IsErr r → A
was_err (Ok x) e h = absurd cc
was_err (Err x) e h = absurd cc

-- the append and its sync were done: nothing was arranged
pub done_as : (start middle after : Outlook) (old new : Slots) (slot : Slot) (bytes : List ℕ) (n : ℕ) (r : Result (Unit {0}) Short) (q : Result (Unit {0}) DiskFault) → false ≡ is_err r → false ≡ is_err q → AppendsAs start n r middle → SyncsAs middle q after
    → new ≡ after_append None old slot bytes → AppendedAs start old slot bytes (Ok tt) new after
done_as None middle after old new slot bytes n r q fine good h k e = tt
done_as (Some None) middle after old new slot bytes n r q fine good h k e = (refl, e, (subst (λ (o : Outlook). SyncsAs o q after) h.1 k).1)
done_as (Some (Some (Stop w))) middle after old new slot bytes n r q fine good h k e = no_err (λ (short : Short). short.written ≡ min w n) r fine h.0
done_as (Some (Some KeepBack)) middle after old new slot bytes n r q fine good h k e = was_err q good (subst (λ (o : Outlook). SyncsAs o q after) h.1 k).0
done_as (Some (Some FailSync)) middle after old new slot bytes n r q fine good h k e = was_err q good (subst (λ (o : Outlook). SyncsAs o q after) h.1 k).0
