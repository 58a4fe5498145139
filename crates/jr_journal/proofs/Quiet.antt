-- An opening and the failure that is arranged.
use Rattle.std.proofs.Common.{◌≡◌, ℕ, Bool, true, false, Result, Ok, Err, sym, ap, subst, ◌∙◌}
use Rattle.jr_journal.specs.declared.fault.JournalFault.{JournalFault}
use Rattle.jr_journal.specs.declared.fault.JournalFault.TheVariants.{Disk}
use Rattle.jr_journal.specs.declared.opening.Opening.{Opening}
use Rattle.jr_disk.specs.Disk.{Slots, Image, image}
use Rattle.jr_journal.specs.inner.Disk.{is_calm}
use Rattle.jr_journal.specs.Faults.{is_fresh}
use Rattle.jr_journal.specs.Arranged.{misses_failure, IsUnhurt}
use Rattle.jr_journal.specs.Opening.{synced_slots}
use Rattle.jr_journal.specs.inner.Opening.{IsOpening, is_new}
use Rattle.jr_journal.proofs.Calm.{Outlook, not_starved, quiet_calm}
use Rattle.jr_journal.proofs.Opened.{synced_same, opening_fresh}

-- the slots are synced: what is arranged stays
pub one_step : (fresh : Bool) (before after : Outlook) (s t : Bool) → (s ≡ true → t ≡ true) → t ≡ false → misses_failure before fresh ≡ true → (s ≡ false → is_calm before ≡ true → after ≡ before) → after ≡ before
one_step fresh before after s t kept fed quiet step = step (not_starved s t kept fed) (quiet_calm before fresh quiet)

-- after a step that leaves what is arranged, it is still none of the opening's
pub still_calm : (fresh : Bool) (before after : Outlook) → misses_failure before fresh ≡ true → after ≡ before → is_calm after ≡ true
still_calm fresh before after quiet same = quiet_calm after fresh (ap (λ o. misses_failure o fresh) same ∙ quiet)

pub still_quiet : (gateway : ℕ) (old synced : Slots) (o : Opening) (before after : Outlook) → synced ≡ synced_slots old → IsOpening gateway (image synced) o → misses_failure before (is_fresh (image old)) ≡ true → after ≡ before
    → misses_failure after (is_new o) ≡ true
still_quiet gateway old synced o before after e h quiet same =
    let here : IsOpening gateway (image old) o = subst (λ (i : Image). IsOpening gateway i o) (ap image e ∙ synced_same old) h in
    ap (λ x. misses_failure x (is_new o)) same ∙ (sym (ap (λ b. misses_failure before b) (opening_fresh gateway (image old) o here)) ∙ quiet)

pub unhurt_ok : {T : Type 0} (x : T) (before after : Outlook) → after ≡ before → IsUnhurt (Ok x) before after
unhurt_ok {T} x before after same =
    let okay : Result T JournalFault = Ok x in
    (λ told. let clash : okay ≡ Err Disk = told in cc, same)

pub unhurt_then : {T : Type 0} (r : Result T JournalFault) (start before after : Outlook) → before ≡ start → IsUnhurt r before after → IsUnhurt r start after
unhurt_then r start before after same h = (h.0, h.1 ∙ same)

-- a fault that a `?` passes on
pub unhurt_err : {T U : Type 0} (r : Result T JournalFault) (told fault : JournalFault) (before after : Outlook) → r ≡ Err told → told ≡ fault → IsUnhurt {T = U} (Err fault) before after → IsUnhurt r before after
unhurt_err {T} {U} r told fault before after is same h =
    let passed : Result U JournalFault = Err fault in
    let blamed : Result U JournalFault = Err Disk in
    (λ e. let one : Err told ≡ Err Disk = sym is ∙ e in let disk : told ≡ Disk = cc in let both : passed ≡ blamed = ap Err (sym same ∙ disk) in h.0 both, h.1)
