-- A new journal, begun in part.
use Rattle.std.proofs.Common.{◌≡◌, ℕ, ◌-◌, List, [], length, take, Result, sym, ap, ◌∙◌, inr, true, false, arith}
use Rattle.std.specs.Prelude.{IfErr, OnOk, OnErr}
use Rattle.std.specs.Result.{is_err}
use Rattle.std.proofs.lemmas.List.{take_all}
use Rattle.jr_disk.specs.declared.disk.Slot.TheVariants.{First}
use Rattle.jr_disk.specs.declared.disk.Short.{Short}
use Rattle.jr_disk.specs.declared.disk.DiskFault.{DiskFault}
use Rattle.jr_disk.specs.Disk.{SlotBytes, Slots, replaced, appended, cut_to}
use Rattle.jr_journal.specs.Records.{new_journal}
use Rattle.jr_journal.specs.inner.Opening.{IsBegun}
use Rattle.jr_journal.proofs.Appending.{on_ok, on_err, err_written}

-- an emptied slot, and bytes after that
emptied : (s : SlotBytes) (bytes : List ℕ) → appended (cut_to s 0) bytes ≡ record { synced = []; unsynced = bytes }
emptied s bytes = let none : 0 - length s.synced ≡ 0 = omega arith in λ j. appended (record { synced = []; unsynced = take (none j) s.unsynced }) bytes

begun_with : (gateway : ℕ) (old middle new : Slots) (sent : List ℕ) (w : ℕ) → middle ≡ replaced old First (cut_to old.first 0) → sent ≡ new_journal gateway → new ≡ replaced middle First (appended middle.first (take w sent)) → IsBegun gateway old new
begun_with gateway old middle new sent w cut is went =
    inr (
      w,
      went ∙ (ap (λ d. replaced d First (appended d.first (take w sent))) cut ∙
          (ap (λ s. replaced old First s) (emptied old.first (take w sent)) ∙ ap (λ xs. replaced old First (record { synced = []; unsynced = take w xs })) is)),
    )

pub begun_short : (gateway : ℕ) (old middle new : Slots) (sent : List ℕ) (r : Result (Unit {0}) DiskFault) (q : Result (Unit {0}) Short) → false ≡ is_err r → true ≡ is_err q → OnOk r (middle ≡ replaced old First (cut_to old.first 0)) → sent ≡ new_journal gateway
    → IfErr q (λ short. new ≡ replaced middle First (appended middle.first (take short.written sent))) → IsBegun gateway old new
begun_short gateway old middle new sent r q cut_ok failed cut is went =
    let e = err_written q (λ w. new ≡ replaced middle First (appended middle.first (take w sent))) failed went in
    begun_with gateway old middle new sent e.0 (on_ok r cut_ok cut) is e.1

pub begun_whole : (gateway : ℕ) (old middle later new : Slots) (sent : List ℕ) (r : Result (Unit {0}) DiskFault) (q : Result (Unit {0}) Short) (p : Result (Unit {0}) DiskFault) → false ≡ is_err r → false ≡ is_err q → true ≡ is_err p
    → OnOk r (middle ≡ replaced old First (cut_to old.first 0)) → sent ≡ new_journal gateway → OnOk q (later ≡ replaced middle First (appended middle.first sent)) → OnErr p (new ≡ later) → IsBegun gateway old new
begun_whole gateway old middle later new sent r q p cut_ok sent_ok failed cut is went stays =
    let all : take (length sent) sent ≡ sent = take_all (length sent) sent (omega arith) in
    let e : later ≡ replaced middle First (appended middle.first (take (length sent) sent)) = on_ok q sent_ok went ∙ ap (λ xs. replaced middle First (appended middle.first xs)) (sym all) in
    begun_with gateway old middle new sent (length sent) (on_ok r cut_ok cut) is (on_err p failed stays ∙ e)
