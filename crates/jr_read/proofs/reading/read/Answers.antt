-- The records that were read stand in the slot that is read.
use Rattle.std.proofs.Common.{ℕ, List, ap, sym, subst, ◌∙◌, drop}
use Rattle.jr_journal.specs.Records.{records}
use Rattle.jr_journal.specs.Faults.{fault_of}
use Rattle.jr_journal.specs.Opening.{slot_read}
use Rattle.jr_read.specs.Places.{slots_of}
use Rattle.jr_read.proofs.Standing.{AreAll, all_records}
use Rattle.jr_read.proofs.reading.read.Goals as goal

pub places_of-requires : goal.places_of-requires
places_of-requires c =
    let gateway = c.args.gateway in
    let i = slots_of c.args.first.now c.args.second.now in
    let image_is = c.in_ok-disk.ensures in
    let opened = c.in_ok-opened.opened in
    let h = c.in_ok-opened.ensures in
    subst (λ (xs : List ℕ). AreAll (drop 13 xs) c.as_slice.result.now) (sym c.octets_of-octets.ensures)
    (all_records gateway i opened.slot c.as_slice.result.now
    (c.as_slice.ensures.value ∙ (h.records ∙ ap (λ x. records gateway x) image_is))
    (h.place ∙ ap (λ x. slot_read gateway x) image_is)
    (ap (λ x. fault_of gateway x) (sym image_is) ∙ h.found))
