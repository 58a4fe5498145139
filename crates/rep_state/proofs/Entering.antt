-- What an entry says is what is kept of its client says.
use Rattle.std.proofs.Common.{◌≡◌, ℕ, List}
use Rattle.rep_model.specs.Views.{view}
use Rattle.rep_shared.specs.Rows.{IsOwn}
use Rattle.rep_op.specs.Sets.{Same}
use Rattle.rep_model.specs.Keep.{keep}
use Rattle.rep_entry.specs.declared.entry.Entry.{Entry}
use Rattle.rep_entry.specs.Entries.{entry_row, IsEntry}
use Rattle.rep_log.specs.Origins.{ranges_in}
use Rattle.rep_entry.proofs.Client.{kept_view}
use Rattle.rep_entry.proofs.Owning.{own_row}
use Rattle.rep_entry.proofs.Changes.{keeps_itself}

pub seen_row : (c : List ℕ) (e : Entry) → IsEntry c e → e.seen ≡ view c (entry_row c e)
seen_row c e h = kept_view c e.known e.seen.pending (ranges_in e.acks) e.seen.stamp e.seen.prefix e.seen.session h.folded.visible h.folded.prefix h.folded.session h.rising h.none_covered

pub own_entry : (c : List ℕ) (e : Entry) → IsEntry c e → IsOwn c (entry_row c e)
own_entry c e h = own_row c e.known e.seen.pending e.acks h.changes h.made h.origins

-- nothing of it need be dropped
pub keeps_row : (c : List ℕ) (e : Entry) → IsEntry c e → Same (entry_row c e) (keep (entry_row c e))
keeps_row c e h = keeps_itself c e.known e.seen.stamp h.folded.visible h.folded.none_below (ranges_in e.acks) e.seen.pending h.none_covered
