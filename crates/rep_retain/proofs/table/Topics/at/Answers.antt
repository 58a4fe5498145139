use Rattle.std.proofs.Common.{◌≡◌, ◌+◌, ◌∷◌, [], drop, sym, subst, ◌∙◌}
use Rattle.std.specs.Option.{MatchOption}
use Rattle.sn_tables.proofs.Ascending.{from_test}
use Rattle.rep_retain.specs.Tables.{entry_cmp}
use Rattle.rep_retain.proofs.Found.{entry_total}
use Rattle.rep_retain.proofs.Ready.{lists_table}
use Rattle.rep_retain.proofs.table.Topics.at.Goals as goal

pub returns : goal.returns
returns c =
    let es = c.self.inside.entries.items in
    let listed = lists_table es (from_test entry_cmp entry_total es c.self.invariant.ascending) in
    rw (← c.self.view_is, listed, ← c.as_slice.ensures.value) c.entry_at.ensures
