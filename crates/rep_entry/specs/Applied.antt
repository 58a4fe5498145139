-- The place of a client of which nothing is known, and an entry once a change is in its place.
use Rattle.std.specs.Prelude.{None, []}
use Rattle.rep_entry.specs.declared.entry.Entry.{Entry}
use Rattle.rep_entry.specs.declared.change.Change.{Change}
use Rattle.rep_log.specs.Logs.{stamp_on, prefix_on, session_on, known_on}
use Rattle.rep_log.specs.Origins.{origins_after}
use Rattle.rep_entry.specs.Entries.{base_of, left_on}

-- the entry with the change
abbrev pub entry_applied : Entry → Change → Entry
entry_applied entry change = record {
  seen = record {
    stamp = stamp_on entry.seen.stamp change.log;
    prefix = prefix_on entry.seen.prefix change.log;
    session = session_on entry.seen.session change.log;
    pending = left_on (base_of entry) change.news.items change.acks;
  };
  known = known_on entry.known change.log;
  acks = origins_after entry.acks change.acks;
  parked = change.parked;
  exceptions = change.exceptions;
}

-- the place of a client of which nothing is known
abbrev pub nothing_held : Entry
nothing_held = record {
  seen = record { stamp = None; prefix = 0; session = None; pending = [] };
  known = [];
  acks = [];
  parked = 0;
  exceptions = 0;
}
