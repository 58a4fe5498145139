-- What is left to do leads where all leads, there is room for it, and the timers are in their order.
use Rattle.std.proofs.Common.{◌≡◌, ◌+◌, ◌≤◌, length, vec_len}
use Rattle.std.specs.Vec.{vec_capacity}
use Rattle.std.specs.Vec.Iter.{into_iter_items}
use Rattle.sn_local.specs.Bindings.{AreBindings, bindings_after}
use Rattle.sn_local.specs.WillDialogs.{dialogs_after}
use Rattle.sn_local.specs.Timers.{AreTimers, timers_after}
use Rattle.sn_local.specs.Advertising.{advertised_after}
use Rattle.sn_local.proofs.changes.commit_all.Given as goal

abbrev pub invariant-loop-change : goal.invariant-loop-change
invariant-loop-change l = record {
  bindings_ascend : AreBindings l.bindings.items;
  bindings_room : vec_len l.bindings + length (into_iter_items l.change-iterator) ≤ vec_capacity l.bindings;
  dialogs_room : vec_len l.dialogs + length (into_iter_items l.change-iterator) ≤ vec_capacity l.dialogs;
  timers_room : vec_len l.timers + length (into_iter_items l.change-iterator) ≤ vec_capacity l.timers;
  bindings : bindings_after l.bindings.items (into_iter_items l.change-iterator) ≡ bindings_after l.fn.bindings.items l.fn.changes.items;
  dialogs : dialogs_after l.dialogs.items (into_iter_items l.change-iterator) ≡ dialogs_after l.fn.dialogs.items l.fn.changes.items;
  timers : timers_after l.timers.items (into_iter_items l.change-iterator) ≡ timers_after l.fn.timers.items l.fn.changes.items;
  timers_order : AreTimers l.timers.items;
  advertised : advertised_after l.advertised (into_iter_items l.change-iterator) ≡ advertised_after l.fn.advertised l.fn.changes.items;
}
