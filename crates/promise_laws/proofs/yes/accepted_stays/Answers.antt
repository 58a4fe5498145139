use Rattle.promise_laws.proofs.Accepting.{frame-puback, frame-pubrec, frame-served, tick-served, told-put, keeping}
use Rattle.promise_laws.proofs.Staying.{kept-from}
use Rattle.promise_laws.specs.Accepted.{IsKeptFrom}
use Rattle.promise_laws.proofs.yes.accepted_stays.Goals as goal

pub returns : goal.returns
returns c = record {
  puback = λ configs old new number i gateway a octets now out flags topic msg_id t m body h.
      frame-puback configs old new number i gateway a octets now out h (IsKeptFrom new i) (keeping new i gateway out) flags topic msg_id t m body;
  pubrec = λ configs old new number i gateway a octets now out flags topic msg_id m body h.
      frame-pubrec configs old new number i gateway a octets now out h (IsKeptFrom new i) (keeping new i gateway out) flags topic msg_id m body;
  frames = λ configs old new number i gateway a octets now out frame p h.
      frame-served configs old new number i gateway a octets now out h (IsKeptFrom new i) (keeping new i gateway out) frame p;
  ticks = λ configs old new number i gateway now out p h.
      tick-served configs old new number i gateway now out h (IsKeptFrom new i) (keeping new i gateway out) p;
  made = λ configs old new event i gateway out delta c put h told there.
      let w = told-put configs event out old new i gateway delta c put h told there in
      (w.is.is_new, kept-from gateway w.next delta c put w.is new i w.here);
}
