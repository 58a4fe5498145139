use Rattle.gw_world.specs.declared.event.Event.TheVariants.{Frame}
use Rattle.promise_laws.specs.Promised.{WaitsUntilAnswered}
use Rattle.promise_laws.proofs.Accepting.{frame-puback, frame-pubrec, told-put, told-runs}
use Rattle.promise_laws.proofs.Promising.{only-later, until-answered, promising}
use Rattle.promise_laws.proofs.promise.nothing_accepted_vanishes.Goals as goal

pub returns : goal.returns
returns c = record {
  puback = λ configs old new number i gateway a octets now out flags topic msg_id t m body h.
      frame-puback configs old new number i gateway a octets now out h (WaitsUntilAnswered new i) (promising configs (Frame number a octets now) out old new i gateway h) flags topic msg_id t m body;
  pubrec = λ configs old new number i gateway a octets now out flags topic msg_id m body h.
      frame-pubrec configs old new number i gateway a octets now out h (WaitsUntilAnswered new i) (promising configs (Frame number a octets now) out old new i gateway h) flags topic msg_id m body;
  made = λ configs old new event i gateway out delta c put h told there.
      let w = told-put configs event out old new i gateway delta c put h told there in
      until-answered configs event out old new i gateway w.next h delta c put w.is (told-runs configs event out old new i gateway delta h told) w.here;
  only = λ configs old new last event i gateway out delta c put more replies h told there run.
      let w = told-put configs event out old new i gateway delta c put h told there in
      only-later configs event out old new i gateway w.next h delta c put w.is (told-runs configs event out old new i gateway delta h told) more replies last run;
}
