-- What a call of a row comes to, from its parts.
use Rattle.std.proofs.Common.{◌≡◌, ◌≢◌, ◌⊎◌, ◌++◌, ◌∷◌, ◌==◌, ℕ, true, false, length, List, [], Option, Some, None, Result, Ok, Err, refl, sym, ap, ◌∙◌, subst, append-nil, inl, inr, arith}
use Rattle.std.proofs.lemmas.Bool.Decides.{nat_tests}
use Rattle.std.specs.Option.{option_to_list}
use Rattle.rep_op.specs.declared.op.Op.{Op}
use Rattle.rep_ops.specs.Making.{IsDeltaOf}
use Rattle.rep_model.specs.Keep.{IsKeptOf}
use Rattle.rep_model.specs.Taking.{Fits}
use Rattle.sn_frame.specs.declared.frame.Frame.{Frame}
use Rattle.sn_frame.specs.Bodies.{IsValue}
use Rattle.sn_frame.specs.Grammar.{Spells}
use Rattle.sn_local.specs.declared.config.Addr.{Addr}
use Rattle.sn_local.specs.declared.config.Send.{Send}
use Rattle.sn_plan.specs.declared.plan.Plan.{Plan}
use Rattle.jr_disk.specs.declared.disk.Disk.{Ghosts}
use Rattle.jr_journal.specs.declared.journal.Journal.{Journal}
use Rattle.gw_answer.specs.Answers.{only_sends}
use Rattle.gw_answer.specs.declared.out.Out.{Out}
use Rattle.gw_answer.specs.declared.refusal.Refusal.{Refusal}
use Rattle.gw_answer.specs.declared.refusal.Refusal.TheVariants as refusals
use Rattle.gw_answer.specs.declared.step.Step.{Step}
use Rattle.gw_answer.specs.declared.step.Step.TheVariants as steps
use Rattle.gw_event.specs.Occasions.{Occasion, Datagram, Clock}
use Rattle.gw_event.specs.Excuses.{IsExcuse, excuses}
use Rattle.gw_event.specs.Event.{IsWritable}
use Rattle.gw_event.specs.Together.{if_any, put_by}
use Rattle.gw_node.specs.Parts.{State, is_halted, IsUnchanged, IsUntouched}
use Rattle.gw_node.specs.Plans.{IsPlanFor, IsMisfit, Makes}
use Rattle.gw_node.specs.Calls.{OwnCall, TakeCall, StepCall, IsDone, IsNoted}
use Rattle.gw_node.specs.declared.looking.Left.{Left}
use Rattle.gw_node.specs.declared.looking.Left.TheVariants.{Told, Writes, Alone}
use Rattle.gw_node.specs.inner.Handling.{IsNoFrameBy, IsNoPlan, HaveNoDelta, CarriedOut, planned_for, ticked}
use Rattle.gw_node.specs.inner.Ahead.{MakesAhead, IsDoneAhead, OwnAhead, TakeAhead, StepAhead, CarriedAhead, NotedAs, made_in, WritesPlan, IsWriter, LooksFor, LooksAt, IsLooked}
use Rattle.gw_node.specs.inner.Rows.{IsFor, CarriedAlong, WentAhead, made_if, put_if, BeginsRow}

-- ---- what a call puts into the journal

pub frame_puts : (from : Addr) (bytes : List ℕ) (now : ℕ) (reply : Result Out Refusal) → made_in reply ≡ put_by (steps.Frame from bytes now) reply
frame_puts from bytes now (Ok out) = refl
frame_puts from bytes now (Err refusal) = refl

pub tick_puts : (now : ℕ) (reply : Result Out Refusal) → made_in reply ≡ put_by (steps.Tick now) reply
tick_puts now (Ok out) = refl
tick_puts now (Err refusal) = refl

pub made_for : (reply : Result Out Refusal) (result : Option (Result Out Refusal)) → IsFor reply result → made_in reply ≡ made_if result
made_for reply None is = ap (λ (r : Result Out Refusal). made_in r) is
made_for reply (Some given) is = ap (λ (r : Result Out Refusal). made_in r) (sym is.0)

puts_nothing : (step : Step) → put_by step (Err refusals.Memory) ≡ []
puts_nothing (steps.Frame from bytes now) = refl
puts_nothing (steps.Take delta) = refl
puts_nothing (steps.Tick now) = refl
puts_nothing (steps.View client) = refl
puts_nothing steps.Digest = refl
puts_nothing (steps.Answer asked) = refl
puts_nothing steps.Compact = refl
puts_nothing steps.Reopen = refl

pub puts_for : (step : Step) (reply : Result Out Refusal) (result : Option (Result Out Refusal)) → IsFor reply result → put_by step reply ≡ put_if step result
puts_for step reply None is = ap (λ (r : Result Out Refusal). put_by step r) is ∙ puts_nothing step
puts_for step reply (Some given) is = ap (λ (r : Result Out Refusal). put_by step r) (sym is.0)

pub refused_puts : (step : Step) (refusal : Refusal) → put_by step (Err refusal) ≡ []
refused_puts (steps.Frame from bytes now) refusal = refl
refused_puts (steps.Take delta) refusal = refl
refused_puts (steps.Tick now) refusal = refl
refused_puts (steps.View client) refusal = refl
refused_puts steps.Digest refusal = refl
refused_puts (steps.Answer asked) refusal = refl
refused_puts steps.Compact refusal = refl
refused_puts steps.Reopen refusal = refl

module _ {D : Type 0} {G : Ghosts D} where
  -- a node in which only what contracts do not see may have changed
  pub nothing_done : (state : State G) → IsUnchanged state state
  nothing_done state =
      record { config = refl; kept = refl; local = refl; journal = record { gateway = refl; slot = refl; generation = refl; halted = refl; disk = refl }; records = refl }

  -- ---- what was made of operations

  quiet_made : (old new : State G) (made : Option (List Op)) → Makes [] made old new → (made ≡ None) × (new.kept ≡ old.kept) × IsUntouched old.journal new.journal
  quiet_made old new None h = (refl, h.0, h.1)
  quiet_made old new (Some delta) h = absurd h

  -- a plan without operations was carried out
  pub quiet_noted : (old new : State G) (plan : Plan) (out : Out) → plan.ops ≡ [] → IsDone old plan out new → NotedAs old plan (Ok out) new
  quiet_noted old new plan out none h =
      let q = quiet_made old new out.made (subst (λ (ops : List Op). Makes ops out.made old new) none h.made) in (
        record {
          config = h.config;
          records = h.records;
          journal = q.2;
          local = h.local;
          apart = h.apart;
          made = subst (λ (ops : List Op). MakesAhead ops out.made old new) (sym none) (subst (λ (m : Option (List Op)). MakesAhead [] m old new) (sym q.0) q.1);
          answer = h.answer;
        },
        q.0,
      )

  -- operations that became a delta
  pub made_ahead : (ops : List Op) (delta : List Op) (old new : State G) → ops ≢ [] → IsDeltaOf ops delta → Fits old.kept delta → IsKeptOf (old.kept ++ delta) new.kept → IsWritable delta → MakesAhead ops (Some delta) old new
  made_ahead [] delta old new some is_delta fits kept writable = absurd (some refl)
  made_ahead (op ∷ ops) delta old new some is_delta fits kept writable = (is_delta, fits, kept, writable)

  -- operations that make no delta, or one that cannot be taken
  no_delta : (old new : State G) (plan : Plan) (refusal : Refusal) → HaveNoDelta plan.ops refusal → IsUnchanged old new → CarriedAhead old plan (Err refusal) new
  no_delta old new plan refusals.Full h u = (inr (refl, h), u)
  no_delta old new plan refusals.Memory h u = u
  no_delta old new plan (refusals.Frame fault) h u = absurd h
  no_delta old new plan refusals.Halted h u = absurd h
  no_delta old new plan (refusals.Disk given) h u = absurd h
  no_delta old new plan (refusals.Conflict client) h u = absurd h
  no_delta old new plan refusals.Exhausted h u = absurd h
  no_delta old new plan (refusals.Journal fault) h u = absurd h

  no_room : (old new : State G) (plan : Plan) (delta : List Op) (refusal : Refusal) → IsDeltaOf plan.ops delta → IsMisfit old.kept delta refusal → IsUnchanged old new → CarriedAhead old plan (Err refusal) new
  no_room old new plan delta (refusals.Conflict client) d h u = (inl (delta, d, h), u)
  no_room old new plan delta refusals.Full d h u = (inl (delta, d, h), u)
  no_room old new plan delta refusals.Memory d h u = u
  no_room old new plan delta (refusals.Frame fault) d h u = absurd h
  no_room old new plan delta refusals.Halted d h u = absurd h
  no_room old new plan delta (refusals.Disk given) d h u = absurd h
  no_room old new plan delta refusals.Exhausted d h u = absurd h
  no_room old new plan delta (refusals.Journal fault) d h u = absurd h

  pub not_ready : (old new : State G) (plan : Plan) (refusal : Refusal) → HaveNoDelta plan.ops refusal ⊎ ((delta : List Op) × IsDeltaOf plan.ops delta × IsMisfit old.kept delta refusal) → IsUnchanged old new → CarriedAhead old plan (Err refusal) new
  not_ready old new plan refusal (inl h) u = no_delta old new plan refusal h u
  not_ready old new plan refusal (inr (delta, d, h)) u = no_room old new plan delta refusal d h u

  -- a delta that cannot be taken
  pub not_taken : (old new : State G) (delta : List Op) (refusal : Refusal) → IsMisfit old.kept delta refusal → IsUnchanged old new → TakeAhead old delta (Err refusal) new
  not_taken old new delta (refusals.Conflict client) h u = (h, u)
  not_taken old new delta refusals.Full h u = (h, u)
  not_taken old new delta refusals.Memory h u = u
  not_taken old new delta (refusals.Frame fault) h u = absurd h
  not_taken old new delta refusals.Halted h u = absurd h
  not_taken old new delta (refusals.Disk given) h u = absurd h
  not_taken old new delta refusals.Exhausted h u = absurd h
  not_taken old new delta (refusals.Journal fault) h u = absurd h

  -- ---- what is found of a call

  -- the bytes are no frame
  pub no_frame : (old new : State G) (from : Addr) (bytes : List ℕ) (now : ℕ) (refusal : Refusal) → IsNoFrameBy bytes refusal → IsUnchanged old new → IsLooked old (steps.Frame from bytes now) (Told (Err refusal)) new
  no_frame old new from bytes now (refusals.Frame fault) h u = ((h, u), refl)
  no_frame old new from bytes now refusals.Memory h u = (u, refl)
  no_frame old new from bytes now refusals.Halted h u = absurd h
  no_frame old new from bytes now (refusals.Disk excuse) h u = absurd h
  no_frame old new from bytes now (refusals.Conflict client) h u = absurd h
  no_frame old new from bytes now refusals.Full h u = absurd h
  no_frame old new from bytes now refusals.Exhausted h u = absurd h
  no_frame old new from bytes now (refusals.Journal fault) h u = absurd h

  -- the plan has an excuse, if it has operations
  writes : (old : State G) (occasion : Occasion) (now : ℕ) (plan given : Plan) (excuse : Out) (sends : List Send) → IsPlanFor old occasion now (Some plan) → IsExcuse occasion plan.sends sends
      → given ≡ plan → plan.ops ≢ [] → excuse ≡ only_sends sends → WritesPlan old occasion now given excuse
  writes old occasion now plan given excuse sends is_plan is_excuse same some e =
      let said : excuse.sends ≡ sends = ap (λ (out : Out). out.sends) e in
      subst (λ (p : Plan). WritesPlan old occasion now p excuse) (sym same)
      (record {
        is_plan = is_plan;
        some = some;
        excused = subst (λ (xs : List Send). IsExcuse occasion plan.sends xs) (sym said) is_excuse;
        sends = e ∙ ap only_sends (sym said);
      })

  own_noted : (old new : State G) (occasion : Occasion) (now : ℕ) (plan : Plan) (reply : Result Out Refusal) → IsPlanFor old occasion now (Some plan) → NotedAs old plan reply new → OwnAhead old occasion now reply new × (made_in reply ≡ [])
  own_noted old new occasion now plan (Ok out) is_plan h = ((plan, is_plan, h.0), ap (λ (m : Option (List Op)). option_to_list m) h.1)
  own_noted old new occasion now plan (Err refusals.Memory) is_plan h = (h, refl)
  own_noted old new occasion now plan (Err refusals.Halted) is_plan h = absurd h
  own_noted old new occasion now plan (Err (refusals.Frame fault)) is_plan h = absurd h
  own_noted old new occasion now plan (Err (refusals.Disk excuse)) is_plan h = absurd h
  own_noted old new occasion now plan (Err (refusals.Conflict client)) is_plan h = absurd h
  own_noted old new occasion now plan (Err refusals.Full) is_plan h = absurd h
  own_noted old new occasion now plan (Err refusals.Exhausted) is_plan h = absurd h
  own_noted old new occasion now plan (Err (refusals.Journal fault)) is_plan h = absurd h

  own_unplanned : (old new : State G) (occasion : Occasion) (now : ℕ) (planned : Option Plan) (refusal : Refusal) → (planned ≡ None → IsPlanFor old occasion now None) → IsNoPlan planned refusal → IsUnchanged old new
      → OwnAhead old occasion now (Err refusal) new
  own_unplanned old new occasion now planned refusals.Exhausted f h u = (f h, u)
  own_unplanned old new occasion now planned refusals.Memory f h u = u
  own_unplanned old new occasion now planned (refusals.Frame fault) f h u = absurd h
  own_unplanned old new occasion now planned refusals.Halted f h u = absurd h
  own_unplanned old new occasion now planned (refusals.Disk excuse) f h u = absurd h
  own_unplanned old new occasion now planned (refusals.Conflict client) f h u = absurd h
  own_unplanned old new occasion now planned refusals.Full f h u = absurd h
  own_unplanned old new occasion now planned (refusals.Journal fault) f h u = absurd h

  -- a datagram, and a tick, put into the journal what they made

  found_frame : (old new : State G) (from : Addr) (bytes : List ℕ) (frame : Frame) (now : ℕ) (plan : Plan) (left : Left) → IsValue frame → Spells bytes frame → planned_for old from frame now ≡ Some plan
      → LooksFor old plan (excuses from frame plan.sends) left new → IsLooked old (steps.Frame from bytes now) left new
  found_frame old new from bytes frame now plan (Told reply) value spells is_plan h =
      let k = own_noted old new (Datagram from bytes) now plan reply (frame, value, spells, is_plan) h in (k.0, sym (frame_puts from bytes now reply) ∙ k.1)
  found_frame old new from bytes frame now plan (Writes given excuse) value spells is_plan h =
      (writes old (Datagram from bytes) now plan given excuse (excuses from frame plan.sends) (frame, value, spells, is_plan) (frame, value, spells, refl) h.0 h.1 h.2, h.3)
  found_frame old new from bytes frame now plan Alone value spells is_plan h = absurd h

  -- of a frame
  pub frame_looked : (old new : State G) (from : Addr) (bytes : List ℕ) (frame : Frame) (now : ℕ) (left : Left) → IsValue frame → Spells bytes frame → LooksAt old (planned_for old from frame now) (excuses from frame) left new
      → IsLooked old (steps.Frame from bytes now) left new
  frame_looked old new from bytes frame now left value spells (inl (plan, is_plan, h)) = found_frame old new from bytes frame now plan left value spells is_plan h
  frame_looked old new from bytes frame now left value spells (inr (refusal, is, why, u)) =
      subst (λ (l : Left). IsLooked old (steps.Frame from bytes now) l new) (sym is)
      (own_unplanned old new (Datagram from bytes) now (planned_for old from frame now) refusal (λ none. (frame, value, spells, none)) why u, refl)

  -- of a tick
  pub tick_looked : (old new : State G) (now : ℕ) (plan : Plan) (left : Left) → ticked old now ≡ Some plan → LooksFor old plan [] left new → IsLooked old (steps.Tick now) left new
  tick_looked old new now plan (Told reply) is_plan h =
      let k = own_noted old new Clock now plan reply is_plan h in (k.0, sym (tick_puts now reply) ∙ k.1)
  tick_looked old new now plan (Writes given excuse) is_plan h = (writes old Clock now plan given excuse [] is_plan refl h.0 h.1 h.2, h.3)
  tick_looked old new now plan Alone is_plan h = absurd h

  pub tick_unplanned : (old new : State G) (now : ℕ) (refusal : Refusal) → IsNoPlan (ticked old now) refusal → IsUnchanged old new → IsLooked old (steps.Tick now) (Told (Err refusal)) new
  tick_unplanned old new now refusal h u = (own_unplanned old new Clock now (ticked old now) refusal (λ none. none) h u, refl)

  -- ---- a call behind the first

  own_carried : (old new : State G) (occasion : Occasion) (now : ℕ) (plan : Plan) (reply : Result Out Refusal) → IsPlanFor old occasion now (Some plan) → CarriedAhead old plan reply new → OwnAhead old occasion now reply new
  own_carried old new occasion now plan (Ok out) is_plan h = (plan, is_plan, h)
  own_carried old new occasion now plan (Err (refusals.Conflict client)) is_plan h = ((plan, is_plan, h.0), h.1)
  own_carried old new occasion now plan (Err refusals.Full) is_plan h = ((plan, is_plan, h.0), h.1)
  own_carried old new occasion now plan (Err refusals.Memory) is_plan h = h
  own_carried old new occasion now plan (Err refusals.Halted) is_plan h = absurd h
  own_carried old new occasion now plan (Err (refusals.Frame fault)) is_plan h = absurd h
  own_carried old new occasion now plan (Err (refusals.Disk excuse)) is_plan h = absurd h
  own_carried old new occasion now plan (Err refusals.Exhausted) is_plan h = absurd h
  own_carried old new occasion now plan (Err (refusals.Journal fault)) is_plan h = absurd h

  pub writer_carried : (old new : State G) (step : Step) (plan : Plan) (excuse : Out) (reply : Result Out Refusal) → IsWriter old step plan excuse → CarriedAhead old plan reply new → StepAhead old step reply new
  writer_carried old new (steps.Frame from bytes now) plan excuse reply w h = own_carried old new (Datagram from bytes) now plan reply w.is_plan h
  writer_carried old new (steps.Tick now) plan excuse reply w h = own_carried old new Clock now plan reply w.is_plan h
  writer_carried old new (steps.Take delta) plan excuse reply w h = absurd w
  writer_carried old new (steps.View client) plan excuse reply w h = absurd w
  writer_carried old new steps.Digest plan excuse reply w h = absurd w
  writer_carried old new (steps.Answer asked) plan excuse reply w h = absurd w
  writer_carried old new steps.Compact plan excuse reply w h = absurd w
  writer_carried old new steps.Reopen plan excuse reply w h = absurd w

  -- its plan has operations
  pub writer_some : (old : State G) (step : Step) (plan : Plan) (excuse : Out) → IsWriter old step plan excuse → plan.ops ≢ []
  writer_some old (steps.Frame from bytes now) plan excuse w = w.some
  writer_some old (steps.Tick now) plan excuse w = w.some
  writer_some old (steps.Take delta) plan excuse w = absurd w
  writer_some old (steps.View client) plan excuse w = absurd w
  writer_some old steps.Digest plan excuse w = absurd w
  writer_some old (steps.Answer asked) plan excuse w = absurd w
  writer_some old steps.Compact plan excuse w = absurd w
  writer_some old steps.Reopen plan excuse w = absurd w

  -- its excuse sends, and says nothing else
  pub writer_sends : (old : State G) (step : Step) (plan : Plan) (excuse : Out) → IsWriter old step plan excuse → excuse ≡ only_sends excuse.sends
  writer_sends old (steps.Frame from bytes now) plan excuse w = w.sends
  writer_sends old (steps.Tick now) plan excuse w = w.sends
  writer_sends old (steps.Take delta) plan excuse w = absurd w
  writer_sends old (steps.View client) plan excuse w = absurd w
  writer_sends old steps.Digest plan excuse w = absurd w
  writer_sends old (steps.Answer asked) plan excuse w = absurd w
  writer_sends old steps.Compact plan excuse w = absurd w
  writer_sends old steps.Reopen plan excuse w = absurd w

  pub writer_puts : (old : State G) (step : Step) (plan : Plan) (excuse : Out) (reply : Result Out Refusal) → IsWriter old step plan excuse → made_in reply ≡ put_by step reply
  writer_puts old (steps.Frame from bytes now) plan excuse reply w = frame_puts from bytes now reply
  writer_puts old (steps.Tick now) plan excuse reply w = tick_puts now reply
  writer_puts old (steps.Take delta) plan excuse reply w = absurd w
  writer_puts old (steps.View client) plan excuse reply w = absurd w
  writer_puts old steps.Digest plan excuse reply w = absurd w
  writer_puts old (steps.Answer asked) plan excuse reply w = absurd w
  writer_puts old steps.Compact plan excuse reply w = absurd w
  writer_puts old steps.Reopen plan excuse reply w = absurd w

  pub writer_along : (old new : State G) (step : Step) (plan : Plan) (excuse : Out) (result : Option (Result Out Refusal)) → IsWriter old step plan excuse → CarriedAlong old plan result new → WentAhead old step result new
  writer_along old new step plan excuse None w h = h
  writer_along old new step plan excuse (Some reply) w h = (writer_carried old new step plan excuse reply w h.0, h.1)

  pub writer_puts_if : (old : State G) (step : Step) (plan : Plan) (excuse : Out) (result : Option (Result Out Refusal)) → IsWriter old step plan excuse → made_if result ≡ put_if step result
  writer_puts_if old step plan excuse None w = refl
  writer_puts_if old step plan excuse (Some reply) w = writer_puts old step plan excuse reply w

  -- an answer stands, unless memory ran out
  pub carried_for : (old new : State G) (plan : Plan) (reply : Result Out Refusal) (result : Option (Result Out Refusal)) → IsFor reply result → CarriedAhead old plan reply new → CarriedAlong old plan result new
  carried_for old new plan reply None is h = subst (λ (r : Result Out Refusal). CarriedAhead old plan r new) is h
  carried_for old new plan reply (Some given) is h = (subst (λ (r : Result Out Refusal). CarriedAhead old plan r new) (sym is.0) h, λ e. is.1 (sym is.0 ∙ e))

  wanting_ahead : (old new : State G) (step : Step) → StepAhead old step (Err refusals.Memory) new → IsUnchanged old new
  wanting_ahead old new (steps.Frame from bytes now) h = h
  wanting_ahead old new (steps.Take delta) h = h
  wanting_ahead old new (steps.Tick now) h = h
  wanting_ahead old new (steps.View client) h = absurd h
  wanting_ahead old new steps.Digest h = absurd h
  wanting_ahead old new (steps.Answer asked) h = absurd h
  wanting_ahead old new steps.Compact h = absurd h
  wanting_ahead old new steps.Reopen h = absurd h

  pub went_for : (old new : State G) (step : Step) (reply : Result Out Refusal) (result : Option (Result Out Refusal)) → IsFor reply result → StepAhead old step reply new → WentAhead old step result new
  went_for old new step reply None is h = wanting_ahead old new step (subst (λ (r : Result Out Refusal). StepAhead old step r new) is h)
  went_for old new step reply (Some given) is h = (subst (λ (r : Result Out Refusal). StepAhead old step r new) (sym is.0) h, λ e. is.1 (sym is.0 ∙ e))

  -- ---- the first call

  -- it begins a row
  pub writer_begins : (old new : State G) (step : Step) (plan : Plan) (excuse out : Out) → IsWriter old step plan excuse → IsDoneAhead old plan out new → BeginsRow old step out excuse new
  writer_begins old new (steps.Frame from bytes now) plan excuse out w h = (plan, w, h)
  writer_begins old new (steps.Tick now) plan excuse out w h = (plan, w, h)
  writer_begins old new (steps.Take delta) plan excuse out w h = absurd w
  writer_begins old new (steps.View client) plan excuse out w h = absurd w
  writer_begins old new steps.Digest plan excuse out w h = absurd w
  writer_begins old new (steps.Answer asked) plan excuse out w h = absurd w
  writer_begins old new steps.Compact plan excuse out w h = absurd w
  writer_begins old new steps.Reopen plan excuse out w h = absurd w

  -- or it is carried out by itself
  own_alone : (old new : State G) (occasion : Occasion) (now : ℕ) (plan : Plan) (excuse : Out) (reply : Result Out Refusal) → is_halted old ≡ false → WritesPlan old occasion now plan excuse → CarriedOut old plan excuse reply new
      → OwnCall old occasion now reply new
  own_alone old new occasion now plan excuse (Ok out) runs w h = (runs, (plan, w.is_plan, h))
  own_alone old new occasion now plan excuse (Err (refusals.Disk given)) runs w h =
      (runs, (plan, w.is_plan, subst (λ (out : Out). IsExcuse occasion plan.sends out.sends) (sym h.0) w.excused, h.1))
  own_alone old new occasion now plan excuse (Err refusals.Halted) runs w h = h
  own_alone old new occasion now plan excuse (Err (refusals.Conflict client)) runs w h = (runs, (plan, w.is_plan, h.0), h.1)
  own_alone old new occasion now plan excuse (Err refusals.Full) runs w h = (runs, (plan, w.is_plan, h.0), h.1)
  own_alone old new occasion now plan excuse (Err refusals.Memory) runs w h = h
  own_alone old new occasion now plan excuse (Err (refusals.Frame fault)) runs w h = absurd h
  own_alone old new occasion now plan excuse (Err refusals.Exhausted) runs w h = absurd h
  own_alone old new occasion now plan excuse (Err (refusals.Journal fault)) runs w h = absurd h

  pub writer_alone : (old new : State G) (step : Step) (plan : Plan) (excuse : Out) (reply : Result Out Refusal) → is_halted old ≡ false → IsWriter old step plan excuse → CarriedOut old plan excuse reply new → StepCall old step reply new
  writer_alone old new (steps.Frame from bytes now) plan excuse reply runs w h = own_alone old new (Datagram from bytes) now plan excuse reply runs w h
  writer_alone old new (steps.Tick now) plan excuse reply runs w h = own_alone old new Clock now plan excuse reply runs w h
  writer_alone old new (steps.Take delta) plan excuse reply runs w h = absurd w
  writer_alone old new (steps.View client) plan excuse reply runs w h = absurd w
  writer_alone old new steps.Digest plan excuse reply runs w h = absurd w
  writer_alone old new (steps.Answer asked) plan excuse reply runs w h = absurd w
  writer_alone old new steps.Compact plan excuse reply runs w h = absurd w
  writer_alone old new steps.Reopen plan excuse reply runs w h = absurd w

  -- or memory runs out
  pub writer_wanting : (old : State G) (step : Step) (plan : Plan) (excuse : Out) → IsWriter old step plan excuse → StepCall old step (Err refusals.Memory) old
  writer_wanting old (steps.Frame from bytes now) plan excuse w = nothing_done old
  writer_wanting old (steps.Tick now) plan excuse w = nothing_done old
  writer_wanting old (steps.Take delta) plan excuse w = absurd w
  writer_wanting old (steps.View client) plan excuse w = absurd w
  writer_wanting old steps.Digest plan excuse w = absurd w
  writer_wanting old (steps.Answer asked) plan excuse w = absurd w
  writer_wanting old steps.Compact plan excuse w = absurd w
  writer_wanting old steps.Reopen plan excuse w = absurd w

  -- or nothing of it is written, and its answer stands by itself
  still_made : (old new : State G) (ops : List Op) (made : Option (List Op)) → MakesAhead ops made old new → option_to_list made ≡ [] → IsUntouched old.journal new.journal → Makes ops made old new
  still_made old new [] None h none u = (h, u)
  still_made old new [] (Some delta) h none u = absurd h
  still_made old new (op ∷ ops) None h none u = absurd h
  still_made old new (op ∷ ops) (Some delta) h none u = absurd cc

  own_told : (old new : State G) (occasion : Occasion) (now : ℕ) (reply : Result Out Refusal) → is_halted old ≡ false → OwnAhead old occasion now reply new → made_in reply ≡ [] → OwnCall old occasion now reply new
  own_told old new occasion now (Ok out) runs (plan, is_plan, h) none = (
    runs,
    (
      plan,
      is_plan,
      record {
        config = h.config;
        records = h.records;
        local = h.local;
        apart = h.apart;
        made = still_made old new plan.ops out.made h.made none h.journal;
        answer = h.answer;
      },
    ),
  )
  own_told old new occasion now (Err refusals.Halted) runs h none = absurd h
  own_told old new occasion now (Err (refusals.Frame fault)) runs h none = (runs, h.0, h.1)
  own_told old new occasion now (Err refusals.Exhausted) runs h none = (runs, h.0, h.1)
  own_told old new occasion now (Err (refusals.Conflict client)) runs h none = (runs, h.0, h.1)
  own_told old new occasion now (Err refusals.Full) runs h none = (runs, h.0, h.1)
  own_told old new occasion now (Err (refusals.Disk excuse)) runs h none = absurd h
  own_told old new occasion now (Err refusals.Memory) runs h none = h
  own_told old new occasion now (Err (refusals.Journal fault)) runs h none = absurd h

  still_noted : (old new : Journal D G) (delta : List Op) → if_any delta ≡ [] → IsUntouched old new → IsNoted old delta new
  still_noted old new [] none u = u
  still_noted old new (op ∷ ops) none u = absurd cc

  pub take_told : (old new : State G) (delta : List Op) (reply : Result Out Refusal) → is_halted old ≡ false → TakeAhead old delta reply new → put_by (steps.Take delta) reply ≡ [] → TakeCall old delta reply new
  take_told old new delta (Ok out) runs h none = (
    runs,
    h.0,
    record {
      config = h.1.config;
      records = h.1.records;
      is_delta = h.1.is_delta;
      fits = h.1.fits;
      kept = h.1.kept;
      local = h.1.local;
      noted = still_noted old.journal new.journal delta none h.1.journal;
    },
  )
  take_told old new delta (Err refusals.Halted) runs h none = absurd h
  take_told old new delta (Err (refusals.Conflict client)) runs h none = (runs, h.0, h.1)
  take_told old new delta (Err refusals.Full) runs h none = (runs, h.0, h.1)
  take_told old new delta (Err (refusals.Disk excuse)) runs h none = absurd h
  take_told old new delta (Err refusals.Memory) runs h none = h
  take_told old new delta (Err (refusals.Frame fault)) runs h none = absurd h
  take_told old new delta (Err refusals.Exhausted) runs h none = absurd h
  take_told old new delta (Err (refusals.Journal fault)) runs h none = absurd h

  pub told_alone : (old new : State G) (step : Step) (reply : Result Out Refusal) → is_halted old ≡ false → StepAhead old step reply new → put_by step reply ≡ [] → StepCall old step reply new
  told_alone old new (steps.Frame from bytes now) reply runs h none = own_told old new (Datagram from bytes) now reply runs h (frame_puts from bytes now reply ∙ none)
  told_alone old new (steps.Take delta) reply runs h none = take_told old new delta reply runs h none
  told_alone old new (steps.Tick now) reply runs h none = own_told old new Clock now reply runs h (tick_puts now reply ∙ none)
  told_alone old new (steps.View client) reply runs h none = absurd h
  told_alone old new steps.Digest reply runs h none = absurd h
  told_alone old new (steps.Answer asked) reply runs h none = absurd h
  told_alone old new steps.Compact reply runs h none = absurd h
  told_alone old new steps.Reopen reply runs h none = absurd h
  -- a refusal puts nothing into the journal

-- operations, if there are any
pub some_operations : (ops : List Op) → (length ops == 0) ≡ false → ops ≢ []
some_operations [] e = absurd cc
some_operations (op ∷ ops) e = λ none. absurd cc

-- a delta is one record, or none, if it has no operations
pub none_written : (records : List (List Op)) (delta : List Op) → (length delta == 0) ≡ true → records ≡ records ++ if_any delta
none_written records [] e = sym (append-nil records)
none_written records (op ∷ ops) e = absurd (grind (arith, nat_tests, e))

pub one_written : (delta : List Op) → (length delta == 0) ≡ false → if_any delta ≡ delta ∷ []
one_written [] e = absurd cc
one_written (op ∷ ops) e = refl
