-- The gateways of a field stay flush.
use Rattle.std.proofs.Common.{◌≡◌, false, ℕ, zero, suc, take, ◌⊎◌, List, [], ◌∷◌, ◌++◌, map, set, slice_get, Option, Some, None, is_some, option_map, true, Contains, true≢false, Result, Ok, Err, refl, sym, ap, ◌∙◌, subst, inl, inr}
use Rattle.std.specs.List.{AllByRecursion}
use Rattle.std.specs.Option.{option_to_list}
use Rattle.std.proofs.lemmas.Option.{none-some, same_Some, slice_get-map}
use Rattle.rep_op.specs.declared.op.Subject.{Subject}
use Rattle.rep_op.specs.declared.op.Op.{Op}
use Rattle.rep_op.specs.declared.op.Op.TheVariants.{Session as OfSession, Put as OfPut, Retain as OfRetain}
use Rattle.rep_op.specs.Orders.{clock_of}
use Rattle.rep_op.specs.Sets.{operation_at, put_at, Same, retain_at}
use Rattle.rep_ops.specs.Deltas.{IsDelta}
use Rattle.rep_ops.specs.Making.{IsDeltaOf}
use Rattle.rep_ops.specs.Splitting.{all_of}
use Rattle.rep_model.specs.Taking.{AllAgree}
use Rattle.sn_local.specs.declared.config.Config.{Config}
use Rattle.sn_plan.specs.declared.plan.Plan.{Plan}
use Rattle.sn_local.specs.Seen.{seen_of}
use Rattle.sn_plan.specs.Own.{IsOfDraft}
use Rattle.sn_plan.specs.Flush.{IsFlush, HaveNoGap}
use Rattle.step_laws.proofs.Drafting.{step-drafted, tick-drafted}
use Rattle.row_laws.proofs.Stepping.{step-fits, step-flush, step-new_operation, step-new_put, step-new_retain}
use Rattle.row_laws.proofs.Flushness.{flush-start, flush-taken}
use Rattle.gw_answer.specs.declared.out.Out.{Out}
use Rattle.gw_answer.specs.declared.refusal.Refusal.{Refusal}
use Rattle.gw_answer.specs.declared.refusal.Refusal.TheVariants as refusals
use Rattle.gw_event.specs.Occasions.{Occasion, Datagram, Clock}
use Rattle.gw_event.specs.Gateways.{Gateway, new_gateway, with_refused}
use Rattle.gw_world.specs.Field.{Field, IsAt}
use Rattle.gw_event.specs.Drives.{left_by, more_records}
use Rattle.gw_world.specs.Steps.{restarted}
use Rattle.gw_event.specs.Event.{HaveName, NothingHappens, IsTorn, IsMade, IsPlan, OwnStep, TakeStep, CompactStep, IsWritable}
use Rattle.gw_world.specs.Events.{made_of}
use Rattle.gw_world.specs.Steady.{IsKnown, IsSteady}
use Rattle.gw_world.proofs.Numbers.{First, place_of-first, first-number, first-set}
use Rattle.gw_node.proofs.Occurring.{is_there}
use Rattle.gw_node.proofs.Refused.{without, one_refused, refused_is}

-- a gateway that took nothing and made nothing
pub record Still (old new : Gateway) (made : List (List Op)) : Type 0 where
  pub config : new.config ≡ old.config
  pub taken : new.taken ≡ old.taken
  pub none : made ≡ []

-- a gateway that took the delta of a plan of its own
pub record Stepped (old new : Gateway) (made : List (List Op)) : Type 0 where
  pub plan : Plan
  pub drafted : IsOfDraft old.config.gateway (seen_of old.taken) plan
  pub delta : List Op
  pub proper : IsDelta delta
  pub same : Same delta plan.ops
  pub config : new.config ≡ old.config
  pub taken : new.taken ≡ old.taken ++ delta
  pub one : made ≡ delta ∷ []

pub still : (old new : Gateway) (made : List (List Op)) → NothingHappens old new made → Still old new made
still old new made u = record { config = ap (λ (x : Gateway). x.config) u.same; taken = ap (λ (x : Gateway). x.taken) u.same; none = u.none }

-- a gateway that took this, and made nothing
pub record Fed (old : Gateway) (more : List Op) (new : Gateway) (made : List (List Op)) : Type 0 where
  pub config : new.config ≡ old.config
  pub taken : new.taken ≡ old.taken ++ more
  pub none : made ≡ []

pub torn-still : (old : Gateway) (delta : List Op) (new : Gateway) (made : List (List Op)) → IsTorn old delta new made → Still old new made
torn-still old delta new made t = record { config = ap (λ (x : Gateway). x.config) t.halted; taken = ap (λ (x : Gateway). x.taken) t.halted; none = t.none }

-- a compaction leaves the set
pub compact-still : (old new : Gateway) (answer : Result Out Refusal) → CompactStep old answer new → Still old new []
compact-still old new (Ok out) h = record { config = ap (λ (x : Gateway). x.config) h.2.2; taken = ap (λ (x : Gateway). x.taken) h.2.2; none = refl }
compact-still old new (Err (refusals.Journal fault)) h = still old new [] (record { same = h.2; none = refl })
compact-still old new (Err refusals.Halted) h = still old new [] (record { same = h.1; none = refl })
compact-still old new (Err (refusals.Disk excuse)) h =
    record { config = ap (λ (x : Gateway). x.config) h.2.4; taken = ap (λ (x : Gateway). x.taken) h.2.4; none = refl }
compact-still old new (Err (refusals.Frame fault)) h = absurd h
compact-still old new (Err (refusals.Conflict client)) h = absurd h
compact-still old new (Err refusals.Full) h = absurd h
compact-still old new (Err refusals.Exhausted) h = absurd h
compact-still old new (Err refusals.Memory) h = absurd h

-- what a restart brings back of what was refused
abbrev pub came-back : ℕ → Gateway → List Op
came-back kept old = all_of (take (more_records old.config.gateway old.drive (left_by kept old.drive)) old.refused)

pub restart-feeds : (kept : ℕ) (old : Gateway) → Fed old (came-back kept old) (restarted kept old) []
restart-feeds kept old = record { config = refl; taken = refused_is (more_records old.config.gateway old.drive (left_by kept old.drive)) old.taken old.refused; none = refl }

none-of-none : (n : ℕ) (deltas : List (List Op)) → deltas ≡ [] → all_of (take n deltas) ≡ []
none-of-none zero deltas none = refl
none-of-none (suc n) [] none = refl
none-of-none (suc n) (delta ∷ deltas) none = absurd cc

pub nothing-came : (kept : ℕ) (old : Gateway) → old.refused ≡ [] → came-back kept old ≡ []
nothing-came kept old none = none-of-none (more_records old.config.gateway old.drive (left_by kept old.drive)) old.refused none

-- of one delta it brings back nothing, or the whole of it
pub restart-moves : (kept : ℕ) (old : Gateway) (delta : List Op) → old.refused ≡ delta ∷ [] → Still old (restarted kept old) [] ⊎ Fed old delta (restarted kept old) []
restart-moves kept old delta one =
    let n : ℕ = more_records old.config.gateway old.drive (left_by kept old.drive) in
    let taken : (restarted kept old).taken ≡ with_refused n old.taken (delta ∷ []) = ap (λ (R : List (List Op)). with_refused n old.taken R) one in
    elim (one_refused n old.taken delta) [
      | inl none ↦ inl (record { config = refl; taken = taken ∙ none; none = refl })
      | inr whole ↦ inr (record { config = refl; taken = taken ∙ whole; none = refl })
    ]

-- where nothing was refused it leaves it
pub restart-still : (kept : ℕ) (old : Gateway) → old.refused ≡ [] → Still old (restarted kept old) []
restart-still kept old none = record { config = refl; taken = without (more_records old.config.gateway old.drive (left_by kept old.drive)) old.taken old.refused none; none = refl }

made-moves : (old : Gateway) (plan : Plan) (ops : List Op) (delta : Option (List Op)) (new : Gateway) (made : List (List Op)) → IsOfDraft old.config.gateway (seen_of old.taken) plan → plan.ops ≡ ops → IsMade ops old plan delta new made → Still old new made ⊎ Stepped old new made
made-moves old plan [] None new made p e h = inl (record { config = ap (λ (x : Gateway). x.config) h.1; taken = ap (λ (x : Gateway). x.taken) h.1; none = h.0 })
made-moves old plan [] (Some delta) new made p e h = absurd h
made-moves old plan (op ∷ ops) None new made p e h = absurd h
made-moves old plan (op ∷ ops) (Some delta) new made p e h = inr (record {
  plan = plan;
  drafted = p;
  delta = delta;
  proper = h.0.delta;
  same = subst (Same delta) (sym e) h.0.same;
  config = ap (λ (x : Gateway). x.config) h.4;
  taken = ap (λ (x : Gateway). x.taken) h.4;
  one = h.3;
})

pub plan-drafted : (old : Gateway) (occasion : Occasion) (now : ℕ) (plan : Plan) → IsPlan old occasion now (Some plan) → IsOfDraft old.config.gateway (seen_of old.taken) plan
plan-drafted old (Datagram from bytes) now plan h = step-drafted old.config.gateway old.config.lifetime old.config.predefined old.taken old.local from h.0 now plan h.3
plan-drafted old Clock now plan h = tick-drafted old.config.gateway old.config.lifetime old.config.advertise old.config.field old.config.predefined old.taken old.local now plan h

pub own-moves : (old : Gateway) (occasion : Occasion) (now : ℕ) (answer : Result Out Refusal) (new : Gateway) (made : List (List Op)) → OwnStep old occasion now answer new made → Still old new made ⊎ Stepped old new made
own-moves old occasion now (Ok out) new made h = made-moves old h.0 h.0.ops out.made new made (plan-drafted old occasion now h.0 h.1) refl h.2.1
own-moves old occasion now (Err (refusals.Frame fault)) new made h = inl (still old new made h.1)
own-moves old occasion now (Err refusals.Exhausted) new made h = inl (still old new made h.1)
own-moves old occasion now (Err (refusals.Conflict client)) new made h = inl (still old new made h.3)
own-moves old occasion now (Err refusals.Full) new made h = inl (still old new made h.3)
own-moves old occasion now (Err refusals.Halted) new made h = inl (still old new made h.1)
own-moves old occasion now (Err (refusals.Disk excuse)) new made h = inl (torn-still old h.2.delta new made h.2.torn)
own-moves old occasion now (Err (refusals.Journal fault)) new made h = absurd h
own-moves old occasion now (Err refusals.Memory) new made h = absurd h

-- what was made can be written
made-writable : (old : Gateway) (plan : Plan) (ops : List Op) (delta : Option (List Op)) (new : Gateway) (made : List (List Op)) → IsMade ops old plan delta new made → AllByRecursion IsWritable made
made-writable old plan [] None new made h = subst (λ (m : List (List Op)). AllByRecursion IsWritable m) (sym h.0) tt
made-writable old plan [] (Some delta) new made h = absurd h
made-writable old plan (op ∷ ops) None new made h = absurd h
made-writable old plan (op ∷ ops) (Some delta) new made h = subst (λ (m : List (List Op)). AllByRecursion IsWritable m) (sym h.3) (h.1, tt)

none-writable : (made : List (List Op)) → made ≡ [] → AllByRecursion IsWritable made
none-writable made e = subst (λ (m : List (List Op)). AllByRecursion IsWritable m) (sym e) tt

pub own-writable : (old : Gateway) (occasion : Occasion) (now : ℕ) (answer : Result Out Refusal) (new : Gateway) (made : List (List Op)) → OwnStep old occasion now answer new made → AllByRecursion IsWritable made
own-writable old occasion now (Ok out) new made h = made-writable old h.0 h.0.ops out.made new made h.2.1
own-writable old occasion now (Err (refusals.Frame fault)) new made h = none-writable made h.1.none
own-writable old occasion now (Err refusals.Exhausted) new made h = none-writable made h.1.none
own-writable old occasion now (Err (refusals.Conflict client)) new made h = none-writable made h.3.none
own-writable old occasion now (Err refusals.Full) new made h = none-writable made h.3.none
own-writable old occasion now (Err refusals.Halted) new made h = none-writable made h.1.none
own-writable old occasion now (Err (refusals.Disk excuse)) new made h = none-writable made h.2.torn.none
own-writable old occasion now (Err (refusals.Journal fault)) new made h = absurd h
own-writable old occasion now (Err refusals.Memory) new made h = absurd h

-- a delta is taken, or nothing is
pub take-moves : (old : Gateway) (delta : List Op) (answer : Result Out Refusal) (new : Gateway) (made : List (List Op)) → TakeStep old delta answer new made → Still old new made ⊎ Fed old delta new made
take-moves old delta (Ok out) new made h = inr (record { config = ap (λ (x : Gateway). x.config) h.3; taken = ap (λ (x : Gateway). x.taken) h.3; none = h.2 })
take-moves old delta (Err (refusals.Conflict client)) new made h = inl (still old new made h.1)
take-moves old delta (Err refusals.Full) new made h = inl (still old new made h.1)
take-moves old delta (Err refusals.Halted) new made h = inl (still old new made h.1)
take-moves old delta (Err (refusals.Disk excuse)) new made h = inl (torn-still old delta new made h.2)
take-moves old delta (Err (refusals.Frame fault)) new made h = absurd h
take-moves old delta (Err refusals.Exhausted) new made h = absurd h
take-moves old delta (Err (refusals.Journal fault)) new made h = absurd h
take-moves old delta (Err refusals.Memory) new made h = absurd h

-- the delta that was made is the one that the answer tells of
told-made : (old : Gateway) (plan : Plan) (ops : List Op) (delta : Option (List Op)) (new : Gateway) (made : List (List Op)) → IsMade ops old plan delta new made → made ≡ option_to_list delta
told-made old plan [] None new made h = h.0
told-made old plan [] (Some delta) new made h = absurd h
told-made old plan (op ∷ ops) None new made h = absurd h
told-made old plan (op ∷ ops) (Some delta) new made h = h.3

pub own-told : (old : Gateway) (occasion : Occasion) (now : ℕ) (answer : Result Out Refusal) (new : Gateway) (made : List (List Op)) → OwnStep old occasion now answer new made → made ≡ made_of answer
own-told old occasion now (Ok out) new made h = told-made old h.0 h.0.ops out.made new made h.2.1
own-told old occasion now (Err (refusals.Frame fault)) new made h = h.1.none
own-told old occasion now (Err refusals.Exhausted) new made h = h.1.none
own-told old occasion now (Err (refusals.Conflict client)) new made h = h.3.none
own-told old occasion now (Err refusals.Full) new made h = h.3.none
own-told old occasion now (Err refusals.Halted) new made h = h.1.none
own-told old occasion now (Err (refusals.Disk excuse)) new made h = h.2.torn.none
own-told old occasion now (Err (refusals.Journal fault)) new made h = absurd h
own-told old occasion now (Err refusals.Memory) new made h = absurd h

-- the first gateway of each number is flush
abbrev pub AreAllFlush : List Gateway → Type 0
AreAllFlush gateways = (n j : ℕ) (gateway : Gateway) → First n gateways j → slice_get gateways j ≡ Some gateway → HaveNoGap n gateway.taken

module _ (gs : List Gateway) (s : AreAllFlush gs) (n i : ℕ) (old : Gateway) (f : First n gs i) (is : slice_get gs i ≡ Some old) where
  -- one gateway became another
  updated : (next : Gateway) → next.config ≡ old.config → HaveNoGap n next.taken → AreAllFlush (set gs i next)
  updated next config flush m j gateway h e = elim (first-set n m i j gs old next gateway f is config h e) [
    | inl own ↦ λ c. subst (λ k. IsFlush k c gateway.taken) (sym own.0) (subst (λ (x : Gateway). IsFlush n c x.taken) (sym own.1) (flush c))
    | inr other ↦ s m j gateway other.1 other.2
  ]

  flush-before : HaveNoGap n old.taken
  flush-before = s n i old f is

  flush-still : (next : Gateway) (made : List (List Op)) → Still old next made → AreAllFlush (set gs i next)
  flush-still next made u = updated next u.config (λ c. subst (λ T. IsFlush n c T) (sym u.taken) (flush-before c))

  flush-stepped : (next : Gateway) (made : List (List Op)) → Stepped old next made → AreAllFlush (set gs i next)
  flush-stepped next made u =
      let number : old.config.gateway ≡ n = first-number n i gs old f is in
      let p : IsOfDraft n (seen_of old.taken) u.plan = subst (λ k. IsOfDraft k (seen_of old.taken) u.plan) number u.drafted in
      updated next u.config (λ c. subst (λ T. IsFlush n c T) (sym u.taken) (step-flush n old.taken u.plan p u.delta u.same flush-before c))

  pub flush-moved : (next : Gateway) (made : List (List Op)) → Still old next made ⊎ Stepped old next made → AreAllFlush (set gs i next)
  flush-moved next made (inl u) = flush-still next made u
  flush-moved next made (inr u) = flush-stepped next made u

  -- it took a delta that has no news of what it wrote itself
  pub flush-fed : (next : Gateway) (made : List (List Op)) (delta : List Op) → IsKnown n old.taken delta → Still old next made ⊎ Fed old delta next made → AreAllFlush (set gs i next)
  flush-fed next made delta news (inl u) = flush-still next made u
  flush-fed next made delta news (inr u) = updated next u.config (λ c. subst (λ T. IsFlush n c T) (sym u.taken) (flush-taken n c old.taken delta (news c) (flush-before c)))

  -- it took a delta of its own that it had refused
  pub flush-back : (next : Gateway) (plan : Plan) (delta : List Op) → IsOfDraft old.config.gateway (seen_of old.taken) plan → Same delta plan.ops → Fed old delta next [] → AreAllFlush (set gs i next)
  flush-back next plan delta drafted same u =
      let number : old.config.gateway ≡ n = first-number n i gs old f is in
      let p : IsOfDraft n (seen_of old.taken) plan = subst (λ k. IsOfDraft k (seen_of old.taken) plan) number drafted in
      updated next u.config (λ c. subst (λ T. IsFlush n c T) (sym u.taken) (step-flush n old.taken plan p delta same flush-before c))

pub start-flush : (configs : List Config) → AreAllFlush (map new_gateway configs)
start-flush configs n j gateway f e c = empty (slice_get configs j) (sym (slice_get-map new_gateway configs j) ∙ e)
  where
    empty : (o : Option Config) → option_map new_gateway o ≡ Some gateway → IsFlush n c gateway.taken
    empty None e = absurd (none-some gateway e)
    empty (Some config) e = subst (λ (x : Gateway). IsFlush n c x.taken) (same_Some (new_gateway config) gateway e) (flush-start n c)

some_none : {X : Type 0} (o : Option X) → is_some o ≡ true → o ≡ None → ⊥
some_none o h e = true≢false (sym h ∙ ap is_some e)

module _ (gateway : Gateway) (plan : Plan) (p : IsOfDraft gateway.config.gateway (seen_of gateway.taken) plan) (delta : List Op) (same : Same delta plan.ops) (flush : HaveNoGap gateway.config.gateway gateway.taken) where
  -- an operation of the plan has the name of none that was taken
  pub names-apart : (old new : Op) → Contains gateway.taken old → Contains delta new → HaveName old new → ⊥
  names-apart (OfSession c s i o) (OfSession d t j q) before after named =
      some_none (operation_at d gateway.taken (t, j))
      (subst (λ k. is_some (operation_at d gateway.taken (t, k)) ≡ true) named.2 (subst (λ k. is_some (operation_at d gateway.taken (k, i)) ≡ true) named.1 (subst (λ e. is_some (operation_at e gateway.taken (s, i)) ≡ true) named.0 (is_there gateway.taken (OfSession c s i o) before))))
      (step-new_operation gateway.config.gateway gateway.taken plan p delta same flush d (t, j) (is_there delta (OfSession d t j q) after))
  names-apart (OfPut c x) (OfPut d y) before after named =
      some_none (put_at d gateway.taken (y.seq, y.origin))
      (subst (λ k. is_some (put_at d gateway.taken (k, y.origin)) ≡ true) named.2 (subst (λ k. is_some (put_at d gateway.taken (x.seq, k)) ≡ true) named.1 (subst (λ e. is_some (put_at e gateway.taken (x.seq, x.origin)) ≡ true) named.0 (is_there gateway.taken (OfPut c x) before))))
      (step-new_put gateway.config.gateway gateway.taken plan p delta same flush d (y.seq, y.origin) (is_there delta (OfPut d y) after))
  names-apart (OfRetain t x) (OfRetain u y) before after named =
      some_none (retain_at u gateway.taken (clock_of y))
      (subst (λ k. is_some (retain_at u gateway.taken (y.clock, k)) ≡ true) named.2 (subst (λ k. is_some (retain_at u gateway.taken (k, x.gateway)) ≡ true) named.1 (subst (λ e. is_some (retain_at e gateway.taken (clock_of x)) ≡ true) named.0 (is_there gateway.taken (OfRetain t x) before))))
      (step-new_retain gateway.config.gateway gateway.taken plan p delta same flush u (clock_of y) (is_there delta (OfRetain u y) after))
  names-apart old new before after named = absurd named

pub plan-agrees : (field : Field) (number i : ℕ) (gateway : Gateway) (occasion : Occasion) (now : ℕ) (plan : Plan) (delta : List Op) → IsSteady field → IsAt field number i gateway → IsPlan gateway occasion now (Some plan) → IsDeltaOf plan.ops delta → AllAgree gateway.taken delta
plan-agrees field number i gateway occasion now plan delta s at h d =
    let own : gateway.config.gateway ≡ number = first-number number i field.gateways gateway (place_of-first number i field.gateways at.0) at.1 in
    (step-fits gateway.config.gateway gateway.taken plan (plan-drafted gateway occasion now plan h) delta d.same
    (λ c. subst (λ k. IsFlush k c gateway.taken) (sym own) (s.flush number i gateway at c))).0

pub no-conflict : (field : Field) (number i : ℕ) (gateway : Gateway) (occasion : Occasion) (now : ℕ) (of : Subject) (new : Gateway) (made : List (List Op)) → IsSteady field → IsAt field number i gateway → OwnStep gateway occasion now (Err (refusals.Conflict of)) new made → ⊥
no-conflict field number i gateway occasion now of new made s at h =
    let own : gateway.config.gateway ≡ number = first-number number i field.gateways gateway (place_of-first number i field.gateways at.0) at.1 in
    let conflict = h.2.2 in
    names-apart gateway h.0 (plan-drafted gateway occasion now h.0 h.1) h.2.0 h.2.1.same (λ c. subst (λ k. IsFlush k c gateway.taken) (sym own) (s.flush number i gateway at c))
    conflict.old conflict.new conflict.is_old conflict.is_new conflict.named
