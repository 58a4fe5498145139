-- Several calls of a node with one write are events of the gateway that it stands for.
use Rattle.std.proofs.Common.{◌≡◌, ◌++◌, ◌∷◌, ℕ, zero, suc, ◌+◌, ◌-◌, ◌≤◌, length, take, map, true, false, true≢false, List, [], Option, Some, None, Result, Ok, Err, refl, sym, ap, ◌∙◌, subst, append-nil, inl, inr, arith}
use Rattle.std.specs.Prelude.{IsTrue}
use Rattle.std.specs.Option.{option_to_list}
use Rattle.std.proofs.lemmas.List.{length-append}
use Rattle.rep_op.specs.declared.op.Op.{Op}
use Rattle.rep_ops.specs.Making.{IsDeltaOf}
use Rattle.sn_plan.specs.declared.plan.Plan.{Plan}
use Rattle.sn_local.specs.Locals.{Local}
use Rattle.jr_disk.specs.declared.disk.Disk.{Ghosts}
use Rattle.jr_disk.specs.declared.disk.Failure.{Failure}
use Rattle.jr_disk.specs.Disk.{Slots, Image, image, after_crash, EachCrash}
use Rattle.jr_journal.specs.Arranged.{after_append, misses_failure}
use Rattle.jr_journal.specs.Crashes.{Opens}
use Rattle.jr_journal.specs.Parts.{disk_under, gateway_of, slot_of}
use Rattle.jr_journal.specs.Records.{written_all, records}
use Rattle.gw_answer.specs.declared.out.Out.{Out}
use Rattle.gw_answer.specs.declared.refusal.Refusal.{Refusal}
use Rattle.gw_answer.specs.declared.refusal.Refusal.TheVariants as refusals
use Rattle.gw_answer.specs.declared.step.Step.{Step}
use Rattle.gw_answer.specs.declared.step.Step.TheVariants as steps
use Rattle.gw_event.specs.Drives.{Drive, torn_all, more_records, left_by}
use Rattle.gw_event.specs.Gateways.{Gateway, with_refused}
use Rattle.gw_event.specs.Occasions.{Occasion, Datagram, Clock}
use Rattle.gw_event.specs.Event.{OwnStep, StepOf}
use Rattle.gw_event.specs.Together.{InTurnBy, InTurn, put_by, put_by_all, AreTorn, FailsLast, Together}
use Rattle.gw_event.proofs.Turns.{one_together}
use Rattle.gw_node.specs.Failures.{failed, failed_all}
use Rattle.gw_node.specs.Keeping.{Keeps}
use Rattle.gw_node.specs.Parts.{State, is_halted, IsUntouched}
use Rattle.gw_node.specs.Calls.{StepCall}
use Rattle.gw_node.specs.Standing.{IsSynced, Lasts, Represents, IsForeseen, with_failure, LeadsTo, CallAgrees, AgreeInTurn, CanBeSaid, EventsOn}
use Rattle.gw_node.specs.Taking.{on_disk, RecoversTo, HasTaken}
use Rattle.gw_node.specs.inner.Ahead.{MakesAhead, IsDoneAhead, StepAhead, WritesPlan}
use Rattle.gw_node.specs.inner.Rows.{AreWritten, AreFailed, TurnAhead, BeginsRow, excused, EndedAs, IsRow, RowCall}
use Rattle.gw_node.proofs.Failing.{failures_grow}
use Rattle.gw_node.proofs.Held.{takable}
use Rattle.gw_node.proofs.Leading.{plan_taken, step_leads}
use Rattle.gw_node.proofs.Rows.{with_records, records_slots, records_slot, records_plan, records_halted, AreNext, first_stand, so_many, all_back, all_taken, IsAhead, AllLead, turn_leads, all_write, as_many, all_halted, turn_failed, turn_last, turn_untouched}
use Rattle.gw_node.proofs.Standing.{to_taken, from_taken, append_synced, left_torn, Came, came, unmet, goes, keeps_still, struck}
use Rattle.gw_node.proofs.Taken.{StandFor, stands_at, records_stand, opened}

abbrev Answers : Type 0
Answers = List (Result Out Refusal)

so_many_above : (m n k : ℕ) → m ≡ n + k → m - n ≡ k
so_many_above m n k e = omega (arith, e)

abbrev Rows : List Step → Answers → Gateway → Gateway → List (List Op) → Type 0
Rows calls answers before next made = Together before calls answers next made

-- ---- one call by itself

agrees_fated : (fate : Option Failure) (g : Gateway) (step : Step) → CallAgrees (with_failure fate g) step → CallAgrees g step
agrees_fated fate g (steps.Frame from bytes now) h = h
agrees_fated fate g (steps.Take delta) h = h
agrees_fated fate g (steps.Tick now) h = h
agrees_fated fate g (steps.View client) h = h
agrees_fated fate g steps.Digest h = h
agrees_fated fate g (steps.Answer asked) h = h
agrees_fated fate g steps.Compact h = h
agrees_fated fate g steps.Reopen h = h

-- ---- calls that may have been in the write

-- the steps of calls are events
in_turn : (old new : Gateway) (calls : List Step) (answers : Answers) (made : List (List Op)) → InTurnBy StepOf old calls answers new made → InTurn old calls answers new made
in_turn old new [] [] made h = h
in_turn old new (call ∷ calls) (answer ∷ answers) made (mid, first, more, does, rest, is) = (mid, first, more, inl does, in_turn mid new calls answers more rest, is)
in_turn old new [] (answer ∷ answers) made h = absurd h
in_turn old new (call ∷ calls) [] made h = absurd h

-- a row whose first call has something to write
begun_ahead : {D : Type 0} {G : Ghosts D} (old new : State G) (first : Step) (out excuse : Out) → BeginsRow old first out excuse new → StepAhead old first (Ok out) new
begun_ahead old new (steps.Frame from bytes now) out excuse (plan, w, done) = (plan, w.is_plan, done)
begun_ahead old new (steps.Tick now) out excuse (plan, w, done) = (plan, w.is_plan, done)
begun_ahead old new (steps.Take delta) out excuse (some, is_out, is_excuse, taken) = (is_out, taken)
begun_ahead old new (steps.View client) out excuse h = absurd h
begun_ahead old new steps.Digest out excuse h = absurd h
begun_ahead old new (steps.Answer asked) out excuse h = absurd h
begun_ahead old new steps.Compact out excuse h = absurd h
begun_ahead old new steps.Reopen out excuse h = absurd h

-- the deltas of a row are those of its first call and others
abbrev row_puts : Step → Out → List Step → Answers → List (List Op)
row_puts first out rest said = put_by_all (first ∷ rest) (Ok out ∷ said)

-- they are at least one
some_record : (deltas : List (List Op)) (delta : List Op) (others : List (List Op)) (drive : Drive) → deltas ≡ delta ∷ others → (with_records deltas drive).slots ≡ after_append None drive.slots drive.slot (written_all deltas)
some_record deltas delta others drive is =
    subst (λ (ds : List (List Op)). (with_records ds drive).slots ≡ after_append None drive.slots drive.slot (written_all ds)) (sym is) (records_slots delta others drive)

-- a failure came as the deltas were written
abbrev pub struck_all : Failure → List (List Op) → Gateway → Gateway
struck_all failure deltas g = record g { refused = deltas; drive = torn_all failure deltas (record g.drive { plan = Some failure }) }

-- the write of the first alone
record FirstTorn {D : Type 0} {G : Ghosts D} (g : Gateway) (old : State G) (first : Step) (out excuse : Out) : Type 0 where
  delta : List Op
  puts : put_by first (Ok out) ≡ delta ∷ []
  does : (failure : Failure) → StepOf (with_failure (Some failure) g) first (Err (refusals.Disk excuse)) (struck failure delta g) []

module _ {D : Type 0} {G : Ghosts D} (g : Gateway) (old : State G) (s : Represents g old) where
  -- ---- the first of a row by itself

  own_torn : (occasion : Occasion) (now : ℕ) (plan : Plan) (out excuse : Out) (mid : State G) → is_halted old ≡ false → WritesPlan old occasion now plan excuse → IsDoneAhead old plan out mid
      → (ops : List Op) (made : Option (List Op)) → plan.ops ≡ ops → out.made ≡ made → MakesAhead ops made old mid
      → (delta : List Op) × (option_to_list out.made ≡ delta ∷ []) × ((failure : Failure) → OwnStep (with_failure (Some failure) g) occasion now (Err (refusals.Disk excuse)) (struck failure delta g) [])
  own_torn occasion now plan out excuse mid runs w done [] made ops is_made h = absurd (w.some ops)
  own_torn occasion now plan out excuse mid runs w done (op ∷ rest) None ops is_made h = absurd h
  own_torn occasion now plan out excuse mid runs w done (op ∷ rest) (Some delta) ops is_made (is_delta, fits, kept, writable) = (
    delta,
    ap (λ (m : Option (List Op)). option_to_list m) is_made,
    λ failure. (
      plan,
      plan_taken g old s occasion now (Some plan) w.is_plan,
      record {
        some = w.some;
        apart = done.apart;
        delta = delta;
        is_delta = subst (λ (os : List Op). IsDeltaOf os delta) (sym ops) is_delta;
        limit = writable.limit;
        torn = record { takable = takable g.taken old.kept delta s.keeps fits; failure = failure; planned = refl; halted = refl; none = refl };
        excused = w.excused;
        sends = w.sends;
      },
      goes g old s runs,
    ),
  )

  first_torn : (first : Step) (out excuse : Out) (mid : State G) → is_halted old ≡ false → BeginsRow old first out excuse mid → FirstTorn g old first out excuse
  first_torn (steps.Frame from bytes now) out excuse mid runs (plan, w, done) =
      let t = own_torn (Datagram from bytes) now plan out excuse mid runs w done plan.ops out.made refl refl done.made in record { delta = t.0; puts = t.1; does = t.2 }
  first_torn (steps.Tick now) out excuse mid runs (plan, w, done) =
      let t = own_torn Clock now plan out excuse mid runs w done plan.ops out.made refl refl done.made in record { delta = t.0; puts = t.1; does = t.2 }
  first_torn (steps.Take []) out excuse mid runs (some, is_out, is_excuse, taken) = absurd (some refl)
  first_torn (steps.Take (op ∷ ops)) out excuse mid runs (some, is_out, is_excuse, taken) = record {
    delta = op ∷ ops;
    puts = refl;
    does = λ failure. (
      is_excuse,
      some,
      record { takable = takable g.taken old.kept (op ∷ ops) s.keeps taken.fits; failure = failure; planned = refl; halted = refl; none = refl },
      goes g old s runs,
    );
  }
  first_torn (steps.View client) out excuse mid runs h = absurd h
  first_torn steps.Digest out excuse mid runs h = absurd h
  first_torn (steps.Answer asked) out excuse mid runs h = absurd h
  first_torn steps.Compact out excuse mid runs h = absurd h
  first_torn steps.Reopen out excuse mid runs h = absurd h

  -- ---- a row

  module _ (first : Step) (rest : List Step) (answers : Answers) (new : State G) (row : IsRow old first rest answers new) where
    abbrev done : List Step
    done = take row.finished.count rest

    abbrev said : Answers
    said = row.finished.said

    abbrev deltas : List (List Op)
    deltas = row_puts first row.out done said

    turn : TurnAhead old (first ∷ done) (Ok row.out ∷ said) row.finished.after
    turn = (row.mid, begun_ahead old row.mid first row.out row.excuse row.begun, λ e. absurd cc, row.finished.turn)

    here : IsAhead (with_failure None g) (with_failure None g) [] old old
    here = record {
      configured = s.configured;
      bound = s.bound;
      keeps = s.keeps;
      records = refl;
      journal = record { gateway = refl; slot = refl; generation = refl; halted = refl; disk = refl };
      config = refl;
      taken = sym (append-nil g.taken);
      drive = refl;
      refused = refl;
    }

    led : AllLead (with_failure None g) (with_failure None g) [] old (first ∷ done) (Ok row.out ∷ said) row.finished.after
    led = turn_leads (with_failure None g) (with_failure None g) [] old old row.finished.after here (goes g old s row.runs) refl (first ∷ done) (Ok row.out ∷ said) turn

    alone : FirstTorn g old first row.out row.excuse
    alone = first_torn first row.out row.excuse row.mid row.runs row.begun

    -- the journal before the write is that from before the row
    before : IsUntouched old.journal row.finished.ahead.journal
    before =
        let a = led.ahead.journal in
        let b = row.finished.same.journal in
        record { gateway = b.gateway ∙ a.gateway; slot = b.slot ∙ a.slot; generation = b.generation ∙ a.generation; halted = b.halted ∙ a.halted; disk = b.disk ∙ a.disk }

    at_slots : G.honest → G.slots (disk_under row.finished.ahead.journal) ≡ g.drive.slots
    at_slots honest = ap G.slots before.disk ∙ s.slots honest

    at_slot : slot_of row.finished.ahead.journal ≡ g.drive.slot
    at_slot = before.slot ∙ s.slot

    at_gateway : gateway_of row.finished.ahead.journal ≡ g.config.gateway
    at_gateway = before.gateway ∙ s.numbered

    -- what its disk holds, if what was taken lasts
    abbrev held : List (List Op)
    held = records g.config.gateway (image g.drive.slots)

    read : gateway_of row.finished.ahead.journal ≡ g.config.gateway → G.honest → records (gateway_of row.finished.ahead.journal) (image (G.slots (disk_under row.finished.ahead.journal))) ≡ held
    read e honest = λ i. records (e i) (image (at_slots honest i))

    stand_before : G.honest → Lasts g → StandFor g.taken [] held
    stand_before honest l =
        let taken = to_taken g old s (goes g old s row.runs) honest l in
        let same : on_disk old ≡ held = λ i. records (s.numbered i) (image (s.slots honest i)) in
        subst (λ (ds : List (List Op)). StandFor g.taken [] ds) same
        (records_stand (gateway_of old.journal) g.taken [] (image (G.slots (disk_under old.journal))) (stands_at (gateway_of old.journal) g.taken [] (G.slots (disk_under old.journal)) (taken.images honest)))

    -- the deltas are that of the first call and others
    at_least : deltas ≡ alone.delta ∷ put_by_all done said
    at_least = ap (λ (ds : List (List Op)). ds ++ put_by_all done said) alone.puts

    looks : G.honest → IsForeseen g old → G.outlook (disk_under row.finished.ahead.journal) ≡ Some g.drive.plan
    looks honest f = ap G.outlook before.disk ∙ f.plan

    -- ---- all of it was written

    module _ (kept : new.kept ≡ row.finished.ahead.kept) (local : new.local ≡ row.finished.ahead.local) (w : AreWritten row.finished.ahead.journal deltas new.journal) where
      next_slots : led.next.drive.slots ≡ after_append None g.drive.slots g.drive.slot (written_all deltas)
      next_slots = ap (λ (d : Drive). d.slots) led.ahead.drive ∙ some_record deltas alone.delta (put_by_all done said) (with_failure None g).drive at_least

      next_plan : led.next.drive.plan ≡ None
      next_plan = ap (λ (d : Drive). d.plan) led.ahead.drive ∙ records_plan deltas (with_failure None g).drive

      written_stands : Represents led.next new
      written_stands = record {
        configured = row.finished.ended.config ∙ row.finished.same.config ∙ led.ahead.configured;
        numbered = w.gateway ∙ at_gateway ∙ sym (ap (λ c. c.gateway) led.ahead.config);
        bound = local ∙ row.finished.same.local ∙ led.ahead.bound;
        keeps = subst (λ (K : List Op). Keeps led.next.taken K) (sym (kept ∙ row.finished.same.kept)) led.ahead.keeps;
        slot = w.slot ∙ at_slot ∙ sym (ap (λ (d : Drive). d.slot) led.ahead.drive ∙ records_slot deltas (with_failure None g).drive);
        halted = w.goes_on ∙ sym (ap (λ (d : Drive). d.halted) led.ahead.drive ∙ records_halted deltas (with_failure None g).drive ∙ goes g old s row.runs);
        slots = λ honest. w.exact honest ∙ (λ i. after_append None (at_slots honest i) (at_slot i) (written_all deltas)) ∙ sym next_slots;
      }

      -- the records stand for the set
      all_stand : G.honest → Lasts g → AreNext g.taken deltas → StandFor led.next.taken [] (held ++ deltas)
      all_stand honest l due =
          subst (λ (S : List Op). StandFor S [] (held ++ deltas)) (all_back g.taken deltas ∙ sym led.ahead.taken)
          (subst (λ (ds : List (List Op)). StandFor (with_refused (length deltas) g.taken deltas) [] (held ++ ds)) (all_taken deltas)
          (first_stand (length deltas) g.taken deltas held due (stand_before honest l)))

      all_held : G.honest → Lasts g → AreNext g.taken deltas → HasTaken led.next.taken [] new
      all_held honest l due =
          let recs = records (gateway_of row.finished.ahead.journal) (image (G.slots (disk_under row.finished.ahead.journal))) in
          let stand : StandFor led.next.taken [] (recs ++ deltas) =
          subst (λ (ds : List (List Op)). StandFor led.next.taken [] (ds ++ deltas)) (sym (read at_gateway honest)) (all_stand honest l due) in
          record {
            counts = written_stands.keeps.counts;
            quiet = λ _. refl;
            images = λ _.
                subst (λ (n : ℕ). EachCrash (λ i. RecoversTo n led.next.taken [] i) (G.slots (disk_under new.journal))) (sym w.gateway)
                (λ k m. opened (gateway_of row.finished.ahead.journal) led.next.taken [] (recs ++ deltas) (after_crash k m (G.slots (disk_under new.journal))) (w.durable honest k m) stand);
            begun = λ _ k m. (w.durable honest k m).2;
          }

      written_row : answers ≡ Ok row.out ∷ said → LeadsTo (λ before next made. Rows (first ∷ done) answers before next made) (AgreeInTurn (with_failure None g) (first ∷ done)) g old new
      written_row are = record {
        fate = None;
        next = led.next;
        made = led.made;
        happens = inl (
          subst (λ (xs : Answers). InTurn (with_failure None g) (first ∷ done) xs led.next led.made) (sym are) (in_turn (with_failure None g) led.next (first ∷ done) (Ok row.out ∷ said) led.made led.does),
          subst FailsLast (sym are) (turn_last old row.finished.after (first ∷ done) (Ok row.out ∷ said) turn),
        );
        stands = written_stands;
        foreseen = λ honest fed f.
            let none = unmet _ g.drive.plan _ _ _ _ _ (looks honest f) (w.known honest fed) in (
              none.0,
              record {
                plan = none.1 ∙ ap (λ (p : Option Failure). Some p) (sym next_plan);
                quiet = subst (λ (p : Option Failure). IsTrue (misses_failure (Some p) false)) (sym next_plan) refl;
              },
            );
        lasts = λ agrees honest l.
            from_taken led.next new written_stands honest (led.ahead.refused ∙ l.none (goes g old s row.runs))
            (λ running. subst IsSynced (sym next_slots) (append_synced g.drive.slots g.drive.slot (written_all deltas) (l.synced (goes g old s row.runs))))
            (all_held honest l (led.due agrees));
      }

    -- ---- the disk failed

    module _ (kept : new.kept ≡ old.kept) (local : new.local ≡ old.local) (w : AreFailed row.finished.ahead.journal deltas new.journal) where
      fate : Came G.honest (G.starved (disk_under new.journal)) (G.outlook (disk_under row.finished.ahead.journal)) (G.slots (disk_under row.finished.ahead.journal)) (slot_of row.finished.ahead.journal) (written_all deltas) (G.slots (disk_under new.journal)) (G.outlook (disk_under new.journal))
      fate = came G.honest _ _ _ _ _ _ _ w.struck w.known

      abbrev next : Gateway
      next = struck_all fate.failure deltas g

      now_slots : G.honest → G.slots (disk_under new.journal) ≡ next.drive.slots
      now_slots honest = fate.slots honest ∙ (λ i. after_append (Some fate.failure) (at_slots honest i) (at_slot i) (written_all deltas))

      torn_stands : Represents next new
      torn_stands = record {
        configured = row.finished.ended.config ∙ row.finished.same.config ∙ led.ahead.configured ∙ led.ahead.config;
        numbered = w.gateway ∙ at_gateway;
        bound = local ∙ s.bound;
        keeps = keeps_still g old s new kept;
        slot = w.slot ∙ at_slot;
        halted = w.halts;
        slots = now_slots;
      }

      module _ (honest : G.honest) (l : Lasts g) (due : AreNext g.taken deltas) where
        left_before : records g.config.gateway (left_by 0 next.drive) ≡ held
        left_before = ap (λ (i : Image). records g.config.gateway i) (left_torn fate.failure g.drive.slots g.drive.slot (written_all deltas) (l.synced (goes g old s row.runs)))

        torn_image : (i : Image) → (n : ℕ) × Opens g.config.gateway (held ++ take n deltas) i → RecoversTo g.config.gateway (with_refused (more_records g.config.gateway next.drive i) g.taken deltas) [] i
        torn_image i (n, opens) =
            let count : length (records g.config.gateway i) ≡ length (records g.config.gateway (left_by 0 next.drive)) + length (take n deltas) =
            ap length opens.0 ∙ length-append held (take n deltas) ∙ ap (λ (ds : List (List Op)). length ds + length (take n deltas)) (sym left_before) in
            let many : more_records g.config.gateway next.drive i ≡ length (take n deltas) = so_many_above _ _ _ count in
            subst (λ (S : List Op). RecoversTo g.config.gateway S [] i) (sym (ap (λ (m : ℕ). with_refused m g.taken deltas) many ∙ so_many n g.taken deltas))
            (opened g.config.gateway (with_refused n g.taken deltas) [] (held ++ take n deltas) i opens (first_stand n g.taken deltas held due (stand_before honest l)))

        left : EachCrash (λ i. (n : ℕ) × Opens g.config.gateway (held ++ take n deltas) i) next.drive.slots
        left =
            subst (λ (d : Slots). EachCrash (λ i. (n : ℕ) × Opens g.config.gateway (held ++ take n deltas) i) d) (now_slots honest)
            (subst (λ (ds : List (List Op)). EachCrash (λ i. (n : ℕ) × Opens g.config.gateway (ds ++ take n deltas) i) (G.slots (disk_under new.journal))) (read at_gateway honest)
            (subst (λ (b : ℕ). EachCrash (λ i. (n : ℕ) × Opens b (records (gateway_of row.finished.ahead.journal) (image (G.slots (disk_under row.finished.ahead.journal))) ++ take n deltas) i) (G.slots (disk_under new.journal))) at_gateway (w.torn honest)))

        torn_lasts : Lasts next
        torn_lasts = record {
          synced = λ running. absurd (true≢false running);
          none = λ running. absurd (true≢false running);
          images = λ k m. torn_image (after_crash k m next.drive.slots) (left k m);
          begun = λ k m. (left k m).1.2;
        }

      are_torn : AreTorn (with_failure (Some fate.failure) g) first (Err (refusals.Disk row.excuse)) done next
      are_torn = record {
        writing = all_write old row.finished.after (first ∷ done) (Ok row.out ∷ said) turn;
        excuse = row.excuse;
        told = refl;
        alone = struck fate.failure alone.delta g;
        does = alone.does fate.failure;
        would = Ok row.out ∷ said;
        there = led.next;
        made = led.made;
        led = led.does;
        others = put_by_all done said;
        refused = at_least;
        failure = fate.failure;
        planned = refl;
        halted = refl;
      }

      torn_row : answers ≡ excused row.excuse (Ok row.out ∷ said) → LeadsTo (λ before next made. Rows (first ∷ done) answers before next made) (AgreeInTurn (with_failure None g) (first ∷ done)) g old new
      torn_row are = record {
        fate = Some fate.failure;
        next = next;
        made = [];
        happens = inr (record {
          calm = [];
          said = [];
          call = first;
          answer = Err (refusals.Disk row.excuse);
          behind = done;
          mid = with_failure (Some fate.failure) g;
          calls_are = refl;
          answers_are = are ∙ ap (λ (xs : Answers). Err (refusals.Disk row.excuse) ∷ xs) (all_halted row.mid row.finished.after done said row.finished.turn);
          quiet = refl;
          led = record { same = refl; none = refl };
          torn = are_torn;
        });
        stands = torn_stands;
        foreseen = λ honest fed f. let k = fate.known honest fed g.drive.plan (looks honest f) in (k.0, record { plan = k.1; quiet = refl });
        lasts = λ agrees honest l. torn_lasts honest l (led.due agrees);
      }

    row_leads : LeadsTo (λ before next made. Rows (first ∷ done) answers before next made) (AgreeInTurn (with_failure None g) (first ∷ done)) g old new
    row_leads =
        elim row.finished.ended.written [
          | inl h ↦ written_row h.1 h.2 h.3 h.0
          | inr h ↦ torn_row h.1 h.2 h.3 h.0
        ]

  alone_leads : (first : Step) (answer : Result Out Refusal) (new : State G) → CanBeSaid g old first answer new → StepCall old first answer new
      → LeadsTo (λ before next made. Rows (first ∷ []) (answer ∷ []) before next made) (AgreeInTurn (with_failure None g) (first ∷ [])) g old new
  alone_leads first answer new can h =
      let l = step_leads g old s new first answer can h in
      record {
        fate = l.fate;
        next = l.next;
        made = l.made;
        happens = one_together (with_failure l.fate g) l.next first answer l.made l.happens;
        stands = l.stands;
        foreseen = l.foreseen;
        lasts = λ agrees. l.lasts (agrees_fated None g first agrees.0);
      }

-- ---- what is done of the calls

taken_so : {X : Type 0} (n : ℕ) (xs : List X) → take (length (take n xs)) xs ≡ take n xs
taken_so zero xs = refl
taken_so (suc n) [] = refl
taken_so (suc n) (x ∷ xs) = ap (λ ys. x ∷ ys) (taken_so n xs)

few_of : {X : Type 0} (n : ℕ) (xs : List X) → length (take n xs) ≤ length xs
few_of zero xs = omega arith
few_of (suc n) [] = omega arith
few_of (suc n) (x ∷ xs) = let rest = few_of n xs in omega (arith, rest)

as_before : {X Y : Type 0} (f : X → Y) (xs : List X) → length (map f xs) ≡ length xs
as_before f [] = refl
as_before f (x ∷ xs) = ap suc (as_before f xs)

-- the answers are as many
excused_many : (excuse : Out) (said : Answers) → length (excused excuse said) ≡ length said
excused_many excuse [] = refl
excused_many excuse (answer ∷ answers) = ap suc (as_before (λ (a : Result Out Refusal). Err refusals.Halted) answers)

ended_many : {D : Type 0} {G : Ghosts D} (ahead new : State G) (kept : List Op) (local : Local) (deltas : List (List Op)) (excuse : Out) (said answers : Answers) → EndedAs ahead kept local deltas excuse said answers new
    → length answers ≡ length said
ended_many ahead new kept local deltas excuse said answers h =
    elim h.written [
      | inl k ↦ ap length k.0
      | inr k ↦ ap length k.0 ∙ excused_many excuse said
    ]

zero_more : (n : ℕ) → 0 + n ≡ n
zero_more n = omega arith

-- the disk failed once at least if an answer tells so
halted_none : (said : Answers) → failed_all (map (λ (a : Result Out Refusal). Err refusals.Halted) said) ≡ 0
halted_none [] = refl
halted_none (answer ∷ answers) = zero_more (failed_all (map (λ (a : Result Out Refusal). Err refusals.Halted) answers)) ∙ halted_none answers

module _ {D : Type 0} {G : Ghosts D} (old : State G) (first : Step) (rest : List Step) (answers : Answers) (new : State G) where
  row_many : (row : IsRow old first rest answers new) → length answers ≡ suc (length (take row.finished.count rest))
  row_many row =
      ended_many row.finished.ahead new old.kept old.local _ row.excuse (Ok row.out ∷ row.finished.said) answers row.finished.ended
      ∙ ap suc (as_many row.mid row.finished.after (take row.finished.count rest) row.finished.said row.finished.turn)

  row_calls : (row : IsRow old first rest answers new) → take (length answers) (first ∷ rest) ≡ first ∷ take row.finished.count rest
  row_calls row =
      ap (λ (n : ℕ). take n (first ∷ rest)) (row_many row) ∙ ap (λ (cs : List Step). first ∷ cs) (taken_so row.finished.count rest)

  pub row_events : RowCall old first rest answers new → EventsOn old (take (length answers) (first ∷ rest)) answers new
  row_events (inl h) =
      subst (λ (xs : Answers). EventsOn old (take (length xs) (first ∷ rest)) xs new) (sym h.answers_are) (λ g s can. alone_leads g old s first h.answer new can h.call)
  row_events (inr row) =
      subst (λ (cs : List Step). EventsOn old cs answers new) (sym (row_calls row)) (λ g s can. row_leads g old s first rest answers new row)

  pub row_some : RowCall old first rest answers new → (1 ≤ length answers) × (length answers ≤ suc (length rest))
  row_some (inl h) = let one : length answers ≡ 1 = ap length h.answers_are in (omega (arith, one), omega (arith, one))
  row_some (inr row) =
      let many : length answers ≡ suc (length (take row.finished.count rest)) = row_many row in
      let few = few_of row.finished.count rest in
      (omega (arith, many), omega (arith, many, few))

  ended_failed : (ahead : State G) (deltas : List (List Op)) (excuse out : Out) (said : Answers) → failed_all said ≡ 0 → disk_under ahead.journal ≡ disk_under old.journal → EndedAs ahead old.kept old.local deltas excuse (Ok out ∷ said) answers new
      → G.failures (disk_under old.journal) + failed_all answers ≤ G.failures (disk_under new.journal)
  ended_failed ahead deltas excuse out said none disk h =
      let same : G.failures (disk_under ahead.journal) ≡ G.failures (disk_under old.journal) = ap G.failures disk in
      elim h.written [
        | inl k ↦
            let all : failed_all answers ≡ 0 = ap failed_all k.0 ∙ (zero_more (failed_all said) ∙ none) in
            let more = k.3.failures in
            omega (arith, same, all, more)
        | inr k ↦
            let one : failed_all answers ≡ 1 = ap failed_all k.0 ∙ ap (λ (n : ℕ). 1 + n) (halted_none said) in
            let cause = k.3.cause in
            omega (arith, same, one, cause)
      ]

  pub row_failures : RowCall old first rest answers new → G.failures (disk_under old.journal) + failed_all answers ≤ G.failures (disk_under new.journal)
  row_failures (inl h) =
      let grow = failures_grow old first h.answer new h.call in
      let all : failed_all answers ≡ failed h.answer + 0 = ap failed_all h.answers_are in
      omega (arith, grow, all)
  row_failures (inr row) =
      let done = take row.finished.count rest in
      let turn : TurnAhead old (first ∷ done) (Ok row.out ∷ row.finished.said) row.finished.after = (row.mid, begun_ahead old row.mid first row.out row.excuse row.begun, (λ e. absurd cc), row.finished.turn) in
      let still = turn_untouched old row.finished.after (first ∷ done) (Ok row.out ∷ row.finished.said) turn in
      ended_failed row.finished.ahead _ row.excuse row.out row.finished.said (turn_failed row.mid row.finished.after done row.finished.said row.finished.turn)
      (row.finished.same.journal.disk ∙ still.disk) row.finished.ended
