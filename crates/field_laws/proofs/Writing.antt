-- What an event adds to a field is under the number of the gateway that it is at.
use Rattle.std.proofs.Common.{◌≡◌, Bool, refl, ℕ, ◌-◌, ◌⊎◌, List, [], ◌∷◌, ◌++◌, map, set, slice_get, Some, IfSome, Contains, Result, Ok, Err, sym, ◌∙◌, subst, append-nil, inl, inr}
use Rattle.std.specs.List.{AllByRecursion}
use Rattle.std.proofs.lemmas.List.Elements.{All-from_recursion, All-contains}
use Rattle.rep_op.specs.declared.op.Op.{Op}
use Rattle.rep_model.proofs.Joins.{all-moved}
use Rattle.sn_plan.proofs.Lists.{all-append}
use Rattle.gw_world.specs.declared.event.Event.{Event}
use Rattle.gw_world.specs.declared.event.Event.TheVariants.{Frame, Tick, Take, Together as AtOnce, Answer as Asks, WriteFails, Compact, Restart, Show}
use Rattle.gw_world.specs.declared.event.Call.{Call}
use Rattle.gw_world.specs.declared.event.Call.TheVariants as calls
use Rattle.gw_world.specs.declared.event.Answer.{Answer}
use Rattle.gw_world.specs.declared.event.Answer.TheVariants.{Node, Row, Views, Records, Nothing}
use Rattle.gw_answer.specs.declared.out.Out.{Out}
use Rattle.gw_answer.specs.declared.refusal.Refusal.{Refusal}
use Rattle.gw_answer.specs.Answers.{said}
use Rattle.gw_event.specs.Occasions.{Datagram, Clock}
use Rattle.gw_event.specs.Gateways.{Gateway}
use Rattle.sn_local.specs.declared.config.Config.{Config}
use Rattle.gw_event.specs.Drives.{left_by, more_records}
use Rattle.gw_world.specs.Field.{Field, new_field, IsAt, field_changed, failing_gateway, TogetherAt, After, Run, gateway_of_event}
use Rattle.gw_world.proofs.InRows.{Answers, CallAt, row-keeps, torn-row-still}
use Rattle.gw_world.specs.Steps.{AnswerStep, restarted}
use Rattle.gw_event.specs.Event.{TakeStep}
use Rattle.gw_world.specs.Whole.{everything, maker_of}
use Rattle.gw_world.proofs.Answering.{answered, all-answered}
use Rattle.gw_world.proofs.Each.{all-at, EachOf, each-weaken, each-grown, each-all, all-each}
use Rattle.gw_world.proofs.Numbers.{place_of-first, first-number}
use Rattle.gw_world.proofs.Consistency.{field-sound}
use Rattle.gw_world.proofs.Failures.{OwnOrListed, DueAs, DueField, due-all}
use Rattle.gw_world.proofs.Steadiness.{Still, Stepped, Fed, own-moves, take-moves, compact-still, came-back, restart-feeds}
use Rattle.gw_world.proofs.Whole.{own-number}

-- it stood in the field before, or it is under the number
abbrev pub IsBeforeOrOf : Field → ℕ → Op → Type 0
IsBeforeOrOf field n op = Contains (everything field) op ⊎ IfSome (maker_of op) (λ m. m ≡ n)

module _ (field : Field) (n : ℕ) where
  abbrev pub HasWritten : Field → Type 0
  HasWritten new = EachOf (IsBeforeOrOf field n) new.gateways new.deltas

  before : HasWritten field
  before = each-weaken (Contains (everything field)) (IsBeforeOrOf field n) (λ op h. inl h) field.gateways field.deltas
      (all-each (Contains (everything field)) field (all-moved (Contains (everything field)) (everything field) (λ op h. h)))

  module _ (i : ℕ) (old next : Gateway) (made : List (List Op)) (at : IsAt field n i old) where
    written-more : (more : List Op) → next.taken ≡ old.taken ++ more → made ≡ [] → AllByRecursion (IsBeforeOrOf field n) more → HasWritten (field_changed field i next made)
    written-more more taken none news =
        subst (λ m. EachOf (IsBeforeOrOf field n) (set field.gateways i next) (field.deltas ++ m)) (sym none)
        (each-grown (IsBeforeOrOf field n) field.gateways field.deltas i old next more [] at.1 taken news tt before)

    written-still : Still old next made → HasWritten (field_changed field i next made)
    written-still u = written-more [] (u.taken ∙ sym (append-nil old.taken)) u.none tt

    written-stepped : Stepped old next made → HasWritten (field_changed field i next made)
    written-stepped u =
        let number : old.config.gateway ≡ n = first-number n i field.gateways old (place_of-first n i field.gateways at.0) at.1 in
        let news : AllByRecursion (IsBeforeOrOf field n) u.delta = all-moved (IsBeforeOrOf field n) u.delta (λ op h. inr (subst (λ k. IfSome (maker_of op) (λ m. m ≡ k)) number (own-number old next made u op h))) in
        subst (λ m. EachOf (IsBeforeOrOf field n) (set field.gateways i next) (field.deltas ++ m)) (sym u.one)
        (each-grown (IsBeforeOrOf field n) field.gateways field.deltas i old next u.delta (u.delta ∷ []) at.1 u.taken news (news, tt) before)

    written-moved : Still old next made ⊎ Stepped old next made → HasWritten (field_changed field i next made)
    written-moved (inl u) = written-still u
    written-moved (inr u) = written-stepped u

    written-taken : (k : ℕ) (delta : List Op) → slice_get field.deltas k ≡ Some delta → Still old next made ⊎ Fed old delta next made → HasWritten (field_changed field i next made)
    written-taken k delta there (inl u) = written-still u
    written-taken k delta there (inr u) = written-more delta u.taken u.none (all-at (λ (D : List Op). AllByRecursion (IsBeforeOrOf field n) D) field.deltas k delta before.lists there)

  -- what it had refused of its own is under its number, what it had refused of others stood in the list
  refused-of : (i : ℕ) (old : Gateway) → IsAt field n i old → (taken delta : List Op) → OwnOrListed field.deltas old.config.gateway taken delta → AllByRecursion (IsBeforeOrOf field n) delta
  refused-of i old at taken delta (inl d) =
      let one : Gateway = record old { taken = taken } in
      let stepped : Stepped one (record old { taken = taken ++ delta }) (delta ∷ []) = record { plan = d.plan; drafted = d.drafted; delta = delta; proper = d.proper; same = d.same; config = refl; taken = refl; one = refl } in
      let number : old.config.gateway ≡ n = first-number n i field.gateways old (place_of-first n i field.gateways at.0) at.1 in
      all-moved (IsBeforeOrOf field n) delta (λ op h. inr (subst (λ k. IfSome (maker_of op) (λ m. m ≡ k)) number (own-number one (record old { taken = taken ++ delta }) (delta ∷ []) stepped op h)))
  refused-of i old at taken delta (inr (k, there)) = all-at (λ (D : List Op). AllByRecursion (IsBeforeOrOf field n) D) field.deltas k delta before.lists there

  written-back : (i kept : ℕ) (old : Gateway) → IsAt field n i old → DueAs field.deltas old → HasWritten (field_changed field i (restarted kept old) [])
  written-back i kept old at d =
      let fed = restart-feeds kept old in
      written-more i old (restarted kept old) [] at (came-back kept old) fed.taken refl
      (due-all (IsBeforeOrOf field n) field.deltas old.config.gateway (refused-of i old at) (more_records old.config.gateway old.drive (left_by kept old.drive)) old.refused old.taken d)

  -- what a peer answers stands in its set
  written-asked : (j : ℕ) (asker peer : Gateway) (answer : Result Out Refusal) (made : List (List Op)) → slice_get field.gateways j ≡ Some peer → AnswerStep asker peer answer made → HasWritten (record field { deltas = field.deltas ++ made })
  written-asked j asker peer answer made there h = record {
    sets = before.sets;
    lists = all-append (λ (D : List Op). AllByRecursion (IsBeforeOrOf field n) D) field.deltas made before.lists
        (all-answered (IsBeforeOrOf field n) (λ c origin first last. inr tt) peer.taken made (answered asker peer answer made h) (before.sets j peer there));
  }

-- one after the other
written-then : (old mid new : Field) (n : ℕ) → HasWritten old n mid → HasWritten mid n new → HasWritten old n new
written-then old mid new n first second =
    each-weaken (IsBeforeOrOf mid n) (IsBeforeOrOf old n) (λ op h. elim h [
      | inl there ↦ All-contains (IsBeforeOrOf old n) (everything mid) op (All-from_recursion (IsBeforeOrOf old n) (everything mid) (each-all (IsBeforeOrOf old n) mid first)) there
      | inr own ↦ inr own
    ]) new.gateways new.deltas second

call-written : (old new : Field) (number : ℕ) (call : Call) (answer : Result Out Refusal) → CallAt old number call answer new → HasWritten old number new
call-written old new number (calls.Frame from bytes now) answer h =
    subst (HasWritten old number) (sym h.6) (written-moved old number h.0 h.1 h.2 h.3 h.4 (own-moves h.1 (Datagram from bytes) now answer h.2 h.3 h.5))
call-written old new number (calls.Tick now) answer h =
    subst (HasWritten old number) (sym h.6) (written-moved old number h.0 h.1 h.2 h.3 h.4 (own-moves h.1 Clock now answer h.2 h.3 h.5))
call-written old new number (calls.Take delta) answer h =
    subst (HasWritten old number) (sym h.8) (written-taken old number h.0 h.1 h.2 h.3 h.5 (delta - 1) h.4 h.6.1 (take-moves h.1 h.4 answer h.2 h.3 h.7))

row-written : (old new : Field) (number : ℕ) (called : List Call) (answers : Answers) → TogetherAt old number called answers new → HasWritten old number new
row-written old new number called answers h =
    row-keeps (HasWritten old number) number (λ mid after call answer one first. written-then old mid after number first (call-written mid after number call answer one))
    (λ field i gateway next behind step answer more at is t first. written-then old field (field_changed field i next []) number first
    (written-still field number i gateway next [] at (torn-row-still gateway next step answer more t)))
    old new called answers h (before old number)

after-written : (old new : Field) (event : Event) (answer : Answer) → After old event answer new → DueField old → HasWritten old (gateway_of_event event) new
after-written old new (Frame number from bytes now) (Node answer) h d = call-written old new number (calls.Frame from bytes now) (said answer) h
after-written old new (Tick number now) (Node answer) h d = call-written old new number (calls.Tick now) (said answer) h
after-written old new (Take number delta) (Node answer) h d = call-written old new number (calls.Take delta) (said answer) h
after-written old new (AtOnce number calls) (Row answers) h d = row-written old new number calls (map said answers) h
after-written old new (Asks number peer) (Node answer) h d =
    subst (HasWritten old number) (sym h.8) (written-asked old number h.1 h.2 h.3 (said answer) h.4 h.6.1 h.7)
after-written old new (WriteFails number bytes sync) Nothing h d =
    subst (HasWritten old number) (sym h.3) (written-still old number h.0 h.1 (failing_gateway bytes sync h.1) [] h.2 (record { config = refl; taken = refl; none = refl }))
after-written old new (Compact number) (Node answer) h d =
    subst (HasWritten old number) (sym h.5) (written-still old number h.0 h.1 h.2 [] h.3 (compact-still h.1 h.2 (said answer) h.4))
after-written old new (Restart number kept) (Records count) h d =
    subst (HasWritten old number) (sym h.4) (written-back old number h.0 kept h.1 h.2 (d h.0 h.1 h.2.1).due)
after-written old new (Show number) (Views views topics) h d = subst (HasWritten old number) (sym h.4) (before old number)
after-written old new (Frame number from bytes now) (Views views topics) h d = absurd h
after-written old new (Tick number now) (Views views topics) h d = absurd h
after-written old new (Take number delta) (Views views topics) h d = absurd h
after-written old new (Asks number peer) (Views views topics) h d = absurd h
after-written old new (Show number) (Node answer) h d = absurd h
after-written old new (Compact number) (Views views topics) h d = absurd h
after-written old new (Restart number kept) (Views views topics) h d = absurd h
after-written old new (Restart number kept) (Node answer) h d = absurd h
after-written old new (Frame number from bytes now) (Records count) h d = absurd h
after-written old new (Tick number now) (Records count) h d = absurd h
after-written old new (Take number delta) (Records count) h d = absurd h
after-written old new (Asks number peer) (Records count) h d = absurd h
after-written old new (Compact number) (Records count) h d = absurd h
after-written old new (Show number) (Records count) h d = absurd h
after-written old new (WriteFails number bytes sync) (Node answer) h d = absurd h
after-written old new (WriteFails number bytes sync) (Views views topics) h d = absurd h
after-written old new (WriteFails number bytes sync) (Records count) h d = absurd h
after-written old new (Frame number from bytes now) Nothing h d = absurd h
after-written old new (Tick number now) Nothing h d = absurd h
after-written old new (Take number delta) Nothing h d = absurd h
after-written old new (Asks number peer) Nothing h d = absurd h
after-written old new (Compact number) Nothing h d = absurd h
after-written old new (Restart number kept) Nothing h d = absurd h
after-written old new (Show number) Nothing h d = absurd h
after-written old new (AtOnce number calls) (Node answer) h d = absurd h
after-written old new (AtOnce number calls) (Views views topics) h d = absurd h
after-written old new (AtOnce number calls) (Records count) h d = absurd h
after-written old new (AtOnce number calls) Nothing h d = absurd h
after-written old new (Frame number from bytes now) (Row answers) h d = absurd h
after-written old new (Tick number now) (Row answers) h d = absurd h
after-written old new (Take number delta) (Row answers) h d = absurd h
after-written old new (Asks number peer) (Row answers) h d = absurd h
after-written old new (WriteFails number bytes sync) (Row answers) h d = absurd h
after-written old new (Compact number) (Row answers) h d = absurd h
after-written old new (Restart number kept) (Row answers) h d = absurd h
after-written old new (Show number) (Row answers) h d = absurd h

pub after-writes : (old new : Field) (event : Event) (answer : Answer) (op : Op) → DueField old → After old event answer new → Contains (everything new) op → Contains (everything old) op ⊎ IfSome (maker_of op) (λ number. number ≡ gateway_of_event event)
after-writes old new event answer op d h there =
    All-contains (IsBeforeOrOf old (gateway_of_event event)) (everything new) op
    (All-from_recursion (IsBeforeOrOf old (gateway_of_event event)) (everything new) (each-all (IsBeforeOrOf old (gateway_of_event event)) new (after-written old new event answer h d))) there

pub field-writes : (configs : List Config) (events : List Event) (answers : List Answer) (old new : Field) (event : Event) (answer : Answer) (op : Op) → Run (new_field configs) events answers old
    → After old event answer new → Contains (everything new) op → Contains (everything old) op ⊎ IfSome (maker_of op) (λ number. number ≡ gateway_of_event event)
field-writes configs events answers old new event answer op run h there = after-writes old new event answer op (field-sound configs events answers old run).due h there
