-- The deltas that answer a digest: what they hold stands in the set that they answer for.
use Rattle.std.proofs.Common.{◌≡◌, ℕ, Bool, true, false, not, ◌&&◌, if◌then◌else◌, List, [], ◌∷◌, ◌++◌, Option, Some, None, Contains, Result, Ok, Err, refl, sym, ap, ◌∙◌, subst, true≢false, cond}
use Rattle.std.specs.Prelude.{IsTrue}
use Rattle.std.specs.List.{AllByRecursion}
use Rattle.std.proofs.lemmas.List.Elements.{All-from_recursion, All-contains}
use Rattle.std.proofs.lemmas.Option.{none-some}
use Rattle.rep_op.specs.declared.op.Op.{Op}
use Rattle.rep_op.specs.declared.op.Op.TheVariants.{Session as OfSession, Put as OfPut, Ack, Retain as OfRetain}
use Rattle.rep_ops.specs.Deltas.{IsDelta}
use Rattle.rep_op.specs.WellMade.{is_well_made}
use Rattle.rep_op.specs.Orders.{clock_of}
use Rattle.rep_op.specs.Sets.{operation_at, put_at, is_acknowledged, retain_at, HasOperation, IsConsistent, Within, Same}
use Rattle.rep_ops.specs.Splitting.{all_of, AreDeltasOf}
use Rattle.rep_ops.proofs.Joined.{rising_ascending, ascending_rising}
use Rattle.rep_ops.proofs.Rising.{Past, Rising}
use Rattle.rep_model.specs.Topics.{latest}
use Rattle.rep_model.specs.Keep.{keep, is_below, is_outdone}
use Rattle.rep_model.specs.Views.{visible}
use Rattle.rep_model.proofs.Joins.{all-left, all-right, all-moved}
use Rattle.rep_model.proofs.Readers.{operation_at_keep, put_at_keep, is_acknowledged_keep, retain_at_keep}
use Rattle.rep_answer.specs.Answers.{covers_operation, covers_put, covers_acknowledgement, covers_retain, IsRest, IsAnswer}
use Rattle.rep_digest.specs.Digests.{Digested, digest}
use Rattle.gw_answer.specs.declared.out.Out.{Out}
use Rattle.gw_answer.specs.declared.refusal.Refusal.{Refusal}
use Rattle.gw_answer.specs.declared.refusal.Refusal.TheVariants as refusals
use Rattle.gw_event.specs.Gateways.{Gateway}
use Rattle.gw_event.specs.Event.{IsWritable}
use Rattle.gw_world.specs.Steps.{AnswerStep}
use Rattle.gw_world.specs.Events.{made_of, answered_of}
use Rattle.gw_world.proofs.Alone.{delta-stands, stands-contains}
use Rattle.gw_world.proofs.Each.{flat-all, AllOf}

-- ---- a delta in parts

rising-front : (xs ys : List Op) → Rising 1 (xs ++ ys) → Rising 1 xs
rising-front [] ys h = tt
rising-front (x ∷ xs) ys h = (all-left (Past 1 x) xs ys h.0, rising-front xs ys h.1)

rising-back : (xs ys : List Op) → Rising 1 (xs ++ ys) → Rising 1 ys
rising-back [] ys h = h
rising-back (x ∷ xs) ys h = rising-back xs ys h.1

delta-front : (xs ys : List Op) → IsDelta (xs ++ ys) → IsDelta xs
delta-front xs ys d = record {
  well_made = all-left (λ op. IsTrue (is_well_made op)) xs ys d.well_made;
  ascending = ascending_rising xs (rising-front xs ys (rising_ascending (xs ++ ys) d.well_made d.ascending));
}

delta-back : (xs ys : List Op) → IsDelta (xs ++ ys) → IsDelta ys
delta-back xs ys d = record {
  well_made = all-right (λ op. IsTrue (is_well_made op)) xs ys d.well_made;
  ascending = ascending_rising ys (rising-back xs ys (rising_ascending (xs ++ ys) d.well_made d.ascending));
}

parts-proper : (deltas : List (List Op)) → IsDelta (all_of deltas) → AllByRecursion IsDelta deltas
parts-proper [] d = tt
parts-proper (delta ∷ deltas) d = (delta-front delta (all_of deltas) d, parts-proper deltas (delta-back delta (all_of deltas) d))

pub deltas-same : (X : List Op) (deltas : List (List Op)) → AreDeltasOf X deltas → Same (all_of deltas) X
deltas-same X deltas h = subst (λ T. Same T X) (sym h.2.whole) h.1.same

deltas-delta : (X : List Op) (deltas : List (List Op)) → AreDeltasOf X deltas → IsDelta (all_of deltas)
deltas-delta X deltas h = subst IsDelta (sym h.2.whole) h.1.delta

-- ---- parts of a set

within-trans : (A B C : List Op) → Within A B → Within B C → Within A C
within-trans A B C f g = record {
  operations_in = λ c name change e. g.operations_in c name change (f.operations_in c name change e);
  puts_in = λ c name put e. g.puts_in c name put (f.puts_in c name put e);
  acknowledgements_in = λ c name e. g.acknowledgements_in c name (f.acknowledgements_in c name e);
  retains_in = λ t name last e. g.retains_in t name last (f.retains_in t name last e);
}

within-same : (A B : List Op) → Same A B → Within A B
within-same A B s = record {
  operations_in = λ c name change e. sym (s.operations_same c name) ∙ e;
  puts_in = λ c name put e. sym (s.puts_same c name) ∙ e;
  acknowledgements_in = λ c name e. sym (s.acknowledgements_same c name) ∙ e;
  retains_in = λ t name last e. sym (s.retains_same t name) ∙ e;
}

without : {X : Type 0} (b : Bool) (o : Option X) (x : X) → (if b then None else o) ≡ Some x → o ≡ Some x
without false o x e = e
without true o x e = absurd (none-some x e)

unless : {X : Type 0} (b : Bool) (o : Option X) (x : X) → cond (not b) o None ≡ Some x → o ≡ Some x
unless false o x e = e
unless true o x e = absurd (none-some x e)

but : (b a : Bool) → (not b && a) ≡ true → a ≡ true
but false a e = e
but true a e = absurd (true≢false (sym e))

rest-within : (d : Digested) (S X : List Op) → IsRest d S X → Within X S
rest-within d S X r = record {
  operations_in = λ c name change e. without (covers_operation d c name) (operation_at c S name) change (sym (r.operations_left c name) ∙ e);
  puts_in = λ c name put e. without (covers_put d c name) (put_at c S name) put (sym (r.puts_left c name) ∙ e);
  acknowledgements_in = λ c name e. but (covers_acknowledgement d c name) (is_acknowledged c S name) (sym (r.acknowledgements_left c name) ∙ e);
  retains_in = λ t name last e. without (covers_retain d t name) (retain_at t S name) last (sym (r.retains_left t name) ∙ e);
}

kept-within : (S : List Op) → Within (keep S) S
kept-within S = record {
  operations_in = λ c name change e. unless (is_below name.0 (visible c S)) (operation_at c S name) change (sym (operation_at_keep c S name) ∙ e);
  puts_in = λ c name put e. unless (is_acknowledged c S name) (put_at c S name) put (sym (put_at_keep c S name) ∙ e);
  acknowledgements_in = λ c name e. sym (is_acknowledged_keep c S name) ∙ e;
  retains_in = λ t name last e. unless (is_outdone name (latest t S)) (retain_at t S name) last (sym (retain_at_keep t S name) ∙ e);
}

-- ---- answers

-- what a peer answers, whose set is S
pub record Answered (S : List Op) (made : List (List Op)) : Type 0 where
  pub proper : AllByRecursion IsDelta made
  pub writable : AllByRecursion IsWritable made
  pub consistent : IsConsistent (all_of made)
  pub within : Within (all_of made) S

none-answered : (S : List Op) → Answered S []
none-answered S = record {
  proper = tt;
  writable = tt;
  consistent = tt;
  within = record { operations_in = λ c name change e. absurd (none-some change e); puts_in = λ c name put e. absurd (none-some put e); acknowledgements_in = λ c name e. absurd (true≢false (sym e)); retains_in = λ t name last e. absurd (none-some last e) };
}

some-answered : (d : Digested) (S : List Op) (made : List (List Op)) → IsAnswer d S made → AllByRecursion IsWritable made → Answered S made
some-answered d S made h writable =
    let whole = deltas-delta h.0 made h.2 in record {
      proper = parts-proper made whole;
      writable = writable;
      consistent = all-moved (HasOperation (all_of made)) (all_of made) (λ op there. delta-stands (all_of made) whole op there);
      within = within-trans (all_of made) h.0 S (within-same (all_of made) h.0 (deltas-same h.0 made h.2)) (within-trans h.0 (keep S) S (rest-within d (keep S) h.0 h.1) (kept-within S));
    }

pub answered : (asker peer : Gateway) (answer : Result Out Refusal) (made : List (List Op)) → AnswerStep asker peer answer made → Answered peer.taken made
answered asker peer (Ok out) made h = some-answered (digest asker.taken) peer.taken made h.1 h.2
answered asker peer (Err refusals.Full) made h = subst (Answered peer.taken) (sym h.1) (none-answered peer.taken)
answered asker peer (Err (refusals.Frame fault)) made h = absurd h
answered asker peer (Err refusals.Exhausted) made h = absurd h
answered asker peer (Err (refusals.Conflict client)) made h = absurd h
answered asker peer (Err refusals.Halted) made h = absurd h
answered asker peer (Err (refusals.Disk excuse)) made h = absurd h
answered asker peer (Err (refusals.Journal fault)) made h = absurd h
answered asker peer (Err refusals.Memory) made h = absurd h

-- such an answer tells of no delta that was made, and of those that joined the list
pub answer-told : (asker peer : Gateway) (answer : Result Out Refusal) (made : List (List Op)) → AnswerStep asker peer answer made → (made_of answer ≡ []) × (made ≡ answered_of answer)
answer-told asker peer (Ok out) made h = (ap (λ (o : Out). made_of (Ok o)) h.3, ap (λ (o : Out). o.answer) (sym h.3))
answer-told asker peer (Err refusals.Full) made h = (refl, h.1)
answer-told asker peer (Err (refusals.Frame fault)) made h = absurd h
answer-told asker peer (Err refusals.Exhausted) made h = absurd h
answer-told asker peer (Err (refusals.Conflict client)) made h = absurd h
answer-told asker peer (Err refusals.Halted) made h = absurd h
answer-told asker peer (Err (refusals.Disk excuse)) made h = absurd h
answer-told asker peer (Err (refusals.Journal fault)) made h = absurd h
answer-told asker peer (Err refusals.Memory) made h = absurd h

-- ---- what holds of each operation of the peer's set, and of each acknowledgement, holds of each that is answered

module _ (P : Op → Type 0) (acks : (c : List ℕ) (origin first last : ℕ) → P (Ack c origin first last)) (S : List Op) (made : List (List Op)) (b : Answered S made) (all : AllByRecursion P S) where
  stands-there : (op : Op) → Contains (all_of made) op → HasOperation (all_of made) op
  stands-there op h = All-contains (HasOperation (all_of made)) (all_of made) op (All-from_recursion (HasOperation (all_of made)) (all_of made) b.consistent) h

  of_set : (op : Op) → Contains S op → P op
  of_set op h = All-contains P S op (All-from_recursion P S all) h

  one-answered : (op : Op) → Contains (all_of made) op → P op
  one-answered (OfSession c s k o) h = of_set (OfSession c s k o) (stands-contains S (OfSession c s k o) (OfSession c s k o) (refl, refl, refl) (b.within.operations_in c (s, k) o (stands-there (OfSession c s k o) h)))
  one-answered (OfPut c p) h = of_set (OfPut c p) (stands-contains S (OfPut c p) (OfPut c p) (refl, refl, refl) (b.within.puts_in c (p.seq, p.origin) p (stands-there (OfPut c p) h)))
  one-answered (Ack c origin first last) h = acks c origin first last
  one-answered (OfRetain t k) h = of_set (OfRetain t k) (stands-contains S (OfRetain t k) (OfRetain t k) (refl, refl, refl) (b.within.retains_in t (clock_of k) k (stands-there (OfRetain t k) h)))

  pub all-answered : AllOf P made
  all-answered = flat-all P (λ (delta : List Op). delta) made (all-moved P (all_of made) one-answered)
