-- From what all nodes do to the field, and over a whole list of events.
use Rattle.std.proofs.Common.{◌≡◌, ◌<◌, length, slice_index_or, ℕ, ◌+◌, ◌-◌, zero, suc, List, [], ◌∷◌, ◌++◌, map, Some, Contains, Result, slice_get, set, refl, sym, ap, ◌∙◌, subst, append-nil, take}
use Rattle.std.proofs.lemmas.List.{take_more}
use Rattle.std.specs.List.{AllByRecursion}
use Rattle.std.proofs.lemmas.Option.{slice_get_within, get_or_from_slice_get}
use Rattle.std.specs.declared.sync.Arc.{Arc}
use Rattle.std.specs.declared.alloc.Global.{Global}
use Rattle.rep_op.specs.declared.op.Op.{Op}
use Rattle.rep_model.specs.Views.{view}
use Rattle.rep_model.specs.Taking.{AllAgree}
use Rattle.rep_model.specs.Topics.{all_retained}
use Rattle.rep_model.proofs.Joins.{view-counts}
use Rattle.rep_model.proofs.Named.{clients-counts}
use Rattle.rep_model.proofs.Topics.{all_retained-counts}
use Rattle.sn_local.specs.declared.config.Config.{Config}
use Rattle.jr_disk.specs.declared.disk.Disk.{Ghosts}
use Rattle.gw_answer.specs.declared.out.Out.{Out}
use Rattle.gw_answer.specs.declared.fault.NodeFault.{NodeFault}
use Rattle.gw_event.specs.Occasions.{Occasion, Datagram, Clock}
use Rattle.gw_event.specs.Event.{OwnStep}
use Rattle.gw_event.specs.Gateways.{Gateway, new_gateway}
use Rattle.gw_node.specs.Parts.{State}
use Rattle.gw_answer.specs.Answers.{said}
use Rattle.gw_node.specs.Standing.{OwnAgrees}
use Rattle.gw_world.specs.declared.event.Event.{Event}
use Rattle.gw_world.specs.declared.event.Event.TheVariants.{Frame, Tick, Take, Together as AtOnce, Answer as Asks, WriteFails, Compact, Restart, Show}
use Rattle.gw_world.specs.declared.event.Answer.{Answer}
use Rattle.gw_world.specs.declared.event.Answer.TheVariants.{Node, Row, Views, Records, Nothing}
use Rattle.gw_world.specs.declared.world.WorldFault.{WorldFault}
use Rattle.gw_world.specs.declared.world.WorldFault.TheVariants as stops
use Rattle.gw_world.specs.Events.{made_of, answered_of}
use Rattle.gw_world.specs.Whole.{made_of_all}
use Rattle.gw_world.specs.Field.{Field, new_field, IsAt, Steps, AreStepsOf, TogetherAt, After, Run, shown, gateway_of_event, failing_gateway}
use Rattle.gw_world.specs.Keeping.{IsShown, AreShown}
use Rattle.gw_world.specs.Places.{place_of}
use Rattle.gw_world.specs.Steps.{restarted}
use Rattle.gw_world.specs.Worlds.{IsWorld, IsStop}
use Rattle.gw_world.specs.inner.Events.{Moves, Join, EventPlayed, place_in, IsReached, IsLed, IsStood, RunOn, StopsRun, IsStopped}
use Rattle.gw_world.proofs.Agreeing.{agrees-along, steps-listed}
use Rattle.gw_world.proofs.Consistency.{field-sound, field-steady, field-agrees}
use Rattle.gw_world.proofs.Going.{ask_taken}
use Rattle.gw_world.proofs.Moving.{place_shown}
use Rattle.gw_world.proofs.Steadiness.{plan-agrees, own-told}
use Rattle.gw_world.proofs.Telling.{take-told, row-brought}

-- ---- what a run reached

-- a run goes on by another
pub run_both : (old mid new : Field) (events more : List Event) (answers replies : List Answer) → Run old events answers mid → Run mid more replies new → Run old (events ++ more) (answers ++ replies) new
run_both old mid new [] more [] replies h k = subst (λ (f : Field). Run f more replies new) h k
run_both old mid new (e ∷ events) more (a ∷ answers) replies h k = (h.0, h.1, run_both h.0 mid new events more answers replies h.2 k)
run_both old mid new [] more (a ∷ answers) replies h k = absurd h
run_both old mid new (e ∷ events) more [] replies h k = absurd h

reached_more : (field new : Field) (events : List Event) (answers : List Answer) → IsReached field → Run field events answers new → IsReached new
reached_more field new events answers r run = (r.0, r.1 ++ events, r.2 ++ answers, run_both (new_field r.0) field new r.1 events r.2 answers r.3 run)

reached_start : (configs : List Config) → IsReached (new_field configs)
reached_start configs = (configs, [], [], refl)

stands_in : {A : Type 0} (xs : List A) (k : ℕ) (x : A) → slice_get xs k ≡ Some x → Contains xs x
stands_in xs k x e = (k, slice_get_within xs k x e, get_or_from_slice_get xs k x x e)

module _ (field : Field) (r : IsReached field) where
  -- what a gateway makes agrees with what it has taken
  own_agrees : (number i : ℕ) (gateway : Gateway) → IsAt field number i gateway → (occasion : Occasion) (now : ℕ) → OwnAgrees gateway occasion now
  own_agrees number i gateway at occasion now = λ plan delta is_plan is_delta.
      plan-agrees field number i gateway occasion now plan delta (field-steady r.0 r.1 r.2 field r.3) at is_plan is_delta

  -- and so does what it is given
  given_agrees : (i k : ℕ) (gateway : Gateway) (delta : List Op) → slice_get field.gateways i ≡ Some gateway → slice_get field.deltas k ≡ Some delta → AllAgree gateway.taken delta
  given_agrees i k gateway delta at is = (field-agrees r.0 r.1 r.2 field gateway delta r.3 (stands_in field.gateways i gateway at) (stands_in field.deltas k delta is)).0

-- ---- gateways and their nodes

module _ {D : Type 0} {G : Ghosts D} where
  -- the gateway in a place
  pub record ShownAt (gs : List Gateway) (i : ℕ) (k : State G) : Type 0 where
    pub gateway : Gateway
    pub place : slice_get gs i ≡ Some gateway
    pub shown : IsShown gateway k

  shown_at : (gs : List Gateway) (ks : List (State G)) (i : ℕ) (k : State G) → AreShown gs ks → slice_get ks i ≡ Some k → ShownAt gs i k
  shown_at [] [] i k s e = absurd (cc)
  shown_at (g ∷ gs) (h ∷ hs) zero k s e = let same : h ≡ k = cc in record { gateway = g; place = refl; shown = subst (λ (x : State G). IsShown g x) same s.0 }
  shown_at (g ∷ gs) (h ∷ hs) (suc i) k s e = let r = shown_at gs hs i k s.1 e in record { gateway = r.gateway; place = r.place; shown = r.shown }
  shown_at [] (h ∷ hs) i k s e = absurd s
  shown_at (g ∷ gs) [] i k s e = absurd s

  shown_set : (gs : List Gateway) (ks : List (State G)) (i : ℕ) (g : Gateway) (k : State G) → AreShown gs ks → IsShown g k → AreShown (set gs i g) (set ks i k)
  shown_set [] [] i g k s one = tt
  shown_set (x ∷ gs) (y ∷ ks) zero g k s one = (one, s.1)
  shown_set (x ∷ gs) (y ∷ ks) (suc i) g k s one = (s.0, shown_set gs ks i g k s.1 one)
  shown_set [] (y ∷ ks) i g k s one = absurd s
  shown_set (x ∷ gs) [] i g k s one = absurd s

  -- what an event leads the field to
  pub record Reaches (field : Field) (event : Event) (answer : Answer) (news : List (State G)) (next : List (List Op)) : Type 0 where
    pub new : Field
    pub after : After field event answer new
    pub shown : AreShown new.gateways news
    pub listed : new.deltas ≡ next

module _ {D : Type 0} {G : Ghosts D} (field : Field) (r : IsReached field) (ks : List (State G)) (s : AreShown field.gateways ks) where
  place_there : (n i : ℕ) → place_in n 0 ks ≡ Some i → place_of n field.gateways ≡ Some i
  place_there n i e = place_shown n 0 field.gateways ks s ∙ e

  -- one gateway moves in its place
  moved : (i : ℕ) (Goes : State G → State G → Type 0) (news : List (State G)) (m : Moves ks i Goes news) (next : Gateway) → IsShown next m.new → AreShown (set field.gateways i next) news
  moved i Goes news m next shown =
      subst (λ xs. AreShown (set field.gateways i next) xs) (sym m.moved) (shown_set field.gateways ks i next m.new s shown)

  module _ (deltas : List (List Op)) (listed : field.deltas ≡ deltas) where
    -- nothing joins the list
    unlisted : (next : List (List Op)) → next ≡ deltas → field.deltas ++ [] ≡ next
    unlisted next is_next = append-nil field.deltas ∙ (listed ∙ sym is_next)

    own_reaches : (event : Event) (occasion : Occasion) (now : ℕ) (news : List (State G)) (next : List (List Op)) (answer : Result (Arc Out Global) NodeFault)
        → ((new : Field) → Steps field (gateway_of_event event) occasion now (said answer) new → After field event (Node answer) new)
        → (i : ℕ) → place_in (gateway_of_event event) 0 ks ≡ Some i
        → Moves ks i (λ old new. (g : Gateway) → IsShown g old → OwnAgrees g occasion now → (h : Gateway) × (made : List (List Op)) × OwnStep g occasion now (said answer) h made × IsShown h new) news
        → Join deltas (made_of (said answer)) next → Reaches field event (Node answer) news next
    own_reaches event occasion now news next answer is i place m (writable, is_next) =
        let at = shown_at field.gateways ks i m.old s m.place in
        let here : IsAt field (gateway_of_event event) i at.gateway = (place_there (gateway_of_event event) i place, at.place) in
        let went = m.goes at.gateway at.shown (own_agrees field r (gateway_of_event event) i at.gateway here occasion now) in
        let field_after : Field = record { gateways = set field.gateways i went.0; deltas = field.deltas ++ went.1 } in
        record {
          new = field_after;
          after = is field_after (i, at.gateway, went.0, went.1, here, went.2, refl);
          shown = moved i _ news m went.0 went.3;
          listed = ap (λ ds. field.deltas ++ ds) (own-told at.gateway occasion now (said answer) went.0 went.1 went.2) ∙ ap (λ ds. ds ++ made_of (said answer)) listed ∙ sym is_next;
        }

    pub event_reaches : (event : Event) (news : List (State G)) (next : List (List Op)) (answer : Answer) → EventPlayed ks deltas event news next answer → Reaches field event answer news next
    event_reaches (Frame n from bytes now) news next (Node answer) (i, place, (m, join)) = own_reaches (Frame n from bytes now) (Datagram from bytes) now news next answer (λ new after. after) i place m join
    event_reaches (Tick n now) news next (Node answer) (i, place, (m, join)) = own_reaches (Tick n now) Clock now news next answer (λ new after. after) i place m join
    event_reaches (Take n delta) news next (Node answer) (i, place, (ops, (one, there_is), m, is_next)) =
        let at = shown_at field.gateways ks i m.old s m.place in
        let listed_there = ap (λ ds. slice_get ds (delta - 1)) listed ∙ there_is in
        let went = m.goes at.gateway at.shown (given_agrees field r i (delta - 1) at.gateway ops at.place listed_there) in
        record {
          new = record { gateways = set field.gateways i went.0; deltas = field.deltas ++ went.1 };
          after = (i, at.gateway, went.0, went.1, ops, (place_there n i place, at.place), (one, listed_there), went.2, refl);
          shown = moved i _ news m went.0 went.3;
          listed = ap (λ ds. field.deltas ++ ds) (take-told at.gateway went.0 ops (said answer) went.1 went.2).0 ∙ unlisted next is_next;
        }
    event_reaches (AtOnce n called) news next (Row answers) (i, place, (more, are, m, (writable, is_next))) =
        let at = shown_at field.gateways ks i m.old s m.place in
        let here : IsAt field n i at.gateway = (place_there n i place, at.place) in
        let given : AreStepsOf field called more = steps-listed field deltas listed called more are in
        let sound = field-sound r.0 r.1 r.2 field r.3 in
        let went = m.goes at.gateway at.shown (agrees-along field sound.flush sound.whole n i at.gateway here called more given) in
        let field_after : Field = record { gateways = set field.gateways i went.0; deltas = field.deltas ++ went.1 } in
        let done : TogetherAt field n called (map said answers) field_after = (i, at.gateway, went.0, went.1, more, here, given, went.2, went.3, refl) in
        record {
          new = field_after;
          after = done;
          shown = moved i _ news m went.0 went.4;
          listed = row-brought field field_after n called (map said answers) done ∙ ap (λ ds. ds ++ made_of_all (map said answers)) listed ∙ sym is_next;
        }
    event_reaches (Asks n m) news next (Node answer) (i, place, ((j, other, ((asker, peer, at, to, kept), (writable, is_next))), same)) =
        let one = shown_at field.gateways ks i asker s at in
        let two = shown_at field.gateways ks j peer s to in
        record {
          new = record field { deltas = field.deltas ++ answered_of (said answer) };
          after = (
            i,
            j,
            one.gateway,
            two.gateway,
            answered_of (said answer),
            (place_there n i place, one.place),
            (place_there m j other, two.place),
            ask_taken one.gateway asker one.shown two.gateway peer two.shown (said answer) kept writable,
            refl,
          );
          shown = subst (λ xs. AreShown field.gateways xs) (sym same) s;
          listed = ap (λ ds. ds ++ answered_of (said answer)) listed ∙ sym is_next;
        }
    event_reaches (Compact n) news next (Node answer) (i, place, (m, is_next)) =
        let at = shown_at field.gateways ks i m.old s m.place in
        let went = m.goes at.gateway at.shown tt in
        record {
          new = record { gateways = set field.gateways i went.0; deltas = field.deltas ++ [] };
          after = (i, at.gateway, went.0, (place_there n i place, at.place), went.2.0, refl);
          shown = moved i _ news m went.0 went.3;
          listed = unlisted next is_next;
        }
    event_reaches (WriteFails n bytes sync) news next Nothing (i, place, (m, is_next)) =
        let at = shown_at field.gateways ks i m.old s m.place in
        record {
          new = record { gateways = set field.gateways i (failing_gateway bytes sync at.gateway); deltas = field.deltas ++ [] };
          after = (i, at.gateway, (place_there n i place, at.place), refl);
          shown = moved i _ news m (failing_gateway bytes sync at.gateway) (m.goes at.gateway at.shown);
          listed = unlisted next is_next;
        }
    event_reaches (Restart n left) news next (Records count) (i, place, (m, is_next)) =
        let at = shown_at field.gateways ks i m.old s m.place in
        let went = m.goes at.gateway at.shown in
        record {
          new = record { gateways = set field.gateways i (restarted left at.gateway); deltas = field.deltas ++ [] };
          after = (i, at.gateway, (place_there n i place, at.place), went.1, refl);
          shown = moved i _ news m (restarted left at.gateway) went.0;
          listed = unlisted next is_next;
        }
    event_reaches (Show n) news next (Views views topics) (i, place, ((kept, there, is_views, is_topics), same, is_next)) =
        let at = shown_at field.gateways ks i kept s there in
        let counts = at.shown.stands.keeps.counts in
        let known : shown kept.kept ≡ shown at.gateway.taken =
        λ j. map (λ c. (c, view-counts c at.gateway.taken kept.kept counts j)) (clients-counts at.gateway.taken kept.kept counts j) in
        record {
          new = field;
          after = (i, at.gateway, (place_there n i place, at.place), is_views ∙ known, refl, is_topics ∙ all_retained-counts at.gateway.taken kept.kept counts);
          shown = subst (λ xs. AreShown field.gateways xs) (sym same) s;
          listed = listed ∙ sym is_next;
        }
    event_reaches (Frame n from bytes now) news next (Views views topics) (i, place, h) = absurd h
    event_reaches (Tick n now) news next (Views views topics) (i, place, h) = absurd h
    event_reaches (Take n delta) news next (Views views topics) (i, place, (ops, there, h, is_next)) = absurd h
    event_reaches (Asks n m) news next (Views views topics) (i, place, ((j, other, h), same)) = absurd h
    event_reaches (Show n) news next (Node answer) (i, place, (h, same, is_next)) = absurd h
    event_reaches (Compact n) news next (Views views topics) (i, place, (h, is_next)) = absurd h
    event_reaches (Restart n left) news next (Views views topics) (i, place, (h, is_next)) = absurd h
    event_reaches (Restart n left) news next (Node answer) (i, place, (h, is_next)) = absurd h
    event_reaches (Frame n from bytes now) news next (Records count) (i, place, h) = absurd h
    event_reaches (Tick n now) news next (Records count) (i, place, h) = absurd h
    event_reaches (Take n delta) news next (Records count) (i, place, (ops, there, h, is_next)) = absurd h
    event_reaches (Asks n m) news next (Records count) (i, place, ((j, other, h), same)) = absurd h
    event_reaches (Compact n) news next (Records count) (i, place, (h, is_next)) = absurd h
    event_reaches (Show n) news next (Records count) (i, place, (h, same, is_next)) = absurd h
    event_reaches (WriteFails n bytes sync) news next (Node answer) (i, place, (h, is_next)) = absurd h
    event_reaches (WriteFails n bytes sync) news next (Views views topics) (i, place, (h, is_next)) = absurd h
    event_reaches (WriteFails n bytes sync) news next (Records count) (i, place, (h, is_next)) = absurd h
    event_reaches (Frame n from bytes now) news next Nothing (i, place, h) = absurd h
    event_reaches (Tick n now) news next Nothing (i, place, h) = absurd h
    event_reaches (Take n delta) news next Nothing (i, place, (ops, there, h, is_next)) = absurd h
    event_reaches (Asks n m) news next Nothing (i, place, ((j, other, h), same)) = absurd h
    event_reaches (Compact n) news next Nothing (i, place, (h, is_next)) = absurd h
    event_reaches (Restart n left) news next Nothing (i, place, (h, is_next)) = absurd h
    event_reaches (Show n) news next Nothing (i, place, (h, same, is_next)) = absurd h
    event_reaches (AtOnce n called) news next (Node answer) (i, place, h) = absurd h
    event_reaches (AtOnce n called) news next (Views views topics) (i, place, h) = absurd h
    event_reaches (AtOnce n called) news next (Records count) (i, place, h) = absurd h
    event_reaches (AtOnce n called) news next Nothing (i, place, h) = absurd h
    event_reaches (Frame n from bytes now) news next (Row answers) (i, place, h) = absurd h
    event_reaches (Tick n now) news next (Row answers) (i, place, h) = absurd h
    event_reaches (Take n delta) news next (Row answers) (i, place, (ops, there, h, is_next)) = absurd h
    event_reaches (Asks n m) news next (Row answers) (i, place, ((j, other, h), same)) = absurd h
    event_reaches (WriteFails n bytes sync) news next (Row answers) (i, place, (h, is_next)) = absurd h
    event_reaches (Compact n) news next (Row answers) (i, place, (h, is_next)) = absurd h
    event_reaches (Restart n left) news next (Row answers) (i, place, (h, is_next)) = absurd h
    event_reaches (Show n) news next (Row answers) (i, place, (h, same, is_next)) = absurd h

pub map_push : {A B : Type 0} (f : A → B) (xs : List A) (x : A) → map f (xs ++ x ∷ []) ≡ map f xs ++ f x ∷ []
map_push f [] x = refl
map_push f (y ∷ xs) x = ap (λ zs. f y ∷ zs) (map_push f xs x)

-- a run goes on by one more event
pub run_more : (old mid new : Field) (events : List Event) (answers : List Answer) (event : Event) (answer : Answer)
    → Run old events answers mid → After mid event answer new → Run old (events ++ event ∷ []) (answers ++ answer ∷ []) new
run_more old mid new [] [] event answer run after = (new, subst (λ f. After f event answer new) run after, refl)
run_more old mid new (e ∷ events) (a ∷ answers) event answer (f, first, rest) after = (f, first, run_more f mid new events answers event answer rest after)
run_more old mid new [] (a ∷ answers) event answer run after = absurd run
run_more old mid new (e ∷ events) [] event answer run after = absurd run

module _ {D : Type 0} {G : Ghosts D} where
  -- what the nodes are after one more event
  pub run_on : (olds : List (State G)) (ds : List (List Op)) (events : List Event) (answers : List Answer) (ks : List (State G)) (deltas : List (List Op))
      (event : Event) (news : List (State G)) (next : List (List Op)) (answer : Answer)
      → RunOn olds ds events answers ks deltas → EventPlayed ks deltas event news next answer → RunOn olds ds (events ++ event ∷ []) (answers ++ answer ∷ []) news next
  run_on olds ds events answers ks deltas event news next answer run one = λ field reached s e.
      let before = run field reached s e in
      let r = event_reaches before.0 (reached_more field before.0 events answers reached before.1) ks before.2 deltas before.3 event news next answer one in
      (r.new, run_more field before.0 r.new events answers event answer before.1 r.after, r.shown, r.listed)

  -- each of them stands for a gateway
  all_stood : (gs : List Gateway) (ks : List (State G)) → AreShown gs ks → AllByRecursion IsStood ks
  all_stood [] [] s = tt
  all_stood (g ∷ gs) (k ∷ ks) s = ((g, s.0), all_stood gs ks s.1)
  all_stood [] (k ∷ ks) s = absurd s
  all_stood (g ∷ gs) [] s = absurd s

  pub stood_now : (olds : List (State G)) (ds : List (List Op)) (events : List Event) (answers : List Answer) (ks : List (State G)) (deltas : List (List Op))
      → IsLed olds ds → RunOn olds ds events answers ks deltas → AllByRecursion IsStood ks
  stood_now olds ds events answers ks deltas led run =
      let after = run led.0 led.1 led.2 led.3 in
      all_stood after.0.gateways ks after.2

  -- the event after these stops the run
  pub stops_here : (olds : List (State G)) (ds : List (List Op)) (events : List Event) (k : ℕ) (answers : List Answer) (ks : List (State G)) (deltas : List (List Op))
      (event : Event) (fault : WorldFault)
      → RunOn olds ds (take k events) answers ks deltas → slice_get events k ≡ Some event → IsStopped ks deltas event (k + 1) fault → StopsRun olds ds events fault
  stops_here olds ds events k answers ks deltas event (stops.NoGateway n) run there (number, missing) = λ field reached s e.
      let before = run field reached s e in
      (k, before.0, event, answers, before.1, there, number, missing before.0 before.2)
  stops_here olds ds events k answers ks deltas event (stops.NoDelta n) run there (number, missing) = λ field reached s e.
      let before = run field reached s e in
      (k, before.0, event, answers, before.1, there, number, missing before.0 before.2 before.3)
  stops_here olds ds events k answers ks deltas event stops.Memory run there h = tt

  -- ---- from the start

  -- what each node shows is what was taken shows
  views_shown : {N : Type 0} (held : N → State G) (gs : List Gateway) (nodes : List N) → AreShown gs (map held nodes)
      → (i : ℕ) (gateway : Gateway) (node : N) → slice_get gs i ≡ Some gateway → slice_get nodes i ≡ Some node
      → (c : List ℕ) → view c (held node).kept ≡ view c gateway.taken
  views_shown held [] nodes s i gateway node e f c = absurd (cc)
  views_shown held (g ∷ gs) [] s i gateway node e f c = absurd s
  views_shown held (g ∷ gs) (n ∷ nodes) s zero gateway node e f c =
      let is_gateway : g ≡ gateway = cc in
      let is_node : n ≡ node = cc in
      ap (λ x. view c (held x).kept) (sym is_node) ∙ (view-counts c g.taken (held n).kept s.0.stands.keeps.counts ∙ ap (λ (x : Gateway). view c x.taken) is_gateway)
  views_shown held (g ∷ gs) (n ∷ nodes) s (suc i) gateway node e f c = views_shown held gs nodes s.1 i gateway node e f c

  retained_shown : {N : Type 0} (held : N → State G) (gs : List Gateway) (nodes : List N) → AreShown gs (map held nodes)
      → (i : ℕ) (gateway : Gateway) (node : N) → slice_get gs i ≡ Some gateway → slice_get nodes i ≡ Some node
      → all_retained (held node).kept ≡ all_retained gateway.taken
  retained_shown held [] nodes s i gateway node e f = absurd (cc)
  retained_shown held (g ∷ gs) [] s i gateway node e f = absurd s
  retained_shown held (g ∷ gs) (n ∷ nodes) s zero gateway node e f =
      let is_gateway : g ≡ gateway = cc in
      let is_node : n ≡ node = cc in
      ap (λ x. all_retained (held x).kept) (sym is_node) ∙ (all_retained-counts g.taken (held n).kept s.0.stands.keeps.counts ∙ ap (λ (x : Gateway). all_retained x.taken) is_gateway)
  retained_shown held (g ∷ gs) (n ∷ nodes) s (suc i) gateway node e f = retained_shown held gs nodes s.1 i gateway node e f

  shown_push : (gs : List Gateway) (ks : List (State G)) (g : Gateway) (k : State G) → AreShown gs ks → IsShown g k → AreShown (gs ++ g ∷ []) (ks ++ k ∷ [])
  shown_push [] [] g k s one = (one, tt)
  shown_push (x ∷ gs) (y ∷ ks) g k s one = (s.0, shown_push gs ks g k s.1 one)
  shown_push [] (y ∷ ks) g k s one = absurd s
  shown_push (x ∷ gs) [] g k s one = absurd s

  -- one more gateway begins
  pub nodes_more : {N : Type 0} (f : N → State G) (configs : List Config) (k : ℕ) (config : Config) (xs ys : List N) (n : N)
      → k < length configs → config ≡ slice_index_or configs k config → ys ≡ xs ++ n ∷ [] → IsShown (new_gateway config) (f n)
      → AreShown (map new_gateway (take k configs)) (map f xs) → AreShown (map new_gateway (take (k + 1) configs)) (map f ys)
  nodes_more f configs k config xs ys n less is e shown h =
      let more : take (k + 1) configs ≡ take k configs ++ config ∷ [] = take_more configs k config less ∙ ap (λ x. take k configs ++ x ∷ []) (sym is) in
      let gateways : map new_gateway (take (k + 1) configs) ≡ map new_gateway (take k configs) ++ new_gateway config ∷ [] =
      ap (λ zs. map new_gateway zs) more ∙ map_push new_gateway (take k configs) config in
      let held : map f ys ≡ map f xs ++ f n ∷ [] = ap (λ zs. map f zs) e ∙ map_push f xs n in
      subst (λ (gs : List Gateway). AreShown gs (map f ys)) (sym gateways)
      (subst (λ (ks : List (State G)). AreShown (map new_gateway (take k configs) ++ new_gateway config ∷ []) ks) (sym held)
      (shown_push (map new_gateway (take k configs)) (map f xs) (new_gateway config) (f n) h shown))

  pub led_at_start : (configs : List Config) (ks : List (State G)) (ds : List (List Op)) → AreShown (map new_gateway configs) ks → ds ≡ [] → IsLed ks ds
  led_at_start configs ks ds s none = (new_field configs, reached_start configs, s, sym none)

  -- a run from the start that stops
  pub stops_from_start : (configs : List Config) (ks : List (State G)) (ds : List (List Op)) (events : List Event) (fault : WorldFault)
      → AreShown (map new_gateway configs) ks → ds ≡ [] → StopsRun ks ds events fault → IsStop configs events fault
  stops_from_start configs ks ds events (stops.NoGateway n) s none h =
      let (k, field, event, answers, run, there, number, missing) = h (new_field configs) (reached_start configs) s (sym none) in
      (k, field, event, record { answers = answers; run = run; event_is = there }, number, missing)
  stops_from_start configs ks ds events (stops.NoDelta n) s none h =
      let (k, field, event, answers, run, there, number, missing) = h (new_field configs) (reached_start configs) s (sym none) in
      (k, field, event, record { answers = answers; run = run; event_is = there }, number, missing)
  stops_from_start configs ks ds events stops.Memory s none h = tt

  -- a run from the start to its end
  pub world_from_start : {N : Type 0} (held : N → State G) (configs : List Config) (events : List Event) (answers : List Answer) (ks : List (State G)) (ds deltas : List (List Op)) (nodes : List N)
      → AreShown (map new_gateway configs) ks → ds ≡ [] → RunOn ks ds events answers (map held nodes) deltas
      → IsWorld held configs events answers deltas nodes
  world_from_start held configs events answers ks ds deltas nodes start none run =
      let end = run (new_field configs) (reached_start configs) start (sym none) in
      record {
        field = end.0;
        run = end.1;
        listed = sym end.3;
        shown = end.2;
        views = λ i gateway node e f c. views_shown held end.0.gateways nodes end.2 i gateway node e f c;
        retained = λ i gateway node e f. retained_shown held end.0.gateways nodes end.2 i gateway node e f;
      }
