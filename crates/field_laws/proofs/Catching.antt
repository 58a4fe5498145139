-- With what answers its digest a gateway keeps what it would keep with the whole set of the peer, also a run later.
use Rattle.std.proofs.Common.{◌≡◌, Bool, ℕ, zero, suc, ◌⊎◌, ◌↔◌, List, [], ◌∷◌, ◌++◌, map, flat_map, set, slice_get, Some, Contains, Result, Ok, Err, refl, sym, ap, ◌∙◌, subst, append-nil, append_assoc, inl, inr}
use Rattle.std.proofs.lemmas.List.Concat.{flat_map-append}
use Rattle.std.proofs.lemmas.List.Elements.{All-from_recursion, All-contains, Contains-append_left, Contains-append_right}
use Rattle.std.proofs.lemmas.Option.{none-some, same_Some}
use Rattle.rep_op.specs.declared.op.Op.{Op}
use Rattle.rep_op.specs.Sets.{Within, Same}
use Rattle.rep_ops.specs.Splitting.{all_of}
use Rattle.rep_model.specs.Keep.{keep, CountsAs}
use Rattle.rep_model.proofs.Joins.{all-moved, all-both, same_sym, same_trans, same-absorbed, same-elements}
use Rattle.rep_model.proofs.Thin.{thin-left, thin-right, thin-same, same_kept}
use Rattle.rep_answer.proofs.Completing.{completed}
use Rattle.sn_local.specs.declared.config.Config.{Config}
use Rattle.gw_world.specs.declared.event.Event.{Event}
use Rattle.gw_world.specs.declared.event.Event.TheVariants.{Frame, Tick, Take, Together as AtOnce, Answer as Asks, WriteFails, Compact, Restart, Show}
use Rattle.gw_world.specs.declared.event.Call.{Call}
use Rattle.gw_world.specs.declared.event.Call.TheVariants as calls
use Rattle.gw_world.specs.declared.event.Answer.{Answer}
use Rattle.gw_world.specs.declared.event.Answer.TheVariants.{Node, Row, Views, Records, Nothing}
use Rattle.gw_answer.specs.declared.out.Out.{Out}
use Rattle.gw_answer.specs.declared.refusal.Refusal.{Refusal}
use Rattle.gw_answer.specs.Answers.{said}
use Rattle.gw_event.specs.Occasions.{Datagram, Clock}
use Rattle.gw_event.specs.Gateways.{Gateway}
use Rattle.gw_answer.specs.declared.step.Step.{Step}
use Rattle.gw_event.specs.Together.{AreTorn}
use Rattle.gw_world.specs.Field.{Field, new_field, IsAt, field_changed, failing_gateway, TogetherAt, After, Run}
use Rattle.gw_world.proofs.InRows.{Answers, CallAt, InCalls, calls-keep, row-keeps, torn-row-still}
use Rattle.gw_world.specs.Steps.{AnswerStep, restarted}
use Rattle.gw_event.specs.Event.{TakeStep}
use Rattle.gw_world.specs.Whole.{listed, everything, brought}
use Rattle.gw_world.proofs.Answering.{answered, deltas-same}
use Rattle.gw_world.proofs.Consistency.{WholeField, field-sound, run-sound, whole-asked, parts-consistent}
use Rattle.gw_world.proofs.Failures.{due-joined}
use Rattle.gw_world.proofs.Steadiness.{Still, Stepped, Fed, own-moves, take-moves, compact-still, came-back, restart-feeds}
use Rattle.gw_world.proofs.Telling.{run-brought}

-- ---- one answer

pub completes : (asker peer : Gateway) (out : Out) (made : List (List Op)) (later : List Op) → AnswerStep asker peer (Ok out) made → Same (keep ((asker.taken ++ all_of made) ++ later)) (keep ((asker.taken ++ peer.taken) ++ later))
completes asker peer out made later h =
    let X = h.1.0 in
    same_trans
    (same_kept ((asker.taken ++ all_of made) ++ later) ((asker.taken ++ X) ++ later)
    (thin-right (asker.taken ++ all_of made) (asker.taken ++ X) (thin-left (all_of made) X (thin-same (all_of made) X (deltas-same X made h.1.2)) asker.taken) later))
    (completed peer.taken asker.taken X h.1.1 later)

-- in whatever order, and however often, what was answered comes
pub completes-however : (asker peer : Gateway) (out : Out) (made : List (List Op)) (taken later : List Op) → AnswerStep asker peer (Ok out) made → ((op : Op) → Contains taken op ↔ Contains (all_of made) op) → Same (keep ((asker.taken ++ taken) ++ later)) (keep ((asker.taken ++ peer.taken) ++ later))
completes-however asker peer out made taken later h f =
    let same : Same (all_of made) taken = same-elements (all_of made) taken (answered asker peer (Ok out) made h).consistent (λ op. (f op).1) (λ op. (f op).0) in
    same_trans
    (same_kept ((asker.taken ++ taken) ++ later) ((asker.taken ++ all_of made) ++ later)
    (thin-right (asker.taken ++ taken) (asker.taken ++ all_of made) (thin-left taken (all_of made) (thin-same taken (all_of made) (same_sym same)) asker.taken) later))
    (completes asker peer out made later h)

-- ---- what a run leaves of a gateway's set

-- the gateway in this place has taken this, and more perhaps
pub record Later (gs : List Gateway) (i : ℕ) (S : List Op) : Type 0 where
  pub gateway : Gateway
  pub place : slice_get gs i ≡ Some gateway
  pub more : List Op
  pub taken : gateway.taken ≡ S ++ more

set-later : (gs : List Gateway) (i j : ℕ) (old next : Gateway) (more S : List Op) → slice_get gs i ≡ Some old → next.taken ≡ old.taken ++ more → Later gs j S → Later (set gs i next) j S
set-later [] i j old next more S is taken l = absurd (none-some l.gateway l.place)
set-later (g ∷ gs) zero zero old next more S is taken l =
    let same : old ≡ l.gateway = same_Some old l.gateway (sym is ∙ l.place) in record {
      gateway = next;
      place = refl;
      more = l.more ++ more;
      taken = taken ∙ ap (λ (x : Gateway). x.taken ++ more) same ∙ ap (λ T. T ++ more) l.taken ∙ append_assoc S l.more more;
    }
set-later (g ∷ gs) zero (suc j) old next more S is taken l = record { gateway = l.gateway; place = l.place; more = l.more; taken = l.taken }
set-later (g ∷ gs) (suc i) zero old next more S is taken l = record { gateway = l.gateway; place = l.place; more = l.more; taken = l.taken }
set-later (g ∷ gs) (suc i) (suc j) old next more S is taken l =
    let r = set-later gs i j old next more S is taken (record { gateway = l.gateway; place = l.place; more = l.more; taken = l.taken }) in
    record { gateway = r.gateway; place = r.place; more = r.more; taken = r.taken }

moved-later : (gs : List Gateway) (i j : ℕ) (old next : Gateway) (made : List (List Op)) (S : List Op) → slice_get gs i ≡ Some old → Still old next made ⊎ Stepped old next made → Later gs j S → Later (set gs i next) j S
moved-later gs i j old next made S is (inl u) l = set-later gs i j old next [] S is (u.taken ∙ sym (append-nil old.taken)) l
moved-later gs i j old next made S is (inr u) l = set-later gs i j old next u.delta S is u.taken l

fed-later : (gs : List Gateway) (i j : ℕ) (old next : Gateway) (made : List (List Op)) (S delta : List Op) → slice_get gs i ≡ Some old → Still old next made ⊎ Fed old delta next made → Later gs j S → Later (set gs i next) j S
fed-later gs i j old next made S delta is (inl u) l = moved-later gs i j old next made S is (inl u) l
fed-later gs i j old next made S delta is (inr u) l = set-later gs i j old next delta S is u.taken l

call-later : (old new : Field) (number : ℕ) (call : Call) (answer : Result Out Refusal) (j : ℕ) (S : List Op) → CallAt old number call answer new → Later old.gateways j S → Later new.gateways j S
call-later old new number (calls.Frame from bytes now) answer j S h l =
    subst (λ (x : Field). Later x.gateways j S) (sym h.6) (moved-later old.gateways h.0 j h.1 h.2 h.3 S h.4.1 (own-moves h.1 (Datagram from bytes) now answer h.2 h.3 h.5) l)
call-later old new number (calls.Tick now) answer j S h l =
    subst (λ (x : Field). Later x.gateways j S) (sym h.6) (moved-later old.gateways h.0 j h.1 h.2 h.3 S h.4.1 (own-moves h.1 Clock now answer h.2 h.3 h.5) l)
call-later old new number (calls.Take delta) answer j S h l =
    subst (λ (x : Field). Later x.gateways j S) (sym h.8) (fed-later old.gateways h.0 j h.1 h.2 h.3 S h.4 h.5.1 (take-moves h.1 h.4 answer h.2 h.3 h.7) l)

pub calls-later : (old new : Field) (number : ℕ) (called : List Call) (answers : Answers) (j : ℕ) (S : List Op) → InCalls old number called answers new → Later old.gateways j S → Later new.gateways j S
calls-later old new number called answers j S h l =
    calls-keep (λ (x : Field). Later x.gateways j S) number (λ before after call answer one later. call-later before after number call answer j S one later) old new called answers h l

pub torn-later : (field : Field) (i : ℕ) (gateway next : Gateway) (step : Step) (answer : Result Out Refusal) (more : List Step) (j : ℕ) (S : List Op) → slice_get field.gateways i ≡ Some gateway → AreTorn gateway step answer more next
    → Later field.gateways j S → Later (field_changed field i next []).gateways j S
torn-later field i gateway next step answer more j S at t l = moved-later field.gateways i j gateway next [] S at (inl (torn-row-still gateway next step answer more t)) l

row-later : (old new : Field) (number : ℕ) (called : List Call) (answers : Answers) (j : ℕ) (S : List Op) → TogetherAt old number called answers new → Later old.gateways j S → Later new.gateways j S
row-later old new number called answers j S h l =
    row-keeps (λ (x : Field). Later x.gateways j S) number (λ before after call answer one later. call-later before after number call answer j S one later)
    (λ field i gateway next behind step answer more at is t later. torn-later field i gateway next step answer more j S at.1 t later)
    old new called answers h l

after-later : (old : Field) (event : Event) (answer : Answer) (new : Field) (j : ℕ) (S : List Op) → After old event answer new → Later old.gateways j S → Later new.gateways j S
after-later old (Frame number from bytes now) (Node answer) new j S h l = call-later old new number (calls.Frame from bytes now) (said answer) j S h l
after-later old (Tick number now) (Node answer) new j S h l = call-later old new number (calls.Tick now) (said answer) j S h l
after-later old (Take number delta) (Node answer) new j S h l = call-later old new number (calls.Take delta) (said answer) j S h l
after-later old (AtOnce number calls) (Row answers) new j S h l = row-later old new number calls (map said answers) j S h l
after-later old (Asks number peer) (Node answer) new j S h l = subst (λ (x : Field). Later x.gateways j S) (sym h.8) l
after-later old (WriteFails number bytes sync) Nothing new j S h l =
    subst (λ (x : Field). Later x.gateways j S) (sym h.3) (set-later old.gateways h.0 j h.1 (failing_gateway bytes sync h.1) [] S h.2.1 (sym (append-nil h.1.taken)) l)
after-later old (Compact number) (Node answer) new j S h l =
    subst (λ (x : Field). Later x.gateways j S) (sym h.5) (moved-later old.gateways h.0 j h.1 h.2 [] S h.3.1 (inl (compact-still h.1 h.2 (said answer) h.4)) l)
after-later old (Restart number kept) (Records count) new j S h l =
    subst (λ (x : Field). Later x.gateways j S) (sym h.4) (fed-later old.gateways h.0 j h.1 (restarted kept h.1) [] S (came-back kept h.1) h.2.1 (inr (restart-feeds kept h.1)) l)
after-later old (Show number) (Views views topics) new j S h l = subst (λ (x : Field). Later x.gateways j S) (sym h.4) l
after-later old (Frame number from bytes now) (Views views topics) new j S h l = absurd h
after-later old (Tick number now) (Views views topics) new j S h l = absurd h
after-later old (Take number delta) (Views views topics) new j S h l = absurd h
after-later old (Asks number peer) (Views views topics) new j S h l = absurd h
after-later old (Show number) (Node answer) new j S h l = absurd h
after-later old (Compact number) (Views views topics) new j S h l = absurd h
after-later old (Restart number kept) (Views views topics) new j S h l = absurd h
after-later old (Restart number kept) (Node answer) new j S h l = absurd h
after-later old (Frame number from bytes now) (Records count) new j S h l = absurd h
after-later old (Tick number now) (Records count) new j S h l = absurd h
after-later old (Take number delta) (Records count) new j S h l = absurd h
after-later old (Asks number peer) (Records count) new j S h l = absurd h
after-later old (Compact number) (Records count) new j S h l = absurd h
after-later old (Show number) (Records count) new j S h l = absurd h
after-later old (WriteFails number bytes sync) (Node answer) new j S h l = absurd h
after-later old (WriteFails number bytes sync) (Views views topics) new j S h l = absurd h
after-later old (WriteFails number bytes sync) (Records count) new j S h l = absurd h
after-later old (Frame number from bytes now) Nothing new j S h l = absurd h
after-later old (Tick number now) Nothing new j S h l = absurd h
after-later old (Take number delta) Nothing new j S h l = absurd h
after-later old (Asks number peer) Nothing new j S h l = absurd h
after-later old (Compact number) Nothing new j S h l = absurd h
after-later old (Restart number kept) Nothing new j S h l = absurd h
after-later old (Show number) Nothing new j S h l = absurd h
after-later old (AtOnce number calls) (Node answer) new j S h l = absurd h
after-later old (AtOnce number calls) (Views views topics) new j S h l = absurd h
after-later old (AtOnce number calls) (Records count) new j S h l = absurd h
after-later old (AtOnce number calls) Nothing new j S h l = absurd h
after-later old (Frame number from bytes now) (Row answers) new j S h l = absurd h
after-later old (Tick number now) (Row answers) new j S h l = absurd h
after-later old (Take number delta) (Row answers) new j S h l = absurd h
after-later old (Asks number peer) (Row answers) new j S h l = absurd h
after-later old (WriteFails number bytes sync) (Row answers) new j S h l = absurd h
after-later old (Compact number) (Row answers) new j S h l = absurd h
after-later old (Restart number kept) (Row answers) new j S h l = absurd h
after-later old (Show number) (Row answers) new j S h l = absurd h

pub run-later : (old : Field) (events : List Event) (answers : List Answer) (new : Field) (j : ℕ) (S : List Op) → Run old events answers new → Later old.gateways j S → Later new.gateways j S
run-later old [] [] new j S h l = subst (λ (x : Field). Later x.gateways j S) (sym h) l
run-later old (event ∷ events) (answer ∷ answers) new j S h l = run-later h.0 events answers new j S h.2 (after-later old event answer h.0 j S h.1 l)
run-later old [] (answer ∷ answers) new j S h l = absurd h
run-later old (event ∷ events) [] new j S h l = absurd h

pub later-now : (gs : List Gateway) (j : ℕ) (gateway : Gateway) → slice_get gs j ≡ Some gateway → Later gs j gateway.taken
later-now gs j gateway e = record { gateway = gateway; place = e; more = []; taken = sym (append-nil gateway.taken) }

-- ---- what a gateway has taken stands in its field

taken-there : (gs : List Gateway) (j : ℕ) (gateway : Gateway) (op : Op) → slice_get gs j ≡ Some gateway → Contains gateway.taken op → Contains (flat_map (λ (g : Gateway). g.taken) gs) op
taken-there [] j gateway op e h = absurd (none-some gateway e)
taken-there (g ∷ gs) zero gateway op e h = Contains-append_left g.taken (flat_map (λ (x : Gateway). x.taken) gs) op (subst (λ (x : Gateway). Contains x.taken op) (sym (same_Some g gateway e)) h)
taken-there (g ∷ gs) (suc j) gateway op e h = Contains-append_right g.taken (flat_map (λ (x : Gateway). x.taken) gs) op (taken-there gs j gateway op e h)

of-both : (A B C : List Op) → ((op : Op) → Contains A op → Contains C op) → ((op : Op) → Contains B op → Contains C op) → (op : Op) → Contains (A ++ B) op → Contains C op
of-both A B C f g op h = All-contains (Contains C) (A ++ B) op (All-from_recursion (Contains C) (A ++ B) (all-both (Contains C) A B (all-moved (Contains C) A f) (all-moved (Contains C) B g))) h

-- ---- a run later

-- A: what the asker had; X: the answer; M: what it has taken since; S: the peer's set then
pub record Caught (whole : List Op) (A X M S : List Op) : Type 0 where
  pub kept : Same (keep ((A ++ X) ++ M)) (keep ((A ++ S) ++ M))
  pub reached : Within X (A ++ M)
  pub own : (op : Op) → Contains (A ++ M) op → Contains whole op
  pub answers : (op : Op) → Contains X op → Contains whole op
  pub peers : (op : Op) → Contains S op → Contains whole op

module _ (field : Field) (w : WholeField field) (A X M S : List Op) (k : Caught (everything field) A X M S) where
  alike : (one other : List Op) → ((op : Op) → Contains one op → Contains (everything field) op) → ((op : Op) → Contains one op → Contains other op) → ((op : Op) → Contains other op → Contains one op) → Same one other
  alike one other inside f g = same-elements one other (parts-consistent field w one inside) f g

  -- the answer between stands in what was taken
  absorbs : Same ((A ++ X) ++ M) (A ++ M)
  absorbs = same_trans
      (alike ((A ++ X) ++ M) (X ++ (A ++ M))
      (of-both (A ++ X) M (everything field) (of-both A X (everything field) (λ op h. k.own op (Contains-append_left A M op h)) k.answers) (λ op h. k.own op (Contains-append_right A M op h)))
      (of-both (A ++ X) M (X ++ (A ++ M))
      (of-both A X (X ++ (A ++ M)) (λ op h. Contains-append_right X (A ++ M) op (Contains-append_left A M op h)) (λ op h. Contains-append_left X (A ++ M) op h))
      (λ op h. Contains-append_right X (A ++ M) op (Contains-append_right A M op h)))
      (of-both X (A ++ M) ((A ++ X) ++ M)
      (λ op h. Contains-append_left (A ++ X) M op (Contains-append_right A X op h))
      (of-both A M ((A ++ X) ++ M) (λ op h. Contains-append_left (A ++ X) M op (Contains-append_left A X op h)) (λ op h. Contains-append_right (A ++ X) M op h))))
      (same-absorbed X (A ++ M) k.reached)

  -- the peer's set may as well come last
  turns : Same ((A ++ S) ++ M) ((A ++ M) ++ S)
  turns = alike ((A ++ S) ++ M) ((A ++ M) ++ S)
      (of-both (A ++ S) M (everything field) (of-both A S (everything field) (λ op h. k.own op (Contains-append_left A M op h)) k.peers) (λ op h. k.own op (Contains-append_right A M op h)))
      (of-both (A ++ S) M ((A ++ M) ++ S)
      (of-both A S ((A ++ M) ++ S) (λ op h. Contains-append_left (A ++ M) S op (Contains-append_left A M op h)) (λ op h. Contains-append_right (A ++ M) S op h))
      (λ op h. Contains-append_left (A ++ M) S op (Contains-append_right A M op h)))
      (of-both (A ++ M) S ((A ++ S) ++ M)
      (of-both A M ((A ++ S) ++ M) (λ op h. Contains-append_left (A ++ S) M op (Contains-append_left A S op h)) (λ op h. Contains-append_right (A ++ S) M op h))
      (λ op h. Contains-append_left (A ++ S) M op (Contains-append_right A S op h)))

  caught : CountsAs ((A ++ M) ++ S) (A ++ M)
  caught = same_trans (same_sym (same_kept ((A ++ X) ++ M) (A ++ M) (thin-same ((A ++ X) ++ M) (A ++ M) absorbs)))
      (same_trans k.kept (same_kept ((A ++ S) ++ M) ((A ++ M) ++ S) (thin-same ((A ++ S) ++ M) ((A ++ M) ++ S) turns)))

pub caught-up : (configs : List Config) (events more : List Event) (answers replies : List Answer) (old new : Field) (number other i j : ℕ) (asker peer later : Gateway) (out : Out) (made : List (List Op))
    → Run (new_field configs) events answers old → IsAt old number i asker → IsAt old other j peer → AnswerStep asker peer (Ok out) made
    → Run (record old { deltas = old.deltas ++ made }) more replies new → slice_get new.gateways i ≡ Some later → Within (all_of made) later.taken → CountsAs (later.taken ++ peer.taken) later.taken
caught-up configs events more answers replies old new number other i j asker peer later out made before at_asker at_peer step after place reached =
    let mid : Field = record old { deltas = old.deltas ++ made } in
    let first = field-sound configs events answers old before in
    let last = run-sound mid more replies new after first.flush (whole-asked old first.whole j asker peer (Ok out) made at_peer.1 step) (due-joined old.gateways old.deltas made first.due) in
    let mine = run-later mid more replies new i asker.taken after (later-now old.gateways i asker at_asker.1) in
    let theirs = run-later mid more replies new j peer.taken after (later-now old.gateways j peer at_peer.1) in
    let is : later.taken ≡ asker.taken ++ mine.more = ap (λ (x : Gateway). x.taken) (same_Some later mine.gateway (sym place ∙ mine.place)) ∙ mine.taken in
    let in_set : (k : ℕ) (g : Gateway) → slice_get new.gateways k ≡ Some g → (op : Op) → Contains g.taken op → Contains (everything new) op = λ k g e op h.
    Contains-append_left (flat_map (λ (x : Gateway). x.taken) new.gateways) (listed new) op (taken-there new.gateways k g op e h) in
    let in_list : (op : Op) → Contains (all_of made) op → Contains (everything new) op = λ op h.
    Contains-append_right (flat_map (λ (x : Gateway). x.taken) new.gateways) (listed new) op
    (subst (λ ds. Contains (all_of ds) op) (sym (run-brought mid more replies new after))
    (subst (λ T. Contains T op) (sym (flat_map-append (λ (delta : List Op). delta) (old.deltas ++ made) (brought replies)))
    (Contains-append_left (all_of (old.deltas ++ made)) (all_of (brought replies)) op
    (subst (λ T. Contains T op) (sym (flat_map-append (λ (delta : List Op). delta) old.deltas made)) (Contains-append_right (all_of old.deltas) (all_of made) op h))))) in
    subst (λ T. CountsAs (T ++ peer.taken) T) (sym is)
    (caught new last.whole asker.taken (all_of made) mine.more peer.taken (record {
      kept = completes asker peer out made mine.more step;
      reached = subst (Within (all_of made)) is reached;
      own = λ op h. in_set i later place op (subst (λ T. Contains T op) (sym is) h);
      answers = in_list;
      peers = λ op h. in_set j theirs.gateway theirs.place op (subst (λ T. Contains T op) (sym theirs.taken) (Contains-append_left peer.taken theirs.more op h));
    }))
