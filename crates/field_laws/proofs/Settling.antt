-- What stands in a gateway's set stands in the list of deltas; so gateways that all of it has reached have the same.
use Rattle.std.proofs.Common.{◌≡◌, ℕ, Bool, true, false, ◌-◌, ◌⊎◌, ◌↔◌, List, [], ◌∷◌, ◌++◌, map, flat_map, slice_get, Option, Some, None, Contains, Result, Ok, Err, refl, sym, ap, ◌∙◌, subst, append-nil, inl, inr}
use Rattle.std.specs.List.{AllByRecursion}
use Rattle.std.proofs.lemmas.List.Concat.{flat_map-append}
use Rattle.std.proofs.lemmas.List.Elements.{All-from_recursion, All-contains, Contains-append_left, Contains-append_right}
use Rattle.rep_op.specs.declared.op.Op.{Op}
use Rattle.rep_op.specs.Sets.{operation_at, put_at, is_acknowledged, retain_at, HasOperation, Within, Same}
use Rattle.rep_model.specs.Topics.{all_retained}
use Rattle.rep_model.proofs.Topics.{all_retained-thin}
use Rattle.rep_model.proofs.Joins.{all-moved, same-elements, same_sym, same_trans, within-standing}
use Rattle.rep_model.proofs.Named.{clients-thin}
use Rattle.rep_model.proofs.Thin.{thin-same, view-thin}
use Rattle.sn_local.specs.declared.config.Config.{Config}
use Rattle.sn_plan.proofs.Lists.{all-append}
use Rattle.gw_world.specs.declared.event.Event.{Event}
use Rattle.gw_world.specs.declared.event.Event.TheVariants.{Frame, Tick, Take, Together as AtOnce, Answer as Asks, WriteFails, Compact, Restart, Show}
use Rattle.gw_world.specs.declared.event.Call.{Call}
use Rattle.gw_world.specs.declared.event.Call.TheVariants as calls
use Rattle.gw_world.specs.declared.event.Answer.{Answer}
use Rattle.gw_world.specs.declared.event.Answer.TheVariants.{Node, Row, Views, Records, Nothing}
use Rattle.gw_answer.specs.declared.out.Out.{Out}
use Rattle.gw_answer.specs.declared.refusal.Refusal.{Refusal}
use Rattle.gw_answer.specs.Answers.{said}
use Rattle.gw_event.specs.Occasions.{Datagram, Clock}
use Rattle.gw_event.specs.Gateways.{Gateway}
use Rattle.gw_world.specs.Field.{Field, new_field, field_changed, failing_gateway, TogetherAt, After, Run, shown}
use Rattle.gw_world.proofs.InRows.{Answers, CallAt, row-keeps, torn-row-still}
use Rattle.gw_world.specs.Steps.{restarted}
use Rattle.gw_event.specs.Event.{TakeStep}
use Rattle.gw_world.specs.Whole.{listed, everything, HasTakenAll, ArrangesFailure, NoneFails}
use Rattle.gw_world.proofs.Consistency.{WholeField, start-taken, field-whole, parts-consistent}
use Rattle.gw_world.proofs.Failures.{AreWell, after-well, start-well}
use Rattle.gw_world.proofs.Each.{all-at, all-places, all-each, flat-all, AllOf, EachOf, each-weaken, each-grown}
use Rattle.gw_world.proofs.Steadiness.{Still, Stepped, Fed, own-moves, take-moves, compact-still, restart-still}

abbrev IsListed : List (List Op) → Op → Type 0
IsListed deltas op = Contains (flat_map (λ (delta : List Op). delta) deltas) op

-- each operation of a gateway's set stands in a delta
abbrev AreListed : Field → Type 0
AreListed field = EachOf (IsListed field.deltas) field.gateways field.deltas

before-made : (deltas made : List (List Op)) (op : Op) → IsListed deltas op → IsListed (deltas ++ made) op
before-made deltas made op h = subst (λ T. Contains T op) (sym (flat_map-append (λ (delta : List Op). delta) deltas made))
    (Contains-append_left (flat_map (λ (delta : List Op). delta) deltas) (flat_map (λ (delta : List Op). delta) made) op h)

all-made : (deltas made : List (List Op)) → AllOf (IsListed (deltas ++ made)) made
all-made deltas made = flat-all (IsListed (deltas ++ made)) (λ (delta : List Op). delta) made
    (all-moved (IsListed (deltas ++ made)) (flat_map (λ (delta : List Op). delta) made) (λ op h.
    subst (λ T. Contains T op) (sym (flat_map-append (λ (delta : List Op). delta) deltas made))
    (Contains-append_right (flat_map (λ (delta : List Op). delta) deltas) (flat_map (λ (delta : List Op). delta) made) op h)))

module _ (field : Field) (w : AreListed field) (i : ℕ) (old next : Gateway) (made : List (List Op)) (is : slice_get field.gateways i ≡ Some old) where
  still-listed : EachOf (IsListed (field.deltas ++ made)) field.gateways field.deltas
  still-listed = each-weaken (IsListed field.deltas) (IsListed (field.deltas ++ made)) (before-made field.deltas made) field.gateways field.deltas w

  listed-more : (more : List Op) → next.taken ≡ old.taken ++ more → AllByRecursion (IsListed (field.deltas ++ made)) more → AreListed (field_changed field i next made)
  listed-more more taken news = each-grown (IsListed (field.deltas ++ made)) field.gateways field.deltas i old next more made is taken news (all-made field.deltas made) still-listed

  listed-moved : Still old next made ⊎ Stepped old next made → AreListed (field_changed field i next made)
  listed-moved (inl u) = listed-more [] (u.taken ∙ sym (append-nil old.taken)) tt
  listed-moved (inr u) = listed-more u.delta u.taken (subst (λ m. AllOf (IsListed (field.deltas ++ made)) m) u.one (all-made field.deltas made)).0

  listed-taken : (k : ℕ) (delta : List Op) → slice_get field.deltas k ≡ Some delta → Still old next made ⊎ Fed old delta next made → AreListed (field_changed field i next made)
  listed-taken k delta there (inl u) = listed-moved (inl u)
  listed-taken k delta there (inr u) = listed-more delta u.taken (all-at (λ (D : List Op). AllByRecursion (IsListed (field.deltas ++ made)) D) field.deltas k delta still-listed.lists there)

-- more deltas join the list
listed-joined : (field : Field) → AreListed field → (made : List (List Op)) → AreListed (record field { deltas = field.deltas ++ made })
listed-joined field w made =
    let more = each-weaken (IsListed field.deltas) (IsListed (field.deltas ++ made)) (before-made field.deltas made) field.gateways field.deltas w in record {
      sets = more.sets;
      lists = all-append (λ (D : List Op). AllByRecursion (IsListed (field.deltas ++ made)) D) field.deltas made more.lists (all-made field.deltas made);
    }

call-listed : (old new : Field) (number : ℕ) (call : Call) (answer : Result Out Refusal) → CallAt old number call answer new → AreListed old → AreListed new
call-listed old new number (calls.Frame from bytes now) answer h w = subst AreListed (sym h.6) (listed-moved old w h.0 h.1 h.2 h.3 h.4.1 (own-moves h.1 (Datagram from bytes) now answer h.2 h.3 h.5))
call-listed old new number (calls.Tick now) answer h w = subst AreListed (sym h.6) (listed-moved old w h.0 h.1 h.2 h.3 h.4.1 (own-moves h.1 Clock now answer h.2 h.3 h.5))
call-listed old new number (calls.Take delta) answer h w =
    subst AreListed (sym h.8) (listed-taken old w h.0 h.1 h.2 h.3 h.5.1 (delta - 1) h.4 h.6.1 (take-moves h.1 h.4 answer h.2 h.3 h.7))

row-listed : (old new : Field) (number : ℕ) (called : List Call) (answers : Answers) → TogetherAt old number called answers new → AreListed old → AreListed new
row-listed old new number called answers h w =
    row-keeps AreListed number (λ before after call answer one listed. call-listed before after number call answer one listed)
    (λ field i gateway next behind step answer more at is t listed. listed-moved field listed i gateway next [] at.1 (inl (torn-row-still gateway next step answer more t)))
    old new called answers h w

-- where no failure is arranged
after-listed : (old : Field) (event : Event) (answer : Answer) (new : Field) → After old event answer new → AreWell old → AreListed old → AreListed new
after-listed old (Frame number from bytes now) (Node answer) new h well w = call-listed old new number (calls.Frame from bytes now) (said answer) h w
after-listed old (Tick number now) (Node answer) new h well w = call-listed old new number (calls.Tick now) (said answer) h w
after-listed old (Take number delta) (Node answer) new h well w = call-listed old new number (calls.Take delta) (said answer) h w
after-listed old (AtOnce number calls) (Row answers) new h well w = row-listed old new number calls (map said answers) h w
after-listed old (Asks number peer) (Node answer) new h well w = subst AreListed (sym h.8) (listed-joined old w h.4)
after-listed old (WriteFails number bytes sync) Nothing new h well w =
    subst AreListed (sym h.3) (listed-moved old w h.0 h.1 (failing_gateway bytes sync h.1) [] h.2.1 (inl (record { config = refl; taken = refl; none = refl })))
after-listed old (Compact number) (Node answer) new h well w =
    subst AreListed (sym h.5) (listed-moved old w h.0 h.1 h.2 [] h.3.1 (inl (compact-still h.1 h.2 (said answer) h.4)))
after-listed old (Restart number kept) (Records count) new h well w =
    subst AreListed (sym h.4) (listed-moved old w h.0 h.1 (restarted kept h.1) [] h.2.1 (inl (restart-still kept h.1 (well h.0 h.1 h.2.1).0)))
after-listed old (Show number) (Views views topics) new h well w = subst AreListed (sym h.4) w
after-listed old (Frame number from bytes now) (Views views topics) new h well w = absurd h
after-listed old (Tick number now) (Views views topics) new h well w = absurd h
after-listed old (Take number delta) (Views views topics) new h well w = absurd h
after-listed old (Asks number peer) (Views views topics) new h well w = absurd h
after-listed old (Show number) (Node answer) new h well w = absurd h
after-listed old (Compact number) (Views views topics) new h well w = absurd h
after-listed old (Restart number kept) (Views views topics) new h well w = absurd h
after-listed old (Restart number kept) (Node answer) new h well w = absurd h
after-listed old (Frame number from bytes now) (Records count) new h well w = absurd h
after-listed old (Tick number now) (Records count) new h well w = absurd h
after-listed old (Take number delta) (Records count) new h well w = absurd h
after-listed old (Asks number peer) (Records count) new h well w = absurd h
after-listed old (Compact number) (Records count) new h well w = absurd h
after-listed old (Show number) (Records count) new h well w = absurd h
after-listed old (WriteFails number bytes sync) (Node answer) new h well w = absurd h
after-listed old (WriteFails number bytes sync) (Views views topics) new h well w = absurd h
after-listed old (WriteFails number bytes sync) (Records count) new h well w = absurd h
after-listed old (Frame number from bytes now) Nothing new h well w = absurd h
after-listed old (Tick number now) Nothing new h well w = absurd h
after-listed old (Take number delta) Nothing new h well w = absurd h
after-listed old (Asks number peer) Nothing new h well w = absurd h
after-listed old (Compact number) Nothing new h well w = absurd h
after-listed old (Restart number kept) Nothing new h well w = absurd h
after-listed old (Show number) Nothing new h well w = absurd h
after-listed old (AtOnce number calls) (Node answer) new h well w = absurd h
after-listed old (AtOnce number calls) (Views views topics) new h well w = absurd h
after-listed old (AtOnce number calls) (Records count) new h well w = absurd h
after-listed old (AtOnce number calls) Nothing new h well w = absurd h
after-listed old (Frame number from bytes now) (Row answers) new h well w = absurd h
after-listed old (Tick number now) (Row answers) new h well w = absurd h
after-listed old (Take number delta) (Row answers) new h well w = absurd h
after-listed old (Asks number peer) (Row answers) new h well w = absurd h
after-listed old (WriteFails number bytes sync) (Row answers) new h well w = absurd h
after-listed old (Compact number) (Row answers) new h well w = absurd h
after-listed old (Restart number kept) (Row answers) new h well w = absurd h
after-listed old (Show number) (Row answers) new h well w = absurd h

run-listed : (old : Field) (events : List Event) (answers : List Answer) (new : Field) → Run old events answers new → AllByRecursion (λ event. ¬ (ArrangesFailure event)) events → AreWell old → AreListed old → AreListed new
run-listed old [] [] new h never well w = subst AreListed (sym h) w
run-listed old (event ∷ events) (answer ∷ answers) new h never well w =
    run-listed h.0 events answers new h.2 never.1 (after-well old event answer h.0 h.1 never.0 well) (after-listed old event answer h.0 h.1 well w)
run-listed old [] (answer ∷ answers) new h never well w = absurd h
run-listed old (event ∷ events) [] new h never well w = absurd h

start-listed : (configs : List Config) → AreListed (new_field configs)
start-listed configs = record {
  sets = λ j gateway there. subst (λ T. AllByRecursion (IsListed []) T) (sym (start-taken configs j gateway there)) tt;
  lists = tt;
}

pub field-listed : (configs : List Config) (events : List Event) (answers : List Answer) (field : Field) (gateway : Gateway) (op : Op) → Run (new_field configs) events answers field → NoneFails events → Contains field.gateways gateway → Contains gateway.taken op → Contains (listed field) op
field-listed configs events answers field gateway op h none in_field there =
    let w = run-listed (new_field configs) events answers field h (all-moved (λ (event : Event). ¬ (ArrangesFailure event)) events none) (start-well configs) (start-listed configs) in
    let all = All-contains (λ (g : Gateway). AllByRecursion (IsListed field.deltas) g.taken) field.gateways gateway
    (All-from_recursion (λ (g : Gateway). AllByRecursion (IsListed field.deltas) g.taken) field.gateways (all-places (λ (g : Gateway). AllByRecursion (IsListed field.deltas) g.taken) field.gateways w.sets)) in_field in
    All-contains (IsListed field.deltas) gateway.taken op (All-from_recursion (IsListed field.deltas) gateway.taken all) there

-- what a gateway has taken is in the field
pub set-there : (field : Field) (gateway : Gateway) → Contains field.gateways gateway → (op : Op) → Contains gateway.taken op → Contains (everything field) op
set-there field gateway in_field =
    let each = all-each (Contains (everything field)) field (all-moved (Contains (everything field)) (everything field) (λ op h. h)) in
    let all = All-contains (λ (g : Gateway). AllByRecursion (Contains (everything field)) g.taken) field.gateways gateway
    (All-from_recursion (λ (g : Gateway). AllByRecursion (Contains (everything field)) g.taken) field.gateways (all-places (λ (g : Gateway). AllByRecursion (Contains (everything field)) g.taken) field.gateways each.sets)) in_field in
    λ op there. All-contains (Contains (everything field)) gateway.taken op (All-from_recursion (Contains (everything field)) gateway.taken all) there

pub field-alike : (configs : List Config) (events : List Event) (answers : List Answer) (field : Field) (one other : Gateway) → Run (new_field configs) events answers field → Contains field.gateways one → Contains field.gateways other → ((op : Op) → Contains one.taken op ↔ Contains other.taken op) → Same one.taken other.taken
field-alike configs events answers field one other h in_field too alike =
    let whole = field-whole configs events answers field h in
    let part : (op : Op) → Contains one.taken op → Contains (everything field) op = set-there field one in_field in
    same-elements one.taken other.taken (parts-consistent field whole one.taken part) (λ op. (alike op).0) (λ op. (alike op).1)

-- ---- by what is read of the sets

-- what two options have in common is all that they have
options-alike : {X : Type 0} (a b : Option X) → ((x : X) → a ≡ Some x → b ≡ Some x) → ((x : X) → b ≡ Some x → a ≡ Some x) → a ≡ b
options-alike None None f g = refl
options-alike None (Some y) f g = g y refl
options-alike (Some x) b f g = sym (f x refl)

tests-alike : (a b : Bool) → (a ≡ true → b ≡ true) → (b ≡ true → a ≡ true) → a ≡ b
tests-alike true b f g = sym (f refl)
tests-alike false true f g = g refl
tests-alike false false f g = refl

same-within : (A B : List Op) → Within A B → Within B A → Same A B
same-within A B f g = record {
  operations_same = λ c name. options-alike (operation_at c A name) (operation_at c B name) (f.operations_in c name) (g.operations_in c name);
  puts_same = λ c name. options-alike (put_at c A name) (put_at c B name) (f.puts_in c name) (g.puts_in c name);
  acknowledgements_same = λ c name. tests-alike (is_acknowledged c A name) (is_acknowledged c B name) (f.acknowledgements_in c name) (g.acknowledgements_in c name);
  retains_same = λ t name. options-alike (retain_at t A name) (retain_at t B name) (f.retains_in t name) (g.retains_in t name);
}

-- of parts of a field, that which has all operations of another has what stands in it
pub parts-within : (field : Field) → WholeField field → (part other : List Op) → ((op : Op) → Contains part op → Contains (everything field) op) → ((op : Op) → Contains other op → Contains part op) → Within other part
parts-within field w part other inside f =
    within-standing part other (all-moved (HasOperation part) other (λ op h. All-contains (HasOperation part) part op (All-from_recursion (HasOperation part) part (parts-consistent field w part inside)) (f op h)))

module _ (configs : List Config) (events : List Event) (answers : List Answer) (field : Field) (h : Run (new_field configs) events answers field) (gateway : Gateway) (in_field : Contains field.gateways gateway) where
  list-inside : (op : Op) → Contains (listed field) op → Contains (everything field) op
  list-inside op there = Contains-append_right (flat_map (λ (g : Gateway). g.taken) field.gateways) (listed field) op there

  set-inside : (op : Op) → Contains gateway.taken op → Contains (everything field) op
  set-inside = set-there field gateway in_field

  taken-within : NoneFails events → Within gateway.taken (listed field)
  taken-within none = parts-within field (field-whole configs events answers field h) (listed field) gateway.taken list-inside (λ op. field-listed configs events answers field gateway op h none in_field)

  -- whatever happened, nothing stands in its set that does not stand in the field
  taken-inside : Within gateway.taken (everything field)
  taken-inside = parts-within field (field-whole configs events answers field h) (everything field) gateway.taken (λ op there. there) set-inside

  taken-reached : (part : List Op) → ((op : Op) → Contains part op → Contains gateway.taken op) → Within part gateway.taken
  taken-reached part f = parts-within field (field-whole configs events answers field h) gateway.taken part set-inside f

  taken-all : NoneFails events → HasTakenAll field gateway → Same gateway.taken (listed field)
  taken-all none all = same-within gateway.taken (listed field) (taken-within none) all

  taken-everything : Within (everything field) gateway.taken → Same gateway.taken (everything field)
  taken-everything all = same-within gateway.taken (everything field) taken-inside all

pub field-within : (configs : List Config) (events : List Event) (answers : List Answer) (field : Field) (gateway : Gateway) → Run (new_field configs) events answers field → NoneFails events → Contains field.gateways gateway → Within gateway.taken (listed field)
field-within configs events answers field gateway h none in_field = taken-within configs events answers field h gateway in_field none

pub field-reached : (configs : List Config) (events : List Event) (answers : List Answer) (field : Field) (gateway : Gateway) (part : List Op) → Run (new_field configs) events answers field → Contains field.gateways gateway → ((op : Op) → Contains part op → Contains gateway.taken op) → Within part gateway.taken
field-reached configs events answers field gateway part h in_field f = taken-reached configs events answers field h gateway in_field part f

pub field-all : (configs : List Config) (events : List Event) (answers : List Answer) (field : Field) (gateway : Gateway) → Run (new_field configs) events answers field → NoneFails events → Contains field.gateways gateway → HasTakenAll field gateway → Same gateway.taken (listed field)
field-all configs events answers field gateway h none in_field all = taken-all configs events answers field h gateway in_field none all

pub field-settled : (configs : List Config) (events : List Event) (answers : List Answer) (field : Field) (one other : Gateway) → Run (new_field configs) events answers field → NoneFails events → Contains field.gateways one → Contains field.gateways other → HasTakenAll field one → HasTakenAll field other → Same one.taken other.taken
field-settled configs events answers field one other h none in_field too all others =
    same_trans (field-all configs events answers field one h none in_field all) (same_sym (field-all configs events answers field other h none too others))

-- and whatever failed: where all of the field has reached both
pub field-complete : (configs : List Config) (events : List Event) (answers : List Answer) (field : Field) (one other : Gateway) → Run (new_field configs) events answers field → Contains field.gateways one → Contains field.gateways other
    → Within (everything field) one.taken → Within (everything field) other.taken → Same one.taken other.taken
field-complete configs events answers field one other h in_field too all others =
    same_trans (taken-everything configs events answers field h one in_field all) (same_sym (taken-everything configs events answers field h other too others))

pub shown-same : (A B : List Op) → Same A B → shown A ≡ shown B
shown-same A B s = λ i. map (λ c. (c, view-thin A B (thin-same A B s) c i)) (clients-thin A B (thin-same A B s) i)

pub retained-same : (A B : List Op) → Same A B → all_retained A ≡ all_retained B
retained-same A B s = all_retained-thin A B (thin-same A B s)
