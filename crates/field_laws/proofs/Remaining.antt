-- No gateway leaves a field, and none takes another's place: a run keeps the settings of each place.
use Rattle.std.proofs.Common.{◌≡◌, ℕ, zero, suc, ◌⊎◌, List, [], ◌∷◌, map, set, slice_get, Some, Result, refl, sym, ap, ◌∙◌, inl, inr}
use Rattle.std.proofs.lemmas.Option.{none-some, same_Some}
use Rattle.rep_op.specs.declared.op.Op.{Op}
use Rattle.sn_local.specs.declared.config.Config.{Config}
use Rattle.gw_world.specs.declared.event.Event.{Event}
use Rattle.gw_world.specs.declared.event.Event.TheVariants.{Frame, Tick, Take, Together as AtOnce, Answer as Asks, WriteFails, Compact, Restart, Show}
use Rattle.gw_world.specs.declared.event.Call.{Call}
use Rattle.gw_world.specs.declared.event.Call.TheVariants as calls
use Rattle.gw_world.specs.declared.event.Answer.{Answer}
use Rattle.gw_world.specs.declared.event.Answer.TheVariants.{Node, Row, Views, Records, Nothing}
use Rattle.gw_answer.specs.Answers.{said}
use Rattle.gw_event.specs.Occasions.{Datagram, Clock}
use Rattle.gw_event.specs.Gateways.{Gateway}
use Rattle.gw_answer.specs.declared.out.Out.{Out}
use Rattle.gw_answer.specs.declared.refusal.Refusal.{Refusal}
use Rattle.gw_world.specs.Field.{Field, failing_gateway, TogetherAt, After, Run}
use Rattle.gw_world.proofs.InRows.{Answers, CallAt, row-keeps, torn-row-still}
use Rattle.gw_world.specs.Steps.{restarted}
use Rattle.gw_world.proofs.Steadiness.{Still, Stepped, Fed, own-moves, take-moves, compact-still, restart-feeds}
use Rattle.field_laws.specs.Settings.{settings}

abbrev config_of : Gateway → Config
config_of g = g.config

-- the gateway of one place became one with the same settings
set-same : (gs : List Gateway) (i : ℕ) (old next : Gateway) → slice_get gs i ≡ Some old → next.config ≡ old.config → map config_of (set gs i next) ≡ map config_of gs
set-same [] i old next is same = absurd (none-some old is)
set-same (g ∷ gs) zero old next is same = ap (λ c. c ∷ map config_of gs) (same ∙ ap config_of (sym (same_Some g old is)))
set-same (g ∷ gs) (suc i) old next is same = ap (λ cs. g.config ∷ cs) (set-same gs i old next is same)

still-or-stepped : (old next : Gateway) (made : List (List Op)) → Still old next made ⊎ Stepped old next made → next.config ≡ old.config
still-or-stepped old next made (inl u) = u.config
still-or-stepped old next made (inr u) = u.config

still-or-fed : (old next : Gateway) (delta : List Op) (made : List (List Op)) → Still old next made ⊎ Fed old delta next made → next.config ≡ old.config
still-or-fed old next delta made (inl u) = u.config
still-or-fed old next delta made (inr u) = u.config

call-same : (old new : Field) (number : ℕ) (call : Call) (answer : Result Out Refusal) → CallAt old number call answer new → settings new ≡ settings old
call-same old new number (calls.Frame from bytes now) answer h = ap settings h.6 ∙ set-same old.gateways h.0 h.1 h.2 h.4.1 (still-or-stepped h.1 h.2 h.3 (own-moves h.1 (Datagram from bytes) now answer h.2 h.3 h.5))
call-same old new number (calls.Tick now) answer h = ap settings h.6 ∙ set-same old.gateways h.0 h.1 h.2 h.4.1 (still-or-stepped h.1 h.2 h.3 (own-moves h.1 Clock now answer h.2 h.3 h.5))
call-same old new number (calls.Take delta) answer h = ap settings h.8 ∙ set-same old.gateways h.0 h.1 h.2 h.5.1 (still-or-fed h.1 h.2 h.4 h.3 (take-moves h.1 h.4 answer h.2 h.3 h.7))

row-same : (old new : Field) (number : ℕ) (called : List Call) (answers : Answers) → TogetherAt old number called answers new → settings new ≡ settings old
row-same old new number called answers h =
    row-keeps (λ (x : Field). settings x ≡ settings old) number (λ before after call answer one same. call-same before after number call answer one ∙ same)
    (λ field i gateway next behind step answer more at is t same. set-same field.gateways i gateway next at.1 (torn-row-still gateway next step answer more t).config ∙ same)
    old new called answers h refl

after-same : (old : Field) (event : Event) (answer : Answer) (new : Field) → After old event answer new → settings new ≡ settings old
after-same old (Frame number from bytes now) (Node answer) new h = call-same old new number (calls.Frame from bytes now) (said answer) h
after-same old (Tick number now) (Node answer) new h = call-same old new number (calls.Tick now) (said answer) h
after-same old (Take number delta) (Node answer) new h = call-same old new number (calls.Take delta) (said answer) h
after-same old (AtOnce number calls) (Row answers) new h = row-same old new number calls (map said answers) h
after-same old (Asks number peer) (Node answer) new h = ap settings h.8
after-same old (WriteFails number bytes sync) Nothing new h = ap settings h.3 ∙ set-same old.gateways h.0 h.1 (failing_gateway bytes sync h.1) h.2.1 refl
after-same old (Compact number) (Node answer) new h =
    ap settings h.5 ∙ set-same old.gateways h.0 h.1 h.2 h.3.1 (compact-still h.1 h.2 (said answer) h.4).config
after-same old (Restart number kept) (Records count) new h =
    ap settings h.4 ∙ set-same old.gateways h.0 h.1 (restarted kept h.1) h.2.1 (restart-feeds kept h.1).config
after-same old (Show number) (Views views topics) new h = ap settings h.4
after-same old (Frame number from bytes now) (Views views topics) new h = absurd h
after-same old (Tick number now) (Views views topics) new h = absurd h
after-same old (Take number delta) (Views views topics) new h = absurd h
after-same old (Asks number peer) (Views views topics) new h = absurd h
after-same old (Show number) (Node answer) new h = absurd h
after-same old (Compact number) (Views views topics) new h = absurd h
after-same old (Restart number kept) (Views views topics) new h = absurd h
after-same old (Restart number kept) (Node answer) new h = absurd h
after-same old (Frame number from bytes now) (Records count) new h = absurd h
after-same old (Tick number now) (Records count) new h = absurd h
after-same old (Take number delta) (Records count) new h = absurd h
after-same old (Asks number peer) (Records count) new h = absurd h
after-same old (Compact number) (Records count) new h = absurd h
after-same old (Show number) (Records count) new h = absurd h
after-same old (WriteFails number bytes sync) (Node answer) new h = absurd h
after-same old (WriteFails number bytes sync) (Views views topics) new h = absurd h
after-same old (WriteFails number bytes sync) (Records count) new h = absurd h
after-same old (Frame number from bytes now) Nothing new h = absurd h
after-same old (Tick number now) Nothing new h = absurd h
after-same old (Take number delta) Nothing new h = absurd h
after-same old (Asks number peer) Nothing new h = absurd h
after-same old (Compact number) Nothing new h = absurd h
after-same old (Restart number kept) Nothing new h = absurd h
after-same old (Show number) Nothing new h = absurd h
after-same old (AtOnce number calls) (Node answer) new h = absurd h
after-same old (AtOnce number calls) (Views views topics) new h = absurd h
after-same old (AtOnce number calls) (Records count) new h = absurd h
after-same old (AtOnce number calls) Nothing new h = absurd h
after-same old (Frame number from bytes now) (Row answers) new h = absurd h
after-same old (Tick number now) (Row answers) new h = absurd h
after-same old (Take number delta) (Row answers) new h = absurd h
after-same old (Asks number peer) (Row answers) new h = absurd h
after-same old (WriteFails number bytes sync) (Row answers) new h = absurd h
after-same old (Compact number) (Row answers) new h = absurd h
after-same old (Restart number kept) (Row answers) new h = absurd h
after-same old (Show number) (Row answers) new h = absurd h

pub places : (old new : Field) (more : List Event) (replies : List Answer) → Run old more replies new → settings new ≡ settings old
places old new [] [] h = ap settings h
places old new (event ∷ events) (answer ∷ answers) h = places h.0 new events answers h.2 ∙ after-same old event answer h.0 h.1
places old new [] (answer ∷ answers) h = absurd h
places old new (event ∷ events) [] h = absurd h
