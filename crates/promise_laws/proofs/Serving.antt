-- A message of a step's plan stands in the delta that the step makes, and waits.
use Rattle.std.proofs.Common.{◌≡◌, ℕ, Bool, true, false, cond, not, if◌then◌else◌, ◌⊎◌, List, [], ◌∷◌, ◌++◌, Option, Some, None, Contains, refl, sym, ap, ◌∙◌, subst, inl, inr}
use Rattle.std.specs.List.{cons_option}
use Rattle.std.proofs.lemmas.Option.{none-some}
use Rattle.std.proofs.lemmas.List.Elements.{All-from_recursion, All-contains, Contains-append_left, Contains-append_right, Contains-append_cases, Contains-push, Contains-push_cases}
use Rattle.rep_op.specs.declared.op.Op.{Op}
use Rattle.rep_op.specs.declared.op.Op.TheVariants.{Session as OfSession, Put as OfPut, Ack, Retain as OfRetain}
use Rattle.rep_op.specs.declared.op.Put.{Put}
use Rattle.rep_op.specs.Sets.{put_at, is_acknowledged, Same}
use Rattle.rep_ops.specs.Making.{IsDeltaOf}
use Rattle.rep_model.specs.Views.{pending_at, view}
use Rattle.rep_model.proofs.Lookup.{or_else}
use Rattle.rep_model.proofs.Joins.{same_refl}
use Rattle.rep_model.proofs.Pending.{pending-listed}
use Rattle.rep_model.proofs.Readers.{put_at_both}
use Rattle.rep_model.proofs.Thin.{pending_at-reads, pending_at-thin, thin-same}
use Rattle.sn_local.specs.Seen.{seen_of}
use Rattle.sn_plan.specs.declared.draft.NewPut.{NewPut}
use Rattle.sn_plan.specs.declared.plan.Plan.{Plan}
use Rattle.sn_plan.specs.Flush.{HaveNoGap}
use Rattle.sn_plan.specs.Own.{IsOwnWrite, IsOfDraft, unnamed, new_messages}
use Rattle.row_laws.proofs.Known.{same-behind}
use Rattle.row_laws.proofs.Names.{plan-own}
use Rattle.row_laws.proofs.Stepping.{step-new_put}
use Rattle.put_laws.proofs.Acked.{none-there}
use Rattle.put_laws.specs.Puts.{IsOfGateway, IsWaiting}
use Rattle.put_laws.proofs.Putting.{of-draft}
use Rattle.put_laws.proofs.Waiting.{gateway-kept}
use Rattle.gw_event.specs.Occasions.{Occasion, Datagram, Clock}
use Rattle.gw_event.specs.Gateways.{Gateway}
use Rattle.gw_event.specs.Event.{IsMade, IsPlan}
use Rattle.gw_node.proofs.Occurring.{put_occurs, is_there}
use Rattle.gw_world.proofs.Alone.{delta-stands}
use Rattle.promise_laws.specs.Accepted.{IsNewIn}

-- ---- the messages of operations

pub head_there : {X : Type 0} (x : X) (xs : List X) → Contains (x ∷ xs) x
head_there x xs = Contains-append_left (x ∷ []) xs x (Contains-push [] x)

pub behind_there : {X : Type 0} (y x : X) (xs : List X) → Contains xs x → Contains (y ∷ xs) x
behind_there y x xs h = Contains-append_right (y ∷ []) xs x h

pub head_or : {X : Type 0} (y x : X) (xs : List X) → Contains (y ∷ xs) x → (y ≡ x) ⊎ Contains xs x
head_or y x xs h =
    elim (Contains-append_cases (y ∷ []) xs x h) [
      | inl one ↦ elim (Contains-push_cases [] y x one) [ inl none ↦ absurd (none-there x none) | inr same ↦ inl same ]
      | inr more ↦ inr more
    ]

-- the operations have a message for this client, with this topic, quality of service and body
pub record HasMessage (ops : List Op) (p : NewPut) : Type 0 where
  pub message : Put
  pub among : Contains ops (OfPut p.client message)
  pub says : (message.topic ≡ p.topic) × (message.qos ≡ p.qos) × (message.body ≡ p.body)

has-more : (op : Op) (ops : List Op) (p : NewPut) → HasMessage ops p → HasMessage (op ∷ ops) p
has-more op ops p h = record { message = h.message; among = behind_there op (OfPut p.client h.message) ops h.among; says = h.says }

pub message-there : (ops : List Op) (p : NewPut) → Contains (new_messages ops) p → HasMessage ops p
message-there [] p h = absurd (none-there p h)
message-there (OfSession c stamp counter change ∷ ops) p h = has-more (OfSession c stamp counter change) ops p (message-there ops p h)
message-there (OfRetain t k ∷ ops) p h = has-more (OfRetain t k) ops p (message-there ops p h)
message-there (Ack c origin first last ∷ ops) p h = has-more (Ack c origin first last) ops p (message-there ops p h)
message-there (OfPut c x ∷ ops) p h =
    let m : NewPut = unnamed c x in
    elim x.retain as (λ b. Contains (cons_option (if b then None else Some m) (new_messages ops)) p → HasMessage (OfPut c x ∷ ops) p) [
      | true ↦ λ there. has-more (OfPut c x) ops p (message-there ops p there)
      | false ↦ λ there.
          elim (head_or m p (new_messages ops) there) [
            | inl same ↦ subst (HasMessage (OfPut c x ∷ ops)) same (record { message = x; among = head_there (OfPut c x) ops; says = (refl, refl, refl) })
            | inr more ↦ has-more (OfPut c x) ops p (message-there ops p more)
          ]
    ] h

-- ---- a message of a plan

read_some : (b : Bool) (o : Option Put) (put : Put) → cond (not b) o None ≡ Some put → o ≡ Some put
read_some true o put e = absurd (none-some put e)
read_some false o put e = e

module _ (g : ℕ) (S : List Op) (plan : Plan) (is : IsOfGateway g S plan) (flush : HaveNoGap g S) (c : List ℕ) (m : Put) (among : Contains plan.ops (OfPut c m)) where
  abbrev name : ℕ × ℕ
  name = (m.seq, m.origin)

  drafted : IsOfDraft g (seen_of S) plan
  drafted = of-draft g S plan is

  pub plan-origin : m.origin ≡ g
  plan-origin = All-contains (IsOwnWrite g drafted.client) plan.ops (OfPut c m) (All-from_recursion (IsOwnWrite g drafted.client) plan.ops (plan-own g drafted.client (seen_of S) drafted.draft plan drafted.is)) among

  pub plan-new : put_at c S name ≡ None
  plan-new = step-new_put g S plan drafted plan.ops (same_refl plan.ops) flush c name (is_there plan.ops (OfPut c m) among)

  kept : pending_at c (S ++ plan.ops) name ≡ Some m
  kept = All-contains (IsWaiting (S ++ plan.ops)) plan.ops (OfPut c m) (All-from_recursion (IsWaiting (S ++ plan.ops)) plan.ops (gateway-kept g S plan is flush)) among

  stands-both : put_at c (S ++ plan.ops) name ≡ Some m
  stands-both = read_some (is_acknowledged c (S ++ plan.ops) name) (put_at c (S ++ plan.ops) name) m (sym (pending_at-reads c (S ++ plan.ops) name) ∙ kept)

  pub plan-stands : put_at c plan.ops name ≡ Some m
  plan-stands = ap (λ (o : Option Put). or_else o (put_at c plan.ops name)) (sym plan-new) ∙ sym (put_at_both c S plan.ops name) ∙ stands-both

  pub plan-waits : (delta : List Op) → Same delta plan.ops → Contains (view c (S ++ delta)).pending m
  plan-waits delta same =
      (pending-listed c (S ++ delta) m).1
      (pending_at-thin (S ++ delta) (S ++ plan.ops) (thin-same (S ++ delta) (S ++ plan.ops) (same-behind S plan.ops delta same)) c name ∙ kept)

-- ---- a message of a delta

-- a plan of a gateway is one of the step table's
pub of-gateway : (gateway : Gateway) (occasion : Occasion) (now : ℕ) (plan : Plan) → IsPlan gateway occasion now (Some plan) → IsOfGateway gateway.config.gateway gateway.taken plan
of-gateway gateway (Datagram from bytes) now plan h = inl (gateway.config.lifetime, gateway.config.predefined, gateway.local, from, h.0, now, h.3)
of-gateway gateway Clock now plan h = inr (gateway.config.lifetime, gateway.config.advertise, gateway.config.field, gateway.config.predefined, gateway.local, now, h)

-- the operations are the delta that the answer tells of, and that the gateway took
pub record IsTaken (ops : List Op) (old : Gateway) (told : Option (List Op)) (delta : List Op) (next : Gateway) : Type 0 where
  pub told_is : told ≡ Some delta
  pub delta_of : IsDeltaOf ops delta
  pub taken : next.taken ≡ old.taken ++ delta

-- some operation is there
pub some-taken : (old : Gateway) (plan : Plan) (ops : List Op) (told : Option (List Op)) (next : Gateway) (made : List (List Op)) (op : Op) → IsMade ops old plan told next made → Contains ops op → (delta : List Op) × IsTaken ops old told delta next
some-taken old plan [] told next made op h there = absurd (none-there op there)
some-taken old plan (x ∷ ops) None next made op h there = absurd h
some-taken old plan (x ∷ ops) (Some delta) next made op h there = (delta, record { told_is = refl; delta_of = h.0; taken = ap (λ (g : Gateway). g.taken) h.4 })

-- a delta is told of
pub told-taken : (old : Gateway) (plan : Plan) (ops delta : List Op) (next : Gateway) (made : List (List Op)) → IsMade ops old plan (Some delta) next made → IsTaken ops old (Some delta) delta next
told-taken old plan [] delta next made h = absurd h
told-taken old plan (x ∷ ops) delta next made h = record { told_is = refl; delta_of = h.0; taken = ap (λ (g : Gateway). g.taken) h.4 }

-- the gateway made the message with the delta, and took it
pub record IsPut (old next : Gateway) (delta : List Op) (c : List ℕ) (m : Put) : Type 0 where
  pub is_new : IsNewIn old delta c m
  pub stands : put_at c delta (m.seq, m.origin) ≡ Some m
  pub taken : next.taken ≡ old.taken ++ delta

module _ (old next : Gateway) (plan : Plan) (is : IsOfGateway old.config.gateway old.taken plan) (flush : HaveNoGap old.config.gateway old.taken) (told : Option (List Op)) (delta : List Op) (t : IsTaken plan.ops old told delta next) where
  pub put-of-plan : (c : List ℕ) (m : Put) → Contains plan.ops (OfPut c m) → IsPut old next delta c m
  put-of-plan c m among =
      let same = t.delta_of.same in
      let stands : put_at c delta (m.seq, m.origin) ≡ Some m = same.puts_same c (m.seq, m.origin) ∙ plan-stands old.config.gateway old.taken plan is flush c m among in record {
        is_new = record {
          has = (put_occurs c delta (m.seq, m.origin) m stands).0;
          origin = plan-origin old.config.gateway old.taken plan is flush c m among;
          fresh = plan-new old.config.gateway old.taken plan is flush c m among;
          waits = plan-waits old.config.gateway old.taken plan is flush c m among delta same;
        };
        stands = stands;
        taken = t.taken;
      }

  pub put-of-delta : (c : List ℕ) (m : Put) → Contains delta (OfPut c m) → IsPut old next delta c m
  put-of-delta c m among =
      let stands : put_at c delta (m.seq, m.origin) ≡ Some m = delta-stands delta t.delta_of.delta (OfPut c m) among in
      put-of-plan c m (put_occurs c plan.ops (m.seq, m.origin) m (sym (t.delta_of.same.puts_same c (m.seq, m.origin)) ∙ stands)).0
