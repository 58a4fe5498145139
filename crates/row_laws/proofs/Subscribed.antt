-- What SUBSCRIBE and UNSUBSCRIBE leave in the session.
use Rattle.std.proofs.Common.{◌≡◌, ℕ, ◌==◌, Bool, true, false, cond, not, if◌then◌else◌, List, [], ◌∷◌, Option, Some, None, IfSome, is_some, bytes_eq, refl, sym, subst, ap, ◌∙◌, arith}
use Rattle.std.proofs.lemmas.Bool.Decides.{nat_tests}
use Rattle.std.proofs.lemmas.Slice.Eq.{bytes_eq-Decides}
use Rattle.std.specs.Option.{option_map}
use Rattle.std.specs.Ordering.{nat_cmp, is_eq, ordering_reverse}
use Rattle.std.specs.Cmp.Lexicographic.{slice_cmp, nat_list_cmp_total, texts_ties}
use Rattle.std.specs.declared.cmp.Ordering.TheVariants.{Less, Equal, Greater}
use Rattle.sn_topic.specs.Table.{Entries}
use Rattle.sn_topic.specs.Topics.{name_asked}
use Rattle.sn_session.specs.declared.session.Session.{Session}
use Rattle.sn_tables.specs.declared.topics.TopicEntry.{TopicEntry}
use Rattle.sn_tables.specs.declared.subscriptions.Subscription.{Subscription}
use Rattle.sn_session.specs.declared.change.SessionOp.{SessionOp}
use Rattle.sn_session.specs.declared.change.SessionOp.TheVariants.{Register, Subscribe, Unsubscribe}
use Rattle.sn_tables.specs.Tables.{by_order}
use Rattle.sn_tables.specs.Topics.{topic_named, free_id, topic_has_no_room}
use Rattle.sn_tables.specs.Subscriptions.{subscription_cmp, subscription_of, filter_qos, with_subscription, without_filter, filter_has_no_room}
use Rattle.sn_session.specs.Session.{applied, session_changed}
use Rattle.sn_frame.specs.declared.flags.TopicIdType.{TopicIdType}
use Rattle.sn_frame.specs.declared.flags.TopicIdType.TheVariants as kinds
use Rattle.sn_frame.specs.FlagBits.{qos_of, kind_of}
use Rattle.sn_local.specs.declared.config.Addr.{Addr}
use Rattle.sn_local.specs.Seen.{Seen}
use Rattle.sn_plan.specs.declared.asking.Asked.{Asked}
use Rattle.sn_plan.specs.declared.asking.Asked.TheVariants.{Topics}
use Rattle.sn_subscribe.specs.declared.registration.NamedId.{NamedId}
use Rattle.sn_plan.specs.Asking.{qos_asked, topics_asked}
use Rattle.sn_plan.specs.Drafts.{nothing, changed_if, session_after}
use Rattle.sn_subscribe.specs.Registration.{entry_or_free}
use Rattle.sn_subscribe.specs.Subscription.{refused, id_in_full, id_asked, subscribe_change, subscribed, subscribe_asked, subscribe_at, subscribe, unsubscribe_asked, unsubscribe}
use Rattle.row_laws.specs.RequestLaws.{IsSubscribed, IsUnsubscribed}
use Rattle.row_laws.proofs.Given.{fits}

-- a subscription that is set is found
same_filter : (f : List ℕ) → bytes_eq f f ≡ true
same_filter f = (bytes_eq-Decides f f).1 refl

set_first : (e : Subscription) (rest : List Subscription) → subscription_of e.filter (e ∷ rest) ≡ Some e
set_first e rest = rw (same_filter e.filter) refl

set_later : (e x : Subscription) (rest : List Subscription) → subscription_cmp e x ≡ Greater → subscription_of e.filter rest ≡ Some e → subscription_of e.filter (x ∷ rest) ≡ Some e
set_later e x rest above h =
    let below : slice_cmp nat_cmp x.filter e.filter ≡ Less = nat_list_cmp_total.antisymm x.filter e.filter ∙ ap ordering_reverse above in
    let apart : bytes_eq x.filter e.filter ≡ false = texts_ties x.filter e.filter ∙ ap is_eq below in
    rw apart h

set_found : (e : Subscription) (xs : List Subscription) → subscription_of e.filter (with_subscription e xs) ≡ Some e
set_found e [] = set_first e []
set_found e (x ∷ xs) =
    elim (subscription_cmp e x) as (λ o. subscription_cmp e x ≡ o → subscription_of e.filter (by_order o (e ∷ x ∷ xs) (e ∷ xs) (x ∷ with_subscription e xs)) ≡ Some e) [
      | Less ↦ λ _. set_first e (x ∷ xs)
      | Equal ↦ λ _. set_first e xs
      | Greater ↦ λ above. set_later e x (with_subscription e xs) above (set_found e xs)
    ] refl

-- a subscription that is taken away is not found
none_left : (f : List ℕ) (xs : List Subscription) → subscription_of f (without_filter f xs) ≡ None
none_left f [] = refl
none_left f (x ∷ xs) =
    elim (bytes_eq x.filter f) as (λ b. bytes_eq x.filter f ≡ b → subscription_of f (cond (not b) (x ∷ without_filter f xs) (without_filter f xs)) ≡ None) [
      | true ↦ λ _. none_left f xs
      | false ↦ λ other. rw other (none_left f xs)
    ] refl

-- a change that leaves the subscriptions as they are
abbrev LeavesSubscriptions : Session → NamedId → Type 0
LeavesSubscriptions s named = (session_after s (changed_if named.change nothing)).subscriptions ≡ s.subscriptions

either_same : (test : Bool) (s t : Session) → t.subscriptions ≡ s.subscriptions → (if test then s else t).subscriptions ≡ s.subscriptions
either_same true s t h = refl
either_same false s t h = h

registers : (s : Session) (id : ℕ) (name : List ℕ) → (applied s (Register id name true)).subscriptions ≡ s.subscriptions
registers s id name = either_same (topic_has_no_room id s.topics) s (session_changed s (Register id name true)) refl

of_known : (s : Session) (name : List ℕ) (id : ℕ) (known : Bool) → LeavesSubscriptions s (record { id = id; change = if known then None else Some (Register id name true) })
of_known s name id true = refl
of_known s name id false = registers s id name

of_entry : (s : Session) (name : List ℕ) (entry : Option TopicEntry) (free : Option ℕ) → IfSome (entry_or_free name entry free) (LeavesSubscriptions s)
of_entry s name None None = tt
of_entry s name None (Some id) = registers s id name
of_entry s name (Some entry) free = of_known s name entry.id entry.known

of_full : (s : Session) (name : Option (List ℕ)) → IfSome (id_in_full s name) (LeavesSubscriptions s)
of_full s None = refl
of_full s (Some name) = of_entry s name (topic_named name s.topics) (free_id s.topics)

of_kind : (s : Session) (kind : TopicIdType) (field f : List ℕ) → IfSome (id_asked s kind field f) (LeavesSubscriptions s)
of_kind s kinds.Normal field f = of_full s (name_asked f)
of_kind s kinds.Predefined field f = refl
of_kind s kinds.Short field f = refl
of_kind s kinds.Reserved field f = refl

-- the filter is set, or was there at that quality of service
sets : (s : Session) (f : List ℕ) (qos : ℕ) → filter_has_no_room f s.subscriptions ≡ false → IsSubscribed f qos (applied s (Subscribe f qos))
sets s f qos room =
    subst (λ (t : Session). IsSubscribed f qos t) (sym (fits s (Subscribe f qos) room))
    (ap (option_map (λ (e : Subscription). e.qos)) (set_found (record { filter = f; qos = qos }) s.subscriptions))

stays : (s : Session) (f : List ℕ) (before qos : ℕ) → filter_has_no_room f s.subscriptions ≡ false → filter_qos f s.subscriptions ≡ Some before → (same : Bool) → (before == qos) ≡ same
    → IsSubscribed f qos (session_after s (changed_if (if same then None else Some (Subscribe f qos)) nothing))
stays s f before qos room was true is = let e : before ≡ qos = grind (arith, nat_tests) in was ∙ ap Some e
stays s f before qos room was false is = sets s f qos room

asks : (s : Session) (f : List ℕ) (qos : ℕ) → filter_has_no_room f s.subscriptions ≡ false → (before : Option ℕ) → filter_qos f s.subscriptions ≡ before
    → IsSubscribed f qos (session_after s (changed_if (subscribe_change f qos before) nothing))
asks s f qos room None was = sets s f qos room
asks s f qos room (Some before) was = stays s f before qos room was (before == qos) refl

-- two changes, one after the other
one_by_one : (s : Session) (first second : Option SessionOp) → session_after s (changed_if second (changed_if first nothing)) ≡ session_after (session_after s (changed_if first nothing)) (changed_if second nothing)
one_by_one s None None = refl
one_by_one s None (Some second) = refl
one_by_one s (Some first) None = refl
one_by_one s (Some first) (Some second) = refl

module _ (seen : Seen) (waiting : ℕ) (a : Addr) (s : Session) (bits msg_id : ℕ) (f : List ℕ) (qos : ℕ) (named : NamedId) where
  granted : filter_has_no_room f s.subscriptions ≡ false → LeavesSubscriptions s named → IsSubscribed f qos (session_after s (subscribed seen waiting a s bits msg_id f qos (Some named)))
  granted room same =
      let named_session : Session = session_after s (changed_if named.change nothing) in
      subst (λ (t : Session). IsSubscribed f qos t) (sym (one_by_one s named.change (subscribe_change f qos (filter_qos f s.subscriptions))))
      (asks named_session f qos (subst (λ (xs : List Subscription). filter_has_no_room f xs ≡ false) (sym same) room) (filter_qos f s.subscriptions) (ap (filter_qos f) same))

pub lasts : (p : Entries) (seen : Seen) (waiting : ℕ) (a : Addr) (s : Session) (bits msg_id : ℕ) (field f : List ℕ) (qos : ℕ) (named : NamedId) → qos_asked (qos_of bits) ≡ Some qos → topics_asked p (kind_of bits) field ≡ Topics f
    → filter_has_no_room f s.subscriptions ≡ false → id_asked s (kind_of bits) field f ≡ Some named → IsSubscribed f qos (session_after s (subscribe p seen waiting a s bits msg_id field))
lasts p seen waiting a s bits msg_id field f qos named quality topics room id =
    let same : LeavesSubscriptions s named = subst (λ (o : Option NamedId). IfSome o (LeavesSubscriptions s)) id (of_kind s (kind_of bits) field f) in
    subst (λ (o : Option ℕ). IsSubscribed f qos (session_after s (subscribe_at p seen waiting a s bits msg_id field o))) (sym quality)
    (subst (λ (t : Asked). IsSubscribed f qos (session_after s (subscribe_asked seen waiting a s bits msg_id field t qos))) (sym topics)
    (subst (λ (full : Bool). IsSubscribed f qos (session_after s (if full then refused a bits msg_id 1 else subscribed seen waiting a s bits msg_id f qos (id_asked s (kind_of bits) field f)))) (sym room)
    (subst (λ (o : Option NamedId). IsSubscribed f qos (session_after s (subscribed seen waiting a s bits msg_id f qos o))) (sym id)
    (granted seen waiting a s bits msg_id f qos named room same))))

ended : (s : Session) (f : List ℕ) (before : Option ℕ) → filter_qos f s.subscriptions ≡ before → IsUnsubscribed f (session_after s (changed_if (if is_some before then Some (Unsubscribe f) else None) nothing))
ended s f None was = was
ended s f (Some before) was = ap (option_map (λ (e : Subscription). e.qos)) (none_left f s.subscriptions)

pub ends : (p : Entries) (a : Addr) (s : Session) (bits msg_id : ℕ) (field f : List ℕ) → topics_asked p (kind_of bits) field ≡ Topics f → IsUnsubscribed f (session_after s (unsubscribe p a s bits msg_id field))
ends p a s bits msg_id field f topics =
    subst (λ (t : Asked). IsUnsubscribed f (session_after s (changed_if (unsubscribe_asked s t) nothing))) (sym topics) (ended s f (filter_qos f s.subscriptions) refl)
