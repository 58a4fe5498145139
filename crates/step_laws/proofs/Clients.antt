-- A step whose operations are all of clients that the set names leaves the clients as they are.
use Rattle.std.proofs.Common.{◌≡◌, ℕ, Bool, true, false, ◌||◌, if◌then◌else◌, nat_le, List, [], ◌∷◌, ◌++◌, filter_map, Some, None, refl, sym, ap, ◌∙◌, true≢false, subst, inl, inr}
use Rattle.std.specs.List.{list_any, AllByRecursion, cons_option}
use Rattle.std.specs.FinMap.Entries.{same_entries}
use Rattle.std.proofs.lemmas.Bool.{and_parts, or_cases}
use Rattle.std.proofs.lemmas.List.Folds.{list_any-append}
use Rattle.rep_op.specs.declared.op.Op.{Op}
use Rattle.rep_op.specs.declared.op.Op.TheVariants.{Session as OfSession, Put as OfPut, Ack, Retain as OfRetain}
use Rattle.rep_op.specs.Orders.{client_cmp}
use Rattle.rep_op.specs.Sets.{same_client}
use Rattle.rep_model.specs.Views.{names, in_order, named, clients, names_client, is_named}
use Rattle.rep_model.proofs.Lookup.{is_sorted-in_order}
use Rattle.rep_model.proofs.Readers.{client_total, client_exact, same_client-true}
use Rattle.rep_model.proofs.Named.{find_clients}
use Rattle.sn_plan.specs.declared.draft.NewPut.{NewPut}
use Rattle.sn_plan.specs.declared.plan.Plan.{Plan}
use Rattle.sn_plan.specs.Drafts.{Drafted}
use Rattle.sn_local.specs.Seen.{Seen}
use Rattle.sn_plan.specs.Plans.{plan_of}
use Rattle.sn_plan.specs.Numbering.{handed_to}
use Rattle.sn_plan.specs.Own.{IsOwnWrite, unnamed, new_messages, handed_in}
use Rattle.sn_plan.proofs.Lists.{all-both, all-map}
use Rattle.row_laws.proofs.Names.{plan-own}
use Rattle.row_laws.proofs.Waiting.{plan-messages, plan-handed}

or_absorbed : (a b : Bool) → (b ≡ true → a ≡ true) → (a || b) ≡ a
or_absorbed true b h = refl
or_absorbed false true h = sym (h refl)
or_absorbed false false h = refl

-- the operation is of a client that the set names
abbrev IsOfNamed : List Op → Op → Type 0
IsOfNamed S op = (c : List ℕ) → names_client c op ≡ true → is_named c S ≡ true

none_new : (S : List Op) (c : List ℕ) (ops : List Op) → AllByRecursion (IsOfNamed S) ops → list_any (names_client c) ops ≡ true → is_named c S ≡ true
none_new S c [] all h = absurd (true≢false (sym h))
none_new S c (op ∷ ops) all h =
    elim (or_cases (names_client c op) (list_any (names_client c) ops) h) [
      | inl one ↦ all.0 c one
      | inr more ↦ none_new S c ops all.1 more
    ]

same_named : (S ops : List Op) → AllByRecursion (IsOfNamed S) ops → (c : List ℕ) → is_named c (S ++ ops) ≡ is_named c S
same_named S ops all c = list_any-append (names_client c) S ops ∙ or_absorbed (is_named c S) (list_any (names_client c) ops) (none_new S c ops all)

clients_stay : (S ops : List Op) → AllByRecursion (IsOfNamed S) ops → clients (S ++ ops) ≡ clients S
clients_stay S ops all =
    ap names (same_entries client_cmp client_total client_exact (in_order client_cmp (filter_map named (S ++ ops))) (in_order client_cmp (filter_map named S))
    (is_sorted-in_order client_cmp client_total (filter_map named (S ++ ops))) (is_sorted-in_order client_cmp client_total (filter_map named S))
    (λ c. find_clients c (S ++ ops) ∙ ap (λ b. if b then Some c else None) (same_named S ops all c) ∙ sym (find_clients c S)))

-- ---- the operations of a plan

-- the message is for a client that the set names
abbrev pub IsForNamed : List Op → NewPut → Type 0
IsForNamed S p = is_named p.client S ≡ true

-- the operation is no message, or one for a client that the set names
abbrev IsPutForNamed : List Op → Op → Type 0
IsPutForNamed S (OfSession d stamp counter change) = Unit {0}
IsPutForNamed S (OfPut d p) = is_named d S ≡ true
IsPutForNamed S (Ack d origin first last) = Unit {0}
IsPutForNamed S (OfRetain topic kept) = Unit {0}

puts_for_named : (S ops : List Op) → AllByRecursion (IsForNamed S) (new_messages ops) → AllByRecursion (IsForNamed S) (handed_in ops) → AllByRecursion (IsPutForNamed S) ops
puts_for_named S [] all given = tt
puts_for_named S (OfSession d stamp counter change ∷ ops) all given = (tt, puts_for_named S ops all given)
puts_for_named S (OfPut d p ∷ ops) all given =
    elim p.retain as (λ b. AllByRecursion (IsForNamed S) (cons_option (if b then None else Some (unnamed d p)) (new_messages ops)) → AllByRecursion (IsForNamed S) (cons_option (if b then Some (unnamed d p) else None) (handed_in ops))
    → (is_named d S ≡ true) × AllByRecursion (IsPutForNamed S) ops) [
      | true ↦ λ made handed. (handed.0, puts_for_named S ops made handed.1)
      | false ↦ λ made handed. (made.0, puts_for_named S ops made.1 handed)
    ] all given
puts_for_named S (Ack d origin first last ∷ ops) all given = (tt, puts_for_named S ops all given)
puts_for_named S (OfRetain t k ∷ ops) all given = (tt, puts_for_named S ops all given)

own_named : (g : ℕ) (c : List ℕ) (S : List Op) → is_named c S ≡ true → (op : Op) → IsOwnWrite g c op → IsPutForNamed S op → IsOfNamed S op
own_named g c S there (OfSession d stamp counter change) own is e h = ap (λ x. is_named x S) (same_client-true e d h ∙ own.0) ∙ there
own_named g c S there (OfPut d p) own is e h = ap (λ x. is_named x S) (same_client-true e d h) ∙ is
own_named g c S there (OfRetain t k) own is e h = absurd (true≢false (sym h))
own_named g c S there (Ack d origin first last) own is e h =
    ap (λ x. is_named x S) (same_client-true e d (and_parts (same_client e d) (nat_le first last) h).0 ∙ own) ∙ there

-- a plan for a client that the set names, with messages for such clients alone
pub plan-clients : (g : ℕ) (c : List ℕ) (S : List Op) (seen : Seen) (d : Drafted) (plan : Plan) → plan_of g c seen d ≡ Some plan
    → is_named c S ≡ true → AllByRecursion (IsForNamed S) d.puts → clients (S ++ plan.ops) ≡ clients S
plan-clients g c S seen d plan planned there all =
    clients_stay S plan.ops
    (all-both (IsOwnWrite g c) (IsPutForNamed S) (IsOfNamed S) (own_named g c S there) plan.ops (plan-own g c seen d plan planned)
    (puts_for_named S plan.ops
    (subst (AllByRecursion (IsForNamed S)) (sym (plan-messages g c seen d plan planned)) all)
    (subst (AllByRecursion (IsForNamed S)) (sym (plan-handed g c seen d plan planned)) (all-map (IsForNamed S) (handed_to c) (λ m. there) d.handed))))
