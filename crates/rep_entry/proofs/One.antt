-- One operation more of a client: what is kept then.
use Rattle.std.proofs.Common.{◌≡◌, ℕ, Bool, true, false, not, cond, ◌&&◌, ◌||◌, ◌==◌, nat_le, if◌then◌else◌, List, [], ◌∷◌, ◌++◌, Option, Some, None, is_some, refl, sym, ap, ◌∙◌, subst, true≢false, append-nil}
use Rattle.std.specs.List.{AllByRecursion, list_any, cons_option}
use Rattle.std.specs.FinMap.{find}
use Rattle.std.specs.Ordering.{eq_by_cmp}
use Rattle.std.proofs.lemmas.List.Elements.{filter_map-append}
use Rattle.std.proofs.lemmas.List.Folds.{list_any-append}
use Rattle.std.proofs.lemmas.Map.Views.{tells_apart}
use Rattle.sn_session.specs.declared.change.SessionOp.{SessionOp}
use Rattle.rep_op.specs.declared.op.Stamp.{Stamp}
use Rattle.rep_op.specs.declared.op.Put.{Put}
use Rattle.rep_op.specs.declared.op.Op.{Op}
use Rattle.rep_op.specs.declared.op.Op.TheVariants.{Session as OfSession}
use Rattle.rep_op.specs.Orders.{operation_cmp, name_of, put_cmp, clock_cmp, AreOfClients}
use Rattle.rep_op.specs.Sets.{same_client, operation_of, operations, operation_at, put_of, puts, put_at, acknowledges, is_acknowledged, retain_of, retains, retain_at, Same}
use Rattle.rep_model.specs.Views.{visible}
use Rattle.rep_model.specs.Keep.{is_below, keep}
use Rattle.rep_model.proofs.Lookup.{or_else, find_both}
use Rattle.rep_model.proofs.Readers.{same_client-true, operation_exact, put_exact, operation_at_both, put_at_both, is_acknowledged_both, retain_at_both}
use Rattle.rep_model.proofs.Thin.{thin-same, visible-thin}
use Rattle.rep_log.specs.Logs.{visible_in, IsKeptIn}
use Rattle.rep_log.proofs.Logging.{NoneBelow, all_kept}
use Rattle.rep_log.specs.Mail.{Range, covers, put_by_name}
use Rattle.rep_log.specs.Kept.{of_log, of_mail, of_acks, kept_ops}
use Rattle.rep_entry.proofs.Client.{itself, kept_operations, kept_puts, kept_acknowledged, kept_of_clients}
use Rattle.rep_entry.proofs.Steps.{KeepsOf, kept_of_readers}

none_or : {X : Type 0} (a : Option X) → or_else a None ≡ a
none_or None = refl
none_or (Some x) = refl

or_none : (a : Bool) → (a || false) ≡ a
or_none true = refl
or_none false = refl

-- one that is new may stand in front or after
swapped : {X : Type 0} (a b : Option X) → (is_some b ≡ true → a ≡ None) → or_else a b ≡ or_else b a
swapped None None h = refl
swapped None (Some y) h = refl
swapped (Some x) None h = refl
swapped (Some x) (Some y) h = some_none (h refl)
  where
    some_none : {P : Type 0} → Some x ≡ None → P
    some_none e = cc

or_turned : (a b : Bool) → (a || b) ≡ (b || a)
or_turned true true = refl
or_turned true false = refl
or_turned false true = refl
or_turned false false = refl

module _ (c : List ℕ) (op : Op) (K : List Op)
    (one : (d : List ℕ) (name : Stamp × ℕ) → is_some (operation_at d (op ∷ []) name) ≡ true → operation_at d K name ≡ None)
    (put : (d : List ℕ) (name : ℕ × ℕ) → is_some (put_at d (op ∷ []) name) ≡ true → put_at d K name ≡ None)
    (no_topic : (t : List ℕ) → retain_of t op ≡ None) where
  -- the new one in front
  in_front : Same (K ++ op ∷ []) (op ∷ K)
  in_front = record {
    operations_same = λ d name. operation_at_both d K (op ∷ []) name ∙ swapped (operation_at d K name) (operation_at d (op ∷ []) name) (one d name) ∙ sym (operation_at_both d (op ∷ []) K name);
    puts_same = λ d name. put_at_both d K (op ∷ []) name ∙ swapped (put_at d K name) (put_at d (op ∷ []) name) (put d name) ∙ sym (put_at_both d (op ∷ []) K name);
    acknowledgements_same = λ d name. is_acknowledged_both d K (op ∷ []) name ∙ or_turned (is_acknowledged d K name) (is_acknowledged d (op ∷ []) name) ∙ sym (is_acknowledged_both d (op ∷ []) K name);
    retains_same = λ t name.
        retain_at_both t K (op ∷ []) name ∙ ap (λ o. or_else (retain_at t K name) (find clock_cmp name (cons_option o []))) (no_topic t)
        ∙ none_or (retain_at t K name) ∙ sym (ap (λ o. find clock_cmp name (cons_option o (retains t K))) (no_topic t));
  }

  pub visible_front : (d : List ℕ) → visible d (K ++ op ∷ []) ≡ visible d (op ∷ K)
  visible_front d = visible-thin (K ++ op ∷ []) (op ∷ K) (thin-same (K ++ op ∷ []) (op ∷ K) in_front) d

-- ---- another client's operations

module _ (c d : List ℕ) (other : same_client d c ≡ false) where
  no_log_operations : (es : List ((Stamp × ℕ) × SessionOp)) → operations d (of_log c es) ≡ []
  no_log_operations [] = refl
  no_log_operations (e ∷ es) = λ i. cons_option (if other i then Some e else None) (no_log_operations es i)

  no_mail_operations : (ps : List Put) → operations d (of_mail c ps) ≡ []
  no_mail_operations [] = refl
  no_mail_operations (p ∷ ps) = no_mail_operations ps

  no_acks_operations : (rs : List Range) → operations d (of_acks c rs) ≡ []
  no_acks_operations [] = refl
  no_acks_operations (r ∷ rs) = no_acks_operations rs

  no_log_puts : (es : List ((Stamp × ℕ) × SessionOp)) → puts d (of_log c es) ≡ []
  no_log_puts [] = refl
  no_log_puts (e ∷ es) = no_log_puts es

  no_mail_puts : (ps : List Put) → puts d (of_mail c ps) ≡ []
  no_mail_puts [] = refl
  no_mail_puts (p ∷ ps) = λ i. cons_option (if other i then Some (name_of p, p) else None) (no_mail_puts ps i)

  no_acks_puts : (rs : List Range) → puts d (of_acks c rs) ≡ []
  no_acks_puts [] = refl
  no_acks_puts (r ∷ rs) = no_acks_puts rs

  module _ (name : ℕ × ℕ) where
    no_log_acknowledges : (es : List ((Stamp × ℕ) × SessionOp)) → is_acknowledged d (of_log c es) name ≡ false
    no_log_acknowledges [] = refl
    no_log_acknowledges (e ∷ es) = no_log_acknowledges es

    no_mail_acknowledges : (ps : List Put) → is_acknowledged d (of_mail c ps) name ≡ false
    no_mail_acknowledges [] = refl
    no_mail_acknowledges (p ∷ ps) = no_mail_acknowledges ps

    no_acks_acknowledge : (rs : List Range) → is_acknowledged d (of_acks c rs) name ≡ false
    no_acks_acknowledge [] = refl
    no_acks_acknowledge (r ∷ rs) = λ i. (other i && (name.1 == r.0) && nat_le r.1.0 name.0 && nat_le name.0 r.1.1) || no_acks_acknowledge rs i

  module _ (es : List ((Stamp × ℕ) × SessionOp)) (ps : List Put) (rs : List Range) where
    other_operations : operations d (kept_ops c es ps rs) ≡ []
    other_operations = filter_map-append (operation_of d) (of_log c es) (of_mail c ps ++ of_acks c rs)
        ∙ (λ i. no_log_operations es i ++ (filter_map-append (operation_of d) (of_mail c ps) (of_acks c rs) ∙ (λ j. no_mail_operations ps j ++ no_acks_operations rs j)) i)

    other_puts : puts d (kept_ops c es ps rs) ≡ []
    other_puts = filter_map-append (put_of d) (of_log c es) (of_mail c ps ++ of_acks c rs)
        ∙ (λ i. no_log_puts es i ++ (filter_map-append (put_of d) (of_mail c ps) (of_acks c rs) ∙ (λ j. no_mail_puts ps j ++ no_acks_puts rs j)) i)

    other_acknowledged : (name : ℕ × ℕ) → is_acknowledged d (kept_ops c es ps rs) name ≡ false
    other_acknowledged name = list_any-append (acknowledges d name) (of_log c es) (of_mail c ps ++ of_acks c rs)
        ∙ (λ i. no_log_acknowledges name es i || (list_any-append (acknowledges d name) (of_mail c ps) (of_acks c rs) ∙ (λ j. no_mail_acknowledges name ps j || no_acks_acknowledge name rs j)) i)

-- ---- a session operation of a new name

uncovered : (rs : List Range) (ps : List Put) (q : ℕ × ℕ) → AllByRecursion (λ p. list_any (covers (name_of p)) rs ≡ false) ps → list_any (covers q) rs ≡ true → put_by_name q ps ≡ None
uncovered rs [] q h e = refl
uncovered rs (p ∷ ps) q h e = elim (eq_by_cmp put_cmp q (name_of p)) as (λ b. eq_by_cmp put_cmp q (name_of p) ≡ b → cond b (Some p) (put_by_name q ps) ≡ None) [
  | true ↦ λ t. absurd (true≢false (sym e ∙ ap (λ n. list_any (covers n) rs) (tells_apart put_exact q (name_of p) t) ∙ h.0))
  | false ↦ λ _. uncovered rs ps q h.1 e
] refl

pub kept_itself : (rs : List Range) (ps : List Put) → AllByRecursion (λ p. list_any (covers (name_of p)) rs ≡ false) ps → (q : ℕ × ℕ) → put_by_name q ps ≡ cond (not (list_any (covers q) rs)) (put_by_name q ps) None
kept_itself rs ps h q = elim (list_any (covers q) rs) as (λ b. list_any (covers q) rs ≡ b → put_by_name q ps ≡ cond (not b) (put_by_name q ps) None) [
  | true ↦ λ e. uncovered rs ps q h e
  | false ↦ λ _. refl
] refl

module _ (c : List ℕ) (s : Stamp) (k : ℕ) (x : SessionOp) (es more : List ((Stamp × ℕ) × SessionOp)) (stamp : Option Stamp) (ps : List Put) (rs : List Range)
    (kept : IsKeptIn (((s, k), x) ∷ es) more stamp) (fresh : find operation_cmp (s, k) es ≡ None)
    (none : AllByRecursion (λ p. list_any (covers (name_of p)) rs ≡ false) ps) where
  abbrev K : List Op
  K = kept_ops c es ps rs

  abbrev op : Op
  op = OfSession c s k x

  alone : operations c (op ∷ []) ≡ ((s, k), x) ∷ []
  alone = λ i. cons_option (if itself c i then Some ((s, k), x) else None) []

  not_there : (d : List ℕ) (name : Stamp × ℕ) → is_some (operation_at d (op ∷ []) name) ≡ true → operation_at d K name ≡ None
  not_there d name = elim (same_client d c) as (λ b. same_client d c ≡ b → is_some (find operation_cmp name (cons_option (if b then Some ((s, k), x) else None) [])) ≡ true → operation_at d K name ≡ None) [
    | true ↦ λ own there. ap (λ y. operation_at y K name) (same_client-true d c own) ∙ ap (find operation_cmp name) (kept_operations c es ps rs)
        ∙ elim (eq_by_cmp operation_cmp name (s, k)) as (λ b. eq_by_cmp operation_cmp name (s, k) ≡ b → is_some (cond b (Some x) None) ≡ true → find operation_cmp name es ≡ None) [
          | true ↦ λ t _. ap (λ n. find operation_cmp n es) (tells_apart operation_exact name (s, k) t) ∙ fresh
          | false ↦ λ _ e. absurd (true≢false (sym e))
        ] refl there
    | false ↦ λ _ e. absurd (true≢false (sym e))
  ] refl

  stamp_is : stamp ≡ visible c (K ++ op ∷ [])
  stamp_is = kept.visible
      ∙ (λ i. visible_in (cons_option (if sym (itself c) i then Some ((s, k), x) else None) (sym (kept_operations c es ps rs) i)))
      ∙ sym (visible_front c op K not_there (λ d name e. absurd (true≢false (sym e))) (λ t. refl) c)

  of_own : KeepsOf c K (op ∷ []) (kept_ops c more ps rs)
  of_own = record {
    stamp = stamp;
    visible_is = stamp_is;
    operations_kept = λ name. ap (find operation_cmp name) (kept_operations c more ps rs) ∙ kept.found name
        ∙ ap (λ o. cond (not (is_below name.0 stamp)) o None)
        (find_both operation_cmp name (((s, k), x) ∷ []) es
        ∙ (λ i. or_else (find operation_cmp name (sym alone i)) (find operation_cmp name (sym (kept_operations c es ps rs) i)))
        ∙ sym (swapped (operation_at c K name) (operation_at c (op ∷ []) name) (not_there c name)));
    puts_kept = λ name. ap (find put_cmp name) (kept_puts c more ps rs) ∙ kept_itself rs ps none name
        ∙ (λ i. cond (not (sym (or_none (list_any (covers name) rs)) i)) (sym (none_or (put_by_name name ps)) i) None)
        ∙ (λ i. cond (not (sym (kept_acknowledged c es ps rs name) i || false)) (or_else (find put_cmp name (sym (kept_puts c es ps rs) i)) None) None);
    acknowledgements_kept = λ name. kept_acknowledged c more ps rs name ∙ sym (kept_acknowledged c es ps rs name) ∙ sym (or_none (is_acknowledged c K name));
  }

  module _ (d : List ℕ) (other : same_client d c ≡ false) where
    nothing_new : operations d (op ∷ []) ≡ []
    nothing_new = λ i. cons_option (if other i then Some ((s, k), x) else None) []

    of_other : KeepsOf d K (op ∷ []) (kept_ops c more ps rs)
    of_other = record {
      stamp = None;
      visible_is = sym (ap (λ (es : List ((Stamp × ℕ) × SessionOp)). visible_in es) (filter_map-append (operation_of d) K (op ∷ []) ∙ (λ i. other_operations c d other es ps rs i ++ nothing_new i)));
      operations_kept = λ name. ap (find operation_cmp name) (other_operations c d other more ps rs)
          ∙ (λ i. or_else (find operation_cmp name (sym (other_operations c d other es ps rs) i)) (find operation_cmp name (sym nothing_new i)));
      puts_kept = λ name. ap (find put_cmp name) (other_puts c d other more ps rs)
          ∙ (λ i. cond (not (sym (other_acknowledged c d other es ps rs name) i || false)) (or_else (find put_cmp name (sym (other_puts c d other es ps rs) i)) None) None);
      acknowledgements_kept = λ name. other_acknowledged c d other more ps rs name ∙ (λ i. sym (other_acknowledged c d other es ps rs name) i || false);
    }

  pub session_step : Same (kept_ops c more ps rs) (keep (K ++ op ∷ []))
  session_step = kept_of_readers K (op ∷ []) (kept_ops c more ps rs) (kept_of_clients c es ps rs) (refl, tt) (kept_of_clients c more ps rs) (λ d.
      elim (same_client d c) as (λ b. same_client d c ≡ b → KeepsOf d K (op ∷ []) (kept_ops c more ps rs)) [
        | true ↦ λ own. subst (λ y. KeepsOf y K (op ∷ []) (kept_ops c more ps rs)) (sym (same_client-true d c own)) of_own
        | false ↦ λ other. of_other d other
      ] refl)

-- ---- messages and acknowledgements of the client

module _ (c : List ℕ) (es : List ((Stamp × ℕ) × SessionOp)) (stamp : Option Stamp) (visible : stamp ≡ visible_in es) (none_below : NoneBelow stamp es)
    (ps more : List Put) (rs ranges : List Range) (N : List Op) (of_clients : AreOfClients N)
    (no_session : operations c N ≡ [])
    (others : (d : List ℕ) → same_client d c ≡ false → (operations d N ≡ []) × (puts d N ≡ []) × ((q : ℕ × ℕ) → is_acknowledged d N q ≡ false))
    (acknowledged : (q : ℕ × ℕ) → list_any (covers q) ranges ≡ (list_any (covers q) rs || is_acknowledged c N q))
    (waiting : (q : ℕ × ℕ) → put_by_name q more ≡ cond (not (list_any (covers q) ranges)) (or_else (put_by_name q ps) (put_at c N q)) None) where
  abbrev before : List Op
  before = kept_ops c es ps rs

  abbrev behind : List Op
  behind = kept_ops c es more ranges

  mail_of_own : KeepsOf c before N behind
  mail_of_own = record {
    stamp = stamp;
    visible_is = visible ∙ sym (ap (λ (es : List ((Stamp × ℕ) × SessionOp)). visible_in es) (filter_map-append (operation_of c) before N ∙ (λ i. kept_operations c es ps rs i ++ no_session i) ∙ append-nil es));
    operations_kept = λ name. ap (find operation_cmp name) (kept_operations c es more ranges) ∙ all_kept stamp es es none_below (λ name. refl) name
        ∙ (λ i. cond (not (is_below name.0 stamp)) (sym (none_or (find operation_cmp name es)) i) None)
        ∙ (λ i. cond (not (is_below name.0 stamp)) (or_else (find operation_cmp name (sym (kept_operations c es ps rs) i)) (find operation_cmp name (sym no_session i))) None);
    puts_kept = λ q. ap (find put_cmp q) (kept_puts c es more ranges) ∙ waiting q
        ∙ (λ i. cond (not ((acknowledged q ∙ ap (λ b. b || is_acknowledged c N q) (sym (kept_acknowledged c es ps rs q))) i)) (or_else (find put_cmp q (sym (kept_puts c es ps rs) i)) (put_at c N q)) None);
    acknowledgements_kept = λ q. kept_acknowledged c es more ranges q ∙ acknowledged q ∙ ap (λ b. b || is_acknowledged c N q) (sym (kept_acknowledged c es ps rs q));
  }

  mail_of_other : (d : List ℕ) → same_client d c ≡ false → KeepsOf d before N behind
  mail_of_other d other =
      let o = others d other in
      record {
        stamp = None;
        visible_is = sym (ap (λ (es : List ((Stamp × ℕ) × SessionOp)). visible_in es) (filter_map-append (operation_of d) before N ∙ (λ i. other_operations c d other es ps rs i ++ o.0 i)));
        operations_kept = λ name. ap (find operation_cmp name) (other_operations c d other es more ranges)
            ∙ (λ i. or_else (find operation_cmp name (sym (other_operations c d other es ps rs) i)) (find operation_cmp name (sym o.0 i)));
        puts_kept = λ q. ap (find put_cmp q) (other_puts c d other es more ranges)
            ∙ (λ i. cond (not (sym (other_acknowledged c d other es ps rs q) i || sym (o.2 q) i)) (or_else (find put_cmp q (sym (other_puts c d other es ps rs) i)) (find put_cmp q (sym o.1 i))) None);
        acknowledgements_kept = λ q. other_acknowledged c d other es more ranges q ∙ (λ i. sym (other_acknowledged c d other es ps rs q) i || sym (o.2 q) i);
      }

  pub mail_step : Same behind (keep (before ++ N))
  mail_step = kept_of_readers before N behind (kept_of_clients c es ps rs) of_clients (kept_of_clients c es more ranges) (λ d.
      elim (same_client d c) as (λ b. same_client d c ≡ b → KeepsOf d before N behind) [
        | true ↦ λ own. subst (λ y. KeepsOf y before N behind) (sym (same_client-true d c own)) mail_of_own
        | false ↦ λ other. mail_of_other d other
      ] refl)
