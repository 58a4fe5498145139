-- What a replica keeps of one client, as a list of operations, and the view that it gives.
use Rattle.std.proofs.Common.{◌≡◌, ℕ, true, false, not, cond, ◌&&◌, ◌||◌, ◌==◌, nat_le, List, [], ◌∷◌, ◌++◌, map, filter, length, Option, Some, None, if◌then◌else◌, refl, sym, ap, ◌∙◌, append-nil}
use Rattle.std.specs.List.{AllByRecursion, filter_map, list_any, cons_option}
use Rattle.std.specs.FinMap.{find}
use Rattle.std.proofs.lemmas.List.Elements.{filter_map-append}
use Rattle.std.proofs.lemmas.List.Folds.{list_any-append}
use Rattle.std.proofs.lemmas.Map.Text.{is_eq-slice_cmp}
use Rattle.std.proofs.lemmas.Cmp.{tied_itself}
use Rattle.std.specs.Ordering.{is_eq}
use Rattle.sn_session.specs.declared.session.Session.{Session}
use Rattle.sn_session.specs.declared.change.SessionOp.{SessionOp}
use Rattle.rep_op.specs.declared.op.Stamp.{Stamp}
use Rattle.rep_op.specs.declared.op.Put.{Put}
use Rattle.rep_op.specs.Orders.{stamp_cmp, operation_cmp, name_of, put_cmp, AreOfClients}
use Rattle.rep_op.specs.Sets.{same_client, operation_of, operations, put_of, puts, acknowledges, is_acknowledged}
use Rattle.rep_model.specs.declared.view.ClientView.{ClientView}
use Rattle.rep_model.specs.Views.{greatest, take_stamp, names, visible, history_at, history, session_made, in_order, pending, view}
use Rattle.rep_model.proofs.Readers.{client_total}
use Rattle.rep_shared.proofs.Kept.{both_of_clients}
use Rattle.rep_log.specs.Mail.{Range, covers, named_puts, Rising, NoneCovered}
use Rattle.rep_log.specs.Kept.{of_log, of_mail, of_acks, kept_ops}
use Rattle.rep_entry.proofs.Rising.{in_order_rising, values_named}

-- a view, field by field
abbrev pub seen_as : Option Stamp → ℕ → Option Session → List Put → ClientView
seen_as stamp prefix session ps = record { stamp = stamp; prefix = prefix; session = session; pending = ps }

pub itself : (c : List ℕ) → same_client c c ≡ true
itself c = sym (is_eq-slice_cmp c c) ∙ ap is_eq (tied_itself client_total c)

module _ (c : List ℕ) where
  log_operations : (es : List ((Stamp × ℕ) × SessionOp)) → operations c (of_log c es) ≡ es
  log_operations [] = refl
  log_operations (e ∷ es) = λ i. cons_option (if itself c i then Some e else None) (log_operations es i)

  mail_operations : (ps : List Put) → operations c (of_mail c ps) ≡ []
  mail_operations [] = refl
  mail_operations (p ∷ ps) = mail_operations ps

  acks_operations : (rs : List Range) → operations c (of_acks c rs) ≡ []
  acks_operations [] = refl
  acks_operations (r ∷ rs) = acks_operations rs

  log_puts : (es : List ((Stamp × ℕ) × SessionOp)) → puts c (of_log c es) ≡ []
  log_puts [] = refl
  log_puts (e ∷ es) = log_puts es

  mail_puts : (ps : List Put) → puts c (of_mail c ps) ≡ named_puts ps
  mail_puts [] = refl
  mail_puts (p ∷ ps) = λ i. cons_option (if itself c i then Some (name_of p, p) else None) (mail_puts ps i)

  acks_puts : (rs : List Range) → puts c (of_acks c rs) ≡ []
  acks_puts [] = refl
  acks_puts (r ∷ rs) = acks_puts rs

  module _ (name : ℕ × ℕ) where
    log_acknowledges : (es : List ((Stamp × ℕ) × SessionOp)) → is_acknowledged c (of_log c es) name ≡ false
    log_acknowledges [] = refl
    log_acknowledges (e ∷ es) = log_acknowledges es

    mail_acknowledges : (ps : List Put) → is_acknowledged c (of_mail c ps) name ≡ false
    mail_acknowledges [] = refl
    mail_acknowledges (p ∷ ps) = mail_acknowledges ps

    acks_acknowledge : (rs : List Range) → is_acknowledged c (of_acks c rs) name ≡ list_any (covers name) rs
    acks_acknowledge [] = refl
    acks_acknowledge (r ∷ rs) = λ i. (itself c i && (name.1 == r.0) && nat_le r.1.0 name.0 && nat_le name.0 r.1.1) || acks_acknowledge rs i

  module _ (es : List ((Stamp × ℕ) × SessionOp)) (ps : List Put) (rs : List Range) where
    -- the readers of what is kept
    pub kept_operations : operations c (kept_ops c es ps rs) ≡ es
    kept_operations = filter_map-append (operation_of c) (of_log c es) (of_mail c ps ++ of_acks c rs)
        ∙ (λ i. log_operations es i ++ (filter_map-append (operation_of c) (of_mail c ps) (of_acks c rs) ∙ (λ j. mail_operations ps j ++ acks_operations rs j)) i)
        ∙ append-nil es

    pub kept_puts : puts c (kept_ops c es ps rs) ≡ named_puts ps
    kept_puts = filter_map-append (put_of c) (of_log c es) (of_mail c ps ++ of_acks c rs)
        ∙ (λ i. log_puts es i ++ (filter_map-append (put_of c) (of_mail c ps) (of_acks c rs) ∙ (λ j. mail_puts ps j ++ acks_puts rs j)) i)
        ∙ append-nil (named_puts ps)

    pub kept_acknowledged : (name : ℕ × ℕ) → is_acknowledged c (kept_ops c es ps rs) name ≡ list_any (covers name) rs
    kept_acknowledged name = list_any-append (acknowledges c name) (of_log c es) (of_mail c ps ++ of_acks c rs)
        ∙ (λ i. log_acknowledges name es i || (list_any-append (acknowledges c name) (of_mail c ps) (of_acks c rs) ∙ (λ j. mail_acknowledges name ps j || acks_acknowledge name rs j)) i)

    pub kept_pending : Rising ps → NoneCovered rs ps → pending c (kept_ops c es ps rs) ≡ ps
    kept_pending rising none =
        (λ i. map (λ e. e.1) (in_order put_cmp (filter (λ e. not (kept_acknowledged e.0 i)) (kept_puts i))))
        ∙ ap (λ qs. map (λ (e : (ℕ × ℕ) × Put). e.1) (in_order put_cmp qs)) (unfiltered ps none)
        ∙ ap (map (λ (e : (ℕ × ℕ) × Put). e.1)) (in_order_rising ps rising)
        ∙ values_named ps
      where
        unfiltered : (qs : List Put) → AllByRecursion (λ p. list_any (covers (name_of p)) rs ≡ false) qs → filter (λ e. not (list_any (covers e.0) rs)) (named_puts qs) ≡ named_puts qs
        unfiltered [] h = refl
        unfiltered (q ∷ qs) h = λ i. cond (not (h.0 i)) ((name_of q, q) ∷ unfiltered qs h.1 i) (unfiltered qs h.1 i)

    -- the view that is kept beside it
    pub kept_view : (stamp : Option Stamp) (prefix : ℕ) (session : Option Session) → stamp ≡ greatest stamp_cmp (filter_map take_stamp (names es)) → prefix ≡ length (history_at (λ name. find operation_cmp name es) stamp) → session ≡ session_made (history_at (λ name. find operation_cmp name es) stamp) → Rising ps → NoneCovered rs ps
        → seen_as stamp prefix session ps ≡ view c (kept_ops c es ps rs)
    kept_view stamp prefix session seen count made rising none =
        let v : stamp ≡ visible c (kept_ops c es ps rs) = seen ∙ ap (λ (es : List ((Stamp × ℕ) × SessionOp)). greatest stamp_cmp (filter_map take_stamp (names es))) (sym kept_operations) in
        let h : history_at (λ name. find operation_cmp name es) stamp ≡ history c (kept_ops c es ps rs) = λ i. history_at (λ name. find operation_cmp name (sym kept_operations i)) (v i) in
        λ i. record { stamp = v i; prefix = (count ∙ ap length h) i; session = (made ∙ ap session_made h) i; pending = sym (kept_pending rising none) i }

-- ---- what is kept of a client is of clients

log_of_clients : (c : List ℕ) (es : List ((Stamp × ℕ) × SessionOp)) → AreOfClients (of_log c es)
log_of_clients c [] = tt
log_of_clients c (e ∷ es) = (refl, log_of_clients c es)

mail_of_clients : (c : List ℕ) (ps : List Put) → AreOfClients (of_mail c ps)
mail_of_clients c [] = tt
mail_of_clients c (p ∷ ps) = (refl, mail_of_clients c ps)

acks_of_clients : (c : List ℕ) (rs : List Range) → AreOfClients (of_acks c rs)
acks_of_clients c [] = tt
acks_of_clients c (r ∷ rs) = (refl, acks_of_clients c rs)

pub kept_of_clients : (c : List ℕ) (es : List ((Stamp × ℕ) × SessionOp)) (ps : List Put) (rs : List Range) → AreOfClients (kept_ops c es ps rs)
kept_of_clients c es ps rs =
    both_of_clients (of_log c es) (of_mail c ps ++ of_acks c rs) (log_of_clients c es)
    (both_of_clients (of_mail c ps) (of_acks c rs) (mail_of_clients c ps) (acks_of_clients c rs))
