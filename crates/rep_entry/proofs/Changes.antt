-- One operation more of a client: a message, an acknowledgement, or one that need not be taken.
use Rattle.std.proofs.Common.{◌≡◌, ℕ, Bool, true, false, not, cond, ◌&&◌, ◌||◌, ◌==◌, nat_le, if◌then◌else◌, List, [], ◌∷◌, ◌++◌, filter, Option, Some, None, is_some, refl, sym, ap, ◌∙◌, subst, true≢false, append-nil}
use Rattle.std.specs.List.{list_any, cons_option}
use Rattle.std.specs.Ordering.{eq_by_cmp}
use Rattle.std.specs.FinMap.{find}
use Rattle.std.specs.FinMap.Entries.{find-where_key}
use Rattle.std.proofs.lemmas.Map.Views.{tells_apart}
use Rattle.sn_session.specs.declared.change.SessionOp.{SessionOp}
use Rattle.rep_op.specs.declared.op.Stamp.{Stamp}
use Rattle.rep_op.specs.declared.op.Put.{Put}
use Rattle.rep_op.specs.declared.op.Op.TheVariants.{Session as OfSession, Put as OfPut, Ack}
use Rattle.rep_op.specs.Orders.{operation_cmp, name_of, put_cmp}
use Rattle.rep_op.specs.Sets.{same_client, operation_at, put_at, is_acknowledged, retain_at, Same}
use Rattle.rep_model.specs.Keep.{keep}
use Rattle.rep_model.proofs.Lookup.{or_else}
use Rattle.rep_model.proofs.Readers.{put_exact, operation_exact, same_client-true, operation_at_both, put_at_both, is_acknowledged_both, retain_at_both}
use Rattle.rep_model.proofs.Joins.{same_trans, same_sym}
use Rattle.rep_model.proofs.Thin.{thin-same, same_kept}
use Rattle.rep_log.specs.Logs.{visible_in}
use Rattle.rep_log.specs.Mail.{Range, covers, is_uncovered, weave, named_puts, put_by_name, InOne, NoneCovered}
use Rattle.rep_log.specs.Kept.{kept_ops}
use Rattle.rep_log.proofs.Logging.{NoneBelow}
use Rattle.rep_entry.proofs.Rising.{find_weave}
use Rattle.rep_entry.proofs.Client.{itself, kept_operations}
use Rattle.rep_entry.proofs.One.{mail_step, kept_itself}

none_or : {X : Type 0} (a : Option X) → or_else a None ≡ a
none_or None = refl
none_or (Some x) = refl

or_none : (a : Bool) → (a || false) ≡ a
or_none true = refl
or_none false = refl

-- ---- what is left is found

named_filter : (rs : List Range) (ps : List Put) → named_puts (filter (is_uncovered rs) ps) ≡ filter (λ (e : (ℕ × ℕ) × Put). not (list_any (covers e.0) rs)) (named_puts ps)
named_filter rs [] = refl
named_filter rs (p ∷ ps) =
    let rest = named_filter rs ps in
    elim (list_any (covers (name_of p)) rs) as (λ b. named_puts (cond (not b) (p ∷ filter (is_uncovered rs) ps) (filter (is_uncovered rs) ps)) ≡ cond (not b) ((name_of p, p) ∷ filter (λ (e : (ℕ × ℕ) × Put). not (list_any (covers e.0) rs)) (named_puts ps)) (filter (λ (e : (ℕ × ℕ) × Put). not (list_any (covers e.0) rs)) (named_puts ps))) [
      | true ↦ rest
      | false ↦ ap (λ es. (name_of p, p) ∷ es) rest
    ]

pub found_left : (q : ℕ × ℕ) (rs : List Range) (ps : List Put) → put_by_name q (filter (is_uncovered rs) ps) ≡ cond (not (list_any (covers q) rs)) (put_by_name q ps) None
found_left q rs ps = ap (find put_cmp q) (named_filter rs ps)
    ∙ find-where_key put_cmp (λ (n : ℕ × ℕ). not (list_any (covers n) rs)) q (λ n t. ap (λ (n : ℕ × ℕ). not (list_any (covers n) rs)) (sym (put_exact q n t))) (named_puts ps)

pub none_covered : (rs : List Range) (ps : List Put) → NoneCovered rs (filter (is_uncovered rs) ps)
none_covered rs [] = tt
none_covered rs (p ∷ ps) =
    let rest = none_covered rs ps in
    elim (list_any (covers (name_of p)) rs) as (λ b. list_any (covers (name_of p)) rs ≡ b → NoneCovered rs (cond (not b) (p ∷ filter (is_uncovered rs) ps) (filter (is_uncovered rs) ps))) [
      | true ↦ λ _. rest
      | false ↦ λ free. (free, rest)
    ] refl

-- ---- a message more

more_found : (cov same : Bool) (a b : Option Put) (p : Put) → (same ≡ true → (a ≡ None) × (b ≡ None)) → cond (not cov) (or_else a (cond same (Some p) b)) None ≡ cond (not cov) (or_else (cond (not cov) (or_else a b) None) (cond same (Some p) None)) None
more_found true same a b p h = refl
more_found false true a b p h = let e = h refl in ap (λ a. or_else a (Some p)) e.0 ∙ sym (λ i. or_else (or_else (e.0 i) (e.1 i)) (Some p))
more_found false false a b p h = sym (none_or (or_else a b))

skipped : (cov same : Bool) (w : Option Put) (p : Put) → (same ≡ true → cov ≡ false → is_some w ≡ true) → cond (not cov) w None ≡ cond (not cov) (or_else (cond (not cov) w None) (cond same (Some p) None)) None
skipped true same w p h = refl
skipped false same (Some x) p h = refl
skipped false false None p h = refl
skipped false true None p h = absurd (true≢false (sym (h refl refl)))

one_put : (c : List ℕ) (p : Put) (q : ℕ × ℕ) → put_at c (OfPut c p ∷ []) q ≡ cond (eq_by_cmp put_cmp q (name_of p)) (Some p) None
one_put c p q = ap (λ b. find put_cmp q (cons_option (if b then Some (name_of p, p) else None) [])) (itself c)

module _ (c : List ℕ) (es : List ((Stamp × ℕ) × SessionOp)) (stamp : Option Stamp) (visible : stamp ≡ visible_in es) (none_below : NoneBelow stamp es) (p : Put) where
  put_step : (rs : List Range) (ps more : List Put) → ((q : ℕ × ℕ) → put_by_name q more ≡ cond (not (list_any (covers q) rs)) (or_else (put_by_name q ps) (cond (eq_by_cmp put_cmp q (name_of p)) (Some p) None)) None)
      → Same (kept_ops c es more rs) (keep (kept_ops c es ps rs ++ OfPut c p ∷ []))
  put_step rs ps more h = mail_step c es stamp visible none_below ps more rs rs (OfPut c p ∷ []) (refl, tt) refl
      (λ d other. (refl, ap (λ b. cons_option (if b then Some (name_of p, p) else None) []) other, λ q. refl))
      (λ q. sym (or_none (list_any (covers q) rs)))
      (λ q. h q ∙ ap (λ o. cond (not (list_any (covers q) rs)) (or_else (put_by_name q ps) o) None) (sym (one_put c p q)))

  -- a message that is new
  pub put_more : (rs : List Range) (ps ns news : List Put) → ((q : ℕ × ℕ) → InOne q ps ns) → ((q : ℕ × ℕ) → InOne q ps news)
      → ((q : ℕ × ℕ) → put_by_name q news ≡ cond (eq_by_cmp put_cmp q (name_of p)) (Some p) (put_by_name q ns))
      → put_by_name (name_of p) ps ≡ None → put_by_name (name_of p) ns ≡ None
      → Same (kept_ops c es (filter (is_uncovered rs) (weave ps news)) rs) (keep (kept_ops c es (filter (is_uncovered rs) (weave ps ns)) rs ++ OfPut c p ∷ []))
  put_more rs ps ns news apart still is absent fresh = put_step rs (filter (is_uncovered rs) (weave ps ns)) (filter (is_uncovered rs) (weave ps news)) (λ q.
      let cov = list_any (covers q) rs in
      let same = eq_by_cmp put_cmp q (name_of p) in
      found_left q rs (weave ps news)
      ∙ ap (λ o. cond (not cov) o None) (find_weave q ps news (still q) ∙ ap (or_else (put_by_name q ps)) (is q))
      ∙ more_found cov same (put_by_name q ps) (put_by_name q ns) p (λ t. let e = tells_apart put_exact q (name_of p) t in (ap (λ n. put_by_name n ps) e ∙ absent, ap (λ n. put_by_name n ns) e ∙ fresh))
      ∙ ap (λ o. cond (not cov) (or_else o (cond same (Some p) None)) None) (sym (found_left q rs (weave ps ns) ∙ ap (λ o. cond (not cov) o None) (find_weave q ps ns (apart q)))))

  -- a message that is acknowledged, or there
  pub put_skipped : (rs : List Range) (ps : List Put) → (list_any (covers (name_of p)) rs ≡ false → is_some (put_by_name (name_of p) ps) ≡ true)
      → Same (kept_ops c es (filter (is_uncovered rs) ps) rs) (keep (kept_ops c es (filter (is_uncovered rs) ps) rs ++ OfPut c p ∷ []))
  put_skipped rs ps there = put_step rs (filter (is_uncovered rs) ps) (filter (is_uncovered rs) ps) (λ q.
      let cov = list_any (covers q) rs in
      let same = eq_by_cmp put_cmp q (name_of p) in
      found_left q rs ps
      ∙ skipped cov same (put_by_name q ps) p (λ t free. let e = tells_apart put_exact q (name_of p) t in ap (λ n. is_some (put_by_name n ps)) e ∙ there (ap (λ n. list_any (covers n) rs) (sym e) ∙ free))
      ∙ ap (λ o. cond (not cov) (or_else o (cond same (Some p) None)) None) (sym (found_left q rs ps)))

-- ---- acknowledgements more

still_left : (a x : Bool) (w : Option Put) → cond (not (a || x)) w None ≡ cond (not (a || x)) (or_else (cond (not a) w None) None) None
still_left true x w = refl
still_left false true w = refl
still_left false false w = sym (none_or w)

module _ (c : List ℕ) (es : List ((Stamp × ℕ) × SessionOp)) (stamp : Option Stamp) (visible : stamp ≡ visible_in es) (none_below : NoneBelow stamp es) where
  pub ack_more : (rs ranges : List Range) (ps : List Put) (r : Range) → ((q : ℕ × ℕ) → list_any (covers q) ranges ≡ (list_any (covers q) rs || covers q r))
      → Same (kept_ops c es (filter (is_uncovered ranges) ps) ranges) (keep (kept_ops c es (filter (is_uncovered rs) ps) rs ++ Ack c r.0 r.1.0 r.1.1 ∷ []))
  ack_more rs ranges ps r h =
      mail_step c es stamp visible none_below (filter (is_uncovered rs) ps) (filter (is_uncovered ranges) ps) rs ranges (Ack c r.0 r.1.0 r.1.1 ∷ []) (refl, tt) refl
      (λ d other. (refl, refl, λ q. ap (λ b. (b && (q.1 == r.0) && nat_le r.1.0 q.0 && nat_le q.0 r.1.1) || false) other))
      (λ q. h q ∙ ap (λ b. list_any (covers q) rs || b) (sym (ap (λ b. (b && (q.1 == r.0) && nat_le r.1.0 q.0 && nat_le q.0 r.1.1) || false) (itself c) ∙ or_none (covers q r))))
      (λ q. found_left q ranges ps
      ∙ ap (λ b. cond (not b) (put_by_name q ps) None) (h q)
      ∙ still_left (list_any (covers q) rs) (covers q r) (put_by_name q ps)
      ∙ (λ i. cond (not (sym (h q) i)) (or_else (sym (found_left q rs ps) i) None) None))

  -- what is kept keeps itself
  pub keeps_itself : (rs : List Range) (ps : List Put) → NoneCovered rs ps → Same (kept_ops c es ps rs) (keep (kept_ops c es ps rs))
  keeps_itself rs ps none =
      subst (λ S. Same (kept_ops c es ps rs) (keep S)) (append-nil (kept_ops c es ps rs))
      (mail_step c es stamp visible none_below ps ps rs rs [] tt refl (λ d other. (refl, refl, λ q. refl)) (λ q. sym (or_none (list_any (covers q) rs)))
      (λ q. kept_itself rs ps none q ∙ ap (λ o. cond (not (list_any (covers q) rs)) o None) (sym (none_or (put_by_name q ps)))))

  -- ---- a session operation that is there

  absorbed : {X : Type 0} (a b : Option X) → (is_some b ≡ true → is_some a ≡ true) → or_else a b ≡ a
  absorbed (Some x) b h = refl
  absorbed None None h = refl
  absorbed None (Some y) h = absurd (true≢false (sym (h refl)))

  module _ (s : Stamp) (k : ℕ) (x : SessionOp) (ps : List Put) (rs : List Range) (there : is_some (find operation_cmp (s, k) es) ≡ true) where
    found_there : (d : List ℕ) (name : Stamp × ℕ) → is_some (operation_at d (OfSession c s k x ∷ []) name) ≡ true → is_some (operation_at d (kept_ops c es ps rs) name) ≡ true
    found_there d name = elim (same_client d c) as (λ b. same_client d c ≡ b → is_some (find operation_cmp name (cons_option (if b then Some ((s, k), x) else None) [])) ≡ true → is_some (operation_at d (kept_ops c es ps rs) name) ≡ true) [
      | true ↦ λ own. elim (eq_by_cmp operation_cmp name (s, k)) as (λ b. eq_by_cmp operation_cmp name (s, k) ≡ b → is_some (cond b (Some x) None) ≡ true → is_some (operation_at d (kept_ops c es ps rs) name) ≡ true) [
        | true ↦ λ t _. ap (λ y. is_some (operation_at y (kept_ops c es ps rs) name)) (same_client-true d c own)
            ∙ ap (λ entries. is_some (find operation_cmp name entries)) (kept_operations c es ps rs)
            ∙ ap (λ n. is_some (find operation_cmp n es)) (tells_apart operation_exact name (s, k) t) ∙ there
        | false ↦ λ _ e. absurd (true≢false (sym e))
      ] refl
      | false ↦ λ _ e. absurd (true≢false (sym e))
    ] refl

    nothing_more : Same (kept_ops c es ps rs ++ OfSession c s k x ∷ []) (kept_ops c es ps rs)
    nothing_more = record {
      operations_same = λ d name. operation_at_both d (kept_ops c es ps rs) (OfSession c s k x ∷ []) name ∙ absorbed (operation_at d (kept_ops c es ps rs) name) (operation_at d (OfSession c s k x ∷ []) name) (found_there d name);
      puts_same = λ d name. put_at_both d (kept_ops c es ps rs) (OfSession c s k x ∷ []) name ∙ none_or (put_at d (kept_ops c es ps rs) name);
      acknowledgements_same = λ d name. is_acknowledged_both d (kept_ops c es ps rs) (OfSession c s k x ∷ []) name ∙ or_none (is_acknowledged d (kept_ops c es ps rs) name);
      retains_same = λ t name. retain_at_both t (kept_ops c es ps rs) (OfSession c s k x ∷ []) name ∙ none_or (retain_at t (kept_ops c es ps rs) name);
    }

    pub session_skipped : NoneCovered rs ps → Same (kept_ops c es ps rs) (keep (kept_ops c es ps rs ++ OfSession c s k x ∷ []))
    session_skipped none = same_trans (keeps_itself rs ps none) (same_sym (same_kept (kept_ops c es ps rs ++ OfSession c s k x ∷ []) (kept_ops c es ps rs) (thin-same (kept_ops c es ps rs ++ OfSession c s k x ∷ []) (kept_ops c es ps rs) nothing_more)))
