-- The messages that a delta brings, under their names.
use Rattle.std.proofs.Common.{◌≡◌, ℕ, Bool, true, false, cond, ◌&&◌, ◌||◌, List, [], ◌∷◌, filter, Option, Some, None, is_some, IsTrue, T, refl, sym, ap, ◌∙◌, subst, true≢false, Ordering, Less, Equal, Greater}
use Rattle.std.specs.List.{AllByRecursion, list_any}
use Rattle.std.specs.Ordering.{is_lt, is_eq, eq_by_cmp}
use Rattle.std.specs.Cmp.{tied_itself}
use Rattle.std.specs.FinMap.{find, put, is_sorted}
use Rattle.std.specs.FinMap.Entries.{below_all, by_order, is_sorted-put, find-put}
use Rattle.std.proofs.lemmas.Map.Views.{tells_apart}
use Rattle.rep_op.specs.declared.op.Put.{Put}
use Rattle.rep_op.specs.Orders.{name_of, put_cmp}
use Rattle.rep_op.specs.WellMade.{is_put}
use Rattle.rep_model.specs.Views.{in_order}
use Rattle.rep_model.proofs.Lookup.{or_else}
use Rattle.rep_model.proofs.Readers.{put_total, put_exact}
use Rattle.rep_shared.proofs.Flat.{all_put}
use Rattle.rep_entry.specs.declared.span.Span.{Span}
use Rattle.rep_log.specs.Mail.{Range, covers, Above, Rising, NoneCovered, named_puts, put_by_name, InOne, weave}
use Rattle.rep_entry.specs.Spans.{IsFreeOutside}
use Rattle.rep_log.specs.Origins.{ranges_in, origins_after, ranges_on}
use Rattle.rep_entry.specs.Entries.{AreUnderNames, AreMade, NoneCoveredBelow, messages}
use Rattle.rep_entry.proofs.Rising.{IsApart, AreApart, weave_all}

first : (a b : Bool) → T (a && b) → T a
first true b p = tt
first false b p = p

second : (a b : Bool) → T (a && b) → T b
second true b p = p
second false b p = absurd p

less : (r : Ordering) → T (is_lt r) → r ≡ Less
less Less p = refl
less Equal p = absurd p
less Greater p = absurd p

some_none : {X P : Type 0} (x : X) → Some x ≡ None → P
some_none x e = cc

pub ranges_same : (origins : List (ℕ × List (ℕ × ℕ))) (acks : Option (List (ℕ × List (ℕ × ℕ)))) → ranges_in (origins_after origins acks) ≡ ranges_on (ranges_in origins) acks
ranges_same origins None = refl
ranges_same origins (Some more) = refl

-- ---- what stands under a name

named_messages : (es : List ((ℕ × ℕ) × Put)) → AreUnderNames es → named_puts (messages es) ≡ es
named_messages [] h = refl
named_messages (e ∷ es) h = λ i. (sym h.0 i, e.1) ∷ named_messages es h.1 i

pub found_message : (q : ℕ × ℕ) (es : List ((ℕ × ℕ) × Put)) → AreUnderNames es → put_by_name q (messages es) ≡ find put_cmp q es
found_message q es h = ap (find put_cmp q) (named_messages es h)

pub made_messages : (es : List ((ℕ × ℕ) × Put)) → AllByRecursion (λ (e : (ℕ × ℕ) × Put). IsTrue (is_put e.1)) es → AreMade (messages es)
made_messages [] h = tt
made_messages (e ∷ es) h = (h.0, made_messages es h.1)

above_messages : (k : ℕ × ℕ) (p : Put) (es : List ((ℕ × ℕ) × Put)) → k ≡ name_of p → AreUnderNames es → T (below_all put_cmp k es) → Above p (messages es)
above_messages k p [] is h b = tt
above_messages k p (e ∷ es) is h b = (
  (λ i. put_cmp (sym is i) (sym h.0 i)) ∙ less (put_cmp k e.0) (first (is_lt (put_cmp k e.0)) (below_all put_cmp k es) b),
  above_messages k p es is h.1 (second (is_lt (put_cmp k e.0)) (below_all put_cmp k es) b),
)

pub rising_messages : (es : List ((ℕ × ℕ) × Put)) → AreUnderNames es → T (is_sorted put_cmp es) → Rising (messages es)
rising_messages [] h s = tt
rising_messages (e ∷ es) h s = (
  above_messages e.0 e.1 es h.0 h.1 (first (below_all put_cmp e.0 es) (is_sorted put_cmp es) s),
  rising_messages es h.1 (second (below_all put_cmp e.0 es) (is_sorted put_cmp es) s),
)

-- ---- apart from those that wait

found_among : (p : Put) (ps xs : List Put) → AllByRecursion (λ x. is_some (put_by_name (name_of x) ps) ≡ true) xs → AllByRecursion (λ x. is_some (put_by_name (name_of x) (p ∷ ps)) ≡ true) xs
found_among p ps [] h = tt
found_among p ps (x ∷ xs) h = (
  elim (eq_by_cmp put_cmp (name_of x) (name_of p)) as (λ b. is_some (cond b (Some p) (put_by_name (name_of x) ps)) ≡ true) [ true ↦ refl | false ↦ h.0 ],
  found_among p ps xs h.1,
)

found_themselves : (ps : List Put) → AllByRecursion (λ p. is_some (put_by_name (name_of p) ps) ≡ true) ps
found_themselves [] = tt
found_themselves (p ∷ ps) = (
  ap (λ r. is_some (cond (is_eq r) (Some p) (put_by_name (name_of p) ps))) (tied_itself put_total (name_of p)),
  found_among p ps ps (found_themselves ps),
)

none_apart : (p : Put) (ns : List Put) → put_by_name (name_of p) ns ≡ None → IsApart p ns
none_apart p [] h = tt
none_apart p (n ∷ ns) h = elim (eq_by_cmp put_cmp (name_of p) (name_of n)) as (λ b. eq_by_cmp put_cmp (name_of p) (name_of n) ≡ b → cond b (Some n) (put_by_name (name_of p) ns) ≡ None → IsApart p (n ∷ ns)) [
  | true ↦ λ _ e. some_none n e
  | false ↦ λ t e. (t, none_apart p ns e)
] refl h

pub are_apart : (ps ns : List Put) → ((q : ℕ × ℕ) → InOne q ps ns) → AreApart ps ns
are_apart ps ns h = go ps (found_themselves ps)
  where
    go : (xs : List Put) → AllByRecursion (λ x. is_some (put_by_name (name_of x) ps) ≡ true) xs → AreApart xs ns
    go [] k = tt
    go (x ∷ xs) k = (none_apart x ns (h (name_of x) k.0), go xs k.1)

rising_above : (q : Put) (test : Put → Bool) (ps : List Put) → Above q ps → Above q (filter test ps)
rising_above q test [] h = tt
rising_above q test (p ∷ ps) h = elim (test p) as (λ b. Above q (cond b (p ∷ filter test ps) (filter test ps))) [ true ↦ (h.0, rising_above q test ps h.1) | false ↦ rising_above q test ps h.1 ]

pub rising_filter : (test : Put → Bool) (ps : List Put) → Rising ps → Rising (filter test ps)
rising_filter test [] h = tt
rising_filter test (p ∷ ps) h = elim (test p) as (λ b. Rising (cond b (p ∷ filter test ps) (filter test ps))) [ true ↦ (rising_above p test ps h.0, rising_filter test ps h.1) | false ↦ rising_filter test ps h.1 ]

-- nothing new
pub weave_none : (ps : List Put) → weave ps [] ≡ ps
weave_none [] = refl
weave_none (p ∷ ps) = ap (λ rest. p ∷ rest) (weave_none ps)

-- ---- one message more

pub in_weave : (cov : Bool) (x y : Option Put) → ((cov || is_some x) || is_some y) ≡ true → cov ≡ false → is_some (or_else x y) ≡ true
in_weave true x y h e = absurd (true≢false e)
in_weave false (Some p) y h e = refl
in_weave false None y h e = h

no_some : {X : Type 0} (o : Option X) → is_some o ≡ false → o ≡ None
no_some None e = refl
no_some (Some x) e = absurd (true≢false e)

pub not_covered : (cov : Bool) (x y : Option Put) → ((cov || is_some x) || is_some y) ≡ false → cov ≡ false
not_covered true x y e = absurd (true≢false e)
not_covered false x y e = refl

none_messages : (rs : List Range) (es : List ((ℕ × ℕ) × Put)) → NoneCoveredBelow rs es → NoneCovered rs (messages es)
none_messages rs [] h = tt
none_messages rs (e ∷ es) h = (h.0, none_messages rs es h.1)

-- none that waits and none that is new is acknowledged
pub none_woven : (rs : List Range) (ps : List Put) (es : List ((ℕ × ℕ) × Put)) → NoneCovered rs ps → NoneCoveredBelow rs es → NoneCovered rs (weave ps (messages es))
none_woven rs ps es waits comes = weave_all (λ p. list_any (covers (name_of p)) rs ≡ false) ps (messages es) waits (none_messages rs es comes)

pub not_there : (cov : Bool) (x y : Option Put) → ((cov || is_some x) || is_some y) ≡ false → (x ≡ None) × (y ≡ None)
not_there true x y e = absurd (true≢false e)
not_there false (Some p) y e = absurd (true≢false e)
not_there false None y e = (refl, no_some y e)

module _ (ps : List Put) (es new : List ((ℕ × ℕ) × Put)) (p : Put) (under : AreUnderNames es) (apart : (q : ℕ × ℕ) → InOne q ps (messages es)) (absent : put_by_name (name_of p) ps ≡ None) (is : new ≡ put put_cmp (name_of p) p es) where
  pub under_more : AreUnderNames new
  under_more = subst AreUnderNames (sym is) (all_put put_cmp put_exact (λ k v. k ≡ name_of v) (name_of p) p es refl under)

  pub sorted_more : T (is_sorted put_cmp es) → T (is_sorted put_cmp new)
  sorted_more h = subst (λ es. T (is_sorted put_cmp es)) (sym is) (is_sorted-put put_cmp put_total (name_of p) p es h)

  pub made_more : IsTrue (is_put p) → AllByRecursion (λ (e : (ℕ × ℕ) × Put). IsTrue (is_put e.1)) es → AllByRecursion (λ (e : (ℕ × ℕ) × Put). IsTrue (is_put e.1)) new
  made_more own h = subst (AllByRecursion (λ (e : (ℕ × ℕ) × Put). IsTrue (is_put e.1))) (sym is) (all_put put_cmp put_exact (λ k v. IsTrue (is_put v)) (name_of p) p es own h)

  pub none_more : (rs : List Range) → list_any (covers (name_of p)) rs ≡ false → NoneCoveredBelow rs es → NoneCoveredBelow rs new
  none_more rs own h = subst (NoneCoveredBelow rs) (sym is) (all_put put_cmp put_exact (λ k v. list_any (covers (name_of v)) rs ≡ false) (name_of p) p es own h)

  pub free_more : (span : Span) (rs : List Range) → list_any (covers (name_of p)) rs ≡ false → AllByRecursion (λ (e : (ℕ × ℕ) × Put). IsFreeOutside span rs e.1) es → AllByRecursion (λ (e : (ℕ × ℕ) × Put). IsFreeOutside span rs e.1) new
  free_more span rs own h = subst (AllByRecursion (λ (e : (ℕ × ℕ) × Put). IsFreeOutside span rs e.1)) (sym is) (all_put put_cmp put_exact (λ k v. IsFreeOutside span rs v) (name_of p) p es (λ _. own) h)

  pub found_more : (q : ℕ × ℕ) → put_by_name q (messages new) ≡ cond (eq_by_cmp put_cmp q (name_of p)) (Some p) (put_by_name q (messages es))
  found_more q = found_message q new under_more ∙ ap (find put_cmp q) is ∙ find-put put_cmp put_total q (name_of p) p es ∙ ap (cond (eq_by_cmp put_cmp q (name_of p)) (Some p)) (sym (found_message q es under))

  pub apart_more : (q : ℕ × ℕ) → InOne q ps (messages new)
  apart_more q there = found_more q ∙ elim (eq_by_cmp put_cmp q (name_of p)) as (λ b. eq_by_cmp put_cmp q (name_of p) ≡ b → cond b (Some p) (put_by_name q (messages es)) ≡ None) [
    | true ↦ λ t. absurd (true≢false (sym there ∙ ap (λ n. is_some (put_by_name n ps)) (tells_apart put_exact q (name_of p) t) ∙ ap is_some absent))
    | false ↦ λ _. apart q there
  ] refl

-- ---- entries in order

pub in_order_sorted : {K X : Type 0} (R : K → K → Ordering) (es : List (K × X)) → T (is_sorted R es) → in_order R es ≡ es
in_order_sorted R [] h = refl
in_order_sorted R (e ∷ es) h =
    ap (put R e.0 e.1) (in_order_sorted R es (second (below_all R e.0 es) (is_sorted R es) h))
    ∙ front es (first (below_all R e.0 es) (is_sorted R es) h)
  where
    front : (es : List (_ × _)) → T (below_all R e.0 es) → put R e.0 e.1 es ≡ e ∷ es
    front [] b = refl
    front (f ∷ es) b = ap (λ r. by_order r ((e.0, e.1) ∷ f ∷ es) ((f.0, e.1) ∷ es) (f ∷ put R e.0 e.1 es)) (less (R e.0 f.0) (first (is_lt (R e.0 f.0)) (below_all R e.0 es) b))

pub among_named : (q : ℕ × ℕ) (ps : List Put) → list_any (λ (p : Put). is_eq (put_cmp q (name_of p))) ps ≡ is_some (put_by_name q ps)
among_named q [] = refl
among_named q (p ∷ ps) = elim (is_eq (put_cmp q (name_of p))) as (λ b. (b || list_any (λ (p : Put). is_eq (put_cmp q (name_of p))) ps) ≡ is_some (cond b (Some p) (put_by_name q ps))) [ true ↦ refl | false ↦ among_named q ps ]
