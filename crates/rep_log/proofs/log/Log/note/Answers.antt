use Rattle.std.proofs.Common.{◌≡◌, ℕ, ◌==◌, ◌++◌, ◌∷◌, List, Some, None, T, false, not, length, sym, ap, subst, ◌∙◌, arith}
use Rattle.std.specs.FinMap.{find, is_sorted}
use Rattle.std.specs.FinMap.Entries.{is_sorted-put, is_sorted-where_key}
use Rattle.std.proofs.lemmas.Bool.Decides.{nat_tests}
use Rattle.sn_session.specs.declared.change.SessionOp.{SessionOp}
use Rattle.rep_op.specs.declared.op.Stamp.{Stamp}
use Rattle.rep_op.specs.Orders.{operation_cmp}
use Rattle.rep_model.specs.Keep.{is_below}
use Rattle.rep_model.specs.Views.{session_made}
use Rattle.rep_model.proofs.Readers.{operation_total}
use Rattle.rep_log.specs.Logs.{history_in, all_in_log, IsFoldedOf, IsKeptIn}
use Rattle.rep_shared.specs.inner.Replays.{IsReplayed}
use Rattle.rep_log.proofs.Logging.{kept_below, kept_take, kept_other, folded_take, folded_other, grows, replayed_grown, gapless_short}
use Rattle.rep_log.proofs.log.Log.note.Goals as goal

pub returns-then-is_below-clause-kept : goal.returns-then-is_below-clause-kept
returns-then-is_below-clause-kept c =
    let es = all_in_log c.args.known.now c.args.self.now in
    kept_below c.args.name.0 c.args.name.1 c.args.change es c.args.self.now.stamp c.requires.folded.visible c.requires.folded.none_below (sym c.is_below.ensures ∙ c.if-is_below.true)

pub take_up-requires : goal.take_up-requires
take_up-requires c =
    let es = all_in_log c.args.known.now c.args.self.now in
    subst (λ (es : List ((Stamp × ℕ) × SessionOp)). T (is_sorted operation_cmp es)) (sym c.in_ok-enter.ensures.entered) (is_sorted-put operation_cmp operation_total c.args.name c.args.change es c.requires.ordered)

pub returns-then-name-eq0-clause-folded : goal.returns-then-name-eq0-clause-folded
returns-then-name-eq0-clause-folded c =
    let known = c.args.known.now in
    let old = c.args.self.now in
    let es = all_in_log known old in
    let log = c.enter.new.self in
    let seen = c.in_ok-enter.ensures.seen in
    let high = sym c.is_below.ensures ∙ c.if-is_below.false in
    let new = c.take_up.new.self in
    let up = c.in_ok-take_up.ensures in
    subst (λ stamp. IsFoldedOf stamp new.prefix new.session (all_in_log known new)) (sym up.stamp)
    (folded_take c.args.name.0 c.args.name.1 c.args.change es (all_in_log known log) old.stamp c.requires.folded.visible c.requires.folded.none_below high c.in_ok-enter.ensures.entered
    (all_in_log known new) c.if-name-eq0.true up.kept new.prefix new.session up.prefix up.session)

pub returns-then-name-eq0-clause-ordered : goal.returns-then-name-eq0-clause-ordered
returns-then-name-eq0-clause-ordered c =
    let known = c.args.known.now in
    let es = all_in_log known c.args.self.now in
    let entered = subst (λ (es : List ((Stamp × ℕ) × SessionOp)). T (is_sorted operation_cmp es)) (sym c.in_ok-enter.ensures.entered) (is_sorted-put operation_cmp operation_total c.args.name c.args.change es c.requires.ordered) in
    subst (λ (es : List ((Stamp × ℕ) × SessionOp)). T (is_sorted operation_cmp es)) (sym c.in_ok-take_up.ensures.kept)
    (is_sorted-where_key operation_cmp (λ (n : Stamp × ℕ). not (is_below n.0 (Some c.args.name.0))) (all_in_log known c.enter.new.self) entered)

pub returns-then-name-eq0-clause-kept : goal.returns-then-name-eq0-clause-kept
returns-then-name-eq0-clause-kept c =
    let known = c.args.known.now in
    let old = c.args.self.now in
    let es = all_in_log known old in
    let log = c.enter.new.self in
    let seen = c.in_ok-enter.ensures.seen in
    let high = sym c.is_below.ensures ∙ c.if-is_below.false in
    let new = c.take_up.new.self in
    let up = c.in_ok-take_up.ensures in
    subst (IsKeptIn ((c.args.name, c.args.change) ∷ es) (all_in_log known new)) (sym up.stamp)
    (kept_take c.args.name.0 c.args.name.1 c.args.change es (all_in_log known log) old.stamp c.requires.folded.visible c.requires.folded.none_below high c.in_ok-enter.ensures.entered
    (all_in_log known new) c.if-name-eq0.true up.kept)

pub returns-in_default-clause-folded : goal.returns-in_default-clause-folded
returns-in_default-clause-folded c =
    let known = c.args.known.now in
    let old = c.args.self.now in
    let es = all_in_log known old in
    let log = c.enter.new.self in
    let seen = c.in_ok-enter.ensures.seen in
    let high = sym c.is_below.ensures ∙ c.if-is_below.false in
    let later : (c.args.name.1 == 0) ≡ false = grind (arith, nat_tests, c.if-name-eq0.false) in
    let none : old.stamp ≡ None = sym seen.0 ∙ c.in_default.is in
    let same : history_in es old.stamp ≡ history_in (all_in_log known log) old.stamp = ap (history_in es) none ∙ ap (history_in (all_in_log known log)) (sym none) in
    subst (λ stamp. IsFoldedOf stamp log.prefix log.session (all_in_log known log)) (sym seen.0)
    (folded_other c.args.name.0 c.args.name.1 c.args.change es (all_in_log known log) old.stamp c.requires.folded.visible c.requires.folded.none_below high c.in_ok-enter.ensures.entered
    later log.prefix log.session (seen.1 ∙ c.requires.folded.prefix ∙ ap length same) (seen.2 ∙ c.requires.folded.session ∙ ap session_made same))

pub returns-in_default-clause-ordered : goal.returns-in_default-clause-ordered
returns-in_default-clause-ordered c =
    let es = all_in_log c.args.known.now c.args.self.now in
    subst (λ (es : List ((Stamp × ℕ) × SessionOp)). T (is_sorted operation_cmp es)) (sym c.in_ok-enter.ensures.entered) (is_sorted-put operation_cmp operation_total c.args.name c.args.change es c.requires.ordered)

pub returns-in_default-clause-kept : goal.returns-in_default-clause-kept
returns-in_default-clause-kept c =
    let known = c.args.known.now in
    let old = c.args.self.now in
    let es = all_in_log known old in
    let log = c.enter.new.self in
    let seen = c.in_ok-enter.ensures.seen in
    let high = sym c.is_below.ensures ∙ c.if-is_below.false in
    let later : (c.args.name.1 == 0) ≡ false = grind (arith, nat_tests, c.if-name-eq0.false) in
    subst (IsKeptIn ((c.args.name, c.args.change) ∷ es) (all_in_log known log)) (sym seen.0)
    (kept_other c.args.name.0 c.args.name.1 c.args.change es (all_in_log known log) old.stamp c.requires.folded.visible c.requires.folded.none_below high c.in_ok-enter.ensures.entered later)

pub go_on-requires-clause-replayed : goal.go_on-requires-clause-replayed
go_on-requires-clause-replayed c =
    let known = c.args.known.now in
    let old = c.args.self.now in
    let es = all_in_log known old in
    let log = c.enter.new.self in
    let seen = c.in_ok-enter.ensures.seen in
    let high = sym c.is_below.ensures ∙ c.if-is_below.false in
    let stamp = c.in-Some.seen in
    let is : c.left.result.now ++ c.as_slice.result.now ≡ all_in_log known log = λ i. c.left.ensures.items i ++ c.as_slice.ensures.items i in
    let at = λ (k : ℕ). find operation_cmp (stamp, k) es in
    let at_more = λ (k : ℕ). find operation_cmp (stamp, k) (all_in_log known log) in
    let as_it_was : old.stamp ≡ Some stamp = sym seen.0 ∙ c.in-Some.is in
    let count = seen.1 ∙ c.requires.folded.prefix ∙ ap (λ v. length (history_in es v)) as_it_was in
    let made = seen.2 ∙ c.requires.folded.session ∙ ap (λ v. session_made (history_in es v)) as_it_was in
    let short = gapless_short at 256 0 in (
      omega (arith, count, short),
      subst (λ (xs : List ((Stamp × ℕ) × SessionOp)). IsReplayed (λ k. find operation_cmp (stamp, k) xs) c.take-session.result log.prefix) (sym is)
          (replayed_grown at at_more (grows c.args.name.0 c.args.name.1 c.args.change es (all_in_log known log) old.stamp c.requires.folded.visible c.requires.folded.none_below high c.in_ok-enter.ensures.entered c.requires.fresh stamp)
          c.take-session.result log.prefix count (c.take-session.ensures.value ∙ made)),
    )

pub returns-clause-folded : goal.returns-clause-folded
returns-clause-folded c =
    let known = c.args.known.now in
    let old = c.args.self.now in
    let es = all_in_log known old in
    let log = c.enter.new.self in
    let seen = c.in_ok-enter.ensures.seen in
    let high = sym c.is_below.ensures ∙ c.if-is_below.false in
    let later : (c.args.name.1 == 0) ≡ false = grind (arith, nat_tests, c.if-name-eq0.false) in
    let is : c.left.result.now ++ c.as_slice.result.now ≡ all_in_log known log = λ i. c.left.ensures.items i ++ c.as_slice.ensures.items i in
    let stamp : Some c.in-Some.seen ≡ old.stamp = sym c.in-Some.is ∙ seen.0 in
    rw c.replace.ensures.after
    (subst (λ stamp. IsFoldedOf stamp c.in_ok-prefix.prefix c.in_ok-prefix.session (all_in_log known log)) (sym seen.0)
    (folded_other c.args.name.0 c.args.name.1 c.args.change es (all_in_log known log) old.stamp c.requires.folded.visible c.requires.folded.none_below high c.in_ok-enter.ensures.entered
    later c.in_ok-prefix.prefix c.in_ok-prefix.session
    (c.in_ok-prefix.ensures.prefix ∙ (λ i. length (history_in (is i) (stamp i))))
    (c.in_ok-prefix.ensures.session ∙ (λ i. session_made (history_in (is i) (stamp i))))))

pub returns-clause-ordered : goal.returns-clause-ordered
returns-clause-ordered c =
    let es = all_in_log c.args.known.now c.args.self.now in
    subst (λ (es : List ((Stamp × ℕ) × SessionOp)). T (is_sorted operation_cmp es)) (sym c.in_ok-enter.ensures.entered) (is_sorted-put operation_cmp operation_total c.args.name c.args.change es c.requires.ordered)

pub returns-clause-kept : goal.returns-clause-kept
returns-clause-kept c =
    let known = c.args.known.now in
    let old = c.args.self.now in
    let es = all_in_log known old in
    let log = c.enter.new.self in
    let seen = c.in_ok-enter.ensures.seen in
    let high = sym c.is_below.ensures ∙ c.if-is_below.false in
    let later : (c.args.name.1 == 0) ≡ false = grind (arith, nat_tests, c.if-name-eq0.false) in
    subst (IsKeptIn ((c.args.name, c.args.change) ∷ es) (all_in_log known log)) (sym seen.0)
    (kept_other c.args.name.0 c.args.name.1 c.args.change es (all_in_log known log) old.stamp c.requires.folded.visible c.requires.folded.none_below high c.in_ok-enter.ensures.entered later)
