use Rattle.std.proofs.Common.{◌≡◌, ℕ, List, T, None, Some, sym, ap, subst, ◌∙◌}
use Rattle.std.specs.FinMap.{find, put as with, is_sorted}
use Rattle.std.specs.FinMap.Entries.{is_sorted-put}
use Rattle.sn_tables.specs.inner.Tables.{IsGap}
use Rattle.rep_op.specs.declared.op.Put.{Put}
use Rattle.rep_op.specs.Orders.{name_of, put_cmp}
use Rattle.rep_model.proofs.Readers.{put_total}
use Rattle.rep_log.specs.Mail.{named_puts, put_by_name, Rising}
use Rattle.rep_entry.proofs.Names.{named_at}
use Rattle.rep_entry.proofs.Newcomers.{rising_of, with_gap}
use Rattle.rep_entry.proofs.news.News.insert.Goals as goal

pub unreachable-requires : goal.unreachable-requires
unreachable-requires c =
    let p = c.args.put in
    let ps = c.as_slice.result.now in
    let value = c.as_slice.ensures.value in
    let rising = subst Rising (sym value) (rising_of c.self.inside.puts.items c.self.invariant) in
    let found = named_at (name_of p) ps c.in-Ok.field-0 p (c.in-Ok.ensures.place rising).1 in
    some_none (sym found ∙ ap (put_by_name (name_of p)) value ∙ ap (find put_cmp (name_of p)) c.self.view_is ∙ c.requires)
  where
    some_none : {X : Type 0} {x : X} → Some x ≡ None → ⊥
    some_none e = cc

pub invariant_of-self : goal.invariant_of-self
invariant_of-self c =
    let p = c.args.put in
    let ps = c.self.inside.puts.items in
    let value = c.as_slice.ensures.value in
    let rising = subst Rising (sym value) (rising_of ps c.self.invariant) in
    let gap = subst (λ (xs : List Put). IsGap (λ q. put_cmp (name_of q) (name_of p)) xs c.in-Err.at) value (c.in-Err.ensures.place rising).1 in
    let is = ap named_puts c.in_ok-insert-in-Err.ensures.items ∙ with_gap ps c.in-Err.at p gap in
    subst (λ (xs : List ((ℕ × ℕ) × Put)). T (is_sorted put_cmp xs)) (sym is) (is_sorted-put put_cmp put_total (name_of p) p (named_puts ps) c.self.invariant)

pub returns : goal.returns
returns c =
    let p = c.args.put in
    let ps = c.self.inside.puts.items in
    let value = c.as_slice.ensures.value in
    let rising = subst Rising (sym value) (rising_of ps c.self.invariant) in
    let gap = subst (λ (xs : List Put). IsGap (λ q. put_cmp (name_of q) (name_of p)) xs c.in-Err.at) value (c.in-Err.ensures.place rising).1 in
    ap named_puts c.in_ok-insert-in-Err.ensures.items ∙ with_gap ps c.in-Err.at p gap ∙ ap (with put_cmp (name_of p) p) c.self.view_is
