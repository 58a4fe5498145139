use Rattle.std.proofs.Common.{◌≡◌, ℕ, Bor, Option, Some, None, is_some, refl, sym, ap, subst, ◌∙◌}
use Rattle.std.specs.Option.{option_copied}
use Rattle.std.specs.FinMap.{find}
use Rattle.rep_op.specs.declared.op.Put.{Put}
use Rattle.rep_op.specs.Orders.{put_cmp}
use Rattle.rep_log.specs.Mail.{put_by_name, Rising}
use Rattle.rep_entry.proofs.Newcomers.{rising_of}
use Rattle.rep_entry.proofs.news.News.has.Goals as goal

copied_some : (r : Option (Bor Put)) → is_some r ≡ is_some (option_copied r)
copied_some None = refl
copied_some (Some b) = refl

pub returns : goal.returns
returns c =
    let ps = c.self.inside.puts.items in
    let name : ℕ × ℕ = (c.args.seq, c.args.origin) in
    let rising = subst Rising (sym c.as_slice.ensures.value) (rising_of ps c.self.invariant) in
    let found = c.find_put.ensures rising ∙ ap (put_by_name name) c.as_slice.ensures.value ∙ ap (find put_cmp name) c.self.view_is in
    c.is_some.ensures ∙ copied_some c.find_put.result ∙ ap is_some found
