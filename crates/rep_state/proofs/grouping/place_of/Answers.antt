use Rattle.std.proofs.Common.{◌≡◌, ◌-◌, ℕ, List, length, Equal, Greater, sym, ap, ◌∙◌, arith}
use Rattle.std.specs.Option.{option_copied}
use Rattle.rep_op.specs.Orders.{client_cmp}
use Rattle.rep_model.proofs.Readers.{client_total, client_exact}
use Rattle.rep_entry.specs.declared.fresh.Fresh.{Fresh}
use Rattle.rep_log.proofs.Sorting.{none_last}
use Rattle.rep_state.proofs.Gathering.{gap_behind, at_last, at_in}
use Rattle.rep_state.proofs.grouping.place_of.Goals as goal

pub returns-in-None : goal.returns-in-None
returns-in-None c =
    let q = c.args.client.now in
    (omega arith, none_last (λ (g : List ℕ × Fresh). client_cmp g.0 q ≡ Greater) c.args.groups.now (sym c.last.ensures.value ∙ ap option_copied c.in-None.is))

pub returns-in-Less : goal.returns-in-Less
returns-in-Less c =
    let q = c.args.client.now in
    (omega arith, gap_behind client_cmp client_total q c.args.groups.now c.in-Some.last.now c.requires (sym c.last.ensures.value ∙ ap option_copied c.in-Some.is) (sym c.cmp.ensures ∙ c.in-Less.is))

pub returns-in-Equal : goal.returns-in-Equal
returns-in-Equal c =
    let q = c.args.client.now in
    let gs = c.args.groups.now in
    let equal : client_cmp c.in-Some.last.now.0 q ≡ Equal = sym c.cmp.ensures ∙ c.in-Equal.is in
    let at = at_last client_cmp client_total q gs c.in-Some.last.now c.requires (sym c.last.ensures.value ∙ ap option_copied c.in-Some.is) (client_exact c.in-Some.last.now.0 q equal) equal in
    (at_in (λ (g : List ℕ × Fresh). client_cmp g.0 q) gs (length gs - 1) at, at)
