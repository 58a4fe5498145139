use Rattle.std.proofs.Common.{ℕ, ◌≤◌, ◌+◌, ◌∷◌, [], ◌++◌, length, map, vec_len, vec_capacity, sym, ap, ◌∙◌, subst, append-nil, append_assoc, arith}
use Rattle.gw_serve.specs.declared.row.Called.{Called}
use Rattle.gw_serve.proofs.Rows.{none_left}
use Rattle.gw_serve.proofs.row.tell_all.Goals as goal

pub loop-one-init : goal.loop-one-init
loop-one-init g c =
    let is = c.into_iter-one-iterator.ensures.into_iter_gives.0 in (
      ap (λ xs. c.args.taken.now.items ++ map (λ (o : Called). o.taken) xs) is,
      subst (λ (n : ℕ). vec_len c.args.taken.now + n ≤ vec_capacity c.args.taken.now) (sym (ap (λ xs. length xs) is)) c.requires,
    )

pub push_reserved-requires : goal.push_reserved-requires
push_reserved-requires g c =
    let long = ap (λ xs. length xs) c.in-Some.ensures.steps.0 in
    let room = c.loop-one.invariant.1 in
    omega (arith, long, room)

pub loop-one-preserved : goal.loop-one-preserved
loop-one-preserved g c =
    let steps = c.in-Some.ensures.steps.0 in
    let before = c.loop-one.taken.items in
    let more = map (λ (o : Called). o.taken) c.next.new.self.rest.items in
    let long = ap (λ xs. length xs) steps in
    let room = c.loop-one.invariant.1 in
    let one = c.push_reserved.ensures.len in
    let wide = c.push_reserved.ensures.capacity in (
      ap (λ xs. xs ++ more) c.push_reserved.ensures.items ∙ append_assoc before (c.in-Some.one.taken ∷ []) more
          ∙ ap (λ xs. before ++ map (λ (o : Called). o.taken) xs) (sym steps) ∙ c.loop-one.invariant.0,
      omega (arith, long, room, one, wide),
    )

pub returns : goal.returns
returns g c =
    let left = none_left c.loop-one.one-iterator.rest.len c.loop-one.one-iterator.rest.items c.in-None.ensures.steps.0 c.loop-one.one-iterator.rest.ok.0 in
    sym (append-nil c.loop-one.taken.items) ∙ ap (λ xs. c.loop-one.taken.items ++ map (λ (o : Called). o.taken) xs) (sym left) ∙ c.loop-one.invariant.0
