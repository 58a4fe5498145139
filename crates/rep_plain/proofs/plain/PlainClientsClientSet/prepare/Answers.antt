use Rattle.std.proofs.Common.{◌≡◌, ℕ, ◌+◌, List, ◌++◌, true, not, Some, refl, sym, ap, subst, ◌∙◌}
use Rattle.rep_op.specs.declared.op.Op.{Op}
use Rattle.rep_op.specs.Orders.{is_of_client, AreOfClients}
use Rattle.rep_model.specs.Taking.{AllAgree, Fits}
use Rattle.rep_model.specs.Limits.{first_passed}
use Rattle.rep_model.specs.Keep.{IsKeptOf}
use Rattle.rep_shared.specs.Rows.{flat, rows_with, CanGoBack}
use Rattle.rep_shared.specs.inner.Rows.{count_new}
use Rattle.rep_plain.specs.inner.Rows.{IsGrown}
use Rattle.rep_plain.specs.Tables.{rows_of, HaveRoom}
use Rattle.rep_plain.specs.inner.Tables.{is_op_there, passed_by}
use Rattle.rep_shared.proofs.Flat.{rows_moved, all_filter}
use Rattle.rep_shared.proofs.Kept.{rows_of_clients}
use Rattle.rep_plain.proofs.Found.{table_rows}
use Rattle.rep_plain.proofs.Taking.{kept_same}
use Rattle.rep_plain.proofs.Moves.{roomier_itself}
use Rattle.rep_plain.proofs.Prepared.{are_fresh, same_after, first_passed_both, counted_after, fresh_fit}
use Rattle.rep_plain.proofs.plain.PlainClientsClientSet.prepare.Goals as goal

pub news-requires-clause-rows : goal.news-requires-clause-rows
news-requires-clause-rows c = table_rows c.self.inside.table.entries c.self.inside.named c.self.invariant

pub grown-requires : goal.grown-requires
grown-requires c =
    let K = flat (rows_of c.self.inside.table.entries) in
    subst AreOfClients (sym c.in_ok-news.ensures.news) (all_filter (λ op. is_of_client op ≡ true) (λ op. not (is_op_there K op)) c.args.ops.now c.requires.clients)

pub returns-in-Some-clause-fault : goal.returns-in-Some-clause-fault
returns-in-Some-clause-fault c =
    let es = c.self.inside.table.entries in
    let n = c.self.inside.named in
    let t = c.self.invariant in
    let D = c.args.ops.now in
    let N = c.in_ok-news.news.items in
    let fs = c.in_ok-fresh.fresh.items in
    let K = flat (rows_of es) in
    let news = c.in_ok-news.ensures.news in
    let g : IsGrown (rows_of es) N (rows_of fs) = subst (IsGrown (rows_of es) N) (sym c.in_ok-fresh.ensures.rows) c.in_ok-groups.ensures in
    let sorted = c.in_ok-fresh.ensures.sorted in
    let worked = c.in_ok-fresh.ensures.worked_out in
    let new = c.count_new.ensures ∙ ap (λ fs. count_new (rows_of es) (rows_of fs)) c.as_slice.ensures.value in
    let m = n + c.count_new.result in
    let passed : passed_by m fs ≡ first_passed (K ++ D) = first_passed_both es n t D c.requires.made c.requires.clients N news fs g sorted worked m (ap (λ k. n + k) new) (roomier_itself es) in
    let found = c.passed.ensures ∙ ap (passed_by m) c.as_slice-2.ensures.value in
    let agree : AllAgree K D = c.in_ok-news.ensures.agree in
    subst (λ K. AllAgree K D × (first_passed (K ++ D) ≡ Some c.in-Some.limit)) (ap flat c.self.view_is) (agree, sym passed ∙ sym found ∙ c.in-Some.is)

pub invariant_of-result : goal.invariant_of-result
invariant_of-result c =
    let es = c.self.inside.table.entries in
    let n = c.self.inside.named in
    let t = c.self.invariant in
    let D = c.args.ops.now in
    let N = c.in_ok-news.news.items in
    let fs = c.in_ok-fresh.fresh.items in
    let K = flat (rows_of es) in
    let news = c.in_ok-news.ensures.news in
    let g : IsGrown (rows_of es) N (rows_of fs) = subst (IsGrown (rows_of es) N) (sym c.in_ok-fresh.ensures.rows) c.in_ok-groups.ensures in
    let sorted = c.in_ok-fresh.ensures.sorted in
    let worked = c.in_ok-fresh.ensures.worked_out in
    let new = c.count_new.ensures ∙ ap (λ fs. count_new (rows_of es) (rows_of fs)) c.as_slice.ensures.value in
    let m = n + c.count_new.result in
    let passed : passed_by m fs ≡ first_passed (K ++ D) = first_passed_both es n t D c.requires.made c.requires.clients N news fs g sorted worked m (ap (λ k. n + k) new) (roomier_itself es) in
    let found = c.passed.ensures ∙ ap (passed_by m) c.as_slice-2.ensures.value in
    fresh_fit m fs (are_fresh es n t D c.requires.made c.requires.clients N news fs g sorted worked) (sym found ∙ c.in_default.is)

pub returns-clause-fits : goal.returns-clause-fits
returns-clause-fits c =
    let es = c.self.inside.table.entries in
    let n = c.self.inside.named in
    let t = c.self.invariant in
    let D = c.args.ops.now in
    let N = c.in_ok-news.news.items in
    let fs = c.in_ok-fresh.fresh.items in
    let K = flat (rows_of es) in
    let news = c.in_ok-news.ensures.news in
    let g : IsGrown (rows_of es) N (rows_of fs) = subst (IsGrown (rows_of es) N) (sym c.in_ok-fresh.ensures.rows) c.in_ok-groups.ensures in
    let sorted = c.in_ok-fresh.ensures.sorted in
    let worked = c.in_ok-fresh.ensures.worked_out in
    let new = c.count_new.ensures ∙ ap (λ fs. count_new (rows_of es) (rows_of fs)) c.as_slice.ensures.value in
    let m = n + c.count_new.result in
    let passed : passed_by m fs ≡ first_passed (K ++ D) = first_passed_both es n t D c.requires.made c.requires.clients N news fs g sorted worked m (ap (λ k. n + k) new) (roomier_itself es) in
    let found = c.passed.ensures ∙ ap (passed_by m) c.as_slice-2.ensures.value in
    let agree : AllAgree K D = c.in_ok-news.ensures.agree in
    subst (λ K. Fits K D) (ap flat c.self.view_is) (record { agrees = agree; within = sym passed ∙ sym found ∙ c.in_default.is })

pub returns-clause-ready : goal.returns-clause-ready
returns-clause-ready c =
    let es = c.self.inside.table.entries in
    let n = c.self.inside.named in
    let t = c.self.invariant in
    let D = c.args.ops.now in
    let N = c.in_ok-news.news.items in
    let fs = c.in_ok-fresh.fresh.items in
    let K = flat (rows_of es) in
    let news = c.in_ok-news.ensures.news in
    let g : IsGrown (rows_of es) N (rows_of fs) = subst (IsGrown (rows_of es) N) (sym c.in_ok-fresh.ensures.rows) c.in_ok-groups.ensures in
    let sorted = c.in_ok-fresh.ensures.sorted in
    let worked = c.in_ok-fresh.ensures.worked_out in
    let new = c.count_new.ensures ∙ ap (λ fs. count_new (rows_of es) (rows_of fs)) c.as_slice.ensures.value in
    let m = n + c.count_new.result in
    let room = c.make_room.new.table.entries in
    let r = c.in_ok-make_room.ensures.roomier in (
      subst (λ fs. HaveRoom (rows_of room) (rows_of fs)) c.as_slice-3.ensures.value c.in_ok-make_room.ensures.room,
      counted_after es n t D c.requires.made c.requires.clients N news fs g sorted worked room r m (ap (λ k. n + k) new),
    )

pub returns-clause-taken : goal.returns-clause-taken
returns-clause-taken c =
    let es = c.self.inside.table.entries in
    let n = c.self.inside.named in
    let t = c.self.invariant in
    let D = c.args.ops.now in
    let N = c.in_ok-news.news.items in
    let fs = c.in_ok-fresh.fresh.items in
    let K = flat (rows_of es) in
    let news = c.in_ok-news.ensures.news in
    let g : IsGrown (rows_of es) N (rows_of fs) = subst (IsGrown (rows_of es) N) (sym c.in_ok-fresh.ensures.rows) c.in_ok-groups.ensures in
    let sorted = c.in_ok-fresh.ensures.sorted in
    let worked = c.in_ok-fresh.ensures.worked_out in
    let room = c.make_room.new.table.entries in
    let r = c.in_ok-make_room.ensures.roomier in
    let after = flat (rows_with (rows_of room) (rows_of fs)) in
    subst (λ K. IsKeptOf (K ++ D) after) (ap flat c.self.view_is) (kept_same after (K ++ D) (same_after es n t D c.requires.made c.requires.clients N news fs g sorted worked room r))

pub returns-clause-clients : goal.returns-clause-clients
returns-clause-clients c =
    let es = c.self.inside.table.entries in
    let n = c.self.inside.named in
    let t = c.self.invariant in
    let D = c.args.ops.now in
    let N = c.in_ok-news.news.items in
    let fs = c.in_ok-fresh.fresh.items in
    let news = c.in_ok-news.ensures.news in
    let g : IsGrown (rows_of es) N (rows_of fs) = subst (IsGrown (rows_of es) N) (sym c.in_ok-fresh.ensures.rows) c.in_ok-groups.ensures in
    let fresh = are_fresh es n t D c.requires.made c.requires.clients N news fs g c.in_ok-fresh.ensures.sorted c.in_ok-fresh.ensures.worked_out in
    let room = c.make_room.new.table.entries in
    let r = c.in_ok-make_room.ensures.roomier in
    let after = rows_with (rows_of room) (rows_of fs) in
    rows_of_clients after (rows_moved (rows_of room) (rows_of fs) (table_rows room n (r.table n t)) fresh.owned).owned

-- nothing is changed yet
pub returns-in_err-news-clause-aside : goal.returns-in_err-news-clause-aside
returns-in_err-news-clause-aside c = rw (← c.self.view_is) (λ aside can. (can, refl))

pub returns-in_err-groups-clause-aside : goal.returns-in_err-groups-clause-aside
returns-in_err-groups-clause-aside c = rw (← c.self.view_is) (λ aside can. (can, refl))

pub returns-in_err-fresh-clause-aside : goal.returns-in_err-fresh-clause-aside
returns-in_err-fresh-clause-aside c = rw (← c.self.view_is) (λ aside can. (can, refl))

pub returns-in-Some-clause-aside : goal.returns-in-Some-clause-aside
returns-in-Some-clause-aside c = rw (← c.self.view_is) (λ aside can. (can, refl))

-- there are more places
pub returns-in_err-make_room-clause-aside : goal.returns-in_err-make_room-clause-aside
returns-in_err-make_room-clause-aside c =
    let room = rows_of c.make_room.new.table.entries in
    λ aside can. subst (λ (rows : List (List ℕ × List Op)). CanGoBack rows aside → CanGoBack room aside × (flat (rows_with room aside) ≡ flat (rows_with rows aside))) c.self.view_is
    (c.in_err-make_room.ensures.roomier.back c.self.inside.named c.self.invariant aside) can

pub returns-clause-aside : goal.returns-clause-aside
returns-clause-aside c =
    let room = rows_of c.make_room.new.table.entries in
    λ aside can. subst (λ (rows : List (List ℕ × List Op)). CanGoBack rows aside → CanGoBack room aside × (flat (rows_with room aside) ≡ flat (rows_with rows aside))) c.self.view_is
    (c.in_ok-make_room.ensures.roomier.back c.self.inside.named c.self.invariant aside) can
