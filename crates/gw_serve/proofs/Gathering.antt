-- What the seats did, together.
use Rattle.std.proofs.Common.{◌≡◌, ◌+◌, ℕ, suc, Option, Some, None, List, [], ◌∷◌, ◌++◌, length, slice_index_or, All, map, sym, refl, ap, ◌∙◌, subst, append-nil, append_assoc, arith}
use Rattle.std.proofs.lemmas.List.{map-append}
use Rattle.std.proofs.lemmas.List.Elements.{All-append, All-cons, All-nil}
use Rattle.crossbeam_channel.specs.Claims.{view, IsSeatAt}
use Rattle.atomic_table.specs.declared.badge.Badge.{Badge}
use Rattle.crossbeam_channel.specs.declared.flavors.array.Rows.{Rows}
use Rattle.crossbeam_channel.specs.declared.flavors.array.Key.{Key}
use Rattle.crossbeam_channel.specs.declared.flavors.array.Doing.{Doing}
use Rattle.gw_shift.specs.Calls.{Holder}
use Rattle.gw_serve.specs.declared.queue.Datagram.{Datagram}
use Rattle.gw_serve.specs.declared.queue.Hand.{Hand}
use Rattle.gw_serve.specs.declared.worker.Seat.{Seat}
use Rattle.gw_serve.specs.declared.worker.Taken.{Taken}
use Rattle.gw_serve.specs.Count.{weigh, one_to}
use Rattle.gw_serve.specs.inner.Queue.{hand}
use Rattle.gw_serve.specs.Serving.{Gains, EachGains}
use Rattle.gw_serve.specs.inner.Work.{IsWorked, IsFresh, IsFreshSlot, IsDone, IsWorkedSlot, WorkedFrom, DoneFrom, IsWorking, IsGathered, pass_of}
use Rattle.gw_serve.proofs.Balance.{weigh-append}
use Rattle.gw_serve.proofs.Gaining.{gains_none}

each_more : (ps : List Holder) (steps mine : List ℕ) (qs : List Holder) (p q : Holder) → EachGains ps steps qs → Gains p mine q → EachGains (ps ++ p ∷ []) (steps ++ mine) (qs ++ q ∷ [])
each_more [] steps mine [] p q is g = (mine, [], ap (λ (s : List ℕ). s ++ mine) is ∙ sym (append-nil mine), g, refl)
each_more (x ∷ ps) steps mine (y ∷ qs) p q h g = (h.0, h.1 ++ mine, ap (λ (s : List ℕ). s ++ mine) h.2 ∙ append_assoc h.0 h.1 mine, h.3, each_more ps h.1 mine qs p q h.4 g)
each_more [] steps mine (y ∷ qs) p q h g = absurd h
each_more (x ∷ ps) steps mine [] p q h g = absurd h

pub gathered_more : (done : List Holder) (v u : Hand) (before : Holder) (mine : List Taken) (others : List ℕ) (pass : Holder) (taken : List Taken) (left : List ℕ) (passes : List Holder)
    → IsWorking before u mine others pass → IsGathered done v taken left passes
    → IsGathered (done ++ before ∷ []) (hand (v.parts + u.parts) (v.sent ++ u.sent) (v.taken ++ u.taken)) (taken ++ mine) (left ++ others) (passes ++ pass ∷ [])
gathered_more done v u before mine others pass taken left passes work g =
    record {
      gains = subst (λ (s : List ℕ). EachGains (done ++ before ∷ []) s (passes ++ pass ∷ [])) (sym (map-append (λ (t : Taken). t.step) taken mine))
          (each_more done (map (λ (t : Taken). t.step) taken) (map (λ (t : Taken). t.step) mine) passes before pass g.gains work.gains);
      numbers = λ h.
          let a = g.numbers h in
          let b = work.numbers h in
          let d = weigh-append h v.taken u.taken in
          let e : weigh h (map (λ (t : Taken). t.datagram) (taken ++ mine)) ≡ weigh h (map (λ (t : Taken). t.datagram) taken ++ map (λ (t : Taken). t.datagram) mine) = ap (weigh h) (map-append (λ (t : Taken). t.datagram) taken mine) in
          let f = weigh-append h (map (λ (t : Taken). t.datagram) taken) (map (λ (t : Taken). t.datagram) mine) in
          let k = weigh-append h left others in
          omega arith;
    }

pub renamed : (done : List Holder) (v v' : Hand) (t t' : List Taken) (l l' : List ℕ) (p p' : List Holder) → v' ≡ v → t' ≡ t → l' ≡ l → p' ≡ p → IsGathered done v t l p → IsGathered done v' t' l' p'
renamed done v v' t t' l l' p p' a b d e g =
    subst (λ (x : Hand). IsGathered done x t' l' p') (sym a) (subst (λ (x : List Taken). IsGathered done v x l' p') (sym b) (subst (λ (x : List ℕ). IsGathered done v t x p') (sym d) (subst (λ (x : List Holder). IsGathered done v t l x) (sym e) g)))

-- nothing gathered yet
pub gathered_none : (v : Hand) (t : List Taken) (l : List ℕ) (p : List Holder) → v.taken ≡ [] → t ≡ [] → l ≡ [] → p ≡ [] → IsGathered [] v t l p
gathered_none v t l p a b d e =
    subst (λ (x : List Taken). IsGathered [] v x l p) (sym b) (subst (λ (x : List ℕ). IsGathered [] v [] x p) (sym d) (subst (λ (x : List Holder). IsGathered [] v [] [] x) (sym e)
    (record { gains = refl; numbers = λ h. let k : weigh h v.taken ≡ 0 = ap (weigh h) a in omega arith })))

-- what a number taken at the end does
pub drained : (v w : Hand) (n : ℕ) → w ≡ hand v.parts v.sent (v.taken ++ n ∷ []) → (w.parts ≡ v.parts) × (w.sent ≡ v.sent) × ((h : ℕ → ℕ) → weigh h w.taken ≡ weigh h v.taken + h n)
drained v w n is = (
  ap (λ (x : Hand). x.parts) is,
  ap (λ (x : Hand). x.sent) is,
  λ h. let a : weigh h w.taken ≡ weigh h (v.taken ++ n ∷ []) = ap (λ (x : Hand). weigh h x.taken) is in let b = weigh-append h v.taken (n ∷ []) in omega arith,
)

module _ {Q M L A : Type 0} (c : Rows (Badge (Key Datagram)) (Doing Datagram Hand) Q M (Key Datagram) L A) where
  done_of : (a b : Option Seat) → IsWorkedSlot c a b → IsDone c b
  done_of (Some old) (Some new) w = (old.pass, w)
  done_of (Some old) None w = absurd w
  done_of None b w = absurd w

  pub all_done : (olds news : List (Option Seat)) → length news ≡ length olds → WorkedFrom c olds news → All (IsDone c) news
  all_done olds news len w k d h = done_of (slice_index_or olds k d) (slice_index_or news k d) (w k d (omega arith))

  done_then : (a b : Option Seat) (olds news : List (Option Seat)) → IsWorkedSlot c a b → DoneFrom c (map pass_of olds) news → DoneFrom c (map pass_of (a ∷ olds)) (b ∷ news)
  done_then (Some old) (Some new) olds news w rest = (w, rest)
  done_then (Some old) None olds news w rest = absurd w
  done_then None b olds news w rest = absurd w

  pub all_from : (olds news : List (Option Seat)) → length news ≡ length olds → WorkedFrom c olds news → DoneFrom c (map pass_of olds) news
  all_from [] [] len w = tt
  all_from (x ∷ xs) (y ∷ ys) len w = done_then x y xs ys (w 0 None (omega arith)) (all_from xs ys (omega arith) (λ i d h. w (suc i) d (omega arith)))
  all_from [] (y ∷ ys) len w = absurd (omega arith)
  all_from (x ∷ xs) [] len w = absurd (omega arith)

  -- the first seat, and the rest
  pub next_done : (ps : List Holder) (seat : Seat) (slots : List (Option Seat)) → DoneFrom c ps (Some seat ∷ slots)
      → (p : Holder) × (rest : List Holder) × (ps ≡ p ∷ rest) × IsWorked c p seat × DoneFrom c rest slots
  next_done [] seat slots d = absurd d
  next_done (p ∷ ps) seat slots d = (p, ps, refl, d.0, d.1)

  pub none_left : (ps : List Holder) (slots : List (Option Seat)) → DoneFrom c ps slots → length slots ≡ 0 → ps ≡ []
  none_left [] slots d none = refl
  none_left (p ∷ ps) [] d none = absurd d
  none_left (p ∷ ps) (x ∷ slots) d none = absurd (omega arith)

  pub gathered_all : (before done rest : List Holder) (slots : List (Option Seat)) (v : Hand) (t : List Taken) (l : List ℕ) (p : List Holder) → before ≡ done ++ rest → DoneFrom c rest slots → length slots ≡ 0 → IsGathered done v t l p → IsGathered before v t l p
  gathered_all before done rest slots v t l p e d none g =
      let r : rest ≡ [] = none_left rest slots d none in
      subst (λ (b : List Holder). IsGathered b v t l p) (sym (e ∙ ap (λ (x : List Holder). done ++ x) r ∙ append-nil done)) g

  pub gains_all : (before done rest : List Holder) (slots : List (Option Seat)) (steps : List ℕ) (p : List Holder) → before ≡ done ++ rest → DoneFrom c rest slots → length slots ≡ 0 → EachGains done steps p → (more : List ℕ) × EachGains before more p
  gains_all before done rest slots steps p e d none g =
      let r : rest ≡ [] = none_left rest slots d none in
      (steps, subst (λ (b : List Holder). EachGains b steps p) (sym (e ∙ ap (λ (x : List Holder). done ++ x) r ∙ append-nil done)) g)

  -- one pass more
  pub gains_next : (p : Holder) (seat : Seat) (done : List Holder) (steps : List ℕ) (old new : List Holder) → IsWorked c p seat → EachGains done steps old → new ≡ old ++ seat.pass ∷ []
      → (more : List ℕ) × EachGains (done ++ p ∷ []) more new
  gains_next p seat done steps old new work g is =
      (steps ++ work.gains.0, subst (λ (l : List Holder). EachGains (done ++ p ∷ []) (steps ++ work.gains.0) l) (sym is) (each_more done steps work.gains.0 old p seat.pass g work.gains.1))

-- the passes as they were
pub gains_nothing : (ps : List Holder) → (steps : List ℕ) × EachGains ps steps ps
gains_nothing [] = ([], refl)
gains_nothing (p ∷ ps) = let r = gains_nothing ps in (r.0, ([], r.0, refl, gains_none p p refl, r.1))

-- the account of all numbers
pub accounted : (v : Hand) (n : ℕ) (taken : List Taken) (left left' : List ℕ) → v.sent ≡ one_to n → ((h : ℕ → ℕ) → weigh h v.taken ≡ weigh h (map (λ (t : Taken). t.datagram) taken) + weigh h left)
    → ((h : ℕ → ℕ) → weigh h v.sent + weigh h left ≡ weigh h v.taken + weigh h left') → (h : ℕ → ℕ) → weigh h (map (λ (t : Taken). t.datagram) taken ++ left') ≡ weigh h (one_to n)
accounted v n taken left left' sent a b h =
    let x = a h in
    let y = b h in
    let z : weigh h v.sent ≡ weigh h (one_to n) = ap (weigh h) sent in
    let k = weigh-append h (map (λ (t : Taken). t.datagram) taken) left' in
    omega arith

module _ {Q M L A : Type 0} (c : Rows (Badge (Key Datagram)) (Doing Datagram Hand) Q M (Key Datagram) L A) where
  pub fresh_seat : (seat : Seat) (ticket : _) → IsSeatAt c ticket → view ticket ≡ hand 1 [] [] → seat.ticket ≡ ticket
      → (seat.taken.items ≡ []) × (seat.left.items ≡ []) × (seat.fault ≡ None) → IsFresh c seat
  fresh_seat seat ticket at is e none =
      (subst (λ t. IsSeatAt c t) (sym e) at, ap view e ∙ is, none.0, none.1, none.2)

  pub fresh_more : (slots : List (Option Seat)) (seat : Seat) → All (IsFreshSlot c) slots → IsFresh c seat → All (IsFreshSlot c) (slots ++ Some seat ∷ [])
  fresh_more slots seat all one = All-append (IsFreshSlot c) slots (Some seat ∷ []) all (All-cons (IsFreshSlot c) (Some seat) [] one (All-nil (IsFreshSlot c)))
