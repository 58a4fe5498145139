-- the next number is above all that a spool ever put or acknowledged
use Rattle.std.proofs.Common.{◌≡◌, ◌∙◌, ℕ, zero, suc, ◌+◌, ◌≤◌, ◌<◌, ◌==◌, Bool, true, false, ◌&&◌, nat_le, nat_lt, max, min, fold, if◌then◌else◌, List, [], ◌∷◌, Option, Some, None, is_some, Contains, refl, sym, ap, subst, arith, leb-true, le-leb, eqb-true, eq-eqb}
use Rattle.std.specs.List.{list_any}
use Rattle.std.proofs.Math.Nat.{le-min, min-le_right}
use Rattle.std.proofs.lemmas.Bool.{and_parts, and_from}
use Rattle.std.proofs.lemmas.Cmp.{tied_itself}
use Rattle.std.proofs.lemmas.List.Sums.{fold-append}
use Rattle.std.proofs.lemmas.List.Folds.{Any-from_list_any, list_any_at}
use Rattle.std.proofs.lemmas.Slice.Eq.{bytes_eq-Decides}
use Rattle.std.specs.Ordering.{is_eq}
use Rattle.rep_op.specs.declared.op.Op.{Op}
use Rattle.rep_op.specs.declared.op.Op.TheVariants as ops
use Rattle.rep_op.specs.declared.op.Put.{Put}
use Rattle.rep_op.specs.Orders.{put_cmp}
use Rattle.rep_op.specs.Sets.{acknowledges, is_acknowledged, put_at, put_of, same_client}
use Rattle.rep_ops.specs.Splitting.{all_of}
use Rattle.rep_model.specs.Held.{IsHeld}
use Rattle.rep_model.specs.Keep.{CountsAs, keep}
use Rattle.rep_model.proofs.Lookup.{is_entry_of, is_some-find_map}
use Rattle.rep_model.proofs.Occurring.{put_occurs}
use Rattle.rep_model.proofs.Readers.{is_acknowledged_keep, put_total, same_client-true}
use Rattle.br_spool.specs.declared.place.TheConstants.{LAST_SEQ, QUEUES, SPOOL}
use Rattle.br_spool.specs.Finding.{above, above_all, above_at, next_in, number_if_own, last_number_in, SpeaksOf}
use Rattle.br_spool.specs.Places.{is_place, number_at_place, queue_in}
use Rattle.br_spool.specs.Places as places
use Rattle.br_spool.proofs.Found.{found-again}

-- ---- places of a queue and their numbers rise together

rises : (queue s t : ℕ) → s ≤ t → places.place_number queue s ≤ places.place_number queue t
rises queue s t h = omega arith

bounded : (queue s t : ℕ) → is_place queue s ≡ true → s ≤ t → t ≤ LAST_SEQ → is_place queue t ≡ true
bounded queue s t e h last =
    let parts = and_parts (nat_lt queue QUEUES && nat_le 1 s) (nat_le s LAST_SEQ) e in
    let front = and_parts (nat_lt queue QUEUES) (nat_le 1 s) parts.0 in
    let first : 1 ≤ s = leb-true 1 s front.1 in
    let later : 1 ≤ t = omega arith in
    and_from (nat_lt queue QUEUES && nat_le 1 t) (nat_le t LAST_SEQ) (and_from (nat_lt queue QUEUES) (nat_le 1 t) front.0 (le-leb 1 t later)) (le-leb t LAST_SEQ last)

placed-below : (queue seq last number : ℕ) → seq ≤ last → number_at_place queue seq ≡ Some number → (most : ℕ) × (number_at_place queue (min last LAST_SEQ) ≡ Some most) × (number ≤ most)
placed-below queue seq last number h e =
    let top : ℕ = min last LAST_SEQ in
    elim (is_place queue seq) as (λ b. is_place queue seq ≡ b → (if b then Some (places.place_number queue seq) else None) ≡ Some number → (most : ℕ) × (number_at_place queue top ≡ Some most) × (number ≤ most)) [
      | true ↦ λ there is.
          let parts = and_parts (nat_lt queue QUEUES && nat_le 1 seq) (nat_le seq LAST_SEQ) there in
          let below : seq ≤ top = le-min h (leb-true seq LAST_SEQ parts.1) in
          let place : is_place queue top ≡ true = bounded queue seq top there below (min-le_right last LAST_SEQ) in
          let same : places.place_number queue seq ≡ number = cc in
          let order : places.place_number queue seq ≤ places.place_number queue top = rises queue seq top below in
          (places.place_number queue top, ap (λ b. if b then Some (places.place_number queue top) else None) place, subst (λ n. n ≤ places.place_number queue top) same order)
      | false ↦ λ there is. absurd (cc)
    ] refl e

reached : (queue : Option ℕ) (origin seq last number : ℕ) → seq ≤ last → number_if_own queue origin seq ≡ Some number → (most : ℕ) × (number_if_own queue origin (min last LAST_SEQ) ≡ Some most) × (number ≤ most)
reached None origin seq last number h e = absurd (cc)
reached (Some queue) origin seq last number h e =
    elim (origin == SPOOL) as (λ b. (if b then number_at_place queue seq else None) ≡ Some number → (most : ℕ) × ((if b then number_at_place queue (min last LAST_SEQ) else None) ≡ Some most) × (number ≤ most)) [
      | true ↦ λ is. placed-below queue seq last number h is
      | false ↦ λ is. absurd (cc)
    ] e

-- ---- the next number of deltas

spoken : (op : Op) (number : ℕ) → SpeaksOf op number → (most : ℕ) × (last_number_in op ≡ Some most) × (number ≤ most)
spoken (ops.Session client stamp counter change) number h = absurd h
spoken (ops.Put client put) number h = (number, h, omega arith)
spoken (ops.Ack client origin first last) number h = reached (queue_in client) origin h.0 last number h.2 h.3
spoken (ops.Retain topic kept) number h = absurd h

above-it : (next : ℕ) (op : Op) (number : ℕ) → SpeaksOf op number → number < above next op
above-it next op number h =
    let most = spoken op number h in
    let low : number ≤ most.0 = most.2 in
    let higher : number < max next (most.0 + 1) = omega arith in
    subst (λ (found : Option ℕ). number < above_at next found) (sym most.1) higher

at-keeps : (next : ℕ) (found : Option ℕ) → next ≤ above_at next found
at-keeps next None = omega arith
at-keeps next (Some number) = omega arith

all-keeps : (next : ℕ) (ops : List Op) → next ≤ fold above next ops
all-keeps next [] = omega arith
all-keeps next (op ∷ ops) =
    let one : next ≤ above next op = at-keeps next (last_number_in op) in
    let rest : above next op ≤ fold above (above next op) ops = all-keeps (above next op) ops in
    omega arith

all-above : (ops : List Op) (next : ℕ) (op : Op) (number : ℕ) → Contains ops op → SpeaksOf op number → number < fold above next ops
all-above [] next op number (at, inside, is) h = absurd (omega arith)
all-above (first ∷ ops) next op number (zero, inside, is) h =
    let here : number < above next first = above-it next first number (subst (λ (o : Op). SpeaksOf o number) (sym is) h) in
    let rest : above next first ≤ fold above (above next first) ops = all-keeps (above next first) ops in
    omega arith
all-above (first ∷ ops) next op number (suc at, inside, is) h = all-above ops (above next first) op number (at, omega arith, is) h

one-fold : (next : ℕ) (deltas : List (List Op)) → fold above_all next deltas ≡ fold above next (all_of deltas)
one-fold next [] = refl
one-fold next (delta ∷ deltas) = one-fold (above_all next delta) deltas ∙ sym (fold-append above next delta (all_of deltas))

pub counts-above : (deltas : List (List Op)) (op : Op) (number : ℕ) → Contains (all_of deltas) op → SpeaksOf op number → number < next_in deltas
counts-above deltas op number there h = subst (λ n. number < n) (sym (one-fold 0 deltas)) (all-above (all_of deltas) 0 op number there h)

-- ---- and of all that was taken

acknowledging : (client : List ℕ) (seq origin number : ℕ) (op : Op) → acknowledges client (seq, origin) op ≡ true → number_if_own (queue_in client) origin seq ≡ Some number → SpeaksOf op number
acknowledging client seq origin number (ops.Session c stamp counter change) e is = absurd (cc)
acknowledging client seq origin number (ops.Put c put) e is = absurd (cc)
acknowledging client seq origin number (ops.Ack c o first last) e is =
    let high = and_parts (same_client client c && (origin == o) && nat_le first seq) (nat_le seq last) e in
    let low = and_parts (same_client client c && (origin == o)) (nat_le first seq) high.0 in
    let whose = and_parts (same_client client c) (origin == o) low.0 in
    let moved : number_if_own (queue_in c) origin seq ≡ Some number = subst (λ (d : List ℕ). number_if_own (queue_in d) origin seq ≡ Some number) (same_client-true client c whose.0) is in
    (seq, leb-true first seq low.1, leb-true seq last high.1, subst (λ n. number_if_own (queue_in c) n seq ≡ Some number) (eqb-true origin o whose.1) moved)
acknowledging client seq origin number (ops.Retain topic kept) e is = absurd (cc)

-- what a list puts and acknowledges, its readers find
own-client : (client : List ℕ) → same_client client client ≡ true
own-client client = (bytes_eq-Decides client client).1 refl

own-put : (client : List ℕ) (put : Put) → is_entry_of put_cmp (put.seq, put.origin) (put_of client (ops.Put client put)) ≡ true
own-put client put =
    ap (λ b. is_entry_of put_cmp (put.seq, put.origin) (if b then Some ((put.seq, put.origin), put) else None)) (own-client client)
    ∙ ap is_eq (tied_itself put_total (put.seq, put.origin))

own-ack : (client : List ℕ) (origin first last seq : ℕ) → first ≤ seq → seq ≤ last → acknowledges client (seq, origin) (ops.Ack client origin first last) ≡ true
own-ack client origin first last seq low high =
    and_from (same_client client client && (origin == origin) && nat_le first seq) (nat_le seq last)
    (and_from (same_client client client && (origin == origin)) (nat_le first seq) (and_from (same_client client client) (origin == origin) (own-client client) (eq-eqb origin origin refl)) (le-leb first seq low))
    (le-leb seq last high)

any-of : (test : Op → Bool) (ops : List Op) (op : Op) → Contains ops op → test op ≡ true → list_any test ops ≡ true
any-of test ops op there e = list_any_at test ops there.0 op there.1 (ap test there.2 ∙ e)

module _ (taken kept : List Op) (deltas : List (List Op)) (counts : CountsAs taken kept) (held : IsHeld kept deltas) where
  acks-stay : (client : List ℕ) (name : ℕ × ℕ) → is_acknowledged client taken name ≡ true → is_acknowledged client (all_of deltas) name ≡ true
  acks-stay client name e =
      let whole : is_acknowledged client (all_of deltas) name ≡ is_acknowledged client held.0 name = ap (λ (ops : List Op). is_acknowledged client ops name) held.2.whole in
      let same : is_acknowledged client held.0 name ≡ is_acknowledged client (keep kept) name = held.1.same.acknowledgements_same client name in
      let counted : is_acknowledged client (keep kept) name ≡ is_acknowledged client (keep taken) name = counts.acknowledgements_same client name in
      whole ∙ same ∙ counted ∙ is_acknowledged_keep client taken name ∙ e

  by-ack : (client : List ℕ) (seq origin number : ℕ) → is_acknowledged client taken (seq, origin) ≡ true → number_if_own (queue_in client) origin seq ≡ Some number → number < next_in deltas
  by-ack client seq origin number e is =
      let found = Any-from_list_any (acknowledges client (seq, origin)) (all_of deltas) (acks-stay client (seq, origin) e) in
      counts-above deltas found.1 number (found.0, found.2, found.3) (acknowledging client seq origin number found.1 found.4 is)

  by-put : (client : List ℕ) (seq origin number : ℕ) (put : Put) → put_at client taken (seq, origin) ≡ Some put → is_acknowledged client taken (seq, origin) ≡ false → number_if_own (queue_in client) origin seq ≡ Some number → number < next_in deltas
  by-put client seq origin number put e open_is is =
      let there : put_at client (all_of deltas) (seq, origin) ≡ Some put = found-again taken kept deltas counts held client seq origin put e open_is in
      let occurs = put_occurs client (all_of deltas) (seq, origin) put there in
      let speaks : SpeaksOf (ops.Put client put) number = subst (λ (name : ℕ × ℕ). number_if_own (queue_in client) name.1 name.0 ≡ Some number) (sym occurs.1) is in
      counts-above deltas (ops.Put client put) number occurs.0 speaks

  by-some : (client : List ℕ) (seq origin number : ℕ) (found : Option Put) → put_at client taken (seq, origin) ≡ found → is_some found ≡ true → is_acknowledged client taken (seq, origin) ≡ false → number_if_own (queue_in client) origin seq ≡ Some number → number < next_in deltas
  by-some client seq origin number None e there open_is is = absurd (cc)
  by-some client seq origin number (Some put) e there open_is is = by-put client seq origin number put e open_is is

  pub never-again : (op : Op) (number : ℕ) → Contains taken op → SpeaksOf op number → number < next_in deltas
  never-again (ops.Session client stamp counter change) number there h = absurd h
  never-again (ops.Put client put) number there h =
      let some : is_some (put_at client taken (put.seq, put.origin)) ≡ true =
      is_some-find_map put_cmp (put_of client) (put.seq, put.origin) taken ∙ any-of (λ (op : Op). is_entry_of put_cmp (put.seq, put.origin) (put_of client op)) taken (ops.Put client put) there (own-put client put) in
      elim (is_acknowledged client taken (put.seq, put.origin)) as (λ b. is_acknowledged client taken (put.seq, put.origin) ≡ b → number < next_in deltas) [
        | true ↦ λ e. by-ack client put.seq put.origin number e h
        | false ↦ λ e. by-some client put.seq put.origin number (put_at client taken (put.seq, put.origin)) refl some e h
      ] refl
  never-again (ops.Ack client origin first last) number there h =
      let covered : is_acknowledged client taken (h.0, origin) ≡ true =
      any-of (acknowledges client (h.0, origin)) taken (ops.Ack client origin first last) there (own-ack client origin first last h.0 h.1 h.2) in
      by-ack client h.0 origin number covered h.3
  never-again (ops.Retain topic kept) number there h = absurd h
