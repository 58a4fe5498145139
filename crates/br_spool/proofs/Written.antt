-- numbers that are of no reading, one after the other
use Rattle.std.proofs.Common.{◌≡◌, ◌∙◌, ℕ, zero, suc, ◌+◌, ◌-◌, ◌<◌, ◌≤◌, List, ◌++◌, map, sym, subst, arith, append-nil, append_assoc}
use Rattle.std.proofs.lemmas.List.{map-append}
use Rattle.rep_op.specs.declared.op.Op.{Op}
use Rattle.br_core.specs.declared.item.Item.{Item}
use Rattle.br_spool.specs.Messages.{number_ack, other_number, others_from}

-- after one number the rest is left
pub next-acked : (number below : ℕ) (items : List Item) (before after whole : List Op) → number < below → after ≡ before ++ map number_ack (other_number number items)
    → before ++ map number_ack (others_from number (below - number) items) ≡ whole → after ++ map number_ack (others_from (number + 1) (below - (number + 1)) items) ≡ whole
next-acked number below items before after whole h e left =
    let count : ℕ = below - (number + 1) in
    let rest : List ℕ = others_from (number + 1) count items in
    let more : below - number ≡ suc count = omega arith in
    let P : ℕ → Type 0 = λ n. before ++ map number_ack (others_from number n items) ≡ whole in
    let Q : List Op → Type 0 = λ acks. before ++ acks ≡ whole in
    let R : List Op → Type 0 = λ ops. ops ++ map number_ack rest ≡ whole in
    let apart : before ++ (map number_ack (other_number number items) ++ map number_ack rest) ≡ whole = subst Q (map-append number_ack (other_number number items) rest) (subst P more left) in
    subst R (sym e) (append_assoc before (map number_ack (other_number number items)) (map number_ack rest) ∙ apart)

-- after the last one nothing is left
pub none-left : (number below : ℕ) (items : List Item) (ops whole : List Op) → below ≤ number → ops ++ map number_ack (others_from number (below - number) items) ≡ whole → ops ≡ whole
none-left number below items ops whole h left =
    let none : below - number ≡ zero = omega arith in
    let P : ℕ → Type 0 = λ n. ops ++ map number_ack (others_from number n items) ≡ whole in
    sym (append-nil ops) ∙ subst P none left
