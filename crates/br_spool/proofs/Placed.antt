-- a reading has one place
use Rattle.std.proofs.Common.{◌≡◌, ◌∙◌, ℕ, ◌+◌, ◌-◌, ◌*◌, ◌/◌, ◌%◌, ◌<◌, ◌≤◌, Bool, true, false, ◌&&◌, nat_lt, nat_le, if◌then◌else◌, Option, Some, None, refl, ap, arith, le-leb}
use Rattle.std.proofs.lemmas.Bool.{and_from, lt-ltb}
use Rattle.mq_packet.specs.declared.packet.Qos.TheVariants as levels
use Rattle.br_core.specs.declared.item.Item.{Item}
use Rattle.br_spool.specs.declared.place.TheConstants.{LAST_SEQ, QUEUES, SPOOL}
use Rattle.br_spool.specs.Finding.{item_at, item_in}
use Rattle.br_spool.specs.Finding as finding
use Rattle.br_spool.specs.Messages.{item_message, item_put}
use Rattle.br_spool.specs.Places.{queue_client, is_place, place_number, number_at_place, queue_in, queue_of, number_seq}

chosen : {X : Type 0} (c : Bool) (x y : X) → c ≡ true → (if c then x else y) ≡ x
chosen true x y e = refl
chosen false x y e = cc

-- The place of a number is one. `a` counts the rounds of all queues, `q` is the queue, and `r` the
-- place in this turn.
placed : (a q r : ℕ) → q < 64 → r < 8192 → (a * 64 + q) * 8192 + r < LAST_SEQ * QUEUES → is_place q (a * 8192 + r + 1) ≡ true
placed a q r queue turn h =
    let first : 1 ≤ a * 8192 + r + 1 = omega arith in
    let last : a * 8192 + r + 1 ≤ LAST_SEQ = omega arith in
    and_from (nat_lt q 64 && nat_le 1 (a * 8192 + r + 1)) (nat_le (a * 8192 + r + 1) LAST_SEQ)
    (and_from (nat_lt q 64) (nat_le 1 (a * 8192 + r + 1)) (lt-ltb q 64 queue) (le-leb 1 (a * 8192 + r + 1) first)) (le-leb (a * 8192 + r + 1) LAST_SEQ last)

-- and the number of this place is the number
back-at : (a q r : ℕ) → r < 8192 → place_number q (a * 8192 + r + 1) ≡ (a * 64 + q) * 8192 + r
back-at a q r turn =
    let before : a * 8192 + r + 1 - 1 ≡ a * 8192 + r = omega arith in
    let rounds : (a * 8192 + r) / 8192 ≡ a = omega arith in
    let rest : (a * 8192 + r) % 8192 ≡ r = omega arith in
    ap (λ (s : ℕ). (s / 8192 * 64 + q) * 8192 + s % 8192) before
    ∙ ap (λ (n : ℕ). (n * 64 + q) * 8192 + (a * 8192 + r) % 8192) rounds
    ∙ ap (λ (n : ℕ). (a * 64 + q) * 8192 + n) rest

pub one-place : (n : ℕ) → n < LAST_SEQ * QUEUES → number_at_place (queue_of n) (number_seq n) ≡ Some n
one-place n h =
    let a : ℕ = n / 8192 / 64 in
    let q : ℕ = n / 8192 % 64 in
    let r : ℕ = n % 8192 in
    let parts : (n / 8192 / 64 * 64 + n / 8192 % 64) * 8192 + n % 8192 ≡ n = omega arith in
    let queue : n / 8192 % 64 < 64 = omega arith in
    let turn : n % 8192 < 8192 = omega arith in
    let small : (n / 8192 / 64 * 64 + n / 8192 % 64) * 8192 + n % 8192 < LAST_SEQ * QUEUES = omega arith in
    chosen (is_place q (a * 8192 + r + 1)) (Some (place_number q (a * 8192 + r + 1))) None (placed a q r queue turn small)
    ∙ ap (λ (m : ℕ). Some m) (back-at a q r turn ∙ parts)

-- and a queue has one client
one-queue : (q : ℕ) → q < 64 → queue_in (queue_client q) ≡ Some q
one-queue q h =
    let low : 48 ≤ 48 + q / 10 = omega arith in
    let high : 48 + q / 10 < 55 = omega arith in
    let least : 48 ≤ 48 + q % 10 = omega arith in
    let most : 48 + q % 10 ≤ 57 = omega arith in
    let tens : (nat_le 48 (48 + q / 10) && nat_lt (48 + q / 10) 55) ≡ true =
    and_from (nat_le 48 (48 + q / 10)) (nat_lt (48 + q / 10) 55) (le-leb 48 (48 + q / 10) low) (lt-ltb (48 + q / 10) 55 high) in
    let three : (nat_le 48 (48 + q / 10) && nat_lt (48 + q / 10) 55 && nat_le 48 (48 + q % 10)) ≡ true =
    and_from (nat_le 48 (48 + q / 10) && nat_lt (48 + q / 10) 55) (nat_le 48 (48 + q % 10)) tens (le-leb 48 (48 + q % 10) least) in
    let all : (nat_le 48 (48 + q / 10) && nat_lt (48 + q / 10) 55 && nat_le 48 (48 + q % 10) && nat_le (48 + q % 10) 57) ≡ true =
    and_from (nat_le 48 (48 + q / 10) && nat_lt (48 + q / 10) 55 && nat_le 48 (48 + q % 10)) (nat_le (48 + q % 10) 57) three (le-leb (48 + q % 10) 57 most) in
    let back : (48 + q / 10 - 48) * 10 + (48 + q % 10 - 48) ≡ q = omega arith in
    chosen (nat_le 48 (48 + q / 10) && nat_lt (48 + q / 10) 55 && nat_le 48 (48 + q % 10) && nat_le (48 + q % 10) 57) (Some ((48 + q / 10 - 48) * 10 + (48 + q % 10 - 48))) None all
    ∙ ap (λ (m : ℕ). Some m) back

pub one-reading : (item : Item) → item.number < LAST_SEQ * QUEUES → item_in (item_put item) ≡ Some (record item { lane = 0; qos = levels.One })
one-reading item h =
    let n : ℕ = item.number in
    let small : n / 8192 % 64 < 64 = omega arith in
    let queue : finding.number_if_own (queue_in (queue_client (queue_of n))) SPOOL (number_seq n) ≡ finding.number_if_own (Some (queue_of n)) SPOOL (number_seq n) =
    ap (λ (q : Option ℕ). finding.number_if_own q SPOOL (number_seq n)) (one-queue (n / 8192 % 64) small) in
    ap (λ (m : Option ℕ). item_at m (item_message item)) (queue ∙ one-place n h)
