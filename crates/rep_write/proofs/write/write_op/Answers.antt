use Rattle.std.proofs.Common.{ℕ, List, ◌∷◌, ◌++◌, subst, sym, append_assoc}
use Rattle.rep_op.specs.Spelling.{client_octets, put_octets, retained_octets}
use Rattle.rep_op.specs.Sessions.{text_octets, change_octets}
use Rattle.byteorder.specs.Endian.{big_bytes}
use Rattle.rep_write.specs.Writing.{Writes}
use Rattle.rep_write.proofs.Writing.{writes_more}
use Rattle.rep_write.proofs.write.write_op.Goals as goal

pub returns-in_ok-write_kind-in-Session : goal.returns-in_ok-write_kind-in-Session
returns-in_ok-write_kind-in-Session c =
    let front : List ℕ = 1 ∷ client_octets c.in-Session.client in
    let epoch : List ℕ = big_bytes 8 c.in-Session.stamp.epoch in
    let rest : List ℕ = c.in-Session.stamp.gateway ∷ c.in-Session.counter ∷ change_octets c.in-Session.change in
    rw c.in-Session.is (subst (λ (text : List ℕ). Writes text c.args.out.now.items c.write_stamped.new.out.items c.write_stamped.result) (sym (append_assoc front epoch rest))
    (writes_more c.args.out.now.items front (epoch ++ rest) _ c.write_stamped.new.out.items c.write_stamped.result
    c.in_ok-write_kind-in-Session.ensures c.write_stamped.ensures))

pub returns-in_ok-write_kind-in-Put : goal.returns-in_ok-write_kind-in-Put
returns-in_ok-write_kind-in-Put c =
    rw c.in-Put.is (writes_more c.args.out.now.items (2 ∷ client_octets c.in-Put.client) (put_octets c.args.version c.in-Put.put) _ c.write_put.new.out.items c.write_put.result
    c.in_ok-write_kind-in-Put.ensures c.write_put.ensures)

pub returns-in_ok-write_kind-in-Ack : goal.returns-in_ok-write_kind-in-Ack
returns-in_ok-write_kind-in-Ack c =
    let front : List ℕ = 3 ∷ client_octets c.in-Ack.client in
    let first : List ℕ = c.in-Ack.origin ∷ big_bytes 8 c.in-Ack.first in
    let last : List ℕ = big_bytes 8 c.in-Ack.last in
    rw c.in-Ack.is (subst (λ (text : List ℕ). Writes text c.args.out.now.items c.write_range.new.out.items c.write_range.result) (sym (append_assoc front first last))
    (writes_more c.args.out.now.items front (first ++ last) _ c.write_range.new.out.items c.write_range.result
    c.in_ok-write_kind-in-Ack.ensures c.write_range.ensures))

pub returns-in_ok-write_topic-in-Retain : goal.returns-in_ok-write_topic-in-Retain
returns-in_ok-write_topic-in-Retain c =
    rw c.in-Retain.is (writes_more c.args.out.now.items (4 ∷ text_octets c.in-Retain.topic) (retained_octets c.in-Retain.retained) _ c.write_retained.new.out.items c.write_retained.result
    c.in_ok-write_topic-in-Retain.ensures c.write_retained.ensures)
