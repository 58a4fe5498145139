-- a packet that was read has the body that it was read from, and each packet's body reads as it
use Rattle.std.proofs.Common.{◌≡◌, ℕ, ◌^◌, ◌<◌, ◌==◌, ◌&&◌, Bool, true, false, cond, leb, List, [], ◌∷◌, ◌++◌, length, Option, Some, None, refl, ap, sym, subst, ◌∙◌, append_assoc}
use Rattle.std.specs.Prelude.{option_map}
use Rattle.std.proofs.lemmas.Bool.{le-leb, leb-true, eqb-true, eq-eqb}
use Rattle.std.proofs.lemmas.List.{append-nil, nil_from_length}
use Rattle.std.proofs.lemmas.Option.{cond_some}
use Rattle.byteorder.specs.Endian.{big_bytes}
use Rattle.mq_packet.specs.declared.header.Header.{Header}
use Rattle.mq_packet.specs.declared.header.Header.TheVariants as headers
use Rattle.mq_packet.specs.declared.packet.Delivery.TheVariants as deliveries
use Rattle.mq_packet.specs.declared.packet.Packet.{Packet}
use Rattle.mq_packet.specs.declared.packet.Packet.TheVariants as packets
use Rattle.mq_packet.specs.declared.packet.Qos.{Qos}
use Rattle.mq_packet.specs.Bodies.{IsConnAckCode, IsAllowedPacket, IsPacketValue, packet_body, data_octets, grant_number, header_of, qos_number}
use Rattle.mq_packet.specs.Text.{is_filter_text, is_topic_text}
use Rattle.mq_packet.specs.inner.Reading.{◌>>=◌, filter_first, grant_at, only_id, packet_of, publish_packet, qos_of_number, read_acknowledged, read_no_body, read_conn_ack, read_data, read_id, read_one_octet, read_once, read_sub_ack_packet, read_subscribe, read_unsubscribe}
use Rattle.mq_packet.proofs.Fields.{TakesOnly, bound, data_again, data_taken, grant_again, grant_taken, id_again, id_taken, octet_taken, only_again, only_taken, qos_again, qos_taken}
use Rattle.mq_packet.proofs.Numbers.{IsBytes, chosen}
use Rattle.mq_packet.proofs.ReadConnect.{connect_again, connect_taken}
use Rattle.mq_packet.proofs.Standing.{IsOf, Stands, guarded, stands_at, stands_by}
use Rattle.mq_packet.proofs.Texts.{filter_from, filter_to, topic_from, topic_to}

-- CONNACK
answer_second : (one accepted : Bool) (flags code : ℕ) → (flags == 1) ≡ one → (code == 0) ≡ accepted
    → Stands headers.ConnAck (flags ∷ code ∷ []) (cond (one && accepted) (Some (packets.ConnAck true code)) None)
answer_second true true flags code f g = (eqb-true code 0 g, tt, refl, ap (λ n. n ∷ code ∷ []) (sym (eqb-true flags 1 f)))
answer_second true false flags code f g = tt
answer_second false accepted flags code f g = tt

answer_by : (none good one accepted : Bool) (flags code : ℕ) → (flags == 0) ≡ none → leb code 5 ≡ good → (flags == 1) ≡ one → (code == 0) ≡ accepted
    → Stands headers.ConnAck (flags ∷ code ∷ []) (cond (none && good) (Some (packets.ConnAck false code)) (cond (one && accepted) (Some (packets.ConnAck true code)) None))
answer_by true true one accepted flags code e d f g = (leb-true code 5 d, tt, refl, ap (λ n. n ∷ code ∷ []) (sym (eqb-true flags 0 e)))
answer_by true false one accepted flags code e d f g = answer_second one accepted flags code f g
answer_by false good one accepted flags code e d f g = answer_second one accepted flags code f g

conn_ack_stands : (body : List ℕ) → Stands headers.ConnAck body (read_conn_ack body)
conn_ack_stands [] = tt
conn_ack_stands (flags ∷ []) = tt
conn_ack_stands (flags ∷ code ∷ []) = answer_by (flags == 0) (leb code 5) (flags == 1) (code == 0) flags code refl refl refl refl
conn_ack_stands (flags ∷ code ∷ x ∷ body) = tt

-- PUBLISH
once_stands : (retain : Bool) (body : List ℕ) → IsBytes body → Stands (headers.PublishOnce retain) body (read_once retain body)
once_stands retain body b =
    stands_by (headers.PublishOnce retain) body (read_data body) (λ x. publish_packet deliveries.Once retain x.0 x.1) (λ x e.
    let taken = data_taken body x b e in
    guarded (is_topic_text x.0) (headers.PublishOnce retain) body (packets.Publish deliveries.Once retain x.0 x.1) (λ good.
    ((tt, topic_from x.0 good), tt, refl, ap (λ front. front ++ x.1) (append-nil (data_octets x.0)) ∙ sym taken.whole)))

acknowledged_stands : (dup retain : Bool) (body : List ℕ) → IsBytes body → Stands (headers.PublishAcknowledged dup retain) body (read_acknowledged dup retain body)
acknowledged_stands dup retain body b =
    let header : Header = headers.PublishAcknowledged dup retain in
    stands_by header body (read_data body) (λ x. read_id x.1 >>= λ y. publish_packet (deliveries.Acknowledged y.0 dup) retain x.0 y.1) (λ x e.
    let taken = data_taken body x b e in
    stands_by header body (read_id x.1) (λ y. publish_packet (deliveries.Acknowledged y.0 dup) retain x.0 y.1) (λ y d.
    let named = id_taken x.1 y taken.rest d in
    guarded (is_topic_text x.0) header body (packets.Publish (deliveries.Acknowledged y.0 dup) retain x.0 y.1) (λ good.
    ((named.id, topic_from x.0 good), named.number, refl, append_assoc (data_octets x.0) (big_bytes 2 y.0) y.1 ∙ ap (λ r. data_octets x.0 ++ r) (sym named.whole) ∙ sym taken.whole))))

-- PUBACK and UNSUBACK
id_stands : (header : Header) (make : ℕ → Packet) → ((id : ℕ) → TakesOnly (big_bytes 2 id) id → IsOf header (big_bytes 2 id) (make id))
    → (body : List ℕ) → IsBytes body → Stands header body (option_map make (read_id body >>= only_id))
id_stands header make h body b =
    stands_at header body make (read_id body >>= only_id) (λ id e.
    let taken = only_taken body id b e in
    let P : List ℕ → Type 0 = λ octets. IsOf header octets (make id) in
    subst P (sym taken.whole) (h id (record { whole = refl; id = taken.id; number = taken.number })))

-- a filter that was found good
first_good : (y z : List ℕ × List ℕ) → filter_first y ≡ Some z → (is_filter_text y.0 ≡ true) × (y ≡ z)
first_good y z e = cond_some (is_filter_text y.0) y z e

-- SUBSCRIBE
subscribe_stands : (body : List ℕ) → IsBytes body → Stands headers.Subscribe body (read_subscribe body)
subscribe_stands body b =
    stands_by headers.Subscribe body (read_id body) _ (λ x e.
    let named = id_taken body x b e in
    stands_by headers.Subscribe body (read_data x.1) _ (λ y d.
    let taken = data_taken x.1 y named.rest d in
    stands_by headers.Subscribe body (filter_first y) _ (λ z f.
    let good = first_good y z f in
    stands_by headers.Subscribe body (read_one_octet z.1) _ (λ octet g.
    stands_by headers.Subscribe body (qos_of_number octet) _ (λ qos k.
    let P : List ℕ × List ℕ → Type 0 = λ w. (is_filter_text w.0 ≡ true) × (x.1 ≡ data_octets w.0 ++ w.1) in
    let found = subst P good.1 (good.0, taken.whole) in
    let last = octet_taken z.1 octet g in
    let number = qos_taken octet qos k in
    let Q : List ℕ → Type 0 = λ r. x.1 ≡ data_octets z.0 ++ r in
    let R : ℕ → Type 0 = λ n. x.1 ≡ data_octets z.0 ++ n ∷ [] in
    let rest = subst R (sym number) (subst Q last found.1) in
    ((named.id, filter_from z.0 found.0), named.number, refl, append_assoc (big_bytes 2 x.0) (data_octets z.0) (qos_number qos ∷ []) ∙ ap (λ r. big_bytes 2 x.0 ++ r) (sym rest) ∙ sym named.whole))))))

-- SUBACK
sub_ack_stands : (body : List ℕ) → IsBytes body → Stands headers.SubAck body (read_sub_ack_packet body)
sub_ack_stands body b =
    stands_by headers.SubAck body (read_id body) _ (λ x e.
    let named = id_taken body x b e in
    stands_by headers.SubAck body (read_one_octet x.1) _ (λ octet d.
    stands_by headers.SubAck body (grant_at octet) _ (λ granted f.
    let last = octet_taken x.1 octet d in
    let number = grant_taken octet granted f in
    let Q : List ℕ → Type 0 = λ r. body ≡ big_bytes 2 x.0 ++ r in
    let R : ℕ → Type 0 = λ n. body ≡ big_bytes 2 x.0 ++ n ∷ [] in
    let whole = subst R (sym number) (subst Q last named.whole) in
    (named.id, named.number, refl, sym whole))))

-- UNSUBSCRIBE
unsubscribe_stands : (body : List ℕ) → IsBytes body → Stands headers.Unsubscribe body (read_unsubscribe body)
unsubscribe_stands body b =
    stands_by headers.Unsubscribe body (read_id body) _ (λ x e.
    let named = id_taken body x b e in
    stands_by headers.Unsubscribe body (read_data x.1) _ (λ y d.
    let taken = data_taken x.1 y named.rest d in
    stands_by headers.Unsubscribe body (filter_first y) _ (λ z f.
    let good = first_good y z f in
    guarded (length z.1 == 0) headers.Unsubscribe body (packets.Unsubscribe x.0 z.0) (λ none.
    let P : List ℕ × List ℕ → Type 0 = λ w. (is_filter_text w.0 ≡ true) × (x.1 ≡ data_octets w.0 ++ w.1) in
    let found = subst P good.1 (good.0, taken.whole) in
    let empty = nil_from_length z.1 (eqb-true (length z.1) 0 none) in
    let Q : List ℕ → Type 0 = λ r. x.1 ≡ data_octets z.0 ++ r in
    let rest = subst Q empty found.1 ∙ append-nil (data_octets z.0) in
    ((named.id, filter_from z.0 found.0), named.number, refl, ap (λ r. big_bytes 2 x.0 ++ r) (sym rest) ∙ sym named.whole)))))

-- a body of nothing
bare_stands : (header : Header) (p : Packet) → IsOf header [] p → (body : List ℕ) → Stands header body (read_no_body body p)
bare_stands header p h [] = h
bare_stands header p h (x ∷ body) = tt

-- what was read from a body is a packet with that body
pub packet_stands : (header : Header) (body : List ℕ) → IsBytes body → Stands header body (packet_of header body)
packet_stands headers.Connect body b = connect_taken body b
packet_stands headers.ConnAck body b = conn_ack_stands body
packet_stands (headers.PublishOnce retain) body b = once_stands retain body b
packet_stands (headers.PublishAcknowledged dup retain) body b = acknowledged_stands dup retain body b
packet_stands headers.PubAck body b = id_stands headers.PubAck (λ id. packets.PubAck id) (λ id t. (t.id, t.number, refl, refl)) body b
packet_stands headers.Subscribe body b = subscribe_stands body b
packet_stands headers.SubAck body b = sub_ack_stands body b
packet_stands headers.Unsubscribe body b = unsubscribe_stands body b
packet_stands headers.UnsubAck body b = id_stands headers.UnsubAck (λ id. packets.UnsubAck id) (λ id t. (t.id, t.number, refl, refl)) body b
packet_stands headers.PingReq body b = bare_stands headers.PingReq packets.PingReq (tt, tt, refl, refl) body
packet_stands headers.PingResp body b = bare_stands headers.PingResp packets.PingResp (tt, tt, refl, refl) body
packet_stands headers.Disconnect body b = bare_stands headers.Disconnect packets.Disconnect (tt, tt, refl, refl) body

-- a packet's body reads as the packet
once_again : (retain : Bool) (topic body : List ℕ) → IsAllowedPacket (packets.Publish deliveries.Once retain topic body)
    → read_once retain (data_octets topic ++ [] ++ body) ≡ Some (packets.Publish deliveries.Once retain topic body)
once_again retain topic body h =
    let P : List ℕ → Type 0 = λ front. read_once retain (front ++ body) ≡ Some (packets.Publish deliveries.Once retain topic body) in
    subst P (sym (append-nil (data_octets topic)))
    (bound (read_data (data_octets topic ++ body)) (λ x. publish_packet deliveries.Once retain x.0 x.1) (topic, body) _ (data_again topic body h.1.0.0.0)
    (chosen (is_topic_text topic) _ None (topic_to topic h.1)))

acknowledged_again : (id : ℕ) (dup retain : Bool) (topic body : List ℕ) → id < 2 ^ 16 → IsAllowedPacket (packets.Publish (deliveries.Acknowledged id dup) retain topic body)
    → read_acknowledged dup retain (data_octets topic ++ big_bytes 2 id ++ body) ≡ Some (packets.Publish (deliveries.Acknowledged id dup) retain topic body)
acknowledged_again id dup retain topic body v h =
    let P : List ℕ → Type 0 = λ octets. read_acknowledged dup retain octets ≡ Some (packets.Publish (deliveries.Acknowledged id dup) retain topic body) in
    subst P (sym (append_assoc (data_octets topic) (big_bytes 2 id) body))
    (bound (read_data (data_octets topic ++ (big_bytes 2 id ++ body))) (λ x. read_id x.1 >>= λ y. publish_packet (deliveries.Acknowledged y.0 dup) retain x.0 y.1) (topic, big_bytes 2 id ++ body) _
    (data_again topic (big_bytes 2 id ++ body) h.1.0.0.0)
    (bound (read_id (big_bytes 2 id ++ body)) (λ y. publish_packet (deliveries.Acknowledged y.0 dup) retain topic y.1) (id, body) _ (id_again id body h.0 v)
    (chosen (is_topic_text topic) _ None (topic_to topic h.1))))

subscribe_again : (id : ℕ) (filter : List ℕ) (qos : Qos) → id < 2 ^ 16 → IsAllowedPacket (packets.Subscribe id filter qos)
    → read_subscribe (big_bytes 2 id ++ data_octets filter ++ qos_number qos ∷ []) ≡ Some (packets.Subscribe id filter qos)
subscribe_again id filter qos v h =
    let last : List ℕ = qos_number qos ∷ [] in
    let P : List ℕ → Type 0 = λ octets. read_subscribe octets ≡ Some (packets.Subscribe id filter qos) in
    subst P (sym (append_assoc (big_bytes 2 id) (data_octets filter) last))
    (bound (read_id (big_bytes 2 id ++ (data_octets filter ++ last))) _ (id, data_octets filter ++ last) _ (id_again id (data_octets filter ++ last) h.0 v)
    (bound (read_data (data_octets filter ++ last)) _ (filter, last) _ (data_again filter last h.1.0.0)
    (bound (filter_first (filter, last)) _ (filter, last) _ (chosen (is_filter_text filter) _ None (filter_to filter h.1))
    (bound (qos_of_number (qos_number qos)) _ qos _ (qos_again qos) refl))))

sub_ack_again : (id : ℕ) (granted : Option Qos) → id < 2 ^ 16 → IsAllowedPacket (packets.SubAck id granted)
    → read_sub_ack_packet (big_bytes 2 id ++ grant_number granted ∷ []) ≡ Some (packets.SubAck id granted)
sub_ack_again id granted v h =
    let last : List ℕ = grant_number granted ∷ [] in
    bound (read_id (big_bytes 2 id ++ last)) _ (id, last) _ (id_again id last h v)
    (bound (grant_at (grant_number granted)) _ granted _ (grant_again granted) refl)

unsubscribe_again : (id : ℕ) (filter : List ℕ) → id < 2 ^ 16 → IsAllowedPacket (packets.Unsubscribe id filter)
    → read_unsubscribe (big_bytes 2 id ++ data_octets filter) ≡ Some (packets.Unsubscribe id filter)
unsubscribe_again id filter v h =
    let P : List ℕ → Type 0 = λ octets. read_unsubscribe (big_bytes 2 id ++ octets) ≡ Some (packets.Unsubscribe id filter) in
    subst P (append-nil (data_octets filter))
    (bound (read_id (big_bytes 2 id ++ (data_octets filter ++ []))) _ (id, data_octets filter ++ []) _ (id_again id (data_octets filter ++ []) h.0 v)
    (bound (read_data (data_octets filter ++ [])) _ (filter, []) _ (data_again filter [] h.1.0.0)
    (bound (filter_first (filter, [])) _ (filter, []) _ (chosen (is_filter_text filter) _ None (filter_to filter h.1)) refl)))

answer_again : (session : Bool) (code : ℕ) → IsConnAckCode session code → read_conn_ack ((cond session 1 0) ∷ code ∷ []) ≡ Some (packets.ConnAck session code)
answer_again true code h = chosen (code == 0) _ None (eq-eqb code 0 h)
answer_again false code h = chosen (leb code 5) _ _ (le-leb code 5 h)

pub reads_back : (p : Packet) → IsPacketValue p → IsAllowedPacket p → packet_of (header_of p) (packet_body p) ≡ Some p
reads_back (packets.Connect clean keep_alive client will login) v h = connect_again clean keep_alive client will login v h
reads_back (packets.ConnAck true code) v h = answer_again true code h
reads_back (packets.ConnAck false code) v h = answer_again false code h
reads_back (packets.Publish deliveries.Once retain topic body) v h = once_again retain topic body h
reads_back (packets.Publish (deliveries.Acknowledged id dup) retain topic body) v h = acknowledged_again id dup retain topic body v h
reads_back (packets.PubAck id) v h = ap (λ o. option_map (λ n. packets.PubAck n) o) (only_again id h v)
reads_back (packets.Subscribe id filter qos) v h = subscribe_again id filter qos v h
reads_back (packets.SubAck id granted) v h = sub_ack_again id granted v h
reads_back (packets.Unsubscribe id filter) v h = unsubscribe_again id filter v h
reads_back (packets.UnsubAck id) v h = ap (λ o. option_map (λ n. packets.UnsubAck n) o) (only_again id h v)
reads_back packets.PingReq v h = refl
reads_back packets.PingResp v h = refl
reads_back packets.Disconnect v h = refl
