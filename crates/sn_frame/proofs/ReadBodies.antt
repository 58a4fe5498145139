-- a frame that was read has the body that it was read from, and each frame's body reads as it
use Rattle.std.proofs.Common.{◌≡◌, ℕ, ◌^◌, ◌<◌, Bool, true, false, cond, ◌&&◌, leb, List, [], ◌∷◌, ◌++◌, length, Option, Some, None, refl, ap, sym, subst, ◌∙◌}
use Rattle.std.specs.Prelude.{option_map}
use Rattle.std.proofs.lemmas.Bool.{le-leb, leb-true, eqb-true, eq-eqb}
use Rattle.byteorder.specs.Endian.{big_bytes}
use Rattle.sn_frame.specs.declared.flags.Flags.{Flags}
use Rattle.sn_frame.specs.declared.flags.TopicIdType.{TopicIdType}
use Rattle.sn_frame.specs.declared.flags.TopicIdType.TheVariants as kinds
use Rattle.sn_frame.specs.declared.frame.Frame.{Frame}
use Rattle.sn_frame.specs.declared.frame.Frame.TheVariants as frames
use Rattle.sn_frame.specs.declared.msg_type.MsgType.{MsgType}
use Rattle.sn_frame.specs.declared.msg_type.MsgType.TheVariants as types
use Rattle.sn_frame.specs.Bodies.{type_of, body_of, IsMessage, IsValue, IsTopicField, will_octets}
use Rattle.sn_frame.specs.FlagBits.{kind_of}
use Rattle.sn_frame.specs.inner.Reading.{number, read_bare, read_octet, read_number, read_ids, fits_topic, read_filter, read_will, read_advertise, read_gw_info, read_connect, read_register, read_publish, read_sub_ack, read_ping_req, read_disconnect, frame_of}
use Rattle.sn_frame.proofs.Numbers.{IsBytes, octets-number, number-fits, number-octets, chosen, both, first_of_both, second_of_both}

-- the frame is one of this type with this body
abbrev pub IsOf : MsgType → List ℕ → Frame → Type 0
IsOf t body f = IsMessage f × IsValue f × (type_of f ≡ t) × (body_of f ≡ body)

-- what was read, if anything, is such a frame
abbrev pub Stands : MsgType → List ℕ → Option Frame → Type 0
Stands t body None = Unit {0}
Stands t body (Some f) = IsOf t body f

-- what a test let through stands where the test holds
guarded : (test : Bool) (t : MsgType) (body : List ℕ) (f : Frame) → (test ≡ true → IsOf t body f) → Stands t body (cond test (Some f) None)
guarded true t body f h = h refl
guarded false t body f h = tt

-- the size of a topic field, by a test and by its meaning
pub fits-true : (kind : TopicIdType) (topic : List ℕ) → IsTopicField kind topic → fits_topic kind topic ≡ true
fits-true kinds.Normal topic h = refl
fits-true kinds.Predefined topic h = eq-eqb _ _ h
fits-true kinds.Short topic h = eq-eqb _ _ h
fits-true kinds.Reserved topic h = refl

pub true-fits : (kind : TopicIdType) (topic : List ℕ) → fits_topic kind topic ≡ true → IsTopicField kind topic
true-fits kinds.Normal topic h = tt
true-fits kinds.Predefined topic h = eqb-true _ _ h
true-fits kinds.Short topic h = eqb-true _ _ h
true-fits kinds.Reserved topic h = tt

-- two numbers of two octets each, in front of others
numbers-cells : (i1 i0 m1 m0 : ℕ) (rest : List ℕ) → i1 < 256 → i0 < 256 → m1 < 256 → m0 < 256
    → big_bytes 2 (number i1 i0) ++ big_bytes 2 (number m1 m0) ++ rest ≡ i1 ∷ i0 ∷ m1 ∷ m0 ∷ rest
numbers-cells i1 i0 m1 m0 rest p q r s =
    let e = octets-number i1 i0 p q in
    let d = octets-number m1 m0 r s in
    cc

-- a subscription that a test let through
filter_guard : (t : MsgType) (make : Flags → ℕ → List ℕ → Frame) (bits m : ℕ) (topic body : List ℕ) (test : Bool)
    → (test ≡ true → IsOf t body (make (record { bits = bits }) m topic))
    → Stands t body (option_map (λ x. make x.0 x.1 x.2) (let x : Option (Flags × ℕ × List ℕ) = cond test (Some (record { bits = bits }, m, topic)) None in x))
filter_guard t make bits m topic body true h = h refl
filter_guard t make bits m topic body false h = tt

-- a body of nothing
bare_stands : (t : MsgType) (f : Frame) → IsOf t [] f → (body : List ℕ) → Stands t body (read_bare body f)
bare_stands t f h [] = h
bare_stands t f h (x ∷ body) = tt

-- a body of one octet
octet_stands : (t : MsgType) (make : ℕ → Frame) → ((n : ℕ) → IsOf t (n ∷ []) (make n)) → (body : List ℕ) → Stands t body (option_map make (read_octet body))
octet_stands t make h [] = tt
octet_stands t make h (x ∷ []) = h x
octet_stands t make h (x ∷ y ∷ body) = tt

-- a body of one number
number_stands : (t : MsgType) (make : ℕ → Frame) → ((n : ℕ) → n < 2 ^ 16 → IsOf t (big_bytes 2 n) (make n))
    → (body : List ℕ) → IsBytes body → Stands t body (option_map make (read_number body))
number_stands t make h [] b = tt
number_stands t make h (x ∷ []) b = tt
number_stands t make h (x ∷ y ∷ []) b =
    let P : List ℕ → Type 0 = λ body. IsOf t body (make (number x y)) in
    subst P (octets-number x y (b 0) (b 1)) (h (number x y) (number-fits x y (b 0) (b 1)))
number_stands t make h (x ∷ y ∷ z ∷ body) b = tt

-- a body of a topic id, a message id and a code
ids_stands : (t : MsgType) (make : ℕ → ℕ → ℕ → Frame)
    → ((i m c : ℕ) → i < 2 ^ 16 → m < 2 ^ 16 → IsOf t (big_bytes 2 i ++ big_bytes 2 m ++ (c ∷ [])) (make i m c))
    → (body : List ℕ) → IsBytes body → Stands t body (option_map (λ x. make x.0 x.1 x.2) (read_ids body))
ids_stands t make h [] b = tt
ids_stands t make h (i1 ∷ []) b = tt
ids_stands t make h (i1 ∷ i0 ∷ []) b = tt
ids_stands t make h (i1 ∷ i0 ∷ m1 ∷ []) b = tt
ids_stands t make h (i1 ∷ i0 ∷ m1 ∷ m0 ∷ []) b = tt
ids_stands t make h (i1 ∷ i0 ∷ m1 ∷ m0 ∷ c ∷ []) b =
    let P : List ℕ → Type 0 = λ body. IsOf t body (make (number i1 i0) (number m1 m0) c) in
    subst P (numbers-cells i1 i0 m1 m0 (c ∷ []) (b 0) (b 1) (b 2) (b 3))
    (h (number i1 i0) (number m1 m0) c (number-fits i1 i0 (b 0) (b 1)) (number-fits m1 m0 (b 2) (b 3)))
ids_stands t make h (i1 ∷ i0 ∷ m1 ∷ m0 ∷ c ∷ x ∷ body) b = tt

-- a body of flags, a message id and a topic
filter_stands : (t : MsgType) (make : Flags → ℕ → List ℕ → Frame)
    → ((bits m : ℕ) (topic : List ℕ) → m < 2 ^ 16 → IsTopicField (kind_of bits) topic → IsOf t ((bits ∷ big_bytes 2 m) ++ topic) (make (record { bits = bits }) m topic))
    → (body : List ℕ) → IsBytes body → Stands t body (option_map (λ x. make x.0 x.1 x.2) (read_filter body))
filter_stands t make h [] b = tt
filter_stands t make h (bits ∷ []) b = tt
filter_stands t make h (bits ∷ m1 ∷ []) b = tt
filter_stands t make h (bits ∷ m1 ∷ m0 ∷ topic) b =
    let P : List ℕ → Type 0 = λ two. IsOf t ((bits ∷ two) ++ topic) (make (record { bits = bits }) (number m1 m0) topic) in
    let made : IsTopicField (kind_of bits) topic → IsOf t (bits ∷ m1 ∷ m0 ∷ topic) (make (record { bits = bits }) (number m1 m0) topic) =
    λ fits. subst P (octets-number m1 m0 (b 1) (b 2)) (h bits (number m1 m0) topic (number-fits m1 m0 (b 1) (b 2)) fits) in
    filter_guard t make bits (number m1 m0) topic (bits ∷ m1 ∷ m0 ∷ topic) (fits_topic (kind_of bits) topic) (λ e. made (true-fits (kind_of bits) topic e))

-- a will that was read has the octets that it was read from
will_back : (body : List ℕ) → will_octets (read_will body) ≡ body
will_back [] = refl
will_back (bits ∷ topic) = refl

-- the bodies that one message alone has
advertise_stands : (body : List ℕ) → IsBytes body → Stands types.Advertise body (read_advertise body)
advertise_stands [] b = tt
advertise_stands (g ∷ []) b = tt
advertise_stands (g ∷ x ∷ []) b = tt
advertise_stands (g ∷ x ∷ y ∷ []) b = (tt, number-fits x y (b 1) (b 2), refl, ap (λ n. g ∷ n) (octets-number x y (b 1) (b 2)))
advertise_stands (g ∷ x ∷ y ∷ z ∷ body) b = tt

gw_info_stands : (body : List ℕ) → Stands types.GwInfo body (read_gw_info body)
gw_info_stands [] = tt
gw_info_stands (g ∷ address) = (tt, tt, refl, refl)

connect_stands : (body : List ℕ) → IsBytes body → Stands types.Connect body (read_connect body)
connect_stands [] b = tt
connect_stands (f ∷ []) b = tt
connect_stands (f ∷ p ∷ []) b = tt
connect_stands (f ∷ p ∷ x ∷ []) b = tt
connect_stands (f ∷ p ∷ x ∷ y ∷ client) b =
    guarded (leb 1 (length client) && leb (length client) 23) types.Connect (f ∷ p ∷ x ∷ y ∷ client) (frames.Connect (record { bits = f }) p (number x y) client)
    (λ e. (
      (leb-true _ _ (first_of_both _ _ e), leb-true _ _ (second_of_both _ _ e)),
      number-fits x y (b 2) (b 3),
      refl,
      ap (λ n. (f ∷ p ∷ n) ++ client) (octets-number x y (b 2) (b 3)),
    ))

register_stands : (body : List ℕ) → IsBytes body → Stands types.Register body (read_register body)
register_stands [] b = tt
register_stands (i1 ∷ []) b = tt
register_stands (i1 ∷ i0 ∷ []) b = tt
register_stands (i1 ∷ i0 ∷ m1 ∷ []) b = tt
register_stands (i1 ∷ i0 ∷ m1 ∷ m0 ∷ name) b =
    (tt, (number-fits i1 i0 (b 0) (b 1), number-fits m1 m0 (b 2) (b 3)), refl, numbers-cells i1 i0 m1 m0 name (b 0) (b 1) (b 2) (b 3))

publish_stands : (body : List ℕ) → IsBytes body → Stands types.Publish body (read_publish body)
publish_stands [] b = tt
publish_stands (f ∷ []) b = tt
publish_stands (f ∷ i1 ∷ []) b = tt
publish_stands (f ∷ i1 ∷ i0 ∷ []) b = tt
publish_stands (f ∷ i1 ∷ i0 ∷ m1 ∷ []) b = tt
publish_stands (f ∷ i1 ∷ i0 ∷ m1 ∷ m0 ∷ message) b =
    (tt, (number-fits i1 i0 (b 1) (b 2), number-fits m1 m0 (b 3) (b 4)), refl, ap (λ n. f ∷ n) (numbers-cells i1 i0 m1 m0 message (b 1) (b 2) (b 3) (b 4)))

sub_ack_stands : (body : List ℕ) → IsBytes body → Stands types.SubAck body (read_sub_ack body)
sub_ack_stands [] b = tt
sub_ack_stands (f ∷ []) b = tt
sub_ack_stands (f ∷ i1 ∷ []) b = tt
sub_ack_stands (f ∷ i1 ∷ i0 ∷ []) b = tt
sub_ack_stands (f ∷ i1 ∷ i0 ∷ m1 ∷ []) b = tt
sub_ack_stands (f ∷ i1 ∷ i0 ∷ m1 ∷ m0 ∷ []) b = tt
sub_ack_stands (f ∷ i1 ∷ i0 ∷ m1 ∷ m0 ∷ c ∷ []) b =
    (tt, (number-fits i1 i0 (b 1) (b 2), number-fits m1 m0 (b 3) (b 4)), refl, ap (λ n. f ∷ n) (numbers-cells i1 i0 m1 m0 (c ∷ []) (b 1) (b 2) (b 3) (b 4)))
sub_ack_stands (f ∷ i1 ∷ i0 ∷ m1 ∷ m0 ∷ c ∷ x ∷ body) b = tt

ping_req_stands : (body : List ℕ) → Stands types.PingReq body (read_ping_req body)
ping_req_stands body = guarded (leb (length body) 23) types.PingReq body (frames.PingReq body) (λ e. (leb-true _ _ e, tt, refl, refl))

disconnect_stands : (body : List ℕ) → IsBytes body → Stands types.Disconnect body (read_disconnect body)
disconnect_stands [] b = (tt, tt, refl, refl)
disconnect_stands (x ∷ []) b = tt
disconnect_stands (x ∷ y ∷ []) b = (tt, number-fits x y (b 0) (b 1), refl, octets-number x y (b 0) (b 1))
disconnect_stands (x ∷ y ∷ z ∷ body) b = tt

-- what was read from a body is a frame with that body
pub frame_stands : (t : MsgType) (body : List ℕ) → IsBytes body → Stands t body (frame_of t body)
frame_stands types.Advertise body b = advertise_stands body b
frame_stands types.SearchGw body b = octet_stands types.SearchGw (λ n. frames.SearchGw n) (λ n. (tt, tt, refl, refl)) body
frame_stands types.GwInfo body b = gw_info_stands body
frame_stands types.Connect body b = connect_stands body b
frame_stands types.ConnAck body b = octet_stands types.ConnAck (λ n. frames.ConnAck n) (λ n. (tt, tt, refl, refl)) body
frame_stands types.WillTopicReq body b = bare_stands types.WillTopicReq frames.WillTopicReq (tt, tt, refl, refl) body
frame_stands types.WillTopic body b = (tt, tt, refl, will_back body)
frame_stands types.WillMsgReq body b = bare_stands types.WillMsgReq frames.WillMsgReq (tt, tt, refl, refl) body
frame_stands types.WillMsg body b = (tt, tt, refl, refl)
frame_stands types.Register body b = register_stands body b
frame_stands types.RegAck body b = ids_stands types.RegAck (λ i m c. frames.RegAck i m c) (λ i m c p q. (tt, (p, q), refl, refl)) body b
frame_stands types.Publish body b = publish_stands body b
frame_stands types.PubAck body b = ids_stands types.PubAck (λ i m c. frames.PubAck i m c) (λ i m c p q. (tt, (p, q), refl, refl)) body b
frame_stands types.PubComp body b = number_stands types.PubComp (λ n. frames.PubComp n) (λ n fits. (tt, fits, refl, refl)) body b
frame_stands types.PubRec body b = number_stands types.PubRec (λ n. frames.PubRec n) (λ n fits. (tt, fits, refl, refl)) body b
frame_stands types.PubRel body b = number_stands types.PubRel (λ n. frames.PubRel n) (λ n fits. (tt, fits, refl, refl)) body b
frame_stands types.Subscribe body b = filter_stands types.Subscribe (λ f m topic. frames.Subscribe f m topic) (λ bits m topic p fits. (fits, p, refl, refl)) body b
frame_stands types.SubAck body b = sub_ack_stands body b
frame_stands types.Unsubscribe body b = filter_stands types.Unsubscribe (λ f m topic. frames.Unsubscribe f m topic) (λ bits m topic p fits. (fits, p, refl, refl)) body b
frame_stands types.UnsubAck body b = number_stands types.UnsubAck (λ n. frames.UnsubAck n) (λ n fits. (tt, fits, refl, refl)) body b
frame_stands types.PingReq body b = ping_req_stands body
frame_stands types.PingResp body b = bare_stands types.PingResp frames.PingResp (tt, tt, refl, refl) body
frame_stands types.Disconnect body b = disconnect_stands body b
frame_stands types.WillTopicUpd body b = (tt, tt, refl, will_back body)
frame_stands types.WillTopicResp body b = octet_stands types.WillTopicResp (λ n. frames.WillTopicResp n) (λ n. (tt, tt, refl, refl)) body
frame_stands types.WillMsgUpd body b = (tt, tt, refl, refl)
frame_stands types.WillMsgResp body b = octet_stands types.WillMsgResp (λ n. frames.WillMsgResp n) (λ n. (tt, tt, refl, refl)) body

-- a frame's body reads as the frame
pub reads_back : (f : Frame) → IsValue f → IsMessage f → frame_of (type_of f) (body_of f) ≡ Some f
reads_back (frames.Advertise g d) v h = ap (λ x. Some (frames.Advertise g x)) (number-octets d v)
reads_back (frames.SearchGw x) v h = refl
reads_back (frames.GwInfo g address) v h = refl
reads_back (frames.Connect f p d client) v h =
    chosen (leb 1 (length client) && leb (length client) 23) _ None (both _ _ (le-leb _ _ h.0) (le-leb _ _ h.1)) ∙ ap (λ x. Some (frames.Connect f p x client)) (number-octets d v)
reads_back (frames.ConnAck x) v h = refl
reads_back frames.WillTopicReq v h = refl
reads_back (frames.WillTopic None) v h = refl
reads_back (frames.WillTopic (Some w)) v h = refl
reads_back frames.WillMsgReq v h = refl
reads_back (frames.WillMsg x) v h = refl
reads_back (frames.Register i m name) v h = let e = number-octets i v.0 in let d = number-octets m v.1 in cc
reads_back (frames.RegAck i m c) v h = let e = number-octets i v.0 in let d = number-octets m v.1 in cc
reads_back (frames.Publish f i m message) v h = let e = number-octets i v.0 in let d = number-octets m v.1 in cc
reads_back (frames.PubAck i m c) v h = let e = number-octets i v.0 in let d = number-octets m v.1 in cc
reads_back (frames.PubComp n) v h = ap (λ x. Some (frames.PubComp x)) (number-octets n v)
reads_back (frames.PubRec n) v h = ap (λ x. Some (frames.PubRec x)) (number-octets n v)
reads_back (frames.PubRel n) v h = ap (λ x. Some (frames.PubRel x)) (number-octets n v)
reads_back (frames.Subscribe f m topic) v h =
    let P : Option (Flags × ℕ × List ℕ) → Type 0 = λ read. option_map (λ x. frames.Subscribe x.0 x.1 x.2) read ≡ Some (frames.Subscribe f m topic) in
    subst P (sym (chosen (fits_topic (kind_of f.bits) topic) _ None (fits-true (kind_of f.bits) topic h))) (ap (λ x. Some (frames.Subscribe f x topic)) (number-octets m v))
reads_back (frames.SubAck f i m c) v h = let e = number-octets i v.0 in let d = number-octets m v.1 in cc
reads_back (frames.Unsubscribe f m topic) v h =
    let P : Option (Flags × ℕ × List ℕ) → Type 0 = λ read. option_map (λ x. frames.Unsubscribe x.0 x.1 x.2) read ≡ Some (frames.Unsubscribe f m topic) in
    subst P (sym (chosen (fits_topic (kind_of f.bits) topic) _ None (fits-true (kind_of f.bits) topic h))) (ap (λ x. Some (frames.Unsubscribe f x topic)) (number-octets m v))
reads_back (frames.UnsubAck n) v h = ap (λ x. Some (frames.UnsubAck x)) (number-octets n v)
reads_back (frames.PingReq client) v h = chosen (leb (length client) 23) _ None (le-leb _ _ h)
reads_back frames.PingResp v h = refl
reads_back (frames.Disconnect None) v h = refl
reads_back (frames.Disconnect (Some d)) v h = ap (λ x. Some (frames.Disconnect (Some x))) (number-octets d v)
reads_back (frames.WillTopicUpd None) v h = refl
reads_back (frames.WillTopicUpd (Some w)) v h = refl
reads_back (frames.WillTopicResp x) v h = refl
reads_back (frames.WillMsgUpd x) v h = refl
reads_back (frames.WillMsgResp x) v h = refl
