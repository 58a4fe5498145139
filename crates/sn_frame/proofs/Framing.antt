-- a framing has one type and one body, and a type one octet
use Rattle.std.proofs.Common.{◌≡◌, ℕ, suc, ◌+◌, ◌==◌, inl, inr, cond, List, [], length, Option, Some, None, refl, ap, sym, subst, arith}
use Rattle.std.specs.Prelude.{slice_get}
use Rattle.std.proofs.lemmas.Bool.{ne_eqb}
use Rattle.sn_frame.specs.declared.msg_type.MsgType.{MsgType}
use Rattle.sn_frame.specs.declared.msg_type.MsgType.TheVariants as types
use Rattle.sn_frame.specs.Grammar.{IsFramed, short_form, long_form}
use Rattle.sn_frame.specs.Faults.{type_place}
use Rattle.sn_frame.specs.Types.{octet_of}
use Rattle.sn_frame.proofs.Numbers.{IsBytes, otherwise}

-- octets in one form of Length have it in no other way
pub one_framing : (bytes : List ℕ) (j k : ℕ) (a b : List ℕ) → IsFramed bytes j a → IsFramed bytes k b → (j ≡ k) × (a ≡ b)
one_framing bytes j k a b (inl p) (inl q) = let e = p.1 in let d = q.1 in (cc, cc)
one_framing bytes j k a b (inl p) (inr q) =
    let e = p.1 in let d = q.1 in let two : length a + 2 ≡ 1 = cc in absurd (omega arith)
one_framing bytes j k a b (inr p) (inl q) =
    let e = p.1 in let d = q.1 in let two : length b + 2 ≡ 1 = cc in absurd (omega arith)
one_framing bytes j k a b (inr p) (inr q) = let e = p.1 in let d = q.1 in (cc, cc)

-- a body's octets are octets of the frame
pub body_bytes : (bytes : List ℕ) (kind : ℕ) (body : List ℕ) → IsBytes bytes → IsFramed bytes kind body → IsBytes body
body_bytes bytes kind body h (inl p) =
    let whole : IsBytes (short_form kind body) = let P : List ℕ → Type 0 = λ x. IsBytes x in subst P p.1 h in
    λ i. whole (suc (suc i))
body_bytes bytes kind body h (inr p) =
    let whole : IsBytes (long_form kind body) = let P : List ℕ → Type 0 = λ x. IsBytes x in subst P p.1 h in
    λ i. whole (suc (suc (suc (suc i))))

-- the type of an octet
abbrev type_at : ℕ → Option MsgType
type_at n =
    cond (n == 0x00) (Some types.Advertise) (
    cond (n == 0x01) (Some types.SearchGw) (
    cond (n == 0x02) (Some types.GwInfo) (
    cond (n == 0x04) (Some types.Connect) (
    cond (n == 0x05) (Some types.ConnAck) (
    cond (n == 0x06) (Some types.WillTopicReq) (
    cond (n == 0x07) (Some types.WillTopic) (
    cond (n == 0x08) (Some types.WillMsgReq) (
    cond (n == 0x09) (Some types.WillMsg) (
    cond (n == 0x0A) (Some types.Register) (
    cond (n == 0x0B) (Some types.RegAck) (
    cond (n == 0x0C) (Some types.Publish) (
    cond (n == 0x0D) (Some types.PubAck) (
    cond (n == 0x0E) (Some types.PubComp) (
    cond (n == 0x0F) (Some types.PubRec) (
    cond (n == 0x10) (Some types.PubRel) (
    cond (n == 0x12) (Some types.Subscribe) (
    cond (n == 0x13) (Some types.SubAck) (
    cond (n == 0x14) (Some types.Unsubscribe) (
    cond (n == 0x15) (Some types.UnsubAck) (
    cond (n == 0x16) (Some types.PingReq) (
    cond (n == 0x17) (Some types.PingResp) (
    cond (n == 0x18) (Some types.Disconnect) (
    cond (n == 0x1A) (Some types.WillTopicUpd) (
    cond (n == 0x1B) (Some types.WillTopicResp) (
    cond (n == 0x1C) (Some types.WillMsgUpd) (
    cond (n == 0x1D) (Some types.WillMsgResp) (
    None)))))))))))))))))))))))))))

type_at-octet : (t : MsgType) → type_at (octet_of t) ≡ Some t
type_at-octet types.Advertise = refl
type_at-octet types.SearchGw = refl
type_at-octet types.GwInfo = refl
type_at-octet types.Connect = refl
type_at-octet types.ConnAck = refl
type_at-octet types.WillTopicReq = refl
type_at-octet types.WillTopic = refl
type_at-octet types.WillMsgReq = refl
type_at-octet types.WillMsg = refl
type_at-octet types.Register = refl
type_at-octet types.RegAck = refl
type_at-octet types.Publish = refl
type_at-octet types.PubAck = refl
type_at-octet types.PubComp = refl
type_at-octet types.PubRec = refl
type_at-octet types.PubRel = refl
type_at-octet types.Subscribe = refl
type_at-octet types.SubAck = refl
type_at-octet types.Unsubscribe = refl
type_at-octet types.UnsubAck = refl
type_at-octet types.PingReq = refl
type_at-octet types.PingResp = refl
type_at-octet types.Disconnect = refl
type_at-octet types.WillTopicUpd = refl
type_at-octet types.WillTopicResp = refl
type_at-octet types.WillMsgUpd = refl
type_at-octet types.WillMsgResp = refl

-- no two types have one octet
pub one_type : (t u : MsgType) → octet_of t ≡ octet_of u → t ≡ u
one_type t u e =
    let p = type_at-octet t in
    let q = type_at-octet u in
    let r = ap type_at e in
    cc

-- and none has the octet of encapsulation
pub no_capsule : (t : MsgType) → octet_of t ≡ 0xFE → ⊥
no_capsule t e =
    let p = type_at-octet t in
    let q : type_at (octet_of t) ≡ None = ap type_at e in
    cc

-- the type's octet stands in its place
pub framed_place : (bytes : List ℕ) (kind : ℕ) (body : List ℕ) → IsFramed bytes kind body → type_place bytes ≡ Some kind
framed_place bytes kind body (inl p) =
    let P : List ℕ → Type 0 = λ x. type_place x ≡ Some kind in
    subst P (sym p.1) (otherwise ((length body + 2) == 1) (slice_get (short_form kind body) 3) (Some kind) (ne_eqb _ _ (λ e. omega arith)))
framed_place bytes kind body (inr p) =
    let P : List ℕ → Type 0 = λ x. type_place x ≡ Some kind in
    subst P (sym p.1) refl

-- a frame has octets
pub framed_there : (bytes : List ℕ) (kind : ℕ) (body : List ℕ) → IsFramed bytes kind body → bytes ≡ [] → ⊥
framed_there bytes kind body (inl p) e = let d = p.1 in cc
framed_there bytes kind body (inr p) e = let d = p.1 in cc
