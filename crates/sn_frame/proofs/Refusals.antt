-- what a frame that is spelled says about reading, and about refusals
use Rattle.std.proofs.Common.{◌≡◌, ℕ, ◌+◌, ◌≤◌, ◌⊎◌, inl, inr, Bool, true, false, leb, List, [], length, Option, Some, None, refl, ap, sym, subst, arith}
use Rattle.std.proofs.lemmas.Bool.{leb-true}
use Rattle.std.specs.Prelude.{Result, Ok, Err, IfOk, IfErr, IsTrue, ◌≢◌}
use Rattle.sn_frame.specs.declared.fault.FrameFault.{FrameFault}
use Rattle.sn_frame.specs.declared.fault.FrameFault.TheVariants as faults
use Rattle.sn_frame.specs.declared.frame.Frame.{Frame}
use Rattle.sn_frame.specs.declared.frame.Frame.TheVariants as frames
use Rattle.sn_frame.specs.declared.msg_type.MsgType.{MsgType}
use Rattle.sn_frame.specs.Bodies.{type_of, body_of, is_light, IsMessage, IsValue}
use Rattle.sn_frame.specs.Faults.{IsFirstFault, IsPlain, type_place}
use Rattle.sn_frame.specs.Grammar.{IsFramed, Spells, spelling, total_of}
use Rattle.sn_frame.specs.inner.Reading.{copies, frame_of, ReadsFrame, WantsFor}
use Rattle.sn_frame.specs.Types.{octet_of}
use Rattle.sn_frame.proofs.Framing.{one_framing, one_type, no_capsule, framed_place, framed_there, body_bytes}
use Rattle.sn_frame.proofs.Numbers.{IsBytes, chosen, otherwise}
use Rattle.sn_frame.proofs.ReadBodies.{reads_back, frame_stands, Stands}

-- a frame that is spelled is the one that is read
pub only_read : (bytes : List ℕ) (t : MsgType) (body : List ℕ) (f : Frame)
    → IsFramed bytes (octet_of t) body → IsValue f → Spells bytes f → frame_of t body ≡ Some f
only_read bytes t body f framed v spells =
    let one = one_framing bytes _ _ _ _ framed spells.framed in
    let kind : t ≡ type_of f = one_type t (type_of f) one.0 in
    let parts : body ≡ body_of f = one.1 in
    let back = reads_back f v spells.message in
    cc

-- no octets spell two frames
pub one_frame : (bytes : List ℕ) (f g : Frame) → IsValue f → IsValue g → Spells bytes f → Spells bytes g → f ≡ g
one_frame bytes f g v w p q =
    let first = only_read bytes (type_of f) (body_of f) f p.framed v p in
    let second = only_read bytes (type_of f) (body_of f) g p.framed w q in
    cc

-- a total that is said in either form fits the long one
framed_fits : (bytes : List ℕ) (kind : ℕ) (body : List ℕ) → IsFramed bytes kind body → length body + 4 ≤ 65535
framed_fits bytes kind body (inl p) = let small : length body + 2 ≤ 255 = p.0 in omega arith
framed_fits bytes kind body (inr p) = p.0

-- the form that the test of the size chooses
canonical_of : (test : Bool) (f : Frame) → IsMessage f → total_of f ≤ 65535 → leb (length (body_of f) + 2) 255 ≡ test → Spells (spelling f) f
canonical_of true f h fits e = record { message = h; framed = inl (leb-true _ _ e, chosen _ _ _ e) }
canonical_of false f h fits e = record { message = h; framed = inr (fits, otherwise _ _ _ e) }

-- the canonical form of a frame that fits spells it
pub fitting_spelled : (f : Frame) → IsMessage f → total_of f ≤ 65535 → Spells (spelling f) f
fitting_spelled f h fits = canonical_of (leb (length (body_of f) + 2) 255) f h fits refl

-- and so does that of a frame that is spelled
pub spelled_canonical : (bytes : List ℕ) (f : Frame) → Spells bytes f → Spells (spelling f) f
spelled_canonical bytes f s = fitting_spelled f s.message (framed_fits bytes _ (body_of f) s.framed)

-- the octets of a frame have no fault, but memory may be wanted for it
pub is_refused : (bytes : List ℕ) (e : FrameFault) (f : Frame) → IsFirstFault bytes e → IsValue f → Spells bytes f → e ≡ faults.Memory
is_refused bytes faults.Empty f p v s = absurd (framed_there bytes _ _ s.framed p)
is_refused bytes faults.Encapsulated f p v s =
    let place = framed_place bytes _ _ s.framed in
    let octet : octet_of (type_of f) ≡ 0xFE = cc in
    absurd (no_capsule (type_of f) octet)
is_refused bytes (faults.Length said held) f p v s = absurd (p.1 _ _ s.framed)
is_refused bytes (faults.UnknownType kind) f p v s =
    let one = one_framing bytes _ _ _ _ s.framed p.1.1 in
    absurd (p.2 (type_of f, one.0))
is_refused bytes faults.Body f p v s = absurd (p.2 f v s)
is_refused bytes faults.Memory f p v s = refl

-- no octets and encapsulation
empty_or_capsule : (bytes : List ℕ) → bytes ≡ [] → type_place bytes ≡ Some 0xFE → ⊥
empty_or_capsule bytes p q =
    let none : type_place bytes ≡ None = ap type_place p in
    cc

-- an unknown type and a body of a known one
unknown_or_body : (bytes : List ℕ) (kind : ℕ) → IsFirstFault bytes (faults.UnknownType kind) → IsFirstFault bytes faults.Body → ⊥
unknown_or_body bytes kind p q =
    let one = one_framing bytes _ _ _ _ q.1.2 p.1.1 in
    p.2 (q.1.0, one.0)

-- a datagram has one first fault
pub one_first_fault : (bytes : List ℕ) (d e : FrameFault) → IsFirstFault bytes d → IsFirstFault bytes e → d ≡ e
one_first_fault bytes faults.Empty faults.Empty p q = refl
one_first_fault bytes faults.Empty faults.Encapsulated p q = absurd (empty_or_capsule bytes p q)
one_first_fault bytes faults.Empty (faults.Length ysaid yheld) p q = absurd (q.0.there p)
one_first_fault bytes faults.Empty (faults.UnknownType y) p q = absurd (q.0.there p)
one_first_fault bytes faults.Empty faults.Body p q = absurd (q.0.there p)
one_first_fault bytes faults.Encapsulated faults.Empty p q = absurd (empty_or_capsule bytes q p)
one_first_fault bytes faults.Encapsulated faults.Encapsulated p q = refl
one_first_fault bytes faults.Encapsulated (faults.Length ysaid yheld) p q = absurd (q.0.plain p)
one_first_fault bytes faults.Encapsulated (faults.UnknownType y) p q = absurd (q.0.plain p)
one_first_fault bytes faults.Encapsulated faults.Body p q = absurd (q.0.plain p)
one_first_fault bytes (faults.Length xsaid xheld) faults.Empty p q = absurd (p.0.there q)
one_first_fault bytes (faults.Length xsaid xheld) faults.Encapsulated p q = absurd (p.0.plain q)
one_first_fault bytes (faults.Length xsaid xheld) (faults.Length ysaid yheld) p q = let s = p.2 in let t = q.2 in let h = p.3 in let k = q.3 in cc
one_first_fault bytes (faults.Length xsaid xheld) (faults.UnknownType y) p q = absurd (p.1 _ _ q.1.1)
one_first_fault bytes (faults.Length xsaid xheld) faults.Body p q = absurd (p.1 _ _ q.1.2)
one_first_fault bytes (faults.UnknownType x) faults.Empty p q = absurd (p.0.there q)
one_first_fault bytes (faults.UnknownType x) faults.Encapsulated p q = absurd (p.0.plain q)
one_first_fault bytes (faults.UnknownType x) (faults.Length ysaid yheld) p q = absurd (q.1 _ _ p.1.1)
one_first_fault bytes (faults.UnknownType x) (faults.UnknownType y) p q = let one = one_framing bytes _ _ _ _ p.1.1 q.1.1 in ap (λ kind. faults.UnknownType kind) one.0
one_first_fault bytes (faults.UnknownType x) faults.Body p q = absurd (unknown_or_body bytes _ p q)
one_first_fault bytes faults.Body faults.Empty p q = absurd (p.0.there q)
one_first_fault bytes faults.Body faults.Encapsulated p q = absurd (p.0.plain q)
one_first_fault bytes faults.Body (faults.Length ysaid yheld) p q = absurd (q.1 _ _ p.1.2)
one_first_fault bytes faults.Body (faults.UnknownType y) p q = absurd (unknown_or_body bytes _ q p)
one_first_fault bytes faults.Body faults.Body p q = refl
one_first_fault bytes d faults.Memory p q = is_refused bytes d q.0 p q.1.0 q.1.1
one_first_fault bytes faults.Memory e p q = sym (is_refused bytes e p.0 q p.1.0 p.1.1)

-- what was read from a frame's body is spelled by the frame
read_spells : (bytes : List ℕ) (t : MsgType) (body : List ℕ) (f : Frame)
    → IsBytes bytes → IsFramed bytes (octet_of t) body → frame_of t body ≡ Some f → IsValue f × Spells bytes f
read_spells bytes t body f b framed read =
    let P : Option Frame → Type 0 = λ x. Stands t body x in
    let is = subst P read (frame_stands t body (body_bytes bytes _ body b framed)) in
    let Q : MsgType → List ℕ → Type 0 = λ u x. IsFramed bytes (octet_of u) x in
    let R : MsgType → Type 0 = λ u. Q u body in
    let S : List ℕ → Type 0 = λ x. Q (type_of f) x in
    (is.1, record { message = is.0; framed = subst S (sym is.3) (subst R (sym is.2) framed) })

-- what stands in an option that is not empty
there : (x : Option Frame) → x ≢ None → (f : Frame) × (x ≡ Some f)
there None h = absurd (h refl)
there (Some f) h = (f, refl)

-- what reading a body answers, as an answer to the whole datagram
pub answers_ok : (bytes : List ℕ) (t : MsgType) (body : List ℕ) (r : Result Frame FrameFault)
    → IsBytes bytes → IsFramed bytes (octet_of t) body → ReadsFrame (frame_of t body) r → IfOk r (Spells bytes)
answers_ok bytes t body (Ok f) b framed read = (read_spells bytes t body f b framed read).1
answers_ok bytes t body (Err e) b framed read = tt

pub answers_value : (bytes : List ℕ) (t : MsgType) (body : List ℕ) (r : Result Frame FrameFault)
    → IsBytes bytes → IsFramed bytes (octet_of t) body → ReadsFrame (frame_of t body) r → IfOk r IsValue
answers_value bytes t body (Ok f) b framed read = (read_spells bytes t body f b framed read).0
answers_value bytes t body (Err e) b framed read = tt

pub answers_only : (bytes : List ℕ) (t : MsgType) (body : List ℕ) (r : Result Frame FrameFault) (f : Frame)
    → IsFramed bytes (octet_of t) body → ReadsFrame (frame_of t body) r → IsValue f → Spells bytes f → (r ≡ Ok f) ⊎ (r ≡ Err faults.Memory)
answers_only bytes t body (Ok g) f framed read v s = let only = only_read bytes t body f framed v s in inl cc
answers_only bytes t body (Err faults.Memory) f framed read v s = inr refl
answers_only bytes t body (Err faults.Body) f framed read v s = let only = only_read bytes t body f framed v s in absurd cc
answers_only bytes t body (Err faults.Empty) f framed read v s = absurd read
answers_only bytes t body (Err faults.Encapsulated) f framed read v s = absurd read
answers_only bytes t body (Err (faults.Length said held)) f framed read v s = absurd read
answers_only bytes t body (Err (faults.UnknownType kind)) f framed read v s = absurd read

-- a frame without octets copies none
copies_none : (f : Frame) → IsTrue (is_light f) → copies (type_of f) (body_of f) ≡ false
copies_none (frames.Advertise g d) h = refl
copies_none (frames.SearchGw x) h = refl
copies_none (frames.GwInfo g address) h = absurd cc
copies_none (frames.Connect f p d client) h = absurd cc
copies_none (frames.ConnAck x) h = refl
copies_none frames.WillTopicReq h = refl
copies_none (frames.WillTopic None) h = refl
copies_none (frames.WillTopic (Some w)) h = absurd cc
copies_none frames.WillMsgReq h = refl
copies_none (frames.WillMsg x) h = absurd cc
copies_none (frames.Register i m name) h = absurd cc
copies_none (frames.RegAck i m c) h = refl
copies_none (frames.Publish f i m message) h = absurd cc
copies_none (frames.PubAck i m c) h = refl
copies_none (frames.PubComp n) h = refl
copies_none (frames.PubRec n) h = refl
copies_none (frames.PubRel n) h = refl
copies_none (frames.Subscribe f m topic) h = absurd cc
copies_none (frames.SubAck f i m c) h = refl
copies_none (frames.Unsubscribe f m topic) h = absurd cc
copies_none (frames.UnsubAck n) h = refl
copies_none (frames.PingReq client) h = absurd cc
copies_none frames.PingResp h = refl
copies_none (frames.Disconnect d) h = refl
copies_none (frames.WillTopicUpd None) h = refl
copies_none (frames.WillTopicUpd (Some w)) h = absurd cc
copies_none (frames.WillTopicResp x) h = refl
copies_none (frames.WillMsgUpd x) h = absurd cc
copies_none (frames.WillMsgResp x) h = refl

-- so no memory is wanted for it
light_of : (copied : Bool) (r : Result Frame FrameFault) (f : Frame) → copied ≡ false → WantsFor copied r → (r ≡ Ok f) ⊎ (r ≡ Err faults.Memory) → r ≡ Ok f
light_of true r f e wants answer = absurd cc
light_of false r f e wants (inl is) = is
light_of false r f e wants (inr is) =
    let P : Result Frame FrameFault → Type 0 = λ x. WantsFor false x in absurd (subst P is wants refl)

pub answers_light : (bytes : List ℕ) (t : MsgType) (body : List ℕ) (r : Result Frame FrameFault) (f : Frame)
    → IsFramed bytes (octet_of t) body → ReadsFrame (frame_of t body) r → WantsFor (copies t body) r → IsValue f → Spells bytes f → IsTrue (is_light f) → r ≡ Ok f
answers_light bytes t body r f framed read wants v s h =
    let one = one_framing bytes _ _ _ _ framed s.framed in
    let kind : t ≡ type_of f = one_type t (type_of f) one.0 in
    let parts : body ≡ body_of f = one.1 in
    let none = copies_none f h in
    let copied : copies t body ≡ false = cc in
    light_of (copies t body) r f copied wants (answers_only bytes t body r f framed read v s)

pub answers_fault : (bytes : List ℕ) (t : MsgType) (body : List ℕ) (r : Result Frame FrameFault)
    → IsBytes bytes → IsPlain bytes → IsFramed bytes (octet_of t) body → ReadsFrame (frame_of t body) r → IfErr r (IsFirstFault bytes)
answers_fault bytes t body (Ok g) b plain framed read = tt
answers_fault bytes t body (Err faults.Memory) b plain framed read =
    let found = there _ read in
    (found.0, read_spells bytes t body found.0 b framed found.1)
answers_fault bytes t body (Err faults.Body) b plain framed read =
    (plain, (t, body, framed), λ f v s. let only = only_read bytes t body f framed v s in absurd cc)
answers_fault bytes t body (Err faults.Empty) b plain framed read = absurd read
answers_fault bytes t body (Err faults.Encapsulated) b plain framed read = absurd read
answers_fault bytes t body (Err (faults.Length said held)) b plain framed read = absurd read
answers_fault bytes t body (Err (faults.UnknownType kind)) b plain framed read = absurd read
