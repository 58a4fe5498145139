-- The two forms of a frame, MQTT-SN 1.2 section 5.2.1. Length counts all octets of the frame,
-- itself included.
use Rattle.std.specs.Prelude.{◌≡◌, ℕ, ◌+◌, ◌≤◌, nat_le, if◌then◌else◌, ◌⊎◌, List, ◌∷◌, ◌++◌, length}
use Rattle.byteorder.specs.Endian.{big_bytes}
use Rattle.sn_frame.specs.declared.frame.Frame.{Frame}
use Rattle.sn_frame.specs.declared.frame.TheConstants.{MAX_FRAME}
use Rattle.sn_frame.specs.Bodies.{type_of, body_of, IsMessage}
use Rattle.sn_frame.specs.Types.{octet_of}

-- the short form: the total in one octet, the type, the body (5.2.1)
abbrev pub short_form : ℕ → List ℕ → List ℕ
short_form kind body = (length body + 2) ∷ kind ∷ body

-- the long form: a 1, the total in two octets, the type, the body (5.2.1)
abbrev pub long_form : ℕ → List ℕ → List ℕ
long_form kind body = (1 ∷ big_bytes 2 (length body + 4)) ++ kind ∷ body

-- The octets are the octet of a type, and a body, in one of the forms, and the total fits its
-- place.
abbrev pub IsFramed : List ℕ → ℕ → List ℕ → Type 0
IsFramed bytes kind body =
    ((length body + 2 ≤ 255) × (bytes ≡ short_form kind body))
    ⊎ ((length body + 4 ≤ MAX_FRAME) × (bytes ≡ long_form kind body))

-- The octets spell the frame: its sizes are allowed, and they are its type and body in one of the
-- forms.
pub record Spells (bytes : List ℕ) (f : Frame) : Type 0 where
  pub message : IsMessage f
  pub framed : IsFramed bytes (octet_of (type_of f)) (body_of f)

-- the form that is written: the short one wherever the total fits one octet
abbrev pub framed_of : ℕ → List ℕ → List ℕ
framed_of kind body =
    if nat_le (length body + 2) 255 then short_form kind body else long_form kind body

-- the canonical spelling: in the short form if the total is at most 255
abbrev pub spelling : Frame → List ℕ
spelling f = framed_of (octet_of (type_of f)) (body_of f)

-- the total in its long form, which is the greatest that its Length has to say
abbrev pub total_of : Frame → ℕ
total_of f = length (body_of f) + 4
