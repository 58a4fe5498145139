-- What the fields of flags are, whatever the others are.
use Rattle.std.proofs.Common.{◌≡◌, ◌+◌, ◌↔◌, Bool, true, false, IsTrue, IsBitSet, refl, arith}
use Rattle.sn_frame.specs.declared.flags.Qos.{Qos}
use Rattle.sn_frame.specs.declared.flags.Qos.TheVariants as levels
use Rattle.sn_frame.specs.declared.flags.TopicIdType.{TopicIdType}
use Rattle.sn_frame.specs.declared.flags.TopicIdType.TheVariants as kinds
use Rattle.sn_frame.specs.FlagBits.{qos_of, kind_of, kind_bits}
use Rattle.sn_client.specs.inner.Asking.{qos_flag_bits, retain_flag_bit}

-- the quality of service
pub flags_qos : (q : Qos) (r : Bool) (k : TopicIdType) → qos_of (qos_flag_bits q + retain_flag_bit r + kind_bits k) ≡ q
flags_qos levels.Zero true kinds.Normal = refl
flags_qos levels.Zero true kinds.Predefined = refl
flags_qos levels.Zero true kinds.Short = refl
flags_qos levels.Zero true kinds.Reserved = refl
flags_qos levels.Zero false kinds.Normal = refl
flags_qos levels.Zero false kinds.Predefined = refl
flags_qos levels.Zero false kinds.Short = refl
flags_qos levels.Zero false kinds.Reserved = refl
flags_qos levels.One true kinds.Normal = refl
flags_qos levels.One true kinds.Predefined = refl
flags_qos levels.One true kinds.Short = refl
flags_qos levels.One true kinds.Reserved = refl
flags_qos levels.One false kinds.Normal = refl
flags_qos levels.One false kinds.Predefined = refl
flags_qos levels.One false kinds.Short = refl
flags_qos levels.One false kinds.Reserved = refl
flags_qos levels.Two true kinds.Normal = refl
flags_qos levels.Two true kinds.Predefined = refl
flags_qos levels.Two true kinds.Short = refl
flags_qos levels.Two true kinds.Reserved = refl
flags_qos levels.Two false kinds.Normal = refl
flags_qos levels.Two false kinds.Predefined = refl
flags_qos levels.Two false kinds.Short = refl
flags_qos levels.Two false kinds.Reserved = refl
flags_qos levels.MinusOne true kinds.Normal = refl
flags_qos levels.MinusOne true kinds.Predefined = refl
flags_qos levels.MinusOne true kinds.Short = refl
flags_qos levels.MinusOne true kinds.Reserved = refl
flags_qos levels.MinusOne false kinds.Normal = refl
flags_qos levels.MinusOne false kinds.Predefined = refl
flags_qos levels.MinusOne false kinds.Short = refl
flags_qos levels.MinusOne false kinds.Reserved = refl

-- the type of the topic
pub flags_kind : (q : Qos) (r : Bool) (k : TopicIdType) → kind_of (qos_flag_bits q + retain_flag_bit r + kind_bits k) ≡ k
flags_kind levels.Zero true kinds.Normal = refl
flags_kind levels.Zero true kinds.Predefined = refl
flags_kind levels.Zero true kinds.Short = refl
flags_kind levels.Zero true kinds.Reserved = refl
flags_kind levels.Zero false kinds.Normal = refl
flags_kind levels.Zero false kinds.Predefined = refl
flags_kind levels.Zero false kinds.Short = refl
flags_kind levels.Zero false kinds.Reserved = refl
flags_kind levels.One true kinds.Normal = refl
flags_kind levels.One true kinds.Predefined = refl
flags_kind levels.One true kinds.Short = refl
flags_kind levels.One true kinds.Reserved = refl
flags_kind levels.One false kinds.Normal = refl
flags_kind levels.One false kinds.Predefined = refl
flags_kind levels.One false kinds.Short = refl
flags_kind levels.One false kinds.Reserved = refl
flags_kind levels.Two true kinds.Normal = refl
flags_kind levels.Two true kinds.Predefined = refl
flags_kind levels.Two true kinds.Short = refl
flags_kind levels.Two true kinds.Reserved = refl
flags_kind levels.Two false kinds.Normal = refl
flags_kind levels.Two false kinds.Predefined = refl
flags_kind levels.Two false kinds.Short = refl
flags_kind levels.Two false kinds.Reserved = refl
flags_kind levels.MinusOne true kinds.Normal = refl
flags_kind levels.MinusOne true kinds.Predefined = refl
flags_kind levels.MinusOne true kinds.Short = refl
flags_kind levels.MinusOne true kinds.Reserved = refl
flags_kind levels.MinusOne false kinds.Normal = refl
flags_kind levels.MinusOne false kinds.Predefined = refl
flags_kind levels.MinusOne false kinds.Short = refl
flags_kind levels.MinusOne false kinds.Reserved = refl

-- whether the publication is to be kept
pub flags_retain : (q : Qos) (r : Bool) (k : TopicIdType) → IsTrue r ↔ IsBitSet (qos_flag_bits q + retain_flag_bit r + kind_bits k) 4
flags_retain levels.Zero true kinds.Normal = (λ t. λ e. absurd (omega arith), λ b. refl)
flags_retain levels.Zero true kinds.Predefined = (λ t. λ e. absurd (omega arith), λ b. refl)
flags_retain levels.Zero true kinds.Short = (λ t. λ e. absurd (omega arith), λ b. refl)
flags_retain levels.Zero true kinds.Reserved = (λ t. λ e. absurd (omega arith), λ b. refl)
flags_retain levels.Zero false kinds.Normal = (λ t. absurd (cc), λ b. absurd (b refl))
flags_retain levels.Zero false kinds.Predefined = (λ t. absurd (cc), λ b. absurd (b refl))
flags_retain levels.Zero false kinds.Short = (λ t. absurd (cc), λ b. absurd (b refl))
flags_retain levels.Zero false kinds.Reserved = (λ t. absurd (cc), λ b. absurd (b refl))
flags_retain levels.One true kinds.Normal = (λ t. λ e. absurd (omega arith), λ b. refl)
flags_retain levels.One true kinds.Predefined = (λ t. λ e. absurd (omega arith), λ b. refl)
flags_retain levels.One true kinds.Short = (λ t. λ e. absurd (omega arith), λ b. refl)
flags_retain levels.One true kinds.Reserved = (λ t. λ e. absurd (omega arith), λ b. refl)
flags_retain levels.One false kinds.Normal = (λ t. absurd (cc), λ b. absurd (b refl))
flags_retain levels.One false kinds.Predefined = (λ t. absurd (cc), λ b. absurd (b refl))
flags_retain levels.One false kinds.Short = (λ t. absurd (cc), λ b. absurd (b refl))
flags_retain levels.One false kinds.Reserved = (λ t. absurd (cc), λ b. absurd (b refl))
flags_retain levels.Two true kinds.Normal = (λ t. λ e. absurd (omega arith), λ b. refl)
flags_retain levels.Two true kinds.Predefined = (λ t. λ e. absurd (omega arith), λ b. refl)
flags_retain levels.Two true kinds.Short = (λ t. λ e. absurd (omega arith), λ b. refl)
flags_retain levels.Two true kinds.Reserved = (λ t. λ e. absurd (omega arith), λ b. refl)
flags_retain levels.Two false kinds.Normal = (λ t. absurd (cc), λ b. absurd (b refl))
flags_retain levels.Two false kinds.Predefined = (λ t. absurd (cc), λ b. absurd (b refl))
flags_retain levels.Two false kinds.Short = (λ t. absurd (cc), λ b. absurd (b refl))
flags_retain levels.Two false kinds.Reserved = (λ t. absurd (cc), λ b. absurd (b refl))
flags_retain levels.MinusOne true kinds.Normal = (λ t. λ e. absurd (omega arith), λ b. refl)
flags_retain levels.MinusOne true kinds.Predefined = (λ t. λ e. absurd (omega arith), λ b. refl)
flags_retain levels.MinusOne true kinds.Short = (λ t. λ e. absurd (omega arith), λ b. refl)
flags_retain levels.MinusOne true kinds.Reserved = (λ t. λ e. absurd (omega arith), λ b. refl)
flags_retain levels.MinusOne false kinds.Normal = (λ t. absurd (cc), λ b. absurd (b refl))
flags_retain levels.MinusOne false kinds.Predefined = (λ t. absurd (cc), λ b. absurd (b refl))
flags_retain levels.MinusOne false kinds.Short = (λ t. absurd (cc), λ b. absurd (b refl))
flags_retain levels.MinusOne false kinds.Reserved = (λ t. absurd (cc), λ b. absurd (b refl))
