-- No spelling of a digest begins another.
use Rattle.std.proofs.Common.{◌≡◌, ◌≢◌, ℕ, ◌≤◌, List, [], ◌++◌, length, Err, arith}
use Rattle.std.proofs.lemmas.List.{length-append}
use Rattle.rep_op.specs.declared.fault.OpsFault.TheVariants as faults
use Rattle.rep_ops.specs.Spelling.{max_octets}
use Rattle.rep_ops.proofs.Whole.{one, cut, behind}
use Rattle.rep_digest.specs.Digests.{Digested}
use Rattle.rep_digest.specs.WellMade.{IsDigest}
use Rattle.rep_digest.specs.Spelling.{digest_spelling, IsDigestWithinLimit}
use Rattle.rep_digest.specs.Reading.{digest_at, digest_reading}
use Rattle.rep_digest.proofs.Format.{FitsDigest, fits_digest, digest_law}

pub one_digest : (d e : Digested) (x y : List ℕ) → IsDigest d → IsDigestWithinLimit d → IsDigest e → IsDigestWithinLimit e → digest_spelling d ++ x ≡ digest_spelling e ++ y → (d ≡ e) × (x ≡ y)
one_digest d e x y dd ld de le is = one digest_at digest_spelling FitsDigest digest_law d e x y (fits_digest d dd ld) (fits_digest e de le) is

pub digest_cut : (d : Digested) (front rest : List ℕ) → IsDigest d → IsDigestWithinLimit d → digest_spelling d ≡ front ++ rest → rest ≢ [] → digest_reading front ≡ Err faults.Truncated
digest_cut d front rest dd ld is some = cut digest_at digest_spelling FitsDigest digest_law d front rest (fits_digest d dd ld) ld is some

pub digest_more : (d : Digested) (rest : List ℕ) → IsDigest d → rest ≢ [] → length (digest_spelling d ++ rest) ≤ max_octets → digest_reading (digest_spelling d ++ rest) ≡ Err faults.Trailing
digest_more d rest dd some size =
    let sum = length-append (digest_spelling d) rest in
    let within : length (digest_spelling d) ≤ max_octets = omega (arith, sum, size) in
    behind digest_at digest_spelling FitsDigest digest_law d rest (fits_digest d dd within) size some
