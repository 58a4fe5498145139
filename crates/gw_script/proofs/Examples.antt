-- The definitions on worked examples.
use Rattle.std.proofs.Common.{◌≡◌, [], ◌∷◌, refl}
use Rattle.std.specs.Prelude.{codes, Ok}
use Rattle.hex.specs.Hex.{decode_of, decode_pairs}
use Rattle.octets.specs.Decimal.{value_of}
use Rattle.gw_script.specs.Commands.{fields_of}

-- a field of leading zeros
zeros : value_of (codes "0040") ≡ 40
zeros = refl

-- a space too many makes an empty field
fields : fields_of (codes "show  1") ≡ codes "show" ∷ [] ∷ codes "1" ∷ []
fields = refl

-- digits of either case
letters : decode_of (codes "aF00") ≡ Ok (0xaf ∷ 0 ∷ [])
unfolding decode_pairs
letters = refl
