use Rattle.std.proofs.Common.{◌≡◌, ◌↔◌, IsTrue, Bool, not, sym, subst, arith, rules}
use Rattle.std.proofs.lemmas.Grind.{common_steps}
use Rattle.mq_packet.specs.Text.{IsText, is_text}
use Rattle.mq_packet.proofs.Texts.{text_decides}
use Rattle.mq_packet.proofs.text.is_text.Goals as goal

pub returns-then-is_utf8-clause-meaning : goal.returns-then-is_utf8-clause-meaning
returns-then-is_utf8-clause-meaning c =
    let value : not c.contains.result ≡ is_text c.args.octets.now = first_of (search rules, grind (arith, common_steps)) in
    let P : Bool → Type 0 = λ answer. IsTrue answer ↔ IsText c.args.octets.now in
    subst P (sym value) (text_decides c.args.octets.now)

pub returns-else-is_utf8-clause-meaning : goal.returns-else-is_utf8-clause-meaning
returns-else-is_utf8-clause-meaning c =
    let value : c.if-octets-le-MAX_DATA.value ≡ is_text c.args.octets.now = first_of (search rules, grind (arith, common_steps)) in
    let P : Bool → Type 0 = λ answer. IsTrue answer ↔ IsText c.args.octets.now in
    subst P (sym value) (text_decides c.args.octets.now)
