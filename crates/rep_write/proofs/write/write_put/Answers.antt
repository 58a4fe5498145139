use Rattle.std.proofs.Common.{List, ℕ, ◌∷◌, ◌++◌, ap, ◌∙◌}
use Rattle.rep_op.specs.Sessions.{text_octets}
use Rattle.byteorder.specs.Endian.{big_bytes}
use Rattle.rep_write.proofs.Writing.{two_parts, writes_more}
use Rattle.rep_write.proofs.write.write_put.Goals as goal

pub returns : goal.returns
returns c =
    let number : List ℕ = c.args.put.now.origin ∷ big_bytes 8 c.args.put.now.seq in
    let topic : List ℕ = text_octets c.args.put.now.topic in
    let text = c.in_ok-write_text.ensures ∙ ap (λ (t : List ℕ). c.write_number.new.out.items ++ text_octets t) c.bytes.ensures.octets in
    writes_more c.args.out.now.items (number ++ topic) _ c.write_text.new.out.items c.write_content.new.out.items c.write_content.result
    (two_parts c.args.out.now.items number topic c.write_number.new.out.items c.write_text.new.out.items c.in_ok-write_number.ensures text)
    c.write_content.ensures
