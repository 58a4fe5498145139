use Rattle.std.proofs.Common.{sym}
use Rattle.jr_journal.proofs.Contents.{content_alien, content_cut, content_read}
use Rattle.jr_journal.proofs.content.read_content.Goals as goal

pub returns-then-not-begins : goal.returns-then-not-begins
returns-then-not-begins c = content_alien c.args.gateway c.args.bytes.now (sym c.if-not-begins.ensures)

pub returns-then-bytes-lt-HEADER : goal.returns-then-bytes-lt-HEADER
returns-then-bytes-lt-HEADER c = content_cut c.args.gateway c.args.bytes.now (sym c.if-not-begins.ensures) c.if-bytes-lt-HEADER.true

pub returns-in_ok-read_pieces-in-Some : goal.returns-in_ok-read_pieces-in-Some
returns-in_ok-read_pieces-in-Some c =
    content_read c.args.gateway c.in-Some.generation c.args.bytes.now c.split_at.result.1.now c.in-Some.pieces.now c.in_ok-read_pieces-in-Some.field-0 c.behind_header.result
    (sym c.if-not-begins.ensures) c.if-bytes-lt-HEADER.false c.split_at.ensures.back c.in-Some.ensures.some.1 c.in-Some.ensures.some.2 c.in_ok-read_pieces-in-Some.ensures.ok c.behind_header.ensures
