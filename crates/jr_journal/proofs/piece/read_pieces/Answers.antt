use Rattle.std.proofs.Common.{◌≡◌, ◌+◌, ◌-◌, ◌≤◌, true, false, ℕ, [], ◌∷◌, ◌++◌, length, drop, sym, ap, subst, ◌∙◌, arith}
use Rattle.std.proofs.lemmas.List.{length-drop, nil_from_length}
use Rattle.jr_journal.specs.declared.piece.Piece.TheVariants.{Whole}
use Rattle.jr_journal.specs.Records.{found, found_of, piece_at}
use Rattle.jr_journal.proofs.Loop.{IsSoFar, goes_on, seals, stops_at_end, stops_torn, stops_bad, stops_sealed, record_inside, at_front, at_flag, at_next}
use Rattle.jr_journal.proofs.piece.read_pieces.Goals as goal

pub behind_record-left-requires : goal.behind_record-left-requires
behind_record-left-requires c = record_inside c.in-Some.tag.now c.in-Some.rest.now c.in-Whole.delta c.in-Whole.size (sym c.in_ok-delta.ensures ∙ c.in-Whole.is)

pub reading-preserved-in-Whole : goal.reading-preserved-in-Whole
reading-preserved-in-Whole c =
    let total = found 0 false c.args.bytes.now in
    let whole = length c.args.bytes.now - length c.reading.left.now in
    let more = length c.args.bytes.now - length c.behind_record-left.result.now in
    let tag = c.in-Some.tag.now in
    let rest = c.in-Some.rest.now in
    let d = c.in-Whole.delta in
    let n = c.in-Whole.size in
    let is : piece_at tag rest ≡ Whole d n = sym c.in_ok-delta.ensures ∙ c.in-Whole.is in
    let inside : 4 + n ≤ length rest = record_inside tag rest d n is in
    let size : length c.behind_record-left.result.now ≡ length (drop (4 + n) rest) = ap length c.behind_record-left.ensures in
    let left : length rest + 1 ≡ length c.reading.left.now = c.in-Some.ensures.cases.1 in
    let within = c.reading.invariant.inside in
    record {
      inside = omega (arith, length-drop (4 + n) rest);
      so_far =
          at_next total (c.reading.deltas ++ d ∷ []) c.push.new.self c.reading.sealed more (drop (4 + n) rest) c.behind_record-left.result.now c.in_ok-push-in-Whole.ensures.ok c.behind_record-left.ensures
          (goes_on total c.reading.deltas c.reading.sealed whole more tag rest d n is (omega (arith, length-drop (4 + n) rest))
          (at_front total c.reading.deltas c.reading.sealed whole c.reading.left.now tag rest c.in-Some.ensures.cases.0 c.reading.invariant.so_far));
    }

pub returns-then-sealed-clause-ok : goal.returns-then-sealed-clause-ok
returns-then-sealed-clause-ok c =
    let total = found 0 false c.args.bytes.now in
    let whole = length c.args.bytes.now - length c.reading.left.now in
    let tag = c.in-Some.tag.now in
    let rest = c.in-Some.rest.now in
    let flag : found_of c.reading.deltas c.reading.sealed whole true ≡ found_of c.reading.deltas true whole true = ap (λ s. found_of c.reading.deltas s whole true) c.if-sealed.true in
    c.found_until.ensures ∙ (flag ∙ stops_sealed total c.reading.deltas whole tag rest (sym c.in_ok-delta.ensures ∙ c.in-Seal.is)
    (at_flag total c.reading.deltas c.reading.sealed true whole (tag ∷ rest) c.if-sealed.true (at_front total c.reading.deltas c.reading.sealed whole c.reading.left.now tag rest c.in-Some.ensures.cases.0 c.reading.invariant.so_far)))

pub reading-preserved : goal.reading-preserved
reading-preserved c =
    let total = found 0 false c.args.bytes.now in
    let whole = length c.args.bytes.now - length c.reading.left.now in
    let more = length c.args.bytes.now - length c.in-Some.rest.now in
    let tag = c.in-Some.tag.now in
    let rest = c.in-Some.rest.now in
    let left : length rest + 1 ≡ length c.reading.left.now = c.in-Some.ensures.cases.1 in
    let within = c.reading.invariant.inside in
    record {
      inside = omega arith;
      so_far =
          seals total c.reading.deltas whole more tag rest (sym c.in_ok-delta.ensures ∙ c.in-Seal.is) (omega arith)
          (at_flag total c.reading.deltas c.reading.sealed false whole (tag ∷ rest) c.if-sealed.false (at_front total c.reading.deltas c.reading.sealed whole c.reading.left.now tag rest c.in-Some.ensures.cases.0 c.reading.invariant.so_far));
    }

pub returns-in-Torn-clause-ok : goal.returns-in-Torn-clause-ok
returns-in-Torn-clause-ok c =
    let total = found 0 false c.args.bytes.now in
    let whole = length c.args.bytes.now - length c.reading.left.now in
    let tag = c.in-Some.tag.now in
    let rest = c.in-Some.rest.now in
    c.found_until-in-Torn.ensures ∙ stops_torn total c.reading.deltas c.reading.sealed whole tag rest (sym c.in_ok-delta.ensures ∙ c.in-Torn.is)
    (at_front total c.reading.deltas c.reading.sealed whole c.reading.left.now tag rest c.in-Some.ensures.cases.0 c.reading.invariant.so_far)

pub returns-in-Bad-clause-ok : goal.returns-in-Bad-clause-ok
returns-in-Bad-clause-ok c =
    let total = found 0 false c.args.bytes.now in
    let whole = length c.args.bytes.now - length c.reading.left.now in
    let tag = c.in-Some.tag.now in
    let rest = c.in-Some.rest.now in
    c.found_until-in-Bad.ensures ∙ stops_bad total c.reading.deltas c.reading.sealed whole tag rest (sym c.in_ok-delta.ensures ∙ c.in-Bad.is)
    (at_front total c.reading.deltas c.reading.sealed whole c.reading.left.now tag rest c.in-Some.ensures.cases.0 c.reading.invariant.so_far)

pub returns-clause-ok : goal.returns-clause-ok
returns-clause-ok c =
    let total = found 0 false c.args.bytes.now in
    let nothing = c.in_default.ensures.cases in
    let whole : length c.args.bytes.now - length c.reading.left.now ≡ length c.args.bytes.now = omega arith in
    c.found_until-2.ensures ∙ stops_at_end total c.reading.deltas c.reading.sealed (length c.args.bytes.now)
    (at_next total c.reading.deltas c.reading.deltas c.reading.sealed (length c.args.bytes.now) c.reading.left.now [] (λ i. c.reading.deltas) (sym (nil_from_length c.reading.left.now nothing))
    (subst (λ (n : ℕ). IsSoFar total c.reading.deltas c.reading.sealed n c.reading.left.now) whole c.reading.invariant.so_far))
