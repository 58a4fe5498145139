use Rattle.std.proofs.Common.{◌≡◌, ◌+◌, ◌-◌, ◌≤◌, ℕ, ◌++◌, length, map, take, drop, vec_len, sym, ap, ◌∙◌, subst, arith}
use Rattle.std.specs.Arc.{arc_value}
use Rattle.std.proofs.lemmas.List.{length-map, length-drop}
use Rattle.gw_answer.specs.Answers.{said}
use Rattle.gw_serve.specs.declared.row.Called.{Called}
use Rattle.gw_serve.proofs.Rows.{slice_rest, called_on, frames_left}
use Rattle.gw_serve.proofs.row.call_row.Goals as goal

pub note_called-requires-clause-numbers : goal.note_called-requires-clause-numbers
note_called-requires-clause-numbers g c = let most = c.in-Ok.ensures.numbers in omega (arith, most)

pub calls-preserved : goal.calls-preserved
calls-preserved g c =
    let n : ℕ = length c.in-Ok.answers.items in
    let k : ℕ = c.len.result in
    let left = c.calls.left.now in
    let old = c.calls.called.items in
    let new = c.note_called.new.called.items in
    let h = c.calls.invariant in
    let many = c.note_called.ensures.many in
    let front = c.calls.called.ok.0 in
    let back = c.note_called.new.called.ok.0 in
    let long : length new ≡ length old + n = omega (arith, many, front, back) in
    let noted = subst (λ numbers. map (λ (o : Called). o.taken.datagram) new ≡ map (λ (o : Called). o.taken.datagram) old ++ take n (drop (vec_len c.calls.called) numbers)) c.as_slice.ensures.value c.note_called.ensures.datagrams in
    let told = length-map c.in-Ok.answers.items said in
    let made = called_on c.args.pass c.calls.pass c.in-Ok.after c.args.row.now.numbers.items (map arc_value left) (map said c.in-Ok.answers.items) c.in-Ok.number old new n (vec_len c.calls.called)
    h.datagrams h.gains h.frames c.in-Ok.ensures.ok (sym told) front long noted c.note_called.ensures.steps in
    let asked = length-map left arc_value in
    let few = c.in-Ok.ensures.ok.few in
    let same : k ≡ n = c.len.ensures ∙ c.in-Ok.answers.ok.0 in
    let part : length (take (length left - k) (drop k left)) ≡ length left - k = ap (λ xs. length xs) (slice_rest k left) ∙ length-drop k left in
    let was = h.left in
    let room = h.room in
    let wide = c.note_called.ensures.room in
    record {
      datagrams = made.0;
      gains = made.1;
      frames = frames_left arc_value k left h.frames;
      left = omega (arith, many, told, asked, few, same, part, was);
      room = omega (arith, many, told, asked, few, same, part, room, wide);
    }

pub returns-in-Err-clause-end : goal.returns-in-Err-clause-end
returns-in-Err-clause-end g c = c.end_of.ensures c.calls.pass c.in-Err.after (length c.args.row.now.numbers.items) (length c.calls.called.items) c.in-Err.ensures.err
