use Rattle.std.proofs.Common.{◌≡◌, ◌+◌, true, false, List, [], ℕ, drop, sym, ap, ◌∙◌, arith}
use Rattle.std.proofs.lemmas.List.{drop-drop, drop_all}
use Rattle.rep_shared.specs.Rows.{count_named}
use Rattle.rep_entry.specs.declared.entry.Entry.{Entry}
use Rattle.rep_state.specs.Tables.{by_client, rows_of}
use Rattle.rep_state.proofs.Indexed.{as_many}
use Rattle.rep_state.proofs.Backs.{count_at}
use Rattle.rep_state.proofs.asides.count_all.Goals.{in-Some+then-has_operations, in-Some+else-has_operations, in_default}
use Rattle.rep_state.proofs.asides.count_all.Goals as goal

pub overflow_add-count : goal.overflow_add-count
overflow_add-count c = omega (arith, c.loop-i.invariant, c.requires.few)

pub loop-i-preserved : goal.loop-i-preserved
loop-i-preserved c =
    let es = by_client c.args.table.now.entries in
    let i = c.loop-i.i in
    elim c.match-client_at.branch [
      | in-Some+then-has_operations w ↦
          let front : count_named (rows_of (drop i es)) ≡ 1 + count_named (rows_of (drop (i + 1) es)) = count_at es i _ true w.in-Some.ensures (sym w.if-has_operations.true ∙ w.has_operations.ensures _) in
          omega (arith, w.count-is, front, c.loop-i.invariant)
      | in-Some+else-has_operations w ↦
          let front : count_named (rows_of (drop i es)) ≡ 0 + count_named (rows_of (drop (i + 1) es)) = count_at es i _ false w.in-Some.ensures (sym w.if-has_operations.false ∙ w.has_operations.ensures _) in
          omega (arith, w.count-is, front, c.loop-i.invariant)
      | in_default w ↦
          let none = w.in_default.ensures in
          let past : drop (i + 1) es ≡ drop i es = sym (drop-drop 1 i es) ∙ ap (drop 1) none ∙ sym none in
          let same : count_named (rows_of (drop (i + 1) es)) ≡ count_named (rows_of (drop i es)) = ap (λ (xs : List (List ℕ × Entry)). count_named (rows_of xs)) past in
          omega (arith, w.count-is, same, c.loop-i.invariant)
    ]

-- nobody is left
pub returns : goal.returns
returns c =
    let es = by_client c.args.table.now.entries in
    let many = as_many c.args.table.now.entries c.args.places.now c.requires.places in
    let past : drop c.loop-i.i es ≡ [] = drop_all c.loop-i.i es (omega (arith, many, c.loop-i-test.false)) in
    let none : count_named (rows_of (drop c.loop-i.i es)) ≡ 0 = ap (λ (xs : List (List ℕ × Entry)). count_named (rows_of xs)) past in
    omega (arith, none, c.loop-i.invariant)
