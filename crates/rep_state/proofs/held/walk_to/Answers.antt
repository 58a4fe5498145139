use Rattle.std.proofs.Common.{◌≡◌, ◌+◌, ◌∷◌, List, ℕ, drop, sym, ap, ◌∙◌, arith}
use Rattle.std.proofs.lemmas.List.{drop-drop}
use Rattle.rep_shared.specs.inner.Rows.{named_rows}
use Rattle.rep_shared.proofs.Walks.{drop_next, named_front, named_behind, drop_less}
use Rattle.rep_entry.specs.declared.entry.Entry.{Entry}
use Rattle.rep_entry.specs.Entries.{entry_row}
use Rattle.rep_state.specs.Tables.{by_client, rows_of}
use Rattle.rep_state.proofs.Indexed.{in_order}
use Rattle.rep_state.proofs.Walking.{found_at}
use Rattle.rep_state.proofs.held.walk_to.Goals.{in-Some+then-has_operations+else-left-eq0, in-Some+else-has_operations, in_default}
use Rattle.rep_state.proofs.held.walk_to.Goals as goal

pub returns-then-left-eq0-clause-at : goal.returns-then-left-eq0-clause-at
returns-then-left-eq0-clause-at c =
    let es = by_client c.args.table.now.entries in
    let i = c.loop-i.i in
    let client = c.in-Some.client.now in
    let entry = c.in-Some.entry.now in
    let rest = named_rows (rows_of (drop (i + 1) es)) in
    let any = sym (c.has_operations.ensures client) ∙ c.if-has_operations.true in
    let front : named_rows (rows_of (drop i es)) ≡ client ∷ rest = ap (λ (xs : List (List ℕ × Entry)). named_rows (rows_of xs)) c.in-Some.ensures ∙ named_front client (entry_row client entry) (rows_of (drop (i + 1) es)) any in
    let here : drop c.args.at (named_rows (rows_of es)) ≡ client ∷ rest = sym c.loop-i.invariant ∙ ap (λ n. drop n (named_rows (rows_of (drop i es)))) c.if-left-eq0.true ∙ front in
    here ∙ ap (λ cs. client ∷ cs) (sym (drop_next c.args.at (named_rows (rows_of es)) rest client here))

pub returns-then-left-eq0-clause-found : goal.returns-then-left-eq0-clause-found
returns-then-left-eq0-clause-found c =
    let es = by_client c.args.table.now.entries in
    found_at es (drop (c.loop-i.i + 1) es) c.loop-i.i c.in-Some.client.now c.in-Some.entry.now (in_order c.args.table.now.entries) c.in-Some.ensures

pub loop-i-preserved : goal.loop-i-preserved
loop-i-preserved c =
    let es = by_client c.args.table.now.entries in
    let i = c.loop-i.i in
    let left = c.loop-i.left in
    let rest = named_rows (rows_of (drop (i + 1) es)) in
    elim c.match-client_at.branch [
      | in-Some+then-has_operations+else-left-eq0 w ↦
          let client = w.in-Some.client.now in
          let any = sym (w.has_operations.ensures client) ∙ w.if-has_operations.true in
          let front : named_rows (rows_of (drop i es)) ≡ client ∷ rest = ap (λ (xs : List (List ℕ × Entry)). named_rows (rows_of xs)) w.in-Some.ensures ∙ named_front client (entry_row client w.in-Some.entry.now) (rows_of (drop (i + 1) es)) any in
          ap (λ n. drop n rest) w.left-is ∙ sym (drop_less left client rest (omega (arith, w.if-left-eq0.false))) ∙ ap (drop left) (sym front) ∙ c.loop-i.invariant
      | in-Some+else-has_operations w ↦
          let client = w.in-Some.client.now in
          let none = sym (w.has_operations.ensures client) ∙ w.if-has_operations.false in
          let behind : named_rows (rows_of (drop i es)) ≡ rest = ap (λ (xs : List (List ℕ × Entry)). named_rows (rows_of xs)) w.in-Some.ensures ∙ named_behind client (entry_row client w.in-Some.entry.now) (rows_of (drop (i + 1) es)) none in
          ap (λ n. drop n rest) w.left-is ∙ ap (drop left) (sym behind) ∙ c.loop-i.invariant
      | in_default w ↦
          let none = w.in_default.ensures in
          let past : drop (i + 1) es ≡ drop i es = sym (drop-drop 1 i es) ∙ ap (drop 1) none ∙ sym none in
          ap (λ n. drop n rest) w.left-is ∙ ap (λ (xs : List (List ℕ × Entry)). drop left (named_rows (rows_of xs))) past ∙ c.loop-i.invariant
    ]
