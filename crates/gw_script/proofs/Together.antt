-- Calls that come together, and the lines that spell them.
use Rattle.std.proofs.Common.{◌≡◌, ℕ, ◌+◌, ◌-◌, ◌<◌, ◌≤◌, List, [], ◌∷◌, ◌++◌, length, get_or, take, drop, Bor, Option, Some, None, ap, sym, subst, ◌∙◌, arith}
use Rattle.std.specs.Prelude.{Result, Err, slice_get}
use Rattle.std.proofs.lemmas.List.{take_more, take_rest, get_or-map, drop-map, length-map, length-drop}
use Rattle.std.proofs.lemmas.Option.{slice_get-get_or, slice_get_past}
use Rattle.gw_world.specs.declared.event.Call.{Call}
use Rattle.gw_world.specs.Field.{by_itself}
use Rattle.gw_script.specs.declared.command.Command.{Command}
use Rattle.gw_script.specs.declared.command.Command.TheVariants as commands
use Rattle.gw_script.specs.declared.fault.LineFault.{LineFault}
use Rattle.gw_script.specs.declared.fault.LineFault.TheVariants as faults
use Rattle.gw_script.specs.declared.script.Script.{Script}
use Rattle.gw_script.specs.Commands.{SpellsCommand}
use Rattle.gw_script.specs.Rows.{IsRowLine, SpellsCall, SpellCalls, SpellsNoCall}
use Rattle.gw_script.specs.Scripts.{with_row, Extends}
use Rattle.gw_script.specs.inner.Commands.{ReadsCommand}
use Rattle.gw_script.specs.inner.Rows.{IsNoCall, RowRead, NoLineAt, NoCallBehind}
use Rattle.gw_script.proofs.Growth.{octets_of}

-- one more line spells one more call
spell_push : (gateway : ℕ) (lines : List (List ℕ)) (calls : List Call) (line : List ℕ) (call : Call)
    → SpellCalls gateway lines calls → SpellsCall gateway line call
    → SpellCalls gateway (lines ++ line ∷ []) (calls ++ call ∷ [])
spell_push gateway [] [] line call spelled spells = (spells, tt)
spell_push gateway (first ∷ lines) (one ∷ calls) line call spelled spells = (spelled.0, spell_push gateway lines calls line call spelled.1 spells)
spell_push gateway [] (one ∷ calls) line call spelled spells = absurd spelled
spell_push gateway (first ∷ lines) [] line call spelled spells = absurd spelled

-- the line at a place, with its octets
at_place : (lines : List (Bor (List ℕ))) (i : ℕ) (d : Bor (List ℕ)) → i < length lines
    → get_or (octets_of lines) i [] ≡ (get_or lines i d).now
at_place lines i d within = get_or-map (λ (b : Bor (List ℕ)). b.now) lines i d [] within

-- a line is no call where its reader refuses
pub refuses : (gateway : ℕ) (line : List ℕ) (r : Result Command LineFault) → ReadsCommand (SpellsCommand line) r → r ≡ Err faults.NotACommand
    → (call : Call) → SpellsCall gateway line call → ⊥
refuses gateway line r reads refused call = (rw refused at reads) (commands.Happens (by_itself gateway call))

-- one more of the lines spells one more call
pub one_call_more : (gateway : ℕ) (lines : List (Bor (List ℕ))) (i : ℕ) (d : Bor (List ℕ)) (calls after : List Call) (call : Call)
    → i < length lines → SpellCalls gateway (take i (octets_of lines)) calls → SpellsCall gateway (get_or lines i d).now call
    → after ≡ calls ++ call ∷ [] → SpellCalls gateway (take (i + 1) (octets_of lines)) after
one_call_more gateway lines i d calls after call within spelled spells made =
    let size : i < length (octets_of lines) = omega (arith, length-map lines (λ (b : Bor (List ℕ)). b.now)) in
    let P : List (List ℕ) → Type 0 = λ xs. SpellCalls gateway xs after in
    let Q : List Call → Type 0 = λ xs. SpellCalls gateway (take i (octets_of lines) ++ (get_or lines i d).now ∷ []) xs in
    subst P (sym (take_more (octets_of lines) i [] size ∙ ap (λ line. take i (octets_of lines) ++ line ∷ []) (at_place lines i d within)))
    (subst Q (sym made) (spell_push gateway (take i (octets_of lines)) calls (get_or lines i d).now call spelled spells))

-- the line behind those that spell calls spells none
pub told_at : (gateway count before k : ℕ) (lines : List (Bor (List ℕ))) (i : ℕ) (d : Bor (List ℕ)) (calls : List Call)
    → i < length lines → length calls ≡ i → i < count → k ≡ before + i + 1
    → SpellCalls gateway (take i (octets_of lines)) calls → ((call : Call) → SpellsCall gateway (get_or lines i d).now call → ⊥)
    → IsNoCall gateway count (octets_of lines) before k
told_at gateway count before k lines i d calls within size fewer told spelled none =
    let inside : i < length (octets_of lines) = omega (arith, length-map lines (λ (b : Bor (List ℕ)). b.now)) in
    let P : ℕ → Type 0 = λ n. SpellCalls gateway (take n (octets_of lines)) calls in
    let Q : Option (List ℕ) → Type 0 = λ line. SpellsNoCall gateway line in
    let there : slice_get (octets_of lines) (length calls) ≡ Some (get_or lines i d).now =
    ap (λ n. slice_get (octets_of lines) n) size ∙ slice_get-get_or (octets_of lines) i [] inside ∙ ap (λ line. Some line) (at_place lines i d within) in
    (calls, subst P (sym size) spelled, omega arith, omega arith, subst Q (sym there) none)

-- the lines end before there are calls enough
pub missing_at : (gateway count before k : ℕ) (lines : List (Bor (List ℕ))) (i : ℕ) (calls : List Call)
    → length lines ≤ i → length calls ≡ i → i < count → k ≡ before + i + 1
    → SpellCalls gateway (take i (octets_of lines)) calls → IsNoCall gateway count (octets_of lines) before k
missing_at gateway count before k lines i calls past size fewer told spelled =
    let now : Bor (List ℕ) → List ℕ = λ b. b.now in
    let P : ℕ → Type 0 = λ n. SpellCalls gateway (take n (octets_of lines)) calls in
    let Q : Option (List ℕ) → Type 0 = λ line. SpellsNoCall gateway line in
    let none : slice_get (octets_of lines) (length calls) ≡ None =
    slice_get_past (octets_of lines) (length calls) (omega (arith, length-map lines now)) in
    (calls, subst P (sym size) spelled, omega arith, omega arith, subst Q (sym none) tt)

-- the octets of the lines from a place on
behind : (lines part : List (Bor (List ℕ))) (n : ℕ) → part ≡ take (length lines - n) (drop n lines)
    → octets_of part ≡ drop n (octets_of lines)
behind lines part n is =
    let now : Bor (List ℕ) → List ℕ = λ b. b.now in
    ap octets_of (is ∙ take_rest lines n) ∙ sym (drop-map now n lines)

-- a line that begins a row, and the calls of the lines behind it
pub row_read : (lines part : List (Bor (List ℕ))) (at gateway count next n : ℕ) (d : Bor (List ℕ)) (calls : List Call) (old new : Script)
    → at < length lines → part ≡ take (length lines - (at + 1)) (drop (at + 1) lines)
    → IsRowLine (get_or lines at d).now gateway count → n ≡ length calls → n ≡ count → n ≤ length part
    → SpellCalls gateway (take count (octets_of part)) calls → next ≡ at + 1 + n → new ≡ with_row old gateway calls
    → RowRead old (octets_of lines) at new next
row_read lines part at gateway count next n d calls old new within rest begins size many most spelled told made =
    let all : count ≡ length calls = omega arith in
    let P : ℕ → Type 0 = λ m. IsRowLine (get_or lines at d).now gateway m in
    let Q : List ℕ → Type 0 = λ line. IsRowLine line gateway (length calls) in
    let R : ℕ → Type 0 = λ m. SpellCalls gateway (take m (octets_of part)) calls in
    let S : List (List ℕ) → Type 0 = λ xs. SpellCalls gateway (take (length calls) xs) calls in
    let left : length part ≡ length lines - (at + 1) = ap (λ (xs : List (Bor (List ℕ))). length xs) (rest ∙ take_rest lines (at + 1)) ∙ length-drop (at + 1) lines in (
      gateway,
      calls,
      subst Q (sym (at_place lines at d within)) (subst P all begins),
      subst S (behind lines part (at + 1) rest) (subst R all spelled),
      omega arith,
      omega (arith, length-map lines (λ (b : Bor (List ℕ)). b.now)),
      made,
    )

-- a line that begins a row, and a line behind it that spells no call
pub call_behind : (lines part : List (Bor (List ℕ))) (at gateway count k : ℕ) (d : Bor (List ℕ)) → at < length lines
    → part ≡ take (length lines - (at + 1)) (drop (at + 1) lines) → IsRowLine (get_or lines at d).now gateway count
    → IsNoCall gateway count (octets_of part) (at + 1) k → NoCallBehind (octets_of lines) at k
call_behind lines part at gateway count k d within rest begins none =
    let P : List ℕ → Type 0 = λ line. IsRowLine line gateway count in
    let Q : List (List ℕ) → Type 0 = λ xs. IsNoCall gateway count xs (at + 1) k in
    (gateway, count, subst P (sym (at_place lines at d within)) begins, subst Q (behind lines part (at + 1) rest) none)

-- a line that says no command in its place, and begins no row
pub no_line : (lines : List (Bor (List ℕ))) (at : ℕ) (d : Bor (List ℕ)) (old : Script) → at < length lines
    → ((after : Script) → Extends old (get_or lines at d).now after → ⊥)
    → ((gateway count : ℕ) → IsRowLine (get_or (octets_of lines) at []) gateway count → ⊥) → NoLineAt old (octets_of lines) at
no_line lines at d old within refused none =
    let P : List ℕ → Type 0 = λ line. (after : Script) → Extends old line after → ⊥ in
    (subst P (sym (at_place lines at d within)) refused, none)
