-- A script grows line by line.
use Rattle.std.proofs.Common.{◌≡◌, ◌≢◌, ℕ, ◌+◌, ◌-◌, ◌<◌, ◌≤◌, inl, inr, List, [], ◌∷◌, ◌++◌, zero, suc, length, set, get_or, refl, map, take, drop, Bor, Option, Some, ap, sym, subst, ◌∙◌, arith, Bool, true, false, ◌==◌}
use Rattle.std.specs.Prelude.{Result, Err, slice_get, position, IsTrue}
use Rattle.sn_topic.specs.Table.{is_table}
use Rattle.std.proofs.lemmas.List.{take_more, length-map, length-set}
use Rattle.std.proofs.lemmas.Option.{slice_get-get_or}
use Rattle.gw_script.specs.declared.command.Command.{Command}
use Rattle.gw_script.specs.declared.fault.LineFault.{LineFault}
use Rattle.gw_script.specs.declared.fault.LineFault.TheVariants as faults
use Rattle.gw_script.specs.declared.script.Script.{Script}
use Rattle.gw_script.specs.Commands.{SpellsCommand}
use Rattle.gw_script.specs.inner.Commands.{ReadsCommand}
use Rattle.std.proofs.Common.{rules}
use Rattle.std.proofs.lemmas.Bool.{eq-eqb, eqb-true}
use Rattle.std.proofs.lemmas.List.Elements.{All-nil, All-push}
use Rattle.std.proofs.lemmas.List.Folds.{list_any_at}
use Rattle.std.proofs.lemmas.List.Quantifiers.{all_pairs_push}
use Rattle.sn_local.specs.declared.config.Config.{Config}
use Rattle.gw_script.specs.declared.command.Command.TheVariants as commands
use Rattle.gw_world.specs.declared.event.Call.{Call}
use Rattle.gw_script.specs.Rows.{IsRowLine, SpellCalls, SpellsNoCall}
use Rattle.gw_script.specs.inner.Rows.{LineRead, NoLineAt, NoCallBehind}
use Rattle.gw_script.specs.Scripts.{AddsCommand, plain_config, with_row, has_gateway, Extends, IsScriptOf, AreGateways, IsBadLine, IsBadCall}
use Rattle.gw_script.specs.Scripts.IsScriptOf.{none, more, row}

-- the octets of lines
abbrev pub octets_of : List (Bor (List ℕ)) → List (List ℕ)
octets_of lines = map (λ (line : Bor (List ℕ)). line.now) lines

-- a line that spells nothing, and is not empty, extends no script
pub unreadable : (before : Script) (line : List ℕ) (r : Result Command LineFault) → ReadsCommand (SpellsCommand line) r → r ≡ Err faults.NotACommand
    → line ≢ [] → (after : Script) → Extends before line after → ⊥
unreadable before line r reads refused some after (inl p) = some p.0
unreadable before line r reads refused some after (inr (command, spells, adds)) = (rw refused at reads) command spells

-- a line is not empty where a test says so
pub not_empty : (line : List ℕ) (test : Bool) → test ≡ (length line == 0) → test ≡ false → line ≢ []
not_empty line test is fails empty = let e : (length line == 0) ≡ true = ap (λ (x : List ℕ). length x == 0) empty in cc

-- the lines read so far and one more
one_more : (lines : List (List ℕ)) (at : ℕ) (before after : Script) → at < length lines
    → IsScriptOf (take at lines) before → Extends before (get_or lines at []) after
    → IsScriptOf (take (at + 1) lines) after
one_more lines at before after within read extends =
    let P : List (List ℕ) → Type 0 = λ xs. IsScriptOf xs after in
    subst P (sym (take_more lines at [] within)) (more (take at lines) (get_or lines at []) before after read extends)

-- the first line that cannot stand where it stands
bad_line : (lines : List (List ℕ)) (at k : ℕ) (before : Script) → at < length lines → k ≡ at + 1
    → IsScriptOf (take at lines) before → NoLineAt before lines at → IsBadLine lines k
bad_line lines at k before within is read nothing =
    let back : k - 1 ≡ at = omega arith in
    let P : ℕ → Type 0 = λ n. slice_get lines n ≡ Some (get_or lines at []) in
    let Q : ℕ → Type 0 = λ n. IsScriptOf (take n lines) before in
    record {
      before = before;
      line = get_or lines at [];
      counted = omega arith;
      there = subst P (sym back) (slice_get-get_or lines at [] within);
      read = subst Q (sym back) read;
      refused = nothing.0;
      no_row = nothing.1;
    }

-- where no gateway has the number, the gateway at each place has another
others : (configs : List Config) (number k : ℕ) (d : Config) → has_gateway configs number ≡ false → k < length configs
    → (get_or configs k d).gateway ≢ number
others configs number k d absent within same =
    let test : Config → Bool = λ config. config.gateway == number in
    let found : has_gateway configs number ≡ true = list_any_at test configs k d within (eq-eqb _ _ same) in
    cc

-- the script says one predefined id more
pub tells : (before : Script) (number id : ℕ) (name : List ℕ) (place : ℕ) (config made : Config) (configs : List Config) → before.events ≡ []
    → position (λ (c : Config). c.gateway == number) before.configs ≡ Some place → slice_get before.configs place ≡ Some config
    → IsTrue (is_table (config.predefined ++ (id, name) ∷ [])) → made ≡ record config { predefined = config.predefined ++ (id, name) ∷ [] }
    → configs ≡ set before.configs place made → AddsCommand before (commands.Predefine number id name) (record { configs = configs; events = before.events })
tells before number id name place config made configs quiet at there table is changed =
    (quiet, place, config, at, there, table, λ i. record { configs = (changed ∙ ap (λ (m : Config). set before.configs place m) is) i; events = quiet i })

-- the script gives a gateway a lifetime
pub lasts : (before : Script) (number seconds place : ℕ) (config made : Config) (configs : List Config) → before.events ≡ []
    → position (λ (c : Config). c.gateway == number) before.configs ≡ Some place → slice_get before.configs place ≡ Some config
    → made ≡ record config { lifetime = seconds }
    → configs ≡ set before.configs place made → AddsCommand before (commands.Lifetime number seconds) (record { configs = configs; events = before.events })
lasts before number seconds place config made configs quiet at there is changed =
    (quiet, place, config, at, there, λ i. record { configs = (changed ∙ ap (λ (m : Config). set before.configs place m) is) i; events = quiet i })

-- where a list is not said to have an item, it has none
pub has_none : {X : Type 0} (xs : List X) (r : Bool) → r ≡ (length xs == 0) → r ≡ true → xs ≡ []
has_none [] r e f = refl
has_none (x ∷ xs) r e f = absurd (omega (arith, eqb-true (length (x ∷ xs)) 0 (sym e ∙ f)))

-- a gateway that is told more keeps its number, and so do the others
numbers_stay : (configs : List Config) (place : ℕ) (old new : Config) → slice_get configs place ≡ Some old → new.gateway ≡ old.gateway
    → (k : ℕ) (d : Config) → (get_or (set configs place new) k d).gateway ≡ (get_or configs k d).gateway
numbers_stay [] place old new there same k d = refl
numbers_stay (config ∷ configs) zero old new there same zero d = let is : config ≡ old = cc in same ∙ ap (λ (c : Config). c.gateway) (sym is)
numbers_stay (config ∷ configs) zero old new there same (suc k) d = refl
numbers_stay (config ∷ configs) (suc place) old new there same zero d = refl
numbers_stay (config ∷ configs) (suc place) old new there same (suc k) d = numbers_stay configs place old new there same k d

told_more : (configs : List Config) (place : ℕ) (old new : Config) → slice_get configs place ≡ Some old → new.gateway ≡ old.gateway
    → AreGateways configs → AreGateways (set configs place new)
told_more configs place old new there same are = record {
  some = λ k d within zero_. are.some k d (rw length-set at within) (sym (numbers_stay configs place old new there same k d) ∙ zero_);
  different = λ i j d below within equal. are.different i j d below (rw length-set at within)
      (sym (numbers_stay configs place old new there same i d) ∙ (equal ∙ numbers_stay configs place old new there same j d));
}

-- the gateways of a script are such as a field may have
pub gateways : (lines : List (List ℕ)) (script : Script) → IsScriptOf lines script → AreGateways script.configs
gateways lines script none = record { some = All-nil _; different = search rules }
gateways lines script (more earlier line before after read (inl same)) =
    let P : Script → Type 0 = λ s. AreGateways s.configs in subst P (sym same.1) (gateways earlier before read)
gateways lines script (more earlier line before after read (inr (commands.Gateway number, spells, adds))) =
    let P : Script → Type 0 = λ s. AreGateways s.configs in
    let old : AreGateways before.configs = gateways earlier before read in
    subst P (sym adds.3) (record {
      some = All-push (λ (config : Config). config.gateway ≢ 0) before.configs (plain_config number) old.some adds.1;
      different = all_pairs_push (λ (a b : Config). a.gateway ≢ b.gateway) before.configs (plain_config number) old.different (λ k d within. others before.configs number k d adds.2 within);
    })
gateways lines script (more earlier line before after read (inr (commands.Predefine number id name, spells, adds))) =
    let P : Script → Type 0 = λ s. AreGateways s.configs in
    subst P (sym adds.6) (told_more before.configs adds.1 adds.2 (record adds.2 { predefined = adds.2.predefined ++ (id, name) ∷ [] }) adds.4 refl (gateways earlier before read))
gateways lines script (more earlier line before after read (inr (commands.Lifetime number seconds, spells, adds))) =
    let P : Script → Type 0 = λ s. AreGateways s.configs in
    subst P (sym adds.5) (told_more before.configs adds.1 adds.2 (record adds.2 { lifetime = seconds }) adds.4 refl (gateways earlier before read))
gateways lines script (more earlier line before after read (inr (commands.Happens event, spells, adds))) =
    let P : Script → Type 0 = λ s. AreGateways s.configs in subst P (sym adds) (gateways earlier before read)
gateways lines script (row earlier line behind gateway calls before read begins spelled) = gateways earlier before read

-- the first ones of a list, the next, and some of what is behind it
parted : {X : Type 0} (xs : List X) (at n : ℕ) (d : X) → at < length xs
    → take (at + n + 1) xs ≡ take at xs ++ get_or xs at d ∷ take n (drop (at + 1) xs)
parted [] at n d within = absurd (omega arith)
parted (x ∷ xs) zero n d within = let e : 0 + n + 1 ≡ suc n = omega arith in rw e refl
parted (x ∷ xs) (suc at) n d within =
    let e : suc at + n + 1 ≡ suc (at + n + 1) = omega arith in
    let f : suc at + 1 ≡ suc (at + 1) = omega arith in
    rw e (rw f (ap (λ rest. x ∷ rest) (parted xs at n d (omega arith))))

-- the lines read so far, and a row behind them
row_more : (lines : List (List ℕ)) (at next gateway : ℕ) (calls : List Call) (before : Script) → at < length lines
    → IsScriptOf (take at lines) before → IsRowLine (get_or lines at []) gateway (length calls)
    → SpellCalls gateway (take (length calls) (drop (at + 1) lines)) calls → next ≡ at + length calls + 1
    → IsScriptOf (take next lines) (with_row before gateway calls)
row_more lines at next gateway calls before within read begins spelled is =
    let P : List (List ℕ) → Type 0 = λ xs. IsScriptOf xs (with_row before gateway calls) in
    subst P (sym (ap (λ n. take n lines) is ∙ parted lines at (length calls) [] within))
    (row (take at lines) (get_or lines at []) (take (length calls) (drop (at + 1) lines)) gateway calls before read begins spelled)

-- an element of what is behind the first ones
slice_get-drop : {X : Type 0} (xs : List X) (n i : ℕ) → slice_get (drop n xs) i ≡ slice_get xs (n + i)
slice_get-drop xs zero i = let e : 0 + i ≡ i = omega arith in rw e refl
slice_get-drop [] (suc n) i = refl
slice_get-drop (x ∷ xs) (suc n) i = let e : suc n + i ≡ suc (n + i) = omega arith in rw e (slice_get-drop xs n i)

-- the lines read so far, and what the next ones say
read_more : (lines : List (List ℕ)) (at next : ℕ) (before after : Script) → at < length lines
    → IsScriptOf (take at lines) before → LineRead before lines at after next → IsScriptOf (take next lines) after
read_more lines at next before after within read (inl (is, extends)) =
    let P : ℕ → Type 0 = λ n. IsScriptOf (take n lines) after in
    subst P (sym is) (one_more lines at before after within read extends)
read_more lines at next before after within read (inr (gateway, calls, begins, spelled, is, most, made)) =
    let P : Script → Type 0 = λ script. IsScriptOf (take next lines) script in
    subst P (sym made) (row_more lines at next gateway calls before within read begins spelled is)

-- the place moves on, and not past the end
moves_on : (lines : List (List ℕ)) (at next : ℕ) (before after : Script) → at < length lines
    → LineRead before lines at after next → (at < next) × (next ≤ length lines)
moves_on lines at next before after within (inl (is, extends)) = (omega arith, omega arith)
moves_on lines at next before after within (inr (gateway, calls, begins, spelled, is, most, made)) = (omega arith, most)

-- the lines before a row, and the first line of it that spells no call
bad_call : (lines : List (List ℕ)) (at k : ℕ) (before : Script) → at < length lines
    → IsScriptOf (take at lines) before → NoCallBehind lines at k → IsBadCall lines k
bad_call lines at k before within read (gateway, count, begins, (calls, spelled, fewer, is, refused)) =
    let place : at + 1 + length calls ≡ k - 1 = omega arith in
    let P : Option (List ℕ) → Type 0 = λ line. SpellsNoCall gateway line in
    record {
      head = at;
      before = before;
      line = get_or lines at [];
      gateway = gateway;
      count = count;
      calls = calls;
      read = read;
      there = slice_get-get_or lines at [] within;
      begins = begins;
      first = spelled;
      fewer = fewer;
      counted = omega arith;
      refused = subst P (slice_get-drop lines (at + 1) (length calls) ∙ ap (λ n. slice_get lines n) place) refused;
    }

-- one turn more of the reader
pub one_turn : (lines part : List (Bor (List ℕ))) (n m at next : ℕ) (before after : Script) → part ≡ lines → n ≡ length lines → m ≡ n → at < m
    → IsScriptOf (take at (octets_of lines)) before → LineRead before (octets_of part) at after next
    → (at < next) × (next ≤ n) × IsScriptOf (take next (octets_of lines)) after
one_turn lines part n m at next before after same size long within read reads =
    let count = length-map lines (λ (b : Bor (List ℕ)). b.now) in
    let inside : at < length (octets_of lines) = omega (arith, count) in
    let P : List (Bor (List ℕ)) → Type 0 = λ xs. LineRead before (octets_of xs) at after next in
    let reads_ = subst P same reads in
    let on = moves_on (octets_of lines) at next before after inside reads_ in
    (on.0, omega (arith, count, on.1), read_more (octets_of lines) at next before after inside read reads_)

-- the reader's line is bad
pub told_bad : (lines part : List (Bor (List ℕ))) (all : List (List ℕ)) (n m at k : ℕ) (before : Script) → part ≡ lines
    → octets_of lines ≡ all → n ≡ length lines → m ≡ n → at < m → IsScriptOf (take at (octets_of lines)) before
    → (k ≡ at + 1) × NoLineAt before (octets_of part) at → IsBadLine all k
told_bad lines part all n m at k before same whole size long within read told =
    let inside : at < length (octets_of lines) = omega (arith, length-map lines (λ (b : Bor (List ℕ)). b.now)) in
    let P : List (Bor (List ℕ)) → Type 0 = λ xs. NoLineAt before (octets_of xs) at in
    let Q : List (List ℕ) → Type 0 = λ xs. IsBadLine xs k in
    subst Q whole (bad_line (octets_of lines) at k before inside told.0 read (subst P same told.1))

-- a line behind the reader's is no call
pub told_bad_call : (lines part : List (Bor (List ℕ))) (all : List (List ℕ)) (n m at k : ℕ) (before : Script) → part ≡ lines
    → octets_of lines ≡ all → n ≡ length lines → m ≡ n → at < m → IsScriptOf (take at (octets_of lines)) before
    → NoCallBehind (octets_of part) at k → IsBadCall all k
told_bad_call lines part all n m at k before same whole size long within read told =
    let inside : at < length (octets_of lines) = omega (arith, length-map lines (λ (b : Bor (List ℕ)). b.now)) in
    let P : List (Bor (List ℕ)) → Type 0 = λ xs. NoCallBehind (octets_of xs) at k in
    let Q : List (List ℕ) → Type 0 = λ xs. IsBadCall xs k in
    subst Q whole (bad_call (octets_of lines) at k before inside read (subst P same told))
