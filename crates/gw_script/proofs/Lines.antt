-- A line is read in one way.
use Rattle.std.proofs.Common.{◌≡◌, Bool, ℕ, true, false, cond, List, [], ◌∷◌, Option, Some, None, refl, ap, sym, subst, ◌∙◌, ◌⊎◌, inl, inr, Bor, map, get_or}
use Rattle.std.specs.Prelude.{Result, Ok, Err, codes}
use Rattle.std.specs.Prelude.{◌≢◌}
use Rattle.std.specs.Str.{bytes_eq, all_ascii_digits}
use Rattle.octets.specs.Decimal.{IsNumber, value_of}
use Rattle.gw_script.specs.declared.command.Command.{Command}
use Rattle.gw_script.specs.declared.command.Word.{Word}
use Rattle.gw_script.specs.declared.command.Word.TheVariants as words
use Rattle.gw_script.specs.declared.fault.LineFault.{LineFault}
use Rattle.gw_script.specs.declared.fault.LineFault.TheVariants as faults
use Rattle.gw_world.specs.declared.event.Event.TheVariants as events
use Rattle.gw_script.specs.declared.command.Command.TheVariants as commands
use Rattle.gw_script.specs.Commands.{fields_of, word_text, WritesAddress, IsFailure, IsSpared, Says, SpellsCommand}
use Rattle.gw_script.specs.inner.Commands.{ReadsCommand}
use Rattle.gw_script.specs.Octets.{IsHex}
use Rattle.sn_topic.specs.Topics.{IsName}
use Rattle.hex.specs.Hex.{decode_of}
use Rattle.hex.specs.declared.error.FromHexError.TheVariants.{OddLength}
use Rattle.sn_local.specs.declared.config.Addr.{Addr}

-- the word of a text
abbrev word_at : List ℕ → Option Word
word_at text =
    cond (bytes_eq text (codes "gateway")) (Some words.Gateway) (
    cond (bytes_eq text (codes "frame")) (Some words.Frame) (
    cond (bytes_eq text (codes "tick")) (Some words.Tick) (
    cond (bytes_eq text (codes "take")) (Some words.Take) (
    cond (bytes_eq text (codes "predefine")) (Some words.Predefine) (
    cond (bytes_eq text (codes "lifetime")) (Some words.Lifetime) (
    cond (bytes_eq text (codes "answer")) (Some words.Answer) (
    cond (bytes_eq text (codes "fail")) (Some words.Fail) (
    cond (bytes_eq text (codes "compact")) (Some words.Compact) (
    cond (bytes_eq text (codes "restart")) (Some words.Restart) (
    cond (bytes_eq text (codes "show")) (Some words.Show) None))))))))))

word_at-text : (word : Word) → word_at (word_text word) ≡ Some word
word_at-text words.Gateway = refl
word_at-text words.Predefine = refl
word_at-text words.Lifetime = refl
word_at-text words.Frame = refl
word_at-text words.Tick = refl
word_at-text words.Take = refl
word_at-text words.Answer = refl
word_at-text words.Fail = refl
word_at-text words.Compact = refl
word_at-text words.Restart = refl
word_at-text words.Show = refl

-- no two words have one text
pub one_word : (v w : Word) → word_text v ≡ word_text w → v ≡ w
one_word v w same = let a = word_at-text v in let b = word_at-text w in let e = ap word_at same in cc

-- what the fields after a line's word say, the line spells
pub spelled : (line first : List ℕ) (rest : List (List ℕ)) (word : Word) (r : Result Command LineFault)
    → fields_of line ≡ first ∷ rest → word_text word ≡ first → ReadsCommand (Says word rest) r → ReadsCommand (SpellsCommand line) r
spelled line first rest word (Ok command) cut named said = (word, rest, cut ∙ ap (λ (text : List ℕ). text ∷ rest) (sym named), said)
spelled line first rest word (Err faults.NotACommand) cut named none = λ command (v, fields, other, said).
    let same : word_text v ≡ word_text word = cc in
    let tails : fields ≡ rest = cc in
    let P : List (List ℕ) → Type 0 = λ xs. Says word xs command in
    let Q : Word → Type 0 = λ w. Says w fields command in
    none command (subst P tails (subst Q (one_word v word same) said))
spelled line first rest word (Err faults.Memory) cut named h = tt

-- a line whose first field is no word spells nothing
pub unspelled : (line first : List ℕ) (rest : List (List ℕ)) → fields_of line ≡ first ∷ rest → ((word : Word) → word_text word ≡ first → ⊥)
    → (command : Command) → SpellsCommand line command → ⊥
unspelled line first rest cut none command (v, fields, other, said) = none v cc

-- where the fourth field writes no octets, the fields say no frame
pub no_octets : (fields : List (Bor (List ℕ))) (d : Bor (List ℕ)) → ((octets : List ℕ) → IsHex (get_or fields 3 d).now octets → ⊥)
    → (command : Command) → Says words.Frame (map (λ (field : Bor (List ℕ)). field.now) fields) command → ⊥
no_octets (a ∷ b ∷ c ∷ octets ∷ []) d none (commands.Happens (events.Frame gateway from bytes now)) said = none bytes said.3
no_octets (a ∷ b ∷ c ∷ octets ∷ []) d none command said = said
no_octets fields d none command said = said

-- where the third field writes no octets, or none of a name, the fields say no predefined id
pub no_name : (fields : List (Bor (List ℕ))) (d : Bor (List ℕ)) → ((octets : List ℕ) → IsHex (get_or fields 2 d).now octets → IsName octets → ⊥)
    → (command : Command) → Says words.Predefine (map (λ (field : Bor (List ℕ)). field.now) fields) command → ⊥
no_name (a ∷ b ∷ octets ∷ []) d none (commands.Predefine gateway id name) said = none name said.2 said.3
no_name (a ∷ b ∷ octets ∷ []) d none command said = said
no_name fields d none command said = said

-- where the second field does not say how many bytes survive, the fields say no restart
pub no_spared : (fields : List (Bor (List ℕ))) (d : Bor (List ℕ)) → ((n : ℕ) → IsSpared (get_or fields 1 d).now n → ⊥)
    → (command : Command) → Says words.Restart (map (λ (field : Bor (List ℕ)). field.now) fields) command → ⊥
no_spared (a ∷ b ∷ []) d none (commands.Happens (events.Restart gateway keep)) said = none keep said.1
no_spared (a ∷ b ∷ []) d none command said = said
no_spared fields d none command said = said

-- a text writes one number
one_number : (bits : ℕ) (a b : List ℕ) (m n : ℕ) → a ≡ b → IsNumber bits a m → IsNumber bits b n → m ≡ n
one_number bits a b m n same p q = sym p.1 ∙ ap value_of same ∙ q.1

-- and one address
one_address : (a b : List ℕ) (m n : Addr) → a ≡ b → WritesAddress a m → WritesAddress b n → m ≡ n
one_address a b m n same p q =
    let hosts : m.host ≡ n.host = p.0 ∙ sym q.0 in
    let ports : m.port ≡ n.port = one_number 16 a b m.port n.port same p.1 q.1 in
    λ i. record { host = hosts i; port = ports i }

-- and one string of octets
one_hex : (a b x y : List ℕ) → a ≡ b → IsHex a x → IsHex b y → x ≡ y
one_hex a b x y same (inl p) (inl q) = p.1 ∙ sym q.1
one_hex a b x y same (inl p) (inr q) = let e : decode_of b ≡ Err OddLength = ap decode_of (sym same ∙ p.0) in let f = q.1 in cc
one_hex a b x y same (inr p) (inl q) = let e : decode_of a ≡ Err OddLength = ap decode_of (same ∙ q.0) in let f = p.1 in cc
one_hex a b x y same (inr p) (inr q) = let e = p.1 in let f = q.1 in let d = ap decode_of same in cc

-- where the second field does not say how the next write fails, the fields arrange nothing
pub no_failure : (fields : List (Bor (List ℕ))) (d : Bor (List ℕ)) → ((bytes : ℕ) (sync : Bool) → IsFailure (get_or fields 1 d).now bytes sync → ⊥)
    → (command : Command) → Says words.Fail (map (λ (field : Bor (List ℕ)). field.now) fields) command → ⊥
no_failure (a ∷ b ∷ []) d none (commands.Happens (events.WriteFails gateway bytes sync)) said = none bytes sync said.1
no_failure (a ∷ b ∷ []) d none command said = said
no_failure fields d none command said = said

-- `sync` writes no number
sync_digits : all_ascii_digits (codes "sync") ≡ false
sync_digits = refl

no_count : (a : List ℕ) (bits n : ℕ) → a ≡ codes "sync" → IsNumber bits a n → ⊥
no_count a bits n is p =
    let digits : all_ascii_digits a ≡ true = p.0.1 in
    let none : all_ascii_digits a ≡ false = ap all_ascii_digits is ∙ sync_digits in
    let clash : false ≡ true = sym none ∙ digits in cc

-- a text that is not `sync` and no number says no failure
pub says_no_failure : (text : List ℕ) → text ≢ codes "sync" → ((n : ℕ) → IsNumber 64 text n → ⊥) → (bytes : ℕ) (sync : Bool) → IsFailure text bytes sync → ⊥
says_no_failure text other none bytes true h = other h.0
says_no_failure text other none bytes false h = none bytes h

-- one failure is said
one_failure : (a b : List ℕ) (m n : ℕ) (s t : Bool) → a ≡ b → IsFailure a m s → IsFailure b n t → (m ≡ n) × (s ≡ t)
one_failure a b m n true true same p q = (p.1 ∙ sym q.1, refl)
one_failure a b m n true false same p q = absurd (no_count b 64 n (sym same ∙ p.0) q)
one_failure a b m n false true same p q = absurd (no_count a 64 m (same ∙ q.0) p)
one_failure a b m n false false same p q = (one_number 64 a b m n same p q, refl)

-- `all` writes no number
all_digits : all_ascii_digits (codes "all") ≡ false
all_digits = refl

no_number : (a : List ℕ) (bits n : ℕ) → a ≡ codes "all" → IsNumber bits a n → ⊥
no_number a bits n is p =
    let digits : all_ascii_digits a ≡ true = p.0.1 in
    let none : all_ascii_digits a ≡ false = ap all_ascii_digits is ∙ all_digits in
    let clash : false ≡ true = sym none ∙ digits in cc

-- and one number of bytes that survive
one_spared : (a b : List ℕ) (m n : ℕ) → a ≡ b → IsSpared a m → IsSpared b n → m ≡ n
one_spared a b m n same (inl p) (inl q) = p.1 ∙ sym q.1
one_spared a b m n same (inl p) (inr q) = absurd (no_number b 64 n (sym same ∙ p.0) q)
one_spared a b m n same (inr p) (inl q) = absurd (no_number a 64 m (same ∙ q.0) p)
one_spared a b m n same (inr p) (inr q) = one_number 64 a b m n same p q

-- what fields say after each word
gateway_says : (fields : List (List ℕ)) (c : Command) → Says words.Gateway fields c
    → (text : List ℕ) × (g : ℕ) × (fields ≡ text ∷ []) × (c ≡ commands.Gateway g) × IsNumber 8 text g
gateway_says (text ∷ []) (commands.Gateway g) said = (text, g, refl, refl, said)
gateway_says fields c said = absurd said

frame_says : (fields : List (List ℕ)) (c : Command) → Says words.Frame fields c
    → (a b m o : List ℕ) × (g : ℕ) × (from : Addr) × (bytes : List ℕ) × (now : ℕ) × (fields ≡ a ∷ b ∷ m ∷ o ∷ [])
    × (c ≡ commands.Happens (events.Frame g from bytes now)) × IsNumber 8 a g × WritesAddress b from × IsNumber 64 m now × IsHex o bytes
frame_says (a ∷ b ∷ m ∷ o ∷ []) (commands.Happens (events.Frame g from bytes now)) said =
    (a, b, m, o, g, from, bytes, now, refl, refl, said.0, said.1, said.2, said.3)
frame_says fields c said = absurd said

tick_says : (fields : List (List ℕ)) (c : Command) → Says words.Tick fields c
    → (a b : List ℕ) × (g d : ℕ) × (fields ≡ a ∷ b ∷ []) × (c ≡ commands.Happens (events.Tick g d)) × IsNumber 8 a g × IsNumber 64 b d
tick_says (a ∷ b ∷ []) (commands.Happens (events.Tick g d)) said = (a, b, g, d, refl, refl, said.0, said.1)
tick_says fields c said = absurd said

take_says : (fields : List (List ℕ)) (c : Command) → Says words.Take fields c
    → (a b : List ℕ) × (g d : ℕ) × (fields ≡ a ∷ b ∷ []) × (c ≡ commands.Happens (events.Take g d)) × IsNumber 8 a g × IsNumber 64 b d
take_says (a ∷ b ∷ []) (commands.Happens (events.Take g d)) said = (a, b, g, d, refl, refl, said.0, said.1)
take_says fields c said = absurd said

answer_says : (fields : List (List ℕ)) (c : Command) → Says words.Answer fields c
    → (a b : List ℕ) × (g p : ℕ) × (fields ≡ a ∷ b ∷ []) × (c ≡ commands.Happens (events.Answer g p)) × IsNumber 8 a g × IsNumber 8 b p
answer_says (a ∷ b ∷ []) (commands.Happens (events.Answer g p)) said = (a, b, g, p, refl, refl, said.0, said.1)
answer_says fields c said = absurd said

show_says : (fields : List (List ℕ)) (c : Command) → Says words.Show fields c
    → (text : List ℕ) × (g : ℕ) × (fields ≡ text ∷ []) × (c ≡ commands.Happens (events.Show g)) × IsNumber 8 text g
show_says (text ∷ []) (commands.Happens (events.Show g)) said = (text, g, refl, refl, said)
show_says fields c said = absurd said

compact_says : (fields : List (List ℕ)) (c : Command) → Says words.Compact fields c
    → (text : List ℕ) × (g : ℕ) × (fields ≡ text ∷ []) × (c ≡ commands.Happens (events.Compact g)) × IsNumber 8 text g
compact_says (text ∷ []) (commands.Happens (events.Compact g)) said = (text, g, refl, refl, said)
compact_says fields c said = absurd said

fail_says : (fields : List (List ℕ)) (c : Command) → Says words.Fail fields c
    → (a b : List ℕ) × (g bytes : ℕ) × (sync : Bool) × (fields ≡ a ∷ b ∷ []) × (c ≡ commands.Happens (events.WriteFails g bytes sync)) × IsNumber 8 a g × IsFailure b bytes sync
fail_says (a ∷ b ∷ []) (commands.Happens (events.WriteFails g bytes sync)) said = (a, b, g, bytes, sync, refl, refl, said.0, said.1)
fail_says fields c said = absurd said

restart_says : (fields : List (List ℕ)) (c : Command) → Says words.Restart fields c
    → (a b : List ℕ) × (g k : ℕ) × (fields ≡ a ∷ b ∷ []) × (c ≡ commands.Happens (events.Restart g k)) × IsNumber 8 a g × IsSpared b k
restart_says (a ∷ b ∷ []) (commands.Happens (events.Restart g k)) said = (a, b, g, k, refl, refl, said.0, said.1)
restart_says fields c said = absurd said

predefine_says : (fields : List (List ℕ)) (c : Command) → Says words.Predefine fields c
    → (a b o : List ℕ) × (g i : ℕ) × (name : List ℕ) × (fields ≡ a ∷ b ∷ o ∷ []) × (c ≡ commands.Predefine g i name)
    × IsNumber 8 a g × IsNumber 16 b i × IsHex o name × IsName name
predefine_says (a ∷ b ∷ o ∷ []) (commands.Predefine g i name) said = (a, b, o, g, i, name, refl, refl, said.0, said.1, said.2, said.3)
predefine_says fields c said = absurd said

lifetime_says : (fields : List (List ℕ)) (c : Command) → Says words.Lifetime fields c
    → (a b : List ℕ) × (g s : ℕ) × (fields ≡ a ∷ b ∷ []) × (c ≡ commands.Lifetime g s) × IsNumber 8 a g × IsNumber 32 b s
lifetime_says (a ∷ b ∷ []) (commands.Lifetime g s) said = (a, b, g, s, refl, refl, said.0, said.1)
lifetime_says fields c said = absurd said

-- after a word, fields say one command
one_saying : (word : Word) (fields : List (List ℕ)) (c d : Command) → Says word fields c → Says word fields d → c ≡ d
one_saying words.Gateway fields c d p q =
    let x = gateway_says fields c p in
    let y = gateway_says fields d q in
    let e = x.2 in let f = y.2 in let h = x.3 in let k = y.3 in
    let g : x.1 ≡ y.1 = one_number 8 x.0 y.0 x.1 y.1 (cc) x.4 y.4 in cc
one_saying words.Frame fields c d p q =
    let x = frame_says fields c p in
    let y = frame_says fields d q in
    let e = x.8 in let f = y.8 in let h = x.9 in let k = y.9 in
    let g : x.4 ≡ y.4 = one_number 8 x.0 y.0 x.4 y.4 (cc) x.10 y.10 in
    let from : x.5 ≡ y.5 = one_address x.1 y.1 x.5 y.5 (cc) x.11 y.11 in
    let now : x.7 ≡ y.7 = one_number 64 x.2 y.2 x.7 y.7 (cc) x.12 y.12 in
    let bytes : x.6 ≡ y.6 = one_hex x.3 y.3 x.6 y.6 (cc) x.13 y.13 in cc
one_saying words.Predefine fields c d p q =
    let x = predefine_says fields c p in
    let y = predefine_says fields d q in
    let e = x.6 in let f = y.6 in let h = x.7 in let k = y.7 in
    let g : x.3 ≡ y.3 = one_number 8 x.0 y.0 x.3 y.3 (cc) x.8 y.8 in
    let i : x.4 ≡ y.4 = one_number 16 x.1 y.1 x.4 y.4 (cc) x.9 y.9 in
    let name : x.5 ≡ y.5 = one_hex x.2 y.2 x.5 y.5 (cc) x.10 y.10 in cc
one_saying words.Lifetime fields c d p q =
    let x = lifetime_says fields c p in
    let y = lifetime_says fields d q in
    let e = x.4 in let f = y.4 in let h = x.5 in let k = y.5 in
    let g : x.2 ≡ y.2 = one_number 8 x.0 y.0 x.2 y.2 (cc) x.6 y.6 in
    let seconds : x.3 ≡ y.3 = one_number 32 x.1 y.1 x.3 y.3 (cc) x.7 y.7 in cc
one_saying words.Tick fields c d p q =
    let x = tick_says fields c p in
    let y = tick_says fields d q in
    let e = x.4 in let f = y.4 in let h = x.5 in let k = y.5 in
    let g : x.2 ≡ y.2 = one_number 8 x.0 y.0 x.2 y.2 (cc) x.6 y.6 in
    let now : x.3 ≡ y.3 = one_number 64 x.1 y.1 x.3 y.3 (cc) x.7 y.7 in cc
one_saying words.Take fields c d p q =
    let x = take_says fields c p in
    let y = take_says fields d q in
    let e = x.4 in let f = y.4 in let h = x.5 in let k = y.5 in
    let g : x.2 ≡ y.2 = one_number 8 x.0 y.0 x.2 y.2 (cc) x.6 y.6 in
    let delta : x.3 ≡ y.3 = one_number 64 x.1 y.1 x.3 y.3 (cc) x.7 y.7 in cc
one_saying words.Answer fields c d p q =
    let x = answer_says fields c p in
    let y = answer_says fields d q in
    let e = x.4 in let f = y.4 in let h = x.5 in let k = y.5 in
    let g : x.2 ≡ y.2 = one_number 8 x.0 y.0 x.2 y.2 (cc) x.6 y.6 in
    let peer : x.3 ≡ y.3 = one_number 8 x.1 y.1 x.3 y.3 (cc) x.7 y.7 in cc
one_saying words.Show fields c d p q =
    let x = show_says fields c p in
    let y = show_says fields d q in
    let e = x.2 in let f = y.2 in let h = x.3 in let k = y.3 in
    let g : x.1 ≡ y.1 = one_number 8 x.0 y.0 x.1 y.1 (cc) x.4 y.4 in cc
one_saying words.Compact fields c d p q =
    let x = compact_says fields c p in
    let y = compact_says fields d q in
    let e = x.2 in let f = y.2 in let h = x.3 in let k = y.3 in
    let g : x.1 ≡ y.1 = one_number 8 x.0 y.0 x.1 y.1 (cc) x.4 y.4 in cc
one_saying words.Fail fields c d p q =
    let x = fail_says fields c p in
    let y = fail_says fields d q in
    let e = x.5 in let f = y.5 in let h = x.6 in let k = y.6 in
    let g : x.2 ≡ y.2 = one_number 8 x.0 y.0 x.2 y.2 (cc) x.7 y.7 in
    let how = one_failure x.1 y.1 x.3 y.3 x.4 y.4 (cc) x.8 y.8 in
    let bytes : x.3 ≡ y.3 = how.0 in
    let sync : x.4 ≡ y.4 = how.1 in cc
one_saying words.Restart fields c d p q =
    let x = restart_says fields c p in
    let y = restart_says fields d q in
    let e = x.4 in let f = y.4 in let h = x.5 in let k = y.5 in
    let g : x.2 ≡ y.2 = one_number 8 x.0 y.0 x.2 y.2 (cc) x.6 y.6 in
    let keep : x.3 ≡ y.3 = one_spared x.1 y.1 x.3 y.3 (cc) x.7 y.7 in cc

-- a line spells one command
pub one_meaning : (line : List ℕ) (c d : Command) → SpellsCommand line c → SpellsCommand line d → c ≡ d
one_meaning line c d (v, xs, e, p) (w, ys, f, q) =
    let same : word_text w ≡ word_text v = cc in
    let tails : ys ≡ xs = cc in
    let P : List (List ℕ) → Type 0 = λ fields. Says v fields d in
    let Q : Word → Type 0 = λ word. Says word ys d in
    one_saying v xs c d p (subst P tails (subst Q (one_word w v same) q))

-- a line that spells a command is read as it, unless memory runs out
pub read_as : (line : List ℕ) (r : Result Command LineFault) → ReadsCommand (SpellsCommand line) r → (command : Command) → SpellsCommand line command
    → (r ≡ Ok command) ⊎ (r ≡ Err faults.Memory)
read_as line (Ok other) reads command spells = inl (ap (λ (c : Command). Ok c) (one_meaning line other command reads spells))
read_as line (Err faults.NotACommand) reads command spells = absurd (reads command spells)
read_as line (Err faults.Memory) reads command spells = inr refl
