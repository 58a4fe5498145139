-- The lines of a script.
use Rattle.std.specs.Prelude.{◌≡◌, Bool, true, false, ℕ, ◌-◌, ◌^◌, ◌==◌, ◌⊎◌, List, [], ◌∷◌, codes}
use Rattle.std.specs.List.{slice_split}
use Rattle.octets.specs.Decimal.{IsNumber}
use Rattle.sn_local.specs.declared.config.Addr.{Addr}
use Rattle.gw_world.specs.declared.event.Event.TheVariants as events
use Rattle.gw_script.specs.declared.command.Command.{Command}
use Rattle.gw_script.specs.declared.command.Command.TheVariants as commands
use Rattle.gw_script.specs.declared.command.Word.{Word}
use Rattle.gw_script.specs.declared.command.Word.TheVariants as words
use Rattle.sn_topic.specs.Topics.{IsName}
use Rattle.gw_script.specs.Octets.{IsHex}

-- what is between the spaces of a line
abbrev pub fields_of : List ℕ → List (List ℕ)
fields_of line = slice_split (λ b. b == 32) line

-- what is between the line feeds of a text
abbrev pub lines_of : List ℕ → List (List ℕ)
lines_of text = slice_split (λ b. b == 10) text

-- how a command begins
abbrev pub word_text : Word → List ℕ
word_text words.Gateway = codes "gateway"
word_text words.Predefine = codes "predefine"
word_text words.Lifetime = codes "lifetime"
word_text words.Frame = codes "frame"
word_text words.Tick = codes "tick"
word_text words.Take = codes "take"
word_text words.Answer = codes "answer"
word_text words.Fail = codes "fail"
word_text words.Compact = codes "compact"
word_text words.Restart = codes "restart"
word_text words.Show = codes "show"

-- the text writes the port of an address of host 0
abbrev pub WritesAddress : List ℕ → Addr → Type 0
WritesAddress text address = (address.host ≡ 0) × IsNumber 16 text address.port

-- the text says how many unsynced bytes of a slot survive: so many, or all, which is 2^64 - 1
abbrev pub IsSpared : List ℕ → ℕ → Type 0
IsSpared text keep = ((text ≡ codes "all") × (keep ≡ 2 ^ 64 - 1)) ⊎ IsNumber 64 text keep

-- the text says how the next write fails: its sync does, or it stops after so many bytes
abbrev pub IsFailure : List ℕ → ℕ → Bool → Type 0
IsFailure text bytes true = (text ≡ codes "sync") × (bytes ≡ 0)
IsFailure text bytes false = IsNumber 64 text bytes

-- after this word, the fields say the command
abbrev pub Says : Word → List (List ℕ) → Command → Type 0
Says words.Gateway (number ∷ []) (commands.Gateway g) = IsNumber 8 number g
Says words.Predefine (number ∷ id ∷ octets ∷ []) (commands.Predefine g i name) =
    IsNumber 8 number g × IsNumber 16 id i × IsHex octets name × IsName name
Says words.Lifetime (number ∷ seconds ∷ []) (commands.Lifetime g s) =
    IsNumber 8 number g × IsNumber 32 seconds s
Says words.Frame (gateway ∷ address ∷ moment ∷ octets ∷ [])
    (commands.Happens (events.Frame g from bytes now)) =
    IsNumber 8 gateway g × WritesAddress address from × IsNumber 64 moment now × IsHex octets bytes
Says words.Tick (gateway ∷ moment ∷ []) (commands.Happens (events.Tick g now)) =
    IsNumber 8 gateway g × IsNumber 64 moment now
Says words.Take (gateway ∷ delta ∷ []) (commands.Happens (events.Take g d)) =
    IsNumber 8 gateway g × IsNumber 64 delta d
Says words.Answer (gateway ∷ peer ∷ []) (commands.Happens (events.Answer g p)) =
    IsNumber 8 gateway g × IsNumber 8 peer p
Says words.Fail (gateway ∷ failure ∷ []) (commands.Happens (events.WriteFails g bytes sync)) =
    IsNumber 8 gateway g × IsFailure failure bytes sync
Says words.Compact (gateway ∷ []) (commands.Happens (events.Compact g)) = IsNumber 8 gateway g
Says words.Restart (gateway ∷ bytes ∷ []) (commands.Happens (events.Restart g keep)) =
    IsNumber 8 gateway g × IsSpared bytes keep
Says words.Show (gateway ∷ []) (commands.Happens (events.Show g)) = IsNumber 8 gateway g
Says word fields command = ⊥

-- the line spells the command: a word and fields, with a space between each two
abbrev pub SpellsCommand : List ℕ → Command → Type 0
SpellsCommand line command =
    (word : Word) × (fields : List (List ℕ)) × (fields_of line ≡ word_text word ∷ fields)
    × Says word fields command
