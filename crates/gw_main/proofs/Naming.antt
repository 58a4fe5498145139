-- Which texts are names, and which entries a table.
use Rattle.std.proofs.Common.{◌≡◌, ◌≢◌, ◌<◌, ◌↔◌, Bool, true, false, Option, Some, None, ℕ, List, [], length, if◌then◌else◌, refl, ap, sym, true≢false, ◌∙◌, arith}
use Rattle.std.specs.Prelude.{Result, Ok, Err, IsTrue, IsFalse}
use Rattle.sn_topic.specs.Levels.{has_wildcard}
use Rattle.sn_topic.specs.Topics.{IsTopicSize, IsName, is_name, name_asked}
use Rattle.sn_topic.specs.Table.{Entries, is_table}
use Rattle.sn_topic.specs.declared.fault.TopicFault.{TopicFault}
use Rattle.sn_topic.specs.declared.fault.TopicFault.TheVariants as faults
use Rattle.sn_topic.proofs.Decides.{is_name-IsName}
use Rattle.gw_main.specs.Reading.{table_from}

chosen_some : {A : Type 0} (b : Bool) (x : A) → b ≡ true → (if b then Some x else None) ≡ Some x
chosen_some true x e = refl
chosen_some false x e = absurd (true≢false (sym e))

chosen_none : {A : Type 0} (b : Bool) (x : A) → (b ≡ true → ⊥) → (if b then Some x else None) ≡ None
chosen_none true x never = absurd (never refl)
chosen_none false x never = refl

pub named : (text : List ℕ) → IsName text → name_asked text ≡ Some text
named text name = chosen_some (is_name text) text ((is_name-IsName text).1 name)

not_named : (text : List ℕ) → (IsName text → ⊥) → name_asked text ≡ None
not_named text never = chosen_none (is_name text) text (λ e. never ((is_name-IsName text).0 e))

pub empty : (text : List ℕ) → text ≡ [] → name_asked text ≡ None
empty text e = not_named text (λ name. let size : length text ≡ 0 = ap length e in absurd (omega (arith, name.0.0)))

pub too_long : (text : List ℕ) → 256 < length text → name_asked text ≡ None
too_long text h = not_named text (λ name. absurd (omega (arith, name.0.1)))

pub wild : (text : List ℕ) → IsTopicSize text × IsTrue (has_wildcard text) → name_asked text ≡ None
wild text h = not_named text (λ name. absurd (true≢false (sym h.1 ∙ name.1)))

pub tabled : (entries : Entries) → IsTrue (is_table entries) → table_from entries ≡ Some entries
tabled entries e = chosen_some (is_table entries) entries e

pub not_tabled : (entries : Entries) → IsFalse (is_table entries) → table_from entries ≡ None
not_tabled entries e = chosen_none (is_table entries) entries (λ is. true≢false (sym is ∙ e))
