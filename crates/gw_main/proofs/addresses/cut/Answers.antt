use Rattle.std.proofs.Common.{◌≡◌, ◌+◌, ℕ, List, Option, Some, take, drop, ap, ◌∙◌, drop-drop}
use Rattle.std.specs.Prelude.{option_map}
use Rattle.gw_main.proofs.addresses.cut.Goals as goal

parts : (text front behind : List ℕ) (at : ℕ) (place : Option ℕ) → Some at ≡ place → front ≡ take at text → behind ≡ drop (at + 1) text → ◌≡◌ {A = Option (List ℕ × List ℕ)} (Some (front, behind)) (option_map (λ n. (take n text, drop (n + 1) text)) place)
parts text front behind at place e f b =
    ap (λ (l : List ℕ). let x : List ℕ × List ℕ = (l, behind) in Some x) f ∙ ap (λ (l : List ℕ). let x : List ℕ × List ℕ = (take at text, l) in Some x) b ∙ ap (λ (p : Option ℕ). option_map (λ n. (take n text, drop (n + 1) text)) p) e

pub returns-in-Some : goal.returns-in-Some
returns-in-Some c =
    let text = c.args.text.now in
    parts text _ _ c.in-Some.at _ c.in-Some.ensures.place c.split_at.ensures.front
    (c.split_at-in-Some.ensures.back ∙ ap (drop 1) c.split_at.ensures.back ∙ drop-drop 1 c.in-Some.at text)
