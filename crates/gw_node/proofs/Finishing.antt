-- A row, from its parts.
use Rattle.std.proofs.Common.{◌≡◌, ◌<◌, ◌-◌, ◌++◌, ◌∷◌, ◌+◌, false, List, [], length, take, drop, map, get_or, Result, Ok, sym, ap, ◌∙◌, subst, arith, inl, inr}
use Rattle.std.proofs.lemmas.List.{length-map, take_all}
use Rattle.rep_op.specs.declared.op.Op.{Op}
use Rattle.sn_local.specs.Locals.{Local}
use Rattle.jr_disk.specs.declared.disk.Disk.{Ghosts}
use Rattle.gw_answer.specs.declared.out.Out.{Out}
use Rattle.gw_answer.specs.declared.refusal.Refusal.{Refusal}
use Rattle.gw_answer.specs.declared.step.Step.{Step}
use Rattle.gw_event.specs.Together.{put_by, put_by_all}
use Rattle.gw_node.specs.Parts.{State, is_halted}
use Rattle.gw_node.specs.Calls.{StepCall}
use Rattle.gw_node.specs.inner.Rows.{WentOn, BeginsRow, EndedAs, IsFinished, RowCall}

abbrev Answers : Type 0
Answers = List (Result Out Refusal)

pub first_said : (out : Out) (none said : Answers) → none ≡ [] → said ≡ none ++ Ok out ∷ [] → said ≡ Ok out ∷ []
first_said out none said e is = is ∙ ap (λ (xs : Answers). xs ++ Ok out ∷ []) e

pub some_said : (out : Out) (all said replies : Answers) → said ≡ Ok out ∷ [] → all ≡ said ++ replies → 0 < length all
some_said out all said replies first is =
    let many : length all ≡ length (Ok out ∷ replies) = ap length (is ∙ ap (λ (xs : Answers). xs ++ replies) first) in omega (arith, many)

module _ {D : Type 0} {G : Ghosts D} where
  -- the rest was carried out, and all was written or not
  pub finished : (mid ahead new : State G) (kept back : List Op) (local : Local) (puts all : List (List Op)) (excuse out : Out) (rest : List Step) (said gone answers : Answers) → said ≡ Ok out ∷ [] → back ≡ kept
      → WentOn mid rest said puts gone all ahead → EndedAs ahead back local all excuse gone answers new → IsFinished mid kept local puts excuse out rest answers new
  finished mid ahead new kept back local puts all excuse out rest said gone answers first same w h =
      let are : gone ≡ Ok out ∷ w.replies = w.answers_are ∙ ap (λ (xs : Answers). xs ++ w.replies) first in
      record {
        count = w.count;
        said = w.replies;
        after = w.after;
        turn = w.turn;
        ahead = ahead;
        same = w.same;
        ended = subst (λ (K : List Op). EndedAs ahead K local (puts ++ put_by_all (take w.count rest) w.replies) excuse (Ok out ∷ w.replies) answers new) same
            (subst (λ (ds : List (List Op)). EndedAs ahead back local ds excuse (Ok out ∷ w.replies) answers new) w.puts_are
            (subst (λ (xs : Answers). EndedAs ahead back local all excuse xs answers new) are h));
      }

  -- a row that began
  pub began : (old mid new : State G) (first : Step) (rest : List Step) (answers : Answers) (kept : List Op) (local : Local) (puts : List (List Op)) (excuse out : Out) → is_halted old ≡ false → BeginsRow old first out excuse mid
      → kept ≡ old.kept → local ≡ old.local → puts ≡ put_by first (Ok out) → IsFinished mid kept local puts excuse out rest answers new → RowCall old first rest answers new
  began old mid new first rest answers kept local puts excuse out runs begun same bound are h = inr (record {
    runs = runs;
    out = out;
    excuse = excuse;
    mid = mid;
    begun = begun;
    finished = subst (λ (K : List Op). IsFinished mid K old.local (put_by first (Ok out)) excuse out rest answers new) same
        (subst (λ (l : Local). IsFinished mid kept l (put_by first (Ok out)) excuse out rest answers new) bound
        (subst (λ (ds : List (List Op)). IsFinished mid kept local ds excuse out rest answers new) are h));
  })

  -- a call by itself
  pub by_itself : (old new : State G) (first : Step) (rest : List Step) (answers : Answers) (answer : Result Out Refusal) → answers ≡ answer ∷ [] → StepCall old first answer new → RowCall old first rest answers new
  by_itself old new first rest answers answer are h = inl (record { answer = answer; answers_are = are; call = h })

-- ---- the first of several values, and those behind it

pub first_and_rest : {X Y : Type 0} (f : X → Y) (xs : List X) (x : X) → 0 < length xs → x ≡ get_or xs 0 x → map f xs ≡ f x ∷ map f (drop 1 xs)
first_and_rest f [] x some is = absurd (omega arith)
first_and_rest f (y ∷ ys) x some is = ap (λ z. f z ∷ map f ys) (sym is)

pub rest_many : {X Y : Type 0} (f : X → Y) (xs : List X) → 0 < length xs → length (map f (drop 1 xs)) + 1 ≡ length xs
rest_many f [] some = absurd (omega arith)
rest_many f (y ∷ ys) some = let same : length (map f ys) ≡ length ys = length-map ys f in omega (arith, same)

-- all behind the first
pub all_behind : {X : Type 0} (xs : List X) → 0 < length xs → take (length xs - 1) (drop 1 xs) ≡ drop 1 xs
all_behind [] some = absurd (omega arith)
all_behind (x ∷ xs) some = take_all (length (x ∷ xs) - 1) xs (omega arith)
