-- What is staged of one operation whose topic has a place, and what follows for the table.
use Rattle.std.proofs.Common.{◌≡◌, ℕ, ◌<◌, ◌≤◌, true, false, List, [], ◌∷◌, ◌++◌, length, length-set, get_or, set, sym, ap, ◌∙◌, subst, is_lt}
use Rattle.sn_tables.specs.inner.Tables.{IsFoundAt}
use Rattle.sn_tables.proofs.Ascending.{Ascends, from_test}
use Rattle.rep_op.specs.declared.op.Retained.{Retained}
use Rattle.rep_op.specs.declared.op.Op.{Op}
use Rattle.rep_op.specs.declared.op.Op.TheVariants.{Retain as OfRetain}
use Rattle.rep_op.specs.Orders.{clock_of, clock_cmp, AreOfTopics}
use Rattle.rep_ops.specs.Making.{AreWellMade}
use Rattle.rep_model.specs.Keep.{IsKeptOf}
use Rattle.rep_retain.specs.declared.staged.TopicsStaged.{TopicsStaged}
use Rattle.rep_retain.specs.declared.staged.TopicsStaged.TheVariants.{Nothing, Entry, Table}
use Rattle.rep_retain.specs.Tables.{IsTopicTable, entry_cmp, ops_of}
use Rattle.rep_retain.specs.inner.Tables.{by_topic, with_kept, with_ops}
use Rattle.rep_retain.specs.Refusals.{AreFew}
use Rattle.rep_retain.specs.Staging.{topics_moved, IsTopicsReady}
use Rattle.rep_retain.specs.inner.Steps.{IsStagedOf}
use Rattle.rep_retain.proofs.Found.{entry_total}
use Rattle.rep_retain.proofs.Keeping.{kept_of}
use Rattle.rep_retain.proofs.Placing.{stays, set_is, ascending_ops}
use Rattle.rep_retain.proofs.Ready.{made_ops, few_ops}

module _ (t : List ℕ) (k : Retained) (es : List (List ℕ × Retained)) (i : ℕ) (d : List ℕ × Retained) (place : IsFoundAt (by_topic t) es i) where
  -- what stands there is as late
  pub nothing_staged : is_lt (clock_cmp (clock_of (get_or es i d).1) (clock_of k)) ≡ false → IsStagedOf es (OfRetain t k ∷ []) Nothing
  nothing_staged late =
      let same : es ≡ with_kept t k es = stays t k es i d place late in
      record { moves = same; stands = tt; long = sym (ap length same) }

  -- what stands there is outdone
  pub entry_staged : i < length es → is_lt (clock_cmp (clock_of (get_or es i d).1) (clock_of k)) ≡ true → (e : List ℕ × Retained) → e ≡ (t, k) → IsStagedOf es (OfRetain t k ∷ []) (Entry i e)
  entry_staged within later e is =
      let next : set es i e ≡ with_kept t k es = ap (λ x. set es i x) is ∙ set_is t k es i d place later in
      record { moves = next; stands = within; long = sym (ap length next) ∙ length-set es i e }

module _ (es : List (List ℕ × Retained)) (ops : List Op) (table : IsTopicTable es) where
  up : Ascends entry_cmp es
  up = from_test entry_cmp entry_total es table.ascending

  short : (staged : TopicsStaged) → IsStagedOf es ops staged → length (with_ops es ops) ≤ 4096
  short staged s = subst (λ (n : ℕ). n ≤ 4096) (sym s.long) table.few

  pub staged_few : (staged : TopicsStaged) → IsStagedOf es ops staged → AreFew (ops_of es ++ ops)
  staged_few staged s = few_ops es ops up (short staged s)

  pub staged_kept : (staged : TopicsStaged) → IsStagedOf es ops staged → AreOfTopics ops → IsKeptOf (ops_of es ++ ops) (ops_of (topics_moved es staged))
  staged_kept staged s topics = subst (λ xs. IsKeptOf (ops_of es ++ ops) (ops_of xs)) (sym s.moves) (kept_of es ops up topics)

  pub staged_ready : (staged : TopicsStaged) → IsStagedOf es ops staged → AreWellMade ops → IsTopicsReady es staged
  staged_ready Nothing s made = tt
  staged_ready (Entry at e) s made = (
    s.stands,
    subst IsTopicTable (sym s.moves) (record {
      ascending = ascending_ops es ops table.ascending;
      well_made = made_ops es ops table.well_made made;
      few = short (Entry at e) s;
    }),
  )
  staged_ready (Table next) s made = tt

-- an entry that is ready for a table, by another name of that
pub ready_entry : (es now : List (List ℕ × Retained)) (staged : TopicsStaged) (at : ℕ) (e : List ℕ × Retained) → es ≡ now → staged ≡ Entry at e → IsTopicsReady now staged → (at < length es) × IsTopicTable (set es at e)
ready_entry es now staged at e seen is ready = subst (λ (xs : List (List ℕ × Retained)). (at < length xs) × IsTopicTable (set xs at e)) (sym seen) (subst (IsTopicsReady now) is ready)
