-- A message that stands in a set waits in each set that has all of it that counts, or is acknowledged there.
use Rattle.std.proofs.Common.{◌≡◌, ℕ, true, false, cond, not, List, ◌++◌, take, slice_get, Option, Some, None, Contains, refl, sym, ap, ◌∙◌, subst, inl, inr}
use Rattle.std.proofs.lemmas.Option.{same_Some}
use Rattle.rep_op.specs.declared.op.Op.{Op}
use Rattle.rep_op.specs.declared.op.Put.{Put}
use Rattle.rep_op.specs.Sets.{put_at, is_acknowledged, Within}
use Rattle.rep_ops.specs.Splitting.{all_of}
use Rattle.rep_model.specs.declared.view.ClientView.{ClientView}
use Rattle.rep_model.specs.Keep.{CountsAs, Below}
use Rattle.rep_model.proofs.Joins.{same_sym, view-counts, within-left}
use Rattle.rep_model.proofs.Lookup.{or_else}
use Rattle.rep_model.proofs.Pending.{pending-listed, pending-stay}
use Rattle.rep_model.proofs.Readers.{put_at_both, is_acknowledged_keep}
use Rattle.rep_model.proofs.Thin.{pending_at-reads}
use Rattle.jr_journal.specs.Records.{records}
use Rattle.gw_event.specs.Gateways.{Gateway, with_refused}
use Rattle.gw_node.proofs.Refused.{refused_is}
use Rattle.gw_node.proofs.Taken.{as_taken}
use Rattle.gw_world.specs.declared.event.Event.{Event}
use Rattle.gw_world.specs.declared.event.Answer.{Answer}
use Rattle.gw_world.specs.Field.{Field, Run}
use Rattle.field_laws.proofs.Catching.{run-later, later-now}
use Rattle.promise_laws.specs.Accepted.{WaitsOrAcknowledged, IsWithGateway, IsKeptFrom}
use Rattle.promise_laws.proofs.Serving.{IsPut}

-- a set stands in itself with some first ones of what was refused
within-back : (n : ℕ) (S : List Op) (refused : List (List Op)) → Within S (with_refused n S refused)
within-back n S refused = subst (λ (T : List Op). Within S T) (sym (refused_is n S refused)) (within-left S (all_of (take n refused)))

module _ (c : List ℕ) (m : Put) where
  abbrev name : ℕ × ℕ
  name = (m.seq, m.origin)

  -- it stands there
  pub stands-stays : (S : List Op) → put_at c S name ≡ Some m → WaitsOrAcknowledged c m S
  stands-stays S e =
      elim (is_acknowledged c S name) as (λ b. is_acknowledged c S name ≡ b → WaitsOrAcknowledged c m S) [
        | true ↦ λ acked. inr acked
        | false ↦ λ open_yet. inl ((pending-listed c S m).1 (pending_at-reads c S name ∙ ap (λ b. cond (not b) (put_at c S name) None) open_yet ∙ e))
      ] refl

  -- in a larger set
  pub more-stays : (S W : List Op) → Within S W → WaitsOrAcknowledged c m S → WaitsOrAcknowledged c m W
  more-stays S W within (inl waits) = pending-stay c S W m within waits
  more-stays S W within (inr acked) = inr (within.acknowledgements_in c name acked)

  -- in what counts as the set
  pub counts-acked : (S J : List Op) → CountsAs S J → is_acknowledged c J name ≡ is_acknowledged c S name
  counts-acked S J counts = sym (is_acknowledged_keep c J name) ∙ counts.acknowledgements_same c name ∙ is_acknowledged_keep c S name

  pub counts-stays : (S J : List Op) → CountsAs S J → WaitsOrAcknowledged c m S → WaitsOrAcknowledged c m J
  counts-stays S J counts (inl waits) = inl (subst (λ (v : ClientView). Contains v.pending m) (sym (view-counts c S J counts)) waits)
  counts-stays S J counts (inr acked) = inr (counts-acked S J counts ∙ acked)

  -- in a set that has all of a delta that counts
  pub below-stays : (delta S : List Op) → put_at c delta name ≡ Some m → Below delta S → WaitsOrAcknowledged c m S
  below-stays delta S e below =
      counts-stays (delta ++ S) S (same_sym below)
      (stands-stays (delta ++ S) (put_at_both c delta S name ∙ ap (λ (o : Option Put). or_else o (put_at c S name)) e))

  -- ---- at a gateway

  pub with-gateway : (gateway : Gateway) → WaitsOrAcknowledged c m gateway.taken → IsWithGateway c m gateway
  with-gateway gateway h = record {
    in_set = h;
    on_disk = λ image left.
        let S : List Op = with_refused left.0 gateway.taken gateway.refused in
        let J : List Op = all_of (records gateway.config.gateway image) in
        counts-stays S J (as_taken S J left.1.whole) (more-stays gateway.taken S (within-back left.0 gateway.taken gateway.refused) h);
  }

-- ---- in a run

-- the gateway in this place has the set a run later
pub run-within : (mid new : Field) (more : List Event) (replies : List Answer) (i : ℕ) (next gateway : Gateway) → slice_get mid.gateways i ≡ Some next → Run mid more replies new → slice_get new.gateways i ≡ Some gateway → Within next.taken gateway.taken
run-within mid new more replies i next gateway here run place =
    let l = run-later mid more replies new i next.taken run (later-now mid.gateways i next here) in
    let is : gateway.taken ≡ next.taken ++ l.more = ap (λ (x : Gateway). x.taken) (same_Some gateway l.gateway (sym place ∙ l.place)) ∙ l.taken in
    subst (Within next.taken) (sym is) (within-left next.taken l.more)

module _ (old next : Gateway) (delta : List Op) (c : List ℕ) (m : Put) (is : IsPut old next delta c m) where
  stands-next : put_at c next.taken (m.seq, m.origin) ≡ Some m
  stands-next =
      ap (λ (S : List Op). put_at c S (m.seq, m.origin)) is.taken
      ∙ put_at_both c old.taken delta (m.seq, m.origin)
      ∙ ap (λ (o : Option Put). or_else o (put_at c delta (m.seq, m.origin))) is.is_new.fresh
      ∙ is.stands

  pub kept-from : (mid : Field) (i : ℕ) → slice_get mid.gateways i ≡ Some next → IsKeptFrom mid i delta c m
  kept-from mid i here = λ more replies new j gateway run place come.
      with-gateway c m gateway (elim come [
        | inl same ↦ stands-stays c m gateway.taken ((run-within mid new more replies i next gateway here run (ap (slice_get new.gateways) (sym same) ∙ place)).puts_in c (m.seq, m.origin) m stands-next)
        | inr below ↦ below-stays c m delta gateway.taken is.stands below
      ])
