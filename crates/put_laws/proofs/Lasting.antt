-- Each message that a step or a tick makes has the moment at which the lifetime of its gateway is over.
use Rattle.std.proofs.Common.{◌≡◌, ℕ, ◌+◌, ◌^◌, ◌==◌, ◌<◌, ◌≤◌, Bool, true, false, if◌then◌else◌, List, Option, Some, None, unwrap_or, refl, sym, ap, ◌∙◌, subst, arith, lt-ltb, le-ltb, ne_eqb}
use Rattle.std.proofs.lemmas.Option.{same_Some}
use Rattle.sn_topic.specs.Table.{Entries}
use Rattle.sn_frame.specs.declared.frame.Frame.{Frame}
use Rattle.sn_local.specs.declared.config.Addr.{Addr}
use Rattle.sn_local.specs.Lifetimes.{moment_after, expires_at}
use Rattle.sn_local.specs.Locals.{Local}
use Rattle.sn_local.specs.Seen.{Seen}
use Rattle.sn_plan.specs.declared.plan.Plan.{Plan}
use Rattle.sn_plan.specs.declared.row.Follow.TheVariants as follows
use Rattle.sn_plan.specs.declared.row.Row.{Row}
use Rattle.sn_plan.specs.Bound.{session_of}
use Rattle.sn_plan.specs.Drafts.{Drafted, lasting}
use Rattle.sn_plan.specs.Plans.{plan_without}
use Rattle.sn_plan.specs.Rows.{plan_for, row_of, row_lasting}
use Rattle.sn_exchange.specs.Following.{followed_for, deliver_next}
use Rattle.sn_deliver.specs.Steps.{row_for, step}
use Rattle.sn_tick.specs.declared.due.Due.{Due}
use Rattle.sn_tick.specs.declared.due.Due.TheVariants.{Expiry, Loss, Retry, Delivery}
use Rattle.sn_tick.specs.Due.{first_due}
use Rattle.sn_tick.specs.Expiry.{expire_all}
use Rattle.sn_tick.specs.Ticking.{begin_tick, may_advertise, advertised, lost, retry_row, plan_due, plan_if_due, tick}
use Rattle.row_laws.proofs.Moments.{AllHave, plan-moments, nobody-moments}
use Rattle.step_laws.proofs.Drafting.{followed_for_expires, expired_expires}

-- ---- a plan

module _ (g : ℕ) (seen : Seen) where
  for-moments : (d : Drafted) (client : Option (List ℕ)) (plan : Plan) → plan_for g seen d client ≡ Some plan → AllHave d.expires plan.ops
  for-moments d None plan is = nobody-moments g seen d plan is
  for-moments d (Some c) plan is = plan-moments g c seen d plan is

  next-moments : (predefined : Entries) (a : Addr) (now : ℕ) (row : Row) (plan : Plan) → deliver_next g predefined seen a now row ≡ Some plan → AllHave row.draft.expires plan.ops
  next-moments predefined a now row plan is =
      subst (λ (moment : ℕ). AllHave moment plan.ops) (followed_for_expires predefined seen a now row.draft row.follow row.client)
      (for-moments (followed_for predefined seen a now row.draft row.follow row.client) row.client plan is)

pub step-moments : (g lifetime : ℕ) (predefined : Entries) (seen : Seen) (local : Local) (a : Addr) (frame : Frame) (now : ℕ) (plan : Plan)
    → step g lifetime predefined seen local a frame now ≡ Some plan → AllHave (expires_at lifetime now) plan.ops
unfolding step
step-moments g lifetime predefined seen local a frame now plan is =
    next-moments g seen predefined a now (row_lasting (expires_at lifetime now) (row_for g predefined seen local a frame now)) plan is

-- ---- a tick

module _ (g : ℕ) (predefined : Entries) (seen : Seen) (local : Local) (now : ℕ) (plan : Plan) (d : Drafted) where
  due-moments : (c : List ℕ) (due : Due) → plan_due g predefined seen local now d c due ≡ Some plan → AllHave d.expires plan.ops
  due-moments c Expiry is =
      subst (λ (moment : ℕ). AllHave moment plan.ops) (expired_expires seen local now c d) (plan-moments g c seen (expire_all seen local now c d) plan is)
  due-moments c Loss is = plan-moments g c seen (lost seen c (session_of seen c) d) plan is
  due-moments c (Retry a) is = next-moments g seen predefined a now (retry_row now d c) plan is
  due-moments c (Delivery a) is = next-moments g seen predefined a now (row_of follows.Delivery c d) plan is

  without-moments : (e : Drafted) → Some (plan_without e) ≡ Some plan → AllHave d.expires plan.ops
  without-moments e is = subst (λ (p : Plan). AllHave d.expires p.ops) (same_Some (plan_without e) plan is) tt

  found-moments : (found : Option (List ℕ × Due)) → plan_if_due g predefined seen local now d found ≡ Some plan → AllHave d.expires plan.ops
  found-moments None is = without-moments d is
  found-moments (Some found) is = due-moments found.0 found.1 is

  either-moments : (b : Bool) (told : Drafted) (found : Option (List ℕ × Due)) → (if b then Some (plan_without told) else plan_if_due g predefined seen local now d found) ≡ Some plan
      → AllHave d.expires plan.ops
  either-moments true told found is = without-moments told is
  either-moments false told found is = found-moments found is

pub tick-moments : (g lifetime advertise : ℕ) (field : List Addr) (predefined : Entries) (seen : Seen) (local : Local) (now : ℕ) (plan : Plan)
    → tick g lifetime advertise field predefined seen local now ≡ Some plan → AllHave (expires_at lifetime now) plan.ops
tick-moments g lifetime advertise field predefined seen local now plan is =
    let d : Drafted = lasting (expires_at lifetime now) (begin_tick g seen local now) in
    either-moments g predefined seen local now plan d (may_advertise advertise field now local.advertised)
    (advertised g advertise field now d) (first_due g seen local now seen.all) is

-- ---- the moment

there : (lifetime now : ℕ) → 0 < lifetime → now + lifetime < 2 ^ 64 → expires_at lifetime now ≡ now + lifetime
there lifetime now some fits =
    ap (λ (b : Bool). if b then 0 else unwrap_or (moment_after now lifetime) 0) (ne_eqb lifetime 0 (λ e. omega (arith, some, e)))
    ∙ ap (λ (b : Bool). unwrap_or (if b then Some (now + lifetime) else None) 0) (lt-ltb (now + lifetime) (2 ^ 64) fits)

pub later-moment : (lifetime now : ℕ) → 0 < lifetime → now + lifetime < 2 ^ 64 → (expires_at lifetime now ≡ now + lifetime) × (now < expires_at lifetime now)
later-moment lifetime now some fits =
    let e : expires_at lifetime now ≡ now + lifetime = there lifetime now some fits in
    (e, subst (λ (moment : ℕ). now < moment) (sym e) (omega (arith, some)))

pub late-moment : (lifetime now : ℕ) → 2 ^ 64 ≤ now + lifetime → expires_at lifetime now ≡ 0
late-moment lifetime now above =
    elim (lifetime == 0) as (λ b. (if b then 0 else unwrap_or (moment_after now lifetime) 0) ≡ 0) [
      | true ↦ refl
      | false ↦ ap (λ (b : Bool). unwrap_or (if b then Some (now + lifetime) else None) 0) (le-ltb (now + lifetime) (2 ^ 64) above)
    ]
