-- A node that is opened on the disk of a gateway that stopped, or on an empty one.
use Rattle.std.proofs.Common.{◌≡◌, ℕ, zero, suc, Bool, false, append-nil, take, length, List, [], Option, Some, None, refl, sym, ap, ◌∙◌, subst}
use Rattle.std.specs.Prelude.{IsTrue}
use Rattle.rep_op.specs.declared.op.Op.{Op}
use Rattle.rep_op.specs.Sets.{Within, IsConsistent}
use Rattle.rep_ops.specs.Splitting.{all_of}
use Rattle.rep_model.specs.Limits.{first_passed}
use Rattle.rep_model.proofs.Joins.{counts-refl, same_trans}
use Rattle.sn_local.specs.declared.config.Config.{Config}
use Rattle.sn_local.specs.Locals.{no_local}
use Rattle.jr_disk.specs.declared.disk.Disk.{Ghosts}
use Rattle.jr_disk.specs.declared.disk.Failure.{Failure}
use Rattle.jr_disk.specs.Disk.{Image, image, left_of, after_crash}
use Rattle.jr_journal.specs.Faults.{is_fresh, fault_of}
use Rattle.jr_disk.specs.Memory.{MemoryState, empty_disk, crashed_disk}
use Rattle.jr_journal.specs.Crashes.{recovered}
use Rattle.jr_journal.specs.Arranged.{misses_failure}
use Rattle.jr_journal.specs.Parts.{disk_under}
use Rattle.jr_journal.specs.Records.{records, slot_content}
use Rattle.gw_answer.specs.declared.refusal.Refusal.{Refusal}
use Rattle.gw_answer.specs.declared.refusal.Refusal.TheVariants as refusals
use Rattle.gw_event.specs.Drives.{opened, left_by}
use Rattle.gw_event.specs.Gateways.{Gateway}
use Rattle.gw_node.specs.Keeping.{Keeps}
use Rattle.gw_node.specs.Opening.{IsStarted, GoesOnIn, IsOpenFault, IsDiskFault}
use Rattle.gw_node.specs.Parts.{State}
use Rattle.gw_node.specs.Standing.{Represents}
use Rattle.gw_node.specs.Taking.{IsBetween, IsWhole, RecoversTo, HasTaken}
use Rattle.gw_node.proofs.Standing.{keeps-read, recovered_synced, from_taken}
use Rattle.gw_node.proofs.Started.{wants_memory}
use Rattle.gw_node.proofs.Taken.{as_taken}
use Rattle.gw_world.specs.Keeping.{IsShown}
use Rattle.gw_world.specs.Steps.{records_left, restarted}
use Rattle.gw_world.specs.inner.Events.{IsStood}

-- ---- an empty disk

no_records : (gateway : ℕ) → records gateway (record { first = []; second = [] }) ≡ []
unfolding slot_content
no_records gateway = refl

no_fault : (gateway : ℕ) → fault_of gateway (record { first = []; second = [] }) ≡ None
unfolding slot_content
no_fault gateway = refl

nothing_within : Within [] []
nothing_within = record { operations_in = λ c name x e. e; puts_in = λ c name x e. e; acknowledgements_in = λ c name e. e; retains_in = λ t name last e. e }

none_roomy : (k : ℕ) → first_passed (all_of (take k [])) ≡ None
none_roomy zero = refl
none_roomy (suc k) = refl

-- it stands for nothing
stands_empty : (gateway : ℕ) (i : Image) → i ≡ record { first = []; second = [] } → RecoversTo gateway [] [] i
stands_empty gateway i empty =
    let none : [] ≡ records gateway i = sym (ap (λ (j : Image). records gateway j) empty ∙ no_records gateway) in
    record {
      sound = ap (λ (j : Image). fault_of gateway j) empty ∙ no_fault gateway;
      between = subst (λ (ds : List (List Op)). IsBetween [] [] (all_of ds)) none (record { lower = nothing_within; upper = nothing_within });
      whole = subst (λ (ds : List (List Op)). IsWhole [] [] (all_of ds)) none (zero, counts-refl []);
      roomy = subst (λ (ds : List (List Op)). (k : ℕ) → first_passed (all_of (take k ds)) ≡ None) none none_roomy;
      proper = subst (λ (ds : List (List Op)). IsConsistent (all_of ds)) none tt;
    }

-- nothing but want of memory refuses an opening there
pub only_memory_new : (config : Config) (i : Image) (refusal : Refusal) → i ≡ record { first = []; second = [] }
    → IsOpenFault config.gateway i refusal → (IsDiskFault refusal → ⊥) → refusal ≡ refusals.Memory
only_memory_new config i refusal empty why disk = wants_memory config.gateway [] [] i refusal (stands_empty config.gateway i empty) why disk

-- ---- a node that was opened

-- a gateway that was just opened: it has taken this
abbrev pub started : Config → List Op → Option Failure → Image → Gateway
started config taken plan i = record { config = config; taken = taken; local = no_local; drive = opened config.gateway plan i; refused = [] }

module _ {D : Type 0} {G : Ghosts D} where
  -- where this was found, and nothing but an append meets the failure that is arranged
  pub record WasOpened (config : Config) (i : Image) (plan : Option Failure) (new : State G) : Type 0 where
    pub honest : G.honest
    pub starts : IsStarted config new
    pub keeps : Keeps (all_of (records config.gateway i)) new.kept
    pub durable : (S : List Op) → RecoversTo config.gateway S [] i → HasTaken S [] new
    pub place : GoesOnIn new config.gateway i
    pub known : G.slots (disk_under new.journal) ≡ recovered config.gateway i
    pub planned : G.outlook (disk_under new.journal) ≡ Some plan
    pub fed : G.starved (disk_under new.journal) ≡ false

  -- it stands for the gateway that has taken what the image stands for
  pub opened_shown : (config : Config) (i : Image) (plan : Option Failure) (S : List Op) (new : State G) → IsTrue (misses_failure (Some plan) false) → RecoversTo config.gateway S [] i → WasOpened config i plan new
      → IsShown (started config S plan i) new
  opened_shown config i plan S new quiet there h =
      let J = all_of (records config.gateway i) in
      let stands : Represents (started config S plan i) new = record {
        configured = h.starts.configured;
        numbered = h.starts.gateway;
        bound = h.starts.local;
        keeps = keeps-read S J new.kept there.between there.proper h.keeps (same_trans h.keeps.counts (as_taken S J there.whole));
        slot = h.place.slot;
        halted = h.starts.runs;
        slots = λ honest. h.known;
      } in
      record {
        stands = stands;
        foreseen = record { plan = h.planned; quiet = quiet };
        fed = h.fed;
        lasts = λ honest. from_taken (started config S plan i) new stands honest refl (λ runs. recovered_synced config.gateway i) (h.durable S there);
      }

  pub new_shown : (config : Config) (i : Image) (new : State G) → i ≡ record { first = []; second = [] } → WasOpened config i None new → IsShown (started config [] None (record { first = []; second = [] })) new
  new_shown config i new empty h =
      subst (λ (j : Image). IsShown (started config [] None j) new) empty (opened_shown config i None [] new refl (stands_empty config.gateway i empty) h)

  -- ---- a restart

  -- what is left of its disk
  found_by : (gateway : Gateway) (old : State G) (left : ℕ) (i : Image) → G.honest → IsShown gateway old → i ≡ after_crash left left (G.slots (disk_under old.journal)) → i ≡ left_by left gateway.drive
  found_by gateway old left i honest s found = found ∙ (λ j. after_crash left left (s.stands.slots honest j))

  left_stands : (gateway : Gateway) (old : State G) (left : ℕ) (config : Config) (i : Image) → G.honest → IsShown gateway old → config ≡ old.config → i ≡ after_crash left left (G.slots (disk_under old.journal))
      → RecoversTo config.gateway (restarted left gateway).taken [] i
  left_stands gateway old left config i honest s same found =
      subst (λ (c : Config). RecoversTo c.gateway (restarted left gateway).taken [] i) (sym (same ∙ s.stands.configured))
      (subst (λ (j : Image). RecoversTo gateway.config.gateway (restarted left gateway).taken [] j) (sym (found_by gateway old left i honest s found)) ((s.lasts honest).images left left))

  pub restarted_shown : (gateway : Gateway) (old new : State G) (left : ℕ) (config : Config) (i : Image) → IsShown gateway old → config ≡ old.config
      → i ≡ after_crash left left (G.slots (disk_under old.journal)) → WasOpened config i gateway.drive.plan new → IsShown (restarted left gateway) new
  restarted_shown gateway old new left config i s same found h =
      let T = (restarted left gateway).taken in
      let shown = opened_shown config i gateway.drive.plan T new s.foreseen.quiet (left_stands gateway old left config i h.honest s same found) h in
      let there : started config T gateway.drive.plan i ≡ restarted left gateway =
      λ j. started ((same ∙ s.stands.configured) j) T gateway.drive.plan (found_by gateway old left i h.honest s found j) in
      subst (λ (x : Gateway). IsShown x new) there shown

  -- as many records are read as the gateway says
  pub records_found : (gateway : Gateway) (old : State G) (left : ℕ) (config : Config) (i : Image) → G.honest → IsShown gateway old → config ≡ old.config
      → i ≡ after_crash left left (G.slots (disk_under old.journal)) → length (records config.gateway i) ≡ records_left left gateway
  records_found gateway old left config i honest s same found =
      λ j. length (records ((same ∙ s.stands.configured) j).gateway (found_by gateway old left i honest s found j))

  pub begun_left : (old : State G) (left : ℕ) (i : Image) → G.honest → IsStood old → i ≡ after_crash left left (G.slots (disk_under old.journal)) → is_fresh i ≡ false
  begun_left old left i honest (gateway, s) found = ap is_fresh (found_by gateway old left i honest s found) ∙ (s.lasts honest).begun left left

  pub quiet_left : (old : State G) (outlook : Option (Option Failure)) (fresh : Bool) → IsStood old → outlook ≡ G.outlook (disk_under old.journal) → fresh ≡ false → IsTrue (misses_failure outlook fresh)
  quiet_left old outlook fresh (gateway, s) same begun =
      subst (λ (o : Option (Option Failure)). IsTrue (misses_failure o fresh)) (sym (same ∙ s.foreseen.plan))
      (subst (λ (b : Bool). IsTrue (misses_failure (Some gateway.drive.plan) b)) (sym begun) s.foreseen.quiet)

  -- nothing but want of memory refuses the opening
  pub only_memory : (old : State G) (left : ℕ) (config : Config) (i : Image) (refusal : Refusal) → G.honest → IsStood old → config ≡ old.config
      → i ≡ after_crash left left (G.slots (disk_under old.journal)) → IsOpenFault config.gateway i refusal → (IsDiskFault refusal → ⊥) → refusal ≡ refusals.Memory
  only_memory old left config i refusal honest (gateway, s) same found why disk =
      wants_memory config.gateway (restarted left gateway).taken [] i refusal (left_stands gateway old left config i honest s same found) why disk

-- ---- a disk in memory

pub crash_left : (left : ℕ) (d : MemoryState) → image (crashed_disk left d).slots ≡ after_crash left left d.slots
crash_left left d = λ j. record { first = append-nil (left_of left d.slots.first) j; second = append-nil (left_of left d.slots.second) j }

-- on an empty disk nothing is arranged
pub unplanned : (d : MemoryState) (fresh : Bool) → d ≡ empty_disk → IsTrue (misses_failure (Some d.plan) fresh)
unplanned d fresh e = subst (λ (x : MemoryState). IsTrue (misses_failure (Some x.plan) fresh)) (sym e) refl
