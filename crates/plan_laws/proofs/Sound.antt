-- Drafts that can be written: changes, messages and topics of wills in range, acknowledgements of messages that can be, each once.
use Rattle.std.proofs.Common.{◌≡◌, ℕ, Bool, true, false, ◌&&◌, ◌||◌, not, nat_le, cond, if◌then◌else◌, min, List, [], ◌∷◌, ◌++◌, map, filter, length, Option, Some, None, IfSome, refl, sym, ap, ◌∙◌, subst, true≢false, arith, le-leb, leb-true}
use Rattle.std.specs.List.{AllByRecursion}
use Rattle.std.proofs.lemmas.Bool.{and_parts, or_parts}
use Rattle.std.proofs.lemmas.List.Folds.{list_any-append}
use Rattle.sn_session.specs.declared.change.SessionOp.{SessionOp}
use Rattle.sn_frame.specs.declared.frame.Frame.{Frame}
use Rattle.rep_op.specs.declared.op.Put.{Put}
use Rattle.rep_op.specs.WellMade.{is_put}
use Rattle.rep_op.specs.Orders.{name_of}
use Rattle.sn_local.specs.declared.config.Addr.{Addr}
use Rattle.sn_plan.specs.declared.draft.NewPut.{NewPut}
use Rattle.sn_plan.specs.declared.draft.Posted.{Posted}
use Rattle.sn_local.specs.declared.local.LocalChange.{LocalChange}
use Rattle.sn_local.specs.declared.local.LocalChange.TheVariants.{Ask}
use Rattle.sn_plan.specs.Drafts.{Drafted, nothing, changed, changed_if, acked, acked_all, hand_all, retain_if, put_all, lasting, sent, moved}
use Rattle.sn_plan.proofs.Lists.{all-append, all-both, all-given}
use Rattle.sn_exchange.specs.Exchanges.{same_name, is_done, is_left, left}
use Rattle.step_laws.specs.Laws.{AreNamedApart}
use Rattle.plan_laws.specs.KeepsWell.{is_asked}
use Rattle.plan_laws.proofs.Sessions.{IsChange}
use Rattle.plan_laws.proofs.Kept.{IsWell}

-- sequence number and origin begin at 1
abbrev pub IsNamed : ℕ × ℕ → Type 0
IsNamed name = (nat_le 1 name.0 ≡ true) × (nat_le 1 name.1 ≡ true)

-- names that are all different
abbrev pub AreOnce : List (ℕ × ℕ) → Type 0
AreOnce [] = Unit {0}
AreOnce (name ∷ rest) = AllByRecursion (λ (other : ℕ × ℕ). same_name name other ≡ false) rest × AreOnce rest

-- a message of a quality of service of 0 to 2, with at most 4,096 octets
abbrev pub IsMessage : NewPut → Type 0
IsMessage p = (nat_le p.qos 2 ≡ true) × (nat_le (length p.body) 4096 ≡ true)

-- and so what is handed, or retained
abbrev pub IsPosted : Posted → Type 0
IsPosted m = (nat_le m.qos 2 ≡ true) × (nat_le (length m.body) 4096 ≡ true)

-- a dialog is in range
abbrev pub IsMove : LocalChange → Type 0
IsMove (Ask dialog) = is_asked dialog.awaited ≡ true
IsMove change = Unit {0}

pub record Sound (d : Drafted) : Type 0 where
  pub changes : AllByRecursion IsChange d.changes
  pub acks : AllByRecursion IsNamed d.acks
  pub once : AreOnce d.acks
  pub handed : AllByRecursion IsPosted d.handed
  pub retain : IfSome d.retain IsPosted
  pub puts : AllByRecursion IsMessage d.puts
  pub local : AllByRecursion IsMove d.local

pub sound-nothing : Sound nothing
sound-nothing = record { changes = tt; acks = tt; once = tt; handed = tt; retain = tt; puts = tt; local = tt }

pub sound-changed : (change : SessionOp) (d : Drafted) → IsChange change → Sound d → Sound (changed change d)
sound-changed change d h s = record { changes = all-append IsChange d.changes (change ∷ []) s.changes (h, tt); acks = s.acks; once = s.once; handed = s.handed; retain = s.retain; puts = s.puts; local = s.local }

pub sound-changed_if : (change : Option SessionOp) (d : Drafted) → IfSome change IsChange → Sound d → Sound (changed_if change d)
sound-changed_if None d h s = s
sound-changed_if (Some change) d h s = sound-changed change d h s

pub sound-put_all : (puts : List NewPut) (d : Drafted) → AllByRecursion IsMessage puts → Sound d → Sound (put_all puts d)
sound-put_all puts d h s = record { changes = s.changes; acks = s.acks; once = s.once; handed = s.handed; retain = s.retain; puts = all-append IsMessage d.puts puts s.puts h; local = s.local }

pub sound-hand_all : (handed : List Posted) (d : Drafted) → AllByRecursion IsPosted handed → Sound d → Sound (hand_all handed d)
sound-hand_all handed d h s = record { changes = s.changes; acks = s.acks; once = s.once; handed = all-append IsPosted d.handed handed s.handed h; retain = s.retain; puts = s.puts; local = s.local }

pub sound-retain_if : (posted : Option Posted) (d : Drafted) → IfSome posted IsPosted → Sound d → Sound (retain_if posted d)
sound-retain_if posted d h s = record { changes = s.changes; acks = s.acks; once = s.once; handed = s.handed; retain = h; puts = s.puts; local = s.local }

pub sound-lasting : (moment : ℕ) (d : Drafted) → Sound d → Sound (lasting moment d)
sound-lasting moment d s = record { changes = s.changes; acks = s.acks; once = s.once; handed = s.handed; retain = s.retain; puts = s.puts; local = s.local }

pub sound-sent : (to : Addr) (frame : Frame) (d : Drafted) → Sound d → Sound (sent to frame d)
sound-sent to frame d s = record { changes = s.changes; acks = s.acks; once = s.once; handed = s.handed; retain = s.retain; puts = s.puts; local = s.local }

pub sound-moved : (change : LocalChange) (d : Drafted) → IsMove change → Sound d → Sound (moved change d)
sound-moved change d h s = record { changes = s.changes; acks = s.acks; once = s.once; handed = s.handed; retain = s.retain; puts = s.puts; local = all-append IsMove d.local (change ∷ []) s.local (h, tt) }

-- of two qualities of service the smaller is in range where the first is
pub least-two : (a b : ℕ) → nat_le a 2 ≡ true → nat_le (min a b) 2 ≡ true
least-two a b h = let le = leb-true a 2 h in le-leb (min a b) 2 (omega (arith, le))

pub choose-sound : (b : Bool) (x y : Drafted) → Sound x → Sound y → Sound (if b then x else y)
choose-sound true x y s t = s
choose-sound false x y s t = t

-- ---- acknowledgements

-- the message is not acknowledged by these names
abbrev pub IsNotDone : List (ℕ × ℕ) → Put → Type 0
IsNotDone acks p = is_done acks (name_of p) ≡ false

only : (b : Bool) → b ≡ false → (b || false) ≡ false
only true e = e
only false e = refl

or_none : (a b : Bool) → a ≡ false → b ≡ false → (a || b) ≡ false
or_none true b e f = absurd (true≢false e)
or_none false b e f = f

-- one more, that is not among them
pub once-more : (acks : List (ℕ × ℕ)) (name : ℕ × ℕ) → AreOnce acks → is_done acks name ≡ false → AreOnce (acks ++ name ∷ [])
once-more [] name once e = (tt, tt)
once-more (a ∷ rest) name once e =
    let parts = or_parts (same_name a name) (is_done rest name) e in
    (all-append (λ (other : ℕ × ℕ). same_name a other ≡ false) rest (name ∷ []) once.0 (parts.0, tt), once-more rest name once.1 parts.1)

pub not-done-more : (acks : List (ℕ × ℕ)) (name : ℕ × ℕ) (p : Put) → IsNotDone acks p → same_name name (name_of p) ≡ false → IsNotDone (acks ++ name ∷ []) p
not-done-more acks name p h k =
    list_any-append (λ ack. same_name ack (name_of p)) acks (name ∷ [])
    ∙ or_none (is_done acks (name_of p)) (same_name name (name_of p) || false) h (only (same_name name (name_of p)) k)

pub sound-acked : (name : ℕ × ℕ) (d : Drafted) → IsNamed name → is_done d.acks name ≡ false → Sound d → Sound (acked name d)
sound-acked name d h e s =
    record { changes = s.changes; acks = all-append IsNamed d.acks (name ∷ []) s.acks (h, tt); once = once-more d.acks name s.once e; handed = s.handed; retain = s.retain; puts = s.puts; local = s.local }

-- after one more acknowledgement the others are not done
pub others-left : (acks : List (ℕ × ℕ)) (put : Put) (rest : List Put) → AllByRecursion (λ (other : Put). same_name (name_of put) (name_of other) ≡ false) rest
    → AllByRecursion (IsNotDone acks) rest → AllByRecursion (IsNotDone (acks ++ name_of put ∷ [])) rest
others-left acks put rest apart all =
    all-both (λ (other : Put). same_name (name_of put) (name_of other) ≡ false) (IsNotDone acks) (IsNotDone (acks ++ name_of put ∷ []))
    (λ other h k. not-done-more acks (name_of put) other k h) rest apart all

-- a message that can be has a name that can be
pub well-named : (p : Put) → IsWell p → IsNamed (name_of p)
well-named p h =
    let a = and_parts (nat_le 1 p.origin && nat_le 1 p.seq && nat_le p.qos 2) (nat_le (length p.body) 4096) h in
    let b = and_parts (nat_le 1 p.origin && nat_le 1 p.seq) (nat_le p.qos 2) a.0 in
    let c = and_parts (nat_le 1 p.origin) (nat_le 1 p.seq) b.0 in
    (c.1, c.0)

pub all-named : (ps : List Put) → AllByRecursion IsWell ps → AllByRecursion IsNamed (map name_of ps)
all-named [] all = tt
all-named (p ∷ ps) all = (well-named p all.0, all-named ps all.1)

names_apart : (p : Put) (ps : List Put) → AllByRecursion (λ (other : Put). same_name (name_of p) (name_of other) ≡ false) ps
    → AllByRecursion (λ (other : ℕ × ℕ). same_name (name_of p) other ≡ false) (map name_of ps)
names_apart p [] all = tt
names_apart p (q ∷ qs) all = (all.0, names_apart p qs all.1)

pub all-once : (ps : List Put) → AreNamedApart ps → AreOnce (map name_of ps)
all-once [] apart = tt
all-once (p ∷ ps) apart = (names_apart p ps apart.0, all-once ps apart.1)

-- these, if nothing is acknowledged yet
pub sound-acked_all : (names : List (ℕ × ℕ)) (d : Drafted) → d.acks ≡ [] → AllByRecursion IsNamed names → AreOnce names → Sound d → Sound (acked_all names d)
sound-acked_all names d none named once h = record {
  changes = h.changes;
  acks = subst (λ (xs : List (ℕ × ℕ)). AllByRecursion IsNamed (xs ++ names)) (sym none) named;
  once = subst (λ (xs : List (ℕ × ℕ)). AreOnce (xs ++ names)) (sym none) once;
  handed = h.handed;
  retain = h.retain;
  puts = h.puts;
  local = h.local;
}

-- ---- what is left

module _ (P : Put → Type 0) where
  if_all : (b : Bool) (p : Put) (ps : List Put) → P p → AllByRecursion P ps → AllByRecursion P (cond b (p ∷ ps) ps)
  if_all true p ps h all = (h, all)
  if_all false p ps h all = all

  pub filter-all : (test : Put → Bool) (ps : List Put) → AllByRecursion P ps → AllByRecursion P (filter test ps)
  filter-all test [] all = tt
  filter-all test (p ∷ ps) all = if_all (test p) p (filter test ps) all.0 (filter-all test ps all.1)

if_apart : (b : Bool) (p : Put) (ps : List Put) → AllByRecursion (λ (other : Put). same_name (name_of p) (name_of other) ≡ false) ps → AreNamedApart ps → AreNamedApart (cond b (p ∷ ps) ps)
if_apart true p ps h apart = (h, apart)
if_apart false p ps h apart = apart

pub filter-apart : (test : Put → Bool) (ps : List Put) → AreNamedApart ps → AreNamedApart (filter test ps)
filter-apart test [] apart = tt
filter-apart test (p ∷ ps) apart =
    if_apart (test p) p (filter test ps) (filter-all (λ (other : Put). same_name (name_of p) (name_of other) ≡ false) test ps apart.0) (filter-apart test ps apart.1)

not_left : (b : Bool) → not b ≡ true → b ≡ false
not_left true e = absurd (true≢false (sym e))
not_left false e = refl

pub left-all : (acks : List (ℕ × ℕ)) (ps : List Put) → AllByRecursion (IsNotDone acks) (left acks ps)
left-all acks [] = tt
left-all acks (p ∷ ps) =
    elim (is_left acks p) as (λ b. is_left acks p ≡ b → AllByRecursion (IsNotDone acks) (cond b (p ∷ left acks ps) (left acks ps))) [
      | true ↦ λ e. (not_left (is_done acks (name_of p)) e, left-all acks ps)
      | false ↦ λ _. left-all acks ps
    ] refl
