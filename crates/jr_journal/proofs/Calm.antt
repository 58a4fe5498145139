-- Calls that do not meet the failure that is arranged.
use Rattle.std.proofs.Common.{◌≡◌, ℕ, Bool, true, false, Option, Some, None, Result, refl, sym, ◌∙◌}
use Rattle.std.specs.Prelude.{IsOk}
use Rattle.jr_disk.specs.declared.disk.DiskFault.{DiskFault}
use Rattle.jr_disk.specs.declared.disk.Short.{Short}
use Rattle.jr_disk.specs.declared.disk.Failure.{Failure}
use Rattle.jr_disk.specs.declared.disk.Failure.TheVariants.{Stop, KeepBack, FailSync}
use Rattle.jr_disk.specs.Disk.{AppendsAs, SyncsAs, GoesAs}
use Rattle.jr_journal.specs.inner.Disk.{is_calm}
use Rattle.jr_journal.specs.Arranged.{misses_failure}

pub not_starved : (a b : Bool) → (a ≡ true → b ≡ true) → b ≡ false → a ≡ false
not_starved true b h e = let clash : true ≡ false = sym (h refl) ∙ e in clash
not_starved false b h e = refl

abbrev pub Outlook : Type 0
Outlook = Option (Option Failure)

pub calm_sync : (o : Outlook) (r : Result (Unit {0}) DiskFault) (a : Outlook) → SyncsAs o r a → is_calm o ≡ true → IsOk r × (a ≡ o)
calm_sync None r a h e = absurd cc
calm_sync (Some None) r a h e = h
calm_sync (Some (Some (Stop k))) r a h e = h
calm_sync (Some (Some KeepBack)) r a h e = h
calm_sync (Some (Some FailSync)) r a h e = absurd cc

pub calm_goes : {T E : Type 0} (o : Outlook) (r : Result T E) (a : Outlook) → GoesAs o r a → is_calm o ≡ true → IsOk r × (a ≡ o)
calm_goes None r a h e = absurd cc
calm_goes (Some plan) r a h e = h

pub calm_append : (o : Outlook) (n : ℕ) (r : Result (Unit {0}) Short) (a : Outlook) → AppendsAs o n r a → o ≡ Some None → IsOk r × (a ≡ o)
calm_append None n r a h e = absurd cc
calm_append (Some None) n r a h e = h
calm_append (Some (Some plan)) n r a h e = absurd cc

pub quiet_calm : (o : Outlook) (fresh : Bool) → misses_failure o fresh ≡ true → is_calm o ≡ true
quiet_calm None fresh e = absurd cc
quiet_calm (Some None) fresh e = refl
quiet_calm (Some (Some (Stop k))) fresh e = refl
quiet_calm (Some (Some KeepBack)) fresh e = refl
quiet_calm (Some (Some FailSync)) fresh e = absurd cc

pub quiet_begin : (o : Outlook) → misses_failure o true ≡ true → o ≡ Some None
quiet_begin None e = absurd cc
quiet_begin (Some None) e = refl
quiet_begin (Some (Some (Stop k))) e = absurd cc
quiet_begin (Some (Some KeepBack)) e = absurd cc
quiet_begin (Some (Some FailSync)) e = absurd cc
