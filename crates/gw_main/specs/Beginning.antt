-- What a gateway knows from its settings, and the number by which a refused opening is printed.
use Rattle.std.specs.Prelude.{ℕ}
use Rattle.sn_local.specs.declared.config.Config.{Config}
use Rattle.jr_journal.specs.Faults.{fault_number}
use Rattle.gw_answer.specs.declared.refusal.Refusal.{Refusal}
use Rattle.gw_answer.specs.declared.refusal.Refusal.TheVariants as refusals
use Rattle.gw_main.specs.declared.options.Settings.{Settings}

-- number, interval, lifetime, field and predefined topic ids of the settings
abbrev pub config_of : Settings → Config
config_of settings =
    record {
      gateway = settings.gateway;
      advertise = settings.advertise;
      lifetime = settings.lifetime;
      field = settings.field.items;
      predefined = settings.predefined;
    }

-- the disk's failure is the journal's, a record that does not fit is a bad one
abbrev pub begin_fault_number : Refusal → ℕ
begin_fault_number (refusals.Journal fault) = fault_number fault
begin_fault_number (refusals.Disk excuse) = 1
begin_fault_number (refusals.Conflict client) = 3
begin_fault_number refusals.Full = 3
begin_fault_number refusal = 4
