-- The first bad key.
use Rattle.std.proofs.Common.{◌≡◌, ℕ, List, Option, Some, None, sym, subst, ap}
use Rattle.toml.specs.Data.{Members}
use Rattle.sn_local.specs.declared.config.Addr.{Addr}
use Rattle.sn_topic.specs.Table.{Entries}
use Rattle.gw_main.specs.declared.fault.Key.{Key}
use Rattle.gw_main.specs.declared.fault.Key.TheVariants as keys
use Rattle.gw_main.specs.declared.fault.SettingsFault.{SettingsFault}
use Rattle.gw_main.specs.declared.fault.SettingsFault.TheVariants as faults
use Rattle.gw_main.specs.Reading.{or_else, gateway_in, listen_in, link_in, journal_in, workers_in, shift_steps_in, advertise_in, lifetime_in, field_in, peers_in, predefined_in, numbers_in, clients_in, newcomers_in, status_in, log_in}
use Rattle.gw_main.specs.inner.Reading.{IsBadAt, IsBadOf, IsBad}

-- it is this one
bad_here : {A : Type 0} (read : Option A) (key : Key) (rest : Option Key) (fault : SettingsFault) → IsBadAt read key fault → IsBadOf (or_else read key rest) fault
bad_here read key rest faults.Text h = absurd h
bad_here None key rest (faults.Key told) h = ap (λ (k : Key). Some k) (sym h.1)
bad_here {A} (Some value) key rest (faults.Key told) h = absurd (let e : ◌≡◌ {A = Option A} (Some value) None = h.0 in cc)
bad_here read key rest faults.Memory h = tt

-- it is one after this one
pass_on : {A : Type 0} (read : Option A) (value : A) (key : Key) (rest : Option Key) (fault : SettingsFault) → read ≡ Some value → IsBadOf rest fault → IsBadOf (or_else read key rest) fault
pass_on {A} read value key rest fault e h = subst (λ (r : Option A). IsBadOf (or_else r key rest) fault) (sym e) h

-- what is looked for after each key
abbrev from_log : Members → Option Key
from_log m = or_else (log_in m) keys.Log None

abbrev from_status : Members → Option Key
from_status m = or_else (status_in m) keys.Status (from_log m)

abbrev from_newcomers : Members → Option Key
from_newcomers m = or_else (newcomers_in m) keys.Newcomers (from_status m)

abbrev from_clients : Members → Option Key
from_clients m = or_else (clients_in m) keys.Clients (from_newcomers m)

abbrev from_numbers : Members → Option Key
from_numbers m = or_else (numbers_in m) keys.Numbers (from_clients m)

abbrev from_predefined : Members → Option Key
from_predefined m = or_else (predefined_in m) keys.Predefined (from_numbers m)

abbrev from_peers : Members → Option Key
from_peers m = or_else (peers_in m) keys.Peers (from_predefined m)

abbrev from_field : Members → Option Key
from_field m = or_else (field_in m) keys.Field (from_peers m)

abbrev from_lifetime : Members → Option Key
from_lifetime m = or_else (lifetime_in m) keys.Lifetime (from_field m)

abbrev from_advertise : Members → Option Key
from_advertise m = or_else (advertise_in m) keys.Advertise (from_lifetime m)

abbrev from_steps : Members → Option Key
from_steps m = or_else (shift_steps_in m) keys.Steps (from_advertise m)

abbrev from_workers : Members → Option Key
from_workers m = or_else (workers_in m) keys.Workers (from_steps m)

abbrev from_journal : Members → Option Key
from_journal m = or_else (journal_in m) keys.Journal (from_workers m)

abbrev from_link : Members → Option Key
from_link m = or_else (link_in m) keys.Link (from_journal m)

abbrev from_listen : Members → Option Key
from_listen m = or_else (listen_in m) keys.Listen (from_link m)

abbrev from_gateway : Members → Option Key
from_gateway m = or_else (gateway_in m) keys.Gateway (from_listen m)

pub bad_gateway : (m : Members) (fault : SettingsFault) → IsBadAt (gateway_in m) keys.Gateway fault → IsBad m fault
bad_gateway m fault h = bad_here (gateway_in m) keys.Gateway (from_listen m) fault h

pub bad_listen : (m : Members) (gateway : ℕ) (fault : SettingsFault) → gateway_in m ≡ Some gateway → IsBadAt (listen_in m) keys.Listen fault → IsBad m fault
bad_listen m gateway fault e_gateway h = pass_on (gateway_in m) gateway keys.Gateway (from_listen m) fault e_gateway (bad_here (listen_in m) keys.Listen (from_link m) fault h)

pub bad_link : (m : Members) (gateway : ℕ) (listen : Addr) (fault : SettingsFault) → gateway_in m ≡ Some gateway → listen_in m ≡ Some listen → IsBadAt (link_in m) keys.Link fault → IsBad m fault
bad_link m gateway listen fault e_gateway e_listen h = pass_on (gateway_in m) gateway keys.Gateway (from_listen m) fault e_gateway (pass_on (listen_in m) listen keys.Listen (from_link m) fault e_listen (bad_here (link_in m) keys.Link (from_journal m) fault h))

pub bad_journal : (m : Members) (gateway : ℕ) (listen : Addr) (link : Addr) (fault : SettingsFault) → gateway_in m ≡ Some gateway → listen_in m ≡ Some listen → link_in m ≡ Some link → IsBadAt (journal_in m) keys.Journal fault → IsBad m fault
bad_journal m gateway listen link fault e_gateway e_listen e_link h = pass_on (gateway_in m) gateway keys.Gateway (from_listen m) fault e_gateway (pass_on (listen_in m) listen keys.Listen (from_link m) fault e_listen (pass_on (link_in m) link keys.Link (from_journal m) fault e_link (bad_here (journal_in m) keys.Journal (from_workers m) fault h)))

pub bad_workers : (m : Members) (gateway : ℕ) (listen : Addr) (link : Addr) (journal : List ℕ) (fault : SettingsFault) → gateway_in m ≡ Some gateway → listen_in m ≡ Some listen → link_in m ≡ Some link → journal_in m ≡ Some journal → IsBadAt (workers_in m) keys.Workers fault → IsBad m fault
bad_workers m gateway listen link journal fault e_gateway e_listen e_link e_journal h = pass_on (gateway_in m) gateway keys.Gateway (from_listen m) fault e_gateway (pass_on (listen_in m) listen keys.Listen (from_link m) fault e_listen (pass_on (link_in m) link keys.Link (from_journal m) fault e_link (pass_on (journal_in m) journal keys.Journal (from_workers m) fault e_journal (bad_here (workers_in m) keys.Workers (from_steps m) fault h))))

pub bad_steps : (m : Members) (gateway : ℕ) (listen : Addr) (link : Addr) (journal : List ℕ) (workers : ℕ) (fault : SettingsFault) → gateway_in m ≡ Some gateway → listen_in m ≡ Some listen → link_in m ≡ Some link → journal_in m ≡ Some journal → workers_in m ≡ Some workers → IsBadAt (shift_steps_in m) keys.Steps fault → IsBad m fault
bad_steps m gateway listen link journal workers fault e_gateway e_listen e_link e_journal e_workers h = pass_on (gateway_in m) gateway keys.Gateway (from_listen m) fault e_gateway (pass_on (listen_in m) listen keys.Listen (from_link m) fault e_listen (pass_on (link_in m) link keys.Link (from_journal m) fault e_link (pass_on (journal_in m) journal keys.Journal (from_workers m) fault e_journal (pass_on (workers_in m) workers keys.Workers (from_steps m) fault e_workers (bad_here (shift_steps_in m) keys.Steps (from_advertise m) fault h)))))

pub bad_advertise : (m : Members) (gateway : ℕ) (listen : Addr) (link : Addr) (journal : List ℕ) (workers : ℕ) (steps : ℕ) (fault : SettingsFault) → gateway_in m ≡ Some gateway → listen_in m ≡ Some listen → link_in m ≡ Some link → journal_in m ≡ Some journal → workers_in m ≡ Some workers → shift_steps_in m ≡ Some steps → IsBadAt (advertise_in m) keys.Advertise fault → IsBad m fault
bad_advertise m gateway listen link journal workers steps fault e_gateway e_listen e_link e_journal e_workers e_steps h = pass_on (gateway_in m) gateway keys.Gateway (from_listen m) fault e_gateway (pass_on (listen_in m) listen keys.Listen (from_link m) fault e_listen (pass_on (link_in m) link keys.Link (from_journal m) fault e_link (pass_on (journal_in m) journal keys.Journal (from_workers m) fault e_journal (pass_on (workers_in m) workers keys.Workers (from_steps m) fault e_workers (pass_on (shift_steps_in m) steps keys.Steps (from_advertise m) fault e_steps (bad_here (advertise_in m) keys.Advertise (from_lifetime m) fault h))))))

pub bad_lifetime : (m : Members) (gateway : ℕ) (listen : Addr) (link : Addr) (journal : List ℕ) (workers : ℕ) (steps : ℕ) (advertise : ℕ) (fault : SettingsFault) → gateway_in m ≡ Some gateway → listen_in m ≡ Some listen → link_in m ≡ Some link → journal_in m ≡ Some journal → workers_in m ≡ Some workers → shift_steps_in m ≡ Some steps → advertise_in m ≡ Some advertise → IsBadAt (lifetime_in m) keys.Lifetime fault → IsBad m fault
bad_lifetime m gateway listen link journal workers steps advertise fault e_gateway e_listen e_link e_journal e_workers e_steps e_advertise h = pass_on (gateway_in m) gateway keys.Gateway (from_listen m) fault e_gateway (pass_on (listen_in m) listen keys.Listen (from_link m) fault e_listen (pass_on (link_in m) link keys.Link (from_journal m) fault e_link (pass_on (journal_in m) journal keys.Journal (from_workers m) fault e_journal (pass_on (workers_in m) workers keys.Workers (from_steps m) fault e_workers (pass_on (shift_steps_in m) steps keys.Steps (from_advertise m) fault e_steps (pass_on (advertise_in m) advertise keys.Advertise (from_lifetime m) fault e_advertise (bad_here (lifetime_in m) keys.Lifetime (from_field m) fault h)))))))

pub bad_field : (m : Members) (gateway : ℕ) (listen : Addr) (link : Addr) (journal : List ℕ) (workers : ℕ) (steps : ℕ) (advertise : ℕ) (lifetime : ℕ) (fault : SettingsFault) → gateway_in m ≡ Some gateway → listen_in m ≡ Some listen → link_in m ≡ Some link → journal_in m ≡ Some journal → workers_in m ≡ Some workers → shift_steps_in m ≡ Some steps → advertise_in m ≡ Some advertise → lifetime_in m ≡ Some lifetime → IsBadAt (field_in m) keys.Field fault → IsBad m fault
bad_field m gateway listen link journal workers steps advertise lifetime fault e_gateway e_listen e_link e_journal e_workers e_steps e_advertise e_lifetime h = pass_on (gateway_in m) gateway keys.Gateway (from_listen m) fault e_gateway (pass_on (listen_in m) listen keys.Listen (from_link m) fault e_listen (pass_on (link_in m) link keys.Link (from_journal m) fault e_link (pass_on (journal_in m) journal keys.Journal (from_workers m) fault e_journal (pass_on (workers_in m) workers keys.Workers (from_steps m) fault e_workers (pass_on (shift_steps_in m) steps keys.Steps (from_advertise m) fault e_steps (pass_on (advertise_in m) advertise keys.Advertise (from_lifetime m) fault e_advertise (pass_on (lifetime_in m) lifetime keys.Lifetime (from_field m) fault e_lifetime (bad_here (field_in m) keys.Field (from_peers m) fault h))))))))

pub bad_peers : (m : Members) (gateway : ℕ) (listen : Addr) (link : Addr) (journal : List ℕ) (workers : ℕ) (steps : ℕ) (advertise : ℕ) (lifetime : ℕ) (field : List Addr) (fault : SettingsFault) → gateway_in m ≡ Some gateway → listen_in m ≡ Some listen → link_in m ≡ Some link → journal_in m ≡ Some journal → workers_in m ≡ Some workers → shift_steps_in m ≡ Some steps → advertise_in m ≡ Some advertise → lifetime_in m ≡ Some lifetime → field_in m ≡ Some field → IsBadAt (peers_in m) keys.Peers fault → IsBad m fault
bad_peers m gateway listen link journal workers steps advertise lifetime field fault e_gateway e_listen e_link e_journal e_workers e_steps e_advertise e_lifetime e_field h = pass_on (gateway_in m) gateway keys.Gateway (from_listen m) fault e_gateway (pass_on (listen_in m) listen keys.Listen (from_link m) fault e_listen (pass_on (link_in m) link keys.Link (from_journal m) fault e_link (pass_on (journal_in m) journal keys.Journal (from_workers m) fault e_journal (pass_on (workers_in m) workers keys.Workers (from_steps m) fault e_workers (pass_on (shift_steps_in m) steps keys.Steps (from_advertise m) fault e_steps (pass_on (advertise_in m) advertise keys.Advertise (from_lifetime m) fault e_advertise (pass_on (lifetime_in m) lifetime keys.Lifetime (from_field m) fault e_lifetime (pass_on (field_in m) field keys.Field (from_peers m) fault e_field (bad_here (peers_in m) keys.Peers (from_predefined m) fault h)))))))))

pub bad_predefined : (m : Members) (gateway : ℕ) (listen : Addr) (link : Addr) (journal : List ℕ) (workers : ℕ) (steps : ℕ) (advertise : ℕ) (lifetime : ℕ) (field : List Addr) (peers : List Addr) (fault : SettingsFault) → gateway_in m ≡ Some gateway → listen_in m ≡ Some listen → link_in m ≡ Some link → journal_in m ≡ Some journal → workers_in m ≡ Some workers → shift_steps_in m ≡ Some steps → advertise_in m ≡ Some advertise → lifetime_in m ≡ Some lifetime → field_in m ≡ Some field → peers_in m ≡ Some peers → IsBadAt (predefined_in m) keys.Predefined fault → IsBad m fault
bad_predefined m gateway listen link journal workers steps advertise lifetime field peers fault e_gateway e_listen e_link e_journal e_workers e_steps e_advertise e_lifetime e_field e_peers h = pass_on (gateway_in m) gateway keys.Gateway (from_listen m) fault e_gateway (pass_on (listen_in m) listen keys.Listen (from_link m) fault e_listen (pass_on (link_in m) link keys.Link (from_journal m) fault e_link (pass_on (journal_in m) journal keys.Journal (from_workers m) fault e_journal (pass_on (workers_in m) workers keys.Workers (from_steps m) fault e_workers (pass_on (shift_steps_in m) steps keys.Steps (from_advertise m) fault e_steps (pass_on (advertise_in m) advertise keys.Advertise (from_lifetime m) fault e_advertise (pass_on (lifetime_in m) lifetime keys.Lifetime (from_field m) fault e_lifetime (pass_on (field_in m) field keys.Field (from_peers m) fault e_field (pass_on (peers_in m) peers keys.Peers (from_predefined m) fault e_peers (bad_here (predefined_in m) keys.Predefined (from_numbers m) fault h))))))))))

pub bad_numbers : (m : Members) (gateway : ℕ) (listen : Addr) (link : Addr) (journal : List ℕ) (workers : ℕ) (steps : ℕ) (advertise : ℕ) (lifetime : ℕ) (field : List Addr) (peers : List Addr) (predefined : Entries) (fault : SettingsFault) → gateway_in m ≡ Some gateway → listen_in m ≡ Some listen → link_in m ≡ Some link → journal_in m ≡ Some journal → workers_in m ≡ Some workers → shift_steps_in m ≡ Some steps → advertise_in m ≡ Some advertise → lifetime_in m ≡ Some lifetime → field_in m ≡ Some field → peers_in m ≡ Some peers → predefined_in m ≡ Some predefined → IsBadAt (numbers_in m) keys.Numbers fault → IsBad m fault
bad_numbers m gateway listen link journal workers steps advertise lifetime field peers predefined fault e_gateway e_listen e_link e_journal e_workers e_steps e_advertise e_lifetime e_field e_peers e_predefined h = pass_on (gateway_in m) gateway keys.Gateway (from_listen m) fault e_gateway (pass_on (listen_in m) listen keys.Listen (from_link m) fault e_listen (pass_on (link_in m) link keys.Link (from_journal m) fault e_link (pass_on (journal_in m) journal keys.Journal (from_workers m) fault e_journal (pass_on (workers_in m) workers keys.Workers (from_steps m) fault e_workers (pass_on (shift_steps_in m) steps keys.Steps (from_advertise m) fault e_steps (pass_on (advertise_in m) advertise keys.Advertise (from_lifetime m) fault e_advertise (pass_on (lifetime_in m) lifetime keys.Lifetime (from_field m) fault e_lifetime (pass_on (field_in m) field keys.Field (from_peers m) fault e_field (pass_on (peers_in m) peers keys.Peers (from_predefined m) fault e_peers (pass_on (predefined_in m) predefined keys.Predefined (from_numbers m) fault e_predefined (bad_here (numbers_in m) keys.Numbers (from_clients m) fault h)))))))))))

pub bad_clients : (m : Members) (gateway : ℕ) (listen : Addr) (link : Addr) (journal : List ℕ) (workers : ℕ) (steps : ℕ) (advertise : ℕ) (lifetime : ℕ) (field : List Addr) (peers : List Addr) (predefined : Entries) (numbers : List ℕ) (fault : SettingsFault) → gateway_in m ≡ Some gateway → listen_in m ≡ Some listen → link_in m ≡ Some link → journal_in m ≡ Some journal → workers_in m ≡ Some workers → shift_steps_in m ≡ Some steps → advertise_in m ≡ Some advertise → lifetime_in m ≡ Some lifetime → field_in m ≡ Some field → peers_in m ≡ Some peers → predefined_in m ≡ Some predefined → numbers_in m ≡ Some numbers → IsBadAt (clients_in m) keys.Clients fault → IsBad m fault
bad_clients m gateway listen link journal workers steps advertise lifetime field peers predefined numbers fault e_gateway e_listen e_link e_journal e_workers e_steps e_advertise e_lifetime e_field e_peers e_predefined e_numbers h = pass_on (gateway_in m) gateway keys.Gateway (from_listen m) fault e_gateway (pass_on (listen_in m) listen keys.Listen (from_link m) fault e_listen (pass_on (link_in m) link keys.Link (from_journal m) fault e_link (pass_on (journal_in m) journal keys.Journal (from_workers m) fault e_journal (pass_on (workers_in m) workers keys.Workers (from_steps m) fault e_workers (pass_on (shift_steps_in m) steps keys.Steps (from_advertise m) fault e_steps (pass_on (advertise_in m) advertise keys.Advertise (from_lifetime m) fault e_advertise (pass_on (lifetime_in m) lifetime keys.Lifetime (from_field m) fault e_lifetime (pass_on (field_in m) field keys.Field (from_peers m) fault e_field (pass_on (peers_in m) peers keys.Peers (from_predefined m) fault e_peers (pass_on (predefined_in m) predefined keys.Predefined (from_numbers m) fault e_predefined (pass_on (numbers_in m) numbers keys.Numbers (from_clients m) fault e_numbers (bad_here (clients_in m) keys.Clients (from_newcomers m) fault h))))))))))))

pub bad_newcomers : (m : Members) (gateway : ℕ) (listen : Addr) (link : Addr) (journal : List ℕ) (workers : ℕ) (steps : ℕ) (advertise : ℕ) (lifetime : ℕ) (field : List Addr) (peers : List Addr) (predefined : Entries) (numbers : List ℕ) (clients : List (List ℕ)) (fault : SettingsFault) → gateway_in m ≡ Some gateway → listen_in m ≡ Some listen → link_in m ≡ Some link → journal_in m ≡ Some journal → workers_in m ≡ Some workers → shift_steps_in m ≡ Some steps → advertise_in m ≡ Some advertise → lifetime_in m ≡ Some lifetime → field_in m ≡ Some field → peers_in m ≡ Some peers → predefined_in m ≡ Some predefined → numbers_in m ≡ Some numbers → clients_in m ≡ Some clients → IsBadAt (newcomers_in m) keys.Newcomers fault → IsBad m fault
bad_newcomers m gateway listen link journal workers steps advertise lifetime field peers predefined numbers clients fault e_gateway e_listen e_link e_journal e_workers e_steps e_advertise e_lifetime e_field e_peers e_predefined e_numbers e_clients h = pass_on (gateway_in m) gateway keys.Gateway (from_listen m) fault e_gateway (pass_on (listen_in m) listen keys.Listen (from_link m) fault e_listen (pass_on (link_in m) link keys.Link (from_journal m) fault e_link (pass_on (journal_in m) journal keys.Journal (from_workers m) fault e_journal (pass_on (workers_in m) workers keys.Workers (from_steps m) fault e_workers (pass_on (shift_steps_in m) steps keys.Steps (from_advertise m) fault e_steps (pass_on (advertise_in m) advertise keys.Advertise (from_lifetime m) fault e_advertise (pass_on (lifetime_in m) lifetime keys.Lifetime (from_field m) fault e_lifetime (pass_on (field_in m) field keys.Field (from_peers m) fault e_field (pass_on (peers_in m) peers keys.Peers (from_predefined m) fault e_peers (pass_on (predefined_in m) predefined keys.Predefined (from_numbers m) fault e_predefined (pass_on (numbers_in m) numbers keys.Numbers (from_clients m) fault e_numbers (pass_on (clients_in m) clients keys.Clients (from_newcomers m) fault e_clients (bad_here (newcomers_in m) keys.Newcomers (from_status m) fault h)))))))))))))

pub bad_status : (m : Members) (gateway : ℕ) (listen : Addr) (link : Addr) (journal : List ℕ) (workers : ℕ) (steps : ℕ) (advertise : ℕ) (lifetime : ℕ) (field : List Addr) (peers : List Addr) (predefined : Entries) (numbers : List ℕ) (clients : List (List ℕ)) (newcomers : ℕ) (fault : SettingsFault) → gateway_in m ≡ Some gateway → listen_in m ≡ Some listen → link_in m ≡ Some link → journal_in m ≡ Some journal → workers_in m ≡ Some workers → shift_steps_in m ≡ Some steps → advertise_in m ≡ Some advertise → lifetime_in m ≡ Some lifetime → field_in m ≡ Some field → peers_in m ≡ Some peers → predefined_in m ≡ Some predefined → numbers_in m ≡ Some numbers → clients_in m ≡ Some clients → newcomers_in m ≡ Some newcomers → IsBadAt (status_in m) keys.Status fault → IsBad m fault
bad_status m gateway listen link journal workers steps advertise lifetime field peers predefined numbers clients newcomers fault e_gateway e_listen e_link e_journal e_workers e_steps e_advertise e_lifetime e_field e_peers e_predefined e_numbers e_clients e_newcomers h = pass_on (gateway_in m) gateway keys.Gateway (from_listen m) fault e_gateway (pass_on (listen_in m) listen keys.Listen (from_link m) fault e_listen (pass_on (link_in m) link keys.Link (from_journal m) fault e_link (pass_on (journal_in m) journal keys.Journal (from_workers m) fault e_journal (pass_on (workers_in m) workers keys.Workers (from_steps m) fault e_workers (pass_on (shift_steps_in m) steps keys.Steps (from_advertise m) fault e_steps (pass_on (advertise_in m) advertise keys.Advertise (from_lifetime m) fault e_advertise (pass_on (lifetime_in m) lifetime keys.Lifetime (from_field m) fault e_lifetime (pass_on (field_in m) field keys.Field (from_peers m) fault e_field (pass_on (peers_in m) peers keys.Peers (from_predefined m) fault e_peers (pass_on (predefined_in m) predefined keys.Predefined (from_numbers m) fault e_predefined (pass_on (numbers_in m) numbers keys.Numbers (from_clients m) fault e_numbers (pass_on (clients_in m) clients keys.Clients (from_newcomers m) fault e_clients (pass_on (newcomers_in m) newcomers keys.Newcomers (from_status m) fault e_newcomers (bad_here (status_in m) keys.Status (from_log m) fault h))))))))))))))

pub bad_log : (m : Members) (gateway : ℕ) (listen : Addr) (link : Addr) (journal : List ℕ) (workers : ℕ) (steps : ℕ) (advertise : ℕ) (lifetime : ℕ) (field : List Addr) (peers : List Addr) (predefined : Entries) (numbers : List ℕ) (clients : List (List ℕ)) (newcomers : ℕ) (status : Option Addr) (fault : SettingsFault) → gateway_in m ≡ Some gateway → listen_in m ≡ Some listen → link_in m ≡ Some link → journal_in m ≡ Some journal → workers_in m ≡ Some workers → shift_steps_in m ≡ Some steps → advertise_in m ≡ Some advertise → lifetime_in m ≡ Some lifetime → field_in m ≡ Some field → peers_in m ≡ Some peers → predefined_in m ≡ Some predefined → numbers_in m ≡ Some numbers → clients_in m ≡ Some clients → newcomers_in m ≡ Some newcomers → status_in m ≡ Some status → IsBadAt (log_in m) keys.Log fault → IsBad m fault
bad_log m gateway listen link journal workers steps advertise lifetime field peers predefined numbers clients newcomers status fault e_gateway e_listen e_link e_journal e_workers e_steps e_advertise e_lifetime e_field e_peers e_predefined e_numbers e_clients e_newcomers e_status h = pass_on (gateway_in m) gateway keys.Gateway (from_listen m) fault e_gateway (pass_on (listen_in m) listen keys.Listen (from_link m) fault e_listen (pass_on (link_in m) link keys.Link (from_journal m) fault e_link (pass_on (journal_in m) journal keys.Journal (from_workers m) fault e_journal (pass_on (workers_in m) workers keys.Workers (from_steps m) fault e_workers (pass_on (shift_steps_in m) steps keys.Steps (from_advertise m) fault e_steps (pass_on (advertise_in m) advertise keys.Advertise (from_lifetime m) fault e_advertise (pass_on (lifetime_in m) lifetime keys.Lifetime (from_field m) fault e_lifetime (pass_on (field_in m) field keys.Field (from_peers m) fault e_field (pass_on (peers_in m) peers keys.Peers (from_predefined m) fault e_peers (pass_on (predefined_in m) predefined keys.Predefined (from_numbers m) fault e_predefined (pass_on (numbers_in m) numbers keys.Numbers (from_clients m) fault e_numbers (pass_on (clients_in m) clients keys.Clients (from_newcomers m) fault e_clients (pass_on (newcomers_in m) newcomers keys.Newcomers (from_status m) fault e_newcomers (pass_on (status_in m) status keys.Status (from_log m) fault e_status (bad_here (log_in m) keys.Log None fault h)))))))))))))))
