-- What a draft makes for clients and topics, and what is left of it where it is for nobody.
use Rattle.std.proofs.Common.{◌≡◌, List, [], Option, None, ap}
use Rattle.sn_plan.specs.declared.draft.NewPut.{NewPut}
use Rattle.sn_plan.specs.declared.draft.Posted.{Posted}
use Rattle.sn_plan.specs.Drafts.{Drafted, nothing}

-- the messages, what is handed, what is retained
abbrev pub Made : Type 0
Made = List NewPut × List Posted × Option Posted

abbrev pub made : Drafted → Made
made d = (d.puts, d.handed, d.retain)

-- the draft makes what the other makes
abbrev pub SameMade : Drafted → Drafted → Type 0
SameMade e d = ◌≡◌ {A = Made} (made e) (made d)

pub no_puts : (d : Drafted) → SameMade d nothing → d.puts ≡ []
no_puts d h = ap (λ (m : Made). m.0) h

pub no_handed : (d : Drafted) → SameMade d nothing → d.handed ≡ []
no_handed d h = ap (λ (m : Made). m.1) h

pub no_retain : (d : Drafted) → SameMade d nothing → d.retain ≡ None
no_retain d h = ap (λ (m : Made). m.2) h

-- of the draft, what a plan for nobody has of it
abbrev pub for_nobody : Drafted → Drafted
for_nobody d = record { changes = []; acks = []; handed = []; retain = d.retain; puts = d.puts; expires = d.expires; sends = d.sends; local = d.local }
