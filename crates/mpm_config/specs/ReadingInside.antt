-- What the parts of the reader answer.
use Rattle.std.specs.Prelude.{◌≡◌, ◌<◌, length, Option, IfSome, Result, Ok, MatchResult}
use Rattle.mpm_config.specs.Config.{most_hosts}
use Rattle.mpm_config.specs.Settings.{HostSettings, Settings}
use Rattle.mpm_config.specs.declared.fault.ConfFault.{ConfFault}
use Rattle.mpm_config.specs.Reading.{Progress, Refuses}

-- an answer is what was to be answered, or its refusal
abbrev pub IsAnswer : {A : Type 0} → Result A ConfFault → Result A ConfFault → Type 0
IsAnswer {A} r answer = MatchResult answer (λ (a : A). r ≡ Ok a) (Refuses r)

-- after an answer stands what was to stand, or it is its refusal
abbrev pub LeadsTo : {A : Type 0} → Result Progress ConfFault → Progress → Result A ConfFault → Type 0
LeadsTo r new answer = MatchResult answer (λ _. r ≡ Ok new) (Refuses r)

-- while the section of a host is open there are fewer hosts than there may be
abbrev pub MayAddHost : Settings → Option HostSettings → Type 0
MayAddHost s host = IfSome host (λ h. length s.hosts < most_hosts)
