-- Which settings a draft may take.
use Rattle.mpm_config.specs.declared.setting.Setting.{Setting}
use Rattle.mpm_config.specs.declared.setting.Setting.TheVariants as sets
use Rattle.mpm_config.specs.declared.setting.Assigned.{Assigned}
use Rattle.mpm_config.specs.declared.setting.Assigned.TheVariants as assigned
use Rattle.mpm_config.specs.Range.{IsAllowed}
use Rattle.mpm_config.specs.Setting.{Assignment, Sets, AddsNames, AddsPairs}
use Rattle.conf_text.specs.Words.{words}

-- a number that is set is one that its directive may have
abbrev pub IsSettable : Setting → Type 0
IsSettable (sets.Number q n) = IsAllowed q n
IsSettable s = Unit {0}

-- what the reader of a line answers, as what the line does
abbrev pub assignment_shown : Assigned → Assignment
assignment_shown (assigned.One s v) = Sets s v.now
assignment_shown (assigned.Names line) = AddsNames (words line.now)
assignment_shown (assigned.Pairs line) = AddsPairs (words line.now)

-- the same of what a line sets
abbrev pub IsSettableOne : Assigned → Type 0
IsSettableOne (assigned.One s v) = IsSettable s
IsSettableOne (assigned.Names line) = Unit {0}
IsSettableOne (assigned.Pairs line) = Unit {0}
