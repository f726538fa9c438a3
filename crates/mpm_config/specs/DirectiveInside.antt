-- The names of the language, as the code's table has them.
use Rattle.mpm_config.specs.declared.directive.Spelling.{Spelling}
use Rattle.mpm_config.specs.Directive.{Name}

-- what the code's table says, as a name
abbrev pub name_of : Spelling → Name
name_of s = record { text = s.name.now; directive = s.directive }
