-- What the corrections need before they are made.
use Rattle.std.specs.Prelude.{◌+◌, ◌*◌, ◌<◌, ◌^◌, List, [], ◌∷◌}
use Rattle.mpm_config.specs.declared.numbers.Numbers.{Numbers}
use Rattle.mpm_config.specs.declared.correction.Correction.{Correction}
use Rattle.mpm_config.specs.declared.correction.Correction.TheVariants.{WorkersNoMultiple, WorkersAboveProduct, ServersAboveQuotient, SpareBelowSum}
use Rattle.mpm_config.specs.Correction.{after_correction}

-- the numbers by which a correction divides are not 0, and those that it computes fit
abbrev pub IsReadyToCorrect : Correction → Numbers → Type 0
IsReadyToCorrect WorkersNoMultiple n = 0 < n.threads
IsReadyToCorrect WorkersAboveProduct n = n.server_limit * n.threads < 2 ^ 32
IsReadyToCorrect ServersAboveQuotient n = 0 < n.threads
IsReadyToCorrect SpareBelowSum n = n.min_spare + n.threads < 2 ^ 32
IsReadyToCorrect c n = Unit {0}

-- what each of some corrections needs holds as they are made one after the other
abbrev pub AllReady : List Correction → Numbers → Type 0
AllReady [] n = Unit {0}
AllReady (c ∷ cs) n = IsReadyToCorrect c n × AllReady cs (after_correction c n)
