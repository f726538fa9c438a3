-- The code's table says just what the names are.
use Rattle.std.proofs.Common.{refl}
use Rattle.mpm_config.specs.Directive.{names}
use Rattle.mpm_config.proofs.directive.named.Goals as goal

pub returns : goal.returns
returns c = c.among.ensures names refl
