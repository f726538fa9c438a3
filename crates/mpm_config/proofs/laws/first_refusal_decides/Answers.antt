use Rattle.std.specs.Str.Lines.{lines}
use Rattle.mpm_config.proofs.LawLemmas.{lines_rise, own_number, first_decides}
use Rattle.mpm_config.proofs.laws.first_refusal_decides.Goals as goal

pub returns-clause-upwards : goal.returns-clause-upwards
returns-clause-upwards c text = lines_rise 1 (lines text)

pub returns-clause-own : goal.returns-clause-own
returns-clause-own c = own_number

pub returns-clause-first : goal.returns-clause-first
returns-clause-first c = first_decides
