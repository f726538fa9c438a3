use Rattle.std.proofs.Common.{[], length}
use Rattle.mpm_script.specs.ReadLinesInside.{AreRead}
use Rattle.mpm_script.specs.Script.{AllAgree, AreLines}
use Rattle.mpm_script.proofs.script.read_lines.Given as goal

abbrev pub invariant-lines : goal.invariant-lines
invariant-lines l = record {
  are_lines : AreLines l.bytes l.read.script l.rest;
  agree : AllAgree [] l.read.script;
  read : AreRead l.read;
}

abbrev pub decreases-lines : goal.decreases-lines
decreases-lines l = length l.rest
