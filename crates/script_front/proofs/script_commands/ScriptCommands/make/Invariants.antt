use Rattle.std.proofs.Common.{◌≡◌, ◌++◌, drop}
use Rattle.mpm_script.specs.Commands.{commands_of}
use Rattle.script_front.proofs.script_commands.ScriptCommands.make.Given as goal

abbrev pub invariant-loop-line : goal.invariant-loop-line
invariant-loop-line l = l.unread.items ++ commands_of (drop l.line-index l.lines) ≡ commands_of l.lines
