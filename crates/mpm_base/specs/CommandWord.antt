-- The words of the commands.
use Rattle.std.specs.Prelude.{ℕ, List, codes}
use Rattle.mpm_base.specs.declared.script_line.CommandWord.{CommandWord}
use Rattle.mpm_base.specs.declared.script_line.CommandWord.TheVariants as word

-- the word of a command, as a script and a command line spell it
abbrev pub command_word : CommandWord → List ℕ
command_word word.Graceful = codes "graceful"
command_word word.GracefulStop = codes "graceful-stop"
command_word word.Stop = codes "stop"
command_word word.Status = codes "status"
