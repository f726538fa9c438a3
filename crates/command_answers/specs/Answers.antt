-- What the sender of a command line is answered: one line, but for that of `status`, which has seven. And what the output has of such a
-- line.
use Rattle.std.specs.Prelude.{ℕ, ◌-◌, Bool, true, false, List, ◌++◌, codes, decimal, take}
use Rattle.mpm_base.specs.GivenAnswers.{most_answer, refusal_head}
use Rattle.mpm_config.specs.declared.fault.ConfFault.{ConfFault}
use Rattle.mpm_config.specs.declared.fault.ConfFault.TheVariants as conf
use Rattle.file_table.specs.declared.load_fault.LoadFault.{LoadFault}
use Rattle.file_table.specs.declared.load_fault.LoadFault.TheVariants as load
use Rattle.restart_control.specs.declared.reload_fault.ReloadFault.{ReloadFault}
use Rattle.restart_control.specs.declared.reload_fault.ReloadFault.TheVariants as fault
use Rattle.conn_machine.specs.declared.totals.Totals.{Totals}
use Rattle.run_report.specs.Report.{count_line}
use Rattle.run_report.specs.Texts.{config_word}
use Rattle.run_report.specs.declared.texts.ConfigRefusal.TheVariants.{NotText, UnknownDirective, BadValue, BadSection, Unclosed, TooDeep}

-- ## A restart

-- it began the generation of that number
abbrev pub generation_answer : ℕ → List ℕ
generation_answer number = codes "generation " ++ decimal number ++ codes "\n"

-- it was refused, for what this says
abbrev pub refusal_answer : List ℕ → List ℕ
refusal_answer reason = refusal_head ++ reason ++ codes "\n"

-- no generation may begin: a graceful stop has begun, or the numbers are used up
abbrev pub late_answer : List ℕ
late_answer = refusal_answer (codes "late")

-- the configuration isn't there
abbrev pub absent_answer : List ℕ
absent_answer = refusal_answer (codes "absent")

-- the configuration is refused at that line, or that place, with that word: both as a start tells them
abbrev pub conf_line : ℕ → List ℕ → List ℕ
conf_line number word = refusal_answer (codes "conf at " ++ decimal number ++ codes ": " ++ word)

-- the files are more, or larger, than a site takes: the name of the file, or of the folder, as a start tells it, cut so that the line has at
-- most 512 bytes with its line feed
abbrev pub site_answer : List ℕ → List ℕ
site_answer name = take (most_answer - 1) (refusal_head ++ codes "site " ++ name) ++ codes "\n"

-- the store failed
abbrev pub store_answer : List ℕ
store_answer = refusal_answer (codes "store")

-- memory lacked
abbrev pub memory_answer : List ℕ
memory_answer = refusal_answer (codes "memory")

-- the configuration is refused for the fault
abbrev pub conf_answer_for : ConfFault → List ℕ
conf_answer_for (conf.NotText place) = conf_line place (config_word NotText)
conf_answer_for (conf.UnknownDirective line) = conf_line line (config_word UnknownDirective)
conf_answer_for (conf.BadValue line) = conf_line line (config_word BadValue)
conf_answer_for (conf.BadSection line) = conf_line line (config_word BadSection)
conf_answer_for (conf.Unclosed line) = conf_line line (config_word Unclosed)
conf_answer_for (conf.TooDeep line) = conf_line line (config_word TooDeep)
conf_answer_for conf.NoMemory = memory_answer

-- the name that is told of a site that is refused for the fault, where the outer root is that one: that of the file that is too large, or that
-- of the root with whose files they are too many
abbrev pub name_for : LoadFault → List ℕ → List ℕ
name_for (load.TooLarge name size) root = name
name_for (load.TooMany name) root = name
name_for other root = root

-- a restart made no plan, for the fault
abbrev pub refused_answer : ReloadFault → List ℕ
refused_answer fault.Absent = absent_answer
refused_answer (fault.Conf f) = conf_answer_for f
refused_answer (fault.Load f root) = site_answer (name_for f root)
refused_answer fault.StoreFault = store_answer
refused_answer fault.NoMemory = memory_answer

-- ## Other lines

-- a graceful stop begins, or had begun before
abbrev pub ending_answer : Bool → List ℕ
ending_answer true = codes "ending\n"
ending_answer false = codes "ending already\n"

-- the server stops
abbrev pub stopping_answer : List ℕ
stopping_answer = codes "stopping\n"

-- the line is none of the words
abbrev pub unknown_answer : List ℕ
unknown_answer = codes "no such command\n"

-- ## The state

-- the numbers, as the plain status page has them
abbrev pub status_answer : Totals → List ℕ
status_answer t =
    count_line (codes "Generation") t.generation ++ count_line (codes "BusyWorkers") t.busy ++ count_line (codes "IdleWorkers") t.idle
    ++ count_line (codes "ConnsTotal") t.total ++ count_line (codes "ConnsAsyncWriting") t.writing
    ++ count_line (codes "ConnsAsyncKeepAlive") t.keep_alive ++ count_line (codes "ConnsAsyncClosing") t.closing

-- the same numbers in one line, as the output has them
abbrev pub open_line : Totals → List ℕ
open_line t =
    codes "open: " ++ decimal t.generation ++ codes " " ++ decimal t.busy ++ codes " " ++ decimal t.idle ++ codes " " ++ decimal t.total
    ++ codes " " ++ decimal t.writing ++ codes " " ++ decimal t.keep_alive ++ codes " " ++ decimal t.closing ++ codes "\n"
