-- The texts of runs that were refused, and of a test that found nothing wrong.
use Rattle.run_report.specs.declared.texts.ConfigRefusal.{ConfigRefusal}
use Rattle.run_report.specs.declared.texts.ConfigRefusal.TheVariants.{NotText, UnknownDirective, BadValue, BadSection, Unclosed, TooDeep}
use Rattle.run_report.specs.declared.texts.ScriptRefusal.{ScriptRefusal}
use Rattle.run_report.specs.declared.texts.ScriptRefusal.TheVariants.{BadLine, MomentBackwards, UnknownName}
use Rattle.std.specs.Fmt.{decimal}
use Rattle.std.specs.Prelude.{ℕ, List, ◌++◌, codes}

-- how the program is called
abbrev pub usage : List ℕ
usage = codes "usage: event_server --script FILE | --load N | -f FILE | -t -f FILE | -k WORD -f FILE\n"

-- the file of that name could not be read
abbrev pub store_fault : List ℕ → List ℕ
store_fault name = codes "store fault: " ++ name ++ codes "\n"

-- the word for the fault of a script
abbrev pub refusal_word : ScriptRefusal → List ℕ
refusal_word BadLine = codes "BadLine"
refusal_word MomentBackwards = codes "MomentBackwards"
refusal_word UnknownName = codes "UnknownName"

-- the script is refused at the line
abbrev pub script_refused : ℕ → ScriptRefusal → List ℕ
script_refused line why = codes "script refused at " ++ decimal line ++ codes ": " ++ refusal_word why ++ codes "\n"

-- the word for the fault of a configuration
abbrev pub config_word : ConfigRefusal → List ℕ
config_word NotText = codes "NotText"
config_word UnknownDirective = codes "UnknownDirective"
config_word BadValue = codes "BadValue"
config_word BadSection = codes "BadSection"
config_word Unclosed = codes "Unclosed"
config_word TooDeep = codes "TooDeep"

-- the configuration is refused at the line, or at the place where it is no text
abbrev pub config_refused : ℕ → ConfigRefusal → List ℕ
config_refused number why = codes "configuration refused at " ++ decimal number ++ codes ": " ++ config_word why ++ codes "\n"

-- the site is refused for the file or the folder of that name
abbrev pub site_refused : List ℕ → List ℕ
site_refused name = codes "site refused: " ++ name ++ codes "\n"

-- the configuration that was tested is accepted
abbrev pub syntax_ok : List ℕ
syntax_ok = codes "Syntax OK\n"

-- a call of the front failed where no run opened
abbrev pub front_fault : List ℕ
front_fault = codes "front fault\n"

-- the configuration has no control line
abbrev pub no_control_line : List ℕ
no_control_line = codes "no control line\n"
