-- How many command lines a front gave, and how many of them say each of the words.
use Rattle.std.specs.Prelude.{ℕ, Bool, false, List, bytes_eq, Option, None, Some, is_some}
use Rattle.mpm_base.specs.CommandWord.{command_word}
use Rattle.mpm_base.specs.Count.{CountsWhere}
use Rattle.mpm_base.specs.declared.given_words.GivenWords.{GivenWords}
use Rattle.mpm_base.specs.declared.script_line.CommandWord.{CommandWord}
use Rattle.mpm_base.specs.declared.script_line.CommandWord.TheVariants as word

-- a line was given that says the word
abbrev pub says_word : CommandWord → Option (List ℕ) → Bool
says_word asked None = false
says_word asked (Some line) = bytes_eq line (command_word asked)

-- it was counted whether a line was given, and of each word whether that line says it; where none was given each count stayed
pub record CountsWords (given : Option (List ℕ)) (old new : GivenWords) : Type 0 where
  pub all : CountsWhere (is_some given) old.all new.all
  pub graceful : CountsWhere (says_word word.Graceful given) old.graceful new.graceful
  pub graceful_stop : CountsWhere (says_word word.GracefulStop given) old.graceful_stop new.graceful_stop
  pub stop : CountsWhere (says_word word.Stop given) old.stop new.stop
  pub status : CountsWhere (says_word word.Status given) old.status new.status

-- no line was given yet
abbrev pub no_words : GivenWords
no_words = record { all = 0; graceful = 0; graceful_stop = 0; stop = 0; status = 0 }
