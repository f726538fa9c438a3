-- What words that have one of the forms name and do.
use Rattle.std.proofs.Common.{ℕ, List, inl, inr}
use Rattle.mpm_base.specs.declared.script_line.CommandWord.{CommandWord}
use Rattle.command_words.specs.Invocations.{IsSendWords, IsServeWords, IsTestWords, NamesConfig, NamesFile}

pub serve-config : (words : List (List ℕ)) (name : List ℕ) → IsServeWords words name → NamesConfig words name
serve-config words name is = inl is

pub test-config : (words : List (List ℕ)) (name : List ℕ) → IsTestWords words name → NamesConfig words name
test-config words name is = inr (inl is)

pub send-config : (words : List (List ℕ)) (word : CommandWord) (name : List ℕ) → IsSendWords words word name → NamesConfig words name
send-config words word name is = inr (inr (word, is))

pub config-file : (words : List (List ℕ)) (name : List ℕ) → NamesConfig words name → NamesFile words name
config-file words name is = inr is
