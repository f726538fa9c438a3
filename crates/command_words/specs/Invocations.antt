-- The forms of the command line.
use Rattle.std.specs.Prelude.{◌≡◌, ◌≢◌, ◌⊎◌, ℕ, ◌≤◌, Bool, true, false, List, [], ◌∷◌, Option, Some, None, codes, ⊤}
use Rattle.std.specs.Option.{option_map_or}
use Rattle.std.specs.Str.{bytes_eq}
use Rattle.std.specs.String.{string_bytes}
use Rattle.clap.specs.Words.{App, Row, Rule, fault_of, first_of, matches_of, new_app, new_rule}
use Rattle.clap.specs.declared.builder.action.ArgAction.TheVariants.{SetTrue}
use Rattle.mpm_base.specs.CommandWord.{command_word}
use Rattle.mpm_base.specs.Digits.{number_in_digits}
use Rattle.mpm_base.specs.declared.script_line.CommandWord.{CommandWord}
use Rattle.command_words.specs.declared.invocation.Invocation.{Invocation}
use Rattle.command_words.specs.declared.invocation.Invocation.TheVariants as invocation

-- ## The options

-- the options of the command: `--script FILE`, `--load N`, `-f FILE`, `-t` and `-k WORD`
abbrev pub option_rules : List Rule
option_rules = record (new_rule (codes "script")) { long = Some (codes "script") }
    ∷ record (new_rule (codes "load")) { long = Some (codes "load") }
    ∷ record (new_rule (codes "file")) { short = Some 102 }
    ∷ record (new_rule (codes "test")) { short = Some 116; action = Some SetTrue }
    ∷ record (new_rule (codes "word")) { short = Some 107 } ∷ []

-- the command of the program, as clap parses it: it has these options and no others, so none for help or the version, and its words
-- don't begin with the program's name
unfoldable pub command : App
command = record (new_app (codes "event_server")) {
  top = record (new_app (codes "event_server")).top {
    rules = option_rules;
    no_binary_name = true;
    disable_help_flag = true;
    disable_version_flag = true;
  };
}

-- the values of the options: FILE of `--script FILE`, N of `--load N`, FILE of `-f FILE`, whether `-t` is there, and WORD of `-k WORD`
pub record OptionValues : Type 0 where
  pub script : Option (List ℕ)
  pub load : Option (List ℕ)
  pub file : Option (List ℕ)
  pub test : Bool
  pub word : Option (List ℕ)

-- the values in what clap finds: of each option the first one, where a flag that is there has the value `true`
abbrev pub values_in : List Row → OptionValues
values_in rows = record {
  script = first_of (codes "script") rows;
  load = first_of (codes "load") rows;
  file = first_of (codes "file") rows;
  test = option_map_or (λ value. bytes_eq value (codes "true")) (first_of (codes "test") rows) false;
  word = first_of (codes "word") rows;
}

-- the words can be parsed as the command: clap finds no fault in them
unfoldable pub Parses : List (List ℕ) → Type 0
Parses words = fault_of command words ≡ []

-- the values of the options that clap finds in the words
unfoldable pub option_values : List (List ℕ) → OptionValues
option_values words = values_in (matches_of command words)

-- no option is there
abbrev pub no_option : OptionValues
no_option = record { script = None; load = None; file = None; test = false; word = None }

-- ## The forms

-- a form of the command line: it plays the script of that name, plays the script of a load of so many connections, serves the site by the
-- configuration of that name, tests the configuration of that name, or sends the word to the server of the configuration of that name
pub data Form : Type 0 where
  plays : List ℕ → Form
  loads : ℕ → Form
  serves : List ℕ → Form
  tests : List ℕ → Form
  sends : CommandWord → List ℕ → Form

-- the text is a number of connections of a load: 1 to 6 decimal digits, from 1 to 100,000
pub record IsLoadText (text : List ℕ) (n : ℕ) : Type 0 where
  pub number : number_in_digits 6 text ≡ Some n
  pub some : 1 ≤ n
  pub few : n ≤ 100000

-- the options are `--load N` alone, of so many connections
pub record IsLoad (values : OptionValues) (n : ℕ) : Type 0 where
  pub text : List ℕ
  pub option : values ≡ record no_option { load = Some text }
  pub number : IsLoadText text n

-- the options are those of the form and no others: `--script FILE`, `--load N`, `-f FILE`, `-t -f FILE`, `-k WORD -f FILE`
abbrev pub IsForm : OptionValues → Form → Type 0
IsForm values (plays name) = values ≡ record no_option { script = Some name }
IsForm values (loads n) = IsLoad values n
IsForm values (serves name) = values ≡ record no_option { file = Some name }
IsForm values (tests name) = values ≡ record no_option { file = Some name; test = true }
IsForm values (sends word name) = values ≡ record no_option { file = Some name; word = Some (command_word word) }

-- the words have the form: they can be parsed as the command, with the options of the form
pub record AreOfForm (words : List (List ℕ)) (form : Form) : Type 0 where
  pub parsed : Parses words
  pub found : IsForm (option_values words) form

-- the word is taken for no option: it doesn't begin with `-`, or is `-` alone
abbrev pub IsPlainWord : List ℕ → Type 0
IsPlainWord [] = ⊤
IsPlainWord (byte ∷ []) = ⊤
IsPlainWord (byte ∷ other ∷ rest) = byte ≢ 45

-- the words have none of the forms
abbrev pub IsNoInvocation : List (List ℕ) → Type 0
IsNoInvocation words = (form : Form) → ¬ (AreOfForm words form)

-- the form that the program holds
abbrev pub held_form : Invocation → Form
held_form (invocation.Script name) = plays (string_bytes name)
held_form (invocation.Load n) = loads n
held_form (invocation.Serve name) = serves (string_bytes name)
held_form (invocation.Test name) = tests (string_bytes name)
held_form (invocation.Send word name) = sends word (string_bytes name)

-- the words have the form that the program holds
abbrev pub IsInvocation : List (List ℕ) → Invocation → Type 0
IsInvocation words invocation = AreOfForm words (held_form invocation)

-- ## What the words name

-- the words have the script of that name played
abbrev pub IsScriptWords : List (List ℕ) → List ℕ → Type 0
IsScriptWords words name = AreOfForm words (plays name)

-- the words have the script of a load of so many connections played
abbrev pub IsLoadWords : List (List ℕ) → ℕ → Type 0
IsLoadWords words n = AreOfForm words (loads n)

-- the words have the site served by the configuration of that name
abbrev pub IsServeWords : List (List ℕ) → List ℕ → Type 0
IsServeWords words name = AreOfForm words (serves name)

-- the words have the configuration of that name tested
abbrev pub IsTestWords : List (List ℕ) → List ℕ → Type 0
IsTestWords words name = AreOfForm words (tests name)

-- the words have this word sent to the server of the configuration of that name
abbrev pub IsSendWords : List (List ℕ) → CommandWord → List ℕ → Type 0
IsSendWords words word name = AreOfForm words (sends word name)

-- the words name this configuration, to serve by it, to test it, or to send its server a word
abbrev pub NamesConfig : List (List ℕ) → List ℕ → Type 0
NamesConfig words name = IsServeWords words name ⊎ IsTestWords words name ⊎ ((word : CommandWord) × IsSendWords words word name)

-- the words name this file: a script or a configuration
abbrev pub NamesFile : List (List ℕ) → List ℕ → Type 0
NamesFile words name = IsScriptWords words name ⊎ NamesConfig words name

-- the words have something done with the front: the site served over it, or a word sent
abbrev pub CallsFront : List (List ℕ) → Type 0
CallsFront words = ((name : List ℕ) × IsServeWords words name) ⊎ ((word : CommandWord) × (name : List ℕ) × IsSendWords words word name)
