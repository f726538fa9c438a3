-- The options of the command line, and the form that was read of them.
use Rattle.std.specs.Prelude.{◌≡◌, ℕ, List, option_map}
use Rattle.std.specs.String.{string_bytes}
use Rattle.mpm_base.specs.CommandWord.{command_word}
use Rattle.command_words.specs.Invocations.{IsLoadText, OptionValues}
use Rattle.command_words.specs.declared.options.Options.{Options}
use Rattle.command_words.specs.declared.invocation.Invocation.{Invocation}
use Rattle.command_words.specs.declared.invocation.Invocation.TheVariants as invocation

-- the values of the options, as the program holds them
abbrev pub values_of : Options → OptionValues
values_of o = record {
  script = option_map (λ text. text.now) o.script;
  load = option_map (λ text. text.now) o.load;
  file = option_map (λ text. text.now) o.file;
  test = o.test;
  word = option_map (λ text. text.now) o.word;
}

-- the form is the load of this text
abbrev pub IsLoadOf : List ℕ → Invocation → Type 0
IsLoadOf text (invocation.Load n) = IsLoadText text n
IsLoadOf text other = ⊥

-- the text is of no load
abbrev pub IsNoLoad : List ℕ → Type 0
IsNoLoad text = (n : ℕ) → ¬ (IsLoadText text n)

-- the form sends the command of this text to the server of the configuration of that name
abbrev pub IsSendOf : List ℕ → List ℕ → Invocation → Type 0
IsSendOf text name (invocation.Send word file) = (text ≡ command_word word) × (string_bytes file ≡ name)
IsSendOf text name other = ⊥
