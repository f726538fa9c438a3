use Rattle.std.proofs.Common.{◌≡◌, ◌∙◌, ℕ, List, Option, false, codes, ap}
use Rattle.std.specs.Option.{option_map_or}
use Rattle.std.specs.Str.{bytes_eq}
use Rattle.clap.specs.Words.{first_of, found_of, rows_of}
use Rattle.clap.proofs.WalkLemmas.{first_value-rows}
use Rattle.command_words.proofs.InvocationLemmas.{flag}
use Rattle.command_words.proofs.options.options_of.Goals as goal

pub returns : goal.returns
returns c =
    let f = found_of c.args.matches.now in
    let script_is = c.get_str.ensures ∙ first_value-rows f (codes "script") in
    let load_is = c.get_str-2.ensures ∙ first_value-rows f (codes "load") in
    let file_is = c.get_str-3.ensures ∙ first_value-rows f (codes "file") in
    let word_is = c.get_str-5.ensures ∙ first_value-rows f (codes "word") in
    let value_is = c.get_str-4.ensures ∙ first_value-rows f (codes "test") in
    let test_is : c.eq.result ≡ option_map_or (λ value. bytes_eq value (codes "true")) (first_of (codes "test") (rows_of f)) false =
    c.eq.ensures ∙ flag c.get_str-4.result _ ∙ ap (λ (o : Option (List ℕ)). option_map_or (λ value. bytes_eq value (codes "true")) o false) value_is in
    λ i. record { script = script_is i; load = load_is i; file = file_is i; test = test_is i; word = word_is i }
