use Rattle.std.proofs.Common.{◌≡◌, ◌∙◌, ℕ, List, [], map, Bor, ap, subst, true}
use Rattle.clap.specs.Words.{App, HasKind, app_of, fault_of, found_of, is_simple_and_free, rows_of}
use Rattle.command_words.specs.Invocations.{Parses, option_values, values_in}
use Rattle.command_words.proofs.InvocationLemmas.{faulty, found, simple_and_free}
use Rattle.command_words.proofs.options.read_options.Goals as goal

pub returns-in_err-matches-clause-parsed : goal.returns-in_err-matches-clause-parsed
returns-in_err-matches-clause-parsed c =
    let words = map (λ (word : Bor (List ℕ)). word.now) c.args.words.now in
    faulty words c.from_residual-in_err-matches.result c.in_err-matches.field-0.0
    (subst (λ (a : App). is_simple_and_free a ≡ true → HasKind (fault_of a words) c.in_err-matches.field-0.0) c.in_ok-command.ensures
    c.in_err-matches.ensures.kinds simple_and_free)
    c.from_residual-in_err-matches.ensures.1

pub returns-clause-values : goal.returns-clause-values
unfolding option_values
returns-clause-values c =
    c.options_of.ensures ∙ ap values_in (found (app_of c.in_ok-command.command) (map (λ (word : Bor (List ℕ)). word.now) c.args.words.now)
    (rows_of (found_of c.in_ok-matches.matches)) _ c.in_ok-command.ensures c.in_ok-matches.ensures.matches)

pub returns-clause-parsed : goal.returns-clause-parsed
unfolding Parses
returns-clause-parsed c =
    let words = map (λ (word : Bor (List ℕ)). word.now) c.args.words.now in
    subst (λ (a : App). is_simple_and_free a ≡ true → fault_of a words ≡ []) c.in_ok-command.ensures c.in_ok-matches.ensures.kinds simple_and_free
