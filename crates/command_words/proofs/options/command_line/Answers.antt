use Rattle.std.proofs.Common.{rules, ◌≡◌, ◌∙◌, ap, ap₂, true, codes, Some}
use Rattle.std.proofs.lemmas.Result.{IfOk-weaker}
use Rattle.clap.specs.Words.{App, app_of, new_app, new_rule, rule_of, with_rule}
use Rattle.clap.specs.Simple.{app_of_fields, on_top}
use Rattle.clap.specs.declared.builder.action.ArgAction.TheVariants.{SetTrue}
use Rattle.command_words.specs.Invocations.{command}
use Rattle.command_words.proofs.options.command_line.Goals as goal

abbrev unnamed : App → App
unnamed = on_top (λ s. record s { no_binary_name = true })

abbrev helpless : App → App
helpless = on_top (λ s. record s { disable_help_flag = true })

abbrev unversioned : App → App
unversioned = on_top (λ s. record s { disable_version_flag = true })

pub returns : goal.returns
unfolding command
returns c =
    let script_is : rule_of c.long.result ≡ record (new_rule (codes "script")) { long = Some (codes "script") } = search rules in
    let load_is : rule_of c.long-2.result ≡ record (new_rule (codes "load")) { long = Some (codes "load") } = search rules in
    let file_is : rule_of c.short.result ≡ record (new_rule (codes "file")) { short = Some 102 } = search rules in
    let test_is : rule_of c.action.result ≡ record (new_rule (codes "test")) { short = Some 116; action = Some SetTrue } = search rules in
    let word_is : rule_of c.short-3.result ≡ record (new_rule (codes "word")) { short = Some 107 } = search rules in
    let bare_is : app_of c.disable_version_flag.result ≡ unversioned (helpless (unnamed (new_app (codes "event_server")))) =
    ap app_of_fields c.disable_version_flag.ensures ∙ ap unversioned (ap app_of_fields c.disable_help_flag.ensures
    ∙ ap helpless (ap app_of_fields c.no_binary_name.ensures ∙ ap unnamed c.new.ensures.app)) in
    let with_script = c.in_ok-arg.ensures.shape (search rules) ∙ ap₂ with_rule bare_is script_is in
    let with_load = c.in_ok-arg-2.ensures.shape (search rules) ∙ ap₂ with_rule with_script load_is in
    let with_file = c.in_ok-arg-3.ensures.shape (search rules) ∙ ap₂ with_rule with_load file_is in
    let with_test = c.in_ok-arg-4.ensures.shape (search rules) ∙ ap₂ with_rule with_file test_is in
    IfOk-weaker c.arg-5.result _ _ (λ built adds. adds.shape (search rules) ∙ ap₂ with_rule with_test word_is) c.arg-5.ensures
