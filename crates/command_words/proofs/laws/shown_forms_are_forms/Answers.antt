use Rattle.std.proofs.Common.{codes}
use Rattle.command_words.proofs.ShownLemmas.{least_load, load_form, most_load, script_form, send_form, serve_form, test_form}
use Rattle.command_words.proofs.laws.shown_forms_are_forms.Goals as goal

pub returns-clause-script : goal.returns-clause-script
returns-clause-script c = script_form

pub returns-clause-load : goal.returns-clause-load
returns-clause-load c = load_form

pub returns-clause-least_load : goal.returns-clause-least_load
returns-clause-least_load c = load_form (codes "1") 1 least_load

pub returns-clause-most_load : goal.returns-clause-most_load
returns-clause-most_load c = load_form (codes "100000") 100000 most_load

pub returns-clause-serve : goal.returns-clause-serve
returns-clause-serve c = serve_form

pub returns-clause-test : goal.returns-clause-test
returns-clause-test c = test_form

pub returns-clause-send : goal.returns-clause-send
returns-clause-send c = send_form
