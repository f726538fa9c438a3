use Rattle.std.proofs.Common.{ap, ◌∙◌}
use Rattle.table_rule.specs.declared.view.View.{View}
use Rattle.listener_turns.proofs.LookLemmas.{idle_listener, looks_idle}
use Rattle.listener_turns.proofs.looks.is_idle.Goals as goal

pub returns-clause-listener : goal.returns-clause-listener
returns-clause-listener g c =
    idle_listener c.args.child c.idle.result _ _ c.turns_rest_on_these.ensures c.idle.ensures.hand c.idle.ensures.found c.requires.listener

pub returns-clause-row : goal.returns-clause-row
returns-clause-row g c = ap (λ (q : View). q.row) c.idle.ensures.found.looked.0

pub returns-clause-credits : goal.returns-clause-credits
returns-clause-credits g c = ap (λ (q : View). q.credits) c.idle.ensures.found.looked.0

pub returns-clause-looks : goal.returns-clause-looks
returns-clause-looks g c =
    looks_idle c.quiet_tables_are_the_listeners.ensures c.args.child c.args.threads c.idle.result _ _ c.requires.listener.number c.idle.ensures.found
