use Rattle.std.proofs.Common.{◌≡◌, List, []}
use Rattle.std.specs.Prelude.{Result, IfErr, OnOk}
use Rattle.std.specs.declared.result.Result.TheVariants.{Ok, Err}
use Rattle.conn_machine.specs.declared.event.Event.{Event}
use Rattle.table_rule.specs.declared.view.View.{View}
use Rattle.board_turns.specs.Turns.{HadATurn}
use Rattle.turn_tests.proofs.TakingLemmas.{holds_new, waits_new}
use Rattle.turn_tests.proofs.taking.waits.Goals as goal

pub park-requires-clause-hand : goal.park-requires-clause-hand
park-requires-clause-hand g c = c.requires.listener.turnless.hand

pub park-requires-clause-holds : goal.park-requires-clause-holds
park-requires-clause-holds g c =
    holds_new _ _ _ _ _ c.args.conn c.requires.listener c.requires.taken.1 c.requires.is_new

pub park-requires-clause-may : goal.park-requires-clause-may
park-requires-clause-may g c =
    waits_new c.waits_are_backed_by_calls.ensures _ _ _ _ _ c.args.conn c.requires.taken.1 c.requires.is_new c.show.ensures.conn

-- whether the wait was refused or not, one turn was taken
turned : {T E : Type 0} (r : Result T E) (events : List Event) (old new : View) → OnOk r (HadATurn events old new) → IfErr r (λ e. HadATurn [] old new)
    → new.credits ≡ old.credits
turned (Ok x) events old new ok err = ok.1.stays.credits
turned (Err x) events old new ok err = err.1.stays.credits

pub returns-clause-credits : goal.returns-clause-credits
returns-clause-credits g c = turned c.park.result _ _ _ c.park.ensures.turn c.park.ensures.err
