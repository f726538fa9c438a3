-- That each entry that the listener has seen was made by its pass, as each turn tells it.
use Rattle.std.proofs.Common.{ℕ, Bool, List, [], ◌∷◌, ◌++◌, sym, ap, subst, append-nil, append_assoc}
use Rattle.conn_machine.specs.declared.event.Entry.{Entry}
use Rattle.conn_machine.specs.declared.event.Event.{Event}
use Rattle.conn_machine.specs.declared.folded.Folded.{Folded}
use Rattle.conn_machine.specs.declared.state.State.{State}
use Rattle.conn_machine.specs.Folds.{opening_record}
use Rattle.conn_machine.specs.Made.{AreMade, AreMadeBehind}
use Rattle.conn_machine.specs.Runs.{AreEntriesOf, IsNextOf}
use Rattle.table_rule.specs.declared.view.Origin.{Origin}
use Rattle.table_rule.specs.declared.view.View.{View}
use Rattle.board_turns.specs.Turns.{HadATurn}
use Rattle.board_turns.proofs.MadeLemmas.{entries_made, made_join}
use Rattle.listener_turns.specs.Looks.{LooksIdle}

-- ## Behind a turn

pub turn_made : (events : List Event) (old new : View) → HadATurn events old new → AreMade new.origin.state (opening_record new.origin.passes) new.seen
turn_made events old new (found, t) =
    subst (λ (o : Origin). AreMade o.state (opening_record o.passes) new.seen) (sym t.stays.origin)
    (subst (AreMade old.origin.state (opening_record old.origin.passes)) (sym t.seen)
    (made_join old.origin.state (opening_record old.origin.passes) [] found t.added t.made
    (entries_made old.who.number old.origin.state (opening_record old.origin.passes) found t.added t.entries)))

-- and behind a look at an idle word
pub look_made : (child threads : ℕ) (old new : View) (idle : Bool) → LooksIdle child threads old idle new
    → AreMade new.origin.state (opening_record new.origin.passes) new.seen
look_made child threads old new idle looks =
    subst (λ (o : Origin). AreMade o.state (opening_record o.passes) new.seen) (sym (ap (λ (q : View). q.origin) looks.looked.looked.0)) looks.looked.made
