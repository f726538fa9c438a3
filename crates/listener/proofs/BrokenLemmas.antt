-- What was done where a round was broken off.
use Rattle.std.proofs.Common.{◌≡◌, inl, inr, List, [], ◌∷◌, None, Some, sym, subst}
use Rattle.conn_machine.specs.declared.event.Event.{Event}
use Rattle.conn_machine.specs.declared.event.Event.TheVariants as event
use Rattle.board_book.specs.declared.faults.BoardFault.{BoardFault}
use Rattle.board_book.specs.Book.{SeenBook, row_in}
use Rattle.worker_group.specs.declared.service.Exit.TheVariants as exit
use Rattle.worker_group.specs.Acts.{Acts, ActsInSteps}
use Rattle.worker_group.specs.Service.{give_up_events}
use Rattle.rounds.specs.ClosingInside.{GivesUpDrained, lingering_give_up_events}
use Rattle.listener_round.specs.RoundInside.{ChangesNothing, EndsRound, GivesUpTaken}
use Rattle.listener.proofs.EventLemmas.{AreSilent, silent-held, silent-none, silent-taken}

-- events none of which ticks, and nothing else
pub record EndsSilently (a b : SeenBook) : Type 0 where
  pub events : List Event
  pub silent : AreSilent events
  pub acts : Acts 0 events None a b

-- a connection that lingers was held and given up
ends-drained : ActsInSteps → (fault : BoardFault) (a b : SeenBook) → GivesUpDrained fault a b → EndsSilently a b
ends-drained steps fault a b gives = record {
  events = event.Hold gives.name ∷ lingering_give_up_events fault gives.ending gives.name;
  silent = silent-held fault gives.ending gives.name;
  acts =
      steps.more 0 (event.Hold gives.name ∷ []) (lingering_give_up_events fault gives.ending gives.name) (Some gives.name) None a gives.book b gives.held
      gives.acts;
}

-- one was taken and given up
ends-taken : ActsInSteps → (fault : BoardFault) (a b : SeenBook) → GivesUpTaken fault a b → EndsSilently a b
ends-taken steps fault a b gives = record {
  events = event.Accept gives.name.slot ∷ give_up_events fault gives.name;
  silent = silent-taken (record { name = gives.name; way = exit.GiveUp fault });
  acts = steps.more 0 (event.Accept gives.name.slot ∷ []) (give_up_events fault gives.name) (Some gives.name) None a gives.book b gives.took gives.acts;
}

-- nothing was done
ends-still : ActsInSteps → (fault : BoardFault) (a b : SeenBook) → row_in 0 a ≡ None → ChangesNothing fault a b → EndsSilently a b
ends-still steps fault a b row still =
    subst (EndsSilently a) (sym still.same) (record { events = []; silent = silent-none; acts = steps.none 0 None a row })

-- in each case the listener has no connection then
pub ends-silently : ActsInSteps → (fault : BoardFault) (a b : SeenBook) → row_in 0 a ≡ None → EndsRound fault a b → EndsSilently a b
ends-silently steps fault a b row (inl gives) = ends-drained steps fault a b gives
ends-silently steps fault a b row (inr (inl still)) = ends-still steps fault a b row still
ends-silently steps fault a b row (inr (inr gives)) = ends-taken steps fault a b gives
