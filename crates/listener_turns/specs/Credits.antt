-- What a turn was in which a child got its credit.
use Rattle.std.specs.Prelude.{◌≡◌, ℕ, ◌+◌, List, [], ◌∷◌, None, slice_set}
use Rattle.conn_machine.specs.declared.event.Entry.{Entry}
use Rattle.conn_machine.specs.Folds.{opening_record}
use Rattle.conn_machine.specs.Made.{AreMade, AreOfPasses, HasSeen}
use Rattle.table_rule.specs.declared.view.View.{View}
use Rattle.table_rule.specs.Histories.{threads_of}
use Rattle.table_rule.specs.Pasts.{MakesSteps}
use Rattle.board_turns.specs.Turns.{KeepsLeft, state_found}

-- the turn found this history, and nothing was added: by one step the child has the credit of so many workers, as many as it has there; it
-- left so many more than it found
pub record HadCreditTurn (found : List Entry) (child threads : ℕ) (old new : View) : Type 0 where
  pub others : HasSeen old.who.number old.seen found
  pub made : AreMade old.origin.state (opening_record old.origin.passes) found
  pub few : AreOfPasses old.origin.passes found
  pub seen : new.seen ≡ found
  pub count : threads ≡ threads_of (state_found old found) child
  pub word : ℕ
  pub step : MakesSteps ((child + 2, word, word + threads) ∷ []) old.past new.past
  pub credits : new.credits ≡ slice_set old.credits child threads
  pub origin : new.origin ≡ old.origin
  pub who : new.who ≡ old.who
  pub hand : new.hand ≡ old.hand
  pub turn : new.turn ≡ None
  pub left : KeepsLeft old new
