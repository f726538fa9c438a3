-- What helps to prove, and no public contract reaches, of: Folds of a run, and what goes on over them.
use Rattle.std.specs.Prelude.{◌≡◌, ℕ, ◌+◌, ◌<◌, ◌^◌, List, [], ◌++◌, length, Option}
use Rattle.mpm_base.specs.Front.{FrontTold}
use Rattle.mpm_base.specs.declared.shape.Shape.{Shape}
use Rattle.conn_machine.specs.declared.event.Entry.{Entry}
use Rattle.conn_machine.specs.declared.folded.Folded.{Folded}
use Rattle.conn_machine.specs.declared.state.State.{State}
use Rattle.conn_machine.specs.Events.{count_events, is_close}
use Rattle.conn_machine.specs.Folds.{CountsWithin, HasPlacesFor, HaveBegun, fold_of, opening_record}
use Rattle.conn_machine.specs.Made.{AreMade, AreOfPasses}
use Rattle.conn_machine.specs.Runs.{after, entries_of}
use Rattle.conn_machine.specs.States.{opening_state}
use Rattle.conn_state.specs.Answered.{SeenEnded}
use Rattle.conn_state.specs.Known.{KnownOutside}
use Rattle.board.specs.Board.{Agrees, AreClosed, AreEnded, EndedOfOutside, SeenBoard}
use Rattle.board_book.specs.Book.{SeenBook}
use Rattle.board_book.specs.Editions.{KeepsEditions, orders_in}
use Rattle.board.specs.Editions.{IsOfGeneration}
use Rattle.file_table.specs.Site.{SeenSite}
use Rattle.http_read.specs.declared.request.Limits.{Limits}
use Rattle.rounds.specs.PartsInside.{NoneHas, StaysTimely}
use Rattle.listener.specs.Patient.{IsPatientRun}
use Rattle.listener_round.specs.StandingInside.{StandsOverFold}

-- the laws of folds, and of histories and connections that ended, as one fact: what a fold counted and what comes behind it are together
-- what one fold counts of both
pub record FoldsJoin : Type 0 where
  pub state : (base : State) (a b : List Entry) → after base (a ++ b) ≡ after (after base a) b
  pub entries : (p : ℕ) (a b : List Entry) → entries_of p (a ++ b) ≡ entries_of p a ++ entries_of p b
  pub places : (passes : ℕ) → HasPlacesFor passes (opening_record passes)
  pub opening : (s : State) (passes : ℕ) → HaveBegun s (opening_record passes)
  pub nothing : (slots children passes : ℕ) (shape : Shape) → fold_of (opening_state slots children shape) [] [] (opening_record passes) ≡ opening_record passes
  pub made : (passes : ℕ) (base : State) (f : Folded) (a b : List Entry) (lines : List (List ℕ)) → HasPlacesFor passes f → AreOfPasses passes a → AreMade base f a → AreMade (after base a) (fold_of base a lines f) b → AreMade base f (a ++ b)
  pub twice : (base : State) (f : Folded) (a b : List Entry) (lines lines' : List (List ℕ)) → HaveBegun base f → length lines ≡ count_events is_close a → fold_of (after base a) b lines' (fold_of base a lines f) ≡ fold_of base (a ++ b) (lines ++ lines') f
  pub closed : (base : State) (a b : List Entry) (ended ended' : List SeenEnded) → AreClosed base a ended → AreClosed (after base a) b ended' → AreClosed base (a ++ b) (ended ++ ended')
  pub answered : (ended ended' : List SeenEnded) → AreEnded ended → AreEnded ended' → AreEnded (ended ++ ended')
  pub outside : (known : Option KnownOutside) (b : SeenBook) (ended ended' : List SeenEnded) → EndedOfOutside known b ended → EndedOfOutside known b ended' → EndedOfOutside known b (ended ++ ended')
  pub outside_stays : (known : Option KnownOutside) (old new : SeenBook) (ended : List SeenEnded) → KeepsEditions old new → EndedOfOutside known old ended → EndedOfOutside known new ended
  pub many : (base : State) (history : List Entry) (ended : List SeenEnded) → AreClosed base history ended → length ended ≡ count_events is_close history

-- what a board shows that a fold goes by
pub record ShowsForFolds (known : Option KnownOutside) (b : SeenBoard) : Type 0 where
  pub places : HasPlacesFor b.book.passes b.book.folded
  pub within : CountsWithin b.book.folded
  pub countable : b.book.folded.entries + length b.book.history < 2 ^ 63
  pub made : AreMade b.book.base b.book.folded b.book.history
  pub few : AreOfPasses b.book.passes b.book.history
  pub state : after b.book.base b.book.history ≡ b.book.state
  pub agrees : Agrees b
  pub outside : EndedOfOutside known b.book b.ended

-- the listener goes on with the board as it did, though of the history and of the connections that ended no more may be kept than the
-- record says
pub record ListensOn (known : Option KnownOutside) (old new : SeenBoard) : Type 0 where
  pub passes : new.book.passes ≡ old.book.passes
  pub state : new.book.state ≡ old.book.state
  pub rows : length new.book.base.rows ≡ length old.book.base.rows
  pub free : NoneHas old.book → NoneHas new.book
  pub timely : StaysTimely old.book new.book
  pub patient : (told : Option FrontTold) (calls : Option (List (ℕ × ℕ))) → IsPatientRun told calls old.book.base old.book.history → IsPatientRun told calls new.book.base new.book.history
  pub folded : StandsOverFold known old.book new.book
  pub orders : orders_in new.book ≡ orders_in old.book
  pub edition : (limits : Limits) (site : SeenSite) → IsOfGeneration known old.book old.book.state.newest limits site → IsOfGeneration known new.book new.book.state.newest limits site
