-- What a round keeps of what a front counted.
use Rattle.std.specs.Prelude.{◌≡◌, ◌⊎◌, ℕ, ◌+◌, true, false}
use Rattle.mpm_base.specs.Count.{NeverFalls, Rises, RisesJustBy, next_count}
use Rattle.mpm_base.specs.Front.{FrontCounts}
use Rattle.conn_machine.specs.declared.state.State.{State}
use Rattle.conn_machine.specs.States.{is_serving}
use Rattle.board_book.specs.Book.{SeenBook}
use Rattle.board_book.specs.Editions.{orders_in}

-- what the front counted since it counted so, up to this book, but for so many lines that say `stop`
pub record CountsSo (owed : ℕ) (first now : FrontCounts) (b : SeenBook) : Type 0 where
  pub orders : RisesJustBy (orders_in b) first.words.graceful now.words.graceful
  pub endings : NeverFalls first.words.graceful_stop now.words.graceful_stop
  pub ending : is_serving b.state.going ≡ false → Rises first.words.graceful_stop now.words.graceful_stop
  pub unended : is_serving b.state.going ≡ true → RisesJustBy 0 first.words.graceful_stop now.words.graceful_stop
  pub stops : RisesJustBy owed first.words.stop now.words.stop
  pub links : RisesJustBy b.state.accepted first.handed now.handed

-- it counted just so many, or one more
abbrev pub RisesByOrOneMore : ℕ → ℕ → ℕ → Type 0
RisesByOrOneMore many old new = RisesJustBy many old new ⊎ RisesJustBy (many + 1) old new

-- the same where something could not be done: one order, one link or one graceful stop more may have been counted
pub record CountsBroken (first now : FrontCounts) (b : SeenBook) : Type 0 where
  pub orders : RisesByOrOneMore (orders_in b) first.words.graceful now.words.graceful
  pub ending : is_serving b.state.going ≡ false → Rises first.words.graceful_stop now.words.graceful_stop
  pub unended : is_serving b.state.going ≡ true → RisesByOrOneMore 0 first.words.graceful_stop now.words.graceful_stop
  pub stops : RisesJustBy 0 first.words.stop now.words.stop
  pub links : RisesByOrOneMore b.state.accepted first.handed now.handed

-- from this book to that one the front counted on, but for so many lines that say `stop`
abbrev pub CountsOn : ℕ → FrontCounts → FrontCounts → SeenBook → SeenBook → Type 0
CountsOn owed old new a b = (first : FrontCounts) → CountsSo 0 first old a → CountsSo owed first new b

-- the same where something could not be done
abbrev pub CountsUntil : FrontCounts → FrontCounts → SeenBook → SeenBook → Type 0
CountsUntil old new a b = (first : FrontCounts) → CountsSo 0 first old a → CountsBroken first new b

-- a connection could not be taken: the table counts it all the same, or it doesn't
abbrev pub LacksLink : State → State → Type 0
LacksLink old new = (new.accepted ≡ next_count old.accepted) ⊎ (new.accepted ≡ old.accepted)
