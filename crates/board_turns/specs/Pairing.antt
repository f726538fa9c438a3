-- How a carrier takes up a connection for a worker of its child, or why it takes up none.
use Rattle.std.specs.Prelude.{◌≡◌, ◌⊎◌, ℕ, true, false, [], ◌∷◌, None, Some}
use Rattle.mpm_base.specs.declared.conn.ConnName.{ConnName}
use Rattle.conn_machine.specs.declared.event.Event.TheVariants as event
use Rattle.conn_machine.specs.declared.state.State.{State}
use Rattle.table_rule.specs.declared.view.View.{View}
use Rattle.idle_workers.specs.Found.{ReleasesPermit, ReservesPermit}
use Rattle.board_book.specs.Faults.{IsRefusedFor}
use Rattle.board_book.specs.Finds.{FindsRow, is_due_of, is_late}
use Rattle.board_turns.specs.declared.pairing.NotPaired.{NotPaired}
use Rattle.board_turns.specs.declared.pairing.NotPaired.TheVariants as not_paired
use Rattle.board_turns.specs.Books.{book_of, state_of}
use Rattle.board_turns.specs.Carries.{SeenPair}
use Rattle.board_turns.specs.Turns.{HadATurn}

-- the carrier got a permit of the child, and took up one of the child's connections in a turn behind that
pub record TookUp (child : ℕ) (old : View) (pair : SeenPair) : Type 0 where
  pub reserved : View
  pub permit : ReservesPermit child old true reserved
  pub turn : HadATurn (event.Queue pair.conn.name ∷ []) reserved pair.view
  pub child_is : pair.conn.child ≡ child

-- it got a permit of the child, took up none in a turn behind that, by which it had seen this, and gave the permit back
pub record TookUpNone (child : ℕ) (old new : View) (Saw : View → Type 0) : Type 0 where
  pub reserved : View
  pub permit : ReservesPermit child old true reserved
  pub behind : View
  pub turn : HadATurn [] reserved behind
  pub saw : Saw behind
  pub released : ReleasesPermit child behind new

-- none of the child's connections that waits for service was signalled, or some connection is late: that one is to be let go of first
abbrev pub HasNoneToHand : ℕ → State → Type 0
HasNoneToHand child s =
    FindsRow (is_due_of child s) s None ⊎ ((name : ConnName) × FindsRow (is_late s) s (Some name))

-- why it has none: no worker of the child was free; the turn found none of the child's connections to hand over; or the board refused it
-- there
abbrev pub WhyNotPaired : NotPaired → ℕ → View → View → Type 0
WhyNotPaired not_paired.NoPermit child old new = ReservesPermit child old false new
WhyNotPaired not_paired.NoneDue child old new =
    TookUpNone child old new (λ v. HasNoneToHand child (state_of v))
WhyNotPaired (not_paired.Refused fault) child old new =
    TookUpNone child old new (λ v. IsRefusedFor fault (book_of v))
