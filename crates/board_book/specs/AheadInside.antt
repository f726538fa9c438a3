-- What helps to prove, and no public contract reaches, of: What a board keeps of its history: the numbers of the record that a fold would
-- make of it.
use Rattle.std.specs.Prelude.{◌≡◌, ℕ, ◌+◌, ◌<◌, ◌≤◌, Bool, List, length, map, count_by, slice_index, slice_index_or, Option, None, if◌then◌else◌}
use Rattle.mpm_base.specs.Cause.{cause_number}
use Rattle.mpm_base.specs.declared.conn.Cause.{Cause}
use Rattle.mpm_base.specs.declared.conn.ConnName.{ConnName}
use Rattle.conn_machine.specs.declared.event.Entry.{Entry}
use Rattle.conn_machine.specs.declared.event.Event.{Event}
use Rattle.conn_machine.specs.declared.folded.Folded.{Folded}
use Rattle.conn_machine.specs.Events.{causes, count_events, is_accept, is_answer, is_close, is_close_for, is_order, is_ready, is_start_child, is_tick}
use Rattle.conn_machine.specs.Folds.{causes_after}
use Rattle.conn_machine.specs.Runs.{asks_page, entries_of, row_from}
use Rattle.board_book.specs.declared.ahead.Ahead.{Ahead}

-- the numbers that the entries of the passes have next, behind what was folded and the history
abbrev pub AreNext : Folded → List ℕ → List Entry → Type 0
AreNext f ordinals history =
    (p : ℕ)
    → p < length ordinals
    → slice_index ordinals p ≡ slice_index f.ordinals p + length (entries_of p history)

-- the connections that the passes have behind both
abbrev pub AreInHand : Folded → List (Option ConnName) → List Entry → Type 0
AreInHand f rows history =
    (p : ℕ) → p < length rows → slice_index_or rows p None ≡ row_from f p history

-- how many responses of the history keep a page
abbrev pub pages_of : List Entry → ℕ
pages_of history = count_by (λ e. asks_page e.event) history

-- the numbers are those of the record that a fold would make of this one and of the history, and beside them that of the pages
pub record IsAhead (f : Folded) (history : List Entry) (a : Ahead) : Type 0 where
  pub accepted : a.accepted ≡ f.accepted + count_events is_accept history
  pub closed : a.closed ≡ f.closed + count_events is_close history
  pub responses : a.responses ≡ f.responses + count_events is_answer history
  pub causes : a.causes ≡ causes_after history f.causes
  pub children : a.children ≡ f.children + count_events is_start_child history
  pub ticks : a.ticks ≡ f.ticks + count_events is_tick history
  pub readies : a.readies ≡ f.readies + count_events is_ready history
  pub orders : a.orders ≡ f.orders + count_events is_order history
  pub numbered : length a.ordinals.items ≡ length f.ordinals
  pub numbers : AreNext f a.ordinals.items history
  pub placed : length a.rows.items ≡ length f.rows
  pub rows : AreInHand f a.rows.items history
  pub pages : a.pages ≡ pages_of history

-- no number that counts events is above this one
pub record CountsUpTo (most : ℕ) (a : Ahead) : Type 0 where
  pub accepted : a.accepted ≤ most
  pub closed : a.closed ≤ most
  pub responses : a.responses ≤ most
  pub causes : (why : Cause) → slice_index a.causes (cause_number why) ≤ most
  pub children : a.children ≤ most
  pub ticks : a.ticks ≤ most
  pub readies : a.readies ≤ most
  pub orders : a.orders ≤ most
  pub pages : a.pages ≤ most

-- the number, or one more
abbrev pub with_one : Bool → ℕ → ℕ
with_one counts n = if counts then n + 1 else n

-- each number that counts events of a kind counts this one where it is of the kind, and the rest stays
pub record CountsEvent (e : Event) (before a : Ahead) : Type 0 where
  pub accepted : a.accepted ≡ with_one (is_accept e) before.accepted
  pub closed : a.closed ≡ with_one (is_close e) before.closed
  pub responses : a.responses ≡ with_one (is_answer e) before.responses
  pub causes : a.causes
      ≡ map (λ why. with_one (is_close_for why e) (slice_index before.causes (cause_number why)))
      causes
  pub children : a.children ≡ with_one (is_start_child e) before.children
  pub ticks : a.ticks ≡ with_one (is_tick e) before.ticks
  pub readies : a.readies ≡ with_one (is_ready e) before.readies
  pub orders : a.orders ≡ with_one (is_order e) before.orders
  pub pages : a.pages ≡ with_one (asks_page e) before.pages
  pub ordinals : a.ordinals ≡ before.ordinals
  pub rows : a.rows ≡ before.rows
