-- What a board keeps of its history.
-- Why it is so stands in docs/DECISIONS.md: 69, The record of what was folded is part of what is seen of a board.
use Rattle.std.specs.Prelude.{◌≡◌, ℕ, ◌+◌, List, [], ◌∷◌, ◌++◌, length, Option, slice_index}
use Rattle.mpm_base.specs.declared.conn.ConnName.{ConnName}
use Rattle.conn_machine.specs.declared.event.Event.{Event}
use Rattle.conn_machine.specs.declared.event.Reply.{Reply}
use Rattle.conn_machine.specs.declared.event.Entry.{Entry}
use Rattle.conn_machine.specs.declared.folded.Folded.{Folded}
use Rattle.conn_machine.specs.declared.state.State.{State}
use Rattle.conn_machine.specs.Table.{next, reply}
use Rattle.conn_machine.specs.Runs.{Adds, after, entries_of, row_from}
use Rattle.conn_machine.specs.Folds.{fold_of}

-- a history, the state before it, what is known of the entries before that state, the state after it, and how many passes may add to
-- it
pub record SeenBook : Type 0 where
  pub base : State
  pub folded : Folded
  pub history : List Entry
  pub state : State
  pub passes : ℕ

-- the connection that the pass has, where it has one
abbrev pub row_in : ℕ → SeenBook → Option ConnName
row_in who b = row_from b.folded who b.history

-- the history went on by entries of the pass alone, each of which it may make
abbrev pub AddsOnly : ℕ → SeenBook → SeenBook → Type 0
AddsOnly who old new = Adds who old.base old.folded old.history new.history

-- the entry that the pass makes of an event and its reply after the history, behind what was folded
abbrev pub numbered_entry : ℕ → Event → Reply → Folded → List Entry → Entry
numbered_entry who happened answer f history =
    record {
      pass = who;
      ordinal = slice_index f.ordinals who + length (entries_of who history);
      event = happened;
      reply = answer;
    }

-- the entry that the pass makes of an event in the state after the history
abbrev pub entry_of : ℕ → Event → SeenBook → Entry
entry_of who happened b = numbered_entry who happened (reply b.state happened) b.folded b.history

-- the history went on by an entry of the pass, and the state by the machine's step
abbrev pub book_with_entry : ℕ → Event → SeenBook → SeenBook
book_with_entry who happened b =
    record b { history = b.history ++ entry_of who happened b ∷ []; state = next b.state happened }

-- the history has an entry of the event: the entries before it, the entry, and those behind it
pub record HasEntryOf (e : Event) (history : List Entry) : Type 0 where
  pub before : List Entry
  pub entry : Entry
  pub behind : List Entry
  pub history_is : history ≡ before ++ entry ∷ behind
  pub event_is : entry.event ≡ e

-- the book that a fold leaves, where these are the lines of the connections that ended: the history is empty, and the state before it is
-- the present one; the record counts what the history did
abbrev pub folded_book : List (List ℕ) → SeenBook → SeenBook
folded_book ended b =
    record b {
      base = after b.base b.history;
      folded = fold_of b.base b.history ended b.folded;
      history = [];
    }
