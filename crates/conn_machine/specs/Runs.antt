-- Histories of the machine, behind what was folded: runs of the event table, the order of each pass's entries, and what a pass may add.
use Rattle.std.specs.Prelude.{◌≡◌, ◌==◌, ℕ, ◌+◌, ◌*◌, Bool, true, false, ◌&&◌, List, [], ◌∷◌, ◌++◌, length, map, filter, fold, count_by, Option, None, Some, is_none, slice_index, slice_index_or, ⊤}
use Rattle.std.specs.List.{range_with_len}
use Rattle.std.specs.Option.{option_map_or}
use Rattle.mpm_base.specs.declared.conn.ConnName.{ConnName}
use Rattle.conn_machine.specs.declared.event.Event.{Event}
use Rattle.conn_machine.specs.declared.event.Event.TheVariants as event
use Rattle.conn_machine.specs.declared.event.Reply.{Reply}
use Rattle.conn_machine.specs.declared.event.Reply.TheVariants.{Done, Took, Cell, Noted}
use Rattle.conn_machine.specs.declared.event.Entry.{Entry}
use Rattle.conn_machine.specs.declared.folded.Folded.{Folded}
use Rattle.conn_machine.specs.declared.state.State.{State}
use Rattle.conn_machine.specs.Table.{is_allowed, next, reply}

-- ## Runs

-- the state after the entries
abbrev pub after : State → List Entry → State
after s [] = s
after s (e ∷ entries) = after (next s e.event) entries

-- from the state on, each entry's event is allowed where it stands, and has its reply
abbrev pub Run : State → List Entry → Type 0
Run s [] = ⊤
Run s (e ∷ entries) =
    (is_allowed s e.event ≡ true) × (e.reply ≡ reply s e.event) × Run (next s e.event) entries

-- of each entry of a history from the state on this holds, in the state in which it was made
abbrev pub AllAt : (State → Event → Type 0) → State → List Entry → Type 0
AllAt P s [] = ⊤
AllAt P s (e ∷ entries) = P s e.event × AllAt P (next s e.event) entries

-- ## The order of a pass

-- the entry is of the pass
abbrev pub is_of_pass : ℕ → Entry → Bool
is_of_pass p e = e.pass == p

-- the entries that the pass made
abbrev pub entries_of : ℕ → List Entry → List Entry
entries_of p history = filter (is_of_pass p) history

-- the events that the pass made
abbrev pub own_events : ℕ → List Entry → List Event
own_events p history = map (λ e. e.event) (entries_of p history)

-- the entries of the pass are numbered on from this number, in the order of the history
abbrev pub IsNumberedFrom : ℕ → ℕ → List Entry → Type 0
IsNumberedFrom first p history =
    map (λ e. e.ordinal) (entries_of p history)
    ≡ range_with_len first (length (entries_of p history))

-- the entries of each pass are numbered on from its next number in the record
abbrev pub IsInPassOrderFrom : Folded → List Entry → Type 0
IsInPassOrderFrom f history = (p : ℕ) → IsNumberedFrom (slice_index f.ordinals p) p history

-- a history of the machine, from the state on, behind the entries that the record counts
pub record IsHistory (base : State) (f : Folded) (history : List Entry) : Type 0 where
  pub run : Run base history
  pub order : IsInPassOrderFrom f history

-- ## The load

-- the event decides a status page
abbrev pub asks_page : Event → Bool
asks_page (event.Accept slot) = false
asks_page (event.Park name kind) = false
asks_page (event.Hold name) = false
asks_page (event.Queue name) = false
asks_page (event.Start name) = false
asks_page (event.Answer name ask) = ask.page
asks_page (event.Linger name cause) = false
asks_page (event.Close name cause tail) = false
asks_page (event.Ready slot) = false
asks_page (event.Tick m) = false
asks_page (event.StartChild k) = false
asks_page (event.Command c) = false
asks_page (event.Retire k) = false

-- what the history weighs: an entry is 1, and a kept snapshot 64 more
abbrev pub load : List Entry → ℕ
load history = length history + 64 * count_by (λ e. asks_page e.event) history

-- ## What a pass may add

-- the name of the connection that was taken
abbrev pub taken_name : Reply → Option ConnName
taken_name Done = None
taken_name (Took name child generation) = Some name
taken_name (Cell cell) = None
taken_name (Noted last) = None

-- the connection that the pass has after an entry of its own, where it had this one before
abbrev pub has_after : Option ConnName → Event → Reply → Option ConnName
has_after had (event.Accept slot) answer = taken_name answer
has_after had (event.Park name kind) answer = None
has_after had (event.Hold name) answer = Some name
has_after had (event.Queue name) answer = Some name
has_after had (event.Start name) answer = had
has_after had (event.Answer name ask) answer = had
has_after had (event.Linger name cause) answer = None
has_after had (event.Close name cause tail) answer = None
has_after had (event.Ready slot) answer = had
has_after had (event.Tick m) answer = had
has_after had (event.StartChild k) answer = had
has_after had (event.Command c) answer = had
has_after had (event.Retire k) answer = had

-- the connection that a pass has after these entries of its own, where it had this one before
abbrev pub row_after : Option ConnName → List Entry → Option ConnName
row_after had entries = fold (λ now e. has_after now e.event e.reply) had entries

-- the connection that the pass has in the end, where no pass had one before the history
abbrev pub row_of : ℕ → List Entry → Option ConnName
row_of p history = row_after None (entries_of p history)

-- the connection that the pass had behind the entries that the record counts
abbrev pub first_row : Folded → ℕ → Option ConnName
first_row f p = slice_index_or f.rows p None

-- the connection that the pass has in the end, where the history stands behind those entries
abbrev pub row_from : Folded → ℕ → List Entry → Option ConnName
row_from f p history = row_after (first_row f p) (entries_of p history)

-- the two names are one
abbrev pub is_name : ConnName → ConnName → Bool
is_name a b = a.slot == b.slot && a.life == b.life

-- the pass has the connection of that name
abbrev pub has_row : Option ConnName → ConnName → Bool
has_row had name = option_map_or (is_name name) had false

-- a pass that has this connection may make the event: pass 0 is the listener, which alone accepts, holds what waits, signals, lets time
-- pass, starts and retires children, and commands
abbrev pub may_make : ℕ → Option ConnName → Event → Bool
may_make p had (event.Accept slot) = p == 0 && is_none had
may_make p had (event.Park name kind) = has_row had name
may_make p had (event.Hold name) = p == 0 && is_none had
may_make p had (event.Queue name) = is_none had
may_make p had (event.Start name) = has_row had name
may_make p had (event.Answer name ask) = has_row had name
may_make p had (event.Linger name cause) = has_row had name
may_make p had (event.Close name cause tail) = has_row had name
may_make p had (event.Ready slot) = p == 0
may_make p had (event.Tick m) = p == 0
may_make p had (event.StartChild k) = p == 0
may_make p had (event.Command c) = p == 0
may_make p had (event.Retire k) = p == 0

-- after the history, behind the entries that the record counts, the pass may make the entry
pub record IsNextOf (p : ℕ) (base : State) (f : Folded) (history : List Entry)
    (e : Entry) : Type 0 where
  pub pass : e.pass ≡ p
  pub ordinal : e.ordinal ≡ slice_index f.ordinals p + length (entries_of p history)
  pub is_allowed : is_allowed (after base history) e.event ≡ true
  pub replied : e.reply ≡ reply (after base history) e.event
  pub role : may_make p (row_from f p history) e.event ≡ true

-- after the history, the pass may make these entries, one after the other
abbrev pub AreEntriesOf : ℕ → State → Folded → List Entry → List Entry → Type 0
AreEntriesOf p base f history [] = ⊤
AreEntriesOf p base f history (e ∷ added) =
    IsNextOf p base f history e × AreEntriesOf p base f (history ++ e ∷ []) added

-- the history went on by entries of the pass
abbrev pub Adds : ℕ → State → Folded → List Entry → List Entry → Type 0
Adds p base f old new =
    (added : List Entry) × (new ≡ old ++ added) × AreEntriesOf p base f old added
