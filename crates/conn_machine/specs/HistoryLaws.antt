-- The laws of histories that go on: what comes and what stays where entries are added, or one row or child changes.
use Rattle.std.specs.Prelude.{◌≡◌, ◌≢◌, ◌↔◌, ◌<◌, ◌≤◌, ◌+◌, ◌*◌, ℕ, Bool, true, false, List, [], ◌∷◌, ◌++◌, count_by, length, None, Some, slice_get, slice_index, if◌then◌else◌}
use Rattle.std.specs.List.{list_any}
use Rattle.mpm_base.specs.declared.shape.Shape.{Shape}
use Rattle.conn_machine.specs.declared.child.Child.{Child}
use Rattle.conn_machine.specs.declared.event.Entry.{Entry}
use Rattle.conn_machine.specs.declared.folded.Folded.{Folded}
use Rattle.conn_machine.specs.declared.row.Row.{Row}
use Rattle.conn_machine.specs.declared.state.State.{State}
use Rattle.conn_machine.specs.Lists.{update}
use Rattle.conn_machine.specs.Sizes.{HasSizesOf}
use Rattle.conn_machine.specs.States.{opening_state}
use Rattle.conn_machine.specs.Table.{is_allowed, next, reply}
use Rattle.conn_machine.specs.Runs.{Adds, IsHistory, IsNextOf, Run, after, asks_page, entries_of, first_row, has_after, is_of_pass, load, row_from, row_of}
use Rattle.conn_machine.specs.Folds.{CountsWithin, GoesOnFrom, HasPlacesFor, HaveBegun, fold_of, opening_record}
use Rattle.conn_machine.specs.Events.{count_events, is_close}
use Rattle.conn_machine.specs.Made.{AreMade, AreOfPasses, HasSeen}

-- a history goes on by one entry
pub record HistoriesGoOnByOneEntry : Type 0 where
  -- it has the state that the machine makes of the event
  pub state : (base : State) (history : List Entry) (e : Entry)
      → after base (history ++ e ∷ []) ≡ next (after base history) e.event
  -- it stays a history of the machine, where the entry is the next one that the table allows
  pub history : (base : State) (f : Folded) (history : List Entry) (e : Entry)
      → IsHistory base f history
      → is_allowed (after base history) e.event ≡ true
      → e.reply ≡ reply (after base history) e.event
      → e.ordinal ≡ slice_index f.ordinals e.pass + length (entries_of e.pass history)
      → IsHistory base f (history ++ e ∷ [])
  -- it stays one that passes made, where the entry is one that its pass may make
  pub made : (base : State) (f : Folded) (history : List Entry) (e : Entry)
      → AreMade base f history
      → IsNextOf e.pass base f history e
      → AreMade base f (history ++ e ∷ [])
  -- of its pass the entry is the last one
  pub own : (p : ℕ) (history : List Entry) (e : Entry)
      → is_of_pass p e ≡ true
      → entries_of p (history ++ e ∷ []) ≡ entries_of p history ++ e ∷ []
  -- and no other pass's
  pub other : (p : ℕ) (history : List Entry) (e : Entry)
      → is_of_pass p e ≡ false
      → entries_of p (history ++ e ∷ []) ≡ entries_of p history
  -- it leaves its pass the connection that its event says
  pub row : (f : Folded) (p : ℕ) (history : List Entry) (e : Entry)
      → is_of_pass p e ≡ true
      → row_from f p (history ++ e ∷ []) ≡ has_after (row_from f p history) e.event e.reply
  -- it weighs 1 more, and 64 besides where it decides a status page
  pub load : (history : List Entry) (e : Entry)
      → load (history ++ e ∷ []) ≡ load history + 1 + 64 * (if asks_page e.event then 1 else 0)

-- what a pass adds is nothing, or one entry that it may make, or what it adds in two steps
pub record PassesAddEntries : Type 0 where
  -- it may add nothing
  pub none : (p : ℕ) (base : State) (f : Folded) (history : List Entry)
      → Adds p base f history history
  -- it may add an entry that it may make
  pub one : (p : ℕ) (base : State) (f : Folded) (history : List Entry) (e : Entry)
      → IsNextOf p base f history e
      → Adds p base f history (history ++ e ∷ [])
  -- what it adds in two steps it adds
  pub more : (p : ℕ) (base : State) (f : Folded) (a b c : List Entry)
      → Adds p base f a b
      → Adds p base f b c
      → Adds p base f a c
  -- a history that passes made stays so
  pub made : (p : ℕ) (base : State) (f : Folded) (old new : List Entry)
      → AreMade base f old
      → Adds p base f old new
      → AreMade base f new
  -- a history of so many passes stays one of theirs
  pub few : (passes p : ℕ) (base : State) (f : Folded) (old new : List Entry)
      → p < passes
      → AreOfPasses passes old
      → Adds p base f old new
      → AreOfPasses passes new
  -- every other pass has made what it had made
  pub seen : (p q : ℕ) (base : State) (f : Folded) (old new : List Entry)
      → Adds p base f old new
      → q ≢ p
      → HasSeen q old new
  -- and has the connection that it had
  pub row : (p q : ℕ) (base : State) (f : Folded) (old new : List Entry)
      → Adds p base f old new
      → q ≢ p
      → row_from f q new ≡ row_from f q old

-- the record of a value that never folded has nothing of any pass, also of one that has no place in
-- it
pub record RecordsOpenWithNothing : Type 0 where
  -- the next number of each pass is 0
  pub ordinal : (passes p : ℕ) → slice_index (opening_record passes).ordinals p ≡ 0
  -- no pass has a connection
  pub first : (passes p : ℕ) → first_row (opening_record passes) p ≡ None
  -- so behind it a pass has the connection that its entries alone give it
  pub row : (passes p : ℕ) (history : List Entry)
      → row_from (opening_record passes) p history ≡ row_of p history
  -- it has a place for each pass that it is for
  pub places : (passes : ℕ) → HasPlacesFor passes (opening_record passes)

-- a fold takes the record on by what each pass did in the history
pub record RecordsGoOnByFolds : Type 0 where
  -- so it does where the record has a place for each pass that made an entry
  pub fold : (passes : ℕ) (base : State) (f : Folded) (history : List Entry) (ended : List (List ℕ))
      (p : ℕ)
      → HasPlacesFor passes f
      → AreOfPasses passes history
      → GoesOnFrom p f history (fold_of base history ended f)
  -- it leaves the record as many places
  pub places : (passes : ℕ) (base : State) (f : Folded) (history : List Entry)
      (ended : List (List ℕ))
      → HasPlacesFor passes f
      → HasPlacesFor passes (fold_of base history ended f)
  -- a record goes on from itself by nothing
  pub none : (p : ℕ) (f : Folded) → GoesOnFrom p f [] f
  -- and by two histories, one behind the other
  pub more : (p : ℕ) (f later last : Folded) (a b : List Entry)
      → GoesOnFrom p f a later
      → GoesOnFrom p later b last
      → GoesOnFrom p f (a ++ b) last
  -- behind a record that goes on from another one and a history each pass has the same connection
  pub row : (p : ℕ) (f later : Folded) (history rest : List Entry)
      → GoesOnFrom p f history later
      → row_from f p (history ++ rest) ≡ row_from later p rest
  -- and may make the same entries
  pub next : (p : ℕ) (base : State) (f later : Folded) (history rest : List Entry) (e : Entry)
      → GoesOnFrom p f history later
      → IsNextOf p base f (history ++ rest) e ↔ IsNextOf p (after base history) later rest e

-- folds, one behind the other, are one fold
pub record FoldsAreOneFold : Type 0 where
  -- of both histories, where as many connections ended as the first one closed
  pub twice : (base : State) (f : Folded) (a b : List Entry) (ended ended' : List (List ℕ))
      → HaveBegun base f
      → length ended ≡ count_events is_close a
      → fold_of (after base a) b ended' (fold_of base a ended f)
      ≡ fold_of base (a ++ b) (ended ++ ended') f
  -- what passes made behind a fold is made behind all entries too
  pub made : (passes : ℕ) (base : State) (f : Folded) (a b : List Entry) (ended : List (List ℕ))
      → HasPlacesFor passes f
      → AreOfPasses passes a
      → AreMade base f a
      → AreMade (after base a) (fold_of base a ended f) b
      → AreMade base f (a ++ b)
  -- what a record counts stays within the number of its entries
  pub within : (base : State) (f : Folded) (history : List Entry) (ended : List (List ℕ))
      → CountsWithin f
      → CountsWithin (fold_of base history ended f)
  -- so it is at first
  pub opened : (passes : ℕ) → CountsWithin (opening_record passes)
  -- the editions of a record stay those of generations that have begun
  pub begun : (base : State) (f : Folded) (history : List Entry) (ended : List (List ℕ))
      → HaveBegun base f
      → HaveBegun (after base history) (fold_of base history ended f)
  -- so they are at first
  pub opening : (s : State) (passes : ℕ) → HaveBegun s (opening_record passes)
  -- where a server opens, a fold of nothing is the opening record
  pub nothing : (slots children passes : ℕ) (shape : Shape)
      → fold_of (opening_state slots children shape) [] [] (opening_record passes)
      ≡ opening_record passes

-- two histories, one behind the other, are one
pub record HistoriesJoin : Type 0 where
  -- its state is the one after the second, from the state after the first
  pub state : (base : State) (a b : List Entry) → after base (a ++ b) ≡ after (after base a) b
  -- the entries of a pass are those of both
  pub entries : (p : ℕ) (a b : List Entry)
      → entries_of p (a ++ b) ≡ entries_of p a ++ entries_of p b

-- a history that passes made is one of the machine
pub record MadeHistoriesAreRuns : Type 0 where
  -- it is a run of the event table
  pub run : (base : State) (f : Folded) (history : List Entry)
      → AreMade base f history
      → Run base history
  -- in the order of its passes
  pub history : (base : State) (f : Folded) (history : List Entry)
      → AreMade base f history
      → IsHistory base f history
  -- a pass that made no entry has the connection that it had before
  pub none : (f : Folded) (p : ℕ) (history : List Entry)
      → entries_of p history ≡ []
      → row_from f p history ≡ first_row f p

-- a history keeps how many rows, children and signals there are
abbrev pub HistoriesKeepSizes : Type 0
HistoriesKeepSizes =
    (base : State) (history : List Entry) → HasSizesOf base (after base history)

-- where one row changes, it alone does
pub record RowsChangeOneAtATime : Type 0 where
  -- the changed one stands in its slot
  pub there : (rows : List Row) (slot : ℕ) (r : Row) (change : Row → Row)
      → slice_get rows slot ≡ Some r
      → slice_get (update rows slot change) slot ≡ Some (change r)
  -- each other row stays
  pub others : (rows : List Row) (slot other : ℕ) (change : Row → Row)
      → other ≢ slot
      → slice_get (update rows slot change) other ≡ slice_get rows other
  -- there are as many as before
  pub length : (rows : List Row) (slot : ℕ) (change : Row → Row)
      → length (update rows slot change) ≡ length rows
  -- no more of them pass a test that the changed one passes only if it did before
  pub kept : (test : Row → Bool) (rows : List Row) (slot : ℕ) (r : Row) (change : Row → Row)
      → slice_get rows slot ≡ Some r
      → (test (change r) ≡ true → test r ≡ true)
      → count_by test (update rows slot change) ≤ count_by test rows
  -- and never more than one more
  pub more : (test : Row → Bool) (rows : List Row) (slot : ℕ) (change : Row → Row)
      → count_by test (update rows slot change) ≤ count_by test rows + 1
  -- none passes one where none did, and the changed one doesn't
  pub none : (test : Row → Bool) (rows : List Row) (slot : ℕ) (r : Row) (change : Row → Row)
      → slice_get rows slot ≡ Some r
      → test (change r) ≡ false
      → list_any test rows ≡ false
      → list_any test (update rows slot change) ≡ false

-- where one child changes, it alone does
pub record ChildrenChangeOneAtATime : Type 0 where
  -- the changed one stands in its place
  pub there : (children : List Child) (k : ℕ) (c : Child) (change : Child → Child)
      → slice_get children k ≡ Some c
      → slice_get (update children k change) k ≡ Some (change c)
  -- each other child stays
  pub others : (children : List Child) (k other : ℕ) (change : Child → Child)
      → other ≢ k
      → slice_get (update children k change) other ≡ slice_get children other
  -- there are as many as before
  pub length : (children : List Child) (k : ℕ) (change : Child → Child)
      → length (update children k change) ≡ length children
