-- What holds of every state that the machine comes to. A number that no child has stands for a child that was never started.
use Rattle.std.specs.Prelude.{◌≡◌, ℕ, ◌+◌, ◌*◌, ◌<◌, ◌≤◌, Bool, true, false, ◌||◌, List, length, count_by, Option, None, Some, slice_get, ⊤}
use Rattle.std.specs.List.{list_any}
use Rattle.mpm_base.specs.Count.{greatest_count}
use Rattle.mpm_base.specs.declared.conn.Kind.{Kind}
use Rattle.mpm_base.specs.declared.conn.Kind.TheVariants.{Reading, KeepAlive, Writing, Linger, ShortLinger}
use Rattle.mpm_base.specs.Notes.{says_last}
use Rattle.conn_machine.specs.declared.row.Place.{Place}
use Rattle.conn_machine.specs.declared.row.Place.TheVariants.{Vacant, Spent, Held, Parked, Queued, Working}
use Rattle.conn_machine.specs.declared.row.Row.{Row}
use Rattle.conn_machine.specs.declared.child.Child.{Child}
use Rattle.conn_machine.specs.declared.state.State.{State}
use Rattle.conn_machine.specs.Rows.{is_live, is_live_in, is_lingering, is_linger_kind, is_from, has_note, carried_count, open_count, is_served_in}
use Rattle.conn_machine.specs.Children.{child_at, is_empty, is_running}
use Rattle.mpm_base.specs.Shape.{is_in_bounds}
use Rattle.conn_machine.specs.States.{child_of, is_serving}
use Rattle.mpm_base.specs.Moment.{greatest_moment}

-- each live row has the property
abbrev pub EachLive : (Row → Type 0) → List Row → Type 0
EachLive P rows = (slot : ℕ) (r : Row) → slice_get rows slot ≡ Some r → is_live r ≡ true → P r

-- ## The counts of a child

-- the connections that its workers carry are no more than its workers
abbrev pub IsCarriable : State → Type 0
IsCarriable s = (k : ℕ) → carried_count s.rows k ≤ (child_at s.children k).shape.threads

-- a connection is taken only below the limit, which is greatest where every worker is idle; so its open connections, with
-- the one that was taken last, are less than one above it
abbrev pub IsAdmissible : State → Type 0
IsAdmissible s =
    (k : ℕ)
    → 100 * open_count s.rows k
    ≤ 100 * (child_at s.children k).shape.threads
    + (child_at s.children k).shape.factor * (child_at s.children k).shape.threads
    + 99

-- ## Children

-- a child that runs is of the newest generation, and the server takes connections
pub record IsNewest (s : State) (c : Child) : Type 0 where
  pub generation : c.generation ≡ s.newest
  pub serving : is_serving s.going ≡ true

-- the child is of the newest generation where it runs, and the server takes connections then
abbrev pub RunsNewest : State → Type 0
RunsNewest s =
    (k : ℕ) → is_running (child_at s.children k).phase ≡ true → IsNewest s (child_at s.children k)

-- a child that is gone has no live row and no workers
pub record IsEmptyChild (rows : List Row) (k : ℕ) (c : Child) : Type 0 where
  pub none_live : list_any (is_live_in k) rows ≡ false
  pub none_works : c.shape.threads ≡ 0

-- a child is gone, or works by numbers that a configuration may give; so are the newest numbers
pub record HasSoundChildren (s : State) : Type 0 where
  pub gone : (k : ℕ)
      → is_empty (child_at s.children k).phase ≡ true
      → IsEmptyChild s.rows k (child_at s.children k)
  pub shapes : (k : ℕ)
      → is_empty (child_at s.children k).phase ≡ false
      → is_in_bounds (child_at s.children k).shape ≡ true
  pub newest : is_in_bounds s.shape ≡ true

-- the row's child exists and isn't gone, and the row is of its child's generation
pub record IsOfChild (s : State) (r : Row) : Type 0 where
  pub exists : r.child < length s.children
  pub there : is_empty (child_of s r).phase ≡ false
  pub generation : r.generation ≡ (child_of s r).generation

-- ## Cells

-- the row, where it is served, is served in a cell that its child has
abbrev pub CellIsBelow : ℕ → Place → Type 0
CellIsBelow threads Vacant = ⊤
CellIsBelow threads Spent = ⊤
CellIsBelow threads Held = ⊤
CellIsBelow threads (Parked kind) = ⊤
CellIsBelow threads Queued = ⊤
CellIsBelow threads (Working cell phase) = cell < threads

-- no cell of a child has two rows, and each row's cell is one that its child has
pub record HasSoundCells (s : State) : Type 0 where
  pub differ : (k c : ℕ) → count_by (is_served_in k c) s.rows ≤ 1
  pub below : EachLive (λ r. CellIsBelow (child_of s r).shape.threads r.place) s.rows

-- ## What a row waits for

-- the row waited for one of the kinds of waiting that lead to service
abbrev pub is_from_service : Row → Bool
is_from_service r = is_from Reading r || is_from KeepAlive r || is_from Writing r

-- the row waited for one of the kinds of lingering
abbrev pub is_from_linger : Row → Bool
is_from_linger r = is_from Linger r || is_from ShortLinger r

-- a row that is served, or will be, doesn't linger
pub record IsInService (r : Row) : Type 0 where
  pub stays : is_lingering r ≡ false
  pub from : is_from_service r ≡ true

-- a row that waits knows its own kind, which is one of lingering exactly where it lingers
pub record KnowsItsKind (kind : Kind) (r : Row) : Type 0 where
  pub own : r.from ≡ Some kind
  pub lingers : is_linger_kind kind ≡ is_lingering r

-- where a row is, and whether it lingers, fit what it waits for or waited for
abbrev pub KindFits : Place → Row → Type 0
KindFits Vacant r = ⊤
KindFits Spent r = ⊤
KindFits Held r = is_from_linger r ≡ is_lingering r
KindFits (Parked kind) r = KnowsItsKind kind r
KindFits Queued r = IsInService r
KindFits (Working cell phase) r = IsInService r

-- ## Rows that wait for a request

-- the row goes on after a response
pub record IsBetweenRequests (r : Row) : Type 0 where
  pub undecided : r.last ≡ false
  pub noted : has_note r ≡ true

-- what a row that waits for this, and doesn't linger, has besides
abbrev pub ExpectsMore : Kind → Row → Type 0
ExpectsMore Reading r = r.last ≡ false
ExpectsMore KeepAlive r = IsBetweenRequests r
ExpectsMore Writing r = ⊤
ExpectsMore Linger r = ⊤
ExpectsMore ShortLinger r = ⊤

-- the same of a row that waited for this
abbrev pub ExpectedMore : Option Kind → Row → Type 0
ExpectedMore None r = ⊤
ExpectedMore (Some kind) r = is_lingering r ≡ false → ExpectsMore kind r

-- a row that the listener has: one that never waited is new
pub record IsHeldWell (r : Row) : Type 0 where
  pub new : r.from ≡ None → r.last ≡ false
  pub expected : ExpectedMore r.from r

-- a row that waits for a request, or did when it was taken up, has room for a response
abbrev pub RequestFits : Place → Row → Type 0
RequestFits Vacant r = ⊤
RequestFits Spent r = ⊤
RequestFits Held r = IsHeldWell r
RequestFits (Parked kind) r = ExpectsMore kind r
RequestFits Queued r = ExpectedMore r.from r
RequestFits (Working cell phase) r = ⊤

-- ## Responses

-- the responses of a row: as many as its child allows at most, with room for one more unless the last was decided
pub record HasSoundNotes (most : ℕ) (r : Row) : Type 0 where
  pub fewer : r.last ≡ false → length r.notes < most
  pub few : length r.notes ≤ most
  pub last : r.last ≡ says_last r.notes

-- ## Arrivals

-- two live rows have different arrivals
abbrev pub ArrivalsDiffer : List Row → Type 0
ArrivalsDiffer rows =
    (i j : ℕ) (r other : Row) → slice_get rows i ≡ Some r → slice_get rows j ≡ Some other
    → is_live r ≡ true → is_live other ≡ true → r.arrival ≡ other.arrival → i ≡ j

-- arrivals are numbered, as long as numbers last
pub record HasSoundArrivals (s : State) : Type 0 where
  pub differ : ArrivalsDiffer s.rows
  pub below : EachLive (λ r. r.arrival < s.accepted) s.rows

-- ## Moments

-- each row's deadline is a moment, also one that a connection left behind
abbrev pub HaveDeadlinesInRange : List Row → Type 0
HaveDeadlinesInRange rows =
    (slot : ℕ) (r : Row) → slice_get rows slot ≡ Some r → r.deadline ≤ greatest_moment

-- the moment and the deadlines are in range, and the arrivals are numbered while their count can still rise
pub record HasSoundNumbers (s : State) : Type 0 where
  pub moment : s.moment ≤ greatest_moment
  pub deadlines : HaveDeadlinesInRange s.rows
  pub arrivals : s.accepted < greatest_count → HasSoundArrivals s

-- ## A sound state

-- a state is sound where all of this holds
pub record IsSound (s : State) : Type 0 where
  pub carried : IsCarriable s
  pub admitted : IsAdmissible s
  pub running : RunsNewest s
  pub children : HasSoundChildren s
  pub owners : EachLive (IsOfChild s) s.rows
  pub cells : HasSoundCells s
  pub kinds : EachLive (λ r. KindFits r.place r) s.rows
  pub requests : EachLive (λ r. RequestFits r.place r) s.rows
  pub notes : EachLive (λ r. HasSoundNotes (child_of s r).shape.most r) s.rows
  pub numbers : HasSoundNumbers s
