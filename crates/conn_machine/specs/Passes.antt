-- What passes have in a state and leave of it: the listener, which is pass 0, and the others, which serve.
use Rattle.std.specs.Prelude.{◌≡◌, ℕ, ◌⊎◌, Bool, true, false, not, ◌&&◌, count_by, length, Option, Some, slice_get}
use Rattle.std.specs.List.{range_with_len}
use Rattle.mpm_base.specs.declared.conn.ConnName.{ConnName}
use Rattle.conn_machine.specs.declared.row.Row.{Row}
use Rattle.conn_machine.specs.declared.state.State.{State}
use Rattle.conn_machine.specs.Rows.{is_lingering, is_parked, is_with_a_pass, live_row, row_passes}
use Rattle.conn_machine.specs.States.{is_signalled}

-- each pass has this connection, or none: each of these is live, and the listener holds it, or a worker has it, or will; two
-- passes have different ones; and each connection that is held, queued or in work is some pass's
pub record EachHasItsOwn (s : State) (has : ℕ → Option ConnName) : Type 0 where
  pub live : (p : ℕ) (name : ConnName)
      → has p ≡ Some name
      → (r : Row) × (live_row s.rows name ≡ Some r) × (is_with_a_pass r.place ≡ true)
  pub apart : (p q : ℕ) (name other : ConnName)
      → has p ≡ Some name
      → has q ≡ Some other
      → name.slot ≡ other.slot
      → p ≡ q
  pub someone : (slot : ℕ) (r : Row)
      → slice_get s.rows slot ≡ Some r
      → is_with_a_pass r.place ≡ true
      → (p : ℕ) × (name : ConnName) × (has p ≡ Some name) × (name.slot ≡ slot)
      × (live_row s.rows name ≡ Some r)

-- no connection is with a pass: the listener holds none, and no worker has one, or will
pub record HasNoneInHand (s : State) : Type 0 where
  pub each : (slot : ℕ) (r : Row) → slice_get s.rows slot ≡ Some r → is_with_a_pass r.place ≡ false

-- the row waits, and lingers
abbrev pub waits_lingering : Row → Bool
waits_lingering r = is_parked r.place && is_lingering r

-- the connection of the slot waits, and lingers
abbrev pub lingers_at : State → ℕ → Bool
lingers_at s slot = row_passes waits_lingering s.rows slot

-- the slot is signalled, and its connection doesn't linger
abbrev pub asks_service : State → ℕ → Bool
asks_service s slot = is_signalled s slot && not (lingers_at s slot)

-- how many slots are signalled without a connection that lingers
abbrev pub asking_count : State → ℕ
asking_count s = count_by (asks_service s) (range_with_len 0 (length s.rows))

-- what the listener alone decides is as it was: no time has passed, no connection was taken, no generation began, the server goes on
-- as before, and so does each child; and a slot is signalled only where it was before, or where its connection lingers
pub record OnlyServes (old new : State) : Type 0 where
  pub moment : new.moment ≡ old.moment
  pub accepted : new.accepted ≡ old.accepted
  pub newest : new.newest ≡ old.newest
  pub shape : new.shape ≡ old.shape
  pub going : new.going ≡ old.going
  pub children : new.children ≡ old.children
  pub signals : (slot : ℕ)
      → is_signalled new slot ≡ true
      → (is_signalled old slot ≡ true) ⊎ (lingers_at new slot ≡ true)
