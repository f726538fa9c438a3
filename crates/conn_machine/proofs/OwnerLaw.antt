-- A connection has an owner exactly while it is live, the listener has those that it holds, and a worker has one at most.
use Rattle.std.proofs.Common.{◌≡◌, ◌↔◌, ℕ, false, not, None, Some, slice_get, refl, sym, ◌∙◌}
use Rattle.conn_machine.specs.declared.row.Owner.TheVariants as owner
use Rattle.conn_machine.specs.declared.row.Phase.{Phase}
use Rattle.conn_machine.specs.declared.row.Place.{Place}
use Rattle.conn_machine.specs.declared.row.Place.TheVariants.{Vacant, Spent, Held, Parked, Queued, Working}
use Rattle.conn_machine.specs.declared.row.Row.{Row}
use Rattle.conn_machine.specs.declared.state.State.{State}
use Rattle.conn_machine.specs.Rows.{is_unused, is_live, owner_in, owner_of}
use Rattle.conn_machine.specs.Sound.{IsSound}
use Rattle.conn_machine.proofs.CellLaw.{cells_differ}

-- nobody has what is at a place exactly where no connection is there
owned_in : (k : ℕ) (place : Place) → (owner_in k place ≡ None) ↔ (not (is_unused place) ≡ false)
owned_in k Vacant = ((λ none. refl), (λ dead. refl))
owned_in k Spent = ((λ none. refl), (λ dead. refl))
owned_in k Held = ((λ none. absurd (cc)), (λ dead. absurd (cc)))
owned_in k (Parked kind) = ((λ none. absurd (cc)), (λ dead. absurd (cc)))
owned_in k Queued = ((λ none. absurd (cc)), (λ dead. absurd (cc)))
owned_in k (Working cell phase) = ((λ none. absurd (cc)), (λ dead. absurd (cc)))

-- nobody has a row exactly where it isn't live
pub owned_live : (r : Row) → (owner_of r ≡ None) ↔ (is_live r ≡ false)
owned_live r = owned_in r.child r.place

-- the listener has what it holds
held_in : (k : ℕ) (place : Place) → (owner_in k place ≡ Some owner.Listener) ↔ (place ≡ Held)
held_in k Vacant = ((λ has. absurd (cc)), (λ is. absurd (cc)))
held_in k Spent = ((λ has. absurd (cc)), (λ is. absurd (cc)))
held_in k Held = ((λ has. refl), (λ is. refl))
held_in k (Parked kind) = ((λ has. absurd (cc)), (λ is. absurd (cc)))
held_in k Queued = ((λ has. absurd (cc)), (λ is. absurd (cc)))
held_in k (Working cell phase) = ((λ has. absurd (cc)), (λ is. absurd (cc)))

-- the listener has the rows that it holds, and no others
pub held_by_listener : (r : Row) → (owner_of r ≡ Some owner.Listener) ↔ (r.place ≡ Held)
held_by_listener r = held_in r.child r.place

-- a worker of the child serves what is there, in that cell
record IsWorkedIn (k child cell : ℕ) (place : Place) : Type 0 where
  pub phase : Phase
  pub place_is : place ≡ Working cell phase
  pub child_is : k ≡ child

-- what a worker has is served in its cell
worked_in : (k child cell : ℕ) (place : Place) → owner_in k place ≡ Some (owner.Worker child cell) → IsWorkedIn k child cell place
worked_in k child cell Vacant has = absurd (cc)
worked_in k child cell Spent has = absurd (cc)
worked_in k child cell Held has = absurd (cc)
worked_in k child cell (Parked kind) has = absurd (cc)
worked_in k child cell Queued has = absurd (cc)
worked_in k child cell (Working c phase) has =
    let e : c ≡ cell = cc in
    record { phase = phase; place_is = cc; child_is = cc }

-- two rows that one worker has stand in one slot
pub worker_has_one : (s : State) (slot other child cell : ℕ) (r r' : Row) → IsSound s → slice_get s.rows slot ≡ Some r
    → slice_get s.rows other ≡ Some r' → owner_of r ≡ Some (owner.Worker child cell) → owner_of r' ≡ Some (owner.Worker child cell)
    → slot ≡ other
worker_has_one s slot other child cell r r' sound at at' has has' =
    let one = worked_in r.child child cell r.place has in
    let two = worked_in r'.child child cell r'.place has' in
    cells_differ s slot other cell r r' one.phase two.phase sound at at' one.place_is two.place_is (one.child_is ∙ sym two.child_is)
