-- A connection that is taken starts afresh.
use Rattle.std.proofs.Common.{◌≡◌, ℕ, zero, suc, Bool, true, false, List, [], ◌∷◌, slice_set, refl}
use Rattle.std.specs.Prelude.{slice_index_or}
use Rattle.conn_machine.specs.declared.event.Event.TheVariants as event
use Rattle.conn_machine.specs.declared.state.State.{State}
use Rattle.conn_machine.specs.Table.{is_allowed, next, taken_row}
use Rattle.conn_machine.specs.Laws.{StartsFresh}
use Rattle.conn_machine.proofs.AllowedLemmas.{accept-row}
use Rattle.conn_machine.proofs.UpdateLemmas.{get_changed}

-- a signal that was cleared isn't set, nor is one of a slot that there isn't
cleared : (signals : List Bool) (slot : ℕ) → slice_index_or (slice_set signals slot false) slot false ≡ false
cleared [] slot = refl
cleared (x ∷ signals) zero = refl
cleared (x ∷ signals) (suc slot) = cleared signals slot

-- nothing is left of the connection that was there before
pub starts_fresh : (s : State) (slot : ℕ) → is_allowed s (event.Accept slot) ≡ true → StartsFresh (next s (event.Accept slot)) slot
starts_fresh s slot may =
    let (r, at, vacant) = accept-row s slot may in
    record {
      row = taken_row s r;
      there = get_changed s.rows slot r (taken_row s) at;
      fresh = record {
        held = refl;
        never_waited = refl;
        not_asked = refl;
        not_begun = refl;
        undecided = refl;
        not_refused = refl;
        in_service = refl;
        no_response = refl;
        no_wait = refl;
      };
      no_signal = cleared s.signals slot;
    }
