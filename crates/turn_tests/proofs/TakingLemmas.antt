-- A connection that the listener has just taken: its pass holds it, and it may wait for its request.
use Rattle.std.proofs.Common.{◌≡◌, ℕ, true, List, [], ◌∷◌, ◌++◌, Option, None, Some, IfSome, refl, sym, ap, subst, ◌∙◌, inl}
use Rattle.std.specs.Prelude.{option_and_then}
use Rattle.atomic_table.specs.Table.{Me}
use Rattle.mpm_base.specs.Link.{LinkTold}
use Rattle.mpm_base.specs.declared.conn.Cause.{Cause}
use Rattle.mpm_base.specs.declared.conn.ConnName.{ConnName}
use Rattle.mpm_base.specs.declared.conn.Kind.{Kind}
use Rattle.mpm_base.specs.declared.conn.Kind.TheVariants.{Reading}
use Rattle.conn_machine.specs.declared.row.Row.{Row}
use Rattle.conn_machine.specs.declared.state.State.{State}
use Rattle.conn_machine.specs.Rows.{is_held, live_row}
use Rattle.conn_machine.specs.Table.{may_wait}
use Rattle.conn_state.specs.Conn.{IsConn, SeenConn}
use Rattle.table_rule.specs.declared.view.View.{View}
use Rattle.board_book.specs.Finds.{cause_of}
use Rattle.board.specs.Backed.{AreBacked}
use Rattle.board.specs.BoardLaws.{WaitsAreBackedByCalls}
use Rattle.board.specs.Fits.{Fits, IsOnItsWay}
use Rattle.worker_group.proofs.ServeLemmas.{test-at}
use Rattle.board_turns.specs.Books.{state_of}
use Rattle.board_turns.specs.Turns.{IsListener}
use Rattle.listener_turns.specs.Holds.{HasTaken, Holds, MayWait}
use Rattle.turn_tests.specs.Taking.{IsNew}

-- its row is found by its name
found_new : (v : View) (name : ConnName) (child generation arrival : ℕ) (c : SeenConn) → (taken : HasTaken v name child generation arrival) → IsNew name child generation c
    → live_row (state_of v).rows c.name ≡ Some taken.row
found_new v name child generation arrival c taken new =
    subst (λ (n : ConnName). live_row (state_of v).rows n ≡ Some taken.row) (sym new.name_is) taken.found

-- and the connection is the one of it
fits_new : WaitsAreBackedByCalls → (v : View) (name : ConnName) (child generation arrival : ℕ) (c : SeenConn) → (taken : HasTaken v name child generation arrival)
    → IsNew name child generation c → Fits c taken.row
fits_new law v name child generation arrival c taken new = record {
  child = new.child_is ∙ sym taken.child_is;
  generation = new.generation_is ∙ sym taken.generation_is;
  notes = new.notes ∙ sym taken.notes;
  rank = subst (λ (o : Option LinkTold). IfSome o (λ t. t.rank ≡ taken.row.arrival)) (sym new.told) tt;
  backed = subst (λ (ws : List Kind). AreBacked ws c.counts) (sym taken.waits) (law.none c.counts);
}

-- the pass holds it
pub holds_new : {K : Type 0} (me : Me (Option K) View) (name : ConnName) (child generation arrival : ℕ) (c : SeenConn) → IsListener me
    → HasTaken me.0 name child generation arrival → IsNew name child generation c → Holds None me.0 c
holds_new me name child generation arrival c listener taken new = record {
  turn = listener.turnless.turn;
  number = listener.number;
  row = taken.has ∙ ap (λ (n : ConnName). Some n) (sym new.name_is);
  edition = tt;
  sound = taken.sound;
}

-- it may wait for its first request
waits_first : (s : State) (row : Row) → is_held row.place ≡ true → row.from ≡ None → may_wait s.moment Reading row ≡ true
waits_first s row held fresh = rw (held, fresh) refl

cause_at : (s : State) (name : ConnName) (row : Row) → live_row s.rows name ≡ Some row → cause_of s name ≡ row.cause
cause_at s name row found = ap (λ (o : Option Row). option_and_then (λ (r : Row). r.cause) o) found

pub waits_new : WaitsAreBackedByCalls → (v : View) (name : ConnName) (child generation arrival : ℕ) (c : SeenConn) → HasTaken v name child generation arrival
    → IsNew name child generation c → IsConn c → MayWait Reading (state_of v) c
waits_new law v name child generation arrival c taken new is =
    let s = state_of v in
    let row = taken.row in
    let found = found_new v name child generation arrival c taken new in
    let none : cause_of s c.name ≡ None = cause_at s c.name row found ∙ taken.serves in
    record {
      allowed = λ going.
          let passes = test-at s.rows c.name row (may_wait s.moment Reading) found ∙ waits_first s row taken.held taken.fresh in
          rw (going, passes) refl;
      fits = record { row = row; found = found; fits = fits_new law v name child generation arrival c taken new };
      settled =
          record {
            waits = inl new.turn;
            way = subst (λ (o : Option Cause). IsOnItsWay o c) (sym none) new.linger;
            is_conn = is;
          };
      turned = tt;
      backed =
          record {
            row = row;
            found = found;
            backed = subst (λ (ws : List Kind). AreBacked (ws ++ Reading ∷ []) c.counts) (sym taken.waits) (law.first c.counts);
          };
    }
