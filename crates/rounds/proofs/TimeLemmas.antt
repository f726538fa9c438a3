-- Time that passes, and the connections that are late.
use Rattle.std.proofs.Common.{◌≡◌, ℕ, suc, Bool, true, false, List, [], ◌∷◌, nat_le, None, Some, slice_get, refl}
use Rattle.std.proofs.lemmas.Bool.{and_parts}
use Rattle.std.specs.List.{list_any}
use Rattle.mpm_base.specs.declared.conn.ConnName.{ConnName}
use Rattle.conn_machine.specs.declared.row.Row.{Row}
use Rattle.conn_machine.specs.declared.event.Event.TheVariants as event
use Rattle.conn_machine.specs.declared.state.State.{State}
use Rattle.conn_machine.specs.Rows.{is_parked}
use Rattle.conn_machine.specs.States.{is_overdue, is_signalled}
use Rattle.conn_machine.specs.Table.{is_allowed, may_be_held}
use Rattle.board_book.specs.Finds.{FindsRow, is_late}
use Rattle.rounds.specs.TableInside.{NoneOverdue}
use Rattle.rounds.proofs.FoundLemmas.{Lives, lives, passes-found}

-- ## A connection that is late

-- it waits, and its deadline has come
pub late-row : (s : State) (name : ConnName) → FindsRow (is_late s) s (Some name) → Lives (is_overdue s.moment) s.rows name
late-row s name found = lives (is_overdue s.moment) s.rows name found

pub late-parts : (moment : ℕ) (r : Row) → is_overdue moment r ≡ true → (is_parked r.place ≡ true) × (nat_le r.deadline moment ≡ true)
late-parts moment r late = and_parts (is_parked r.place) (nat_le r.deadline moment) late

-- so it may be held
pub may-hold_late : (s : State) (name : ConnName) → FindsRow (is_late s) s (Some name) → is_allowed s (event.Hold name) ≡ true
may-hold_late s name found =
    let live = late-row s name found in
    let parts = late-parts s.moment live.row live.passes in
    passes-found (may_be_held s (is_signalled s name.slot)) s.rows name live.row live.found (rw (parts.0, parts.1) refl)

-- ## No connection is late

-- no row passes a test that each fails
none-any : (test : Row → Bool) (rows : List Row) → ((slot : ℕ) (r : Row) → slice_get rows slot ≡ Some r → test r ≡ false) → list_any test rows ≡ false
none-any test [] none = refl
none-any test (r ∷ rows) none = rw (none 0 r refl, none-any test rows (λ slot x at. none (suc slot) x at)) refl

-- where none was found that is late, none is
pub none-late : (s : State) → FindsRow (is_late s) s None → NoneOverdue s
none-late s found = none-any (is_overdue s.moment) s.rows found
