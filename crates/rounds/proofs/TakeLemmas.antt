-- A connection that is taken.
use Rattle.std.proofs.Common.{◌≡◌, ℕ, suc, Bool, true, false, ◌&&◌, cond, List, [], ◌∷◌, ◌++◌, Option, None, Some, is_some, slice_get, eq-eqb, refl, sym, ap, subst, ◌∙◌}
use Rattle.std.proofs.lemmas.Bool.{and_parts}
use Rattle.std.specs.Option.{option_map_or}
use Rattle.std.specs.List.{list_any}
use Rattle.mpm_base.specs.declared.conn.ConnName.{ConnName}
use Rattle.conn_machine.specs.declared.row.Row.{Row}
use Rattle.conn_machine.specs.declared.event.Entry.{Entry}
use Rattle.conn_machine.specs.declared.event.Event.TheVariants as event
use Rattle.conn_machine.specs.declared.state.State.{State}
use Rattle.conn_machine.specs.Lists.{update}
use Rattle.conn_machine.specs.Rows.{is_vacant, row_passes, live_row}
use Rattle.conn_machine.specs.Children.{child_at}
use Rattle.conn_machine.specs.States.{is_serving, pick_child}
use Rattle.conn_machine.specs.Table.{is_allowed, next, is_vacant_at, picked_child, taken_row, life_at}
use Rattle.conn_machine.specs.Runs.{Run, after}
use Rattle.board_book.specs.Book.{SeenBook, book_with_entry}
use Rattle.board.specs.Events.{IsTaken}
use Rattle.board_book.specs.Finds.{acceptable}
use Rattle.rounds.specs.TableInside.{HasTaken}
use Rattle.rounds.proofs.FoundLemmas.{ChangesInPlace, found-changed, passed}

-- ## Where a connection is taken

-- a child takes one, and a slot is vacant
record IsAcceptable (s : State) : Type 0 where
  pub picked : is_some (pick_child s) ≡ true
  pub vacant : list_any (λ (r : Row). is_vacant r.place) s.rows ≡ true

acceptable-by : (s : State) (serving vacant : Bool) → list_any (λ (r : Row). is_vacant r.place) s.rows ≡ vacant
    → is_some (cond (serving && vacant) (pick_child s) None) ≡ true → IsAcceptable s
acceptable-by s true true vacant some = record { picked = some; vacant = vacant }
acceptable-by s true false vacant some = absurd (cc)
acceptable-by s false b vacant some = absurd (cc)

is-acceptable : (s : State) (o : Option ℕ) → o ≡ acceptable s → is_some o ≡ true → IsAcceptable s
is-acceptable s o is some =
    acceptable-by s (is_serving s.going) (list_any (λ (r : Row). is_vacant r.place) s.rows) refl
    (subst (λ (x : Option ℕ). is_some x ≡ true) is some)

-- then a child takes one
pub takes-child : (s : State) (o : Option ℕ) → o ≡ acceptable s → is_some o ≡ true → pick_child s ≡ None → ⊥
takes-child s o is some none = let picked = (is-acceptable s o is some).picked in absurd (cc (picked, none))

-- where no slot is vacant no row is
none-vacant : (rows : List Row) → ((slot : ℕ) → row_passes (λ (r : Row). is_vacant r.place) rows slot ≡ false)
    → list_any (λ (r : Row). is_vacant r.place) rows ≡ false
none-vacant [] none = refl
none-vacant (r ∷ rows) none = rw (none 0, none-vacant rows (λ slot. none (suc slot))) refl

-- then a slot is vacant
pub takes-slot : (s : State) (o : Option ℕ) → o ≡ acceptable s → is_some o ≡ true → ((slot : ℕ) → is_vacant_at s slot ≡ false) → ⊥
takes-slot s o is some none =
    let vacant = (is-acceptable s o is some).vacant in
    let empty = none-vacant s.rows none in
    absurd (cc (vacant, empty))

-- ## The connection that was taken

-- the last entry of a run was allowed where it stands
last-allowed : (s : State) (history : List Entry) (e : Entry) → Run s (history ++ e ∷ []) → is_allowed (after s history) e.event ≡ true
last-allowed s [] e run = run.0
last-allowed s (x ∷ history) e run = last-allowed (next s x.event) history e run.2

-- the accept was allowed
pub accept-allowed : (who slot : ℕ) (b b' : SeenBook) → after b.base b.history ≡ b.state → Run b'.base b'.history
    → b' ≡ book_with_entry who (event.Accept slot) b → is_allowed b.state (event.Accept slot) ≡ true
accept-allowed who slot b b' state run is =
    let here = subst (λ (x : SeenBook). Run x.base x.history) is run in
    subst (λ (s : State). is_allowed s (event.Accept slot) ≡ true) state (last-allowed b.base b.history _ here)

taken-of : ChangesInPlace → (s : State) (slot : ℕ) (name : ConnName) (child generation : ℕ) (r : Row) → slice_get s.rows slot ≡ Some r → name.slot ≡ slot
    → IsTaken s name child generation → HasTaken (next s (event.Accept slot)) name child generation s.accepted
taken-of law s slot name child generation r at slot_is taken =
    let life : life_at s.rows name.slot ≡ r.life = ap (λ (o : Option Row). option_map_or (λ (x : Row). x.life) o 0) (ap (slice_get s.rows) slot_is ∙ at) in
    let named : name ≡ record { slot = name.slot; life = life_at s.rows name.slot } = cc taken in
    let child_is : child ≡ picked_child s = cc taken in
    let generation_is : generation ≡ (child_at s.children (picked_child s)).generation = cc taken in
    let life_is : r.life ≡ name.life = sym (ap (λ (n : ConnName). n.life) named ∙ life) in
    let found : live_row (update s.rows name.slot (taken_row s)) name ≡ Some (taken_row s r) =
    found-changed law s.rows name r (taken_row s) (ap (slice_get s.rows) slot_is ∙ at) (eq-eqb r.life name.life life_is) in
    record {
      row = taken_row s r;
      found = subst (λ (n : ℕ). live_row (update s.rows n (taken_row s)) name ≡ Some (taken_row s r)) slot_is found;
      held = refl;
      fresh = refl;
      serves = refl;
      child_is = sym child_is;
      generation_is = sym generation_is;
      arrival_is = refl;
      notes = refl;
      waits = refl;
    }

-- what was taken is held
pub has-taken : ChangesInPlace → (s s' : State) (name : ConnName) (child generation : ℕ) → is_allowed s (event.Accept name.slot) ≡ true
    → s' ≡ next s (event.Accept name.slot) → IsTaken s name child generation → HasTaken s' name child generation s.accepted
has-taken law s s' name child generation may is taken =
    let both = and_parts (is_serving s.going && is_vacant_at s name.slot) (is_some (pick_child s)) may in
    let parts = and_parts (is_serving s.going) (is_vacant_at s name.slot) both.0 in
    let found = passed (λ (r : Row). is_vacant r.place) (slice_get s.rows name.slot) parts.1 in
    subst (λ (t : State). HasTaken t name child generation s.accepted) (sym is) (taken-of law s name.slot name child generation found.0 found.1 refl taken)
