-- A connection that is taken, and what the listener knows of it then.
use Rattle.std.proofs.Common.{◌≡◌, ℕ, Bool, true, false, List, [], ◌∷◌, ◌++◌, Option, None, Some, is_some, slice_get, eq-eqb, refl, sym, ap, subst, ◌∙◌}
use Rattle.std.specs.Option.{option_map_or}
use Rattle.atomic_table.specs.Table.{Me}
use Rattle.mpm_base.specs.Count.{next_count}
use Rattle.mpm_base.specs.declared.conn.ConnName.{ConnName}
use Rattle.conn_machine.specs.declared.event.Entry.{Entry}
use Rattle.conn_machine.specs.declared.event.Event.TheVariants as event
use Rattle.conn_machine.specs.declared.event.Reply.TheVariants.{Took}
use Rattle.conn_machine.specs.declared.row.Row.{Row}
use Rattle.conn_machine.specs.declared.state.State.{State}
use Rattle.conn_machine.specs.BetweenTurns.{OthersLeaveTheRestToTheListener}
use Rattle.conn_machine.specs.Children.{child_at}
use Rattle.conn_machine.specs.Laws.{IsTakenFor}
use Rattle.conn_machine.specs.MachineLaws.{ConnectionsGoToTheChosenChild}
use Rattle.conn_machine.specs.Rows.{is_vacant, live_row}
use Rattle.conn_machine.specs.Runs.{Run, after, taken_name}
use Rattle.conn_machine.specs.Sound.{IsSound}
use Rattle.conn_machine.specs.States.{is_serving, pick_child}
use Rattle.conn_machine.specs.Table.{is_allowed, is_vacant_at, life_at, next, picked_child, taken_reply, taken_row}
use Rattle.table_rule.specs.declared.view.View.{View}
use Rattle.board_lock.specs.Passes.{GaveBack, TookTurn}
use Rattle.board_book.specs.declared.faults.AcceptFault.{AcceptFault}
use Rattle.board_book.specs.declared.faults.AcceptFault.TheVariants as fault
use Rattle.board.specs.Board.{SeenBoard}
use Rattle.board_book.specs.Book.{SeenBook, book_with_entry, entry_of}
use Rattle.board.specs.Events.{IsTaken}
use Rattle.board_book.specs.Faults.{IsNotTakenFor}
use Rattle.board.specs.Ledger.{ledger_of}
use Rattle.worker_group.proofs.AnswerLemmas.{live_row-update}
use Rattle.board_turns.specs.Books.{book_of, state_of}
use Rattle.board_turns.specs.GoesOnInside.{MadeEvent}
use Rattle.board_turns.specs.Rests.{TurnsRestOn}
use Rattle.board_turns.specs.Turns.{HadTurn, state_found}
use Rattle.board_turns.proofs.FoundLemmas.{same_state}
use Rattle.board_turns.proofs.ThenLemmas.{nothing_state, row_then, state_then}
use Rattle.board_turns.proofs.TurnLemmas.{had_one}
use Rattle.listener_turns.specs.Holds.{HasTaken}
use Rattle.listener_turns.proofs.ListenerLemmas.{only_serves, parts_three}

-- ## With the board in hand

-- the last entry of a run was allowed where it stands
last_allowed : (s : State) (history : List Entry) (e : Entry) → Run s (history ++ e ∷ []) → is_allowed (after s history) e.event ≡ true
last_allowed s [] e run = run.0
last_allowed s (x ∷ history) e run = last_allowed (next s x.event) history e run.2

-- the accept was allowed
accept_allowed : (slot : ℕ) (b b' : SeenBook) → after b.base b.history ≡ b.state → Run b'.base b'.history
    → b' ≡ book_with_entry 0 (event.Accept slot) b → is_allowed b.state (event.Accept slot) ≡ true
accept_allowed slot b b' state run is =
    let here = subst (λ (x : SeenBook). Run x.base x.history) is run in
    subst (λ (s : State). is_allowed s (event.Accept slot) ≡ true) state (last_allowed b.base b.history _ here)

took_newest : (s : State) (name : ConnName) (child generation : ℕ) → IsTaken s name child generation → IsTakenFor s name.slot (taken_reply s name.slot)
    → generation ≡ s.newest
took_newest s name child generation taken chosen =
    let same : Took name child generation ≡ Took chosen.name chosen.child s.newest = taken ∙ chosen.replied in
    cc

-- so it is of the newest generation
newest_taken : ConnectionsGoToTheChosenChild → (name : ConnName) (child generation : ℕ) (b b' : SeenBook) → after b.base b.history ≡ b.state
    → Run b'.base b'.history → b' ≡ book_with_entry 0 (event.Accept name.slot) b → IsTaken b.state name child generation → generation ≡ b.state.newest
newest_taken law name child generation b b' state run is taken =
    let here = subst (λ (x : SeenBook). Run x.base x.history) is run in
    took_newest b.state name child generation taken
    (subst (λ (s : State). IsTakenFor s name.slot (taken_reply b.state name.slot)) state
    (law.taken b.base b.history [] (entry_of 0 (event.Accept name.slot) b) name.slot here refl))

-- an item that passes a test
passed : {X : Type 0} (test : X → Bool) (o : Option X) → option_map_or test o false ≡ true → (x : X) × (o ≡ Some x)
passed test None passes = absurd (cc)
passed test (Some x) passes = (x, refl)

-- the row of the slot, once one was taken into it
taken_found : (s : State) (name : ConnName) (child generation : ℕ) (r : Row) → slice_get s.rows name.slot ≡ Some r → IsTaken s name child generation
    → live_row (next s (event.Accept name.slot)).rows name ≡ Some (taken_row s r)
taken_found s name child generation r at taken =
    let life : life_at s.rows name.slot ≡ r.life = ap (λ (o : Option Row). option_map_or (λ (x : Row). x.life) o 0) at in
    let named : name ≡ record { slot = name.slot; life = life_at s.rows name.slot } = cc taken in
    let life_is : r.life ≡ name.life = sym (ap (λ (n : ConnName). n.life) named ∙ life) in
    live_row-update s.rows name r (taken_row s) at (eq-eqb r.life name.life life_is)

-- ## Behind the turn

pub has_taken : {K : Type 0} (v w u : Me (Option K) View) (old new : SeenBoard) (name : ConnName) (child generation : ℕ) → OthersLeaveTheRestToTheListener
    → ConnectionsGoToTheChosenChild → TurnsRestOn → TookTurn v w (ledger_of old) → GaveBack w u (ledger_of new) → v.0.who.number ≡ 0
    → MadeEvent 0 (event.Accept name.slot) old new → after old.book.base old.book.history ≡ old.book.state → Run new.book.base new.book.history
    → IsSound new.book.state → IsTaken old.book.state name child generation → HasTaken u.0 name child generation (state_of v.0).accepted
has_taken v w u old new name child generation others chosen rests took gave number m state run sound taken =
    let s = old.book.state in
    let only = only_serves v w old others rests took number state in
    let may = accept_allowed name.slot old.book new.book state run m.book in
    let parts = parts_three (is_serving s.going) (is_vacant_at s name.slot) (is_some (pick_child s)) may in
    let at = passed (λ (r : Row). is_vacant r.place) (slice_get s.rows name.slot) parts.1 in
    let behind = state_then v w u 0 (event.Accept name.slot) old new rests took gave number m state in
    let is_next : new.book.state ≡ next s (event.Accept name.slot) = ap (λ (b : SeenBook). b.state) m.book in
    let child_is : child ≡ picked_child s = cc taken in
    let generation_is : generation ≡ (child_at s.children (picked_child s)).generation = cc taken in record {
      has = row_then v w u 0 (event.Accept name.slot) old new rests took gave number m ∙ sym (ap taken_name taken);
      sound = subst IsSound (sym behind) sound;
      row = taken_row s at.0;
      found = ap (λ (x : State). live_row x.rows name) (behind ∙ is_next) ∙ taken_found s name child generation at.0 at.1 taken;
      held = refl;
      fresh = refl;
      serves = refl;
      child_is = sym child_is;
      generation_is = sym generation_is;
      newest = newest_taken chosen name child generation old.book new.book state run m.book taken
          ∙ ap (λ (x : State). x.newest) (sym (behind ∙ is_next));
      arrival_is = only.accepted;
      counted = ap (λ (x : State). x.accepted) (behind ∙ is_next) ∙ ap next_count only.accepted;
      notes = refl;
      waits = refl;
    }

pub accepted_turn : {K : Type 0} (v w u : Me (Option K) View) (old new : SeenBoard) (name : ConnName) (child generation : ℕ) → TurnsRestOn
    → TookTurn v w (ledger_of old) → GaveBack w u (ledger_of new) → v.0.who.number ≡ 0 → MadeEvent 0 (event.Accept name.slot) old new
    → after old.book.base old.book.history ≡ old.book.state → IsTaken old.book.state name child generation
    → (found : List Entry) × HadTurn found (event.Accept name.slot ∷ []) v.0 u.0 × IsTaken (state_found v.0 found) name child generation
accepted_turn v w u old new name child generation rests took gave number m state taken = (
  w.0.seen,
  had_one v w u 0 (event.Accept name.slot) old new rests took gave number m,
  subst (λ (s : State). IsTaken s name child generation) (sym (same_state v w old rests took state)) taken,
)

-- why none is taken is seen in the state alone
not_taken_by : (f : AcceptFault) (a b : SeenBook) → a.state ≡ b.state → IsNotTakenFor f a → IsNotTakenFor f b
not_taken_by fault.Halted a b same why = rw (sym same) why
not_taken_by fault.NoChild a b same why = record { was_open = record { going = rw (sym same) why.was_open.going }; none_picked = rw (sym same) why.none_picked }
not_taken_by fault.NoSlot a b same why = record {
  was_open = record { going = rw (sym same) why.was_open.going };
  picked = rw (sym same) why.picked;
  none_vacant = λ slot. rw (sym same) (why.none_vacant slot);
}
not_taken_by fault.NoMemory a b same why = record { going = rw (sym same) why.going }

pub not_taken_then : {K : Type 0} (v w u : Me (Option K) View) (old new : SeenBoard) (f : AcceptFault) → TurnsRestOn → TookTurn v w (ledger_of old)
    → GaveBack w u (ledger_of new) → new ≡ old → after old.book.base old.book.history ≡ old.book.state → IsNotTakenFor f old.book
    → IsNotTakenFor f (book_of u.0)
not_taken_then v w u old new f rests took gave same state why =
    not_taken_by f old.book (book_of u.0)
    (sym (nothing_state v w u old rests took (subst (λ (b : SeenBoard). GaveBack w u (ledger_of b)) same gave) state)) why
