-- A kept history that goes on by one entry.
use Rattle.std.proofs.Common.{◌≡◌, ℕ, ◌+◌, ◌<◌, ◌≤◌, ◌^◌, Bool, true, false, List, [], ◌∷◌, ◌++◌, length, refl, sym, ap, subst, ◌∙◌, ne_eqb, length-append, arith}
use Rattle.std.specs.Prelude.{slice_index}
use Rattle.std.proofs.lemmas.List.{length-replicate}
use Rattle.std.proofs.lemmas.List.Folds.{sum_by-replicate}
use Rattle.mpm_base.specs.declared.shape.Shape.{Shape}
use Rattle.conn_machine.specs.declared.event.Event.{Event}
use Rattle.conn_machine.specs.declared.event.Event.TheVariants as event
use Rattle.conn_machine.specs.declared.event.Entry.{Entry}
use Rattle.conn_machine.specs.declared.event.Reply.{Reply}
use Rattle.conn_machine.specs.declared.event.Commanded.TheVariants.{Graceful, Refused, GracefulStop, Stop}
use Rattle.conn_machine.specs.declared.folded.Edition.{Edition}
use Rattle.conn_machine.specs.declared.folded.Folded.{Folded}
use Rattle.conn_machine.specs.declared.state.State.{State}
use Rattle.conn_machine.specs.Events.{begins_generation, count_events, is_order}
use Rattle.conn_machine.specs.Table.{is_allowed, next, reply}
use Rattle.conn_machine.specs.Runs.{after, entries_of, is_of_pass, may_make, first_row, row_from, IsHistory, IsNextOf}
use Rattle.conn_machine.specs.Folds.{CountsWithin, HasPlacesFor, HaveBegun, first_edition, opening_record}
use Rattle.conn_machine.specs.Generations.{GenerationsBeginInOrder}
use Rattle.conn_machine.specs.Made.{AreMade, AreOfPasses}
use Rattle.conn_machine.specs.Passes.{EachHasItsOwn}
use Rattle.conn_machine.specs.Sizes.{HasSizesOf, IsSized}
use Rattle.conn_machine.specs.Sound.{IsSound}
use Rattle.conn_machine.specs.Children.{no_child}
use Rattle.conn_machine.specs.States.{is_halted, opening_state, unused_row}
use Rattle.board_book.specs.declared.ahead.Ahead.{Ahead}
use Rattle.board_book.specs.AheadInside.{IsAhead}
use Rattle.board_book.specs.Book.{SeenBook, numbered_entry, book_with_entry}
use Rattle.board_book.specs.BookInside.{IsKept}
use Rattle.board_book.specs.EditionsInside.{HasEditions, with_begun}
use Rattle.board_book.specs.Faults.{IsOpen}
use Rattle.board_book.specs.RoomInside.{row_owes, child_owes, owed_entries, room_with_event, is_sure}
use Rattle.conn_machine.specs.HistoryLaws.{RowsChangeOneAtATime}
use Rattle.board_book.proofs.EditionLemmas.{editions_first, editions_more, editions_same, newest_by}
use Rattle.board_book.proofs.RoomLemmas.{room-suffices, owed-sure}

-- an event whose room was taken before begins no generation
pub sure-begins_none : (e : Event) → is_sure e ≡ true → begins_generation e ≡ false
sure-begins_none (event.Command (Graceful shape)) sure = absurd (cc)
sure-begins_none (event.Command (Refused reason)) sure = refl
sure-begins_none (event.Command (GracefulStop until)) sure = refl
sure-begins_none (event.Command (Stop why)) sure = refl
sure-begins_none e sure = refl

-- a history of so many passes that goes on by an entry of one of them is theirs
few_more : (passes : ℕ) (history : List Entry) (e : Entry) → AreOfPasses passes history → e.pass < passes
    → ((p : ℕ) (h : List Entry) (x : Entry) → is_of_pass p x ≡ false → entries_of p (h ++ x ∷ []) ≡ entries_of p h)
    → AreOfPasses passes (history ++ e ∷ [])
few_more passes history e few below other p beyond =
    let differs : (e.pass ≡ p → ⊥) = (λ (q : e.pass ≡ p). absurd (omega (arith, q, below, beyond))) in
    other p history e (ne_eqb e.pass p differs) ∙ few p beyond

-- what a history that goes on by the entry is
pub record GoesOn (passes : ℕ) (base : State) (f : Folded) (history : List Entry) (e : Entry) : Type 0 where
  pub is_history : IsHistory base f (history ++ e ∷ [])
  pub made : AreMade base f (history ++ e ∷ [])
  pub few : AreOfPasses passes (history ++ e ∷ [])
  pub state : after base (history ++ e ∷ []) ≡ next (after base history) e.event

-- what a step keeps of a state
pub record IsStepped (s s' : State) : Type 0 where
  pub sound : IsSound s → IsSound s'
  pub sizes : HasSizesOf s s'
  pub sized : IsSized s → IsSized s'

-- the history goes on by an entry that its pass may make, as the machine says of one entry
pub goes_by : (passes : ℕ) (base : State) (f : Folded) (history : List Entry) (s : State) (ahead : Ahead) (editions : List Edition) (room : ℕ) (e : Entry)
    → IsKept passes base f history s ahead editions room
    → e.pass < passes
    → is_allowed s e.event ≡ true → e.reply ≡ reply s e.event → e.ordinal ≡ slice_index f.ordinals e.pass + length (entries_of e.pass history)
    → may_make e.pass (row_from f e.pass history) e.event ≡ true
    → ((b : State) (h : List Entry) (x : Entry) → after b (h ++ x ∷ []) ≡ next (after b h) x.event)
    → ((b : State) (g : Folded) (h : List Entry) (x : Entry) → IsHistory b g h → is_allowed (after b h) x.event ≡ true → x.reply ≡ reply (after b h) x.event
    → x.ordinal ≡ slice_index g.ordinals x.pass + length (entries_of x.pass h) → IsHistory b g (h ++ x ∷ []))
    → ((b : State) (g : Folded) (h : List Entry) (x : Entry) → AreMade b g h → IsNextOf x.pass b g h x → AreMade b g (h ++ x ∷ []))
    → ((p : ℕ) (h : List Entry) (x : Entry) → is_of_pass p x ≡ false → entries_of p (h ++ x ∷ []) ≡ entries_of p h)
    → GoesOn passes base f history e
goes_by passes base f history s ahead editions room e before below allowed replied ordinal role by_state by_history by_made by_other =
    let may : is_allowed (after base history) e.event ≡ true = rw before.state_is allowed in
    let answered : e.reply ≡ reply (after base history) e.event = rw before.state_is replied in
    record {
      is_history = by_history base f history e before.is_history may answered ordinal;
      made = by_made base f history e before.made (record { pass = refl; ordinal = ordinal; is_allowed = may; replied = answered; role = role });
      few = few_more passes history e before.few below by_other;
      state = by_state base history e;
    }

-- the history is kept, where the room suffices and can be counted
kept_more : (passes : ℕ) (base : State) (f : Folded) (history : List Entry) (s : State) (ahead ahead' : Ahead) (editions editions' : List Edition) (room room' : ℕ) (e : Entry)
    → IsKept passes base f history s ahead editions room → HasEditions base f (history ++ e ∷ []) editions' → IsAhead f (history ++ e ∷ []) ahead' → IsSound (next s e.event)
    → IsSized (next s e.event) → length (history ++ e ∷ []) + owed_entries (next s e.event) ≤ room'
    → f.entries + length (history ++ e ∷ []) + owed_entries (next s e.event) < 2 ^ 63
    → GoesOn passes base f history e
    → IsKept passes base f (history ++ e ∷ []) (next s e.event) ahead' editions' room'
kept_more passes base f history s ahead ahead' editions editions' room room' e before has_editions counted sound sized has_room countable goes = record {
  folded = before.folded;
  is_history = goes.is_history;
  made = goes.made;
  few = goes.few;
  own = before.own;
  state_is = goes.state ∙ ap (λ (t : State). next t e.event) before.state_is;
  opened = before.opened;
  sound = sound;
  ahead_is = counted;
  has_editions = has_editions;
  sized = sized;
  has_room = has_room;
  countable = countable;
}

-- the same, where memory was found for all that may follow
pub kept_with_room : RowsChangeOneAtATime → GenerationsBeginInOrder → (passes : ℕ) (base : State) (f : Folded) (history history' : List Entry) (s s' : State) (ahead ahead' : Ahead) (editions editions' : List Edition) (room room' : ℕ) (e : Entry)
    → IsKept passes base f history s ahead editions room → editions' ≡ with_begun e.event s'.newest (f.orders + count_events is_order history + 1) editions
    → IsAhead f history' ahead' → IsStepped s s'
    → history' ≡ history ++ e ∷ [] → s' ≡ next s e.event
    → length history + room_with_event s ≤ room' → f.entries + length history + room_with_event s < 2 ^ 63
    → GoesOn passes base f history e
    → IsKept passes base f history' s' ahead' editions' room'
kept_with_room law begin passes base f history history' s s' ahead ahead' editions editions' room room' e before editions_are counted stepped history_is state_is space few goes =
    let len : length (history ++ e ∷ []) ≡ length history + 1 = length-append history (e ∷ []) in
    let sizes : HasSizesOf s (next s e.event) = subst (HasSizesOf s) state_is stepped.sizes in
    let owes = room-suffices law s e.event sizes.children in
    let has : HasEditions base f (history ++ e ∷ []) editions' =
    rw editions_are
    (editions_more begin base f history editions e s'.newest before.has_editions
    (λ begins. ap (λ (t : State). t.newest) state_is ∙ newest_by begin s e begins ∙ ap (λ (t : State). t.newest + 1) (sym before.state_is))) in
    rw (history_is, state_is)
    (kept_more passes base f history s ahead ahead' editions editions' room room' e before has (rw history_is at counted)
    (rw state_is at (stepped.sound before.sound)) (rw state_is at (stepped.sized before.sized))
    (omega (arith, len, owes, space)) (omega (arith, len, owes, few)) goes)

-- the same, where the room was taken before
pub kept_sure : GenerationsBeginInOrder → (passes : ℕ) (base : State) (f : Folded) (history history' : List Entry) (s s' : State) (ahead ahead' : Ahead) (editions : List Edition) (room room' : ℕ) (e : Entry)
    → IsKept passes base f history s ahead editions room → is_allowed s e.event ≡ true → IsAhead f history' ahead' → IsStepped s s'
    → history' ≡ history ++ e ∷ [] → s' ≡ next s e.event → is_sure e.event ≡ true → room ≤ room'
    → GoesOn passes base f history e
    → IsKept passes base f history' s' ahead' editions room'
kept_sure begin passes base f history history' s s' ahead ahead' editions room room' e before is_allowed counted stepped history_is state_is sure space goes =
    let len : length (history ++ e ∷ []) ≡ length history + 1 = length-append history (e ∷ []) in
    let owes = owed-sure s e.event is_allowed sure in
    let has = editions_same begin base f history editions e before.has_editions (sure-begins_none e.event sure) in
    rw (history_is, state_is)
    (kept_more passes base f history s ahead ahead' editions editions room room' e before has (rw history_is at counted)
    (rw state_is at (stepped.sound before.sound)) (rw state_is at (stepped.sized before.sized))
    (omega (arith, len, owes, before.has_room, space)) (omega (arith, len, owes, before.countable)) goes)

-- a history is kept in more room too
pub kept_roomier : (passes : ℕ) (base : State) (f : Folded) (history : List Entry) (s : State) (ahead : Ahead) (editions : List Edition) (room room' : ℕ)
    → IsKept passes base f history s ahead editions room → room ≤ room' → IsKept passes base f history s ahead editions room'
kept_roomier passes base f history s ahead editions room room' before more = record {
  folded = before.folded;
  is_history = before.is_history;
  made = before.made;
  few = before.few;
  own = before.own;
  state_is = before.state_is;
  opened = before.opened;
  sound = before.sound;
  ahead_is = before.ahead_is;
  has_editions = before.has_editions;
  sized = before.sized;
  has_room = omega (arith, before.has_room, more);
  countable = before.countable;
}

-- an empty history is kept, from a sound state that it leaves as it is, behind the record of nothing
pub kept_first : (slots children passes room : ℕ) (shape : Shape) (ahead : Ahead) → HaveBegun (opening_state slots children shape) (opening_record passes) → slots ≤ 8192 → children ≤ 32 → IsSound (opening_state slots children shape) → 1 ≤ room
    → HasPlacesFor passes (opening_record passes) → CountsWithin (opening_record passes)
    → EachHasItsOwn (opening_state slots children shape) (first_row (opening_record passes))
    → IsAhead (opening_record passes) [] ahead
    → IsKept passes (opening_state slots children shape) (opening_record passes) [] (opening_state slots children shape) ahead (first_edition ∷ []) room
kept_first slots children passes room shape ahead begun few_slots few_children sound space places within own counted =
    let owed : owed_entries (opening_state slots children shape) ≤ 1 =
    omega (arith, sum_by-replicate row_owes slots unused_row, sum_by-replicate child_owes children no_child) in
    record {
      folded = record { places = places; within = within };
      is_history = record { run = tt; order = λ p. refl };
      made = tt;
      few = λ p beyond. refl;
      own = own;
      state_is = refl;
      opened = sound;
      sound = sound;
      ahead_is = counted;
      has_editions = editions_first slots children passes shape begun;
      sized = record {
        rows = omega (arith, length-replicate slots unused_row, few_slots);
        children = omega (arith, length-replicate children no_child, few_children);
        signals = length-replicate slots false ∙ sym (length-replicate slots unused_row);
        moment = omega arith;
      };
      has_room = omega (arith, owed, space);
      countable = omega (arith, owed);
    }

-- what is seen of a book, for as many passes as its record has places for
abbrev pub shown_book : State → Folded → List Entry → State → SeenBook
shown_book base f history s = record { base = base; folded = f; history = history; state = s; passes = length f.ordinals }

-- the book once the entry was put at its end
pub recorded_is : (b : SeenBook) (base : State) (f : Folded) (history history' : List Entry) (s s' : State) (who : ℕ) (event : Event) (answer : Reply)
    → shown_book base f history s ≡ b
    → history' ≡ history ++ numbered_entry who event answer f history ∷ [] → s' ≡ next s event → answer ≡ reply s event
    → shown_book base f history' s' ≡ book_with_entry who event b
recorded_is b base f history history' s s' who event answer seen history_is state_is replied =
    subst (λ (v : SeenBook). shown_book base f history' s' ≡ book_with_entry who event v)
    seen (rw (history_is, state_is, replied) refl)

-- a book that isn't halted can be recorded in
pub open_if : (b : SeenBook) (s : State) (halted : Bool) → s ≡ b.state → halted ≡ is_halted s.going → halted ≡ false → IsOpen b
open_if b s halted state_is halts goes = record { going = ap (λ (t : State). is_halted t.going) (sym state_is) ∙ sym halts ∙ goes }
