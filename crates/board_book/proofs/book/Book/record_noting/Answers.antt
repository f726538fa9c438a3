use Rattle.std.proofs.Common.{◌≡◌, List, ◌∷◌, [], ◌+◌, ◌<◌, ◌≤◌, ◌^◌, true, false, length, vec_capacity, subst, sym, refl, ◌∙◌, ap, rules, arith}
use Rattle.conn_machine.specs.States.{is_halted}
use Rattle.conn_machine.specs.declared.state.State.{State}
use Rattle.conn_machine.specs.Table.{is_allowed, note_made, reply}
use Rattle.conn_machine.specs.declared.event.Entry.{Entry}
use Rattle.conn_machine.specs.Events.{count_events, is_order}
use Rattle.conn_machine.specs.Runs.{Adds, after}
use Rattle.board_book.specs.Book.{SeenBook, book_with_entry, entry_of, numbered_entry}
use Rattle.board_book.specs.EditionsInside.{with_begun}
use Rattle.board_book.specs.RoomInside.{room_with_event}
use Rattle.board_book.proofs.BookLemmas.{goes_by, kept_roomier, kept_with_room, open_if, recorded_is}
use Rattle.board_book.proofs.EditionLemmas.{keeps_on}
use Rattle.board_book.proofs.PassLemmas.{adds_nothing, adds_recorded, is_own, may_be_next, role_inside, row-recorded}
use Rattle.board_book.proofs.book.Book.record_noting.Goals.{then-saturating_add-most-via-then-saturating_add-most, then-saturating_add-most-via-else-saturating_add-most+then-is_err, then-saturating_add-most-via-else-saturating_add-most+else-is_err+then-is_err-2}
use Rattle.board_book.proofs.book.Book.record_noting.Goals as goal

pub room_with_event-room-requires-clause-few_rows : goal.room_with_event-room-requires-clause-few_rows
room_with_event-room-requires-clause-few_rows c =
    rw c.state-2.ensures (subst (λ (v : SeenBook). length v.state.rows ≤ 8192) c.self.view_is c.self.invariant.sized.rows)

pub room_with_event-room-requires-clause-few_children : goal.room_with_event-room-requires-clause-few_children
room_with_event-room-requires-clause-few_children c =
    rw c.state-2.ensures (subst (λ (v : SeenBook). length v.state.children ≤ 32) c.self.view_is c.self.invariant.sized.children)

pub overflow_sub-most : goal.overflow_sub-most
overflow_sub-most c = omega (arith, c.self.invariant.countable)

pub step_and_note-requires-clause-few_rows : goal.step_and_note-requires-clause-few_rows
step_and_note-requires-clause-few_rows c = c.self.invariant.sized.rows

pub step_and_note-requires-clause-few_children : goal.step_and_note-requires-clause-few_children
step_and_note-requires-clause-few_children c = c.self.invariant.sized.children

pub step_and_note-requires-clause-signals : goal.step_and_note-requires-clause-signals
step_and_note-requires-clause-signals c = c.self.invariant.sized.signals

pub orders-order-requires : goal.orders-order-requires
orders-order-requires c = rw (c.as_slice.ensures.value, c.reserve.ensures.items) c.self.invariant.ahead_is

pub append-requires-clause-who : goal.append-requires-clause-who
append-requires-clause-who c = subst (λ (v : SeenBook). c.args.who < v.passes) (sym c.self.view_is) c.requires.who

pub append-requires-clause-places : goal.append-requires-clause-places
append-requires-clause-places c = c.self.invariant.folded.places

pub append-requires-clause-within : goal.append-requires-clause-within
append-requires-clause-within c = c.self.invariant.folded.within

pub append-requires-clause-countable : goal.append-requires-clause-countable
append-requires-clause-countable c = rw c.reserve.ensures.items (omega (arith, c.self.invariant.countable))

pub append-requires-clause-ahead : goal.append-requires-clause-ahead
append-requires-clause-ahead c = rw c.reserve.ensures.items c.self.invariant.ahead_is

pub step_and_note-requires-clause-allowed : goal.step_and_note-requires-clause-allowed
step_and_note-requires-clause-allowed c =
    let going : is_halted c.args.self.now.state.going ≡ false =
    ap (λ (s : State). is_halted s.going) (sym c.state.ensures) ∙ sym c.is_halted.ensures ∙ c.if-is_halted.false in
    subst (λ (v : SeenBook). is_allowed v.state c.args.event ≡ true) (sym c.self.view_is) (c.requires.allowed going)

pub invariant_of-self-2 : goal.invariant_of-self-2
invariant_of-self-2 c =
    let inside = c.self.inside in
    let going : is_halted c.args.self.now.state.going ≡ false =
    ap (λ (s : State). is_halted s.going) (sym c.state.ensures) ∙ sym c.is_halted.ensures ∙ c.if-is_halted.false in
    let may = subst (λ (v : SeenBook). is_allowed v.state c.args.event ≡ true) (sym c.self.view_is) (c.requires.allowed going) in
    let space : length inside.history.items + room_with_event inside.state ≤ vec_capacity c.append.new.history = search rules in
    let room : c.room_with_event-room.result ≡ room_with_event inside.state =
    c.room_with_event-room.ensures ∙ ap room_with_event c.state-2.ensures ∙ ap (λ (v : SeenBook). room_with_event v.state) (sym c.self.view_is) in
    let few : inside.folded.entries + length inside.history.items + room_with_event inside.state < 2 ^ 63 =
    omega (arith, c.if-saturating_add-most.false, c.saturating_add.ensures, c.len.ensures, room, c.self.invariant.countable) in
    let base = inside.base.value in
    let history = inside.history.items in
    let folded = inside.folded in
    let passes = length folded.ordinals in
    let e = numbered_entry c.args.who c.args.event c.in-Ok.stepped.reply folded history in
    let role = role_inside c.args.who _ c.args.self.now c.args.event c.self.view_is c.requires.role in
    let below : c.args.who < passes = search rules in
    let goes_on = c.histories_go_on_by_one_entry.ensures in
    let editions = inside.editions.items.items in
    let editions_are : c.add.new.self.items.items ≡ with_begun c.args.event c.step_and_note.new.state.newest (folded.orders + count_events is_order history + 1) editions =
    search rules in
    kept_with_room c.rows_change_one_at_a_time.ensures c.generations_begin_in_order.ensures passes base folded history c.append.new.history.items inside.state c.step_and_note.new.state inside.ahead
    c.append.new.ahead editions c.add.new.self.items.items (vec_capacity inside.history) (vec_capacity c.append.new.history)
    e c.self.invariant editions_are c.append.ensures.ahead
    (record { sound = c.step_and_note.ensures.sound; sizes = c.step_and_note.ensures.sizes; sized = c.step_and_note.ensures.sized })
    (rw c.reserve.ensures.items at c.append.ensures.history) c.in-Ok.ensures.state space few
    (goes_by passes base folded history inside.state inside.ahead editions (vec_capacity inside.history) e c.self.invariant below may c.in-Ok.ensures.reply
    refl role goes_on.state goes_on.history goes_on.made goes_on.other)

pub returns-clause-ok : goal.returns-clause-ok
returns-clause-ok c =
    let inside = c.self.inside in
    record {
      was_open = open_if c.args.self.now c.state.result.now c.is_halted.result c.state.ensures c.is_halted.ensures c.if-is_halted.false;
      new_is = recorded_is c.args.self.now inside.base.value inside.folded inside.history.items c.append.new.history.items inside.state c.step_and_note.new.state
          c.args.who c.args.event c.in-Ok.stepped.reply c.self.view_is (rw c.reserve.ensures.items at c.append.ensures.history) c.in-Ok.ensures.state
          c.in-Ok.ensures.reply;
      keeps = keeps_on c.generations_begin_in_order.ensures c.args.self.now (book_with_entry c.args.who c.args.event c.args.self.now)
          (entry_of c.args.who c.args.event c.args.self.now ∷ []) refl refl refl;
    }

pub returns-clause-reply : goal.returns-clause-reply
returns-clause-reply c =
    c.in-Ok.ensures.reply ∙ ap (λ (v : SeenBook). reply v.state c.args.event) c.self.view_is

pub returns-clause-note : goal.returns-clause-note
returns-clause-note c =
    c.in-Ok.ensures.note ∙ ap (λ (v : SeenBook). note_made v.state c.args.event) c.self.view_is

pub returns-clause-entries : goal.returns-clause-entries
returns-clause-entries c =
    let inside = c.self.inside in
    let b = c.args.self.now in
    let going : is_halted b.state.going ≡ false = ap (λ (s : State). is_halted s.going) (sym c.state.ensures) ∙ sym c.is_halted.ensures ∙ c.if-is_halted.false in
    let state_is = subst (λ (v : SeenBook). after v.base v.history ≡ v.state) c.self.view_is c.self.invariant.state_is in
    adds_recorded c.args.who c.args.event b _
    (recorded_is b inside.base.value inside.folded inside.history.items c.append.new.history.items inside.state c.step_and_note.new.state c.args.who
    c.args.event c.in-Ok.stepped.reply c.self.view_is (rw c.reserve.ensures.items at c.append.ensures.history) c.in-Ok.ensures.state
    c.in-Ok.ensures.reply)
    (c.passes_add_entries.ensures.one c.args.who b.base b.folded b.history (entry_of c.args.who c.args.event b)
    (may_be_next c.args.who b c.args.event state_is (c.requires.allowed going) c.requires.role))

pub returns-clause-row : goal.returns-clause-row
returns-clause-row c =
    let inside = c.self.inside in
    let b = c.args.self.now in
    row-recorded c.args.who c.args.event c.in-Ok.stepped.reply b _
    (recorded_is b inside.base.value inside.folded inside.history.items c.append.new.history.items inside.state c.step_and_note.new.state c.args.who
    c.args.event c.in-Ok.stepped.reply c.self.view_is (rw c.reserve.ensures.items at c.append.ensures.history) c.in-Ok.ensures.state
    c.in-Ok.ensures.reply)
    (c.in-Ok.ensures.reply ∙ ap (λ (v : SeenBook). reply v.state c.args.event) c.self.view_is)
    (c.histories_go_on_by_one_entry.ensures.row b.folded c.args.who b.history (entry_of c.args.who c.args.event b) (is_own c.args.who c.args.event b))

pub returns-then-saturating_add-most-clause-entries : goal.returns-then-saturating_add-most-clause-entries
returns-then-saturating_add-most-clause-entries c =
    let b = c.args.self.now in
    let new = c.then-saturating_add-most.self in
    let none = c.passes_add_entries.ensures.none c.args.who b.base b.folded b.history in
    elim c.then-saturating_add-most.branch [
      | then-saturating_add-most-via-then-saturating_add-most w ↦ adds_nothing c.args.who b new w.self-is none
      | then-saturating_add-most-via-else-saturating_add-most+then-is_err w ↦ adds_nothing c.args.who b new (w.self-is ∙ c.self.view_is) none
      | then-saturating_add-most-via-else-saturating_add-most+else-is_err+then-is_err-2 w ↦
          adds_nothing c.args.who b new (w.self-is ∙ rw w.reserve.ensures.items c.self.view_is) none
    ]

pub invariant_of-self-in_default : goal.invariant_of-self-in_default
invariant_of-self-in_default c =
    let inside = c.self.inside in
    rw (c.in_default.ensures.err, c.reserve.ensures.items, c.reserve_for.ensures.same)
    (kept_roomier (length inside.folded.ordinals) inside.base.value inside.folded inside.history.items inside.state inside.ahead inside.editions.items.items
    (vec_capacity inside.history) (vec_capacity c.reserve.new.self) c.self.invariant c.reserve.ensures.capacity)

pub returns-in_default-clause-entries : goal.returns-in_default-clause-entries
returns-in_default-clause-entries c =
    let b = c.args.self.now in
    subst (λ (h : List Entry). Adds c.args.who b.base b.folded b.history h) (sym (c.reserve.ensures.items ∙ ap (λ (v : SeenBook). v.history) c.self.view_is))
    (c.passes_add_entries.ensures.none c.args.who b.base b.folded b.history)
