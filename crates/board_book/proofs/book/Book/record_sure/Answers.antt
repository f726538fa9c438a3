use Rattle.std.proofs.Common.{◌≡◌, ◌∷◌, [], ◌+◌, ◌≤◌, ◌<◌, true, length, vec_capacity, subst, sym, refl, ap, ◌∙◌, rules, arith}
use Rattle.conn_machine.specs.Table.{is_allowed, next, reply}
use Rattle.conn_machine.specs.Runs.{after}
use Rattle.board_book.specs.Book.{SeenBook, book_with_entry, entry_of, numbered_entry}
use Rattle.board_book.specs.RoomInside.{owed_entries}
use Rattle.board_book.proofs.BookLemmas.{goes_by, kept_sure, recorded_is}
use Rattle.board_book.proofs.EditionLemmas.{keeps_on}
use Rattle.board_book.proofs.RoomLemmas.{owed-sure}
use Rattle.board_book.proofs.PassLemmas.{adds_recorded, is_own, may_be_next, role_inside, row-recorded}
use Rattle.board_book.proofs.book.Book.record_sure.Goals as goal

pub append-requires-clause-room : goal.append-requires-clause-room
append-requires-clause-room c =
    let inside = c.self.inside in
    let may = subst (λ (v : SeenBook). is_allowed v.state c.args.event ≡ true) (sym c.self.view_is) c.requires.allowed in
    let owes : owed_entries (next inside.state c.args.event) + 1 ≤ owed_entries inside.state = owed-sure inside.state c.args.event may c.requires.sure in
    let room : length inside.history.items + owed_entries inside.state ≤ vec_capacity inside.history = c.self.invariant.has_room in
    let below : length inside.history.items < vec_capacity inside.history = omega (arith, owes, room) in
    search rules

pub invariant_of-self : goal.invariant_of-self
invariant_of-self c =
    let inside = c.self.inside in
    let may = subst (λ (v : SeenBook). is_allowed v.state c.args.event ≡ true) (sym c.self.view_is) c.requires.allowed in
    let base = inside.base.value in
    let history = inside.history.items in
    let folded = inside.folded in
    let passes = length folded.ordinals in
    let e = numbered_entry c.args.who c.args.event c.in-Ok.reply folded history in
    let role = role_inside c.args.who _ c.args.self.now c.args.event c.self.view_is c.requires.role in
    let below : c.args.who < passes = search rules in
    let goes_on = c.histories_go_on_by_one_entry.ensures in
    kept_sure c.generations_begin_in_order.ensures passes base folded history c.append.new.history.items inside.state c.step.new.state inside.ahead
    c.append.new.ahead inside.editions.items.items (vec_capacity inside.history) (vec_capacity c.append.new.history)
    e c.self.invariant may c.append.ensures.ahead
    (record { sound = c.step.ensures.sound; sizes = c.step.ensures.sizes; sized = c.step.ensures.sized })
    c.append.ensures.history c.in-Ok.ensures.state c.requires.sure c.append.ensures.room
    (goes_by passes base folded history inside.state inside.ahead inside.editions.items.items (vec_capacity inside.history) e c.self.invariant below may c.in-Ok.ensures.reply
    refl role goes_on.state goes_on.history goes_on.made goes_on.other)

pub returns-clause-entries : goal.returns-clause-entries
returns-clause-entries c =
    let inside = c.self.inside in
    let b = c.args.self.now in
    let state_is = subst (λ (v : SeenBook). after v.base v.history ≡ v.state) c.self.view_is c.self.invariant.state_is in
    adds_recorded c.args.who c.args.event b _
    (recorded_is b inside.base.value inside.folded inside.history.items c.append.new.history.items inside.state c.step.new.state c.args.who
    c.args.event c.in-Ok.reply c.self.view_is c.append.ensures.history c.in-Ok.ensures.state c.in-Ok.ensures.reply)
    (c.passes_add_entries.ensures.one c.args.who b.base b.folded b.history (entry_of c.args.who c.args.event b)
    (may_be_next c.args.who b c.args.event state_is c.requires.allowed c.requires.role))

pub returns-clause-row : goal.returns-clause-row
returns-clause-row c =
    let inside = c.self.inside in
    let b = c.args.self.now in
    row-recorded c.args.who c.args.event c.in-Ok.reply b _
    (recorded_is b inside.base.value inside.folded inside.history.items c.append.new.history.items inside.state c.step.new.state c.args.who
    c.args.event c.in-Ok.reply c.self.view_is c.append.ensures.history c.in-Ok.ensures.state c.in-Ok.ensures.reply)
    (c.in-Ok.ensures.reply ∙ ap (λ (v : SeenBook). reply v.state c.args.event) c.self.view_is)
    (c.histories_go_on_by_one_entry.ensures.row b.folded c.args.who b.history (entry_of c.args.who c.args.event b) (is_own c.args.who c.args.event b))

pub returns-clause-keeps : goal.returns-clause-keeps
returns-clause-keeps c =
    let b = c.args.self.now in
    keeps_on c.generations_begin_in_order.ensures b (book_with_entry c.args.who c.args.event b) (entry_of c.args.who c.args.event b ∷ []) refl refl refl
