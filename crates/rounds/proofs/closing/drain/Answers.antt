use Rattle.std.proofs.Common.{◌≡◌, [], ◌∷◌, None, Some, ap, inl, inr, refl, sym, subst, ◌∙◌}
use Rattle.std.proofs.lemmas.Result.{on_ok_weaker}
use Rattle.mpm_base.specs.declared.conn.ConnName.{ConnName}
use Rattle.conn_machine.specs.Rows.{live_row}
use Rattle.conn_state.specs.Reader.{SeenReader}
use Rattle.conn_machine.specs.Table.{held_row, next}
use Rattle.conn_machine.specs.declared.event.Event.TheVariants as event
use Rattle.board_book.specs.declared.faults.BoardFault.{BoardFault}
use Rattle.board_book.specs.Book.{SeenBook}
use Rattle.board.specs.Board.{SeenBoard}
use Rattle.board_book.specs.Faults.{IsRefusedFor}
use Rattle.board_book.specs.Finds.{has_to_be_drained}
use Rattle.worker_group.specs.declared.service.Exit.TheVariants as exit
use Rattle.worker_group.specs.Acts.{Acts}
use Rattle.conn_state.specs.declared.turn.LingerTurn.{LingerTurn}
use Rattle.conn_state.specs.declared.turn.LingerTurn.TheVariants as left
use Rattle.rounds.specs.ClosingInside.{GivesUpDrained, IsDrainedWay, lingering_give_up_events, tail_of}
use Rattle.rounds.proofs.ClosingLemmas.{held-acts, let-go, refused-wait}
use Rattle.rounds.proofs.SameEditionLemmas.{edition-same}
use Rattle.rounds.proofs.HeldLemmas.{backs-turned, closes-turned, held-lingering, holding, lingers-by, lingers-turned, may-wait_on, waited-for, was-at}
use Rattle.rounds.proofs.LeavingLemmas.{row-cause, to-drain}
use Rattle.rounds.proofs.MeasureLemmas.{deadline-later, drained-closed, drained-parked, later-than, none-after_close, none-after_park}
use Rattle.rounds.proofs.ActLemmas.{if-err-both}
use Rattle.rounds.proofs.FoundLemmas.{lives}
use Rattle.rounds.proofs.closing.drain.Goals as goal

-- a turn behind which a connection isn't closed found nothing yet
not-ready : (answer : LingerTurn) → tail_of answer ≡ None → answer ≡ left.NotReady
not-ready left.Drained none = absurd (cc)
not-ready left.Sated none = absurd (cc)
not-ready left.NotReady none = refl
not-ready left.LinkFailed none = absurd (cc)

pub close-requires-clause-may : goal.close-requires-clause-may
close-requires-clause-may g c =
    let s = c.args.board.now.book.state in
    let s' = c.hold-conn.new.self.book.state in
    let conn' = c.linger_turn.new.self in
    let is = to-drain s c.args.name c.requires.lingers in
    let held = ap (λ (b : SeenBoard). b.book.state) c.hold-conn.ensures.is in
    let holds = holding c.rows_change_one_at_a_time.ensures.there s s' c.args.name _ c.hold-conn.result is.found held c.hold-conn.ensures.name c.hold-conn.ensures.handed c.hold-conn.ensures.way in
    let why = c.in-Some-Some.cause in
    let some = row-cause s c.args.name _ (Some why) is.found (sym c.cause.ensures ∙ c.in-Some-Some.is-0) in
    let lingering = held-lingering s s' c.args.name _ c.hold-conn.result why holds some in
    let turned =
    lingers-turned c.waits_are_backed_by_calls.ensures s' why c.hold-conn.result conn' c.linger_turn.result lingering c.linger_turn.ensures
    (c.lingering_connections_keep_their_cause.ensures.linger_turn c.hold-conn.result conn' c.linger_turn.result why c.linger_turn.ensures lingering.shows) in
    closes-turned s' why c.hold-conn.result conn' c.linger_turn.result c.in-Some.tail turned c.linger_turn.ensures (sym c.tail_of.ensures ∙ c.in-Some.is)

pub close-requires-clause-edition : goal.close-requires-clause-edition
close-requires-clause-edition g c =
    let turned = c.linger_turn.ensures in
    edition-same g.N.Known.known c.hold-conn.new.self.book _ _ _ _ _ _ turned.generation (ap (λ (r : SeenReader). r.limits) turned.reader) turned.site
    c.hold-conn.ensures.edition

pub linger_on-requires-clause-edition : goal.linger_on-requires-clause-edition
linger_on-requires-clause-edition g c =
    let turned = c.linger_turn.ensures in
    edition-same g.N.Known.known c.hold-conn.new.self.book _ _ _ _ _ _ turned.generation (ap (λ (r : SeenReader). r.limits) turned.reader) turned.site
    c.hold-conn.ensures.edition

pub linger_on-requires-clause-lingers : goal.linger_on-requires-clause-lingers
linger_on-requires-clause-lingers g c =
    let s = c.args.board.now.book.state in
    let s' = c.hold-conn.new.self.book.state in
    let conn' = c.linger_turn.new.self in
    let is = to-drain s c.args.name c.requires.lingers in
    let held = ap (λ (b : SeenBoard). b.book.state) c.hold-conn.ensures.is in
    let holds = holding c.rows_change_one_at_a_time.ensures.there s s' c.args.name _ c.hold-conn.result is.found held c.hold-conn.ensures.name c.hold-conn.ensures.handed c.hold-conn.ensures.way in
    let why = c.in-Some-Some.cause in
    let some = row-cause s c.args.name _ (Some why) is.found (sym c.cause.ensures ∙ c.in-Some-Some.is-0) in
    let lingering = held-lingering s s' c.args.name _ c.hold-conn.result why holds some in
    let turned =
    lingers-turned c.waits_are_backed_by_calls.ensures s' why c.hold-conn.result conn' c.linger_turn.result lingering c.linger_turn.ensures
    (c.lingering_connections_keep_their_cause.ensures.linger_turn c.hold-conn.result conn' c.linger_turn.result why c.linger_turn.ensures lingering.shows) in
    turned

pub linger_on-requires-clause-backed : goal.linger_on-requires-clause-backed
linger_on-requires-clause-backed g c =
    let s = c.args.board.now.book.state in
    let s' = c.hold-conn.new.self.book.state in
    let conn' = c.linger_turn.new.self in
    let is = to-drain s c.args.name c.requires.lingers in
    let held = ap (λ (b : SeenBoard). b.book.state) c.hold-conn.ensures.is in
    let holds = holding c.rows_change_one_at_a_time.ensures.there s s' c.args.name _ c.hold-conn.result is.found held c.hold-conn.ensures.name c.hold-conn.ensures.handed c.hold-conn.ensures.way in
    let why = c.in-Some-Some.cause in
    let some = row-cause s c.args.name _ (Some why) is.found (sym c.cause.ensures ∙ c.in-Some-Some.is-0) in
    let lingering = held-lingering s s' c.args.name _ c.hold-conn.result why holds some in
    let waits = waited-for s c.args.name _ c.in-Some-Some.kind c.show.ensures.sound is.found (sym c.kind.ensures ∙ c.in-Some-Some.is-1) in
    backs-turned c.waits_are_backed_by_calls.ensures s' why c.hold-conn.result conn' c.linger_turn.result c.in-Some-Some.kind lingering c.linger_turn.ensures
    (not-ready c.linger_turn.result (sym c.tail_of.ensures ∙ c.in-None.is)) (lingers-by c.in-Some-Some.kind _ why waits some)

pub linger_on-requires-clause-kind : goal.linger_on-requires-clause-kind
linger_on-requires-clause-kind g c =
    let s = c.args.board.now.book.state in
    let is = to-drain s c.args.name c.requires.lingers in
    let why = c.in-Some-Some.cause in
    let some = row-cause s c.args.name _ (Some why) is.found (sym c.cause.ensures ∙ c.in-Some-Some.is-0) in
    let waits = waited-for s c.args.name _ c.in-Some-Some.kind c.show.ensures.sound is.found (sym c.kind.ensures ∙ c.in-Some-Some.is-1) in
    lingers-by c.in-Some-Some.kind _ why waits some

pub linger_on-requires-clause-allowed : goal.linger_on-requires-clause-allowed
linger_on-requires-clause-allowed g c going =
    let s = c.args.board.now.book.state in
    let s' = c.hold-conn.new.self.book.state in
    let conn' = c.linger_turn.new.self in
    let is = to-drain s c.args.name c.requires.lingers in
    let held = ap (λ (b : SeenBoard). b.book.state) c.hold-conn.ensures.is in
    let holds = holding c.rows_change_one_at_a_time.ensures.there s s' c.args.name _ c.hold-conn.result is.found held c.hold-conn.ensures.name c.hold-conn.ensures.handed c.hold-conn.ensures.way in
    let why = c.in-Some-Some.cause in
    let some = row-cause s c.args.name _ (Some why) is.found (sym c.cause.ensures ∙ c.in-Some-Some.is-0) in
    let waits = waited-for s c.args.name _ c.in-Some-Some.kind c.show.ensures.sound is.found (sym c.kind.ensures ∙ c.in-Some-Some.is-1) in
    let row = (lives (has_to_be_drained s c.args.name.slot) s.rows c.args.name c.requires.lingers).row in
    may-wait_on s s' c.args.name conn'.name row c.in-Some-Some.kind why held
    (subst (λ (n : ConnName). live_row s'.rows n ≡ Some (held_row row)) (sym c.linger_turn.ensures.name) holds.held.found) waits some
    (later-than s.moment row.deadline (deadline-later s c.args.name.slot row (was-at s s' c.args.name _ c.hold-conn.result holds) is.waits c.requires.none_late)) going

pub returns-in-Some-clause-drains : goal.returns-in-Some-clause-drains
returns-in-Some-clause-drains g c =
    let way = exit.Close c.in-Some-Some.cause c.in-Some.tail in
    let-go c.passes_act_in_steps.ensures.acts IsDrainedWay way c.args.name c.linger_turn.new.self.name c.args.board.now.book c.hold-conn.new.self.book c.close.new.board.book
    (inr (record {
      why = c.in-Some-Some.cause;
      how = c.in-Some.tail;
      turn = c.linger_turn.result;
      shown = sym c.tail_of.ensures ∙ c.in-Some.is;
      way_is = refl;
    }))
    (held-acts c.passes_act_in_steps.ensures.acts c.args.name _ c.args.board.now c.hold-conn.new.self c.hold-conn.ensures.is c.hold-conn.ensures.entries c.hold-conn.ensures.row)
    (c.linger_turn.ensures.name ∙ c.hold-conn.ensures.name) c.close.ensures.acts

pub returns-in-Some-clause-fewer : goal.returns-in-Some-clause-fewer
returns-in-Some-clause-fewer g c =
    let s = c.args.board.now.book.state in
    let is = to-drain s c.args.name c.requires.lingers in
    drained-closed s c.hold-conn.new.self.book.state c.close.new.board.book.state c.args.name c.linger_turn.new.self.name c.in-Some-Some.cause c.in-Some.tail _
    is.found is.lingers is.came (ap (λ (b : SeenBoard). b.book.state) c.hold-conn.ensures.is) (c.linger_turn.ensures.name ∙ c.hold-conn.ensures.name)
    (ap (λ (b : SeenBook). b.state) c.close.ensures.closed)

pub returns-in-Some-clause-none_late : goal.returns-in-Some-clause-none_late
returns-in-Some-clause-none_late g c =
    let law = c.rows_change_one_at_a_time.ensures in
    let s = c.args.board.now.book.state in
    let is = to-drain s c.args.name c.requires.lingers in
    none-after_close (record { there = law.there; kept = law.kept; more = law.more; none = law.none })
    s c.hold-conn.new.self.book.state c.close.new.board.book.state c.args.name c.linger_turn.new.self.name c.in-Some-Some.cause c.in-Some.tail _
    is.found c.requires.none_late (ap (λ (b : SeenBoard). b.book.state) c.hold-conn.ensures.is) (c.linger_turn.ensures.name ∙ c.hold-conn.ensures.name)
    (ap (λ (b : SeenBook). b.state) c.close.ensures.closed)

pub returns-in-None-clause-drains : goal.returns-in-None-clause-drains
returns-in-None-clause-drains g c =
    let s = c.args.board.now.book.state in
    let is = to-drain s c.args.name c.requires.lingers in
    let why = c.in-Some-Some.cause in
    let some = row-cause s c.args.name _ (Some why) is.found (sym c.cause.ensures ∙ c.in-Some-Some.is-0) in
    let waits = waited-for s c.args.name _ c.in-Some-Some.kind c.show.ensures.sound is.found (sym c.kind.ensures ∙ c.in-Some-Some.is-1) in
    on_ok_weaker c.linger_on.result
    (λ (parked : Acts 0 (event.Park c.linger_turn.new.self.name c.in-Some-Some.kind ∷ []) None c.hold-conn.new.self.book c.linger_on.new.board.book).
    let-go c.passes_act_in_steps.ensures.acts IsDrainedWay (exit.Park c.in-Some-Some.kind) c.args.name c.linger_turn.new.self.name c.args.board.now.book c.hold-conn.new.self.book
    c.linger_on.new.board.book
    (inl (record { kind = c.in-Some-Some.kind; lingers = lingers-by c.in-Some-Some.kind _ why waits some; way_is = refl }))
    (held-acts c.passes_act_in_steps.ensures.acts c.args.name _ c.args.board.now c.hold-conn.new.self c.hold-conn.ensures.is c.hold-conn.ensures.entries c.hold-conn.ensures.row)
    (c.linger_turn.ensures.name ∙ c.hold-conn.ensures.name) parked)
    c.linger_on.ensures.parked

pub returns-in-None-clause-until : goal.returns-in-None-clause-until
returns-in-None-clause-until g c =
    if-err-both c.linger_on.result
    (λ (fault : BoardFault). IsRefusedFor fault c.hold-conn.new.self.book)
    (λ (fault : BoardFault). Acts 0 (lingering_give_up_events fault c.in-Some-Some.cause c.linger_turn.new.self.name) None c.hold-conn.new.self.book c.linger_on.new.board.book)
    (λ (fault : BoardFault). GivesUpDrained fault c.args.board.now.book c.linger_on.new.board.book)
    (λ fault why given. refused-wait c.args.name c.linger_turn.new.self.name c.in-Some-Some.cause fault c.args.board.now.book c.hold-conn.new.self.book
    c.linger_on.new.board.book
    (held-acts c.passes_act_in_steps.ensures.acts c.args.name _ c.args.board.now c.hold-conn.new.self c.hold-conn.ensures.is c.hold-conn.ensures.entries c.hold-conn.ensures.row)
    c.show_state.ensures.after (c.linger_turn.ensures.name ∙ c.hold-conn.ensures.name) why given)
    c.linger_on.ensures.why c.linger_on.ensures.given_up

pub returns-in-None-clause-fewer : goal.returns-in-None-clause-fewer
returns-in-None-clause-fewer g c =
    let s = c.args.board.now.book.state in
    let is = to-drain s c.args.name c.requires.lingers in
    on_ok_weaker c.linger_on.result
    (λ (parked : c.linger_on.new.board.book.state ≡ next c.hold-conn.new.self.book.state (event.Park c.linger_turn.new.self.name c.in-Some-Some.kind)).
    drained-parked s c.hold-conn.new.self.book.state c.linger_on.new.board.book.state c.args.name c.linger_turn.new.self.name c.in-Some-Some.kind _ is.found
    is.lingers is.came (ap (λ (b : SeenBoard). b.book.state) c.hold-conn.ensures.is) (c.linger_turn.ensures.name ∙ c.hold-conn.ensures.name) parked)
    c.linger_on.ensures.state

pub returns-in-None-clause-none_late : goal.returns-in-None-clause-none_late
returns-in-None-clause-none_late g c =
    let law = c.rows_change_one_at_a_time.ensures in
    let s = c.args.board.now.book.state in
    let is = to-drain s c.args.name c.requires.lingers in
    let why = c.in-Some-Some.cause in
    let some = row-cause s c.args.name _ (Some why) is.found (sym c.cause.ensures ∙ c.in-Some-Some.is-0) in
    let waits = waited-for s c.args.name _ c.in-Some-Some.kind c.show.ensures.sound is.found (sym c.kind.ensures ∙ c.in-Some-Some.is-1) in
    on_ok_weaker c.linger_on.result
    (λ (parked : c.linger_on.new.board.book.state ≡ next c.hold-conn.new.self.book.state (event.Park c.linger_turn.new.self.name c.in-Some-Some.kind)).
    none-after_park (record { there = law.there; kept = law.kept; more = law.more; none = law.none })
    s c.hold-conn.new.self.book.state c.linger_on.new.board.book.state c.args.name c.linger_turn.new.self.name c.in-Some-Some.kind _ is.found
    is.waits (lingers-by c.in-Some-Some.kind _ why waits some) c.requires.none_late (ap (λ (b : SeenBoard). b.book.state) c.hold-conn.ensures.is)
    (c.linger_turn.ensures.name ∙ c.hold-conn.ensures.name) parked)
    c.linger_on.ensures.state
