use Rattle.std.proofs.Common.{◌≡◌, length, vec_capacity, subst, sym, ◌∙◌, refl}
use Rattle.conn_machine.specs.declared.event.Event.TheVariants as event
use Rattle.board.specs.Board.{SeenBoard}
use Rattle.board.specs.Layout.{conns_in}
use Rattle.board_book.specs.Decided.{IsDecided}
use Rattle.board.specs.BoardInside.{AreParts}
use Rattle.board.specs.BoardParts.{seen_board}
use Rattle.board.proofs.BoardLemmas.{may_while, there_of}
use Rattle.board.proofs.ClosedLemmas.{board_on}
use Rattle.board.proofs.EventLemmas.{answer-there}
use Rattle.board.proofs.PassLemmas.{adds_inside, has_inside}
use Rattle.board.proofs.UseLemmas.{answer-used}
use Rattle.board.proofs.board.Board.answer.Goals as goal

pub answer-requires-clause-allowed : goal.answer-requires-clause-allowed
answer-requires-clause-allowed g c =
    let inside = c.deref_mut-parts.result.now in
    let view_is : seen_board inside ≡ c.args.self.now =
    rw c.deref_mut-parts.ensures.value c.self.view_is in
    may_while _ c.args.self.now (event.Answer c.args.name c.args.ask) view_is c.requires.allowed

pub invariant_of-self-2 : goal.invariant_of-self-2
invariant_of-self-2 g c =
    let inside = c.deref_mut-parts.result.now in
    let invariant : AreParts g.N.Known.known inside =
    rw c.deref_mut-parts.ensures.value c.self.invariant in
    let view_is : seen_board inside ≡ c.args.self.now =
    rw c.deref_mut-parts.ensures.value c.self.view_is in
    let slots = inside.conns.slots in
    let conns = conns_in slots in
    let ended = inside.ended.items in
    let room = vec_capacity inside.ended in
    let e = event.Answer c.args.name c.args.ask in
    let ok = c.in_ok-note.ensures.ok in
    let may = may_while _ c.args.self.now e view_is c.requires.allowed ok.was_open.going in
    rw (ok.new_is)
    (board_on _ inside.book slots slots conns ended inside.queues inside.queues room room c.args.who e invariant ok.keeps (λ s. refl)
    (answer-there c.rows_change_one_at_a_time.ensures inside.book.state c.args.name c.args.ask conns inside.queues (length ended) room may (there_of _ inside.book slots ended inside.queues room invariant)) invariant.outside.conns
    refl (invariant.used ∙ sym (answer-used inside.book.state c.args.name c.args.ask may)))

pub returns-clause-note : goal.returns-clause-note
returns-clause-note g c =
    let inside = c.deref_mut-parts.result.now in
    let view_is : seen_board inside ≡ c.args.self.now =
    rw c.deref_mut-parts.ensures.value c.self.view_is in
    subst (λ (v : SeenBoard). IsDecided v.book.state c.args.name c.args.ask c.in_ok-note.note) view_is c.in_ok-note.ensures.note

pub answer-requires-clause-role : goal.answer-requires-clause-role
answer-requires-clause-role g c =
    let inside = c.deref_mut-parts.result.now in
    let view_is : seen_board inside ≡ c.args.self.now =
    rw c.deref_mut-parts.ensures.value c.self.view_is in
    has_inside c.args.who _ c.args.self.now c.args.name view_is c.requires.row

pub returns-clause-entries : goal.returns-clause-entries
returns-clause-entries g c =
    let inside = c.deref_mut-parts.result.now in
    let view_is : seen_board inside ≡ c.args.self.now =
    rw c.deref_mut-parts.ensures.value c.self.view_is in
    adds_inside c.args.who _ c.args.self.now _ view_is c.answer.ensures.entries
