use Rattle.std.proofs.Common.{◌≡◌, length, vec_capacity, subst, sym, ◌∙◌, refl}
use Rattle.conn_machine.specs.declared.event.Event.TheVariants as event
use Rattle.board_book.specs.Book.{SeenBook}
use Rattle.board.specs.Fits.{IsTakenUp}
use Rattle.board.specs.Board.{SeenBoard}
use Rattle.board.specs.Layout.{conns_in}
use Rattle.board.specs.BoardInside.{AreParts}
use Rattle.board.specs.BoardParts.{seen_board}
use Rattle.board.proofs.BoardLemmas.{may_inside, there_of}
use Rattle.board.proofs.ClosedLemmas.{board_on}
use Rattle.board.proofs.EventLemmas.{start-there}
use Rattle.board.proofs.HandLemmas.{start-taken}
use Rattle.board.proofs.PassLemmas.{adds_inside, has_inside}
use Rattle.board.proofs.UseLemmas.{start-used}
use Rattle.board.proofs.board.Board.start.Goals as goal

pub record_sure-requires-clause-role : goal.record_sure-requires-clause-role
record_sure-requires-clause-role g c =
    let inside = c.deref_mut-parts.result.now in
    let view_is : seen_board inside ≡ c.args.self.now =
    rw c.deref_mut-parts.ensures.value c.self.view_is in
    has_inside c.args.who _ c.args.self.now c.args.name view_is c.requires.row

pub invariant_of-self : goal.invariant_of-self
invariant_of-self g c =
    let inside = c.deref_mut-parts.result.now in
    let invariant : AreParts g.N.Known.known inside =
    rw c.deref_mut-parts.ensures.value c.self.invariant in
    let view_is : seen_board inside ≡ c.args.self.now =
    rw c.deref_mut-parts.ensures.value c.self.view_is in
    let may = may_inside _ c.args.self.now (event.Start c.args.name) view_is c.requires.allowed in
    let slots = inside.conns.slots in
    let conns = conns_in slots in
    let ended = inside.ended.items in
    let room = vec_capacity inside.ended in
    rw (c.record_sure.ensures.is)
    (board_on _ inside.book slots slots conns ended inside.queues inside.queues room room c.args.who (event.Start c.args.name) invariant c.record_sure.ensures.keeps (λ s. refl)
    (start-there c.rows_change_one_at_a_time.ensures inside.book.state c.args.name conns inside.queues (length ended) room may (there_of _ inside.book slots ended inside.queues room invariant)) invariant.outside.conns
    refl (invariant.used ∙ sym (start-used inside.book.state c.args.name may)))

pub returns-clause-handed : goal.returns-clause-handed
returns-clause-handed g c x taken =
    let inside = c.deref_mut-parts.result.now in
    let view_is : seen_board inside ≡ c.args.self.now =
    rw c.deref_mut-parts.ensures.value c.self.view_is in
    let may = may_inside _ c.args.self.now (event.Start c.args.name) view_is c.requires.allowed in
    subst (λ (b : SeenBook). IsTakenUp b.state x) (sym c.record_sure.ensures.is)
    (start-taken c.rows_change_one_at_a_time.ensures inside.book.state c.args.name x may (subst (λ (v : SeenBoard). IsTakenUp v.book.state x) (sym view_is) taken))

pub returns-clause-entries : goal.returns-clause-entries
returns-clause-entries g c =
    let inside = c.deref_mut-parts.result.now in
    let view_is : seen_board inside ≡ c.args.self.now =
    rw c.deref_mut-parts.ensures.value c.self.view_is in
    adds_inside c.args.who _ c.args.self.now _ view_is c.record_sure.ensures.entries
