use Rattle.std.proofs.Common.{◌≡◌, refl, vec_capacity}
use Rattle.conn_machine.specs.declared.event.Event.TheVariants as event
use Rattle.board.specs.BoardInside.{AreParts}
use Rattle.board.specs.BoardParts.{seen_board}
use Rattle.board.proofs.ClosedLemmas.{board_same, command_rows}
use Rattle.board.proofs.PassLemmas.{adds_inside}
use Rattle.board.proofs.board.Board.command.Goals as goal

pub invariant_of-self-2 : goal.invariant_of-self-2
invariant_of-self-2 g c =
    let inside = c.deref_mut-parts.result.now in
    let invariant : AreParts g.N.Known.known inside =
    rw c.deref_mut-parts.ensures.value c.self.invariant in
    rw (c.in_ok-record.ensures.ok.new_is)
    (board_same _ inside.book inside.conns.slots inside.ended.items inside.queues (vec_capacity inside.ended) c.args.who (event.Command c.args.command)
    invariant c.in_ok-record.ensures.ok.keeps (λ s. refl) (command_rows inside.book.state c.args.command))

pub returns-clause-entries : goal.returns-clause-entries
returns-clause-entries g c =
    let inside = c.deref_mut-parts.result.now in
    let view_is : seen_board inside ≡ c.args.self.now =
    rw c.deref_mut-parts.ensures.value c.self.view_is in
    adds_inside c.args.who _ c.args.self.now _ view_is c.record.ensures.entries
