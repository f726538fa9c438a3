use Rattle.std.proofs.Common.{◌≡◌, ◌∙◌, subst, rules}
use Rattle.board.specs.Board.{SeenBoard}
use Rattle.board.specs.BoardInside.{AreParts}
use Rattle.board.specs.BoardParts.{seen_board}
use Rattle.board_book.specs.Finds.{next_deadline_of, waiting_deadlines}
use Rattle.board.proofs.QueueLemmas.{least_waiting}
use Rattle.board.proofs.board.Board.next_deadline.Goals as goal

pub returns : goal.returns
returns g c =
    let inside = c.deref-parts.result.now in
    let invariant : AreParts g.N.Known.known inside = rw c.deref-parts.ensures c.self.invariant in
    let view_is : seen_board inside ≡ c.args.self.now = rw c.deref-parts.ensures c.self.view_is in
    let rows = inside.book.state.rows in
    let least = c.least_with_ending.ensures (waiting_deadlines rows)
    (c.next_deadline.ensures ∙ least_waiting inside.queues rows invariant.queued) in
    subst (λ (v : SeenBoard). c.least_with_ending.result ≡ next_deadline_of v.book.state) view_is (search (rules, least))
