use Rattle.listener_turns.proofs.LookLemmas.{busy_live, found_live}
use Rattle.listener_turns.proofs.looks.has_live.Goals as goal

pub returns-then-not-quiet : goal.returns-then-not-quiet
returns-then-not-quiet g c = busy_live c.args.board.now.book.state c.quiet.result c.quiet.ensures c.if-not-quiet.true

pub returns-else-not-quiet : goal.returns-else-not-quiet
returns-else-not-quiet g c =
    found_live c.args.board.now.book.state c.parked.result c.quiet.result c.is_some.result c.quiet.ensures c.if-not-quiet.false c.parked.ensures
    c.is_some.ensures
