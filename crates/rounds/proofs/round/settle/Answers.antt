use Rattle.std.proofs.Common.{subst, sym, refl}
use Rattle.worker_group.specs.Service.{LeavesRest}
use Rattle.rounds.proofs.round.settle.Goals as goal

pub returns-then-watched-clause-left : goal.returns-then-watched-clause-left
returns-then-watched-clause-left g c = rw c.if-watched.true c.park.ensures.parked

pub returns-else-watched-clause-left : goal.returns-else-watched-clause-left
returns-else-watched-clause-left g c = rw c.if-watched.false c.close.ensures.acts

pub returns-else-watched-clause-rest : goal.returns-else-watched-clause-rest
returns-else-watched-clause-rest g c =
    subst (LeavesRest c.args.board.now.book) (sym c.close.ensures.closed) (record { moment = refl; accepted = refl; newest = refl; going = refl })
