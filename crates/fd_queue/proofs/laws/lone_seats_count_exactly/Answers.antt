use Rattle.fd_queue.proofs.Moves.{lone}
use Rattle.fd_queue.proofs.laws.lone_seats_count_exactly.Goals as goal

pub returns : goal.returns
returns g c = lone
