use Rattle.std.proofs.Common.{length}
use Rattle.listener_hands.proofs.OpeningLemmas.{at_end}
use Rattle.listener_hands.proofs.lines.make_queue.Goals as goal

pub returns-in-Some : goal.returns-in-Some
returns-in-Some g c =
    (c.in_ok-queue.ensures.seats (length c.pop.new.self.items) c.in-Some.seat
    (at_end c.in_ok-queue.seats.items c.pop.new.self.items c.in-Some.seat c.in-Some.ensures.items)).0
