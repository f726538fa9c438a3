use Rattle.crossbeam_queue.specs.Passes.{view, IsPassOf}
use Rattle.fd_queue.specs.declared.seat.Item.TheVariants.{End}
use Rattle.fd_queue.specs.Seats.{PutsAll}
use Rattle.fd_queue.proofs.queue.FdQueue.end_items.Given as goal

-- so many were put
abbrev pub invariant-loop-count : goal.invariant-loop-count
invariant-loop-count g l = IsPassOf l.self.ring l.seat × PutsAll End l.count (view l.initial.seat) (view l.seat)
