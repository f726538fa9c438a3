use Rattle.std.proofs.Common.{length, refl, arith, rules}
use Rattle.std.proofs.lemmas.Option.{slice_get_read}
use Rattle.crossbeam_queue.specs.Passes.{IsPassOf}
use Rattle.listener_hands.proofs.LineLemmas.{left_first, left_next}
use Rattle.listener_hands.proofs.OpeningLemmas.{at_end}
use Rattle.listener_hands.proofs.lines.make_lines.Goals as goal

pub loop-queue-init : goal.loop-queue-init
loop-queue-init g c = record {
  left = omega (arith, c.reverse.ensures.len, c.requires.seats);
  lines = search rules;
  room = search rules;
  own =
      left_first (λ queue seat. IsPassOf queue.ring seat) c.args.queues.now c.args.seats.items c.reverse.new.self.items c.reverse.ensures.items
      (omega (arith, c.requires.seats, c.args.seats.ok.0)) c.requires.own;
}

pub invariant_of-push_reserved : goal.invariant_of-push_reserved
invariant_of-push_reserved g c =
    let rest = c.pop.new.self in
    record {
      seat_of =
          c.loop-queue.invariant.own (length rest.items) c.loop-queue.queue-index c.queue-item.result c.in-Some.seat
          (omega (arith, c.loop-queue.invariant.left, c.in-Some.ensures.cases, rest.ok.0))
          (slice_get_read c.args.queues.now (length c.args.queues.now) c.loop-queue.queue-index c.queue-item.result refl c.loop-queue-test.true c.queue-item.is)
          (at_end c.loop-queue.seats.items rest.items c.in-Some.seat c.in-Some.ensures.items);
    }

pub loop-queue-preserved : goal.loop-queue-preserved
loop-queue-preserved g c = record {
  left = omega (arith, c.loop-queue.invariant.left, c.in-Some.ensures.cases);
  lines = omega (arith, c.loop-queue.invariant.lines, c.push_reserved.ensures.len);
  room = omega (arith, c.loop-queue.invariant.room, c.push_reserved.ensures.capacity);
  own =
      left_next (λ queue seat. IsPassOf queue.ring seat) c.args.queues.now c.loop-queue.seats.items c.pop.new.self.items c.in-Some.seat
      c.in-Some.ensures.items c.loop-queue.invariant.own;
}
