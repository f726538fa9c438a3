use Rattle.std.proofs.Common.{sym, ◌∙◌, arith}
use Rattle.listener_hands.proofs.seating.seat_all.Goals as goal

pub loop-carrier-preserved : goal.loop-carrier-preserved
loop-carrier-preserved g c = record {
  own = c.seat_one.ensures.own ∙ c.loop-carrier.invariant.own;
  theirs = λ i carrier at. c.next_carrier.ensures.theirs i carrier at ∙ sym c.seat_one.ensures.own;
  numbered = c.next_carrier.ensures.numbered;
  all = omega (arith, c.loop-carrier.invariant.all, c.in-Some.ensures.len, c.seat_one.ensures.places);
  room = c.seat_one.ensures.room ∙ c.loop-carrier.invariant.room;
  looks = c.seat_one.ensures.looks;
  many = c.seat_one.ensures.count ∙ c.loop-carrier.invariant.many;
  some = omega (arith, c.seat_one.ensures.count, c.loop-carrier.invariant.some);
}
