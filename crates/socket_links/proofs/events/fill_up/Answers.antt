use Rattle.std.proofs.Common.{rules, ◌+◌, ◌≤◌, length, arith}
use Rattle.std.proofs.lemmas.Grind.{common_steps}
use Rattle.socket_links.proofs.FillLemmas.{filled_full, filled_more}
use Rattle.socket_links.proofs.events.fill_up.Goals as goal

pub loop-number-preserved : goal.loop-number-preserved
loop-number-preserved c = record {
  distinct = c.give.ensures.distinct;
  few = grind (arith, common_steps);
  filled = filled_more _ _ _ _ c.loop-number.auto.number c.give.ensures.is c.loop-number.invariant.filled;
}

pub returns-else-is_full-clause-full : goal.returns-else-is_full-clause-full
returns-else-is_full-clause-full c =
    let last : 4294967295 ≤ c.loop-number.number = search rules in
    let few : length c.give.new.ready ≤ 256 = grind (arith, common_steps) in
    filled_full 4294967040 (c.loop-number.number + 1) 256 c.give.new.ready
    (filled_more _ _ _ _ c.loop-number.auto.number c.give.ensures.is c.loop-number.invariant.filled) (omega (arith, last)) few
