-- The limits of a configuration are in their ranges, so the numbers with them are.
use Rattle.mpm_config.proofs.RangeLemmas.{limits_in_range}
use Rattle.mpm_config.proofs.config.carry_limits.Goals as goal

pub correct-new-inside-requires : goal.correct-new-inside-requires
correct-new-inside-requires c = limits_in_range c.new.inside.written c.old.inside.written c.new.invariant.in_range c.old.invariant.in_range

pub invariant_of-new : goal.invariant_of-new
invariant_of-new c = record {
  in_range = limits_in_range c.new.inside.written c.old.inside.written c.new.invariant.in_range c.old.invariant.in_range;
  fixed = c.correct-new-inside.ensures;
  root_text = c.new.invariant.root_text;
  index_text = c.new.invariant.index_text;
  hosts_are = c.new.invariant.hosts_are;
}
