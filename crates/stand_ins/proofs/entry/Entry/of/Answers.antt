use Rattle.std.proofs.Common.{sym, ◌∙◌}
use Rattle.stand_ins.proofs.entry.Entry.of.Goals as goal

pub invariant_of-result : goal.invariant_of-result
invariant_of-result c = record {
  same = c.in_ok-key.ensures.items ∙ sym c.in_ok-text.ensures;
  text = rw c.in_ok-text.ensures c.as_bytes-word.ensures.utf8;
}
