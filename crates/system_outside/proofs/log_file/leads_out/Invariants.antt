-- No part that was passed leads out: whether some part does is whether one of the others does.
use Rattle.std.proofs.Common.{◌≡◌}
use Rattle.std.specs.List.{list_any}
use Rattle.std.specs.Path.{components_remaining}
use Rattle.system_outside.specs.LogFile.{is_way_out, leads_out}
use Rattle.system_outside.proofs.log_file.leads_out.Given as goal

abbrev pub invariant-loop-part : goal.invariant-loop-part
invariant-loop-part l =
    (goal.iterator-loop-part).can_next l.part-iterator ×
    (goal.iterator-loop-part).is_finite l.part-iterator ×
    (leads_out l.name ≡ list_any is_way_out (components_remaining l.part-iterator))
