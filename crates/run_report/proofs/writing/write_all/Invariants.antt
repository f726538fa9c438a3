use Rattle.std.proofs.Common.{◌≡◌, ◌≤◌, ◌-◌, ◌++◌, length, take, option_map}
use Rattle.mpm_base.specs.Count.{NeverFalls}
use Rattle.run_report.proofs.writing.write_all.Given as goal

-- the bytes so far were written, and the count of faults did not fall
abbrev pub invariant-loop-from : goal.invariant-loop-from
invariant-loop-from g l =
    record {
      from : l.from ≤ length l.bytes;
      told : (g.K.Sink.seen l.out).told ≡ option_map (λ written. written ++ take l.from l.bytes) (g.K.Sink.seen l.fn.out).told;
      faults : NeverFalls (g.K.Sink.seen l.fn.out).faults (g.K.Sink.seen l.out).faults;
    }

-- how many bytes are left
abbrev pub decreases-loop-from : goal.decreases-loop-from
decreases-loop-from g l = length l.bytes - l.from
