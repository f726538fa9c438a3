use Rattle.std.proofs.Common.{rules}
use Rattle.run_report.proofs.ExitStatusLemmas.{failed-write, told_puts}
use Rattle.run_report.proofs.writing.write_all.Goals as goal

pub loop-from-preserved : goal.loop-from-preserved
loop-from-preserved g c =
    record {
      from = search rules;
      told = told_puts c.args.bytes.now c.loop-from.from c.in-Put.count _ _ _ _ c.loop-from.invariant.told c.write.ensures c.in-Put.is;
      faults = search rules;
    }

pub returns-in-Failed-clause-all : goal.returns-in-Failed-clause-all
returns-in-Failed-clause-all g c =
    failed-write c.args.bytes.now c.loop-from.from _ _ _ _ _ c.loop-from-test.true c.loop-from.invariant.told c.loop-from.invariant.faults c.write.ensures
    c.in-Failed.is
