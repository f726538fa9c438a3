use Rattle.std.proofs.Common.{arith}
use Rattle.http_read.proofs.ChunkStepLemmas.{run_data}
use Rattle.http_read.proofs.chunked.ChunkedPlace.advance.Goals as goal

pub returns-then-left-gt0-clause-runs : goal.returns-then-left-gt0-clause-runs
returns-then-left-gt0-clause-runs c =
    rw c.in-Data.is (run_data c.args.bytes.now c.min-count.result c.in-Data.totals c.in-Data.left (omega arith) (omega arith))
