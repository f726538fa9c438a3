use Rattle.std.proofs.Common.{slice_get}
use Rattle.conn_state.proofs.OutgoingLemmas.{piece-is}
use Rattle.conn_state.proofs.outgoing.piece_of.Goals as goal

pub returns : goal.returns
returns c =
    piece-is (slice_get c.args.site.now.files c.args.range.file) c.bytes-file.result.now c.args.range.from c.args.range.to c.min-count.result c.bytes-file.ensures c.min-count.ensures
