use denote.Param.Send.{sendable}
use Rattle.std.proofs.Crossing.{crosses}
use Rattle.board.proofs.SendLemmas.{Ended-send}
use Rattle.board.proofs.crossing.ended_crosses.Goals as goal

pub crosses-requires-send-T : goal.crosses-requires-send-T
crosses-requires-send-T g c κs within = search (Ended-send, sendable, crosses) depth 60 fits 20000
