use denote.Param.Send.{sendable}
use Rattle.std.proofs.Crossing.{crosses}
use Rattle.turn_tests.proofs.SendLemmas.{Player-send}
use Rattle.turn_tests.proofs.stage.play_on_threads.Goals as goal

pub map_vec-requires-send-J : goal.map_vec-requires-send-J
map_vec-requires-send-J g c κs within = search (Player-send, sendable, crosses) depth 60 fits 20000
