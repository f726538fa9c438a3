use Rattle.std.proofs.Common.{◌≡◌, map, take}
use Rattle.script_front.proofs.word_log.log_of.Given as goal

abbrev pub invariant-loop-byte : goal.invariant-loop-byte
invariant-loop-byte l = map (λ byte. byte.0) l.told.items ≡ take l.byte-index l.bytes
