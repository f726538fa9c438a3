-- What was read so far is the answer, as far as that may have it.
use Rattle.std.proofs.Common.{◌≤◌, length}
use Rattle.socket_outside.specs.Dialling.{ReadsOut}
use Rattle.socket_outside.proofs.dial.read_out.Given as goal

abbrev pub invariant-loop : goal.invariant-loop
invariant-loop g l = record {
  few : length l.answer ≤ 512;
  reads : ReadsOut (g.S.Read.remaining l.fn.socket) (g.S.Read.remaining l.socket) l.answer;
}
