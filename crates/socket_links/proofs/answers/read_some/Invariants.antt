-- The calls that were interrupted took nothing.
use Rattle.std.specs.Io.KnownBytes.{Keeps}
use Rattle.socket_links.proofs.answers.read_some.Given as goal

abbrev pub invariant-loop : goal.invariant-loop
invariant-loop g l = Keeps (g.S.Read.remaining l.fn.socket) (g.S.Read.remaining l.socket)
