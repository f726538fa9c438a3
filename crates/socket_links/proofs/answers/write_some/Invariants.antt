-- The calls that were interrupted took nothing.
use Rattle.std.specs.Io.KnownBytes.{Keeps}
use Rattle.socket_links.proofs.answers.write_some.Given as goal

abbrev pub invariant-loop : goal.invariant-loop
invariant-loop g l = Keeps (g.S.Write.contents l.fn.socket) (g.S.Write.contents l.socket)
