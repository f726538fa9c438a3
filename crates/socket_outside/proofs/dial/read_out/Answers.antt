use Rattle.socket_outside.proofs.DialLemmas.{reads_further}
use Rattle.socket_outside.proofs.dial.read_out.Goals as goal

pub returns-then-not-branch-clause-all : goal.returns-then-not-branch-clause-all
returns-then-not-branch-clause-all g c =
    reads_further (g.S.Read.remaining c.args.socket.now) (g.S.Read.remaining c.loop.socket) (g.S.Read.remaining c.read_on.new.socket)
    c.loop.answer c.read_on.new.answer c.loop.invariant.reads c.in_ok-read_on.ensures.reads

pub loop-preserved : goal.loop-preserved
loop-preserved g c = record {
  few = c.in_ok-read_on.ensures.few;
  reads = reads_further (g.S.Read.remaining c.args.socket.now) (g.S.Read.remaining c.loop.socket) (g.S.Read.remaining c.read_on.new.socket)
      c.loop.answer c.read_on.new.answer c.loop.invariant.reads c.in_ok-read_on.ensures.reads;
}
