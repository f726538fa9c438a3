use Rattle.std.proofs.Common.{refl}
use Rattle.conn_state.proofs.CallLemmas.{drops-more, drops-end, drops-done}
use Rattle.conn_state.proofs.DropLemmas.{has_dropped-more, drops_on-last}
use Rattle.conn_state.proofs.linger.drop_rest.Goals as goal

pub returns-in-Some-clause-drops : goal.returns-in-Some-clause-drops
returns-in-Some-clause-drops g c = drops_on-last _ _ _ _ _ _ _ _ _ c.in-Some.turn c.loop-dropped.invariant.has c.in-Some.ensures.drops

pub returns-in-Some-clause-rooms : goal.returns-in-Some-clause-rooms
returns-in-Some-clause-rooms g c =
    drops-end _ _ _ _ _ c.in-Some.ensures.asks.answer c.loop-dropped.invariant.calls c.in-Some.ensures.asks.calls_is

pub returns-clause-rooms : goal.returns-clause-rooms
returns-clause-rooms g c = drops-done _ _ _ _ c.loop-dropped.invariant.calls

pub loop-dropped-preserved : goal.loop-dropped-preserved
loop-dropped-preserved g c = record {
  has = has_dropped-more _ _ _ _ _ _ _ _ _ c.loop-dropped.invariant.has c.in_default.ensures.drops.0;
  most = c.in_default.ensures.drops.1.most;
  calls = drops-more _ _ _ _ _ c.in_default.ensures.asks.answer c.loop-dropped.invariant.calls c.in_default.ensures.asks.calls_is
      _ (c.in_default.ensures.asks.dropped_is refl);
}
