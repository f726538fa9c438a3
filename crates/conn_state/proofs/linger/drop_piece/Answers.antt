use Rattle.std.proofs.Common.{rules, refl, arith}
use Rattle.std.proofs.lemmas.Grind.{common_steps}
use Rattle.mpm_base.specs.declared.link.Got.TheVariants as got
use Rattle.conn_state.proofs.CallLemmas.{read-told}
use Rattle.conn_state.proofs.DropLemmas.{has_dropped-piece}
use Rattle.conn_state.proofs.linger.drop_piece.Goals as goal

pub returns-in-Got-clause-drops : goal.returns-in-Got-clause-drops
returns-in-Got-clause-drops g c = (has_dropped-piece _ _ _ _ _ _ c.read.new.buffer c.in-Got.count c.in-Got.ensures.reads refl, search rules)

pub returns-in-Got-clause-asks : goal.returns-in-Got-clause-asks
returns-in-Got-clause-asks g c = record {
  answer = got.Got c.in-Got.count;
  calls_is = read-told _ _ _ _ (got.Got c.in-Got.count) c.in-Got.ensures.asks (grind (arith, common_steps));
  dropped_is = λ e. refl;
}

pub returns-in-End-clause-asks : goal.returns-in-End-clause-asks
returns-in-End-clause-asks g c = record {
  answer = got.End;
  calls_is = read-told _ _ _ _ got.End c.in-End.ensures.asks (grind (arith, common_steps));
  dropped_is = λ e. absurd (cc);
}

pub returns-in-NotReady-clause-asks : goal.returns-in-NotReady-clause-asks
returns-in-NotReady-clause-asks g c = record {
  answer = got.NotReady;
  calls_is = read-told _ _ _ _ got.NotReady c.in-NotReady.ensures.asks (grind (arith, common_steps));
  dropped_is = λ e. absurd (cc);
}

pub returns-in-Failed-clause-asks : goal.returns-in-Failed-clause-asks
returns-in-Failed-clause-asks g c = record {
  answer = got.Failed;
  calls_is = read-told _ _ _ _ got.Failed c.in-Failed.ensures.asks (grind (arith, common_steps));
  dropped_is = λ e. absurd (cc);
}
