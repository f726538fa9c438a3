use Rattle.std.proofs.Common.{◌≡◌, Option, subst, sym}
use Rattle.std.specs.Prelude.{IfSome}
use Rattle.mpm_base.specs.Link.{LinkTold}
use Rattle.board_tests.proofs.driven.conn_of.Goals as goal

pub returns : goal.returns
returns c = record {
  named = c.new.ensures.name;
  child = c.new.ensures.child;
  generation = c.new.ensures.generation;
  rank =
      subst (λ (o : Option LinkTold). IfSome o (λ t. t.rank ≡ c.args.row.now.arrival)) (sym c.new.ensures.told)
      c.in-Ok.ensures.rank;
  unanswered = c.new.ensures.notes;
  new = c.new.ensures.turn;
  open_side = c.new.ensures.linger;
}
