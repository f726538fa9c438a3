use Rattle.std.proofs.Common.{ℕ, ◌<◌, ap, subst, sym, ◌∙◌}
use Rattle.board.specs.Board.{SeenBoard}
use Rattle.board_tests.proofs.DrivenLemmas.{taken_is_of, taken_usable}
use Rattle.board_tests.proofs.driven.serve.Goals as goal

pub converse-requires-clause-who : goal.converse-requires-clause-who
converse-requires-clause-who c =
    subst (λ (n : ℕ). 0 < n)
    (sym (ap (λ (b : SeenBoard). b.book.passes) c.start.ensures.is ∙ ap (λ (b : SeenBoard). b.book.passes) c.in-Ok.ensures.ok.new_is)) c.requires.who

pub converse-requires-clause-fits : goal.converse-requires-clause-fits
converse-requires-clause-fits c = taken_is_of _ _ (c.start.ensures.handed c.in-Ok.conn c.in-Ok.ensures.handed)

pub converse-requires-clause-usable : goal.converse-requires-clause-usable
converse-requires-clause-usable c = taken_usable _ _ (c.start.ensures.handed c.in-Ok.conn c.in-Ok.ensures.handed)
