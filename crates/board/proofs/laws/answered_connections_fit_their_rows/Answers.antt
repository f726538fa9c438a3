use Rattle.board.proofs.AnsweredLemmas.{of-answered}
use Rattle.board.proofs.laws.answered_connections_fit_their_rows.Goals as goal

pub returns : goal.returns
returns c = of-answered c.rows_change_one_at_a_time.ensures
