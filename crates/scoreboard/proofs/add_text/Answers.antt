use Rattle.scoreboard.proofs.JoinLemmas.{joined_eight}
use Rattle.scoreboard.proofs.add_text.Goals as goal

pub returns : goal.returns
returns c =
    joined_eight c.add_line.result _ _ _ _ _ _ _ _ _ _ _ _ _ _ _ _ _ c.in_ok-add_count.ensures c.in_ok-add_count-2.ensures
    c.in_ok-add_count-3.ensures c.in_ok-add_count-4.ensures c.in_ok-add_count-5.ensures c.in_ok-add_count-6.ensures
    c.in_ok-add_count-7.ensures (rw c.as_slice.ensures at c.add_line.ensures)
