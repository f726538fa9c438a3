use Rattle.board.proofs.WholeLemmas.{left_edition, left_keeps, left_more}
use Rattle.board.proofs.laws.editions_stand_for_whole_histories.Goals as goal

pub returns : goal.returns
returns c =
    let law = c.generations_keep_their_editions.ensures in
    record {
      keeps = left_keeps law;
      in_whole = λ known whole b generation limits site is. law.carried known b whole generation limits site (left_keeps law whole b is);
      in_left = left_edition law;
      goes_on = left_more;
    }
