use Rattle.board_book.proofs.EditionLemmas.{folded_edition, keeps_on, newest_edition, other_editions, unfolded_keeps}
use Rattle.board.proofs.CarriedLemmas.{generation_carried}
use Rattle.board.proofs.laws.generations_keep_their_editions.Goals as goal

pub returns : goal.returns
returns c =
    let law = c.generations_begin_in_order.ensures in
    record {
      goes_on = λ known old new more generation limits site is base folded history.
          generation_carried known old new generation limits site (keeps_on law old new more base folded history generation) is;
      keeps = keeps_on law;
      carried = λ known old new generation limits site keeps. generation_carried known old new generation limits site (keeps generation);
      folds = folded_edition law;
      unfolded = unfolded_keeps law;
      newest = newest_edition law;
      others = other_editions law;
      live = law.live;
    }
