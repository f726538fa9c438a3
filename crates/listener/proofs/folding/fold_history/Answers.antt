use Rattle.std.proofs.Common.{map}
use Rattle.board.specs.ReportLine.{line_of}
use Rattle.listener.proofs.ListeningFoldLemmas.{listens-either, listens-folded}
use Rattle.listener.proofs.folding.fold_history.Goals as goal

pub returns-then-can_fold : goal.returns-then-can_fold
returns-then-can_fold g c =
    let b = c.args.board.now in
    let shows = c.show_for_folds.ensures in
    listens-either c.fold.result g.N.Known.known b c.fold.new.self
    (listens-folded c.generations_keep_their_editions.ensures c.folds_join.ensures g.N.Known.known b shows (c.histories_keep_sizes.ensures b.book.base b.book.history)
    (λ p. c.records_go_on_by_folds.ensures.fold b.book.passes b.book.base b.book.folded b.book.history (map line_of b.ended) p shows.places shows.few))
    c.fold.ensures.ok c.fold.ensures.err
