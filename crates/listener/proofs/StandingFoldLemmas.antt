-- How a run stands over a fold of its history.
use Rattle.std.proofs.Common.{List, [], ◌++◌, map, Option, refl, sym, ap, subst, ◌∙◌, append-nil}
use Rattle.conn_machine.specs.declared.event.Entry.{Entry}
use Rattle.conn_state.specs.Answered.{SeenEnded}
use Rattle.conn_state.specs.Known.{KnownOutside}
use Rattle.board.specs.Board.{EndedOfOutside, SeenBoard}
use Rattle.board_book.specs.Book.{SeenBook, folded_book}
use Rattle.board_book.specs.Editions.{KeepsEditions}
use Rattle.board.specs.Editions.{GenerationsKeepTheirEditions}
use Rattle.board.specs.ReportLine.{line_of}
use Rattle.listener_round.specs.FirstNumbers.{opened_by}
use Rattle.listener.specs.FoldsInside.{FoldsJoin, ShowsForFolds}
use Rattle.listener_round.specs.Folded.{HasFolded, whole_book}
use Rattle.listener_round.specs.StandingInside.{Past, StandsOverFold, standing}
use Rattle.listener_round.specs.declared.run_numbers.RunNumbers.{RunNumbers}
use Rattle.listener.proofs.FoldedRunLemmas.{has-joined}
use Rattle.listener_round.proofs.StandingLemmas.{KeepsPast, keeps-plain, same-lines, stands-past}

-- connections that ended stay of the outside in a book that keeps the editions
abbrev pub OutsideStays : Type 0
OutsideStays =
    (known : Option KnownOutside) (old new : SeenBook) (ended : List SeenEnded) → KeepsEditions old new → EndedOfOutside known old ended
    → EndedOfOutside known new ended

-- those that were folded, and those that are kept, are of the outside in the book of all entries
pub outside-joined : FoldsJoin → GenerationsKeepTheirEditions → OutsideStays → (known : Option KnownOutside) (n : RunNumbers) (b : SeenBoard)
    → ShowsForFolds known b → (f : HasFolded n b.book) → EndedOfOutside known (whole_book n f.entries) f.ended
    → EndedOfOutside known (whole_book n (f.entries ++ b.book.history)) (f.ended ++ b.ended)
outside-joined joins editions stays known n b shows f outside =
    let whole = whole_book n (f.entries ++ b.book.history) in
    joins.outside known whole f.ended b.ended
    (stays known (whole_book n f.entries) whole f.ended (editions.keeps (whole_book n f.entries) whole b.book.history refl refl refl) outside)
    (stays known b.book whole b.ended (editions.unfolded b.book whole f.entries (map line_of f.ended) (joins.opening (opened_by n) n.passes) f.base_is f.record_is refl) shows.outside)

-- it stands over a fold as before, and all entries are the same
pub stands-folded : FoldsJoin → GenerationsKeepTheirEditions → OutsideStays → (known : Option KnownOutside) (b : SeenBoard) → ShowsForFolds known b
    → StandsOverFold known b.book (folded_book (map line_of b.ended) b.book)
stands-folded joins editions stays known b shows c stop_ms store front o n past opened timely stood =
    let old = standing stop_ms store front b.book in
    let new = standing stop_ms store front (folded_book (map line_of b.ended) b.book) in
    let f = stood.folded in
    let both = has-joined joins known n b shows f stood.passes timely in
    let entries = f.entries ++ b.book.history in
    let later : Past = record { entries = both.whole.entries; ended = both.whole.ended } in
    record {
      later = later;
      stands =
          stands-past known o n past later 0 0 old new stood both.whole refl
          (subst (λ (ended : List SeenEnded). EndedOfOutside known (whole_book n both.whole.entries) ended) (sym both.ended_are)
          (subst (λ (all : List Entry). EndedOfOutside known (whole_book n all) (f.ended ++ b.ended)) (sym both.entries_are)
          (outside-joined joins editions stays known n b shows f stood.outside)))
          (subst (λ (all : List Entry). KeepsPast o (opened_by n) entries (all ++ [])) (sym both.entries_are) (keeps-plain o (opened_by n) entries [] refl))
          (record { passes = refl; serving = refl; stop = refl; store = refl; front = same-lines front });
      same =
          append-nil both.whole.entries ∙ both.entries_are
          ∙ ap (λ (p : Past). p.entries ++ b.book.history) (sym stood.past_is);
    }
