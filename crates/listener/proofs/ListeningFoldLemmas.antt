-- That a listener goes on over a fold of its history as it did.
use Rattle.std.proofs.Common.{◌≡◌, ◌||◌, ℕ, Bool, true, List, map, Option, None, Some, Result, Ok, Err, OnOk, OnErr, refl, sym, ap, subst, ◌∙◌, eq-eqb, arith}
use Rattle.std.specs.List.{list_any}
use Rattle.http_read.specs.declared.request.Limits.{Limits}
use Rattle.file_table.specs.Site.{SeenSite}
use Rattle.conn_machine.specs.declared.state.State.{State}
use Rattle.conn_machine.specs.Folds.{GoesOnFrom, fold_of, is_child_of, is_in_use}
use Rattle.conn_machine.specs.Runs.{after}
use Rattle.conn_machine.specs.Sizes.{HasSizesOf}
use Rattle.conn_state.specs.Known.{KnownOutside}
use Rattle.board.specs.Board.{SeenBoard, folded_board}
use Rattle.board_book.specs.Book.{SeenBook, folded_book}
use Rattle.board.specs.Editions.{GenerationsKeepTheirEditions, HasItsEdition, IsOfGeneration}
use Rattle.board.specs.ReportLine.{line_of}
use Rattle.listener.specs.FoldsInside.{FoldsJoin, ListensOn, ShowsForFolds}
use Rattle.listener.proofs.FoldLemmas.{none-folded}
use Rattle.listener.proofs.StandingFoldLemmas.{stands-folded}

-- ## Generations

-- the newest generation is in use
newest-used : (s : State) → is_in_use s s.newest ≡ true
newest-used s = ap (λ (b : Bool). b || list_any (is_child_of s.newest) s.children) (eq-eqb s.newest s.newest refl)

-- so it has its edition behind a fold too
its-folded : GenerationsKeepTheirEditions → (k : KnownOutside) (b : SeenBook) (lines : List (List ℕ)) → after b.base b.history ≡ b.state
    → (limits : Limits) (site : SeenSite) → HasItsEdition k b b.state.newest limits site → HasItsEdition k (folded_book lines b) b.state.newest limits site
its-folded law k b lines state limits site its = record {
  number = its.number;
  found = law.folds b lines b.state.newest (subst (λ (s : State). is_in_use s b.state.newest ≡ true) (sym state) (newest-used b.state)) ∙ its.found;
  is_of = its.is_of;
}

edition-folded : GenerationsKeepTheirEditions → (known : Option KnownOutside) (b : SeenBook) (lines : List (List ℕ)) → after b.base b.history ≡ b.state
    → (limits : Limits) (site : SeenSite) → IsOfGeneration known b b.state.newest limits site
    → IsOfGeneration known (folded_book lines b) b.state.newest limits site
edition-folded law None b lines state limits site is = tt
edition-folded law (Some k) b lines state limits site is = its-folded law k b lines state limits site is

-- ## A listener goes on

-- on a board that was folded
pub listens-folded : GenerationsKeepTheirEditions → FoldsJoin → (known : Option KnownOutside) (b : SeenBoard) → ShowsForFolds known b
    → HasSizesOf b.book.base (after b.book.base b.book.history)
    → ((p : ℕ) → GoesOnFrom p b.book.folded b.book.history (fold_of b.book.base b.book.history (map line_of b.ended) b.book.folded))
    → ListensOn known b (folded_board b)
listens-folded law joins known b shows sized goes =
    let lines = map line_of b.ended in
    record {
      passes = refl;
      state = refl;
      rows = sized.rows;
      free = none-folded lines b.book goes;
      timely = λ before. tt;
      patient = λ told calls before steady. tt;
      folded = stands-folded joins law joins.outside_stays known b shows;
      orders = omega arith;
      edition = edition-folded law known b.book lines shows.state;
    }

-- on one that stays
pub listens-same : (known : Option KnownOutside) (old new : SeenBoard) → new ≡ old → ListensOn known old new
listens-same known old new same =
    subst (ListensOn known old) (sym same)
    (record {
      passes = refl;
      state = refl;
      rows = refl;
      free = λ before. before;
      timely = λ before. before;
      patient = λ told calls before. before;
      folded = λ c stop_ms store front o n past opened timely before. record { later = past; stands = before; same = refl };
      orders = refl;
      edition = λ limits site is. is;
    })

-- so on one that was to be folded, where memory lacked or didn't
pub listens-either : {V F : Type 0} (result : Result V F) (known : Option KnownOutside) (old new : SeenBoard) → ListensOn known old (folded_board old)
    → OnOk result (new ≡ folded_board old) → OnErr result (new ≡ old) → ListensOn known old new
listens-either (Ok done) known old new folds ok err = subst (ListensOn known old) (sym ok) folds
listens-either (Err fault) known old new folds ok err = listens-same known old new err
