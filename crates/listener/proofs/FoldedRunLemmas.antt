-- What was folded of a run, and what stands behind it, as one history; and what a board shows of the whole run.
use Rattle.std.proofs.Common.{◌≡◌, ℕ, List, ◌++◌, map, Option, refl, sym, ap, subst, ◌∙◌, arith}
use Rattle.std.proofs.lemmas.List.{length-map, map-append}
use Rattle.conn_machine.specs.declared.event.Entry.{Entry}
use Rattle.conn_machine.specs.declared.folded.Folded.{Folded}
use Rattle.conn_machine.specs.declared.state.State.{State}
use Rattle.conn_machine.specs.Folds.{fold_of}
use Rattle.conn_machine.specs.Made.{AreMade}
use Rattle.conn_machine.specs.Runs.{after, entries_of}
use Rattle.conn_state.specs.Known.{KnownOutside}
use Rattle.board.specs.Board.{AreClosed, SeenBoard}
use Rattle.board_book.specs.Book.{folded_book}
use Rattle.board.specs.ReportLine.{line_of}
use Rattle.listener_round.specs.FirstNumbers.{folded_by, opened_by}
use Rattle.listener.specs.FoldsInside.{FoldsJoin, ShowsForFolds}
use Rattle.listener_round.specs.Folded.{HasFolded}
use Rattle.board_book.specs.Timely.{AreTimely, IsTimely}
use Rattle.listener_round.specs.declared.run_numbers.RunNumbers.{RunNumbers}
use Rattle.rounds.proofs.TimelyLemmas.{all-both}

-- ## What was folded, and what is kept

module _ (joins : FoldsJoin) (known : Option KnownOutside) (n : RunNumbers) (b : SeenBoard) (shows : ShowsForFolds known b) (f : HasFolded n b.book) where
  -- the entries that are kept were made behind those that were folded
  made-behind : AreMade (after (opened_by n) f.entries) (fold_of (opened_by n) f.entries (map line_of f.ended) (folded_by n)) b.book.history
  made-behind =
      subst (λ (s : State). AreMade s (fold_of (opened_by n) f.entries (map line_of f.ended) (folded_by n)) b.book.history) f.base_is
      (subst (λ (g : Folded). AreMade b.book.base g b.book.history) f.record_is shows.made)

  -- a fold counts what one fold of both counts
  fold-joined : fold_of b.book.base b.book.history (map line_of b.ended) b.book.folded
      ≡ fold_of (opened_by n) (f.entries ++ b.book.history) (map line_of (f.ended ++ b.ended)) (folded_by n)
  fold-joined =
      ap (λ (s : State). fold_of s b.book.history (map line_of b.ended) b.book.folded) f.base_is
      ∙ ap (λ (g : Folded). fold_of (after (opened_by n) f.entries) b.book.history (map line_of b.ended) g) f.record_is
      ∙ joins.twice (opened_by n) (folded_by n) f.entries b.book.history (map line_of f.ended) (map line_of b.ended) (joins.opening (opened_by n) n.passes)
      (length-map f.ended line_of ∙ joins.many (opened_by n) f.entries f.ended f.closed)
      ∙ ap (λ (lines : List (List ℕ)). fold_of (opened_by n) (f.entries ++ b.book.history) lines (folded_by n)) (sym (map-append line_of f.ended b.ended))

  -- so both are what a fold leaves folded
  joined : b.book.passes ≡ n.passes → AreTimely b.book.base b.book.history → HasFolded n (folded_book (map line_of b.ended) b.book)
  joined passes timely = record {
    entries = f.entries ++ b.book.history;
    ended = f.ended ++ b.ended;
    made = joins.made n.passes (opened_by n) (folded_by n) f.entries b.book.history (map line_of f.ended) (joins.places n.passes) f.few f.made made-behind;
    few =
        λ p past. joins.entries p f.entries b.book.history
        ∙ ap (λ (es : List Entry). es ++ entries_of p b.book.history) (f.few p past) ∙ shows.few p (omega (arith, passes, past));
    timely =
        all-both IsTimely (opened_by n) f.entries b.book.history f.timely
        (subst (λ (s : State). AreTimely s b.book.history) f.base_is timely);
    base_is =
        ap (λ (s : State). after s b.book.history) f.base_is ∙ sym (joins.state (opened_by n) f.entries b.book.history);
    record_is = fold-joined;
    closed =
        joins.closed (opened_by n) f.entries b.book.history f.ended b.ended f.closed
        (subst (λ (s : State). AreClosed s b.book.history b.ended) f.base_is shows.agrees.closed);
    answered = joins.answered f.ended b.ended f.answered shows.agrees.answered;
  }

-- what a fold leaves folded: all entries, and all connections that ended
pub record HasJoined (n : RunNumbers) (b : SeenBoard) (f : HasFolded n b.book) : Type 0 where
  pub whole : HasFolded n (folded_book (map line_of b.ended) b.book)
  pub entries_are : whole.entries ≡ f.entries ++ b.book.history
  pub ended_are : whole.ended ≡ f.ended ++ b.ended

pub has-joined : FoldsJoin → (known : Option KnownOutside) (n : RunNumbers) (b : SeenBoard) → ShowsForFolds known b → (f : HasFolded n b.book)
    → b.book.passes ≡ n.passes → AreTimely b.book.base b.book.history → HasJoined n b f
unfolding joined
has-joined joins known n b shows f passes timely =
    record { whole = joined joins known n b shows f passes timely; entries_are = refl; ended_are = refl }
