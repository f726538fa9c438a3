-- What is told of the connections that folds dropped, from one part to the next.
use Rattle.std.proofs.Common.{◌≡◌, ℕ, Bool, true, false, List, [], ◌++◌, map, Option, None, sym, ap, subst, ◌∙◌}
use Rattle.std.proofs.lemmas.List.{length-map, map-append}
use Rattle.std.specs.Prelude.{IfErr, IfOk, Result}
use Rattle.std.specs.declared.result.Result.TheVariants.{Ok, Err}
use Rattle.mpm_base.specs.declared.conn.ConnName.{ConnName}
use Rattle.conn_machine.specs.declared.event.Entry.{Entry}
use Rattle.conn_machine.specs.declared.event.Event.{Event}
use Rattle.conn_machine.specs.declared.folded.Folded.{Folded}
use Rattle.conn_machine.specs.Folds.{fold_of, opening_record}
use Rattle.conn_machine.specs.HistoryLaws.{FoldsAreOneFold}
use Rattle.conn_machine.specs.Runs.{after}
use Rattle.conn_state.specs.Answered.{SeenEnded}
use Rattle.conn_state.specs.Known.{KnownOutside}
use Rattle.table_rule.specs.declared.view.Origin.{Origin}
use Rattle.table_rule.specs.declared.view.View.{View}
use Rattle.table_rule.specs.Histories.{Extends}
use Rattle.board.specs.Board.{AreClosed, EndedOfOutside}
use Rattle.board.specs.BoardLaws.{EndedConnectionsJoin}
use Rattle.board.specs.Editions.{GenerationsKeepTheirEditions}
use Rattle.board.specs.ReportLine.{line_of}
use Rattle.board_turns.specs.Books.{book_of}
use Rattle.board_turns.specs.Rests.{TurnsRestOn}
use Rattle.board_turns.specs.Turns.{HadQuietTurn, KeepsLeft}
use Rattle.listener_turns.specs.Folds.{FoldsAll, FoldsWhereDue, HasDropped}
use Rattle.listener_parts.specs.Did.{Did, OnlySees}

-- connections that are of the outside in what the pass had seen are so in what it has seen since
outside_on : GenerationsKeepTheirEditions → EndedConnectionsJoin → (known : Option KnownOutside) (old new : View) (ended : List SeenEnded)
    → Extends old.seen new.seen → new.origin ≡ old.origin → EndedOfOutside known (book_of old) ended → EndedOfOutside known (book_of new) ended
outside_on editions ends known old new ended on origin was =
    ends.outside_stays known (book_of old) (book_of new) ended
    (editions.keeps (book_of old) (book_of new) on.0 (ap (λ (o : Origin). o.state) origin) (ap (λ (o : Origin). opening_record o.passes) origin) on.1) was

-- where nothing is folded it stays so
pub dropped_kept : GenerationsKeepTheirEditions → EndedConnectionsJoin → (known : Option KnownOutside) (old new : View) → Extends old.seen new.seen
    → new.origin ≡ old.origin → KeepsLeft old new → HasDropped known old → HasDropped known new
dropped_kept editions ends known old new on origin kept d = record {
  ended = d.ended;
  closed =
      subst (λ (o : Origin). AreClosed o.state new.left.entries d.ended) (sym origin)
      (subst (λ es. AreClosed old.origin.state es d.ended) (sym kept.entries) d.closed);
  answered = d.answered;
  outside = outside_on editions ends known old new d.ended on origin d.outside;
  record_is =
      kept.folded ∙ d.record_is ∙ ap (λ es. fold_of old.origin.state es (map line_of d.ended) (opening_record old.origin.passes)) (sym kept.entries)
      ∙ ap (λ (o : Origin). fold_of o.state new.left.entries (map line_of d.ended) (opening_record o.passes)) (sym origin);
}

pub dropped_on : GenerationsKeepTheirEditions → EndedConnectionsJoin → (known : Option KnownOutside) (events : List Event) (has : Option ConnName)
    (old new : View) → Did events has old new → HasDropped known old → HasDropped known new
dropped_on editions ends known events has old new did = dropped_kept editions ends known old new did.goes_on did.origin did.left

-- and it goes on by a fold
pub dropped_more : GenerationsKeepTheirEditions → EndedConnectionsJoin → FoldsAreOneFold → TurnsRestOn → (known : Option KnownOutside) (old new : View)
    → Extends old.seen new.seen → new.origin ≡ old.origin → FoldsAll known old new → HasDropped known old → HasDropped known new
dropped_more editions ends folds rests known old new on origin f d =
    let s = old.origin.state in
    let first = opening_record old.origin.passes in
    let lines : map line_of (d.ended ++ f.ended) ≡ map line_of d.ended ++ map line_of f.ended = map-append line_of d.ended f.ended in
    let twice : new.left.folded ≡ fold_of s (old.left.entries ++ f.behind) (map line_of d.ended ++ map line_of f.ended) first =
    f.record_is ∙ ap (fold_of (after s old.left.entries) f.behind (map line_of f.ended)) d.record_is
    ∙ folds.twice s first old.left.entries f.behind (map line_of d.ended) (map line_of f.ended) (rests.begun s old.origin.passes)
    (length-map d.ended line_of ∙ ends.many s old.left.entries d.ended d.closed) in
    record {
      ended = d.ended ++ f.ended;
      closed =
          subst (λ (o : Origin). AreClosed o.state new.left.entries (d.ended ++ f.ended)) (sym origin)
          (subst (λ es. AreClosed s es (d.ended ++ f.ended)) (sym f.goes_on)
          (ends.closed s old.left.entries f.behind d.ended f.ended d.closed f.closed));
      answered = ends.answered d.ended f.ended d.answered f.answered;
      outside = ends.outside known (book_of new) d.ended f.ended (outside_on editions ends known old new d.ended on origin d.outside) f.outside;
      record_is =
          twice ∙ ap (λ es. fold_of s es (map line_of d.ended ++ map line_of f.ended) first) (sym f.goes_on)
          ∙ ap (λ (l : List (List ℕ)). fold_of s new.left.entries l first) (sym lines)
          ∙ ap (λ (o : Origin). fold_of o.state new.left.entries (map line_of (d.ended ++ f.ended)) (opening_record o.passes)) (sym origin);
    }

-- whether it was folded or not, or memory lacked
pub dropped_by : {E : Type 0} → GenerationsKeepTheirEditions → EndedConnectionsJoin → FoldsAreOneFold → TurnsRestOn → (known : Option KnownOutside)
    (old new : View) (r : Result Bool E) → HadQuietTurn new.seen old new → IfOk r (λ folded. FoldsWhereDue known folded old new)
    → IfErr r (λ e. KeepsLeft old new) → HasDropped known old → HasDropped known new
dropped_by editions ends folds rests known old new (Ok true) t ok err d =
    dropped_more editions ends folds rests known old new (t.others.0, t.others.1) t.stays.origin ok d
dropped_by editions ends folds rests known old new (Ok false) t ok err d =
    dropped_kept editions ends known old new (t.others.0, t.others.1) t.stays.origin ok.left d
dropped_by editions ends folds rests known old new (Err e) t ok err d =
    dropped_kept editions ends known old new (t.others.0, t.others.1) t.stays.origin err d

-- ## What the turn of a fold was besides

pub only_sees : (old new : View) → HadQuietTurn new.seen old new → new.row ≡ None → OnlySees old new
only_sees old new t row = record {
  others = t.others;
  origin = t.stays.origin;
  who = t.stays.who;
  hand = t.stays.hand;
  row = row;
}
