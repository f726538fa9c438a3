-- What the listener did, said of the books of what it has seen.
use Rattle.std.proofs.Common.{◌≡◌, ℕ, List, [], ◌∷◌, ◌++◌, Option, sym, ap, subst, ◌∙◌, append_assoc, append-nil}
use Rattle.mpm_base.specs.declared.conn.ConnName.{ConnName}
use Rattle.conn_machine.specs.declared.event.Entry.{Entry}
use Rattle.conn_machine.specs.declared.event.Event.{Event}
use Rattle.conn_machine.specs.declared.folded.Folded.{Folded}
use Rattle.conn_machine.specs.declared.state.State.{State}
use Rattle.conn_machine.specs.Folds.{opening_record}
use Rattle.conn_machine.specs.Made.{AreMade, AreMadeBehind}
use Rattle.conn_machine.specs.Runs.{own_events, row_of}
use Rattle.table_rule.specs.declared.view.Origin.{Origin}
use Rattle.table_rule.specs.declared.view.View.{View}
use Rattle.board_book.specs.Book.{SeenBook}
use Rattle.board_turns.specs.Books.{book_of}
use Rattle.board_turns.specs.Rests.{TurnsRestOn}
use Rattle.board_turns.proofs.MadeLemmas.{made_join}
use Rattle.listener_parts.specs.Did.{Did}
use Rattle.listener_table.specs.Among.{ActsAmong}

-- of a history that passes made, what stands behind a part of it
made_rest : (base : State) (f : Folded) (before a b : List Entry) → AreMadeBehind base f before (a ++ b) → AreMadeBehind base f (before ++ a) b
made_rest base f before [] b made = subst (λ h. AreMadeBehind base f h b) (sym (append-nil before)) made
made_rest base f before (e ∷ a) b made =
    subst (λ h. AreMadeBehind base f h b) (append_assoc before (e ∷ []) a) (made_rest base f (before ++ e ∷ []) a b made.1)

-- what a part did, where all that pass 0 has seen behind it was made
pub did_among : TurnsRestOn → (events : List Event) (has : Option ConnName) (old new : View) → old.who.number ≡ 0
    → AreMade new.origin.state (opening_record new.origin.passes) new.seen → new.row ≡ row_of 0 new.seen → Did events has old new
    → ActsAmong 0 events has (book_of old) (book_of new)
did_among rests events has old new number made row_is did =
    let front : AreMade old.origin.state (opening_record old.origin.passes) new.seen =
    subst (λ (o : Origin). AreMade o.state (opening_record o.passes) new.seen) did.origin made in
    record {
      base = ap (λ (o : Origin). o.state) did.origin;
      folded = ap (λ (o : Origin). opening_record o.passes) did.origin;
      passes = ap (λ (o : Origin). o.passes) did.origin;
      added = did.goes_on.0;
      history = did.goes_on.1;
      entries =
          made_rest old.origin.state (opening_record old.origin.passes) [] old.seen did.goes_on.0
          (subst (AreMade old.origin.state (opening_record old.origin.passes)) did.goes_on.1 front);
      made = subst (λ (p : ℕ). own_events p new.seen ≡ own_events p old.seen ++ events) number did.made;
      row = rests.opens new.origin.passes 0 new.seen ∙ sym row_is ∙ did.row;
    }

-- some, and then some more
pub among_more : (who : ℕ) (first second : List Event) (had has : Option ConnName) (a b c : SeenBook) → ActsAmong who first had a b
    → ActsAmong who second has b c → ActsAmong who (first ++ second) has a c
among_more who first second had has a b c before behind = record {
  base = behind.base ∙ before.base;
  folded = behind.folded ∙ before.folded;
  passes = behind.passes ∙ before.passes;
  added = before.added ++ behind.added;
  history =
      behind.history ∙ ap (λ l. l ++ behind.added) before.history ∙ append_assoc a.history before.added behind.added;
  entries =
      made_both
      (subst (λ (s : State). AreMadeBehind s a.folded (a.history ++ before.added) behind.added) before.base
      (subst (λ (f : Folded). AreMadeBehind b.base f (a.history ++ before.added) behind.added) before.folded
      (subst (λ h. AreMadeBehind b.base b.folded h behind.added) before.history behind.entries)));
  made = behind.made ∙ ap (λ l. l ++ second) before.made ∙ append_assoc (own_events who a.history) first second;
  row = behind.row;
}
  where
    made_both : AreMadeBehind a.base a.folded (a.history ++ before.added) behind.added → AreMadeBehind a.base a.folded a.history (before.added ++ behind.added)
    made_both later = made_join a.base a.folded a.history before.added behind.added before.entries later
