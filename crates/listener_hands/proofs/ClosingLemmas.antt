-- What the board that is left tells.
use Rattle.std.proofs.Common.{◌≡◌, ℕ, List, ◌++◌, Option, sym, ap, subst, ◌∙◌}
use Rattle.conn_machine.specs.declared.event.Entry.{Entry}
use Rattle.conn_machine.specs.declared.state.State.{State}
use Rattle.conn_machine.specs.BetweenTurns.{QuietTablesAreTheListeners}
use Rattle.conn_machine.specs.Folds.{opening_record}
use Rattle.conn_machine.specs.Made.{AreMade, AreOfPasses}
use Rattle.conn_machine.specs.Runs.{AllAt, after}
use Rattle.conn_state.specs.Known.{KnownOutside}
use Rattle.table_rule.specs.declared.view.LastLeft.{LastLeft}
use Rattle.table_rule.specs.declared.view.View.{View}
use Rattle.table_rule.specs.Histories.{IsQueuedInTime}
use Rattle.table_rule.specs.Views.{IsFound}
use Rattle.board.specs.Board.{SeenBoard}
use Rattle.board.specs.Ledger.{ledger_of}
use Rattle.board_book.specs.ClosedDown.{HasNoLive}
use Rattle.board_turns.specs.Books.{state_of}
use Rattle.board_turns.specs.Rests.{TurnsRestOn}
use Rattle.listener_turns.specs.Folds.{HasDropped}
use Rattle.listener_parts.specs.Rounds.{OpenedWithNone}
use Rattle.listener_parts.proofs.DownLemmas.{down_seen}
use Rattle.listener_hands.specs.Closed.{ClosesAs}

-- where no connection is live it is all that pass 0 has seen
pub closes_as : TurnsRestOn → QuietTablesAreTheListeners → (known : Option KnownOutside) (v : View) (b : SeenBoard) (history : List Entry)
    → IsFound v (ledger_of b) history → v.who.number ≡ 0 → OpenedWithNone v → HasNoLive (state_of v) → HasDropped known v
    → after b.book.base b.book.history ≡ b.book.state → ClosesAs known v b
closes_as rests law known v b history found number opened none d state =
    let same : history ≡ v.seen = down_seen law v history opened number none found.made found.seen in
    let before : found.left ≡ v.left = found.own number in
    let whole : v.seen ≡ v.left.entries ++ b.book.history =
    sym same ∙ found.parts.whole_is ∙ ap (λ (l : LastLeft). l.entries ++ b.book.history) before in
    let base : b.book.base ≡ after v.origin.state v.left.entries =
    found.parts.base ∙ ap (λ (l : LastLeft). after v.origin.state l.entries) before in
    record {
      made = subst (AreMade v.origin.state (opening_record v.origin.passes)) same found.made;
      few = subst (AreOfPasses v.origin.passes) same found.few;
      queued = subst (AllAt IsQueuedInTime v.origin.state) same found.queued;
      passes = found.parts.passes;
      history = whole;
      base = base;
      state =
          sym state ∙ ap (λ (s : State). after s b.book.history) base
          ∙ sym (rests.joins v.origin.state v.left.entries b.book.history) ∙ ap (after v.origin.state) (sym whole);
      ended = d.ended;
      closed = d.closed;
      answered = d.answered;
      outside = d.outside;
      record_is = found.parts.record_is ∙ ap (λ (l : LastLeft). l.folded) before ∙ d.record_is;
    }
