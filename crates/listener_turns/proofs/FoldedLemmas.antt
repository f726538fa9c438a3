-- What a fold of pass 0 leaves folded.
use Rattle.std.proofs.Common.{◌≡◌, ℕ, false, List, [], ◌++◌, map, Option, refl, sym, ap, subst, ◌∙◌, append-nil}
use Rattle.atomic_table.specs.Table.{Me}
use Rattle.conn_machine.specs.declared.event.Entry.{Entry}
use Rattle.conn_machine.specs.declared.folded.Folded.{Folded}
use Rattle.conn_machine.specs.declared.state.State.{State}
use Rattle.conn_machine.specs.Folds.{fold_of, may_fold, opening_record}
use Rattle.conn_machine.specs.Made.{AreMade, AreOfPasses, HasSeen}
use Rattle.conn_machine.specs.Runs.{after}
use Rattle.conn_state.specs.Known.{KnownOutside}
use Rattle.table_rule.specs.declared.view.LastLeft.{LastLeft}
use Rattle.table_rule.specs.declared.view.Origin.{Origin}
use Rattle.table_rule.specs.declared.view.View.{View}
use Rattle.table_rule.specs.Ledgers.{IsSplit}
use Rattle.board_lock.specs.Passes.{GaveBack, TookTurn}
use Rattle.board.specs.Board.{AreClosed, AreEnded, EndedOfOutside, SeenBoard, folded_board}
use Rattle.board.specs.BoardLaws.{EndedConnectionsJoin}
use Rattle.board.specs.Ledger.{ledger_of}
use Rattle.board.specs.ReportLine.{line_of}
use Rattle.board_turns.specs.Books.{book_of, whole_book}
use Rattle.board_turns.specs.Rests.{TurnsRestOn}
use Rattle.board_turns.specs.Turns.{HadQuietTurn, HadTurn, KeepsLeft}
use Rattle.board_turns.proofs.FoldLemmas.{fold_row, fold_seen, had_fold}
use Rattle.board_turns.proofs.FoundLemmas.{left_of}
use Rattle.board_turns.proofs.ThenLemmas.{nothing_seen, stays_as}
use Rattle.board_turns.proofs.TurnLemmas.{had_none, had_none_as}
use Rattle.listener_turns.specs.Folds.{FoldsAll, FoldsNothing, IsFolded, IsTooEarly}

-- the connection of a pass that folded, and what its turn was
pub fold_row_as : {K : Type 0} (v w u : Me (Option K) View) (old new : SeenBoard) → TurnsRestOn → TookTurn v w (ledger_of old) → GaveBack w u (ledger_of new)
    → new ≡ folded_board old → u.0.row ≡ v.0.row
fold_row_as v w u old new rests took gave is = fold_row v w u old rests took (subst (λ (b : SeenBoard). GaveBack w u (ledger_of b)) is gave)

-- of a turn in which nothing was made
quiet_turn : (old new : View) (found : List Entry) → HadTurn found [] old new → new.seen ≡ found → HadQuietTurn new.seen old new
quiet_turn old new found t seen = record {
  others = subst (HasSeen old.who.number old.seen) (sym seen) t.others;
  made = subst (AreMade old.origin.state (opening_record old.origin.passes)) (sym seen) t.made;
  few = subst (AreOfPasses old.origin.passes) (sym seen) t.few;
  seen = refl;
  stays = t.stays;
}

pub quiet_none : {K : Type 0} (v w u : Me (Option K) View) (b : SeenBoard) → TookTurn v w (ledger_of b) → GaveBack w u (ledger_of b)
    → HadQuietTurn u.0.seen v.0 u.0
quiet_none v w u b took gave = quiet_turn v.0 u.0 w.0.seen (had_none v w u b took gave) (nothing_seen v w u b took gave)

pub quiet_none_as : {K : Type 0} (v w u : Me (Option K) View) (old new : SeenBoard) → TookTurn v w (ledger_of old) → GaveBack w u (ledger_of new)
    → new ≡ old → HadQuietTurn u.0.seen v.0 u.0
quiet_none_as v w u old new took gave is = quiet_none v w u old took (subst (λ (b : SeenBoard). GaveBack w u (ledger_of b)) is gave)

pub quiet_fold_as : {K : Type 0} (v w u : Me (Option K) View) (old new : SeenBoard) → TookTurn v w (ledger_of old) → GaveBack w u (ledger_of new)
    → new ≡ folded_board old → HadQuietTurn u.0.seen v.0 u.0
quiet_fold_as v w u old new took given is =
    let gave = subst (λ (b : SeenBoard). GaveBack w u (ledger_of b)) is given in
    subst (λ (l : List Entry). HadQuietTurn l v.0 u.0) (sym (fold_seen v w u old took gave)) (had_fold v w u old took gave)

-- what is folded stays
pub kept_none : {K : Type 0} (v w u : Me (Option K) View) (b : SeenBoard) → TookTurn v w (ledger_of b) → GaveBack w u (ledger_of b) → KeepsLeft v.0 u.0
kept_none v w u b took gave = (had_none v w u b took gave).left

pub kept_none_as : {K : Type 0} (v w u : Me (Option K) View) (old new : SeenBoard) → TookTurn v w (ledger_of old) → GaveBack w u (ledger_of new)
    → new ≡ old → KeepsLeft v.0 u.0
kept_none_as v w u old new took gave is = (had_none_as v w u old new took gave is).left

-- all is folded behind a fold
pub folds_all : {K : Type 0} (known : Option KnownOutside) (v w u : Me (Option K) View) (old new : SeenBoard) → TurnsRestOn → EndedConnectionsJoin
    → TookTurn v w (ledger_of old) → GaveBack w u (ledger_of new) → v.0.who.number ≡ 0 → new ≡ folded_board old
    → AreClosed old.book.base old.book.history old.ended → AreEnded old.ended → EndedOfOutside known old.book old.ended → FoldsAll known v.0 u.0
folds_all known v w u old new rests law took given number is closed answered outside =
    let gave = subst (λ (b : SeenBoard). GaveBack w u (ledger_of b)) is given in
    let f = took.is_found in
    let before : f.left ≡ v.0.left = f.own number in
    let split : IsSplit w.0.origin u.0.left (ledger_of (folded_board old)) u.0.seen =
    (gave.is_left.own (ap (λ (q : View). q.who.number) took.view ∙ number)).0 in
    let whole : u.0.left.entries ≡ u.0.seen = sym (split.whole_is ∙ append-nil u.0.left.entries) in
    let seen : u.0.seen ≡ w.0.seen = fold_seen v w u old took gave in
    let base : old.book.base ≡ after v.0.origin.state v.0.left.entries =
    f.parts.base ∙ ap (λ (l : LastLeft). after v.0.origin.state l.entries) before in
    let had : old.book.folded ≡ v.0.left.folded = f.parts.record_is ∙ ap (λ (l : LastLeft). l.folded) before in
    let book : book_of u.0 ≡ whole_book v.0.origin w.0.seen =
    ap (λ (o : Origin). whole_book o u.0.seen) (stays_as v w u (ledger_of old) (ledger_of (folded_board old)) took gave).origin
    ∙ ap (whole_book v.0.origin) seen in
    record {
      all = whole;
      behind = old.book.history;
      goes_on = whole ∙ seen ∙ f.parts.whole_is ∙ ap (λ (l : LastLeft). l.entries ++ old.book.history) before;
      ended = old.ended;
      closed = subst (λ (s : State). AreClosed s old.book.history old.ended) base closed;
      answered = answered;
      outside =
          subst (λ b. EndedOfOutside known b old.ended) (sym book)
          (law.outside_stays known old.book (whole_book v.0.origin w.0.seen) old.ended
          (rests.whole.keeps (whole_book v.0.origin w.0.seen) old.book (left_of v w old rests took)) outside);
      record_is =
          sym split.record_is ∙ ap (λ (s : State). fold_of s old.book.history (map line_of old.ended) old.book.folded) base
          ∙ ap (fold_of (after v.0.origin.state v.0.left.entries) old.book.history (map line_of old.ended)) had;
    }

-- it was too early for one
pub folds_nothing : {K : Type 0} (v w u : Me (Option K) View) (b : SeenBoard) → TookTurn v w (ledger_of b) → GaveBack w u (ledger_of b) → v.0.who.number ≡ 0
    → may_fold b.book.folded b.book.history ≡ false → FoldsNothing v.0 u.0
folds_nothing v w u b took gave number early =
    let split : IsSplit w.0.origin u.0.left (ledger_of b) u.0.seen = (gave.is_left.own (ap (λ (q : View). q.who.number) took.view ∙ number)).0 in
    record {
      early = record {
        kept = b.book.history;
        seen = split.whole_is;
        early = ap (λ (f : Folded). may_fold f b.book.history) (sym split.record_is) ∙ early;
      };
      left = kept_none v w u b took gave;
    }
