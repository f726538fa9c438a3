-- What a turn of pass 0 leaves it, where the board was folded.
use Rattle.std.proofs.Common.{◌≡◌, ⊎_elim, ℕ, ◌+◌, Bool, true, false, List, [], ◌∷◌, ◌++◌, length, Option, Some, None, refl, sym, ap, subst, ◌∙◌, append-nil, arith}
use Rattle.std.proofs.lemmas.List.{append_cancel_left}
use Rattle.std.specs.Prelude.{Result, OnErr, OnOk}
use Rattle.std.specs.declared.result.Result.TheVariants.{Ok, Err}
use Rattle.atomic_table.specs.Table.{Me}
use Rattle.conn_machine.specs.declared.event.Entry.{Entry}
use Rattle.conn_machine.specs.declared.event.Event.{Event}
use Rattle.conn_machine.specs.declared.folded.Folded.{Folded}
use Rattle.conn_machine.specs.Runs.{has_after, row_of}
use Rattle.table_rule.specs.declared.view.View.{View}
use Rattle.table_rule.specs.Ledgers.{FoldsOn, KeepsOn}
use Rattle.board_lock.specs.Passes.{GaveBack, TookTurn}
use Rattle.board.specs.Board.{SeenBoard, folded_board}
use Rattle.board_book.specs.Book.{entry_of}
use Rattle.board.specs.Ledger.{ledger_of}
use Rattle.board_turns.specs.Rests.{TurnsRestOn}
use Rattle.board_turns.specs.Turns.{HadQuietTurn}
use Rattle.board_turns.proofs.FoundLemmas.{own_row}
use Rattle.board_turns.proofs.GoesOnLemmas.{Changes}
use Rattle.board_turns.proofs.ThenLemmas.{nothing_row_as, row_then, stays_as}

-- ## The row

-- an event that leaves a pass its connection, or nothing, leaves it that
pub keeps_row : {K : Type 0} (v w u : Me (Option K) View) (who : ℕ) (b : Bool) (e : Event) (old new : SeenBoard) → TurnsRestOn → TookTurn v w (ledger_of old)
    → GaveBack w u (ledger_of new) → v.0.who.number ≡ who → Changes b who e old new → has_after v.0.row e (entry_of who e old.book).reply ≡ v.0.row → u.0.row ≡ v.0.row
keeps_row v w u who true e old new rests took gave number m keeps = row_then v w u who e old new rests took gave number m ∙ keeps
keeps_row v w u who false e old new rests took gave number same keeps = nothing_row_as v w u old new rests took gave same

-- ## Folds

none_both : {X : Type 0} (xs ys : List X) → length (xs ++ ys) ≡ length xs → ys ≡ []
none_both [] [] e = refl
none_both [] (y ∷ ys) e = absurd (omega arith)
none_both (x ∷ xs) ys e = none_both xs ys (omega (arith, e))

none_all : {X : Type 0} (xs : List X) → length xs ≡ 0 → xs ≡ []
none_all [] e = refl
none_all (x ∷ xs) e = absurd (omega arith)

kept_nothing : (b : SeenBoard) (added : List Entry) → KeepsOn (ledger_of b) (ledger_of (folded_board b)) added → added ≡ []
kept_nothing b added k =
    let count : b.book.folded.entries + length b.book.history ≡ b.book.folded.entries = ap (λ (f : Folded). f.entries) k.record_is in
    let none : b.book.history ≡ [] = none_all b.book.history (omega (arith, count)) in
    append_cancel_left b.book.history added [] (sym k.history ∙ sym (append-nil b.book.history ∙ none))

folded_nothing : (b : SeenBoard) (added : List Entry) → FoldsOn (ledger_of b) (ledger_of (folded_board b)) added → added ≡ []
folded_nothing b added k =
    let count : b.book.folded.entries + length b.book.history ≡ b.book.folded.entries + length (b.book.history ++ k.before) = ap (λ (f : Folded). f.entries) k.record_is in
    let none : k.before ≡ [] = none_both b.book.history k.before (omega (arith, count)) in
    k.added_is ∙ ap (λ l. l ++ k.behind) none ∙ sym k.history

some_by : {X : Type 0} (o : Option X) (a b : X) → o ≡ Some a → o ≡ Some b → a ≡ b
some_by None a b ea eb = absurd (cc)
some_by (Some x) a b ea eb = cc

-- a pass that folded has seen what its turn found
pub fold_seen : {K : Type 0} (v w u : Me (Option K) View) (b : SeenBoard) → TookTurn v w (ledger_of b) → GaveBack w u (ledger_of (folded_board b)) → u.0.seen ≡ w.0.seen
fold_seen v w u b took gave =
    let e = gave.ends in
    let found : e.found ≡ ledger_of b = some_by w.0.turn e.found (ledger_of b) e.turn (ap (λ (q : View). q.turn) took.view) in
    let none : e.change.added ≡ [] =
    ⊎_elim
    (λ (k : KeepsOn e.found (ledger_of (folded_board b)) e.change.added).
    kept_nothing b e.change.added (subst (λ l. KeepsOn l (ledger_of (folded_board b)) e.change.added) found k))
    (λ (k : (w.0.who.number ≡ 0) × FoldsOn e.found (ledger_of (folded_board b)) e.change.added).
    folded_nothing b e.change.added (subst (λ l. FoldsOn l (ledger_of (folded_board b)) e.change.added) found k.1))
    e.change.change in
    e.seen ∙ ap (λ l. w.0.seen ++ l) none ∙ append-nil w.0.seen

pub had_fold : {K : Type 0} (v w u : Me (Option K) View) (b : SeenBoard) → TookTurn v w (ledger_of b) → GaveBack w u (ledger_of (folded_board b))
    → HadQuietTurn w.0.seen v.0 u.0
had_fold v w u b took gave =
    let f = took.is_found in record {
      others = f.seen;
      made = f.made;
      few = f.few;
      seen = fold_seen v w u b took gave;
      stays = stays_as v w u (ledger_of b) (ledger_of (folded_board b)) took gave;
    }

pub fold_row : {K : Type 0} (v w u : Me (Option K) View) (b : SeenBoard) → TurnsRestOn → TookTurn v w (ledger_of b) → GaveBack w u (ledger_of (folded_board b))
    → u.0.row ≡ v.0.row
fold_row v w u b rests took gave =
    (stays_as v w u (ledger_of b) (ledger_of (folded_board b)) took gave).row ∙ ap (row_of v.0.who.number) (fold_seen v w u b took gave) ∙ own_row v w b rests took

-- whether it was folded or not
pub try_fold_row : {K T E : Type 0} (v w u : Me (Option K) View) (old new : SeenBoard) (r : Result T E) → TurnsRestOn → TookTurn v w (ledger_of old)
    → GaveBack w u (ledger_of new) → OnOk r (new ≡ folded_board old) → OnErr r (new ≡ old) → u.0.row ≡ v.0.row
try_fold_row v w u old new (Ok x) rests took gave ok err = fold_row v w u old rests took (subst (λ (b : SeenBoard). GaveBack w u (ledger_of b)) ok gave)
try_fold_row v w u old new (Err x) rests took gave ok err = nothing_row_as v w u old new rests took gave err
