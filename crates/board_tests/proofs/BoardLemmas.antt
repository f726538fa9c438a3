-- A turn with a board may be given back.
use Rattle.std.proofs.Common.{◌≡◌, inl, ℕ, zero, suc, ◌<◌, true, List, [], ◌∷◌, ◌++◌, length, Some, None, refl, sym, ap, subst, ◌∙◌, append-nil, arith}
use Rattle.std.proofs.lemmas.List.{append_cancel_left}
use Rattle.std.specs.Prelude.{map, slice_get, option_to_list, IfSome, Option, Result, OnOk, OnErr}
use Rattle.std.specs.declared.result.Result.TheVariants.{Ok, Err}
use Rattle.atomic_table.specs.Table.{Me}
use Rattle.mpm_base.specs.declared.shape.Shape.{Shape}
use Rattle.conn_machine.specs.declared.event.Entry.{Entry}
use Rattle.conn_machine.specs.declared.event.Event.TheVariants.{StartChild}
use Rattle.conn_machine.specs.declared.kept.Ledger.{Ledger}
use Rattle.mpm_base.specs.Shape.{is_in_bounds}
use Rattle.conn_machine.specs.Folds.{opening_record}
use Rattle.conn_machine.specs.Runs.{AreEntriesOf}
use Rattle.conn_machine.specs.States.{opening_state}
use Rattle.table_rule.specs.declared.view.LastLeft.{LastLeft}
use Rattle.table_rule.specs.declared.view.Origin.{Origin}
use Rattle.table_rule.specs.declared.view.View.{View}
use Rattle.table_rule.specs.Ledgers.{IsSplit, MayGiveBack}
use Rattle.table_rule.specs.Tie.{IsNew}
use Rattle.board_lock.specs.Passes.{HasNoTurn, TookTurn, fresh_view}
use Rattle.board_book.specs.declared.faults.BoardFault.{BoardFault}
use Rattle.board.specs.Board.{SeenBoard}
use Rattle.board_book.specs.Book.{AddsOnly, entry_of}
use Rattle.board.specs.Events.{IsAdded, with_recorded}
use Rattle.board.specs.Ledger.{ledger_of}
use Rattle.board.specs.ReportLine.{line_of}

-- ## A new lock

-- a board without a history may be put into a lock
pub opens : (b : SeenBoard) (slots children : ℕ) (shape : Shape) → is_in_bounds shape ≡ true → b.book.base ≡ opening_state slots children shape
    → b.book.folded ≡ opening_record 2 → b.book.history ≡ [] → b.book.passes ≡ 2 → b.ended ≡ [] → IsNew (ledger_of b)
opens b slots children shape bounds base folded history passes ended = record {
  opened = record { slots = slots; children = children; shape = shape; bounds = bounds; state = base };
  some = omega (arith, passes);
  few = omega (arith, passes);
  history = history;
  texts = ap (map line_of) ended;
  folded = folded ∙ ap opening_record (sym passes);
}

-- a fresh pass has no turn
pub fresh : {K : Type 0} (origin : Origin) (p : ℕ) (me : Me (Option K) View) → me ≡ (fresh_view origin p, []) → HasNoTurn me
fresh origin zero me is = subst HasNoTurn (sym is) record { hand = refl; turn = refl }
fresh origin (suc p) me is = subst HasNoTurn (sym is) record { hand = refl; turn = refl }

-- ## What a turn finds

-- there is some pass
pub has_passes : {K : Type 0} (v w : Me (Option K) View) (b : SeenBoard) → TookTurn v w (ledger_of b) → 0 < b.book.passes
has_passes v w b took =
    let f = took.is_found in
    more v.0.who.number b.book.passes (subst (λ n. v.0.who.number < n) (sym f.parts.passes) f.number)
  where
    more : (p n : ℕ) → p < n → 0 < n
    more p n lt = omega arith

-- ## What a turn may leave

-- the board as it was found
pub may_stay : {K : Type 0} (v w : Me (Option K) View) (b : SeenBoard) → TookTurn v w (ledger_of b) → MayGiveBack w.0 (ledger_of b)
may_stay v w b took = (
  ledger_of b,
  ap (λ (u : View). u.turn) took.view,
  record {
    added = [];
    change = inl record { base = refl; record_is = refl; history = sym (append-nil b.book.history); texts = ([], sym (append-nil (map line_of b.ended))) };
    passes = refl;
    entries = tt;
    permitted = tt;
  },
)

-- what a pass may add behind a value it may add behind the whole history that the value stands for
abbrev pub StandsForWhole : Type 0
StandsForWhole =
    (origin : Origin) (left : LastLeft) (l : Ledger) (whole added : List Entry) (p : ℕ) → IsSplit origin left l whole → p < origin.passes
    → AreEntriesOf p l.base l.folded l.history added → AreEntriesOf p origin.state (opening_record origin.passes) whole added

-- an entry of pass 0 is one that it may make behind what it has seen
own_entry : {K : Type 0} (v w : Me (Option K) View) (b : SeenBoard) (e : Entry) → StandsForWhole → TookTurn v w (ledger_of b)
    → v.0.who.number ≡ 0 → AddsOnly 0 b.book (record b.book { history = b.book.history ++ e ∷ [] })
    → AreEntriesOf w.0.who.number w.0.origin.state (opening_record w.0.origin.passes) w.0.seen (e ∷ [])
own_entry v w b e stands took number adds =
    let is : adds.0 ≡ e ∷ [] = append_cancel_left b.book.history adds.0 (e ∷ []) (sym adds.1) in
    let own = subst (AreEntriesOf 0 b.book.base b.book.folded b.book.history) is adds.2 in
    let f = took.is_found in
    let whole = stands v.0.origin f.left (ledger_of b) w.0.seen (e ∷ []) 0 f.parts (subst (λ n. n < v.0.origin.passes) number f.number) own in
    subst (λ (u : View). AreEntriesOf u.who.number u.origin.state (opening_record u.origin.passes) w.0.seen (e ∷ [])) (sym took.view)
    (subst (λ p. AreEntriesOf p v.0.origin.state (opening_record v.0.origin.passes) w.0.seen (e ∷ [])) (sym number) whole)

-- the board with the entry that starts the child
may_start : {K : Type 0} (v w : Me (Option K) View) (b : SeenBoard) (k : ℕ) → StandsForWhole → TookTurn v w (ledger_of b)
    → v.0.who.number ≡ 0 → AddsOnly 0 b.book (with_recorded 0 (StartChild k) b).book → MayGiveBack w.0 (ledger_of (with_recorded 0 (StartChild k) b))
may_start v w b k stands took number adds = (
  ledger_of b,
  ap (λ (u : View). u.turn) took.view,
  record {
    added = entry_of 0 (StartChild k) b.book ∷ [];
    change = inl record { base = refl; record_is = refl; history = refl; texts = ([], sym (append-nil (map line_of b.ended))) };
    passes = refl;
    entries = own_entry v w b (entry_of 0 (StartChild k) b.book) stands took number adds;
    permitted = (tt, tt);
  },
)

-- the board after the call that starts a child, whatever it answers
pub may_end : {K T : Type 0} (v w : Me (Option K) View) (old new : SeenBoard) (k : ℕ) (result : Result T BoardFault) → StandsForWhole
    → TookTurn v w (ledger_of old) → v.0.who.number ≡ 0 → OnOk result (IsAdded 0 (StartChild k) old new) → OnErr result (new ≡ old)
    → AddsOnly 0 old.book new.book → MayGiveBack w.0 (ledger_of new)
may_end v w old new k (Ok x) stands took number ok err adds =
    subst (λ b. MayGiveBack w.0 (ledger_of b)) (sym ok.new_is)
    (may_start v w old k stands took number (subst (λ b. AddsOnly 0 old.book b.book) ok.new_is adds))
may_end v w old new k (Err e) stands took number ok err adds =
    subst (λ b. MayGiveBack w.0 (ledger_of b)) (sym err) (may_stay v w old took)

-- ## Lists

-- an item between two lists
at_between : {X : Type 0} (xs ys : List X) (x : X) → slice_get (xs ++ x ∷ ys) (length xs) ≡ Some x
at_between [] ys x = refl
at_between (z ∷ xs) ys x = at_between xs ys x

-- an item of the first of two lists
pub at_first : {X : Type 0} (xs ys : List X) (i : ℕ) (x : X) → slice_get xs i ≡ Some x → slice_get (xs ++ ys) i ≡ Some x
at_first [] ys i x at = absurd (cc)
at_first (z ∷ xs) ys zero x at = at
at_first (z ∷ xs) ys (suc i) x at = at_first xs ys i x at

-- the last item is as all are
pub last_has : {X : Type 0} (P : X → Type 0) (old new : List X) (o : Option X) → old ≡ new ++ option_to_list o
    → ((i : ℕ) (x : X) → slice_get old i ≡ Some x → P x) → IfSome o P
last_has P old new None e all = tt
last_has P old new (Some x) e all = all (length new) x (ap (λ l. slice_get l (length new)) e ∙ at_between new [] x)
