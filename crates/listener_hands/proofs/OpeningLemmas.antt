-- A lock with a board, and its passes.
use Rattle.std.proofs.Common.{◌≡◌, ◌≢◌, ℕ, zero, suc, ◌+◌, ◌-◌, ◌<◌, ◌≤◌, Bool, true, false, not, ◌||◌, List, [], ◌∷◌, ◌++◌, length, length-append, get_or, reverse, map, Option, Some, None, slice_get, refl, sym, ap, subst, ◌∙◌, arith}
use Rattle.std.proofs.lemmas.List.{get_or-reverse, length-reverse}
use Rattle.std.proofs.lemmas.Option.{get_or_from_slice_get, slice_get-get_or}
use Rattle.std.specs.Prelude.{IfSome, option_to_list, replicate, slice_index}
use Rattle.std.specs.List.{list_any}
use Rattle.atomic_table.specs.Table.{Me}
use Rattle.mpm_base.specs.declared.shape.Shape.{Shape}
use Rattle.mpm_base.specs.Shape.{is_in_bounds}
use Rattle.conn_machine.specs.declared.row.Row.{Row}
use Rattle.conn_machine.specs.Folds.{fold_of, opening_record}
use Rattle.conn_machine.specs.HistoryLaws.{FoldsAreOneFold}
use Rattle.conn_machine.specs.MachineLaws.{EachPassHasItsOwnConnection}
use Rattle.conn_machine.specs.Made.{AreMade, IsOpened}
use Rattle.conn_machine.specs.Rows.{is_live}
use Rattle.conn_machine.specs.Runs.{row_of}
use Rattle.conn_machine.specs.States.{opening_state, unused_row}
use Rattle.conn_state.specs.Known.{KnownOutside}
use Rattle.table_rule.specs.declared.view.Origin.{Origin}
use Rattle.table_rule.specs.declared.view.View.{View}
use Rattle.table_rule.specs.Tie.{IsNew, origin_of}
use Rattle.table_rule.specs.Views.{first_view}
use Rattle.board_lock.specs.Passes.{IsFree, fresh_view}
use Rattle.recycle_perch.specs.Resting.{IsFreeCarrier}
use Rattle.board.specs.Board.{SeenBoard}
use Rattle.board.specs.Ledger.{ledger_of}
use Rattle.board.specs.ReportLine.{line_of}
use Rattle.board_book.specs.ClosedDown.{HasNoLive}
use Rattle.board_turns.specs.Books.{state_of}
use Rattle.board_turns.specs.Turns.{IsListener}
use Rattle.listener_turns.specs.Folds.{HasDropped}
use Rattle.listener_parts.specs.Rounds.{OpenedWithNone}
use Rattle.listener_hands.specs.Opened.{IsNumberedBelow, OpensAt, opening_origin}

-- a board without a history may be put into a lock
pub opens : (b : SeenBoard) (slots children passes : ℕ) (shape : Shape) → is_in_bounds shape ≡ true → 1 ≤ passes → passes ≤ 4099
    → b.book.base ≡ opening_state slots children shape → b.book.folded ≡ opening_record passes → b.book.history ≡ [] → b.book.passes ≡ passes → b.ended ≡ []
    → IsNew (ledger_of b)
opens b slots children passes shape bounds some few base folded history is ended = record {
  opened = record { slots = slots; children = children; shape = shape; bounds = bounds; state = base };
  some = omega (arith, is, some);
  few = omega (arith, is, few);
  history = history;
  texts = ap (map line_of) ended;
  folded = folded ∙ ap opening_record (sym is);
}

-- the origin of its passes is that of so many slots, children and passes
pub fresh_is : {S : Type 0} (b : SeenBoard) (slots children passes : ℕ) (shape : Shape) (k : ℕ) (me : Me S View) → b.book.base ≡ opening_state slots children shape
    → b.book.passes ≡ passes → me ≡ (fresh_view (origin_of (ledger_of b)) k, []) → me ≡ (fresh_view (opening_origin slots children passes shape) k, [])
fresh_is b slots children passes shape k me base is fresh =
    let origin : origin_of (ledger_of b) ≡ opening_origin slots children passes shape = rw (base, is) refl in
    subst (λ (o : Origin). me ≡ (fresh_view o k, [])) origin fresh

-- ## The pass that listens

none_of : (n k : ℕ) → slice_index (replicate n 0) k ≡ 0
none_of zero k = refl
none_of (suc n) zero = refl
none_of (suc n) (suc k) = none_of n k

module _ {S : Type 0} (origin : Origin) (me : Me S View) (is : me ≡ (fresh_view origin 0, [])) where
  view : me.0 ≡ first_view origin origin.passes
  view = ap (λ (m : Me S View). m.0) is

  pub first_listens : IsListener me
  first_listens = record {
    turnless = record { hand = ap (λ (m : Me S View). m.1) is; turn = ap (λ (q : View). q.turn) view };
    number = ap (λ (q : View). q.who.number) view;
    made = subst (λ (q : View). AreMade q.origin.state (opening_record q.origin.passes) q.seen) (sym view) tt;
    row_is = ap (λ (q : View). q.row) view ∙ ap (λ (q : View). row_of 0 q.seen) (sym view);
  }

  pub first_opens : OpensAt origin me.0
  first_opens = record {
    origin_is = ap (λ (q : View). q.origin) view;
    seen = ap (λ (q : View). q.seen) view;
    row = ap (λ (q : View). q.row) view;
    credits = λ k. ap (λ (q : View). slice_index q.credits k) view ∙ none_of 32 k;
    full = ap (λ (q : View). length q.credits) view;
    left = ap (λ (q : View). q.left) view;
  }

-- ## What it knows of the state

none_live : (slots : ℕ) → list_any is_live (replicate slots unused_row) ≡ false
none_live zero = refl
none_live (suc slots) = none_live slots

module _ (slots children passes : ℕ) (shape : Shape) (v : View) (o : OpensAt (opening_origin slots children passes shape) v) where
  pub state_is : state_of v ≡ opening_state slots children shape
  state_is = ap (λ l. state_of (record v { seen = l })) o.seen ∙ ap (λ (g : Origin). g.state) o.origin_is

  pub opens_live : HasNoLive (state_of v)
  opens_live = subst HasNoLive (sym state_is) (none_live slots)

  pub opens_own : EachPassHasItsOwnConnection → is_in_bounds shape ≡ true → OpenedWithNone v
  opens_own law bounds =
      law.opened v.origin.state v.origin.passes
      (record { slots = slots; children = children; shape = shape; bounds = bounds; state = ap (λ (g : Origin). g.state) o.origin_is })

  pub opens_dropped : FoldsAreOneFold → (known : Option KnownOutside) → HasDropped known v
  opens_dropped law known =
      let entries : v.left.entries ≡ [] = ap (λ l. l.entries) o.left in
      record {
        ended = [];
        closed = rw entries refl;
        answered = tt;
        outside = tt;
        record_is =
            ap (λ l. l.folded) o.left
            ∙ sym (law.nothing slots children passes shape)
            ∙ ap (λ (g : Origin). fold_of g.state [] [] (opening_record g.passes)) (sym o.origin_is)
            ∙ ap (λ es. fold_of v.origin.state es [] (opening_record v.origin.passes)) (sym entries);
      }

-- ## The carriers

-- a pass of a new lock but for the first may carry
fresh_carrier : {S : Type 0} (origin : Origin) (count i k : ℕ) (me : Me S View) → me ≡ (fresh_view origin (suc k), []) → i + suc k ≡ count
    → IsNumberedBelow count i me
fresh_carrier {S} origin count i k me is sum =
    let number : me.0.who.number ≡ suc k = ap (λ (m : Me S View). m.0.who.number) is in
    record {
      free = record {
        free = subst IsFree (sym is) record { hand = refl; idle = record { turn = refl; hand = refl; row = refl } };
        number = λ z. absurd (cc (number, z));
      };
      number = omega (arith, number, sum);
    }

-- ## Lists

-- an item between two lists
pub at_between : {X : Type 0} (xs ys : List X) (x : X) → slice_get (xs ++ x ∷ ys) (length xs) ≡ Some x
at_between [] ys x = refl
at_between (z ∷ xs) ys x = at_between xs ys x

-- an item of the first of two lists
pub at_first : {X : Type 0} (xs ys : List X) (i : ℕ) (x : X) → slice_get xs i ≡ Some x → slice_get (xs ++ ys) i ≡ Some x
at_first [] ys i x at = absurd (cc)
at_first (z ∷ xs) ys zero x at = at
at_first (z ∷ xs) ys (suc i) x at = at_first xs ys i x at

-- the last item is as all are, each by its place
pub last_at : {X : Type 0} (P : ℕ → X → Type 0) (old new : List X) (o : Option X) → old ≡ new ++ option_to_list o
    → ((i : ℕ) (x : X) → slice_get old i ≡ Some x → P i x) → IfSome o (P (length new))
last_at P old new None e all = tt
last_at P old new (Some x) e all = all (length new) x (ap (λ l. slice_get l (length new)) e ∙ at_between new [] x)

-- the last item of a list
pub at_end : {X : Type 0} (all rest : List X) (x : X) → all ≡ rest ++ x ∷ [] → slice_get all (length rest) ≡ Some x
at_end all rest x is = ap (λ l. slice_get l (length rest)) is ∙ at_between rest [] x

-- an item of a list that was turned round
pub at_reverse : {X : Type 0} (xs : List X) (i k : ℕ) (x : X) → slice_get (reverse xs) i ≡ Some x → i + k + 1 ≡ length xs → slice_get xs k ≡ Some x
at_reverse xs i k x at sum =
    let less : i < length xs = omega (arith, sum) in
    let is : get_or xs (length xs - 1 - i) x ≡ x = sym (get_or-reverse xs i x less) ∙ get_or_from_slice_get (reverse xs) i x x at in
    let same : length xs - 1 - i ≡ k = omega (arith, sum) in
    slice_get-get_or xs k x (omega (arith, sum)) ∙ ap Some (ap (λ j. get_or xs j x) (sym same) ∙ is)

-- what each item is by its place, where the list was turned round and its last one taken
module _ {X : Type 0} (P : ℕ → X → Type 0) (all rest : List X) (last : X) (items : reverse all ≡ rest ++ last ∷ []) (has : (p : ℕ) (x : X) → slice_get all p ≡ Some x → P p x) where
  long : length rest + 1 ≡ length all
  long =
      let whole : length (reverse all) ≡ length rest + 1 = ap length items ∙ length-append rest (last ∷ []) in
      let turned : length (reverse all) ≡ length all = length-reverse all in
      omega (arith, whole, turned)

  pub last_is : P 0 last
  last_is =
      let count = long in
      has 0 last
      (at_reverse all (length rest) 0 last (ap (λ l. slice_get l (length rest)) items ∙ at_between rest [] last) (omega (arith, count)))

  pub rest_is : (i k : ℕ) (x : X) → slice_get rest i ≡ Some x → i + k ≡ length rest → P k x
  rest_is i k x at sum =
      let count = long in
      has k x
      (at_reverse all i k x (ap (λ l. slice_get l i) items ∙ at_first rest (last ∷ []) i x at) (omega (arith, count, sum)))

-- a carrier of the rest
pub numbered : {S : Type 0} (origin : Origin) (count i : ℕ) (me : Me S View) → i < count
    → ((k : ℕ) → i + k ≡ count → me ≡ (fresh_view origin k, [])) → IsNumberedBelow count i me
numbered origin count i me less is =
    let k = count - i - 1 in
    let sum : i + suc k ≡ count = omega (arith, less) in
    fresh_carrier origin count i k me (is (suc k) sum) sum
