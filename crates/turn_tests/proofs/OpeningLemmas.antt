-- A lock with a board, and its passes.
use Rattle.std.proofs.Common.{◌≡◌, ◌≢◌, ℕ, zero, suc, ◌≤◌, true, List, [], ◌∷◌, ◌++◌, length, Option, Some, None, refl, sym, ap, subst, ◌∙◌, arith}
use Rattle.std.specs.Prelude.{map, slice_get, option_to_list, IfSome}
use Rattle.atomic_table.specs.Table.{Me}
use Rattle.mpm_base.specs.declared.shape.Shape.{Shape}
use Rattle.mpm_base.specs.Shape.{is_in_bounds}
use Rattle.conn_machine.specs.Folds.{opening_record}
use Rattle.conn_machine.specs.Made.{AreMade}
use Rattle.conn_machine.specs.Runs.{row_of}
use Rattle.conn_machine.specs.States.{opening_state}
use Rattle.table_rule.specs.declared.view.Origin.{Origin}
use Rattle.table_rule.specs.declared.view.View.{View}
use Rattle.table_rule.specs.Tie.{IsNew}
use Rattle.board_lock.specs.Passes.{HasNoTurn, IsFree, fresh_view}
use Rattle.recycle_perch.specs.Resting.{IsFreeCarrier}
use Rattle.board.specs.Board.{SeenBoard}
use Rattle.board.specs.Ledger.{ledger_of}
use Rattle.board.specs.ReportLine.{line_of}
use Rattle.turn_tests.specs.Passes.{HasCredit, IsFresh}
use Rattle.board_turns.specs.Turns.{IsListener}

-- a board without a history may be put into a lock
pub opens : (b : SeenBoard) (slots children passes : ℕ) (shape : Shape) → is_in_bounds shape ≡ true → 1 ≤ passes → passes ≤ 4099
    → b.book.base ≡ opening_state slots children shape → b.book.folded ≡ opening_record passes → b.book.history ≡ [] → b.book.passes ≡ passes → b.ended ≡ []
    → IsNew (ledger_of b)
opens b slots children passes shape bounds some few base folded history is ended = record {
  opened = record { slots = slots; children = children; shape = shape; bounds = bounds; state = base };
  some = omega (arith, is, some);
  few = omega (arith, is, few);
  history = history;
  texts = ap (map line_of) ended;
  folded = folded ∙ ap opening_record (sym is);
}

-- ## Passes of a new lock

module _ {S : Type 0} where
  -- the listener's has no turn, no connection and no credit
  fresh_listener : (origin : Origin) (p : ℕ) (me : Me S View) → me ≡ (fresh_view origin p, []) → me.0.who.number ≡ 0 → IsListener me
  fresh_listener origin zero me is number = record {
    turnless = subst HasNoTurn (sym is) record { hand = refl; turn = refl };
    number = number;
    made = subst (λ (m : Me S View). AreMade m.0.origin.state (opening_record m.0.origin.passes) m.0.seen) (sym is) tt;
    row_is = ap (λ (m : Me S View). m.0.row) is ∙ ap (λ (m : Me S View). row_of 0 m.0.seen) (sym is);
  }
  fresh_listener origin (suc p) me is number =
      let other : suc p ≡ 0 = sym (ap (λ (m : Me S View). m.0.who.number) is) ∙ number in
      absurd (cc)

  pub listener : (me : Me S View) → IsFresh me → me.0.who.number ≡ 0 → IsListener me
  listener me fresh number = fresh_listener fresh.0 fresh.1 me fresh.2 number

  -- none has one
  fresh_free : (origin : Origin) (p : ℕ) (me : Me S View) → me ≡ (fresh_view origin p, []) → HasNoTurn me
  fresh_free origin zero me is = subst HasNoTurn (sym is) record { hand = refl; turn = refl }
  fresh_free origin (suc p) me is = subst HasNoTurn (sym is) record { hand = refl; turn = refl }

  pub no_turn : (me : Me S View) → IsFresh me → HasNoTurn me
  no_turn me fresh = fresh_free fresh.0 fresh.1 me fresh.2

  fresh_row : (origin : Origin) (p : ℕ) (me : Me S View) → me ≡ (fresh_view origin p, []) → me.0.row ≡ None
  fresh_row origin zero me is = ap (λ (m : Me S View). m.0.row) is
  fresh_row origin (suc p) me is = ap (λ (m : Me S View). m.0.row) is

  pub no_row : (me : Me S View) → IsFresh me → me.0.row ≡ None
  no_row me fresh = fresh_row fresh.0 fresh.1 me fresh.2

  -- no child has a credit
  fresh_credit : (origin : Origin) (p : ℕ) (me : Me S View) → me ≡ (fresh_view origin p, []) → me.0.who.number ≡ 0 → HasCredit 0 me.0.credits
  fresh_credit origin zero me is number = subst (λ (m : Me S View). HasCredit 0 m.0.credits) (sym is) (refl, refl)
  fresh_credit origin (suc p) me is number =
      let other : suc p ≡ 0 = sym (ap (λ (m : Me S View). m.0.who.number) is) ∙ number in
      absurd (cc)

  pub no_credit : (me : Me S View) → IsFresh me → me.0.who.number ≡ 0 → HasCredit 0 me.0.credits
  no_credit me fresh number = fresh_credit fresh.0 fresh.1 me fresh.2 number

  -- another one may carry, and has nothing
  fresh_carrier : (origin : Origin) (p : ℕ) (me : Me S View) → me ≡ (fresh_view origin p, []) → me.0.who.number ≢ 0 → IsFreeCarrier me
  fresh_carrier origin zero me is other = absurd (other (ap (λ (m : Me S View). m.0.who.number) is))
  fresh_carrier origin (suc p) me is other = record {
    free = subst IsFree (sym is) record { hand = refl; idle = record { turn = refl; hand = refl; row = refl } };
    number = other;
  }

  pub carrier : (me : Me S View) → IsFresh me → me.0.who.number ≢ 0 → IsFreeCarrier me
  carrier me fresh other = fresh_carrier fresh.0 fresh.1 me fresh.2 other

-- ## Lists

-- an item between two lists
at_between : {X : Type 0} (xs ys : List X) (x : X) → slice_get (xs ++ x ∷ ys) (length xs) ≡ Some x
at_between [] ys x = refl
at_between (z ∷ xs) ys x = at_between xs ys x

-- an item of the first of two lists
pub at_first : {X : Type 0} (xs ys : List X) (i : ℕ) (x : X) → slice_get xs i ≡ Some x → slice_get (xs ++ ys) i ≡ Some x
at_first [] ys i x at = absurd (cc)
at_first (z ∷ xs) ys zero x at = at
at_first (z ∷ xs) ys (suc i) x at = at_first xs ys i x at

-- the last item is as all are
pub last_has : {X : Type 0} (P : X → Type 0) (old new : List X) (o : Option X) → old ≡ new ++ option_to_list o
    → ((i : ℕ) (x : X) → slice_get old i ≡ Some x → P x) → IfSome o P
last_has P old new None e all = tt
last_has P old new (Some x) e all = all (length new) x (ap (λ l. slice_get l (length new)) e ∙ at_between new [] x)
