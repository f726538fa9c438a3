-- What the listener's steps leave of the child's credit, and when it may begin a generation.
use Rattle.std.proofs.Common.{◌≡◌, ℕ, Bool, true, false, List, [], ◌∷◌, length, refl, sym, ap, subst, ◌∙◌}
use Rattle.std.specs.Prelude.{if◌then◌else◌, nat_lt, slice_set}
use Rattle.atomic_table.specs.Table.{Me}
use Rattle.mpm_base.specs.declared.shape.Shape.{Shape}
use Rattle.mpm_base.specs.Shape.{is_in_bounds}
use Rattle.conn_machine.specs.declared.event.Commanded.TheVariants.{Graceful}
use Rattle.conn_machine.specs.declared.event.Entry.{Entry}
use Rattle.conn_machine.specs.declared.event.Event.TheVariants as event
use Rattle.conn_machine.specs.declared.state.State.{State}
use Rattle.conn_machine.specs.Folds.{opening_record}
use Rattle.conn_machine.specs.Made.{AreMade}
use Rattle.conn_machine.specs.Runs.{row_of}
use Rattle.conn_machine.specs.States.{is_halted, is_serving}
use Rattle.conn_machine.specs.Table.{greatest_generation, is_allowed}
use Rattle.table_rule.specs.declared.view.Origin.{Origin}
use Rattle.table_rule.specs.declared.view.View.{View}
use Rattle.table_rule.specs.Steps.{uncredited_view}
use Rattle.idle_workers.specs.Found.{TakesCreditBack}
use Rattle.board_turns.specs.Turns.{IsListener}
use Rattle.listener_turns.specs.Credits.{HadCreditTurn}
use Rattle.turn_tests.specs.Passes.{HasCredit}

-- the first number of a list is set
set_first : (xs : List ℕ) (n : ℕ) → length xs ≡ 32 → HasCredit n (slice_set xs 0 n)
set_first [] n long = absurd (cc)
set_first (x ∷ xs) n long = (long, refl)

pub credited : (threads : ℕ) (old mid new : View) → HasCredit 0 old.credits → mid.credits ≡ old.credits → (found : List Entry) × HadCreditTurn found 0 threads mid new
    → HasCredit threads new.credits
credited threads old mid new none before (found, t) =
    subst (HasCredit threads) (sym t.credits) (set_first mid.credits threads (ap (λ (l : List ℕ). length l) before ∙ none.0))

-- its credit goes, or stays
uncredited_by : (done : Bool) (credit : ℕ) (old new : View) → HasCredit credit old.credits → new ≡ record (uncredited_view done 0 old) { past = new.past }
    → HasCredit (if done then 0 else credit) new.credits
uncredited_by true credit old new has is = subst (HasCredit 0) (sym (ap (λ (v : View). v.credits) is)) (set_first old.credits 0 has.0)
uncredited_by false credit old new has is = subst (HasCredit credit) (sym (ap (λ (v : View). v.credits) is)) has

pub uncredited : (done : Bool) (credit : ℕ) (old new : View) → HasCredit credit old.credits → TakesCreditBack 0 credit old done new
    → HasCredit (if done then 0 else credit) new.credits
uncredited done credit old new has takes = uncredited_by done credit old new has takes.tried.0

-- and nothing else of what the listener knows is changed
record KeepsRest (old new : View) : Type 0 where
  row : new.row ≡ old.row
  turn : new.turn ≡ old.turn
  number : new.who.number ≡ old.who.number
  origin : new.origin ≡ old.origin
  seen : new.seen ≡ old.seen

uncredited_rest : (done : Bool) (old new : View) → new ≡ record (uncredited_view done 0 old) { past = new.past } → KeepsRest old new
uncredited_rest true old new is = record {
  row = ap (λ (v : View). v.row) is;
  turn = ap (λ (v : View). v.turn) is;
  number = ap (λ (v : View). v.who.number) is;
  origin = ap (λ (v : View). v.origin) is;
  seen = ap (λ (v : View). v.seen) is;
}
uncredited_rest false old new is = record {
  row = ap (λ (v : View). v.row) is;
  turn = ap (λ (v : View). v.turn) is;
  number = ap (λ (v : View). v.who.number) is;
  origin = ap (λ (v : View). v.origin) is;
  seen = ap (λ (v : View). v.seen) is;
}

pub uncredited_row : (done : Bool) (credit : ℕ) (old new : View) → TakesCreditBack 0 credit old done new → new.row ≡ old.row
uncredited_row done credit old new takes = (uncredited_rest done old new takes.tried.0).row

pub uncredited_listener : {S : Type 0} (done : Bool) (credit : ℕ) (old new : Me S View) → new.1 ≡ old.1 → TakesCreditBack 0 credit old.0 done new.0
    → IsListener old → IsListener new
uncredited_listener done credit old new hand takes is =
    let rest = uncredited_rest done old.0 new.0 takes.tried.0 in
    record {
      turnless = record { hand = hand ∙ is.turnless.hand; turn = rest.turn ∙ is.turnless.turn };
      number = rest.number ∙ is.number;
      made =
          subst (λ (o : Origin). AreMade o.state (opening_record o.passes) new.0.seen) (sym rest.origin)
          (subst (AreMade old.0.origin.state (opening_record old.0.origin.passes)) (sym rest.seen) is.made);
      row_is = rest.row ∙ is.row_is ∙ ap (row_of 0) (sym rest.seen);
    }

pub may_renew : (s : State) (shape : Shape) → is_serving s.going ≡ true → nat_lt s.newest greatest_generation ≡ true → is_in_bounds shape ≡ true
    → is_halted s.going ≡ false → is_allowed s (event.Command (Graceful shape)) ≡ true
may_renew s shape serving newest bounds going = rw (going, serving, newest, bounds) refl
