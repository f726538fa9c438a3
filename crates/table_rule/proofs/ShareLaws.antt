-- How many permits of a child are out, and that a child that starts has none.
use Rattle.std.proofs.Common.{◌≡◌, ◌≢◌, ℕ, ◌+◌, ◌<◌, ◌≤◌, true, List, [], ◌++◌, Option, Some, refl, sym, ap, subst, ◌∙◌, ⊎_elim, append-nil, arith}
use Rattle.std.specs.Prelude.{slice_index}
use mathlib.Core.Option as m
use lib.ListN.{get_elem?}
use Rattle.mpm_base.specs.declared.conn.ConnName.{ConnName}
use Rattle.mpm_base.specs.declared.shape.Shape.{Shape}
use Rattle.mpm_base.specs.Shape.{is_in_bounds}
use Rattle.conn_machine.specs.declared.event.Entry.{Entry}
use Rattle.conn_machine.specs.declared.event.Event.TheVariants as event
use Rattle.conn_machine.specs.declared.folded.Folded.{Folded}
use Rattle.conn_machine.specs.declared.row.Row.{Row}
use Rattle.conn_machine.specs.declared.state.State.{State}
use Rattle.conn_machine.specs.BetweenTurns.{StartedChildrenHaveNobodysConnection}
use Rattle.conn_machine.specs.Folds.{opening_record}
use Rattle.conn_machine.specs.Laws.{StaysSound}
use Rattle.conn_machine.specs.Made.{AreMade, IsOpened}
use Rattle.conn_machine.specs.Rows.{live_row}
use Rattle.conn_machine.specs.Runs.{Run, after, row_from}
use Rattle.conn_machine.specs.Sound.{IsSound}
use Rattle.conn_machine.specs.States.{opening_state}
use Rattle.conn_machine.specs.Table.{is_allowed}
use Rattle.table_rule.specs.declared.view.View.{View}
use Rattle.table_rule.specs.Histories.{threads_of}
use Rattle.table_rule.specs.IdleWords.{AreIdleWords, bit_at, permits, sum_of}
use Rattle.table_rule.proofs.MachineLemmas.{EachKeepsItsOwn}
use Rattle.table_rule.proofs.SumLemmas.{bit_self, sum_has}
use Rattle.table_rule.proofs.WorkerLaws.{AreViews}

-- no more permits are out than the child has workers
pub permits_fit : (s : State) (words : List ℕ) (views : List View) (credits : List ℕ) → AreIdleWords s words views credits → (k : ℕ) → k < 32
    → sum_of (permits k) views ≤ threads_of s k
permits_fit s words views credits idle k lt =
    let p = idle.permitted k lt in
    ⊎_elim (λ z. omega arith) (λ z. omega arith) (idle.credited k lt)

-- what is taken of the machine for a child that starts
pub record StartsAlone : Type 0 where
  pub own : EachKeepsItsOwn
  pub opening : (slots children : ℕ) (shape : Shape) → is_in_bounds shape ≡ true → IsSound (opening_state slots children shape)
  pub run : (s : State) (history : List Entry) → IsSound s → Run s history → StaysSound s history
  pub runs : (base : State) (f : Folded) (history : List Entry) → AreMade base f history → Run base history
  pub starts : StartedChildrenHaveNobodysConnection

sound_behind : StartsAlone → (start : State) (passes : ℕ) (history : List Entry) → IsOpened start → AreMade start (opening_record passes) history → IsSound (after start history)
sound_behind laws start passes history opened made =
    let sound : IsSound start = subst IsSound (sym opened.state) (laws.opening opened.slots opened.children opened.shape opened.bounds) in
    laws.run start history sound (laws.runs start (opening_record passes) history made) history [] (sym (append-nil history))

-- nobody has a permit of it
pub started_no_permit : StartsAlone → (start : State) (passes : ℕ) (history : List Entry) (words : List ℕ) (views : List View) (credits : List ℕ)
    → AreViews start passes history words views credits → (id k : ℕ) (v : View) → k < 32 → is_allowed (after start history) (event.StartChild k) ≡ true
    → get_elem? views id ≡ m.some v → v.hand.permit ≢ Some k
started_no_permit laws start passes history words views credits a id k v lt may at has =
    let none : threads_of (after start history) k ≡ 0 =
    laws.starts.none_works (after start history) k (sound_behind laws start passes history a.opened a.made) may in
    let fit = permits_fit (after start history) words views credits a.idle k lt in
    let one : permits k v ≡ 1 = ap (bit_at k) has ∙ bit_self k in
    let all = sum_has (permits k) views id v at in
    omega (arith, none, fit, one, all)

-- or a connection of the child that had the number before
pub started_no_row : StartsAlone → (start : State) (passes : ℕ) (history : List Entry) (words : List ℕ) (views : List View) (credits : List ℕ)
    → AreViews start passes history words views credits → (id k : ℕ) (v : View) (name : ConnName) → is_allowed (after start history) (event.StartChild k) ≡ true
    → get_elem? views id ≡ m.some v → v.row ≡ Some name → (r : Row) × (live_row (after start history).rows name ≡ Some r) × (r.child ≢ k)
started_no_row laws start passes history words views credits a id k v name may at has =
    laws.starts.nobodys (after start history) (λ p. row_from (opening_record passes) p history) k id name
    (sound_behind laws start passes history a.opened a.made)
    (laws.own.made start (opening_record passes) history (laws.own.opened start passes a.opened) a.made)
    may (laws.own.row passes id history ∙ sym (a.rows id v at) ∙ has)
