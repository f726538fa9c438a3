-- What a connection that was taken, and left, leaves of the table, and what it brings.
use Rattle.std.proofs.Common.{◌≡◌, ℕ, Bool, true, false, ◌&&◌, cond, not, List, [], ◌∷◌, ◌++◌, Option, None, Some, is_some, Result, Ok, Err, IfErr, OnOk, refl, sym, ap, subst, ◌∙◌, append-nil, arith}
use Rattle.std.proofs.lemmas.Bool.{and_parts}
use Rattle.std.specs.List.{list_any}
use Rattle.mpm_base.specs.declared.conn.ConnName.{ConnName}
use Rattle.conn_machine.specs.declared.event.Event.{Event}
use Rattle.conn_machine.specs.declared.event.Event.TheVariants as event
use Rattle.conn_machine.specs.declared.state.State.{State}
use Rattle.conn_machine.specs.declared.row.Row.{Row}
use Rattle.conn_machine.specs.Rows.{is_vacant}
use Rattle.conn_machine.specs.Runs.{after}
use Rattle.conn_machine.specs.declared.child.Child.{Child}
use Rattle.conn_machine.specs.declared.state.Going.{Going}
use Rattle.conn_machine.specs.declared.state.Going.TheVariants.{Serving}
use Rattle.conn_machine.specs.Children.{is_empty}
use Rattle.conn_machine.specs.States.{is_halted, is_over, is_serving, pick_child, is_at_its_end, is_staffed}
use Rattle.conn_machine.specs.Table.{next}
use Rattle.board_book.specs.Book.{SeenBook}
use Rattle.board_book.specs.Finds.{acceptable}
use Rattle.board_book.specs.declared.faults.BoardFault.{BoardFault}
use Rattle.worker_group.specs.declared.service.Exit.{Exit}
use Rattle.worker_group.specs.declared.service.Exit.TheVariants as exit
use Rattle.worker_group.specs.Acts.{Acts, ActsInSteps}
use Rattle.worker_group.specs.Service.{left_events}
use Rattle.rounds.specs.ClosingInside.{state_by}
use Rattle.rounds.specs.PartsInside.{GivesUp, StaysTimely}
use Rattle.rounds.specs.TableInside.{NoneDueLate, StandsInTime}
use Rattle.rounds.proofs.ClosingLemmas.{GoesOnFrom, acts-state}
use Rattle.rounds.proofs.DueLemmas.{KeepsOthers, LeavesOthers, LeavesQuiet, due-by, left-others, left-quiet, others-more, set-false, set-other}
use Rattle.rounds.proofs.TimelyLemmas.{children-plain, not-at_end_serving, plain-left, stays-none, stays-plain}
use Rattle.listener_round.specs.Pace.{Brought, brought, taken}
use Rattle.listener_round.specs.ShareInside.{MakesOneAtMost}
use Rattle.listener_round.proofs.BroughtLemmas.{brought-as, unbrought-left}

-- the listener takes a connection only while the server takes connections
serving-of : (serves : Bool) (found : Option ℕ) → is_some (cond serves found None) ≡ true → serves ≡ true
serving-of true found is = refl
serving-of false found is = absurd (cc is)

first-of : (a b : Bool) → (a && b) ≡ true → a ≡ true
first-of a b both = (and_parts a b both).0

pub before-taking : (s : State) → is_some (acceptable s) ≡ true → is_at_its_end s ≡ false
before-taking s is =
    not-at_end_serving s
    (first-of (is_serving s.going) (list_any (λ (r : Row). is_vacant r.place) s.rows)
    (serving-of (is_serving s.going && list_any (λ (r : Row). is_vacant r.place) s.rows) (pick_child s) is))

-- the table behind it
taken-quiet : LeavesOthers → (s : State) (name : ConnName) (way : Exit) → LeavesQuiet name s (state_by s (event.Accept name.slot ∷ left_events way name))
taken-quiet law s name way =
    let held = next s (event.Accept name.slot) in
    let took : KeepsOthers name.slot s held =
    record {
      rows = λ other apart. law s.rows name.slot other _ apart;
      signals = λ other apart. set-other s.signals name.slot other false apart;
      moment = refl;
    } in
    record {
      others = others-more name.slot s held (state_by held (left_events way name)) took (left-others law held name way);
      quiet = left-quiet held name way (set-false s.signals name.slot);
    }

-- how it was left: as the front watches it, or given up
record IsLeft (name : ConnName) (m b : SeenBook) : Type 0 where
  pub way : Exit
  pub acts : Acts 0 (left_events way name) None m b

left-by : {T : Type 0} (r : Result T BoardFault) (way : Exit) (name : ConnName) (m b : SeenBook) → OnOk r (Acts 0 (left_events way name) None m b)
    → IfErr r (λ f. GivesUp f name m b) → IsLeft name m b
left-by (Ok x) way name m b left given = record { way = way; acts = left }
left-by (Err fault) way name m b left given = record { way = exit.GiveUp fault; acts = given }

-- a connection was taken and left: the listener did so in its time, the children are as they were, none is due late that wasn't, and it
-- brought one that was taken
pub record TakesInPlace (a b : SeenBook) : Type 0 where
  pub timely : StaysTimely a b
  pub children : b.state.children ≡ a.state.children
  pub soon : NoneDueLate a.state → NoneDueLate b.state
  pub made : brought b.history ≡ brought a.history ++ taken ∷ []

takes-acts : GoesOnFrom → LeavesOthers → (name : ConnName) (way : Exit) (a b : SeenBook) → Acts 0 (event.Accept name.slot ∷ left_events way name) None a b
    → after a.base a.history ≡ a.state → after b.base b.history ≡ b.state → is_at_its_end a.state ≡ false → TakesInPlace a b
takes-acts joins others name way a b acts here there before =
    let es : List Event = event.Accept name.slot ∷ left_events way name in
    record {
      timely = stays-plain 0 es None a b acts here (refl, plain-left way name) before;
      children = children-plain joins 0 es None a b acts here there (refl, plain-left way name);
      soon =
          λ soon. subst NoneDueLate (sym (acts-state joins 0 es None a b here there acts))
          (due-by name a.state (state_by a.state es) (taken-quiet others a.state name way) soon);
      made =
          brought-as es None a b (taken ∷ []) acts (ap (λ (xs : List Brought). taken ∷ xs) (unbrought-left way name));
    }

pub takes-in_place : GoesOnFrom → ActsInSteps → LeavesOthers → {T : Type 0} → (r : Result T BoardFault) (way : Exit) (name name' : ConnName) (a m b : SeenBook)
    → Acts 0 (event.Accept name.slot ∷ []) (Some name) a m → name' ≡ name → OnOk r (Acts 0 (left_events way name') None m b)
    → IfErr r (λ f. GivesUp f name' m b) → after a.base a.history ≡ a.state → after b.base b.history ≡ b.state → is_at_its_end a.state ≡ false
    → TakesInPlace a b
takes-in_place joins steps others r way name name' a m b took same left given here there before =
    let way' = left-by r way name' m b left given in
    let leaves : Acts 0 (left_events way'.way name) None m b = subst (λ (n : ConnName). Acts 0 (left_events way'.way n) None m b) same way'.acts in
    takes-acts joins others name way'.way a b
    (steps.more 0 (event.Accept name.slot ∷ []) (left_events way'.way name) (Some name) None a m b took leaves) here there before

-- one that could not be taken was, or wasn't
pub makes-one : (a b : SeenBook) → TakesInPlace a b → MakesOneAtMost a b
makes-one a b takes = record { many = 1; one = omega arith; made = takes.made }

pub makes-none : (a b : SeenBook) → b ≡ a → MakesOneAtMost a b
makes-none a b same = record { many = 0; one = omega arith; made = ap (λ (x : SeenBook). brought x.history) same ∙ sym (append-nil (brought a.history)) }

-- nothing was done
pub timely-same : (a b : SeenBook) → b ≡ a → StaysTimely a b
timely-same a b same = subst (StaysTimely a) (sym same) (stays-none a)

-- ## How the server stands

-- a graceful stop is at its end where it was so with the same children
pub end-same : (a b : State) → b.going ≡ a.going → b.children ≡ a.children → is_at_its_end a ≡ false → is_at_its_end b ≡ false
end-same a b going children before =
    ap (λ (x : Going). not (is_serving x) && not (is_halted x) && not (is_staffed b)) going
    ∙ ap (λ (xs : List Child). not (is_serving a.going) && not (is_halted a.going) && not (list_any (λ (c : Child). not (is_empty c.phase)) xs)) children
    ∙ before

pub staffed-same : (a b : State) → b.children ≡ a.children → is_staffed a ≡ true → is_staffed b ≡ true
staffed-same a b children staffed = ap (list_any (λ (c : Child). not (is_empty c.phase))) children ∙ staffed

-- it stands in its time where the time of a graceful stop isn't over
pub stands-within : (a b : State) → b.moment ≡ a.moment → b.going ≡ a.going → is_over a.moment a.going ≡ false → is_staffed b ≡ true → StandsInTime b
stands-within a b moment going none staffed = record {
  within =
      λ over.
      let still : is_over b.moment b.going ≡ false = ap (λ (m : ℕ). is_over m b.going) moment ∙ ap (is_over a.moment) going ∙ none in
      absurd (cc (sym still ∙ over));
  staffed = staffed;
}

-- at first, as the server takes connections
pub stands-started : (a b : State) → a.going ≡ Serving → b.going ≡ a.going → is_staffed b ≡ true → StandsInTime b
stands-started a b serving going staffed = record {
  within =
      λ over. let none : is_over b.moment b.going ≡ false = ap (is_over b.moment) (going ∙ serving) in
      absurd (cc (sym none ∙ over));
  staffed = staffed;
}
