-- At the end of a graceful stop no connection is left, and no child.
use Rattle.std.proofs.Common.{◌≡◌, ◌≢◌, ◌==◌, ℕ, zero, suc, ◌<◌, Bool, true, false, not, ◌&&◌, ◌||◌, List, [], ◌∷◌, length, refl, sym, ap, ◌∙◌, arith}
use Rattle.std.specs.List.{list_any}
use Rattle.std.proofs.lemmas.Bool.{and_parts}
use Rattle.mpm_base.specs.declared.conn.ConnName.{ConnName}
use Rattle.std.specs.Prelude.{Option}
use Rattle.conn_machine.specs.declared.child.Child.{Child}
use Rattle.conn_machine.specs.declared.child.ChildPhase.{ChildPhase}
use Rattle.conn_machine.specs.declared.child.ChildPhase.TheVariants.{Empty, Running, Stopping}
use Rattle.conn_machine.specs.declared.event.Event.{Event}
use Rattle.conn_machine.specs.declared.event.Event.TheVariants as event
use Rattle.conn_machine.specs.declared.row.Row.{Row}
use Rattle.conn_machine.specs.declared.state.State.{State}
use Rattle.conn_machine.specs.Children.{child_at, is_empty, is_stopping}
use Rattle.conn_machine.specs.Events.{needs_child}
use Rattle.conn_machine.specs.Rows.{lives_and}
use Rattle.conn_machine.specs.Runs.{may_make}
use Rattle.conn_machine.specs.Sound.{IsSound}
use Rattle.conn_machine.specs.States.{is_at_its_end, is_halted, is_serving, is_signalled, is_staffed}
use Rattle.conn_machine.specs.Table.{child_passes, is_allowed, is_vacant_at, may_be_queued, may_be_held, may_wait}
use Rattle.conn_machine.proofs.ChildSound.{passes-child}
use Rattle.conn_machine.proofs.PassLaw.{listener_alone}
use Rattle.conn_machine.proofs.RowLemmas.{row_of_name}

-- ## Some child is there

any_child : (children : List Child) (k : ℕ) → k < length children → is_empty (child_at children k).phase ≡ false
    → list_any (λ (c : Child). not (is_empty c.phase)) children ≡ true
any_child [] k less there = absurd (omega (arith, less))
any_child (c ∷ children) zero less there =
    let is : is_empty c.phase ≡ false = there in
    rw is refl
any_child (c ∷ children) (suc k) less there =
    rw (any_child children k (omega (arith, less)) there) (or_true (not (is_empty c.phase)))
  where
    or_true : (b : Bool) → (b || true) ≡ true
    or_true true = refl
    or_true false = refl

stops_there : (p : ChildPhase) → is_stopping p ≡ true → is_empty p ≡ false
stops_there Empty stops = absurd (cc)
stops_there Running stops = refl
stops_there Stopping stops = refl

-- the child of a live row is
row_needs : (s : State) (name : ConnName) (test : Row → Bool) → IsSound s → lives_and test s.rows name ≡ true → is_staffed s ≡ true
row_needs s name test sound passes =
    let r = row_of_name test s.rows name passes in
    let owner = sound.owners name.slot r.row r.found r.live in
    any_child s.children r.row.child owner.exists owner.there

staffed_on : (s : State) → is_staffed s ≡ true → is_at_its_end s ≡ false
staffed_on s staffed = rw staffed (and_false (not (is_serving s.going) && not (is_halted s.going)))
  where
    and_false : (b : Bool) → (b && false) ≡ false
    and_false true = refl
    and_false false = refl

serving_on : (s : State) → is_serving s.going ≡ true → is_at_its_end s ≡ false
serving_on s serving = rw serving refl

-- ## Events

pub before_its_end : (s : State) (e : Event) → IsSound s → is_allowed s e ≡ true → needs_child e ≡ true → is_at_its_end s ≡ false
before_its_end s (event.Accept slot) sound allowed needs =
    serving_on s (and_parts (is_serving s.going) (is_vacant_at s slot) (and_parts (is_serving s.going && is_vacant_at s slot) _ allowed).0).0
before_its_end s (event.Park name kind) sound allowed needs =
    staffed_on s (row_needs s name (may_wait s.moment kind) sound (and_parts (not (is_halted s.going)) _ allowed).1)
before_its_end s (event.Hold name) sound allowed needs =
    staffed_on s (row_needs s name (may_be_held s (is_signalled s name.slot)) sound allowed)
before_its_end s (event.Queue name) sound allowed needs =
    staffed_on s (row_needs s name (may_be_queued s) sound (and_parts (not (is_halted s.going) && is_signalled s name.slot) _ allowed).1)
before_its_end s (event.Start name) sound allowed needs = staffed_on s (row_needs s name _ sound allowed)
before_its_end s (event.Answer name ask) sound allowed needs = staffed_on s (row_needs s name _ sound (and_parts (not (is_halted s.going)) _ allowed).1)
before_its_end s (event.Linger name why) sound allowed needs = staffed_on s (row_needs s name _ sound allowed)
before_its_end s (event.Close name why how) sound allowed needs = staffed_on s (row_needs s name _ sound allowed)
before_its_end s (event.Ready slot) sound allowed needs = absurd (cc)
before_its_end s (event.Tick m) sound allowed needs = absurd (cc)
before_its_end s (event.StartChild k) sound allowed needs =
    serving_on s (and_parts (is_serving s.going) _ (and_parts (is_serving s.going && child_passes (λ (c : Child). is_empty c.phase) s k) _ allowed).0).0
before_its_end s (event.Command c) sound allowed needs = absurd (cc)
before_its_end s (event.Retire k) sound allowed needs =
    let there = passes-child (λ (c : Child). is_stopping c.phase) s.children k (and_parts (child_passes (λ (c : Child). is_stopping c.phase) s k) _ allowed).0 in
    staffed_on s (any_child s.children k there.0 (stops_there (child_at s.children k).phase there.1))

-- passes other than the listener make no other
pub others_need_child : (p : ℕ) (had : Option ConnName) (e : Event) → p ≢ 0 → may_make p had e ≡ true → needs_child e ≡ true
others_need_child p had (event.Accept slot) other may = refl
others_need_child p had (event.Park name kind) other may = refl
others_need_child p had (event.Hold name) other may = refl
others_need_child p had (event.Queue name) other may = refl
others_need_child p had (event.Start name) other may = refl
others_need_child p had (event.Answer name ask) other may = refl
others_need_child p had (event.Linger name why) other may = refl
others_need_child p had (event.Close name why how) other may = refl
others_need_child p had (event.Ready slot) other may = listener_alone p other may
others_need_child p had (event.Tick m) other may = listener_alone p other may
others_need_child p had (event.StartChild k) other may = refl
others_need_child p had (event.Command c) other may = listener_alone p other may
others_need_child p had (event.Retire k) other may = refl
