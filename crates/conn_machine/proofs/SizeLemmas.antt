-- No event changes how many rows, signals and children there are, nor leads the moment out of its range.
use Rattle.std.proofs.Common.{◌≡◌, ◌≤◌, ℕ, zero, suc, Bool, true, false, not, ◌&&◌, nat_lt, nat_le, List, [], ◌∷◌, length, refl, sym, ap, subst, ◌∙◌, arith}
use Rattle.std.proofs.Math.ListN.{length-set}
use Rattle.std.proofs.lemmas.List.{length-map}
use Rattle.conn_machine.specs.declared.event.Event.{Event}
use Rattle.conn_machine.specs.declared.event.Event.TheVariants as event
use Rattle.conn_machine.specs.declared.event.Commanded.{Commanded}
use Rattle.conn_machine.specs.declared.event.Commanded.TheVariants.{Graceful, Refused, GracefulStop, Stop}
use Rattle.conn_machine.specs.declared.event.Entry.{Entry}
use Rattle.conn_machine.specs.declared.state.State.{State}
use Rattle.conn_machine.specs.Lists.{update}
use Rattle.conn_machine.specs.Children.{stopped_child}
use Rattle.std.proofs.lemmas.Bool.{leb-true}
use Rattle.std.specs.List.{list_any}
use Rattle.conn_machine.specs.States.{is_halted, is_overdue}
use Rattle.mpm_base.specs.Moment.{greatest_moment}
use Rattle.conn_machine.specs.Runs.{after}
use Rattle.conn_machine.specs.Sizes.{HasSizesOf, IsSized}
use Rattle.conn_machine.specs.Table.{is_allowed, next, next_command}

pub length-update : {X : Type 0} (xs : List X) (i : ℕ) (change : X → X) → length (update xs i change) ≡ length xs
length-update [] i change = refl
length-update (x ∷ xs) zero change = refl
length-update (x ∷ xs) (suc i) change = ap suc (length-update xs i change)

rows_of-command : (s : State) (c : Commanded) → length (next_command s c).rows ≡ length s.rows
rows_of-command s (Graceful shape) = refl
rows_of-command s (Refused reason) = refl
rows_of-command s (GracefulStop until) = refl
rows_of-command s (Stop why) = refl

pub length-rows : (s : State) (e : Event) → length (next s e).rows ≡ length s.rows
length-rows s (event.Accept slot) = length-update s.rows slot _
length-rows s (event.Park name kind) = length-update s.rows name.slot _
length-rows s (event.Hold name) = length-update s.rows name.slot _
length-rows s (event.Queue name) = length-update s.rows name.slot _
length-rows s (event.Start name) = length-update s.rows name.slot _
length-rows s (event.Answer name ask) = length-update s.rows name.slot _
length-rows s (event.Linger name why) = length-update s.rows name.slot _
length-rows s (event.Close name why how) = length-update s.rows name.slot _
length-rows s (event.Ready slot) = refl
length-rows s (event.Tick m) = refl
length-rows s (event.StartChild k) = refl
length-rows s (event.Command c) = rows_of-command s c
length-rows s (event.Retire k) = refl

signals_of-command : (s : State) (c : Commanded) → length (next_command s c).signals ≡ length s.signals
signals_of-command s (Graceful shape) = refl
signals_of-command s (Refused reason) = refl
signals_of-command s (GracefulStop until) = refl
signals_of-command s (Stop why) = refl

pub length-signals : (s : State) (e : Event) → length (next s e).signals ≡ length s.signals
length-signals s (event.Accept slot) = length-set s.signals slot _
length-signals s (event.Park name kind) = refl
length-signals s (event.Hold name) = length-set s.signals name.slot _
length-signals s (event.Queue name) = length-set s.signals name.slot _
length-signals s (event.Start name) = refl
length-signals s (event.Answer name ask) = refl
length-signals s (event.Linger name why) = length-set s.signals name.slot _
length-signals s (event.Close name why how) = length-set s.signals name.slot _
length-signals s (event.Ready slot) = length-set s.signals slot _
length-signals s (event.Tick m) = refl
length-signals s (event.StartChild k) = refl
length-signals s (event.Command c) = signals_of-command s c
length-signals s (event.Retire k) = refl

children_of-command : (s : State) (c : Commanded) → length (next_command s c).children ≡ length s.children
children_of-command s (Graceful shape) = length-map s.children stopped_child
children_of-command s (Refused reason) = refl
children_of-command s (GracefulStop until) = length-map s.children stopped_child
children_of-command s (Stop why) = length-map s.children stopped_child

pub length-children : (s : State) (e : Event) → length (next s e).children ≡ length s.children
length-children s (event.Accept slot) = refl
length-children s (event.Park name kind) = refl
length-children s (event.Hold name) = refl
length-children s (event.Queue name) = refl
length-children s (event.Start name) = refl
length-children s (event.Answer name ask) = refl
length-children s (event.Linger name why) = refl
length-children s (event.Close name why how) = refl
length-children s (event.Ready slot) = refl
length-children s (event.Tick m) = refl
length-children s (event.StartChild k) = length-update s.children k _
length-children s (event.Command c) = children_of-command s c
length-children s (event.Retire k) = length-update s.children k _

-- moments stay within their range
moment_of-command : (s : State) (c : Commanded) → (next_command s c).moment ≡ s.moment
moment_of-command s (Graceful shape) = refl
moment_of-command s (Refused reason) = refl
moment_of-command s (GracefulStop until) = refl
moment_of-command s (Stop why) = refl

within_tick : (a b c d : Bool) → (a && b && c && d) ≡ true → c ≡ true
within_tick true true true d all = refl
within_tick true true false d all = absurd (cc)
within_tick true false c d all = absurd (cc)
within_tick false b c d all = absurd (cc)

pub moment-within : (s : State) (e : Event) → is_allowed s e ≡ true → s.moment ≤ greatest_moment → (next s e).moment ≤ greatest_moment
moment-within s (event.Accept slot) may before = before
moment-within s (event.Park name kind) may before = before
moment-within s (event.Hold name) may before = before
moment-within s (event.Queue name) may before = before
moment-within s (event.Start name) may before = before
moment-within s (event.Answer name ask) may before = before
moment-within s (event.Linger name why) may before = before
moment-within s (event.Close name why how) may before = before
moment-within s (event.Ready slot) may before = before
moment-within s (event.Tick m) may before =
    leb-true m greatest_moment
    (within_tick (not (is_halted s.going)) (nat_lt s.moment m) (nat_le m greatest_moment) (not (list_any (is_overdue s.moment) s.rows)) may)
moment-within s (event.StartChild k) may before = before
moment-within s (event.Command c) may before = rw (moment_of-command s c) before
moment-within s (event.Retire k) may before = before

-- the state that an event makes has the sizes that there were
pub sizes_step : (s s' : State) (e : Event) → s' ≡ next s e → HasSizesOf s s'
sizes_step s s' e made = subst (HasSizesOf s) (sym made) record {
  rows = length-rows s e;
  children = length-children s e;
  signals = length-signals s e;
}

-- so does one that stays
pub sizes_same : (s s' : State) → s' ≡ s → HasSizesOf s s'
sizes_same s s' same = subst (HasSizesOf s) (sym same) record { rows = refl; children = refl; signals = refl }

-- so does a history
pub sizes-after : (s : State) (history : List Entry) → HasSizesOf s (after s history)
sizes-after s [] = record { rows = refl; children = refl; signals = refl }
sizes-after s (e ∷ history) =
    let later = sizes-after (next s e.event) history in
    record {
      rows = later.rows ∙ length-rows s e.event;
      children = later.children ∙ length-children s e.event;
      signals = later.signals ∙ length-signals s e.event;
    }

-- and a size that the machine takes, where the event is allowed
pub sized_step : (s s' : State) (e : Event) → is_allowed s e ≡ true → s' ≡ next s e → IsSized s → IsSized s'
sized_step s s' e may made before = subst IsSized (sym made) record {
  rows = omega (arith, before.rows, length-rows s e);
  children = omega (arith, before.children, length-children s e);
  signals = length-signals s e ∙ before.signals ∙ sym (length-rows s e);
  moment = moment-within s e may before.moment;
}
