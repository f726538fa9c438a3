-- Where no connection is live: nobody but the listener adds an entry, and behind a stop each child is gone that may be let go of.
use Rattle.std.proofs.Common.{◌≡◌, ◌==◌, ℕ, zero, suc, Bool, true, false, not, ◌&&◌, ◌||◌, List, [], ◌∷◌, map, Option, None, Some, slice_get, unwrap_or, refl, sym, ap, subst, ◌∙◌}
use Rattle.std.proofs.lemmas.Option.{unwrap_or-slice_get}
use Rattle.std.specs.List.{list_any}
use Rattle.std.specs.Option.{option_map_or}
use Rattle.conn_machine.specs.declared.child.Child.{Child}
use Rattle.conn_machine.specs.declared.child.ChildPhase.{ChildPhase}
use Rattle.conn_machine.specs.declared.child.ChildPhase.TheVariants.{Empty, Running, Stopping}
use Rattle.conn_machine.specs.declared.event.Entry.{Entry}
use Rattle.conn_machine.specs.declared.event.Event.{Event}
use Rattle.conn_machine.specs.declared.event.Event.TheVariants as event
use Rattle.conn_machine.specs.declared.row.Place.{Place}
use Rattle.conn_machine.specs.declared.row.Place.TheVariants.{Vacant, Spent, Held, Parked, Queued, Working}
use Rattle.conn_machine.specs.declared.row.Row.{Row}
use Rattle.conn_machine.specs.declared.state.Going.{Going}
use Rattle.conn_machine.specs.declared.state.Going.TheVariants.{Serving, Ending, Halted}
use Rattle.conn_machine.specs.declared.state.State.{State}
use Rattle.conn_machine.specs.BetweenTurns.{QuietTablesAreTheListeners}
use Rattle.conn_machine.specs.Children.{child_at, is_empty, is_running, is_stopping, no_child}
use Rattle.conn_machine.specs.Folds.{opening_record}
use Rattle.conn_machine.specs.Made.{AreMade, HasSeen}
use Rattle.conn_machine.specs.Rows.{is_live, is_live_in, is_parked, is_unused, is_with_a_pass}
use Rattle.conn_machine.specs.Runs.{after, entries_of}
use Rattle.conn_machine.specs.Sound.{IsSound}
use Rattle.conn_machine.specs.States.{is_halted, is_serving, is_signalled}
use Rattle.conn_machine.specs.Table.{child_passes, may_be_queued, may_retire, next}
use Rattle.table_rule.specs.declared.view.View.{View}
use Rattle.board_turns.specs.Books.{state_of}
use Rattle.board_turns.specs.Rests.{TurnsRestOn}
use Rattle.board_turns.specs.Turns.{HadATurn, HadTurn, state_found}
use Rattle.board_book.specs.ClosedDown.{HasNoLive, IsClosedDown}
use Rattle.listener_parts.specs.Rounds.{OpenedWithNone}
use Rattle.listener_parts.proofs.AloneLemmas.{state_behind}

-- ## Rows that aren't live

unused_hand : (p : Place) → not (is_unused p) ≡ false → is_with_a_pass p ≡ false
unused_hand Vacant none = refl
unused_hand Spent none = refl
unused_hand Held none = absurd (cc)
unused_hand (Parked kind) none = refl
unused_hand Queued none = absurd (cc)
unused_hand (Working cell phase) none = absurd (cc)

unused_parked : (p : Place) → not (is_unused p) ≡ false → is_parked p ≡ false
unused_parked Vacant none = refl
unused_parked Spent none = refl
unused_parked Held none = refl
unused_parked (Parked kind) none = absurd (cc)
unused_parked Queued none = refl
unused_parked (Working cell phase) none = refl

pub not_live : (live : Bool) → not live ≡ true → live ≡ false
not_live true is = absurd (cc)
not_live false is = refl

or_left : (a b : Bool) → (a || b) ≡ false → a ≡ false
or_left true b none = absurd (cc)
or_left false b none = refl

or_right : (a b : Bool) → (a || b) ≡ false → b ≡ false
or_right true b none = absurd (cc)
or_right false b none = none

none_at : (rows : List Row) (slot : ℕ) (r : Row) → list_any is_live rows ≡ false → slice_get rows slot ≡ Some r → is_live r ≡ false
none_at [] slot r none at = absurd (cc)
none_at (x ∷ rows) zero r none at =
    let same : x ≡ r = cc in
    subst (λ (y : Row). is_live y ≡ false) same (or_left (is_live x) (list_any is_live rows) none)
none_at (x ∷ rows) (suc slot) r none at = none_at rows slot r (or_right (is_live x) (list_any is_live rows) none) at

and_false : (b : Bool) → (b && false) ≡ false
and_false true = refl
and_false false = refl

not_due : (s : State) (slot : ℕ) (r : Row) → is_parked r.place ≡ false → (is_signalled s slot && may_be_queued s r) ≡ false
not_due s slot r parked = rw parked (and_false (is_signalled s slot))

-- ## What a turn finds then

-- where no connection is live, nobody but the listener adds an entry
pub down_seen : QuietTablesAreTheListeners → (v : View) (history : List Entry) → OpenedWithNone v → v.who.number ≡ 0 → HasNoLive (state_of v)
    → AreMade v.origin.state (opening_record v.origin.passes) history → HasSeen v.who.number v.seen history → history ≡ v.seen
down_seen law v history opened number none made seen =
    let s = state_of v in
    law v.origin.state (opening_record v.origin.passes) v.seen history opened made
    (seen.0, seen.1, subst (λ p. entries_of p seen.0 ≡ []) number seen.2)
    (record { each = λ slot r at. unused_hand r.place (none_at s.rows slot r none at) })
    (λ slot r at. not_due s slot r (unused_parked r.place (none_at s.rows slot r none at)))

-- the turn found what the pass had seen
pub down_found : QuietTablesAreTheListeners → (found : List Entry) (events : List Event) (old new : View) → OpenedWithNone old → old.who.number ≡ 0
    → HasNoLive (state_of old) → HadTurn found events old new → found ≡ old.seen
down_found law found events old new opened number none t =
    down_seen law old found opened number none t.made t.others

-- ## Children that are let go of

retired_rows : (children : List ℕ) (s : State) (added : List Entry) → map (λ (e : Entry). e.event) added ≡ map event.Retire children
    → (after s added).rows ≡ s.rows
retired_rows [] s [] is = refl
retired_rows [] s (e ∷ added) is = absurd (cc)
retired_rows (k ∷ children) s [] is = absurd (cc)
retired_rows (k ∷ children) s (e ∷ added) is =
    let same : e.event ≡ event.Retire k = cc in
    let rest : map (λ (x : Entry). x.event) added ≡ map event.Retire children = cc in
    retired_rows children (next s e.event) added rest ∙ ap (λ (d : Event). (next s d).rows) same

-- no connection is live then that wasn't before
pub retires_live : QuietTablesAreTheListeners → TurnsRestOn → (children : List ℕ) (old new : View) → old.who.number ≡ 0
    → HadATurn (map event.Retire children) old new → OpenedWithNone old → HasNoLive (state_of old) → HasNoLive (state_of new)
retires_live law rests children old new number (found, t) opened none =
    let rows : (state_of new).rows ≡ (state_of old).rows =
    ap (λ (s : State). s.rows) (state_behind rests found (map event.Retire children) old new t)
    ∙ retired_rows children (state_found old found) t.added t.events_are
    ∙ ap (λ (h : List Entry). (after old.origin.state h).rows) (down_found law found (map event.Retire children) old new opened number none t) in
    ap (list_any is_live) rows ∙ none

-- ## Each child is gone

and_none : (b : Bool) → ((b && false) || false) ≡ false
and_none true = refl
and_none false = refl

none_cons : (k : ℕ) (r : Row) (rows : List Row) (live : Bool) → is_live r ≡ live → (list_any is_live rows ≡ false → list_any (is_live_in k) rows ≡ false)
    → (live || list_any is_live rows) ≡ false → ((r.child == k && live) || list_any (is_live_in k) rows) ≡ false
none_cons k r rows true is rest none = absurd (cc)
none_cons k r rows false is rest none = rw (rest none) (and_none (r.child == k))

-- none is live of a child
none_live_in : (k : ℕ) (rows : List Row) → list_any is_live rows ≡ false → list_any (is_live_in k) rows ≡ false
none_live_in k [] none = refl
none_live_in k (r ∷ rows) none = none_cons k r rows (is_live r) refl (none_live_in k rows) none

-- a child that neither runs nor stops is gone
gone_by : (p : ChildPhase) → is_running p ≡ false → is_stopping p ≡ false → is_empty p ≡ true
gone_by Empty running stopping = refl
gone_by Running running stopping = absurd (cc)
gone_by Stopping running stopping = absurd (cc)

halted_serving : (g : Going) → is_halted g ≡ true → is_serving g ≡ true → ⊥
halted_serving Serving halted serving = absurd (cc)
halted_serving (Ending until) halted serving = absurd (cc)
halted_serving (Halted why) halted serving = absurd (cc)

-- none runs once the server has stopped
none_running : (s : State) (k : ℕ) (b : Bool) → IsSound s → is_halted s.going ≡ true → is_running (child_at s.children k).phase ≡ b → b ≡ false
none_running s k true sound halted running = absurd (halted_serving s.going halted (sound.running k running).serving)
none_running s k false sound halted running = refl

child_stopping : (children : List Child) (k : ℕ) (o : Option Child) → slice_get children k ≡ o → option_map_or (λ (c : Child). is_stopping c.phase) o false ≡ false
    → is_stopping (child_at children k).phase ≡ false
child_stopping children k None at passes =
    ap (λ (c : Child). is_stopping c.phase) (sym (unwrap_or-slice_get children k no_child) ∙ ap (λ (o : Option Child). unwrap_or o no_child) at)
child_stopping children k (Some c) at passes =
    ap (λ (c : Child). is_stopping c.phase) (sym (unwrap_or-slice_get children k no_child) ∙ ap (λ (o : Option Child). unwrap_or o no_child) at) ∙ passes

not_retired : (stopping live : Bool) → live ≡ false → (stopping && not live) ≡ false → stopping ≡ false
not_retired true true none may = absurd (cc)
not_retired true false none may = absurd (cc)
not_retired false live none may = refl

-- a server that has stopped is closed down where none is live and no child may be let go of
pub is_closed_down : (s : State) → IsSound s → is_halted s.going ≡ true → ((k : ℕ) → may_retire s k ≡ false) → HasNoLive s → IsClosedDown s
is_closed_down s sound halted kept none = record {
  live = none;
  empty = λ k.
      let passes = not_retired (child_passes (λ c. is_stopping c.phase) s k) (list_any (is_live_in k) s.rows) (none_live_in k s.rows none) (kept k) in
      gone_by (child_at s.children k).phase (none_running s k (is_running (child_at s.children k).phase) sound halted refl)
      (child_stopping s.children k (slice_get s.children k) refl passes);
}
