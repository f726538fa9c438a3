-- What a turn finds behind a rest: nothing was done since, so what it makes is made in the state of the rest.
use Rattle.std.proofs.Common.{◌≡◌, ℕ, false, not, List, [], ◌∷◌, ◌++◌, map, nat_le, nat_lt, refl, sym, ap, subst, ◌∙◌, append-nil, append_assoc}
use Rattle.std.specs.List.{list_any}
use Rattle.mpm_base.specs.Moment.{greatest_moment}
use Rattle.conn_machine.specs.declared.event.Entry.{Entry}
use Rattle.conn_machine.specs.declared.event.Event.{Event}
use Rattle.conn_machine.specs.declared.event.Event.TheVariants as event
use Rattle.conn_machine.specs.declared.state.State.{State}
use Rattle.conn_machine.specs.BetweenTurns.{QuietTablesAreTheListeners}
use Rattle.conn_machine.specs.Runs.{after}
use Rattle.conn_machine.specs.States.{is_halted, is_overdue}
use Rattle.conn_machine.specs.Table.{is_allowed}
use Rattle.table_rule.specs.declared.view.View.{View}
use Rattle.table_rule.specs.Histories.{Extends}
use Rattle.board_turns.specs.Books.{state_of}
use Rattle.board_turns.specs.Rests.{TurnsRestOn}
use Rattle.board_turns.specs.Turns.{HadATurn, HadTurn, state_found}
use Rattle.board_book.specs.AtRest.{IsAtRest}
use Rattle.listener_turns.proofs.ListenerLemmas.{parts_four}
use Rattle.listener_turns.proofs.LookLemmas.{rest_stays}
use Rattle.listener_parts.specs.Rounds.{IsRestedFor, OpenedWithNone, TicksAtOnce}
use Rattle.listener_parts.proofs.AloneLemmas.{state_behind}

-- the turn found what the pass had seen
pub still_found : QuietTablesAreTheListeners → (found : List Entry) (events : List Event) (old new : View) → OpenedWithNone old → old.who.number ≡ 0
    → IsAtRest (state_of old) → HadTurn found events old new → found ≡ old.seen
still_found law found events old new opened number rest t = rest_stays law old found opened number t.made t.others rest

-- so its state is that of the rest
pub still_in : QuietTablesAreTheListeners → (found : List Entry) (events : List Event) (old new : View) → OpenedWithNone old → old.who.number ≡ 0
    → IsAtRest (state_of old) → HadTurn found events old new → state_found old found ≡ state_of old
still_in law found events old new opened number rest t =
    ap (after old.origin.state) (still_found law found events old new opened number rest t)

-- ## Time that passes behind a rest

none_added : (added : List Entry) → map (λ (e : Entry). e.event) added ≡ [] → added ≡ []
none_added [] is = refl
none_added (e ∷ added) is = absurd (cc)

-- it isn't refused in the first turn
pub ticks_not : QuietTablesAreTheListeners → TurnsRestOn → (to : ℕ) (v u w : View) → u.who.number ≡ 0 → IsRestedFor to v → u ≡ v → HadATurn [] u w
    → is_allowed (state_of w) (event.Tick to) ≡ false → ⊥
ticks_not law rests to v u w number rested same (found, t) refused =
    let now : IsRestedFor to u = subst (IsRestedFor to) (sym same) rested in
    let state : state_of w ≡ state_of u =
    state_behind rests found [] u w t ∙ ap (after (state_found u found)) (none_added t.added t.events_are)
    ∙ still_in law found [] u w now.opened number now.at_rest t in
    let not_now : is_allowed (state_of u) (event.Tick to) ≡ false = ap (λ (s : State). is_allowed s (event.Tick to)) (sym state) ∙ refused in
    let is_now = now.allowed in
    absurd (cc (not_now, is_now))

first_tick : (to : ℕ) (v w : View) (added : List Entry) → map (λ (e : Entry). e.event) added ≡ event.Tick to ∷ [] → w.seen ≡ v.seen ++ added → TicksAtOnce to v w
first_tick to v w [] is seen = absurd (cc)
first_tick to v w (e ∷ []) is seen =
    let same : e.event ≡ event.Tick to = cc in
    record { tick = e; rest = []; seen = seen; event_is = same }
first_tick to v w (e ∷ x ∷ added) is seen = absurd (cc)

-- and its entry is the first
pub ticks_at_once : QuietTablesAreTheListeners → (to : ℕ) (v u w : View) → u.who.number ≡ 0 → IsRestedFor to v → u ≡ v → HadATurn (event.Tick to ∷ []) u w
    → TicksAtOnce to v w
ticks_at_once law to v u w number rested same (found, t) =
    let now : IsRestedFor to u = subst (IsRestedFor to) (sym same) rested in
    let is = still_found law found (event.Tick to ∷ []) u w now.opened number now.at_rest t in
    first_tick to v w t.added t.events_are (t.seen ∙ ap (λ l. l ++ t.added) (is ∙ ap (λ (q : View). q.seen) same))

-- so it is whatever was done behind that
pub ticks_on : (to : ℕ) (v u w : View) → TicksAtOnce to v u → Extends u.seen w.seen → TicksAtOnce to v w
ticks_on to v u w ticks on = record {
  tick = ticks.tick;
  rest = ticks.rest ++ on.0;
  seen = on.1 ∙ ap (λ l. l ++ on.0) ticks.seen ∙ append_assoc v.seen (ticks.tick ∷ ticks.rest) on.0;
  event_is = ticks.event_is;
}

-- where the moment isn't later time may not pass to it
pub rested_later : (to : ℕ) (v : View) → IsRestedFor to v → nat_lt (state_of v).moment to ≡ false → ⊥
rested_later to v rested early =
    let s = state_of v in
    let parts = parts_four (not (is_halted s.going)) (nat_lt s.moment to) (nat_le to greatest_moment) (not (list_any (is_overdue s.moment) s.rows)) rested.allowed in
    let later = parts.1 in
    absurd (cc (later, early))
