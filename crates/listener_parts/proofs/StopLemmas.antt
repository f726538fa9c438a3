-- How the server stops in a turn, and when it may.
use Rattle.std.proofs.Common.{◌≡◌, Bool, true, false, not, ◌&&◌, List, [], ◌∷◌, map, if◌then◌else◌, None, Some, refl, sym, ap, ◌∙◌}
use Rattle.conn_machine.specs.declared.event.Commanded.TheVariants.{Stop}
use Rattle.conn_machine.specs.declared.event.Entry.{Entry}
use Rattle.conn_machine.specs.declared.event.Event.TheVariants as event
use Rattle.conn_machine.specs.declared.event.Why.{Why}
use Rattle.conn_machine.specs.declared.event.Why.TheVariants as why
use Rattle.conn_machine.specs.declared.state.Going.TheVariants.{Halted}
use Rattle.conn_machine.specs.declared.state.State.{State}
use Rattle.conn_machine.specs.BetweenTurns.{OthersLeaveTheRestToTheListener, QuietTablesAreTheListeners}
use Rattle.conn_machine.specs.Runs.{after}
use Rattle.conn_machine.specs.States.{is_halted}
use Rattle.conn_machine.specs.Table.{is_allowed, next, stop_fits}
use Rattle.table_rule.specs.declared.view.View.{View}
use Rattle.board_book.specs.ClosedDown.{HasNoLive}
use Rattle.board_turns.specs.Books.{state_of}
use Rattle.board_turns.specs.Rests.{TurnsRestOn}
use Rattle.board_turns.specs.Turns.{HadATurn, state_found}
use Rattle.listener_parts.specs.Closing.{ClosesDown, IsHaltedWay, IsOwnReason, halts_for}
use Rattle.listener_parts.specs.Did.{Did, LeavesAlone}
use Rattle.listener_parts.specs.Letting.{LetsGo, gone_events}
use Rattle.listener_parts.specs.Rounds.{OpenedWithNone, RetiresSome}
use Rattle.listener_parts.proofs.AloneLemmas.{others_alone, state_behind, turn_alone}
use Rattle.listener_parts.proofs.DidLemmas.{did_more, did_turn}
use Rattle.listener_parts.proofs.DownLemmas.{down_found}
use Rattle.listener_parts.proofs.RoundLemmas.{next_behind}

pub stop_did : (reason : Why) (done : Bool) (old new : View) → HadATurn (if done then event.Command (Stop reason) ∷ [] else []) old new → new.row ≡ None
    → Did (if done then halts_for (Some reason) else []) None old new
stop_did reason true old new turn none = did_turn (event.Command (Stop reason) ∷ []) None old new turn none
stop_did reason false old new turn none = did_turn [] None old new turn none

-- the state behind it
behind_stop : TurnsRestOn → (reason : Why) (old new : View) → (t : HadATurn (event.Command (Stop reason) ∷ []) old new)
    → state_of new ≡ next (state_found old t.0) (event.Command (Stop reason))
behind_stop rests reason old new t = next_behind rests t.0 (event.Command (Stop reason)) old new t.1

pub stop_going : TurnsRestOn → (reason : Why) (done : Bool) (old new : View) → done ≡ true → HadATurn (if done then event.Command (Stop reason) ∷ [] else []) old new
    → (state_of new).going ≡ Halted reason
stop_going rests reason true old new is turn = ap (λ (s : State). s.going) (behind_stop rests reason old new turn)
stop_going rests reason false old new is turn = absurd (cc)

pub stop_moment : OthersLeaveTheRestToTheListener → TurnsRestOn → (reason : Why) (done : Bool) (old new : View) → old.who.number ≡ 0
    → HadATurn (if done then event.Command (Stop reason) ∷ [] else []) old new → (state_of new).moment ≡ (state_of old).moment
stop_moment law rests reason true old new number turn =
    ap (λ (s : State). s.moment) (behind_stop rests reason old new turn) ∙ (others_alone law old turn.0 number turn.1.made turn.1.others).stands.moment
stop_moment law rests reason false old new number turn = (turn_alone law rests [] old new number tt turn).stands.moment

pub stop_accepted : OthersLeaveTheRestToTheListener → TurnsRestOn → (reason : Why) (done : Bool) (old new : View) → old.who.number ≡ 0
    → HadATurn (if done then event.Command (Stop reason) ∷ [] else []) old new → (state_of new).accepted ≡ (state_of old).accepted
stop_accepted law rests reason true old new number turn =
    ap (λ (s : State). s.accepted) (behind_stop rests reason old new turn) ∙ (others_alone law old turn.0 number turn.1.made turn.1.others).stands.accepted
stop_accepted law rests reason false old new number turn = (turn_alone law rests [] old new number tt turn).stands.accepted

pub stop_stays : OthersLeaveTheRestToTheListener → TurnsRestOn → (reason : Why) (done : Bool) (old new : View) → old.who.number ≡ 0 → done ≡ false
    → HadATurn (if done then event.Command (Stop reason) ∷ [] else []) old new → LeavesAlone (state_of old) (state_of new)
stop_stays law rests reason true old new number is turn = absurd (cc)
stop_stays law rests reason false old new number is turn = turn_alone law rests [] old new number tt turn

-- whether it may is as it was, but for the end of the front
fits_still : (reason : Why) (s t : State) → IsOwnReason reason → LeavesAlone s t → stop_fits t reason ≡ stop_fits s reason
fits_still why.Asked s t own alone = refl
fits_still why.Overdue s t own alone = rw (alone.stands.moment, alone.stands.going) refl
fits_still why.FrontEnded s t own alone = absurd own
fits_still why.FrontFailed s t own alone = refl
fits_still why.NoMemory s t own alone = refl

allowed_still : (reason : Why) (s t : State) → IsOwnReason reason → LeavesAlone s t
    → is_allowed t (event.Command (Stop reason)) ≡ is_allowed s (event.Command (Stop reason))
allowed_still reason s t own alone =
    ap (λ (b : Bool). not (is_halted t.going) && b) (fits_still reason s t own alone)
    ∙ ap (λ (b : Bool). not b && stop_fits s reason) (ap is_halted alone.stands.going)

pub stop_may : OthersLeaveTheRestToTheListener → TurnsRestOn → (reason : Why) (done : Bool) (old new : View) → old.who.number ≡ 0 → IsOwnReason reason
    → is_allowed (state_of old) (event.Command (Stop reason)) ≡ true → HadATurn (if done then event.Command (Stop reason) ∷ [] else []) old new
    → (done ≡ false → is_allowed (state_of new) (event.Command (Stop reason)) ≡ false) → done ≡ true
stop_may law rests reason true old new number own may turn stays = refl
stop_may law rests reason false old new number own may turn stays =
    let same = allowed_still reason (state_of old) (state_of new) own (turn_alone law rests [] old new number tt turn) in
    let refused : is_allowed (state_of old) (event.Command (Stop reason)) ≡ false = sym same ∙ stays refl in
    absurd (cc (refused, may))

nothing_added : (s : State) (added : List Entry) → map (λ (e : Entry). e.event) added ≡ [] → after s added ≡ s
nothing_added s [] none = refl
nothing_added s (e ∷ added) none = absurd (cc)

-- it may for the end of the front too where no connection is live: the turn finds what the pass had seen
pub stop_alone : QuietTablesAreTheListeners → TurnsRestOn → (reason : Why) (done : Bool) (old new : View) → old.who.number ≡ 0 → OpenedWithNone old
    → HasNoLive (state_of old) → is_allowed (state_of old) (event.Command (Stop reason)) ≡ true
    → HadATurn (if done then event.Command (Stop reason) ∷ [] else []) old new → (done ≡ false → is_allowed (state_of new) (event.Command (Stop reason)) ≡ false)
    → done ≡ true
stop_alone law rests reason true old new number opened none may turn stays = refl
stop_alone law rests reason false old new number opened none may (found, t) stays =
    let same : state_of new ≡ state_of old =
    state_behind rests found [] old new t ∙ nothing_added (state_found old found) t.added t.events_are
    ∙ ap (state_found old) (down_found law found [] old new opened number none t) in
    let refused : is_allowed (state_of old) (event.Command (Stop reason)) ≡ false =
    ap (λ (s : State). is_allowed s (event.Command (Stop reason))) (sym same) ∙ stays refl in
    absurd (cc (refused, may))

-- ## Going down

pub closes_down : (a b c : View) → LetsGo IsHaltedWay a b → RetiresSome b c → ClosesDown a c
closes_down a b c lets retires = record {
  gone = lets.gone;
  ways = lets.ways;
  children = retires.children;
  did = did_more (gone_events lets.gone) (map event.Retire retires.children) None None a b c lets.did retires.did;
}
