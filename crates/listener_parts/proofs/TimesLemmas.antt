-- That it was time for each entry, where it was for each of the listener's own.
use Rattle.std.proofs.Common.{◌≡◌, ◌≢◌, ◌==◌, ℕ, Bool, true, false, ◌&&◌, ◌||◌, List, [], ◌∷◌, ◌++◌, Option, None, Some, refl, sym, ap, subst, ◌∙◌}
use Rattle.std.specs.Prelude.{⊤}
use Rattle.mpm_base.specs.declared.conn.ConnName.{ConnName}
use Rattle.conn_machine.specs.declared.event.Entry.{Entry}
use Rattle.conn_machine.specs.declared.event.Event.{Event}
use Rattle.conn_machine.specs.declared.event.Event.TheVariants as event
use Rattle.conn_machine.specs.declared.folded.Folded.{Folded}
use Rattle.conn_machine.specs.declared.state.State.{State}
use Rattle.conn_machine.specs.BetweenTurns.{NothingIsDoneBehindTheEnd, OthersLeaveTheRestToTheListener}
use Rattle.conn_machine.specs.Events.{is_ready, is_tick, needs_child}
use Rattle.conn_machine.specs.Frames.{Frame, OwnEventsTellTheFrame, frame_next, frame_of}
use Rattle.conn_machine.specs.MachineLaws.{EventsKeepStatesSound}
use Rattle.conn_machine.specs.Made.{AreMade, AreMadeBehind}
use Rattle.conn_machine.specs.Passes.{OnlyServes}
use Rattle.conn_machine.specs.Runs.{AllAt, IsNextOf, after, entries_of, may_make, own_events, row_from}
use Rattle.conn_machine.specs.Sound.{IsSound}
use Rattle.conn_machine.specs.States.{is_at_its_end, is_over}
use Rattle.conn_machine.specs.Table.{is_allowed, next}
use Rattle.table_rule.specs.Histories.{IsQueuedInTime}
use Rattle.board_book.specs.Timely.{AreTimely, IsAskedFor, IsTimely}
use Rattle.board_turns.specs.Rests.{TurnsRestOn}
use Rattle.listener_parts.specs.Times.{AreTimelyFrom, IsStartedWhenAsked, IsTimelyAt, OwnEventsTellTheTime}
use Rattle.board_turns.proofs.MadeLemmas.{made_join}

-- ## One entry

own_asked : (s : State) (e : Event) → IsStartedWhenAsked (frame_of s) e → IsQueuedInTime s e → IsAskedFor s e
own_asked s (event.Accept slot) asked queued = tt
own_asked s (event.Park name kind) asked queued = tt
own_asked s (event.Hold name) asked queued = tt
own_asked s (event.Queue name) asked queued = queued
own_asked s (event.Start name) asked queued = tt
own_asked s (event.Answer name ask) asked queued = tt
own_asked s (event.Linger name why) asked queued = tt
own_asked s (event.Close name why how) asked queued = tt
own_asked s (event.Ready slot) asked queued = tt
own_asked s (event.Tick m) asked queued = tt
own_asked s (event.StartChild k) asked queued = asked
own_asked s (event.Command c) asked queued = tt
own_asked s (event.Retire k) asked queued = tt

own_timely : NothingIsDoneBehindTheEnd → (s : State) (e : Event) → IsSound s → is_allowed s e ≡ true → IsQueuedInTime s e → IsTimelyAt (frame_of s) e → IsTimely s e
own_timely law s e sound allowed queued at = record {
  asked = own_asked s e at.asked queued;
  within = at.within;
  before = by (needs_child e) refl;
}
  where
    by : (b : Bool) → needs_child e ≡ b → is_at_its_end s ≡ false
    by true is = law.allowed s e sound allowed is
    by false is = at.before is

-- one of another pass is no start, no signal and no time that passes
other_asked : (s : State) (p : ℕ) (had : Option ConnName) (e : Event) → (p == 0) ≡ false → may_make p had e ≡ true → IsQueuedInTime s e → IsAskedFor s e
other_asked s p had (event.Accept slot) other may queued = tt
other_asked s p had (event.Park name kind) other may queued = tt
other_asked s p had (event.Hold name) other may queued = tt
other_asked s p had (event.Queue name) other may queued = queued
other_asked s p had (event.Start name) other may queued = tt
other_asked s p had (event.Answer name ask) other may queued = tt
other_asked s p had (event.Linger name why) other may queued = tt
other_asked s p had (event.Close name why how) other may queued = tt
other_asked s p had (event.Ready slot) other may queued = tt
other_asked s p had (event.Tick m) other may queued = tt
other_asked s p had (event.StartChild k) other may queued = absurd (cc (other, may))
other_asked s p had (event.Command c) other may queued = tt
other_asked s p had (event.Retire k) other may queued = tt

other_within : (p : ℕ) (had : Option ConnName) (e : Event) → (p == 0) ≡ false → may_make p had e ≡ true → (is_ready e || is_tick e) ≡ false
other_within p had (event.Accept slot) other may = refl
other_within p had (event.Park name kind) other may = refl
other_within p had (event.Hold name) other may = refl
other_within p had (event.Queue name) other may = refl
other_within p had (event.Start name) other may = refl
other_within p had (event.Answer name ask) other may = refl
other_within p had (event.Linger name why) other may = refl
other_within p had (event.Close name why how) other may = refl
other_within p had (event.Ready slot) other may = absurd (cc (other, may))
other_within p had (event.Tick m) other may = absurd (cc (other, may))
other_within p had (event.StartChild k) other may = refl
other_within p had (event.Command c) other may = refl
other_within p had (event.Retire k) other may = refl

not_zero : (p : ℕ) → (p == 0) ≡ false → p ≢ 0
not_zero p is same = absurd (cc (is, ap (λ (n : ℕ). n == 0) same))

other_timely : NothingIsDoneBehindTheEnd → (s : State) (p : ℕ) (had : Option ConnName) (e : Event) → IsSound s → (p == 0) ≡ false → is_allowed s e ≡ true
    → may_make p had e ≡ true → IsQueuedInTime s e → IsTimely s e
other_timely law s p had e sound other allowed may queued = record {
  asked = other_asked s p had e other may queued;
  within = λ over. other_within p had e other may;
  before = law.allowed s e sound allowed (law.others p had e (not_zero p other) may);
}

-- ## Histories

own_first : (e : Entry) (history : List Entry) → (e.pass == 0) ≡ true → own_events 0 (e ∷ history) ≡ e.event ∷ own_events 0 history
own_first e history is = rw is refl

other_first : (e : Entry) (history : List Entry) → (e.pass == 0) ≡ false → own_events 0 (e ∷ history) ≡ own_events 0 history
other_first e history is = rw is refl

module _ (rests : TurnsRestOn) (sounds : EventsKeepStatesSound) (law : NothingIsDoneBehindTheEnd) (others : OthersLeaveTheRestToTheListener) (frame : OwnEventsTellTheFrame) (base : State) (f : Folded) where
  frame_kept : (s t : State) → OnlyServes s t → frame_of t ≡ frame_of s
  frame_kept s t only = rw (only.moment, only.accepted, only.newest, only.shape, only.going, only.children) refl

  -- another's entry leaves the frame
  frame_other : (before : List Entry) (e : Entry) → AreMade base f (before ++ e ∷ []) → (e.pass == 0) ≡ false
      → frame_of (next (after base before) e.event) ≡ frame_of (after base before)
  frame_other before e made is =
      ap frame_of (sym (rests.step base before e))
      ∙ frame_kept (after base before) (after base (before ++ e ∷ []))
      (others.rest base f before (before ++ e ∷ []) made (e ∷ [], refl, none_own))
    where
      none_own : entries_of 0 (e ∷ []) ≡ []
      none_own = rw is refl

  timely_cons : (before : List Entry) (e : Entry) (history : List Entry) (b : Bool) → (e.pass == 0) ≡ b → IsSound (after base before)
      → AreMade base f (before ++ e ∷ []) → IsNextOf e.pass base f before e → IsQueuedInTime (after base before) e.event
      → AreTimelyFrom (frame_of (after base before)) (own_events 0 (e ∷ history))
      → (AreTimelyFrom (frame_of (next (after base before) e.event)) (own_events 0 history) → AllAt IsTimely (next (after base before) e.event) history)
      → IsTimely (after base before) e.event × AllAt IsTimely (next (after base before) e.event) history
  timely_cons before e history true is sound made is_next queued own on =
      let all : AreTimelyFrom (frame_of (after base before)) (e.event ∷ own_events 0 history) =
      subst (AreTimelyFrom (frame_of (after base before))) (own_first e history is) own in (
        own_timely law (after base before) e.event sound is_next.is_allowed queued all.0,
        on (subst (λ (g : Frame). AreTimelyFrom g (own_events 0 history)) (sym (frame.step (after base before) e.event)) all.1),
      )
  timely_cons before e history false is sound made is_next queued own on =
      let all : AreTimelyFrom (frame_of (after base before)) (own_events 0 history) =
      subst (AreTimelyFrom (frame_of (after base before))) (other_first e history is) own in (
        other_timely law (after base before) e.pass (row_from f e.pass before) e.event sound is is_next.is_allowed is_next.role queued,
        on (subst (λ (g : Frame). AreTimelyFrom g (own_events 0 history)) (sym (frame_other before e made is)) all),
      )

  timely_behind : (before history : List Entry) → IsSound (after base before) → AreMade base f before → AreMadeBehind base f before history
      → AllAt IsQueuedInTime (after base before) history → AreTimelyFrom (frame_of (after base before)) (own_events 0 history)
      → AllAt IsTimely (after base before) history
  timely_behind before [] sound made behind queued own = tt
  timely_behind before (e ∷ history) sound made behind queued own =
      let one : AreMade base f (before ++ e ∷ []) = made_join base f [] before (e ∷ []) made (behind.0, tt) in
      let there : after base (before ++ e ∷ []) ≡ next (after base before) e.event = rests.step base before e in
      timely_cons before e history (e.pass == 0) refl sound one behind.0 queued.0 own
      (λ later. subst (λ (t : State). AllAt IsTimely t history) there
      (timely_behind (before ++ e ∷ []) history
      (subst IsSound (sym there) (sounds.step (after base before) e.event sound behind.0.is_allowed)) one behind.1
      (subst (λ (t : State). AllAt IsQueuedInTime t history) (sym there) queued.1)
      (subst (λ (t : State). AreTimelyFrom (frame_of t) (own_events 0 history)) (sym there) later)))

pub own_tell_time : TurnsRestOn → EventsKeepStatesSound → NothingIsDoneBehindTheEnd → OthersLeaveTheRestToTheListener → OwnEventsTellTheFrame → OwnEventsTellTheTime
own_tell_time rests sounds law others frame base f history sound made queued own =
    timely_behind rests sounds law others frame base f [] history sound tt made queued own
