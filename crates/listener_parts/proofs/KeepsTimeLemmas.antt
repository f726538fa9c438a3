-- That it goes on to be time for each of the listener's events, part by part.
use Rattle.std.proofs.Common.{◌≡◌, ℕ, Bool, true, false, not, ◌&&◌, ◌||◌, List, [], ◌∷◌, ◌++◌, map, nat_lt, Option, if◌then◌else◌, refl, sym, ap, subst, ◌∙◌}
use Rattle.std.proofs.lemmas.Bool.{and_parts}
use Rattle.std.proofs.lemmas.List.Sums.{fold-append}
use Rattle.std.specs.Prelude.{⊤}
use Rattle.mpm_base.specs.declared.conn.ConnName.{ConnName}
use Rattle.conn_machine.specs.declared.event.Commanded.{Commanded}
use Rattle.conn_machine.specs.declared.event.Event.{Event}
use Rattle.conn_machine.specs.declared.event.Event.TheVariants as event
use Rattle.conn_machine.specs.declared.state.State.{State}
use Rattle.conn_machine.specs.Events.{is_ready, is_start_child, is_tick, needs_child}
use Rattle.conn_machine.specs.Folds.{opening_record}
use Rattle.conn_machine.specs.Frames.{Frame, OwnEventsTellTheFrame, frame_next, frame_of, frames}
use Rattle.conn_machine.specs.Made.{AreMade}
use Rattle.conn_machine.specs.Runs.{own_events}
use Rattle.conn_machine.specs.States.{is_over}
use Rattle.table_rule.specs.declared.view.Origin.{Origin}
use Rattle.table_rule.specs.declared.view.View.{View}
use Rattle.board_book.specs.Moments.{ticks_to}
use Rattle.worker_group.specs.declared.service.Exit.{Exit}
use Rattle.worker_group.specs.declared.service.Exit.TheVariants as exit
use Rattle.worker_group.specs.Service.{left_events}
use Rattle.board_turns.specs.Books.{state_of}
use Rattle.listener_parts.specs.Did.{Did}
use Rattle.listener_parts.specs.Letting.{Departure, departure_events, gone_events}
use Rattle.listener_parts.specs.Rounds.{time_events}
use Rattle.listener_parts.specs.Times.{AreTimelyFrom, IsInTime, IsStartedWhenAsked, IsTimelyAt, KeepsTime, MayPassTo, MaySignal, is_ended_at}

-- ## Some events, and then some more

timely_more : (f : Frame) (a b : List Event) → AreTimelyFrom f a → AreTimelyFrom (frames f a) b → AreTimelyFrom f (a ++ b)
timely_more f [] b first second = second
timely_more f (e ∷ a) b first second = (first.0, timely_more (frame_next f e) a b first.1 second)

-- behind what the pass has seen, where the events that it made since are in time there
pub keeps_own : OwnEventsTellTheFrame → (events : List Event) (old new : View) → AreMade old.origin.state (opening_record old.origin.passes) old.seen
    → own_events 0 new.seen ≡ own_events 0 old.seen ++ events → new.origin ≡ old.origin → AreTimelyFrom (frame_of (state_of old)) events → KeepsTime old new
keeps_own law events old new made own origin timely before =
    let first = frame_of old.origin.state in
    let here : frame_of (state_of old) ≡ frames first (own_events 0 old.seen) =
    law.frame old.origin.state (opening_record old.origin.passes) old.seen made in
    let more : AreTimelyFrom first (own_events 0 old.seen ++ events) =
    timely_more first (own_events 0 old.seen) events before (subst (λ (g : Frame). AreTimelyFrom g events) here timely) in
    subst (λ (o : Origin). AreTimelyFrom (frame_of o.state) (own_events 0 new.seen)) (sym origin) (subst (AreTimelyFrom first) (sym own) more)

pub keeps_time : OwnEventsTellTheFrame → (events : List Event) (has : Option ConnName) (old new : View) → old.who.number ≡ 0
    → AreMade old.origin.state (opening_record old.origin.passes) old.seen → Did events has old new → AreTimelyFrom (frame_of (state_of old)) events
    → KeepsTime old new
keeps_time law events has old new number made did timely =
    keeps_own law events old new made (subst (λ (p : ℕ). own_events p new.seen ≡ own_events p old.seen ++ events) number did.made) did.origin timely

-- ## Events that need a child, and start none

abbrev pub is_plain : Event → Bool
is_plain e = needs_child e && not (is_start_child e)

abbrev pub ArePlain : List Event → Type 0
ArePlain [] = ⊤
ArePlain (e ∷ events) = (is_plain e ≡ true) × ArePlain events

not_true : (b : Bool) → not b ≡ true → b ≡ false
not_true true is = absurd (cc)
not_true false is = refl

plain_asked : (f : Frame) (e : Event) → is_start_child e ≡ false → IsStartedWhenAsked f e
plain_asked f (event.Accept slot) none = tt
plain_asked f (event.Park name kind) none = tt
plain_asked f (event.Hold name) none = tt
plain_asked f (event.Queue name) none = tt
plain_asked f (event.Start name) none = tt
plain_asked f (event.Answer name ask) none = tt
plain_asked f (event.Linger name why) none = tt
plain_asked f (event.Close name why how) none = tt
plain_asked f (event.Ready slot) none = tt
plain_asked f (event.Tick m) none = tt
plain_asked f (event.StartChild k) none = absurd (cc)
plain_asked f (event.Command c) none = tt
plain_asked f (event.Retire k) none = tt

plain_within : (e : Event) → needs_child e ≡ true → (is_ready e || is_tick e) ≡ false
plain_within (event.Accept slot) needs = refl
plain_within (event.Park name kind) needs = refl
plain_within (event.Hold name) needs = refl
plain_within (event.Queue name) needs = refl
plain_within (event.Start name) needs = refl
plain_within (event.Answer name ask) needs = refl
plain_within (event.Linger name why) needs = refl
plain_within (event.Close name why how) needs = refl
plain_within (event.Ready slot) needs = absurd (cc)
plain_within (event.Tick m) needs = absurd (cc)
plain_within (event.StartChild k) needs = refl
plain_within (event.Command c) needs = absurd (cc)
plain_within (event.Retire k) needs = refl

pub plain_at : (f : Frame) (e : Event) → is_plain e ≡ true → IsTimelyAt f e
plain_at f e plain =
    let parts = and_parts (needs_child e) (not (is_start_child e)) plain in
    record {
      asked = plain_asked f e (not_true (is_start_child e) parts.1);
      within = λ over. plain_within e parts.0;
      before = λ none. absurd (cc (none, parts.0));
    }

pub plain_timely : (f : Frame) (events : List Event) → ArePlain events → AreTimelyFrom f events
plain_timely f [] plain = tt
plain_timely f (e ∷ events) plain = (plain_at f e plain.0, plain_timely (frame_next f e) events plain.1)

pub plain_both : (a b : List Event) → ArePlain a → ArePlain b → ArePlain (a ++ b)
plain_both [] b first second = second
plain_both (e ∷ a) b first second = (first.0, plain_both a b first.1 second)

pub left_plain : (way : Exit) (name : ConnName) → ArePlain (left_events way name)
left_plain (exit.Park kind) name = (refl, tt)
left_plain (exit.Linger why) name = (refl, tt)
left_plain (exit.Close why how) name = (refl, tt)
left_plain (exit.GiveUp fault) name = (refl, tt)

pub gone_plain : (gone : List Departure) → ArePlain (gone_events gone)
gone_plain [] = tt
gone_plain (l ∷ gone) = plain_both (departure_events l) (gone_events gone) (refl, left_plain l.way l.name) (gone_plain gone)

pub retired_plain : (children : List ℕ) → ArePlain (map event.Retire children)
retired_plain [] = tt
retired_plain (k ∷ children) = (refl, retired_plain children)

-- ## Time that passes

-- a connection that was let go of leaves what the listener alone decides
left_frames : (f : Frame) (way : Exit) (name : ConnName) → frames f (left_events way name) ≡ f
left_frames f (exit.Park kind) name = refl
left_frames f (exit.Linger why) name = refl
left_frames f (exit.Close why how) name = refl
left_frames f (exit.GiveUp fault) name = refl

gone_frames : (f : Frame) (gone : List Departure) → frames f (gone_events gone) ≡ f
gone_frames f [] = refl
gone_frames f (l ∷ gone) =
    fold-append frame_next f (departure_events l) (gone_events gone)
    ∙ ap (λ (g : Frame). frames g (gone_events gone)) (left_frames f l.way l.name) ∙ gone_frames f gone

tick_timely : (to : ℕ) (f : Frame) (over later : Bool) → is_over f.moment f.going ≡ over → nat_lt f.moment to ≡ later → MayPassTo to f
    → AreTimelyFrom f (map event.Tick (if later then to ∷ [] else []))
tick_timely to f over false is late may = tt
tick_timely to f true true is late may =
    let some : ticks_to f.moment to ≡ to ∷ [] = rw late refl in
    let none : ticks_to f.moment to ≡ [] = may.within is in
    absurd (cc (some, none))
tick_timely to f false true is late may = (record { asked = tt; within = λ over. absurd (cc (is, over)); before = λ none. may.before }, tt)

pub time_timely : (to : ℕ) (f : Frame) (early late : List Departure) → MayPassTo to f → AreTimelyFrom f (time_events early (ticks_to f.moment to) late)
time_timely to f early late may =
    let ticks = map event.Tick (ticks_to f.moment to) in
    timely_more f (gone_events early ++ ticks) (gone_events late)
    (timely_more f (gone_events early) ticks (plain_timely f (gone_events early) (gone_plain early))
    (subst (λ (g : Frame). AreTimelyFrom g ticks) (sym (gone_frames f early)) (tick_timely to f (is_over f.moment f.going) (nat_lt f.moment to) refl refl may)))
    (plain_timely (frames f (gone_events early ++ ticks)) (gone_events late) (gone_plain late))

-- ## Signals

pub ready_timely : (f : Frame) (slots : List ℕ) → MaySignal f → AreTimelyFrom f (map event.Ready slots)
ready_timely f [] may = tt
ready_timely f (slot ∷ slots) may =
    (record { asked = tt; within = λ over. absurd (cc (may.within, over)); before = λ none. may.before }, ready_timely f slots may)

-- ## Orders

pub command_timely : (f : Frame) (c : Commanded) → is_ended_at f ≡ false → AreTimelyFrom f (event.Command c ∷ [])
command_timely f c before = (record { asked = tt; within = λ over. refl; before = λ none. before }, tt)
