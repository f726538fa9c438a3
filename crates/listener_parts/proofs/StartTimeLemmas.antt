-- That each child was started when it was asked for, by what the listener alone decides.
use Rattle.std.proofs.Common.{◌≡◌, ℕ, List, [], ◌∷◌, ◌++◌, map, None, Some, refl, sym, ap, subst, ◌∙◌, append_assoc}
use Rattle.conn_machine.specs.declared.child.Child.{Child}
use Rattle.conn_machine.specs.declared.event.Entry.{Entry}
use Rattle.conn_machine.specs.declared.event.Event.{Event}
use Rattle.conn_machine.specs.declared.event.Event.TheVariants as event
use Rattle.conn_machine.specs.declared.folded.Folded.{Folded}
use Rattle.conn_machine.specs.declared.state.State.{State}
use Rattle.conn_machine.specs.BetweenTurns.{OthersLeaveTheRestToTheListener}
use Rattle.conn_machine.specs.Folds.{opening_record}
use Rattle.conn_machine.specs.Frames.{Frame, OwnEventsTellTheFrame, frame_next, frame_of}
use Rattle.conn_machine.specs.Made.{AreMade, AreMadeBehind}
use Rattle.conn_machine.specs.Runs.{after, own_events}
use Rattle.conn_machine.specs.Table.{next}
use Rattle.table_rule.specs.declared.view.Origin.{Origin}
use Rattle.table_rule.specs.declared.view.View.{View}
use Rattle.table_rule.specs.declared.view.Who.{Who}
use Rattle.table_rule.specs.Histories.{Extends}
use Rattle.board_book.specs.Finds.{startable}
use Rattle.board_turns.specs.Books.{state_of}
use Rattle.board_turns.specs.Rests.{TurnsRestOn}
use Rattle.board_turns.specs.Turns.{HadTurn, state_found}
use Rattle.listener_turns.specs.Children.{AreStarted}
use Rattle.listener_parts.specs.Did.{Did, LeavesAlone}
use Rattle.listener_parts.specs.Rounds.{AreAsked, StartsAsked}
use Rattle.listener_parts.specs.Times.{AreTimelyFrom, startable_at}
use Rattle.listener_parts.proofs.AloneLemmas.{others_alone}
use Rattle.listener_parts.proofs.OrderLemmas.{entry_is, made_front}
use Rattle.board_book.specs.Book.{entry_of}
use Rattle.board_turns.specs.Books.{whole_book}

-- ## Frames of views

-- what the pass had seen before was made too
made_before : (v w : View) → Extends v.seen w.seen → w.origin ≡ v.origin → AreMade w.origin.state (opening_record w.origin.passes) w.seen
    → AreMade v.origin.state (opening_record v.origin.passes) v.seen
made_before v w on origin made =
    let here : AreMade v.origin.state (opening_record v.origin.passes) w.seen =
    subst (λ (o : Origin). AreMade o.state (opening_record o.passes) w.seen) origin made in
    made_front v.origin.state (opening_record v.origin.passes) [] v.seen on.0 (subst (AreMade v.origin.state (opening_record v.origin.passes)) on.1 here)

-- where the pass did nothing, what it alone decides is as it was
nothing_frame : OwnEventsTellTheFrame → (v w : View) → v.who.number ≡ 0 → AreMade w.origin.state (opening_record w.origin.passes) w.seen → Did [] None v w
    → frame_of (state_of w) ≡ frame_of (state_of v)
nothing_frame law v w number made did =
    let first = opening_record v.origin.passes in
    let own : own_events 0 w.seen ≡ own_events 0 v.seen ++ [] =
    subst (λ (p : ℕ). own_events p w.seen ≡ own_events p v.seen ++ []) number did.made in
    ap (λ (o : Origin). frame_of (after o.state w.seen)) did.origin
    ∙ law.since v.origin.state first v.seen w.seen [] (made_before v w did.goes_on did.origin made)
    (subst (λ (o : Origin). AreMade o.state (opening_record o.passes) w.seen) did.origin made) own

-- and where it started a child, that is what the start makes of it
start_frame : TurnsRestOn → OthersLeaveTheRestToTheListener → OwnEventsTellTheFrame → (found : List Entry) (e : Event) (v w : View) → v.who.number ≡ 0
    → HadTurn found (e ∷ []) v w → frame_of (state_of w) ≡ frame_next (frame_of (state_of v)) e
start_frame rests others law found e v w number t =
    let x = entry_of 0 e (whole_book v.origin found) in
    let alone = others_alone others v found number t.made t.others in
    let same : frame_of (state_found v found) ≡ frame_of (state_of v) = found_frame (state_of v) (state_found v found) alone in
    let seen : w.seen ≡ found ++ x ∷ [] = t.seen ∙ ap (λ l. found ++ l) (entry_is found e v w number t) in
    ap (λ (o : Origin). frame_of (after o.state w.seen)) t.stays.origin
    ∙ ap (λ l. frame_of (after v.origin.state l)) seen
    ∙ ap frame_of (rests.step v.origin.state found x)
    ∙ law.step (state_found v found) e
    ∙ ap (λ (g : Frame). frame_next g e) same
  where
    found_frame : (s u : State) → LeavesAlone s u → frame_of u ≡ frame_of s
    found_frame s u alone =
        rw (alone.stands.moment, alone.stands.accepted, alone.stands.newest, alone.stands.shape, alone.stands.going, alone.children) refl

-- ## Starts, each in its turn

-- what was seen before such starts stands before what is seen behind them
record GoesOnTo (old new : View) : Type 0 where
  on : Extends old.seen new.seen
  origin : new.origin ≡ old.origin
  number : new.who.number ≡ old.who.number

did_on : (events : List Event) (old new : View) → Did events None old new → GoesOnTo old new
did_on events old new did = record { on = did.goes_on; origin = did.origin; number = ap (λ (w : Who). w.number) did.who }

turn_on : (found : List Entry) (events : List Event) (old new : View) → HadTurn found events old new → GoesOnTo old new
turn_on found events old new t = record {
  on = (t.others.0 ++ t.added, t.seen ∙ ap (λ l. l ++ t.added) t.others.1 ∙ append_assoc old.seen t.others.0 t.added);
  origin = t.stays.origin;
  number = ap (λ (w : Who). w.number) t.stays.who;
}

on_more : (a b c : View) → GoesOnTo a b → GoesOnTo b c → GoesOnTo a c
on_more a b c first second = record {
  on = (first.on.0 ++ second.on.0, second.on.1 ∙ ap (λ l. l ++ second.on.0) first.on.1 ∙ append_assoc a.seen first.on.0 second.on.0);
  origin = second.origin ∙ first.origin;
  number = second.number ∙ first.number;
}

asked_on : (old : View) (children : List ℕ) (new : View) → AreAsked old children new → GoesOnTo old new
asked_on old [] new did = did_on [] old new did
asked_on old (k ∷ children) new (between, one, more) =
    on_more old between new
    (on_more old one.behind between
    (on_more old one.before one.behind (did_on [] old one.before one.waits) (turn_on one.found (event.StartChild k ∷ []) one.before one.behind one.turn))
    (did_on [] one.behind between one.rest))
    (asked_on between children new more)

-- each was asked for by what the listener alone decides
pub asked_timely : TurnsRestOn → OthersLeaveTheRestToTheListener → OwnEventsTellTheFrame → (old : View) (children : List ℕ) (new : View) → old.who.number ≡ 0
    → AreMade new.origin.state (opening_record new.origin.passes) new.seen → AreAsked old children new
    → AreTimelyFrom (frame_of (state_of old)) (map event.StartChild children)
asked_timely rests others law old [] new number made asked = tt
asked_timely rests others law old (k ∷ children) new number made (between, one, more) =
    let e = event.StartChild k in
    let later = asked_on between children new more in
    let to_between : AreMade between.origin.state (opening_record between.origin.passes) between.seen = made_before between new later.on later.origin made in
    let last = did_on [] one.behind between one.rest in
    let to_behind = made_before one.behind between last.on last.origin to_between in
    let mid = turn_on one.found (e ∷ []) one.before one.behind one.turn in
    let to_before = made_before one.before one.behind mid.on mid.origin to_behind in
    let wait = did_on [] old one.before one.waits in
    let number' : one.before.who.number ≡ 0 = wait.number ∙ number in
    let number'' : one.behind.who.number ≡ 0 = mid.number ∙ number' in
    let before : frame_of (state_of one.before) ≡ frame_of (state_of old) = nothing_frame law old one.before number to_before one.waits in
    let alone = others_alone others one.before one.found number' one.turn.made one.turn.others in
    let found : frame_of (state_found one.before one.found) ≡ frame_of (state_of one.before) =
    found_frame (state_of one.before) (state_found one.before one.found) alone in
    let started : frame_of (state_of one.behind) ≡ frame_next (frame_of (state_of one.before)) e =
    start_frame rests others law one.found e one.before one.behind number' one.turn in
    let behind : frame_of (state_of between) ≡ frame_of (state_of one.behind) = nothing_frame law one.behind between number'' to_between one.rest in
    let here : frame_of (state_of between) ≡ frame_next (frame_of (state_of old)) e =
    behind ∙ started ∙ ap (λ (g : Frame). frame_next g e) before in (
      record {
        asked = ap startable_at (sym (found ∙ before)) ∙ one.asked;
        within = λ over. refl;
        before = λ none. absurd (cc (none));
      },
      subst (λ (g : Frame). AreTimelyFrom g (map event.StartChild children)) here
          (asked_timely rests others law between children new (last.number ∙ number'') made more),
    )
  where
    found_frame : (s u : State) → LeavesAlone s u → frame_of u ≡ frame_of s
    found_frame s u alone =
        rw (alone.stands.moment, alone.stands.accepted, alone.stands.newest, alone.stands.shape, alone.stands.going, alone.children) refl

-- ## Starts in one turn

-- from the state on
pub started_timely : OwnEventsTellTheFrame → (s : State) (children : List ℕ) → AreStarted s children → AreTimelyFrom (frame_of s) (map event.StartChild children)
started_timely law s [] started = tt
started_timely law s (k ∷ children) started = (
  record { asked = started.0; within = λ over. refl; before = λ none. absurd (cc (none)) },
  subst (λ (g : Frame). AreTimelyFrom g (map event.StartChild children)) (law.step s (event.StartChild k))
      (started_timely law (next s (event.StartChild k)) children started.1),
)
