-- What the listener alone decides of a state is told by its own events, whatever others did between them.
use Rattle.std.proofs.Common.{◌≡◌, ◌≢◌, ◌==◌, ℕ, Bool, true, false, List, [], ◌∷◌, ◌++◌, refl, sym, ap, subst, ◌∙◌, append-nil, append_assoc}
use Rattle.std.proofs.lemmas.List.Sums.{fold-append}
use Rattle.conn_machine.specs.declared.event.Commanded.{Commanded}
use Rattle.conn_machine.specs.declared.event.Commanded.TheVariants.{Graceful, Refused, GracefulStop, Stop}
use Rattle.conn_machine.specs.declared.event.Entry.{Entry}
use Rattle.conn_machine.specs.declared.event.Event.{Event}
use Rattle.conn_machine.specs.declared.event.Event.TheVariants as event
use Rattle.conn_machine.specs.declared.folded.Folded.{Folded}
use Rattle.conn_machine.specs.declared.state.State.{State}
use Rattle.conn_machine.specs.Frames.{Frame, frame_of, frame_command, frame_next, frames}
use Rattle.conn_machine.specs.Made.{AreMade, AreMadeBehind}
use Rattle.conn_machine.specs.Passes.{OnlyServes}
use Rattle.conn_machine.specs.Runs.{IsNextOf, after, own_events}
use Rattle.conn_machine.specs.Table.{next}
use Rattle.conn_machine.proofs.PassLaw.{entry_leaves}
use Rattle.conn_machine.proofs.RunLemmas.{after-snoc}

-- ## One event

command_step : (s : State) (c : Commanded) → frame_of (next s (event.Command c)) ≡ frame_command (frame_of s) c
command_step s (Graceful shape) = refl
command_step s (Refused reason) = refl
command_step s (GracefulStop until) = refl
command_step s (Stop reason) = refl

pub frame_step : (s : State) (e : Event) → frame_of (next s e) ≡ frame_next (frame_of s) e
frame_step s (event.Accept slot) = refl
frame_step s (event.Park name kind) = refl
frame_step s (event.Hold name) = refl
frame_step s (event.Queue name) = refl
frame_step s (event.Start name) = refl
frame_step s (event.Answer name ask) = refl
frame_step s (event.Linger name why) = refl
frame_step s (event.Close name why how) = refl
frame_step s (event.Ready slot) = refl
frame_step s (event.Tick m) = refl
frame_step s (event.StartChild k) = refl
frame_step s (event.Command c) = command_step s c
frame_step s (event.Retire k) = refl

-- where all of that is left alone it is the same
frame_same : (s t : State) → OnlyServes s t → frame_of t ≡ frame_of s
frame_same s t only = rw (only.moment, only.accepted, only.newest, only.shape, only.going, only.children) refl

-- ## Histories

own_first : (e : Entry) (history : List Entry) → (e.pass == 0) ≡ true → own_events 0 (e ∷ history) ≡ e.event ∷ own_events 0 history
own_first e history is = rw is refl

other_first : (e : Entry) (history : List Entry) → (e.pass == 0) ≡ false → own_events 0 (e ∷ history) ≡ own_events 0 history
other_first e history is = rw is refl

not_zero : (e : Entry) → (e.pass == 0) ≡ false → e.pass ≢ 0
not_zero e is same = absurd (cc (is, ap (λ (n : ℕ). n == 0) same))

-- one entry, and those behind it
frame_cons : (base : State) (f : Folded) (before : List Entry) (e : Entry) (history : List Entry) (own : Bool) → (e.pass == 0) ≡ own
    → IsNextOf e.pass base f before e
    → frame_of (after base ((before ++ e ∷ []) ++ history)) ≡ frames (frame_of (after base (before ++ e ∷ []))) (own_events 0 history)
    → frame_of (after base (before ++ e ∷ history)) ≡ frames (frame_of (after base before)) (own_events 0 (e ∷ history))
frame_cons base f before e history true is made rest =
    ap (λ (l : List Entry). frame_of (after base l)) (sym (append_assoc before (e ∷ []) history)) ∙ rest
    ∙ ap (λ (g : Frame). frames g (own_events 0 history)) (ap frame_of (after-snoc base before e) ∙ frame_step (after base before) e.event)
    ∙ ap (frames (frame_of (after base before))) (sym (own_first e history is))
frame_cons base f before e history false is made rest =
    ap (λ (l : List Entry). frame_of (after base l)) (sym (append_assoc before (e ∷ []) history)) ∙ rest
    ∙ ap (λ (g : Frame). frames g (own_events 0 history))
    (frame_same (after base before) (after base (before ++ e ∷ [])) (entry_leaves e.pass base f before e (not_zero e is) made).rest)
    ∙ ap (frames (frame_of (after base before))) (sym (other_first e history is))

frame_behind : (base : State) (f : Folded) (before history : List Entry) → AreMadeBehind base f before history
    → frame_of (after base (before ++ history)) ≡ frames (frame_of (after base before)) (own_events 0 history)
frame_behind base f before [] made = ap (λ (l : List Entry). frame_of (after base l)) (append-nil before)
frame_behind base f before (e ∷ history) made =
    frame_cons base f before e history (e.pass == 0) refl made.0 (frame_behind base f (before ++ e ∷ []) history made.1)

pub own_tell : (base : State) (f : Folded) (history : List Entry) → AreMade base f history
    → frame_of (after base history) ≡ frames (frame_of base) (own_events 0 history)
own_tell base f history made = frame_behind base f [] history made

pub own_tell_since : (base : State) (f : Folded) (old new : List Entry) (events : List Event) → AreMade base f old → AreMade base f new
    → own_events 0 new ≡ own_events 0 old ++ events → frame_of (after base new) ≡ frames (frame_of (after base old)) events
own_tell_since base f old new events before behind own =
    own_tell base f new behind ∙ ap (frames (frame_of base)) own
    ∙ fold-append frame_next (frame_of base) (own_events 0 old) events
    ∙ ap (λ (g : Frame). frames g events) (sym (own_tell base f old before))
