-- How a run stood in the end, once its server was stopped for what ended the listener's turns.
use Rattle.std.proofs.Common.{◌≡◌, inl, inr, ◌+◌, ℕ, Bool, true, false, not, cond, List, [], ◌∷◌, ◌++◌, length, map, replicate, slice_get, Option, None, Some, IfSome, option_map, Result, Ok, Err, refl, sym, ap, subst, ◌∙◌, append-nil, append_assoc, arith}
use Rattle.std.proofs.lemmas.List.Sums.{sum_by-cons}
use Rattle.std.proofs.lemmas.Grind.{flat_map-append}
use Rattle.std.proofs.lemmas.List.{map-append}
use Rattle.std.specs.List.{flat_map, list_any}
use Rattle.mpm_base.specs.Count.{NeverFalls}
use Rattle.mpm_base.specs.Front.{AnswerTold, FrontSeen, FrontTold, after_hush}
use Rattle.mpm_base.specs.Sink.{SinkSeen}
use Rattle.conn_machine.specs.declared.event.Entry.{Entry}
use Rattle.conn_machine.specs.declared.event.Event.{Event}
use Rattle.conn_machine.specs.declared.event.Why.TheVariants as why
use Rattle.conn_machine.specs.declared.state.Going.{Going}
use Rattle.conn_machine.specs.declared.state.Going.TheVariants.{Ending, Halted}
use Rattle.conn_machine.specs.declared.state.State.{State}
use Rattle.conn_machine.specs.Events.{count_events}
use Rattle.conn_machine.specs.Runs.{after}
use Rattle.conn_machine.specs.States.{is_halted}
use Rattle.conn_state.specs.Known.{KnownOutside}
use Rattle.board_book.specs.declared.faults.BoardFault.{BoardFault}
use Rattle.board_book.specs.Book.{SeenBook}
use Rattle.rounds.specs.declared.ends.End.{End}
use Rattle.rounds.specs.declared.ends.End.TheVariants as end
use Rattle.listener_round.specs.Commands.{is_by_line, is_graceful_stop, stop_line}
use Rattle.command_answers.specs.Answers.{stopping_answer}
use Rattle.mpm_base.specs.declared.given_words.GivenWords.{GivenWords}
use Rattle.listener.specs.Counted.{CountsBut}
use Rattle.listener.specs.CountedInside.{TurnsCount}
use Rattle.listener_round.specs.FirstNumbers.{opened_by}
use Rattle.listener_round.specs.Generations.{Opening}
use Rattle.listener_round.specs.Heard.{AreAnswered, AreReadInPlace, Heard, open_lines}
use Rattle.listener_round.specs.HeardInside.{AsksForNoState, HasHeardAll, HasHeardIn, Unanswered, WritesOn, never_answered, stop_unanswered, with_last}
use Rattle.listener_round.specs.LineAnswers.IsAnswerTo.{stops}
use Rattle.listener.specs.ListenInside.{AnswersStop, HandsOutEach, TurnsEnd}
use Rattle.listener_round.specs.FrontInside.{WatchesAll}
use Rattle.rounds.specs.EndsInside.{HaltsAs, IsAllGone}
use Rattle.rounds.specs.PartsInside.{GoesDown, halt_events}
use Rattle.listener_round.specs.StandingInside.{EndsAsBegun, Past, entries_behind, owed_behind, spare_behind}
use Rattle.listener_round.specs.Pace.{Brought, Share, brought, moved, ordered}
use Rattle.listener.specs.Patient.{IsPatientEvent, IsPatientRun}
use Rattle.listener.specs.StartedFirst.{IsStartedFirst, first_children}
use Rattle.listener.specs.TurnsInside.{HasStood, HasTurned, KeepsUp, SeenListener}
use Rattle.worker_group.specs.Acts.{Acts, events_of}
use Rattle.listener.specs.Stops.{TakesEach}
use Rattle.listener_round.specs.Stores.{KeepsStore}
use Rattle.board_book.specs.ClosedDown.{IsBrokenOff}
use Rattle.listener_round.specs.declared.run_numbers.RunNumbers.{RunNumbers}
use Rattle.rounds.proofs.AddedLemmas.{added-events, events_in}
use Rattle.listener_round.proofs.CommandlessLemmas.{commandless-added, commandless-gone, commandless-retires}
use Rattle.listener_round.proofs.StandingLemmas.{KeepsPast, entries-acts, folded-acts, keeps-plain, rises-more}
use Rattle.rounds.proofs.TimelyLemmas.{all-both}
use Rattle.listener_round.proofs.BroughtLemmas.{brought-behind, stopped_by}
use Rattle.listener.proofs.CountedEndLemmas.{gives-none}
use Rattle.listener.proofs.DownPaceLemmas.{PacesLines, down-brings, pace-down}
use Rattle.listener.proofs.EventLemmas.{silent-gone, silent-halts, silent-retires, ticks_in}
use Rattle.listener.proofs.FrontCallLemmas.{left-counts, left-so, left_front}
use Rattle.listener.proofs.HeardEndLemmas.{LeavesLast, LinesLeft, lines-left}
use Rattle.listener_round.proofs.HeardLemmas.{events-append}
use Rattle.listener_round.proofs.HeardLineLemmas.{heard-answer, heard-command, heard-may, keeps-hushed}
use Rattle.listener_round.proofs.HearsLemmas.{acts-events}
use Rattle.listener.proofs.PaceLemmas.{unhushed}
use Rattle.listener_round.proofs.PlacedLemmas.{AreWithin, within-answered}
use Rattle.listener.proofs.PlacedLemmas.{behind-later, within-both}
use Rattle.listener.proofs.PatientLemmas.{patient-tickless}
use Rattle.listener.proofs.WatchLemmas.{nobody-down, watched-left}
use Rattle.listener_round.proofs.WatchLemmas.{watched-as}
use Rattle.listener.proofs.WholeLemmas.{begins-behind}
use Rattle.listener.proofs.HaltLemmas.{IsLeft, StopsPast, halts-spelled, keeps-stopped, lines_for, stopped_for, stops-for, store-left}

-- ## Each connection was handed out

none-by : (test : Event → Bool) (e : Entry) (history : List Entry) (b : Bool) → test e.event ≡ b → cond (test e.event) 1 0 + count_events test history ≡ 0
    → (count_events test history ≡ 0 → list_any (λ (x : Entry). test x.event) history ≡ false) → list_any (λ (x : Entry). test x.event) (e ∷ history) ≡ false
none-by test e history true is zero rest = let one = ap (λ (b : Bool). cond b 1 0 + 0) is in absurd (omega (arith, one, zero))
none-by test e history false is zero rest =
    let none : count_events test history ≡ 0 = let many = ap (λ (b : Bool). cond b 1 0 + 0) is in omega (arith, many, zero) in
    rw is (rest none)

none-counted : (test : Event → Bool) (history : List Entry) → count_events test history ≡ 0 → list_any (λ (e : Entry). test e.event) history ≡ false
none-counted test [] none = refl
none-counted test (e ∷ history) none =
    none-by test e history (test e.event) refl (sym (sum_by-cons (λ (x : Entry). cond (test x.event) 1 0) e history) ∙ none)
    (λ zero. none-counted test history zero)

each-left : (old : SeenBook) (entries new : List Entry) (t : FrontTold) → EndsAsBegun entries old
    → list_any (λ (e : Entry). is_graceful_stop e.event) new ≡ list_any (λ (e : Entry). is_graceful_stop e.event) entries → HandsOutEach old.state t
    → count_events is_graceful_stop new ≡ 0 → t.accepted ≡ length t.clients
each-left old entries new t begun same hands none =
    hands (begun ∙ ap not (sym same ∙ none-counted is_graceful_stop new none))

each-hushed : (more : List AnswerTold) (old : SeenBook) (going : Going) (entries new : List Entry) (told told' : Option FrontTold)
    → told' ≡ option_map (left_front more) told
    → EndsAsBegun entries old → list_any (λ (e : Entry). is_graceful_stop e.event) new ≡ list_any (λ (e : Entry). is_graceful_stop e.event) entries
    → IfSome told (HandsOutEach old.state) → IfSome told' (TakesEach going new)
each-hushed more old going entries new None told' is begun same hands = subst (λ (x : Option FrontTold). IfSome x (TakesEach going new)) (sym is) tt
each-hushed more old going entries new (Some t) told' is begun same hands =
    subst (λ (x : Option FrontTold). IfSome x (TakesEach going new)) (sym is) (λ ended none. each-left old entries new t begun same hands none)

-- a server that stopped for something else says nothing of that
each-none : (going : Going) (new : List Entry) (told : Option FrontTold) → (going ≡ Halted why.FrontEnded → ⊥) → IfSome told (TakesEach going new)
each-none going new None other = tt
each-none going new (Some t) other = λ ended none. absurd (other ended)

each-taken : (more : List AnswerTold) (turns : Result End BoardFault) (first now : FrontSeen) (b d : SeenBook) (entries new : List Entry) (told' : Option FrontTold)
    → TurnsEnd turns first now b → is_halted b.state.going ≡ false → GoesDown turns b d → told' ≡ option_map (left_front more) now.told → EndsAsBegun entries b
    → list_any (λ (e : Entry). is_graceful_stop e.event) new ≡ list_any (λ (e : Entry). is_graceful_stop e.event) entries
    → IfSome told' (TakesEach d.state.going new)
each-taken more (Ok end.Ended) first now b d entries new told' ends up down is begun same =
    each-hushed more b d.state.going entries new now.told told' is begun same ends.each
each-taken more (Ok end.Asked) first now b d entries new told' ends up down is begun same =
    each-none d.state.going new told' (λ ended. let halts = down.going in absurd (cc (halts, ended)))
each-taken more (Ok end.Failed) first now b d entries new told' ends up down is begun same =
    each-none d.state.going new told' (λ ended. let halts = down.going in absurd (cc (halts, ended)))
each-taken more (Ok end.Overdue) first now b d entries new told' ends up down is begun same =
    each-none d.state.going new told' (λ ended. let halts = down.going in absurd (cc (halts, ended)))
each-taken more (Ok end.Gone) first now b d entries new told' ends up down is begun same =
    each-none d.state.going new told'
    (λ ended.
    let halted : is_halted b.state.going ≡ true = ap is_halted (sym down.going ∙ ended) in
    absurd (cc (halted, up)))
each-taken more (Err fault) first now b d entries new told' ends up down is begun same =
    each-none d.state.going new told' (λ ended. let halts = down.going in absurd (cc (halts, ended)))

-- ## All together

-- what is left at the end of turns that ended so
is-left : (turns : Result End BoardFault) (old going : Going) → HaltsAs turns old going → IsLeft going (spare_behind turns)
is-left (Ok end.Ended) old going halts = inl refl
is-left (Ok end.Asked) old going halts = inl refl
is-left (Ok end.Failed) old going halts = inl refl
is-left (Ok end.Overdue) old going halts = inl refl
is-left (Ok end.Gone) old going halts = inl refl
is-left (Err fault) old going halts = inr (halts, omega arith)

lines-owed : (turns : Result End BoardFault) → lines_for (stopped_for turns) ≡ owed_behind turns
lines-owed (Ok end.Ended) = refl
lines-owed (Ok end.Asked) = refl
lines-owed (Ok end.Failed) = refl
lines-owed (Ok end.Overdue) = refl
lines-owed (Ok end.Gone) = refl
lines-owed (Err fault) = refl

-- what the end added to all entries
down-past : (o : Opening) (s : State) (turns : Result End BoardFault) (b d : SeenBook) → GoesDown turns b d → (before : List Entry)
    → StopsPast o s (lines_for (stopped_for turns)) (before ++ b.history) (before ++ d.history)
down-past o s turns b d down before =
    let x = down.halted in
    let y = down.closed in
    let gone = commandless-gone down.closes.gone in
    let retired = commandless-retires down.retires.children in
    let first : StopsPast o s (lines_for (stopped_for turns)) (before ++ b.history) (before ++ x.history) =
    subst (StopsPast o s (lines_for (stopped_for turns)) (before ++ b.history)) (sym (entries-acts 0 _ None b x down.halts before))
    (stops-for o s (before ++ b.history) down.halts.entries.0 (stopped_for turns) (added-events 0 _ None b x down.halts ∙ halts-spelled turns)) in
    let second : KeepsPast o s (before ++ x.history) (before ++ y.history) =
    subst (KeepsPast o s (before ++ x.history)) (sym (entries-acts 0 _ None x y down.closes.acts before))
    (keeps-plain o s (before ++ x.history) down.closes.acts.entries.0 (commandless-added 0 _ None x y down.closes.acts gone)) in
    let third : KeepsPast o s (before ++ y.history) (before ++ d.history) =
    subst (KeepsPast o s (before ++ y.history)) (sym (entries-acts 0 _ None y d down.retires.acts before))
    (keeps-plain o s (before ++ y.history) down.retires.acts.entries.0 (commandless-added 0 _ None y d down.retires.acts retired)) in
    keeps-stopped o s _ _ _ _ (keeps-stopped o s _ _ _ _ first second) third

-- what the end added, in which no time passes, and whose first events are these
record AddsDown (es : List Event) (b d : SeenBook) : Type 0 where
  pub more : List Entry
  pub history : d.history ≡ b.history ++ more
  pub none : flat_map ticks_in (events_in more) ≡ []
  pub rest : List Event
  pub begins : events_of 0 more ≡ es ++ rest

adds-both : (es fs : List Event) (a b c : SeenBook) → AddsDown es a b → AddsDown fs b c → AddsDown es a c
adds-both es fs a b c first second = record {
  more = first.more ++ second.more;
  history = second.history ∙ ap (λ (es : List Entry). es ++ second.more) first.history ∙ append_assoc a.history first.more second.more;
  none =
      ap (flat_map ticks_in) (map-append (λ (e : Entry). e.event) first.more second.more)
      ∙ flat_map-append ticks_in (events_in first.more) (events_in second.more)
      ∙ ap (λ (xs : List ℕ). xs ++ flat_map ticks_in (events_in second.more)) first.none ∙ second.none;
  rest = first.rest ++ (fs ++ second.rest);
  begins =
      events-append 0 first.more second.more
      ∙ ap (λ (xs : List Event). xs ++ events_of 0 second.more) first.begins
      ∙ ap (λ (xs : List Event). (es ++ first.rest) ++ xs) second.begins
      ∙ append_assoc es first.rest (fs ++ second.rest);
}

adds-silent : (es : List Event) (a b : SeenBook) → Acts 0 es None a b → flat_map ticks_in es ≡ [] → AddsDown es a b
adds-silent es a b acts none = record {
  more = acts.entries.0;
  history = acts.entries.1;
  none = ap (flat_map ticks_in) (added-events 0 es None a b acts) ∙ none;
  rest = [];
  begins = acts-events es a b acts ∙ sym (append-nil es);
}

adds-down : (turns : Result End BoardFault) (b d : SeenBook) → GoesDown turns b d → AddsDown (halt_events turns) b d
adds-down turns b d down =
    adds-both (halt_events turns) _ b down.closed d
    (adds-both (halt_events turns) _ b down.halted down.closed (adds-silent _ b down.halted down.halts (silent-halts turns).ticks)
    (adds-silent _ down.halted down.closed down.closes.acts (silent-gone down.closes.gone).ticks))
    (adds-silent _ down.closed d down.retires.acts (silent-retires down.retires.children).ticks)

-- the children that were started at first, of a front that was hushed
started-down : (answered : List AnswerTold) (n : RunNumbers) (told told' : Option FrontTold) (entries more : List Entry)
    → told' ≡ option_map (left_front answered) told
    → IfSome told (IsStartedFirst n entries) → IfSome told' (IsStartedFirst n (entries ++ more))
started-down answered n None told' entries more is started = subst (λ (x : Option FrontTold). IfSome x (IsStartedFirst n (entries ++ more))) (sym is) tt
started-down answered n (Some t) told' entries more is started =
    subst (λ (x : Option FrontTold). IfSome x (IsStartedFirst n (entries ++ more))) (sym is)
    (λ waited. begins-behind (first_children n) entries more (entries ++ more) refl (started waited))

-- time that passed before
patient-down : (answered : List AnswerTold) (told told' : Option FrontTold) (calls : Option (List (ℕ × ℕ))) (s : State) (entries more : List Entry)
    → told' ≡ option_map (left_front answered) told
    → flat_map ticks_in (events_in more) ≡ [] → IsPatientRun told calls s entries → IsPatientRun told' calls s (entries ++ more)
patient-down answered told told' calls s entries more is none patient =
    unhushed (left_front answered) (λ t. refl) (λ t. refl) told told' calls s (entries ++ more) is
    (λ steady. all-both (IsPatientEvent steady.comings steady.front.waits) s entries more (patient steady)
    (patient-tickless steady.comings steady.front.waits (after s entries) more none))

-- the last line, where there is one, and what is left of it
record LeavesHeard (o : Opening) (n : RunNumbers) (history more : List Entry) (moves : ℕ) (shares : List Share) (going : Going) (front front' : FrontSeen)
    (out : SinkSeen) (written : Bool) (out' : SinkSeen) (written' : Bool) : Type 0 where
  last : Option Unanswered
  all : HasHeardAll o n history moves shares last front out written out' written'
  left : LeavesLast going more last front front'

leaves-none : (o : Opening) (n : RunNumbers) (history more : List Entry) (moves : ℕ) (shares : List Share) (going : Going) (front hushed front' : FrontSeen)
    (out : SinkSeen) (written : Bool) (out' : SinkSeen) (written' : Bool) → hushed ≡ after_hush front → front' ≡ hushed
    → HasHeardAll o n history moves shares None front out written out' written'
    → LeavesHeard o n history more moves shares going front front' out written out' written'
leaves-none o n history more moves shares going front hushed front' out written out' written' is same all =
    record { last = None; all = all; left = keeps-hushed front front' (same ∙ is) }

leaves-broken : (o : Opening) (n : RunNumbers) (history more : List Entry) (moves : ℕ) (shares : List Share) (going : Going) (front hushed front' : FrontSeen)
    (out : SinkSeen) (written : Bool) (out' : SinkSeen) (written' : Bool) → hushed ≡ after_hush front → front' ≡ hushed → IsBrokenOff going
    → (line : Option (List ℕ)) → AsksForNoState line
    → HasHeardAll o n history moves shares (option_map never_answered line) front out written out' written'
    → LeavesHeard o n history more moves shares going front front' out written out' written'
leaves-broken o n history more moves shares going front hushed front' out written out' written' is same broken None quiet all =
    leaves-none o n history more moves shares going front hushed front' out written out' written' is same all
leaves-broken o n history more moves shares going front hushed front' out written out' written' is same broken (Some line) quiet all = record {
  last = Some (never_answered line);
  all = all;
  left =
      record {
        on = λ mid gave. heard-may mid front front' line None (heard-command mid front line gave) (inr (same ∙ is));
        answer = λ o orders s. tt;
        each = inr broken;
        quiet = quiet;
      };
}

leaves-heard : (o : Opening) (n : RunNumbers) (turns : Result End BoardFault) (history more : List Entry) (moves : ℕ) (shares : List Share) (old going : Going)
    (front hushed front' : FrontSeen) (out : SinkSeen) (written : Bool) (out' : SinkSeen) (written' : Bool) (rest : List Event) → hushed ≡ after_hush front
    → AnswersStop turns hushed front' → HaltsAs turns old going → events_of 0 more ≡ halt_events turns ++ rest
    → HasHeardIn turns o n history moves shares front out written out' written'
    → LeavesHeard o n history more moves shares going front front' out written out' written'
leaves-heard o n (Ok end.Asked) history more moves shares old going front hushed front' out written out' written' rest is given halts begins all = record {
  last = Some stop_unanswered;
  all = all;
  left =
      record {
        on =
            λ mid gave. heard-answer mid hushed front' stop_line stopping_answer
            (heard-may mid front hushed stop_line None (heard-command mid front stop_line gave) (inr is)) given;
        answer = λ o orders s. stops (ap (λ (es : List Event). slice_get es 0) begins);
        each = inl refl;
        quiet = refl;
      };
}
leaves-heard o n (Ok end.Ended) history more moves shares old going front hushed front' out written out' written' rest is same halts begins all =
    leaves-none o n history more moves shares going front hushed front' out written out' written' is same all
leaves-heard o n (Ok end.Failed) history more moves shares old going front hushed front' out written out' written' rest is same halts begins all =
    leaves-none o n history more moves shares going front hushed front' out written out' written' is same all
leaves-heard o n (Ok end.Overdue) history more moves shares old going front hushed front' out written out' written' rest is same halts begins all =
    leaves-none o n history more moves shares going front hushed front' out written out' written' is same all
leaves-heard o n (Ok end.Gone) history more moves shares old going front hushed front' out written out' written' rest is same halts begins all =
    leaves-none o n history more moves shares going front hushed front' out written out' written' is same all
leaves-heard o n (Err fault) history more moves shares old going front hushed front' out written out' written' rest is same halts begins heard =
    leaves-broken o n history more moves shares going front hushed front' out written out' written' is same halts heard.0 heard.1 heard.2

-- where they were read, of the front that was left
places-left : (answered : List AnswerTold) (told told' : Option FrontTold) (history more : List Entry) (moves : ℕ) (shares : List Share) (heard : List Heard)
    → told' ≡ option_map (left_front answered) told → AreWithin (length history) heard → IfSome told (AreReadInPlace history moves shares heard)
    → IfSome told' (AreReadInPlace (history ++ more) moves shares heard)
places-left answered None told' history more moves shares heard is within placed =
    subst (λ (x : Option FrontTold). IfSome x (AreReadInPlace (history ++ more) moves shares heard)) (sym is) tt
places-left answered (Some t) told' history more moves shares heard is within placed =
    subst (λ (x : Option FrontTold). IfSome x (AreReadInPlace (history ++ more) moves shares heard)) (sym is)
    (λ few. behind-later t (left_front answered t) history more (replicate moves moved) 0 t.waits shares heard refl within (placed few))

within-last : (o : Opening) (first : State) (history : List Entry) (last : Option Unanswered) (heard : List Heard) → AreAnswered o first history 0 0 heard
    → AreWithin (length history) (with_last last (length history) heard)
within-last o first history None heard answered = within-answered o first history 0 0 heard answered
within-last o first history (Some u) heard answered =
    within-both (length history) heard (record { line = u.line; made = length history; answer = u.answer } ∷ [])
    (within-answered o first history 0 0 heard answered) (omega arith, tt)

-- all entries are of the run until the turns ended, and then of its end
module _ (known : Option KnownOutside) (o : Opening) (n : RunNumbers) (turns : Result End BoardFault) (from : SeenListener) (first : FrontSeen) (now last : SeenListener) (turned : HasTurned known o n turns from now) (ends : TurnsEnd turns first now.front now.board.book) (up : is_halted now.board.book.state.going ≡ false) (down : GoesDown turns now.board.book last.board.book) (hushed : FrontSeen) (hush : hushed ≡ after_hush now.front) (given : AnswersStop turns hushed last.front) (calls : last.calls ≡ now.calls) (store : last.store ≡ now.store) (out : last.out ≡ now.out) (written : last.written ≡ now.written) where
  -- the answers that were given once listening was stopped
  abbrev answered-then : List AnswerTold
  answered-then = (left-so turns now.front hushed last.front hush given).0

  told-then : last.front.told ≡ option_map (left_front answered-then) now.front.told
  told-then = (left-so turns now.front hushed last.front hush given).1

  -- what was folded is the past
  past-then : entries_behind turned.past now.board.book ≡ turned.stands.folded.entries ++ now.board.book.history
  past-then = ap (λ (p : Past). p.entries ++ now.board.book.history) turned.stands.past_is

  added-then : AddsDown (halt_events turns) now.board.book last.board.book
  added-then = adds-down turns now.board.book last.board.book down

  all-then : turned.stands.folded.entries ++ last.board.book.history ≡ entries_behind turned.past now.board.book ++ added-then.more
  all-then =
      ap (λ (es : List Entry). turned.stands.folded.entries ++ es) added-then.history
      ∙ sym (append_assoc turned.stands.folded.entries now.board.book.history added-then.more)
      ∙ ap (λ (es : List Entry). es ++ added-then.more) (sym past-then)

  keeps-down : KeepsUp o n last (turned.stands.folded.entries ++ last.board.book.history)
  keeps-down =
      let es = entries_behind turned.past now.board.book in
      let whole : KeepsUp o n last (es ++ added-then.more) =
      record {
        started = started-down answered-then n now.front.told last.front.told es added-then.more told-then turned.keeps.started;
        watched =
            subst (λ (xs : List Entry). IfSome last.front.told (WatchesAll last.board.book.state xs))
            (ap (λ (p : Past). p.entries ++ last.board.book.history) turned.stands.past_is ∙ all-then)
            (watched-left answered-then now.front.told last.front.told last.board.book told-then turned.past.entries
            (watched-as now.front.told now.board.book last.board.book
            (nobody-down turns now.board.book down.halted down.closed last.board.book down.halts down.closes down.retires) down.accepted turned.past.entries
            turned.keeps.watched));
        patient =
            λ none. subst (λ (cs : Option (List (ℕ × ℕ))). IsPatientRun last.front.told cs (opened_by n) (es ++ added-then.more)) (sym calls)
            (patient-down answered-then now.front.told last.front.told now.calls (opened_by n) es added-then.more told-then added-then.none (turned.keeps.patient none));
      } in
      subst (KeepsUp o n last) (sym all-then) whole

  -- what was heard, and is left
  left-then : LeavesHeard o n (entries_behind turned.past now.board.book) added-then.more turned.first turned.shares last.board.book.state.going now.front
      last.front from.out from.written now.out now.written
  left-then =
      leaves-heard o n turns (entries_behind turned.past now.board.book) added-then.more turned.first turned.shares now.board.book.state.going
      last.board.book.state.going now.front hushed last.front from.out from.written now.out now.written added-then.rest hush given down.going added-then.begins
      turned.heard

  abbrev heard-then : List Heard
  heard-then = with_last left-then.last (length (entries_behind turned.past now.board.book)) left-then.all.heard

  lines-then : LinesLeft o n (turned.stands.folded.entries ++ last.board.book.history) last.board.book.state.going last.front from.out from.written now.out
      now.written heard-then
  lines-then =
      subst (λ (es : List Entry). LinesLeft o n es last.board.book.state.going last.front from.out from.written now.out now.written heard-then) (sym all-then)
      (lines-left o n (entries_behind turned.past now.board.book) added-then.more turned.first turned.shares left-then.last last.board.book.state.going now.front
      last.front from.out from.written now.out now.written left-then.left left-then.all)

  -- the pace in the end, and the lines in their places
  paced-down : PacesLines n.slots last.front.told last.calls last.board.book.state.going (turned.stands.folded.entries ++ last.board.book.history) heard-then
  paced-down =
      let brings : brought (turned.stands.folded.entries ++ last.board.book.history)
      ≡ replicate turned.first moved ++ (turned.made ++ (map ordered (stopped_by turns) ++ replicate (length down.retires.children) moved)) =
      brought-behind turned.stands.folded.entries now.board.book.history last.board.book.history _ (down-brings turns now.board.book last.board.book down)
      ∙ ap (λ (xs : List Brought). xs ++ (map ordered (stopped_by turns) ++ replicate (length down.retires.children) moved))
      (ap brought (sym past-then) ∙ turned.brought_is)
      ∙ append_assoc (replicate turned.first moved) turned.made (map ordered (stopped_by turns) ++ replicate (length down.retires.children) moved) in
      let entries = entries_behind turned.past now.board.book in
      let placed : IfSome last.front.told (AreReadInPlace (turned.stands.folded.entries ++ last.board.book.history) turned.first turned.shares heard-then) =
      subst (λ (es : List Entry). IfSome last.front.told (AreReadInPlace es turned.first turned.shares heard-then)) (sym all-then)
      (places-left answered-then now.front.told last.front.told entries added-then.more turned.first turned.shares heard-then told-then
      (within-last o (opened_by n) entries left-then.last left-then.all.heard left-then.all.has.answered) left-then.all.placed) in
      subst (λ (cs : Option (List (ℕ × ℕ))). PacesLines n.slots last.front.told cs last.board.book.state.going
      (turned.stands.folded.entries ++ last.board.book.history) heard-then) (sym calls)
      (pace-down n.slots answered-then turns now.front.told last.front.told now.calls now.board.book.state.going last.board.book.state.going
      (turned.stands.folded.entries ++ last.board.book.history) turned.first heard-then turned.shares turned.made (length down.retires.children) told-then down.going
      (λ gone. ending-of turns first now.front now.board.book gone ends) turned.are.waits turned.are.answers turned.makes brings placed)
    where
      ending-of : (turns : Result End BoardFault) (first now : FrontSeen) (b : SeenBook) → turns ≡ Ok end.Gone → TurnsEnd turns first now b
          → (until : Option ℕ) × (b.state.going ≡ Ending until)
      ending-of turns first now b is ends =
          let all : IsAllGone b.state = subst (λ (r : Result End BoardFault). TurnsEnd r first now b) is ends in
          (all.until, all.going)

  -- a run stood so in the end, of which the front counted so since it was the first
  pub stood-down : TurnsCount turns from.front.counts now.front.counts from.board.book now.board.book → HasStood known o n from last
  stood-down counted =
      let at = turned.stands in
      let b = now.board.book in
      let d = last.board.book in
      let folded =
      folded-acts 0 _ None n down.closed d down.retires.acts
      (folded-acts 0 _ None n down.halted down.closed down.closes.acts (folded-acts 0 _ None n b down.halted down.halts at.folded)) in
      let entries = at.folded.entries ++ b.history in
      let entries' = at.folded.entries ++ d.history in
      let past = down-past o (opened_by n) turns b d down at.folded.entries in
      let left = left-counts turns hushed last.front given in
      let counts : NeverFalls now.front.counts.commands last.front.counts.commands =
      omega (arith, ap (λ (f : FrontSeen). f.counts.commands) hush, left.commands) in
      record {
        passes = down.retires.acts.passes ∙ down.closes.acts.passes ∙ down.halts.passes ∙ at.passes;
        folded = folded;
        outside = at.outside;
        ordered = past.ordered at.ordered;
        each = each-taken answered-then turns first now.front b d entries entries' last.front.told ends up down told-then at.ending past.ending;
        given =
            rises-more _ _ o.front.counts.commands now.front.counts.commands last.front.counts.commands
            (past.given_is ∙ ap (λ (m : ℕ). count_events is_by_line entries + m) (lines-owed turns)) counts at.given;
        store =
            subst (KeepsStore d.state.going entries' o.store) (sym store)
            (store-left d.state.going (spare_behind turns) at.renewals entries entries' o.store now.store (is-left turns b.state.going d.state.going down.going)
            past.orders past.refusals at.each at.no_more at.store);
        keeps = keeps-down;
        pace = paced-down.0;
        unended =
            λ before so none.
            subst (λ (x : GivenWords). CountsBut d.state.going 0 before.words.graceful_stop x.graceful_stop)
            (sym (left.words ∙ ap (λ (f : FrontSeen). f.counts.words) hush))
            (gives-none turns before from.front.counts now.front.counts from.board.book b d.state.going counted so
            (at.ending ∙ ap not (sym past.ending ∙ none-counted is_graceful_stop entries' none)) down.going);
        lines =
            record {
              heard = heard-then;
              answered = lines-then.answered;
              each = lines-then.each;
              told = lines-then.told;
              placed = paced-down.1;
              counted = lines-then.counted;
            };
        writes =
            subst (λ (x : Bool). WritesOn (open_lines (opened_by n) entries' heard-then) from.out from.written last.out x) (sym written)
            (subst (λ (x : SinkSeen). WritesOn (open_lines (opened_by n) entries' heard-then) from.out from.written x now.written) (sym out) lines-then.writes);
      }
