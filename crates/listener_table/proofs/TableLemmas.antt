-- That a table stays one.
use Rattle.std.proofs.Common.{◌≡◌, ℕ, zero, suc, ◌+◌, ◌++◌, max, Bool, true, false, not, ◌&&◌, if◌then◌else◌, List, [], ◌∷◌, length, None, Some, Option, append-nil, refl, sym, ap, subst, ◌∙◌, arith, ⊎_elim}
use Rattle.std.specs.Prelude.{Result, IfErr, OnErr, OnOk, is_ok, slice_index}
use Rattle.std.specs.declared.result.Result.TheVariants.{Ok, Err}
use Rattle.atomic_table.specs.Table.{Me}
use Rattle.mpm_base.specs.declared.shape.Shape.{Shape}
use Rattle.mpm_base.specs.Front.{FrontSeen}
use Rattle.mpm_base.specs.Link.{LinkTold}
use Rattle.conn_machine.specs.declared.event.Commanded.TheVariants as commanded
use Rattle.conn_machine.specs.declared.event.Event.{Event}
use Rattle.conn_machine.specs.declared.event.Event.TheVariants as event
use Rattle.conn_machine.specs.declared.event.Refusal.{Refusal}
use Rattle.conn_machine.specs.declared.event.Why.{Why}
use Rattle.conn_machine.specs.declared.state.Going.{Going}
use Rattle.conn_machine.specs.declared.state.Going.TheVariants.{Serving, Ending, Halted}
use Rattle.conn_machine.specs.declared.state.State.{State}
use Rattle.conn_machine.specs.Folds.{opening_record}
use Rattle.conn_machine.specs.Frames.{Frame, OwnEventsTellTheFrame, frame_of, frames}
use Rattle.conn_machine.specs.Made.{AreMade}
use Rattle.conn_machine.specs.Passes.{EachHasItsOwn}
use Rattle.conn_machine.specs.Runs.{after, first_row, own_events}
use Rattle.conn_machine.specs.Sound.{IsSound}
use Rattle.conn_machine.specs.States.{is_halted, is_serving, is_staffed}
use Rattle.conn_state.specs.Known.{KnownOutside}
use Rattle.table_rule.specs.declared.view.Origin.{Origin}
use Rattle.table_rule.specs.declared.view.View.{View}
use Rattle.board_book.specs.Book.{row_in}
use Rattle.board_book.specs.declared.faults.BoardFault.{BoardFault}
use Rattle.worker_group.specs.Service.{give_up_events}
use Rattle.worker_group.specs.declared.service.Exit.{Exit}
use Rattle.board_turns.specs.Books.{book_of, state_of}
use Rattle.board_turns.specs.Turns.{HadATurn, IsListener}
use Rattle.board_turns.proofs.TurnLemmas.{more_turns}
use Rattle.listener_turns.specs.Folds.{HasDropped}
use Rattle.listener_parts.specs.Closing.{halts_for}
use Rattle.listener_parts.specs.Did.{Did, LeavesAlone, OnlySees, StandsAs}
use Rattle.listener_parts.specs.Letting.{GivesUpDrained, LetsGo, LetsGoOfConns, LetsGoUntil, lingering_give_up_events}
use Rattle.listener_parts.specs.Orders.{DoesNoOrder, DoesOrder}
use Rattle.listener_parts.specs.Rounds.{AreCredits, NoneHasCredit, OpenedWithNone, PassesTime, Signals, SignalsSome}
use Rattle.listener_parts.specs.Taking.{FailsTaking, GivesUpNew, TakesLink, TurnsAway}
use Rattle.listener_parts.specs.Times.{KeepsTime, is_ended_at}
use Rattle.listener_parts.proofs.AloneLemmas.{turn_alone}
use Rattle.listener_parts.proofs.DidLemmas.{did_more, did_turn, did_turns, own_seen}
use Rattle.listener_parts.proofs.DroppedLemmas.{dropped_on}
use Rattle.listener_parts.proofs.KeepsTimeLemmas.{command_timely, keeps_time}
use Rattle.listener_parts.proofs.PartTimeLemmas.{IsMade, nothing_keeps}
use Rattle.listener_table.specs.Laws.{TableRestsOn}
use Rattle.listener_table.specs.Table.{IsTable}

-- no pass had a connection as the server opened, whatever was done since
pub opened_on : (old new : View) → new.origin ≡ old.origin → OpenedWithNone old → OpenedWithNone new
opened_on old new origin opened =
    subst (λ (o : Origin). EachHasItsOwn o.state (first_row (opening_record o.passes))) (sym origin) opened

-- ## What a table knows of its pass

module _ {S : Type 0} {known : Option KnownOutside} {me : Me S View} {credits : List ℕ} {moment newest : ℕ} {going : Going} (t : IsTable known me credits moment newest going) where
  pub is_made : IsMade me.0
  is_made = record { number = t.listener.number; made = t.listener.made }

-- ## What a part leaves of it

module _ {S : Type 0} (laws : TableRestsOn) {known : Option KnownOutside} {old new : Me S View} {credits : List ℕ} {moment newest : ℕ} {going : Going} (t : IsTable known old credits moment newest going) (is : IsListener new) where
  -- what the listener alone decides is what its events make of it
  framed : (events : List Event) → Did events None old.0 new.0 → frame_of (state_of new.0) ≡ frames (frame_of (state_of old.0)) events
  framed events did =
      let own : own_events 0 new.0.seen ≡ own_events 0 old.0.seen ++ events =
      subst (λ (p : ℕ). own_events p new.0.seen ≡ own_events p old.0.seen ++ events) t.listener.number did.made in
      ap (λ (o : Origin). frame_of (after o.state new.0.seen)) did.origin
      ∙ laws.frame.since old.0.origin.state (opening_record old.0.origin.passes) old.0.seen new.0.seen events t.listener.made
      (subst (λ (o : Origin). AreMade o.state (opening_record o.passes) new.0.seen) did.origin is.made) own

  pub table_on : (events : List Event) → Did events None old.0 new.0 → (credits' : List ℕ) → AreCredits credits' new.0 → (moment' newest' : ℕ) (going' : Going)
      → moment' ≡ (state_of new.0).moment → newest' ≡ (state_of new.0).newest → going' ≡ (state_of new.0).going → IsTable known new credits' moment' newest' going'
  table_on events did credits' credited moment' newest' going' moment_is newest_is going_is = record {
    listener = is;
    none = did.row;
    credited = credited;
    opened = opened_on old.0 new.0 did.origin t.opened;
    sound = subst (λ (o : Origin). IsSound o.state) (sym did.origin) t.sound;
    dropped = dropped_on laws.editions laws.ends known events None old.0 new.0 did t.dropped;
    moment_is = moment_is;
    newest_is = newest_is;
    going_is = going_is;
  }

  -- credits that are the pass's still are
  kept : new.0.credits ≡ old.0.credits → AreCredits credits new.0
  kept same = record { own = t.credited.own ∙ sym same; full = t.credited.full }

  -- where what pass 0 keeps of the state is as it was
  pub table_stays : (events : List Event) → Did events None old.0 new.0 → (credits' : List ℕ) → AreCredits credits' new.0 → StandsAs (state_of old.0) (state_of new.0)
      → IsTable known new credits' moment newest going
  table_stays events did credits' credited stands =
      table_on events did credits' credited moment newest going (t.moment_is ∙ sym stands.moment) (t.newest_is ∙ sym stands.newest) (t.going_is ∙ sym stands.going)

  -- and the credits are too
  pub table_leaves : (events : List Event) → Did events None old.0 new.0 → new.0.credits ≡ old.0.credits → LeavesAlone (state_of old.0) (state_of new.0)
      → IsTable known new credits moment newest going
  table_leaves events did same rest = table_stays events did credits (kept same) rest.stands

  -- ## Looks

  pub look_did : HadATurn [] old.0 new.0 → new.0.row ≡ old.0.row → Did [] None old.0 new.0
  look_did turn row = did_turn [] None old.0 new.0 turn (row ∙ t.none)

  pub look_leaves : HadATurn [] old.0 new.0 → LeavesAlone (state_of old.0) (state_of new.0)
  look_leaves turn = turn_alone laws.others laws.turns [] old.0 new.0 t.listener.number tt turn

  pub table_looks : HadATurn [] old.0 new.0 → new.0.row ≡ old.0.row → IsTable known new credits moment newest going
  table_looks turn row = table_leaves [] (look_did turn row) turn.1.stays.credits (look_leaves turn)

  -- ## Time, and signals

  pub table_passes : {T E : Type 0} (Way : Exit → Type 0) (to moment' : ℕ) (passed : Bool) (r : Result T E) → OnOk r (PassesTime to old.0 new.0)
      → OnErr r (LetsGo Way old.0 new.0) → new.0.credits ≡ old.0.credits → OnOk r ((state_of new.0).moment ≡ max (state_of old.0).moment to)
      → LeavesAlone (record (state_of old.0) { moment = (state_of new.0).moment }) (state_of new.0) → OnErr r (LeavesAlone (state_of old.0) (state_of new.0))
      → passed ≡ is_ok r → moment' ≡ (if passed then max moment to else moment) → IsTable known new credits moment' newest going
  table_passes Way to moment' passed (Ok x) ok err same at rest stays has behind =
      let here : moment' ≡ max moment to = behind ∙ ap (λ (b : Bool). if b then max moment to else moment) has in
      table_on _ ok.did credits (kept same) moment' newest going (here ∙ ap (λ n. max n to) t.moment_is ∙ sym at) (t.newest_is ∙ sym rest.stands.newest)
      (t.going_is ∙ sym rest.stands.going)
  table_passes Way to moment' passed (Err e) ok err same at rest stays has behind =
      let here : moment' ≡ moment = behind ∙ ap (λ (b : Bool). if b then max moment to else moment) has in
      table_on _ err.did credits (kept same) moment' newest going (here ∙ t.moment_is ∙ sym stays.stands.moment) (t.newest_is ∙ sym stays.stands.newest)
      (t.going_is ∙ sym stays.stands.going)

  pub table_signals : {T E : Type 0} (slots : List ℕ) (r : Result T E) → OnOk r (Signals slots old.0 new.0) → OnErr r (SignalsSome slots old.0 new.0)
      → new.0.credits ≡ old.0.credits → LeavesAlone (state_of old.0) (state_of new.0) → IsTable known new credits moment newest going
  table_signals slots (Ok x) ok err same rest = table_leaves _ ok same rest
  table_signals slots (Err e) ok err same rest = table_leaves _ err.signals same rest

  -- ## Connections

  until_did : (fault : BoardFault) (l : LetsGoUntil fault old.0 new.0) → (events : List Event) × Did events None old.0 new.0
  until_did fault l =
      let g = l.last in
      let both = more_turns (event.Hold g.name ∷ []) (lingering_give_up_events fault g.ending g.name) l.between g.between new.0 g.held g.closed in
      (_, did_more _ _ None None old.0 l.between new.0 l.lets.did (did_turns _ None l.between new.0 both g.row))

  pub table_lets : {T : Type 0} (r : Result T BoardFault) → OnOk r (LetsGoOfConns old.0 new.0) → IfErr r (λ fault. LetsGoUntil fault old.0 new.0)
      → new.0.credits ≡ old.0.credits → LeavesAlone (state_of old.0) (state_of new.0) → IsTable known new credits moment newest going
  table_lets (Ok x) ok err same rest = table_leaves _ ok.did same rest
  table_lets (Err fault) ok err same rest = table_leaves _ (until_did fault err).1 same rest

  -- one was taken, and counted
  counts : (events : List Event) → Did events None old.0 new.0 → new.0.credits ≡ old.0.credits
      → LeavesAlone (record (state_of old.0) { accepted = (state_of new.0).accepted }) (state_of new.0) → IsTable known new credits moment newest going
  counts events did same rest =
      table_on events did credits (kept same) moment newest going (t.moment_is ∙ sym rest.stands.moment) (t.newest_is ∙ sym rest.stands.newest)
      (t.going_is ∙ sym rest.stands.going)

  pub table_takes : {T : Type 0} (link : Option LinkTold) (front front' : FrontSeen) (r : Result T BoardFault) → OnOk r (TakesLink link front front' old.0 new.0)
      → IfErr r (λ fault. FailsTaking fault link front front' old.0 new.0) → new.0.row ≡ None → new.0.credits ≡ old.0.credits
      → LeavesAlone (record (state_of old.0) { accepted = (state_of new.0).accepted }) (state_of new.0) → IsTable known new credits moment newest going
  table_takes link front front' (Ok x) ok err row same rest = counts _ ok.takes.did same rest
  table_takes link front front' (Err fault) ok err row same rest = ⊎_elim
      (λ (away : TurnsAway fault link front front' old.0 new.0). counts _ away.did same rest)
      (λ (g : GivesUpNew fault link front front' old.0 new.0).
      counts _
      (did_turns _ None old.0 new.0
      (more_turns (event.Accept g.name.slot ∷ []) (give_up_events fault g.name) old.0 g.takes.between new.0 g.takes.took g.takes.given_up) row)
      same rest)
      err

  -- ## Orders

  pub table_begins : {T E : Type 0} (shape : Shape) (newest' : ℕ) (begun : Bool) (r : Result T E) → OnOk r (DoesOrder (commanded.Graceful shape) old.0 new.0)
      → IfErr r (λ e. DoesNoOrder old.0 new.0) → new.0.credits ≡ old.0.credits → begun ≡ is_ok r → newest' ≡ (if begun then newest + 1 else newest)
      → IsTable known new credits moment newest' going
  table_begins shape newest' begun (Ok x) ok err same has behind =
      let here : newest' ≡ newest + 1 = behind ∙ ap (λ (b : Bool). if b then newest + 1 else newest) has in
      table_on _ ok.did credits (kept same) moment newest' going (t.moment_is ∙ sym (ap (λ (f : Frame). f.moment) ok.frame))
      (here ∙ ap (λ n. n + 1) t.newest_is ∙ sym (ap (λ (f : Frame). f.newest) ok.frame)) (t.going_is ∙ sym (ap (λ (f : Frame). f.going) ok.frame))
  table_begins shape newest' begun (Err e) ok err same has behind =
      let here : newest' ≡ newest = behind ∙ ap (λ (b : Bool). if b then newest + 1 else newest) has in
      let stands = err.rest.stands in
      table_on _ err.did credits (kept same) moment newest' going (t.moment_is ∙ sym stands.moment) (here ∙ t.newest_is ∙ sym stands.newest)
      (t.going_is ∙ sym stands.going)

  pub table_refuses : {T E : Type 0} (reason : Refusal) (r : Result T E) → OnOk r (DoesOrder (commanded.Refused reason) old.0 new.0)
      → IfErr r (λ e. DoesNoOrder old.0 new.0) → new.0.credits ≡ old.0.credits → IsTable known new credits moment newest going
  table_refuses reason (Ok x) ok err same =
      table_on _ ok.did credits (kept same) moment newest going (t.moment_is ∙ sym (ap (λ (f : Frame). f.moment) ok.frame))
      (t.newest_is ∙ sym (ap (λ (f : Frame). f.newest) ok.frame)) (t.going_is ∙ sym (ap (λ (f : Frame). f.going) ok.frame))
  table_refuses reason (Err e) ok err same = table_leaves _ err.did same err.rest

  pub table_ends : {T E : Type 0} (until : Option ℕ) (going' : Going) (ends : Bool) (r : Result T E) → OnOk r (DoesOrder (commanded.GracefulStop until) old.0 new.0)
      → IfErr r (λ e. DoesNoOrder old.0 new.0) → new.0.credits ≡ old.0.credits → ends ≡ is_ok r → going' ≡ (if ends then Ending until else going)
      → IsTable known new credits moment newest going'
  table_ends until going' ends (Ok x) ok err same has behind =
      let here : going' ≡ Ending until = behind ∙ ap (λ (b : Bool). if b then Ending until else going) has in
      table_on _ ok.did credits (kept same) moment newest going' (t.moment_is ∙ sym (ap (λ (f : Frame). f.moment) ok.frame))
      (t.newest_is ∙ sym (ap (λ (f : Frame). f.newest) ok.frame)) (here ∙ sym (ap (λ (f : Frame). f.going) ok.frame))
  table_ends until going' ends (Err e) ok err same has behind =
      let here : going' ≡ going = behind ∙ ap (λ (b : Bool). if b then Ending until else going) has in
      let stands = err.rest.stands in
      table_on _ err.did credits (kept same) moment newest going' (t.moment_is ∙ sym stands.moment) (t.newest_is ∙ sym stands.newest)
      (here ∙ t.going_is ∙ sym stands.going)

  -- ## A stop

  pub table_stops : (reason : Why) (stopped : Bool) (going' : Going) → Did (if stopped then halts_for (Some reason) else []) None old.0 new.0
      → new.0.credits ≡ old.0.credits → going' ≡ (if stopped then Halted reason else going) → IsTable known new credits moment newest going'
  table_stops reason true going' did same behind =
      let f = framed _ did in
      table_on _ did credits (kept same) moment newest going' (t.moment_is ∙ sym (ap (λ (g : Frame). g.moment) f))
      (t.newest_is ∙ sym (ap (λ (g : Frame). g.newest) f)) (behind ∙ sym (ap (λ (g : Frame). g.going) f))
  table_stops reason false going' did same behind =
      let f = framed _ did in
      table_on _ did credits (kept same) moment newest going' (t.moment_is ∙ sym (ap (λ (g : Frame). g.moment) f))
      (t.newest_is ∙ sym (ap (λ (g : Frame). g.newest) f)) (behind ∙ t.going_is ∙ sym (ap (λ (g : Frame). g.going) f))

  -- ## Folds

  pub table_folds : OnlySees old.0 new.0 → new.0.credits ≡ old.0.credits → (HasDropped known old.0 → HasDropped known new.0)
      → LeavesAlone (state_of old.0) (state_of new.0) → IsTable known new credits moment newest going
  table_folds sees same dropped rest = record {
    listener = is;
    none = sees.row;
    credited = kept same;
    opened = opened_on old.0 new.0 sees.origin t.opened;
    sound = subst (λ (o : Origin). IsSound o.state) (sym sees.origin) t.sound;
    dropped = dropped t.dropped;
    moment_is = t.moment_is ∙ sym rest.stands.moment;
    newest_is = t.newest_is ∙ sym rest.stands.newest;
    going_is = t.going_is ∙ sym rest.stands.going;
  }

  -- what it sees in a fold is none of its own
  pub folds_own : OnlySees old.0 new.0 → own_events 0 new.0.seen ≡ own_events 0 old.0.seen ++ []
  folds_own sees =
      subst (λ (p : ℕ). own_events p new.0.seen ≡ own_events p old.0.seen ++ []) t.listener.number (own_seen old.0.who.number old.0.seen new.0.seen sees.others)

-- it is time for a stop where a graceful stop isn't at its end
pub stops_keep : OwnEventsTellTheFrame → (reason : Why) (stopped : Bool) (old new : View) → IsMade old
    → Did (if stopped then halts_for (Some reason) else []) None old new → is_ended_at (frame_of (state_of old)) ≡ false → KeepsTime old new
stops_keep law reason true old new is did before =
    keeps_time law (event.Command (commanded.Stop reason) ∷ []) None old new is.number is.made did
    (command_timely (frame_of (state_of old)) (commanded.Stop reason) before)
stops_keep law reason false old new is did before = nothing_keeps law None old new is did

ended_none : (serves halted staffed : Bool) → serves ≡ true → (not serves && not halted && not staffed) ≡ false
ended_none true halted staffed is = refl
ended_none false halted staffed is = absurd (cc is)

-- none is where the server takes connections
pub serves_before : (s : State) → is_serving s.going ≡ true → is_ended_at (frame_of s) ≡ false
serves_before s serving = ended_none (is_serving s.going) (is_halted s.going) (is_staffed s) serving

-- ## Opening

same_lists : (xs ys : List ℕ) → length xs ≡ length ys → ((k : ℕ) → slice_index xs k ≡ slice_index ys k) → xs ≡ ys
same_lists [] [] long same = refl
same_lists [] (y ∷ ys) long same = absurd (omega (arith, long))
same_lists (x ∷ xs) [] long same = absurd (omega (arith, long))
same_lists (x ∷ xs) (y ∷ ys) long same =
    let first : x ≡ y = same zero in
    ap (λ n. n ∷ xs) first ∙ ap (λ l. y ∷ l) (same_lists xs ys (omega (arith, long)) (λ k. same (suc k)))

-- no child has a credit yet
pub no_credits : (credits : List ℕ) (v : View) → NoneHasCredit credits → length credits ≡ 32 → ((child : ℕ) → slice_index v.credits child ≡ 0)
    → length v.credits ≡ 32 → AreCredits credits v
no_credits credits v none full none' full' = record {
  own = same_lists credits v.credits (full ∙ sym full') (λ k. none k ∙ sym (none' k));
  full = full;
}

-- ## What a table shows

module _ {S : Type 0} (laws : TableRestsOn) {known : Option KnownOutside} {me : Me S View} {credits : List ℕ} {moment newest : ℕ} {going : Going} (t : IsTable known me credits moment newest going) where
  pub shown_sound : IsSound (state_of me.0)
  shown_sound =
      let s = me.0.origin.state in
      laws.sound.run s me.0.seen t.sound (laws.runs.run s (opening_record me.0.origin.passes) me.0.seen t.listener.made) me.0.seen [] (sym (append-nil me.0.seen))

  pub shown_row : row_in 0 (book_of me.0) ≡ None
  shown_row = laws.turns.opens me.0.origin.passes 0 me.0.seen ∙ sym t.listener.row_is ∙ t.none
