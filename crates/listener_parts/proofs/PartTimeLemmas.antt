-- That it goes on to be time for each of the listener's events, by each part of a round.
use Rattle.std.proofs.Common.{◌≡◌, ℕ, Bool, true, false, List, [], ◌∷◌, ◌++◌, map, None, Option, refl, sym, ap, subst, ◌∙◌, append-nil, append_assoc, ⊎_elim}
use Rattle.std.specs.Prelude.{Result, IfErr, OnErr, OnOk}
use Rattle.std.specs.declared.result.Result.TheVariants.{Ok, Err}
use Rattle.mpm_base.specs.Front.{FrontSeen}
use Rattle.mpm_base.specs.Link.{LinkTold}
use Rattle.mpm_base.specs.declared.conn.ConnName.{ConnName}
use Rattle.conn_machine.specs.declared.event.Commanded.{Commanded}
use Rattle.conn_machine.specs.declared.event.Event.{Event}
use Rattle.conn_machine.specs.declared.event.Event.TheVariants as event
use Rattle.conn_machine.specs.declared.event.Why.{Why}
use Rattle.conn_machine.specs.declared.state.State.{State}
use Rattle.conn_machine.specs.BetweenTurns.{OthersLeaveTheRestToTheListener}
use Rattle.conn_machine.specs.Folds.{opening_record}
use Rattle.conn_machine.specs.Frames.{Frame, OwnEventsTellTheFrame, frame_of}
use Rattle.conn_machine.specs.Made.{AreMade}
use Rattle.conn_machine.specs.Runs.{entries_of, own_events}
use Rattle.table_rule.specs.declared.view.View.{View}
use Rattle.table_rule.specs.declared.view.Who.{Who}
use Rattle.board_book.specs.declared.faults.BoardFault.{BoardFault}
use Rattle.worker_group.specs.Service.{give_up_events}
use Rattle.worker_group.specs.declared.service.Exit.{Exit}
use Rattle.board_turns.specs.Books.{state_of}
use Rattle.board_turns.specs.Rests.{TurnsRestOn}
use Rattle.board_turns.specs.Turns.{HadTurns, state_found}
use Rattle.board_turns.proofs.TurnLemmas.{more_turns, one_turn}
use Rattle.listener_parts.specs.Closing.{ClosesDown}
use Rattle.listener_parts.specs.Did.{Did, OnlySees}
use Rattle.listener_parts.specs.Letting.{Departures, GivesUpDrained, LetsGo, LetsGoOfConns, LetsGoUntil, departures_events, gone_events, lingering_give_up_events}
use Rattle.listener_parts.specs.Orders.{DoesNoOrder, DoesOrder}
use Rattle.listener_parts.specs.Rounds.{PassesTime, RetiresSome, Signals, SignalsSome, StartsAtFirst, StartsEach}
use Rattle.listener_parts.specs.Taking.{FailsTaking, GivesUpNew, TakesLink, TurnsAway}
use Rattle.listener_parts.specs.Times.{AreTimelyFrom, KeepsTime, MayPassTo, MaySignal, is_ended_at}
use Rattle.listener_parts.proofs.AloneLemmas.{others_alone}
use Rattle.listener_parts.proofs.DidLemmas.{did_more, did_turn}
use Rattle.listener_parts.proofs.KeepsTimeLemmas.{ArePlain, command_timely, gone_plain, keeps_own, keeps_time, left_plain, plain_both, plain_timely, ready_timely, retired_plain, time_timely}
use Rattle.listener_parts.proofs.StartTimeLemmas.{asked_timely, started_timely}

-- pass 0, of whose history all was made
pub record IsMade (v : View) : Type 0 where
  pub number : v.who.number ≡ 0
  pub made : AreMade v.origin.state (opening_record v.origin.passes) v.seen

module _ (law : OwnEventsTellTheFrame) where
  -- where it made nothing
  pub nothing_keeps : (has : Option ConnName) (old new : View) → IsMade old → Did [] has old new → KeepsTime old new
  nothing_keeps has old new is did = keeps_time law [] has old new is.number is.made did tt

  -- or events of connections alone, and the ends of children
  pub plain_keeps : (events : List Event) (has : Option ConnName) (old new : View) → IsMade old → Did events has old new → ArePlain events → KeepsTime old new
  plain_keeps events has old new is did plain =
      keeps_time law events has old new is.number is.made did (plain_timely (frame_of (state_of old)) events plain)

  turns_keep : (events : List Event) (old new : View) → IsMade old → HadTurns events old new → ArePlain events → KeepsTime old new
  turns_keep events old new is t plain =
      keeps_own law events old new is.made (subst (λ (p : ℕ). own_events p new.seen ≡ own_events p old.seen ++ events) is.number t.made) t.origin
      (plain_timely (frame_of (state_of old)) events plain)

  -- in some turns behind a part
  both_keep : (first second : List Event) (has : Option ConnName) (old between new : View) → IsMade old → Did first has old between
      → HadTurns second between new → ArePlain first → ArePlain second → KeepsTime old new
  both_keep first second has old between new is did t plain plain' =
      let number : between.who.number ≡ 0 = ap (λ (w : Who). w.number) did.who ∙ is.number in
      let one : own_events 0 between.seen ≡ own_events 0 old.seen ++ first =
      subst (λ (p : ℕ). own_events p between.seen ≡ own_events p old.seen ++ first) is.number did.made in
      let two : own_events 0 new.seen ≡ own_events 0 between.seen ++ second =
      subst (λ (p : ℕ). own_events p new.seen ≡ own_events p between.seen ++ second) number t.made in
      keeps_own law (first ++ second) old new is.made (two ∙ ap (λ l. l ++ second) one ∙ append_assoc (own_events 0 old.seen) first second)
      (t.origin ∙ did.origin) (plain_timely (frame_of (state_of old)) (first ++ second) (plain_both first second plain plain'))

  -- ## Time, and signals

  pub passes_keep : (to : ℕ) (old new : View) → IsMade old → MayPassTo to (frame_of (state_of old)) → PassesTime to old new → KeepsTime old new
  passes_keep to old new is may p =
      keeps_time law _ None old new is.number is.made p.did (time_timely to (frame_of (state_of old)) p.early p.late may)

  pub lets_go_keep : (Way : Exit → Type 0) (old new : View) → IsMade old → LetsGo Way old new → KeepsTime old new
  lets_go_keep Way old new is l = plain_keeps (gone_events l.gone) None old new is l.did (gone_plain l.gone)

  pub time_keeps : {T E : Type 0} (Way : Exit → Type 0) (to : ℕ) (old new : View) (r : Result T E) → IsMade old → OnOk r (PassesTime to old new)
      → OnErr r (LetsGo Way old new) → MayPassTo to (frame_of (state_of old)) → KeepsTime old new
  time_keeps Way to old new (Ok x) is ok err may = passes_keep to old new is may ok
  time_keeps Way to old new (Err e) is ok err may = lets_go_keep Way old new is err

  pub signals_keep : (slots : List ℕ) (old new : View) → IsMade old → MaySignal (frame_of (state_of old)) → Signals slots old new → KeepsTime old new
  signals_keep slots old new is may did =
      keeps_time law _ None old new is.number is.made did (ready_timely (frame_of (state_of old)) _ may)

  pub all_signals_keep : {T E : Type 0} (slots : List ℕ) (old new : View) (r : Result T E) → IsMade old → OnOk r (Signals slots old new)
      → OnErr r (SignalsSome slots old new) → MaySignal (frame_of (state_of old)) → KeepsTime old new
  all_signals_keep slots old new (Ok x) is ok err may = signals_keep slots old new is may ok
  all_signals_keep slots old new (Err e) is ok err may = signals_keep err.first old new is may err.signals

  -- ## Connections that are let go of

  departures_plain : (l : Departures) → ArePlain (departures_events l)
  departures_plain l =
      plain_both (gone_events l.retiring ++ gone_events l.cut) (gone_events l.drained)
      (plain_both (gone_events l.retiring) (gone_events l.cut) (gone_plain l.retiring) (gone_plain l.cut)) (gone_plain l.drained)

  gives_up : (fault : BoardFault) (old new : View) → (g : GivesUpDrained fault old new)
      → HadTurns ((event.Hold g.name ∷ []) ++ lingering_give_up_events fault g.ending g.name) old new
  gives_up fault old new g =
      more_turns (event.Hold g.name ∷ []) (lingering_give_up_events fault g.ending g.name) old g.between new g.held g.closed

  pub conns_keep : {T : Type 0} (old new : View) (r : Result T BoardFault) → IsMade old → OnOk r (LetsGoOfConns old new)
      → IfErr r (λ fault. LetsGoUntil fault old new) → KeepsTime old new
  conns_keep old new (Ok x) is ok err = plain_keeps (departures_events ok.departures) None old new is ok.did (departures_plain ok.departures)
  conns_keep old new (Err fault) is ok err =
      both_keep (departures_events err.lets.departures) _ None old err.between new is err.lets.did (gives_up fault err.between new err.last)
      (departures_plain err.lets.departures) (refl, (refl, tt))

  -- ## Children

  pub retires_keep : (old new : View) → IsMade old → RetiresSome old new → KeepsTime old new
  retires_keep old new is r = plain_keeps (map event.Retire r.children) None old new is r.did (retired_plain r.children)

  pub starts_keep : TurnsRestOn → OthersLeaveTheRestToTheListener → (old new : View) → IsMade old
      → AreMade new.origin.state (opening_record new.origin.passes) new.seen → StartsEach old new → KeepsTime old new
  starts_keep rests others old new is made s =
      keeps_time law (map event.StartChild s.children) None old new is.number is.made s.did
      (asked_timely rests others law old s.children new is.number made s.asked)

  pub first_keep : OthersLeaveTheRestToTheListener → (old new : View) → IsMade old → StartsAtFirst old new → KeepsTime old new
  first_keep others old new is s =
      let events = map event.StartChild s.children in
      let alone = others_alone others old s.found is.number s.turn.made s.turn.others in
      let same : frame_of (state_found old s.found) ≡ frame_of (state_of old) =
      rw (alone.stands.moment, alone.stands.accepted, alone.stands.newest, alone.stands.shape, alone.stands.going, alone.children) refl in
      let turn = one_turn events old s.behind (s.found, s.turn) in
      let number : s.behind.who.number ≡ 0 = ap (λ (w : Who). w.number) turn.who ∙ is.number in
      let one : own_events 0 s.behind.seen ≡ own_events 0 old.seen ++ events =
      subst (λ (p : ℕ). own_events p s.behind.seen ≡ own_events p old.seen ++ events) is.number turn.made in
      let two : own_events 0 new.seen ≡ own_events 0 s.behind.seen ++ [] =
      subst (λ (p : ℕ). own_events p new.seen ≡ own_events p s.behind.seen ++ []) number s.did.made in
      keeps_own law events old new is.made (two ∙ append-nil (own_events 0 s.behind.seen) ∙ one) (s.did.origin ∙ turn.origin)
      (subst (λ (g : Frame). AreTimelyFrom g events) same (started_timely law (state_found old s.found) s.children s.started))

  -- ## Connections that are taken

  pub takes_keep : (link : Option LinkTold) (front front' : FrontSeen) (old new : View) → IsMade old → TakesLink link front front' old new → KeepsTime old new
  takes_keep link front front' old new is t =
      plain_keeps _ None old new is t.takes.did (refl, left_plain _ t.name)

  fails_keep : (fault : BoardFault) (link : Option LinkTold) (front front' : FrontSeen) (old new : View) → IsMade old
      → FailsTaking fault link front front' old new → KeepsTime old new
  fails_keep fault link front front' old new is fails = ⊎_elim
      (λ (t : TurnsAway fault link front front' old new). nothing_keeps None old new is t.did)
      (λ (g : GivesUpNew fault link front front' old new).
      turns_keep ((event.Accept g.name.slot ∷ []) ++ give_up_events fault g.name) old new is
      (more_turns (event.Accept g.name.slot ∷ []) (give_up_events fault g.name) old g.takes.between new g.takes.took g.takes.given_up) (refl, (refl, tt)))
      fails

  pub taking_keeps : {T : Type 0} (link : Option LinkTold) (front front' : FrontSeen) (old new : View) (r : Result T BoardFault) → IsMade old
      → OnOk r (TakesLink link front front' old new) → IfErr r (λ fault. FailsTaking fault link front front' old new) → KeepsTime old new
  taking_keeps link front front' old new (Ok x) is ok err = takes_keep link front front' old new is ok
  taking_keeps link front front' old new (Err fault) is ok err = fails_keep fault link front front' old new is err

  -- ## Orders, and folds

  pub order_keeps : {T E : Type 0} (order : Commanded) (old new : View) (r : Result T E) → IsMade old → is_ended_at (frame_of (state_of old)) ≡ false
      → OnOk r (DoesOrder order old new) → IfErr r (λ e. DoesNoOrder old new) → KeepsTime old new
  order_keeps order old new (Ok x) is before ok err =
      keeps_time law (event.Command order ∷ []) None old new is.number is.made ok.did (command_timely (frame_of (state_of old)) order before)
  order_keeps order old new (Err e) is before ok err = nothing_keeps None old new is err.did

  pub sees_keep : (old new : View) → IsMade old → own_events 0 new.seen ≡ own_events 0 old.seen ++ [] → OnlySees old new → KeepsTime old new
  sees_keep old new is own sees = keeps_own law [] old new is.made own sees.origin tt

  pub closes_keep : (old new : View) → IsMade old → ClosesDown old new → KeepsTime old new
  closes_keep old new is c =
      plain_keeps (gone_events c.gone ++ map event.Retire c.children) None old new is c.did
      (plain_both (gone_events c.gone) (map event.Retire c.children) (gone_plain c.gone) (retired_plain c.children))
