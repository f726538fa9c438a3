-- That it is time for what the parts of a round add.
use Rattle.std.proofs.Common.{◌≡◌, ℕ, ◌<◌, ◌≤◌, zero, suc, Bool, true, false, not, ◌&&◌, ◌||◌, cond, List, [], ◌∷◌, ◌++◌, Option, None, Some, slice_get, IfErr, OnErr, OnOk, Result, Ok, Err, refl, sym, ap, subst, ◌∙◌, arith}
use Rattle.std.specs.Prelude.{⊤}
use Rattle.std.specs.List.{list_any}
use Rattle.std.specs.Option.{option_map_or}
use Rattle.mpm_base.specs.Moment.{greatest_moment}
use Rattle.mpm_base.specs.declared.conn.ConnName.{ConnName}
use Rattle.conn_machine.specs.declared.child.Child.{Child}
use Rattle.conn_machine.specs.declared.child.ChildPhase.{ChildPhase}
use Rattle.conn_machine.specs.declared.child.ChildPhase.TheVariants.{Empty, Running, Stopping}
use Rattle.conn_machine.specs.declared.event.Commanded.{Commanded}
use Rattle.conn_machine.specs.declared.event.Commanded.TheVariants.{Graceful, Refused, GracefulStop, Stop}
use Rattle.conn_machine.specs.declared.event.Entry.{Entry}
use Rattle.conn_machine.specs.declared.event.Event.{Event}
use Rattle.conn_machine.specs.declared.event.Event.TheVariants as event
use Rattle.conn_machine.specs.declared.event.Why.{Why}
use Rattle.conn_machine.specs.declared.event.Why.TheVariants as why
use Rattle.conn_machine.specs.declared.state.State.{State}
use Rattle.conn_machine.specs.Children.{all_stopped, is_empty, is_stopping, stopped_child}
use Rattle.conn_machine.specs.Runs.{after, AllAt}
use Rattle.conn_machine.specs.States.{is_halted, is_over, is_serving, is_at_its_end, is_staffed}
use Rattle.conn_machine.specs.Table.{child_passes, may_retire, next}
use Rattle.board.specs.Board.{SeenBoard}
use Rattle.board_book.specs.Book.{AddsOnly, SeenBook, row_in}
use Rattle.board.specs.Events.{IsAdded}
use Rattle.board_book.specs.declared.faults.BoardFault.{BoardFault}
use Rattle.board_book.specs.Finds.{startable}
use Rattle.worker_group.specs.declared.service.Exit.{Exit}
use Rattle.worker_group.specs.declared.service.Exit.TheVariants as exit
use Rattle.worker_group.specs.Acts.{Acts, ActsInSteps}
use Rattle.worker_group.specs.Service.{left_events}
use Rattle.rounds.specs.ClosingInside.{Departure, DrainsSome, DrainsUntil, IsLateWay, IsRetiringWay, LetsGo, departure_events, lingering_give_up_events, state_by}
use Rattle.rounds.specs.EndsInside.{why_of}
use Rattle.rounds.specs.PartsInside.{Departures, LetsGoOfConns, LetsGoUntil, StaysTimely, departures_events, gone_events, halt_events, halts_for}
use Rattle.rounds.specs.declared.ends.End.{End}
use Rattle.rounds.specs.TableInside.{StandsInTime}
use Rattle.board_book.specs.Timely.{AreTimely, IsTimely}
use Rattle.rounds.proofs.ActLemmas.{acts-added, lets-go-conns, lets-go-until}
use Rattle.rounds.proofs.AddedLemmas.{added-events, events_in}
use Rattle.rounds.proofs.ClosingLemmas.{GoesOnFrom, acts-state}

-- ## Events, one behind the other

-- it is time for each of the events, from the state on
abbrev pub AreTimelyFrom : State → List Event → Type 0
AreTimelyFrom s [] = ⊤
AreTimelyFrom s (e ∷ es) = IsTimely s e × AreTimelyFrom (next s e) es

timely-entries : (s : State) (entries : List Entry) → AreTimelyFrom s (events_in entries) → AreTimely s entries
timely-entries s [] timely = tt
timely-entries s (e ∷ entries) timely = (timely.0, timely-entries (next s e.event) entries timely.1)

pub timely-both : (s : State) (es fs : List Event) → AreTimelyFrom s es → AreTimelyFrom (state_by s es) fs → AreTimelyFrom s (es ++ fs)
timely-both s [] fs first second = second
timely-both s (e ∷ es) fs first second = (first.0, timely-both (next s e) es fs first.1 second)

-- what holds along two histories, one behind the other
pub all-both : (P : State → Event → Type 0) (s : State) (xs ys : List Entry) → AllAt P s xs → AllAt P (after s xs) ys → AllAt P s (xs ++ ys)
all-both P s [] ys first second = second
all-both P s (x ∷ xs) ys first second = (first.0, all-both P (next s x.event) xs ys first.1 second)

-- a pass did what it was time for
pub stays-timely : (who : ℕ) (es : List Event) (has : Option ConnName) (a b : SeenBook) → Acts who es has a b → after a.base a.history ≡ a.state
    → AreTimelyFrom a.state es → StaysTimely a b
stays-timely who es has a b acts here timely before =
    let added : AreTimely (after a.base a.history) acts.entries.0 =
    timely-entries (after a.base a.history) acts.entries.0
    (subst (λ (s : State). AreTimelyFrom s (events_in acts.entries.0)) (sym here)
    (subst (AreTimelyFrom a.state) (sym (added-events who es has a b acts)) timely)) in
    subst (λ (base : State). AreTimely base b.history) (sym acts.base)
    (subst (AreTimely a.base) (sym acts.entries.1) (all-both IsTimely a.base a.history acts.entries.0 before added))

-- ## Children that aren't gone

-- no graceful stop is at its end where some child isn't gone
staffed-by : (serves halted staffed : Bool) → staffed ≡ true → (not serves && not halted && not staffed) ≡ false
staffed-by true halted staffed is = refl
staffed-by false true staffed is = refl
staffed-by false false true is = refl
staffed-by false false false is = absurd (cc)

pub not-at_end : (s : State) → is_staffed s ≡ true → is_at_its_end s ≡ false
not-at_end s staffed = staffed-by (is_serving s.going) (is_halted s.going) (is_staffed s) staffed

serving-by : (serves halted staffed : Bool) → serves ≡ true → (not serves && not halted && not staffed) ≡ false
serving-by true halted staffed is = refl
serving-by false halted staffed is = absurd (cc)

-- nor where the server takes connections
pub not-at_end_serving : (s : State) → is_serving s.going ≡ true → is_at_its_end s ≡ false
not-at_end_serving s serves = serving-by (is_serving s.going) (is_halted s.going) (is_staffed s) serves

halted-by : (serves halted staffed : Bool) → halted ≡ true → (not serves && not halted && not staffed) ≡ false
halted-by true halted staffed is = refl
halted-by false true staffed is = refl
halted-by false false staffed is = absurd (cc is)

-- nor where it has stopped
pub not-at_end_halted : (s : State) → is_halted s.going ≡ true → is_at_its_end s ≡ false
not-at_end_halted s halted = halted-by (is_serving s.going) (is_halted s.going) (is_staffed s) halted

unserving-by : (serves halted staffed : Bool) → serves ≡ false → halted ≡ false → (not serves && not halted && not staffed) ≡ not staffed
unserving-by true halted staffed none up = absurd (cc none)
unserving-by false true staffed none up = absurd (cc up)
unserving-by false false staffed none up = refl

-- where it goes on and takes no connections one is exactly where each child is gone
pub at-end-unserving : (s : State) → is_serving s.going ≡ false → is_halted s.going ≡ false → is_at_its_end s ≡ not (is_staffed s)
at-end-unserving s none up = unserving-by (is_serving s.going) (is_halted s.going) (is_staffed s) none up

-- ## Events that leave the children, the moment, and how the server goes on

abbrev pub is_plain : Event → Bool
is_plain (event.Accept slot) = true
is_plain (event.Park name kind) = true
is_plain (event.Hold name) = true
is_plain (event.Queue name) = false
is_plain (event.Start name) = true
is_plain (event.Answer name ask) = true
is_plain (event.Linger name cause) = true
is_plain (event.Close name cause tail) = true
is_plain (event.Ready slot) = false
is_plain (event.Tick m) = false
is_plain (event.StartChild k) = false
is_plain (event.Command c) = false
is_plain (event.Retire k) = false

-- each of the events is so
abbrev pub ArePlain : List Event → Type 0
ArePlain [] = ⊤
ArePlain (e ∷ es) = (is_plain e ≡ true) × ArePlain es

pub plain-both : (es fs : List Event) → ArePlain es → ArePlain fs → ArePlain (es ++ fs)
plain-both [] fs first second = second
plain-both (e ∷ es) fs first second = (first.0, plain-both es fs first.1 second)

pub plain-left : (way : Exit) (name : ConnName) → ArePlain (left_events way name)
plain-left (exit.Park kind) name = (refl, tt)
plain-left (exit.Linger why) name = (refl, tt)
plain-left (exit.Close why how) name = (refl, tt)
plain-left (exit.GiveUp fault) name = (refl, tt)

pub plain-gone : (gone : List Departure) → ArePlain (gone_events gone)
plain-gone [] = tt
plain-gone (l ∷ gone) = plain-both (departure_events l) (gone_events gone) (refl, plain-left l.way l.name) (plain-gone gone)

pub plain-departures : (l : Departures) → ArePlain (departures_events l)
plain-departures l =
    plain-both (gone_events l.retiring ++ gone_events l.cut) (gone_events l.drained)
    (plain-both (gone_events l.retiring) (gone_events l.cut) (plain-gone l.retiring) (plain-gone l.cut)) (plain-gone l.drained)

-- such an event is timely where no graceful stop is at its end, and leaves it so
plain-step : (s : State) (e : Event) → is_plain e ≡ true → is_at_its_end s ≡ false → IsTimely s e × (is_at_its_end (next s e) ≡ false)
plain-step s (event.Accept slot) plain before = (record { asked = tt; within = λ over. refl; before = before }, before)
plain-step s (event.Park name kind) plain before = (record { asked = tt; within = λ over. refl; before = before }, before)
plain-step s (event.Hold name) plain before = (record { asked = tt; within = λ over. refl; before = before }, before)
plain-step s (event.Queue name) plain before = absurd (cc plain)
plain-step s (event.Start name) plain before = (record { asked = tt; within = λ over. refl; before = before }, before)
plain-step s (event.Answer name ask) plain before = (record { asked = tt; within = λ over. refl; before = before }, before)
plain-step s (event.Linger name cause) plain before = (record { asked = tt; within = λ over. refl; before = before }, before)
plain-step s (event.Close name cause tail) plain before = (record { asked = tt; within = λ over. refl; before = before }, before)
plain-step s (event.Ready slot) plain before = absurd (cc plain)
plain-step s (event.Tick m) plain before = absurd (cc plain)
plain-step s (event.StartChild k) plain before = absurd (cc plain)
plain-step s (event.Command c) plain before = absurd (cc plain)
plain-step s (event.Retire k) plain before = absurd (cc plain)

pub plain-timely : (s : State) (es : List Event) → ArePlain es → is_at_its_end s ≡ false → AreTimelyFrom s es
plain-timely s [] plain before = tt
plain-timely s (e ∷ es) plain before =
    let first = plain-step s e plain.0 before in
    (first.0, plain-timely (next s e) es plain.1 first.1)

-- and leaves the children
plain-child : (s : State) (e : Event) → is_plain e ≡ true → (next s e).children ≡ s.children
plain-child s (event.Accept slot) plain = refl
plain-child s (event.Park name kind) plain = refl
plain-child s (event.Hold name) plain = refl
plain-child s (event.Queue name) plain = absurd (cc plain)
plain-child s (event.Start name) plain = refl
plain-child s (event.Answer name ask) plain = refl
plain-child s (event.Linger name cause) plain = refl
plain-child s (event.Close name cause tail) plain = refl
plain-child s (event.Ready slot) plain = absurd (cc plain)
plain-child s (event.Tick m) plain = absurd (cc plain)
plain-child s (event.StartChild k) plain = absurd (cc plain)
plain-child s (event.Command c) plain = absurd (cc plain)
plain-child s (event.Retire k) plain = absurd (cc plain)

pub plain-children : (s : State) (es : List Event) → ArePlain es → (state_by s es).children ≡ s.children
plain-children s [] plain = refl
plain-children s (e ∷ es) plain = plain-children (next s e) es plain.1 ∙ plain-child s e plain.0

-- what a pass did in its time
pub stays-plain : (who : ℕ) (es : List Event) (has : Option ConnName) (a b : SeenBook) → Acts who es has a b → after a.base a.history ≡ a.state
    → ArePlain es → is_at_its_end a.state ≡ false → StaysTimely a b
stays-plain who es has a b acts here plain before = stays-timely who es has a b acts here (plain-timely a.state es plain before)

-- the children are as they were then
pub children-plain : GoesOnFrom → (who : ℕ) (es : List Event) (has : Option ConnName) (a b : SeenBook) → Acts who es has a b
    → after a.base a.history ≡ a.state → after b.base b.history ≡ b.state → ArePlain es → b.state.children ≡ a.state.children
children-plain law who es has a b acts here there plain =
    ap (λ (s : State). s.children) (acts-state law who es has a b here there acts) ∙ plain-children a.state es plain

-- so some child isn't gone where one wasn't
pub staffed-plain : GoesOnFrom → (who : ℕ) (es : List Event) (has : Option ConnName) (a b : SeenBook) → Acts who es has a b
    → after a.base a.history ≡ a.state → after b.base b.history ≡ b.state → ArePlain es → is_staffed a.state ≡ true → is_staffed b.state ≡ true
staffed-plain law who es has a b acts here there plain staffed =
    ap (list_any (λ (c : Child). not (is_empty c.phase))) (children-plain law who es has a b acts here there plain) ∙ staffed

-- ## Signals and time

-- a slot is signalled while the time of a graceful stop isn't over
pub timely-ready : (slot : ℕ) (a b : SeenBook) → Acts 0 (event.Ready slot ∷ []) None a b → after a.base a.history ≡ a.state
    → is_over a.state.moment a.state.going ≡ false → is_staffed a.state ≡ true → StaysTimely a b
timely-ready slot a b acts here within staffed =
    stays-timely 0 (event.Ready slot ∷ []) None a b acts here
    (record { asked = tt; within = λ over. absurd (cc (over, within)); before = not-at_end a.state staffed }, tt)

-- where that is refused nothing is done
pub ready-timely : {T E : Type 0} → ActsInSteps → (slot : ℕ) (b b' : SeenBoard) (r : Result T E) → OnOk r (IsAdded 0 (event.Ready slot) b b') → OnErr r (b' ≡ b)
    → AddsOnly 0 b.book b'.book → row_in 0 b'.book ≡ None → after b.book.base b.book.history ≡ b.book.state
    → is_over b.book.state.moment b.book.state.going ≡ false → is_staffed b.book.state ≡ true → StaysTimely b.book b'.book
ready-timely steps slot b b' (Ok x) added same adds row here within staffed =
    timely-ready slot b.book b'.book (acts-added steps (event.Ready slot) None b b' added.new_is adds row) here within staffed
ready-timely steps slot b b' (Err e) added same adds row here within staffed =
    subst (λ (v : SeenBoard). StaysTimely b.book v.book) (sym same) (λ before. before)

-- it leaves rows and children
pub ready-rows : {T E : Type 0} → (slot : ℕ) (b b' : SeenBoard) (r : Result T E) → OnOk r (IsAdded 0 (event.Ready slot) b b') → OnErr r (b' ≡ b)
    → b'.book.state.rows ≡ b.book.state.rows
ready-rows slot b b' (Ok x) added same = ap (λ (v : SeenBoard). v.book.state.rows) added.new_is
ready-rows slot b b' (Err e) added same = ap (λ (v : SeenBoard). v.book.state.rows) same

pub ready-children : {T E : Type 0} → (slot : ℕ) (b b' : SeenBoard) (r : Result T E) → OnOk r (IsAdded 0 (event.Ready slot) b b') → OnErr r (b' ≡ b)
    → b'.book.state.children ≡ b.book.state.children
ready-children slot b b' (Ok x) added same = ap (λ (v : SeenBoard). v.book.state.children) added.new_is
ready-children slot b b' (Err e) added same = ap (λ (v : SeenBoard). v.book.state.children) same

-- time passes while it isn't over, as moments don't end then
pub timely-tick : (m : ℕ) (a b : SeenBook) → Acts 0 (event.Tick m ∷ []) None a b → after a.base a.history ≡ a.state → StandsInTime a.state
    → a.state.moment < m → m ≤ greatest_moment → StaysTimely a b
timely-tick m a b acts here in_time later within =
    stays-timely 0 (event.Tick m ∷ []) None a b acts here (
      record {
        asked = tt;
        within = λ over. let ends : a.state.moment ≡ greatest_moment = in_time.within over in absurd (omega (arith, ends, later, within));
        before = not-at_end a.state in_time.staffed;
      },
      tt,
    )

-- ## Children

-- a child that is asked for is started
startable-serving : (s : State) (k : ℕ) (serves : Bool) (below : Bool) (found : Option ℕ) → is_serving s.going ≡ serves
    → cond (serves && below) found None ≡ Some k → is_serving s.going ≡ true
startable-serving s k true below found is some = is
startable-serving s k false below found is some = absurd (cc)

pub timely-start : (k : ℕ) (a b : SeenBook) → Acts 0 (event.StartChild k ∷ []) None a b → after a.base a.history ≡ a.state → startable a.state ≡ Some k
    → StaysTimely a b
timely-start k a b acts here needed =
    stays-timely 0 (event.StartChild k ∷ []) None a b acts here (
      record {
        asked = needed;
        within = λ over. refl;
        before = not-at_end_serving a.state (startable-serving a.state k (is_serving a.state.going) _ _ refl needed);
      },
      tt,
    )

stopping-some : (p : ChildPhase) → is_stopping p ≡ true → not (is_empty p) ≡ true
stopping-some Empty stops = absurd (cc)
stopping-some Running stops = absurd (cc)
stopping-some Stopping stops = refl

or-true : (a : Bool) → (a || true) ≡ true
or-true true = refl
or-true false = refl

some-by : (first rest : Bool) → first ≡ true → (first || rest) ≡ true
some-by true rest is = refl
some-by false rest is = absurd (cc)

some-stopping : (children : List Child) (k : ℕ) → option_map_or (λ (c : Child). is_stopping c.phase) (slice_get children k) false ≡ true
    → list_any (λ (c : Child). not (is_empty c.phase)) children ≡ true
some-stopping [] k stops = absurd (cc)
some-stopping (c ∷ children) zero stops =
    some-by (not (is_empty c.phase)) (list_any (λ (x : Child). not (is_empty x.phase)) children) (stopping-some c.phase stops)
some-stopping (c ∷ children) (suc k) stops = rw (some-stopping children k stops) (or-true (not (is_empty c.phase)))

and-first : (a b : Bool) → (a && b) ≡ true → a ≡ true
and-first true b both = refl
and-first false b both = absurd (cc)

-- one that is let go of was there
pub timely-retire : (k : ℕ) (a b : SeenBook) → Acts 0 (event.Retire k ∷ []) None a b → after a.base a.history ≡ a.state → may_retire a.state k ≡ true
    → StaysTimely a b
timely-retire k a b acts here may =
    stays-timely 0 (event.Retire k ∷ []) None a b acts here (
      record {
        asked = tt;
        within = λ over. refl;
        before = not-at_end a.state (some-stopping a.state.children k (and-first (child_passes (λ c. is_stopping c.phase) a.state k) _ may));
      },
      tt,
    )

-- ## Commands

stopped-phase : (p : ChildPhase) (c : Child) → c.phase ≡ p → is_empty (stopped_child c).phase ≡ is_empty c.phase
stopped-phase Empty c is = rw is refl
stopped-phase Running c is = rw is refl
stopped-phase Stopping c is = rw is refl

-- children that stop aren't gone
pub staffed-stopped : (children : List Child) → list_any (λ (c : Child). not (is_empty c.phase)) (all_stopped children)
    ≡ list_any (λ (c : Child). not (is_empty c.phase)) children
staffed-stopped [] = refl
staffed-stopped (c ∷ children) = rw (stopped-phase c.phase c refl, staffed-stopped children) refl

pub staffed-command : (s : State) (c : Commanded) → is_staffed s ≡ true → is_staffed (next s (event.Command c)) ≡ true
staffed-command s (Graceful shape) staffed = staffed-stopped s.children ∙ staffed
staffed-command s (Refused reason) staffed = staffed
staffed-command s (GracefulStop until) staffed = staffed-stopped s.children ∙ staffed
staffed-command s (Stop reason) staffed = staffed-stopped s.children ∙ staffed

-- a command is done while no graceful stop is at its end
pub timely-command : (c : Commanded) (a b : SeenBook) → Acts 0 (event.Command c ∷ []) None a b → after a.base a.history ≡ a.state
    → is_at_its_end a.state ≡ false → StaysTimely a b
timely-command c a b acts here before =
    stays-timely 0 (event.Command c ∷ []) None a b acts here (record { asked = tt; within = λ over. refl; before = before }, tt)

-- so is what stops the server behind the turns
stops-timely : (o : Option Why) (a b : SeenBook) → Acts 0 (halts_for o) None a b → after a.base a.history ≡ a.state → is_at_its_end a.state ≡ false → StaysTimely a b
stops-timely None a b acts here before = stays-timely 0 [] None a b acts here tt
stops-timely (Some why) a b acts here before = timely-command (Stop why) a b acts here before

pub halts-timely : (turns : Result End BoardFault) (a b : SeenBook) → Acts 0 (halt_events turns) None a b → after a.base a.history ≡ a.state
    → is_at_its_end a.state ≡ false → StaysTimely a b
halts-timely (Ok end) a b acts here before = stops-timely (why_of end) a b acts here before
halts-timely (Err fault) a b acts here before = timely-command (Stop why.NoMemory) a b acts here before

-- where nothing was done
pub stays-none : (b : SeenBook) → StaysTimely b b
stays-none b before = before

-- ## Time passes

-- connections were let go of in their time, and then some child isn't gone
pub record GoesInTime (a b : SeenBook) : Type 0 where
  pub timely : StaysTimely a b
  pub staffed : is_staffed b.state ≡ true

pub gone-in_time : GoesOnFrom → {Way : Exit → Type 0} → (a b : SeenBook) → LetsGo Way a b → after a.base a.history ≡ a.state
    → after b.base b.history ≡ b.state → is_staffed a.state ≡ true → GoesInTime a b
gone-in_time law a b lets here there staffed = record {
  timely = stays-plain 0 (gone_events lets.gone) None a b lets.acts here (plain-gone lets.gone) (not-at_end a.state staffed);
  staffed = staffed-plain law 0 (gone_events lets.gone) None a b lets.acts here there (plain-gone lets.gone) staffed;
}

-- the server stands in its time still
pub still-in_time : (a b : State) → b.moment ≡ a.moment → b.going ≡ a.going → is_staffed b ≡ true → StandsInTime a → StandsInTime b
still-in_time a b moment going staffed in_time = record {
  within = λ over. moment ∙ in_time.within (rw (← moment, ← going) over);
  staffed = staffed;
}

-- connections that retire, are late or linger were let go of
pub departs-in_time : GoesOnFrom → (a b : SeenBook) → LetsGoOfConns a b → after a.base a.history ≡ a.state → after b.base b.history ≡ b.state
    → is_staffed a.state ≡ true → GoesInTime a b
departs-in_time law a b lets here there staffed =
    let plain = plain-departures lets.departures in
    record {
      timely = stays-plain 0 (departures_events lets.departures) None a b lets.acts here plain (not-at_end a.state staffed);
      staffed = staffed-plain law 0 (departures_events lets.departures) None a b lets.acts here there plain staffed;
    }

-- and one could not wait on
pub departs-until_in_time : GoesOnFrom → ActsInSteps → (fault : BoardFault) (a b : SeenBook) → LetsGoUntil fault a b → after a.base a.history ≡ a.state
    → after b.base b.history ≡ b.state → is_staffed a.state ≡ true → GoesInTime a b
departs-until_in_time law steps fault a b until here there staffed =
    let lets = until.lets in
    let last = until.last in
    let given : List Event = event.Hold last.name ∷ lingering_give_up_events fault last.ending last.name in
    let es = departures_events lets.departures ++ given in
    let acts : Acts 0 es None a b =
    steps.more 0 (departures_events lets.departures) given None None a until.book b lets.acts
    (steps.more 0 (event.Hold last.name ∷ []) (lingering_give_up_events fault last.ending last.name) (Some last.name) None until.book last.book b last.held last.acts) in
    let plain : ArePlain es = plain-both (departures_events lets.departures) given (plain-departures lets.departures) (refl, (refl, tt)) in
    record {
      timely = stays-plain 0 es None a b acts here plain (not-at_end a.state staffed);
      staffed = staffed-plain law 0 es None a b acts here there plain staffed;
    }

-- the parts of that, whether it was refused or not
pub drained-in_time : {T : Type 0} → GoesOnFrom → ActsInSteps → (r : Result T BoardFault) (a b c d : SeenBook) → LetsGo IsRetiringWay a b → LetsGo IsLateWay b c
    → OnOk r (DrainsSome c d) → IfErr r (λ fault. DrainsUntil fault c d) → after a.base a.history ≡ a.state → after d.base d.history ≡ d.state
    → is_staffed a.state ≡ true → GoesInTime a d
drained-in_time law steps (Ok x) a b c d retiring cut drains until here there staffed =
    departs-in_time law a d (lets-go-conns steps a b c d retiring cut drains) here there staffed
drained-in_time law steps (Err fault) a b c d retiring cut drains until here there staffed =
    departs-until_in_time law steps fault a d (lets-go-until steps fault a b c d retiring cut until) here there staffed
