-- That time passes only where nothing is left to be done.
use Rattle.std.proofs.Common.{◌≡◌, ◌≢◌, ◌<◌, ◌≤◌, inl, inr, ℕ, Bool, true, false, List, [], ◌∷◌, ◌++◌, map, filter, fold, min, nat_le, Option, None, Some, Contains, refl, sym, ap, subst, ◌∙◌, eqb-true, arith}
use Rattle.std.proofs.lemmas.Bool.Decides.{nat_tests}
use Rattle.std.specs.List.{flat_map, list_any, reduce}
use Rattle.mpm_base.specs.Front.{FrontTold, TellsOn, WaitTold, earlier}
use Rattle.mpm_base.specs.declared.front.Woke.{Woke}
use Rattle.mpm_base.specs.declared.front.Woke.TheVariants as woke
use Rattle.mpm_base.specs.Clock.{AreEchoes, echo}
use Rattle.conn_machine.specs.declared.event.Entry.{Entry}
use Rattle.conn_machine.specs.declared.event.Event.{Event}
use Rattle.conn_machine.specs.declared.event.Event.TheVariants as event
use Rattle.conn_machine.specs.declared.row.Row.{Row}
use Rattle.conn_machine.specs.declared.folded.Folded.{Folded}
use Rattle.conn_machine.specs.declared.state.State.{State}
use Rattle.conn_machine.specs.Rows.{is_parked}
use Rattle.conn_machine.specs.Runs.{AreEntriesOf, after, may_make, AllAt}
use Rattle.conn_machine.specs.States.{is_overdue}
use Rattle.conn_machine.specs.Table.{next}
use Rattle.board_book.specs.Book.{SeenBook}
use Rattle.board_book.specs.Finds.{ending_moments, next_deadline_of}
use Rattle.worker_group.specs.Acts.{Acts}
use Rattle.listener.specs.ListenInside.{AsksFor}
use Rattle.rounds.specs.TableInside.{NoneOverdue}
use Rattle.listener.specs.Patient.{ArePatient, IsPatientEvent, PassesPatiently}
use Rattle.listener_round.specs.RoundInside.{Round, round_events, intake_events}
use Rattle.rounds.specs.PartsInside.{gone_events, departures_events}
use Rattle.rounds.proofs.AddedLemmas.{added-events, events_in}
use Rattle.listener.proofs.EventLemmas.{ticks_in, ticks-round}
use Rattle.rounds.proofs.TimelyLemmas.{all-both}

-- ## Histories that go on

all-weaker : (P Q : State → Event → Type 0) (s : State) (xs : List Entry) → ((t : State) (e : Event) → P t e → Q t e) → AllAt P s xs → AllAt Q s xs
all-weaker P Q s [] weaker holds = tt
all-weaker P Q s (x ∷ xs) weaker holds = (weaker s x.event holds.0, all-weaker P Q (next s x.event) xs weaker holds.1)

-- with more waits, and the same moments at which something comes
passes-weaker : (comings comings' : List ℕ) (waits waits' : List WaitTold) (s : State) (m : ℕ) → comings' ≡ comings
    → ((w : WaitTold) → Contains waits w → Contains waits' w) → PassesPatiently comings waits s m → PassesPatiently comings' waits' s m
passes-weaker comings comings' waits waits' s m same more passes = record {
  to = passes.to;
  moment = passes.moment;
  comes =
      elim passes.comes [
        | inl comes ↦ inl (subst (λ (xs : List ℕ). Contains xs passes.to) (sym same) comes)
        | inr late ↦ inr late
      ];
  rest = passes.rest;
  unsignalled = passes.unsignalled;
  wait = passes.wait;
  told = more passes.wait passes.told;
  let_pass = passes.let_pass;
}

event-weaker : (comings comings' : List ℕ) (waits waits' : List WaitTold) (s : State) (e : Event) → comings' ≡ comings
    → ((w : WaitTold) → Contains waits w → Contains waits' w) → IsPatientEvent comings waits s e → IsPatientEvent comings' waits' s e
event-weaker comings comings' waits waits' s (event.Accept slot) same more holds = tt
event-weaker comings comings' waits waits' s (event.Park name kind) same more holds = tt
event-weaker comings comings' waits waits' s (event.Hold name) same more holds = tt
event-weaker comings comings' waits waits' s (event.Queue name) same more holds = tt
event-weaker comings comings' waits waits' s (event.Start name) same more holds = tt
event-weaker comings comings' waits waits' s (event.Answer name ask) same more holds = tt
event-weaker comings comings' waits waits' s (event.Linger name cause) same more holds = tt
event-weaker comings comings' waits waits' s (event.Close name cause tail) same more holds = tt
event-weaker comings comings' waits waits' s (event.Ready slot) same more holds = tt
event-weaker comings comings' waits waits' s (event.Tick m) same more holds = passes-weaker comings comings' waits waits' s m same more holds
event-weaker comings comings' waits waits' s (event.StartChild k) same more holds = tt
event-weaker comings comings' waits waits' s (event.Command c) same more holds = tt
event-weaker comings comings' waits waits' s (event.Retire k) same more holds = tt

pub patient-weaker : (comings comings' : List ℕ) (waits waits' : List WaitTold) (s : State) (history : List Entry) → comings' ≡ comings
    → ((w : WaitTold) → Contains waits w → Contains waits' w) → ArePatient comings waits s history → ArePatient comings' waits' s history
patient-weaker comings comings' waits waits' s history same more patient =
    all-weaker (IsPatientEvent comings waits) (IsPatientEvent comings' waits') s history
    (λ t e holds. event-weaker comings comings' waits waits' t e same more holds) patient

-- ## Entries in which no time passes

tickless-by : (P : List ℕ × List WaitTold) (e : Event) (entries : List Entry) (s : State) → ticks_in e ++ flat_map ticks_in (events_in entries) ≡ []
    → (flat_map ticks_in (events_in entries) ≡ [] → ArePatient P.0 P.1 (next s e) entries)
    → IsPatientEvent P.0 P.1 s e × ArePatient P.0 P.1 (next s e) entries
tickless-by P (event.Accept slot) entries s none rest = (tt, rest none)
tickless-by P (event.Park name kind) entries s none rest = (tt, rest none)
tickless-by P (event.Hold name) entries s none rest = (tt, rest none)
tickless-by P (event.Queue name) entries s none rest = (tt, rest none)
tickless-by P (event.Start name) entries s none rest = (tt, rest none)
tickless-by P (event.Answer name ask) entries s none rest = (tt, rest none)
tickless-by P (event.Linger name cause) entries s none rest = (tt, rest none)
tickless-by P (event.Close name cause tail) entries s none rest = (tt, rest none)
tickless-by P (event.Ready slot) entries s none rest = (tt, rest none)
tickless-by P (event.Tick m) entries s none rest = absurd (cc none)
tickless-by P (event.StartChild k) entries s none rest = (tt, rest none)
tickless-by P (event.Command c) entries s none rest = (tt, rest none)
tickless-by P (event.Retire k) entries s none rest = (tt, rest none)

pub patient-tickless : (comings : List ℕ) (waits : List WaitTold) (s : State) (entries : List Entry) → flat_map ticks_in (events_in entries) ≡ []
    → ArePatient comings waits s entries
patient-tickless comings waits s [] none = tt
patient-tickless comings waits s (e ∷ entries) none =
    tickless-by (comings, waits) e.event entries s none (patient-tickless comings waits (next s e.event) entries)

serves-tickless : (p : ℕ) (had : _) (e : Event) → p ≢ 0 → may_make p had e ≡ true → ticks_in e ≡ []
serves-tickless p had (event.Accept slot) other may = refl
serves-tickless p had (event.Park name kind) other may = refl
serves-tickless p had (event.Hold name) other may = refl
serves-tickless p had (event.Queue name) other may = refl
serves-tickless p had (event.Start name) other may = refl
serves-tickless p had (event.Answer name ask) other may = refl
serves-tickless p had (event.Linger name cause) other may = refl
serves-tickless p had (event.Close name cause tail) other may = refl
serves-tickless p had (event.Ready slot) other may = refl
serves-tickless p had (event.Tick m) other may = absurd (other (eqb-true p 0 may))
serves-tickless p had (event.StartChild k) other may = refl
serves-tickless p had (event.Command c) other may = refl
serves-tickless p had (event.Retire k) other may = refl

serves-added : (p : ℕ) (base : State) (f : Folded) (before added : List Entry) → p ≢ 0 → AreEntriesOf p base f before added → flat_map ticks_in (events_in added) ≡ []
serves-added p base f before [] other are = refl
serves-added p base f before (e ∷ added) other are =
    ap (λ (xs : List ℕ). xs ++ flat_map ticks_in (events_in added)) (serves-tickless p _ e.event other are.0.role)
    ∙ serves-added p base f (before ++ e ∷ []) added other are.1

patient-added : (comings : List ℕ) (waits : List WaitTold) (who : ℕ) (es : List Event) (has : _) (a b : SeenBook) (acts : Acts who es has a b)
    → flat_map ticks_in (events_in acts.entries.0) ≡ [] → ArePatient comings waits a.base a.history → ArePatient comings waits b.base b.history
patient-added comings waits who es has a b acts none patient =
    subst (λ (base : State). ArePatient comings waits base b.history) (sym acts.base)
    (subst (ArePatient comings waits a.base) (sym acts.entries.1)
    (all-both (IsPatientEvent comings waits) a.base a.history acts.entries.0 patient
    (patient-tickless comings waits (after a.base a.history) acts.entries.0 none)))

-- events in which none passes
pub patient-silent : (comings : List ℕ) (waits : List WaitTold) (who : ℕ) (es : List Event) (has : _) (a b : SeenBook) → Acts who es has a b
    → flat_map ticks_in es ≡ [] → ArePatient comings waits a.base a.history → ArePatient comings waits b.base b.history
patient-silent comings waits who es has a b acts none patient =
    patient-added comings waits who es has a b acts (ap (flat_map ticks_in) (added-events who es has a b acts) ∙ none) patient

-- what another pass than the listener did
pub patient-served : (comings : List ℕ) (waits : List WaitTold) (who : ℕ) (es : List Event) (has : _) (a b : SeenBook) → who ≢ 0 → Acts who es has a b
    → ArePatient comings waits a.base a.history → ArePatient comings waits b.base b.history
patient-served comings waits who es has a b other acts patient =
    patient-added comings waits who es has a b acts (serves-added who a.base a.folded a.history acts.entries.0 other acts.entries.2) patient

-- ## A round

-- a list of which the first is known
record BeginsWith (m : ℕ) (es : List Event) : Type 0 where
  pub rest : List Event
  pub is : es ≡ event.Tick m ∷ rest
  pub none : flat_map ticks_in rest ≡ []

tick-first : (comings : List ℕ) (waits : List WaitTold) (s : State) (m : ℕ) (rest : List Event) (entries : List Entry) → events_in entries ≡ event.Tick m ∷ rest
    → flat_map ticks_in rest ≡ [] → PassesPatiently comings waits s m → ArePatient comings waits s entries
tick-first comings waits s m rest [] is none passes = absurd (cc is)
tick-first comings waits s m rest (e ∷ entries) is none passes =
    let first : e.event ≡ event.Tick m = cc is in
    let others : events_in entries ≡ rest = cc is in (
      subst (IsPatientEvent comings waits s) (sym first) passes,
      patient-tickless comings waits (next s e.event) entries (ap (flat_map ticks_in) others ∙ none),
    )

-- a round in which time passes, before which no connection was late
begins-round : (m : ℕ) (r : Round) → r.early ≡ [] → r.ticks ≡ m ∷ [] → BeginsWith m (round_events r)
begins-round m r early ticks =
    let rest =
    gone_events r.late ++ map event.Ready r.signals ++ departures_events r.departures ++ map event.Command r.orders ++ map event.Retire r.retired
    ++ map event.StartChild r.starts ++ flat_map intake_events r.takes in
    let is : round_events r ≡ event.Tick m ∷ rest = rw (early, ticks) refl in
    let all : m ∷ flat_map ticks_in rest ≡ m ∷ [] = sym (ap (flat_map ticks_in) is) ∙ ticks-round r ∙ ticks in
    record { rest = rest; is = is; none = cc all }

-- what a round did patiently
pub patient-round : (comings : List ℕ) (waits : List WaitTold) (r : Round) (a b : SeenBook) (m : ℕ) (acts : Acts 0 (round_events r) None a b)
    → after a.base a.history ≡ a.state → r.early ≡ [] → r.ticks ≡ m ∷ [] → PassesPatiently comings waits a.state m
    → ArePatient comings waits a.base a.history → ArePatient comings waits b.base b.history
patient-round comings waits r a b m acts state early ticks passes patient =
    let begins = begins-round m r early ticks in
    let events = added-events 0 (round_events r) None a b acts ∙ begins.is in
    subst (λ (base : State). ArePatient comings waits base b.history) (sym acts.base)
    (subst (ArePatient comings waits a.base) (sym acts.entries.1)
    (all-both (IsPatientEvent comings waits) a.base a.history acts.entries.0 patient
    (tick-first comings waits (after a.base a.history) m begins.rest acts.entries.0 events begins.none
    (subst (λ (s : State). PassesPatiently comings waits s m) (sym state) passes))))

-- ## Deadlines

-- the deadlines of the rows that wait
abbrev deadlines : List Row → List ℕ
deadlines rows = map (λ r. r.deadline) (filter (λ r. is_parked r.place) rows)

fold-least : (x : ℕ) (xs : List ℕ) → fold min x xs ≤ x
fold-least x [] = omega arith
fold-least x (y ∷ ys) = omega (arith, fold-least (min x y) ys)

fold-late-by : (m x : ℕ) (r : Row) (rows : List Row) (others : List ℕ) (parked due : Bool) → is_parked r.place ≡ parked → nat_le r.deadline m ≡ due
    → ((y : ℕ) → list_any (is_overdue m) rows ≡ true → fold min y (deadlines rows ++ others) ≤ m) → list_any (is_overdue m) (r ∷ rows) ≡ true
    → fold min x (deadlines (r ∷ rows) ++ others) ≤ m
fold-late-by m x r rows others true true parked due further late =
    let within : r.deadline ≤ m = grind (arith, nat_tests) in
    rw parked (omega (arith, within, fold-least (min x r.deadline) (deadlines rows ++ others)))
fold-late-by m x r rows others true false parked due further late =
    let rest : list_any (is_overdue m) rows ≡ true = rw (parked, due) at late in
    rw parked (further (min x r.deadline) rest)
fold-late-by m x r rows others false due parked at further late =
    let rest : list_any (is_overdue m) rows ≡ true = rw parked at late in
    rw parked (further x rest)

fold-late : (m x : ℕ) (rows : List Row) (others : List ℕ) → list_any (is_overdue m) rows ≡ true → fold min x (deadlines rows ++ others) ≤ m
fold-late m x [] others late = absurd (cc late)
fold-late m x (r ∷ rows) others late =
    fold-late-by m x r rows others (is_parked r.place) (nat_le r.deadline m) refl refl (λ y rest. fold-late m y rows others rest) late

-- the least deadline is at or before the moment where a row is late
record IsDue (m : ℕ) (o : Option ℕ) : Type 0 where
  pub at : ℕ
  pub is : o ≡ Some at
  pub due : at ≤ m

least-late-by : (m : ℕ) (r : Row) (rows : List Row) (others : List ℕ) (parked due : Bool) → is_parked r.place ≡ parked → nat_le r.deadline m ≡ due
    → (list_any (is_overdue m) rows ≡ true → IsDue m (reduce min (deadlines rows ++ others))) → list_any (is_overdue m) (r ∷ rows) ≡ true
    → IsDue m (reduce min (deadlines (r ∷ rows) ++ others))
least-late-by m r rows others true true parked due further late =
    let within : r.deadline ≤ m = grind (arith, nat_tests) in
    let least : fold min r.deadline (deadlines rows ++ others) ≤ m = omega (arith, within, fold-least r.deadline (deadlines rows ++ others)) in
    rw parked (record { at = fold min r.deadline (deadlines rows ++ others); is = refl; due = least })
least-late-by m r rows others true false parked due further late =
    let rest : list_any (is_overdue m) rows ≡ true = rw (parked, due) at late in
    rw parked (record { at = fold min r.deadline (deadlines rows ++ others); is = refl; due = fold-late m r.deadline rows others rest })
least-late-by m r rows others false due parked at further late =
    let rest : list_any (is_overdue m) rows ≡ true = rw parked at late in
    rw parked (further rest)

least-late : (m : ℕ) (rows : List Row) (others : List ℕ) → list_any (is_overdue m) rows ≡ true → IsDue m (reduce min (deadlines rows ++ others))
least-late m [] others late = absurd (cc late)
least-late m (r ∷ rows) others late =
    least-late-by m r rows others (is_parked r.place) (nat_le r.deadline m) refl refl (λ rest. least-late m rows others rest) late

earlier-later : (at there : ℕ) (other : Option ℕ) → earlier (Some at) other ≡ Some there → at < there → ⊥
earlier-later at there None goes less = let same : at ≡ there = cc goes in omega (arith, same, less)
earlier-later at there (Some m) goes less = let same : min at m ≡ there = cc goes in omega (arith, same, less)

-- where a wait goes on to a later moment until the least deadline, none is late
none-late-by : (s : State) (until other : Option ℕ) (here there : ℕ) (late : Bool) → list_any (is_overdue s.moment) s.rows ≡ late
    → until ≡ next_deadline_of s → earlier until other ≡ Some there → s.moment ≤ here → here < there → list_any (is_overdue s.moment) s.rows ≡ false
none-late-by s until other here there false is until_is to before later = is
none-late-by s until other here there true is until_is to before later =
    let due = least-late s.moment s.rows (ending_moments s.going) is in
    let first : until ≡ Some due.at = until_is ∙ due.is in
    let goes : earlier (Some due.at) other ≡ Some there = subst (λ (o : Option ℕ). earlier o other ≡ Some there) first to in
    absurd (earlier-later due.at there other goes (omega (arith, due.due, before, later)))

pub none-late-then : (s : State) (until other : Option ℕ) (here there : ℕ) → until ≡ next_deadline_of s → earlier until other ≡ Some there → s.moment ≤ here
    → here < there → NoneOverdue s
none-late-then s until other here there until_is to before later =
    none-late-by s until other here there (list_any (is_overdue s.moment) s.rows) refl until_is to before later

-- ## The clock and the front

-- what a front told before it told this
pub told-before : (Goes : FrontTold → FrontTold → Type 0) (told told' : Option FrontTold) (t' : FrontTold) → TellsOn Goes told told' → told' ≡ Some t'
    → (t : FrontTold) × (told ≡ Some t) × Goes t t'
told-before Goes None told' t' tells is = absurd (cc (tells, is))
told-before Goes (Some t) told' t' tells is =
    let at = tells.1 in
    let same : tells.0 ≡ t' = cc (at, is) in
    (t, refl, subst (Goes t) same tells.2)

-- the moment behind an answer of a wait, of a clock that echoes
abbrev pub MomentOf : Woke → ℕ → ℕ → Type 0
MomentOf (woke.Woke m) present moment = moment ≡ m
MomentOf woke.Ended present moment = moment ≡ present
MomentOf woke.Failed present moment = moment ≡ present

-- the calls of a clock that echoes, but for the last one
pub record EchoedTo (answer : Woke) (present moment : ℕ) (calls : Option (List (ℕ × ℕ))) : Type 0 where
  pub asked : List (ℕ × ℕ)
  pub are : calls ≡ Some asked
  pub echoes : AreEchoes asked
  pub moment_is : MomentOf answer present moment

echoes-front : (calls : List (ℕ × ℕ)) (call : ℕ × ℕ) → AreEchoes (calls ++ call ∷ []) → AreEchoes calls × (call ≡ echo call.0)
echoes-front [] call echoes = (refl, let same : call ≡ echo call.0 = cc echoes in same)
echoes-front (c ∷ calls) call echoes =
    let first : c ≡ echo c.0 = cc echoes in
    let others : AreEchoes (calls ++ call ∷ []) = cc echoes in
    let rest = echoes-front calls call others in
    (ap (λ (x : ℕ × ℕ). x ∷ calls) first ∙ ap (λ (xs : List (ℕ × ℕ)). echo c.0 ∷ xs) rest.0, rest.1)

echoed-one : (at moment present : ℕ) (calls : List (ℕ × ℕ)) (asked : List (ℕ × ℕ)) → calls ++ (at, moment) ∷ [] ≡ asked → AreEchoes asked
    → EchoedTo (woke.Woke at) present moment (Some calls)
echoed-one at moment present calls asked is echoes =
    let both = echoes-front calls (at, moment) (subst AreEchoes (sym is) echoes) in
    let last = both.1 in
    record { asked = calls; are = refl; echoes = both.0; moment_is = ap (λ (x : ℕ × ℕ). x.1) last }

-- so it is before a call
pub echoed-before : (answer : Woke) (present moment : ℕ) (calls calls' : Option (List (ℕ × ℕ))) (asked : List (ℕ × ℕ))
    → AsksFor answer present calls calls' moment → calls' ≡ Some asked → AreEchoes asked → EchoedTo answer present moment calls
echoed-before (woke.Woke m) present moment None calls' asked asks is echoes = absurd (cc (asks, is))
echoed-before (woke.Woke m) present moment (Some calls) calls' asked asks is echoes =
    let same : calls ++ (m, moment) ∷ [] ≡ asked = cc (asks, is) in
    echoed-one m moment present calls asked same echoes
echoed-before woke.Ended present moment calls calls' asked asks is echoes =
    record { asked = asked; are = sym asks.0 ∙ is; echoes = echoes; moment_is = asks.1 }
echoed-before woke.Failed present moment calls calls' asked asks is echoes =
    record { asked = asked; are = sym asks.0 ∙ is; echoes = echoes; moment_is = asks.1 }
