-- That the listener is abreast of a patient front, and lets time pass only where nothing is left to be done.
use Rattle.std.proofs.Common.{◌≡◌, ◌≢◌, ◌⊎◌, ◌<◌, ◌≤◌, ◌-◌, inl, inr, ℕ, Bool, true, false, not, ◌&&◌, cond, if◌then◌else◌, List, [], ◌∷◌, ◌++◌, find, length, max, min, nat_le, nat_lt, Option, None, Some, is_some, option_map, IfSome, Contains, Result, refl, sym, ap, subst, ◌∙◌, append-nil, arith}
use Rattle.std.proofs.lemmas.Bool.Decides.{nat_tests}
use Rattle.std.proofs.lemmas.List.Elements.{Contains-append_left, Contains-append_right}
use Rattle.std.specs.List.{flat_map, list_any}
use Rattle.mpm_base.specs.Front.{FrontSeen, FrontTold, GoesForward, HasNoneToTake, IsAnswerOf, IsPatient, LetsTimePass, TellsOn, WaitTold, Backlog, after_hush, earlier, hushed_front, next_coming, progress_of}
use Rattle.mpm_base.specs.declared.front.Woke.{Woke}
use Rattle.mpm_base.specs.declared.front.Woke.TheVariants as woke
use Rattle.mpm_base.specs.declared.conn.ConnName.{ConnName}
use Rattle.conn_machine.specs.declared.event.Entry.{Entry}
use Rattle.conn_machine.specs.declared.event.Event.{Event}
use Rattle.conn_machine.specs.declared.row.Row.{Row}
use Rattle.conn_machine.specs.declared.state.State.{State}
use Rattle.conn_machine.specs.Rows.{is_vacant}
use Rattle.conn_machine.specs.Runs.{after}
use Rattle.conn_machine.specs.Sound.{IsSound}
use Rattle.conn_machine.specs.States.{is_serving, pick_child}
use Rattle.conn_state.specs.Conn.{IsFrontOf}
use Rattle.board_book.specs.declared.faults.BoardFault.{BoardFault}
use Rattle.board.specs.Board.{SeenBoard}
use Rattle.board_book.specs.Book.{SeenBook}
use Rattle.board_book.specs.Finds.{acceptable, next_deadline_of}
use Rattle.worker_group.specs.Acts.{Acts, ActsInSteps}
use Rattle.rounds.specs.declared.ends.End.{End}
use Rattle.listener.specs.declared.listen.Pause.{Pause}
use Rattle.rounds.specs.declared.ends.Rest.{Rest}
use Rattle.listener_round.specs.FrontInside.{HasReadAll, IsInStep, KeepsStep, OnlyReadsAndTakes, TookAll}
use Rattle.listener.specs.ListenInside.{IsAtStart}
use Rattle.rounds.specs.TableInside.{IsRestful, NoneOverdue}
use Rattle.listener.specs.Patient.{ArePatient, IsPatientRun, IsSteady, PassesPatiently}
use Rattle.board_book.specs.AtRest.{IsAtRest}
use Rattle.rounds.specs.PartsInside.{AreServed, GoesDown, PassesTime, StartsSome}
use Rattle.listener_round.specs.RoundInside.{BreaksOff, GoesRound, Round, round_events}
use Rattle.board_book.specs.Moments.{moment_for, ticks_to}
use Rattle.listener.specs.TurnsInside.{SeenListener}
use Rattle.listener.proofs.BrokenLemmas.{ends-silently}
use Rattle.rounds.proofs.ClosingLemmas.{GoesOnFrom, acts-state}
use Rattle.listener.proofs.EventLemmas.{silent-gone, silent-halts, silent-retires, silent-starts, ticks_in, ticks-round}
use Rattle.rounds.proofs.PassLemmas.{serves-acts}
use Rattle.listener.proofs.TimedRoundLemmas.{timed-acts, timed_round}
use Rattle.listener.proofs.TurnLemmas.{HasServedRows}
use Rattle.listener.proofs.UnsignalledLemmas.{none-signalled}
use Rattle.listener.proofs.PatientLemmas.{MomentOf, echoed-before, none-late-then, patient-round, patient-served, patient-silent, patient-weaker, told-before}
use Rattle.listener.proofs.WaitLemmas.{HasWaited}

-- ## What the listener keeps

-- over such a front and clock time passes patiently in the history that is kept
abbrev pub IsPatientOf : Option FrontTold → Option (List (ℕ × ℕ)) → SeenBook → Type 0
IsPatientOf told calls b = IsPatientRun told calls b.base b.history

abbrev pub HasPatience : SeenListener → Type 0
HasPatience l = IsPatientOf l.front.told l.calls l.board.book

-- the table stands at the moment of the front
abbrev pub Abreast : SeenListener → Type 0
Abreast l = (steady : IsSteady l.front.told l.calls) → l.board.book.state.moment ≡ moment_for steady.front.moment

-- a wait that may let time pass is told of a state in which nothing is left to be done
pub record Rests (rest : Rest) (l : SeenListener) : Type 0 where
  pub until : rest.until ≡ next_deadline_of l.board.book.state
  pub at_rest : IsAtRest l.board.book.state
  pub took : TookAll l.front.told l.board.book.state
  pub read : HasReadAll l.front.told

-- between two turns
pub record GoesAbreast (rest : Rest) (l : SeenListener) : Type 0 where
  pub abreast : Abreast l
  pub patient : HasPatience l
  pub rested : rest.quiet ≡ true → Rests rest l

-- ## Lists and moments

find-by : (test : ℕ → Bool) (x y : ℕ) (xs : List ℕ) (b : Bool) → cond b (Some x) (find test xs) ≡ Some y → (find test xs ≡ Some y → Contains xs y)
    → Contains (x ∷ xs) y
find-by test x y xs true is further =
    let same : x ≡ y = cc is in
    subst (λ (z : ℕ). Contains (x ∷ xs) z) same (0, omega arith, refl)
find-by test x y xs false is further = Contains-append_right (x ∷ []) xs y (further is)

-- what is found is in the list
find-contains : (test : ℕ → Bool) (xs : List ℕ) (y : ℕ) → find test xs ≡ Some y → Contains xs y
find-contains test [] y is = absurd (cc is)
find-contains test (x ∷ xs) y is = find-by test x y xs (test x) is (find-contains test xs y)

min-one : (a b : ℕ) (below : Bool) → nat_le a b ≡ below → (min a b ≡ a) ⊎ (min a b ≡ b)
min-one a b true is = let within : a ≤ b = grind (arith, nat_tests) in inl (omega (arith, within))
min-one a b false is = let above : b < a = grind (arith, nat_tests) in inr (omega (arith, above))

-- the earlier moment is one of them
earlier-one : (until other : Option ℕ) (m : ℕ) → earlier until other ≡ Some m → (until ≡ Some m) ⊎ (other ≡ Some m)
earlier-one None other m is = inr is
earlier-one (Some a) None m is = inl is
earlier-one (Some a) (Some b) m is =
    let least : min a b ≡ m = cc is in
    elim (min-one a b (nat_le a b) refl) [
      | inl first ↦ inl (ap (λ (n : ℕ). Some n) (sym first ∙ least))
      | inr second ↦ inr (ap (λ (n : ℕ). Some n) (sym second ∙ least))
    ]

front-cases : (later : Bool) (to : ℕ) (xs : List ℕ) → IsFrontOf (if later then to ∷ [] else []) xs → (xs ≡ []) ⊎ ((xs ≡ to ∷ []) × (later ≡ true))
front-cases later to [] front = inl refl
front-cases false to (x ∷ xs) front = absurd (cc front.1)
front-cases true to (x ∷ []) front =
    let same : x ≡ to = cc front.1 in
    inr (ap (λ (y : ℕ). y ∷ []) same, refl)
front-cases true to (x ∷ y ∷ xs) front = absurd (cc front.1)

-- ## A wait

-- the moment behind a wait is that of the front
pace-of : (answer : Woke) (present moment : ℕ) (t t' : FrontTold) (comings : List ℕ) (until : Option ℕ) (quiet : Bool) (passed : Option Backlog)
    → MomentOf answer present moment → IsAnswerOf answer t' → IsPatient comings until quiet answer passed t t' → present ≡ moment_for t.moment
    → moment_for moment ≡ moment_for t'.moment
pace-of (woke.Woke m) present moment t t' comings until quiet passed is answers patient here = ap moment_for (is ∙ answers)
pace-of woke.Ended present moment t t' comings until quiet None is answers patient here = omega (arith, is, here, patient)
pace-of woke.Ended present moment t t' comings until quiet (Some waited) is answers patient here = let woken = patient.wakes in absurd (cc woken)
pace-of woke.Failed present moment t t' comings until quiet None is answers patient here = omega (arith, is, here, patient)
pace-of woke.Failed present moment t t' comings until quiet (Some waited) is answers patient here = let woken = patient.wakes in absurd (cc woken)

-- what a wait and the takes behind it did to a front and a clock that are steady then
pub record Unwound (rest : Rest) (pause : Pause) (a w b : SeenListener) (steady : IsSteady b.front.told b.calls) : Type 0 where
  pub before : IsSteady a.front.told a.calls
  pub waited : FrontTold
  pub forward : GoesForward rest.until rest.quiet pause.woke w.ready before.front waited
  pub only : OnlyReadsAndTakes waited steady.front
  pub comings : before.comings ≡ steady.comings
  pub moment : MomentOf pause.woke a.board.book.state.moment pause.moment

pub unwound : (rest : Rest) (pause : Pause) (a w b : SeenListener) → HasWaited rest pause a w → TellsOn OnlyReadsAndTakes w.front.told b.front.told → b.calls ≡ w.calls
    → (steady : IsSteady b.front.told b.calls) → Unwound rest pause a w b steady
unwound rest pause a w b waited takes calls steady =
    let there = told-before OnlyReadsAndTakes w.front.told b.front.told steady.front takes steady.tells in
    let here = told-before (GoesForward rest.until rest.quiet pause.woke w.ready) a.front.told w.front.told there.0 waited.waits.tells there.1 in
    let echoed =
    echoed-before pause.woke a.board.book.state.moment pause.moment a.calls w.calls steady.asked waited.asks (sym calls ∙ steady.clock) steady.echoes in
    let comings : here.0.comings ≡ Some steady.comings =
    sym here.2.comings ∙ sym (ap (λ (t : FrontTold). t.comings) there.2.rest) ∙ steady.patient in
    record {
      before =
          record {
            front = here.0;
            tells = here.1;
            comings = steady.comings;
            patient = comings;
            asked = echoed.asked;
            clock = echoed.are;
            echoes = echoed.echoes;
          };
      waited = there.0;
      forward = here.2;
      only = there.2;
      comings = refl;
      moment = echoed.moment_is;
    }

patient-of : (comings : List ℕ) (o : Option (List ℕ)) (P : List ℕ → Type 0) → o ≡ Some comings → IfSome o P → P comings
patient-of comings o P is holds = subst (λ (x : Option (List ℕ)). IfSome x P) is holds

-- the moment to which time is to pass
pub pace : (rest : Rest) (pause : Pause) (a w b : SeenListener) (steady : IsSteady b.front.told b.calls) → Abreast a → (u : Unwound rest pause a w b steady)
    → moment_for pause.moment ≡ moment_for u.waited.moment
pace rest pause a w b steady abreast u =
    pace-of pause.woke a.board.book.state.moment pause.moment u.before.front u.waited u.before.comings rest.until rest.quiet u.forward.passed u.moment
    u.forward.answers
    (patient-of u.before.comings u.before.front.comings
    (λ comings. IsPatient comings rest.until rest.quiet pause.woke u.forward.passed u.before.front u.waited) u.before.patient u.forward.patient)
    (abreast u.before)

-- the waits of the front have one more
waits-of : (rest : Rest) (pause : Pause) (a w b : SeenListener) (steady : IsSteady b.front.told b.calls) (u : Unwound rest pause a w b steady)
    → steady.front.waits
    ≡ u.before.front.waits ++ record { began = progress_of u.before.front; until = rest.until; quiet = rest.quiet; slots = w.ready; answer = pause.woke; passed = u.forward.passed } ∷ []
waits-of rest pause a w b steady u = ap (λ (t : FrontTold). t.waits) u.only.rest ∙ u.forward.waits

-- what was patient before is so still, wherever
pub patience-past : (rest : Rest) (pause : Pause) (a w b : SeenListener) → HasWaited rest pause a w → TellsOn OnlyReadsAndTakes w.front.told b.front.told
    → b.calls ≡ w.calls → (s : State) (history : List Entry) → IsPatientRun a.front.told a.calls s history → IsPatientRun b.front.told b.calls s history
patience-past rest pause a w b waited takes calls s history patient steady =
    let u = unwound rest pause a w b waited takes calls steady in
    patient-weaker u.before.comings steady.comings u.before.front.waits steady.front.waits s history (sym u.comings)
    (λ x contains. subst (λ (ws : List WaitTold). Contains ws x) (sym (waits-of rest pause a w b steady u))
    (Contains-append_left u.before.front.waits _ x contains)) (patient u.before)

-- ## Time that passes

not-true : (b : Bool) → not b ≡ true → b ≡ false
not-true true is = absurd (cc is)
not-true false is = refl

-- a server that takes no connections has no child for one
unaccepting : (s : State) → is_serving s.going ≡ false → acceptable s ≡ None
unaccepting s off = ap (λ (b : Bool). if b && list_any (λ (r : Row). is_vacant r.place) s.rows then pick_child s else None) off

none-waits : (told : Option FrontTold) (t : FrontTold) (s : State) → told ≡ Some t → IsInStep told s → t.failed ≡ false → TookAll told s
    → 0 < t.arrived - t.accepted → acceptable s ≡ None
none-waits told t s is step steady (inl none) waits = none
none-waits told t s is step steady (inr (inl nothing)) waits =
    let listens : KeepsStep s t = subst (λ (o : Option FrontTold). IsInStep o s) is step in
    let none : HasNoneToTake t = subst (λ (o : Option FrontTold). IfSome o HasNoneToTake) is nothing in
    elim none [
      | inl all ↦ absurd (omega (arith, all, waits))
      | inr hushed ↦ unaccepting s (not-true (is_serving s.going) (sym listens.listens ∙ hushed))
    ]
none-waits told t s is step steady (inr (inr failed)) waits =
    let has : t.failed ≡ true = subst (λ (o : Option FrontTold). IfSome o (λ x. x.failed ≡ true)) is failed in
    absurd (cc (has, steady))

-- no command line waits where each was read
none-unread : (told : Option FrontTold) (t : FrontTold) → told ≡ Some t → HasReadAll told → length t.lines - t.read ≡ 0
none-unread told t is read =
    let all : t.read ≡ length t.lines = subst HasReadAll is read in
    omega (arith, all)

-- what holds of a wait in which time passed
record PassedIn (comings : List ℕ) (rest : Rest) (answer : Woke) (passed : Option Backlog) (t t' : FrontTold) : Type 0 where
  pub waited : Backlog
  pub is : passed ≡ Some waited
  pub lets : LetsTimePass comings rest.until rest.quiet answer waited t t'

passed-in : (comings : List ℕ) (rest : Rest) (answer : Woke) (passed : Option Backlog) (t t' : FrontTold)
    → IsPatient comings rest.until rest.quiet answer passed t t' → moment_for t.moment < moment_for t'.moment → PassedIn comings rest answer passed t t'
passed-in comings rest answer None t t' patient later = absurd (omega (arith, patient, later))
passed-in comings rest answer (Some waited) t t' patient later = record { waited = waited; is = refl; lets = patient }

-- the wait let it, where nothing was left to be done
passes-at : (rest : Rest) (pause : Pause) (a w b : SeenListener) (steady : IsSteady b.front.told b.calls) → GoesAbreast rest a
    → IsSound a.board.book.state → IsInStep a.front.told a.board.book.state → (u : Unwound rest pause a w b steady) (p : PassedIn u.before.comings rest pause.woke u.forward.passed u.before.front u.waited)
    → PassesPatiently steady.comings steady.front.waits a.board.book.state (moment_for pause.moment)
passes-at rest pause a w b steady paced sound step u p =
    let rests = paced.rested p.lets.may in
    let wait : WaitTold = record { began = progress_of u.before.front; until = rest.until; quiet = rest.quiet; slots = w.ready; answer = pause.woke; passed = u.forward.passed } in
    record {
      to = u.waited.moment;
      moment = pace rest pause a w b steady paced.abreast u;
      comes =
          elim (earlier-one rest.until (next_coming u.before.front.moment u.before.comings) u.waited.moment p.lets.to) [
            | inl late ↦ inr (sym rests.until ∙ late)
            | inr comes ↦ inl (subst (λ (xs : List ℕ). Contains xs u.waited.moment) u.comings
                (find-contains (nat_lt u.before.front.moment) u.before.comings u.waited.moment comes))
          ];
      rest = rests.at_rest;
      unsignalled = none-signalled a.board.book.state sound rests.at_rest;
      wait = wait;
      told =
          subst (λ (ws : List WaitTold). Contains ws wait) (sym (waits-of rest pause a w b steady u))
          (Contains-append_right u.before.front.waits (wait ∷ []) wait (0, omega arith, refl));
      let_pass =
          record {
            quiet = p.lets.may;
            until = rests.until;
            waited = p.waited;
            passed = p.is;
            woke = p.lets.wakes;
            taken =
                λ waits. none-waits a.front.told u.before.front a.board.book.state u.before.tells step p.lets.steady rests.took
                (subst (λ (x : Backlog). 0 < x.arrivals) p.lets.waited_is waits);
            read = ap (λ (x : Backlog). x.lines) p.lets.waited_is ∙ none-unread a.front.told u.before.front u.before.tells rests.read;
          };
    }

-- a round, or one that was broken off, does so patiently
pub patience : (rest : Rest) (pause : Pause) (a w b : SeenListener) (r : Round) → GoesAbreast rest a → HasWaited rest pause a w
    → IsInStep a.front.told a.board.book.state → (acts : Acts 0 (round_events r) None a.board.book b.board.book)
    → IsFrontOf (ticks_to a.board.book.state.moment (moment_for pause.moment)) r.ticks
    → (r.ticks ≡ []) ⊎ (NoneOverdue a.board.book.state → r.early ≡ []) → TellsOn OnlyReadsAndTakes w.front.told b.front.told → b.calls ≡ w.calls → HasPatience b
patience rest pause a w b r paced waited step acts front soon takes calls steady =
    let u = unwound rest pause a w b waited takes calls steady in
    let before = patience-past rest pause a w b waited takes calls a.board.book.base a.board.book.history paced.patient steady in
    let here = paced.abreast u.before in
    let there = pace rest pause a w b steady paced.abreast u in
    let quiet : r.ticks ≡ [] → ArePatient steady.comings steady.front.waits b.board.book.base b.board.book.history =
    λ none. patient-silent steady.comings steady.front.waits 0 (round_events r) None a.board.book b.board.book acts (ticks-round r ∙ none) before in
    elim (front-cases (nat_lt a.board.book.state.moment (moment_for pause.moment)) (moment_for pause.moment) r.ticks front) [
      | inl none ↦ quiet none
      | inr (ticks, later) ↦
          let after_it : a.board.book.state.moment < moment_for pause.moment = grind (arith, nat_tests) in
          let p =
          passed-in u.before.comings rest pause.woke u.forward.passed u.before.front u.waited
          (patient-of u.before.comings u.before.front.comings
          (λ comings. IsPatient comings rest.until rest.quiet pause.woke u.forward.passed u.before.front u.waited) u.before.patient u.forward.patient)
          (omega (arith, here, there, after_it)) in
          let rests = paced.rested p.lets.may in
          let none_late =
          none-late-then a.board.book.state rest.until (next_coming u.before.front.moment u.before.comings) u.before.front.moment u.waited.moment rests.until
          p.lets.to (omega (arith, here)) p.lets.later in
          elim soon [
            | inl none ↦ quiet none
            | inr early ↦ patient-round steady.comings steady.front.waits r a.board.book b.board.book (moment_for pause.moment) acts waited.state
                (early none_late) ticks (passes-at rest pause a w b steady paced waited.sound step u p) before
          ]
    ]

here-front : (r : Round) (to : ℕ) (a : SeenBook) → r.ticks ≡ ticks_to a.state.moment to → ticks_to a.state.moment to ≡ r.ticks ++ []
here-front r to a is = sym is ∙ sym (append-nil r.ticks)

-- it came to its end
pub pace-round : (rest : Rest) (pause : Pause) (a w b : SeenListener) → GoesAbreast rest a → HasWaited rest pause a w → IsInStep a.front.told a.board.book.state
    → GoesRound (moment_for pause.moment) w.ready w.board.book b.board.book → TellsOn OnlyReadsAndTakes w.front.told b.front.told → b.calls ≡ w.calls → HasPatience b
pace-round rest pause a w b paced waited step round takes calls =
    let here : GoesRound (moment_for pause.moment) w.ready a.board.book b.board.book =
    subst (λ (v : SeenBoard). GoesRound (moment_for pause.moment) w.ready v.book b.board.book) waited.board round in
    patience rest pause a w b here.round paced waited step here.acts ([], here-front here.round (moment_for pause.moment) a.board.book here.ticks) (inr here.soon) takes calls

-- or nothing was done but that time passed
pub pace-timed : (rest : Rest) (pause : Pause) (a w b : SeenListener) → GoesAbreast rest a → HasWaited rest pause a w → IsInStep a.front.told a.board.book.state
    → PassesTime (moment_for pause.moment) w.board.book b.board.book → TellsOn OnlyReadsAndTakes w.front.told b.front.told → b.calls ≡ w.calls → HasPatience b
pace-timed rest pause a w b paced waited step passes takes calls =
    let to = moment_for pause.moment in
    let here : PassesTime to a.board.book b.board.book =
    subst (λ (v : SeenBoard). PassesTime to v.book b.board.book) waited.board passes in
    let round = timed_round to a.board.book b.board.book here in
    patience rest pause a w b round paced waited step (timed-acts to a.board.book b.board.book here) ([], here-front round to a.board.book refl) (inr here.soon) takes calls

-- behind a round the table stands at the moment of the front
pub abreast-round : (rest : Rest) (pause : Pause) (a w b : SeenListener) → Abreast a → HasWaited rest pause a w
    → b.board.book.state.moment ≡ max w.board.book.state.moment (moment_for pause.moment) → TellsOn OnlyReadsAndTakes w.front.told b.front.told → b.calls ≡ w.calls
    → Abreast b
abreast-round rest pause a w b abreast waited later takes calls steady =
    let u = unwound rest pause a w b waited takes calls steady in
    let here = abreast u.before in
    let there = pace rest pause a w b steady abreast u in
    let same : w.board.book.state.moment ≡ a.board.book.state.moment = ap (λ (x : SeenBoard). x.book.state.moment) waited.board in
    let moment : steady.front.moment ≡ u.waited.moment = ap (λ (t : FrontTold). t.moment) u.only.rest in
    omega (arith, later, same, here, there, moment, u.forward.moment)

-- nothing was done behind a wait
pub patience-waited : (rest : Rest) (pause : Pause) (a w : SeenListener) → HasPatience a → HasWaited rest pause a w
    → TellsOn OnlyReadsAndTakes w.front.told w.front.told → HasPatience w
patience-waited rest pause a w patient waited same =
    subst (λ (b : SeenBoard). IsPatientRun w.front.told w.calls b.book.base b.book.history) (sym waited.board)
    (patience-past rest pause a w w waited same refl a.board.book.base a.board.book.history patient)

-- ## Other steps

-- events in which no time passes, over the same front and clock
pub patience-silent : (who : ℕ) (es : List Event) (has : _) (told : Option FrontTold) (calls : Option (List (ℕ × ℕ))) (a b : SeenBook) → Acts who es has a b
    → flat_map ticks_in es ≡ [] → IsPatientOf told calls a → IsPatientOf told calls b
patience-silent who es has told calls a b acts none patient steady =
    patient-silent steady.comings steady.front.waits who es has a b acts none (patient steady)

-- a round was broken off
pub pace-broken : ActsInSteps → (fault : BoardFault) (rest : Rest) (pause : Pause) (a w b : SeenListener) → GoesAbreast rest a → HasWaited rest pause a w
    → IsInStep a.front.told a.board.book.state → BreaksOff fault (moment_for pause.moment) w.ready w.board.book b.board.book
    → TellsOn OnlyReadsAndTakes w.front.told b.front.told → b.calls ≡ w.calls → HasPatience b
pace-broken steps fault rest pause a w b paced waited step broken takes calls =
    let here : BreaksOff fault (moment_for pause.moment) w.ready a.board.book b.board.book =
    subst (λ (v : SeenBoard). BreaksOff fault (moment_for pause.moment) w.ready v.book b.board.book) waited.board broken in
    let there : SeenListener = record b { board = record b.board { book = here.book } } in
    let ends = ends-silently steps fault here.book b.board.book here.acts.row here.last in
    patience-silent 0 ends.events None b.front.told b.calls here.book b.board.book ends.acts ends.silent.ticks
    (patience rest pause a w there here.round paced waited step here.acts here.ticks here.soon takes calls)

-- what another pass than the listener did
pub patience-served : (who : ℕ) (es : List Event) (has : _) (told : Option FrontTold) (calls : Option (List (ℕ × ℕ))) (a b : SeenBook) → who ≢ 0
    → Acts who es has a b → IsPatientOf told calls a → IsPatientOf told calls b
patience-served who es has told calls a b other acts patient steady =
    patient-served steady.comings steady.front.waits who es has a b other acts (patient steady)

-- at the start
pub patience-start : (told : Option FrontTold) (calls : Option (List (ℕ × ℕ))) (b : SeenBook) → IsAtStart told b → IsPatientOf told calls b
patience-start told calls b start steady =
    subst (ArePatient steady.comings steady.front.waits b.base) (sym start.history) tt

told-part : (P : FrontTold → Type 0) (told : Option FrontTold) (t : FrontTold) → told ≡ Some t → IfSome told P → P t
told-part P told t is holds = subst (λ (o : Option FrontTold). IfSome o P) is holds

none-to-take : (told : Option FrontTold) → IfSome told (λ t. t.accepted ≡ t.arrived) → IfSome told HasNoneToTake
none-to-take None none = tt
none-to-take (Some t) none = inl none

pub pace-started : (rest : Rest) (l m : SeenListener) → IsAtStart l.front.told l.board.book → m ≡ record l { board = m.board } → StartsSome l.board.book m.board.book
    → m.board.book.state.moment ≡ l.board.book.state.moment → rest.until ≡ next_deadline_of m.board.book.state → IsRestful rest.quiet m.board.book.state
    → GoesAbreast rest m
pace-started rest l m start is starts moment until restful =
    subst (GoesAbreast rest) (sym is)
    (record {
      abreast =
          λ steady.
          let first : steady.front.moment ≡ 0 =
          told-part (λ t. is_some t.comings ≡ true → t.moment ≡ 0) l.front.told steady.front steady.tells start.first (ap is_some steady.patient) in
          let zero = start.moment in
          omega (arith, moment, first, zero);
      patient =
          patience-silent 0 _ None l.front.told l.calls l.board.book m.board.book starts.acts (silent-starts starts.children).ticks
          (patience-start l.front.told l.calls l.board.book start);
      rested = λ quiet. record { until = until; at_rest = restful.0 quiet; took = inr (inl (none-to-take l.front.told start.none)); read = start.read };
    })

pub patience-started : (l m : SeenListener) → IsAtStart l.front.told l.board.book → m ≡ record l { board = m.board } → StartsSome l.board.book m.board.book
    → HasPatience m
patience-started l m start is starts =
    subst HasPatience (sym is)
    (patience-silent 0 _ None l.front.told l.calls l.board.book m.board.book starts.acts (silent-starts starts.children).ticks
    (patience-start l.front.told l.calls l.board.book start))

-- behind the service
pub served-patience : ActsInSteps → (a b : SeenListener) → HasPatience a → HasServedRows a b → HasPatience b
served-patience steps a b patient served =
    let serves = serves-acts steps a.board b.board served.serves in
    subst HasPatience (sym served.others)
    (patience-served 1 serves.events None a.front.told a.calls a.board.book b.board.book (λ (same : 1 ≡ 0). cc) serves.acts patient)

served-rests : (rest : Rest) (a b : SeenListener) → TookAll a.front.told a.board.book.state → HasReadAll a.front.told → rest.until ≡ next_deadline_of a.board.book.state
    → IsAtRest a.board.book.state → b.board.book.state ≡ a.board.book.state → Rests rest (record a { board = b.board })
served-rests rest a b took read until at_rest same = record {
  until = until ∙ ap next_deadline_of (sym same);
  at_rest = subst IsAtRest (sym same) at_rest;
  took = subst (TookAll a.front.told) (sym same) took;
  read = read;
}

-- the state of a listener's board is that after the history
abbrev pub IsAfter : SeenListener → Type 0
IsAfter l = after l.board.book.base l.board.book.history ≡ l.board.book.state

pub pace-served : ActsInSteps → GoesOnFrom → (rest : Rest) (a b : SeenListener) → IsAfter a → IsAfter b → Abreast a → HasPatience a → TookAll a.front.told a.board.book.state
    → HasReadAll a.front.told → HasServedRows a b → rest.until ≡ next_deadline_of a.board.book.state → IsRestful rest.quiet a.board.book.state → GoesAbreast rest b
pace-served steps law rest a b here there abreast patient took read served until restful =
    let serves = serves-acts steps a.board b.board served.serves in
    subst (GoesAbreast rest) (sym served.others)
    (record {
      abreast = λ steady. served.rest.moment ∙ abreast steady;
      patient = patience-served 1 serves.events None a.front.told a.calls a.board.book b.board.book (λ (same : 1 ≡ 0). cc) serves.acts patient;
      rested =
          λ quiet.
          let at_rest = restful.0 quiet in
          served-rests rest a b took read until at_rest
          (acts-state law 1 [] None a.board.book b.board.book here there
          (subst (λ (names : List ConnName). AreServed 1 names a.board b.board) (served.serves.none at_rest.served) served.serves.served).acts);
    })

-- ## The end

pub unhushed : (change : FrontTold → FrontTold) → ((t : FrontTold) → (change t).comings ≡ t.comings) → ((t : FrontTold) → (change t).waits ≡ t.waits)
    → (told told' : Option FrontTold) (calls : Option (List (ℕ × ℕ))) (s : State) (history : List Entry) → told' ≡ option_map change told
    → IsPatientRun told calls s history → IsPatientRun told' calls s history
unhushed change comings waits None told' calls s history is patient steady = let tells = steady.tells in absurd (cc (is, tells))
unhushed change comings waits (Some t) told' calls s history is patient steady =
    let tells = steady.tells in
    let front : change t ≡ steady.front = cc (is, tells) in
    let before : IsSteady (Some t) calls =
    record {
      front = t;
      tells = refl;
      comings = steady.comings;
      patient = sym (comings t) ∙ ap (λ (x : FrontTold). x.comings) front ∙ steady.patient;
      asked = steady.asked;
      clock = steady.clock;
      echoes = steady.echoes;
    } in
    subst (λ (ws : List WaitTold). ArePatient steady.comings ws s history) (sym (waits t) ∙ ap (λ (x : FrontTold). x.waits) front) (patient before)

-- the server was stopped, each connection that waited closed, and each child let go of
pub patience-down : (turns : Result End BoardFault) (old new : FrontSeen) (calls : Option (List (ℕ × ℕ))) (a d : SeenBook)
    → GoesDown turns a d → new ≡ after_hush old → IsPatientOf old.told calls a → IsPatientOf new.told calls d
patience-down turns old new calls a d down is patient =
    unhushed hushed_front (λ t. refl) (λ t. refl) old.told new.told calls d.base d.history (ap (λ (f : FrontSeen). f.told) is)
    (patience-silent 0 _ None old.told calls down.closed d down.retires.acts (silent-retires down.retires.children).ticks
    (patience-silent 0 _ None old.told calls down.halted down.closed down.closes.acts (silent-gone down.closes.gone).ticks
    (patience-silent 0 _ None old.told calls a down.halted down.halts (silent-halts turns).ticks patient)))
