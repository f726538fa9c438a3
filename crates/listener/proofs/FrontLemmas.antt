-- What a wait leaves of a front, and of a clock.
use Rattle.std.proofs.Common.{◌≡◌, inl, inr, ℕ, Bool, true, false, not, List, [], ◌∷◌, ◌++◌, map, Option, None, Some, option_map, IfSome, refl, sym, ap, subst, ◌∙◌, arith}
use Rattle.mpm_base.specs.Front.{FrontTold, FrontSeen, BoundTold, DialTold, TellsOn, GoesForward, Waits, HasAllTaken, WaitTold, is_ended, moments_in, moments_of, progress_of, wait_failed}
use Rattle.mpm_base.specs.Clock.{asked_at}
use Rattle.std.proofs.lemmas.Grind.{flat_map-append}
use Rattle.std.proofs.lemmas.List.{append-nil, map-append}
use Rattle.mpm_base.specs.declared.front.Woke.{Woke}
use Rattle.mpm_base.specs.declared.given_words.GivenWords.{GivenWords}
use Rattle.mpm_base.specs.declared.front.Woke.TheVariants as woke
use Rattle.conn_machine.specs.declared.state.State.{State}
use Rattle.listener.specs.ListenInside.{AsksFor, HandsOutEach, contacts, contacts_of}
use Rattle.listener_round.specs.FrontInside.{Follows, IsInStep, KeepsStep, OnlyReadsAndTakes}
use Rattle.listener_round.specs.Clients.{clients_told, comings_told}
use Rattle.listener.specs.Stops.{HasFailedLast, HasGivenAll}
use Rattle.listener_round.specs.Times.{IsInTime, waits_of}
use Rattle.run_report.proofs.CountLemmas.{exactly-stays, where-stays}

-- ## The front is still the one that it was

-- and both in a wait
waits-clients : (until : Option ℕ) (quiet : Bool) (answer : Woke) (ready : List ℕ) (told told' : Option FrontTold)
    → TellsOn (GoesForward until quiet answer ready) told told' → clients_told told' ≡ clients_told told
waits-clients until quiet answer ready None told' tells = ap clients_told tells
waits-clients until quiet answer ready (Some t) told' tells =
    ap clients_told tells.1 ∙ ap (λ (clients : List (List ℕ)). Some clients) tells.2.clients

waits-comings : (until : Option ℕ) (quiet : Bool) (answer : Woke) (ready : List ℕ) (told told' : Option FrontTold)
    → TellsOn (GoesForward until quiet answer ready) told told' → comings_told told' ≡ comings_told told
waits-comings until quiet answer ready None told' tells = ap comings_told tells
waits-comings until quiet answer ready (Some t) told' tells =
    ap comings_told tells.1 ∙ ap (λ (comings : Option (List ℕ)). Some comings) tells.2.comings

-- after a wait
pub follows-wait : (old new : FrontSeen) (until : Option ℕ) (quiet : Bool) (answer : Woke) (ready : List ℕ) → Waits old new until quiet answer ready
    → Follows old new
follows-wait old new until quiet answer ready waits = record {
  script = waits.script;
  clients = waits-clients until quiet answer ready old.told new.told waits.tells;
  comings = waits-comings until quiet answer ready old.told new.told waits.tells;
  faults = where-stays (wait_failed answer) old.counts.faults new.counts.faults waits.faults;
  ends = exactly-stays (is_ended answer) old.counts.ends new.counts.ends waits.ends;
  commands = omega (arith, waits.commands);
  stops = omega (arith, ap (λ (w : GivenWords). w.stop) waits.words);
}

-- ## What stays where lines are read and links are taken

-- a part that stays then
kept-part : {X : Type 0} (part : FrontTold → X) (told told' : Option FrontTold) → ((t t' : FrontTold) → OnlyReadsAndTakes t t' → part t' ≡ part t)
    → TellsOn OnlyReadsAndTakes told told' → option_map part told' ≡ option_map part told
kept-part part None told' keeps takes = ap (option_map part) takes
kept-part part (Some t) told' keeps takes = ap (option_map part) takes.1 ∙ ap (λ (x : _). Some x) (keeps t takes.0 takes.2)

pub waits-kept : (told told' : Option FrontTold) → TellsOn OnlyReadsAndTakes told told' → waits_of told' ≡ waits_of told
waits-kept told told' takes = kept-part (λ (t : FrontTold). t.waits) told told' (λ t t' only. ap (λ (x : FrontTold). x.waits) only.rest) takes

pub contacts-kept : (told told' : Option FrontTold) → TellsOn OnlyReadsAndTakes told told' → contacts_of told' ≡ contacts_of told
contacts-kept told told' takes =
    kept-part contacts told told' (λ t t' only. ap contacts only.rest) takes

contacts-same : (t t' : FrontTold) → t'.bound ≡ t.bound → t'.dialled ≡ t.dialled → contacts t' ≡ contacts t
contacts-same t t' bound dialled = cc (bound, dialled)

-- it stays in a wait too
pub contacts-wait : (until : Option ℕ) (quiet : Bool) (answer : Woke) (ready : List ℕ) (told told' : Option FrontTold)
    → TellsOn (GoesForward until quiet answer ready) told told' → contacts_of told' ≡ contacts_of told
contacts-wait until quiet answer ready None told' tells = ap contacts_of tells
contacts-wait until quiet answer ready (Some t) told' tells =
    ap contacts_of tells.1 ∙ ap (λ (x : List BoundTold × List DialTold). Some x) (contacts-same t tells.0 tells.2.bound tells.2.dialled)

-- ## Its waits, and the clock

-- one more wait, which gave these slots and answered this
pub record HasOneMore (ready : List ℕ) (answer : Woke) (waits : List WaitTold) (waits' : Option (List WaitTold)) : Type 0 where
  pub wait : WaitTold
  pub is : waits' ≡ Some (waits ++ wait ∷ [])
  pub slots : wait.slots ≡ ready
  pub answers : wait.answer ≡ answer

-- the same of a front that tells
abbrev pub WaitsMore : List ℕ → Woke → Option (List WaitTold) → Option (List WaitTold) → Type 0
WaitsMore ready answer None waits' = waits' ≡ None
WaitsMore ready answer (Some waits) waits' = HasOneMore ready answer waits waits'

-- so it is after a wait
pub waits-after : (until : Option ℕ) (quiet : Bool) (answer : Woke) (ready : List ℕ) (told told' : Option FrontTold)
    → TellsOn (GoesForward until quiet answer ready) told told' → WaitsMore ready answer (waits_of told) (waits_of told')
waits-after until quiet answer ready None told' tells = ap waits_of tells
waits-after until quiet answer ready (Some t) told' tells = record {
  wait = record { began = progress_of t; until = until; quiet = quiet; slots = ready; answer = answer; passed = tells.2.passed };
  is = ap waits_of tells.1 ∙ ap (λ (waits : List WaitTold). Some waits) tells.2.waits;
  slots = refl;
  answers = refl;
}

-- one that failed is the last
pub failed-last : (until : Option ℕ) (quiet : Bool) (ready : List ℕ) (told told' : Option FrontTold)
    → TellsOn (GoesForward until quiet woke.Failed ready) told told' → IfSome told' HasFailedLast
failed-last until quiet ready None told' tells = subst (λ (o : Option FrontTold). IfSome o HasFailedLast) (sym tells) tt
failed-last until quiet ready (Some t) told' tells =
    subst (λ (o : Option FrontTold). IfSome o HasFailedLast) (sym tells.1)
    (record {
      before = t.waits;
      last = record { began = progress_of t; until = until; quiet = quiet; slots = ready; answer = woke.Failed; passed = tells.2.passed };
      waits = tells.2.waits;
      failed = refl;
    })

moments-more : (w : WaitTold) (waits : List WaitTold) → moments_of (waits ++ w ∷ []) ≡ moments_of waits ++ moments_in w.answer
moments-more w waits =
    flat_map-append (λ (x : WaitTold). moments_in x.answer) waits (w ∷ [])
    ∙ ap (λ (ms : List ℕ). moments_of waits ++ ms) (append-nil (moments_in w.answer))

-- one that answered this
moments-answered : (w : WaitTold) (answer : Woke) (waits : List WaitTold) → w.answer ≡ answer
    → moments_of (waits ++ w ∷ []) ≡ moments_of waits ++ moments_in answer
moments-answered w answer waits is = moments-more w waits ∙ ap (λ (a : Woke). moments_of waits ++ moments_in a) is

-- the calls are these
in-time-at : (waits : List WaitTold) (calls calls' : Option (List (ℕ × ℕ))) → calls' ≡ calls → IsInTime (Some waits) calls → IsInTime (Some waits) calls'
in-time-at waits calls calls' same time = subst (λ (o : Option (List (ℕ × ℕ))). IsInTime (Some waits) o) (sym same) time

none-asked : (answer : Woke) (present moment : ℕ) (calls' : Option (List (ℕ × ℕ))) → AsksFor answer present None calls' moment → calls' ≡ None
none-asked (woke.Woke m) present moment calls' asks = asks
none-asked woke.Ended present moment calls' asks = asks.0
none-asked woke.Failed present moment calls' asks = asks.0

-- a wait that gives no moment
time-none : (w : WaitTold) (answer : Woke) (waits : List WaitTold) (calls : List (ℕ × ℕ)) → w.answer ≡ answer → moments_in answer ≡ []
    → map asked_at calls ≡ moments_of waits → map asked_at calls ≡ moments_of (waits ++ w ∷ [])
time-none w answer waits calls is none time =
    time ∙ sym (append-nil (moments_of waits)) ∙ ap (λ (ms : List ℕ). moments_of waits ++ ms) (sym none) ∙ sym (moments-answered w answer waits is)

-- the clock is in time with the waits where one was made more, and it was told its moment
time-more : (answer : Woke) (w : WaitTold) (waits : List WaitTold) (present moment : ℕ) (calls calls' : Option (List (ℕ × ℕ))) → w.answer ≡ answer
    → AsksFor answer present calls calls' moment → IsInTime (Some waits) calls → IsInTime (Some (waits ++ w ∷ [])) calls'
time-more answer w waits present moment None calls' is asks time =
    in-time-at (waits ++ w ∷ []) None calls' (none-asked answer present moment calls' asks) tt
time-more (woke.Woke m) w waits present moment (Some calls) calls' is asks time =
    in-time-at (waits ++ w ∷ []) (Some (calls ++ (m, moment) ∷ [])) calls' asks
    (map-append asked_at calls ((m, moment) ∷ []) ∙ ap (λ (ms : List ℕ). ms ++ m ∷ []) time ∙ sym (moments-answered w (woke.Woke m) waits is))
time-more woke.Ended w waits present moment (Some calls) calls' is asks time =
    in-time-at (waits ++ w ∷ []) (Some calls) calls' asks.0 (time-none w woke.Ended waits calls is refl time)
time-more woke.Failed w waits present moment (Some calls) calls' is asks time =
    in-time-at (waits ++ w ∷ []) (Some calls) calls' asks.0 (time-none w woke.Failed waits calls is refl time)

-- after a wait
pub time-wait : (answer : Woke) (ready : List ℕ) (waits waits' : Option (List WaitTold)) (present moment : ℕ) (calls calls' : Option (List (ℕ × ℕ)))
    → WaitsMore ready answer waits waits' → AsksFor answer present calls calls' moment → IsInTime waits calls → IsInTime waits' calls'
time-wait answer ready None waits' present moment calls calls' more asks time = subst (λ (o : Option (List WaitTold)). IsInTime o calls') (sym more) tt
time-wait answer ready (Some waits) waits' present moment calls calls' more asks time =
    subst (λ (o : Option (List WaitTold)). IsInTime o calls') (sym more.is)
    (time-more answer more.wait waits present moment calls calls' more.answers asks time)

-- after calls that make no wait
pub time-kept : (waits waits' : Option (List WaitTold)) (calls : Option (List (ℕ × ℕ))) → waits' ≡ waits → IsInTime waits calls → IsInTime waits' calls
time-kept waits waits' calls same time = subst (λ (o : Option (List WaitTold)). IsInTime o calls) (sym same) time

-- ## The table is in step with the front

waits-step : (until : Option ℕ) (quiet : Bool) (answer : Woke) (ready : List ℕ) (t t' : FrontTold) (s : State) → GoesForward until quiet answer ready t t'
    → KeepsStep s t → KeepsStep s t'
waits-step until quiet answer ready t t' s forward step = record {
  listens = forward.hushed ∙ step.listens;
  taken = record { accepted = forward.accepted ∙ step.taken.accepted; none = forward.turned_away ∙ step.taken.none };
}

-- after a wait
pub step-wait : (until : Option ℕ) (quiet : Bool) (answer : Woke) (ready : List ℕ) (told told' : Option FrontTold) (s : State)
    → TellsOn (GoesForward until quiet answer ready) told told' → IsInStep told s → IsInStep told' s
step-wait until quiet answer ready None told' s tells step = subst (λ (o : Option FrontTold). IsInStep o s) (sym tells) tt
step-wait until quiet answer ready (Some t) told' s tells step =
    subst (λ (o : Option FrontTold). IsInStep o s) (sym tells.1) (waits-step until quiet answer ready t tells.0 s tells.2 step)

given-all : (s : State) (t : FrontTold) → HasAllTaken t → KeepsStep s t → HasGivenAll s t
given-all s t all step = record { left = all.left; read = all.read; taken = step.taken.accepted }

-- while the server takes connections the front listens, so each connection was handed out
handed-each : (s : State) (t : FrontTold) → HasAllTaken t → KeepsStep s t → HandsOutEach s t
handed-each s t all step serving = elim all.accepted [
  | inl given ↦ given.1
  | inr hushed ↦
      let listens : true ≡ false = sym hushed ∙ step.listens ∙ ap not serving in
      absurd (cc)
]

-- after a wait that answered Ended all was taken
pub all-taken : (until : Option ℕ) (quiet : Bool) (ready : List ℕ) (told told' : Option FrontTold) (s : State)
    → TellsOn (GoesForward until quiet woke.Ended ready) told told' → IsInStep told s → IfSome told' (HasGivenAll s)
all-taken until quiet ready None told' s tells step = subst (λ (o : Option FrontTold). IfSome o (HasGivenAll s)) (sym tells) tt
all-taken until quiet ready (Some t) told' s tells step =
    subst (λ (o : Option FrontTold). IfSome o (HasGivenAll s)) (sym tells.1)
    (given-all s tells.0 tells.2.answers (waits-step until quiet woke.Ended ready t tells.0 s tells.2 step))

-- and while the server takes connections each was handed out
pub each-handed : (until : Option ℕ) (quiet : Bool) (ready : List ℕ) (told told' : Option FrontTold) (s : State)
    → TellsOn (GoesForward until quiet woke.Ended ready) told told' → IsInStep told s → IfSome told' (HandsOutEach s)
each-handed until quiet ready None told' s tells step = subst (λ (o : Option FrontTold). IfSome o (HandsOutEach s)) (sym tells) tt
each-handed until quiet ready (Some t) told' s tells step =
    subst (λ (o : Option FrontTold). IfSome o (HandsOutEach s)) (sym tells.1)
    (handed-each s tells.0 tells.2.answers (waits-step until quiet woke.Ended ready t tells.0 s tells.2 step))
