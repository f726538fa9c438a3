-- A wait of a front that plays a script is one of a front.
use Rattle.std.proofs.Common.{◌≡◌, ℕ, ◌+◌, ◌-◌, ◌<◌, ◌≤◌, Bool, true, false, cond, nat_lt, max, if◌then◌else◌, List, [], ◌∷◌, ◌++◌, drop, length, take, Option, None, Some, ap, subst, sym, refl, ◌∙◌, arith}
use Rattle.std.specs.Prelude.{option_map, IfSome}
use Rattle.std.proofs.lemmas.Bool.Decides.{nat_tests}
use Rattle.std.proofs.lemmas.List.Sums.{sum_by-append, sum_by-cons}
use Rattle.mpm_script.specs.Clients.{names_of}
use Rattle.mpm_script.specs.Commands.{command_lines_of}
use Rattle.mpm_base.specs.Count.{CountsWhere, RisesExactlyWhere, RisesWhere}
use Rattle.mpm_base.specs.Front.{Backlog, FrontTold, GivesOnlyAwake, HasAllTaken, IsAnswerOf, IsPatient, LetsTimePass, StandsStill, WaitTold, Waits, earlier, is_ended, is_woken, progress_of, wait_failed}
use Rattle.script_front.specs.PlayedFrontInside.{KeepsRest, waiting_counts, passed_between, with_wait}
use Rattle.script_front.specs.ScriptFront.{IsOfScript, MayPass, Moves, Plays, SeenFront, backlog_of, begins, comings_of, ends, front_seen, next_moment, lines_now, over, passes, recovers, served, signals, stays, to_come, woken_waits}
use Rattle.script_front.specs.declared.wait_end.WaitEnd.{WaitEnd}
use Rattle.script_front.specs.declared.wait_end.WaitingCounts.{WaitingCounts}
use Rattle.mpm_base.specs.declared.front.Woke.{Woke}
use Rattle.mpm_base.specs.declared.front.Woke.TheVariants as woke
use Rattle.mpm_base.specs.declared.script_line.ScriptLine.{ScriptLine}
use Rattle.script_front.proofs.CommandLemmas.{lines-add}
use Rattle.script_front.proofs.MomentLemmas.{next-later}
use Rattle.script_front.proofs.PlayedLemmas.{arrived-within, names-add}
use Rattle.script_front.proofs.SignalLemmas.{gives-few}

-- ## That a wait is put down changes nothing else

module _ (slots : List ℕ) (given : WaitEnd) where
  moves-put_down : (old mid : SeenFront) (count m : ℕ) → Moves old mid count m → Moves old (with_wait slots given mid) count m
  moves-put_down old mid count m p = record { script = p.script; begun = p.begun; happened = p.happened; moment_is = p.moment_is }

  plays-with_wait : {old mid : SeenFront} {until : Option ℕ} {quiet : Bool} {answer : Woke} {ready : List ℕ}
      → Plays old mid until quiet answer ready → Plays old (with_wait slots given mid) until quiet answer ready
  plays-with_wait (over e m c) = over e (moves-put_down _ _ _ _ m) c
  plays-with_wait (begins e b l m c) = begins e b l (moves-put_down _ _ _ _ m) c
  plays-with_wait (signals o s l m) = signals o s l (moves-put_down _ _ _ _ m)
  plays-with_wait (recovers o s f m) = recovers o s f (moves-put_down _ _ _ _ m)
  plays-with_wait (served o s q m) = served o s q (moves-put_down _ _ _ _ m)
  plays-with_wait (passes o s q n t m c) = passes o s q n t (moves-put_down _ _ _ _ m) c
  plays-with_wait (ends o s q n t d m) = ends o s q n (record { left = t.left; read = t.read; accepted = t.accepted }) d (moves-put_down _ _ _ _ m)
  plays-with_wait (stays o s q n t m) = stays o s q n (λ all. t (record { left = all.left; read = all.read; accepted = all.accepted })) (moves-put_down _ _ _ _ m)

pub plays-put_down : (old mid new : SeenFront) (until : Option ℕ) (quiet : Bool) (answer : Woke) (ready : List ℕ) (end : WaitEnd) → new ≡ with_wait ready end mid
    → Plays old mid until quiet answer ready → Plays old new until quiet answer ready
plays-put_down old mid new until quiet answer ready end is p = rw is (plays-with_wait ready end p)

-- ## What a wait did is what a front may do

-- it went no way back
record Went (old new : SeenFront) : Type 0 where
  pub script : new.script ≡ old.script
  pub happened : old.happened ≤ new.happened
  pub moment_is : old.told.moment ≤ new.told.moment

went-still : {old new : SeenFront} {count : ℕ} → Moves old new count old.told.moment → Went old new
went-still m = record { script = m.script; happened = omega (arith, m.happened); moment_is = omega (arith, m.moment_is) }

plays-went : {old new : SeenFront} {until : Option ℕ} {quiet : Bool} {answer : Woke} {ready : List ℕ} → Plays old new until quiet answer ready → Went old new
plays-went (over e m c) = went-still m
plays-went (begins e b l m c) = went-still m
plays-went (signals o s l m) = went-still m
plays-went (recovers o s f m) = went-still m
plays-went (served o s q m) = went-still m
plays-went (passes o s q n t m c) = record { script = m.script; happened = omega (arith, m.happened); moment_is = omega (arith, m.moment_is, t) }
plays-went (ends o s q n t d m) = went-still m
plays-went (stays o s q n t m) = went-still m

-- the answer is one that it may give there
plays-answers : {old new : SeenFront} {until : Option ℕ} {quiet : Bool} {answer : Woke} {ready : List ℕ} → (0 < old.ends → HasAllTaken new.told)
    → Plays old new until quiet answer ready → IsAnswerOf answer new.told × GivesOnlyAwake answer ready × RisesWhere (wait_failed answer) 0 0
plays-answers taken (over e m c) = (taken e, refl, omega arith)
plays-answers taken (begins e b l m c) = (sym m.moment_is, tt, omega arith)
plays-answers taken (signals o s l m) = (sym m.moment_is, tt, omega arith)
plays-answers taken (recovers o s f m) = (sym m.moment_is, tt, omega arith)
plays-answers taken (served o s q m) = (sym m.moment_is, tt, omega arith)
plays-answers taken (passes o s q n t m c) = (sym m.moment_is, tt, omega arith)
plays-answers taken (ends o s q n t d m) = (t, refl, omega arith)
plays-answers taken (stays o s q n t m) = (sym m.moment_is, tt, omega arith)

-- it gave no more slots than a wait may give
plays-few : {old new : SeenFront} {until : Option ℕ} {quiet : Bool} {answer : Woke} {ready : List ℕ} → Plays old new until quiet answer ready → length ready ≤ 256
plays-few (over e m c) = omega arith
plays-few (begins e b l m c) = omega arith
plays-few (signals o s l m) = gives-few s
plays-few (recovers o s f m) = omega arith
plays-few (served o s q m) = omega arith
plays-few (passes o s q n t m c) = omega arith
plays-few (ends o s q n t d m) = omega arith
plays-few (stays o s q n t m) = omega arith

-- ## Whether it let time pass

-- what the wait tells of that
abbrev passed-of : SeenFront → ℕ → Option Backlog
passed-of old moment = option_map backlog_of (passed_between old.told.moment moment (waiting_counts old))

-- the front stands where it stood
patient-still : (old new : SeenFront) (until : Option ℕ) (quiet : Bool) (answer : Woke) (comings : List ℕ) → new.told.moment ≡ old.told.moment
    → IsPatient comings until quiet answer (passed-of old new.told.moment) old.told new.told
patient-still old new until quiet answer comings stands =
    let early : nat_lt old.told.moment new.told.moment ≡ false = grind (arith, nat_tests) in
    rw early stands

-- it went on to that moment, or it was there
module _ (old new : SeenFront) (until : Option ℕ) (quiet : Bool) (m : ℕ) (was : IsOfScript old) (now : lines_now (to_come old) ≡ 0) (may : MayPass old quiet)
    (comes : earlier until (next_moment (to_come old)) ≡ Some m) (to : new.told.moment ≡ max old.told.moment m) where
  lets-pass : old.told.moment < new.told.moment
      → LetsTimePass (comings_of old.script) until quiet (woke.Woke new.told.moment) (backlog_of (waiting_counts old)) old.told new.told
  lets-pass later =
      let is : m ≡ new.told.moment = omega (arith, to, later) in
      record {
        may = may.idle;
        steady = may.steady;
        to = next-later old.told.moment new.told.moment old.script old.happened until was.past now (comes ∙ ap (λ n. let some : Option ℕ = Some n in some) is) later;
        later = later;
        wakes = refl;
        waited_is = refl;
      }

  patient-passes : (passed : Bool) → nat_lt old.told.moment new.told.moment ≡ passed
      → IsPatient (comings_of old.script) until quiet (woke.Woke new.told.moment) (option_map backlog_of (if passed then Some (waiting_counts old) else None)) old.told new.told
  patient-passes true e = lets-pass (grind (arith, nat_tests))
  patient-passes false e = let stands : new.told.moment ≡ old.told.moment = grind (arith, nat_tests) in stands

plays-patient : {old new : SeenFront} {until : Option ℕ} {quiet : Bool} {answer : Woke} {ready : List ℕ} → IsOfScript old → Plays old new until quiet answer ready
    → IsPatient (comings_of old.script) until quiet answer (passed-of old new.told.moment) old.told new.told
plays-patient {old} {new} {until} {quiet} was (over e m c) = patient-still old new until quiet woke.Ended (comings_of old.script) m.moment_is
plays-patient {old} {new} {until} {quiet} was (begins e b l m c) = patient-still old new until quiet (woke.Woke old.told.moment) (comings_of old.script) m.moment_is
plays-patient {old} {new} {until} {quiet} was (signals o s l m) = patient-still old new until quiet (woke.Woke old.told.moment) (comings_of old.script) m.moment_is
plays-patient {old} {new} {until} {quiet} was (recovers o s f m) = patient-still old new until quiet (woke.Woke old.told.moment) (comings_of old.script) m.moment_is
plays-patient {old} {new} {until} {quiet} was (served o s q m) = patient-still old new until quiet (woke.Woke old.told.moment) (comings_of old.script) m.moment_is
plays-patient {old} {new} {until} {quiet} was (passes {m = next} o s q n t m c) =
    rw (← m.moment_is) (patient-passes old new until quiet next was o.next q n (m.moment_is ∙ t) (nat_lt old.told.moment new.told.moment) refl)
plays-patient {old} {new} {until} {quiet} was (ends o s q n t d m) = patient-still old new until quiet woke.Ended (comings_of old.script) m.moment_is
plays-patient {old} {new} {until} {quiet} was (stays o s q n t m) = patient-still old new until quiet (woke.Woke old.told.moment) (comings_of old.script) m.moment_is

-- ## A wait is one of a front

-- no count fell
never-fell : (ended : Bool) (n n' : ℕ) → RisesExactlyWhere ended n n' → n ≤ n'
never-fell true n n' p = p.0
never-fell false n n' p = omega (arith, p)

-- of more lines no fewer connections
arrived-more : (lines : List ScriptLine) (h h' : ℕ) → h ≤ h' → length (names_of (take h lines)) ≤ length (names_of (take h' lines))
arrived-more lines h h' more =
    let up : h' ≡ h + (h' - h) = omega arith in
    rw up (omega (arith, names-add lines h (h' - h)))

still-put_down : (old mid new : SeenFront) (end : WaitEnd) (ready : List ℕ) → new ≡ with_wait ready end mid → StandsStill old.told mid.told → StandsStill old.told new.told
still-put_down old mid new end ready is still = record {
  arrived = ap (λ (f : SeenFront). f.told.arrived) is ∙ still.arrived;
  lines = ap (λ (f : SeenFront). f.told.lines) is ∙ still.lines;
  left = ap (λ (f : SeenFront). f.told.left) is ∙ still.left;
  moment = ap (λ (f : SeenFront). f.told.moment) is ∙ still.moment;
}

-- one more wait gave a moment, or as many
woken-by : (gave : Bool) (n m : ℕ) → m ≡ n + cond gave 1 0 → CountsWhere gave n m
woken-by true n m is = (omega (arith, is), λ below. omega (arith, is))
woken-by false n m is = omega (arith, is)

pub woken-more : (told : List WaitTold) (wait : WaitTold)
    → CountsWhere (is_woken wait.answer) (woken_waits told) (woken_waits (told ++ wait ∷ []))
woken-more told wait =
    let both : woken_waits (told ++ wait ∷ []) ≡ woken_waits told + woken_waits (wait ∷ []) =
    sum_by-append (λ (w : WaitTold). cond (is_woken w.answer) 1 0) told (wait ∷ []) in
    let one : woken_waits (wait ∷ []) ≡ cond (is_woken wait.answer) 1 0 + woken_waits [] =
    sum_by-cons (λ (w : WaitTold). cond (is_woken w.answer) 1 0) wait [] in
    woken-by (is_woken wait.answer) (woken_waits told) (woken_waits (told ++ wait ∷ [])) (omega (arith, both, one))

pub waits : (old mid new : SeenFront) (until : Option ℕ) (quiet : Bool) (answer : Woke) (ready : List ℕ) (passed : Option WaitingCounts) (accepted read : ℕ) (hushed : Bool)
    → IsOfScript old → IsOfScript new → (0 < new.ends → HasAllTaken new.told) → passed ≡ passed_between old.told.moment mid.told.moment (waiting_counts old)
    → accepted ≡ mid.told.accepted → read ≡ mid.told.read → hushed ≡ mid.told.hushed
    → new ≡ with_wait ready (record { accepted = accepted; read = read; hushed = hushed; until = until; quiet = quiet; answer = answer; passed = passed }) mid → Plays old new until quiet answer ready → KeepsRest answer old mid
    → (0 < old.ends → (ready ≡ []) × StandsStill old.told mid.told)
    → Waits (front_seen old) (front_seen new) until quiet answer ready
waits old mid new until quiet answer ready passed accepted read hushed was now taken passed_so accepted_is read_is hushed_is is plays rest ended =
    let went = plays-went plays in
    let told : new.told ≡ record mid.told { failed = false; waits = new.told.waits } = rw is refl in
    let kept : record new.told { arrived = 0; lines = []; left = 0; moment = 0; failed = false; waits = [] } ≡ record old.told { arrived = 0; lines = []; left = 0; moment = 0; failed = false; waits = [] } = rw (told, rest.told_is) refl in
    let further : new.happened ≡ old.happened + (new.happened - old.happened) = omega (arith, went.happened) in
    let ends : new.ends ≡ mid.ends = ap (λ (f : SeenFront). f.ends) is in
    let rises : RisesExactlyWhere (is_ended answer) old.ends new.ends = rw ends rest.ends in
    let says = plays-answers (λ e. taken (omega (arith, e, never-fell (is_ended answer) old.ends new.ends rises))) plays in
    let moment : mid.told.moment ≡ new.told.moment = sym (ap (λ (f : SeenFront). f.told.moment) is) in
    let told_wait : WaitTold = record { began = progress_of old.told; until = until; quiet = quiet; slots = ready; answer = answer; passed = passed-of old new.told.moment } in
    let told_waits : new.told.waits ≡ old.told.waits ++ told_wait ∷ [] =
    ap (λ (f : SeenFront). f.told.waits) is
    ∙ rw (passed_so, moment, accepted_is, read_is, hushed_is) (ap (λ (t : FrontTold). t.waits ++ record { began = progress_of t; until = until; quiet = quiet; slots = ready; answer = answer; passed = passed-of old new.told.moment } ∷ []) rest.told_is) in
    record {
      script = ap (λ (lines : List ScriptLine). let some : Option (List ScriptLine) = Some lines in some) went.script;
      tells = (
        new.told,
        refl,
        record {
          clients = ap (λ (t : FrontTold). t.clients) kept;
          arrived = rw (was.arrived, now.arrived, went.script) (arrived-more old.script old.happened new.happened went.happened);
          within = rw (now.arrived, was.clients, went.script) (arrived-within old.script new.happened);
          accepted = ap (λ (t : FrontTold). t.accepted) kept;
          watches = ap (λ (t : FrontTold). t.watches) kept;
          turned_away = ap (λ (t : FrontTold). t.turned_away) kept;
          come = command_lines_of (take (new.happened - old.happened) (drop old.happened old.script));
          lines =
              now.lines ∙ ap (λ (lines : List ScriptLine). command_lines_of (take new.happened lines)) went.script
              ∙ ap (λ k. command_lines_of (take k old.script)) further ∙ lines-add old.script old.happened (new.happened - old.happened)
              ∙ ap (λ (lines : List (List ℕ)). lines ++ command_lines_of (take (new.happened - old.happened) (drop old.happened old.script))) (sym was.lines);
          read = ap (λ (t : FrontTold). t.read) kept;
          answers_stay = ap (λ (t : FrontTold). t.answers) kept;
          bound = ap (λ (t : FrontTold). t.bound) kept;
          dialled = ap (λ (t : FrontTold). t.dialled) kept;
          hushed = ap (λ (t : FrontTold). t.hushed) kept;
          left = omega (arith, was.left, now.left, went.happened, ap length went.script);
          moment = went.moment_is;
          comings = ap (λ (t : FrontTold). t.comings) kept;
          failed = ap (λ (t : FrontTold). t.failed) told;
          answers = says.0;
          passed = passed-of old new.told.moment;
          patient = subst (λ (o : Option (List ℕ)). IfSome o (λ comings. IsPatient comings until quiet answer (passed-of old new.told.moment) old.told new.told)) (sym was.comings) (plays-patient was plays);
          waits =
              ap (λ (f : SeenFront). f.told.waits) is
              ∙ rw (passed_so, moment, accepted_is, read_is, hushed_is) (ap (λ (t : FrontTold). t.waits ++ record { began = progress_of t; until = until; quiet = quiet; slots = ready; answer = answer; passed = passed-of old new.told.moment } ∷ []) rest.told_is);
        },
      );
      over = λ e. record { none = (ended e).0; still = (new.told, refl, still-put_down old mid new _ ready is (ended e).1) };
      awake = says.1;
      few = plays-few plays;
      faults = says.2;
      accept_faults = refl;
      ends = rises;
      wakes =
          subst (λ (told : List WaitTold). CountsWhere (is_woken answer) (woken_waits old.told.waits) (woken_waits told)) (sym told_waits)
          (woken-more old.told.waits told_wait);
      commands = ap (λ (t : FrontTold). t.read) kept;
      words = ap (λ (f : SeenFront). f.words) is ∙ rest.words;
      answers_stay = ap (λ (f : SeenFront). f.answers) is ∙ rest.answers_stay;
      handed = ap (λ (t : FrontTold). t.accepted) kept;
    }
