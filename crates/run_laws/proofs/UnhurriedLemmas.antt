-- That in the run of a script time passes only where each signal that the front had given was taken up.
use Rattle.std.proofs.Common.{◌≡◌, ◌==◌, ℕ, true, List, [], ◌∷◌, ◌++◌, map, replicate, Option, None, Some, is_some, refl, sym, ap, subst, ◌∙◌}
use Rattle.std.proofs.lemmas.Grind.{flat_map-append}
use Rattle.std.proofs.lemmas.List.{map-append}
use Rattle.std.proofs.lemmas.List.Elements.{filter-append}
use Rattle.std.specs.List.{flat_map}
use Rattle.mpm_base.specs.Clock.{echo}
use Rattle.mpm_base.specs.Front.{FrontTold, WaitTold, is_woken, moments_in, moments_of}
use Rattle.mpm_base.specs.declared.front.Woke.{Woke}
use Rattle.mpm_base.specs.declared.front.Woke.TheVariants as woke
use Rattle.conn_machine.specs.Made.{AreMade, AreMadeBehind}
use Rattle.conn_machine.specs.Runs.{after, entries_of, is_of_pass, may_make, row_from}
use Rattle.conn_machine.specs.declared.event.Entry.{Entry}
use Rattle.conn_machine.specs.declared.event.Event.{Event}
use Rattle.conn_machine.specs.declared.event.Event.TheVariants as event
use Rattle.conn_machine.specs.declared.folded.Folded.{Folded}
use Rattle.conn_machine.specs.declared.state.State.{State}
use Rattle.conn_machine.specs.Table.{next}
use Rattle.listener_round.specs.FirstNumbers.{folded_by, numbers_of, opened_by}
use Rattle.listener_round.specs.Pace.{AreSharesOf, Brought, Share, answer_if, answers_in, brought, brought_in, moved, ticked}
use Rattle.listener.specs.Patient.{ArePatient, IsPatientEvent}
use Rattle.listener_round.specs.Times.{answers_of}
use Rattle.conn_machine.specs.Runs.{AllAt}
use Rattle.script_front.specs.ScriptFront.{comings_of}
use Rattle.script_run.specs.Played.{HasPlayed}
use Rattle.script_run.specs.declared.scripted.Scripted.{Scripted}
use Rattle.run_laws.specs.Outcomes.{SeenOutcome}
use Rattle.run_laws.specs.Unhurried.{PassesUnhurried, slots_given, slots_in}
use Rattle.run_laws.proofs.LineLemmas.{brought-on}
use Rattle.run_laws.proofs.TickLemmas.{TickOf, is_ticked, none-replicated, slots-both, slots-moved, slots-of, slots_asked, tick-behind, tick-share}
use Rattle.run_laws.proofs.UndisturbedLemmas.{RunLaws, made-all}

-- ## The entry of a tick

-- each entry is one that its pass may make
role-at : (base : State) (f : Folded) (behind a : List Entry) (e : Entry) (b : List Entry) → AreMadeBehind base f behind (a ++ e ∷ b)
    → (history : List Entry) × (may_make e.pass (row_from f e.pass history) e.event ≡ true)
role-at base f behind [] e b made = (behind, made.0.role)
role-at base f behind (x ∷ a) e b made = role-at base f (behind ++ x ∷ []) a e b made.1

-- what two histories bring
brought-both : (a b : List Entry) → brought (a ++ b) ≡ brought a ++ brought b
brought-both a b =
    ap (λ (l : List Entry). flat_map brought_in (map (λ (e : Entry). e.event) l)) (filter-append (is_of_pass 0) a b)
    ∙ ap (λ (l : List Event). flat_map brought_in l) (map-append (λ (e : Entry). e.event) (entries_of 0 a) (entries_of 0 b))
    ∙ flat_map-append brought_in (map (λ (e : Entry). e.event) (entries_of 0 a)) (map (λ (e : Entry). e.event) (entries_of 0 b))

-- what one brings whose entry is a tick
brought-tick : (e : Entry) (rest : List Entry) (m : ℕ) → (e.pass == 0) ≡ true → e.event ≡ event.Tick m → brought (e ∷ rest) ≡ ticked m ∷ brought rest
brought-tick e rest m own is = brought-on e rest true own ∙ ap (λ (x : Event). brought_in x ++ brought rest) is

-- what holds of all entries holds of each
at-entry : (P : State → Event → Type 0) (s : State) (a : List Entry) (e : Entry) (b : List Entry) → AllAt P s (a ++ e ∷ b) → P (after s a) e.event
at-entry P s [] e b all = all.0
at-entry P s (x ∷ a) e b all = at-entry P (next s x.event) a e b all.1

-- ## The wait of a share

-- a clock that answers what it is told
echoed : (moments : List ℕ) → answers_of (map echo moments) ≡ moments
echoed [] = refl
echoed (m ∷ moments) = ap (λ (l : List ℕ). m ∷ l) (echoed moments)

-- was asked where a wait gave a moment, and answered that
one-answer : (answer : Option ℕ) (given : Woke) (more more' : List ℕ) → is_some answer ≡ is_woken given
    → answer_if answer ++ more ≡ moments_in given ++ more' → (answer_if answer ≡ moments_in given) × (more ≡ more')
one-answer None (woke.Woke m) more more' same eq = absurd (cc same)
one-answer None woke.Ended more more' same eq = (refl, eq)
one-answer None woke.Failed more more' same eq = (refl, eq)
one-answer (Some a) (woke.Woke m) more more' same eq =
    let head : a ≡ m = cc eq in
    let tail : more ≡ more' = cc eq in
    (ap (λ (n : ℕ). n ∷ []) head, tail)
one-answer (Some a) woke.Ended more more' same eq = absurd (cc same)
one-answer (Some a) woke.Failed more more' same eq = absurd (cc same)

gave : (answer : Option ℕ) (a : ℕ) (given : Woke) → answer ≡ Some a → answer_if answer ≡ moments_in given → given ≡ woke.Woke a
gave answer a given is gives = gave-this a given (ap answer_if (sym is) ∙ gives)
  where
    gave-this : (a : ℕ) (given : Woke) → a ∷ [] ≡ moments_in given → given ≡ woke.Woke a
    gave-this a (woke.Woke m) eq = let same : m ≡ a = cc eq in ap (λ (n : ℕ). woke.Woke n) same
    gave-this a woke.Ended eq = absurd (cc eq)
    gave-this a woke.Failed eq = absurd (cc eq)

-- of the waits one is that of the share, and the waits before it gave the slots that the shares before it ask for
record WaitOf (rows : ℕ) (waits : List WaitTold) (before : List Share) (s : Share) : Type 0 where
  earlier : List WaitTold
  wait : WaitTold
  later : List WaitTold
  waits_are : waits ≡ earlier ++ wait ∷ later
  signals : slots_asked before ≡ slots_given rows earlier
  gives : answer_if s.answer ≡ moments_in wait.answer

wait-of : (rows : ℕ) (t : FrontTold) (waits : List WaitTold) (before : List Share) (s : Share) (behind : List Share)
    → AreSharesOf rows t waits (before ++ s ∷ behind) → answers_in (before ++ s ∷ behind) ≡ moments_of waits → WaitOf rows waits before s
wait-of rows t [] [] s behind each answers = absurd (cc each)
wait-of rows t [] (x ∷ before) s behind each answers = absurd (cc each)
wait-of rows t (wait ∷ waits) [] s behind each answers =
    let one = one-answer s.answer wait.answer (answers_in behind) (moments_of waits) each.0.answer answers in
    record { earlier = []; wait = wait; later = waits; waits_are = refl; signals = refl; gives = one.0 }
wait-of rows t (wait ∷ waits) (x ∷ before) s behind each answers =
    let one = one-answer x.answer wait.answer (answers_in (before ++ s ∷ behind)) (moments_of waits) each.0.answer answers in
    let found = wait-of rows t waits before s behind each.1 one.1 in
    record {
      earlier = wait ∷ found.earlier;
      wait = found.wait;
      later = found.later;
      waits_are = ap (λ (l : List WaitTold). wait ∷ l) found.waits_are;
      signals = cc (each.0.signals, found.signals);
      gives = found.gives;
    }

-- ## A script

pub passes-unhurried : RunLaws → (o : SeenOutcome) (s : Scripted) (played : HasPlayed o.call s.config s.board s.front s.clock s.store o.status)
    → (before rest : List Entry) (e : Entry) (m : ℕ)
    → played.has_run.folded.entries ++ s.board.book.history ≡ before ++ e ∷ rest
    → e.event ≡ event.Tick m
    → PassesUnhurried (numbers_of s.config).slots (comings_of s.front.script) s.front.told (after (opened_by (numbers_of s.config)) before) before m
passes-unhurried laws o s played before rest e m split is =
    let n = numbers_of s.config in
    let t = s.front.told in
    let pace = played.left.pace in
    let all = made-all laws n s.board played.has_run.run played.has_run.folded in
    let role = role-at (opened_by n) (folded_by n) [] before e rest (subst (λ (l : List Entry). AreMade (opened_by n) (folded_by n) l) split all) in
    let own : (e.pass == 0) ≡ true = subst (λ (x : Event). may_make e.pass (row_from (folded_by n) e.pass role.0) x ≡ true) is role.1 in
    let brings : replicate pace.first moved ++ pace.made ≡ brought before ++ ticked m ∷ brought rest =
    sym pace.brought_is
    ∙ ap brought split
    ∙ brought-both before (e ∷ rest)
    ∙ ap (λ (l : List Brought). brought before ++ l) (brought-tick e rest m own is) in
    let there =
    tick-behind (replicate pace.first moved) pace.made (brought before) (brought rest) m (none-replicated is_ticked pace.first moved refl) brings in
    let tick : TickOf 0 pace.shares there.0 m = tick-share s.board.book.state.going pace.shares pace.made there.0 (brought rest) m pace.are there.2 in
    let each = subst (λ (l : List Share). AreSharesOf n.slots t t.waits l) tick.shares_are pace.waits.each in
    let answers =
    subst (λ (l : List Share). answers_in l ≡ moments_of t.waits) tick.shares_are
    (pace.answers ∙ ap answers_of played.left.asked ∙ echoed (moments_of t.waits)) in
    let found = wait-of n.slots t t.waits tick.before tick.share tick.behind each answers in
    let asked : flat_map slots_in there.0 ≡ slots_asked tick.before =
    ap (λ (l : List Brought). flat_map slots_in l) tick.made ∙ slots-of 0 tick.before in
    let patient = subst (λ (l : List Entry). ArePatient (comings_of s.front.script) t.waits (opened_by n) l) split played.left.patient in
    record {
      earlier = found.earlier;
      wait = found.wait;
      later = found.later;
      waits_are = found.waits_are;
      to = tick.answer;
      woke = gave tick.share.answer tick.answer found.wait.answer tick.answered found.gives;
      moment = tick.moment_is;
      signals =
          ap (λ (l : List Brought). flat_map slots_in l) there.1
          ∙ slots-both (replicate pace.first moved) there.0 [] (slots_asked tick.before) (slots-moved pace.first) asked
          ∙ found.signals;
      patiently =
          subst (λ (x : Event). IsPatientEvent (comings_of s.front.script) t.waits (after (opened_by n) before) x) is
          (at-entry (IsPatientEvent (comings_of s.front.script) t.waits) (opened_by n) before e rest patient);
    }
