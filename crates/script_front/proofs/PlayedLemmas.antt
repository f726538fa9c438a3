-- The parts of a front that plays a script, after a step.
use Rattle.std.proofs.Common.{◌≡◌, ℕ, zero, suc, ◌+◌, ◌-◌, ◌<◌, ◌≤◌, ◌⊎◌, inl, inr, Bool, true, false, List, [], ◌∷◌, ◌++◌, length, get_or, map, take, drop, None, ap, sym, refl, ◌∙◌, drop-drop, add-one, arith}
use Rattle.std.proofs.Math.Seq.{take-add}
use Rattle.std.proofs.lemmas.Grind.{flat_map-append}
use Rattle.std.proofs.lemmas.List.{get_or-map, length-append, length-drop, length-map, length-take, take-append-drop}
use Rattle.mpm_script.specs.Clients.{clients_of, made_by, names_of, sent_by}
use Rattle.mpm_script.specs.Commands.{command_lines_of}
use Rattle.mpm_base.specs.Front.{next_coming}
use Rattle.script_front.specs.PlayedPartsInside.{AreCommands, ArePlayed, SeenClients, SeenCommands, plan_of, plans_of}
use Rattle.script_front.specs.declared.client_plans.LinkPlan.{LinkPlan}
use Rattle.script_front.specs.ScriptFront.{comings_of, lines_now}
use Rattle.mpm_base.specs.declared.script_line.ScriptLine.{ScriptLine}
use Rattle.script_front.proofs.ComingLemmas.{names-few}
use Rattle.script_front.proofs.MomentLemmas.{past-add, past-later}
use Rattle.script_front.proofs.SignalLemmas.{names}

-- the connections of the lines up to one place, and from there to another
pub names-add : (lines : List ScriptLine) (h n : ℕ)
    → length (names_of (take (h + n) lines)) ≡ length (names_of (take h lines)) + length (names_of (take n (drop h lines)))
names-add lines h n =
    rw (take-add h n lines, flat_map-append made_by (take h lines) (take n (drop h lines))) (length-append (names_of (take h lines)) (names_of (take n (drop h lines))))

-- as many connections as lines at most
pub names-within : (lines : List ScriptLine) (h : ℕ) → length (names_of (take h lines)) ≤ h
names-within lines h = omega (arith, names-few (take h lines), length-take h lines)

-- no more connections arrive than there are
pub arrived-within : (lines : List ScriptLine) (h : ℕ) → length (names_of (take h lines)) ≤ length (clients_of lines)
arrived-within lines h =
    let all : names_of (take h lines) ++ names_of (drop h lines) ≡ names_of lines = rw (← flat_map-append made_by (take h lines) (drop h lines)) (ap names_of (take-append-drop h lines)) in
    omega (arith, ap length all, length-append (names_of (take h lines)) (names_of (drop h lines)), length-map (names_of lines) (λ name. sent_by name lines))

-- the first of the rest of what the items of a list are made into
record IsFirst {X : Type 0} (f : List ℕ → X) (xs : List (List ℕ)) (k : ℕ) (x : X) (rest : List X) : Type 0 where
  pub within : k < length xs
  pub is : x ≡ f (get_or xs k [])
  pub rest_is : rest ≡ drop (suc k) (map f xs)

first-rest : {X : Type 0} (f : List ℕ → X) (xs : List (List ℕ)) (k : ℕ) (x : X) (rest : List X) → drop k (map f xs) ≡ x ∷ rest
    → IsFirst f xs k x rest
first-rest f [] zero x rest e = absurd (cc)
first-rest f [] (suc k) x rest e = absurd (cc)
first-rest f (y ∷ ys) zero x rest e = record { within = omega arith; is = cc; rest_is = cc }
first-rest f (y ∷ ys) (suc k) x rest e =
    let r = first-rest f ys k x rest e in
    record { within = omega (arith, r.within); is = r.is; rest_is = r.rest_is }

-- there is a plan for each client
pub plans-clients : (lines : List ScriptLine) → length (plans_of lines) ≡ length (clients_of lines)
plans-clients lines = length-map (names_of lines) (plan_of lines) ∙ sym (length-map (names_of lines) (λ name. sent_by name lines))

-- a connection is left where fewer were taken and listening wasn't stopped
some-left : {n taken : ℕ} {hushed : Bool} → (taken ≡ n) ⊎ (hushed ≡ true) → taken < n → hushed ≡ false → ⊥
some-left (inl all) l listens = absurd (omega arith)
some-left (inr stopped) l listens = absurd (cc)

module _ (lines : List ScriptLine) (h : ℕ) (waited : Bool) (m a taken : ℕ) (hushed : Bool) (cs : SeenClients) (ws : SeenCommands) (ended : ℕ) (p : ArePlayed lines h waited m a taken hushed cs ws ended) where
  -- the first of the plans that wait is that of the next connection
  pub next-taken : (plan : LinkPlan) (rest : List LinkPlan) → cs.waiting ≡ plan ∷ rest
      → (taken < length (clients_of lines)) × (plan ≡ plan_of lines (get_or (names_of lines) taken []))
      × (plan.text ≡ get_or (clients_of lines) taken [])
  next-taken plan rest is =
      let r = first-rest (plan_of lines) (names_of lines) taken plan rest (sym p.plans_are ∙ is) in (
        omega (arith, r.within, length-map (names_of lines) (λ name. sent_by name lines)),
        r.is,
        ap (λ (plan : LinkPlan). plan.text) r.is ∙ sym (get_or-map (λ name. sent_by name lines) (names_of lines) taken [] [] r.within),
      )

  -- the next connection was handed out
  pub played-accept : (cs' : SeenClients) (plan : LinkPlan) → cs.waiting ≡ plan ∷ cs'.waiting → cs' ≡ record cs { waiting = cs'.waiting } → (taken ≡ a → ⊥) → hushed ≡ false
      → ArePlayed lines h waited m a (taken + 1) hushed cs' ws ended
  played-accept cs' plan is only waits listens =
      let r = first-rest (plan_of lines) (names_of lines) taken plan cs'.waiting (sym p.plans_are ∙ is) in
      let few : taken < length (clients_of lines) = omega (arith, r.within, length-map (names_of lines) (λ name. sent_by name lines)) in
      record {
        happened = p.happened;
        past = p.past;
        arrived = p.arrived;
        accepted = omega (arith, p.accepted);
        plans_are = rw add-one r.rest_is;
        clients_are = ap (λ (s : SeenClients). names s.clients) only ∙ p.clients_are;
        names_are = ap (λ (s : SeenClients). length s.watched) only ∙ p.names_are;
        commands = p.commands;
        next = p.next;
        over = λ e. absurd (some-left (p.over e).each few listens);
      }

  -- where a connection waits its plan does
  pub none-waits : length cs.waiting ≡ 0 → (taken ≡ a → ⊥) → ⊥
  none-waits is waits =
      omega (arith, p.accepted, p.arrived, arrived-within lines h, length-drop taken (plans_of lines), plans-clients lines, ap length p.plans_are)

  -- of the clients something else is known
  pub played-clients : (cs' : SeenClients) → cs'.waiting ≡ cs.waiting → length cs'.watched ≡ length cs.watched → names cs'.clients ≡ names cs.clients
      → ArePlayed lines h waited m a taken hushed cs' ws ended
  played-clients cs' waiting watched named = record {
    happened = p.happened;
    past = p.past;
    arrived = p.arrived;
    accepted = p.accepted;
    plans_are = waiting ∙ p.plans_are;
    clients_are = named ∙ p.clients_are;
    names_are = watched ∙ p.names_are;
    commands = p.commands;
    next = p.next;
    over = p.over;
  }

  -- the next command line was read
  pub played-read : (ws' : SeenCommands) → AreCommands lines h ws' → ws.read < ws.came → ArePlayed lines h waited m a taken hushed cs ws' ended
  played-read ws' commands some = record {
    happened = p.happened;
    past = p.past;
    arrived = p.arrived;
    accepted = p.accepted;
    plans_are = p.plans_are;
    clients_are = p.clients_are;
    names_are = p.names_are;
    commands = commands;
    next = p.next;
    over = λ e. absurd (omega (arith, (p.over e).told, some));
  }

  -- so many further lines happened
  pub played-lines : (n more : ℕ) (ws' : SeenCommands) → n ≤ length lines - h → more ≡ length (names_of (take n (drop h lines))) → lines_now (drop n (drop h lines)) ≡ 0
      → next_coming m (comings_of (take n (drop h lines))) ≡ None → AreCommands lines (h + n) ws' → ws'.read ≡ ws.read
      → ArePlayed lines (h + n) waited m (a + more) taken hushed cs ws' ended
  played-lines n more ws' few is next past commands read = record {
    happened = omega (arith, p.happened);
    past = past-add m lines h n p.past past;
    arrived = omega (arith, p.arrived, names-add lines h n);
    accepted = omega (arith, p.accepted);
    plans_are = p.plans_are;
    clients_are = p.clients_are;
    names_are = p.names_are;
    commands = commands;
    next = λ e. ap lines_now (sym (drop-drop n h lines)) ∙ next;
    over = λ e.
        let o = p.over e in
        let none : h + n ≡ h = omega (arith, o.all, few) in
        let came : ws'.came ≡ ws.came = commands.came ∙ ap (λ k. length (command_lines_of (take k lines))) none ∙ sym p.commands.came in
        record { begun = o.begun; all = omega (arith, o.all, p.happened); each = o.each; told = read ∙ o.told ∙ sym came };
  }

  -- time passed
  pub played-moment : (later : ℕ) → m ≤ later → ArePlayed lines h waited later a taken hushed cs ws ended
  played-moment later l = record {
    happened = p.happened;
    past = past-later m later (comings_of (take h lines)) l p.past;
    arrived = p.arrived;
    accepted = p.accepted;
    plans_are = p.plans_are;
    clients_are = p.clients_are;
    names_are = p.names_are;
    commands = p.commands;
    next = p.next;
    over = p.over;
  }

  -- it waited
  pub played-begun : lines_now (drop h lines) ≡ 0 → ArePlayed lines h true m a taken hushed cs ws ended
  played-begun next = record {
    happened = p.happened;
    past = p.past;
    arrived = p.arrived;
    accepted = p.accepted;
    plans_are = p.plans_are;
    clients_are = p.clients_are;
    names_are = p.names_are;
    commands = p.commands;
    next = λ e. next;
    over = λ e. let o = p.over e in record { begun = refl; all = o.all; each = o.each; told = o.told };
  }
