-- What a restart and a graceful stop do: what was recorded, and how the run stands then.
use Rattle.std.proofs.Common.{◌≡◌, ◌==◌, ◌<◌, inl, inr, ◌≤◌, ◌+◌, ℕ, suc, Bool, true, false, ◌&&◌, cond, nat_le, nat_lt, List, [], ◌∷◌, ◌++◌, Option, None, Some, option_map, IfSome, Result, Ok, Err, OnErr, OnOk, refl, sym, ap, subst, ◌∙◌, arith}
use Rattle.std.proofs.lemmas.Bool.Decides.{nat_tests}
use Rattle.std.proofs.lemmas.List.Sums.{sum_by-cons}
use Rattle.mpm_base.specs.CommandWord.{command_word}
use Rattle.mpm_base.specs.Count.{NeverFalls}
use Rattle.mpm_base.specs.Front.{Commands, FrontSeen}
use Rattle.mpm_base.specs.Store.{Renews, StoreCounts, StoreSeen, StoreTold, after_renew}
use Rattle.mpm_base.specs.Moment.{greatest_moment}
use Rattle.mpm_base.specs.declared.script_line.CommandWord.TheVariants as word
use Rattle.mpm_base.specs.declared.shape.Shape.{Shape}
use Rattle.mpm_config.specs.Config.{Configuration}
use Rattle.conn_machine.specs.declared.event.Commanded.{Commanded}
use Rattle.conn_machine.specs.declared.event.Commanded.TheVariants as commanded
use Rattle.conn_machine.specs.declared.event.Entry.{Entry}
use Rattle.conn_machine.specs.declared.event.Event.TheVariants as event
use Rattle.conn_machine.specs.declared.event.Refusal.{Refusal}
use Rattle.conn_machine.specs.declared.event.Refusal.TheVariants as refusal
use Rattle.conn_machine.specs.declared.folded.Folded.{Folded}
use Rattle.conn_machine.specs.declared.state.State.{State}
use Rattle.conn_machine.specs.Events.{count_events, is_order}
use Rattle.conn_machine.specs.Folds.{HaveBegun}
use Rattle.conn_machine.specs.Runs.{after}
use Rattle.conn_machine.specs.States.{is_over, is_serving, later, is_staffed}
use Rattle.conn_machine.specs.declared.state.Going.TheVariants.{Ending}
use Rattle.conn_machine.specs.Table.{greatest_generation, next}
use Rattle.rounds.specs.PartsInside.{StaysTimely}
use Rattle.rounds.specs.TableInside.{StandsInTime}
use Rattle.rounds.proofs.TimelyLemmas.{not-at_end, staffed-command, still-in_time, timely-command}
use Rattle.listener_round.proofs.BroughtLemmas.{brought-as}
use Rattle.conn_state.specs.Known.{KnownOutside}
use Rattle.board_book.specs.Book.{AddsOnly, SeenBook, book_with_entry, row_in}
use Rattle.board_book.specs.Editions.{edition_of, orders_in}
use Rattle.board.specs.Editions.{GenerationsKeepTheirEditions, IsOfGeneration}
use Rattle.worker_group.specs.Acts.{Acts, ActsInSteps}
use Rattle.restart_control.specs.Reload.{HasCause, IsPlan}
use Rattle.restart_control.specs.declared.plan.Plan.{Plan}
use Rattle.restart_control.specs.declared.reload_fault.ReloadFault.{ReloadFault}
use Rattle.restart_control.specs.declared.reload_fault.ReloadFault.TheVariants as fault
use Rattle.board_book.specs.declared.faults.BoardFault.{BoardFault}
use Rattle.listener_round.specs.FirstNumbers.{opened_by}
use Rattle.listener_round.specs.Generations.{Opening, config_at, renewed, head_limits_of}
use Rattle.listener_round.specs.Orders.{EndsUntil, HasShape, HasSite, IsRefusedAs, ending_by, ending_moment, may_begin, shape_by}
use Rattle.listener_round.specs.OrdersInside.{Begins, BreaksBehind, Carries, KnowsComing, MakesOrders, Refuses, ServesNewest, StandsBehind, reason_for}
use Rattle.listener_round.specs.RoundInside.{DoesOrders}
use Rattle.listener_round.specs.Folded.{all_entries}
use Rattle.listener_round.specs.StandingInside.{HasTimeout, Past, Standing, StandsBroken, StandsOn, StandsSo, standing, newest_edition}
use Rattle.listener_round.specs.Stores.{RisesBy, is_store_refusal}
use Rattle.listener_round.specs.declared.edition.LoadedEdition.{LoadedEdition}
use Rattle.listener_round.specs.declared.edition.NamedConfig.{NamedConfig}
use Rattle.listener_round.specs.declared.run_numbers.RunNumbers.{RunNumbers}
use Rattle.rounds.proofs.AddedLemmas.{added-events}
use Rattle.listener_round.proofs.EditionLemmas.{newest-acts}
use Rattle.listener_round.proofs.OrderStandLemmas.{IsRenewedOnce, once-more, one-entry, rises-one, stands-ending, stands-front, stands-line, stands-order, stands-unordered, state-behind}
use Rattle.listener_round.proofs.StandingLemmas.{SameLines, counted-both}
use Rattle.listener_round.proofs.PlanLemmas.{cause-of_order, config-of_order, knows-renewed, serves-plan, shape-of_order, site-of_order, timeout-of_order}

-- the law of histories that go on
abbrev pub HistoriesJoin : Type 0
HistoriesJoin = (base : State) (a b : List Entry) → after base (a ++ b) ≡ after (after base a) b

-- ## What was recorded

-- a command that was recorded
pub recorded-one : ActsInSteps → (c : Commanded) (a b : SeenBook) → b ≡ book_with_entry 0 (event.Command c) a → AddsOnly 0 a b → row_in 0 b ≡ None
    → Acts 0 (event.Command c ∷ []) None a b
recorded-one steps c a b is adds row = steps.one 0 (event.Command c) None a b is adds row

-- a generation that begins by a plan
pub begun-by : ActsInSteps → GenerationsKeepTheirEditions → (plan : Plan) (shape : Shape) (a b : SeenBook) (e : LoadedEdition) → shape ≡ shape_by plan.config
    → b ≡ book_with_entry 0 (event.Command (commanded.Graceful shape)) a → AddsOnly 0 a b → row_in 0 b ≡ None → HaveBegun a.base a.folded
    → after a.base a.history ≡ a.state → e.limits ≡ head_limits_of plan.config → e.site.value ≡ plan.site → e.stop_ms ≡ plan.config.current.stop_ms
    → Begins plan a b e
begun-by steps law plan shape a b e same is adds row begun now limits site stop =
    let here : b ≡ book_with_entry 0 (event.Command (commanded.Graceful (shape_by plan.config))) a =
    is ∙ ap (λ (x : Shape). book_with_entry 0 (event.Command (commanded.Graceful x)) a) same in
    record {
      acts = recorded-one steps (commanded.Graceful (shape_by plan.config)) a b here adds row;
      state = ap (λ (x : SeenBook). x.state) here;
      edition =
          ap (λ (x : SeenBook). edition_of x (a.state.newest + 1)) here ∙ law.newest a 0 (shape_by plan.config) begun now;
      limits = limits;
      site = site;
      stop = stop;
    }

-- a graceful stop, until a moment that is as the newest generation's configuration says
pub ended-by : ActsInSteps → (until : Option ℕ) (ms : ℕ) (a b : SeenBook) → until ≡ ending_moment a.state.moment ms
    → b ≡ book_with_entry 0 (event.Command (commanded.GracefulStop until)) a → AddsOnly 0 a b → row_in 0 b ≡ None
    → Acts 0 (event.Command (commanded.GracefulStop (ending_moment a.state.moment ms)) ∷ []) None a b
ended-by steps until ms a b same is adds row =
    recorded-one steps (commanded.GracefulStop (ending_moment a.state.moment ms)) a b
    (is ∙ ap (λ (x : Option ℕ). book_with_entry 0 (event.Command (commanded.GracefulStop x)) a) same) adds row

-- a restart was refused
pub does-refused : (reason : Refusal) (a b : SeenBook) → Refuses reason a b → DoesOrders a b
does-refused reason a b refuses = record { orders = commanded.Refused reason ∷ []; none = tt; acts = refuses.acts }

-- a generation began
pub does-begun : (plan : Plan) (a b : SeenBook) (e : LoadedEdition) → Begins plan a b e → DoesOrders a b
does-begun plan a b e begins = record { orders = commanded.Graceful (shape_by plan.config) ∷ []; none = tt; acts = begins.acts }

pub does-carried : (plan : Plan) (a b : SeenBook) (e e' : LoadedEdition) → Carries plan a b e e' → DoesOrders a b
does-carried plan a b e e' (inl begins) = does-begun plan a b e' begins
does-carried plan a b e e' (inr lacks) = does-refused refusal.NoMemory a b lacks.refuses

-- ## The store

-- a renewal that failed no call, as far as it is told
pub renewed-once : (s s' : StoreSeen) → Renews s s' → IsRenewedOnce 0 s s'
renewed-once s s' renews = record { told = renews.told_is; faults = inl (omega (arith, renews.faults)) }

failed-count : (reason : ReloadFault) (told : Option StoreTold) (name : List ℕ) (first : _) (counts counts' : StoreCounts) → NeverFalls counts.faults counts'.faults
    → HasCause told name first counts counts' reason
    → RisesBy (cond (is_store_refusal (event.Command (commanded.Refused (reason_for reason)))) 1 0) counts.faults counts'.faults
failed-count fault.Absent told name first counts counts' stays cause = inl (omega (arith, stays))
failed-count (fault.Conf why) told name first counts counts' stays cause = inl (omega (arith, stays))
failed-count (fault.Load why root) told name first counts counts' stays cause = inl (omega (arith, stays))
failed-count fault.StoreFault told name first counts counts' stays cause = rises-one counts.faults counts'.faults cause
failed-count fault.NoMemory told name first counts counts' stays cause = inl (omega (arith, stays))

-- where a run stands so, its store was renewed at each order
orders-renewed : (known : Option KnownOutside) (o : Opening) (n : RunNumbers) (past : Past) (s : Standing) (stood : StandsSo known o n past 0 0 s)
    → stood.renewals ≡ count_events is_order (all_entries n s.book stood.folded)
orders-renewed known o n past s stood = omega (arith, stood.each, stood.no_more)

-- so behind one more renewal it is that of the next order
store-of_order : (known : Option KnownOutside) (o : Opening) (n : RunNumbers) (past : Past) (ms : ℕ) (s s' : StoreSeen) (f : FrontSeen) (a : SeenBook)
    → (stood : StandsSo known o n past 0 0 (standing ms s f a)) → s'.told ≡ option_map after_renew s.told
    → s'.told ≡ option_map (renewed (suc (count_events is_order (all_entries n a stood.folded)))) o.store.told
store-of_order known o n past ms s s' f a stood is =
    once-more (count_events is_order (all_entries n a stood.folded)) o.store.told s.told s'.told
    (subst (λ (r : ℕ). s.told ≡ option_map (renewed r) o.store.told) (orders-renewed known o n past (standing ms s f a) stood) stood.store.told) is

next-number : (many : ℕ) → suc many ≡ many + 1
next-number many = omega arith

-- ## A restart that is refused

refused-stands : HistoriesJoin → (known : Option KnownOutside) (o : Opening) (n : RunNumbers) (past : Past) (reason : Refusal) (ms : ℕ) (s s' : StoreSeen) (f f' : FrontSeen)
    (a b : SeenBook) → Refuses reason a b → Commands f f' (Some (command_word word.Graceful)) → after a.base a.history ≡ a.state
    → (stood : StandsSo known o n past 0 0 (standing ms s f a))
    → IsRefusedAs o (count_events is_order (all_entries n a stood.folded) + 1) a.state reason
    → IsRenewedOnce (cond (is_store_refusal (event.Command (commanded.Refused reason))) 1 0) s s'
    → StandsSo known o n past 0 0 (standing ms s' f' b)
refused-stands joins known o n past reason ms s s' f f' a b refuses gave now stood why once =
    let history = all_entries n a stood.folded in
    let state : after (opened_by n) history ≡ a.state =
    state-behind (opened_by n) a.base a.state stood.folded.entries a.history (joins (opened_by n) stood.folded.entries a.history) stood.folded.base_is now in
    stands-order known o n past (commanded.Refused reason) ms ms s s' f f' a b (record { order = refl; line = refl; ending = refl }) refuses.acts
    (ap (λ (x : State). is_serving x.going) refuses.state) stood gave.commands
    (subst (λ (x : State). IsRefusedAs o (count_events is_order history + 1) x reason) (sym state) why) stood.timeout once

late-as : (o : Opening) (number : ℕ) (s : State) → s.newest ≤ greatest_generation → may_begin s ≡ false → IsRefusedAs o number s refusal.Late
late-as o number s within late = by (is_serving s.going) refl late where
  last : nat_lt s.newest greatest_generation ≡ false → s.newest ≡ greatest_generation
  last full = grind (arith, nat_tests)

  by : (serving : Bool) → is_serving s.going ≡ serving → (serving && nat_lt s.newest greatest_generation) ≡ false → IsRefusedAs o number s refusal.Late
  by true is full = inr (last full)
  by false is full = inl is

-- for being late
pub late-stands : HistoriesJoin → (known : Option KnownOutside) (c : NamedConfig) (ms : ℕ) (s s' : StoreSeen) (a b : SeenBook) → Refuses refusal.Late a b
    → after a.base a.history ≡ a.state → a.state.newest ≤ greatest_generation → may_begin a.state ≡ false → Renews s s'
    → StandsBehind known c word.Graceful (λ f. standing ms s f a) (λ f. standing ms s' f b)
late-stands joins known c ms s s' a b refuses now within late renews f f' gave o n past opened before stood =
    refused-stands joins known o n past refusal.Late ms s s' f f' a b refuses gave now stood (late-as o (count_events is_order (all_entries n a stood.folded) + 1) a.state within late) (renewed-once s s' renews)

-- for a cause
pub cause-stands : HistoriesJoin → (known : Option KnownOutside) (c : NamedConfig) (ms : ℕ) (s s' : StoreSeen) (a b : SeenBook) (why : ReloadFault)
    → Refuses (reason_for why) a b → may_begin a.state ≡ true → after a.base a.history ≡ a.state → Renews s s'
    → HasCause s'.told c.name.now c.config.now s.counts s'.counts why
    → StandsBehind known c word.Graceful (λ f. standing ms s f a) (λ f. standing ms s' f b)
cause-stands joins known c ms s s' a b why refuses may now renews cause f f' gave o n past opened before stood =
    let many = count_events is_order (all_entries n a stood.folded) in
    let refused_as : IsRefusedAs o (suc many) a.state (reason_for why) =
    cause-of_order o (suc many) a.state s'.told c.name.now c.config.now s.counts s'.counts why may opened.name opened.config
    (store-of_order known o n past ms s s' f a stood renews.told_is) cause in
    refused-stands joins known o n past (reason_for why) ms s s' f f' a b refuses gave now stood
    (subst (λ (x : ℕ). IsRefusedAs o x a.state (reason_for why)) (next-number many) refused_as)
    (record { told = renews.told_is; faults = failed-count why s'.told c.name.now c.config.now s.counts s'.counts renews.faults cause })

-- ## A generation that begins

begun-stands : HistoriesJoin → (known : Option KnownOutside) (c : NamedConfig) (ms : ℕ) (s s' : StoreSeen) (a b : SeenBook) (plan : Plan) (e : LoadedEdition)
    → Begins plan a b e → after a.base a.history ≡ a.state → Renews s s' → IsPlan s'.told c.name.now c.config.now plan
    → StandsBehind known c word.Graceful (λ f. standing ms s f a) (λ f. standing e.stop_ms s' f b)
begun-stands joins known c ms s s' a b plan e begins now renews plans f f' gave o n past opened before stood =
    let many = count_events is_order (all_entries n a stood.folded) in
    let config =
    config-of_order o many s'.told c.name.now c.config.now plan.config opened.name opened.config
    (store-of_order known o n past ms s s' f a stood renews.told_is) plans.config in
    stands-order known o n past (commanded.Graceful (shape_by plan.config)) ms e.stop_ms s s' f f' a b (record { order = refl; line = refl; ending = refl })
    begins.acts (ap (λ (x : State). is_serving x.going) begins.state) stood gave.commands
    (subst (λ (number : ℕ). IsDoneAt o number plan) (next-number many) (
      shape-of_order o (suc many) plan.config config,
      site-of_order o (suc many) s'.told c.name.now c.config.now plan opened.name opened.config (store-of_order known o n past ms s s' f a stood renews.told_is) plans,
    ))
    (subst (λ (number : ℕ). HasTimeout o number e.stop_ms) (next-number many) (timeout-of_order o (suc many) e.stop_ms plan.config begins.stop config))
    (renewed-once s s' renews) where
      IsDoneAt : Opening → ℕ → Plan → Type 0
      IsDoneAt o number plan = HasShape o number (shape_by plan.config) × HasSite o number

-- what comes of a plan
pub carried-stands : HistoriesJoin → (known : Option KnownOutside) (c : NamedConfig) (s s' : StoreSeen) (a b : SeenBook) (plan : Plan) (e e' : LoadedEdition)
    → Carries plan a b e e' → after a.base a.history ≡ a.state → Renews s s' → IsPlan s'.told c.name.now c.config.now plan
    → StandsBehind known c word.Graceful (λ f. standing e.stop_ms s f a) (λ f. standing e'.stop_ms s' f b)
carried-stands joins known c s s' a b plan e e' (inl begins) now renews plans = begun-stands joins known c e.stop_ms s s' a b plan e' begins now renews plans
carried-stands joins known c s s' a b plan e e' (inr lacks) now renews plans =
    subst (λ (x : LoadedEdition). StandsBehind known c word.Graceful (λ f. standing e.stop_ms s f a) (λ f. standing x.stop_ms s' f b)) (sym lacks.same)
    (λ f f' gave o n past opened before stood.
    refused-stands joins known o n past refusal.NoMemory e.stop_ms s s' f f' a b lacks.refuses gave now stood tt (renewed-once s s' renews))

-- ## An order that could not be recorded

pub unordered-breaks : (known : Option KnownOutside) (c : NamedConfig) (ms : ℕ) (s s' : StoreSeen) (a : SeenBook) → Renews s s'
    → BreaksBehind known c word.Graceful (λ f. standing ms s f a) (λ f. standing ms s' f a)
unordered-breaks known c ms s s' a renews f f' gave o n past opened before stood =
    stands-unordered known o n past ms s s' f f' a stood gave.commands (renewed-once s s' renews)

-- ## What is known, and what is served by

-- a recorded order is one more
pub orders-acts : (c : Commanded) (a b : SeenBook) → is_order (event.Command c) ≡ true → Acts 0 (event.Command c ∷ []) None a b → orders_in b ≡ orders_in a + 1
orders-acts c a b is acts =
    let one = one-entry (event.Command c) acts.entries.0 (added-events 0 (event.Command c ∷ []) None a b acts) in
    let folded : b.folded.orders ≡ a.folded.orders = ap (λ (f : Folded). f.orders) acts.folded in
    let whole : count_events is_order b.history ≡ count_events is_order (a.history ++ one.0 ∷ []) =
    ap (count_events is_order) (acts.entries.1 ∙ ap (λ (xs : List Entry). a.history ++ xs) one.1) in
    let counted : count_events is_order (one.0 ∷ []) ≡ 1 + 0 =
    sum_by-cons (λ (x : Entry). cond (is_order x.event) 1 0) one.0 [] ∙ ap (λ (test : Bool). cond test 1 0 + 0) (ap is_order one.2 ∙ is) in
    omega (arith, folded, whole, counted, counted-both is_order a.history (one.0 ∷ []))

pub orders-refused : (reason : Refusal) (a b : SeenBook) → Refuses reason a b → orders_in b ≡ orders_in a + 1
orders-refused reason a b refuses = orders-acts (commanded.Refused reason) a b refl refuses.acts

pub orders-carried : (plan : Plan) (a b : SeenBook) (e e' : LoadedEdition) → Carries plan a b e e' → orders_in b ≡ orders_in a + 1
orders-carried plan a b e e' (inl begins) = orders-acts (commanded.Graceful (shape_by plan.config)) a b refl begins.acts
orders-carried plan a b e e' (inr lacks) = orders-refused refusal.NoMemory a b lacks.refuses

pub knows-refused : (reason : Refusal) (known : Option KnownOutside) (c : NamedConfig) (s s' : StoreSeen) (a b : SeenBook) → Refuses reason a b → Renews s s'
    → KnowsComing known a c s.told → KnowsComing known b c s'.told
knows-refused reason known c s s' a b refuses renews knows =
    knows-renewed known (orders_in a) (orders_in b) c.name.now c.config.now s.told s'.told (orders-acts (commanded.Refused reason) a b refl refuses.acts)
    renews.told_is knows

pub knows-carried : (plan : Plan) (known : Option KnownOutside) (c : NamedConfig) (s s' : StoreSeen) (a b : SeenBook) (e e' : LoadedEdition) → Carries plan a b e e'
    → Renews s s' → KnowsComing known a c s.told → KnowsComing known b c s'.told
knows-carried plan known c s s' a b e e' (inl begins) renews knows =
    knows-renewed known (orders_in a) (orders_in b) c.name.now c.config.now s.told s'.told
    (orders-acts (commanded.Graceful (shape_by plan.config)) a b refl begins.acts) renews.told_is knows
knows-carried plan known c s s' a b e e' (inr lacks) renews knows = knows-refused refusal.NoMemory known c s s' a b lacks.refuses renews knows

-- connections are served by the plan's edition
pub serves-begun : (known : Option KnownOutside) (c : NamedConfig) (s s' : StoreSeen) (a b : SeenBook) (plan : Plan) (e : LoadedEdition) → Begins plan a b e
    → Renews s s' → IsPlan s'.told c.name.now c.config.now plan → KnowsComing known a c s.told → ServesNewest known b e
serves-begun None c s s' a b plan e begins renews plans knows = tt
serves-begun (Some k) c s s' a b plan e begins renews plans knows =
    subst (λ (generation : ℕ). IsOfGeneration (Some k) b generation e.limits e.site.value) (sym (ap (λ (x : State). x.newest) begins.state))
    (record {
      number = orders_in a + 1;
      found = begins.edition;
      is_of =
          serves-plan k (orders_in a) s.told s'.told c.name.now c.config.now plan e.limits e.site.value knows renews.told_is plans begins.limits begins.site;
    })

-- a restart that was refused leaves the newest generation its edition
pub serves-refused : GenerationsKeepTheirEditions → (reason : Refusal) (known : Option KnownOutside) (a b : SeenBook) (e : LoadedEdition) → Refuses reason a b
    → ServesNewest known a e → ServesNewest known b e
serves-refused law reason known a b e refuses serves =
    newest-acts law known 0 (event.Command (commanded.Refused reason) ∷ []) None a b e refuses.acts (ap (λ (x : State). x.newest) refuses.state) serves

pub serves-carried : GenerationsKeepTheirEditions → (known : Option KnownOutside) (c : NamedConfig) (s s' : StoreSeen) (a b : SeenBook) (plan : Plan)
    (e e' : LoadedEdition) → Carries plan a b e e' → Renews s s' → IsPlan s'.told c.name.now c.config.now plan → KnowsComing known a c s.told
    → ServesNewest known a e → ServesNewest known b e'
serves-carried law known c s s' a b plan e e' (inl begins) renews plans knows serves = serves-begun known c s s' a b plan e' begins renews plans knows
serves-carried law known c s s' a b plan e e' (inr lacks) renews plans knows serves =
    subst (ServesNewest known b) (sym lacks.same) (serves-refused law refusal.NoMemory known a b e lacks.refuses serves)

-- ## What stays of the state

-- the same of what a call answered that began it, or left all as it was
pub serves-either : {T : Type 0} → GenerationsKeepTheirEditions → (known : Option KnownOutside) (c : NamedConfig) (s s' : StoreSeen) (a b : SeenBook) (plan : Plan)
    (e e' : LoadedEdition) (result : Result T BoardFault) → OnOk result (Carries plan a b e e') → OnErr result ((b ≡ a) × (e' ≡ e)) → Renews s s'
    → IsPlan s'.told c.name.now c.config.now plan → KnowsComing known a c s.told → ServesNewest known a e → ServesNewest known b e'
serves-either law known c s s' a b plan e e' (Ok done) carries same renews plans knows serves = serves-carried law known c s s' a b plan e e' carries renews plans knows serves
serves-either law known c s s' a b plan e e' (Err fault) carries same renews plans knows serves =
    subst (λ (x : SeenBook). ServesNewest known x e') (sym same.0) (subst (ServesNewest known a) (sym same.1) serves)

-- ## Other spellings of the same

pub behind-as : (known : Option KnownOutside) (c : NamedConfig) (old : FrontSeen → Standing) (ms ms' : ℕ) (s : StoreSeen) (b : SeenBook) → ms' ≡ ms
    → StandsBehind known c word.Graceful old (λ f. standing ms s f b) → StandsBehind known c word.Graceful old (λ f. standing ms' s f b)
behind-as known c old ms ms' s b same stands =
    subst (λ (x : ℕ). StandsBehind known c word.Graceful old (λ f. standing x s f b)) (sym same) stands

pub breaks-as : (known : Option KnownOutside) (c : NamedConfig) (ms ms' : ℕ) (s s' : StoreSeen) (a b : SeenBook) → ms' ≡ ms → b ≡ a → Renews s s'
    → BreaksBehind known c word.Graceful (λ f. standing ms s f a) (λ f. standing ms' s' f b)
breaks-as known c ms ms' s s' a b same_ms same renews =
    subst (λ (x : ℕ). BreaksBehind known c word.Graceful (λ f. standing ms s f a) (λ f. standing x s' f b)) (sym same_ms)
    (subst (λ (x : SeenBook). BreaksBehind known c word.Graceful (λ f. standing ms s f a) (λ f. standing ms s' f x)) (sym same)
    (unordered-breaks known c ms s s' a renews))

pub cause-as : HistoriesJoin → (known : Option KnownOutside) (c : NamedConfig) (ms : ℕ) (s s' : StoreSeen) (a b : SeenBook) (why : ReloadFault) (reason : Refusal)
    → reason ≡ reason_for why → Refuses reason a b → may_begin a.state ≡ true → after a.base a.history ≡ a.state → Renews s s'
    → HasCause s'.told c.name.now c.config.now s.counts s'.counts why
    → StandsBehind known c word.Graceful (λ f. standing ms s f a) (λ f. standing ms s' f b)
cause-as joins known c ms s s' a b why reason is refuses may now renews cause =
    cause-stands joins known c ms s s' a b why (subst (λ (x : Refusal). Refuses x a b) is refuses) may now renews cause

pub knows-as : (known : Option KnownOutside) (c c' : NamedConfig) (told : Option StoreTold) (b : SeenBook) → c' ≡ c → KnowsComing known b c told
    → KnowsComing known b c' told
knows-as known c c' told b same knows = subst (λ (x : NamedConfig). KnowsComing known b x told) (sym same) knows

-- ## A graceful stop

ends-by : (o : Opening) (edition moment ms : ℕ) (s : State) → s.moment ≡ moment → HasTimeout o edition ms → EndsUntil o edition s (ending_moment moment ms)
ends-by o edition moment ms s now has = by (config_at o edition) has where
  by : (x : Option (Option Configuration)) → IfSome x (λ c. option_map (λ (d : Configuration). d.current.stop_ms) c ≡ Some ms)
      → IfSome x (λ c. option_map (ending_by s.moment) c ≡ Some (ending_moment moment ms))
  by None has = tt
  by (Some None) has = absurd (cc has)
  by (Some (Some c)) has =
      let same : c.current.stop_ms ≡ ms = cc has in
      ap (λ (m : ℕ). Some (ending_moment m c.current.stop_ms)) now ∙ ap (λ (x : ℕ). Some (ending_moment moment x)) same

-- it was recorded for a line, and listening may have been stopped since
pub ending-stands : HistoriesJoin → (known : Option KnownOutside) (c : NamedConfig) (ms : ℕ) (s : StoreSeen) (f f' f'' : FrontSeen) (a b : SeenBook)
    → Acts 0 (event.Command (commanded.GracefulStop (ending_moment a.state.moment ms)) ∷ []) None a b → is_serving a.state.going ≡ true
    → is_serving b.state.going ≡ false → after a.base a.history ≡ a.state → Commands f f' (Some (command_word word.GracefulStop)) → SameLines f' f''
    → StandsOn known c 0 0 (standing ms s f a) (standing ms s f'' b)
ending-stands joins known c ms s f f' f'' a b acts serving ends now gave same o n past opened before stood =
    let history = all_entries n a stood.folded in
    let until = ending_moment a.state.moment ms in
    let state : after (opened_by n) history ≡ a.state =
    state-behind (opened_by n) a.base a.state stood.folded.entries a.history (joins (opened_by n) stood.folded.entries a.history) stood.folded.base_is now in
    let done : EndsUntil o (newest_edition 0 0 history) (after (opened_by n) history) until =
    ends-by o (newest_edition 0 0 history) a.state.moment ms (after (opened_by n) history) (ap (λ (x : State). x.moment) state) stood.timeout in
    stands-front known o n past 0 0 ms s f' f'' b same
    (stands-ending known o n past (commanded.GracefulStop until) ms s f f' a b refl refl refl refl acts ends stood gave.commands done refl)

-- the line asks for nothing where the server takes none any more
pub ended-stands : (known : Option KnownOutside) (c : NamedConfig) (ms : ℕ) (s : StoreSeen) (f f' : FrontSeen) (a : SeenBook)
    → Commands f f' (Some (command_word word.GracefulStop)) → StandsOn known c 0 0 (standing ms s f a) (standing ms s f' a)
ended-stands known c ms s f f' a gave o n past opened before stood =
    stands-line known o n past 0 0 ms s f f' a (omega arith) stood gave.commands

-- it could not be recorded
pub unended-breaks : (known : Option KnownOutside) (c : NamedConfig) (ms : ℕ) (s : StoreSeen) (f f' : FrontSeen) (a : SeenBook)
    → Commands f f' (Some (command_word word.GracefulStop)) → StandsBroken known c (standing ms s f a) (standing ms s f' a)
unended-breaks known c ms s f f' a gave o n past opened before stood =
    stands-line known o n past 1 0 ms s f f' a (omega arith) stood gave.commands

-- ## What they bring, and when

-- a restart that was refused
pub makes-refused : (reason : Refusal) (a b : SeenBook) → Refuses reason a b → MakesOrders (word.Graceful ∷ []) a b
makes-refused reason a b refuses = brought-as _ None a b _ refuses.acts refl

-- a plan was carried out, or memory lacked
pub makes-carried : (plan : Plan) (a b : SeenBook) (e e' : LoadedEdition) → Carries plan a b e e' → MakesOrders (word.Graceful ∷ []) a b
makes-carried plan a b e e' (inl begins) = brought-as _ None a b _ begins.acts refl
makes-carried plan a b e e' (inr lacks) = makes-refused refusal.NoMemory a b lacks.refuses

-- the listener did so in its time, and stands in it then
pub record OrdersInTime (a b : SeenBook) : Type 0 where
  pub timely : StaysTimely a b
  pub in_time : StandsInTime b.state

-- a command that leaves how the server goes on
in_time-command : (c : Commanded) (a b : SeenBook) → Acts 0 (event.Command c ∷ []) None a b → b.state ≡ next a.state (event.Command c)
    → after a.base a.history ≡ a.state → (next a.state (event.Command c)).moment ≡ a.state.moment → (next a.state (event.Command c)).going ≡ a.state.going
    → StandsInTime a.state → OrdersInTime a b
in_time-command c a b acts is here moment going in_time = record {
  timely = timely-command c a b acts here (not-at_end a.state in_time.staffed);
  in_time =
      still-in_time a.state b.state (ap (λ (s : State). s.moment) is ∙ moment) (ap (λ (s : State). s.going) is ∙ going)
      (ap is_staffed is ∙ staffed-command a.state c in_time.staffed) in_time;
}

pub in_time-same : (a b : SeenBook) → b ≡ a → StandsInTime a.state → OrdersInTime a b
in_time-same a b same in_time = subst (OrdersInTime a) (sym same) (record { timely = λ before. before; in_time = in_time })

pub in_time-refused : (reason : Refusal) (a b : SeenBook) → Refuses reason a b → after a.base a.history ≡ a.state → StandsInTime a.state → OrdersInTime a b
in_time-refused reason a b refuses here in_time =
    in_time-command (commanded.Refused reason) a b refuses.acts refuses.state here refl refl in_time

pub in_time-carried : (plan : Plan) (a b : SeenBook) (e e' : LoadedEdition) → Carries plan a b e e' → after a.base a.history ≡ a.state
    → StandsInTime a.state → OrdersInTime a b
in_time-carried plan a b e e' (inl begins) here in_time =
    in_time-command (commanded.Graceful (shape_by plan.config)) a b begins.acts begins.state here refl refl in_time
in_time-carried plan a b e e' (inr lacks) here in_time = in_time-refused refusal.NoMemory a b lacks.refuses here in_time

-- a graceful stop that has just begun is out of time only where moments end
just-begun : (moment ms : ℕ) → moment ≤ greatest_moment → is_over moment (Ending (ending_moment moment ms)) ≡ true → moment ≡ greatest_moment
just-begun moment ms within over = by (ms == 0) refl
  where
    reached : (until moment : ℕ) → nat_le until moment ≡ true → until ≤ moment
    reached until moment is = grind (arith, nat_tests)

    more : (n : ℕ) → (n == 0) ≡ false → 0 < n
    more n is = grind (arith, nat_tests)

    by : (b : Bool) → (ms == 0) ≡ b → moment ≡ greatest_moment
    by true is = absurd (cc (rw is at over))
    by false is =
        let limited : nat_le (later moment ms) moment ≡ true = rw is at over in
        let until : later moment ms ≤ moment = reached (later moment ms) moment limited in
        let some : 0 < ms = more ms is in
        omega (arith, until, some, within)

pub in_time-ending : (ms : ℕ) (s : State) → s.moment ≤ greatest_moment → is_staffed s ≡ true
    → StandsInTime (next s (event.Command (commanded.GracefulStop (ending_moment s.moment ms))))
in_time-ending ms s within staffed = record {
  within = λ over. just-begun s.moment ms within over;
  staffed = staffed-command s (commanded.GracefulStop (ending_moment s.moment ms)) staffed;
}

-- the same of a call that answered so, or left all as it was
pub in_time-either : {T : Type 0} {P : Type 0} (result : Result T BoardFault) (a b : SeenBook) → OnOk result P → (P → OrdersInTime a b) → OnErr result (b ≡ a)
    → StandsInTime a.state → OrdersInTime a b
in_time-either (Ok done) a b did then same in_time = then did
in_time-either (Err fault) a b did then same in_time = in_time-same a b same in_time
