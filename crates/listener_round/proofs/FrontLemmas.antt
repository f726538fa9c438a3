-- What a link that is taken leaves of a front, and whether the table is in step with it.
use Rattle.std.proofs.Common.{◌≡◌, ◌⊎◌, inl, inr, ℕ, Bool, not, List, Option, None, Some, option_map, IfSome, refl, sym, ap, subst, ◌∙◌, arith}
use Rattle.mpm_base.specs.Count.{next_count}
use Rattle.mpm_base.specs.Front.{FrontTold, FrontSeen, TellsOn, IsHandedOut, Accepts, after_accept, after_turning_away, after_watch}
use Rattle.mpm_base.specs.declared.conn.ConnName.{ConnName}
use Rattle.mpm_base.specs.Link.{LinkTold, LinkSeen}
use Rattle.mpm_base.specs.declared.front.Arrival.{Arrival}
use Rattle.mpm_base.specs.declared.front.Arrival.TheVariants as arrival
use Rattle.mpm_base.specs.declared.given_words.GivenWords.{GivenWords}
use Rattle.conn_machine.specs.declared.state.Going.{Going}
use Rattle.conn_machine.specs.declared.state.State.{State}
use Rattle.conn_machine.specs.States.{is_serving}
use Rattle.conn_state.specs.Conn.{IsFresh}
use Rattle.conn_state.specs.Known.{IsOfClient, KnownOutside, TellsFrom}
use Rattle.listener_round.specs.FrontInside.{Follows, IsArrival, IsInStep, IsKnownOfFront, KeepsStep, ListensAsServed, OnlyReads, OnlyReadsAndTakes, OnlyTakes, TellsAlike}
use Rattle.listener_round.specs.Clients.{clients_told, comings_told}

-- ## The front is still the one that it was

pub follows-trans : (a b c : FrontSeen) → Follows a b → Follows b c → Follows a c
follows-trans a b c first second = record {
  script = second.script ∙ first.script;
  clients = second.clients ∙ first.clients;
  comings = second.comings ∙ first.comings;
  faults = omega (arith, first.faults, second.faults);
  ends = omega (arith, first.ends, second.ends);
  commands = omega (arith, first.commands, second.commands);
  stops = omega (arith, first.stops, second.stops);
}

pub follows-same : (a : FrontSeen) → Follows a a
follows-same a =
    record { script = refl; clients = refl; comings = refl; faults = omega arith; ends = omega arith; commands = omega arith; stops = omega arith }

-- a part that a change keeps
pub mapped-part : {X : Type 0} (part : FrontTold → X) (change : FrontTold → FrontTold) (told told' : Option FrontTold)
    → ((t : FrontTold) → part (change t) ≡ part t) → told' ≡ option_map change told → option_map part told' ≡ option_map part told
mapped-part part change None told' keeps is = ap (option_map part) is
mapped-part part change (Some t) told' keeps is = ap (option_map part) is ∙ ap (λ (x : _). Some x) (keeps t)

-- its clients stay in a change that keeps them
pub clients-mapped : (told told' : Option FrontTold) (change : FrontTold → FrontTold) → ((t : FrontTold) → (change t).clients ≡ t.clients)
    → told' ≡ option_map change told → clients_told told' ≡ clients_told told
clients-mapped told told' change keeps is = mapped-part (λ (t : FrontTold). t.clients) change told told' keeps is

-- so does when something comes by itself
pub comings-mapped : (told told' : Option FrontTold) (change : FrontTold → FrontTold) → ((t : FrontTold) → (change t).comings ≡ t.comings)
    → told' ≡ option_map change told → comings_told told' ≡ comings_told told
comings-mapped told told' change keeps is = mapped-part (λ (t : FrontTold). t.comings) change told told' keeps is

after_accept-clients : {L : Type 0} (answer : Arrival L) (t : FrontTold) → (after_accept answer t).clients ≡ t.clients
after_accept-clients (arrival.Some link) t = refl
after_accept-clients arrival.None t = refl
after_accept-clients arrival.Failed t = refl

after_accept-comings : {L : Type 0} (answer : Arrival L) (t : FrontTold) → (after_accept answer t).comings ≡ t.comings
after_accept-comings (arrival.Some link) t = refl
after_accept-comings arrival.None t = refl
after_accept-comings arrival.Failed t = refl

-- after an accept
pub follows-accept : {L : Type 0} (link_seen : L → LinkSeen) (old new : FrontSeen) (answer : Arrival L) → Accepts link_seen old new answer → Follows old new
follows-accept link_seen old new answer accepts = record {
  script = accepts.script;
  clients = clients-mapped old.told new.told (after_accept answer) (after_accept-clients answer) accepts.told_is;
  comings = comings-mapped old.told new.told (after_accept answer) (after_accept-comings answer) accepts.told_is;
  faults = omega (arith, accepts.faults);
  ends = omega (arith, accepts.ends);
  commands = omega (arith, accepts.commands);
  stops = omega (arith, ap (λ (w : GivenWords). w.stop) accepts.words);
}

-- ## Links that are taken

only-trans : (a b c : FrontTold) → OnlyTakes a b → OnlyTakes b c → OnlyTakes a c
only-trans a b c first second = record {
  rest = second.rest ∙ ap (λ (x : FrontTold). record x { accepted = c.accepted; watches = c.watches; turned_away = c.turned_away; failed = c.failed }) first.rest;
}

-- nothing happened
pub takes-same : (told : Option FrontTold) → TellsOn OnlyTakes told told
takes-same None = refl
takes-same (Some t) = (t, refl, record { rest = refl })

pub takes-trans : (a b c : Option FrontTold) → TellsOn OnlyTakes a b → TellsOn OnlyTakes b c → TellsOn OnlyTakes a c
takes-trans None b c first second = subst (λ (o : Option FrontTold). TellsOn OnlyTakes o c) first second
takes-trans (Some t) b c first second =
    let later = subst (λ (o : Option FrontTold). TellsOn OnlyTakes o c) first.1 second in
    (later.0, later.1, only-trans t first.0 later.0 first.2 later.2)

takes-mapped : (told told' : Option FrontTold) (change : FrontTold → FrontTold) → ((t : FrontTold) → OnlyTakes t (change t)) → told' ≡ option_map change told
    → TellsOn OnlyTakes told told'
takes-mapped None told' change only is = is
takes-mapped (Some t) told' change only is = (change t, is, only t)

after_accept-only : {L : Type 0} (answer : Arrival L) (t : FrontTold) → OnlyTakes t (after_accept answer t)
after_accept-only (arrival.Some link) t = record { rest = refl }
after_accept-only arrival.None t = record { rest = refl }
after_accept-only arrival.Failed t = record { rest = refl }

-- an accept was made
pub takes-accept : {L : Type 0} (answer : Arrival L) (told told' : Option FrontTold) → told' ≡ option_map (after_accept answer) told
    → TellsOn OnlyTakes told told'
takes-accept answer told told' is = takes-mapped told told' (after_accept answer) (after_accept-only answer) is

after_watch-only : (name : ConnName) (answer : Bool) (link : Option LinkTold) (t : FrontTold) → OnlyTakes t (after_watch name answer link t)
after_watch-only name answer None t = record { rest = refl }
after_watch-only name answer (Some l) t = record { rest = refl }

-- a link was watched
pub takes-watch : (name : ConnName) (answer : Bool) (link : Option LinkTold) (told told' : Option FrontTold)
    → told' ≡ option_map (after_watch name answer link) told → TellsOn OnlyTakes told told'
takes-watch name answer link told told' is = takes-mapped told told' (after_watch name answer link) (after_watch-only name answer link) is

after_turning_away-only : (link : Option LinkTold) (t : FrontTold) → OnlyTakes t (after_turning_away link t)
after_turning_away-only None t = record { rest = refl }
after_turning_away-only (Some l) t = record { rest = refl }

-- a link was turned away
pub takes-turned : (link : Option LinkTold) (told told' : Option FrontTold) → told' ≡ option_map (after_turning_away link) told
    → TellsOn OnlyTakes told told'
takes-turned link told told' is = takes-mapped told told' (after_turning_away link) (after_turning_away-only link) is

-- it is one way of reading and taking
takes-also : (t t' : FrontTold) → OnlyTakes t t' → OnlyReadsAndTakes t t'
takes-also t t' only = record {
  rest =
      only.rest
      ∙ ap (λ (x : FrontTold). record t { accepted = t'.accepted; watches = t'.watches; turned_away = t'.turned_away; read = x.read; answers = x.answers; hushed = x.hushed; failed = t'.failed })
      (sym only.rest);
}

reads-also : (t t' : FrontTold) → OnlyReads t t' → OnlyReadsAndTakes t t'
reads-also t t' only = record {
  rest =
      only.rest
      ∙ ap (λ (x : FrontTold). record t { accepted = x.accepted; watches = x.watches; turned_away = x.turned_away; read = t'.read; answers = t'.answers; hushed = t'.hushed; failed = x.failed })
      (sym only.rest);
}

reads-takes : (a b c : FrontTold) → OnlyReads a b → OnlyTakes b c → OnlyReadsAndTakes a c
reads-takes a b c first second = record {
  rest =
      second.rest
      ∙ ap (λ (x : FrontTold). record x { accepted = c.accepted; watches = c.watches; turned_away = c.turned_away; failed = c.failed }) first.rest
      ∙ ap (λ (x : FrontTold). record a { accepted = c.accepted; watches = c.watches; turned_away = c.turned_away; read = x.read; answers = x.answers; hushed = x.hushed; failed = c.failed })
      (sym second.rest);
}

tells-weaker : (P Q : FrontTold → FrontTold → Type 0) → ((t t' : FrontTold) → P t t' → Q t t') → (told told' : Option FrontTold) → TellsOn P told told'
    → TellsOn Q told told'
tells-weaker P Q weaker None told' tells = tells
tells-weaker P Q weaker (Some t) told' tells = (tells.0, tells.1, weaker t tells.0 tells.2)

-- links were taken
pub only-takes : (told told' : Option FrontTold) → TellsOn OnlyTakes told told' → TellsOn OnlyReadsAndTakes told told'
only-takes told told' takes = tells-weaker OnlyTakes OnlyReadsAndTakes takes-also told told' takes

-- command lines were read
pub only-reads : (told told' : Option FrontTold) → TellsOn OnlyReads told told' → TellsOn OnlyReadsAndTakes told told'
only-reads told told' reads = tells-weaker OnlyReads OnlyReadsAndTakes reads-also told told' reads

-- command lines were read, and then links taken
pub both-only : (a b c : Option FrontTold) → TellsOn OnlyReads a b → TellsOn OnlyTakes b c → TellsOn OnlyReadsAndTakes a c
both-only None b c reads takes = only-takes None c (subst (λ (o : Option FrontTold). TellsOn OnlyTakes o c) reads takes)
both-only (Some t) b c reads takes =
    let later = subst (λ (o : Option FrontTold). TellsOn OnlyTakes o c) reads.1 takes in
    (later.0, later.1, reads-takes t reads.0 later.0 reads.2 later.2)

-- ## The table is in step with the front

-- a front listens as it did where the server goes on as it did
listens-on : (t t' : FrontTold) (s s' : State) → t'.hushed ≡ t.hushed → s'.going ≡ s.going → ListensAsServed s t → ListensAsServed s' t'
listens-on t t' s s' hushed going listens = hushed ∙ listens ∙ ap (λ (g : Going). not (is_serving g)) (sym going)

-- where it took no connection, and the server goes on as it did
pub step-kept : (told : Option FrontTold) (s s' : State) → s'.accepted ≡ s.accepted → s'.going ≡ s.going → IsInStep told s → IsInStep told s'
step-kept None s s' same going step = tt
step-kept (Some t) s s' same going step = record {
  listens = listens-on t t s s' refl going step.listens;
  taken = record { accepted = step.taken.accepted ∙ sym same; none = step.taken.none };
}

-- then the front listens as the server goes on
pub step-listens : (told : Option FrontTold) (s : State) → IsInStep told s → IfSome told (ListensAsServed s)
step-listens None s step = tt
step-listens (Some t) s step = step.listens

-- and so it does behind links that were taken
pub listens-takes : (told told' : Option FrontTold) (s s' : State) → TellsOn OnlyTakes told told' → s'.going ≡ s.going → IfSome told (ListensAsServed s)
    → IfSome told' (ListensAsServed s')
listens-takes None told' s s' takes going listens = subst (λ (o : Option FrontTold). IfSome o (ListensAsServed s')) (sym takes) tt
listens-takes (Some t) told' s s' takes going listens =
    subst (λ (o : Option FrontTold). IfSome o (ListensAsServed s')) (sym takes.1)
    (listens-on t takes.0 s s' (ap (λ (x : FrontTold). x.hushed) takes.2.rest) going listens)

-- after an accept that handed a link out, whose connection the table took
pub step-taken : {L : Type 0} (link : L) (told told' : Option FrontTold) (s s' : State) → told' ≡ option_map (after_accept (arrival.Some link)) told
    → s'.accepted ≡ next_count s.accepted → s'.going ≡ s.going → IsInStep told s → IsInStep told' s'
step-taken link None told' s s' is taken going step = subst (λ (o : Option FrontTold). IsInStep o s') (sym is) tt
step-taken link (Some t) told' s s' is taken going step =
    subst (λ (o : Option FrontTold). IsInStep o s') (sym is)
    (record { listens = listens-on t (after_accept (arrival.Some link) t) s s' refl going step.listens; taken = record { accepted = ap next_count step.taken.accepted ∙ sym taken; none = step.taken.none } })

-- after one that handed none out
step-unhanded : {L : Type 0} (answer : Arrival L) (t : FrontTold) (s : State) → (answer ≡ arrival.None) ⊎ (answer ≡ arrival.Failed) → KeepsStep s t
    → KeepsStep s (after_accept answer t)
step-unhanded (arrival.Some link) t s (inl none) step = absurd (cc none)
step-unhanded (arrival.Some link) t s (inr failed) step = absurd (cc failed)
step-unhanded arrival.None t s none step = step
step-unhanded arrival.Failed t s none step = record { listens = step.listens; taken = record { accepted = step.taken.accepted; none = step.taken.none } }

pub step-none : {L : Type 0} (told told' : Option FrontTold) (answer : Arrival L) (s : State) → (answer ≡ arrival.None) ⊎ (answer ≡ arrival.Failed)
    → told' ≡ option_map (after_accept answer) told → IsInStep told s → IsInStep told' s
step-none None told' answer s none is step = subst (λ (o : Option FrontTold). IsInStep o s) (sym is) tt
step-none (Some t) told' answer s none is step = subst (λ (o : Option FrontTold). IsInStep o s) (sym is) (step-unhanded answer t s none step)

-- ## The link that is handed out

-- its number is how many connections the table took
pub arrives-next : (told : Option FrontTold) (link : Option LinkTold) (s : State) → IsHandedOut told link → IsInStep told s → IsArrival s.accepted link
arrives-next told None s handed step = tt
arrives-next told (Some l) s handed step =
    let next = handed.2 in
    let step_there : KeepsStep s handed.0 = subst (λ (o : Option FrontTold). IsInStep o s) handed.1 step in
    record {
      fresh = subst IsFresh (sym next.fresh) refl;
      rank = ap (λ (t : LinkTold). t.rank) next.fresh ∙ step_there.taken.accepted;
    }

-- it tells from one of the clients
tells-known : (clients : List (List ℕ)) (told : Option FrontTold) (l : LinkTold) → clients_told told ≡ Some clients → IsHandedOut told (Some l)
    → TellsFrom clients (Some l)
tells-known clients told l are handed =
    let at = handed.1 in
    let next = handed.2 in
    let there : Some handed.0.clients ≡ Some clients = ap clients_told (sym at) ∙ are in
    let clients_are : handed.0.clients ≡ clients = cc there in
    subst (λ (cs : List (List ℕ)). TellsFrom cs (Some l)) clients_are
    (subst (λ (x : LinkTold). TellsFrom handed.0.clients (Some x)) (sym next.fresh)
    (record { t = _; told_is = refl; known = next.known; offered = refl }))

known-clients : (clients : Option (List (List ℕ))) (told : Option FrontTold) (link : Option LinkTold) → clients ≡ clients_told told → IsHandedOut told link
    → IfSome clients (λ all. TellsFrom all link)
known-clients None told link named handed = tt
known-clients (Some clients) told None named handed =
    let none = handed in
    let untold : clients_told told ≡ None = ap clients_told none in
    absurd (cc (named, untold))
known-clients (Some clients) told (Some l) named handed = tells-known clients told l (sym named) handed

-- so it is of a known client
pub handed-known : (known : Option KnownOutside) (told : Option FrontTold) (link : Option LinkTold) → IsKnownOfFront known told → IsHandedOut told link
    → IsOfClient known link
handed-known None told link named handed = tt
handed-known (Some k) told link named handed = known-clients k.clients told link named handed

-- what is known stays so while the front is the one that it was
pub named-follows : (known : Option KnownOutside) (old new : FrontSeen) → Follows old new → IsKnownOfFront known old.told → IsKnownOfFront known new.told
named-follows known old new follows named = named ∙ sym follows.clients

-- it tells where the front does
pub handed-tells : (told : Option FrontTold) (link : Option LinkTold) → IsHandedOut told link → TellsAlike told link
handed-tells None link handed = tt
handed-tells (Some t) None handed = let none = handed in absurd (cc none)
handed-tells (Some t) (Some l) handed = (l, refl)

-- so it does behind a change of the front
pub alike-mapped : (change : FrontTold → FrontTold) (told told' : Option FrontTold) (link : Option LinkTold) → told' ≡ option_map change told
    → TellsAlike told link → TellsAlike told' link
alike-mapped change None told' link is alike = subst (λ (o : Option FrontTold). TellsAlike o link) (sym is) tt
alike-mapped change (Some t) told' link is alike = subst (λ (o : Option FrontTold). TellsAlike o link) (sym is) alike
