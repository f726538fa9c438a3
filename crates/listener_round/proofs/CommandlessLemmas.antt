-- Events none of which is a command: how many orders there were, and what the generations have, stays as it was.
use Rattle.std.proofs.Common.{◌≡◌, ◌≢◌, ◌+◌, ℕ, Bool, true, false, cond, List, [], ◌∷◌, ◌++◌, map, Option, refl, sym, ap, subst, ◌∙◌, eqb-true, arith}
use Rattle.std.proofs.lemmas.Grind.{flat_map-append}
use Rattle.std.proofs.lemmas.List.Sums.{sum_by-append, sum_by-cons}
use Rattle.std.specs.List.{flat_map}
use Rattle.mpm_base.specs.declared.conn.ConnName.{ConnName}
use Rattle.conn_machine.specs.declared.event.Commanded.{Commanded}
use Rattle.conn_machine.specs.declared.event.Entry.{Entry}
use Rattle.conn_machine.specs.declared.event.Event.{Event}
use Rattle.conn_machine.specs.declared.event.Event.TheVariants as event
use Rattle.conn_machine.specs.declared.folded.Folded.{Folded}
use Rattle.conn_machine.specs.declared.state.State.{State}
use Rattle.conn_machine.specs.Events.{count_events, is_order}
use Rattle.conn_machine.specs.Runs.{AreEntriesOf, may_make}
use Rattle.board_book.specs.Book.{SeenBook}
use Rattle.board_book.specs.Editions.{orders_in}
use Rattle.worker_group.specs.declared.service.Exit.{Exit}
use Rattle.worker_group.specs.declared.service.Exit.TheVariants as exit
use Rattle.worker_group.specs.Acts.{Acts}
use Rattle.worker_group.specs.Service.{left_events}
use Rattle.rounds.specs.ClosingInside.{Departure, departure_events}
use Rattle.rounds.specs.PartsInside.{Departures, departures_events, gone_events, time_events}
use Rattle.listener_round.specs.RoundInside.{Intake, intake_events}
use Rattle.rounds.proofs.AddedLemmas.{added-events, events_in}

-- ## Such events

-- the command that the event is
abbrev pub commands_in : Event → List Commanded
commands_in (event.Accept slot) = []
commands_in (event.Park name kind) = []
commands_in (event.Hold name) = []
commands_in (event.Queue name) = []
commands_in (event.Start name) = []
commands_in (event.Answer name ask) = []
commands_in (event.Linger name cause) = []
commands_in (event.Close name cause tail) = []
commands_in (event.Ready slot) = []
commands_in (event.Tick m) = []
commands_in (event.StartChild k) = []
commands_in (event.Command c) = c ∷ []
commands_in (event.Retire k) = []

-- none of the events is a command
abbrev pub AreCommandless : List Event → Type 0
AreCommandless es = flat_map commands_in es ≡ []

pub commandless-both : (es fs : List Event) → AreCommandless es → AreCommandless fs → AreCommandless (es ++ fs)
commandless-both es fs first second =
    flat_map-append commands_in es fs ∙ ap (λ (xs : List Commanded). xs ++ flat_map commands_in fs) first ∙ second

pub commandless-left : (way : Exit) (name : ConnName) → AreCommandless (left_events way name)
commandless-left (exit.Park kind) name = refl
commandless-left (exit.Linger why) name = refl
commandless-left (exit.Close why how) name = refl
commandless-left (exit.GiveUp fault) name = refl

pub commandless-gone : (gone : List Departure) → AreCommandless (gone_events gone)
commandless-gone [] = refl
commandless-gone (l ∷ gone) =
    commandless-both (departure_events l) (gone_events gone) (commandless-left l.way l.name) (commandless-gone gone)

pub commandless-departures : (l : Departures) → AreCommandless (departures_events l)
commandless-departures l =
    commandless-both (gone_events l.retiring ++ gone_events l.cut) (gone_events l.drained)
    (commandless-both (gone_events l.retiring) (gone_events l.cut) (commandless-gone l.retiring) (commandless-gone l.cut)) (commandless-gone l.drained)

pub commandless-takes : (takes : List Intake) → AreCommandless (flat_map intake_events takes)
commandless-takes [] = refl
commandless-takes (t ∷ takes) =
    commandless-both (intake_events t) (flat_map intake_events takes) (commandless-left t.way t.name) (commandless-takes takes)

pub commandless-ticks : (ms : List ℕ) → AreCommandless (map event.Tick ms)
commandless-ticks [] = refl
commandless-ticks (m ∷ ms) = commandless-ticks ms

pub commandless-readies : (slots : List ℕ) → AreCommandless (map event.Ready slots)
commandless-readies [] = refl
commandless-readies (slot ∷ slots) = commandless-readies slots

pub commandless-starts : (children : List ℕ) → AreCommandless (map event.StartChild children)
commandless-starts [] = refl
commandless-starts (k ∷ children) = commandless-starts children

pub commandless-retires : (children : List ℕ) → AreCommandless (map event.Retire children)
commandless-retires [] = refl
commandless-retires (k ∷ children) = commandless-retires children

pub commandless-time : (early : List Departure) (ticks : List ℕ) (late : List Departure) → AreCommandless (time_events early ticks late)
commandless-time early ticks late =
    commandless-both (gone_events early ++ map event.Tick ticks) (gone_events late)
    (commandless-both (gone_events early) (map event.Tick ticks) (commandless-gone early) (commandless-ticks ticks)) (commandless-gone late)

-- ## Entries of a pass

-- what a pass added has no command where its events have none
pub commandless-added : (who : ℕ) (es : List Event) (has : Option ConnName) (a b : SeenBook) (acts : Acts who es has a b) → AreCommandless es
    → AreCommandless (events_in acts.entries.0)
commandless-added who es has a b acts none = subst AreCommandless (sym (added-events who es has a b acts)) none

serves-commandless : (p : ℕ) (had : Option ConnName) (e : Event) → p ≢ 0 → may_make p had e ≡ true → commands_in e ≡ []
serves-commandless p had (event.Accept slot) other may = refl
serves-commandless p had (event.Park name kind) other may = refl
serves-commandless p had (event.Hold name) other may = refl
serves-commandless p had (event.Queue name) other may = refl
serves-commandless p had (event.Start name) other may = refl
serves-commandless p had (event.Answer name ask) other may = refl
serves-commandless p had (event.Linger name cause) other may = refl
serves-commandless p had (event.Close name cause tail) other may = refl
serves-commandless p had (event.Ready slot) other may = refl
serves-commandless p had (event.Tick m) other may = refl
serves-commandless p had (event.StartChild k) other may = refl
serves-commandless p had (event.Command c) other may = absurd (other (eqb-true p 0 may))
serves-commandless p had (event.Retire k) other may = refl

served-added : (p : ℕ) (base : State) (f : Folded) (before added : List Entry) → p ≢ 0 → AreEntriesOf p base f before added → AreCommandless (events_in added)
served-added p base f before [] other are = refl
served-added p base f before (e ∷ added) other are =
    ap (λ (xs : List Commanded). xs ++ flat_map commands_in (events_in added)) (serves-commandless p _ e.event other are.0.role)
    ∙ served-added p base f (before ++ e ∷ []) added other are.1

-- another pass than the listener makes no command
pub commandless-served : (who : ℕ) (es : List Event) (has : Option ConnName) (a b : SeenBook) → who ≢ 0 → (acts : Acts who es has a b)
    → AreCommandless (events_in acts.entries.0)
commandless-served who es has a b other acts = served-added who a.base a.folded a.history acts.entries.0 other acts.entries.2

-- ## Orders

unordered-event : (e : Event) (rest : List Commanded) → commands_in e ++ rest ≡ [] → (is_order e ≡ false) × (rest ≡ [])
unordered-event (event.Accept slot) rest none = (refl, none)
unordered-event (event.Park name kind) rest none = (refl, none)
unordered-event (event.Hold name) rest none = (refl, none)
unordered-event (event.Queue name) rest none = (refl, none)
unordered-event (event.Start name) rest none = (refl, none)
unordered-event (event.Answer name ask) rest none = (refl, none)
unordered-event (event.Linger name cause) rest none = (refl, none)
unordered-event (event.Close name cause tail) rest none = (refl, none)
unordered-event (event.Ready slot) rest none = (refl, none)
unordered-event (event.Tick m) rest none = (refl, none)
unordered-event (event.StartChild k) rest none = (refl, none)
unordered-event (event.Command c) rest none = absurd (cc none)
unordered-event (event.Retire k) rest none = (refl, none)

counted-none : (passes : Bool) (many : ℕ) → passes ≡ false → many ≡ 0 → cond passes 1 0 + many ≡ 0
counted-none true many fails none = absurd (cc fails)
counted-none false many fails none = omega (arith, none)

-- entries without a command have no order
pub unordered : (entries : List Entry) → AreCommandless (events_in entries) → count_events is_order entries ≡ 0
unordered [] none = refl
unordered (e ∷ entries) none =
    let parts = unordered-event e.event (flat_map commands_in (events_in entries)) none in
    sum_by-cons (λ (x : Entry). cond (is_order x.event) 1 0) e entries
    ∙ counted-none (is_order e.event) (count_events is_order entries) parts.0 (unordered entries parts.1)

pub orders-added : (orders : ℕ) (old more new : List Entry) → new ≡ old ++ more → count_events is_order more ≡ 0
    → orders + count_events is_order new ≡ orders + count_events is_order old
orders-added orders old more new is none =
    let both : count_events is_order (old ++ more) ≡ count_events is_order old + count_events is_order more =
    sum_by-append (λ (x : Entry). cond (is_order x.event) 1 0) old more in
    ap (λ (es : List Entry). orders + count_events is_order es) is ∙ omega (arith, both, none)

-- so there were as many orders
pub orders-kept : (who : ℕ) (es : List Event) (has : Option ConnName) (a b : SeenBook) → Acts who es has a b → AreCommandless es
    → orders_in b ≡ orders_in a
orders-kept who es has a b acts none =
    ap (λ (f : Folded). f.orders + count_events is_order b.history) acts.folded
    ∙ orders-added a.folded.orders a.history acts.entries.0 b.history acts.entries.1
    (unordered acts.entries.0 (commandless-added who es has a b acts none))
