-- What the events of the listener tick.
use Rattle.std.proofs.Common.{◌≡◌, ℕ, List, [], ◌∷◌, ◌++◌, map, Option, None, Some, Result, Ok, Err, refl, ap, ◌∙◌, append-nil, append_assoc}
use Rattle.std.proofs.lemmas.Grind.{flat_map-append}
use Rattle.std.specs.List.{flat_map}
use Rattle.mpm_base.specs.declared.conn.Cause.{Cause}
use Rattle.mpm_base.specs.declared.conn.ConnName.{ConnName}
use Rattle.conn_machine.specs.declared.event.Commanded.{Commanded}
use Rattle.conn_machine.specs.declared.event.Event.{Event}
use Rattle.conn_machine.specs.declared.event.Event.TheVariants as event
use Rattle.conn_machine.specs.declared.event.Why.{Why}
use Rattle.board_book.specs.declared.faults.BoardFault.{BoardFault}
use Rattle.worker_group.specs.declared.service.Exit.{Exit}
use Rattle.worker_group.specs.declared.service.Exit.TheVariants as exit
use Rattle.worker_group.specs.Service.{left_events}
use Rattle.rounds.specs.declared.ends.End.{End}
use Rattle.rounds.specs.EndsInside.{why_of}
use Rattle.rounds.specs.ClosingInside.{Departure, departure_events, lingering_give_up_events}
use Rattle.rounds.specs.PartsInside.{Departures, gone_events, departures_events, halt_events, halts_for, time_events}
use Rattle.listener_round.specs.RoundInside.{Round, Intake, round_events, intake_events}

-- ## Ticks

-- the moment of a tick
abbrev pub ticks_in : Event → List ℕ
ticks_in (event.Accept slot) = []
ticks_in (event.Park name kind) = []
ticks_in (event.Hold name) = []
ticks_in (event.Queue name) = []
ticks_in (event.Start name) = []
ticks_in (event.Answer name ask) = []
ticks_in (event.Linger name cause) = []
ticks_in (event.Close name cause tail) = []
ticks_in (event.Ready slot) = []
ticks_in (event.Tick m) = m ∷ []
ticks_in (event.StartChild k) = []
ticks_in (event.Command c) = []
ticks_in (event.Retire k) = []

-- ## Lists of events

-- what is found in the events of one list behind another
pub in-both : (find : Event → List ℕ) (es fs : List Event) (xs ys : List ℕ) → flat_map find es ≡ xs → flat_map find fs ≡ ys
    → flat_map find (es ++ fs) ≡ xs ++ ys
in-both find es fs xs ys first second =
    flat_map-append find es fs ∙ ap (λ (zs : List ℕ). zs ++ flat_map find fs) first ∙ ap (λ (zs : List ℕ). xs ++ zs) second

-- events that don't tick
pub record AreSilent (es : List Event) : Type 0 where
  pub ticks : flat_map ticks_in es ≡ []

silent-both : (es fs : List Event) → AreSilent es → AreSilent fs → AreSilent (es ++ fs)
silent-both es fs first second = record {
  ticks = in-both ticks_in es fs [] [] first.ticks second.ticks;
}

pub silent-none : AreSilent []
silent-none = record { ticks = refl }

pub silent-starts : (children : List ℕ) → AreSilent (map event.StartChild children)
silent-starts [] = silent-none
silent-starts (k ∷ children) = record { ticks = (silent-starts children).ticks }

pub silent-retires : (children : List ℕ) → AreSilent (map event.Retire children)
silent-retires [] = silent-none
silent-retires (k ∷ children) = record { ticks = (silent-retires children).ticks }

pub silent-orders : (orders : List Commanded) → AreSilent (map event.Command orders)
silent-orders [] = silent-none
silent-orders (c ∷ orders) = record { ticks = (silent-orders orders).ticks }

silent-halting : (o : Option Why) → AreSilent (halts_for o)
silent-halting None = silent-none
silent-halting (Some why) = record { ticks = refl }

pub silent-halts : (turns : Result End BoardFault) → AreSilent (halt_events turns)
silent-halts (Ok end) = silent-halting (why_of end)
silent-halts (Err fault) = record { ticks = refl }

silent-left : (way : Exit) (name : ConnName) → AreSilent (left_events way name)
silent-left (exit.Park kind) name = record { ticks = refl }
silent-left (exit.Linger why) name = record { ticks = refl }
silent-left (exit.Close why how) name = record { ticks = refl }
silent-left (exit.GiveUp fault) name = record { ticks = refl }

silent-letting : (l : Departure) → AreSilent (departure_events l)
silent-letting l = record { ticks = (silent-left l.way l.name).ticks }

pub silent-gone : (gone : List Departure) → AreSilent (gone_events gone)
silent-gone [] = silent-none
silent-gone (l ∷ gone) = silent-both (departure_events l) (gone_events gone) (silent-letting l) (silent-gone gone)

pub silent-held : (fault : BoardFault) (ending : Cause) (name : ConnName) → AreSilent (event.Hold name ∷ lingering_give_up_events fault ending name)
silent-held fault ending name = record { ticks = refl }

silent-lettings : (l : Departures) → AreSilent (departures_events l)
silent-lettings l =
    silent-both (gone_events l.retiring ++ gone_events l.cut) (gone_events l.drained)
    (silent-both (gone_events l.retiring) (gone_events l.cut) (silent-gone l.retiring) (silent-gone l.cut)) (silent-gone l.drained)

pub silent-taken : (t : Intake) → AreSilent (intake_events t)
silent-taken t = record { ticks = (silent-left t.way t.name).ticks }

silent-takes : (takes : List Intake) → AreSilent (flat_map intake_events takes)
silent-takes [] = silent-none
silent-takes (t ∷ takes) = silent-both (intake_events t) (flat_map intake_events takes) (silent-taken t) (silent-takes takes)

-- ## Ticks and signals

ticks-of_ticks : (ms : List ℕ) → flat_map ticks_in (map event.Tick ms) ≡ ms
ticks-of_ticks [] = refl
ticks-of_ticks (m ∷ ms) = ap (λ (xs : List ℕ). m ∷ xs) (ticks-of_ticks ms)

ticks-of_signals : (slots : List ℕ) → flat_map ticks_in (map event.Ready slots) ≡ []
ticks-of_signals [] = refl
ticks-of_signals (slot ∷ slots) = ticks-of_signals slots

-- ## A round

-- what is found in events with others behind them in which nothing is
in-first : (find : Event → List ℕ) (es fs : List Event) (xs : List ℕ) → flat_map find es ≡ xs → flat_map find fs ≡ []
    → flat_map find (es ++ fs) ≡ xs
in-first find es fs xs first none = in-both find es fs xs [] first none ∙ append-nil xs

-- what a round did behind its signals doesn't tick
abbrev rest_of : Round → List Event
rest_of r =
    departures_events r.departures ++ map event.Command r.orders ++ map event.Retire r.retired ++ map event.StartChild r.starts
    ++ flat_map intake_events r.takes

silent-rest : (r : Round) → AreSilent (rest_of r)
silent-rest r =
    let lets = departures_events r.departures in
    let orders = map event.Command r.orders in
    let retired = map event.Retire r.retired in
    let ordered = silent-both lets orders (silent-lettings r.departures) (silent-orders r.orders) in
    let gone = silent-both (lets ++ orders) retired ordered (silent-retires r.retired) in
    let started = silent-both (lets ++ orders ++ retired) (map event.StartChild r.starts) gone (silent-starts r.starts) in
    silent-both (lets ++ orders ++ retired ++ map event.StartChild r.starts) (flat_map intake_events r.takes) started (silent-takes r.takes)

-- it stands behind them
rest-behind : (r : Round) → round_events r ≡ (time_events r.early r.ticks r.late ++ map event.Ready r.signals) ++ rest_of r
rest-behind r =
    let front = time_events r.early r.ticks r.late ++ map event.Ready r.signals in
    let lets = departures_events r.departures in
    let orders = map event.Command r.orders in
    let retired = map event.Retire r.retired in
    let started = map event.StartChild r.starts in
    let taken = flat_map intake_events r.takes in
    ap (λ (es : List Event). es ++ taken)
    (ap (λ (es : List Event). es ++ started)
    (ap (λ (es : List Event). es ++ retired) (append_assoc front lets orders) ∙ append_assoc front (lets ++ orders) retired)
    ∙ append_assoc front (lets ++ orders ++ retired) started)
    ∙ append_assoc front (lets ++ orders ++ retired ++ started) taken

-- the ticks of a round are those to which time passed in it
pub ticks-round : (r : Round) → flat_map ticks_in (round_events r) ≡ r.ticks
ticks-round r =
    let early = in-both ticks_in (gone_events r.early) (map event.Tick r.ticks) [] r.ticks (silent-gone r.early).ticks (ticks-of_ticks r.ticks) in
    let time = in-first ticks_in (gone_events r.early ++ map event.Tick r.ticks) (gone_events r.late) r.ticks early (silent-gone r.late).ticks in
    let signals = in-first ticks_in (time_events r.early r.ticks r.late) (map event.Ready r.signals) r.ticks time (ticks-of_signals r.signals) in
    ap (flat_map ticks_in) (rest-behind r)
    ∙ in-first ticks_in (time_events r.early r.ticks r.late ++ map event.Ready r.signals) (rest_of r) r.ticks signals (silent-rest r).ticks
