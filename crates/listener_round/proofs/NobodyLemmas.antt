-- What takes no connection leaves the names of the connections that were taken as they are.
use Rattle.std.proofs.Common.{◌≡◌, ℕ, List, [], ◌∷◌, ◌++◌, length, map, Option, None, Some, refl, sym, ap, subst, ◌∙◌, append-nil, append_assoc}
use Rattle.std.proofs.lemmas.Grind.{flat_map-append}
use Rattle.std.specs.List.{flat_map}
use Rattle.mpm_base.specs.declared.conn.Cause.{Cause}
use Rattle.mpm_base.specs.declared.conn.ConnName.{ConnName}
use Rattle.conn_machine.specs.declared.event.Commanded.{Commanded}
use Rattle.conn_machine.specs.declared.event.Entry.{Entry}
use Rattle.conn_machine.specs.declared.event.Event.{Event}
use Rattle.conn_machine.specs.declared.event.Event.TheVariants as event
use Rattle.conn_machine.specs.declared.event.Reply.{Reply}
use Rattle.board_book.specs.declared.faults.BoardFault.{BoardFault}
use Rattle.board_book.specs.Book.{SeenBook}
use Rattle.worker_group.specs.declared.service.Exit.{Exit}
use Rattle.worker_group.specs.declared.service.Exit.TheVariants as exit
use Rattle.worker_group.specs.Acts.{Acts}
use Rattle.worker_group.specs.Service.{left_events}
use Rattle.rounds.specs.ClosingInside.{LetsGo, Departure, departure_events, lingering_give_up_events}
use Rattle.listener_round.specs.RoundInside.{DoesOrders}
use Rattle.rounds.specs.PartsInside.{LetsGoOfConns, LetsGoUntil, Departures, PassesTime, RetiresSome, StartsSome, gone_events, departures_events, signal_events}
use Rattle.board_book.specs.Moments.{known_slots, ticks_to}
use Rattle.listener_round.specs.Watched.{accepted_names, names_given}
use Rattle.rounds.proofs.AddedLemmas.{added-events, events_in}

-- ## Events that take no connection

-- the slot of an accept
abbrev pub accepts_in : Event → List ℕ
accepts_in (event.Accept slot) = slot ∷ []
accepts_in (event.Park name kind) = []
accepts_in (event.Hold name) = []
accepts_in (event.Queue name) = []
accepts_in (event.Start name) = []
accepts_in (event.Answer name ask) = []
accepts_in (event.Linger name cause) = []
accepts_in (event.Close name cause tail) = []
accepts_in (event.Ready slot) = []
accepts_in (event.Tick m) = []
accepts_in (event.StartChild k) = []
accepts_in (event.Command c) = []
accepts_in (event.Retire k) = []

-- none of the events takes a connection
abbrev pub TakesNone : List Event → Type 0
TakesNone es = flat_map accepts_in es ≡ []

pub none-both : (es fs : List Event) → TakesNone es → TakesNone fs → TakesNone (es ++ fs)
none-both es fs first second =
    flat_map-append accepts_in es fs ∙ ap (λ (xs : List ℕ). xs ++ flat_map accepts_in fs) first ∙ second

pub none-starts : (children : List ℕ) → TakesNone (map event.StartChild children)
none-starts [] = refl
none-starts (k ∷ children) = none-starts children

pub none-retires : (children : List ℕ) → TakesNone (map event.Retire children)
none-retires [] = refl
none-retires (k ∷ children) = none-retires children

pub none-orders : (orders : List Commanded) → TakesNone (map event.Command orders)
none-orders [] = refl
none-orders (c ∷ orders) = none-orders orders

pub none-ticks : (ms : List ℕ) → TakesNone (map event.Tick ms)
none-ticks [] = refl
none-ticks (m ∷ ms) = none-ticks ms

pub none-signals : (slots : List ℕ) → TakesNone (map event.Ready slots)
none-signals [] = refl
none-signals (slot ∷ slots) = none-signals slots

pub none-left : (way : Exit) (name : ConnName) → TakesNone (left_events way name)
none-left (exit.Park kind) name = refl
none-left (exit.Linger why) name = refl
none-left (exit.Close why how) name = refl
none-left (exit.GiveUp fault) name = refl

none-gone : (gone : List Departure) → TakesNone (gone_events gone)
none-gone [] = refl
none-gone (l ∷ gone) = none-both (departure_events l) (gone_events gone) (none-left l.way l.name) (none-gone gone)

none-given_up : (fault : BoardFault) (ending : Cause) (name : ConnName) → TakesNone (lingering_give_up_events fault ending name)
none-given_up fault ending name = refl

none-lettings : (l : Departures) → TakesNone (departures_events l)
none-lettings l =
    none-both (gone_events l.retiring ++ gone_events l.cut) (gone_events l.drained)
    (none-both (gone_events l.retiring) (gone_events l.cut) (none-gone l.retiring) (none-gone l.cut)) (none-gone l.drained)

-- ## Names

unnamed-by : (e : Event) (answer : Reply) (rest : List ℕ) (names : List ConnName) → accepts_in e ++ rest ≡ [] → (rest ≡ [] → names ≡ [])
    → names_given e answer ++ names ≡ []
unnamed-by (event.Accept slot) answer rest names none further = absurd (cc none)
unnamed-by (event.Park name kind) answer rest names none further = further none
unnamed-by (event.Hold name) answer rest names none further = further none
unnamed-by (event.Queue name) answer rest names none further = further none
unnamed-by (event.Start name) answer rest names none further = further none
unnamed-by (event.Answer name ask) answer rest names none further = further none
unnamed-by (event.Linger name cause) answer rest names none further = further none
unnamed-by (event.Close name cause tail) answer rest names none further = further none
unnamed-by (event.Ready slot) answer rest names none further = further none
unnamed-by (event.Tick m) answer rest names none further = further none
unnamed-by (event.StartChild k) answer rest names none further = further none
unnamed-by (event.Command c) answer rest names none further = further none
unnamed-by (event.Retire k) answer rest names none further = further none

-- entries of such events name none
pub unnamed : (entries : List Entry) → TakesNone (events_in entries) → accepted_names entries ≡ []
unnamed [] none = refl
unnamed (e ∷ entries) none =
    unnamed-by e.event e.reply (flat_map accepts_in (events_in entries)) (accepted_names entries) none (unnamed entries)

-- the names of a history that went on
pub names-added : (who : ℕ) (es : List Event) (has : Option ConnName) (a b : SeenBook) (acts : Acts who es has a b)
    → accepted_names b.history ≡ accepted_names a.history ++ accepted_names acts.entries.0
names-added who es has a b acts =
    ap accepted_names acts.entries.1 ∙ flat_map-append (λ (e : Entry). names_given e.event e.reply) a.history acts.entries.0

-- the history went on, and no connection was taken
pub record TakesNobody (a b : SeenBook) : Type 0 where
  pub folded : b.folded ≡ a.folded
  pub more : List Entry
  pub history : b.history ≡ a.history ++ more
  pub none : accepted_names more ≡ []

-- then the names stay
pub nobody-named : (a b : SeenBook) → TakesNobody a b → accepted_names b.history ≡ accepted_names a.history
nobody-named a b nobody =
    ap accepted_names nobody.history
    ∙ flat_map-append (λ (e : Entry). names_given e.event e.reply) a.history nobody.more
    ∙ ap (λ (names : List ConnName). accepted_names a.history ++ names) nobody.none
    ∙ append-nil (accepted_names a.history)

-- and so it is in two steps
pub nobody-more : (a b c : SeenBook) → TakesNobody a b → TakesNobody b c → TakesNobody a c
nobody-more a b c first second = record {
  folded = second.folded ∙ first.folded;
  more = first.more ++ second.more;
  history = second.history ∙ ap (λ (es : List Entry). es ++ second.more) first.history ∙ append_assoc a.history first.more second.more;
  none =
      flat_map-append (λ (e : Entry). names_given e.event e.reply) first.more second.more
      ∙ ap (λ (names : List ConnName). names ++ accepted_names second.more) first.none ∙ second.none;
}

-- it is so where no event took one
pub nobody-acts : (who : ℕ) (es : List Event) (has : Option ConnName) (a b : SeenBook) → Acts who es has a b → TakesNone es → TakesNobody a b
nobody-acts who es has a b acts none = record {
  folded = acts.folded;
  more = acts.entries.0;
  history = acts.entries.1;
  none = unnamed acts.entries.0 (subst TakesNone (sym (added-events who es has a b acts)) none);
}

-- ## The parts of a round

-- no connection is taken where some are let go of
pub nobody-gone : (Way : Exit → Type 0) (a b : SeenBook) → LetsGo Way a b → TakesNobody a b
nobody-gone Way a b lets = nobody-acts 0 _ None a b lets.acts (none-gone lets.gone)

-- nor does time that passes
pub nobody-passed : (to : ℕ) (a b : SeenBook) → PassesTime to a b → TakesNobody a b
nobody-passed to a b passes =
    nobody-acts 0 _ None a b passes.acts
    (none-both (gone_events passes.early ++ map event.Tick (ticks_to a.state.moment to)) (gone_events passes.late)
    (none-both (gone_events passes.early) (map event.Tick (ticks_to a.state.moment to)) (none-gone passes.early)
    (none-ticks (ticks_to a.state.moment to))) (none-gone passes.late))

-- nor do those that retire or linger, and the children behind them
pub nobody-let_go : (a b : SeenBook) → LetsGoOfConns a b → TakesNobody a b
nobody-let_go a b lets = nobody-acts 0 _ None a b lets.acts (none-lettings lets.departures)

-- also where one could not wait any more
pub nobody-let_go_until : (fault : BoardFault) (a b : SeenBook) → LetsGoUntil fault a b → TakesNobody a b
nobody-let_go_until fault a b until =
    let last = until.last in
    nobody-more a until.book b (nobody-let_go a until.book until.lets)
    (nobody-more until.book last.book b (nobody-acts 0 _ (Some last.name) until.book last.book last.held refl)
    (nobody-acts 0 _ None last.book b last.acts (none-given_up fault last.ending last.name)))

pub nobody-retired : (a b : SeenBook) → RetiresSome a b → TakesNobody a b
nobody-retired a b retires = nobody-acts 0 _ None a b retires.acts (none-retires retires.children)

-- nor do signals
pub nobody-signalled : (slots : List ℕ) (a b : SeenBook) → Acts 0 (signal_events a slots) None a b → TakesNobody a b
nobody-signalled slots a b signals = nobody-acts 0 _ None a b signals (none-signals (known_slots (length a.base.rows) slots))

-- nor do starts
pub nobody-started : (a b : SeenBook) → StartsSome a b → TakesNobody a b
nobody-started a b starts = nobody-acts 0 _ None a b starts.acts (none-starts starts.children)

-- nor do commands
pub nobody-ordered : (a b : SeenBook) → DoesOrders a b → TakesNobody a b
nobody-ordered a b does = nobody-acts 0 _ None a b does.acts (none-orders does.orders)

-- nor does any part of a round before its commands
pub nobody-before-orders : (a b c d : SeenBook) (to : ℕ) (slots : List ℕ) → PassesTime to a b → Acts 0 (signal_events b slots) None b c
    → LetsGoOfConns c d → TakesNobody a d
nobody-before-orders a b c d to slots passes signals lets =
    nobody-more a c d (nobody-more a b c (nobody-passed to a b passes) (nobody-signalled slots b c signals)) (nobody-let_go c d lets)
