-- What the parts of a round do in which nothing is ordered: how many orders there were, the newest generation's edition, and what is known
-- of the editions to come stay as they were.
use Rattle.std.proofs.Common.{◌≡◌, inl, inr, ℕ, List, [], ◌∷◌, ◌++◌, length, Option, None, Some, IfErr, OnOk, Result, Ok, Err, refl, sym, subst, ◌∙◌}
use Rattle.mpm_base.specs.Store.{StoreTold}
use Rattle.mpm_base.specs.declared.conn.ConnName.{ConnName}
use Rattle.conn_machine.specs.declared.event.Event.{Event}
use Rattle.conn_machine.specs.declared.event.Event.TheVariants as event
use Rattle.conn_state.specs.Known.{KnownOutside}
use Rattle.board_book.specs.declared.faults.BoardFault.{BoardFault}
use Rattle.board_book.specs.Book.{SeenBook, row_in}
use Rattle.board_book.specs.Editions.{orders_in}
use Rattle.board.specs.Editions.{GenerationsKeepTheirEditions}
use Rattle.worker_group.specs.Acts.{Acts, ActsInSteps}
use Rattle.worker_group.specs.Service.{give_up_events, left_events}
use Rattle.worker_group.specs.declared.service.Exit.{Exit}
use Rattle.rounds.specs.ClosingInside.{GivesUpDrained, LetsGo, lingering_give_up_events}
use Rattle.listener_round.specs.OrdersInside.{KnowsComing, ServesNewest}
use Rattle.listener_round.specs.RoundInside.{FailsTaking, TakesSome, TakesUntil}
use Rattle.rounds.specs.PartsInside.{GivesUp, LetsGoOfConns, LetsGoUntil, PassesTime, RetiresSome, SignalsFirst, StartsSome, signal_events}
use Rattle.board_book.specs.Moments.{known_slots, ticks_to}
use Rattle.listener_round.specs.declared.edition.LoadedEdition.{LoadedEdition}
use Rattle.listener_round.specs.declared.edition.NamedConfig.{NamedConfig}
use Rattle.listener_round.proofs.CommandlessLemmas.{AreCommandless, commandless-both, commandless-departures, commandless-gone, commandless-left, commandless-readies, commandless-retires, commandless-starts, commandless-takes, commandless-time, orders-kept}
use Rattle.listener_round.proofs.EditionLemmas.{coming-acts, newest-acts}

-- the listener did this, none of which is a command; it has no connection then
pub record ActsOrderless (a b : SeenBook) : Type 0 where
  pub events : List Event
  pub acts : Acts 0 events None a b
  pub none : AreCommandless events

-- it did nothing
pub orderless-none : ActsInSteps → (b : SeenBook) → row_in 0 b ≡ None → ActsOrderless b b
orderless-none steps b row = record { events = []; acts = steps.none 0 None b row; none = refl }

-- one thing behind the other
pub orderless-more : ActsInSteps → (a b c : SeenBook) → ActsOrderless a b → ActsOrderless b c → ActsOrderless a c
orderless-more steps a b c first second = record {
  events = first.events ++ second.events;
  acts = steps.more 0 first.events second.events None None a b c first.acts second.acts;
  none = commandless-both first.events second.events first.none second.none;
}

-- ## The parts before the orders

pub orderless-gone : {Way : _} (a b : SeenBook) → LetsGo Way a b → ActsOrderless a b
orderless-gone a b lets = record {
  events = _;
  acts = lets.acts;
  none = commandless-gone lets.gone;
}

pub orderless-time : (to : ℕ) (a b : SeenBook) → PassesTime to a b → ActsOrderless a b
orderless-time to a b time = record {
  events = _;
  acts = time.acts;
  none = commandless-time time.early (ticks_to a.state.moment to) time.late;
}

pub orderless-first : (slots : List ℕ) (a b : SeenBook) → SignalsFirst slots a b → ActsOrderless a b
orderless-first slots a b first = record {
  events = _;
  acts = first.acts;
  none = commandless-readies first.first;
}

pub orderless-signals : (slots : List ℕ) (a b : SeenBook) → Acts 0 (signal_events a slots) None a b → ActsOrderless a b
orderless-signals slots a b signals = record {
  events = _;
  acts = signals;
  none = commandless-readies (known_slots (length a.base.rows) slots);
}

pub orderless-lets : (a b : SeenBook) → LetsGoOfConns a b → ActsOrderless a b
orderless-lets a b lets = record {
  events = _;
  acts = lets.acts;
  none = commandless-departures lets.departures;
}

orderless-drained : ActsInSteps → (fault : BoardFault) (a b : SeenBook) → GivesUpDrained fault a b → ActsOrderless a b
orderless-drained steps fault a b given =
    let acts =
    steps.more 0 (event.Hold given.name ∷ []) (lingering_give_up_events fault given.ending given.name) (Some given.name) None a given.book b given.held given.acts in
    record { events = _; acts = acts; none = refl }

pub orderless-until : ActsInSteps → (fault : BoardFault) (a b : SeenBook) → LetsGoUntil fault a b → ActsOrderless a b
orderless-until steps fault a b until =
    orderless-more steps a until.book b (orderless-lets a until.book until.lets) (orderless-drained steps fault until.book b until.last)

-- all of them
pub orderless-before : ActsInSteps → (to : ℕ) (slots : List ℕ) (a b c d : SeenBook) → PassesTime to a b → Acts 0 (signal_events b slots) None b c
    → LetsGoOfConns c d → ActsOrderless a d
orderless-before steps to slots a b c d time signals lets =
    orderless-more steps a c d (orderless-more steps a b c (orderless-time to a b time) (orderless-signals slots b c signals)) (orderless-lets c d lets)

-- ## The parts behind them

pub orderless-retires : (a b : SeenBook) → RetiresSome a b → ActsOrderless a b
orderless-retires a b retires = record {
  events = _;
  acts = retires.acts;
  none = commandless-retires retires.children;
}

pub orderless-starts : (a b : SeenBook) → StartsSome a b → ActsOrderless a b
orderless-starts a b starts =
    record { events = _; acts = starts.acts; none = commandless-starts starts.children }

pub orderless-takes : (a b : SeenBook) → TakesSome a b → ActsOrderless a b
orderless-takes a b takes = record {
  events = _;
  acts = takes.acts;
  none = commandless-takes takes.takes;
}

orderless-failed : ActsInSteps → (fault : BoardFault) (a b : SeenBook) → row_in 0 a ≡ None → FailsTaking fault a b → ActsOrderless a b
orderless-failed steps fault a b row (inl same) = subst (ActsOrderless a) (sym same.same) (orderless-none steps a row)
orderless-failed steps fault a b row (inr given) =
    let acts =
    steps.more 0 (event.Accept given.name.slot ∷ []) (give_up_events fault given.name) (Some given.name) None a given.book b given.took given.acts in
    record { events = _; acts = acts; none = refl }

pub orderless-takes_until : ActsInSteps → (fault : BoardFault) (a b : SeenBook) → TakesUntil fault a b → ActsOrderless a b
orderless-takes_until steps fault a b until =
    orderless-more steps a until.book b (orderless-takes a until.book until.takes)
    (orderless-failed steps fault until.book b until.takes.acts.row until.last)

-- children were let go of, and others started
pub orderless-children : ActsInSteps → (a b c : SeenBook) → RetiresSome a b → StartsSome b c → ActsOrderless a c
orderless-children steps a b c retires starts = orderless-more steps a b c (orderless-retires a b retires) (orderless-starts b c starts)

-- ## What stays

-- the newest generation has its edition
pub newest-orderless : GenerationsKeepTheirEditions → (known : Option KnownOutside) (a b : SeenBook) (e : LoadedEdition) → ActsOrderless a b
    → b.state.newest ≡ a.state.newest → ServesNewest known a e → ServesNewest known b e
newest-orderless law known a b e orderless newest serves = newest-acts law known 0 orderless.events None a b e orderless.acts newest serves

-- the editions to come are known
pub coming-orderless : (known : Option KnownOutside) (a b : SeenBook) (c : NamedConfig) (told : Option StoreTold) → ActsOrderless a b
    → KnowsComing known a c told → KnowsComing known b c told
coming-orderless known a b c told orderless knows = coming-acts known 0 orderless.events None a b c told orderless.acts orderless.none knows

-- ## A connection that was taken

-- there were as many orders before it
pub orders-taken : {T : Type 0} (r : Result T BoardFault) (name name' : ConnName) (way : Exit) (a b c : SeenBook)
    → Acts 0 (event.Accept name.slot ∷ []) (Some name) a b → OnOk r (Acts 0 (left_events way name') None b c)
    → IfErr r (λ f. GivesUp f name' b c) → orders_in c ≡ orders_in a
orders-taken (Ok x) name name' way a b c took left given =
    orders-kept 0 (left_events way name') None b c left (commandless-left way name') ∙ orders-kept 0 (event.Accept name.slot ∷ []) (Some name) a b took refl
orders-taken (Err fault) name name' way a b c took left given =
    orders-kept 0 (give_up_events fault name') None b c given refl ∙ orders-kept 0 (event.Accept name.slot ∷ []) (Some name) a b took refl
