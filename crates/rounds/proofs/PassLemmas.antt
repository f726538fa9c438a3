-- What passes leave alone, by the laws of the machine.
use Rattle.std.proofs.Common.{◌≡◌, ◌≢◌, ℕ, suc, ◌<◌, false, not, List, [], ◌∷◌, ◌++◌, length, Option, None, Some, slice_get, refl, sym, ap, subst, ◌∙◌}
use Rattle.std.specs.List.{list_any}
use Rattle.mpm_base.specs.declared.conn.ConnName.{ConnName}
use Rattle.conn_machine.specs.declared.event.Entry.{Entry}
use Rattle.conn_machine.specs.declared.event.Event.{Event}
use Rattle.conn_machine.specs.declared.event.Event.TheVariants as event
use Rattle.conn_machine.specs.declared.row.Place.{Place}
use Rattle.conn_machine.specs.declared.row.Place.TheVariants.{Vacant, Spent, Held, Parked, Queued, Working}
use Rattle.conn_machine.specs.declared.row.Row.{Row}
use Rattle.conn_machine.specs.declared.folded.Folded.{Folded}
use Rattle.conn_machine.specs.declared.state.State.{State}
use Rattle.conn_machine.specs.Passes.{HasNoneInHand, OnlyServes, asking_count}
use Rattle.conn_machine.specs.Sizes.{HasSizesOf}
use Rattle.conn_machine.specs.Rows.{is_live, is_parked, is_unused, is_with_a_pass}
use Rattle.conn_machine.specs.Runs.{Adds, after}
use Rattle.board_book.specs.Book.{SeenBook}
use Rattle.board.specs.Board.{SeenBoard}
use Rattle.worker_group.specs.Acts.{Acts, ActsInSteps, events_of}
use Rattle.worker_group.specs.Service.{HasServed, LeavesRest, answer_events, left_events}
use Rattle.board_book.specs.ClosedDown.{HasNoLive}
use Rattle.board_book.specs.Finds.{FindsRow, is_due}
use Rattle.board_book.specs.AtRest.{NoneDue}
use Rattle.rounds.specs.TableInside.{NoneParked}
use Rattle.rounds.specs.PartsInside.{AreServed, ServesSome}
use Rattle.rounds.proofs.FoundLemmas.{found-at, lives}

-- ## What the other passes leave

-- the law of the machine: a pass other than the listener leaves alone what the listener decides
abbrev pub LeavesAlone : Type 0
LeavesAlone = (p : ℕ) (base : State) (f : Folded) (old new : List Entry) → p ≢ 0 → Adds p base f old new → OnlyServes (after base old) (after base new)

-- so does a pass that did something
only-serves : (who : ℕ) (es : List Event) (has : Option ConnName) (a b : SeenBook) → who ≢ 0 → after a.base a.history ≡ a.state
    → after b.base b.history ≡ b.state → Acts who es has a b → LeavesAlone → OnlyServes a.state b.state
only-serves who es has a b other here there acts law =
    let late : after a.base b.history ≡ b.state = ap (λ (s : State). after s b.history) (sym acts.base) ∙ there in
    subst (λ (s : State). OnlyServes a.state s) late
    (subst (λ (s : State). OnlyServes s (after a.base b.history)) here (law who a.base a.folded a.history b.history other acts.entries))

-- so the moment stands, no connection was taken, no generation began, and the server goes on as it did
pub serves-rest : (who : ℕ) (es : List Event) (has : Option ConnName) (a b : SeenBook) → who ≢ 0 → after a.base a.history ≡ a.state
    → after b.base b.history ≡ b.state → Acts who es has a b → LeavesAlone → LeavesRest a b
serves-rest who es has a b other here there acts law =
    let serves = only-serves who es has a b other here there acts law in
    record { moment = serves.moment; accepted = serves.accepted; newest = serves.newest; going = serves.going }

-- what the service of a connection added
pub service-acts : ActsInSteps → (who : ℕ) (name : ConnName) (a b : SeenBoard) → (served : HasServed who name a b)
    → Acts who (event.Queue name ∷ (event.Start name ∷ answer_events name served.asks) ++ left_events served.left.way served.served.name) None a.book b.book
service-acts steps who name a b served =
    steps.more who (event.Queue name ∷ event.Start name ∷ answer_events name served.asks) (left_events served.left.way served.served.name) (Some name) None
    a.book served.book b.book served.acts served.left.acts

-- what the service of several added
pub record ActsSomehow (who : ℕ) (a b : SeenBook) : Type 0 where
  pub events : List Event
  pub acts : Acts who events None a b

served-acts : ActsInSteps → (who : ℕ) (names : List ConnName) (a b : SeenBoard) → AreServed who names a b → ActsSomehow who a.book b.book
served-acts steps who [] a b idle = record { events = []; acts = idle.acts }
served-acts steps who (name ∷ names) a b (x, y, idle, served, others) =
    let more = served-acts steps who names y b others in
    record {
      events = _;
      acts =
          steps.more who _ more.events None None a.book y.book b.book
          (steps.more who [] _ None None a.book x.book y.book idle.acts (service-acts steps who name x y served)) more.acts;
    }

pub serves-acts : ActsInSteps → (a b : SeenBoard) → ServesSome a b → ActsSomehow 1 a.book b.book
serves-acts steps a b serves = served-acts steps 1 serves.names a b serves.served

-- one more was served behind others
served-more : ActsInSteps → (who : ℕ) (names : List ConnName) (name : ConnName) (a b c : SeenBoard) → AreServed who names a b → HasServed who name b c
    → AreServed who (names ++ name ∷ []) a c
served-more steps who [] name a b c idle served =
    (b, c, idle, served, record { acts = steps.none who None c.book served.left.acts.row; conns = refl; ended = refl })
served-more steps who (n ∷ names) name a b c (x, y, idle, first, others) served =
    (x, y, idle, first, served-more steps who names name y b c others served)

-- where one was due
pub serves-more : ActsInSteps → (name : ConnName) (a b c : SeenBoard) → (serves : ServesSome a b) → (NoneDue a.book.state → ⊥) → HasServed 1 name b c → ServesSome a c
serves-more steps name a b c serves due served = record {
  names = serves.names ++ name ∷ [];
  none = λ none. absurd (due none);
  served = served-more steps 1 serves.names name a b c serves.served served;
}

-- ## Signals

-- the law of the machine: fewer slots ask for service after a pass other than the listener handed a connection to the workers
abbrev pub AsksFewer : Type 0
AsksFewer =
    (p : ℕ) (base : State) (f : Folded) (old new : List Entry) (name : ConnName) (events : List Event) → p ≢ 0 → Adds p base f old new
    → events_of p new ≡ events_of p old ++ event.Queue name ∷ events → asking_count (after base new) < asking_count (after base old)

-- so it is after the service of a connection
pub fewer-asking : (who : ℕ) (name : ConnName) (es : List Event) (has : Option ConnName) (a b : SeenBook) → who ≢ 0 → after a.base a.history ≡ a.state
    → after b.base b.history ≡ b.state → Acts who (event.Queue name ∷ es) has a b → AsksFewer → asking_count b.state < asking_count a.state
fewer-asking who name es has a b other here there acts law =
    let late : after a.base b.history ≡ b.state = ap (λ (s : State). after s b.history) (sym acts.base) ∙ there in
    subst (λ (s : State). asking_count b.state < asking_count s) here
    (subst (λ (s : State). asking_count s < asking_count (after a.base a.history)) late
    (law who a.base a.folded a.history b.history name es other acts.entries acts.made))

-- ## The rows

-- the law of the machine: a history keeps the sizes
abbrev pub KeepsSizes : Type 0
KeepsSizes = (base : State) (history : List Entry) → HasSizesOf base (after base history)

-- the table has as many after any history
pub rows-kept : KeepsSizes → (b : SeenBook) → after b.base b.history ≡ b.state → length b.state.rows ≡ length b.base.rows
rows-kept law b state = ap (λ (s : State). length s.rows) (sym state) ∙ (law b.base b.history).rows

-- ## No connection is live

-- a place that no pass has, and where nobody waits, isn't live
pub idle-place : (p : Place) → is_with_a_pass p ≡ false → is_parked p ≡ false → not (is_unused p) ≡ false
idle-place Vacant hand parked = refl
idle-place Spent hand parked = refl
idle-place Held hand parked = absurd (cc)
idle-place (Parked kind) hand parked = absurd (cc)
idle-place Queued hand parked = absurd (cc)
idle-place (Working cell phase) hand parked = absurd (cc)

idle-each : (rows : List Row) → ((slot : ℕ) (r : Row) → slice_get rows slot ≡ Some r → is_with_a_pass r.place ≡ false)
    → ((slot : ℕ) (r : Row) → slice_get rows slot ≡ Some r → is_parked r.place ≡ false) → list_any is_live rows ≡ false
idle-each [] hand parked = refl
idle-each (r ∷ rows) hand parked =
    rw (
      idle-place r.place (hand 0 r refl) (parked 0 r refl),
      idle-each rows (λ slot x at. hand (suc slot) x at) (λ slot x at. parked (suc slot) x at),
    ) refl

-- none is where no pass has one and none waits
pub none-left : (s : State) → HasNoneInHand s → NoneParked s → HasNoLive s
none-left s hand parked = idle-each s.rows hand.each parked

-- ## What is due

-- a connection that is due was found only where one is
pub due-none : (s : State) (name : ConnName) → FindsRow (is_due s) s (Some name) → NoneDue s → ⊥
due-none s name found none =
    let live = lives (is_due s name.slot) s.rows name found in
    let due = live.passes in
    let not_due = none name.slot live.row (found-at s.rows name live.row live.found) in
    absurd (cc (due, not_due))
