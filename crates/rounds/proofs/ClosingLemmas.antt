-- How connections that wait are let go of, one behind the other, and the states that this makes.
use Rattle.std.proofs.Common.{◌≡◌, ℕ, List, [], ◌∷◌, ◌++◌, map, Option, None, Some, refl, sym, ap, subst, ◌∙◌, append-nil}
use Rattle.std.proofs.lemmas.Grind.{flat_map-append}
use Rattle.std.specs.List.{flat_map}
use Rattle.mpm_base.specs.declared.conn.ConnName.{ConnName}
use Rattle.mpm_base.specs.declared.conn.Cause.{Cause}
use Rattle.mpm_base.specs.declared.conn.Tail.{Tail}
use Rattle.conn_machine.specs.declared.event.Event.{Event}
use Rattle.conn_machine.specs.declared.event.Event.TheVariants as event
use Rattle.conn_machine.specs.declared.event.Entry.{Entry}
use Rattle.conn_machine.specs.declared.state.State.{State}
use Rattle.conn_machine.specs.Runs.{after}
use Rattle.conn_machine.specs.Table.{next}
use Rattle.conn_state.specs.Conn.{SeenConn}
use Rattle.board_book.specs.declared.faults.BoardFault.{BoardFault}
use Rattle.board_book.specs.Book.{SeenBook, book_with_entry, row_in, AddsOnly}
use Rattle.board_book.specs.Faults.{IsRefusedFor}
use Rattle.board.specs.Board.{SeenBoard}
use Rattle.board.specs.Events.{with_recorded}
use Rattle.worker_group.specs.declared.service.Exit.{Exit}
use Rattle.worker_group.specs.Acts.{Acts, ActsInSteps}
use Rattle.worker_group.specs.Service.{LeavesRest, left_events}
use Rattle.rounds.specs.ClosingInside.{AllLeftBy, GivesUpDrained, LetsGo, LetsOneGo, Departure, departure_events, lingering_give_up_events, state_by}
use Rattle.rounds.proofs.AddedLemmas.{added-events}
use Rattle.rounds.proofs.ActLemmas.{acts-spelled}

-- ## The state that a pass made

-- the state after entries is the one that their events make
after-events : (s : State) (added : List Entry) → after s added ≡ state_by s (map (λ (e : Entry). e.event) added)
after-events s [] = refl
after-events s (e ∷ added) = after-events (next s e.event) added

-- the law of the machine: a history goes on from the state after its first entries
abbrev pub GoesOnFrom : Type 0
GoesOnFrom = (base : State) (a b : List Entry) → after base (a ++ b) ≡ after (after base a) b

-- the state after what a pass did is the one that its events make
pub acts-state : GoesOnFrom → (who : ℕ) (es : List Event) (has : Option ConnName) (a b : SeenBook) → after a.base a.history ≡ a.state
    → after b.base b.history ≡ b.state → Acts who es has a b → b.state ≡ state_by a.state es
acts-state law who es has a b here there acts =
    let added = acts.entries.0 in
    let same : map (λ (e : Entry). e.event) added ≡ es = added-events who es has a b acts in
    sym there ∙ ap (λ (s : State). after s b.history) acts.base ∙ ap (after a.base) acts.entries.1 ∙ law a.base a.history added
    ∙ ap (λ (s : State). after s added) here ∙ after-events a.state added ∙ ap (state_by a.state) same

-- ## One connection

-- it was held
pub held-acts : ActsInSteps → (name : ConnName) (conns : List (Option SeenConn)) (b b' : SeenBoard)
    → b' ≡ record (with_recorded 0 (event.Hold name) b) { conns = conns } → AddsOnly 0 b.book b'.book
    → row_in 0 b'.book ≡ Some name → Acts 0 (event.Hold name ∷ []) (Some name) b.book b'.book
held-acts steps name conns b b' is adds row = steps.one 0 (event.Hold name) (Some name) b.book b'.book (ap (λ (v : SeenBoard). v.book) is) adds row

-- and then left
pub let-go : ActsInSteps → (Way : Exit → Type 0) (way : Exit) (name named : ConnName) (a b c : SeenBook) → Way way
    → Acts 0 (event.Hold name ∷ []) (Some name) a b → named ≡ name → Acts 0 (left_events way named) None b c → LetsOneGo Way name a c
let-go steps Way way name named a b c is_way held same left = record {
  way = way;
  is_way = is_way;
  acts =
      steps.more 0 (event.Hold name ∷ []) (left_events way name) (Some name) None a b c held
      (acts-spelled _ (left_events way name) b c left (ap (left_events way) same));
}

-- a hold leaves alone what the listener decides
pub rest-held : (name : ConnName) (conns : List (Option SeenConn)) (b b' : SeenBoard)
    → b' ≡ record (with_recorded 0 (event.Hold name) b) { conns = conns } → LeavesRest b.book b'.book
rest-held name conns b b' is = subst (λ (v : SeenBoard). LeavesRest b.book v.book) (sym is) (record { moment = refl; accepted = refl; newest = refl; going = refl })

-- so does a close behind it
pub rest-held_closed : (why : Cause) (how : Tail) (name named : ConnName) (conns : List (Option SeenConn)) (b b' : SeenBoard) (d : SeenBook)
    → b' ≡ record (with_recorded 0 (event.Hold name) b) { conns = conns } → d ≡ book_with_entry 0 (event.Close named why how) b'.book
    → LeavesRest b.book d
rest-held_closed why how name named conns b b' d is closed =
    subst (LeavesRest b.book) (sym (closed ∙ ap (λ (v : SeenBoard). book_with_entry 0 (event.Close named why how) v.book) is))
    (record { moment = refl; accepted = refl; newest = refl; going = refl })

-- ## Several

pub lets-none : ActsInSteps → (Way : Exit → Type 0) (b : SeenBook) → row_in 0 b ≡ None → LetsGo Way b b
lets-none steps Way b row = record { gone = []; ways = tt; acts = steps.none 0 None b row }

ways-more : (Way : Exit → Type 0) (gone : List Departure) (l : Departure) → AllLeftBy Way gone → Way l.way → AllLeftBy Way (gone ++ l ∷ [])
ways-more Way [] l all one = (one, tt)
ways-more Way (x ∷ gone) l all one = (all.0, ways-more Way gone l all.1 one)

-- the events of some with those of one behind them
letting-more : (gone : List Departure) (l : Departure) → flat_map departure_events gone ++ departure_events l ≡ flat_map departure_events (gone ++ l ∷ [])
letting-more gone l =
    ap (λ (es : List Event). flat_map departure_events gone ++ es) (sym (append-nil (departure_events l))) ∙ sym (flat_map-append departure_events gone (l ∷ []))

-- one more was let go of
pub lets-more : ActsInSteps → (Way : Exit → Type 0) (name : ConnName) (a b c : SeenBook) → LetsGo Way a b → LetsOneGo Way name b c → LetsGo Way a c
lets-more steps Way name a b c lets one =
    let l : Departure = record { name = name; way = one.way } in
    record {
      gone = lets.gone ++ l ∷ [];
      ways = ways-more Way lets.gone l lets.ways one.is_way;
      acts = acts-spelled _ _ a c (steps.more 0 _ _ None None a b c lets.acts one.acts) (letting-more lets.gone l);
    }

-- one that was held could not wait on
pub refused-wait : (name named : ConnName) (why : Cause) (fault : BoardFault) (a b c : SeenBook) → Acts 0 (event.Hold name ∷ []) (Some name) a b
    → after b.base b.history ≡ b.state → named ≡ name → IsRefusedFor fault b → Acts 0 (lingering_give_up_events fault why named) None b c → GivesUpDrained fault a c
refused-wait name named why fault a b c held state same refused given = record {
  name = name;
  ending = why;
  book = b;
  held = held;
  state = state;
  why = refused;
  acts = acts-spelled _ (lingering_give_up_events fault why name) b c given (ap (lingering_give_up_events fault why) same);
}
