-- What the parts of a round add, spelled as the events of a pass.
use Rattle.std.proofs.Common.{◌≡◌, ℕ, ◌<◌, ◌≤◌, Bool, Result, Ok, Err, IfErr, OnErr, arith, true, false, ◌==◌, cond, nat_lt, List, [], ◌∷◌, ◌++◌, length, map, Option, None, refl, sym, ap, subst, ◌∙◌, append-nil, eq-eqb, eqb-true}
use Rattle.std.proofs.lemmas.Bool.{false≢true}
use Rattle.std.proofs.lemmas.Bool.Decides.{nat_tests}
use Rattle.std.proofs.lemmas.List.{map-append}
use Rattle.std.proofs.lemmas.List.Elements.{filter-append}
use Rattle.mpm_base.specs.declared.conn.ConnName.{ConnName}
use Rattle.conn_machine.specs.declared.event.Event.{Event}
use Rattle.conn_machine.specs.declared.event.Event.TheVariants as event
use Rattle.conn_machine.specs.declared.folded.Folded.{Folded}
use Rattle.conn_machine.specs.Runs.{entries_of, first_row, row_after}
use Rattle.board_book.specs.declared.faults.BoardFault.{BoardFault}
use Rattle.board_book.specs.Book.{SeenBook, book_with_entry, row_in, AddsOnly}
use Rattle.board.specs.Board.{SeenBoard}
use Rattle.board.specs.Events.{with_recorded}
use Rattle.worker_group.specs.Acts.{Acts, ActsInSteps}
use Rattle.worker_group.specs.Service.{LeavesRest}
use Rattle.rounds.specs.ClosingInside.{DrainsUntil, IsDrainedWay, IsLateWay, IsRetiringWay, LetsGo, NoneEarly}
use Rattle.rounds.specs.PartsInside.{LetsGoOfConns, LetsGoUntil, NoneHas, PassesTime, RetiresSome, SignalsFirst, StaysTimely, StartsSome, gone_events, signal_events, time_events}
use Rattle.board_book.specs.Moments.{known_slots, ticks_to}

-- ## No pass has a connection

none-by : ActsInSteps → (who p : ℕ) (es : List Event) (a b : SeenBook) (own : Bool) → (p == who) ≡ own → NoneHas a → Acts who es None a b → row_in p b ≡ None
none-by steps who p es a b true own none acts = ap (λ (q : ℕ). row_in q b) (eqb-true p who own) ∙ acts.row
none-by steps who p es a b false own none acts =
    ap (λ (f : Folded). row_after (first_row f p) (entries_of p b.history)) acts.folded
    ∙ ap (row_after (first_row a.folded p)) (steps.others who p es None a b acts (λ (same : p ≡ who). false≢true (sym own ∙ eq-eqb p who same)))
    ∙ none p

-- so it is after what a pass did that has none then
pub none-has : ActsInSteps → (who : ℕ) (es : List Event) (a b : SeenBook) → NoneHas a → Acts who es None a b → NoneHas b
none-has steps who es a b none acts p = none-by steps who p es a b (p == who) refl none acts

-- ## Steps

-- the events by another spelling
pub acts-spelled : (es fs : List Event) (a b : SeenBook) → Acts 0 es None a b → es ≡ fs → Acts 0 fs None a b
acts-spelled es fs a b acts same = subst (λ (xs : List Event). Acts 0 xs None a b) same acts

-- a call of the board that records an event, and changes nothing else of the book
pub acts-added : ActsInSteps → (e : Event) (has : Option ConnName) (b b' : SeenBoard) → b' ≡ with_recorded 0 e b
    → AddsOnly 0 b.book b'.book → row_in 0 b'.book ≡ has → Acts 0 (e ∷ []) has b.book b'.book
acts-added steps e has b b' is adds row = steps.one 0 e has b.book b'.book (ap (λ (v : SeenBoard). v.book) is) adds row

-- ## Starts and ends of children

pub starts-none : ActsInSteps → (b : SeenBook) → row_in 0 b ≡ None → StartsSome b b
starts-none steps b row = record { children = []; acts = steps.none 0 None b row; timely = λ before. before }

pub starts-more : ActsInSteps → (k : ℕ) (a b c : SeenBook) → StartsSome a b → Acts 0 (event.StartChild k ∷ []) None b c → StaysTimely b c
    → StartsSome a c
starts-more steps k a b c starts one timely = record {
  children = starts.children ++ k ∷ [];
  acts =
      acts-spelled _ (map event.StartChild (starts.children ++ k ∷ [])) a c (steps.more 0 _ _ None None a b c starts.acts one)
      (sym (map-append event.StartChild starts.children (k ∷ [])));
  timely = λ before. timely (starts.timely before);
}

pub retires-none : ActsInSteps → (b : SeenBook) → row_in 0 b ≡ None → RetiresSome b b
retires-none steps b row = record { children = []; acts = steps.none 0 None b row; timely = λ before. before }

pub retires-more : ActsInSteps → (k : ℕ) (a b c : SeenBook) → RetiresSome a b → Acts 0 (event.Retire k ∷ []) None b c → StaysTimely b c
    → RetiresSome a c
retires-more steps k a b c retires one timely = record {
  children = retires.children ++ k ∷ [];
  acts =
      acts-spelled _ (map event.Retire (retires.children ++ k ∷ [])) a c (steps.more 0 _ _ None None a b c retires.acts one)
      (sym (map-append event.Retire retires.children (k ∷ [])));
  timely = λ before. timely (retires.timely before);
}

-- ## A round

-- time passed to a moment that is later
pub passes-later : ActsInSteps → (to : ℕ) (a b c d : SeenBook) → ticks_to a.state.moment to ≡ to ∷ [] → (early : LetsGo IsLateWay a b) → NoneEarly a early.gone
    → Acts 0 (event.Tick to ∷ []) None b c → LetsGo IsLateWay c d → PassesTime to a d
passes-later steps to a b c d later early soon tick late = record {
  early = early.gone;
  soon = soon;
  late = late.gone;
  early_ways = early.ways;
  late_ways = late.ways;
  acts =
      acts-spelled _ (time_events early.gone (ticks_to a.state.moment to) late.gone) a d
      (steps.more 0 _ _ None None a c d (steps.more 0 _ _ None None a b c early.acts tick) late.acts)
      (ap (λ (ticks : List ℕ). time_events early.gone ticks late.gone) (sym later));
}

-- it didn't pass to one that isn't
pub passes-none : (to : ℕ) (a b : SeenBook) → ticks_to a.state.moment to ≡ [] → (early : LetsGo IsLateWay a b) → NoneEarly a early.gone
    → PassesTime to a b
passes-none to a b none early soon = record {
  early = early.gone;
  soon = soon;
  late = [];
  early_ways = early.ways;
  late_ways = tt;
  acts =
      acts-spelled _ (time_events early.gone (ticks_to a.state.moment to) []) a b early.acts
      (sym (append-nil (gone_events early.gone)) ∙ sym (append-nil (gone_events early.gone ++ []))
      ∙ ap (λ (ticks : List ℕ). time_events early.gone ticks []) (sym none));
}

-- connections that retire, that were late at once, and that linger were let go of
pub lets-go-conns : ActsInSteps → (a b c d : SeenBook) → LetsGo IsRetiringWay a b → LetsGo IsLateWay b c → LetsGo IsDrainedWay c d → LetsGoOfConns a d
lets-go-conns steps a b c d retiring cut drained = record {
  departures = record { retiring = retiring.gone; cut = cut.gone; drained = drained.gone };
  ways = record { retiring = retiring.ways; cut = cut.ways; drained = drained.ways };
  acts = steps.more 0 _ _ None None a c d (steps.more 0 _ _ None None a b c retiring.acts cut.acts) drained.acts;
}

-- until one could not wait on
pub lets-go-until : ActsInSteps → (fault : BoardFault) (a b c d : SeenBook) → LetsGo IsRetiringWay a b → LetsGo IsLateWay b c → DrainsUntil fault c d
    → LetsGoUntil fault a d
lets-go-until steps fault a b c d retiring cut until =
    record { book = until.book; lets = lets-go-conns steps a b c until.book retiring cut until.drains; last = until.last }

-- ## What the listener alone changes

-- a start, an end of a child or a signal leaves it alone
pub rest_added : (e : Event) (b b' : SeenBoard) → b' ≡ with_recorded 0 e b
    → (LeavesRest b.book (book_with_entry 0 e b.book)) → LeavesRest b.book b'.book
rest_added e b b' is rest = subst (λ (v : SeenBoard). LeavesRest b.book v.book) (sym is) rest

pub rest_start : (k : ℕ) (b b' : SeenBoard) → b' ≡ with_recorded 0 (event.StartChild k) b → LeavesRest b.book b'.book
rest_start k b b' is = rest_added (event.StartChild k) b b' is (record { moment = refl; accepted = refl; newest = refl; going = refl })

pub rest_retire : (k : ℕ) (b b' : SeenBoard) → b' ≡ with_recorded 0 (event.Retire k) b → LeavesRest b.book b'.book
rest_retire k b b' is = rest_added (event.Retire k) b b' is (record { moment = refl; accepted = refl; newest = refl; going = refl })

-- so does what left the book as it was
pub rest_same : (b b' : SeenBook) → b' ≡ b → LeavesRest b b'
rest_same b b' same = subst (LeavesRest b) (sym same) (record { moment = refl; accepted = refl; newest = refl; going = refl })

-- ## Signals

known-by : (slot rows : ℕ) (within : Bool) → nat_lt slot rows ≡ within → known_slots rows (slot ∷ []) ≡ cond within (slot ∷ []) []
known-by slot rows true is = rw is refl
known-by slot rows false is = rw is refl

-- a slot that the table has is signalled
pub known-one : (slot : ℕ) (b : SeenBook) → nat_lt slot (length b.base.rows) ≡ true → signal_events b (slot ∷ []) ≡ event.Ready slot ∷ []
known-one slot b within = ap (map event.Ready) (known-by slot (length b.base.rows) true within)

-- another one isn't
pub known-none : (slot : ℕ) (b : SeenBook) → nat_lt slot (length b.base.rows) ≡ false → signal_events b (slot ∷ []) ≡ []
known-none slot b without = ap (map event.Ready) (known-by slot (length b.base.rows) false without)

-- the slots so far, and one more
pub signals-more : ActsInSteps → (slots : List ℕ) (slot : ℕ) (a b c : SeenBook) → Acts 0 (signal_events a slots) None a b → Acts 0 (signal_events b (slot ∷ [])) None b c
    → Acts 0 (signal_events a (slots ++ slot ∷ [])) None a c
signals-more steps slots slot a b c done one =
    acts-spelled _ (signal_events a (slots ++ slot ∷ [])) a c (steps.more 0 _ _ None None a b c done one)
    (ap (λ (s : _). signal_events a slots ++ map event.Ready (known_slots (length s.rows) (slot ∷ []))) done.base
    ∙ sym (map-append event.Ready (known_slots (length a.base.rows) slots) (known_slots (length a.base.rows) (slot ∷ [])))
    ∙ ap (map event.Ready) (sym (filter-append (λ (x : ℕ). nat_lt x (length a.base.rows)) slots (slot ∷ []))))

-- the slots so far are the first of all
pub signals-begun : (slots front back : List ℕ) (a b : SeenBook) → slots ≡ front ++ back → Acts 0 (signal_events a front) None a b → SignalsFirst slots a b
signals-begun slots front back a b parts acts = record {
  first = known_slots (length a.base.rows) front;
  front = (
    known_slots (length a.base.rows) back,
    ap (known_slots (length a.base.rows)) parts ∙ filter-append (λ (x : ℕ). nat_lt x (length a.base.rows)) front back,
  );
  acts = acts;
}

-- ## Results

pub if-err : {T E : Type 0} (r : Result T E) (P Q : E → Type 0) → ((e : E) → P e → Q e) → IfErr r P → IfErr r Q
if-err (Ok x) P Q weaker holds = tt
if-err (Err e) P Q weaker holds = weaker e holds

-- two of an error, as one
pub if-err-both : {T E : Type 0} (r : Result T E) (P Q R : E → Type 0) → ((e : E) → P e → Q e → R e) → IfErr r P → IfErr r Q → IfErr r R
if-err-both (Ok x) P Q R both first second = tt
if-err-both (Err e) P Q R both first second = both e first second

pub on-err : {T E : Type 0} (r : Result T E) (P : Type 0) → P → OnErr r P
on-err (Ok x) P holds = tt
on-err (Err e) P holds = holds

-- the number is below the other, or isn't
pub is-below : (m n : ℕ) → m < n → nat_lt m n ≡ true
is-below m n below = grind (arith, nat_tests)

pub not-below : (m n : ℕ) → n ≤ m → nat_lt m n ≡ false
not-below m n above = grind (arith, nat_tests)
