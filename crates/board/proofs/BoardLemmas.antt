-- How the connections of a board stand to its rows, while one row changes.
use Rattle.std.proofs.Common.{◌≡◌, ◌==◌, ℕ, zero, suc, ◌+◌, ◌<◌, ◌≤◌, Bool, true, false, cond, List, [], ◌∷◌, length, Option, None, Some, slice_get, count_by, sum_by, refl, sym, ap, subst, ◌∙◌, get_or-set_same, get_or-set_other, eqb-true, eq-eqb, arith}
use Rattle.std.proofs.Math.ListN.{set, length-set}
use Rattle.std.proofs.lemmas.List.Sums.{sum_by-cons}
use Rattle.std.proofs.lemmas.Bool.{and_parts}
use Rattle.mpm_base.specs.declared.conn.ConnName.{ConnName}
use Rattle.conn_machine.specs.declared.row.Row.{Row}
use Rattle.conn_machine.specs.declared.event.Event.{Event}
use Rattle.conn_machine.specs.Lists.{update}
use Rattle.conn_machine.specs.Rows.{is_live, is_live_as, live_row, lives_and}
use Rattle.conn_machine.specs.States.{is_halted}
use Rattle.conn_machine.specs.Table.{is_allowed}
use Rattle.timeout_queues.specs.Waiting.{ParkedName}
use Rattle.conn_slots.specs.Slots.{Slot}
use Rattle.conn_state.specs.Conn.{SeenConn}
use Rattle.conn_state.specs.Answered.{SeenEnded}
use Rattle.conn_state.specs.Known.{KnownOutside}
use Rattle.board_book.specs.Book.{SeenBook}
use Rattle.board.specs.Board.{SeenBoard, IsHome, AreHome, conn_at}
use Rattle.board.specs.BoardInside.{IsBoard}
use Rattle.board.specs.Layout.{conns_in}
use Rattle.board.specs.QueuesInside.{waits_in, queues_of}
use Rattle.conn_machine.specs.HistoryLaws.{RowsChangeOneAtATime}
use Rattle.board.proofs.QueueLemmas.{queued-set}

-- ## One item

-- an item stands below the length
pub get-below : {X : Type 0} (xs : List X) (i : ℕ) (x : X) → slice_get xs i ≡ Some x → i < length xs
get-below [] i x at = absurd (cc)
get-below (y ∷ xs) zero x at = omega arith
get-below (y ∷ xs) (suc i) x at = let h : i < length xs = get-below xs i x at in omega arith

-- a sum, once one item was changed
sum-update : {X : Type 0} (w : X → ℕ) (xs : List X) (i : ℕ) (x : X) (change : X → X) → slice_get xs i ≡ Some x
    → sum_by w (update xs i change) + w x ≡ sum_by w xs + w (change x)
sum-update w [] i x change at = absurd (cc)
sum-update {X} w (y ∷ xs) zero x change at =
    let e : y ≡ x = cc in
    omega (arith, sum_by-cons w (change y) xs, sum_by-cons w y xs, ap w e, ap (λ (z : X). w (change z)) e)
sum-update w (y ∷ xs) (suc i) x change at =
    omega (arith, sum-update w xs i x change at, sum_by-cons w y (update xs i change), sum_by-cons w y xs)

-- how many pass a test, once one was changed
pub count-update : {X : Type 0} (test : X → Bool) (xs : List X) (i : ℕ) (x : X) (change : X → X) → slice_get xs i ≡ Some x
    → count_by test (update xs i change) + cond (test x) 1 0 ≡ count_by test xs + cond (test (change x)) 1 0
count-update {X} test xs i x change at = sum-update (λ (y : X). cond (test y) 1 0) xs i x change at

-- ## A live row

-- what is known of the row of a connection that lives
pub record LivesAs (rows : List Row) (name : ConnName) (test : Row → Bool) : Type 0 where
  pub row : Row
  pub found : live_row rows name ≡ Some row
  pub at : slice_get rows name.slot ≡ Some row
  pub live : is_live row ≡ true
  pub life : row.life ≡ name.life
  pub passes : test row ≡ true

-- the row of the slot, where it has that name or not
lives_if : (rows : List Row) (name : ConnName) (test : Row → Bool) (r : Row) (named : Bool) → is_live_as name r ≡ named
    → slice_get rows name.slot ≡ Some r → lives_and test rows name ≡ true → LivesAs rows name test
lives_if rows name test r true named at lives = record {
  row = r;
  found = rw at (rw named refl);
  at = at;
  live = (and_parts _ _ named).0;
  life = eqb-true r.life name.life (and_parts _ _ named).1;
  passes = rw named at (rw at at lives);
}
lives_if rows name test r false named at lives =
    let never : false ≡ true = rw named at (rw at at lives) in
    absurd (cc)

-- the row of the slot, where there is one
lives_where : (rows : List Row) (name : ConnName) (test : Row → Bool) (o : Option Row) → slice_get rows name.slot ≡ o
    → lives_and test rows name ≡ true → LivesAs rows name test
lives_where rows name test None at lives =
    let never : false ≡ true = rw at at lives in
    absurd (cc)
lives_where rows name test (Some r) at lives = lives_if rows name test r (is_live_as name r) refl at lives

-- a connection that lives has a row, which passes
pub lives_as : (rows : List Row) (name : ConnName) (test : Row → Bool) → lives_and test rows name ≡ true → LivesAs rows name test
lives_as rows name test lives = lives_where rows name test (slice_get rows name.slot) refl lives

-- ## A call

-- the event that a call may make is allowed inside
pub may_inside : (seen b : SeenBoard) (e : Event) → seen ≡ b → is_allowed b.book.state e ≡ true → is_allowed seen.book.state e ≡ true
may_inside seen b e is may = subst (λ (v : SeenBoard). is_allowed v.book.state e ≡ true) (sym is) may

-- so is one that it may make while the server goes on, where it does
pub may_while : (seen b : SeenBoard) (e : Event) → seen ≡ b → (is_halted b.book.state.going ≡ false → is_allowed b.book.state e ≡ true)
    → is_halted seen.book.state.going ≡ false → is_allowed seen.book.state e ≡ true
may_while seen b e is may going =
    may_inside seen b e is (may (ap (λ (v : SeenBoard). is_halted v.book.state.going) (sym is) ∙ going))

-- ## The connections that wait

-- each row that waits has its connection, and stands in the queues; and each live connection finds room behind so many that ended
pub record AreThere (rows : List Row) (conns : List (Option SeenConn)) (queues : List (Option ParkedName)) (ended room : ℕ) : Type 0 where
  pub waiting : AreHome rows conns
  pub queued : queues ≡ queues_of rows
  pub has_room : ended + count_by is_live rows ≤ room

-- a board has its connections so
pub there_of : (known : Option KnownOutside) (book : SeenBook) (slots : List (Slot (Option SeenConn))) (ended : List SeenEnded) (queues : List (Option ParkedName)) (room : ℕ)
    → IsBoard known (record { book = book; conns = conns_in slots; ended = ended }) slots queues room
    → AreThere book.state.rows (conns_in slots) queues (length ended) room
there_of known book slots ended queues room is = record { waiting = is.agrees.waiting; queued = is.queued; has_room = is.has_room }

-- the connection of a slot, once that of this slot was set
homes_by : RowsChangeOneAtATime → (rows : List Row) (conns : List (Option SeenConn)) (slot : ℕ) (r : Row) (change : Row → Row) (c : Option SeenConn)
    → AreHome rows conns → slice_get rows slot ≡ Some r → IsHome slot (change r) c
    → (j : ℕ) (r' : Row) (same : Bool) → (j == slot) ≡ same → slice_get (update rows slot change) j ≡ Some r'
    → IsHome j r' (conn_at (set conns slot c) j)
homes_by law rows conns slot r change c are at home j r' true is_same at' =
    let e : j ≡ slot = eqb-true j slot is_same in
    let here : slice_get (update rows slot change) slot ≡ Some (change r) = law.there rows slot r change at in
    let there : slice_get (update rows slot change) slot ≡ Some r' =
    subst (λ (k : ℕ). slice_get (update rows slot change) k ≡ Some r') e at' in
    let row_is : change r ≡ r' = cc in
    let below : slot < length conns = omega (arith, get-below rows slot r at, are.slots) in
    subst (λ (k : ℕ). IsHome k r' (conn_at (set conns slot c) k)) (sym e)
    (rw (get_or-set_same conns slot c None below) (subst (λ (x : Row). IsHome slot x c) row_is home))
homes_by law rows conns slot r change c are at home j r' false other at' =
    let differs : (j ≡ slot → ⊥) = (λ (e : j ≡ slot). let eq : (j == slot) ≡ true = eq-eqb j slot e in cc) in
    let before : slice_get rows j ≡ Some r' = sym (law.others rows slot j change differs) ∙ at' in
    rw (get_or-set_other conns slot j c None differs) (are.homes j r' before)

-- one row, the connection of its slot and what the queues have there change together
pub there_set : RowsChangeOneAtATime → (rows : List Row) (conns : List (Option SeenConn)) (queues : List (Option ParkedName)) (slot : ℕ) (r : Row) (change : Row → Row)
    (c : Option SeenConn) (q : Option ParkedName) (ended ended' room room' : ℕ)
    → AreThere rows conns queues ended room → slice_get rows slot ≡ Some r → IsHome slot (change r) c → waits_in (change r) ≡ q
    → ended' + count_by is_live (update rows slot change) ≤ room'
    → AreThere (update rows slot change) (set conns slot c) (set queues slot q) ended' room'
there_set law rows conns queues slot r change c q ended ended' room room' there at home waits space = record {
  waiting = record {
    slots = length-set conns slot c ∙ there.waiting.slots ∙ sym (law.length rows slot change);
    homes = λ j r' at'. homes_by law rows conns slot r change c there.waiting at home j r' (j == slot) refl at';
  };
  queued = queued-set queues rows slot r change q there.queued at waits;
  has_room = space;
}
