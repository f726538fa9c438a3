-- What each event does to the connections that wait, and to the room for those that live.
use Rattle.std.proofs.Common.{◌≡◌, ◌==◌, ℕ, zero, suc, ◌+◌, ◌<◌, ◌≤◌, Bool, true, false, not, ◌&&◌, ◌||◌, cond, if◌then◌else◌, nat_lt, is_some, List, [], ◌∷◌, ◌++◌, Option, None, Some, slice_get, get_or, count_by, replicate, refl, sym, ap, subst, ◌∙◌, arith}
use Rattle.std.specs.Option.{option_map_or}
use Rattle.std.proofs.Math.ListN.{set}
use Rattle.std.proofs.lemmas.Bool.{and_parts}
use Rattle.std.proofs.lemmas.List.{length-replicate, set-get_or}
use Rattle.std.proofs.lemmas.List.Sums.{sum_by-cons}
use Rattle.mpm_base.specs.declared.conn.ConnName.{ConnName}
use Rattle.mpm_base.specs.declared.conn.Kind.{Kind}
use Rattle.mpm_base.specs.declared.conn.Kind.TheVariants.{Linger, ShortLinger}
use Rattle.mpm_base.specs.declared.conn.Cause.{Cause}
use Rattle.mpm_base.specs.declared.conn.Tail.{Tail}
use Rattle.mpm_base.specs.declared.conn.Ask.{Ask}
use Rattle.conn_machine.specs.declared.row.Phase.{Phase}
use Rattle.conn_machine.specs.declared.row.Phase.TheVariants as phase
use Rattle.conn_machine.specs.declared.row.Place.{Place}
use Rattle.conn_machine.specs.declared.row.Place.TheVariants.{Vacant, Spent, Held, Parked, Queued, Working}
use Rattle.conn_machine.specs.declared.row.Row.{Row}
use Rattle.conn_machine.specs.declared.event.Event.TheVariants as event
use Rattle.conn_machine.specs.declared.state.State.{State}
use Rattle.conn_machine.specs.Lists.{update}
use Rattle.conn_machine.specs.Rows.{is_vacant, is_unused, is_held, is_parked, is_queued, is_working, in_phase, is_live, is_lingering, carried_count, lives_and, live_row}
use Rattle.conn_machine.specs.States.{is_signalled, is_halted, is_serving, pick_child, child_of, unused_row}
use Rattle.conn_machine.specs.Table.{is_allowed, next, is_vacant_at, may_wait, may_be_held, may_be_queued, linger_cause_fits, taken_row, parked_row, held_row, queued_row, served_row, answered_row, lingering_row, closed_row, greatest_life, end_fits, is_last_for}
use Rattle.conn_machine.specs.Sound.{KindFits}
use Rattle.timeout_queues.specs.Waiting.{ParkedName}
use Rattle.conn_state.specs.Conn.{SeenConn, IsConn}
use Rattle.board.specs.Backed.{AreBacked}
use Rattle.board.specs.Fits.{Fits, IsSettled, IsSettledFrom, LingersFor}
use Rattle.board.specs.Board.{IsHeldHere, IsAtHome, IsHome, AreHome, conn_at}
use Rattle.board.specs.QueuesInside.{waits_in, queues_of}
use Rattle.conn_machine.specs.HistoryLaws.{RowsChangeOneAtATime}
use Rattle.board_book.proofs.AlikeLemmas.{get-replicate, get_or-alike}
use Rattle.board.proofs.QueueLemmas.{away-waits, queues-away}
use Rattle.board.proofs.BoardLemmas.{AreThere, LivesAs, count-update, lives_as, there_set}

-- ## Places

-- a vacant row doesn't wait
vacant-away : (p : Place) → is_vacant p ≡ true → is_parked p ≡ false
vacant-away Vacant at = refl
vacant-away p at = absurd (cc)

-- nor is one that was handed to a worker
queued-away : (p : Place) → is_queued p ≡ true → is_parked p ≡ false
queued-away Queued at = refl
queued-away p at = absurd (cc)

-- nor is one that is served
working-away : (p : Place) → is_working p ≡ true → is_parked p ≡ false
working-away (Working cell phase) at = refl
working-away p at = absurd (cc)

-- nor one that is held or served
in_hand-away : (p : Place) → (is_held p || is_working p) ≡ true → is_parked p ≡ false
in_hand-away Held at = refl
in_hand-away (Working cell phase) at = refl
in_hand-away p at = absurd (cc)

-- the phase of a worker changes neither whether a row waits
in_phase-home : (next : Phase) (p : Place) → is_parked (in_phase next p) ≡ is_parked p
in_phase-home next Vacant = refl
in_phase-home next Spent = refl
in_phase-home next Held = refl
in_phase-home next (Parked kind) = refl
in_phase-home next Queued = refl
in_phase-home next (Working cell phase) = refl

-- nor whether a connection is there
pub in_phase-unused : (next : Phase) (p : Place) → is_unused (in_phase next p) ≡ is_unused p
in_phase-unused next Vacant = refl
in_phase-unused next Spent = refl
in_phase-unused next Held = refl
in_phase-unused next (Parked kind) = refl
in_phase-unused next Queued = refl
in_phase-unused next (Working cell phase) = refl

-- a closed row, whether its slot is spent or vacant, is nobody's home and not live
closed_by : (r : Row) (spent : Bool) → (r.life == greatest_life) ≡ spent → (is_parked (closed_row r).place ≡ false) × (is_live (closed_row r) ≡ false)
closed_by r true at = rw at (refl, refl)
closed_by r false at = rw at (refl, refl)

-- a closed row is no connection's home
closed-away : (r : Row) → (is_parked (closed_row r).place ≡ false) × (is_live (closed_row r) ≡ false)
closed-away r = closed_by r (r.life == greatest_life) refl

-- ## The connection of a row

-- the board has no connection of a row that isn't at home
here_away : (p : Place) (r : Row) (c : SeenConn) → IsHeldHere p r c → is_parked p ≡ false → ⊥
here_away Vacant r c here away = here
here_away Spent r c here away = here
here_away Held r c here away = here
here_away (Parked kind) r c here away = absurd (cc)
here_away Queued r c here away = here
here_away (Working cell phase) r c here away = here

-- so a slot whose row isn't at home has no connection
homeless : (slot : ℕ) (r : Row) (c : Option SeenConn) → IsHome slot r c → is_parked r.place ≡ false → c ≡ None
homeless slot r None home away = refl
homeless slot r (Some c) home away = absurd (here_away r.place r c home.here away)

-- one that is has its connection
at_home : (slot : ℕ) (r : Row) (c : Option SeenConn) → IsHome slot r c → is_parked r.place ≡ true → (x : SeenConn) × (c ≡ Some x) × IsAtHome slot r x
at_home slot r None home at = let away : is_parked r.place ≡ false = home in absurd (cc)
at_home slot r (Some c) home at = (c, refl, home)

-- the connection of a row that waits is in the board
pub home-of : (rows : List Row) (conns : List (Option SeenConn)) (slot : ℕ) (r : Row)
    → AreHome rows conns → slice_get rows slot ≡ Some r → is_parked r.place ≡ true
    → (x : SeenConn) × (conn_at conns slot ≡ Some x) × IsAtHome slot r x
home-of rows conns slot r are at home = at_home slot r (conn_at conns slot) (are.homes slot r at) home

-- one that waits for something is as what its row waited for
pub parked-settled : (p : Place) (r : Row) (c : SeenConn) → is_parked p ≡ true → KindFits p r → IsHeldHere p r c → IsSettledFrom r.from r.cause c
parked-settled (Parked kind) r c at fits here = subst (λ (k : Option Kind). IsSettledFrom k r.cause c) (sym fits.own) here
parked-settled p r c at fits here = absurd (cc)

-- ## Rows that change

-- a row that is not at home changes, and is not at home
there_away : RowsChangeOneAtATime → (rows : List Row) (conns : List (Option SeenConn)) (queues : List (Option ParkedName)) (slot : ℕ) (r : Row) (change : Row → Row) (ended ended' room room' : ℕ)
    → AreThere rows conns queues ended room → slice_get rows slot ≡ Some r → is_parked r.place ≡ false → is_parked (change r).place ≡ false
    → ended' + count_by is_live (update rows slot change) ≤ room'
    → AreThere (update rows slot change) conns queues ended' room'
there_away law rows conns queues slot r change ended ended' room room' there at away away' space =
    let none : conn_at conns slot ≡ None = homeless slot r (conn_at conns slot) (there.waiting.homes slot r at) away in
    let same : set conns slot None ≡ conns = ap (λ (c : Option SeenConn). set conns slot c) (sym none) ∙ set-get_or conns slot None in
    let same' : set queues slot None ≡ queues = queues-away queues rows slot r there.queued at away in
    subst (λ (qs : List (Option ParkedName)). AreThere (update rows slot change) conns qs ended' room') same'
    (subst (λ (cs : List (Option SeenConn)). AreThere (update rows slot change) cs (set queues slot None) ended' room') same
    (there_set law rows conns queues slot r change None None ended ended' room room' there at away' (away-waits (change r).place (change r) away') space))

-- what a row counts for
abbrev pub weight : Bool → ℕ
weight b = cond b 1 0

-- one, where it passes
pub weight-true : (b : Bool) → b ≡ true → weight b ≡ 1
weight-true true e = refl
weight-true false e = absurd (cc)

-- nothing, where it doesn't
weight-false : (b : Bool) → b ≡ false → weight b ≡ 0
weight-false true e = absurd (cc)
weight-false false e = refl

-- as many rows are live
live-same : (rows : List Row) (slot : ℕ) (r : Row) (change : Row → Row) → slice_get rows slot ≡ Some r
    → is_live r ≡ true → is_live (change r) ≡ true → count_by is_live (update rows slot change) ≡ count_by is_live rows
live-same rows slot r change at live live' =
    let count = count-update is_live rows slot r change at in
    let one = weight-true (is_live r) live in
    let one' = weight-true (is_live (change r)) live' in
    omega (arith, count, one, one')

-- one row less is live
live-less : (rows : List Row) (slot : ℕ) (r : Row) (change : Row → Row) → slice_get rows slot ≡ Some r
    → is_live r ≡ true → is_live (change r) ≡ false → count_by is_live (update rows slot change) + 1 ≡ count_by is_live rows
live-less rows slot r change at live dead =
    let count = count-update is_live rows slot r change at in
    let one = weight-true (is_live r) live in
    let none = weight-false (is_live (change r)) dead in
    omega (arith, count, one, none)

-- ## The events

-- a slot whose row passes a test has a row
pub row_at : (test : Row → Bool) (o : Option Row) → option_map_or test o false ≡ true → (r : Row) × (o ≡ Some r) × (test r ≡ true)
row_at test None passes = absurd (cc)
row_at test (Some r) passes = (r, refl, passes)

-- a connection is taken into a vacant slot, once there is room for the end of each
pub accept-there : RowsChangeOneAtATime → (s : State) (slot : ℕ) (conns : List (Option SeenConn)) (queues : List (Option ParkedName)) (ended room room' : ℕ)
    → is_allowed s (event.Accept slot) ≡ true → AreThere s.rows conns queues ended room → ended + (count_by is_live s.rows + 1) ≤ room'
    → AreThere (next s (event.Accept slot)).rows conns queues ended room'
accept-there law s slot conns queues ended room room' may there space =
    let both = and_parts (is_serving s.going && is_vacant_at s slot) (is_some (pick_child s)) may in
    let vacant : is_vacant_at s slot ≡ true = (and_parts (is_serving s.going) (is_vacant_at s slot) both.0).1 in
    let found = row_at (λ (r : Row). is_vacant r.place) (slice_get s.rows slot) vacant in
    let few = law.more is_live s.rows slot (taken_row s) in
    there_away law s.rows conns queues slot found.0 (taken_row s) ended ended room room' there found.1 (vacant-away found.0.place found.2) refl
    (omega (arith, few, space))

-- a connection waits, and is as one that waits so
pub park-there : RowsChangeOneAtATime → (s : State) (name : ConnName) (kind : Kind) (conns : List (Option SeenConn)) (queues : List (Option ParkedName)) (c : SeenConn) (r : Row) (ended room : ℕ)
    → is_allowed s (event.Park name kind) ≡ true → AreThere s.rows conns queues ended room → live_row s.rows name ≡ Some r → c.name ≡ name
    → Fits c r → IsSettled kind r.cause c → AreBacked (r.waits ++ kind ∷ []) c.counts
    → AreThere (next s (event.Park name kind)).rows (set conns name.slot (Some c)) (set queues name.slot (waits_in (parked_row s kind r))) ended room
park-there law s name kind conns queues c r ended room may there found name_is fits settled backed =
    let lives = lives_as s.rows name (may_wait s.moment kind) (and_parts (not (is_halted s.going)) (lives_and (may_wait s.moment kind) s.rows name) may).1 in
    let same : r ≡ lives.row = cc (lives.found, found) in
    let count = live-same s.rows name.slot lives.row (parked_row s kind) lives.at lives.live refl in
    let fits' : Fits c lives.row = subst (λ (x : Row). Fits c x) same fits in
    let named : c.name ≡ record { slot = name.slot; life = lives.row.life } = name_is ∙ ap (λ (n : ℕ). record { slot = name.slot; life = n }) (sym lives.life) in
    there_set law s.rows conns queues name.slot lives.row (parked_row s kind) (Some c) (waits_in (parked_row s kind r)) ended ended room room there lives.at
    (record {
      name = named;
      fits = record { child = fits'.child; generation = fits'.generation; notes = fits'.notes; rank = fits'.rank; backed = subst (λ (x : Row). AreBacked (x.waits ++ kind ∷ []) c.counts) same backed };
      here = subst (λ (x : Row). IsSettled kind x.cause c) same settled;
    })
    (ap (λ (x : Row). waits_in (parked_row s kind x)) (sym same))
    (omega (arith, count, there.has_room))

-- a row that lingers so waits for no cause but its own
lingering-settled : (why : Cause) (c : SeenConn) (short : Bool) → LingersFor why c → IsConn c
    → IsSettled (if short then ShortLinger else Linger) (Some why) c
lingering-settled why c true waits is = record { waits = waits.shows.usable; way = waits; is_conn = is }
lingering-settled why c false waits is = record { waits = waits.shows.usable; way = waits; is_conn = is }

-- what a live row is that may linger
pub linger-lives : (s : State) (name : ConnName) (why : Cause) → is_allowed s (event.Linger name why) ≡ true
    → LivesAs s.rows name (λ r. not (is_lingering r) && linger_cause_fits s why (is_signalled s name.slot) r)
linger-lives s name why may = lives_as s.rows name (λ r. not (is_lingering r) && linger_cause_fits s why (is_signalled s name.slot) r) may

-- a connection lingers, for a cause that it shows
pub linger-there : RowsChangeOneAtATime → (s : State) (name : ConnName) (why : Cause) (conns : List (Option SeenConn)) (queues : List (Option ParkedName)) (c : SeenConn) (r : Row) (ended room : ℕ)
    → is_allowed s (event.Linger name why) ≡ true → AreThere s.rows conns queues ended room → live_row s.rows name ≡ Some r → c.name ≡ name
    → Fits c r → LingersFor why c → IsConn c
    → AreThere (next s (event.Linger name why)).rows (set conns name.slot (Some c)) (set queues name.slot (waits_in (lingering_row s why r))) ended room
linger-there law s name why conns queues c r ended room may there found name_is fits waits is =
    let lives = linger-lives s name why may in
    let same : r ≡ lives.row = cc (lives.found, found) in
    let count = live-same s.rows name.slot lives.row (lingering_row s why) lives.at lives.live refl in
    let fits' : Fits c lives.row = subst (λ (x : Row). Fits c x) same fits in
    let named : c.name ≡ record { slot = name.slot; life = lives.row.life } = name_is ∙ ap (λ (n : ℕ). record { slot = name.slot; life = n }) (sym lives.life) in
    there_set law s.rows conns queues name.slot lives.row (lingering_row s why) (Some c) (waits_in (lingering_row s why r)) ended ended room room there lives.at
    (record {
      name = named;
      fits = record { child = fits'.child; generation = fits'.generation; notes = fits'.notes; rank = fits'.rank; backed = fits'.backed };
      here = lingering-settled why c lives.row.short waits is;
    })
    (ap (λ (x : Row). waits_in (lingering_row s why x)) (sym same))
    (omega (arith, count, there.has_room))

-- the listener takes a connection that waits
pub hold-there : RowsChangeOneAtATime → (s : State) (name : ConnName) (conns : List (Option SeenConn)) (queues : List (Option ParkedName)) (ended room : ℕ)
    → is_allowed s (event.Hold name) ≡ true → AreThere s.rows conns queues ended room
    → AreThere (next s (event.Hold name)).rows (set conns name.slot None) (set queues name.slot None) ended room
hold-there law s name conns queues ended room may there =
    let lives = lives_as s.rows name (may_be_held s (is_signalled s name.slot)) may in
    let count = live-same s.rows name.slot lives.row held_row lives.at lives.live refl in
    there_set law s.rows conns queues name.slot lives.row held_row None None ended ended room room there lives.at refl refl
    (omega (arith, count, there.has_room))

-- what may be handed to the workers waits for something
pub queue-parked : (s : State) (r : Row) → may_be_queued s r ≡ true → is_parked r.place ≡ true
queue-parked s r may =
    let parts = and_parts (is_parked r.place && not (is_lingering r)) (nat_lt (carried_count s.rows r.child) (child_of s r).shape.threads) may in
    (and_parts (is_parked r.place) (not (is_lingering r)) parts.0).0

-- a connection that waits is handed to the workers of its child
pub queue-there : RowsChangeOneAtATime → (s : State) (name : ConnName) (conns : List (Option SeenConn)) (queues : List (Option ParkedName)) (ended room : ℕ)
    → is_allowed s (event.Queue name) ≡ true → AreThere s.rows conns queues ended room
    → AreThere (next s (event.Queue name)).rows (set conns name.slot None) (set queues name.slot None) ended room
queue-there law s name conns queues ended room may there =
    let lives = lives_as s.rows name (may_be_queued s)
    (and_parts (not (is_halted s.going) && is_signalled s name.slot) (lives_and (may_be_queued s) s.rows name) may).1 in
    let count = live-same s.rows name.slot lives.row queued_row lives.at lives.live refl in
    there_set law s.rows conns queues name.slot lives.row queued_row None None ended ended room room there lives.at refl refl
    (omega (arith, count, there.has_room))

-- a worker begins to serve a connection that was handed out
pub start-there : RowsChangeOneAtATime → (s : State) (name : ConnName) (conns : List (Option SeenConn)) (queues : List (Option ParkedName)) (ended room : ℕ)
    → is_allowed s (event.Start name) ≡ true → AreThere s.rows conns queues ended room
    → AreThere (next s (event.Start name)).rows conns queues ended room
start-there law s name conns queues ended room may there =
    let lives = lives_as s.rows name (λ (r : Row). is_queued r.place) may in
    let count = live-same s.rows name.slot lives.row (served_row s) lives.at lives.live refl in
    there_away law s.rows conns queues name.slot lives.row (served_row s) ended ended room room there lives.at (queued-away lives.row.place lives.passes) refl
    (omega (arith, count, there.has_room))

-- the phase of the worker that sends the response
abbrev pub answer_phase : State → Ask → Row → Phase
answer_phase s ask r = if is_last_for s ask r then phase.Close else phase.Write

-- a response is decided
pub answer-there : RowsChangeOneAtATime → (s : State) (name : ConnName) (ask : Ask) (conns : List (Option SeenConn)) (queues : List (Option ParkedName)) (ended room : ℕ)
    → is_allowed s (event.Answer name ask) ≡ true → AreThere s.rows conns queues ended room
    → AreThere (next s (event.Answer name ask)).rows conns queues ended room
answer-there law s name ask conns queues ended room may there =
    let lives = lives_as s.rows name (λ (r : Row). is_working r.place && not r.last)
    (and_parts (not (is_halted s.going)) (lives_and (λ (r : Row). is_working r.place && not r.last) s.rows name) may).1 in
    let r = lives.row in
    let away = working-away r.place (and_parts (is_working r.place) (not r.last) lives.passes).0 in
    let count = live-same s.rows name.slot r (answered_row s name.slot ask) lives.at lives.live
    (ap not (in_phase-unused (answer_phase s ask r) r.place) ∙ lives.live) in
    there_away law s.rows conns queues name.slot r (answered_row s name.slot ask) ended ended room room there lives.at away
    (in_phase-home (answer_phase s ask r) r.place ∙ away) (omega (arith, count, there.has_room))

-- a connection ends, which takes the room that was left for it
pub close-there : RowsChangeOneAtATime → (s : State) (name : ConnName) (why : Cause) (how : Tail) (conns : List (Option SeenConn)) (queues : List (Option ParkedName)) (ended room room' : ℕ)
    → is_allowed s (event.Close name why how) ≡ true → AreThere s.rows conns queues ended room → room ≤ room'
    → AreThere (next s (event.Close name why how)).rows conns queues (ended + 1) room'
close-there law s name why how conns queues ended room room' may there more =
    let lives = lives_as s.rows name (λ (r : Row). (is_held r.place || is_working r.place) && end_fits s why how r) may in
    let r = lives.row in
    let in_hand = (and_parts (is_held r.place || is_working r.place) (end_fits s why how r) lives.passes).0 in
    let dead = closed-away r in
    let count = live-less s.rows name.slot r closed_row lives.at lives.live dead.1 in
    there_away law s.rows conns queues name.slot r closed_row ended (ended + 1) room room' there lives.at (in_hand-away r.place in_hand)
    dead.0 (omega (arith, count, there.has_room, more))

-- the board has no connection of a row that may be closed
pub close-away : (s : State) (name : ConnName) (why : Cause) (how : Tail) (conns : List (Option SeenConn))
    → is_allowed s (event.Close name why how) ≡ true → AreHome s.rows conns → conn_at conns name.slot ≡ None
close-away s name why how conns may are =
    let lives = lives_as s.rows name (λ (r : Row). (is_held r.place || is_working r.place) && end_fits s why how r) may in
    let r = lives.row in
    let in_hand = (and_parts (is_held r.place || is_working r.place) (end_fits s why how r) lives.passes).0 in
    homeless name.slot r (conn_at conns name.slot) (are.homes name.slot r lives.at) (in_hand-away r.place in_hand)

-- before a close there is room for the one that ends
pub close-room : (s : State) (name : ConnName) (why : Cause) (how : Tail) (conns : List (Option SeenConn)) (queues : List (Option ParkedName)) (ended room : ℕ)
    → is_allowed s (event.Close name why how) ≡ true → AreThere s.rows conns queues ended room → ended < room
close-room s name why how conns queues ended room may there =
    let lives = lives_as s.rows name (λ (r : Row). (is_held r.place || is_working r.place) && end_fits s why how r) may in
    let count = live-less s.rows name.slot lives.row closed_row lives.at lives.live (closed-away lives.row).1 in
    omega (arith, count, there.has_room)

-- ## The opening state

-- no unused row is live
none-live : (n : ℕ) → count_by is_live (replicate n unused_row) ≡ 0
none-live zero = refl
none-live (suc n) = omega (arith, sum_by-cons (λ (r : Row). cond (is_live r) 1 0) unused_row (replicate n unused_row), none-live n)

-- none of them waits
none-waits : (n : ℕ) → replicate n None ≡ queues_of (replicate n unused_row)
none-waits zero = refl
none-waits (suc n) = ap (λ (qs : List (Option ParkedName)). None ∷ qs) (none-waits n)

-- at first no row waits, and no slot has a connection
pub opening-there : (slots room : ℕ) → AreThere (replicate slots unused_row) (replicate slots None) (replicate slots None) 0 room
opening-there slots room = record {
  waiting = record {
    slots = length-replicate slots None ∙ sym (length-replicate slots unused_row);
    homes = λ slot r at.
        let same : unused_row ≡ r = get-replicate slots slot unused_row r at in
        rw (get_or-alike {X = Option SeenConn} slots slot None) (subst (λ (x : Row). is_parked x.place ≡ false) same refl);
  };
  queued = none-waits slots;
  has_room = omega (arith, none-live slots);
}
