-- A response that is decided, and its connection.
use Rattle.std.proofs.Common.{◌≡◌, ℕ, zero, suc, ◌+◌, ◌-◌, ◌*◌, ◌<◌, Bool, true, false, if◌then◌else◌, not, ◌&&◌, List, [], ◌∷◌, ◌++◌, length, Some, slice_get, refl, sym, ap, subst, ◌∙◌, inr, arith}
use Rattle.std.proofs.lemmas.List.{length_push, map-append}
use Rattle.mpm_base.specs.Notes.{says_last}
use Rattle.mpm_base.specs.declared.conn.Ask.{Ask}
use Rattle.mpm_base.specs.declared.conn.ConnName.{ConnName}
use Rattle.mpm_base.specs.declared.conn.Cause.TheVariants as cause
use Rattle.mpm_base.specs.declared.conn.Tail.TheVariants as tail
use Rattle.mpm_base.specs.declared.note.Note.{Note}
use Rattle.conn_machine.specs.declared.row.Phase.{Phase}
use Rattle.conn_machine.specs.declared.row.Place.{Place}
use Rattle.conn_machine.specs.declared.row.Place.TheVariants.{Vacant, Spent, Held, Parked, Queued, Working}
use Rattle.conn_machine.specs.declared.row.Row.{Row}
use Rattle.conn_machine.specs.declared.event.Event.TheVariants as event
use Rattle.conn_machine.specs.declared.state.State.{State}
use Rattle.conn_machine.specs.Lists.{update}
use Rattle.conn_machine.specs.Rows.{is_working, is_live, is_live_as, in_phase, row_where, live_row}
use Rattle.conn_machine.specs.States.{is_halted, child_of}
use Rattle.conn_machine.specs.Table.{is_allowed, next, note_for, answered_row}
use Rattle.conn_machine.specs.Sound.{IsSound}
use Rattle.conn_state.specs.declared.turn.LastTurn.{LastTurn}
use Rattle.conn_state.specs.declared.turn.LastTurn.TheVariants as last_turn
use Rattle.conn_state.specs.Rest.{is_awaited}
use Rattle.conn_state.specs.Conn.{SeenConn, TurnFits, IsConn, is_half_closed}
use Rattle.conn_state.specs.Turns.{TakesNote}
use Rattle.board_book.specs.Book.{SeenBook, row_in}
use Rattle.board_book.specs.Decided.{IsDecided}
use Rattle.worker_group.specs.Acts.{Acts}
use Rattle.worker_group.specs.InHand.{IsClosable}
use Rattle.worker_group.specs.InHandInside.{IsServed, answers_left, sends_left}
use Rattle.worker_group.specs.Service.{answer_events}
use Rattle.worker_group.proofs.ActsLemmas.{acts_as, acts_more, acts_same}
use Rattle.worker_group.proofs.ServeLemmas.{alive, test-at, served-row, served-stays, row-open, working-in_hand, ends-direct}

-- the connection was asked for something, and its last response wasn't decided
pub asked-open : (c : SeenConn) (ask : Ask) → IsConn c → c.turn ≡ last_turn.Asked ask → says_last c.notes ≡ false
asked-open c ask is asked = (subst (λ (u : LastTurn). TurnFits u c is.rest) asked is.turn_fits).goes_on

-- a response may be decided for it
pub may-answer : (s : State) (c : SeenConn) (name : ConnName) (ask : Ask) → IsSound s → IsServed s c → says_last c.notes ≡ false → name ≡ c.name
    → is_halted s.going ≡ false → is_allowed s (event.Answer name ask) ≡ true
may-answer s c name ask sound served goes_on named going =
    let answers : (is_working served.row.place && not served.row.last) ≡ true =
    rw (served.working, row-open s c sound served goes_on) refl in
    let passes = test-at s.rows c.name served.row (λ (r : Row). is_working r.place && not r.last) served.found ∙ answers in
    rw (named, going, passes) refl

-- ## The row of the response

-- the changed row stands in its slot
get-changed : (rows : List Row) (slot : ℕ) (r : Row) (change : Row → Row) → slice_get rows slot ≡ Some r → slice_get (update rows slot change) slot ≡ Some (change r)
get-changed [] slot r change at = absurd (cc)
get-changed (x ∷ rows) zero r change at =
    let same : x ≡ r = cc in
    ap (λ (y : Row). Some (change y)) same
get-changed (x ∷ rows) (suc slot) r change at = get-changed rows slot r change at

-- the changed row of a name that stays live is found by it
pub live_row-update : (rows : List Row) (name : ConnName) (r : Row) (change : Row → Row) → slice_get rows name.slot ≡ Some r
    → is_live_as name (change r) ≡ true → live_row (update rows name.slot change) name ≡ Some (change r)
live_row-update rows name r change at named =
    ap (row_where (is_live_as name)) (get-changed rows name.slot r change at) ∙ rw named refl

-- a worker goes on to another phase
in_phase-working : (next : Phase) (p : Place) → is_working p ≡ true → is_working (in_phase next p) ≡ true
in_phase-working next Vacant at = absurd (cc)
in_phase-working next Spent at = absurd (cc)
in_phase-working next Held at = absurd (cc)
in_phase-working next (Parked kind) at = absurd (cc)
in_phase-working next Queued at = absurd (cc)
in_phase-working next (Working cell phase) at = refl

-- a row that is served is live
working-live : (r : Row) (p : Place) → r.place ≡ p → is_working p ≡ true → is_live r ≡ true
working-live r Vacant is at = absurd (cc)
working-live r Spent is at = absurd (cc)
working-live r Held is at = absurd (cc)
working-live r (Parked kind) is at = absurd (cc)
working-live r Queued is at = absurd (cc)
working-live r (Working cell phase) is at = rw is refl

-- what was decided for the connection is that of its row
decided-row : (s : State) (c : SeenConn) (name : ConnName) (ask : Ask) (note : Note) → (served : IsServed s c) → name ≡ c.name → IsDecided s name ask note
    → note ≡ note_for s c.name.slot ask served.row
decided-row s c name ask note served named decided =
    let found' = subst (λ (n : ConnName). live_row s.rows n ≡ Some decided.row) named decided.found in
    let same : decided.row ≡ served.row = cc (found', served.found) in
    decided.note_is ∙ ap (λ (n : ConnName). note_for s n.slot ask decided.row) named ∙ ap (note_for s c.name.slot ask) same

-- it is found after the response was decided
answered-found : (s : State) (c : SeenConn) (ask : Ask) → (served : IsServed s c)
    → live_row (next s (event.Answer c.name ask)).rows c.name ≡ Some (answered_row s c.name.slot ask served.row)
answered-found s c ask served =
    let lives = alive s.rows c.name served.row served.found in
    let works = in_phase-working _ served.row.place served.working in
    let named : is_live_as c.name (answered_row s c.name.slot ask served.row) ≡ true =
    rw (working-live (answered_row s c.name.slot ask served.row) _ refl works, lives.life) refl in
    live_row-update s.rows c.name served.row (answered_row s c.name.slot ask) lives.at named

-- the row has the note behind those that it had
answered-notes : (s : State) (c : SeenConn) (name : ConnName) (ask : Ask) (note : Note) → (served : IsServed s c) → name ≡ c.name → IsDecided s name ask note
    → (answered_row s c.name.slot ask served.row).notes ≡ c.notes ++ note ∷ []
answered-notes s c name ask note served named decided =
    ap (λ (n : Note). served.row.notes ++ n ∷ []) (sym (decided-row s c name ask note served named decided))
    ∙ ap (λ (ns : List Note). ns ++ note ∷ []) (sym served.fits.notes)

-- ## The connection

-- the connection took the note, and is served on
pub served-answered : (s s' : State) (c c' : SeenConn) (name : ConnName) (ask : Ask) (note : Note) → IsServed s c → name ≡ c.name → IsDecided s name ask note
    → s' ≡ next s (event.Answer name ask) → TakesNote note c c' → IsServed s' c'
served-answered s s' c c' name ask note served named decided is answers =
    let is' : s' ≡ next s (event.Answer c.name ask) = is ∙ ap (λ (n : ConnName). next s (event.Answer n ask)) named in
    subst (λ (t : State). IsServed t c') (sym is')
    (subst (λ (x : SeenConn). IsServed (next s (event.Answer c.name ask)) x) (sym answers.new_is)
    (record {
      row = answered_row s c.name.slot ask served.row;
      found = answered-found s c ask served;
      working = in_phase-working _ served.row.place served.working;
      fits = record {
        child = served.fits.child;
        generation = served.fits.generation;
        notes = sym (answered-notes s c name ask note served named decided);
        rank = served.fits.rank;
        backed = served.fits.backed;
      };
      usable = refl;
      open_side = served.open_side;
    }))

-- memory lacked for the response, and the connection may be closed for that
pub closes-unanswered : (s s' : State) (c c' : SeenConn) (name : ConnName) (ask : Ask) (note : Note) → IsSound s → IsServed s c → name ≡ c.name
    → IsDecided s name ask note → s' ≡ next s (event.Answer name ask) → c' ≡ record c { turn = last_turn.NoMemory } → IsClosable s' cause.NoMemory tail.Direct c'
closes-unanswered s s' c c' name ask note sound served named decided is left =
    let is' : s' ≡ next s (event.Answer c.name ask) = is ∙ ap (λ (n : ConnName). next s (event.Answer n ask)) named in
    subst (λ (t : State). IsClosable t cause.NoMemory tail.Direct c') (sym is')
    (subst (λ (x : SeenConn). IsClosable (next s (event.Answer c.name ask)) cause.NoMemory tail.Direct x) (sym left)
    (record {
      row = answered_row s c.name.slot ask served.row;
      found = answered-found s c ask served;
      in_hand = working-in_hand _ (in_phase-working _ served.row.place served.working);
      end_fits =
          ends-direct (next s (event.Answer c.name ask)) cause.NoMemory (answered_row s c.name.slot ask served.row)
          (served-stays s c.name served.row sound served.found served.working) refl;
      child = served.fits.child;
      generation = served.fits.generation;
      notes = inr (note, answered-notes s c name ask note served named decided);
      rank = served.fits.rank;
      backed = served.fits.backed;
      shown = record { shows = tt; left = ap is_half_closed served.open_side };
    }))

-- one less is left of a number that isn't used up
one-less : (most n m : ℕ) → n < most → m ≡ n + 1 → most - m < most - n
one-less most n m less is = omega (arith, less, is)

-- the child allows one response less
fewer-allowed : (s s' : State) (c c' : SeenConn) (name : ConnName) (ask : Ask) (note : Note) → IsSound s → IsServed s c → says_last c.notes ≡ false
    → s' ≡ next s (event.Answer name ask) → TakesNote note c c' → answers_left s' c' < answers_left s c
fewer-allowed s s' c c' name ask note sound served goes_on is answers =
    let room : length served.row.notes < (child_of s served.row).shape.most =
    (served-row s c.name served.row sound served.found).notes.fewer (row-open s c sound served goes_on) in
    let room' : length c.notes < (child_of s served.row).shape.most = subst (λ (ns : List Note). length ns < (child_of s served.row).shape.most) (sym served.fits.notes) room in
    let here : length c.notes < (child_of s (record served.row { child = c.child })).shape.most =
    subst (λ (k : ℕ). length c.notes < (child_of s (record served.row { child = k })).shape.most) (sym served.fits.child) room' in
    subst (λ (t : State). answers_left t c' < answers_left s c) (sym is)
    (subst (λ (x : SeenConn). answers_left (next s (event.Answer name ask)) x < answers_left s c) (sym answers.new_is)
    (one-less (child_of s (record served.row { child = c.child })).shape.most (length c.notes) (length (c.notes ++ note ∷ [])) here (length_push c.notes note)))

-- with one response less there is less to send, whether or not the client of the next request was told to send its body
less-sent : (n m : ℕ) (told told' : Bool) → m < n → 2 * m + (if told' then 0 else 1) < 2 * n + (if told then 0 else 1)
less-sent n m true true less = omega (arith, less)
less-sent n m true false less = omega (arith, less)
less-sent n m false true less = omega (arith, less)
less-sent n m false false less = omega (arith, less)

-- less is left to send
pub fewer-answered : (s s' : State) (c c' : SeenConn) (name : ConnName) (ask : Ask) (note : Note) → IsSound s → IsServed s c → says_last c.notes ≡ false
    → s' ≡ next s (event.Answer name ask) → TakesNote note c c' → sends_left s' c' < sends_left s c
fewer-answered s s' c c' name ask note sound served goes_on is answers =
    less-sent (answers_left s c) (answers_left s' c') (is_awaited c.reader.stage) (is_awaited c'.reader.stage)
    (fewer-allowed s s' c c' name ask note sound served goes_on is answers)

-- what is left to send goes by the child, the responses, and whether the client was told
pub sends-same : (s : State) (c c' : SeenConn) → c'.child ≡ c.child → c'.notes ≡ c.notes → is_awaited c'.reader.stage ≡ is_awaited c.reader.stage
    → sends_left s c' ≡ sends_left s c
sends-same s c c' child notes told = rw (child, notes, told) refl

-- once the client is told to send the body, less is left
pub fewer-told : (s : State) (c c' : SeenConn) → c'.child ≡ c.child → c'.notes ≡ c.notes → is_awaited c.reader.stage ≡ false
    → is_awaited c'.reader.stage ≡ true → sends_left s c' < sends_left s c
fewer-told s c c' child notes untold told = rw (child, notes, untold, told) (omega (arith))

-- ## The events

-- no response was decided, and the pass has the connection still
pub answers_none : (who : ℕ) (name : ConnName) (b b' : SeenBook) → b' ≡ b → row_in who b ≡ Some name
    → (asks : List Ask) × Acts who (answer_events name asks) (Some name) b b'
answers_none who name b b' same row = ([], acts_same who (Some name) b b' same row)

-- responses were decided, and more of them
pub answers_more : (who : ℕ) (name name' : ConnName) (a b c : SeenBook) → name' ≡ name
    → (asks : List Ask) × Acts who (answer_events name asks) (Some name) a b
    → (asks : List Ask) × Acts who (answer_events name' asks) (Some name') b c
    → (asks : List Ask) × Acts who (answer_events name asks) (Some name) a c
answers_more who name name' a b c same first second =
    let behind : Acts who (answer_events name second.0) (Some name) b c =
    subst (λ (n : ConnName). Acts who (answer_events n second.0) (Some n) b c) same second.1 in (
      first.0 ++ second.0,
      acts_as who (answer_events name first.0 ++ answer_events name second.0) (answer_events name (first.0 ++ second.0)) (Some name) (Some name) a c
          (acts_more who (answer_events name first.0) (answer_events name second.0) (Some name) (Some name) a b c first.1 behind)
          (sym (map-append (event.Answer name) first.0 second.0)) refl,
    )
