-- What a worker may do with the connection that it serves.
use Rattle.std.proofs.Common.{◌≡◌, ◌⊎◌, ◌==◌, ℕ, ◌<◌, Bool, true, false, not, ◌&&◌, ◌||◌, cond, List, length, Option, None, Some, is_none, is_some, option_map, IfSome, slice_get, refl, sym, ap, subst, ◌∙◌, inl, inr, arith}
use Rattle.std.proofs.lemmas.Bool.{and_parts}
use Rattle.std.proofs.lemmas.Bool.Decides.{nat_tests}
use Rattle.std.specs.Option.{option_and_then, option_map_or}
use Rattle.mpm_base.specs.Link.{LinkTold}
use Rattle.mpm_base.specs.Count.{Rises}
use Rattle.mpm_base.specs.Notes.{says_last}
use Rattle.mpm_base.specs.declared.conn.ConnName.{ConnName}
use Rattle.mpm_base.specs.declared.conn.Kind.{Kind}
use Rattle.mpm_base.specs.declared.conn.Kind.TheVariants.{Reading, KeepAlive, Writing, Linger, ShortLinger}
use Rattle.mpm_base.specs.declared.conn.Cause.{Cause}
use Rattle.mpm_base.specs.declared.conn.Cause.TheVariants as cause
use Rattle.mpm_base.specs.declared.conn.Tail.TheVariants as tail
use Rattle.mpm_base.specs.declared.note.Note.{Note}
use Rattle.conn_machine.specs.declared.row.Place.{Place}
use Rattle.conn_machine.specs.declared.row.Place.TheVariants.{Vacant, Spent, Held, Parked, Queued, Working}
use Rattle.conn_machine.specs.declared.row.Row.{Row}
use Rattle.conn_machine.specs.declared.event.Event.TheVariants as event
use Rattle.conn_machine.specs.declared.state.State.{State}
use Rattle.conn_machine.specs.Rows.{is_held, is_working, is_live, is_lingering, is_live_as, has_note, row_where, live_row, lives_and}
use Rattle.conn_machine.specs.States.{is_halted, child_of}
use Rattle.conn_machine.specs.Table.{is_allowed, may_wait, direct_cause_fits, end_fits}
use Rattle.conn_machine.specs.Sound.{IsSound, KindFits, IsInService, HasSoundNotes}
use Rattle.conn_state.specs.declared.turn.LastTurn.{LastTurn}
use Rattle.conn_state.specs.declared.turn.LastTurn.TheVariants as last_turn
use Rattle.conn_state.specs.declared.turn.WriteTurn.{WriteTurn}
use Rattle.conn_state.specs.declared.turn.WriteTurn.TheVariants as write
use Rattle.conn_state.specs.declared.turn.ReadTurn.{ReadTurn}
use Rattle.conn_state.specs.declared.turn.ReadTurn.TheVariants as read
use Rattle.conn_state.specs.Conn.{SeenConn, is_half_closed, is_usable, TurnFits, IsConn}
use Rattle.conn_state.specs.Answered.{ShowsAtOnce}
use Rattle.conn_state.specs.Turns.{WritesOn, ReadsOn, after_writing, after_reading, is_more}
use Rattle.conn_state.specs.Writing.{is_not_ready}
use Rattle.board_book.specs.Finds.{cause_of}
use Rattle.board.specs.Fits.{Fits, FoundNoMore, WaitsAs, NotesEnd}
use Rattle.worker_group.specs.InHand.{IsInHand, IsClosable}
use Rattle.worker_group.specs.InHandInside.{IsServed}
use Rattle.worker_group.specs.ServiceInside.{MayWaitFor}
use Rattle.worker_group.proofs.BackedLemmas.{backed-on, never-falls, stays-there}

-- ## The row of a name

-- the row lives in the slot of the name, with its life
pub record IsAlive (rows : List Row) (name : ConnName) (row : Row) : Type 0 where
  pub at : slice_get rows name.slot ≡ Some row
  pub live : is_live row ≡ true
  pub life : (row.life == name.life) ≡ true

-- a row that was read and passes the test of the name
named-alive : (rows : List Row) (name : ConnName) (r row : Row) (b : Bool) → slice_get rows name.slot ≡ Some r → is_live_as name r ≡ b
    → cond b (Some r) None ≡ Some row → IsAlive rows name row
named-alive rows name r row true at named is =
    let same : r ≡ row = cc in
    let parts = and_parts (is_live r) (r.life == name.life) named in
    subst (IsAlive rows name) same (record { at = at; live = parts.0; life = parts.1 })
named-alive rows name r row false at named is = absurd (cc)

found-alive : (rows : List Row) (name : ConnName) (row : Row) (o : Option Row) → slice_get rows name.slot ≡ o
    → row_where (is_live_as name) o ≡ Some row → IsAlive rows name row
found-alive rows name row None at is = absurd (cc)
found-alive rows name row (Some r) at is = named-alive rows name r row (is_live_as name r) at refl is

-- the row of a connection that lives
pub alive : (rows : List Row) (name : ConnName) (row : Row) → live_row rows name ≡ Some row → IsAlive rows name row
alive rows name row found = found-alive rows name row (slice_get rows name.slot) refl found

-- a test of a row that is known
pub test-at : (rows : List Row) (name : ConnName) (row : Row) (test : Row → Bool) → live_row rows name ≡ Some row
    → lives_and test rows name ≡ test row
test-at rows name row test found = ap (λ (o : Option Row). option_map_or test o false) found

-- ## What a sound state says of a row that is served

-- what it waited for fits its place, and its responses are sound
pub record IsSoundRow (s : State) (row : Row) : Type 0 where
  pub kind : KindFits row.place row
  pub notes : HasSoundNotes (child_of s row).shape.most row

-- it is a sound one
pub served-row : (s : State) (name : ConnName) (row : Row) → IsSound s → live_row s.rows name ≡ Some row → IsSoundRow s row
served-row s name row sound found =
    let lives = alive s.rows name row found in
    record { kind = sound.kinds name.slot row lives.at lives.live; notes = sound.notes name.slot row lives.at lives.live }

-- it is in service
in-service : (row : Row) (p : Place) → is_working p ≡ true → KindFits p row → IsInService row
in-service row Vacant working fits = absurd (cc)
in-service row Spent working fits = absurd (cc)
in-service row Held working fits = absurd (cc)
in-service row (Parked kind) working fits = absurd (cc)
in-service row Queued working fits = absurd (cc)
in-service row (Working cell phase) working fits = fits

-- it doesn't linger
pub served-stays : (s : State) (name : ConnName) (row : Row) → IsSound s → live_row s.rows name ≡ Some row → is_working row.place ≡ true
    → is_lingering row ≡ false
served-stays s name row sound found working = (in-service row row.place working (served-row s name row sound found).kind).stays

-- its last note says whether it was the last
pub row-last : (s : State) (name : ConnName) (row : Row) → IsSound s → live_row s.rows name ≡ Some row → row.last ≡ says_last row.notes
row-last s name row sound found = (served-row s name row sound found).notes.last

-- a worker has it
pub working-in_hand : (p : Place) → is_working p ≡ true → (is_held p || is_working p) ≡ true
working-in_hand Vacant at = absurd (cc)
working-in_hand Spent at = absurd (cc)
working-in_hand Held at = refl
working-in_hand (Parked kind) at = absurd (cc)
working-in_hand Queued at = absurd (cc)
working-in_hand (Working cell phase) at = refl

-- a connection that is served is in hand
pub in-hand : (s : State) (c : SeenConn) → IsSound s → IsServed s c → IsInHand s c
in-hand s c sound served = record {
  row = served.row;
  found = served.found;
  in_hand = working-in_hand served.row.place served.working;
  serves = served-stays s c.name served.row sound served.found served.working;
  fits = served.fits;
  open_side = ap is_half_closed served.open_side;
}

-- ## Turns

-- a change of what the link tells keeps its rank
pub rank-map : (change : LinkTold → LinkTold) (told told' : Option LinkTold) (n : ℕ) → ((t : LinkTold) → (change t).rank ≡ t.rank)
    → told' ≡ option_map change told → IfSome told (λ t. t.rank ≡ n) → IfSome told' (λ t. t.rank ≡ n)
rank-map change None told' n keeps is rank = subst (λ (o : Option LinkTold). IfSome o (λ t. t.rank ≡ n)) (sym is) tt
rank-map change (Some t) told' n keeps is rank = subst (λ (o : Option LinkTold). IfSome o (λ u. u.rank ≡ n)) (sym is) (keeps t ∙ rank)

-- a turn of writing leaves the connection that of its row
fits-written : (c c' : SeenConn) (answer : WriteTurn) (r : Row) → WritesOn c c' answer → Fits c r → Fits c' r
fits-written c c' answer r writes fits = record {
  child = writes.child ∙ fits.child;
  generation = writes.generation ∙ fits.generation;
  notes = writes.notes ∙ fits.notes;
  rank = rank-map _ c.told c'.told r.arrival (λ t. refl) writes.told fits.rank;
  backed =
      backed-on r.waits c.counts c'.counts (stays-there c.counts.late_reads c'.counts.late_reads writes.late_reads)
      (never-falls (is_not_ready answer) c.counts.late_writes c'.counts.late_writes writes.late_writes) fits.backed;
}

-- and so does a turn of reading
fits-read : (c c' : SeenConn) (answer : ReadTurn) (r : Row) → ReadsOn c c' answer → Fits c r → Fits c' r
fits-read c c' answer r reads fits = record {
  child = reads.child ∙ fits.child;
  generation = reads.generation ∙ fits.generation;
  notes = reads.notes ∙ fits.notes;
  rank = rank-map _ c.told c'.told r.arrival (λ t. refl) reads.told fits.rank;
  backed =
      backed-on r.waits c.counts c'.counts (never-falls (is_more answer) c.counts.late_reads c'.counts.late_reads reads.late_reads)
      (stays-there c.counts.late_writes c'.counts.late_writes reads.late_writes) fits.backed;
}

-- the connection that was written on is served on
pub served-written : (s : State) (c c' : SeenConn) (answer : WriteTurn) → IsServed s c → WritesOn c c' answer
    → is_usable (after_writing answer) ≡ true → IsServed s c'
served-written s c c' answer served writes usable = record {
  row = served.row;
  found = subst (λ (n : ConnName). live_row s.rows n ≡ Some served.row) (sym writes.name) served.found;
  working = served.working;
  fits = fits-written c c' answer served.row writes served.fits;
  usable = ap is_usable writes.turn ∙ usable;
  open_side = writes.linger ∙ served.open_side;
}

-- so is the connection that was read on
pub served-read : (s : State) (c c' : SeenConn) (answer : ReadTurn) → IsServed s c → ReadsOn c c' answer
    → is_usable (after_reading answer) ≡ true → IsServed s c'
served-read s c c' answer served reads usable = record {
  row = served.row;
  found = subst (λ (n : ConnName). live_row s.rows n ≡ Some served.row) (sym reads.name) served.found;
  working = served.working;
  fits = fits-read c c' answer served.row reads served.fits;
  usable = ap is_usable reads.turn ∙ usable;
  open_side = reads.linger ∙ served.open_side;
}

-- ## Closes

-- a row that doesn't linger is closed directly, for a cause that fits
pub ends-direct : (s : State) (why : Cause) (row : Row) → is_lingering row ≡ false → direct_cause_fits s why row ≡ true
    → end_fits s why tail.Direct row ≡ true
ends-direct s why row stays cause_fits = rw (stays, cause_fits) refl

-- a connection in hand with the notes of its row may be closed for a cause that it shows
pub closable : (s : State) (why : Cause) (c : SeenConn) → (hand : IsInHand s c) → direct_cause_fits s why hand.row ≡ true → ShowsAtOnce why c
    → NotesEnd why c.notes hand.row.notes → IsClosable s why tail.Direct c
closable s why c hand cause_fits shows notes = record {
  row = hand.row;
  found = hand.found;
  in_hand = hand.in_hand;
  end_fits = ends-direct s why hand.row hand.serves cause_fits;
  child = hand.fits.child;
  generation = hand.fits.generation;
  notes = notes;
  rank = hand.fits.rank;
  backed = hand.fits.backed;
  shown = record { shows = shows; left = hand.open_side };
}

-- a link that failed in a turn of writing shows it
pub rises-some : (old new : ℕ) → Rises old new → 0 < new
rises-some old new rises = grind (arith, rises.0, rises.1)

-- the connection after a turn of writing, in hand still
written-hand : (s : State) (c c' : SeenConn) (answer : WriteTurn) → IsSound s → (served : IsServed s c) → WritesOn c c' answer → IsInHand s c'
written-hand s c c' answer sound served writes = record {
  row = served.row;
  found = subst (λ (n : ConnName). live_row s.rows n ≡ Some served.row) (sym writes.name) served.found;
  in_hand = working-in_hand served.row.place served.working;
  serves = served-stays s c.name served.row sound served.found served.working;
  fits = fits-written c c' answer served.row writes served.fits;
  open_side = ap is_half_closed (writes.linger ∙ served.open_side);
}

-- and after a turn of reading
abbrev read-hand : (s : State) (c c' : SeenConn) (answer : ReadTurn) → IsSound s → (served : IsServed s c) → ReadsOn c c' answer → IsInHand s c'
read-hand s c c' answer sound served reads = record {
  row = served.row;
  found = subst (λ (n : ConnName). live_row s.rows n ≡ Some served.row) (sym reads.name) served.found;
  in_hand = working-in_hand served.row.place served.working;
  serves = served-stays s c.name served.row sound served.found served.working;
  fits = fits-read c c' answer served.row reads served.fits;
  open_side = ap is_half_closed (reads.linger ∙ served.open_side);
}

-- a link that failed in a turn of writing
pub closes-failed_write : (s : State) (c c' : SeenConn) → IsSound s → IsServed s c → WritesOn c c' write.LinkFailed
    → IsClosable s cause.LinkFailed tail.Direct c'
closes-failed_write s c c' sound served writes =
    let hand = written-hand s c c' write.LinkFailed sound served writes in
    closable s cause.LinkFailed c' hand refl (rises-some c.counts.faults c'.counts.faults writes.faults) hand.fits.notes

-- a link that failed in a turn of reading
pub closes-failed_read : (s : State) (c c' : SeenConn) → IsSound s → IsServed s c → ReadsOn c c' read.LinkFailed
    → IsClosable s cause.LinkFailed tail.Direct c'
closes-failed_read s c c' sound served reads =
    let hand = read-hand s c c' read.LinkFailed sound served reads in
    closable s cause.LinkFailed c' hand refl (rises-some c.counts.faults c'.counts.faults reads.faults) hand.fits.notes

-- memory lacked for what was read
pub closes-unread : (s : State) (c c' : SeenConn) → IsSound s → IsServed s c → ReadsOn c c' read.NoMemory → IsClosable s cause.NoMemory tail.Direct c'
closes-unread s c c' sound served reads =
    let hand = read-hand s c c' read.NoMemory sound served reads in
    closable s cause.NoMemory c' hand refl tt (inl hand.fits.notes)

-- the row of a connection whose last response wasn't decided, or was
pub row-decided : (s : State) (c : SeenConn) (b : Bool) → IsSound s → (served : IsServed s c) → says_last c.notes ≡ b → served.row.last ≡ b
row-decided s c b sound served says =
    row-last s c.name served.row sound served.found ∙ ap says_last (sym served.fits.notes) ∙ says

-- the row of a connection whose last response wasn't decided
pub row-open : (s : State) (c : SeenConn) → IsSound s → (served : IsServed s c) → says_last c.notes ≡ false → served.row.last ≡ false
row-open s c sound served goes_on = row-decided s c false sound served goes_on

-- the client sends no more
pub closes-done : (s : State) (c c' : SeenConn) → IsSound s → IsServed s c → says_last c.notes ≡ false → ReadsOn c c' read.Gone
    → IsClosable s cause.ClientDone tail.Direct c'
closes-done s c c' sound served goes_on reads =
    let hand = read-hand s c c' read.Gone sound served reads in
    let fits_cause : direct_cause_fits s cause.ClientDone served.row ≡ true = rw (served.working, row-open s c sound served goes_on) refl in
    closable s cause.ClientDone c' hand fits_cause reads.turn hand.fits.notes

-- ## Parks

-- a connection that waits for a request, or did, goes on
waits-on : (c : SeenConn) → IsConn c → (c.turn ≡ last_turn.New) ⊎ (c.turn ≡ last_turn.More) → says_last c.notes ≡ false
waits-on c is (inl new) =
    let untouched = subst (λ (u : LastTurn). TurnFits u c is.rest) new is.turn_fits in
    ap says_last untouched.none_noted
waits-on c is (inr more) = (subst (λ (u : LastTurn). TurnFits u c is.rest) more is.turn_fits).goes_on

or-right : (a b : Bool) → b ≡ true → (a || b) ≡ true
or-right true b at = refl
or-right false b at = at

-- a number that isn't 0
some-number : (n : ℕ) → 0 < n → not (n == 0) ≡ true
some-number n some = grind (arith, nat_tests)

may-wait : (s : State) (kind : Kind) (c : SeenConn) → IsSound s → IsConn c → (served : IsServed s c) → WaitsAs kind c → MayWaitFor kind c
    → may_wait s.moment kind served.row ≡ true
may-wait s Reading c sound is served waits noted =
    let goes_on = waits-on c is waits in
    or-right (is_held served.row.place && is_none served.row.from) (is_working served.row.place && not served.row.last)
    (rw (served.working, row-open s c sound served goes_on) refl)
may-wait s KeepAlive c sound is served waits noted =
    let goes_on = waits-on c is (inr waits.turn) in
    let has : has_note served.row ≡ true = ap (λ (ns : List Note). not (length ns == 0)) (sym served.fits.notes) ∙ some-number (length c.notes) noted in
    rw (served.working, row-open s c sound served goes_on, has) refl
may-wait s Writing c sound is served waits noted = served.working
may-wait s Linger c sound is served waits noted = absurd noted
may-wait s ShortLinger c sound is served waits noted = absurd noted

-- a connection that is served may wait so
pub may-park : (s : State) (kind : Kind) (c : SeenConn) → IsSound s → IsConn c → IsServed s c → WaitsAs kind c → MayWaitFor kind c
    → is_halted s.going ≡ false → is_allowed s (event.Park c.name kind) ≡ true
may-park s kind c sound is served waits noted going =
    let passes = test-at s.rows c.name served.row (may_wait s.moment kind) served.found ∙ may-wait s kind c sound is served waits noted in
    rw (going, passes) refl

-- one whose row doesn't linger lingers for no cause
pub cause-none : (s : State) (c : SeenConn) → IsInHand s c → cause_of s c.name ≡ None
cause-none s c hand = ap (λ (o : Option Row). option_and_then (λ (r : Row). r.cause) o) hand.found ∙ none-some hand.row.cause hand.serves where
  none-some : (o : Option Cause) → is_some o ≡ false → o ≡ None
  none-some None none = refl
  none-some (Some why) none = absurd (cc)

-- a connection that is served waits as one that doesn't linger
pub turned-open : (kind : Kind) (c : SeenConn) → MayWaitFor kind c → FoundNoMore kind c
turned-open Reading c may = tt
turned-open KeepAlive c may = tt
turned-open Writing c may = tt
turned-open Linger c may = absurd may
turned-open ShortLinger c may = absurd may
