-- What pass 0 knows of the board that its turn finds, and of the connection that it holds.
use Rattle.std.proofs.Common.{◌≡◌, ◌==◌, ⊎_elim, ℕ, Bool, true, false, not, ◌&&◌, ◌||◌, cond, List, [], Option, Some, slice_get, nat_le, refl, sym, ap, subst, ◌∙◌}
use Rattle.std.proofs.lemmas.Bool.{and_parts}
use Rattle.std.specs.Option.{option_and_then, option_map_or}
use Rattle.atomic_table.specs.Table.{Me}
use Rattle.mpm_base.specs.Cause.{cause_number}
use Rattle.mpm_base.specs.declared.conn.Cause.{Cause}
use Rattle.mpm_base.specs.declared.conn.Cause.TheVariants as cause
use Rattle.mpm_base.specs.declared.conn.ConnName.{ConnName}
use Rattle.mpm_base.specs.declared.conn.Kind.{Kind}
use Rattle.mpm_base.specs.declared.conn.Kind.TheVariants.{KeepAlive}
use Rattle.mpm_base.specs.declared.conn.Tail.{Tail}
use Rattle.mpm_base.specs.declared.conn.Tail.TheVariants as tail
use Rattle.conn_machine.specs.declared.child.Child.{Child}
use Rattle.conn_machine.specs.declared.event.Commanded.{Commanded}
use Rattle.conn_machine.specs.declared.event.Commanded.TheVariants.{Graceful, GracefulStop, Refused, Stop}
use Rattle.conn_machine.specs.declared.event.Event.TheVariants as event
use Rattle.conn_machine.specs.declared.row.Place.{Place}
use Rattle.conn_machine.specs.declared.row.Place.TheVariants.{Vacant, Spent, Held, Parked, Queued, Working}
use Rattle.conn_machine.specs.declared.row.Row.{Row}
use Rattle.conn_machine.specs.declared.state.State.{State}
use Rattle.conn_machine.specs.BetweenTurns.{OthersLeaveTheRestToTheListener}
use Rattle.conn_machine.specs.Children.{child_at, is_stopping}
use Rattle.conn_machine.specs.Folds.{is_in_use, opening_record}
use Rattle.conn_machine.specs.Passes.{OnlyServes, lingers_at, waits_lingering}
use Rattle.conn_machine.specs.Rows.{is_from, is_held, is_lingering, is_parked, is_working, live_row, lives_and}
use Rattle.conn_machine.specs.Runs.{after, entries_of}
use Rattle.conn_machine.specs.Sound.{IsSound}
use Rattle.conn_machine.specs.States.{child_of, is_halted, is_signalled}
use Rattle.conn_machine.specs.Table.{command_fits, direct_cause_fits, end_fits, is_allowed, is_direct, linger_cause_fits, linger_tail_fits, may_wait}
use Rattle.conn_state.specs.Answered.{IsEndOf, SeenEnded}
use Rattle.conn_state.specs.Conn.{SeenConn}
use Rattle.conn_state.specs.Known.{KnownOutside}
use Rattle.table_rule.specs.declared.view.Origin.{Origin}
use Rattle.table_rule.specs.declared.view.View.{View}
use Rattle.table_rule.specs.declared.view.Who.{Who}
use Rattle.board_lock.specs.Passes.{GaveBack, TookTurn}
use Rattle.board.specs.Board.{SeenBoard}
use Rattle.board_book.specs.Editions.{UsedHaveEditions}
use Rattle.board.specs.Editions.{IsOfGeneration}
use Rattle.board.specs.Fits.{IsSettled}
use Rattle.board.specs.Ledger.{ledger_of}
use Rattle.worker_group.specs.InHand.{IsClosable}
use Rattle.worker_group.specs.InHandInside.{IsLingerable}
use Rattle.worker_group.proofs.ServeLemmas.{alive, test-at}
use Rattle.board_turns.specs.Books.{book_of, state_of}
use Rattle.board_turns.specs.Rests.{TurnsRestOn}
use Rattle.board_turns.proofs.FoundLemmas.{edition_here, same_live, same_state}
use Rattle.board_turns.proofs.ThenLemmas.{nothing_row, nothing_seen, nothing_state, stays_as}
use Rattle.listener_turns.specs.Holds.{Holds, MayWait}
use Rattle.listener_turns.specs.Looks.{lets_go_on}

-- ## Tests

pub and_true : (a b : Bool) → a ≡ true → b ≡ true → (a && b) ≡ true
and_true true true one other = refl
and_true true false one other = absurd (cc)
and_true false b one other = absurd (cc)

pub parts_three : (a b c : Bool) → (a && b && c) ≡ true → (a ≡ true) × (b ≡ true) × (c ≡ true)
parts_three true true true all = (refl, refl, refl)
parts_three false b c all = absurd (cc)
parts_three true false c all = absurd (cc)
parts_three true true false all = absurd (cc)

pub parts_four : (a b c d : Bool) → (a && b && c && d) ≡ true → (a ≡ true) × (b ≡ true) × (c ≡ true) × (d ≡ true)
parts_four true true true true all = (refl, refl, refl, refl)
parts_four false b c d all = absurd (cc)
parts_four true false c d all = absurd (cc)
parts_four true true false d all = absurd (cc)
parts_four true true true false all = absurd (cc)

pub not_set : (b : Bool) → not b ≡ true → b ≡ false
not_set true at = absurd (cc)
not_set false at = refl

-- ## What the listener alone decides

-- is in the board that its turn finds as it left it
pub only_serves : {K : Type 0} (v w : Me (Option K) View) (b : SeenBoard) → OthersLeaveTheRestToTheListener → TurnsRestOn → TookTurn v w (ledger_of b)
    → v.0.who.number ≡ 0 → after b.book.base b.book.history ≡ b.book.state → OnlyServes (state_of v.0) b.book.state
only_serves v w b others rests took number state =
    let f = took.is_found in
    subst (OnlyServes (state_of v.0)) (same_state v w b rests took state)
    (others.rest v.0.origin.state (opening_record v.0.origin.passes) v.0.seen w.0.seen f.made
    (f.seen.0, f.seen.1, subst (λ p. entries_of p f.seen.0 ≡ []) number f.seen.2))

-- so is whether it goes on
pub halted_here : (s t : State) → OnlyServes s t → is_halted s.going ≡ true → is_halted t.going ≡ true
halted_here s t only halted = ap is_halted only.going ∙ halted

-- an order that doesn't stop the server is allowed still
fits_still : (s t : State) (order : Commanded) → OnlyServes s t → lets_go_on order ≡ true → command_fits t order ≡ command_fits s order
fits_still s t (Graceful shape) only goes_on = rw (only.going, only.newest) refl
fits_still s t (Refused reason) only goes_on = refl
fits_still s t (GracefulStop until) only goes_on = rw (only.going, only.moment) refl
fits_still s t (Stop why) only goes_on = absurd (cc)

pub command_here : (s t : State) (order : Commanded) → OnlyServes s t → lets_go_on order ≡ true
    → (is_halted s.going ≡ false → is_allowed s (event.Command order) ≡ true) → is_halted t.going ≡ false → is_allowed t (event.Command order) ≡ true
command_here s t order only goes_on may going =
    let was : is_halted s.going ≡ false = ap is_halted (sym only.going) ∙ going in
    let parts = and_parts (not (is_halted s.going)) (command_fits s order) (may was) in
    and_true (not (is_halted t.going)) (command_fits t order) (ap not going) (fits_still s t order only goes_on ∙ parts.1)

-- ## A connection that it holds

-- a row that is held doesn't wait
held_place : (p : Place) (b : Bool) → is_held p ≡ true → (is_parked p && b) ≡ false
held_place Vacant b held = absurd (cc)
held_place Spent b held = absurd (cc)
held_place Held b held = refl
held_place (Parked kind) b held = absurd (cc)
held_place Queued b held = absurd (cc)
held_place (Working cell phase) b held = absurd (cc)

held_at : (s : State) (slot : ℕ) (r : Row) → slice_get s.rows slot ≡ Some r → is_held r.place ≡ true → lingers_at s slot ≡ false
held_at s slot r at held =
    ap (λ (o : Option Row). option_map_or waits_lingering o false) at ∙ held_place r.place (is_lingering r) held

-- one for which nothing came has no signal still
unsignalled : (s t : State) (slot : ℕ) (b : Bool) → is_signalled t slot ≡ b → OnlyServes s t → lingers_at t slot ≡ false → is_signalled s slot ≡ false
    → is_signalled t slot ≡ false
unsignalled s t slot false is only none quiet = is
unsignalled s t slot true is only none quiet =
    ⊎_elim (λ (was : is_signalled s slot ≡ true). absurd (cc (was, quiet))) (λ (lingers : lingers_at t slot ≡ true). absurd (cc (lingers, none)))
    (only.signals slot is)

-- a cause for which it lingers fits still
cause_fits_on : (s t : State) (why : Cause) (r : Row) (a b : Bool) → t.moment ≡ s.moment → t.children ≡ s.children
    → (is_held r.place ≡ true → a ≡ false → b ≡ false) → linger_cause_fits s why a r ≡ true → linger_cause_fits t why b r ≡ true
cause_fits_on s t cause.ClientDone r a b moment children quiet fits = absurd (cc)
cause_fits_on s t cause.LastSent r a b moment children quiet fits = fits
cause_fits_on s t cause.KeepAliveLate r a b moment children quiet fits = rw moment fits
cause_fits_on s t cause.ReadLate r a b moment children quiet fits = rw moment fits
cause_fits_on s t cause.WriteLate r a b moment children quiet fits = rw moment fits
cause_fits_on s t cause.Retiring r a b moment children quiet fits =
    let parts = parts_four (is_held r.place) (is_from KeepAlive r) (is_stopping (child_of s r).phase) (not a) fits in
    let stops : is_stopping (child_of t r).phase ≡ true =
    ap (λ (cs : List Child). is_stopping (child_at cs r.child).phase) children ∙ parts.2 in
    let none : b ≡ false = quiet parts.0 (not_set a parts.3) in
    and_true (is_held r.place && is_from KeepAlive r && is_stopping (child_of t r).phase) (not b)
    (and_true (is_held r.place && is_from KeepAlive r) (is_stopping (child_of t r).phase) (and_true (is_held r.place) (is_from KeepAlive r) parts.0 parts.1) stops)
    (ap not none)
cause_fits_on s t cause.LinkFailed r a b moment children quiet fits = absurd (cc)
cause_fits_on s t cause.Stopped r a b moment children quiet fits = absurd (cc)
cause_fits_on s t cause.NoMemory r a b moment children quiet fits = absurd (cc)

-- so it may linger still
lingers_on : (s t : State) (name : ConnName) (why : Cause) (r : Row) → OnlyServes s t → live_row s.rows name ≡ Some r → live_row t.rows name ≡ Some r
    → is_allowed s (event.Linger name why) ≡ true → is_allowed t (event.Linger name why) ≡ true
lingers_on s t name why r only was found may =
    let fits = sym (test-at s.rows name r (λ (x : Row). not (is_lingering x) && linger_cause_fits s why (is_signalled s name.slot) x) was) ∙ may in
    let parts = and_parts (not (is_lingering r)) (linger_cause_fits s why (is_signalled s name.slot) r) fits in
    let at = (alive t.rows name r found).at in
    let on =
    cause_fits_on s t why r (is_signalled s name.slot) (is_signalled t name.slot) only.moment only.children
    (λ held quiet. unsignalled s t name.slot (is_signalled t name.slot) refl only (held_at t name.slot r at held) quiet) parts.1 in
    test-at t.rows name r (λ (x : Row). not (is_lingering x) && linger_cause_fits t why (is_signalled t name.slot) x) found
    ∙ and_true (not (is_lingering r)) (linger_cause_fits t why (is_signalled t name.slot) r) parts.0 on

pub lingerable_on : (s t : State) (why : Cause) (c : SeenConn) → OnlyServes s t → live_row t.rows c.name ≡ live_row s.rows c.name → IsLingerable s why c
    → IsLingerable t why c
lingerable_on s t why c only same may =
    let found : live_row t.rows c.name ≡ Some may.row = same ∙ may.found in record {
      row = may.row;
      found = found;
      fits = may.fits;
      allowed = lingers_on s t c.name why may.row only may.found found may.allowed;
      shut = may.shut;
      shows = may.shows;
    }

-- what it may be closed for, and how its link may be left, fits still
tail_on : (s t : State) (how : Tail) (r : Row) → t.moment ≡ s.moment → t.going ≡ s.going → linger_tail_fits t how r ≡ linger_tail_fits s how r
tail_on s t tail.Direct r moment going = refl
tail_on s t tail.Drained r moment going = refl
tail_on s t tail.Sated r moment going = refl
tail_on s t tail.Late r moment going = ap (λ m. nat_le r.deadline m) moment
tail_on s t tail.Failed r moment going = refl
tail_on s t tail.Halted r moment going = ap is_halted going
tail_on s t tail.NoMemory r moment going = refl

direct_on : (s t : State) (why : Cause) (r : Row) → t.going ≡ s.going → direct_cause_fits t why r ≡ direct_cause_fits s why r
direct_on s t cause.ClientDone r going = refl
direct_on s t cause.LastSent r going = refl
direct_on s t cause.KeepAliveLate r going = refl
direct_on s t cause.ReadLate r going = refl
direct_on s t cause.WriteLate r going = refl
direct_on s t cause.Retiring r going = refl
direct_on s t cause.LinkFailed r going = refl
direct_on s t cause.Stopped r going = ap is_halted going
direct_on s t cause.NoMemory r going = refl

ends_on : (s t : State) (why : Cause) (how : Tail) (r : Row) → t.moment ≡ s.moment → t.going ≡ s.going → end_fits t why how r ≡ end_fits s why how r
ends_on s t why how r moment going =
    ap
    (λ (fits : Bool). cond (is_lingering r) (option_map_or (λ (c : Cause). cause_number c == cause_number why) r.cause false && fits)
    (is_direct how && direct_cause_fits t why r)) (tail_on s t how r moment going)
    ∙ ap
    (λ (fits : Bool). cond (is_lingering r)
    (option_map_or (λ (c : Cause). cause_number c == cause_number why) r.cause false && linger_tail_fits s how r) (is_direct how && fits))
    (direct_on s t why r going)

pub closable_on : (s t : State) (why : Cause) (how : Tail) (c : SeenConn) → OnlyServes s t → live_row t.rows c.name ≡ live_row s.rows c.name
    → IsClosable s why how c → IsClosable t why how c
closable_on s t why how c only same may = record {
  row = may.row;
  found = same ∙ may.found;
  in_hand = may.in_hand;
  end_fits = ends_on s t why how may.row only.moment only.going ∙ may.end_fits;
  child = may.child;
  generation = may.generation;
  notes = may.notes;
  rank = may.rank;
  backed = may.backed;
  shown = may.shown;
}

-- one that can be closed so can be closed as the one that ended so
pub close_allowed : (s : State) (why : Cause) (how : Tail) (c : SeenConn) (e : SeenEnded) → IsClosable s why how c → IsEndOf c why how e
    → is_allowed s (event.Close e.name e.cause e.tail) ≡ true
close_allowed s why how c e may ends =
    rw (ends.name, ends.cause, ends.tail)
    (test-at s.rows c.name may.row (λ (r : Row). (is_held r.place || is_working r.place) && end_fits s why how r) may.found
    ∙ and_true (is_held may.row.place || is_working may.row.place) (end_fits s why how may.row) may.in_hand may.end_fits)

pub closed_as : (c : SeenConn) (why : Cause) (how : Tail) (e : SeenEnded) → IsEndOf c why how e
    → event.Close e.name e.cause e.tail ≡ event.Close c.name why how
closed_as c why how e ends = rw (ends.name, ends.cause, ends.tail) refl

-- it may wait still
pub waits_on : (s t : State) (kind : Kind) (c : SeenConn) → OnlyServes s t → live_row t.rows c.name ≡ live_row s.rows c.name → MayWait kind s c → MayWait kind t c
waits_on s t kind c only same may = record {
  allowed = λ going.
      let was : is_halted s.going ≡ false = ap is_halted (sym only.going) ∙ going in
      let parts = and_parts (not (is_halted s.going)) (lives_and (may_wait s.moment kind) s.rows c.name) (may.allowed was) in
      let passes : lives_and (may_wait t.moment kind) t.rows c.name ≡ true =
      ap (λ (o : Option Row). option_map_or (may_wait t.moment kind) o false) same
      ∙ ap (λ m. lives_and (may_wait m kind) s.rows c.name) only.moment ∙ parts.1 in
      and_true (not (is_halted t.going)) (lives_and (may_wait t.moment kind) t.rows c.name) (ap not going) passes;
  fits = record { row = may.fits.row; found = same ∙ may.fits.found; fits = may.fits.fits };
  settled = subst (λ (o : Option Cause). IsSettled kind o c)
      (sym (ap (λ (o : Option Row). option_and_then (λ (r : Row). r.cause) o) same)) may.settled;
  turned = may.turned;
  backed = record { row = may.backed.row; found = same ∙ may.backed.found; backed = may.backed.backed };
}

-- ## In the next turn

module _ {K : Type 0} (known : Option KnownOutside) (v w : Me (Option K) View) (b : SeenBoard) (c : SeenConn) (others : OthersLeaveTheRestToTheListener) (rests : TurnsRestOn) (took : TookTurn v w (ledger_of b)) (state : after b.book.base b.book.history ≡ b.book.state) (holds : Holds known v.0 c) where
  only : OnlyServes (state_of v.0) b.book.state
  only = only_serves v w b others rests took holds.number state

  same : live_row b.book.state.rows c.name ≡ live_row (state_of v.0).rows c.name
  same = same_live v w b c.name rests took state holds.row

  pub waits_here : (kind : Kind) → MayWait kind (state_of v.0) c → MayWait kind b.book.state c
  waits_here kind may = waits_on (state_of v.0) b.book.state kind c only same may

  pub lingerable_here : (why : Cause) → IsLingerable (state_of v.0) why c → IsLingerable b.book.state why c
  lingerable_here why may = lingerable_on (state_of v.0) b.book.state why c only same may

  pub closable_here : (why : Cause) (how : Tail) → IsClosable (state_of v.0) why how c → IsClosable b.book.state why how c
  closable_here why how may = closable_on (state_of v.0) b.book.state why how c only same may

-- its edition is that of its generation there
pub own_edition : {K : Type 0} (known : Option KnownOutside) (v w : Me (Option K) View) (b : SeenBoard) (c : SeenConn) (row : Row) → TurnsRestOn → TookTurn v w (ledger_of b)
    → IsSound b.book.state → UsedHaveEditions b.book → live_row b.book.state.rows c.name ≡ Some row → c.generation ≡ row.generation → Holds known v.0 c
    → IsOfGeneration known b.book c.generation c.reader.limits c.site
own_edition known v w b c row rests took sound used found generation holds =
    let lives = alive b.book.state.rows c.name row found in
    let in_use : is_in_use b.book.state row.generation ≡ true = rests.editions.live b.book.state c.name.slot row sound lives.at lives.live in
    edition_here known v w b c.generation c.reader.limits c.site rests took used (ap (is_in_use b.book.state) generation ∙ in_use) holds.edition

-- ## Behind a turn

-- a pass whose turn did nothing holds what it held
pub holds_still : {K : Type 0} (known : Option KnownOutside) (v w u : Me (Option K) View) (old new : SeenBoard) (c : SeenConn) → TurnsRestOn
    → TookTurn v w (ledger_of old) → GaveBack w u (ledger_of new) → new ≡ old → after old.book.base old.book.history ≡ old.book.state
    → IsSound old.book.state → Holds known v.0 c → Holds known u.0 c
holds_still known v w u old new c rests took given is state sound holds =
    let gave = subst (λ (b : SeenBoard). GaveBack w u (ledger_of b)) is given in
    let stays = stays_as v w u (ledger_of old) (ledger_of old) took gave in
    let f = took.is_found in record {
      turn = stays.turn;
      number = ap (λ (p : Who). p.number) stays.who ∙ holds.number;
      row = nothing_row v w u old rests took gave ∙ holds.row;
      edition = rests.editions.goes_on known (book_of v.0) (book_of u.0) f.seen.0 c.generation c.reader.limits c.site holds.edition
          (ap (λ (o : Origin). o.state) stays.origin) (ap (λ (o : Origin). opening_record o.passes) stays.origin)
          (nothing_seen v w u old took gave ∙ f.seen.1);
      sound = subst IsSound (sym (nothing_state v w u old rests took gave state)) sound;
    }
