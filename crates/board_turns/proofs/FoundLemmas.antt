-- What a pass finds of the board when it takes the turn.
use Rattle.std.proofs.Common.{◌≡◌, ◌==◌, ℕ, zero, suc, ◌<◌, Bool, true, false, ◌&&◌, not, List, [], ◌∷◌, Option, None, Some, IfSome, inl, nat_le, nat_lt, slice_get, length, refl, sym, ap, subst, ◌∙◌, arith}
use Rattle.std.proofs.lemmas.Bool.{and_parts}
use Rattle.std.proofs.lemmas.Bool.Decides.{nat_tests}
use Rattle.std.specs.Prelude.{IfNone}
use Rattle.atomic_table.specs.Table.{Me}
use Rattle.mpm_base.specs.declared.conn.ConnName.{ConnName}
use Rattle.mpm_base.specs.declared.conn.Cause.{Cause}
use Rattle.mpm_base.specs.declared.conn.Cause.TheVariants as cause
use Rattle.mpm_base.specs.declared.conn.Kind.{Kind}
use Rattle.mpm_base.specs.declared.conn.Tail.TheVariants.{Direct}
use Rattle.http_read.specs.declared.request.Limits.{Limits}
use Rattle.file_table.specs.Site.{SeenSite}
use Rattle.conn_machine.specs.declared.child.Child.{Child}
use Rattle.conn_machine.specs.declared.event.Event.TheVariants as event
use Rattle.conn_machine.specs.declared.row.Row.{Row}
use Rattle.conn_machine.specs.declared.state.State.{State}
use Rattle.conn_machine.specs.Children.{child_at}
use Rattle.conn_machine.specs.Folds.{is_in_use, opening_record}
use Rattle.conn_machine.specs.Rows.{carried_count, is_lingering, is_live_as, is_parked, live_row, lives_and, row_where}
use Rattle.conn_machine.specs.Runs.{after, row_of}
use Rattle.conn_machine.specs.Sound.{IsSound}
use Rattle.conn_machine.specs.States.{is_halted, is_signalled}
use Rattle.conn_machine.specs.Table.{direct_cause_fits, end_fits, is_allowed, linger_cause_fits, may_be_queued}
use Rattle.conn_state.specs.Conn.{SeenConn}
use Rattle.conn_state.specs.Known.{KnownOutside}
use Rattle.table_rule.specs.declared.view.Hand.{Hand}
use Rattle.table_rule.specs.declared.view.Origin.{Origin}
use Rattle.table_rule.specs.declared.view.View.{View}
use Rattle.table_rule.specs.Histories.{IsPermitted, IsQueuedInTime, threads_of}
use Rattle.board_lock.specs.Passes.{TookTurn}
use Rattle.board_book.specs.declared.faults.BoardFault.{BoardFault}
use Rattle.board_book.specs.declared.faults.BoardFault.TheVariants as fault
use Rattle.board.specs.Backed.{BacksWait}
use Rattle.board.specs.Board.{SeenBoard}
use Rattle.board_book.specs.Book.{row_in}
use Rattle.board_book.specs.Editions.{UsedHaveEditions}
use Rattle.board.specs.Editions.{IsOfGeneration}
use Rattle.board_book.specs.Finds.{FindsRow, is_due_of, is_late}
use Rattle.board.specs.Ledger.{ledger_of}
use Rattle.board.specs.WholeEditions.{IsLeftOf}
use Rattle.worker_group.specs.declared.service.Exit.{Exit}
use Rattle.worker_group.specs.declared.service.Exit.TheVariants as exit
use Rattle.worker_group.specs.InHand.{IsClosable}
use Rattle.worker_group.specs.InHandInside.{IsLingerable, IsServed}
use Rattle.worker_group.proofs.ServeLemmas.{alive, test-at}
use Rattle.worker_group.proofs.StartLemmas.{lives}
use Rattle.board_turns.specs.Books.{book_of, state_of, whole_book}
use Rattle.board_turns.specs.Carries.{Carries, HasPermitOnly, Lasts, MayGo}
use Rattle.board_turns.specs.Pairing.{HasNoneToHand}
use Rattle.board_turns.specs.Rests.{TurnsRestOn}

-- ## The board

-- the state that the board has is the one behind all that the pass sees
pub same_state : {K : Type 0} (v w : Me (Option K) View) (b : SeenBoard) → TurnsRestOn → TookTurn v w (ledger_of b)
    → after b.book.base b.book.history ≡ b.book.state → after v.0.origin.state w.0.seen ≡ b.book.state
same_state v w b rests took state =
    let p = took.is_found.parts in
    ap (after v.0.origin.state) p.whole_is ∙ rests.joins v.0.origin.state took.is_found.left.entries b.book.history
    ∙ ap (λ s. after s b.book.history) (sym p.base) ∙ state

-- the pass is one of the board's
pub is_pass : {K : Type 0} (v w : Me (Option K) View) (b : SeenBoard) → TookTurn v w (ledger_of b) → v.0.who.number < b.book.passes
is_pass v w b took = subst (λ n. v.0.who.number < n) (sym took.is_found.parts.passes) took.is_found.number

-- its connection is the one that it had: in what it sees
pub own_row : {K : Type 0} (v w : Me (Option K) View) (b : SeenBoard) → TurnsRestOn → TookTurn v w (ledger_of b) → row_of v.0.who.number w.0.seen ≡ v.0.row
own_row v w b rests took =
    let f = took.is_found in
    let p = v.0.who.number in
    sym (rests.opens v.0.origin.passes p w.0.seen) ∙ rests.stays (opening_record v.0.origin.passes) p v.0.seen w.0.seen f.seen
    ∙ rests.opens v.0.origin.passes p v.0.seen ∙ sym f.row_is

-- and in the board
pub same_row : {K : Type 0} (v w : Me (Option K) View) (b : SeenBoard) → TurnsRestOn → TookTurn v w (ledger_of b) → row_in v.0.who.number b.book ≡ v.0.row
same_row v w b rests took =
    let f = took.is_found in
    rests.row v.0.origin f.left (ledger_of b) w.0.seen v.0.who.number f.parts f.number ∙ own_row v w b rests took

-- by the number that the code has
pub row_as : {K : Type 0} (v w : Me (Option K) View) (b : SeenBoard) (who : ℕ) (o : Option ConnName) → TurnsRestOn → TookTurn v w (ledger_of b)
    → who ≡ v.0.who.number → v.0.row ≡ o → row_in who b.book ≡ o
row_as v w b who o rests took number has = ap (λ n. row_in n b.book) number ∙ same_row v w b rests took ∙ has

pub pass_as : {K : Type 0} (v w : Me (Option K) View) (b : SeenBoard) (who : ℕ) → TookTurn v w (ledger_of b) → who ≡ v.0.who.number → who < b.book.passes
pass_as v w b who took number = subst (λ n. n < b.book.passes) (sym number) (is_pass v w b took)

-- its row is as it was
pub same_live : {K : Type 0} (v w : Me (Option K) View) (b : SeenBoard) (name : ConnName) → TurnsRestOn → TookTurn v w (ledger_of b)
    → after b.book.base b.book.history ≡ b.book.state → v.0.row ≡ Some name → live_row b.book.state.rows name ≡ live_row (state_of v.0).rows name
same_live v w b name rests took state has =
    let stays =
    subst (λ o. IfSome o (λ n. slice_get (after v.0.origin.state w.0.seen).rows n.slot ≡ slice_get (after v.0.origin.state v.0.seen).rows n.slot)) has
    took.is_found.row in
    ap (λ (s : State). live_row s.rows name) (sym (same_state v w b rests took state)) ∙ ap (row_where (is_live_as name)) stays

-- a server that it saw stopped still is
pub stopped_still : {K : Type 0} (v w : Me (Option K) View) (b : SeenBoard) → TurnsRestOn → TookTurn v w (ledger_of b)
    → after b.book.base b.book.history ≡ b.book.state → is_halted (state_of v.0).going ≡ true → is_halted b.book.state.going ≡ true
stopped_still v w b rests took state halted =
    let f = took.is_found in
    ap (λ (s : State). is_halted s.going) (sym (same_state v w b rests took state))
    ∙ ap is_halted (rests.stopped.seen v.0.origin.state (opening_record v.0.origin.passes) v.0.who.number v.0.seen w.0.seen f.made f.seen halted)
    ∙ halted

-- ## The edition

-- the board is left of all that the pass sees
pub left_of : {K : Type 0} (v w : Me (Option K) View) (b : SeenBoard) → TurnsRestOn → TookTurn v w (ledger_of b) → IsLeftOf (whole_book v.0.origin w.0.seen) b.book
left_of v w b rests took =
    let f = took.is_found in record {
      entries = f.left.entries;
      history_is = f.parts.whole_is;
      base = f.parts.base;
      one_fold = f.parts.one_fold;
      begun = rests.begun v.0.origin.state v.0.origin.passes;
    }

-- what is of its generation in all that the pass had seen is so in the board, where that is in use
pub edition_here : {K : Type 0} (known : Option KnownOutside) (v w : Me (Option K) View) (b : SeenBoard) (generation : ℕ) (limits : Limits) (site : SeenSite) → TurnsRestOn
    → TookTurn v w (ledger_of b) → UsedHaveEditions b.book → is_in_use b.book.state generation ≡ true → IsOfGeneration known (book_of v.0) generation limits site
    → IsOfGeneration known b.book generation limits site
edition_here known v w b generation limits site rests took used in_use is =
    let f = took.is_found in
    let on = rests.editions.goes_on known (book_of v.0) (whole_book v.0.origin w.0.seen) f.seen.0 generation limits site is refl refl f.seen.1 in
    rests.whole.in_left known (whole_book v.0.origin w.0.seen) b.book generation limits site (left_of v w b rests took) used in_use on

-- so it is of the connection that the pass carries
pub own_edition : {K : Type 0} (known : Option KnownOutside) (v w : Me (Option K) View) (b : SeenBoard) (c : SeenConn) (row : Row) → TurnsRestOn → TookTurn v w (ledger_of b)
    → IsSound b.book.state → UsedHaveEditions b.book → live_row b.book.state.rows c.name ≡ Some row → c.generation ≡ row.generation → Carries known v.0 c
    → IsOfGeneration known b.book c.generation c.reader.limits c.site
own_edition known v w b c row rests took sound used found generation carries =
    let lives = alive b.book.state.rows c.name row found in
    let in_use : is_in_use b.book.state row.generation ≡ true = rests.editions.live b.book.state c.name.slot row sound lives.at lives.live in
    edition_here known v w b c.generation c.reader.limits c.site rests took used (ap (is_in_use b.book.state) generation ∙ in_use) carries.edition

-- ## How a connection may be left

-- one that was served is served still, where its row stays
pub served_on : (s t : State) (c : SeenConn) → live_row t.rows c.name ≡ live_row s.rows c.name → IsServed s c → IsServed t c
served_on s t c same served = record {
  row = served.row;
  found = same ∙ served.found;
  working = served.working;
  fits = served.fits;
  usable = served.usable;
  open_side = served.open_side;
}

-- a cause for which a connection is closed without lingering fits still
cause_on : (s t : State) (why : Cause) (r : Row) → (is_halted s.going ≡ true → is_halted t.going ≡ true) → direct_cause_fits s why r ≡ true
    → direct_cause_fits t why r ≡ true
cause_on s t cause.ClientDone r halts fits = fits
cause_on s t cause.LastSent r halts fits = fits
cause_on s t cause.KeepAliveLate r halts fits = fits
cause_on s t cause.ReadLate r halts fits = fits
cause_on s t cause.WriteLate r halts fits = fits
cause_on s t cause.Retiring r halts fits = fits
cause_on s t cause.LinkFailed r halts fits = fits
cause_on s t cause.Stopped r halts fits = halts fits
cause_on s t cause.NoMemory r halts fits = fits

and_false : (b : Bool) → (b && false) ≡ false
and_false true = refl
and_false false = refl

-- a row that lingers isn't closed without lingering, and another one is for a cause that fits
direct_end : (s t : State) (why : Cause) (r : Row) (b : Bool) → is_lingering r ≡ b → (is_halted s.going ≡ true → is_halted t.going ≡ true)
    → end_fits s why Direct r ≡ true → end_fits t why Direct r ≡ true
direct_end s t why r true is halts fits = absurd (cc (fits, end_lingering s why r is))
  where
    end_lingering : (s : State) (why : Cause) (r : Row) → is_lingering r ≡ true → end_fits s why Direct r ≡ false
    end_lingering s why r is = rw is (and_false _)
direct_end s t why r false is halts fits =
    let fits_s : direct_cause_fits s why r ≡ true = sym (end_direct s why r is) ∙ fits in
    end_direct t why r is ∙ cause_on s t why r halts fits_s
  where
    end_direct : (s : State) (why : Cause) (r : Row) → is_lingering r ≡ false → end_fits s why Direct r ≡ direct_cause_fits s why r
    end_direct s why r is = rw is refl

-- one that could be closed can be closed still
pub closable_on : (s t : State) (why : Cause) (c : SeenConn) → live_row t.rows c.name ≡ live_row s.rows c.name → (is_halted s.going ≡ true → is_halted t.going ≡ true)
    → IsClosable s why Direct c → IsClosable t why Direct c
closable_on s t why c same halts may = record {
  row = may.row;
  found = same ∙ may.found;
  in_hand = may.in_hand;
  end_fits = direct_end s t why may.row (is_lingering may.row) refl halts may.end_fits;
  child = may.child;
  generation = may.generation;
  notes = may.notes;
  rank = may.rank;
  backed = may.backed;
  shown = may.shown;
}

-- one that could linger behind its last response can still
pub lingerable_on : (s t : State) (c : SeenConn) → live_row t.rows c.name ≡ live_row s.rows c.name → IsLingerable s cause.LastSent c → IsLingerable t cause.LastSent c
lingerable_on s t c same may =
    let found : live_row t.rows c.name ≡ Some may.row = same ∙ may.found in record {
      row = may.row;
      found = found;
      fits = may.fits;
      allowed = test-at t.rows c.name may.row (λ (r : Row). not (is_lingering r) && linger_cause_fits t cause.LastSent (is_signalled t c.name.slot) r) found
          ∙ sym (test-at s.rows c.name may.row (λ (r : Row). not (is_lingering r) && linger_cause_fits s cause.LastSent (is_signalled s c.name.slot) r) may.found)
          ∙ may.allowed;
      shut = may.shut;
      shows = may.shows;
    }

-- what backs a wait still does, where its row stays
backs_on : (s t : State) (kind : Kind) (c : SeenConn) → live_row t.rows c.name ≡ live_row s.rows c.name → BacksWait kind s c → BacksWait kind t c
backs_on s t kind c same backs = record { row = backs.row; found = same ∙ backs.found; backed = backs.backed }

-- what lasts of a refusal
lasts_on : (s t : State) (f : BoardFault) → (is_halted s.going ≡ true → is_halted t.going ≡ true) → Lasts f s → Lasts f t
lasts_on s t fault.Halted halts lasts = halts lasts
lasts_on s t fault.NoMemory halts lasts = tt

-- a connection that could be left so can be left so still
pub may_go_on : (s t : State) (c : SeenConn) (way : Exit) → live_row t.rows c.name ≡ live_row s.rows c.name → (is_halted s.going ≡ true → is_halted t.going ≡ true)
    → MayGo s c way → MayGo t c way
may_go_on s t c (exit.Park kind) same halts may = (served_on s t c same may.0, may.1, may.2, backs_on s t kind c same may.3)
may_go_on s t c (exit.Linger why) same halts may = (may.0, lingerable_on s t c same may.1)
may_go_on s t c (exit.Close why how) same halts may = (may.0, closable_on s t why c same halts may.1)
may_go_on s t c (exit.GiveUp f) same halts may = (served_on s t c same may.0, lasts_on s t f halts may.1)

-- in the board of the next turn
pub may_go_here : {K : Type 0} (known : Option KnownOutside) (v w : Me (Option K) View) (b : SeenBoard) (c : SeenConn) (way : Exit) → TurnsRestOn → TookTurn v w (ledger_of b)
    → after b.book.base b.book.history ≡ b.book.state → Carries known v.0 c → MayGo (state_of v.0) c way → MayGo b.book.state c way
may_go_here known v w b c way rests took state carries may =
    may_go_on (state_of v.0) b.book.state c way (same_live v w b c.name rests took state carries.row) (stopped_still v w b rests took state) may

-- ## A connection that a permit is for

-- a child with workers is there
child_there : (children : List Child) (k : ℕ) → 0 < (child_at children k).shape.threads → k < length children
child_there [] k some = absurd (omega arith)
child_there (x ∷ children) zero some = omega arith
child_there (x ∷ children) (suc k) some =
    let more = child_there children k some in
    omega (arith, more)

-- a worker of the child is free that the pass has a permit of
pub has_room : {K : Type 0} (v w : Me (Option K) View) (b : SeenBoard) (child : ℕ) → TurnsRestOn → TookTurn v w (ledger_of b)
    → after b.book.base b.book.history ≡ b.book.state → HasPermitOnly child v.0 → carried_count b.book.state.rows child < threads_of b.book.state child
has_room v w b child rests took state permit =
    let room = took.is_found.room permit.row in
    let at : (s : State) → after v.0.origin.state w.0.seen ≡ s → IfSome v.0.hand.permit (λ k. carried_count s.rows k < threads_of s k) =
    λ s is. subst (λ (t : State). IfSome v.0.hand.permit (λ k. carried_count t.rows k < threads_of t k)) is room in
    subst (λ o. IfSome o (λ k. carried_count b.book.state.rows k < threads_of b.book.state k)) (ap (λ (h : Hand). h.permit) permit.hand)
    (at b.book.state (same_state v w b rests took state))

-- so there is that child
pub has_child : {K : Type 0} (v w : Me (Option K) View) (b : SeenBoard) (child : ℕ) → TurnsRestOn → TookTurn v w (ledger_of b)
    → after b.book.base b.book.history ≡ b.book.state → HasPermitOnly child v.0 → child < length b.book.state.children
has_child v w b child rests took state permit =
    let room = has_room v w b child rests took state permit in
    child_there b.book.state.children child (some (carried_count b.book.state.rows child) _ room)
  where
    some : (m n : ℕ) → m < n → 0 < n
    some m n less = omega arith

-- a row that is due, and whose child has a free worker, may be queued
due_may : (s : State) (slot child : ℕ) (r : Row) → is_due_of child s slot r ≡ true → carried_count s.rows child < threads_of s child
    → (is_signalled s slot ≡ true) × (may_be_queued s r ≡ true) × (r.child ≡ child)
due_may s slot child r due room =
    let one = and_parts (r.child == child && is_signalled s slot && is_parked r.place) (not (is_lingering r)) due in
    let two = and_parts (r.child == child && is_signalled s slot) (is_parked r.place) one.0 in
    let three = and_parts (r.child == child) (is_signalled s slot) two.0 in
    let same : r.child ≡ child = grind (arith, nat_tests, three.0) in
    let room' : nat_lt (carried_count s.rows r.child) (threads_of s r.child) ≡ true =
    subst (λ k. nat_lt (carried_count s.rows k) (threads_of s k) ≡ true) (sym same) (grind (arith, nat_tests, room)) in
    (three.1, rw (two.1, one.1) room', same)

-- the connection that was found may be queued, and is of the child
pub record IsDueHere (s : State) (child : ℕ) (name : ConnName) : Type 0 where
  pub row : Row
  pub found : live_row s.rows name ≡ Some row
  pub of_child : row.child ≡ child
  pub allowed : is_halted s.going ≡ false → is_allowed s (event.Queue name) ≡ true

pub due_here : (s : State) (child : ℕ) (name : ConnName) → lives_and (is_due_of child s name.slot) s.rows name ≡ true
    → carried_count s.rows child < threads_of s child → IsDueHere s child name
due_here s child name due room =
    let is = lives (is_due_of child s name.slot) s.rows name due in
    let may = due_may s name.slot child is.row is.passes room in record {
      row = is.row;
      found = is.found;
      of_child = may.2;
      allowed = λ going.
          let passes = test-at s.rows name is.row (may_be_queued s) is.found ∙ may.1 in
          rw (going, may.0, passes) refl;
    }

-- where none is late, it is in time
pub due_is_in_time : (s : State) (child : ℕ) (name : ConnName) → FindsRow (is_late s) s None → lives_and (is_due_of child s name.slot) s.rows name ≡ true
    → IsQueuedInTime s (event.Queue name)
due_is_in_time s child name none due =
    let is = lives (is_due_of child s name.slot) s.rows name due in
    let at = alive s.rows name is.row is.found in
    let one = and_parts (is.row.child == child && is_signalled s name.slot && is_parked is.row.place) (not (is_lingering is.row)) is.passes in
    let two = and_parts (is.row.child == child && is_signalled s name.slot) (is_parked is.row.place) one.0 in
    let late : (is_parked is.row.place && nat_le is.row.deadline s.moment) ≡ false = none name.slot is.row at.at in
    let not_yet : nat_le is.row.deadline s.moment ≡ false = sym (ap (λ (b : Bool). b && nat_le is.row.deadline s.moment) two.1) ∙ late in
    let before : nat_lt s.moment is.row.deadline ≡ true = grind (arith, nat_tests, not_yet) in
    test-at s.rows name is.row (λ (r : Row). nat_lt s.moment r.deadline) is.found ∙ before

-- what is found then, where none is late, or none is found
pub due_some : (s : State) (child : ℕ) (r : Option ConnName) → FindsRow (is_due_of child s) s r
    → IfSome r (λ name. FindsRow (is_due_of child s) s (Some name))
due_some s child None found = tt
due_some s child (Some name) found = found

pub due_times : (s : State) (child : ℕ) (r : Option ConnName) → FindsRow (is_late s) s None → FindsRow (is_due_of child s) s r
    → IfSome r (λ name. IsQueuedInTime s (event.Queue name))
due_times s child None none found = tt
due_times s child (Some name) none found = due_is_in_time s child name none found

pub due_none : (s : State) (child : ℕ) (r : Option ConnName) → FindsRow (is_due_of child s) s r → IfNone r (HasNoneToHand child s)
due_none s child None found = inl found
due_none s child (Some name) found = tt

-- and its pass may queue it
pub queue_permitted : {K : Type 0} (v w : Me (Option K) View) (b : SeenBoard) (child : ℕ) (name : ConnName) → TurnsRestOn → TookTurn v w (ledger_of b)
    → after b.book.base b.book.history ≡ b.book.state → HasPermitOnly child v.0 → IsDueHere b.book.state child name
    → IsQueuedInTime b.book.state (event.Queue name) → IsPermitted w.0.hand.permit w.0.credits (after w.0.origin.state w.0.seen) (event.Queue name)
queue_permitted v w b child name rests took state permit due in_time =
    let origin : w.0.origin ≡ v.0.origin = ap (λ (q : View). q.origin) took.view in
    let same : after w.0.origin.state w.0.seen ≡ b.book.state =
    ap (λ (o : Origin). after o.state w.0.seen) origin ∙ same_state v w b rests took state in
    let has : w.0.hand.permit ≡ Some child = ap (λ (q : View). q.hand.permit) took.view ∙ ap (λ (h : Hand). h.permit) permit.hand in
    let before : nat_lt b.book.state.moment due.row.deadline ≡ true =
    sym (test-at b.book.state.rows name due.row (λ (r : Row). nat_lt b.book.state.moment r.deadline) due.found) ∙ in_time in (
      due.row,
      ap (λ (s : State). live_row s.rows name) same ∙ due.found,
      has ∙ ap Some (sym due.of_child),
      ap (λ (s : State). nat_lt s.moment due.row.deadline) same ∙ before,
    )
