-- A connection that is queued and started.
use Rattle.std.proofs.Common.{◌≡◌, inl, inr, ℕ, Bool, true, not, ◌&&◌, List, [], ◌∷◌, Option, None, Some, refl, sym, ap, subst, ◌∙◌}
use Rattle.std.proofs.lemmas.Bool.{and_parts}
use Rattle.mpm_base.specs.declared.conn.Ask.{Ask}
use Rattle.mpm_base.specs.declared.conn.ConnName.{ConnName}
use Rattle.mpm_base.specs.declared.conn.Cause.{Cause}
use Rattle.mpm_base.specs.declared.conn.Kind.{Kind}
use Rattle.mpm_base.specs.declared.conn.Kind.TheVariants.{Reading, KeepAlive, Writing, Linger, ShortLinger}
use Rattle.conn_machine.specs.declared.row.Row.{Row}
use Rattle.conn_machine.specs.declared.event.Event.TheVariants as event
use Rattle.conn_machine.specs.declared.state.State.{State}
use Rattle.conn_machine.specs.Rows.{is_queued, is_working, live_row, lives_and}
use Rattle.conn_machine.specs.States.{is_halted, is_signalled}
use Rattle.conn_machine.specs.Runs.{after}
use Rattle.conn_machine.specs.Table.{is_allowed, next, may_be_queued, queued_row, served_row}
use Rattle.conn_state.specs.declared.turn.LastLinger.TheVariants as linger
use Rattle.conn_state.specs.Conn.{SeenConn, is_usable}
use Rattle.board.specs.Fits.{WaitsAs, IsSettledFrom, IsTakenUp}
use Rattle.board_book.specs.Book.{SeenBook}
use Rattle.board.specs.Board.{SeenBoard, conn_at}
use Rattle.worker_group.specs.declared.service.Exit.{Exit}
use Rattle.worker_group.specs.Acts.{Acts}
use Rattle.worker_group.specs.InHandInside.{IsServed}
use Rattle.worker_group.specs.Service.{ExitsAfter, HasServed, IsMadeSince, LeavesConn, answer_events}
use Rattle.worker_group.proofs.ActsLemmas.{acts_more}
use Rattle.worker_group.proofs.ServeLemmas.{alive, test-at}
use Rattle.worker_group.proofs.AnswerLemmas.{live_row-update}

-- ## The row

-- a live row that passes a test
pub record Lives (test : Row → Bool) (rows : List Row) (name : ConnName) : Type 0 where
  pub row : Row
  pub found : live_row rows name ≡ Some row
  pub passes : test row ≡ true

lives-by : (test : Row → Bool) (rows : List Row) (name : ConnName) (o : Option Row) → live_row rows name ≡ o → lives_and test rows name ≡ true
    → Lives test rows name
lives-by test rows name None is passes = absurd (cc (is, passes))
lives-by test rows name (Some r) is passes = record { row = r; found = is; passes = sym (test-at rows name r test is) ∙ passes }

-- a connection that lives and passes a test has such a row
pub lives : (test : Row → Bool) (rows : List Row) (name : ConnName) → lives_and test rows name ≡ true → Lives test rows name
lives test rows name passes = lives-by test rows name (live_row rows name) refl passes

-- a connection that may be queued
pub record MayQueue (s : State) (name : ConnName) : Type 0 where
  pub signalled : is_signalled s name.slot ≡ true
  pub lives : Lives (may_be_queued s) s.rows name

pub may-queue : (s : State) (name : ConnName) → is_allowed s (event.Queue name) ≡ true → MayQueue s name
may-queue s name may =
    let parts = and_parts (not (is_halted s.going) && is_signalled s name.slot) (lives_and (may_be_queued s) s.rows name) may in
    record {
      signalled = (and_parts (not (is_halted s.going)) (is_signalled s name.slot) parts.0).1;
      lives = lives (may_be_queued s) s.rows name parts.1;
    }

-- the row of a connection that was queued
queued-found : (s : State) (name : ConnName) (row : Row) → live_row s.rows name ≡ Some row
    → live_row (next s (event.Queue name)).rows name ≡ Some (queued_row row)
queued-found s name row found =
    let is = alive s.rows name row found in
    live_row-update s.rows name row queued_row is.at is.life

-- a connection that was queued may be started
pub may-start : (s s1 : State) (name : ConnName) → is_allowed s (event.Queue name) ≡ true → s1 ≡ next s (event.Queue name)
    → is_allowed s1 (event.Start name) ≡ true
may-start s s1 name may queued =
    let live = (may-queue s name may).lives in
    rw queued (test-at (next s (event.Queue name)).rows name (queued_row live.row) (λ (r : Row). is_queued r.place) (queued-found s name live.row live.found))

-- a connection that waits may be read and written on
waits-usable : (kind : Kind) (c : SeenConn) → WaitsAs kind c → is_usable c.turn ≡ true
waits-usable Reading c (inl new) = ap is_usable new
waits-usable Reading c (inr more) = ap is_usable more
waits-usable KeepAlive c waits = ap is_usable waits.turn
waits-usable Writing c waits = ap is_usable waits
waits-usable Linger c waits = waits
waits-usable ShortLinger c waits = waits

-- and so may one that did until it was taken up
settled-usable : (from : Option Kind) (why : Option Cause) (c : SeenConn) → IsSettledFrom from why c → is_usable c.turn ≡ true
settled-usable None why c settled = absurd settled
settled-usable (Some kind) why c settled = waits-usable kind c settled.waits

-- the connection that was queued and started is served
pub served-started : (s s1 s2 : State) (c : SeenConn) (name : ConnName) → is_allowed s (event.Queue name) ≡ true → s1 ≡ next s (event.Queue name)
    → s2 ≡ next s1 (event.Start name) → c.name ≡ name → IsTakenUp s2 c → c.linger ≡ linger.Open → IsServed s2 c
served-started s s1 s2 c name may queued started named handed stays_open =
    let live = (may-queue s name may).lives in
    let found1 : live_row s1.rows name ≡ Some (queued_row live.row) = rw queued (queued-found s name live.row live.found) in
    let is = alive s1.rows name (queued_row live.row) found1 in
    let found2 : live_row s2.rows name ≡ Some (served_row s1 (queued_row live.row)) =
    rw started (live_row-update s1.rows name (queued_row live.row) (served_row s1) is.at is.life) in
    let here : live_row s2.rows name ≡ Some handed.row = subst (λ (n : ConnName). live_row s2.rows n ≡ Some handed.row) named handed.found in
    let same : handed.row ≡ served_row s1 (queued_row live.row) = cc (found2, here) in
    record {
      row = handed.row;
      found = handed.found;
      working = ap (λ (r : Row). is_working r.place) same;
      fits = handed.fits;
      usable = settled-usable handed.row.from handed.row.cause c handed.settled;
      open_side = stays_open;
    }

-- ## All of the service

-- a connection that was queued, started, answered and left was served
pub has-served : (who : ℕ) (name : ConnName) (a : SeenBoard) (b c d : SeenBook) (e : SeenBoard) (taken served : SeenConn) (out : Exit)
    → taken.name ≡ name → conn_at a.conns name.slot ≡ Some taken
    → Acts who (event.Queue name ∷ []) (Some name) a.book b → Acts who (event.Start name ∷ []) (Some name) b c
    → served.name ≡ taken.name → (asks : List Ask) × Acts who (answer_events taken.name asks) (Some taken.name) c d
    → after d.base d.history ≡ d.state → IsMadeSince served.turn taken.counts served.counts → ExitsAfter served.turn served out
    → LeavesConn who out served d e → HasServed who name a e
has-served who name a b c d e taken served out is_taken waited queued started kept answered state turned exits left =
    let asked : Acts who (answer_events name answered.0) (Some name) c d =
    subst (λ (n : ConnName). Acts who (answer_events n answered.0) (Some n) c d) is_taken answered.1 in
    record {
      asks = answered.0;
      book = d;
      acts =
          acts_more who (event.Queue name ∷ []) (event.Start name ∷ answer_events name answered.0) (Some name) (Some name) a.book b d queued
          (acts_more who (event.Start name ∷ []) (answer_events name answered.0) (Some name) (Some name) b c d started asked);
      state = state;
      taken = taken;
      waited = waited;
      served = served;
      named = kept ∙ is_taken;
      turned = turned;
      out = out;
      exits = exits;
      left = left;
    }
