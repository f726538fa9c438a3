-- Waits that the links of connections back: of one that waits on, and of those that ended.
use Rattle.std.proofs.Common.{◌≡◌, ℕ, ◌+◌, ◌<◌, ◌≤◌, Bool, true, false, cond, List, [], ◌∷◌, ◌++◌, count_by, Option, Some, refl, sym, ap, subst, ◌∙◌, append_assoc, append-nil, arith}
use Rattle.std.proofs.lemmas.List.Sums.{sum_by-append, sum_by-cons}
use Rattle.mpm_base.specs.Count.{NeverFalls, Rises, greatest_count}
use Rattle.mpm_base.specs.Link.{LinkCounts}
use Rattle.mpm_base.specs.declared.conn.ConnName.{ConnName}
use Rattle.mpm_base.specs.declared.conn.Kind.{Kind}
use Rattle.mpm_base.specs.declared.conn.Kind.TheVariants.{Reading, KeepAlive, Writing, Linger, ShortLinger}
use Rattle.mpm_base.specs.declared.conn.Cause.{Cause}
use Rattle.mpm_base.specs.declared.conn.Tail.{Tail}
use Rattle.mpm_base.specs.declared.shape.Shape.{Shape}
use Rattle.conn_machine.specs.declared.event.Event.{Event}
use Rattle.conn_machine.specs.declared.event.Event.TheVariants as event
use Rattle.conn_machine.specs.declared.event.Entry.{Entry}
use Rattle.conn_machine.specs.declared.row.Row.{Row}
use Rattle.conn_machine.specs.declared.state.State.{State}
use Rattle.conn_machine.specs.MachineLaws.{RowsKeepTheirWaits}
use Rattle.conn_machine.specs.Rows.{live_row}
use Rattle.conn_machine.specs.Runs.{Run, after}
use Rattle.conn_machine.specs.States.{opening_state}
use Rattle.conn_machine.specs.Table.{next}
use Rattle.conn_machine.specs.Waits.{waits_in, waits_of}
use Rattle.conn_state.specs.Answered.{SeenEnded}
use Rattle.conn_state.specs.Conn.{SeenConn}
use Rattle.board.specs.Backed.{AllBacked, AreBacked, BacksWait, waits_to_read, waits_to_write}
use Rattle.board.specs.Board.{AreClosed, ClosesFirst}
use Rattle.board.specs.Fits.{IsClosing}

-- a further wait is backed of the row that is found
pub backs-row : (kind : Kind) (s : State) (c : SeenConn) (r : Row) → live_row s.rows c.name ≡ Some r → BacksWait kind s c
    → AreBacked (r.waits ++ kind ∷ []) c.counts
backs-row kind s c r found backs =
    let same : backs.row ≡ r = cc (backs.found, found) in
    subst (λ (x : Row). AreBacked (x.waits ++ kind ∷ []) c.counts) same backs.backed

-- ## Counts of waits

-- one more kind of a list passes a test, or as many
count-last : (test : Kind → Bool) (waits : List Kind) (kind : Kind) (b : Bool) → test kind ≡ b
    → count_by test (waits ++ kind ∷ []) ≡ count_by test waits + cond b 1 0
count-last test waits kind b is =
    let both : count_by test (waits ++ kind ∷ []) ≡ count_by test waits + count_by test (kind ∷ []) =
    sum_by-append (λ (k : Kind). cond (test k) 1 0) waits (kind ∷ []) in
    let last : count_by test (kind ∷ []) ≡ cond (test kind) 1 0 + count_by test [] = sum_by-cons (λ (k : Kind). cond (test k) 1 0) kind [] in
    let one : cond (test kind) 1 0 + 0 ≡ cond b 1 0 + 0 = ap (λ (t : Bool). cond t 1 0 + 0) is in
    omega (arith, both, last, one)

-- a wait for something to read isn't one for room
reads-only : (kind : Kind) → waits_to_read kind ≡ true → waits_to_write kind ≡ false
reads-only Reading is = refl
reads-only KeepAlive is = refl
reads-only Writing is = absurd (cc)
reads-only Linger is = refl
reads-only ShortLinger is = refl

-- nor the other way round
writes-only : (kind : Kind) → waits_to_write kind ≡ true → waits_to_read kind ≡ false
writes-only Reading is = absurd (cc)
writes-only KeepAlive is = absurd (cc)
writes-only Writing is = refl
writes-only Linger is = absurd (cc)
writes-only ShortLinger is = absurd (cc)

-- ## Waits

-- what was backed is so still where no count fell
pub backed-on : (waits : List Kind) (old new : LinkCounts) → NeverFalls old.late_reads new.late_reads → NeverFalls old.late_writes new.late_writes
    → AreBacked waits old → AreBacked waits new
backed-on waits old new reads writes backed = record {
  reads = λ below.
      let before : count_by waits_to_read waits ≤ old.late_reads + 1 = backed.reads (omega (arith, below, reads)) in
      omega (arith, before, reads);
  writes = λ below.
      let before : count_by waits_to_write waits ≤ old.late_writes = backed.writes (omega (arith, below, writes)) in
      omega (arith, before, writes);
}

-- a read that was not ready backs one more wait for something to read
pub backed-read : (waits : List Kind) (kind : Kind) (old new : LinkCounts) → waits_to_read kind ≡ true → Rises old.late_reads new.late_reads
    → NeverFalls old.late_writes new.late_writes → AreBacked waits old → AreBacked (waits ++ kind ∷ []) new
backed-read waits kind old new is reads writes backed = record {
  reads = λ below.
      let earlier : old.late_reads < greatest_count = omega (arith, below, reads.0) in
      let before : count_by waits_to_read waits ≤ old.late_reads + 1 = backed.reads earlier in
      let rose : old.late_reads < new.late_reads = reads.1 earlier in
      omega (arith, count-last waits_to_read waits kind true is, before, rose);
  writes = λ below.
      let before : count_by waits_to_write waits ≤ old.late_writes = backed.writes (omega (arith, below, writes)) in
      omega (arith, count-last waits_to_write waits kind false (reads-only kind is), before, writes);
}

-- and a write that was not ready one more for room
pub backed-write : (waits : List Kind) (kind : Kind) (old new : LinkCounts) → waits_to_write kind ≡ true → NeverFalls old.late_reads new.late_reads → Rises old.late_writes new.late_writes
    → AreBacked waits old → AreBacked (waits ++ kind ∷ []) new
backed-write waits kind old new is reads writes backed = record {
  reads = λ below.
      let before : count_by waits_to_read waits ≤ old.late_reads + 1 = backed.reads (omega (arith, below, reads)) in
      omega (arith, count-last waits_to_read waits kind false (writes-only kind is), before, reads);
  writes = λ below.
      let earlier : old.late_writes < greatest_count = omega (arith, below, writes.0) in
      let before : count_by waits_to_write waits ≤ old.late_writes = backed.writes earlier in
      let rose : old.late_writes < new.late_writes = writes.1 earlier in
      omega (arith, count-last waits_to_write waits kind true is, before, rose);
}

-- none needs none
pub backed-none : (counts : LinkCounts) → AreBacked [] counts
backed-none counts = record { reads = λ below. omega (arith); writes = λ below. omega (arith) }

-- nor does the first one for something to read
pub backed-first : (counts : LinkCounts) → AreBacked (Reading ∷ []) counts
backed-first counts =
    let one = count-last waits_to_read [] Reading true refl in
    let none = count-last waits_to_write [] Reading false refl in
    record { reads = λ below. omega (arith, one); writes = λ below. omega (arith, none) }

-- ## Connections that ended

-- the first part of a run is one
run_front : (s : State) (a b : List Entry) → Run s (a ++ b) → Run s a
run_front s [] b run = tt
run_front s (e ∷ a) b run = (run.0, run.1, run_front (next s e.event) a b run.2)

-- it goes on by one entry
after_one : (s : State) (a : List Entry) (e : Entry) → after s (a ++ e ∷ []) ≡ next (after s a) e.event
after_one s [] e = refl
after_one s (x ∷ a) e = after_one (next s x.event) a e

-- what two histories had a connection wait for
waits_joined : (name : ConnName) (a b : List Entry) → waits_of name (a ++ b) ≡ waits_of name a ++ waits_of name b
waits_joined name [] b = refl
waits_joined name (e ∷ a) b =
    ap (λ (ws : List Kind). waits_in name e.event ++ ws) (waits_joined name a b)
    ∙ sym (append_assoc (waits_in name e.event) (waits_of name a) (waits_of name b))

-- where the event closes the first of them its waits are backed, and so are those of the others
backed_first : (s : State) (e : Event) (history : List Entry) (Others : List SeenEnded → Type 0) (ended : List SeenEnded) → ClosesFirst s e Others ended
    → ((others : List SeenEnded) → Others others → AllBacked history others)
    → ((name : ConnName) (why : Cause) (how : Tail) (x : SeenEnded) → e ≡ event.Close name why how → IsClosing s name why how x
    → AreBacked (waits_of x.name history) x.counts)
    → AllBacked history ended
backed_first s (event.Close name why how) history Others [] closes rest its = absurd closes
backed_first s (event.Close name why how) history Others (x ∷ ended) closes rest its = (its name why how x refl closes.0, rest ended closes.1)
backed_first s (event.Accept slot) history Others ended closes rest its = rest ended closes
backed_first s (event.Park name kind) history Others ended closes rest its = rest ended closes
backed_first s (event.Hold name) history Others ended closes rest its = rest ended closes
backed_first s (event.Queue name) history Others ended closes rest its = rest ended closes
backed_first s (event.Start name) history Others ended closes rest its = rest ended closes
backed_first s (event.Answer name ask) history Others ended closes rest its = rest ended closes
backed_first s (event.Linger name cause) history Others ended closes rest its = rest ended closes
backed_first s (event.Ready slot) history Others ended closes rest its = rest ended closes
backed_first s (event.Tick m) history Others ended closes rest its = rest ended closes
backed_first s (event.StartChild k) history Others ended closes rest its = rest ended closes
backed_first s (event.Command c) history Others ended closes rest its = rest ended closes
backed_first s (event.Retire k) history Others ended closes rest its = rest ended closes

-- a connection that a run from the opening state closes waited as its row says, and no more behind that
waits_at_close : RowsKeepTheirWaits → (slots children : ℕ) (shape : Shape) (before rest : List Entry) (e : Entry) (name : ConnName) (why : Cause) (how : Tail) (x : SeenEnded)
    → Run (opening_state slots children shape) (before ++ e ∷ rest) → e.event ≡ event.Close name why how
    → IsClosing (after (opening_state slots children shape) before) name why how x
    → AreBacked (waits_of x.name (before ++ e ∷ rest)) x.counts
waits_at_close law slots children shape before rest e name why how x run closes closing =
    let s = opening_state slots children shape in
    let has : closing.row.waits ≡ waits_of name before =
    law.live slots children shape before name closing.row (run_front s before (e ∷ rest) run) closing.found in
    let own : waits_in name e.event ≡ [] = ap (waits_in name) closes in
    let later : waits_of name rest ≡ [] = law.closed s before rest e name why how run closes in
    let behind : waits_of name (e ∷ rest) ≡ [] = ap (λ (ws : List Kind). ws ++ waits_of name rest) own ∙ later in
    let all : waits_of name (before ++ e ∷ rest) ≡ closing.row.waits =
    waits_joined name before (e ∷ rest) ∙ ap (λ (ws : List Kind). waits_of name before ++ ws) behind ∙ append-nil (waits_of name before) ∙ sym has in
    subst (λ (ws : List Kind). AreBacked ws x.counts)
    (sym (ap (λ (n : ConnName). waits_of n (before ++ e ∷ rest)) closing.name_is ∙ all)) closing.backed

-- so did each that the rest of a run closes
backed_from : RowsKeepTheirWaits → (slots children : ℕ) (shape : Shape) (before rest : List Entry) (ended : List SeenEnded)
    → Run (opening_state slots children shape) (before ++ rest) → AreClosed (after (opening_state slots children shape) before) rest ended
    → AllBacked (before ++ rest) ended
backed_from law slots children shape before [] ended run closed =
    subst (λ (es : List SeenEnded). AllBacked (before ++ []) es) (sym closed) tt
backed_from law slots children shape before (e ∷ rest) ended run closed =
    let s = opening_state slots children shape in
    let joined : (before ++ e ∷ []) ++ rest ≡ before ++ e ∷ rest = append_assoc before (e ∷ []) rest in
    backed_first (after s before) e.event (before ++ e ∷ rest) (AreClosed (next (after s before) e.event) rest) ended closed
    (λ others closes.
    subst (λ (history : List Entry). AllBacked history others) joined
    (backed_from law slots children shape (before ++ e ∷ []) rest others
    (subst (λ (history : List Entry). Run s history) (sym joined) run)
    (subst (λ (t : State). AreClosed t rest others) (sym (after_one s before e)) closes)))
    (λ name why how x is closing. waits_at_close law slots children shape before rest e name why how x run is closing)

-- so did each connection that ended in a run from the opening state
pub ended_backed : RowsKeepTheirWaits → (slots children : ℕ) (shape : Shape) (history : List Entry) (ended : List SeenEnded)
    → Run (opening_state slots children shape) history → AreClosed (opening_state slots children shape) history ended → AllBacked history ended
ended_backed law slots children shape history ended run closed = backed_from law slots children shape [] history ended run closed
