-- Connections that were handed out.
use Rattle.std.proofs.Common.{◌≡◌, ◌==◌, inl, inr, ℕ, suc, ◌+◌, ◌≤◌, length, Bool, true, false, List, [], ◌∷◌, ◌++◌, count_by, slice_get, Option, None, Some, refl, sym, ap, subst, ◌∙◌, arith}
use Rattle.std.proofs.lemmas.Bool.Decides.{nat_tests}
use Rattle.std.specs.Prelude.{IfSome, option_map}
use Rattle.mpm_base.specs.Count.{NeverFalls, RisesExactlyWhere}
use Rattle.mpm_base.specs.Link.{LinkCounts, LinkTold}
use Rattle.mpm_base.specs.declared.conn.ConnName.{ConnName}
use Rattle.mpm_base.specs.declared.conn.Cause.{Cause}
use Rattle.mpm_base.specs.declared.conn.Kind.{Kind}
use Rattle.mpm_base.specs.declared.conn.Kind.TheVariants.{Reading, KeepAlive, Writing, Linger, ShortLinger}
use Rattle.conn_machine.specs.declared.event.Entry.{Entry}
use Rattle.conn_machine.specs.declared.event.Event.TheVariants as event
use Rattle.conn_machine.specs.declared.row.Row.{Row}
use Rattle.conn_machine.specs.declared.state.State.{State}
use Rattle.conn_machine.specs.MachineLaws.{TakenConnectionsStartAfresh}
use Rattle.conn_machine.specs.Rows.{is_live_as, live_row, row_where}
use Rattle.conn_machine.specs.Runs.{Run, after}
use Rattle.conn_machine.specs.Table.{is_allowed, next}
use Rattle.conn_state.specs.declared.turn.LingerTurn.{LingerTurn}
use Rattle.conn_state.specs.declared.turn.LingerTurn.TheVariants as turned
use Rattle.conn_state.specs.declared.turn.ReadTurn.TheVariants as read
use Rattle.conn_state.specs.declared.turn.WriteTurn.TheVariants as write
use Rattle.conn_state.specs.Conn.{SeenConn, is_usable}
use Rattle.conn_state.specs.Turns.{LingersOn, ReadsOn, WritesOn, is_linger_late}
use Rattle.board.specs.Backed.{AreBacked, BacksWait, waits_to_read, waits_to_write}
use Rattle.board.specs.BoardLaws.{WaitsAreBackedByCalls}
use Rattle.board_book.specs.Book.{SeenBook, book_with_entry, entry_of}
use Rattle.board_book.specs.Finds.{cause_of}
use Rattle.board.specs.Fits.{IsOf, IsSettled, IsSettledFrom, IsTakenUp, WaitsAs}

-- a connection that was handed out is the one of its row
pub taken_is_of : (s : State) (c : SeenConn) → IsTakenUp s c → IsOf s c
taken_is_of s c taken = record { row = taken.row; found = taken.found; fits = taken.fits }

-- a connection that waits may be read and written on
waits_usable : (kind : Kind) (c : SeenConn) → WaitsAs kind c → is_usable c.turn ≡ true
waits_usable Reading c (inl new) = ap is_usable new
waits_usable Reading c (inr more) = ap is_usable more
waits_usable KeepAlive c waits = ap is_usable waits.turn
waits_usable Writing c waits = ap is_usable waits
waits_usable Linger c waits = waits
waits_usable ShortLinger c waits = waits

-- and so may one that did until it was handed out
settled_usable : (from : Option Kind) (why : Option Cause) (c : SeenConn) → IsSettledFrom from why c → is_usable c.turn ≡ true
settled_usable None why c settled = absurd settled
settled_usable (Some kind) why c settled = waits_usable kind c settled.waits

-- the same, by its row
pub taken_usable : (s : State) (c : SeenConn) → IsTakenUp s c → is_usable c.turn ≡ true
taken_usable s c taken = settled_usable taken.row.from taken.row.cause c taken.settled

-- ## What backs its waits

-- a count that rises where a test holds never falls
never_falls : (test : Bool) (old new : ℕ) → RisesExactlyWhere test old new → NeverFalls old new
never_falls true old new rises = rises.0
never_falls false old new same = omega (arith, same)

-- what was backed is so still where no count fell
pub backed_on : (waits : List Kind) (old new : LinkCounts) → NeverFalls old.late_reads new.late_reads → NeverFalls old.late_writes new.late_writes
    → AreBacked waits old → AreBacked waits new
backed_on waits old new reads writes backed = record {
  reads = λ below.
      let before : count_by waits_to_read waits ≤ old.late_reads + 1 = backed.reads (omega (arith, below, reads)) in
      omega (arith, before, reads);
  writes = λ below.
      let before : count_by waits_to_write waits ≤ old.late_writes = backed.writes (omega (arith, below, writes)) in
      omega (arith, before, writes);
}

-- a turn that found no room backs a wait for it
pub backs_write : WaitsAreBackedByCalls → (s : State) (c c' : SeenConn) → IsOf s c → WritesOn c c' write.NotReady → BacksWait Writing s c'
backs_write law s c c' is writes = record {
  row = is.row;
  found = ap (λ (n : ConnName). live_row s.rows n) writes.name ∙ is.found;
  backed =
      law.write is.row.waits Writing c.counts c'.counts refl (omega (arith, writes.late_reads)) writes.late_writes is.fits.backed;
}

-- one that found that more has to come a wait for that
pub backs_read : WaitsAreBackedByCalls → (s : State) (c c' : SeenConn) (kind : Kind) → waits_to_read kind ≡ true → IsOf s c → ReadsOn c c' read.More
    → BacksWait kind s c'
backs_read law s c c' kind reads_for is reads = record {
  row = is.row;
  found = ap (λ (n : ConnName). live_row s.rows n) reads.name ∙ is.found;
  backed = law.read is.row.waits kind c.counts c'.counts reads_for reads.late_reads (omega (arith, reads.late_writes)) is.fits.backed;
}

-- and so does one that dropped what came
pub backs_drop : WaitsAreBackedByCalls → (s : State) (c c' : SeenConn) (kind : Kind) → waits_to_read kind ≡ true → IsOf s c
    → LingersOn c c' turned.NotReady → BacksWait kind s c'
backs_drop law s c c' kind reads_for is drops = record {
  row = is.row;
  found = ap (λ (n : ConnName). live_row s.rows n) drops.name ∙ is.found;
  backed = law.read is.row.waits kind c.counts c'.counts reads_for drops.late_reads (omega (arith, drops.late_writes)) is.fits.backed;
}

-- ## A connection that was taken

-- the last entry of a run was allowed where it stands
last_allowed : (s : State) (history : List Entry) (e : Entry) → Run s (history ++ e ∷ []) → is_allowed (after s history) e.event ≡ true
last_allowed s [] e run = run.0
last_allowed s (x ∷ history) e run = last_allowed (next s x.event) history e run.2

row_once : (test : Row → Bool) (o : Option Row) (r row : Row) → o ≡ Some r → row_where test o ≡ Some row → row ≡ r
row_once test o r row is found = by (test r) refl where
  by : (b : Bool) → test r ≡ b → row ≡ r
  by true passes = cc (is, found, passes)
  by false passes = absurd (cc (is, found, passes))

-- a list that is empty
pub no_items : {X : Type 0} (items : List X) → (length items == 0) ≡ true → items ≡ []
no_items [] none = refl
no_items (x ∷ items) none = absurd (more (length items) none)
  where
    more : (n : ℕ) → (suc n == 0) ≡ true → ⊥
    more n is = grind (arith, nat_tests)

-- its row has no wait
pub unwaited : TakenConnectionsStartAfresh → (who : ℕ) (b b' : SeenBook) (name : ConnName) (row : Row) → after b.base b.history ≡ b.state
    → Run b'.base b'.history → b' ≡ book_with_entry who (event.Accept name.slot) b → live_row b'.state.rows name ≡ Some row → row.waits ≡ []
unwaited law who b b' name row state run is found =
    let here = subst (λ (x : SeenBook). Run x.base x.history) is run in
    let may =
    subst (λ (s : State). is_allowed s (event.Accept name.slot) ≡ true) state
    (last_allowed b.base b.history (entry_of who (event.Accept name.slot) b) here) in
    let fresh = law b.state name.slot may in
    let same = row_once (is_live_as name) (slice_get (next b.state (event.Accept name.slot)).rows name.slot) fresh.row row fresh.there
    (subst (λ (x : SeenBook). live_row x.state.rows name ≡ Some row) is found) in
    ap (λ (r : Row). r.waits) same ∙ fresh.fresh.no_wait

-- so its first wait needs nothing
pub backs_first : WaitsAreBackedByCalls → (s : State) (c : SeenConn) (row : Row) → live_row s.rows c.name ≡ Some row → row.waits ≡ []
    → BacksWait Reading s c
backs_first law s c row found none = record {
  row = row;
  found = found;
  backed = subst (λ (waits : List Kind). AreBacked (waits ++ Reading ∷ []) c.counts) (sym none) (law.first c.counts);
}

-- and its link backs the waits that it has
pub backed_first : WaitsAreBackedByCalls → (c : SeenConn) (row : Row) → row.waits ≡ [] → AreBacked row.waits c.counts
backed_first law c row none = subst (λ (waits : List Kind). AreBacked waits c.counts) (sym none) (law.none c.counts)

-- ## A connection that lingers

-- a change of what the link tells keeps its rank
rank_map : (change : LinkTold → LinkTold) (told told' : Option LinkTold) (n : ℕ) → ((t : LinkTold) → (change t).rank ≡ t.rank)
    → told' ≡ option_map change told → IfSome told (λ t. t.rank ≡ n) → IfSome told' (λ t. t.rank ≡ n)
rank_map change None told' n keeps is rank = subst (λ (o : Option LinkTold). IfSome o (λ t. t.rank ≡ n)) (sym is) tt
rank_map change (Some t) told' n keeps is rank = subst (λ (o : Option LinkTold). IfSome o (λ u. u.rank ≡ n)) (sym is) (keeps t ∙ rank)

-- a turn of lingering leaves the connection that of its row
pub dropped_is_of : (s : State) (c c' : SeenConn) (answer : LingerTurn) → LingersOn c c' answer → IsOf s c → IsOf s c'
dropped_is_of s c c' answer drops is = record {
  row = is.row;
  found = ap (λ (n : ConnName). live_row s.rows n) drops.name ∙ is.found;
  fits = record {
    child = drops.child ∙ is.fits.child;
    generation = drops.generation ∙ is.fits.generation;
    notes = drops.notes ∙ is.fits.notes;
    backed =
        backed_on is.row.waits c.counts c'.counts (never_falls (is_linger_late answer) c.counts.late_reads c'.counts.late_reads drops.late_reads)
        (omega (arith, drops.late_writes)) is.fits.backed;
    rank = rank_map _ c.told c'.told is.row.arrival (λ t. refl) drops.told is.fits.rank;
  };
}

-- a connection whose row lingers for that cause, or for none, may wait as one that does
pub settled_by : (kind : Kind) (s : State) (c : SeenConn) (why : Option Cause) (name : ConnName) → name ≡ c.name → cause_of s name ≡ why
    → IsSettled kind why c → IsSettled kind (cause_of s c.name) c
settled_by kind s c why name named is settled =
    subst (λ (w : Option Cause). IsSettled kind w c) (sym (subst (λ (n : ConnName). cause_of s n ≡ why) named is)) settled
