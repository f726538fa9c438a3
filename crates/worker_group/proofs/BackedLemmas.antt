-- Waits that a connection's link backs, over its turns.
use Rattle.std.proofs.Common.{◌≡◌, ℕ, ◌+◌, ◌≤◌, Bool, true, false, List, [], ◌∷◌, ◌++◌, count_by, Some, refl, sym, subst, arith}
use Rattle.mpm_base.specs.Count.{NeverFalls, RisesExactlyWhere}
use Rattle.mpm_base.specs.Link.{LinkCounts}
use Rattle.mpm_base.specs.declared.conn.ConnName.{ConnName}
use Rattle.mpm_base.specs.declared.conn.Kind.{Kind}
use Rattle.mpm_base.specs.declared.conn.Kind.TheVariants.{Writing}
use Rattle.conn_machine.specs.declared.row.Row.{Row}
use Rattle.conn_machine.specs.declared.state.State.{State}
use Rattle.conn_machine.specs.Rows.{live_row}
use Rattle.conn_state.specs.declared.turn.ReadTurn.TheVariants as read
use Rattle.conn_state.specs.declared.turn.WriteTurn.TheVariants as write
use Rattle.conn_state.specs.Conn.{SeenConn}
use Rattle.conn_state.specs.Turns.{ReadsOn, WritesOn}
use Rattle.board.specs.Backed.{AreBacked, BacksWait, waits_to_read, waits_to_write}
use Rattle.board.specs.BoardLaws.{WaitsAreBackedByCalls}

-- ## Counts

-- a count that rises where a test holds never falls
pub never-falls : (test : Bool) (old new : ℕ) → RisesExactlyWhere test old new → NeverFalls old new
never-falls true old new rises = rises.0
never-falls false old new same = omega (arith, same)

-- nor does one that stays
pub stays-there : (old new : ℕ) → new ≡ old → NeverFalls old new
stays-there old new same = omega (arith, same)

-- what was backed is so still where no count fell
pub backed-on : (waits : List Kind) (old new : LinkCounts) → NeverFalls old.late_reads new.late_reads → NeverFalls old.late_writes new.late_writes
    → AreBacked waits old → AreBacked waits new
backed-on waits old new reads writes backed = record {
  reads = λ below.
      let before : count_by waits_to_read waits ≤ old.late_reads + 1 = backed.reads (omega (arith, below, reads)) in
      omega (arith, before, reads);
  writes = λ below.
      let before : count_by waits_to_write waits ≤ old.late_writes = backed.writes (omega (arith, below, writes)) in
      omega (arith, before, writes);
}

-- ## Turns

-- a turn of writing that found no room backs a wait for it
pub backs-write : WaitsAreBackedByCalls → (s : State) (c c' : SeenConn) (row : Row) → live_row s.rows c.name ≡ Some row → AreBacked row.waits c.counts
    → WritesOn c c' write.NotReady → BacksWait Writing s c'
backs-write law s c c' row found backed writes = record {
  row = row;
  found = subst (λ (n : ConnName). live_row s.rows n ≡ Some row) (sym writes.name) found;
  backed = law.write row.waits Writing c.counts c'.counts refl (stays-there c.counts.late_reads c'.counts.late_reads writes.late_reads) writes.late_writes backed;
}

-- and a turn of reading that found that more has to come one for that
pub backs-read : WaitsAreBackedByCalls → (s : State) (c c' : SeenConn) (kind : Kind) (row : Row) → waits_to_read kind ≡ true → live_row s.rows c.name ≡ Some row
    → AreBacked row.waits c.counts → ReadsOn c c' read.More → BacksWait kind s c'
backs-read law s c c' kind row is found backed reads = record {
  row = row;
  found = subst (λ (n : ConnName). live_row s.rows n ≡ Some row) (sym reads.name) found;
  backed = law.read row.waits kind c.counts c'.counts is reads.late_reads (stays-there c.counts.late_writes c'.counts.late_writes reads.late_writes) backed;
}
