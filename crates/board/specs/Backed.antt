-- What the waits of a connection rest on: the calls of its link that were not ready.
use Rattle.std.specs.Prelude.{◌≡◌, ℕ, ◌+◌, ◌<◌, ◌≤◌, Bool, true, false, List, [], ◌∷◌, ◌++◌, count_by, Some, ⊤}
use Rattle.mpm_base.specs.Count.{greatest_count}
use Rattle.mpm_base.specs.Link.{LinkCounts}
use Rattle.mpm_base.specs.declared.conn.Kind.{Kind}
use Rattle.mpm_base.specs.declared.conn.Kind.TheVariants.{Reading, KeepAlive, Writing, Linger, ShortLinger}
use Rattle.conn_machine.specs.declared.row.Row.{Row}
use Rattle.conn_machine.specs.declared.state.State.{State}
use Rattle.conn_machine.specs.declared.event.Entry.{Entry}
use Rattle.conn_machine.specs.Rows.{live_row}
use Rattle.conn_machine.specs.Waits.{waits_of}
use Rattle.conn_state.specs.Conn.{SeenConn}
use Rattle.conn_state.specs.Answered.{SeenEnded}

-- it is a wait for something to read, or to drop
abbrev pub waits_to_read : Kind → Bool
waits_to_read Reading = true
waits_to_read KeepAlive = true
waits_to_read Writing = false
waits_to_read Linger = true
waits_to_read ShortLinger = true

-- it is a wait for room
abbrev pub waits_to_write : Kind → Bool
waits_to_write Reading = false
waits_to_write KeepAlive = false
waits_to_write Writing = true
waits_to_write Linger = false
waits_to_write ShortLinger = false

-- of the waits those for something to read are at most one more than the reads of the link that were not ready: the first one is for the
-- first request, of which nothing was read yet. Those for room are at most its writes that were not ready. Each count is excepted that
-- stands at its greatest number, as it can't rise
pub record AreBacked (waits : List Kind) (counts : LinkCounts) : Type 0 where
  pub reads : counts.late_reads < greatest_count → count_by waits_to_read waits ≤ counts.late_reads + 1
  pub writes : counts.late_writes < greatest_count → count_by waits_to_write waits ≤ counts.late_writes

-- so they are with one wait more of the connection's row, for this
pub record BacksWait (kind : Kind) (s : State) (c : SeenConn) : Type 0 where
  pub row : Row
  pub found : live_row s.rows c.name ≡ Some row
  pub backed : AreBacked (row.waits ++ kind ∷ []) c.counts

-- of each connection that ended the link backs what the history had it wait for
abbrev pub AllBacked : List Entry → List SeenEnded → Type 0
AllBacked history [] = ⊤
AllBacked history (e ∷ ended) = AreBacked (waits_of e.name history) e.counts × AllBacked history ended
