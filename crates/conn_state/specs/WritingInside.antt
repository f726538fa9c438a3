-- Several writes to a link.
use Rattle.std.specs.Prelude.{◌≡◌, ℕ, List, ◌++◌, Option, option_map}
use Rattle.mpm_base.specs.Count.{NeverFalls}
use Rattle.mpm_base.specs.Link.{LinkTold, LinkCounts}
use Rattle.conn_state.specs.Writing.{with_sent}

-- a front of the bytes was sent so far, and these are left
pub record HasSent (told told' : Option LinkTold) (counts counts' : LinkCounts) (bytes bytes' : List ℕ) : Type 0 where
  pub sent : List ℕ
  pub front : bytes ≡ sent ++ bytes'
  pub told_is : told' ≡ option_map (with_sent sent) told
  pub faults : NeverFalls counts.faults counts'.faults
  pub late_reads : counts'.late_reads ≡ counts.late_reads
  pub late_writes : counts'.late_writes ≡ counts.late_writes
  pub ends : counts'.ends ≡ counts.ends
