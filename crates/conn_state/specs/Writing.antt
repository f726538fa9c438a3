-- What a turn of writing sends and leaves.
use Rattle.std.specs.Prelude.{◌≡◌, ℕ, ◌<◌, Bool, true, false, List, [], ◌++◌, length, Option, option_map}
use Rattle.mpm_base.specs.Count.{RisesWhere, RisesExactlyWhere}
use Rattle.mpm_base.specs.Link.{LinkTold, LinkCounts}
use Rattle.conn_state.specs.declared.turn.WriteTurn.{WriteTurn}
use Rattle.conn_state.specs.declared.turn.WriteTurn.TheVariants as write

-- the turn found no room to write
abbrev pub is_not_ready : WriteTurn → Bool
is_not_ready write.Done = false
is_not_ready write.NotReady = true
is_not_ready write.LinkFailed = false

-- a write of the turn failed
abbrev pub is_write_failure : WriteTurn → Bool
is_write_failure write.Done = false
is_write_failure write.NotReady = false
is_write_failure write.LinkFailed = true

-- what is left to send: nothing, or something
abbrev pub WriteLeaves : WriteTurn → List ℕ → Type 0
WriteLeaves write.Done pending = pending ≡ []
WriteLeaves write.NotReady pending = 0 < length pending
WriteLeaves write.LinkFailed pending = 0 < length pending

-- the bytes were sent
abbrev pub with_sent : List ℕ → LinkTold → LinkTold
with_sent bytes t = record t { sent = t.sent ++ bytes }

-- writing ended with the answer: a front of the bytes was sent, and these are left
pub record SendsOn (told told' : Option LinkTold) (counts counts' : LinkCounts) (bytes bytes' : List ℕ) (answer : WriteTurn) : Type 0 where
  pub leaves : WriteLeaves answer bytes'
  pub sent : List ℕ
  pub front : bytes ≡ sent ++ bytes'
  pub told_is : told' ≡ option_map (with_sent sent) told
  pub faults : RisesWhere (is_write_failure answer) counts.faults counts'.faults
  pub late_reads : counts'.late_reads ≡ counts.late_reads
  pub late_writes : RisesExactlyWhere (is_not_ready answer) counts.late_writes counts'.late_writes
  pub ends : counts'.ends ≡ counts.ends
