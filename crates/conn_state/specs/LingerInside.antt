-- What dropping takes from a link.
use Rattle.std.specs.Prelude.{◌≡◌, ◌==◌, ℕ, ◌<◌, ◌≤◌, ◌+◌, List, [], take, length, Option, Some, None, option_map, IfSome}
use Rattle.mpm_base.specs.Count.{NeverFalls, RisesWhere, RisesExactlyWhere}
use Rattle.mpm_base.specs.Link.{LinkTold, LinkCounts, with_received}
use Rattle.conn_state.specs.declared.turn.LingerTurn.{LingerTurn}
use Rattle.conn_state.specs.declared.turn.LingerTurn.TheVariants as left
use Rattle.conn_state.specs.Turns.{is_drained, is_sated, is_linger_late, is_linger_failure}
use Rattle.conn_state.specs.Sizes.{most_dropped}

-- bytes came so far, and were dropped
pub record HasDropped (told told' : Option LinkTold) (counts counts' : LinkCounts) (dropped dropped' : ℕ) : Type 0 where
  pub got : List ℕ
  pub dropped_is : dropped' ≡ dropped + length got
  pub told_is : told' ≡ option_map (with_received (length got)) told
  pub gives : IfSome told (λ t. got ≡ take (length got) t.coming)
  pub faults : NeverFalls counts.faults counts'.faults
  pub late_reads : counts'.late_reads ≡ counts.late_reads
  pub late_writes : counts'.late_writes ≡ counts.late_writes
  pub ends : counts'.ends ≡ counts.ends

-- dropping ended with the answer
pub record DropsOn (told told' : Option LinkTold) (counts counts' : LinkCounts) (dropped dropped' : ℕ) (answer : LingerTurn) : Type 0 where
  pub got : List ℕ
  pub dropped_is : dropped' ≡ dropped + length got
  pub told_is : told' ≡ option_map (with_received (length got)) told
  pub gives : IfSome told (λ t. got ≡ take (length got) t.coming)
  pub none_comes : answer ≡ left.Drained → IfSome told' (λ t. t.coming ≡ [])
  pub most : dropped' ≤ most_dropped
  pub sated : is_sated answer ≡ (dropped' == most_dropped)
  pub faults : RisesWhere (is_linger_failure answer) counts.faults counts'.faults
  pub late_reads : RisesExactlyWhere (is_linger_late answer) counts.late_reads counts'.late_reads
  pub late_writes : counts'.late_writes ≡ counts.late_writes
  pub ends : RisesExactlyWhere (is_drained answer) counts.ends counts'.ends

-- bytes were dropped, and no more than may be
pub record DropsSome (dropped dropped' : ℕ) : Type 0 where
  pub more : dropped < dropped'
  pub most : dropped' ≤ most_dropped

-- one read of the link: bytes came and were dropped, or dropping ended with an answer
abbrev pub DropsPiece : Option LinkTold → Option LinkTold → LinkCounts → LinkCounts → ℕ → ℕ → Option LingerTurn → Type 0
DropsPiece told told' counts counts' dropped dropped' None =
    HasDropped told told' counts counts' dropped dropped' × DropsSome dropped dropped'
DropsPiece told told' counts counts' dropped dropped' (Some answer) = DropsOn told told' counts counts' dropped dropped' answer
