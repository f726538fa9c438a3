-- What became of the store of a run.
use Rattle.std.specs.Prelude.{◌≡◌, ◌⊎◌, ℕ, ◌+◌, ◌≤◌, Bool, true, false, List, option_map}
use Rattle.mpm_base.specs.Count.{greatest_count}
use Rattle.mpm_base.specs.Store.{StoreSeen}
use Rattle.conn_machine.specs.declared.event.Commanded.TheVariants.{Refused}
use Rattle.conn_machine.specs.declared.event.Entry.{Entry}
use Rattle.conn_machine.specs.declared.event.Event.{Event}
use Rattle.conn_machine.specs.declared.event.Event.TheVariants as event
use Rattle.conn_machine.specs.declared.event.Refusal.TheVariants.{Store}
use Rattle.conn_machine.specs.Events.{count_events, is_order}
use Rattle.conn_machine.specs.declared.state.Going.{Going}
use Rattle.listener_round.specs.Generations.{renewed}
use Rattle.board_book.specs.ClosedDown.{IsBrokenOff}

-- the count rose by so many at least, or stands at the greatest number, as far as a count goes
abbrev pub RisesBy : ℕ → ℕ → ℕ → Type 0
RisesBy many old new = (old + many ≤ new) ⊎ (greatest_count ≤ new)

-- a restart was refused because the store failed
abbrev pub is_store_refusal : Event → Bool
is_store_refusal (event.Command (Refused Store)) = true
is_store_refusal other = false

-- the store was renewed so often, and in no other way changed what it tells; and it counted a failed call for each restart of the history
-- that was refused because it failed
pub record IsRenewed (renewals : ℕ) (history : List Entry) (old new : StoreSeen) : Type 0 where
  pub told : new.told ≡ option_map (renewed renewals) old.told
  pub failed : RisesBy (count_events is_store_refusal history) old.counts.faults new.counts.faults

-- it was renewed at each order of the history; where the server stopped for want of memory perhaps once more
abbrev pub KeepsStore : Going → List Entry → StoreSeen → StoreSeen → Type 0
KeepsStore going history old new =
    IsRenewed (count_events is_order history) history old new
    ⊎ (IsBrokenOff going × IsRenewed (count_events is_order history + 1) history old new)
