-- How the server goes down: it stops, each connection that waits is closed, and each child is let go of.
use Rattle.std.specs.Prelude.{◌≡◌, ◌⊎◌, ℕ, List, [], ◌∷◌, ◌++◌, map, Option, None, Some, ⊤}
use Rattle.mpm_base.specs.declared.conn.Cause.{Cause}
use Rattle.mpm_base.specs.declared.conn.Cause.TheVariants as cause
use Rattle.mpm_base.specs.declared.conn.Tail.TheVariants as tail
use Rattle.conn_machine.specs.declared.event.Commanded.TheVariants.{Stop}
use Rattle.conn_machine.specs.declared.event.Event.{Event}
use Rattle.conn_machine.specs.declared.event.Event.TheVariants as event
use Rattle.conn_machine.specs.declared.event.Why.{Why}
use Rattle.conn_machine.specs.declared.event.Why.TheVariants as why
use Rattle.table_rule.specs.declared.view.View.{View}
use Rattle.worker_group.specs.declared.service.Exit.{Exit}
use Rattle.worker_group.specs.declared.service.Exit.TheVariants as exit
use Rattle.listener_parts.specs.Did.{Did}
use Rattle.listener_parts.specs.Letting.{AllLeftBy, Departure, gone_events}

-- a connection that waits was closed as stopped, and one that lingers for its own cause
abbrev pub IsHaltedWay : Exit → Type 0
IsHaltedWay way =
    (way ≡ exit.Close cause.Stopped tail.Direct)
    ⊎ ((ending : Cause) × (way ≡ exit.Close ending tail.Halted))

-- the event that stops the server for this, where there is one
abbrev pub halts_for : Option Why → List Event
halts_for None = []
halts_for (Some reason) = event.Command (Stop reason) ∷ []

-- whether the server may stop for that depends on nothing but what the listener alone decides: not on whether a connection is live
abbrev pub IsOwnReason : Why → Type 0
IsOwnReason why.Asked = ⊤
IsOwnReason why.Overdue = ⊤
IsOwnReason why.FrontEnded = ⊥
IsOwnReason why.FrontFailed = ⊤
IsOwnReason why.NoMemory = ⊤

-- connections that waited were closed, behind that each child was let go of that stops, and nothing else was done
pub record ClosesDown (old new : View) : Type 0 where
  pub gone : List Departure
  pub ways : AllLeftBy IsHaltedWay gone
  pub children : List ℕ
  pub did : Did (gone_events gone ++ map event.Retire children) None old new
