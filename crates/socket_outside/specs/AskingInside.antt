-- Whether the system is asked for a connection.
use Rattle.std.specs.Prelude.{Bool, false}
use Rattle.mpm_base.specs.declared.front.Arrival.{Arrival}
use Rattle.mpm_base.specs.declared.front.Arrival.TheVariants as arrival

-- whether the system is to be asked again behind that answer, where it was to be asked before
abbrev pub asks_again : {L : Type 0} → Arrival L → Bool → Bool
asks_again (arrival.Some link) asks = asks
asks_again arrival.None asks = false
asks_again arrival.Failed asks = asks
