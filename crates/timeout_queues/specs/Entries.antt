-- How the queues keep what is parked.
use Rattle.std.specs.Prelude.{Option, option_map}
use Rattle.timeout_queues.specs.Waiting.{ParkedName}
use Rattle.timeout_queues.specs.declared.Entry.{Entry}

-- what is parked in a slot that is kept so
abbrev pub parked_in : Option Entry → Option ParkedName
parked_in kept =
    option_map (λ (e : Entry). record { life = e.life; kind = e.kind; deadline = e.deadline }) kept
