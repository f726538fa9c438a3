-- A child of idle workers has room exactly beside fewer connections than it takes.
use Rattle.std.proofs.Common.{◌*◌}
use Rattle.event_server.proofs.CapacityLemmas.{fewer_where_below}
use Rattle.event_server.proofs.start_line.capacity_of.Goals as goal

pub returns : goal.returns
returns c = fewer_where_below c.args.threads (c.args.factor * c.args.threads)
