use Rattle.std.proofs.Common.{rules}
use Rattle.idle_workers.proofs.words.release.Goals as goal

pub fetch_add-requires : goal.fetch_add-requires
fetch_add-requires g c = (c.requires.own, search rules, c.permit_is_released.ensures _ _ _ c.args.child _ c.requires.child c.args.carrier.now.up c.requires.permit c.requires.row)
