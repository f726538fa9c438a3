use Rattle.std.proofs.Common.{rules}
use Rattle.idle_workers.proofs.words.uncredit.Goals as goal

pub compare_exchange-requires : goal.compare_exchange-requires
compare_exchange-requires g c =
    (c.requires.own, search rules, c.child_is_uncredited.ensures _ _ _ c.args.child c.args.threads _ c.requires.child c.args.pass.now.up c.requires.number c.requires.credit)
