use Rattle.std.proofs.Common.{rules}
use Rattle.idle_workers.proofs.Answering.{looked}
use Rattle.idle_workers.proofs.words.idle.Goals as goal

pub load-found-requires : goal.load-found-requires
load-found-requires g c = (c.requires.own, search rules, c.idle_word_is_looked_at.ensures _ _ _ c.args.child _ c.requires.child c.args.pass.now.up)

pub returns-clause-found : goal.returns-clause-found
returns-clause-found g c =
    let told = c.load-found.ensures.2.2 in
    looked c.args.child c.load-found.result _ c.args.pass.now.seat.me.0 c.load-found.new.seat.me.0 told.0 (search rules) told.1 told.2 told.3 told.4
