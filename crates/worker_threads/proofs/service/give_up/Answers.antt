use Rattle.std.proofs.Common.{sym, subst}
use Rattle.mpm_base.specs.declared.conn.Cause.{Cause}
use Rattle.mpm_base.specs.declared.conn.Tail.TheVariants.{Direct}
use Rattle.worker_group.specs.declared.service.Exit.TheVariants as exit
use Rattle.board_turns.specs.Carries.{LeavesBy}
use Rattle.board_turns.proofs.LeavesLemmas.{gives_up}
use Rattle.worker_threads.proofs.ServingLemmas.{gave_up}
use Rattle.worker_threads.proofs.service.give_up.Goals as goal

pub close-requires-clause-may : goal.close-requires-clause-may
close-requires-clause-may g c =
    subst (λ (why : Cause). LeavesBy g.N.Known.known c.args.carrier.now.seat.me.0 c.args.conn (exit.Close why Direct)) (sym c.cause_of.ensures)
    (gives_up g.N.Known.known _ c.args.conn c.args.fault c.requires.may)

pub returns-clause-turns : goal.returns-clause-turns
returns-clause-turns g c = gave_up _ _ c.args.conn.name c.args.fault c.cause_of.result c.cause_of.ensures c.close.ensures.turn
