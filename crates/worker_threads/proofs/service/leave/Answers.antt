use Rattle.std.proofs.Common.{sym, ap, subst, inl, ◌∙◌}
use Rattle.conn_state.specs.Conn.{SeenConn}
use Rattle.board_turns.specs.Carries.{LeavesBy}
use Rattle.board_turns.proofs.LeavesLemmas.{closes_as, lingers_as}
use Rattle.board_turns.proofs.TurnLemmas.{one_turn}
use Rattle.worker_threads.proofs.ServingLemmas.{closed_so, gave_up_then, given_up_so, has_permit_as, lingers_so, refused_so}
use Rattle.worker_threads.proofs.service.leave.Goals as goal

pub park-requires-clause-may : goal.park-requires-clause-may
park-requires-clause-may g c = subst (LeavesBy g.N.Known.known _ c.args.conn) c.in-Park.is c.requires.may

pub returns-in-Ok-clause-turns : goal.returns-in-Ok-clause-turns
returns-in-Ok-clause-turns g c = one_turn _ _ _ c.in-Ok.ensures.turn

pub returns-in-Ok-clause-left : goal.returns-in-Ok-clause-left
returns-in-Ok-clause-left g c = inl (sym c.in-Park.is)

pub returns-in-Err-clause-permit : goal.returns-in-Err-clause-permit
returns-in-Err-clause-permit g c = has_permit_as c.args.conn.child _ _ (ap (λ (x : SeenConn). x.child) c.in-Err.ensures.back) c.give_up.ensures.permit

pub returns-in-Err-clause-turns : goal.returns-in-Err-clause-turns
returns-in-Err-clause-turns g c =
    gave_up_then _ _ _ c.args.conn _ _ _ c.in-Err.ensures.back c.in-Err.ensures.err c.give_up.ensures.turns c.give_up.ensures.way

pub returns-in-Err-clause-left : goal.returns-in-Err-clause-left
returns-in-Err-clause-left g c = refused_so _ _ _ _ c.in-Park.is c.give_up.ensures.way

pub linger-requires-clause-may : goal.linger-requires-clause-may
linger-requires-clause-may g c = lingers_as g.N.Known.known _ c.args.conn c.args.way _ c.in-Linger.is c.requires.may

pub returns-in-Linger-clause-turns : goal.returns-in-Linger-clause-turns
returns-in-Linger-clause-turns g c = one_turn _ _ _ c.linger.ensures.turn

pub returns-in-Linger-clause-left : goal.returns-in-Linger-clause-left
returns-in-Linger-clause-left g c = lingers_so g.N.Known.known _ c.args.conn c.args.way _ c.in-Linger.is c.requires.may

pub close-requires-clause-may : goal.close-requires-clause-may
close-requires-clause-may g c = closes_as g.N.Known.known _ c.args.conn c.args.way _ _ c.in-Close.is c.requires.may

pub returns-in-Close-clause-turns : goal.returns-in-Close-clause-turns
returns-in-Close-clause-turns g c = one_turn _ _ _ c.close.ensures.turn

pub returns-in-Close-clause-left : goal.returns-in-Close-clause-left
returns-in-Close-clause-left g c = closed_so g.N.Known.known _ c.args.conn c.args.way _ _ c.in-Close.is c.requires.may

pub give_up-requires-in-GiveUp-clause-may : goal.give_up-requires-in-GiveUp-clause-may
give_up-requires-in-GiveUp-clause-may g c = subst (LeavesBy g.N.Known.known _ c.args.conn) c.in-GiveUp.is c.requires.may

pub returns-in-GiveUp-clause-turns : goal.returns-in-GiveUp-clause-turns
returns-in-GiveUp-clause-turns g c = given_up_so _ _ c.args.conn.name _ _ c.give_up-in-GiveUp.ensures.way c.give_up-in-GiveUp.ensures.turns

pub returns-in-GiveUp-clause-left : goal.returns-in-GiveUp-clause-left
returns-in-GiveUp-clause-left g c = inl (c.give_up-in-GiveUp.ensures.way ∙ sym c.in-GiveUp.is)
