use Rattle.std.proofs.Common.{◌∙◌}
use Rattle.std.proofs.lemmas.Result.{on_ok_weaker}
use Rattle.board_book.specs.declared.faults.BoardFault.{BoardFault}
use Rattle.listener_parts.specs.Letting.{DrainsUntil, IsDrainedWay, LetsGo, LetsGoUntil}
use Rattle.listener_parts.proofs.AloneLemmas.{alone_more}
use Rattle.listener_parts.proofs.LettingLemmas.{if_err_as, lets_go_conns, lets_go_until}
use Rattle.listener_parts.proofs.time.let_go_of_conns.Goals as goal

pub let_go_late-requires-clause-none : goal.let_go_late-requires-clause-none
let_go_late-requires-clause-none g c = c.let_go_retiring.ensures.gone.did.row

pub drain_all-requires-clause-none : goal.drain_all-requires-clause-none
drain_all-requires-clause-none g c = c.let_go_late.ensures.gone.did.row

pub returns-clause-gone : goal.returns-clause-gone
returns-clause-gone g c =
    on_ok_weaker c.drain_all.result
    (λ (drains : LetsGo IsDrainedWay c.let_go_late.new.pass.seat.me.0 c.drain_all.new.pass.seat.me.0).
    lets_go_conns _ _ _ _ c.let_go_retiring.ensures.gone c.let_go_late.ensures.gone drains)
    c.drain_all.ensures.drains

pub returns-clause-until : goal.returns-clause-until
returns-clause-until g c =
    if_err_as c.drain_all.result (λ (f : BoardFault). DrainsUntil f c.let_go_late.new.pass.seat.me.0 c.drain_all.new.pass.seat.me.0)
    (λ (f : BoardFault). LetsGoUntil f c.args.pass.now.seat.me.0 c.drain_all.new.pass.seat.me.0)
    (λ f until. lets_go_until f _ _ _ _ c.let_go_retiring.ensures.gone c.let_go_late.ensures.gone until)
    c.drain_all.ensures.until

pub returns-clause-credits : goal.returns-clause-credits
returns-clause-credits g c = c.drain_all.ensures.credits ∙ c.let_go_late.ensures.credits ∙ c.let_go_retiring.ensures.credits

pub returns-clause-rest : goal.returns-clause-rest
returns-clause-rest g c =
    alone_more _ _ _ (alone_more _ _ _ c.let_go_retiring.ensures.rest c.let_go_late.ensures.rest) c.drain_all.ensures.rest
