use Rattle.std.proofs.lemmas.Result.{on_ok_weaker}
use Rattle.board_book.specs.declared.faults.BoardFault.{BoardFault}
use Rattle.rounds.specs.ClosingInside.{DrainsSome, DrainsUntil}
use Rattle.rounds.specs.PartsInside.{LetsGoUntil}
use Rattle.rounds.proofs.ActLemmas.{if-err, lets-go-conns, lets-go-until}
use Rattle.rounds.proofs.TimelyLemmas.{drained-in_time}
use Rattle.rounds.proofs.round.let_go_of_conns.Goals as goal

pub returns-clause-gone : goal.returns-clause-gone
returns-clause-gone g c =
    on_ok_weaker c.drain_all-drained.result
    (λ (drains : DrainsSome c.let_go_late.new.board.book c.drain_all-drained.new.board.book).
    lets-go-conns c.passes_act_in_steps.ensures.acts c.args.board.now.book c.let_go_retiring.new.board.book c.let_go_late.new.board.book c.drain_all-drained.new.board.book
    c.let_go_retiring.ensures.gone c.let_go_late.ensures.gone.lets drains)
    c.drain_all-drained.ensures.drains

pub returns-clause-until : goal.returns-clause-until
returns-clause-until g c =
    if-err c.drain_all-drained.result (λ (f : BoardFault). DrainsUntil f c.let_go_late.new.board.book c.drain_all-drained.new.board.book)
    (λ (f : BoardFault). LetsGoUntil f c.args.board.now.book c.drain_all-drained.new.board.book)
    (λ f until. lets-go-until c.passes_act_in_steps.ensures.acts f c.args.board.now.book c.let_go_retiring.new.board.book c.let_go_late.new.board.book c.drain_all-drained.new.board.book
    c.let_go_retiring.ensures.gone c.let_go_late.ensures.gone.lets until)
    c.drain_all-drained.ensures.until

pub returns-clause-rest : goal.returns-clause-rest
returns-clause-rest g c =
    c.passes_act_in_steps.ensures.rest c.args.board.now.book c.let_go_late.new.board.book c.drain_all-drained.new.board.book
    (c.passes_act_in_steps.ensures.rest c.args.board.now.book c.let_go_retiring.new.board.book c.let_go_late.new.board.book c.let_go_retiring.ensures.rest c.let_go_late.ensures.rest)
    c.drain_all-drained.ensures.rest

pub returns-clause-timely : goal.returns-clause-timely
returns-clause-timely g c before =
    let did =
    drained-in_time c.histories_join.ensures.state c.passes_act_in_steps.ensures.acts c.drain_all-drained.result c.args.board.now.book c.let_go_retiring.new.board.book
    c.let_go_late.new.board.book c.drain_all-drained.new.board.book c.let_go_retiring.ensures.gone c.let_go_late.ensures.gone.lets c.drain_all-drained.ensures.drains
    c.drain_all-drained.ensures.until c.show_state.ensures.after c.show_state-2.ensures.after c.requires.staffed in
    did.timely before

pub returns-clause-staffed : goal.returns-clause-staffed
returns-clause-staffed g c =
    let did =
    drained-in_time c.histories_join.ensures.state c.passes_act_in_steps.ensures.acts c.drain_all-drained.result c.args.board.now.book c.let_go_retiring.new.board.book
    c.let_go_late.new.board.book c.drain_all-drained.new.board.book c.let_go_retiring.ensures.gone c.let_go_late.ensures.gone.lets c.drain_all-drained.ensures.drains
    c.drain_all-drained.ensures.until c.show_state.ensures.after c.show_state-2.ensures.after c.requires.staffed in
    did.staffed
