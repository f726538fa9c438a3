use Rattle.std.proofs.Common.{◌≡◌, ◌+◌, inl, ap, ◌∙◌, rules}
use Rattle.board.specs.Board.{SeenBoard}
use Rattle.command_answers.specs.Answers.{generation_answer}
use Rattle.conn_machine.specs.declared.state.State.{State}
use Rattle.listener_round.proofs.RefusalLemmas.{plan-refused}
use Rattle.listener_round.proofs.RestartLemmas.{begun-by}
use Rattle.listener_round.proofs.listener_state.Listener.begin.Goals as goal

pub returns-clause-carries : goal.returns-clause-carries
returns-clause-carries g c =
    inl
    (begun-by c.passes_act_in_steps.ensures.acts c.generations_keep_their_editions.ensures c.args.plan c.in-Ok-Ok.shape c.args.self.now.board.book
    c.command.new.self.book (record { limits = c.head_limits_of.result; site = c.in-Ok-Ok.site; stop_ms = c.config.inside.now.stop_ms })
    (search rules) (ap (λ (x : SeenBoard). x.book) c.in_ok-command.ensures.ok.new_is) c.in_ok-command.ensures.entries
    (c.in_ok-command.ensures.row ∙ c.requires.free) c.show_editions.ensures.begun c.show.ensures.after (search rules) (search rules) (search rules))

pub returns-clause-answers : goal.returns-clause-answers
returns-clause-answers g c =
    let newest : c.command.new.self.book.state.newest ≡ c.args.self.now.board.book.state.newest + 1 =
    ap (λ (x : SeenBoard). x.book.state.newest) c.in_ok-command.ensures.ok.new_is in
    inl (newest, c.generation_answer.ensures ∙ ap (λ (s : State). generation_answer s.newest) c.state.ensures ∙ ap generation_answer newest)

pub returns-in_default-clause-answers : goal.returns-in_default-clause-answers
returns-in_default-clause-answers g c =
    plan-refused c.args.self.now.board.book c.refuse.new.self.board.book c.memory_answer.result c.refuse.result c.memory_answer.ensures
    c.refuse.ensures.refuses c.refuse.ensures.says
