use Rattle.std.proofs.Common.{◌≡◌, ap, subst, sym, true, false, nat_lt, None, refl, ◌∙◌, arith}
use Rattle.conn_machine.specs.declared.event.Event.TheVariants as event
use Rattle.board_book.specs.Moments.{moment_for}
use Rattle.rounds.proofs.ActLemmas.{acts-added, is-below, not-below, passes-later, passes-none}
use Rattle.board.specs.Board.{SeenBoard}
use Rattle.board_book.specs.Timely.{AreTimely}
use Rattle.conn_machine.specs.States.{is_staffed}
use Rattle.rounds.proofs.TimelyLemmas.{gone-in_time, still-in_time, timely-tick}
use Rattle.rounds.proofs.round.pass_time.Goals as goal

pub returns-in_ok-tick-clause-passes : goal.returns-in_ok-tick-clause-passes
returns-in_ok-tick-clause-passes g c =
    let a = c.args.board.now.book in
    let to = moment_for c.args.moment in
    let later : nat_lt a.state.moment to ≡ true =
    is-below a.state.moment to (omega (arith, c.let_go_late.ensures.rest.moment, c.min-moment.ensures, c.moment.ensures)) in
    passes-later c.passes_act_in_steps.ensures.acts to a c.let_go_late.new.board.book c.tick.new.self.book c.let_go_late-then-moment.new.board.book (rw later refl)
    c.let_go_late.ensures.gone.lets c.let_go_late.ensures.gone.soon
    (rw (← c.min-moment.ensures)
    (acts-added c.passes_act_in_steps.ensures.acts (event.Tick c.min-moment.result) None c.let_go_late.new.board c.tick.new.self c.in_ok-tick.ensures.ok.new_is c.tick.ensures.entries
    (c.tick.ensures.row ∙ c.let_go_late.ensures.gone.lets.acts.row)))
    c.let_go_late-then-moment.ensures.gone.lets

pub returns-else-moment-clause-passes : goal.returns-else-moment-clause-passes
returns-else-moment-clause-passes g c =
    let a = c.args.board.now.book in
    let to = moment_for c.args.moment in
    let later : nat_lt a.state.moment to ≡ false =
    not-below a.state.moment to (omega (arith, c.let_go_late.ensures.rest.moment, c.min-moment.ensures, c.moment.ensures, c.if-moment.false)) in
    passes-none to a c.let_go_late.new.board.book (rw later refl) c.let_go_late.ensures.gone.lets c.let_go_late.ensures.gone.soon

pub returns-in_ok-tick-clause-timely : goal.returns-in_ok-tick-clause-timely
returns-in_ok-tick-clause-timely g c before =
    let law = c.histories_join.ensures.state in
    let a = c.args.board.now.book in
    let b = c.let_go_late.new.board.book in
    let first = gone-in_time law a b c.let_go_late.ensures.gone.lets c.show_state.ensures.after c.show.ensures.state c.requires.in_time.staffed in
    let in_time = still-in_time a.state b.state c.let_go_late.ensures.rest.moment c.let_go_late.ensures.rest.going first.staffed c.requires.in_time in
    let acts =
    acts-added c.passes_act_in_steps.ensures.acts (event.Tick c.min-moment.result) None c.let_go_late.new.board c.tick.new.self c.in_ok-tick.ensures.ok.new_is c.tick.ensures.entries
    (c.tick.ensures.row ∙ c.let_go_late.ensures.gone.lets.acts.row) in
    let ticks =
    timely-tick c.min-moment.result b c.tick.new.self.book acts c.show.ensures.state in_time (omega (arith, c.moment.ensures, c.if-moment.true)) (omega (arith, c.min-moment.ensures)) in
    let staffed = ap (λ (v : SeenBoard). is_staffed v.book.state) c.in_ok-tick.ensures.ok.new_is ∙ first.staffed in
    let second =
    gone-in_time law c.tick.new.self.book c.let_go_late-then-moment.new.board.book c.let_go_late-then-moment.ensures.gone.lets c.show_state-then-moment.ensures.after
    c.show_state-then-moment-2.ensures.after staffed in
    second.timely (ticks (first.timely before))

pub returns-in_ok-tick-clause-staffed : goal.returns-in_ok-tick-clause-staffed
returns-in_ok-tick-clause-staffed g c =
    let law = c.histories_join.ensures.state in
    let a = c.args.board.now.book in
    let first =
    gone-in_time law a c.let_go_late.new.board.book c.let_go_late.ensures.gone.lets c.show_state.ensures.after c.show.ensures.state c.requires.in_time.staffed in
    let staffed = ap (λ (v : SeenBoard). is_staffed v.book.state) c.in_ok-tick.ensures.ok.new_is ∙ first.staffed in
    let second =
    gone-in_time law c.tick.new.self.book c.let_go_late-then-moment.new.board.book c.let_go_late-then-moment.ensures.gone.lets c.show_state-then-moment.ensures.after
    c.show_state-then-moment-2.ensures.after staffed in
    second.staffed

pub returns-else-moment-clause-timely : goal.returns-else-moment-clause-timely
returns-else-moment-clause-timely g c before =
    (gone-in_time c.histories_join.ensures.state c.args.board.now.book c.let_go_late.new.board.book c.let_go_late.ensures.gone.lets c.show_state.ensures.after
    c.show.ensures.state c.requires.in_time.staffed).timely before

pub returns-else-moment-clause-staffed : goal.returns-else-moment-clause-staffed
returns-else-moment-clause-staffed g c =
    (gone-in_time c.histories_join.ensures.state c.args.board.now.book c.let_go_late.new.board.book c.let_go_late.ensures.gone.lets c.show_state.ensures.after
    c.show.ensures.state c.requires.in_time.staffed).staffed

pub returns-in_err-tick-clause-timely : goal.returns-in_err-tick-clause-timely
returns-in_err-tick-clause-timely g c before =
    let first =
    gone-in_time c.histories_join.ensures.state c.args.board.now.book c.let_go_late.new.board.book c.let_go_late.ensures.gone.lets c.show_state.ensures.after
    c.show.ensures.state c.requires.in_time.staffed in
    let was = first.timely before in
    subst (λ (v : SeenBoard). AreTimely v.book.base v.book.history) (sym c.in_err-tick.ensures.err) was

pub returns-in_err-tick-clause-staffed : goal.returns-in_err-tick-clause-staffed
returns-in_err-tick-clause-staffed g c =
    let first =
    gone-in_time c.histories_join.ensures.state c.args.board.now.book c.let_go_late.new.board.book c.let_go_late.ensures.gone.lets c.show_state.ensures.after
    c.show.ensures.state c.requires.in_time.staffed in
    ap (λ (v : SeenBoard). is_staffed v.book.state) c.in_err-tick.ensures.err ∙ first.staffed
