mod Ended
mod Refused
use Rattle.std.proofs.Common.{ℕ, ◌<◌, ◌∙◌, List, None, ap, sym, subst}
use Rattle.conn_machine.specs.States.{is_halted}
use Rattle.worker_group.specs.Acts.{Acts}
use Rattle.rounds.specs.PartsInside.{signal_events}
use Rattle.board_book.specs.Moments.{moment_for}
use Rattle.listener_round.proofs.FrontLemmas.{named-follows, step-kept}
use Rattle.listener_round.proofs.PartLemmas.{coming-orderless, newest-orderless, orderless-before, orderless-children}
use Rattle.listener_round.proofs.IntakeLemmas.{staffed-same, stands-within}
use Rattle.listener_round.proofs.listener_state.Listener.take_in.Goals as goal
use Rattle.listener_round.proofs.listener_state.Listener.take_in.Answers.Refused as refused
use Rattle.listener_round.proofs.listener_state.Listener.take_in.Answers.Ended as ended

pub pass_time-requires-clause-passes : goal.pass_time-requires-clause-passes
pass_time-requires-clause-passes g c =
    c.requires.passes

pub pass_time-requires-clause-free : goal.pass_time-requires-clause-free
pass_time-requires-clause-free g c =
    c.requires.free

pub pass_time-requires-clause-up : goal.pass_time-requires-clause-up
pass_time-requires-clause-up g c =
    c.requires.up

pub pass_time-requires-clause-in_time : goal.pass_time-requires-clause-in_time
pass_time-requires-clause-in_time g c =
    c.requires.in_time

pub signal_all-requires-clause-within : goal.signal_all-requires-clause-within
signal_all-requires-clause-within g c =
    sym c.is_overdue.ensures ∙ c.if-is_overdue.false

pub signal_all-requires-clause-staffed : goal.signal_all-requires-clause-staffed
signal_all-requires-clause-staffed g c =
    c.pass_time.ensures.staffed

pub signal_all-requires-clause-passes : goal.signal_all-requires-clause-passes
signal_all-requires-clause-passes g c =
    subst (λ (n : ℕ). 0 < n) (sym (c.in_ok-pass_time.ensures.passes.acts.passes)) c.requires.passes

pub signal_all-requires-clause-free : goal.signal_all-requires-clause-free
signal_all-requires-clause-free g c =
    c.in_ok-pass_time.ensures.passes.acts.row

pub let_go_of_conns-requires-clause-passes : goal.let_go_of_conns-requires-clause-passes
let_go_of_conns-requires-clause-passes g c =
    subst (λ (n : ℕ). 0 < n) (sym (c.in_ok-signal_all.ensures.signals.passes ∙ c.in_ok-pass_time.ensures.passes.acts.passes)) c.requires.passes

pub let_go_of_conns-requires-clause-free : goal.let_go_of_conns-requires-clause-free
let_go_of_conns-requires-clause-free g c =
    c.in_ok-signal_all.ensures.signals.row

pub let_go_of_conns-requires-clause-staffed : goal.let_go_of_conns-requires-clause-staffed
let_go_of_conns-requires-clause-staffed g c =
    staffed-same c.pass_time.new.board.book.state c.signal_all.new.board.book.state c.signal_all.ensures.children c.pass_time.ensures.staffed

pub heed-requires-clause-in_time : goal.heed-requires-clause-in_time
heed-requires-clause-in_time g c κs within =
    stands-within c.pass_time.new.board.book.state c.let_go_of_conns.new.board.book.state
    (c.let_go_of_conns.ensures.rest.moment ∙ c.signal_all.ensures.rest.moment) (c.let_go_of_conns.ensures.rest.going ∙ c.signal_all.ensures.rest.going)
    (sym c.is_overdue.ensures ∙ c.if-is_overdue.false) c.let_go_of_conns.ensures.staffed

pub heed-requires-clause-passes : goal.heed-requires-clause-passes
heed-requires-clause-passes g c κs within =
    subst (λ (n : ℕ). 0 < n) (sym (c.in_ok-let_go_of_conns.ensures.gone.acts.passes ∙ c.in_ok-signal_all.ensures.signals.passes ∙ c.in_ok-pass_time.ensures.passes.acts.passes)) c.requires.passes

pub heed-requires-clause-free : goal.heed-requires-clause-free
heed-requires-clause-free g c κs within =
    c.in_ok-let_go_of_conns.ensures.gone.acts.row

pub heed-requires-clause-up : goal.heed-requires-clause-up
heed-requires-clause-up g c κs within =
    ap is_halted (c.let_go_of_conns.ensures.rest.going ∙ c.signal_all.ensures.rest.going ∙ c.pass_time.ensures.going) ∙ c.requires.up

pub heed-requires-clause-step : goal.heed-requires-clause-step
heed-requires-clause-step g c κs within =
    step-kept (g.F.Front.seen c.args.front.now).told c.args.self.now.board.book.state c.let_go_of_conns.new.board.book.state (c.let_go_of_conns.ensures.rest.accepted ∙ c.signal_all.ensures.rest.accepted ∙ c.pass_time.ensures.taken) (c.let_go_of_conns.ensures.rest.going ∙ c.signal_all.ensures.rest.going ∙ c.pass_time.ensures.going) c.requires.step

pub heed-requires-clause-knows : goal.heed-requires-clause-knows
heed-requires-clause-knows g c κs within =
    coming-orderless g.N.Known.known c.args.self.now.board.book c.let_go_of_conns.new.board.book c.args.self.now.config (g.D.Store.seen c.args.store.now).told
    (orderless-before c.passes_act_in_steps.ensures.acts (moment_for c.args.moment) c.args.self.now.ready c.args.self.now.board.book c.pass_time.new.board.book c.signal_all.new.board.book c.let_go_of_conns.new.board.book c.in_ok-pass_time.ensures.passes (subst (λ (xs : List ℕ). Acts 0 (signal_events c.pass_time.new.board.book xs) None c.pass_time.new.board.book c.signal_all.new.board.book) c.slots.ensures.is c.in_ok-signal_all.ensures.signals) c.in_ok-let_go_of_conns.ensures.gone) c.requires.knows

pub heed-requires-clause-serves : goal.heed-requires-clause-serves
heed-requires-clause-serves g c κs within =
    newest-orderless c.generations_keep_their_editions.ensures g.N.Known.known c.args.self.now.board.book c.let_go_of_conns.new.board.book c.args.self.now.edition
    (orderless-before c.passes_act_in_steps.ensures.acts (moment_for c.args.moment) c.args.self.now.ready c.args.self.now.board.book c.pass_time.new.board.book c.signal_all.new.board.book c.let_go_of_conns.new.board.book c.in_ok-pass_time.ensures.passes (subst (λ (xs : List ℕ). Acts 0 (signal_events c.pass_time.new.board.book xs) None c.pass_time.new.board.book c.signal_all.new.board.book) c.slots.ensures.is c.in_ok-signal_all.ensures.signals) c.in_ok-let_go_of_conns.ensures.gone) (c.let_go_of_conns.ensures.rest.newest ∙ c.signal_all.ensures.rest.newest ∙ c.pass_time.ensures.newest) c.requires.serves

pub retire_all-requires-clause-passes : goal.retire_all-requires-clause-passes
retire_all-requires-clause-passes g c =
    subst (λ (n : ℕ). 0 < n) (sym (c.in_ok-asked.ensures.does.acts.passes ∙ c.in_ok-let_go_of_conns.ensures.gone.acts.passes ∙ c.in_ok-signal_all.ensures.signals.passes ∙ c.in_ok-pass_time.ensures.passes.acts.passes)) c.requires.passes

pub retire_all-requires-clause-free : goal.retire_all-requires-clause-free
retire_all-requires-clause-free g c =
    c.in_ok-asked.ensures.does.acts.row

pub is_gone-requires : goal.is_gone-requires
is_gone-requires g c =
    ap is_halted c.retire_all.ensures.going ∙ c.heed.ensures.up

pub start_children-requires-clause-passes : goal.start_children-requires-clause-passes
start_children-requires-clause-passes g c =
    subst (λ (n : ℕ). 0 < n) (sym (c.retire_all.ensures.retires.acts.passes ∙ c.in_ok-asked.ensures.does.acts.passes ∙ c.in_ok-let_go_of_conns.ensures.gone.acts.passes ∙ c.in_ok-signal_all.ensures.signals.passes ∙ c.in_ok-pass_time.ensures.passes.acts.passes)) c.requires.passes

pub start_children-requires-clause-free : goal.start_children-requires-clause-free
start_children-requires-clause-free g c =
    c.retire_all.ensures.retires.acts.row

pub take_all-requires-clause-named : goal.take_all-requires-clause-named
take_all-requires-clause-named g c κs within =
    named-follows g.N.Known.known (g.F.Front.seen c.args.front.now) (g.F.Front.seen c.heed.new.front) c.heed.ensures.follows c.requires.named

pub take_all-requires-clause-passes : goal.take_all-requires-clause-passes
take_all-requires-clause-passes g c κs within =
    subst (λ (n : ℕ). 0 < n) (sym (c.start_children.ensures.starts.acts.passes ∙ c.retire_all.ensures.retires.acts.passes ∙ c.in_ok-asked.ensures.does.acts.passes ∙ c.in_ok-let_go_of_conns.ensures.gone.acts.passes ∙ c.in_ok-signal_all.ensures.signals.passes ∙ c.in_ok-pass_time.ensures.passes.acts.passes)) c.requires.passes

pub take_all-requires-clause-free : goal.take_all-requires-clause-free
take_all-requires-clause-free g c κs within =
    c.start_children.ensures.starts.acts.row

pub take_all-requires-clause-serves : goal.take_all-requires-clause-serves
take_all-requires-clause-serves g c κs within =
    newest-orderless c.generations_keep_their_editions.ensures g.N.Known.known c.heed.new.self.board.book c.start_children.new.board.book c.heed.new.self.edition
    (orderless-children c.passes_act_in_steps.ensures.acts c.heed.new.self.board.book c.retire_all.new.board.book c.start_children.new.board.book c.retire_all.ensures.retires c.start_children.ensures.starts) (c.start_children.ensures.rest.newest ∙ c.retire_all.ensures.rest.newest) c.heed.ensures.serves

pub take_all-requires-clause-up : goal.take_all-requires-clause-up
take_all-requires-clause-up g c κs within =
    ap is_halted (c.start_children.ensures.going ∙ c.retire_all.ensures.going) ∙ c.heed.ensures.up

pub take_all-requires-clause-step : goal.take_all-requires-clause-step
take_all-requires-clause-step g c κs within =
    step-kept (g.F.Front.seen c.heed.new.front).told c.heed.new.self.board.book.state c.start_children.new.board.book.state (c.start_children.ensures.rest.accepted ∙ c.retire_all.ensures.rest.accepted) (c.start_children.ensures.going ∙ c.retire_all.ensures.going) c.heed.ensures.step

pub returns-in_err-pass_time : goal.returns-in_err-pass_time
returns-in_err-pass_time g c = refused.in_err-pass_time g c

pub returns-in_err-signal_all : goal.returns-in_err-signal_all
returns-in_err-signal_all g c = refused.in_err-signal_all g c

pub returns-in_err-let_go_of_conns : goal.returns-in_err-let_go_of_conns
returns-in_err-let_go_of_conns g c = refused.in_err-let_go_of_conns g c

pub returns-in_err-asked : goal.returns-in_err-asked
returns-in_err-asked g c = refused.in_err-asked g c

pub returns-in_err-start_children : goal.returns-in_err-start_children
returns-in_err-start_children g c = refused.in_err-start_children g c

pub returns-in_err-take_all : goal.returns-in_err-take_all
returns-in_err-take_all g c = refused.in_err-take_all g c

pub returns-then-is_overdue : goal.returns-then-is_overdue
returns-then-is_overdue g c = ended.then-is_overdue g c

pub returns-then-asked : goal.returns-then-asked
returns-then-asked g c = ended.then-asked g c

pub returns-then-is_gone : goal.returns-then-is_gone
returns-then-is_gone g c = ended.then-is_gone g c

pub returns : goal.returns
returns g c = ended.goes_on g c
