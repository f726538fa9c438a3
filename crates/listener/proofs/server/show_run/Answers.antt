use Rattle.std.proofs.Common.{◌++◌, subst, List}
use Rattle.conn_machine.specs.declared.event.Entry.{Entry}
use Rattle.conn_machine.specs.Made.{AreOfPasses}
use Rattle.board.specs.Backed.{AllBacked}
use Rattle.listener_round.specs.FirstNumbers.{folded_by, opened_by}
use Rattle.listener.proofs.FoldedRunLemmas.{has-joined}
use Rattle.listener.proofs.RunLemmas.{all-received, closed-all, ends-links, run-from}
use Rattle.listener.proofs.TellLemmas.{tells-stop}
use Rattle.listener.proofs.server.show_run.Goals as goal

pub returns-clause-run : goal.returns-clause-run
returns-clause-run g c before =
    let b = c.args.board.now in
    run-from c.args.numbers b (subst (λ (passes : _). AreOfPasses passes b.book.history) c.requires.passes c.show.ensures.few) c.requires.timely
    c.events_keep_states_sound.ensures.run c.show.ensures.run c.show.ensures.order c.show.ensures.made c.show.ensures.own c.show.ensures.state
    c.show.ensures.opened (tells-stop b.book c.show.ensures.run c.show.ensures.state) c.show.ensures.agrees

pub returns-clause-closed : goal.returns-clause-closed
returns-clause-closed g c before down =
    let n = c.args.numbers in
    let b = c.args.board.now in
    let joined = has-joined c.folds_join.ensures g.N.Known.known n b c.show_for_folds.ensures before c.requires.passes c.requires.timely in
    let whole = joined.whole in
    let is_run = c.made_histories_are_runs.ensures.run (opened_by n) (folded_by n) whole.entries whole.made in
    closed-all n b whole (c.accepted_connections_are_closed_or_live.ensures.closed_or_live n.slots n.children n.shape whole.entries is_run)
    (c.folds_join.ensures.many b.book.base b.book.history b.ended c.show.ensures.agrees.closed) c.show.ensures.state down

pub returns-clause-links : goal.returns-clause-links
returns-clause-links g c clients before folded knows down =
    let n = c.args.numbers in
    let b = c.args.board.now in
    let joined = has-joined c.folds_join.ensures g.N.Known.known n b c.show_for_folds.ensures before c.requires.passes c.requires.timely in
    let whole = joined.whole in
    let is_run = c.made_histories_are_runs.ensures.run (opened_by n) (folded_by n) whole.entries whole.made in
    ends-links g.N.Known.known clients n b before folded knows whole joined.ended_are
    (λ number. c.ended_links_are_of_closed_connections.ensures.once n.slots n.children n.shape whole.entries whole.ended number is_run whole.closed)
    (λ number. c.ended_links_are_of_closed_connections.ensures.no_other n.slots n.children n.shape whole.entries whole.ended number is_run whole.closed)
    (c.accepted_connections_are_closed_or_live.ensures.accepted n.slots n.children n.shape whole.entries)
    (c.folds_join.ensures.many (opened_by n) whole.entries whole.ended whole.closed)
    (c.accepted_connections_are_closed_or_live.ensures.closed_or_live n.slots n.children n.shape whole.entries is_run) c.show.ensures.state
    c.show.ensures.outside.ended down

pub returns-clause-receive : goal.returns-clause-receive
returns-clause-receive g c clients before folded knows =
    all-received g.N.Known.known clients c.args.numbers c.args.board.now before folded knows c.show.ensures.agrees.answered c.show.ensures.outside.ended

pub returns-clause-outside : goal.returns-clause-outside
returns-clause-outside g c = c.show.ensures.outside

pub returns-clause-backed : goal.returns-clause-backed
returns-clause-backed g c before =
    let n = c.args.numbers in
    let b = c.args.board.now in
    let joined = has-joined c.folds_join.ensures g.N.Known.known n b c.show_for_folds.ensures before c.requires.passes c.requires.timely in
    let is_run = c.made_histories_are_runs.ensures.run (opened_by n) (folded_by n) joined.whole.entries joined.whole.made in
    subst (λ (entries : List Entry). AllBacked entries (before.ended ++ b.ended)) joined.entries_are
    (subst (AllBacked joined.whole.entries) joined.ended_are
    (c.ended_connections_are_backed.ensures n.slots n.children n.shape joined.whole.entries joined.whole.ended is_run joined.whole.closed))
