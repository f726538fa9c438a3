use Rattle.std.proofs.Common.{refl, sym, ap, ◌∙◌, subst}
use Rattle.conn_state.specs.Turns.{ShutsOn}
use Rattle.conn_state.specs.declared.turn.ReadTurn.TheVariants as read
use Rattle.conn_state.specs.declared.turn.WriteTurn.TheVariants as write
use Rattle.worker_group.specs.declared.service.Exit.TheVariants as exit
use Rattle.worker_group.proofs.ExitLemmas.{exits-read, exits-written, keeps-alive}
use Rattle.worker_group.proofs.TurnedLemmas.{turned-on, turned-shut, turned-written}
use Rattle.board_turns.proofs.LeavesLemmas.{read_failed, read_gone, read_kept, read_lacking, read_more, read_on, shut_failed, shut_on, written, written_failed, written_late}
use Rattle.worker_threads.proofs.ServingLemmas.{asked_then, behind_that, exits_asked, off_the_lock}
use Rattle.worker_threads.proofs.service.converse_once.Goals as goal

-- ## What was written

pub returns-in-NotReady-clause-may : goal.returns-in-NotReady-clause-may
returns-in-NotReady-clause-may g c = written_late c.waits_are_backed_by_calls.ensures g.N.Known.known _ c.args.conn.now c.write_turn.new.self c.requires.served c.in-NotReady.ensures

pub returns-in-NotReady-clause-conversed : goal.returns-in-NotReady-clause-conversed
returns-in-NotReady-clause-conversed g c =
    let w = c.in-NotReady.ensures in
    off_the_lock _ c.args.conn.now c.write_turn.new.self w.name w.child (turned-written c.args.conn.now c.write_turn.new.self write.NotReady w)

pub returns-in-NotReady-clause-exits : goal.returns-in-NotReady-clause-exits
returns-in-NotReady-clause-exits g c = exits-written c.args.conn.now c.write_turn.new.self write.NotReady _ c.in-NotReady.ensures refl

pub returns-in-LinkFailed-clause-may : goal.returns-in-LinkFailed-clause-may
returns-in-LinkFailed-clause-may g c = written_failed g.N.Known.known _ c.args.conn.now c.write_turn.new.self c.requires.served c.in-LinkFailed.ensures

pub returns-in-LinkFailed-clause-conversed : goal.returns-in-LinkFailed-clause-conversed
returns-in-LinkFailed-clause-conversed g c =
    let w = c.in-LinkFailed.ensures in
    off_the_lock _ c.args.conn.now c.write_turn.new.self w.name w.child (turned-written c.args.conn.now c.write_turn.new.self write.LinkFailed w)

pub returns-in-LinkFailed-clause-exits : goal.returns-in-LinkFailed-clause-exits
returns-in-LinkFailed-clause-exits g c = exits-written c.args.conn.now c.write_turn.new.self write.LinkFailed _ c.in-LinkFailed.ensures refl

-- ## Behind the last response

pub returns-then-shut-clause-may : goal.returns-then-shut-clause-may
returns-then-shut-clause-may g c =
    shut_on g.N.Known.known _ c.write_turn.new.self c.shut.new.self
    (written g.N.Known.known _ c.args.conn.now c.write_turn.new.self c.requires.served c.in-Done.ensures) c.in-Done.ensures.leaves
    (sym c.last.ensures ∙ c.if-last.true) (subst (ShutsOn c.write_turn.new.self c.shut.new.self) c.if-shut.true c.shut.ensures)

pub returns-then-shut-clause-conversed : goal.returns-then-shut-clause-conversed
returns-then-shut-clause-conversed g c =
    let w = c.in-Done.ensures in
    let s = c.shut.ensures in
    off_the_lock _ c.args.conn.now c.shut.new.self (s.name ∙ w.name) (s.child ∙ w.child) (turned-shut c.args.conn.now c.write_turn.new.self c.shut.new.self _ w s)

pub returns-then-last-clause-may : goal.returns-then-last-clause-may
returns-then-last-clause-may g c =
    shut_failed g.N.Known.known _ c.write_turn.new.self c.shut.new.self
    (written g.N.Known.known _ c.args.conn.now c.write_turn.new.self c.requires.served c.in-Done.ensures)
    (subst (ShutsOn c.write_turn.new.self c.shut.new.self) c.if-shut.false c.shut.ensures)

pub returns-then-last-clause-conversed : goal.returns-then-last-clause-conversed
returns-then-last-clause-conversed g c =
    let w = c.in-Done.ensures in
    let s = c.shut.ensures in
    off_the_lock _ c.args.conn.now c.shut.new.self (s.name ∙ w.name) (s.child ∙ w.child) (turned-shut c.args.conn.now c.write_turn.new.self c.shut.new.self _ w s)

-- ## What was read

pub returns-in-More-clause-may : goal.returns-in-More-clause-may
returns-in-More-clause-may g c =
    read_kept c.waits_are_backed_by_calls.ensures g.N.Known.known _ c.write_turn.new.self c.read_turn.new.self _
    (written g.N.Known.known _ c.args.conn.now c.write_turn.new.self c.requires.served c.in-Done.ensures) c.in-More.ensures.reads c.noted.ensures c.if-noted.true
    (sym c.rest_empty.ensures.kept ∙ c.if-rest_empty.true)

pub returns-in-More-2-clause-may : goal.returns-in-More-2-clause-may
returns-in-More-2-clause-may g c =
    read_more c.waits_are_backed_by_calls.ensures g.N.Known.known _ c.write_turn.new.self c.read_turn.new.self
    (written g.N.Known.known _ c.args.conn.now c.write_turn.new.self c.requires.served c.in-Done.ensures) c.in-More-2.ensures.reads

pub returns-in-More-2-2-clause-may : goal.returns-in-More-2-2-clause-may
returns-in-More-2-2-clause-may g c =
    read_more c.waits_are_backed_by_calls.ensures g.N.Known.known _ c.write_turn.new.self c.read_turn.new.self
    (written g.N.Known.known _ c.args.conn.now c.write_turn.new.self c.requires.served c.in-Done.ensures) c.in-More-2.ensures.reads

pub returns-in-Gone-clause-may : goal.returns-in-Gone-clause-may
returns-in-Gone-clause-may g c =
    read_gone g.N.Known.known _ c.write_turn.new.self c.read_turn.new.self
    (written g.N.Known.known _ c.args.conn.now c.write_turn.new.self c.requires.served c.in-Done.ensures) (sym c.last.ensures ∙ c.if-last.false) c.in-Gone.ensures.reads

pub returns-in-LinkFailed-read_turn-clause-may : goal.returns-in-LinkFailed-read_turn-clause-may
returns-in-LinkFailed-read_turn-clause-may g c =
    read_failed g.N.Known.known _ c.write_turn.new.self c.read_turn.new.self
    (written g.N.Known.known _ c.args.conn.now c.write_turn.new.self c.requires.served c.in-Done.ensures) c.in-LinkFailed-read_turn.ensures.reads

pub returns-in-NoMemory-clause-may : goal.returns-in-NoMemory-clause-may
returns-in-NoMemory-clause-may g c =
    read_lacking g.N.Known.known _ c.write_turn.new.self c.read_turn.new.self
    (written g.N.Known.known _ c.args.conn.now c.write_turn.new.self c.requires.served c.in-Done.ensures) c.in-NoMemory.ensures.reads

pub returns-in-Interim-clause-served : goal.returns-in-Interim-clause-served
returns-in-Interim-clause-served g c =
    read_on g.N.Known.known _ c.write_turn.new.self c.read_turn.new.self read.Interim
    (written g.N.Known.known _ c.args.conn.now c.write_turn.new.self c.requires.served c.in-Done.ensures) c.in-Interim.ensures.reads refl

pub answer-requires-clause-served : goal.answer-requires-clause-served
answer-requires-clause-served g c =
    read_on g.N.Known.known _ c.write_turn.new.self c.read_turn.new.self (read.Asked c.in-Asked.ask)
    (written g.N.Known.known _ c.args.conn.now c.write_turn.new.self c.requires.served c.in-Done.ensures) c.in-Asked.ensures.reads refl

pub returns-in-More-clause-conversed : goal.returns-in-More-clause-conversed
returns-in-More-clause-conversed g c =
    let w = c.in-Done.ensures in
    let r = c.in-More.ensures.reads in
    off_the_lock _ c.args.conn.now c.read_turn.new.self (r.name ∙ w.name) (r.child ∙ w.child)
    (turned-on c.args.conn.now c.write_turn.new.self c.read_turn.new.self write.Done read.More w r)

pub returns-in-More-2-clause-conversed : goal.returns-in-More-2-clause-conversed
returns-in-More-2-clause-conversed g c =
    let w = c.in-Done.ensures in
    let r = c.in-More-2.ensures.reads in
    off_the_lock _ c.args.conn.now c.read_turn.new.self (r.name ∙ w.name) (r.child ∙ w.child)
    (turned-on c.args.conn.now c.write_turn.new.self c.read_turn.new.self write.Done read.More w r)

pub returns-in-More-2-2-clause-conversed : goal.returns-in-More-2-2-clause-conversed
returns-in-More-2-2-clause-conversed g c =
    let w = c.in-Done.ensures in
    let r = c.in-More-2.ensures.reads in
    off_the_lock _ c.args.conn.now c.read_turn.new.self (r.name ∙ w.name) (r.child ∙ w.child)
    (turned-on c.args.conn.now c.write_turn.new.self c.read_turn.new.self write.Done read.More w r)

pub returns-in-Gone-clause-conversed : goal.returns-in-Gone-clause-conversed
returns-in-Gone-clause-conversed g c =
    let w = c.in-Done.ensures in
    let r = c.in-Gone.ensures.reads in
    off_the_lock _ c.args.conn.now c.read_turn.new.self (r.name ∙ w.name) (r.child ∙ w.child)
    (turned-on c.args.conn.now c.write_turn.new.self c.read_turn.new.self write.Done read.Gone w r)

pub returns-in-LinkFailed-read_turn-clause-conversed : goal.returns-in-LinkFailed-read_turn-clause-conversed
returns-in-LinkFailed-read_turn-clause-conversed g c =
    let w = c.in-Done.ensures in
    let r = c.in-LinkFailed-read_turn.ensures.reads in
    off_the_lock _ c.args.conn.now c.read_turn.new.self (r.name ∙ w.name) (r.child ∙ w.child)
    (turned-on c.args.conn.now c.write_turn.new.self c.read_turn.new.self write.Done read.LinkFailed w r)

pub returns-in-NoMemory-clause-conversed : goal.returns-in-NoMemory-clause-conversed
returns-in-NoMemory-clause-conversed g c =
    let w = c.in-Done.ensures in
    let r = c.in-NoMemory.ensures.reads in
    off_the_lock _ c.args.conn.now c.read_turn.new.self (r.name ∙ w.name) (r.child ∙ w.child)
    (turned-on c.args.conn.now c.write_turn.new.self c.read_turn.new.self write.Done read.NoMemory w r)

pub returns-in-Interim-clause-conversed : goal.returns-in-Interim-clause-conversed
returns-in-Interim-clause-conversed g c =
    let w = c.in-Done.ensures in
    let r = c.in-Interim.ensures.reads in
    off_the_lock _ c.args.conn.now c.read_turn.new.self (r.name ∙ w.name) (r.child ∙ w.child)
    (turned-on c.args.conn.now c.write_turn.new.self c.read_turn.new.self write.Done read.Interim w r)

pub returns-in-Gone-clause-exits : goal.returns-in-Gone-clause-exits
returns-in-Gone-clause-exits g c = exits-read c.write_turn.new.self c.read_turn.new.self read.Gone _ c.in-Gone.ensures.reads refl

pub returns-in-LinkFailed-read_turn-clause-exits : goal.returns-in-LinkFailed-read_turn-clause-exits
returns-in-LinkFailed-read_turn-clause-exits g c = exits-read c.write_turn.new.self c.read_turn.new.self read.LinkFailed _ c.in-LinkFailed-read_turn.ensures.reads refl

pub returns-in-NoMemory-clause-exits : goal.returns-in-NoMemory-clause-exits
returns-in-NoMemory-clause-exits g c = exits-read c.write_turn.new.self c.read_turn.new.self read.NoMemory _ c.in-NoMemory.ensures.reads refl

pub returns-in-More-clause-exits : goal.returns-in-More-clause-exits
returns-in-More-clause-exits g c =
    exits-read c.write_turn.new.self c.read_turn.new.self read.More _ c.in-More.ensures.reads
    (ap exit.Park (keeps-alive c.read_turn.new.self (sym c.noted.ensures ∙ c.if-noted.true) (sym c.rest_empty.ensures.kept ∙ c.if-rest_empty.true)))

-- ## What was answered

pub returns-in-Asked-clause-conversed : goal.returns-in-Asked-clause-conversed
returns-in-Asked-clause-conversed g c =
    let w = c.in-Done.ensures in
    let r = c.in-Asked.ensures.reads in
    behind_that _ _ c.args.conn.now c.read_turn.new.self c.answer.new.conn (r.name ∙ w.name) (r.child ∙ w.child)
    (turned-on c.args.conn.now c.write_turn.new.self c.read_turn.new.self write.Done (read.Asked c.in-Asked.ask) w r).none_falls
    (asked_then c.in-Asked.ask _ _ c.read_turn.new.self c.answer.new.conn c.answer.result r.turn c.answer.ensures.took c.answer.ensures.why)

pub returns-in-Asked-clause-exits : goal.returns-in-Asked-clause-exits
returns-in-Asked-clause-exits g c =
    exits_asked c.in-Asked.ask _ _ c.read_turn.new.self c.answer.new.conn c.answer.result c.in-Asked.ensures.reads.turn c.answer.ensures.why
