use Rattle.std.proofs.Common.{None, true, false, ap, subst}
use Rattle.conn_machine.specs.declared.event.Event.TheVariants as event
use Rattle.board.specs.Board.{SeenBoard}
use Rattle.conn_state.specs.Turns.{ShutsOn}
use Rattle.worker_group.proofs.ActsLemmas.{acts_one}
use Rattle.worker_group.proofs.EditionLemmas.{edition-shut}
use Rattle.worker_group.proofs.ExitLemmas.{put-there}
use Rattle.worker_group.proofs.LingerLemmas.{lingers-named, fails-named, may-linger, out-ended, out-there, shut-lingers}
use Rattle.worker_group.proofs.service.let_linger.Goals as goal

pub linger-requires-clause-shows : goal.linger-requires-clause-shows
linger-requires-clause-shows g c =
    may-linger c.args.cause c.args.conn c.shut.new.self true (subst (ShutsOn c.args.conn c.shut.new.self) c.if-shut.true c.shut.ensures)
    c.requires.shows

pub linger-requires-clause-edition : goal.linger-requires-clause-edition
linger-requires-clause-edition g c = edition-shut g.N.Known.known c.args.board.now.book c.args.conn c.shut.new.self _ c.shut.ensures c.requires.edition

pub close-requires-clause-edition : goal.close-requires-clause-edition
close-requires-clause-edition g c = edition-shut g.N.Known.known c.args.board.now.book c.args.conn c.shut.new.self _ c.shut.ensures c.requires.edition

pub returns-then-shut-clause-left : goal.returns-then-shut-clause-left
returns-then-shut-clause-left g c =
    lingers-named c.args.who c.args.cause c.args.conn.name c.shut.new.self.name c.args.board.now.book c.linger.new.self.book
    (acts_one c.args.who (event.Linger c.shut.new.self.name c.args.cause) None c.args.board.now.book c.linger.new.self.book
    (ap (λ (b : SeenBoard). b.book) c.linger.ensures.is) c.linger.ensures.entries c.linger.ensures.row) c.shut.ensures.name

pub returns-else-shut-clause-left : goal.returns-else-shut-clause-left
returns-else-shut-clause-left g c =
    fails-named c.args.who c.args.cause c.args.conn.name c.shut.new.self.name c.args.board.now.book c.close.new.board.book c.close.ensures.acts
    c.shut.ensures.name

pub returns-then-shut-clause-out : goal.returns-then-shut-clause-out
returns-then-shut-clause-out g c =
    let shuts : ShutsOn c.args.conn c.shut.new.self true = subst (ShutsOn c.args.conn c.shut.new.self) c.if-shut.true c.shut.ensures in
    let lingers = shut-lingers c.args.board.now.book.state c.args.cause c.args.conn c.shut.new.self c.requires.hand c.requires.allowed c.requires.shows shuts in
    out-there c.args.cause c.args.conn c.shut.new.self c.linger.new.self shuts
    (put-there c.args.board.now c.linger.new.self c.shut.new.self lingers.row c.show.ensures.agrees lingers.found
    (ap (λ (b : SeenBoard). b.conns) c.linger.ensures.is))

pub returns-else-shut-clause-out : goal.returns-else-shut-clause-out
returns-else-shut-clause-out g c =
    let shuts : ShutsOn c.args.conn c.shut.new.self false = subst (ShutsOn c.args.conn c.shut.new.self) c.if-shut.false c.shut.ensures in
    out-ended c.args.cause c.args.conn c.shut.new.self c.close.new.board shuts c.close.ensures.last
