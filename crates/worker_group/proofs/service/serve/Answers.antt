use Rattle.std.proofs.Common.{◌<◌, ℕ, [], ◌∷◌, Some, ap, sym, subst, ◌∙◌}
use Rattle.mpm_base.specs.declared.conn.ConnName.{ConnName}
use Rattle.conn_machine.specs.declared.event.Event.TheVariants as event
use Rattle.board.specs.Board.{SeenBoard}
use Rattle.worker_group.specs.Acts.{Acts}
use Rattle.worker_group.proofs.ActsLemmas.{acts_recorded, acts_one}
use Rattle.worker_group.proofs.EditionLemmas.{edition-acts}
use Rattle.worker_group.proofs.StartLemmas.{may-start, served-started, has-served}
use Rattle.worker_group.proofs.service.serve.Goals as goal

pub start-requires-clause-allowed : goal.start-requires-clause-allowed
start-requires-clause-allowed g c =
    may-start c.args.board.now.book.state c.queue.new.self.book.state c.args.name (c.requires.allowed c.in_ok-conn.ensures.ok.was_open.going)
    (ap (λ (b : SeenBoard). b.book.state) c.in_ok-conn.ensures.ok.new_is)

pub converse-exit-requires-clause-served : goal.converse-exit-requires-clause-served
converse-exit-requires-clause-served g c =
    served-started c.args.board.now.book.state c.queue.new.self.book.state _ c.in_ok-conn.conn c.args.name
    (c.requires.allowed c.in_ok-conn.ensures.ok.was_open.going)
    (ap (λ (b : SeenBoard). b.book.state) c.in_ok-conn.ensures.ok.new_is) (ap (λ (b : SeenBoard). b.book.state) c.start.ensures.is)
    c.in_ok-conn.ensures.name (c.start.ensures.handed c.in_ok-conn.conn c.in_ok-conn.ensures.handed) c.in_ok-conn.ensures.stays_open

pub converse-exit-requires-clause-row : goal.converse-exit-requires-clause-row
converse-exit-requires-clause-row g c = c.start.ensures.row ∙ ap (λ (n : ConnName). Some n) (sym c.in_ok-conn.ensures.name)

pub converse-exit-requires-clause-edition : goal.converse-exit-requires-clause-edition
converse-exit-requires-clause-edition g c =
    edition-acts c.generations_keep_their_editions.ensures g.N.Known.known c.args.who (event.Start c.args.name ∷ []) (Some c.args.name) c.queue.new.self.book c.start.new.self.book c.in_ok-conn.conn
    (acts_recorded c.args.who (event.Start c.args.name) (Some c.args.name) c.queue.new.self c.start.new.self c.start.ensures.is c.start.ensures.entries
    c.start.ensures.row) c.in_ok-conn.ensures.edition

pub leave-requires-clause-row : goal.leave-requires-clause-row
leave-requires-clause-row g c =
    c.converse-exit.ensures.acts.1.row ∙ ap (λ (n : ConnName). Some n) (sym c.converse-exit.ensures.name)

pub leave-requires-clause-who : goal.leave-requires-clause-who
leave-requires-clause-who g c =
    subst (λ (n : ℕ). c.args.who < n)
    (sym (c.converse-exit.ensures.acts.1.passes ∙ ap (λ (b : SeenBoard). b.book.passes) c.start.ensures.is
    ∙ ap (λ (b : SeenBoard). b.book.passes) c.in_ok-conn.ensures.ok.new_is)) c.requires.who

pub returns-clause-served : goal.returns-clause-served
returns-clause-served g c =
    let who = c.args.who in
    let queued : Acts who (event.Queue c.args.name ∷ []) (Some c.args.name) c.args.board.now.book c.queue.new.self.book =
    acts_one who (event.Queue c.args.name) (Some c.args.name) c.args.board.now.book c.queue.new.self.book
    (ap (λ (b : SeenBoard). b.book) c.in_ok-conn.ensures.ok.new_is) c.queue.ensures.entries c.in_ok-conn.ensures.row in
    let started : Acts who (event.Start c.args.name ∷ []) (Some c.args.name) c.queue.new.self.book c.start.new.self.book =
    acts_recorded who (event.Start c.args.name) (Some c.args.name) c.queue.new.self c.start.new.self c.start.ensures.is c.start.ensures.entries
    c.start.ensures.row in
    has-served who c.args.name c.args.board.now c.queue.new.self.book c.start.new.self.book c.converse-exit.new.board.book
    c.leave.new.board c.in_ok-conn.conn c.converse-exit.new.conn c.converse-exit.result c.in_ok-conn.ensures.name c.in_ok-conn.ensures.conn queued
    started c.converse-exit.ensures.name c.converse-exit.ensures.acts c.show.ensures.state c.converse-exit.ensures.turned c.converse-exit.ensures.exits
    c.leave.ensures.left
