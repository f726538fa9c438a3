use Rattle.std.proofs.Common.{◌≡◌, ℕ, List, [], ◌∷◌, Some, ap, sym, subst, ◌∙◌}
use Rattle.mpm_base.specs.declared.conn.Ask.{Ask}
use Rattle.mpm_base.specs.declared.conn.ConnName.{ConnName}
use Rattle.conn_machine.specs.declared.event.Event.TheVariants as event
use Rattle.conn_state.specs.Conn.{SeenConn}
use Rattle.board_book.specs.Book.{SeenBook}
use Rattle.board.specs.Board.{SeenBoard}
use Rattle.board.specs.Editions.{IsOfGeneration}
use Rattle.worker_group.specs.Acts.{Acts}
use Rattle.worker_group.specs.Service.{answer_events}
use Rattle.worker_group.proofs.ActsLemmas.{acts_recorded, acts_same}
use Rattle.worker_group.proofs.AnswerLemmas.{asked-open, may-answer, served-answered, closes-unanswered, fewer-answered}
use Rattle.worker_group.proofs.EditionLemmas.{edition-acts, edition-answered}
use Rattle.worker_group.proofs.ExitLemmas.{gives-up, ends-unanswered}
use Rattle.worker_group.proofs.TurnedLemmas.{turned-answered, turned-refused, turned-unanswered}
use Rattle.worker_group.proofs.service.answer.Goals as goal

pub answer-requires-clause-allowed : goal.answer-requires-clause-allowed
answer-requires-clause-allowed g c going =
    may-answer c.args.board.now.book.state c.args.conn.now c.name.result c.args.ask c.show.ensures.sound c.requires.served
    (asked-open c.args.conn.now c.args.ask c.show-2.ensures.conn c.requires.asked) c.name.ensures going

pub answer-requires-clause-row : goal.answer-requires-clause-row
answer-requires-clause-row g c = c.requires.row ∙ ap (λ (n : ConnName). Some n) (sym c.name.ensures)

-- one response was decided
decided : (who : ℕ) (name name' : ConnName) (ask : Ask) (b b' : SeenBook) → Acts who (event.Answer name' ask ∷ []) (Some name') b b' → name' ≡ name
    → (asks : List Ask) × Acts who (answer_events name asks) (Some name) b b'
decided who name name' ask b b' acts same =
    (ask ∷ [], subst (λ (n : ConnName). Acts who (event.Answer n ask ∷ []) (Some n) b b') same acts)

pub returns-in-Ok-answer-clause-acts : goal.returns-in-Ok-answer-clause-acts
returns-in-Ok-answer-clause-acts g c =
    decided c.args.who c.args.conn.now.name c.name.result c.args.ask c.args.board.now.book c.answer.new.self.book
    (acts_recorded c.args.who (event.Answer c.name.result c.args.ask) (Some c.name.result) c.args.board.now c.answer.new.self
    c.in-Ok.ensures.ok.new_is c.answer.ensures.entries c.answer.ensures.row) c.name.ensures

pub returns-in-Err-answer-clause-acts : goal.returns-in-Err-answer-clause-acts
returns-in-Err-answer-clause-acts g c =
    decided c.args.who c.args.conn.now.name c.name.result c.args.ask c.args.board.now.book c.answer.new.self.book
    (acts_recorded c.args.who (event.Answer c.name.result c.args.ask) (Some c.name.result) c.args.board.now c.answer.new.self
    c.in-Ok.ensures.ok.new_is c.answer.ensures.entries c.answer.ensures.row) c.name.ensures

pub returns-in-Err-clause-acts : goal.returns-in-Err-clause-acts
returns-in-Err-clause-acts g c =
    ([], acts_same c.args.who _ c.args.board.now.book c.answer.new.self.book (ap (λ (b : SeenBoard). b.book) c.in-Err.ensures.err) c.requires.row)

pub returns-in-Err-clause-exits : goal.returns-in-Err-clause-exits
returns-in-Err-clause-exits g c = gives-up c.args.conn.now c.args.ask c.in-Err.fault c.requires.asked

pub returns-in-Err-answer-clause-exits : goal.returns-in-Err-answer-clause-exits
returns-in-Err-answer-clause-exits g c = ends-unanswered c.args.conn.now _ c.in-Err-answer.ensures.err

pub returns-in-Ok-answer-clause-served : goal.returns-in-Ok-answer-clause-served
returns-in-Ok-answer-clause-served g c =
    served-answered c.args.board.now.book.state c.answer.new.self.book.state c.args.conn.now _ c.name.result c.args.ask c.in-Ok.note c.requires.served
    c.name.ensures c.in-Ok.ensures.note (ap (λ (b : SeenBoard). b.book.state) c.in-Ok.ensures.ok.new_is) c.in-Ok-answer.ensures.ok

pub returns-in-Ok-answer-clause-fewer : goal.returns-in-Ok-answer-clause-fewer
returns-in-Ok-answer-clause-fewer g c =
    fewer-answered c.args.board.now.book.state c.answer.new.self.book.state c.args.conn.now _ c.name.result c.args.ask c.in-Ok.note c.show.ensures.sound
    c.requires.served (asked-open c.args.conn.now c.args.ask c.show-2.ensures.conn c.requires.asked)
    (ap (λ (b : SeenBoard). b.book.state) c.in-Ok.ensures.ok.new_is) c.in-Ok-answer.ensures.ok

pub returns-in-Err-answer-clause-may : goal.returns-in-Err-answer-clause-may
returns-in-Err-answer-clause-may g c =
    closes-unanswered c.args.board.now.book.state c.answer.new.self.book.state c.args.conn.now _ c.name.result c.args.ask c.in-Ok.note c.show.ensures.sound
    c.requires.served c.name.ensures c.in-Ok.ensures.note (ap (λ (b : SeenBoard). b.book.state) c.in-Ok.ensures.ok.new_is) c.in-Err-answer.ensures.err

pub returns-in-Ok-answer-clause-turned : goal.returns-in-Ok-answer-clause-turned
returns-in-Ok-answer-clause-turned g c = turned-answered c.args.conn.now _ c.in-Ok.note c.in-Ok-answer.ensures.ok

pub returns-in-Err-answer-clause-turned : goal.returns-in-Err-answer-clause-turned
returns-in-Err-answer-clause-turned g c = turned-unanswered c.args.conn.now _ c.in-Err-answer.ensures.err

pub returns-in-Err-clause-turned : goal.returns-in-Err-clause-turned
returns-in-Err-clause-turned g c = turned-refused c.args.conn.now c.args.ask c.requires.asked

pub returns-in-Err-clause-edition : goal.returns-in-Err-clause-edition
returns-in-Err-clause-edition g c =
    subst (λ (b : SeenBoard). IsOfGeneration g.N.Known.known b.book c.args.conn.now.generation c.args.conn.now.reader.limits c.args.conn.now.site) (sym c.in-Err.ensures.err)
    c.requires.edition

pub returns-in-Ok-answer-clause-edition : goal.returns-in-Ok-answer-clause-edition
returns-in-Ok-answer-clause-edition g c =
    edition-answered g.N.Known.known c.answer.new.self.book c.args.conn.now _ c.in-Ok.note c.in-Ok-answer.ensures.ok
    (edition-acts c.generations_keep_their_editions.ensures g.N.Known.known c.args.who (event.Answer c.name.result c.args.ask ∷ []) (Some c.name.result) c.args.board.now.book
    c.answer.new.self.book c.args.conn.now
    (acts_recorded c.args.who (event.Answer c.name.result c.args.ask) (Some c.name.result) c.args.board.now c.answer.new.self c.in-Ok.ensures.ok.new_is
    c.answer.ensures.entries c.answer.ensures.row) c.requires.edition)

pub returns-in-Err-answer-clause-edition : goal.returns-in-Err-answer-clause-edition
returns-in-Err-answer-clause-edition g c =
    subst (λ (x : SeenConn). IsOfGeneration g.N.Known.known c.answer.new.self.book x.generation x.reader.limits x.site) (sym c.in-Err-answer.ensures.err)
    (edition-acts c.generations_keep_their_editions.ensures g.N.Known.known c.args.who (event.Answer c.name.result c.args.ask ∷ []) (Some c.name.result) c.args.board.now.book
    c.answer.new.self.book c.args.conn.now
    (acts_recorded c.args.who (event.Answer c.name.result c.args.ask) (Some c.name.result) c.args.board.now c.answer.new.self c.in-Ok.ensures.ok.new_is
    c.answer.ensures.entries c.answer.ensures.row) c.requires.edition)
