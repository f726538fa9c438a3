use Rattle.std.proofs.Common.{Option, None, Some, ap, subst, sym, ◌∙◌}
use Rattle.mpm_base.specs.declared.conn.Cause.{Cause}
use Rattle.conn_machine.specs.declared.event.Event.TheVariants as event
use Rattle.conn_state.specs.Conn.{SeenConn}
use Rattle.board.specs.Board.{SeenBoard}
use Rattle.board.specs.Editions.{IsOfGeneration}
use Rattle.board.specs.Fits.{IsSettled}
use Rattle.board_book.specs.Book.{row_in}
use Rattle.worker_group.specs.Acts.{Acts}
use Rattle.worker_group.specs.Service.{IsGivenUp, LeavesRest, give_up_events}
use Rattle.worker_group.proofs.ActsLemmas.{acts_one}
use Rattle.worker_group.proofs.ServeLemmas.{cause-none}
use Rattle.worker_group.proofs.ExitLemmas.{put-there, rest_parked}
use Rattle.worker_group.proofs.service.park.Goals as goal

pub give_up-requires-clause-row : goal.give_up-requires-clause-row
give_up-requires-clause-row g c =
    ap (λ (b : SeenBoard). row_in c.args.who b.book) c.in-Err.ensures.err ∙ c.requires.row
    ∙ ap (λ (x : SeenConn). Some x.name) (sym c.in-Err.ensures.back)

pub give_up-requires-clause-edition : goal.give_up-requires-clause-edition
give_up-requires-clause-edition g c =
    subst (λ (b : SeenBoard). IsOfGeneration g.N.Known.known b.book c.in-Err.conn.generation c.in-Err.conn.reader.limits c.in-Err.conn.site) (sym c.in-Err.ensures.err)
    (subst (λ (x : SeenConn). IsOfGeneration g.N.Known.known c.args.board.now.book x.generation x.reader.limits x.site) (sym c.in-Err.ensures.back) c.requires.edition)

pub park-requires-clause-settled : goal.park-requires-clause-settled
park-requires-clause-settled g c =
    subst (λ (o : Option Cause). IsSettled c.args.kind o c.args.conn) (sym (cause-none c.args.board.now.book.state c.args.conn c.requires.hand))
    c.requires.settled

pub returns-in-Ok-clause-there : goal.returns-in-Ok-clause-there
returns-in-Ok-clause-there g c =
    put-there c.args.board.now c.park.new.self c.args.conn c.requires.hand.row c.show.ensures.agrees c.requires.hand.found c.in-Ok.ensures.parked

pub returns-in-Err-clause-ended : goal.returns-in-Err-clause-ended
returns-in-Err-clause-ended g c =
    subst (λ (x : SeenConn). IsGivenUp c.in-Err.fault x c.give_up.new.board) c.in-Err.ensures.back c.give_up.ensures.ended

pub returns-in-Ok-clause-parked : goal.returns-in-Ok-clause-parked
returns-in-Ok-clause-parked g c =
    acts_one c.args.who (event.Park c.args.conn.name c.args.kind) None c.args.board.now.book c.park.new.self.book
    (ap (λ (b : SeenBoard). b.book) c.in-Ok.ensures.ok.new_is) c.park.ensures.entries c.in-Ok.ensures.row

pub returns-in-Ok-clause-rest : goal.returns-in-Ok-clause-rest
returns-in-Ok-clause-rest g c listener =
    rest_parked c.args.who c.args.conn.name c.args.kind c.args.board.now.book c.park.new.self.book
    (ap (λ (b : SeenBoard). b.book) c.in-Ok.ensures.ok.new_is)

pub returns-in-Err-clause-given_up : goal.returns-in-Err-clause-given_up
returns-in-Err-clause-given_up g c =
    subst (λ (b : SeenBoard). Acts c.args.who (give_up_events c.in-Err.fault c.args.conn.name) None b.book c.give_up.new.board.book) c.in-Err.ensures.err
    (subst (λ (x : SeenConn). Acts c.args.who (give_up_events c.in-Err.fault x.name) None c.park.new.self.book c.give_up.new.board.book)
    c.in-Err.ensures.back c.give_up.ensures.acts)

pub returns-in-Err-clause-rest : goal.returns-in-Err-clause-rest
returns-in-Err-clause-rest g c listener =
    subst (λ (b : SeenBoard). LeavesRest b.book c.give_up.new.board.book) c.in-Err.ensures.err (c.give_up.ensures.rest listener)
