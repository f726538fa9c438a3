use Rattle.std.proofs.Common.{None, Some, ap, subst, sym, ◌∙◌, refl}
use Rattle.conn_machine.specs.declared.event.Event.TheVariants as event
use Rattle.conn_state.specs.Conn.{SeenConn}
use Rattle.board.specs.Board.{SeenBoard}
use Rattle.board_book.specs.Faults.{IsRefusedFor}
use Rattle.board_book.specs.Book.{row_in}
use Rattle.board.specs.Editions.{IsOfGeneration}
use Rattle.worker_group.specs.Acts.{Acts}
use Rattle.worker_group.specs.Service.{LeavesRest}
use Rattle.rounds.specs.ClosingInside.{IsLingeringFor, lingering_give_up_events}
use Rattle.rounds.proofs.HeldLemmas.{found-no_more, settled-on}
use Rattle.rounds.proofs.closing.linger_on.Goals as goal

pub park-requires-clause-settled : goal.park-requires-clause-settled
park-requires-clause-settled g c =
    settled-on c.args.board.now.book.state c.args.kind c.args.cause c.args.conn c.requires.lingers c.requires.kind c.requires.late c.show.ensures.conn

pub park-requires-clause-turned : goal.park-requires-clause-turned
park-requires-clause-turned g c = found-no_more c.args.kind c.args.conn c.requires.kind c.requires.late

pub give_up_lingering-requires-clause-row : goal.give_up_lingering-requires-clause-row
give_up_lingering-requires-clause-row g c =
    ap (λ (b : SeenBoard). row_in 0 b.book) c.in-Err.ensures.err ∙ c.requires.row
    ∙ ap (λ (x : SeenConn). Some x.name) (sym c.in-Err.ensures.back)

pub give_up_lingering-requires-clause-lingers : goal.give_up_lingering-requires-clause-lingers
give_up_lingering-requires-clause-lingers g c =
    subst (λ (x : SeenConn). IsLingeringFor c.args.cause c.park.new.self.book.state x) (sym c.in-Err.ensures.back)
    (subst (λ (b : SeenBoard). IsLingeringFor c.args.cause b.book.state c.args.conn) (sym c.in-Err.ensures.err) c.requires.lingers)

pub give_up_lingering-requires-clause-edition : goal.give_up_lingering-requires-clause-edition
give_up_lingering-requires-clause-edition g c =
    subst (λ (x : SeenConn). IsOfGeneration g.N.Known.known c.park.new.self.book x.generation x.reader.limits x.site) (sym c.in-Err.ensures.back)
    (subst (λ (b : SeenBoard). IsOfGeneration g.N.Known.known b.book c.args.conn.generation c.args.conn.reader.limits c.args.conn.site) (sym c.in-Err.ensures.err)
    c.requires.edition)

pub give_up_lingering-requires-clause-why : goal.give_up_lingering-requires-clause-why
give_up_lingering-requires-clause-why g c =
    subst (λ (b : SeenBoard). IsRefusedFor c.in-Err.fault b.book) (sym c.in-Err.ensures.err) c.in-Err.ensures.why

pub returns-in-Ok-clause-parked : goal.returns-in-Ok-clause-parked
returns-in-Ok-clause-parked g c =
    c.passes_act_in_steps.ensures.acts.one 0 (event.Park c.args.conn.name c.args.kind) None c.args.board.now.book c.park.new.self.book
    (ap (λ (b : SeenBoard). b.book) c.in-Ok.ensures.ok.new_is) c.park.ensures.entries c.in-Ok.ensures.row

pub returns-in-Ok-clause-state : goal.returns-in-Ok-clause-state
returns-in-Ok-clause-state g c = ap (λ (b : SeenBoard). b.book.state) c.in-Ok.ensures.ok.new_is

pub returns-in-Ok-clause-rest : goal.returns-in-Ok-clause-rest
returns-in-Ok-clause-rest g c =
    subst (LeavesRest c.args.board.now.book) (ap (λ (b : SeenBoard). b.book) (sym c.in-Ok.ensures.ok.new_is))
    (record { moment = refl; accepted = refl; newest = refl; going = refl })

pub returns-in-Err-clause-given_up : goal.returns-in-Err-clause-given_up
returns-in-Err-clause-given_up g c =
    subst (λ (b : SeenBoard). Acts 0 (lingering_give_up_events c.in-Err.fault c.args.cause c.args.conn.name) None b.book c.give_up_lingering.new.board.book)
    c.in-Err.ensures.err
    (subst (λ (x : SeenConn). Acts 0 (lingering_give_up_events c.in-Err.fault c.args.cause x.name) None c.park.new.self.book c.give_up_lingering.new.board.book)
    c.in-Err.ensures.back c.give_up_lingering.ensures.acts)

pub returns-in-Err-clause-rest : goal.returns-in-Err-clause-rest
returns-in-Err-clause-rest g c =
    subst (λ (b : SeenBoard). LeavesRest b.book c.give_up_lingering.new.board.book) c.in-Err.ensures.err c.give_up_lingering.ensures.rest
