use Rattle.std.proofs.Common.{◌≡◌, ℕ, true, None, sym, subst}
use Rattle.mpm_base.specs.declared.conn.ConnName.{ConnName}
use Rattle.mpm_base.specs.declared.conn.Cause.TheVariants as cause
use Rattle.mpm_base.specs.declared.conn.Tail.TheVariants.{Direct}
use Rattle.conn_machine.specs.States.{is_halted}
use Rattle.conn_state.specs.Conn.{SeenConn}
use Rattle.board_book.specs.declared.faults.BoardFault.{BoardFault}
use Rattle.board_book.specs.declared.faults.BoardFault.TheVariants as fault
use Rattle.board_book.specs.Faults.{IsRefusedFor}
use Rattle.board_book.specs.Book.{SeenBook}
use Rattle.board.specs.Board.{SeenBoard}
use Rattle.worker_group.specs.Acts.{Acts}
use Rattle.worker_group.specs.Service.{IsGivenUp, RefusalLasts, give_up_events}
use Rattle.worker_group.proofs.ExitLemmas.{halted-closed, rest_closed}
use Rattle.worker_group.proofs.service.give_up.Goals as goal

-- the events of the fault that it is
acts-for : (who : ℕ) (name : ConnName) (f g : BoardFault) (a b : SeenBook) → f ≡ g → Acts who (give_up_events g name) None a b
    → Acts who (give_up_events f name) None a b
acts-for who name f g a b is acts = subst (λ (x : BoardFault). Acts who (give_up_events x name) None a b) (sym is) acts

-- what lasts of it
lasts-for : (f g : BoardFault) (b : SeenBook) → f ≡ g → RefusalLasts g b → RefusalLasts f b
lasts-for f g b is lasts = subst (λ (x : BoardFault). RefusalLasts x b) (sym is) lasts

-- and the connection that ended for it
ended-for : (c : SeenConn) (f g : BoardFault) (b : SeenBoard) → f ≡ g → IsGivenUp g c b → IsGivenUp f c b
ended-for c f g b is ended = subst (λ (x : BoardFault). IsGivenUp x c b) (sym is) ended

pub returns-in-Halted-clause-ended : goal.returns-in-Halted-clause-ended
returns-in-Halted-clause-ended g c =
    ended-for c.args.conn c.args.fault fault.Halted c.close.new.board c.in-Halted.is c.close.ensures.last

pub returns-in-NoMemory-clause-ended : goal.returns-in-NoMemory-clause-ended
returns-in-NoMemory-clause-ended g c =
    ended-for c.args.conn c.args.fault fault.NoMemory c.close-in-NoMemory.new.board c.in-NoMemory.is c.close-in-NoMemory.ensures.last

pub returns-in-Halted-clause-acts : goal.returns-in-Halted-clause-acts
returns-in-Halted-clause-acts g c =
    acts-for c.args.who c.args.conn.name c.args.fault fault.Halted c.args.board.now.book c.close.new.board.book c.in-Halted.is
    c.close.ensures.acts

pub returns-in-Halted-clause-lasts : goal.returns-in-Halted-clause-lasts
returns-in-Halted-clause-lasts g c =
    let halted : is_halted c.args.board.now.book.state.going ≡ true =
    subst (λ (f : BoardFault). IsRefusedFor f c.args.board.now.book) c.in-Halted.is c.requires.why in
    lasts-for c.args.fault fault.Halted c.close.new.board.book c.in-Halted.is
    (halted-closed c.args.who c.args.conn.name cause.Stopped Direct c.args.board.now.book c.close.new.board.book halted c.close.ensures.closed)

pub returns-in-Halted-clause-rest : goal.returns-in-Halted-clause-rest
returns-in-Halted-clause-rest g c listener =
    rest_closed c.args.who c.args.conn.name cause.Stopped Direct c.args.board.now.book c.close.new.board.book c.close.ensures.closed

pub returns-in-NoMemory-clause-acts : goal.returns-in-NoMemory-clause-acts
returns-in-NoMemory-clause-acts g c =
    acts-for c.args.who c.args.conn.name c.args.fault fault.NoMemory c.args.board.now.book c.close-in-NoMemory.new.board.book c.in-NoMemory.is
    c.close-in-NoMemory.ensures.acts

pub returns-in-NoMemory-clause-lasts : goal.returns-in-NoMemory-clause-lasts
returns-in-NoMemory-clause-lasts g c = lasts-for c.args.fault fault.NoMemory c.close-in-NoMemory.new.board.book c.in-NoMemory.is tt

pub returns-in-NoMemory-clause-rest : goal.returns-in-NoMemory-clause-rest
returns-in-NoMemory-clause-rest g c listener =
    rest_closed c.args.who c.args.conn.name cause.NoMemory Direct c.args.board.now.book c.close-in-NoMemory.new.board.book c.close-in-NoMemory.ensures.closed
