use Rattle.std.proofs.Common.{◌≡◌, true, None, ap, sym, subst, ◌∙◌, refl}
use Rattle.mpm_base.specs.declared.conn.ConnName.{ConnName}
use Rattle.mpm_base.specs.declared.conn.Cause.{Cause}
use Rattle.mpm_base.specs.declared.conn.Tail.{Tail}
use Rattle.mpm_base.specs.declared.conn.Tail.TheVariants as tail
use Rattle.conn_machine.specs.declared.event.Event.TheVariants as event
use Rattle.conn_machine.specs.States.{is_halted}
use Rattle.board_book.specs.declared.faults.BoardFault.{BoardFault}
use Rattle.board_book.specs.declared.faults.BoardFault.TheVariants as fault
use Rattle.board_book.specs.Faults.{IsRefusedFor}
use Rattle.board_book.specs.Book.{SeenBook, book_with_entry}
use Rattle.worker_group.specs.Acts.{Acts}
use Rattle.worker_group.specs.Service.{LeavesRest, RefusalLasts}
use Rattle.rounds.specs.ClosingInside.{lingering_give_up_events}
use Rattle.rounds.proofs.HeldLemmas.{closes-lingering}
use Rattle.rounds.proofs.closing.give_up_lingering.Goals as goal

pub close-requires-clause-may : goal.close-requires-clause-may
close-requires-clause-may g c =
    let halted : is_halted c.args.board.now.book.state.going ≡ true =
    subst (λ (f : BoardFault). IsRefusedFor f c.args.board.now.book) c.in-Halted.is c.requires.why in
    closes-lingering c.args.board.now.book.state c.args.cause tail.Halted c.args.conn c.requires.lingers halted c.requires.lingers.shut

-- the events of the fault that it is
acts-for : (why : Cause) (name : ConnName) (f g : BoardFault) (a b : SeenBook) → f ≡ g → Acts 0 (lingering_give_up_events g why name) None a b
    → Acts 0 (lingering_give_up_events f why name) None a b
acts-for why name f g a b is acts = subst (λ (x : BoardFault). Acts 0 (lingering_give_up_events x why name) None a b) (sym is) acts

-- what lasts of it
lasts-for : (f g : BoardFault) (b : SeenBook) → f ≡ g → RefusalLasts g b → RefusalLasts f b
lasts-for f g b is lasts = subst (λ (x : BoardFault). RefusalLasts x b) (sym is) lasts

-- a close leaves what only the listener changes
rest-after : (name : ConnName) (why : Cause) (how : Tail) (b b' : SeenBook) → b' ≡ book_with_entry 0 (event.Close name why how) b → LeavesRest b b'
rest-after name why how b b' is = subst (LeavesRest b) (sym is) (record { moment = refl; accepted = refl; newest = refl; going = refl })

pub returns-in-Halted-clause-acts : goal.returns-in-Halted-clause-acts
returns-in-Halted-clause-acts g c =
    acts-for c.args.cause c.args.conn.name c.args.fault fault.Halted c.args.board.now.book c.close.new.board.book c.in-Halted.is
    c.close.ensures.acts

pub returns-in-Halted-clause-lasts : goal.returns-in-Halted-clause-lasts
returns-in-Halted-clause-lasts g c =
    let halted : is_halted c.args.board.now.book.state.going ≡ true =
    subst (λ (f : BoardFault). IsRefusedFor f c.args.board.now.book) c.in-Halted.is c.requires.why in
    lasts-for c.args.fault fault.Halted c.close.new.board.book c.in-Halted.is
    (ap (λ (b : SeenBook). is_halted b.state.going) c.close.ensures.closed ∙ halted)

pub returns-in-Halted-clause-rest : goal.returns-in-Halted-clause-rest
returns-in-Halted-clause-rest g c =
    rest-after c.args.conn.name c.args.cause tail.Halted c.args.board.now.book c.close.new.board.book c.close.ensures.closed

pub returns-in-NoMemory-clause-acts : goal.returns-in-NoMemory-clause-acts
returns-in-NoMemory-clause-acts g c =
    acts-for c.args.cause c.args.conn.name c.args.fault fault.NoMemory c.args.board.now.book c.close-in-NoMemory.new.board.book c.in-NoMemory.is
    c.close-in-NoMemory.ensures.acts

pub returns-in-NoMemory-clause-lasts : goal.returns-in-NoMemory-clause-lasts
returns-in-NoMemory-clause-lasts g c = lasts-for c.args.fault fault.NoMemory c.close-in-NoMemory.new.board.book c.in-NoMemory.is tt

pub returns-in-NoMemory-clause-rest : goal.returns-in-NoMemory-clause-rest
returns-in-NoMemory-clause-rest g c =
    rest-after c.args.conn.name c.args.cause tail.NoMemory c.args.board.now.book c.close-in-NoMemory.new.board.book
    c.close-in-NoMemory.ensures.closed
