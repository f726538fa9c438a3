use Rattle.std.proofs.Common.{Some, ap, refl}
use Rattle.conn_machine.specs.declared.event.Event.TheVariants as event
use Rattle.board.specs.Board.{SeenBoard}
use Rattle.rounds.proofs.SameEditionLemmas.{newest-taken}
use Rattle.rounds.proofs.TakeLemmas.{takes-child, takes-slot, accept-allowed, has-taken}
use Rattle.rounds.proofs.ActLemmas.{acts-added}
use Rattle.rounds.proofs.round.accept.Goals as goal

pub unreachable-requires : goal.unreachable-requires
unreachable-requires g c =
    let why = rw c.in-Err-NoChild.field-0-is at c.in-Err-NoChild.ensures.why in
    takes-child c.args.board.now.book.state _ refl c.requires.acceptable why.none_picked

pub unreachable-requires-in-Err-NoSlot : goal.unreachable-requires-in-Err-NoSlot
unreachable-requires-in-Err-NoSlot g c =
    let why = rw c.in-Err-NoSlot.field-0-is at c.in-Err-NoSlot.ensures.why in
    takes-slot c.args.board.now.book.state _ refl c.requires.acceptable why.none_vacant

pub returns-in-Ok-clause-held : goal.returns-in-Ok-clause-held
returns-in-Ok-clause-held g c =
    let t = c.in-Ok.taken in
    has-taken c.rows_change_one_at_a_time.ensures.there c.args.board.now.book.state c.accept.new.self.book.state t.name t.child t.generation
    (accept-allowed 0 t.name.slot c.args.board.now.book c.accept.new.self.book c.show.ensures.state c.show-in-Ok.ensures.run
    (ap (λ (b : SeenBoard). b.book) c.in-Ok.ensures.ok.new_is))
    (ap (λ (b : SeenBoard). b.book.state) c.in-Ok.ensures.ok.new_is) c.in-Ok.ensures.taken

pub returns-in-Ok-clause-generation : goal.returns-in-Ok-clause-generation
returns-in-Ok-clause-generation g c =
    let t = c.in-Ok.taken in
    newest-taken c.connections_go_to_the_chosen_child.ensures.taken 0 t.name t.child t.generation c.args.board.now.book c.accept.new.self.book
    c.show.ensures.state c.show-in-Ok.ensures.run (ap (λ (b : SeenBoard). b.book) c.in-Ok.ensures.ok.new_is) c.in-Ok.ensures.taken

pub returns-in-Ok-clause-acts : goal.returns-in-Ok-clause-acts
returns-in-Ok-clause-acts g c =
    acts-added c.passes_act_in_steps.ensures.acts (event.Accept c.in-Ok.taken.name.slot) (Some c.in-Ok.taken.name) c.args.board.now c.accept.new.self c.in-Ok.ensures.ok.new_is
    c.accept.ensures.entries c.in-Ok.ensures.row
