use Rattle.std.proofs.Common.{None, Some, ap, sym, ◌∙◌}
use Rattle.mpm_base.specs.declared.conn.ConnName.{ConnName}
use Rattle.conn_machine.specs.declared.event.Event.TheVariants as event
use Rattle.board.specs.Board.{SeenBoard}
use Rattle.worker_group.proofs.ActsLemmas.{acts_one}
use Rattle.worker_group.proofs.ExitLemmas.{closing-ended, ended-last}
use Rattle.worker_group.proofs.service.close.Goals as goal

pub close-requires-clause-row : goal.close-requires-clause-row
close-requires-clause-row g c = c.requires.row ∙ ap (λ (n : ConnName). Some n) (sym c.end.ensures.ends.name)

pub close-requires-clause-fits : goal.close-requires-clause-fits
close-requires-clause-fits g c =
    closing-ended c.args.board.now.book.state c.args.cause c.args.tail c.args.conn c.end.result c.requires.may c.end.ensures.ends

pub close-requires-clause-edition : goal.close-requires-clause-edition
close-requires-clause-edition g c = rw (c.end.ensures.ends.generation, c.end.ensures.ends.limits, c.end.ensures.ends.site) c.requires.edition

pub returns-clause-closed : goal.returns-clause-closed
returns-clause-closed g c =
    rw (← c.end.ensures.ends.name, ← c.end.ensures.ends.cause, ← c.end.ensures.ends.tail) (ap (λ (b : SeenBoard). b.book) c.close.ensures.is)

pub returns-clause-acts : goal.returns-clause-acts
returns-clause-acts g c =
    acts_one c.args.who (event.Close c.args.conn.name c.args.cause c.args.tail) None c.args.board.now.book c.close.new.self.book
    (returns-clause-closed g c) c.close.ensures.entries c.close.ensures.row

pub returns-clause-last : goal.returns-clause-last
returns-clause-last g c =
    ended-last c.args.conn c.args.cause c.args.tail c.end.result c.args.board.now.ended c.close.new.self.ended
    (ap (λ (b : SeenBoard). b.ended) c.close.ensures.is) c.end.ensures.ends
