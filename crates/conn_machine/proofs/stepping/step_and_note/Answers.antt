use Rattle.conn_machine.proofs.SizeLemmas.{sizes_step}
use Rattle.conn_machine.proofs.stepping.step_and_note.Goals as goal

pub returns-in-Ok-clause-sizes : goal.returns-in-Ok-clause-sizes
returns-in-Ok-clause-sizes c = sizes_step _ _ c.args.event.now c.in-Ok.ensures.state
