use Rattle.listener_table.proofs.TableLemmas.{shown_row, shown_sound}
use Rattle.listener_table.proofs.table.Table.show.Goals as goal

pub returns-clause-number : goal.returns-clause-number
returns-clause-number g c = rw (← c.self.view_is) c.self.invariant.1.listener.number

pub returns-clause-none : goal.returns-clause-none
returns-clause-none g c = rw (← c.self.view_is) c.self.invariant.1.none

pub returns-clause-no_conns : goal.returns-clause-no_conns
returns-clause-no_conns g c = rw (← c.self.view_is) c.self.invariant.1.opened

pub returns-clause-made : goal.returns-clause-made
returns-clause-made g c = rw (← c.self.view_is) c.self.invariant.1.listener.made

pub returns-clause-opened : goal.returns-clause-opened
returns-clause-opened g c = rw (← c.self.view_is) c.self.invariant.1.sound

pub returns-clause-sound : goal.returns-clause-sound
returns-clause-sound g c = rw (← c.self.view_is) (shown_sound c.table_rests_on_these.ensures c.self.invariant.1)

pub returns-clause-row : goal.returns-clause-row
returns-clause-row g c = rw (← c.self.view_is) (shown_row c.table_rests_on_these.ensures c.self.invariant.1)
