-- The numbers that a run works by.
use Rattle.mpm_config.specs.Config.{Configuration}
use Rattle.mpm_config.specs.Shape.{shape_of_numbers}
use Rattle.conn_machine.specs.Folds.{opening_record}
use Rattle.conn_machine.specs.declared.folded.Folded.{Folded}
use Rattle.conn_machine.specs.States.{opening_state}
use Rattle.conn_machine.specs.declared.state.State.{State}
use Rattle.listener_round.specs.declared.run_numbers.RunNumbers.{RunNumbers}

-- the numbers by which a run of this configuration works: 8,192 slots, as many child numbers as it allows servers, what the children are
-- started with and how many of them, where it listens; and two passes, of which one listens and one serves
abbrev pub numbers_of : Configuration → RunNumbers
numbers_of c = record {
  slots = 8192;
  children = c.current.server_limit;
  passes = 2;
  shape = shape_of_numbers c.current;
  listen = c.listen;
  control = c.control;
}

-- the state in which a run by these numbers opens
abbrev pub opened_by : RunNumbers → State
opened_by n = opening_state n.slots n.children n.shape

-- what a run by these numbers has folded of its history: nothing yet
abbrev pub folded_by : RunNumbers → Folded
folded_by n = opening_record n.passes
