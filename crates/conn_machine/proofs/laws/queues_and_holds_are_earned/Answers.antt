use Rattle.conn_machine.proofs.QueueLaw.{queues_are_earned}
use Rattle.conn_machine.proofs.HoldLaw.{holds_are_earned}
use Rattle.conn_machine.proofs.laws.queues_and_holds_are_earned.Goals as goal

pub returns : goal.returns
returns c slots children shape history bounds run = record {
  queues = queues_are_earned slots children shape history run;
  holds = holds_are_earned slots children shape history run;
}
