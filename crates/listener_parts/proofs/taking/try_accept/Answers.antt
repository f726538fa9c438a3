use Rattle.listener_parts.proofs.taking.try_accept.Goals as goal

pub returns-in-Ok-clause-took : goal.returns-in-Ok-clause-took
returns-in-Ok-clause-took g c = (c.in-Ok.ensures.turn.0, c.in-Ok.ensures.turn.1)

pub returns-in-Ok-clause-taken : goal.returns-in-Ok-clause-taken
returns-in-Ok-clause-taken g c = c.in-Ok.ensures.taken

pub returns-in-Err-Halted-clause-why : goal.returns-in-Err-Halted-clause-why
returns-in-Err-Halted-clause-why g c = rw c.in-Err-Halted.field-0-is at c.in-Err-Halted.ensures.why

pub returns-in-Err-NoMemory-clause-why : goal.returns-in-Err-NoMemory-clause-why
returns-in-Err-NoMemory-clause-why g c = rw c.in-Err-NoMemory.field-0-is at c.in-Err-NoMemory.ensures.why
