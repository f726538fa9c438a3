use Rattle.mpm_base.specs.declared.script_line.ClientAct.TheVariants as act
use Rattle.mpm_script.proofs.LineLemmas.{behind_client}
use Rattle.mpm_script.proofs.line_reader.room_line.Goals as goal

pub returns-in_err-room-clause-none : goal.returns-in_err-room-clause-none
returns-in_err-room-clause-none c =
    rw c.from_residual-in_err-room.ensures (λ name room h.
    c.in_err-room.ensures.none room
    (behind_client c.args.text.now c.in_ok-name.name.now name c.in_ok-name.behind.now (act.Room room) c.in_ok-name.ensures.some h))
