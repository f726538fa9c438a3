-- The answer that tells the state is the status page without its letters.
use Rattle.std.proofs.Common.{◌≡◌, refl}
use Rattle.conn_machine.specs.Shown.{snapshot_of, totals_of}
use Rattle.command_answers.specs.Laws.{IsAPage}

pub page : IsAPage
unfolding snapshot_of totals_of
page s = refl
