use Rattle.std.proofs.Common.{rules}
use Rattle.socket_outside.proofs.HearLemmas.{hears_none, hears_some}
use Rattle.socket_outside.proofs.command_lines.Spoken.read_more.Goals as goal

pub returns-in-Got-clause-bytes : goal.returns-in-Got-clause-bytes
returns-in-Got-clause-bytes g c =
    hears_some c.self.inside.filled _ c.in-Got.count c.self.inside.bytes c.speak.new.buffer c.args.self.now _ _
    (search rules) c.in-Got.ensures.fits.0 (search rules) c.in-Got.ensures.bytes

pub returns-in-End-clause-bytes : goal.returns-in-End-clause-bytes
returns-in-End-clause-bytes g c =
    hears_none c.self.inside.filled _ c.self.inside.bytes c.speak.new.buffer c.args.self.now _ _
    (search rules) (search rules) c.in-End.ensures.bytes.0

pub returns-in-NotReady-clause-bytes : goal.returns-in-NotReady-clause-bytes
returns-in-NotReady-clause-bytes g c =
    hears_none c.self.inside.filled _ c.self.inside.bytes c.speak.new.buffer c.args.self.now _ _
    (search rules) (search rules) c.in-NotReady.ensures.bytes

pub returns-in-Failed-clause-bytes : goal.returns-in-Failed-clause-bytes
returns-in-Failed-clause-bytes g c =
    hears_none c.self.inside.filled _ c.self.inside.bytes c.speak.new.buffer c.args.self.now _ _
    (search rules) (search rules) c.in-Failed.ensures.bytes
