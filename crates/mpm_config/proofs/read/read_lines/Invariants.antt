-- What is read so far, continued over the lines that are left, is what the whole text gives.
use Rattle.std.proofs.Common.{◌≡◌, ◌+◌, ◌≤◌, length}
use denote.Text.{Utf8}
use denote.Shadow.{shadow}
use Rattle.std.specs.Str.Lines.{lines}
use Rattle.conf_text.specs.Line.{logical, logical_lines}
use Rattle.mpm_config.specs.Reading.{settings_of, start}
use Rattle.mpm_config.proofs.read.read_lines.Given as goal

abbrev pub invariant-loop-rest : goal.invariant-loop-rest
invariant-loop-rest l =
    shadow (Utf8 l.rest)
    × (settings_of l.reader (logical l.number (lines l.rest)) ≡ settings_of start (logical_lines l.text))
    × (length l.rest + l.number ≤ length l.text + 1)

abbrev pub decreases-loop-rest : goal.decreases-loop-rest
decreases-loop-rest l = length l.rest
