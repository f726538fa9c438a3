-- The blanks that are skipped change no word.
use Rattle.std.proofs.Common.{◌≡◌, length}
use denote.Text.{Utf8}
use denote.Shadow.{shadow}
use Rattle.conf_text.specs.Words.{words, from_blanks}
use Rattle.conf_text.proofs.word.skip_blanks.Given as goal

abbrev pub invariant-loop-rest : goal.invariant-loop-rest
invariant-loop-rest l = shadow (Utf8 l.rest) × (words l.rest ≡ words l.line) × (from_blanks l.rest ≡ from_blanks l.line)

abbrev pub decreases-loop-rest : goal.decreases-loop-rest
decreases-loop-rest l = length l.rest
