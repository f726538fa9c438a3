-- The words that are left are names where all are.
use Rattle.std.proofs.Common.{◌≡◌, length}
use denote.Text.{Utf8}
use denote.Shadow.{shadow}
use Rattle.mpm_config.specs.HostName.{are_host_names}
use Rattle.conf_text.specs.Words.{words}
use Rattle.mpm_config.proofs.host_name.are_host_names.Given as goal

abbrev pub invariant-loop-name : goal.invariant-loop-name
invariant-loop-name l = shadow (Utf8 l.rest) × (are_host_names (words l.rest) ≡ are_host_names (words l.line))

abbrev pub decreases-loop-name : goal.decreases-loop-name
decreases-loop-name l = length (words l.rest)
