-- The names so far, and those of the words that are left, are all of them.
use Rattle.std.proofs.Common.{◌≡◌, ◌++◌, length}
use denote.Text.{Utf8}
use denote.Shadow.{shadow}
use Rattle.mpm_config.specs.HostName.{aliases_of}
use Rattle.conf_text.specs.Words.{words}
use Rattle.mpm_config.proofs.host_draft.HostDraft.add_aliases.Given as goal

abbrev pub invariant-loop-name : goal.invariant-loop-name
invariant-loop-name l =
    shadow (Utf8 l.rest)
    × (l.self-inside.aliases ++ aliases_of (words l.rest) ≡ l.fn.self.aliases ++ aliases_of (words l.line))
    × (l.self-inside.name ≡ l.fn.self.name) × (l.self-inside.root ≡ l.fn.self.root) × (l.self-inside.index ≡ l.fn.self.index)

abbrev pub decreases-loop-name : goal.decreases-loop-name
decreases-loop-name l = length (words l.rest)
