-- What a command leaves that is refused before a run opens.
use Rattle.mpm_base.specs.Sink.{SinkSeen}
use Rattle.std.specs.Prelude.{◌≡◌, ℕ, Option, None}

-- with exit status 6, where no run opened: the output is as it was, and nothing is shown
abbrev pub EndsSilently : SinkSeen → SinkSeen → Option ℕ → Type 0
EndsSilently sink sink' shown = (sink' ≡ sink) × (shown ≡ None)
