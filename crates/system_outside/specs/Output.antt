-- What a write to the output answers.
use Rattle.std.specs.Prelude.{ℕ, ◌==◌, ◌&&◌, not, if◌then◌else◌, List, length, Result, Ok, Err}
use Rattle.mpm_base.specs.declared.sink.Put.{Put}
use Rattle.mpm_base.specs.declared.sink.Put.TheVariants as put

-- so many bytes of the piece were taken; a write that failed, or took nothing of a piece that isn't empty, took none
abbrev pub put_for : {E : Type 0} → Result ℕ E → List ℕ → Put
put_for (Ok n) piece = if n == 0 && not (length piece == 0) then put.Failed else put.Put n
put_for (Err e) piece = put.Failed
