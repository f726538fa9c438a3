-- Which fault of a store an error of the file system is, and a file's size.
use Rattle.std.specs.Prelude.{ℕ, nat_lt, if◌then◌else◌, Result, Ok, Err}
use Rattle.std.specs.declared.io.ErrorKind.{ErrorKind}
use Rattle.std.specs.declared.io.ErrorKind.TheVariants as kind
use Rattle.mpm_base.specs.declared.store.StoreFault.{StoreFault}
use Rattle.mpm_base.specs.declared.store.StoreFault.TheVariants as fault

-- nothing of that name is there, memory lacked, or else the call failed
abbrev pub fault_for : ErrorKind → StoreFault
fault_for kind.NotFound = fault.Missing
fault_for kind.OutOfMemory = fault.NoMemory
fault_for k = fault.Failed

-- a file with more bytes than are asked for is too large
abbrev pub size_within : ℕ → ℕ → Result Unit StoreFault
size_within most size = if nat_lt most size then Err (fault.Large size) else Ok tt
