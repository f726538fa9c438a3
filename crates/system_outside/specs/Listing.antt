-- Which fault of a listing an error of the file system is.
use Rattle.std.specs.Prelude.{Result, Ok, Err}
use Rattle.std.specs.declared.io.ErrorKind.{ErrorKind}
use Rattle.std.specs.declared.io.ErrorKind.TheVariants as kind
use Rattle.mpm_base.specs.declared.store.StoreFault.{StoreFault}
use Rattle.mpm_base.specs.declared.store.StoreFault.TheVariants as fault

-- the answer where a folder can't be opened: one that isn't there has no files
abbrev pub missing_folder : ErrorKind → Result Unit StoreFault
missing_folder kind.NotFound = Ok tt
missing_folder kind.OutOfMemory = Err fault.NoMemory
missing_folder k = Err fault.Failed

-- the fault where a folder can't be listed whole
abbrev pub listing_fault : ErrorKind → StoreFault
listing_fault kind.OutOfMemory = fault.NoMemory
listing_fault k = fault.Failed
