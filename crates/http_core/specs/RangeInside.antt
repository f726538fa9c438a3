-- Ranges whose numbers fit 64 bits, and selections that lie in a file.
use Rattle.std.specs.Prelude.{ℕ, ◌<◌, ◌≤◌, ◌^◌, ◌≡◌, ⊤}
use Rattle.http_core.specs.declared.plan.FilePart.{FilePart}
use Rattle.http_core.specs.declared.plan.Served.{Served}
use Rattle.http_core.specs.declared.plan.Served.TheVariants as served
use Rattle.http_core.specs.declared.range.Range.{Range}
use Rattle.http_core.specs.declared.range.Range.TheVariants.{Between, From, Last}
use Rattle.http_core.specs.declared.range.Selection.{Selection}
use Rattle.http_core.specs.declared.range.Selection.TheVariants.{Whole, Part, Unsatisfiable}

-- each number has at most 18 digits
abbrev pub HasSmallBound : Range → Type 0
HasSmallBound (Between a b) = (a < 10 ^ 18) × (b < 10 ^ 18)
HasSmallBound (From a) = a < 10 ^ 18
HasSmallBound (Last n) = n < 10 ^ 18

-- what is selected are some bytes of so many
abbrev pub IsWithinSize : ℕ → Selection → Type 0
IsWithinSize size Whole = ⊤
IsWithinSize size (Part from to) = (from ≤ to) × (to ≤ size)
IsWithinSize size Unsatisfiable = ⊤

-- the part is some bytes of the file, which has so many
abbrev pub IsBytesOf : ℕ → ℕ → FilePart → Type 0
IsBytesOf file size part = (part.file ≡ file) × (part.from ≤ part.to) × (part.to ≤ size)

-- what is served of the file is in it
abbrev pub IsPartWithin : ℕ → ℕ → Served → Type 0
IsPartWithin file size (served.Whole part) = IsBytesOf file size part
IsPartWithin file size (served.Part part) = IsBytesOf file size part
IsPartWithin file size (served.Unsatisfied n) = ⊤
IsPartWithin file size (served.Unmodified place) = ⊤
IsPartWithin file size (served.Moved path) = ⊤
IsPartWithin file size served.Options = ⊤
IsPartWithin file size (served.Page auto) = ⊤
IsPartWithin file size (served.Refused code) = ⊤
