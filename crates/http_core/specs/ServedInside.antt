-- Which files a response may be of.
use Rattle.std.specs.Prelude.{◌<◌, length, ⊤}
use Rattle.file_table.specs.Site.{SeenSite}
use Rattle.file_table.specs.declared.found.Found.{Found}
use Rattle.file_table.specs.declared.found.Found.TheVariants.{File, Redirect, Missing, BadPath}

-- a file that was found is one of the site
abbrev pub IsPlaceOf : SeenSite → Found → Type 0
IsPlaceOf site (File place) = place < length site.files
IsPlaceOf site (Redirect path) = ⊤
IsPlaceOf site Missing = ⊤
IsPlaceOf site BadPath = ⊤
