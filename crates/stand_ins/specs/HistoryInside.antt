-- What the steps of a history make of files, and which editions end with them.
use Rattle.std.specs.Prelude.{◌≡◌, ℕ, ◌≤◌, Bool, true, false, List, [], ◌∷◌, ◌++◌, length, if◌then◌else◌}
use Rattle.std.specs.List.{fold}
use Rattle.mpm_base.specs.Store.{StoreTold}
use Rattle.mpm_base.specs.declared.store.File.{File}
use Rattle.stand_ins.specs.Files.{with_file, without_file}
use Rattle.stand_ins.specs.FilesInside.{SeenShelf}
use Rattle.stand_ins.specs.History.{SeenHistory}
use Rattle.stand_ins.specs.declared.history.Step.{Step}
use Rattle.stand_ins.specs.declared.history.Step.TheVariants as step

-- the files once the step was made
abbrev pub after_step : List File → Step → List File
after_step files (step.Set entry) = with_file entry.name entry.content files
after_step files (step.Unset name) = without_file name files
after_step files step.End = files

-- an edition ends with the step
abbrev pub is_end : Step → Bool
is_end (step.Set entry) = false
is_end (step.Unset name) = false
is_end step.End = true

-- its files, where one ends
abbrev pub ended_by : Step → List File → List (List File)
ended_by s files = if is_end s then files ∷ [] else []

-- the files of each edition that ends with the steps, which begin with these files
abbrev pub ended : List File → List Step → List (List File)
ended files [] = []
ended files (s ∷ steps) = ended_by s (after_step files s) ++ ended (after_step files s) steps

-- the editions that ended, and the files that all steps leave
abbrev pub seen_history : List Step → SeenHistory
seen_history steps = record { past = ended [] steps; files = fold after_step [] steps }

-- a store that has the files of the shelf before the steps, and behind the editions that end with these the other ones
abbrev pub told_by : List File → List Step → List (List File) → StoreTold
told_by files steps others = record { files = files; later = ended files steps ++ others }

-- so many editions end with the steps, for which there is room
pub record AreReady (shelf : SeenShelf) (steps : List Step) (count : ℕ) : Type 0 where
  pub counted : count ≡ length (ended shelf.files steps)
  pub room : length steps ≤ shelf.room
