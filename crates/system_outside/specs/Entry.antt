-- What an entry of a folder leads to, by what the file system tells of it.
use Rattle.std.specs.Prelude.{Option, None, Some, Result, Ok, Err}
use Rattle.std.specs.Fs.{IsDir, IsFile, IsSymlink}
use Rattle.std.specs.Result.{result_map_both}
use Rattle.std.specs.declared.fs.attrs.FileType.{FileType}
use Rattle.std.specs.declared.io.ErrorKind.{ErrorKind}
use Rattle.std.specs.declared.io.ErrorKind.TheVariants as kind
use Rattle.system_outside.specs.declared.entry.EntryKind.{EntryKind}
use Rattle.system_outside.specs.declared.entry.EntryKind.TheVariants as entry

-- what is no link is a folder, a regular file, or something else, as a pipe, a socket or a device
abbrev pub IsKindOf : FileType → EntryKind → Type 0
IsKindOf t entry.Folder = IsDir t
IsKindOf t entry.File = IsFile t
IsKindOf t entry.Other = (¬ IsDir t) × (¬ IsFile t)

-- by its own type an entry is a link, or what is of that type
abbrev pub IsOwnKind : FileType → Option EntryKind → Type 0
IsOwnKind t None = IsSymlink t
IsOwnKind t (Some kind) = (¬ IsSymlink t) × IsKindOf t kind

-- a link leads to a regular file or to nothing that is listed, since a folder behind it isn't gone through
abbrev pub IsKindBehind : FileType → EntryKind → Type 0
IsKindBehind t entry.Folder = ⊥
IsKindBehind t entry.File = IsFile t
IsKindBehind t entry.Other = ¬ IsFile t

-- where the file system tells nothing of an entry but an error of that kind: nothing is there, or that error
abbrev pub unknown_kind : {E : Type 0} → ErrorKind → E → Result EntryKind E
unknown_kind kind.NotFound e = Ok entry.Other
unknown_kind kind.NotADirectory e = Ok entry.Other
unknown_kind kind.FilesystemLoop e = Ok entry.Other
unknown_kind k e = Err e

-- the same where an entry that is no link is sought
abbrev pub own_unknown : {E : Type 0} → ErrorKind → E → Result (Option EntryKind) E
own_unknown k e = result_map_both (λ kind. Some kind) (λ e. e) (unknown_kind k e)

-- where an entry isn't given for an error of that kind: its name isn't UTF-8 and it is left out, or that error
abbrev pub unnamed_entry : {T : Type 0} → {E : Type 0} → ErrorKind → E → Result (Option T) E
unnamed_entry kind.InvalidFilename e = Ok None
unnamed_entry k e = Err e
