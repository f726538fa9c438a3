-- How the file of a log is opened.
-- Why it is so stands in docs/DECISIONS.md: 128, How the file of a log is opened.
use Rattle.std.specs.Prelude.{Bool, true, ◌||◌, ℕ, List, Result, Ok, Err}
use Rattle.std.specs.Fs.{new_options, with_append, with_create_new}
use Rattle.std.specs.List.{list_any}
use Rattle.std.specs.Path.{path_components, root_dir, parent_dir}
use Rattle.std.specs.Str.{bytes_eq}
use Rattle.std.specs.declared.fs.options.OpenOptions.{OpenOptions}
use Rattle.std.specs.declared.io.ErrorKind.{ErrorKind}
use Rattle.std.specs.declared.io.ErrorKind.TheVariants as kind
use Rattle.system_outside.specs.declared.log_file.Way.{Way}
use Rattle.system_outside.specs.declared.log_file.Way.TheVariants as way

-- a part of a name leads out of its folder: it is the root, or what is above
abbrev pub is_way_out : List ℕ → Bool
is_way_out part = bytes_eq part root_dir || bytes_eq part parent_dir

-- some part of the name leads out of its folder
abbrev pub leads_out : List ℕ → Bool
leads_out name = list_any is_way_out (path_components name)

-- where the system tells nothing of the file but an error of that kind: it is made where there is none, and else not opened
abbrev pub way_unless_there : {E : Type 0} → ErrorKind → E → Result Way E
way_unless_there kind.NotFound e = Ok way.Make
way_unless_there k e = Err e

-- what is asked of the system: to write behind what is there, and where there was nothing to make it, unless there is something by then
abbrev pub options_of : Way → OpenOptions
options_of way.Append = with_append new_options true
options_of way.Make = with_create_new (with_append new_options true) true
