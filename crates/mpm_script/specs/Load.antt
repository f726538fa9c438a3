-- The script of a load: ten files, and connections that arrive ten milliseconds apart, each of which asks for one of the files.
use Rattle.std.specs.Prelude.{ℕ, ◌+◌, ◌*◌, ◌%◌, List, [], ◌∷◌, ◌++◌, map, codes, decimal}
use Rattle.std.specs.List.{flat_map, range_with_len, repeat}
use Rattle.mpm_base.specs.declared.script_line.ClientAct.TheVariants as act
use Rattle.mpm_base.specs.declared.script_line.SiteLine.TheVariants as site
use Rattle.mpm_base.specs.declared.script_line.ScriptLine.{ScriptLine}
use Rattle.mpm_base.specs.declared.script_line.ScriptLine.TheVariants as line

-- the name of the file of that number
abbrev pub load_file_name : ℕ → List ℕ
load_file_name j = codes "htdocs/f" ++ decimal j ++ codes ".txt"

-- its bytes: `file`, the number and a line feed
abbrev pub load_file_bytes : ℕ → List ℕ
load_file_bytes j = codes "file " ++ decimal j ++ codes "\n"

-- the line that sets it
abbrev pub load_file : ℕ → ScriptLine
load_file j = line.Site (site.File (load_file_name j) (load_file_bytes j))

-- a request for it
abbrev pub load_request : ℕ → List ℕ
load_request j = codes "GET /f" ++ decimal j ++ codes ".txt HTTP/1.1\r\nHost: localhost\r\n\r\n"

-- the name of the connection of that number: `c` and the number
abbrev pub load_name : ℕ → List ℕ
load_name i = codes "c" ++ decimal i

-- what its client sends: one, two or three requests for the file whose number is the last digit of its own
abbrev pub load_sent : ℕ → List ℕ
load_sent i = repeat (1 + i % 3) (load_request (i % 10))

-- its lines: it arrives and sends at ten times its number, in milliseconds, and ends five later
abbrev pub load_connection : ℕ → List ScriptLine
load_connection i =
    line.At (10 * i) ∷ line.Conn (load_name i) ∷ line.Client (load_name i) (act.Send (load_sent i))
    ∷ line.At (10 * i + 5) ∷ line.Client (load_name i) act.End ∷ []

-- the script of a load of so many connections: the files 0 to 9, and then the connections from 0 on
abbrev pub load_lines : ℕ → List ScriptLine
load_lines n = map load_file (range_with_len 0 10) ++ flat_map load_connection (range_with_len 0 n)
