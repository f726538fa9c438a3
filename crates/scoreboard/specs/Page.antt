-- The status pages of a snapshot, byte by byte. The names of the numbers are those of Apache's status page, but for `Generation`.
use Rattle.std.specs.Prelude.{ℕ, List, [], ◌∷◌, ◌++◌, codes, decimal}
use Rattle.mpm_base.specs.declared.note.Snapshot.{Snapshot}

-- a line of the page: a name and its value, ended by a line feed
abbrev pub line : List ℕ → List ℕ → List ℕ
line name value = name ++ codes ": " ++ value ++ 10 ∷ []

-- the page as plain text: the numbers in decimal, the letters as they stand
abbrev pub text_page : Snapshot → List ℕ
text_page s =
    line (codes "Generation") (decimal s.generation)
    ++ line (codes "BusyWorkers") (decimal s.busy)
    ++ line (codes "IdleWorkers") (decimal s.idle)
    ++ line (codes "ConnsTotal") (decimal s.total)
    ++ line (codes "ConnsAsyncWriting") (decimal s.writing)
    ++ line (codes "ConnsAsyncKeepAlive") (decimal s.keep_alive)
    ++ line (codes "ConnsAsyncClosing") (decimal s.closing)
    ++ line (codes "Scoreboard") s.letters

-- the page as HTML: the plain text, preformatted, between these two lines
abbrev pub html_head : List ℕ
html_head = codes "<html><head><title>Server Status</title></head><body><pre>" ++ 10 ∷ []

-- the last line of the page
abbrev pub html_foot : List ℕ
html_foot = codes "</pre></body></html>" ++ 10 ∷ []

-- the plain text, preformatted, between the two lines
abbrev pub html_page : Snapshot → List ℕ
html_page s = html_head ++ text_page s ++ html_foot
