-- The edition of a connection, while its pass acts and it takes its turns.
use Rattle.std.proofs.Common.{◌≡◌, ℕ, Bool, List, Option, ap}
use Rattle.mpm_base.specs.declared.conn.ConnName.{ConnName}
use Rattle.mpm_base.specs.declared.note.Note.{Note}
use Rattle.conn_machine.specs.declared.event.Event.{Event}
use Rattle.conn_state.specs.declared.turn.ReadTurn.{ReadTurn}
use Rattle.conn_state.specs.declared.turn.WriteTurn.{WriteTurn}
use Rattle.conn_state.specs.Reader.{SeenReader}
use Rattle.conn_state.specs.Conn.{SeenConn}
use Rattle.conn_state.specs.Known.{KnownOutside}
use Rattle.conn_state.specs.Turns.{ReadsOn, ShutsOn, TakesNote, WritesOn}
use Rattle.board_book.specs.Book.{SeenBook}
use Rattle.board.specs.Editions.{GenerationsKeepTheirEditions, IsOfGeneration}
use Rattle.worker_group.specs.Acts.{Acts}

-- ## The history

-- what holds of a generation holds after what a pass did
pub edition-acts : GenerationsKeepTheirEditions → (known : Option KnownOutside) (who : ℕ) (es : List Event) (has : Option ConnName) (a b : SeenBook) (c : SeenConn) → Acts who es has a b
    → IsOfGeneration known a c.generation c.reader.limits c.site → IsOfGeneration known b c.generation c.reader.limits c.site
edition-acts keep known who es has a b c acts is =
    keep.goes_on known a b acts.entries.0 c.generation c.reader.limits c.site is acts.base acts.folded acts.entries.1

-- ## The connection

-- the connection is of the same generation still, with the same limits and site
edition-same : (known : Option KnownOutside) (b : SeenBook) (c c' : SeenConn) → c'.generation ≡ c.generation → c'.reader.limits ≡ c.reader.limits → c'.site ≡ c.site
    → IsOfGeneration known b c.generation c.reader.limits c.site → IsOfGeneration known b c'.generation c'.reader.limits c'.site
edition-same known b c c' generation limits site is = rw (generation, limits, site) is

-- after a turn of writing
pub edition-written : (known : Option KnownOutside) (b : SeenBook) (c c' : SeenConn) (answer : WriteTurn) → WritesOn c c' answer
    → IsOfGeneration known b c.generation c.reader.limits c.site → IsOfGeneration known b c'.generation c'.reader.limits c'.site
edition-written known b c c' answer writes is =
    edition-same known b c c' writes.generation (ap (λ (r : SeenReader). r.limits) writes.reader) writes.site is

-- after a turn of reading behind one of writing
pub edition-read : (known : Option KnownOutside) (b : SeenBook) (c c1 c2 : SeenConn) (written : WriteTurn) (answer : ReadTurn) → WritesOn c c1 written → ReadsOn c1 c2 answer
    → IsOfGeneration known b c.generation c.reader.limits c.site → IsOfGeneration known b c2.generation c2.reader.limits c2.site
edition-read known b c c1 c2 written answer writes reads is =
    edition-same known b c1 c2 reads.generation reads.limits reads.site (edition-written known b c c1 written writes is)

-- after a half-close, which was made or failed
pub edition-shut : (known : Option KnownOutside) (b : SeenBook) (c c' : SeenConn) (made : Bool) → ShutsOn c c' made
    → IsOfGeneration known b c.generation c.reader.limits c.site → IsOfGeneration known b c'.generation c'.reader.limits c'.site
edition-shut known b c c' made shuts is =
    edition-same known b c c' shuts.generation (ap (λ (r : SeenReader). r.limits) shuts.reader) shuts.site is

-- and with a response
pub edition-answered : (known : Option KnownOutside) (b : SeenBook) (c c' : SeenConn) (note : Note) → TakesNote note c c'
    → IsOfGeneration known b c.generation c.reader.limits c.site → IsOfGeneration known b c'.generation c'.reader.limits c'.site
edition-answered known b c c' note takes is =
    edition-same known b c c' (ap (λ (x : SeenConn). x.generation) takes.new_is) takes.limits (ap (λ (x : SeenConn). x.site) takes.new_is) is
