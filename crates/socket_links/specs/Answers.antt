-- What the system's answers to reads and writes of a socket, and to a wait, come to.
use Rattle.std.specs.Prelude.{ℕ, ◌==◌, ◌&&◌, Bool, true, false, not, if◌then◌else◌, List, take, Option, None, Some}
use Rattle.std.specs.Io.KnownBytes.{Appends, Consumes, IsAtEnd, Keeps}
use Rattle.std.specs.declared.io.ErrorKind.{ErrorKind}
use Rattle.std.specs.declared.io.ErrorKind.TheVariants as kind
use Rattle.mpm_base.specs.declared.link.Got.{Got}
use Rattle.mpm_base.specs.declared.link.Got.TheVariants as got
use Rattle.mpm_base.specs.declared.link.Sent.{Sent}
use Rattle.mpm_base.specs.declared.link.Sent.TheVariants as sent

-- so many bytes were read into so much room: none, where there is room, is the end
abbrev pub got_of_count : ℕ → ℕ → Got
got_of_count n room = if n == 0 && not (room == 0) then got.End else got.Got n

-- what a read that the system refused so comes to: none where it was interrupted, and is asked again
abbrev pub got_of_error : ErrorKind → Option Got
got_of_error kind.WouldBlock = Some got.NotReady
got_of_error kind.Interrupted = None
got_of_error k = Some got.Failed

-- so many bytes of a piece of that size were written: none of one that isn't empty is a failure
abbrev pub sent_of_count : ℕ → ℕ → Sent
sent_of_count n size = if n == 0 && not (size == 0) then sent.Failed else sent.Put n

-- what a write that the system refused so comes to: none where it was interrupted, and is asked again
abbrev pub sent_of_error : ErrorKind → Option Sent
sent_of_error kind.WouldBlock = Some sent.NotReady
sent_of_error kind.Interrupted = None
sent_of_error k = Some sent.Failed

-- whether a wait that the system refused so woke: none where it was interrupted, and is asked again
abbrev pub woke_of_error : ErrorKind → Option Bool
woke_of_error kind.Interrupted = None
woke_of_error k = Some false

-- how many bytes the read gave
abbrev pub count_of_got : Got → ℕ
count_of_got (got.Got n) = n
count_of_got got.End = 0
count_of_got got.NotReady = 0
count_of_got got.Failed = 0

-- of what the reader had left, where it tells that, a read took just the bytes that it gave, and found the end only where
-- none was left
abbrev pub ReadsSome : Option (List ℕ) → Option (List ℕ) → Got → List ℕ → Type 0
ReadsSome old new (got.Got n) buffer = Consumes old new (take n buffer)
ReadsSome old new got.End buffer = Keeps old new × IsAtEnd new
ReadsSome old new got.NotReady buffer = Keeps old new
ReadsSome old new got.Failed buffer = Keeps old new

-- the writer holds, where it tells what it holds, just the bytes more that the write took
abbrev pub WritesSome : Option (List ℕ) → Option (List ℕ) → Sent → List ℕ → Type 0
WritesSome old new (sent.Put n) piece = Appends old new (take n piece)
WritesSome old new sent.NotReady piece = Keeps old new
WritesSome old new sent.Failed piece = Keeps old new

-- a write of that many bytes leaves some of them to be written
abbrev pub leaves_some : Sent → ℕ → Bool
leaves_some (sent.Put n) size = not (n == size)
leaves_some sent.NotReady size = true
leaves_some sent.Failed size = true
