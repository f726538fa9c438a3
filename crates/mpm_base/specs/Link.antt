-- A link is one connection's way to its client. What it tells of itself, its counts, and what each call does to them.
-- Why it is so stands in docs/DECISIONS.md: 4, What a link tells of the bytes that come.
use Rattle.std.specs.Prelude.{◌≡◌, ◌==◌, ℕ, ◌<◌, ◌≤◌, Bool, true, false, not, List, [], ◌∷◌, ◌++◌, take, drop, length, Option, Some, option_map, IfSome, if◌then◌else◌, ⊤}
use Rattle.mpm_base.specs.Count.{next_count, RisesWhere, RisesExactlyWhere}
use Rattle.mpm_base.specs.declared.link.Got.{Got}
use Rattle.mpm_base.specs.declared.link.Got.TheVariants as got
use Rattle.mpm_base.specs.declared.link.Sent.{Sent}
use Rattle.mpm_base.specs.declared.link.Sent.TheVariants as sent

-- what a link that tells has done: the bytes that its reads gave, those of them that came before it was half-closed, the
-- bytes that its client sends behind them, now or later, the bytes that its writes took, how often it was half-closed and
-- closed, and the number that the front gave it
pub record LinkTold : Type 0 where
  pub received : List ℕ
  pub before_shut : List ℕ
  pub coming : List ℕ
  pub sent : List ℕ
  pub shuts : ℕ
  pub closes : ℕ
  pub rank : ℕ

-- counts that each link keeps, whether it tells or not: of failed calls, of reads and of writes that were not ready, and of
-- reads that found the end
pub record LinkCounts : Type 0 where
  pub faults : ℕ
  pub late_reads : ℕ
  pub late_writes : ℕ
  pub ends : ℕ

-- what is seen of a link: what it tells, where it tells, and its counts
pub record LinkSeen : Type 0 where
  pub told : Option LinkTold
  pub counts : LinkCounts

-- the same of a link that tells
abbrev pub telling_link : LinkTold → LinkCounts → LinkSeen
telling_link told counts = record { told = Some told; counts = counts }

-- a link as the front hands it out, whose client sends these bytes: nothing was received or sent, and it was neither
-- half-closed nor closed
abbrev pub fresh_link : ℕ → List ℕ → LinkTold
fresh_link number bytes =
    record { received = []; before_shut = []; coming = bytes; sent = []; shuts = 0; closes = 0; rank = number }

-- so many of the bytes that come were received
abbrev pub with_received : ℕ → LinkTold → LinkTold
with_received n t =
    record t {
      received = t.received ++ take n t.coming;
      before_shut = if t.shuts == 0 then t.before_shut ++ take n t.coming else t.before_shut;
      coming = drop n t.coming;
    }

-- what the link tells after a read that answered this
abbrev pub after_read : Got → LinkTold → LinkTold
after_read (got.Got n) t = with_received n t
after_read got.End t = t
after_read got.NotReady t = t
after_read got.Failed t = t

-- a read gives what comes next, and finds the end only where nothing more comes
abbrev pub GivesNext : Got → List ℕ → LinkTold → Type 0
GivesNext (got.Got n) buffer t = (n ≤ length t.coming) × (take n buffer ≡ take n t.coming)
GivesNext got.End buffer t = t.coming ≡ []
GivesNext got.NotReady buffer t = ⊤
GivesNext got.Failed buffer t = ⊤

-- the number of bytes is within the piece, and isn't 0 unless the piece is empty
abbrev pub IsSomeOf : ℕ → ℕ → Type 0
IsSomeOf n room = (n ≤ room) × (0 < room → 0 < n)

-- what a read gave is some of the buffer
abbrev pub FitsBuffer : Got → ℕ → Type 0
FitsBuffer (got.Got n) room = IsSomeOf n room
FitsBuffer got.End room = ⊤
FitsBuffer got.NotReady room = ⊤
FitsBuffer got.Failed room = ⊤

-- the read found the end
abbrev pub found_end : Got → Bool
found_end (got.Got n) = false
found_end got.End = true
found_end got.NotReady = false
found_end got.Failed = false

-- the read found nothing to take at that moment
abbrev pub read_late : Got → Bool
read_late (got.Got n) = false
read_late got.End = false
read_late got.NotReady = true
read_late got.Failed = false

-- the read failed
abbrev pub read_failed : Got → Bool
read_failed (got.Got n) = false
read_failed got.End = false
read_failed got.NotReady = false
read_failed got.Failed = true

-- what a read answered, and left of the link and of the buffer
pub record Reads (old new : LinkSeen) (answer : Got) (buffer : List ℕ) : Type 0 where
  pub told_is : new.told ≡ option_map (after_read answer) old.told
  pub gives : IfSome old.told (GivesNext answer buffer)
  pub fits : FitsBuffer answer (length buffer)
  pub faults : RisesWhere (read_failed answer) old.counts.faults new.counts.faults
  pub late_reads : RisesExactlyWhere (read_late answer) old.counts.late_reads new.counts.late_reads
  pub late_writes : new.counts.late_writes ≡ old.counts.late_writes
  pub ends : RisesExactlyWhere (found_end answer) old.counts.ends new.counts.ends

-- what the link tells after a write of these bytes
abbrev pub after_write : Sent → List ℕ → LinkTold → LinkTold
after_write (sent.Put n) bytes t = record t { sent = t.sent ++ take n bytes }
after_write sent.NotReady bytes t = t
after_write sent.Failed bytes t = t

-- what a write took is some of the piece
abbrev pub FitsPiece : Sent → ℕ → Type 0
FitsPiece (sent.Put n) room = IsSomeOf n room
FitsPiece sent.NotReady room = ⊤
FitsPiece sent.Failed room = ⊤

-- the write found no room at that moment
abbrev pub write_late : Sent → Bool
write_late (sent.Put n) = false
write_late sent.NotReady = true
write_late sent.Failed = false

-- the write failed
abbrev pub write_failed : Sent → Bool
write_failed (sent.Put n) = false
write_failed sent.NotReady = false
write_failed sent.Failed = true

-- what a write of these bytes answered, and left of the link
pub record Writes (old new : LinkSeen) (answer : Sent) (bytes : List ℕ) : Type 0 where
  pub told_is : new.told ≡ option_map (after_write answer bytes) old.told
  pub fits : FitsPiece answer (length bytes)
  pub faults : RisesWhere (write_failed answer) old.counts.faults new.counts.faults
  pub late_reads : new.counts.late_reads ≡ old.counts.late_reads
  pub late_writes : RisesExactlyWhere (write_late answer) old.counts.late_writes new.counts.late_writes
  pub ends : new.counts.ends ≡ old.counts.ends

-- what the link tells after its writing side was closed, or could not be
abbrev pub after_shut : Bool → LinkTold → LinkTold
after_shut true t = record t { shuts = next_count t.shuts }
after_shut false t = t

-- the other counts stay, and no call failed unless the test says so
pub record OnlyFaults (failed : Bool) (counts counts' : LinkCounts) : Type 0 where
  pub faults : RisesWhere failed counts.faults counts'.faults
  pub late_reads : counts'.late_reads ≡ counts.late_reads
  pub late_writes : counts'.late_writes ≡ counts.late_writes
  pub ends : counts'.ends ≡ counts.ends

-- what a half-close answered, and left of the link
pub record Shuts (old new : LinkSeen) (answer : Bool) : Type 0 where
  pub told_is : new.told ≡ option_map (after_shut answer) old.told
  pub only_faults : OnlyFaults (not answer) old.counts new.counts

-- what the link tells after it was closed
abbrev pub after_close : LinkTold → LinkTold
after_close t = record t { closes = next_count t.closes }

-- what a close left of the link
pub record Closes (old new : LinkSeen) : Type 0 where
  pub told_is : new.told ≡ option_map after_close old.told
  pub only_faults : OnlyFaults false old.counts new.counts

-- ## Calls

-- what a link tells of its calls: of each read for how many bytes there was room and what it answered, and of each write how many bytes it
-- was offered and what it answered, in their order
pub record LinkCalls : Type 0 where
  pub reads : List (ℕ × Got)
  pub writes : List (ℕ × Sent)

-- a read more, with room for so many bytes
abbrev pub with_read : ℕ → Got → LinkCalls → LinkCalls
with_read room answer calls = record calls { reads = calls.reads ++ (room, answer) ∷ [] }

-- a write more, which was offered so many bytes
abbrev pub with_write : ℕ → Sent → LinkCalls → LinkCalls
with_write offered answer calls = record calls { writes = calls.writes ++ (offered, answer) ∷ [] }
