-- A link in memory: what contracts see of it, and what each call leaves of it.
use Rattle.std.specs.Prelude.{◌≡◌, ℕ, Bool, true, false, min, List, [], ◌∷◌, ◌++◌, take, drop, length, ⊤}
use Rattle.mpm_base.specs.Count.{next_count}
use Rattle.mpm_base.specs.Link.{LinkTold, LinkCounts, fresh_link, after_read, after_write}
use Rattle.mpm_base.specs.declared.link.Got.{Got}
use Rattle.mpm_base.specs.declared.link.Got.TheVariants as got
use Rattle.mpm_base.specs.declared.link.Sent.{Sent}
use Rattle.mpm_base.specs.declared.link.Sent.TheVariants as sent

-- what the link tells and counts, and whether the client sends no more behind the bytes that come
pub record SeenLink : Type 0 where
  pub told : LinkTold
  pub counts : LinkCounts
  pub ends : Bool

-- the counts of a link of which no call was made
abbrev pub no_link_counts : LinkCounts
no_link_counts = record { faults = 0; late_reads = 0; late_writes = 0; ends = 0 }

-- the link as the front hands it out: its number, what its client sent, and whether the client sends no more
abbrev pub new_link : ℕ → List ℕ → Bool → SeenLink
new_link number coming ended =
    record { told = fresh_link number coming; counts = no_link_counts; ends = ended }

-- what a read answers where no byte comes
abbrev pub answer_at_end : Bool → Got
answer_at_end true = got.End
answer_at_end false = got.NotReady

-- what a read into so much room answers: as many of the bytes that come as fit, and only where none comes the end, or that
-- there is none at this moment
abbrev pub read_answer : List ℕ → Bool → ℕ → Got
read_answer [] ended room = answer_at_end ended
read_answer (byte ∷ bytes) ended room = got.Got (min (length (byte ∷ bytes)) room)

-- how many bytes the read gave
abbrev pub got_count : Got → ℕ
got_count (got.Got n) = n
got_count got.End = 0
got_count got.NotReady = 0
got_count got.Failed = 0

-- the counts after a read that answered this
abbrev pub count_read : Got → LinkCounts → LinkCounts
count_read (got.Got n) counts = counts
count_read got.End counts = record counts { ends = next_count counts.ends }
count_read got.NotReady counts = record counts { late_reads = next_count counts.late_reads }
count_read got.Failed counts = record counts { faults = next_count counts.faults }

-- the buffer after a read that answered this, where these bytes came: what it gave, at the front
abbrev pub buffer_after_read : Got → List ℕ → List ℕ → List ℕ
buffer_after_read answer coming buffer = take (got_count answer) coming ++ drop (got_count answer) buffer

-- the link after a read that answered this
abbrev pub link_after_read : Got → SeenLink → SeenLink
link_after_read answer link =
    record link { told = after_read answer link.told; counts = count_read answer link.counts }

-- a write takes the whole piece, or finds no room for want of memory
abbrev pub TakesWhole : Sent → ℕ → Type 0
TakesWhole (sent.Put n) size = n ≡ size
TakesWhole sent.NotReady size = ⊤
TakesWhole sent.Failed size = ⊥

-- the counts after a write that answered this
abbrev pub count_write : Sent → LinkCounts → LinkCounts
count_write (sent.Put n) counts = counts
count_write sent.NotReady counts = record counts { late_writes = next_count counts.late_writes }
count_write sent.Failed counts = record counts { faults = next_count counts.faults }

-- the counts after a half-close that answered this
abbrev pub count_shut : Bool → LinkCounts → LinkCounts
count_shut true counts = counts
count_shut false counts = record counts { faults = next_count counts.faults }

-- the link after a write of these bytes that answered this
abbrev pub link_after_write : Sent → List ℕ → SeenLink → SeenLink
link_after_write answer bytes link =
    record link { told = after_write answer bytes link.told; counts = count_write answer link.counts }
