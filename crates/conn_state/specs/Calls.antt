-- For how many bytes a connection calls its link, as one that tells its calls shows it.
use Rattle.std.specs.Prelude.{◌≡◌, ◌⊎◌, ℕ, ◌+◌, ◌-◌, List, [], ◌∷◌, ◌++◌, min, Option, option_map, ⊤}
use Rattle.mpm_base.specs.Link.{LinkCalls}
use Rattle.mpm_base.specs.declared.link.Got.{Got}
use Rattle.mpm_base.specs.declared.link.Got.TheVariants as got
use Rattle.mpm_base.specs.declared.link.Sent.{Sent}
use Rattle.mpm_base.specs.declared.link.Sent.TheVariants as sent
use Rattle.http_read.specs.Sizes.{greatest_head}
use Rattle.conn_state.specs.Sizes.{read_piece, write_piece, most_dropped}

-- ## Writing

-- how many bytes a write took
abbrev pub taken_by : Sent → ℕ
taken_by (sent.Put n) = n
taken_by sent.NotReady = 0
taken_by sent.Failed = 0

-- so many bytes are left of a head, and so many of a body behind it: each write is offered all that is left of the head then, and behind it
-- all that is left of the body, at most a piece
abbrev pub OffersAll : ℕ → ℕ → List (ℕ × Sent) → Type 0
OffersAll head body [] = ⊤
OffersAll head body (write ∷ more) =
    (write.0 ≡ head + min write_piece body) × OffersAll (head - taken_by write.1) (body - (taken_by write.1 - head)) more

-- these writes more
abbrev pub with_writes : List (ℕ × Sent) → LinkCalls → LinkCalls
with_writes writes calls = record calls { writes = calls.writes ++ writes }

-- a link that tells its calls tells some writes more, each of which was offered all that was left, up to its limit
pub record WritesAll (calls calls' : Option LinkCalls) (head body : ℕ) : Type 0 where
  pub writes : List (ℕ × Sent)
  pub calls_is : calls' ≡ option_map (with_writes writes) calls
  pub offers : OffersAll head body writes

-- ## Reading

-- how many bytes a read gave
abbrev pub given_by : Got → ℕ
given_by (got.Got n) = n
given_by got.End = 0
given_by got.NotReady = 0
given_by got.Failed = 0

-- these reads more
abbrev pub with_reads : List (ℕ × Got) → LinkCalls → LinkCalls
with_reads reads calls = record calls { reads = calls.reads ++ reads }

-- for how many bytes a read has room, where so many are kept of a head that isn't whole: for a piece, or for fewer, where with these the head
-- is too large
abbrev pub room_in_head : ℕ → ℕ
room_in_head kept = min read_piece (greatest_head + 1 - kept)

-- so many bytes are kept: each read has room for a piece, or for what it takes to see that a head with all that came is too large
abbrev pub ReadsPieces : ℕ → List (ℕ × Got) → Type 0
ReadsPieces kept [] = ⊤
ReadsPieces kept (read ∷ more) =
    ((read.0 ≡ read_piece) ⊎ (read.0 ≡ room_in_head kept)) × ReadsPieces (kept + given_by read.1) more

-- a link that tells its calls tells some reads more, each of which had all that room
pub record ReadsAll (calls calls' : Option LinkCalls) (kept : ℕ) : Type 0 where
  pub reads : List (ℕ × Got)
  pub calls_is : calls' ≡ option_map (with_reads reads) calls
  pub pieces : ReadsPieces kept reads

-- ## Dropping

-- so many bytes were dropped: each read has room for a piece, or for all that may still be dropped
abbrev pub DropsPieces : ℕ → List (ℕ × Got) → Type 0
DropsPieces dropped [] = ⊤
DropsPieces dropped (read ∷ more) =
    (read.0 ≡ min read_piece (most_dropped - dropped)) × DropsPieces (dropped + given_by read.1) more

-- a link that tells its calls tells some reads more, each of which had all that room
pub record DropsAll (calls calls' : Option LinkCalls) (dropped : ℕ) : Type 0 where
  pub reads : List (ℕ × Got)
  pub calls_is : calls' ≡ option_map (with_reads reads) calls
  pub pieces : DropsPieces dropped reads
