-- What each turn of a connection leaves of it.
use Rattle.std.specs.Prelude.{◌≡◌, ◌==◌, ℕ, ◌+◌, Bool, true, false, not, ◌||◌, List, [], ◌∷◌, ◌++◌, take, drop, length, option_map, Some, IfSome, ⊤}
use Rattle.mpm_base.specs.Count.{RisesWhere, RisesExactlyWhere}
use Rattle.mpm_base.specs.Link.{OnlyFaults, with_received, after_shut}
use Rattle.mpm_base.specs.declared.note.Note.{Note}
use Rattle.http_core.specs.Code.{continue_text}
use Rattle.conn_state.specs.declared.turn.LastTurn.{LastTurn}
use Rattle.conn_state.specs.declared.turn.LastTurn.TheVariants as turn
use Rattle.conn_state.specs.declared.turn.ReadTurn.{ReadTurn}
use Rattle.conn_state.specs.declared.turn.ReadTurn.TheVariants as read
use Rattle.conn_state.specs.declared.turn.WriteTurn.{WriteTurn}
use Rattle.conn_state.specs.declared.turn.WriteTurn.TheVariants as write
use Rattle.conn_state.specs.declared.turn.LingerTurn.{LingerTurn}
use Rattle.conn_state.specs.declared.turn.LingerTurn.TheVariants as left
use Rattle.conn_state.specs.declared.turn.LastLinger.{LastLinger}
use Rattle.conn_state.specs.declared.turn.LastLinger.TheVariants as linger
use Rattle.conn_state.specs.Items.{Item, BeginsItem}
use Rattle.conn_state.specs.Replies.{IsNoteFor, IsResponse, first_part}
use Rattle.conn_state.specs.Rest.{is_awaited}
use Rattle.conn_state.specs.Reader.{SeenReader, StandsFor, item_kept, AsksKeptItem, AwaitsMore, AsksInNeed}
use Rattle.conn_state.specs.Follows.{what_follows}
use Rattle.conn_state.specs.Writing.{is_not_ready, is_write_failure, WriteLeaves, with_sent}
use Rattle.conn_state.specs.Conn.{SeenConn}
use Rattle.conn_state.specs.Sizes.{most_dropped}

-- ## Reading

-- the connection after a turn of reading that answered so
abbrev pub after_reading : ReadTurn → LastTurn
after_reading (read.Asked ask) = turn.Asked ask
after_reading read.Interim = turn.Interim
after_reading read.More = turn.More
after_reading read.Gone = turn.Gone
after_reading read.LinkFailed = turn.LinkFailed
after_reading read.NoMemory = turn.NoMemory

-- the client is to be told to send the body
abbrev pub is_interim : ReadTurn → Bool
is_interim read.Interim = true
is_interim other = false

-- the turn found that more has to come
abbrev pub is_more : ReadTurn → Bool
is_more read.More = true
is_more other = false

-- the turn found that the client sends no more
abbrev pub is_gone : ReadTurn → Bool
is_gone read.Gone = true
is_gone other = false

-- a read of the turn failed
abbrev pub is_read_failure : ReadTurn → Bool
is_read_failure read.LinkFailed = true
is_read_failure other = false

-- what is pending after a turn of reading: what tells the client to send the body, where it is to be told
abbrev pub pending_after : ReadTurn → List ℕ → List ℕ
pending_after read.Interim pending = continue_text
pending_after other pending = pending

-- what is kept stands for all that came, unless memory lacked
abbrev pub KeepsRead : ReadTurn → SeenReader → List ℕ → Type 0
KeepsRead read.NoMemory r rest = ⊤
KeepsRead other r rest = StandsFor r rest

-- a client is found that waits only where the turn says so, unless memory lacked to tell it
abbrev pub FindsClient : ReadTurn → SeenReader → SeenReader → Type 0
FindsClient read.NoMemory old new = ⊤
FindsClient other old new = is_awaited new.stage ≡ (is_awaited old.stage || is_interim other)

-- what a turn of reading found in the bytes that came: the next item, an accepted head whose client waits, or that more has to come
abbrev pub ReadFinds : ReadTurn → SeenConn → List ℕ → Type 0
ReadFinds (read.Asked ask) c rest = AsksKeptItem c.site c.reader.limits c.reader.stage rest ask
ReadFinds read.Interim c rest = is_awaited c.reader.stage ≡ true
ReadFinds read.More c rest = AwaitsMore c.reader rest
ReadFinds read.Gone c rest = AwaitsMore c.reader rest
ReadFinds read.LinkFailed c rest = AwaitsMore c.reader rest
ReadFinds read.NoMemory c rest = ⊤

-- a turn of reading takes what the link gives
pub record ReadsOn (old new : SeenConn) (answer : ReadTurn) : Type 0 where
  pub name : new.name ≡ old.name
  pub child : new.child ≡ old.child
  pub generation : new.generation ≡ old.generation
  pub site : new.site ≡ old.site
  pub limits : new.reader.limits ≡ old.reader.limits
  pub notes : new.notes ≡ old.notes
  pub pending : new.pending ≡ pending_after answer old.pending
  pub turn : new.turn ≡ after_reading answer
  pub linger : new.linger ≡ old.linger
  pub dropped : new.dropped ≡ old.dropped
  pub got : List ℕ
  pub told : new.told ≡ option_map (with_received (length got)) old.told
  pub gives : IfSome old.told (λ t. got ≡ take (length got) t.coming)
  pub asks : (rest : List ℕ) → StandsFor old.reader rest → AsksInNeed old.reader rest got
  pub stands : (rest : List ℕ) → StandsFor old.reader rest → KeepsRead answer new.reader (rest ++ got)
  pub finds : (rest : List ℕ) → StandsFor old.reader rest → ReadFinds answer new (rest ++ got)
  pub told_once : FindsClient answer old.reader new.reader
  pub not_twice : is_interim answer ≡ true → is_awaited old.reader.stage ≡ false
  pub faults : RisesWhere (is_read_failure answer) old.counts.faults new.counts.faults
  pub late_reads : RisesExactlyWhere (is_more answer) old.counts.late_reads new.counts.late_reads
  pub ends : RisesExactlyWhere (is_gone answer) old.counts.ends new.counts.ends
  pub late_writes : new.counts.late_writes ≡ old.counts.late_writes

-- the link tells and counts what it did before
pub record AsksNothing (old new : SeenConn) : Type 0 where
  pub told : new.told ≡ old.told
  pub counts : new.counts ≡ old.counts

-- ## Answering

-- the note is one of a response to what the last turn asked
abbrev pub IsNoteOf : LastTurn → Note → Type 0
IsNoteOf (turn.Asked ask) note = IsNoteFor ask note
IsNoteOf other note = ⊥

-- the item stands at the front of the bytes, and the reader goes on behind it
pub record LeavesItem (item : Item) (old new : SeenReader) (rest : List ℕ) : Type 0 where
  pub size : ℕ
  pub begins : BeginsItem old.limits rest item size
  pub stands : StandsFor new (drop size rest)

-- the next item of the bytes, which was read, has a response, which is to be sent behind what is sent before it
pub record TakesNote (note : Note) (old new : SeenConn) : Type 0 where
  pub item : Item
  pub kept : item_kept old.reader.stage ≡ Some item
  pub first : what_follows old.notes old.reader.stage ≡ first_part item
  pub response : List ℕ
  pub leaves : (rest : List ℕ) → StandsFor old.reader rest → LeavesItem item old.reader new.reader rest
  pub is_response : IsResponse old.site item note response
  pub limits : new.reader.limits ≡ old.reader.limits
  pub new_is : new ≡ record old { notes = old.notes ++ note ∷ []; pending = response; reader = new.reader; turn = turn.Answered }

-- ## Writing

-- the connection after a turn of writing that answered so
abbrev pub after_writing : WriteTurn → LastTurn
after_writing write.Done = turn.Done
after_writing write.NotReady = turn.NotReady
after_writing write.LinkFailed = turn.LinkFailed

-- a turn of writing sends a front of what is pending
pub record WritesOn (old new : SeenConn) (answer : WriteTurn) : Type 0 where
  pub name : new.name ≡ old.name
  pub child : new.child ≡ old.child
  pub generation : new.generation ≡ old.generation
  pub site : new.site ≡ old.site
  pub notes : new.notes ≡ old.notes
  pub reader : new.reader ≡ old.reader
  pub turn : new.turn ≡ after_writing answer
  pub linger : new.linger ≡ old.linger
  pub dropped : new.dropped ≡ old.dropped
  pub sent : List ℕ
  pub front : old.pending ≡ sent ++ new.pending
  pub told : new.told ≡ option_map (with_sent sent) old.told
  pub leaves : WriteLeaves answer new.pending
  pub faults : RisesWhere (is_write_failure answer) old.counts.faults new.counts.faults
  pub late_writes : RisesExactlyWhere (is_not_ready answer) old.counts.late_writes new.counts.late_writes
  pub late_reads : new.counts.late_reads ≡ old.counts.late_reads
  pub ends : new.counts.ends ≡ old.counts.ends

-- ## The way out

-- the connection after a half-close that was made, or failed
abbrev pub after_half_close : Bool → LastLinger
after_half_close true = linger.Shut
after_half_close false = linger.ShutFailed

-- the link was half-closed, or the call failed
pub record ShutsOn (old new : SeenConn) (answer : Bool) : Type 0 where
  pub name : new.name ≡ old.name
  pub child : new.child ≡ old.child
  pub generation : new.generation ≡ old.generation
  pub site : new.site ≡ old.site
  pub notes : new.notes ≡ old.notes
  pub pending : new.pending ≡ old.pending
  pub reader : new.reader ≡ old.reader
  pub turn : new.turn ≡ old.turn
  pub linger : new.linger ≡ after_half_close answer
  pub dropped : new.dropped ≡ old.dropped
  pub told : new.told ≡ option_map (after_shut answer) old.told
  pub counts : OnlyFaults (not answer) old.counts new.counts

-- the connection after a linger turn that answered so
abbrev pub after_linger : LingerTurn → LastLinger
after_linger left.Drained = linger.Drained
after_linger left.Sated = linger.Sated
after_linger left.NotReady = linger.NotReady
after_linger left.LinkFailed = linger.LinkFailed

-- the turn found that the client closed its side
abbrev pub is_drained : LingerTurn → Bool
is_drained left.Drained = true
is_drained left.Sated = false
is_drained left.NotReady = false
is_drained left.LinkFailed = false

-- all was dropped that may be
abbrev pub is_sated : LingerTurn → Bool
is_sated left.Drained = false
is_sated left.Sated = true
is_sated left.NotReady = false
is_sated left.LinkFailed = false

-- the turn found that more may come
abbrev pub is_linger_late : LingerTurn → Bool
is_linger_late left.Drained = false
is_linger_late left.Sated = false
is_linger_late left.NotReady = true
is_linger_late left.LinkFailed = false

-- a read of the turn failed
abbrev pub is_linger_failure : LingerTurn → Bool
is_linger_failure left.Drained = false
is_linger_failure left.Sated = false
is_linger_failure left.NotReady = false
is_linger_failure left.LinkFailed = true

-- a linger turn drops what the link gives, at most 1,048,576 bytes with all that was dropped before
pub record LingersOn (old new : SeenConn) (answer : LingerTurn) : Type 0 where
  pub name : new.name ≡ old.name
  pub child : new.child ≡ old.child
  pub generation : new.generation ≡ old.generation
  pub site : new.site ≡ old.site
  pub notes : new.notes ≡ old.notes
  pub pending : new.pending ≡ old.pending
  pub reader : new.reader ≡ old.reader
  pub turn : new.turn ≡ old.turn
  pub linger : new.linger ≡ after_linger answer
  pub got : List ℕ
  pub told : new.told ≡ option_map (with_received (length got)) old.told
  pub gives : IfSome old.told (λ t. got ≡ take (length got) t.coming)
  pub dropped : new.dropped ≡ old.dropped + length got
  pub sated : is_sated answer ≡ (new.dropped == most_dropped)
  pub faults : RisesWhere (is_linger_failure answer) old.counts.faults new.counts.faults
  pub late_reads : RisesExactlyWhere (is_linger_late answer) old.counts.late_reads new.counts.late_reads
  pub ends : RisesExactlyWhere (is_drained answer) old.counts.ends new.counts.ends
  pub late_writes : new.counts.late_writes ≡ old.counts.late_writes
