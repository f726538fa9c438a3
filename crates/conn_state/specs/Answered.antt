-- A connection that ended, and what its link shows of it.
-- Why it is so stands in docs/DECISIONS.md: 31, When a connection over whole HTTP is late; 34, What an ended connection shows.
use Rattle.std.specs.Prelude.{◌≡◌, ℕ, ◌<◌, ◌+◌, Bool, true, false, List, [], ◌++◌, length, Option, IfSome, option_map, ⊤}
use Rattle.mpm_base.specs.Link.{LinkTold, LinkCounts, OnlyFaults, after_close}
use Rattle.mpm_base.specs.Notes.{says_last}
use Rattle.mpm_base.specs.declared.conn.ConnName.{ConnName}
use Rattle.mpm_base.specs.declared.conn.Cause.{Cause}
use Rattle.mpm_base.specs.declared.conn.Cause.TheVariants as cause
use Rattle.mpm_base.specs.declared.conn.Tail.{Tail}
use Rattle.mpm_base.specs.declared.conn.Tail.TheVariants as tail
use Rattle.mpm_base.specs.declared.note.Note.{Note}
use Rattle.http_read.specs.declared.request.Limits.{Limits}
use Rattle.http_read.specs.Requests.{WaitsForRequest}
use Rattle.file_table.specs.Site.{SeenSite}
use Rattle.conn_state.specs.declared.turn.LastTurn.{LastTurn}
use Rattle.conn_state.specs.declared.turn.LastTurn.TheVariants as turn
use Rattle.conn_state.specs.declared.turn.LastLinger.{LastLinger}
use Rattle.conn_state.specs.declared.turn.LastLinger.TheVariants as linger
use Rattle.conn_state.specs.Items.{Item}
use Rattle.conn_state.specs.Replies.{IsFitting, AreReplies, IsInterim, MayFollow}
use Rattle.conn_state.specs.Reader.{keeps_none}
use Rattle.conn_state.specs.Conn.{SeenConn, IsFrontOf, is_usable, is_half_closed}
use Rattle.conn_state.specs.Sizes.{most_dropped}

-- a connection that ended, and how: what its closed link tells and counts, its name, child and generation, the site of its generation
-- and the limits of its heads, its responses, why its service ended and how its link was left; and, for clauses alone, what its last
-- turn answered, and how far it was on its way out
pub record SeenEnded : Type 0 where
  pub told : Option LinkTold
  pub counts : LinkCounts
  pub name : ConnName
  pub child : ℕ
  pub generation : ℕ
  pub site : SeenSite
  pub limits : Limits
  pub notes : List Note
  pub cause : Cause
  pub tail : Tail
  pub turn : LastTurn
  pub linger : LastLinger

-- ## When a connection may be ended so

-- what a connection shows for a cause with which it is closed without lingering
abbrev pub ShowsAtOnce : Cause → SeenConn → Type 0
ShowsAtOnce cause.ClientDone c = c.turn ≡ turn.Gone
ShowsAtOnce cause.LinkFailed c = 0 < c.counts.faults
ShowsAtOnce cause.Stopped c = ⊤
ShowsAtOnce cause.NoMemory c = ⊤
ShowsAtOnce other c = ⊥

-- the last response was sent whole
pub record SentLast (c : SeenConn) : Type 0 where
  pub none_pending : c.pending ≡ []
  pub says_it : says_last c.notes ≡ true

-- each response was sent whole, and no byte of a further request is there
pub record SentAll (c : SeenConn) : Type 0 where
  pub none_pending : c.pending ≡ []
  pub none_kept : keeps_none c.reader ≡ true

-- the last turn found that more has to come, or there was none
abbrev pub waits_on : LastTurn → Bool
waits_on turn.New = true
waits_on turn.More = true
waits_on other = false

-- what a connection shows for a cause with which it lingers
abbrev pub ShowsLingering : Cause → SeenConn → Type 0
ShowsLingering cause.LastSent c = SentLast c
ShowsLingering cause.KeepAliveLate c = SentAll c
ShowsLingering cause.ReadLate c = waits_on c.turn ≡ true
ShowsLingering cause.WriteLate c = ⊤
ShowsLingering cause.Retiring c = SentAll c
ShowsLingering other c = ⊥

-- nothing failed before the connection began to linger, and it shows the cause
pub record MayLinger (why : Cause) (c : SeenConn) : Type 0 where
  pub usable : is_usable c.turn ≡ true
  pub shows : ShowsLingering why c

-- what the connection shows for the cause, by how its link is left
abbrev pub ShowsCause : Cause → Tail → SeenConn → Type 0
ShowsCause why tail.Direct c = ShowsAtOnce why c
ShowsCause why other c = MayLinger why c

-- how far the connection is on its way out, by how its link is left
abbrev pub IsLeft : Tail → LastLinger → Type 0
IsLeft tail.Direct last = is_half_closed last ≡ false
IsLeft tail.Drained last = last ≡ linger.Drained
IsLeft tail.Sated last = last ≡ linger.Sated
IsLeft tail.Late last = is_half_closed last ≡ true
IsLeft tail.Failed last = last ≡ linger.LinkFailed
IsLeft tail.Halted last = is_half_closed last ≡ true
IsLeft tail.NoMemory last = is_half_closed last ≡ true

-- what a connection must have shown that is ended so
pub record IsShown (why : Cause) (how : Tail) (c : SeenConn) : Type 0 where
  pub shows : ShowsCause why how c
  pub left : IsLeft how c.linger

-- ## What its link shows then

-- the replies were sent and what is due behind them, and what is left spells neither a whole request nor a refusal
pub record SentWhole (limits : Limits) (notes : List Note) (rest replies interim : List ℕ) (t : LinkTold) : Type 0 where
  pub all_sent : t.sent ≡ replies ++ interim
  pub due : IsInterim limits notes rest interim
  pub none_whole : WaitsForRequest limits rest

-- the replies were sent and nothing behind them, and nothing is left
pub record SentReplies (rest replies : List ℕ) (t : LinkTold) : Type 0 where
  pub all_sent : t.sent ≡ replies
  pub none_left : rest ≡ []

-- what was sent, for the cause: the replies, and perhaps what may follow them, or a front of that
abbrev pub SentFor : Cause → Limits → List Note → List ℕ → List ℕ → List ℕ → LinkTold → Type 0
SentFor cause.ClientDone limits notes rest replies interim t = SentWhole limits notes rest replies interim t
SentFor cause.LastSent limits notes rest replies interim t = (t.sent ≡ replies) × (says_last notes ≡ true)
SentFor cause.KeepAliveLate limits notes rest replies interim t = SentReplies rest replies t
SentFor cause.ReadLate limits notes rest replies interim t = SentWhole limits notes rest replies interim t
SentFor cause.WriteLate limits notes rest replies interim t = IsFrontOf (replies ++ interim) t.sent
SentFor cause.Retiring limits notes rest replies interim t = SentReplies rest replies t
SentFor cause.LinkFailed limits notes rest replies interim t = IsFrontOf (replies ++ interim) t.sent
SentFor cause.Stopped limits notes rest replies interim t = IsFrontOf (replies ++ interim) t.sent
SentFor cause.NoMemory limits notes rest replies interim t = IsFrontOf (replies ++ interim) t.sent

-- a connection that didn't linger wasn't half-closed, and another one was once
abbrev pub shuts_of : Tail → ℕ
shuts_of tail.Direct = 0
shuts_of other = 1

-- all that the client sent was received, and none of it was dropped
pub record HasAll (t : LinkTold) : Type 0 where
  pub came : t.coming ≡ []
  pub none_dropped : t.received ≡ t.before_shut

-- the connection was answered: what was sent for its notes and the bytes that it received before the half-close, behind which all
-- that it received further was dropped; and where its client had done, all that the client sent was received so
pub record HasAnswered (why : Cause) (site : SeenSite) (limits : Limits) (notes : List Note) (t : LinkTold) : Type 0 where
  pub items : List Item
  pub rest : List ℕ
  pub dropped : List ℕ
  pub replies : List ℕ
  pub interim : List ℕ
  pub fitting : IsFitting site limits notes t.before_shut items rest
  pub received_is : t.received ≡ t.before_shut ++ dropped
  pub are_replies : AreReplies site items notes replies
  pub may_follow : MayFollow limits notes rest interim
  pub sent : SentFor why limits notes rest replies interim t
  pub received : why ≡ cause.ClientDone → HasAll t

-- the connection was answered, and its link was closed once; where it lingered until the client closed its side, all that the
-- client sent was received; and where it lingered until all was dropped that may be, so many bytes were
pub record IsAnswered (why : Cause) (how : Tail) (site : SeenSite) (limits : Limits) (notes : List Note) (t : LinkTold) : Type 0 where
  pub closed : t.closes ≡ 1
  pub shuts : t.shuts ≡ shuts_of how
  pub answers : HasAnswered why site limits notes t
  pub drained : how ≡ tail.Drained → t.coming ≡ []
  pub sated : how ≡ tail.Sated → length t.received ≡ length t.before_shut + most_dropped

-- what the counts of the link show for the cause, whether it tells or not: a read found the end, or a call failed
abbrev pub LicensesCause : Cause → LinkCounts → Type 0
LicensesCause cause.ClientDone counts = 0 < counts.ends
LicensesCause cause.LinkFailed counts = 0 < counts.faults
LicensesCause other counts = ⊤

-- what they show for how it was left: a read found the end, or a call failed
abbrev pub LicensesTail : Tail → LinkCounts → Type 0
LicensesTail tail.Drained counts = 0 < counts.ends
LicensesTail tail.Failed counts = 0 < counts.faults
LicensesTail other counts = ⊤

-- what the counts of the link show for the cause, and for how it was left
pub record IsLicensed (why : Cause) (how : Tail) (counts : LinkCounts) : Type 0 where
  pub by_cause : LicensesCause why counts
  pub by_tail : LicensesTail how counts

-- what the last turn of a connection answered that ends for the cause: where its client had done, that it sends no more; where it was
-- late to send, that more has to come, or there was none; and where it lingered for another cause, nothing that failed
abbrev pub EndsAfter : Cause → LastTurn → Type 0
EndsAfter cause.ClientDone last = last ≡ turn.Gone
EndsAfter cause.ReadLate last = waits_on last ≡ true
EndsAfter cause.LinkFailed last = ⊤
EndsAfter cause.Stopped last = ⊤
EndsAfter cause.NoMemory last = ⊤
EndsAfter other last = is_usable last ≡ true

-- what holds of every connection that ended
pub record IsEnded (e : SeenEnded) : Type 0 where
  pub licensed : IsLicensed e.cause e.tail e.counts
  pub turned : EndsAfter e.cause e.turn
  pub last : e.cause ≡ cause.LastSent → says_last e.notes ≡ true
  pub left : IsLeft e.tail e.linger
  pub answered : IfSome e.told (IsAnswered e.cause e.tail e.site e.limits e.notes)

-- the connection ended so: its link was closed, and it has the site, the limits, the notes, the last turn and the way out that it had
pub record IsEndOf (c : SeenConn) (why : Cause) (how : Tail) (e : SeenEnded) : Type 0 where
  pub told : e.told ≡ option_map after_close c.told
  pub counts : OnlyFaults false c.counts e.counts
  pub name : e.name ≡ c.name
  pub child : e.child ≡ c.child
  pub generation : e.generation ≡ c.generation
  pub site : e.site ≡ c.site
  pub limits : e.limits ≡ c.reader.limits
  pub notes : e.notes ≡ c.notes
  pub cause : e.cause ≡ why
  pub tail : e.tail ≡ how
  pub turn : e.turn ≡ c.turn
  pub linger : e.linger ≡ c.linger
