-- What is seen of a connection, and what holds of it at every turn.
use Rattle.std.specs.Prelude.{◌≡◌, ℕ, ◌<◌, Bool, true, false, List, [], ◌++◌, length, Option, IfSome, if◌then◌else◌, ⊤}
use Rattle.mpm_base.specs.Link.{LinkTold, LinkCounts, fresh_link}
use Rattle.mpm_base.specs.Notes.{says_last}
use Rattle.mpm_base.specs.declared.conn.ConnName.{ConnName}
use Rattle.mpm_base.specs.declared.conn.Ask.{Ask}
use Rattle.mpm_base.specs.declared.note.Note.{Note}
use Rattle.file_table.specs.Site.{SeenSite}
use Rattle.http_core.specs.Code.{continue_text}
use Rattle.conn_state.specs.declared.turn.LastTurn.{LastTurn}
use Rattle.conn_state.specs.declared.turn.LastTurn.TheVariants as turn
use Rattle.conn_state.specs.declared.turn.LastLinger.{LastLinger}
use Rattle.conn_state.specs.declared.turn.LastLinger.TheVariants as linger
use Rattle.conn_state.specs.Items.{Item}
use Rattle.conn_state.specs.Replies.{IsFitting, AreReplies, MayFollow}
use Rattle.conn_state.specs.Rest.{is_awaited}
use Rattle.conn_state.specs.Reader.{SeenReader, StandsFor, AsksKeptItem, AwaitsMore}
use Rattle.conn_state.specs.Follows.{what_follows}
use Rattle.conn_state.specs.Sizes.{most_dropped}

-- a connection: what its link tells and counts, its name, child and generation, the site of its generation, its responses so
-- far, what of them is still to be sent, the reader of its requests, what its last turn answered, how far it is on its way out, and
-- how many bytes it dropped while it lingered
pub record SeenConn : Type 0 where
  pub told : Option LinkTold
  pub counts : LinkCounts
  pub name : ConnName
  pub child : ℕ
  pub generation : ℕ
  pub site : SeenSite
  pub notes : List Note
  pub pending : List ℕ
  pub reader : SeenReader
  pub turn : LastTurn
  pub linger : LastLinger
  pub dropped : ℕ

-- nothing failed so far: the connection may be read, answered and written
abbrev pub is_usable : LastTurn → Bool
is_usable turn.New = true
is_usable (turn.Asked ask) = true
is_usable turn.Interim = true
is_usable turn.Answered = true
is_usable turn.More = true
is_usable turn.Gone = true
is_usable turn.Done = true
is_usable turn.NotReady = true
is_usable turn.LinkFailed = false
is_usable turn.NoMemory = false

-- ## The way out

-- the link was half-closed
abbrev pub is_half_closed : LastLinger → Bool
is_half_closed linger.Open = false
is_half_closed linger.ShutFailed = false
is_half_closed linger.Shut = true
is_half_closed linger.Drained = true
is_half_closed linger.Sated = true
is_half_closed linger.NotReady = true
is_half_closed linger.LinkFailed = true

-- the connection lingers: it may be read, to drop what still comes
abbrev pub lingers : LastLinger → Bool
lingers linger.Open = false
lingers linger.ShutFailed = false
lingers linger.Shut = true
lingers linger.Drained = false
lingers linger.Sated = false
lingers linger.NotReady = true
lingers linger.LinkFailed = false

-- how often its link was half-closed
abbrev pub shuts_at : LastLinger → ℕ
shuts_at last = if is_half_closed last then 1 else 0

-- the link wasn't closed, was half-closed as far as the connection is on its way out, and received what it received before
-- that, followed by what was dropped
pub record LinkFits (last : LastLinger) (dropped : ℕ) (t : LinkTold) : Type 0 where
  pub closes : t.closes ≡ 0
  pub shuts : t.shuts ≡ shuts_at last
  pub behind : List ℕ
  pub received : t.received ≡ t.before_shut ++ behind
  pub count : length behind ≡ dropped

-- ## The reply stream

-- what was sent and what is pending are the replies to the first items that were received before the half-close, and what follows
-- them; and the rest is left
pub record Streams (c : SeenConn) (rest : List ℕ) (t : LinkTold) : Type 0 where
  pub items : List Item
  pub replies : List ℕ
  pub fitting : IsFitting c.site c.reader.limits c.notes t.before_shut items rest
  pub are_replies : AreReplies c.site items c.notes replies
  pub stream : t.sent ++ c.pending ≡ replies ++ what_follows c.notes c.reader.stage

-- the list goes on behind the front
abbrev pub IsFrontOf : List ℕ → List ℕ → Type 0
IsFrontOf whole front = (more : List ℕ) × (whole ≡ front ++ more)

-- what was sent is a front of the replies to the first items that were received before the half-close, and what may follow them
pub record BrokeOff (c : SeenConn) (t : LinkTold) : Type 0 where
  pub items : List Item
  pub left : List ℕ
  pub replies : List ℕ
  pub interim : List ℕ
  pub fitting : IsFitting c.site c.reader.limits c.notes t.before_shut items left
  pub are_replies : AreReplies c.site items c.notes replies
  pub may_follow : MayFollow c.reader.limits c.notes left interim
  pub front : IsFrontOf (replies ++ interim) t.sent

-- the reply stream of a link that tells: it goes on while the connection is usable, and else broke off
abbrev pub StreamsWhile : Bool → SeenConn → List ℕ → LinkTold → Type 0
StreamsWhile true c rest t = Streams c rest t
StreamsWhile false c rest t = BrokeOff c t

-- ## What the last turn leaves

-- nothing was read yet
pub record IsUntouched (c : SeenConn) (rest : List ℕ) : Type 0 where
  pub none_pending : c.pending ≡ []
  pub none_read : rest ≡ []
  pub none_noted : c.notes ≡ []

-- nothing is to be sent, and the next item was read and asks this
pub record IsAsked (ask : Ask) (c : SeenConn) (rest : List ℕ) : Type 0 where
  pub none_pending : c.pending ≡ []
  pub asked : AsksKeptItem c.site c.reader.limits c.reader.stage rest ask
  pub goes_on : says_last c.notes ≡ false

-- what tells the client to send the body is to be sent, and the client waits for it
pub record IsTelling (c : SeenConn) : Type 0 where
  pub pending_is : c.pending ≡ continue_text
  pub waits : is_awaited c.reader.stage ≡ true

-- nothing is to be sent, and more bytes have to come
pub record IsWaiting (c : SeenConn) (rest : List ℕ) : Type 0 where
  pub none_pending : c.pending ≡ []
  pub none_whole : AwaitsMore c.reader rest
  pub goes_on : says_last c.notes ≡ false

-- what the last turn says of the connection
abbrev pub TurnFits : LastTurn → SeenConn → List ℕ → Type 0
TurnFits turn.New c rest = IsUntouched c rest
TurnFits (turn.Asked ask) c rest = IsAsked ask c rest
TurnFits turn.Interim c rest = IsTelling c
TurnFits turn.Answered c rest = 0 < length c.pending
TurnFits turn.More c rest = IsWaiting c rest
TurnFits turn.Gone c rest = IsWaiting c rest
TurnFits turn.Done c rest = c.pending ≡ []
TurnFits turn.NotReady c rest = 0 < length c.pending
TurnFits turn.LinkFailed c rest = 0 < c.counts.faults
TurnFits turn.NoMemory c rest = ⊤

-- the client sends no more: a read of the link found the end, and all that comes was received
pub record IsDone (c : SeenConn) : Type 0 where
  pub found : 0 < c.counts.ends
  pub all_came : IfSome c.told (λ t. t.coming ≡ [])

-- ## What the last linger turn leaves

-- fewer bytes were dropped than the most that may be
abbrev pub IsBelowMost : ℕ → Type 0
IsBelowMost dropped = dropped < most_dropped

-- a call of the link failed
abbrev pub HasFailed : SeenConn → Type 0
HasFailed c = 0 < c.counts.faults

-- how many bytes were dropped, and what the link shows, as far as the connection is on its way out
abbrev pub LingerFits : LastLinger → SeenConn → Type 0
LingerFits linger.Open c = c.dropped ≡ 0
LingerFits linger.ShutFailed c = (c.dropped ≡ 0) × HasFailed c
LingerFits linger.Shut c = c.dropped ≡ 0
LingerFits linger.Drained c = IsBelowMost c.dropped × IsDone c
LingerFits linger.Sated c = c.dropped ≡ most_dropped
LingerFits linger.NotReady c = IsBelowMost c.dropped
LingerFits linger.LinkFailed c = IsBelowMost c.dropped × HasFailed c

-- what holds of every connection, and of the rest: the bytes behind the answered requests
pub record IsConn (c : SeenConn) : Type 0 where
  pub rest : List ℕ
  pub stands : StandsFor c.reader rest
  pub turn_fits : TurnFits c.turn c rest
  pub ended : c.turn ≡ turn.Gone → IsDone c
  pub linger_fits : LingerFits c.linger c
  pub link : IfSome c.told (LinkFits c.linger c.dropped)
  pub streams : IfSome c.told (StreamsWhile (is_usable c.turn) c rest)

-- the link is as the front hands it out
abbrev pub IsFresh : LinkTold → Type 0
IsFresh t = t ≡ fresh_link t.rank t.coming
