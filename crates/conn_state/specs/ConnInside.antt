-- What holds of the fields of a connection beside what is seen of them, and what its reading takes.
use Rattle.std.specs.Prelude.{◌≡◌, ◌⊎◌, Option, Some, None, ⊤}
use Rattle.mpm_base.specs.Link.{LinkSeen}
use Rattle.mpm_base.specs.declared.conn.Ask.{Ask}
use Rattle.http_read.specs.RequestParts.{RequestParts}
use Rattle.file_table.specs.Site.{SeenSite}
use Rattle.http_core.specs.Ask.{IsServedOf, ask_for, plan_for}
use Rattle.http_core.specs.Code.{continue_text}
use Rattle.http_core.specs.declared.plan.Plan.{Plan}
use Rattle.conn_state.specs.declared.stage.Stage.{Stage}
use Rattle.conn_state.specs.declared.stage.Stage.TheVariants as stage
use Rattle.conn_state.specs.declared.reader.RequestAnswer.{RequestAnswer}
use Rattle.conn_state.specs.declared.reader.RequestAnswer.TheVariants as answer
use Rattle.conn_state.specs.declared.turn.LastTurn.{LastTurn}
use Rattle.conn_state.specs.declared.turn.LastTurn.TheVariants as turn
use Rattle.conn_state.specs.declared.turn.ReadTurn.{ReadTurn}
use Rattle.conn_state.specs.declared.turn.ReadTurn.TheVariants as read
use Rattle.conn_state.specs.Replies.{refusal_ask}
use Rattle.conn_state.specs.Reader.{SeenReader, IsReading, ReadsNext}
use Rattle.conn_state.specs.Outgoing.{Unsent, IsUnsentOf}
use Rattle.conn_state.specs.Known.{KnownOutside, IsOfClient}
use Rattle.conn_state.specs.Conn.{SeenConn, IsConn}

-- the plan is that of the request
pub record IsPlanFor (site : SeenSite) (request : RequestParts) (plan : Plan) : Type 0 where
  pub plan_is : plan ≡ plan_for site request
  pub served : IsServedOf site plan.served

-- the item that was read asks this, and this is the plan of its response; a refusal has none
abbrev pub IsPlanOf : SeenSite → Stage → Ask → Option Plan → Type 0
IsPlanOf site (stage.Head reader) ask plan = ⊥
IsPlanOf site (stage.Body request reader) ask plan = ⊥
IsPlanOf site (stage.Whole request) ask None = ⊥
IsPlanOf site (stage.Whole request) ask (Some plan) = IsPlanFor site request plan × (ask ≡ ask_for site request)
IsPlanOf site (stage.Refused code expected) ask None = ask ≡ refusal_ask (record { code = code; expected = expected })
IsPlanOf site (stage.Refused code expected) ask (Some plan) = ⊥

-- what was asked, and the plan
abbrev pub AsksItem : SeenSite → Stage → ReadTurn → Option Plan → Type 0
AsksItem site s (read.Asked ask) plan = IsPlanOf site s ask plan
AsksItem site s read.Interim plan = ⊥
AsksItem site s read.More plan = ⊥
AsksItem site s read.Gone plan = ⊥
AsksItem site s read.LinkFailed plan = ⊥
AsksItem site s read.NoMemory plan = ⊤

-- the answer of a turn, by that of the reader
abbrev pub IsTurnOf : SeenSite → RequestAnswer → Stage → ReadTurn → Option Plan → Type 0
IsTurnOf site given s (read.Asked ask) plan = (given ≡ answer.Item) × IsPlanOf site s ask plan
IsTurnOf site given s read.Interim plan = given ≡ answer.Awaited
IsTurnOf site given s read.More plan = given ≡ answer.More
IsTurnOf site given s read.Gone plan = given ≡ answer.Gone
IsTurnOf site given s read.LinkFailed plan = given ≡ answer.LinkFailed
IsTurnOf site given s read.NoMemory plan = (given ≡ answer.Item) ⊎ ((given ≡ answer.Awaited) ⊎ (given ≡ answer.NoMemory))

-- what is left to send after a turn of reading
abbrev pub unsent_after : ReadTurn → Unsent → Unsent
unsent_after (read.Asked ask) u = u
unsent_after read.Interim u = record { head = continue_text; body = None }
unsent_after read.More u = u
unsent_after read.Gone u = u
unsent_after read.LinkFailed u = u
unsent_after read.NoMemory u = u

-- a turn of reading, in its parts
pub record TakesIn (link link' : LinkSeen) (site : SeenSite) (old new : SeenReader) (u u' : Unsent) (turn : ReadTurn) (plan : Option Plan) : Type 0 where
  pub given : RequestAnswer
  pub reads : ReadsNext link link' old new given
  pub turn_of : IsTurnOf site given new.stage turn plan
  pub unsent_is : u' ≡ unsent_after turn u
  pub reading : IsReading new

-- where the last turn asked, the plan is that of the response
abbrev pub IsPlanned : LastTurn → SeenSite → Stage → Option Plan → Type 0
IsPlanned turn.New site s plan = ⊤
IsPlanned (turn.Asked ask) site s plan = IsPlanOf site s ask plan
IsPlanned turn.Interim site s plan = ⊤
IsPlanned turn.Answered site s plan = ⊤
IsPlanned turn.More site s plan = ⊤
IsPlanned turn.Gone site s plan = ⊤
IsPlanned turn.Done site s plan = ⊤
IsPlanned turn.NotReady site s plan = ⊤
IsPlanned turn.LinkFailed site s plan = ⊤
IsPlanned turn.NoMemory site s plan = ⊤

-- what holds of a connection whose type knows this, of the plan of its next response, and of what is left to send
pub record IsHeld (known : Option KnownOutside) (c : SeenConn) (plan : Option Plan) (u : Unsent) : Type 0 where
  pub conn : IsConn c
  pub planned : IsPlanned c.turn c.site c.reader.stage plan
  pub unsent : IsUnsentOf c.site u
  pub client : IsOfClient known c.told
