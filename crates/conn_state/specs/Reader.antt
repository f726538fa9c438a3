-- A reader of the requests that come over a link: what it keeps, and what a turn of reading takes and finds.
use Rattle.std.specs.Prelude.{◌≡◌, ◌==◌, ◌⊎◌, ℕ, ◌≤◌, Bool, true, false, ◌&&◌, ◌||◌, List, [], ◌++◌, take, length, Option, Some, None, option_map, is_some, IfSome, ⊤}
use Rattle.std.proofs.Common.{inl, inr}
use Rattle.mpm_base.specs.Count.{RisesWhere, RisesExactlyWhere}
use Rattle.mpm_base.specs.Link.{LinkSeen, with_received}
use Rattle.mpm_base.specs.declared.conn.Ask.{Ask}
use Rattle.http_read.specs.declared.request.Limits.{Limits}
use Rattle.file_table.specs.Site.{SeenSite}
use Rattle.conn_state.specs.declared.stage.Stage.{Stage}
use Rattle.conn_state.specs.declared.stage.Stage.TheVariants as stage
use Rattle.conn_state.specs.declared.reader.RequestAnswer.{RequestAnswer}
use Rattle.conn_state.specs.declared.reader.RequestAnswer.TheVariants as answer
use Rattle.conn_state.specs.Items.{Item, BeginsItem}
use Rattle.conn_state.specs.Replies.{Expects, IsAskedIn}
use Rattle.conn_state.specs.Rest.{StandsAs, is_awaited, is_in_head}
use Rattle.conn_state.specs.Steps.{WaitsIn, IsShortIn}
use Rattle.conn_state.specs.Sizes.{read_piece}

-- what is seen of a reader: its limits, the bytes that it keeps, and how far the next request was read
pub record SeenReader : Type 0 where
  pub limits : Limits
  pub unread : List ℕ
  pub stage : Stage

-- what the reader keeps stands for the rest: the bytes behind the answered requests
abbrev pub StandsFor : SeenReader → List ℕ → Type 0
StandsFor r rest = StandsAs r.limits r.unread r.stage rest

-- what the reader keeps stands for some bytes
abbrev pub IsReading : SeenReader → Type 0
IsReading r = (rest : List ℕ) × StandsFor r rest

-- the reader keeps no byte, and no head is accepted
abbrev pub keeps_none : SeenReader → Bool
keeps_none r = is_in_head r.stage && (length r.unread == 0)

-- the item that was read
abbrev pub item_kept : Stage → Option Item
item_kept (stage.Head reader) = None
item_kept (stage.Body request reader) = None
item_kept (stage.Whole request) = Some (inl request)
item_kept (stage.Refused code expected) = Some (inr (record { code = code; expected = expected }))

-- the item that was read is the next one of the bytes, and asks this
pub record AsksKeptItem (site : SeenSite) (limits : Limits) (s : Stage) (rest : List ℕ) (ask : Ask) : Type 0 where
  pub asked : IsAskedIn site limits rest ask
  pub kept : item_kept s ≡ Some asked.item

-- more of the next request has to come, all that is there was read, and few bytes are kept
pub record AwaitsMore (r : SeenReader) (rest : List ℕ) : Type 0 where
  pub waits : WaitsIn r.limits r.unread r.stage rest
  pub short : IsShortIn r.unread r.stage

-- an item stands at the front of the bytes, or a head whose client waits to be told to send the body and wasn't found so far
abbrev pub IsAnswerable : SeenReader → List ℕ → Type 0
IsAnswerable r rest = ((item : Item) × (size : ℕ) × BeginsItem r.limits rest item size) ⊎ (Expects r.limits rest × (is_awaited r.stage ≡ false))

-- the reader goes on behind a whole request: the bytes that it keeps are the rest, whose head isn't accepted yet
pub record LeavesRequest (old new : SeenReader) : Type 0 where
  pub same_limits : new.limits ≡ old.limits
  pub same_unread : new.unread ≡ old.unread
  pub in_head : is_in_head new.stage ≡ true
  pub stands : StandsFor new new.unread

-- ## What a turn of reading answers

-- the turn found that a client waits to be told to send the body
abbrev pub finds_waiting : RequestAnswer → Bool
finds_waiting answer.Item = false
finds_waiting answer.Awaited = true
finds_waiting answer.More = false
finds_waiting answer.Gone = false
finds_waiting answer.LinkFailed = false
finds_waiting answer.NoMemory = false

-- the turn found that more has to come
abbrev pub finds_more : RequestAnswer → Bool
finds_more answer.Item = false
finds_more answer.Awaited = false
finds_more answer.More = true
finds_more answer.Gone = false
finds_more answer.LinkFailed = false
finds_more answer.NoMemory = false

-- the turn found that the client sends no more
abbrev pub finds_end : RequestAnswer → Bool
finds_end answer.Item = false
finds_end answer.Awaited = false
finds_end answer.More = false
finds_end answer.Gone = true
finds_end answer.LinkFailed = false
finds_end answer.NoMemory = false

-- a read of the turn failed
abbrev pub finds_failure : RequestAnswer → Bool
finds_failure answer.Item = false
finds_failure answer.Awaited = false
finds_failure answer.More = false
finds_failure answer.Gone = false
finds_failure answer.LinkFailed = true
finds_failure answer.NoMemory = false

-- what the turn found: the next item, an accepted head whose client waits, or that more has to come
abbrev pub AnswerFinds : RequestAnswer → SeenReader → List ℕ → Type 0
AnswerFinds answer.Item r rest = is_some (item_kept r.stage) ≡ true
AnswerFinds answer.Awaited r rest = is_awaited r.stage ≡ true
AnswerFinds answer.More r rest = AwaitsMore r rest
AnswerFinds answer.Gone r rest = AwaitsMore r rest
AnswerFinds answer.LinkFailed r rest = AwaitsMore r rest
AnswerFinds answer.NoMemory r rest = ⊤

-- what is kept stands for all that came, unless memory lacked
abbrev pub KeepsAll : RequestAnswer → SeenReader → List ℕ → Type 0
KeepsAll answer.Item r rest = StandsFor r rest
KeepsAll answer.Awaited r rest = StandsFor r rest
KeepsAll answer.More r rest = StandsFor r rest
KeepsAll answer.Gone r rest = StandsFor r rest
KeepsAll answer.LinkFailed r rest = StandsFor r rest
KeepsAll answer.NoMemory r rest = ⊤

-- the last of the bytes that came, at most a piece, came where nothing that was there before them could be answered
pub record ComesLast (old : SeenReader) (rest got : List ℕ) : Type 0 where
  pub before : List ℕ
  pub last : List ℕ
  pub got_is : got ≡ before ++ last
  pub few : length last ≤ read_piece
  pub none_there : ¬ (IsAnswerable old (rest ++ before))

-- the link was asked only where nothing that was there could be answered: no byte came, or the last ones came so
abbrev pub AsksInNeed : SeenReader → List ℕ → List ℕ → Type 0
AsksInNeed old rest got = (got ≡ []) ⊎ ComesLast old rest got

-- a turn of reading took what the link gave behind the bytes for which the reader stood, and ended with the answer
pub record ReadsNext (link link' : LinkSeen) (old new : SeenReader) (given : RequestAnswer) : Type 0 where
  pub same_limits : new.limits ≡ old.limits
  pub got : List ℕ
  pub told_is : link'.told ≡ option_map (with_received (length got)) link.told
  pub gives : IfSome link.told (λ t. got ≡ take (length got) t.coming)
  pub none_comes : given ≡ answer.Gone → IfSome link'.told (λ t. t.coming ≡ [])
  pub asks : (rest : List ℕ) → StandsFor old rest → AsksInNeed old rest got
  pub stands : (rest : List ℕ) → StandsFor old rest → KeepsAll given new (rest ++ got)
  pub finds : (rest : List ℕ) → StandsFor old rest → AnswerFinds given new (rest ++ got)
  pub told_once : is_awaited new.stage ≡ (is_awaited old.stage || finds_waiting given)
  pub not_twice : finds_waiting given ≡ true → is_awaited old.stage ≡ false
  pub faults : RisesWhere (finds_failure given) link.counts.faults link'.counts.faults
  pub late_reads : RisesExactlyWhere (finds_more given) link.counts.late_reads link'.counts.late_reads
  pub late_writes : link'.counts.late_writes ≡ link.counts.late_writes
  pub ends : RisesExactlyWhere (finds_end given) link.counts.ends link'.counts.ends
