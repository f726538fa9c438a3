-- What a turn of reading took so far.
use Rattle.std.specs.Prelude.{◌≡◌, ℕ, ◌<◌, ◌≤◌, false, List, [], ◌++◌, take, length, Option, Some, None, option_map, IfSome}
use Rattle.mpm_base.specs.Count.{NeverFalls, RisesWhere, RisesExactlyWhere}
use Rattle.mpm_base.specs.Link.{LinkSeen, with_received}
use Rattle.conn_state.specs.declared.reader.RequestAnswer.{RequestAnswer}
use Rattle.conn_state.specs.declared.reader.RequestAnswer.TheVariants as answer
use Rattle.conn_state.specs.Rest.{is_awaited}
use Rattle.conn_state.specs.Reader.{SeenReader, StandsFor, AwaitsMore, finds_waiting, finds_more, finds_end, finds_failure, AnswerFinds, KeepsAll}
use Rattle.conn_state.specs.Sizes.{read_piece}

-- bytes came so far and were read on, and no client was found that waits
pub record HasCome (link link' : LinkSeen) (old new : SeenReader) : Type 0 where
  pub same_limits : new.limits ≡ old.limits
  pub got : List ℕ
  pub told_is : link'.told ≡ option_map (with_received (length got)) link.told
  pub gives : IfSome link.told (λ t. got ≡ take (length got) t.coming)
  pub stands : (rest : List ℕ) → StandsFor old rest → StandsFor new (rest ++ got)
  pub same_client : is_awaited new.stage ≡ is_awaited old.stage
  pub faults : NeverFalls link.counts.faults link'.counts.faults
  pub late_reads : link'.counts.late_reads ≡ link.counts.late_reads
  pub late_writes : link'.counts.late_writes ≡ link.counts.late_writes
  pub ends : link'.counts.ends ≡ link.counts.ends

-- some bytes came, at most a piece
pub record HasComeSome (link link' : LinkSeen) (old new : SeenReader) : Type 0 where
  pub come : HasCome link link' old new
  pub some : 0 < length come.got
  pub few : length come.got ≤ read_piece
  pub kept : new.unread ≡ old.unread ++ come.got
  pub same_stage : new.stage ≡ old.stage

-- the read ended the turn with an answer, where more had to come
pub record EndsReading (link link' : LinkSeen) (old new : SeenReader) (given : RequestAnswer) : Type 0 where
  pub same_limits : new.limits ≡ old.limits
  pub got : List ℕ
  pub told_is : link'.told ≡ option_map (with_received (length got)) link.told
  pub gives : IfSome link.told (λ t. got ≡ take (length got) t.coming)
  pub none_comes : given ≡ answer.Gone → IfSome link'.told (λ t. t.coming ≡ [])
  pub stands : (rest : List ℕ) → StandsFor old rest → KeepsAll given new (rest ++ got)
  pub finds : (rest : List ℕ) → AwaitsMore old rest → AnswerFinds given new (rest ++ got)
  pub same_client : is_awaited new.stage ≡ is_awaited old.stage
  pub none_waits : finds_waiting given ≡ false
  pub few : length got ≤ read_piece
  pub faults : RisesWhere (finds_failure given) link.counts.faults link'.counts.faults
  pub late_reads : RisesExactlyWhere (finds_more given) link.counts.late_reads link'.counts.late_reads
  pub late_writes : link'.counts.late_writes ≡ link.counts.late_writes
  pub ends : RisesExactlyWhere (finds_end given) link.counts.ends link'.counts.ends

-- one read of the link: bytes came, or the turn ended with an answer
abbrev pub TakesPiece : LinkSeen → LinkSeen → SeenReader → SeenReader → Option RequestAnswer → Type 0
TakesPiece link link' old new None = HasComeSome link link' old new
TakesPiece link link' old new (Some given) = EndsReading link link' old new given
