-- The calls of a link so far, and one call.
use Rattle.std.specs.Prelude.{◌≡◌, ℕ, ◌+◌, List, [], ◌∷◌, ◌++◌, length, Option, None, option_map}
use Rattle.mpm_base.specs.Link.{LinkCalls}
use Rattle.mpm_base.specs.declared.link.Got.{Got}
use Rattle.mpm_base.specs.declared.link.Sent.{Sent}
use Rattle.conn_state.specs.declared.reader.RequestAnswer.{RequestAnswer}
use Rattle.conn_state.specs.declared.stage.Stage.{Stage}
use Rattle.conn_state.specs.declared.stage.Stage.TheVariants as stage
use Rattle.conn_state.specs.declared.turn.LingerTurn.{LingerTurn}
use Rattle.conn_state.specs.Calls.{OffersAll, with_writes, with_reads, given_by, room_in_head, ReadsPieces, DropsPieces}
use Rattle.conn_state.specs.Sizes.{read_piece}

-- some writes were made so far, where so much was left of a head and of a body, and so much is left now
pub record WritesSoFar (calls calls' : Option LinkCalls) (head body head' body' : ℕ) : Type 0 where
  pub writes : List (ℕ × Sent)
  pub calls_is : calls' ≡ option_map (with_writes writes) calls
  pub goes_on : (more : List (ℕ × Sent)) → OffersAll head' body' more → OffersAll head body (writes ++ more)

-- some reads were made so far, where so many bytes were kept, and so many are kept now with all that came
pub record ReadsSoFar (calls calls' : Option LinkCalls) (kept kept' : ℕ) : Type 0 where
  pub reads : List (ℕ × Got)
  pub calls_is : calls' ≡ option_map (with_reads reads) calls
  pub goes_on : (more : List (ℕ × Got)) → ReadsPieces kept' more → ReadsPieces kept (reads ++ more)

-- some reads were made so far, where so many bytes were dropped, and so many are now
pub record DropsSoFar (calls calls' : Option LinkCalls) (dropped dropped' : ℕ) : Type 0 where
  pub reads : List (ℕ × Got)
  pub calls_is : calls' ≡ option_map (with_reads reads) calls
  pub goes_on : (more : List (ℕ × Got)) → DropsPieces dropped' more → DropsPieces dropped (reads ++ more)

-- for how many bytes a read has room, where these are kept of the next request
abbrev pub room_in : List ℕ → Stage → ℕ
room_in unread (stage.Head reader) = room_in_head (length unread)
room_in unread (stage.Body request reader) = read_piece
room_in unread (stage.Whole request) = read_piece
room_in unread (stage.Refused code expected) = read_piece

-- one read was made, with that room; where it ended no turn these many bytes more are kept
pub record ReadsOnce (calls calls' : Option LinkCalls) (room : ℕ) (kept kept' : ℕ) (ended : Option RequestAnswer) : Type 0 where
  pub answer : Got
  pub calls_is : calls' ≡ option_map (with_reads ((room, answer) ∷ [])) calls
  pub kept_is : ended ≡ None → kept' ≡ kept + given_by answer

-- one read was made, with that room; where it ended no turn these many bytes more were dropped
pub record DropsOnce (calls calls' : Option LinkCalls) (room : ℕ) (dropped dropped' : ℕ) (ended : Option LingerTurn) : Type 0 where
  pub answer : Got
  pub calls_is : calls' ≡ option_map (with_reads ((room, answer) ∷ [])) calls
  pub dropped_is : ended ≡ None → dropped' ≡ dropped + given_by answer
