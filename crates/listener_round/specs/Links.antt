-- What became of the links that a front handed out.
use Rattle.std.specs.Prelude.{◌≡◌, ◌⊎◌, ◌<◌, ◌≤◌, ℕ, List, [], ◌∷◌, length, count_by}
use Rattle.mpm_base.specs.Count.{greatest_count, next_count}
use Rattle.mpm_base.specs.Front.{FrontTold, client_at}
use Rattle.mpm_base.specs.Link.{after_close, fresh_link}
use Rattle.conn_machine.specs.declared.state.State.{State}
use Rattle.conn_state.specs.Answered.{SeenEnded}
use Rattle.board.specs.Ranks.{AllTell, has_rank}
use Rattle.board_book.specs.ClosedDown.{IsBrokenOff}

-- ## Links that no connection took

-- the front handed out as many links as the table took connections, and turned none away
pub record HandsOutTaken (s : State) (t : FrontTold) : Type 0 where
  pub accepted : t.accepted ≡ s.accepted
  pub none : t.turned_away ≡ []

-- the front handed out one link more than the table took connections, and turned that one away as it was, closed once
pub record TurnsOneAway (s : State) (t : FrontTold) : Type 0 where
  pub accepted : t.accepted ≡ next_count s.accepted
  pub one : t.turned_away ≡ after_close (fresh_link s.accepted (client_at t.clients s.accepted)) ∷ []

-- the table took each link that the front handed out; or the server stopped for want of memory, and the last one was turned away
abbrev pub TakesLinks : State → FrontTold → Type 0
TakesLinks s t = HandsOutTaken s t ⊎ (IsBrokenOff s.going × TurnsOneAway s t)

-- ## Links of connections that ended

-- the links of all connections that ended tell; they are, each once, links that the table took, and no other link; and they are as many as
-- the table took
pub record EndsEachOnce (s : State) (ended : List SeenEnded) : Type 0 where
  pub tell : AllTell ended
  pub once : (number : ℕ) → count_by (has_rank number) ended ≤ 1
  pub taken : (number : ℕ) → s.accepted ≤ number → count_by (has_rank number) ended ≡ 0
  pub as_many : length ended ≡ s.accepted

-- the same, while fewer connections were taken than the greatest count
abbrev pub EndsLinks : State → List SeenEnded → Type 0
EndsLinks s ended = s.accepted < greatest_count → EndsEachOnce s ended

-- ## Both

-- what became of the links that the front handed out: the table took each but for one at most, which was turned away, and each that it took
-- is that of one connection that ended
pub record KeepsLinks (s : State) (ends : List SeenEnded) (t : FrontTold) : Type 0 where
  pub taken : TakesLinks s t
  pub ended : EndsLinks s ends
