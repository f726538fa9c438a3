-- What the links of a board tell of the bytes that their clients send. The clients are those of a front, in the order in which
-- they arrive: for each, all that it sends.
use Rattle.std.specs.Prelude.{◌≡◌, ℕ, ◌<◌, List, [], ◌∷◌, length, Some, ⊤}
use Rattle.mpm_base.specs.Front.{client_at}
use Rattle.mpm_base.specs.Link.{LinkTold}
use Rattle.mpm_base.specs.declared.conn.Cause.TheVariants as cause
use Rattle.conn_state.specs.Conn.{IsFrontOf}
use Rattle.conn_state.specs.Answered.{SeenEnded}

-- ## What an ended connection received

-- its link is that of one of the clients, and received a front of what that client sends, and all of it where the client
-- had done
pub record Receives (clients : List (List ℕ)) (e : SeenEnded) : Type 0 where
  pub t : LinkTold
  pub told_is : e.told ≡ Some t
  pub known : t.rank < length clients
  pub front : IsFrontOf (client_at clients t.rank) t.received
  pub whole : e.cause ≡ cause.ClientDone → t.received ≡ client_at clients t.rank

-- so did the link of each
abbrev pub AllReceive : List (List ℕ) → List SeenEnded → Type 0
AllReceive clients [] = ⊤
AllReceive clients (e ∷ ended) = Receives clients e × AllReceive clients ended
