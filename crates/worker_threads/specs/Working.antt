-- What a worker took from the queue of its child, and what it did with it.
use Rattle.std.specs.Prelude.{◌≡◌, ◌⊎◌, ℕ, List, [], ◌∷◌}
use Rattle.fd_queue.specs.declared.seat.Item.{Item}
use Rattle.fd_queue.specs.declared.seat.Item.TheVariants.{Work, End}
use Rattle.fd_queue.specs.declared.seat.SeatView.{SeatView}
use Rattle.fd_queue.specs.Seats.{TakesItem}
use Rattle.recycle_perch.specs.Looking.{CameBack, WasLaidDown}
use Rattle.board_turns.specs.Carries.{SeenPair}

-- the carrier of that number was offered to the perch: it was laid down there, or came back
abbrev pub WasOffered : ℕ → List (List (ℕ × ℕ)) → List (List (ℕ × ℕ)) → Type 0
WasOffered carrier before after = WasLaidDown carrier before after ⊎ CameBack carrier before after

-- so were the carriers of these numbers, one after the other
abbrev pub WereOffered : List ℕ → List (List (ℕ × ℕ)) → List (List (ℕ × ℕ)) → Type 0
WereOffered [] before after = after ≡ before
WereOffered (carrier ∷ carriers) before after =
    (between : List (List (ℕ × ℕ))) × WasOffered carrier before between × WereOffered carriers between after

-- the carrier of that number was offered to the perch, and then some of those that had come back before were offered once more
pub record WasServed (carrier : ℕ) (before after : List (List (ℕ × ℕ))) : Type 0 where
  pub behind : List (List (ℕ × ℕ))
  pub offered : WasOffered carrier before behind
  pub again : List ℕ
  pub offers : WereOffered again behind after

-- one pair was taken and served, and its carrier offered to the perch
pub record TookPair (pair : SeenPair) (v w : SeatView (Item SeenPair)) (before after : List (List (ℕ × ℕ))) : Type 0 where
  pub takes : TakesItem v (Work pair) w
  pub served : WasServed pair.view.who.number before after

-- these pairs were taken, one after the other, and each of them was served before the next one was taken
abbrev pub TookPairs : List SeenPair → SeatView (Item SeenPair) → SeatView (Item SeenPair) → List (List (ℕ × ℕ)) → List (List (ℕ × ℕ)) → Type 0
TookPairs [] v w before after = (w ≡ v) × (after ≡ before)
TookPairs (pair ∷ pairs) v w before after =
    (u : SeatView (Item SeenPair)) × (between : List (List (ℕ × ℕ)))
    × TookPair pair v u before between × TookPairs pairs u w between after

-- a worker took pairs from its queue, each of which it served, and then an End item, and nothing else
pub record HasWorked (v w : SeatView (Item SeenPair)) (before after : List (List (ℕ × ℕ))) : Type 0 where
  pub pairs : List SeenPair
  pub last : SeatView (Item SeenPair)
  pub took : TookPairs pairs v last before after
  pub ended : TakesItem last End w
