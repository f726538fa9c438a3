-- First in, first out, by places: the place of an item is how many were put before it.
use Rattle.std.specs.Prelude.{◌≡◌, ℕ, zero, suc, ◌<◌, Bool, true, List, [], ◌∷◌, ◌++◌, length, slice_get, Some, ⊤}
use mathlib.Core.Option.{some}
use lib.ListN.{get_elem?}
use Rattle.fd_queue.specs.declared.seat.SeatView.{SeatView}

-- each of the places is below that one
abbrev pub AreBelow : ℕ → List ℕ → Type 0
AreBelow n [] = ⊤
AreBelow n (place ∷ places) = (place < n) × AreBelow n places

module _ {T : Type 0} where
  -- what a seat knows
  abbrev pub seat_view : List T → List ℕ → List ℕ → Bool → SeatView T
  seat_view known put taken alone = record { known = known; put = put; taken = taken; alone = alone }

  -- a seat that knows nothing yet, but whether it is alone
  abbrev pub new_seat : Bool → SeatView T
  new_seat alone = seat_view [] [] [] alone

  -- it is so new
  abbrev pub IsNewSeat : SeatView T → Type 0
  IsNewSeat v = v ≡ new_seat v.alone

  -- the second list begins with the first
  abbrev pub ExtendsItems : List T → List T → Type 0
  ExtendsItems known all = (rest : List T) × (all ≡ known ++ rest)

  -- where these items are gone and those stand in the queue: the seat knows the first of them all; what it took is among
  -- those that are gone, and what it put among all; where it is alone there are no others
  pub record StandsWith (gone items : List T) (v : SeatView T) : Type 0 where
    pub known : ExtendsItems v.known (gone ++ items)
    pub taken : AreBelow (length gone) v.taken
    pub put : AreBelow (length (gone ++ items)) v.put
    pub alone : v.alone ≡ true → (length gone ≡ length v.taken) × (length (gone ++ items) ≡ length v.put)

  -- these items stand in the queue, behind some that are gone
  abbrev pub HaveStood : SeatView T → List T → Type 0
  HaveStood v items = (gone : List T) × StandsWith gone items v

  -- at one moment so many items stood in the queue
  abbrev pub WasHolding : ℕ → SeatView T → Type 0
  WasHolding n v = (items : List T) × (length items ≡ n) × HaveStood v items

  -- the rule: all seats stand with the items of the queue and those that are gone; a seat that is alone is the only one
  pub record InOrder (items : List T) (views : List (SeatView T)) : Type 0 where
    pub gone : List T
    pub seats : (id : ℕ) (v : SeatView T) → get_elem? views id ≡ some v → StandsWith gone items v
    pub one : (id : ℕ) (v : SeatView T) → get_elem? views id ≡ some v → v.alone ≡ true → length views ≡ 1

  -- the item stands at the next place of all that was put
  abbrev pub PutsItem : SeatView T → T → SeatView T → Type 0
  PutsItem v item w =
      (before : List T) × ExtendsItems v.known before × AreBelow (length before) v.put
      × (w ≡ seat_view (before ++ item ∷ []) (v.put ++ length before ∷ []) v.taken v.alone)

  -- the item is the one that was put at a place, which is behind all places that the seat took from before
  abbrev pub TakesItem : SeatView T → T → SeatView T → Type 0
  TakesItem v item w =
      (place : ℕ) × (slice_get w.known place ≡ Some item) × ExtendsItems v.known w.known × AreBelow place v.taken
      × (w ≡ seat_view w.known v.put (v.taken ++ place ∷ []) v.alone)

  -- the item was put so often
  abbrev pub PutsAll : T → ℕ → SeatView T → SeatView T → Type 0
  PutsAll item zero v w = w ≡ v
  PutsAll item (suc n) v w = (between : SeatView T) × PutsAll item n v between × PutsItem between item w
