-- Whose links the connections of a board have, and of which generations they are.
use Rattle.std.proofs.Common.{◌≡◌, ◌⊎◌, inl, inr, ℕ, zero, suc, true, List, [], ◌∷◌, ◌++◌, length, replicate, Option, Some, None, slice_get, slice_set, refl, sym, subst, ◌∙◌, arith}
use Rattle.conn_machine.specs.declared.row.Place.{Place}
use Rattle.conn_machine.specs.declared.row.Place.TheVariants.{Vacant, Spent, Held, Parked, Queued, Working}
use Rattle.conn_machine.specs.declared.row.Row.{Row}
use Rattle.conn_machine.specs.declared.state.State.{State}
use Rattle.conn_machine.specs.Folds.{is_in_use}
use Rattle.conn_machine.specs.Rows.{is_live}
use Rattle.conn_machine.specs.Runs.{after}
use Rattle.conn_machine.specs.Sound.{IsSound}
use Rattle.conn_state.specs.Conn.{SeenConn}
use Rattle.conn_state.specs.Answered.{SeenEnded}
use Rattle.conn_state.specs.Known.{KnownOutside, IsOfClient}
use Rattle.board_book.specs.Book.{SeenBook, folded_book}
use Rattle.board.specs.Board.{AreHome, EndedOfOutside, IsAtHome, IsHeldHere, IsHome, IsOfOutside, WaitOfOutside, conn_at}
use Rattle.board_book.specs.Editions.{KeepsEditions}
use Rattle.board.specs.Editions.{GenerationsKeepTheirEditions, IsOfGeneration}
use Rattle.board.proofs.CarriedLemmas.{generation_carried}

-- a list without connections has none
pub clients_first : (known : Option KnownOutside) (b : SeenBook) (slots : ℕ) → WaitOfOutside known b (replicate slots None)
clients_first known b zero slot c is = absurd (cc)
clients_first known b (suc slots) zero c is = absurd (cc)
clients_first known b (suc slots) (suc slot) c is = clients_first known b slots slot c is

-- what a list has after one item was set is that item or an old one
set-cases : (conns : List (Option SeenConn)) (slot at : ℕ) (new : Option SeenConn) (c : SeenConn) → conn_at (slice_set conns slot new) at ≡ Some c
    → (new ≡ Some c) ⊎ (conn_at conns at ≡ Some c)
set-cases [] slot at new c is = inr is
set-cases (x ∷ conns) zero zero new c is = inl is
set-cases (x ∷ conns) zero (suc at) new c is = inr is
set-cases (x ∷ conns) (suc slot) zero new c is = inr is
set-cases (x ∷ conns) (suc slot) (suc at) new c is = set-cases conns slot at new c is

-- the connection that was put into a slot is of the outside
pub clients_put : (known : Option KnownOutside) (b : SeenBook) (conns : List (Option SeenConn)) (slot : ℕ) (x : SeenConn) → IsOfClient known x.told
    → IsOfGeneration known b x.generation x.reader.limits x.site → WaitOfOutside known b conns → WaitOfOutside known b (slice_set conns slot (Some x))
clients_put known b conns slot x client edition clients at c is =
    elim (set-cases conns slot at (Some x) c is) [
      | inl here ↦
          (let same : x ≡ c = cc here in
          subst (λ (y : SeenConn). IsOfOutside known b y.told y.generation y.reader.limits y.site) same (record { client = client; edition = edition }))
      | inr old ↦ clients at c old
    ]

-- a connection was taken out of a slot
pub clients_taken : (known : Option KnownOutside) (b : SeenBook) (conns : List (Option SeenConn)) (slot : ℕ) → WaitOfOutside known b conns
    → WaitOfOutside known b (slice_set conns slot None)
clients_taken known b conns slot clients at c is =
    elim (set-cases conns slot at None c is) [
      | inl here ↦ absurd (cc here)
      | inr old ↦ clients at c old
    ]

-- they stay of the outside where editions stay
pub clients_stay : (known : Option KnownOutside) (old new : SeenBook) (conns : List (Option SeenConn)) → KeepsEditions old new
    → WaitOfOutside known old conns → WaitOfOutside known new conns
clients_stay known old new conns keeps clients slot c is =
    let was = clients slot c is in
    record { client = was.client; edition = generation_carried known old new c.generation c.reader.limits c.site (keeps c.generation) was.edition }

pub ended_stay : (known : Option KnownOutside) (old new : SeenBook) (ended : List SeenEnded) → KeepsEditions old new → EndedOfOutside known old ended
    → EndedOfOutside known new ended
ended_stay known old new [] keeps clients = tt
ended_stay known old new (e ∷ ended) keeps clients = (
  record { client = clients.0.client; edition = generation_carried known old new e.generation e.limits e.site (keeps e.generation) clients.0.edition },
  ended_stay known old new ended keeps clients.1,
)

-- there is a row for each slot that has a connection
row_there : (rows : List Row) (conns : List (Option SeenConn)) (slot : ℕ) (c : SeenConn) → length conns ≡ length rows → conn_at conns slot ≡ Some c
    → (r : Row) × (slice_get rows slot ≡ Some r)
row_there rows [] slot c long is = absurd (cc)
row_there [] (x ∷ conns) slot c long is = absurd (omega (arith, long))
row_there (r ∷ rows) (x ∷ conns) zero c long is = (r, refl)
row_there (r ∷ rows) (x ∷ conns) (suc slot) c long is = row_there rows conns slot c (omega (arith, long)) is

-- the row of a connection that waits is live
waiting_lives : (r : Row) (c : SeenConn) → IsHeldHere r.place r c → is_live r ≡ true
waiting_lives r c here = by r.place refl here
  where
    by : (place : Place) → r.place ≡ place → IsHeldHere place r c → is_live r ≡ true
    by Vacant is here = absurd here
    by Spent is here = absurd here
    by Held is here = absurd here
    by (Parked kind) is here = rw is refl
    by Queued is here = absurd here
    by (Working cell phase) is here = absurd here

-- the generation of a connection that waits is in use
waiting_used : GenerationsKeepTheirEditions → (s : State) (conns : List (Option SeenConn)) (slot : ℕ) (c : SeenConn) → IsSound s → AreHome s.rows conns
    → conn_at conns slot ≡ Some c → is_in_use s c.generation ≡ true
waiting_used law s conns slot c sound home is =
    let row = row_there s.rows conns slot c home.slots is in
    let at : IsAtHome slot row.0 c = subst (IsHome slot row.0) is (home.homes slot row.0 row.1) in
    subst (λ (g : ℕ). is_in_use s g ≡ true) (sym at.fits.generation) (law.live s slot row.0 sound row.1 (waiting_lives row.0 c at.here))

-- a fold leaves them of the outside
pub clients_folded : GenerationsKeepTheirEditions → (known : Option KnownOutside) (b : SeenBook) (lines : List (List ℕ)) (conns : List (Option SeenConn))
    → IsSound b.state → after b.base b.history ≡ b.state → AreHome b.state.rows conns → WaitOfOutside known b conns
    → WaitOfOutside known (folded_book lines b) conns
clients_folded law known b lines conns sound state_is home clients slot c is =
    let was = clients slot c is in
    let used : is_in_use (after b.base b.history) c.generation ≡ true =
    subst (λ (s : State). is_in_use s c.generation ≡ true) (sym state_is) (waiting_used law b.state conns slot c sound home is) in
    record {
      client = was.client;
      edition = generation_carried known b (folded_book lines b) c.generation c.reader.limits c.site
          (λ number found. law.folds b lines c.generation used ∙ found) was.edition;
    }

-- those of two lists that ended are of the outside
pub ended_clients : (known : Option KnownOutside) (b : SeenBook) (ended others : List SeenEnded) → EndedOfOutside known b ended
    → EndedOfOutside known b others → EndedOfOutside known b (ended ++ others)
ended_clients known b [] others clients more = more
ended_clients known b (e ∷ ended) others clients more = (clients.0, ended_clients known b ended others clients.1 more)

-- a type that knows nothing says nothing of those that ended
pub ended_unknown : (b : SeenBook) (ended : List SeenEnded) → EndedOfOutside None b ended
ended_unknown b [] = tt
ended_unknown b (e ∷ ended) = (record { client = tt; edition = tt }, ended_unknown b ended)
