-- The row of a slot or of a name whose test passed, and what a sound state says of a row.
use Rattle.std.proofs.Common.{◌≡◌, ◌≤◌, ℕ, Bool, true, false, ◌&&◌, cond, List, Option, None, Some, slice_get, refl, subst}
use Rattle.std.proofs.lemmas.Bool.{and_parts}
use Rattle.std.specs.Option.{option_map_or}
use Rattle.mpm_base.specs.declared.conn.ConnName.{ConnName}
use Rattle.mpm_base.specs.declared.conn.Kind.{Kind}
use Rattle.conn_machine.specs.declared.row.Phase.{Phase}
use Rattle.conn_machine.specs.declared.row.Place.{Place}
use Rattle.conn_machine.specs.declared.row.Place.TheVariants.{Vacant, Spent, Held, Parked, Queued, Working}
use Rattle.conn_machine.specs.declared.row.Row.{Row}
use Rattle.conn_machine.specs.declared.state.State.{State}
use Rattle.conn_machine.specs.Rows.{is_live, is_held, is_parked, is_queued, is_working, is_lingering, is_live_as, row_where, row_passes, lives_and}
use Rattle.conn_machine.specs.States.{child_of}
use Rattle.mpm_base.specs.Moment.{greatest_moment}
use Rattle.conn_machine.specs.Sound.{IsOfChild, CellIsBelow, KindFits, RequestFits, IsInService, IsHeldWell, is_from_linger, HasSoundNotes, IsSound}

-- ## The row that was meant

-- the slot has a row, which passes the test
pub record HasRow (test : Row → Bool) (rows : List Row) (slot : ℕ) : Type 0 where
  pub row : Row
  pub found : slice_get rows slot ≡ Some row
  pub passes : test row ≡ true

-- the slot has a live row, which passes the test
pub record HasLiveRow (test : Row → Bool) (rows : List Row) (slot : ℕ) : Type 0 where
  pub row : Row
  pub found : slice_get rows slot ≡ Some row
  pub live : is_live row ≡ true
  pub passes : test row ≡ true

-- what was read there, where it passes, is that row
has_row : (test : Row → Bool) (rows : List Row) (slot : ℕ) (o : Option Row) → slice_get rows slot ≡ o
    → option_map_or test o false ≡ true → HasRow test rows slot
has_row test rows slot None is passes = absurd (cc)
has_row test rows slot (Some r) is passes = record { row = r; found = is; passes = passes }

-- a slot whose test passes has a row
pub row_of_slot : (test : Row → Bool) (rows : List Row) (slot : ℕ) → row_passes test rows slot ≡ true → HasRow test rows slot
row_of_slot test rows slot passes = has_row test rows slot (slice_get rows slot) refl passes

-- a row whose life is the name's is live
named_row : (test : Row → Bool) (rows : List Row) (name : ConnName) (r : Row) (b : Bool) → slice_get rows name.slot ≡ Some r
    → is_live_as name r ≡ b → option_map_or test (cond b (Some r) None) false ≡ true → HasLiveRow test rows name.slot
named_row test rows name r true is named passes =
    record { row = r; found = is; live = (and_parts (is_live r) _ named).0; passes = passes }
named_row test rows name r false is named passes = absurd (cc)

-- what was read there, where the name is its own and it passes, is that live row
has_live_row : (test : Row → Bool) (rows : List Row) (name : ConnName) (o : Option Row) → slice_get rows name.slot ≡ o
    → option_map_or test (row_where (is_live_as name) o) false ≡ true → HasLiveRow test rows name.slot
has_live_row test rows name None is passes = absurd (cc)
has_live_row test rows name (Some r) is passes = named_row test rows name r (is_live_as name r) is refl passes

-- a connection that lives has a live row
pub row_of_name : (test : Row → Bool) (rows : List Row) (name : ConnName) → lives_and test rows name ≡ true
    → HasLiveRow test rows name.slot
row_of_name test rows name passes = has_live_row test rows name (slice_get rows name.slot) refl passes

-- ## What a sound state says of a row

-- a live row of a sound state
pub record IsSoundRow (s : State) (r : Row) : Type 0 where
  pub owner : IsOfChild s r
  pub below : CellIsBelow (child_of s r).shape.threads r.place
  pub kind : KindFits r.place r
  pub request : RequestFits r.place r
  pub notes : HasSoundNotes (child_of s r).shape.most r
  pub deadline : r.deadline ≤ greatest_moment

-- each live row of a sound state is sound
pub sound_row : (s : State) (slot : ℕ) (r : Row) → IsSound s → slice_get s.rows slot ≡ Some r → is_live r ≡ true → IsSoundRow s r
sound_row s slot r sound found live =
    record {
      owner = sound.owners slot r found live;
      below = sound.cells.below slot r found live;
      kind = sound.kinds slot r found live;
      request = sound.requests slot r found live;
      notes = sound.notes slot r found live;
      deadline = sound.numbers.deadlines slot r found;
    }

-- ## Places

-- the row waits for this
pub record IsParkedFor (p : Place) : Type 0 where
  pub kind : Kind
  pub place : p ≡ Parked kind

-- a row that waits waits for something
pub parked_for : (p : Place) → is_parked p ≡ true → IsParkedFor p
parked_for Vacant is = absurd (cc)
parked_for Spent is = absurd (cc)
parked_for Held is = absurd (cc)
parked_for (Parked kind) is = record { kind = kind; place = refl }
parked_for Queued is = absurd (cc)
parked_for (Working cell phase) is = absurd (cc)

-- the worker of this cell serves the row, in this phase
pub record IsServed (p : Place) : Type 0 where
  pub cell : ℕ
  pub phase : Phase
  pub place : p ≡ Working cell phase

-- a row that is served is served in a cell
pub served_by : (p : Place) → is_working p ≡ true → IsServed p
served_by Vacant is = absurd (cc)
served_by Spent is = absurd (cc)
served_by Held is = absurd (cc)
served_by (Parked kind) is = absurd (cc)
served_by Queued is = absurd (cc)
served_by (Working cell phase) is = record { cell = cell; phase = phase; place = refl }

-- a row that the listener holds is in that place
pub held : (p : Place) → is_held p ≡ true → p ≡ Held
held Vacant is = absurd (cc)
held Spent is = absurd (cc)
held Held is = refl
held (Parked kind) is = absurd (cc)
held Queued is = absurd (cc)
held (Working cell phase) is = absurd (cc)

-- a row that waits for a worker is in that place
pub queued : (p : Place) → is_queued p ≡ true → p ≡ Queued
queued Vacant is = absurd (cc)
queued Spent is = absurd (cc)
queued Held is = absurd (cc)
queued (Parked kind) is = absurd (cc)
queued Queued is = refl
queued (Working cell phase) is = absurd (cc)

-- a row that the listener has lingers exactly where it waited for a kind of lingering
pub held_kind : (s : State) (r : Row) → is_held r.place ≡ true → IsSoundRow s r → is_from_linger r ≡ is_lingering r
held_kind s r is sound = subst (λ place. KindFits place r) (held r.place is) sound.kind

-- and it has room for a response where it waited for a request
pub held_well : (s : State) (r : Row) → is_held r.place ≡ true → IsSoundRow s r → IsHeldWell r
held_well s r is sound = subst (λ place. RequestFits place r) (held r.place is) sound.request

-- a row that is served is in service
pub in_service : (s : State) (r : Row) (p : IsServed r.place) → IsSoundRow s r → IsInService r
in_service s r p sound = subst (λ place. KindFits place r) p.place sound.kind

-- ## Tests

-- what needs a false test doesn't hold
pub never : (b : Bool) → (b && false) ≡ true → ⊥
never true is = absurd (cc)
never false is = absurd (cc)

-- nor does what needs a row that isn't there
pub never_there : (own stays : Bool) → (own && false && stays) ≡ true → ⊥
never_there true stays is = absurd (cc)
never_there false stays is = absurd (cc)

-- an open row that stays live was open
pub still_open : (own live stays : Bool) → live ≡ true → (own && true && stays) ≡ true → (own && live && stays) ≡ true
still_open own true stays is all = all
still_open own false stays is all = absurd (cc)
