-- The row that a name finds.
use Rattle.std.proofs.Common.{◌≡◌, ℕ, Bool, true, false, List, Option, None, Some, slice_get, refl, sym, ap, ◌∙◌}
use Rattle.std.proofs.lemmas.Bool.{and_parts}
use Rattle.std.proofs.lemmas.Option.{cond_some}
use Rattle.std.specs.Option.{option_map_or}
use Rattle.mpm_base.specs.declared.conn.ConnName.{ConnName}
use Rattle.conn_machine.specs.declared.row.Row.{Row}
use Rattle.conn_machine.specs.declared.state.State.{State}
use Rattle.conn_machine.specs.Lists.{update}
use Rattle.conn_machine.specs.Rows.{is_live, is_live_as, live_row, lives_and, row_where}
use Rattle.conn_machine.specs.Sound.{IsSound, KindFits}

-- ## Tests

-- an item that passes a test
pub passed : {X : Type 0} (test : X → Bool) (o : Option X) → option_map_or test o false ≡ true → (x : X) × (o ≡ Some x) × (test x ≡ true)
passed test None passes = absurd (cc)
passed test (Some x) passes = (x, refl, passes)

-- a live row that passes a test
pub record Lives (test : Row → Bool) (rows : List Row) (name : ConnName) : Type 0 where
  pub row : Row
  pub found : live_row rows name ≡ Some row
  pub passes : test row ≡ true

-- a connection that lives and passes a test has such a row
pub lives : (test : Row → Bool) (rows : List Row) (name : ConnName) → lives_and test rows name ≡ true → Lives test rows name
lives test rows name found =
    let row = passed test (live_row rows name) found in
    record { row = row.0; found = row.1; passes = row.2 }

-- a connection whose row passes a test lives and passes it
pub passes-found : (test : Row → Bool) (rows : List Row) (name : ConnName) (row : Row) → live_row rows name ≡ Some row → test row ≡ true
    → lives_and test rows name ≡ true
passes-found test rows name row found passes = ap (λ (o : Option Row). option_map_or test o false) found ∙ passes

-- ## Where the row stands

where-named : (named : Row → Bool) (o : Option Row) (row : Row) → row_where named o ≡ Some row → (o ≡ Some row) × (named row ≡ true)
where-named named None row is = absurd (cc)
where-named named (Some r) row is =
    let parts = cond_some (named r) r row is in
    (ap Some parts.1, ap named (sym parts.1) ∙ parts.0)

-- it stands in the slot of the name
pub found-at : (rows : List Row) (name : ConnName) (row : Row) → live_row rows name ≡ Some row → slice_get rows name.slot ≡ Some row
found-at rows name row found = (where-named (is_live_as name) (slice_get rows name.slot) row found).0

-- it lives, with the life of the name
pub found-named : (rows : List Row) (name : ConnName) (row : Row) → live_row rows name ≡ Some row → (is_live row ≡ true) × (is_live_as name row ≡ true)
found-named rows name row found =
    let named = (where-named (is_live_as name) (slice_get rows name.slot) row found).1 in
    ((and_parts (is_live row) _ named).0, named)

-- what it waits for fits its place
pub found-fits : (s : State) (name : ConnName) (row : Row) → IsSound s → live_row s.rows name ≡ Some row → KindFits row.place row
found-fits s name row sound found =
    sound.kinds name.slot row (found-at s.rows name row found) (found-named s.rows name row found).0

-- ## A changed row

-- the law of the machine: a changed row stands where it stood
abbrev pub ChangesInPlace : Type 0
ChangesInPlace =
    (rows : List Row) (slot : ℕ) (r : Row) (change : Row → Row) → slice_get rows slot ≡ Some r
    → slice_get (update rows slot change) slot ≡ Some (change r)

-- so its name finds it there
pub found-changed : ChangesInPlace → (rows : List Row) (name : ConnName) (r : Row) (change : Row → Row) → slice_get rows name.slot ≡ Some r
    → is_live_as name (change r) ≡ true → live_row (update rows name.slot change) name ≡ Some (change r)
found-changed law rows name r change at named = ap (row_where (is_live_as name)) (law rows name.slot r change at) ∙ rw named refl
