-- What a look for a name finds, and that nothing changes where it has no item.
use Rattle.std.proofs.Common.{◌≡◌, ◌≢◌, ℕ, ◌+◌, ◌<◌, ◌≤◌, Bool, false, cond, List, length, map, Option, Some, None, All, is_some, nat_eq, get_or, refl, sym, ◌∙◌, ap, subst, slice_get, option_map, option_and_then, Fits, w32, arith}
use Rattle.std.proofs.lemmas.Bool.{eq-eqb, ne_eqb}
use Rattle.std.proofs.lemmas.List.{length-map}
use Rattle.std.proofs.lemmas.List.Elements.{All-get_or}
use Rattle.std.proofs.lemmas.Option.{slice_get-map, slice_get_within, slice_get_past, slice_get_read}
use Rattle.mpm_base.specs.declared.conn.ConnName.{ConnName}
use Rattle.conn_slots.specs.Slots.{Slot, item_in, item_of, HasItem, UpdatesItem}
use Rattle.conn_slots.specs.Layout.{seen_slot}
use Rattle.conn_slots.specs.TableInside.{IsWithinLives, IsTable}
use Rattle.conn_slots.specs.declared.Entry.{Entry}
use Rattle.conn_slots.proofs.LawLemmas.{live_slot, item_at}
use Rattle.conn_slots.proofs.VacantLemmas.{head_entry, free_few}

module _ {T : Type 0} where
  -- the slot of a live name is one of the table's
  pub live_within : (es : List (Entry T)) (name : ConnName) → HasItem (map seen_slot es) name → name.slot < length es
  live_within es name live =
      let s = live_slot (map seen_slot es) name live in
      rw (length-map es seen_slot) at (slice_get_within (map seen_slot es) name.slot _ s.1)

  -- an entry that was read is within its lives
  pub lives_at : (es : List (Entry T)) (i : ℕ) (e : Entry T) → All IsWithinLives es → i < length es → e ≡ get_or es i e → IsWithinLives e
  lives_at es i e all within read = subst (IsWithinLives {T = T}) (sym read) (All-get_or (IsWithinLives {T = T}) es i e within all)

  -- what is read of a list that equals the entries is one of them
  pub entry_there : (es xs : List (Entry T)) (i : ℕ) (e : Entry T) → xs ≡ es → i < length xs → e ≡ get_or xs i e → slice_get es i ≡ Some e
  entry_there es xs i e same within read =
      ap (λ (ys : List (Entry T)). slice_get ys i) (sym same) ∙ slice_get_read xs (length xs) i e refl within read

  -- the item of a name, by the entry of its slot
  found : (es : List (Entry T)) (name : ConnName) (e : Entry T) → slice_get es name.slot ≡ Some e →
      item_of (map seen_slot es) name ≡ item_in name.life (seen_slot e)
  found es name e at = item_at (map seen_slot es) name (seen_slot e) (slice_get-map seen_slot es name.slot ∙ rw at refl)

  -- in its own life a slot has the item of its entry
  pub found_same : (es : List (Entry T)) (name : ConnName) (e : Entry T) (life : ℕ) → slice_get es name.slot ≡ Some e →
      life ≡ name.life → e.life ≡ life → is_some e.item ≡ is_some (item_of (map seen_slot es) name)
  found_same es name e life at is same =
      ap is_some (sym (found es name e at ∙ ap (λ (b : Bool). cond b e.item None) (eq-eqb e.life name.life (same ∙ is))))

  -- and none in any other
  pub found_other : (es : List (Entry T)) (name : ConnName) (e : Entry T) (life : ℕ) → slice_get es name.slot ≡ Some e →
      life ≡ name.life → e.life ≢ life → nat_eq e.life life ≡ is_some (item_of (map seen_slot es) name)
  found_other es name e life at is differ =
      let no : nat_eq e.life name.life ≡ false = ne_eqb e.life name.life (λ same. differ (same ∙ sym is)) in
      ne_eqb e.life life differ ∙ ap is_some (sym (found es name e at ∙ ap (λ (b : Bool). cond b e.item None) no))

  -- a name whose slot is past the last has none
  pub none_past : (es xs : List (Entry T)) (name : ConnName) → xs ≡ es → length xs ≤ name.slot → false ≡ is_some (item_of (map seen_slot es) name)
  none_past es xs name same past =
      let none : slice_get es name.slot ≡ None = ap (λ (ys : List (Entry T)). slice_get ys name.slot) (sym same) ∙ slice_get_past xs name.slot past in
      ap (λ (o : Option (Entry T)). is_some (option_and_then (item_in name.life) (option_map seen_slot o))) (sym none)
      ∙ ap (λ (o : Option (Slot T)). is_some (option_and_then (item_in name.life) o)) (sym (slice_get-map seen_slot es name.slot))

  none_of : (o : Option T) → is_some o ≡ false → o ≡ None
  none_of None e = refl
  none_of (Some x) e = absurd (cc)

  -- a name that isn't live has no item
  pub dead_item : (slots : List (Slot T)) (name : ConnName) → is_some (item_of slots name) ≡ false → item_of slots name ≡ None
  dead_item slots name dead = none_of (item_of slots name) dead

  -- so the map stays where nothing is taken
  pub dead_updates : (slots : List (Slot T)) (name : ConnName) → is_some (item_of slots name) ≡ false → UpdatesItem slots slots name None
  dead_updates slots name dead = record { changed = dead_item slots name dead; others = λ other differ. refl }

  -- the head of the list of vacant entries is one of the entries, and there is one at least
  pub head_within : (es : List (Entry T)) (i free : ℕ) → IsTable es (Some i) free → i < length es
  head_within es i free t = let head = head_entry es i free t in slice_get_within es i head.0 head.1

  pub head_counts : (es : List (Entry T)) (i free : ℕ) → IsTable es (Some i) free → 1 ≤ free
  head_counts es i free t = omega (arith, (head_entry es i free t).3)

  -- one more than the vacant entries fits their count
  pub free_fits : (es : List (Entry T)) (head : Option ℕ) (free : ℕ) → IsTable es head free → Fits w32 (free + 1)
  free_fits es head free t = omega (arith, free_few es head free t)
