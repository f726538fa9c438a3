-- The slots that entries stand for, after a read.
use Rattle.std.proofs.Common.{◌≡◌, ℕ, ◌<◌, nat_lt, ◌&&◌, true, false, List, length, map, Option, Some, None, is_none, is_some, IsSome, get_or, refl, sym, ◌∙◌, ap, slice_get}
use Rattle.std.proofs.lemmas.List.{length-map}
use Rattle.std.proofs.lemmas.Option.{same_Some, slice_get-map, slice_get-get_or, slice_get_within, slice_get_read}
use Rattle.std.proofs.lemmas.Bool.{eq-eqb, ltb-true}
use Rattle.mpm_base.specs.declared.conn.ConnName.{ConnName}
use Rattle.conn_slots.specs.Slots.{Slot, most_lives, is_vacant_slot, HasItem, item_of, name_in}
use Rattle.conn_slots.specs.Layout.{seen_slot}
use Rattle.conn_slots.specs.declared.Entry.{Entry}
use Rattle.conn_slots.proofs.LawLemmas.{live_slot, item_at}

module _ {T : Type 0} where
  -- the slot of an entry that was read
  pub seen_at : (es : List (Entry T)) (i : ℕ) (e : Entry T) → i < length es → e ≡ get_or es i e →
      slice_get (map seen_slot es) i ≡ Some (seen_slot e)
  seen_at es i e h r = slice_get-map seen_slot es i ∙ rw (slice_get-get_or es i e h, ← r)

  -- the entry of a live name
  pub live_entry : (es : List (Entry T)) (name : ConnName) (e : Entry T) → HasItem (map seen_slot es) name → e ≡ get_or es name.slot e →
      (name.slot < length es) × (e.life ≡ name.life) × IsSome e.item
  live_entry es name e live r =
      let s = live_slot (map seen_slot es) name live in
      let within : name.slot < length es = rw (length-map es seen_slot) at (slice_get_within (map seen_slot es) name.slot _ s.1) in
      let same = same_Some (seen_slot e) _ (sym (seen_at es name.slot e within r) ∙ s.1) in
      (within, ap (λ (t : Slot T). t.life) same, ap (λ (t : Slot T). is_some t.item) same)

  pub live_item : (es : List (Entry T)) (name : ConnName) (e : Entry T) → HasItem (map seen_slot es) name → e ≡ get_or es name.slot e →
      item_of (map seen_slot es) name ≡ e.item
  live_item es name e live r =
      let entry = live_entry es name e live r in
      item_at (map seen_slot es) name (seen_slot e) (seen_at es name.slot e entry.0 r) ∙ rw (eq-eqb e.life name.life entry.1) refl

  -- an entry that has an item isn't vacant
  taken : (item : Option T) (life : ℕ) → IsSome item → (is_none item && nat_lt life most_lives) ≡ false
  taken None life some = absurd (cc)
  taken (Some x) life some = refl

  pub item_taken : (e : Entry T) → IsSome e.item → is_vacant_slot (seen_slot e) ≡ false
  item_taken e some = taken e.item e.life some

  -- the entry of a live name is the one that was read
  pub live_read : (es : List (Entry T)) (name : ConnName) (e : Entry T) → HasItem (map seen_slot es) name → e ≡ get_or es name.slot e →
      slice_get es name.slot ≡ Some e
  live_read es name e live r = slice_get_read es (length es) name.slot e refl (live_entry es name e live r).0 r

  -- the name that an entry of a slot is given
  pub name_at : (es : List (Entry T)) (i : ℕ) (e : Entry T) → slice_get es i ≡ Some e →
      name_in (map seen_slot es) i ≡ Some (record { slot = i; life = e.life })
  name_at es i e at = rw (slice_get-map seen_slot es i, at) refl

  -- a vacant entry has no item, and its life is one that a slot has
  vacant_parts : (item : Option T) (life : ℕ) → (is_none item && nat_lt life most_lives) ≡ true → (item ≡ None) × (life < most_lives)
  vacant_parts None life h = (refl, ltb-true life most_lives h)
  vacant_parts (Some x) life h = absurd (cc)

  -- a vacant entry's slot has no item
  pub next_at : (es : List (Entry T)) (i : ℕ) (e : Entry T) → slice_get es i ≡ Some e → is_vacant_slot (seen_slot e) ≡ true →
      slice_get (map seen_slot es) i ≡ Some (record { life = e.life; item = None })
  next_at es i e at vacant = rw (slice_get-map seen_slot es i, at, (vacant_parts e.item e.life vacant).0) refl
