-- A change of one slot changes the map at one name alone.
use Rattle.std.proofs.Common.{◌≡◌, ◌≢◌, ℕ, ◌+◌, Bool, true, false, cond, List, Some, None, nat_eq, refl, sym, ◌∙◌, ap, set, slice_get, option_and_then}
use Rattle.std.proofs.lemmas.Bool.{eqb-true, eqb-false, eq-eqb}
use Rattle.std.proofs.lemmas.Option.{slice_get_within}
use Rattle.mpm_base.specs.declared.conn.ConnName.{ConnName}
use Rattle.conn_slots.specs.Slots.{Slot, item_in, item_of, HasItem, IsNextName, with_item, without_item, UpdatesItem}
use Rattle.conn_slots.proofs.LawLemmas.{slice_get-set_same, slice_get-set_other, live_slot, item_at}

abbrev conn_name : ℕ → ℕ → ConnName
conn_name slot life = record { slot = slot; life = life }

module _ {T : Type 0} where
  -- a slot has no item in another life, and none in any where it is empty
  none_in : (s : Slot T) (life : ℕ) → (s.life ≡ life → s.item ≡ None) → item_in life s ≡ None
  none_in s life empty = on (nat_eq s.life life) refl
    where
      on : (b : Bool) → nat_eq s.life life ≡ b → cond b s.item None ≡ None
      on true e = empty (eqb-true s.life life e)
      on false e = refl

  -- one slot was replaced by another, and neither has an item in a life other than the name's
  others_kept : (slots : List (Slot T)) (name : ConnName) (was is : Slot T) → slice_get slots name.slot ≡ Some was →
      ((life : ℕ) → life ≢ name.life → (item_in life was ≡ None) × (item_in life is ≡ None)) →
      (other : ConnName) → other ≢ name → item_of (set slots name.slot is) other ≡ item_of slots other
  others_kept slots name was is there empty other differ = on (nat_eq other.slot name.slot) refl
    where
      on : (b : Bool) → nat_eq other.slot name.slot ≡ b → item_of (set slots name.slot is) other ≡ item_of slots other
      on false e =
          ap (option_and_then (item_in other.life)) (slice_get-set_other slots name.slot other.slot is (eqb-false other.slot name.slot e))
      on true e =
          let same : other.slot ≡ name.slot = eqb-true other.slot name.slot e in
          let lives : other.life ≢ name.life = λ l. differ (ap (λ n. conn_name n other.life) same ∙ ap (conn_name name.slot) l) in
          let none = empty other.life lives in
          let new = slice_get-set_same slots name.slot is (slice_get_within slots name.slot was there) in
          item_at (set slots name.slot is) other is (rw same new) ∙ none.1
          ∙ sym (item_at slots other was (rw same there) ∙ none.0)

  pub put_updates : (slots : List (Slot T)) (name : ConnName) (x : T) → IsNextName slots name →
      UpdatesItem slots (with_item slots name x) name (Some x)
  put_updates slots name x next =
      let is : Slot T = record { life = name.life; item = Some x } in record {
        changed =
            item_at (with_item slots name x) name is (slice_get-set_same slots name.slot is (slice_get_within slots name.slot _ next))
            ∙ rw (eq-eqb name.life name.life refl) refl;
        others = others_kept slots name _ is next
            (λ life ne. (none_in _ life (λ _. refl), none_in is life (λ e. absurd (ne (sym e)))));
      }

  pub take_updates : (slots : List (Slot T)) (name : ConnName) → HasItem slots name → UpdatesItem slots (without_item slots name) name None
  take_updates slots name live =
      let s = live_slot slots name live in
      let is : Slot T = record { life = name.life + 1; item = None } in record {
        changed =
            item_at (without_item slots name) name is (slice_get-set_same slots name.slot is (slice_get_within slots name.slot _ s.1))
            ∙ none_in is name.life (λ _. refl);
        others = others_kept slots name _ is s.1
            (λ life ne. (none_in _ life (λ e. absurd (ne (sym e))), none_in is life (λ _. refl)));
      }
