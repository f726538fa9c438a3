-- What a map and places find once a file was set or removed.
use Rattle.std.proofs.Common.{◌≡◌, ℕ, zero, suc, ◌<◌, ◌≤◌, ◌⊎◌, inl, inr, Bool, true, false, ◌&&◌, List, [], ◌∷◌, ◌++◌, length, Option, None, Some, get_or, set, bytes_eq, IsUtf8, refl, sym, ap, subst, ◌∙◌, arith}
use Rattle.std.specs.Option.{is_some, IfSome}
use Rattle.std.specs.Global.{Vec}
use Rattle.std.specs.HashMap as hash
use Rattle.std.specs.HashMap.{HashMap}
use Rattle.std.specs.Map.{lookup, AreApart, IsKeyTest, KeepsOthers}
use Rattle.std.proofs.lemmas.Cmp.{nat_list_eq_equiv}
use Rattle.std.proofs.lemmas.List.{get_or_default}
use Rattle.std.proofs.lemmas.List.Elements.{All-get_or, All-push, All-set}
use Rattle.std.proofs.lemmas.Slice.Eq.{bytes_eq-Decides}
use Rattle.mpm_base.specs.declared.store.Content.{Content}
use Rattle.stand_ins.specs.declared.slot.Slot.{Slot}
use Rattle.stand_ins.specs.FilesInside.{AreFound, FindsSlots, HasNone, IsOnlyAt, gone, has_name, slot_at}

false_if : (b : Bool) → (b ≡ true → ⊥) → b ≡ false
false_if true never = absurd (never refl)
false_if false never = refl

not_both : (b : Bool) → b ≡ true → b ≡ false → ⊥
not_both b one other = let both : true ≡ false = sym one ∙ other in cc both

second : (a b : Bool) → (a && b) ≡ true → b ≡ true
second true b h = h
second false b h = absurd (cc h)

-- ## A file that is looked for

-- the map has no place, or one at which there is none of that name
pub none-found : {S : Type 0} (places : HashMap (Vec ℕ) ℕ S) (slots : List Slot) (name : List ℕ) (found : Option ℕ)
    → FindsSlots places slots → found ≡ hash.get_by (λ key. bytes_eq name key.items) places → IfSome found (λ i. has_name name (slot_at slots i) ≡ false)
    → HasNone name slots
none-found places slots name found finds is not k = false_if (has_name name (slot_at slots k)) (go found is not)
  where
    go : (found : Option ℕ) → found ≡ hash.get_by (λ key. bytes_eq name key.items) places → IfSome found (λ i. has_name name (slot_at slots i) ≡ false)
        → has_name name (slot_at slots k) ≡ true → ⊥
    go None is not has = let no : None ≡ Some k = is ∙ finds name k has in cc no
    go (Some i) is not has =
        let same : i ≡ k = (let e : Some i ≡ Some k = is ∙ finds name k has in cc e) in
        not_both (has_name name (slot_at slots k)) has (subst (λ j. has_name name (slot_at slots j) ≡ false) same not)

pub only-found : {S : Type 0} (places : HashMap (Vec ℕ) ℕ S) (slots : List Slot) (name : List ℕ) (i : ℕ) (slot : Slot)
    → FindsSlots places slots → Some i ≡ hash.get_by (λ key. bytes_eq name key.items) places → i < length slots → slot ≡ get_or slots i slot → has_name name slot ≡ true
    → IsOnlyAt name i slots
only-found places slots name i slot finds is within at has = record {
  within = within;
  named = ap (has_name name) (get_or_default slots i gone slot within ∙ sym at) ∙ has;
  others = λ k off. false_if (has_name name (slot_at slots k)) (λ other. off (let e : Some k ≡ Some i = sym (finds name k other) ∙ sym is in cc e));
}

-- past the end there is none
pub gone-past : (slots : List Slot) (i : ℕ) → length slots ≤ i → slot_at slots i ≡ gone
gone-past [] i past = refl
gone-past (slot ∷ slots) zero past = absurd (omega arith)
gone-past (slot ∷ slots) (suc i) past = gone-past slots i (omega arith)

-- ## A file that changes in its place

-- a place that changes has only names that it had
set-names : (P : Slot → Type 0) (slots : List Slot) (i : ℕ) (slot : Slot) → (P slot → P (slot_at slots i)) → (k : ℕ) → P (slot_at (set slots i slot) k) → P (slot_at slots k)
set-names P [] i slot kept k h = h
set-names P (first ∷ slots) zero slot kept zero h = kept h
set-names P (first ∷ slots) zero slot kept (suc k) h = h
set-names P (first ∷ slots) (suc i) slot kept zero h = h
set-names P (first ∷ slots) (suc i) slot kept (suc k) h = set-names P slots i slot kept k h

pub found-set : {S : Type 0} (places : HashMap (Vec ℕ) ℕ S) (slots : List Slot) (i : ℕ) (slot slot' : Slot) → AreFound places slots → i < length slots → slot ≡ get_or slots i slot
    → slot'.name ≡ slot.name → ((name : List ℕ) → has_name name slot' ≡ true → has_name name slot ≡ true) → AreFound places (set slots i slot')
found-set places slots i slot slot' all within is same kept =
    let at : slot_at slots i ≡ slot = get_or_default slots i gone slot within ∙ sym is in
    let P : Slot → Type 0 = λ s. IsUtf8 s.name in
    record {
      found = λ name k has.
          all.found name k (set-names (λ s. has_name name s ≡ true) slots i slot' (λ h. ap (has_name name) at ∙ kept name h) k has);
      texts = All-set P slots i slot' (subst IsUtf8 (sym same) (subst P (sym is) (All-get_or P slots i slot within all.texts))) all.texts;
    }

-- where a file is, what it has may change, or go
pub kept-set : (slot : Slot) (content : Content) → is_some slot.content ≡ true → (name : List ℕ) → has_name name (record slot { content = Some content }) ≡ true → has_name name slot ≡ true
kept-set slot content some name has = rw some has

pub kept-gone : (slot : Slot) (name : List ℕ) → has_name name (record slot { content = None }) ≡ true → has_name name slot ≡ true
kept-gone slot name has = absurd (cc has)

-- ## A file that is put at the end

last-names : (P : Slot → Type 0) (slots : List Slot) (slot : Slot) (k : ℕ) → P (slot_at (slots ++ slot ∷ []) k) → ((k ≡ length slots) × P slot) ⊎ P (slot_at slots k)
last-names P [] slot zero h = inl (refl, h)
last-names P [] slot (suc k) h = inr h
last-names P (first ∷ slots) slot zero h = inr h
last-names P (first ∷ slots) slot (suc k) h =
    elim (last-names P slots slot k h) [ inl both ↦ inl (ap suc both.0, both.1) | inr old ↦ inr old ]

apart : (name other key : List ℕ) → bytes_eq name other ≡ false → bytes_eq name key ≡ true → bytes_eq other key ≡ false
apart name other key n y = nat_list_eq_equiv.symm other key ∙ sym (nat_list_eq_equiv.congr name key other y) ∙ n

others-kept : {K X : Type 0} (eq : K → K → Bool) (test : K → Bool) (old new : List (K × X)) → KeepsOthers eq test old new → (other : K → Bool) → IsKeyTest eq other
    → AreApart test other → lookup other new ≡ lookup other old
unfolding KeepsOthers
others-kept eq test old new h = h

finds-last : {S : Type 0} (old new : HashMap (Vec ℕ) ℕ S) (slots : List Slot) (slot : Slot)
    → FindsSlots old slots → HasNone slot.name slots
    → hash.UpdatesBy (λ (x y : Vec ℕ). bytes_eq x.items y.items) (λ (key : Vec ℕ). bytes_eq slot.name key.items) old new (Some (length slots))
    → FindsSlots new (slots ++ slot ∷ [])
finds-last old new slots slot finds none updates name k has = go (bytes_eq slot.name name) refl (last-names (λ s. has_name name s ≡ true) slots slot k has)
  where
    go : (same : Bool) → bytes_eq slot.name name ≡ same → ((k ≡ length slots) × (has_name name slot ≡ true)) ⊎ (has_name name (slot_at slots k) ≡ true)
        → hash.get_by (λ key. bytes_eq name key.items) new ≡ Some k
    go true is (inl both) =
        let one : slot.name ≡ name = (bytes_eq-Decides slot.name name).0 is in
        subst (λ n. hash.get_by (λ key. bytes_eq n key.items) new ≡ Some k) one (updates.1 ∙ ap Some (sym both.0))
    go true is (inr old-has) =
        let one : slot.name ≡ name = (bytes_eq-Decides slot.name name).0 is in
        absurd (not_both (has_name name (slot_at slots k)) old-has (subst (λ n. has_name n (slot_at slots k) ≡ false) one (none k)))
    go false is (inl both) = absurd (not_both (bytes_eq slot.name name) (second (is_some slot.content) (bytes_eq slot.name name) both.1) is)
    go false is (inr old-has) =
        others-kept _ _ _ _ updates.3 (λ key. bytes_eq name key.items) (λ x y. nat_list_eq_equiv.congr name x.items y.items) (λ key. apart slot.name name key.items is)
        ∙ finds name k old-has

pub found-last : {S : Type 0} (old new : HashMap (Vec ℕ) ℕ S) (slots : List Slot) (slot : Slot) (key : Vec ℕ) (n : ℕ)
    → key.items ≡ slot.name → IsUtf8 slot.name → n ≡ length slots → AreFound old slots → HasNone slot.name slots
    → hash.UpdatesBy (λ (x y : Vec ℕ). bytes_eq x.items y.items) (λ (k : Vec ℕ). bytes_eq key.items k.items) old new (Some n)
    → AreFound new (slots ++ slot ∷ [])
found-last old new slots slot key n is text size all none updates = record {
  found = finds-last old new slots slot all.found none
      (subst (λ m. hash.UpdatesBy (λ (x y : Vec ℕ). bytes_eq x.items y.items) (λ (k : Vec ℕ). bytes_eq slot.name k.items) old new (Some m)) size
      (subst (λ t. hash.UpdatesBy (λ (x y : Vec ℕ). bytes_eq x.items y.items) (λ (k : Vec ℕ). bytes_eq t k.items) old new (Some n)) is updates));
  texts = All-push (λ (s : Slot). IsUtf8 s.name) slots slot all.texts text;
}

-- a map that didn't change finds the same
pub found-same : {S : Type 0} (old new : HashMap (Vec ℕ) ℕ S) (slots : List Slot) → new.entries ≡ old.entries → AreFound old slots → AreFound new slots
found-same old new slots same all = record {
  found = λ name k has. ap (λ entries. lookup (λ (key : Vec ℕ). bytes_eq name key.items) entries) same ∙ all.found name k has;
  texts = all.texts;
}
