-- A change of one slot changes the map at one name alone.
use Rattle.std.proofs.Common.{◌≡◌, ◌≢◌, ℕ, ◌<◌, zero, suc, Bool, true, false, cond, List, [], ◌∷◌, length, Option, Some, None, is_some, nat_eq, refl, sym, ◌∙◌, ap, set, get_or, slice_get, option_and_then}
use Rattle.std.proofs.lemmas.Bool.{eqb-true, eqb-false}
use Rattle.std.proofs.lemmas.List.{get_or-set_same, get_or-set_other}
use Rattle.std.proofs.lemmas.Option.{slice_get_within, get_or_from_slice_get}
use Rattle.mpm_base.specs.declared.conn.ConnName.{ConnName}
use Rattle.mpm_base.specs.declared.conn.Kind.{Kind}
use Rattle.timeout_queues.specs.Waiting.{ParkedName, in_life, parked_of, IsFree, parked_as, with_parked, without_name, Updates}

abbrev conn_name : ℕ → ℕ → ConnName
conn_name slot life = record { slot = slot; life = life }

-- what a slot holds is parked in its own life alone
in_own : (p : ParkedName) (life : ℕ) (b : Bool) → nat_eq p.life life ≡ b → p.life ≡ life → cond b (Some p) None ≡ Some p
in_own p life true e same = refl
in_own p life false e same = absurd (eqb-false p.life life e same)

in_other : (p : ParkedName) (life : ℕ) (b : Bool) → nat_eq p.life life ≡ b → p.life ≢ life → cond b (Some p) None ≡ None
in_other p life true e differ = absurd (differ (eqb-true p.life life e))
in_other p life false e differ = refl

-- nothing is found in a slot but in the life of the name that is parked there
IsOnly : ℕ → Option ParkedName → Type 0
IsOnly life kept = (other : ℕ) → other ≢ life → option_and_then (in_life other) kept ≡ None

pub get_or_some : (slots : List (Option ParkedName)) (i : ℕ) (p : ParkedName) → get_or slots i None ≡ Some p → slice_get slots i ≡ Some (Some p)
get_or_some [] i p e = absurd (cc)
get_or_some (x ∷ xs) zero p e = ap Some e
get_or_some (x ∷ xs) (suc i) p e = get_or_some xs i p e

-- one slot was replaced, and neither what it held nor what it holds is found in another life
others_kept : (slots : List (Option ParkedName)) (name : ConnName) (is : Option ParkedName) → name.slot < length slots →
    ((life : ℕ) → life ≢ name.life → option_and_then (in_life life) (get_or slots name.slot None) ≡ None) →
    ((life : ℕ) → life ≢ name.life → option_and_then (in_life life) is ≡ None) →
    (other : ConnName) → other ≢ name → parked_of (set slots name.slot is) other ≡ parked_of slots other
others_kept slots name is within was_only is_only other differ = on (nat_eq other.slot name.slot) refl
  where
    on : (b : Bool) → nat_eq other.slot name.slot ≡ b → parked_of (set slots name.slot is) other ≡ parked_of slots other
    on false e =
        ap (option_and_then (in_life other.life)) (get_or-set_other slots name.slot other.slot is None (eqb-false other.slot name.slot e))
    on true e =
        let same : other.slot ≡ name.slot = eqb-true other.slot name.slot e in
        let lives : other.life ≢ name.life = λ l. differ (ap (λ n. conn_name n other.life) same ∙ ap (conn_name name.slot) l) in
        let new = get_or-set_same slots name.slot is None within in
        rw (same, new) (is_only other.life lives ∙ sym (was_only other.life lives))

pub park_updates : (slots : List (Option ParkedName)) (name : ConnName) (kind : Kind) (deadline : ℕ) → IsFree slots name.slot →
    Updates slots (with_parked slots name kind deadline) name (Some (parked_as name kind deadline))
park_updates slots name kind deadline free =
    let within : name.slot < length slots = slice_get_within slots name.slot None free in
    let was = get_or_from_slice_get slots name.slot None None free in
    let p : ParkedName = parked_as name kind deadline in record {
      changed = rw (get_or-set_same slots name.slot (Some p) None within) (in_own p name.life (nat_eq name.life name.life) refl refl);
      others = others_kept slots name (Some p) within (λ life ne. rw was refl)
          (λ life ne. in_other p life (nat_eq name.life life) refl (λ e. ne (sym e)));
    }

-- what is parked under a name stands in its slot, in its life
parked_in : (kept : Option ParkedName) (life : ℕ) → is_some (option_and_then (in_life life) kept) ≡ true →
    (p : ParkedName) × (kept ≡ Some p) × (p.life ≡ life)
parked_in None life h = absurd (cc)
parked_in (Some p) life h = on (nat_eq p.life life) refl h
  where
    on : (b : Bool) → nat_eq p.life life ≡ b → is_some (cond b (Some p) None) ≡ true →
        (q : ParkedName) × (Some p ≡ Some q) × (q.life ≡ life)
    on true e s = (p, refl, eqb-true p.life life e)
    on false e s = absurd (cc)

-- so its slot has it
pub parked_slot : (slots : List (Option ParkedName)) (name : ConnName) → is_some (parked_of slots name) ≡ true →
    (p : ParkedName) × (slice_get slots name.slot ≡ Some (Some p))
parked_slot slots name parked =
    let there = parked_in (get_or slots name.slot None) name.life parked in
    (there.0, get_or_some slots name.slot there.0 there.1)

pub unpark_updates : (slots : List (Option ParkedName)) (name : ConnName) → is_some (parked_of slots name) ≡ true →
    Updates slots (without_name slots name) name None
unpark_updates slots name parked =
    let there = parked_in (get_or slots name.slot None) name.life parked in
    let within : name.slot < length slots = slice_get_within slots name.slot _ (parked_slot slots name parked).1 in record {
      changed = rw (get_or-set_same slots name.slot None None within) refl;
      others = others_kept slots name None within
          (λ life ne. rw there.1 (in_other there.0 life (nat_eq there.0.life life) refl (λ e. ne (sym e ∙ there.2))))
          (λ life ne. refl);
    }

-- nothing changes at a name that is not parked
pub same_updates : (slots : List (Option ParkedName)) (name : ConnName) → is_some (parked_of slots name) ≡ false → Updates slots slots name None
same_updates slots name absent = record { changed = none_of (parked_of slots name) absent; others = λ _ _. refl }
  where
    none_of : (o : Option ParkedName) → is_some o ≡ false → o ≡ None
    none_of None e = refl
    none_of (Some p) e = absurd (cc)
