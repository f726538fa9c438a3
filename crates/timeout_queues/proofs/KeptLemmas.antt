-- What the kept slots stand for, read one by one.
use Rattle.std.proofs.Common.{◌≡◌, ℕ, ◌+◌, ◌<◌, ◌≤◌, Bool, true, false, nat_eq, List, [], ◌∷◌, length, map, replicate, zero, suc, get_or, slice_get, Option, Some, None, refl, sym, ap, ◌∙◌, arith}
use Rattle.std.specs.Bool.{OnTrue}
use Rattle.std.specs.Option.{option_map_or}
use Rattle.std.proofs.Math.ListN.{get_or-map}
use Rattle.std.proofs.lemmas.Bool.{eq-eqb, eqb-true}
use Rattle.std.proofs.lemmas.List.{length-map}
use Rattle.std.proofs.lemmas.Option.{none-some, same_Some, slice_get-map, slice_get_past, slice_get_read}
use Rattle.timeout_queues.specs.Waiting.{ParkedName, IsFree, nothing_parked, deadline_of}
use Rattle.timeout_queues.specs.Entries.{parked_in}
use Rattle.timeout_queues.specs.RingsInside.{by_kind, due_at, ring_at, ring_number, ring_of}
use Rattle.timeout_queues.specs.declared.Entry.{Entry}
use Rattle.timeout_queues.proofs.MapLemmas.{get_or_some}

-- the deadline of the name that is kept in a slot
pub deadline_at : (kept : List (Option Entry)) (i : ℕ) (e : Entry) → get_or kept i None ≡ Some e →
    deadline_of (map parked_in kept) (record { slot = i; life = e.life }) ≡ Some e.deadline
deadline_at kept i e read = rw (get_or-map parked_in kept i None, read, eq-eqb e.life e.life refl) refl

-- until when what is kept at a place waits
pub due_kept : (kept : List (Option Entry)) (i : ℕ) →
    due_at by_kind (map parked_in kept) i ≡ option_map_or (λ (e : Entry). e.deadline) (get_or kept i None) 0
due_kept [] i = refl
due_kept (None ∷ kept) zero = refl
due_kept (Some e ∷ kept) zero = refl
due_kept (k ∷ kept) (suc i) = due_kept kept i

-- the ring of what is kept at a place
ring_kept : (kept : List (Option Entry)) (i : ℕ) (e : Entry) → get_or kept i None ≡ Some e →
    ring_at by_kind (map parked_in kept) i ≡ Some (length kept + ring_number e.kind)
ring_kept kept i e read =
    let p : ParkedName = record { life = e.life; kind = e.kind; deadline = e.deadline } in
    let at = get_or_some (map parked_in kept) i p (get_or-map parked_in kept i None ∙ ap parked_in read) in
    ap (ring_of by_kind (map parked_in kept) i) at ∙ ap (λ (n : ℕ). Some (n + ring_number e.kind)) (length-map kept parked_in)

-- so it is in the ring of a head that is its own
pub in_ring_kept : (kept : List (Option Entry)) (i own head : ℕ) (e : Entry) (same : Bool) → get_or kept i None ≡ Some e →
    own ≡ length kept + ring_number e.kind → nat_eq own head ≡ same → OnTrue same (ring_at by_kind (map parked_in kept) i ≡ Some head)
in_ring_kept kept i own head e true read is same = ring_kept kept i e read ∙ ap Some (omega (arith, is, eqb-true own head same))
in_ring_kept kept i own head e false read is same = tt

-- a head is in its own ring
pub in_ring_head : (kept : List (Option Entry)) (i head : ℕ) (same : Bool) → length kept ≤ head → nat_eq i head ≡ same →
    OnTrue same (ring_at by_kind (map parked_in kept) i ≡ Some head)
in_ring_head kept i head true past same =
    let is : i ≡ head = eqb-true i head same in
    let none : slice_get (map parked_in kept) i ≡ None = slice_get_past (map parked_in kept) i (omega (arith, length-map kept parked_in, past, is)) in
    ap (ring_of by_kind (map parked_in kept) i) none ∙ ap Some is
in_ring_head kept i head false past same = tt

-- slots in which nothing was ever kept
map-replicate : (n : ℕ) → map parked_in (replicate n None) ≡ replicate n None
map-replicate zero = refl
map-replicate (suc n) = ap (λ (ps : List (Option ParkedName)). None ∷ ps) (map-replicate n)

pub seen_empty : (n m : ℕ) (kept : List (Option Entry)) → kept ≡ replicate m None → m ≡ n → map parked_in kept ≡ nothing_parked n
seen_empty n m kept h e = rw (h, e) (map-replicate n)

-- ## What a look at a slot finds

-- what is read of a list that equals the kept slots stands for what is parked there
slot_read : (kept xs : List (Option Entry)) (i : ℕ) (o : Option Entry) → xs ≡ kept → i < length xs → o ≡ get_or xs i o →
    slice_get (map parked_in kept) i ≡ Some (parked_in o)
slot_read kept xs i o same within read =
    let at = slice_get_read xs (length xs) i o refl within read in
    ap (λ (ys : List (Option Entry)). slice_get (map parked_in ys) i) (sym same) ∙ slice_get-map parked_in xs i ∙ rw at refl

-- a slot in which nothing is kept is free
pub free_here : (kept xs : List (Option Entry)) (i : ℕ) (o : Option Entry) → xs ≡ kept → i < length xs → o ≡ get_or xs i o → o ≡ None →
    IsFree (map parked_in kept) i
free_here kept xs i o same within read none = slot_read kept xs i o same within read ∙ rw none refl

-- nothing is kept in a free slot
pub free_none : (kept xs : List (Option Entry)) (i : ℕ) (o : Option Entry) → xs ≡ kept → i < length xs → o ≡ get_or xs i o →
    IsFree (map parked_in kept) i → o ≡ None
free_none kept xs i o same within read free =
    none o (same_Some (parked_in o) None (sym (slot_read kept xs i o same within read) ∙ free))
  where
    none : (o : Option Entry) → parked_in o ≡ None → o ≡ None
    none None e = refl
    none (Some k) e = absurd (cc)

-- and no slot past the last is free
pub past_not_free : (kept xs : List (Option Entry)) (i : ℕ) → xs ≡ kept → length xs ≤ i → IsFree (map parked_in kept) i → ⊥
past_not_free kept xs i same past free =
    none-some None (sym (ap (λ (ys : List (Option Entry)). slice_get (map parked_in ys) i) (sym same) ∙ slice_get-map parked_in xs i ∙ rw (slice_get_past xs i past) refl) ∙ free)
