-- What a worker took, put together item by item.
use Rattle.std.proofs.Common.{◌≡◌, ◌⊎◌, inl, inr, ℕ, List, [], ◌∷◌, ◌++◌, Option, Some, None, refl, sym, subst, ◌∙◌}
use Rattle.std.proofs.lemmas.List.Elements.{All-nil, All-take}
use Rattle.std.specs.List.{All}
use Rattle.std.specs.Prelude.{MatchOption, take}
use Rattle.fd_queue.specs.declared.seat.Item.{Item}
use Rattle.fd_queue.specs.declared.seat.Item.TheVariants.{Work, End}
use Rattle.fd_queue.specs.declared.seat.SeatView.{SeatView}
use Rattle.fd_queue.specs.Seats.{TakesItem}
use Rattle.recycle_perch.specs.Looking.{CameBack, WasLaidDown}
use Rattle.board_turns.specs.Carries.{SeenPair}
use Rattle.worker_threads.specs.Working.{HasWorked, TookPair, TookPairs, WasOffered, WasServed, WereOffered}

-- ## Offers

pub offered_none : (steps : List (List (ℕ × ℕ))) → (carriers : List ℕ) × WereOffered carriers steps steps
offered_none steps = ([], refl)

offer_last : (carriers : List ℕ) (n : ℕ) (a b c : List (List (ℕ × ℕ))) → WereOffered carriers a b → WasOffered n b c → WereOffered (carriers ++ n ∷ []) a c
offer_last [] n a b c none last = (c, subst (λ x. WasOffered n x c) none last, refl)
offer_last (m ∷ carriers) n a b c (between, first, others) last = (between, first, offer_last carriers n between b c others last)

-- one more was offered
pub offered_one : (n : ℕ) (a b c : List (List (ℕ × ℕ))) → (carriers : List ℕ) × WereOffered carriers a b → WasOffered n b c → (carriers : List ℕ) × WereOffered carriers a c
offered_one n a b c (carriers, all) last = (carriers ++ n ∷ [], offer_last carriers n a b c all last)

-- a carrier was offered, whether it came back or not
pub offered_by : {X : Type 0} (o : Option X) (n : ℕ) (a b : List (List (ℕ × ℕ))) → MatchOption o (WasLaidDown n a b) (λ _. CameBack n a b) → WasOffered n a b
offered_by None n a b laid = inl laid
offered_by (Some x) n a b back = inr back

-- the carrier of a pair was, and some others behind it
pub served_so : {X : Type 0} (o : Option X) (n : ℕ) (a b c : List (List (ℕ × ℕ))) → MatchOption o (WasLaidDown n a b) (λ _. CameBack n a b)
    → (carriers : List ℕ) × WereOffered carriers b c → WasServed n a c
served_so o n a b c laid (again, offers) = record { behind = b; offered = offered_by o n a b laid; again = again; offers = offers }

-- ## Items

-- what a worker took so far
pub record WorkedSoFar (v w : SeatView (Item SeenPair)) (before after : List (List (ℕ × ℕ))) : Type 0 where
  pub pairs : List SeenPair
  pub took : TookPairs pairs v w before after

pub nothing_yet : (v : SeatView (Item SeenPair)) (steps : List (List (ℕ × ℕ))) → WorkedSoFar v v steps steps
nothing_yet v steps = record { pairs = []; took = (refl, refl) }

took_last : (pairs : List SeenPair) (pair : SeenPair) (v u w : SeatView (Item SeenPair)) (a b c : List (List (ℕ × ℕ)))
    → TookPairs pairs v u a b → TookPair pair u w b c → TookPairs (pairs ++ pair ∷ []) v w a c
took_last [] pair v u w a b c none last =
    (w, c, subst (λ x. TookPair pair v w x c) none.1 (subst (λ x. TookPair pair x w b c) none.0 last), (refl, refl))
took_last (p ∷ pairs) pair v u w a b c (x, between, first, others) last = (x, between, first, took_last pairs pair x u w between b c others last)

-- a pair more was taken, and served
pub took_one : (pair : SeenPair) (v u w : SeatView (Item SeenPair)) (a b c : List (List (ℕ × ℕ))) → WorkedSoFar v u a b → TakesItem u (Work pair) w
    → WasServed pair.view.who.number b c → WorkedSoFar v w a c
took_one pair v u w a b c so takes served = record {
  pairs = so.pairs ++ pair ∷ [];
  took = took_last so.pairs pair v u w a b c so.took (record { takes = takes; served = served });
}

-- and then an End item
pub worked : (v u w : SeatView (Item SeenPair)) (a b : List (List (ℕ × ℕ))) → WorkedSoFar v u a b → TakesItem u End w → HasWorked v w a b
worked v u w a b so ended = record { pairs = so.pairs; last = u; took = so.took; ended = ended }

-- ## Carriers that were kept

-- the first of them are as all are
pub all_left : {X : Type 0} (P : X → Type 0) (old new : List X) (n : ℕ) → new ≡ take n old → All P old → All P new
all_left P old new n is all = subst (All P) (sym is) (All-take P n old all)

-- and each of none is so
pub all_none : {X : Type 0} (P : X → Type 0) (items : List X) → items ≡ [] → All P items
all_none P items none = subst (All P) (sym none) (All-nil P)
