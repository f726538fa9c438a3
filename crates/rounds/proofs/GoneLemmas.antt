-- That nothing is left behind a graceful stop once each child is gone.
use Rattle.std.proofs.Common.{◌≡◌, ℕ, zero, suc, Bool, true, false, not, ◌||◌, List, [], ◌∷◌, Option, Some, slice_get, refl, sym, ap, ◌∙◌}
use Rattle.std.specs.List.{list_any}
use Rattle.conn_machine.specs.declared.child.Child.{Child}
use Rattle.conn_machine.specs.declared.row.Row.{Row}
use Rattle.conn_machine.specs.declared.state.Going.{Going}
use Rattle.conn_machine.specs.declared.state.Going.TheVariants.{Serving, Ending, Halted}
use Rattle.conn_machine.specs.declared.state.State.{State}
use Rattle.conn_machine.specs.Children.{child_at, is_empty}
use Rattle.conn_machine.specs.Rows.{is_live}
use Rattle.conn_machine.specs.Sound.{IsSound}
use Rattle.conn_machine.specs.States.{is_halted, is_serving}
use Rattle.board_book.specs.ClosedDown.{AllEmpty, HasNoLive}
use Rattle.rounds.specs.EndsInside.{IsAllGone}

-- ## Children

empty-first : (c : Child) (empty rest : Bool) → is_empty c.phase ≡ empty → (not empty || rest) ≡ false → (is_empty c.phase ≡ true) × (rest ≡ false)
empty-first c true rest is none = (is, none)
empty-first c false rest is none = absurd (cc)

empty-at : (children : List Child) (k : ℕ) → list_any (λ (c : Child). not (is_empty c.phase)) children ≡ false → is_empty (child_at children k).phase ≡ true
empty-at [] k none = refl
empty-at (c ∷ children) zero none =
    (empty-first c (is_empty c.phase) (list_any (λ (x : Child). not (is_empty x.phase)) children) refl none).0
empty-at (c ∷ children) (suc k) none =
    empty-at children k (empty-first c (is_empty c.phase) (list_any (λ (x : Child). not (is_empty x.phase)) children) refl none).1

none-more : (empty rest : Bool) → empty ≡ true → rest ≡ false → (not empty || rest) ≡ false
none-more true rest is none = none
none-more false rest is none = absurd (cc)

none-left : (children : List Child) → ((k : ℕ) → is_empty (child_at children k).phase ≡ true)
    → list_any (λ (c : Child). not (is_empty c.phase)) children ≡ false
none-left [] empty = refl
none-left (c ∷ children) empty =
    none-more (is_empty c.phase) (list_any (λ (x : Child). not (is_empty x.phase)) children) (empty 0) (none-left children (λ k. empty (suc k)))

-- ## Rows

none-live-cons : (r : Row) (live rest : Bool) → is_live r ≡ live → (is_live r ≡ true → ⊥) → rest ≡ false → (live || rest) ≡ false
none-live-cons r true rest is not_live none = absurd (not_live is)
none-live-cons r false rest is not_live none = none

none-live-rows : (rows : List Row) → ((slot : ℕ) (r : Row) → slice_get rows slot ≡ Some r → is_live r ≡ true → ⊥) → list_any is_live rows ≡ false
none-live-rows [] none = refl
none-live-rows (r ∷ rows) none =
    none-live-cons r (is_live r) (list_any is_live rows) refl (none 0 r refl) (none-live-rows rows (λ slot x at live. none (suc slot) x at live))

-- no row is live whose child is gone
none-live-gone : (s : State) → IsSound s → AllEmpty s → HasNoLive s
none-live-gone s sound empty =
    none-live-rows s.rows (λ slot r at live.
    let gone = empty r.child in
    let there = (sound.owners slot r at live).there in
    absurd (cc (gone, there)))

-- ## The server

ends : (s : State) (going : Going) → s.going ≡ going → is_halted going ≡ false → is_serving going ≡ false → (until : Option ℕ) × (s.going ≡ Ending until)
ends s Serving is up serves = absurd (cc)
ends s (Ending until) is up serves = (until, is)
ends s (Halted why) is up serves = absurd (cc)

not-any : (any : Bool) → not any ≡ true → any ≡ false
not-any true none = absurd (cc)
not-any false none = refl

-- it is at its end where it takes no connections, and each child is gone
pub is-gone : (s : State) (some : Bool) → IsSound s → is_halted s.going ≡ false → is_serving s.going ≡ false
    → some ≡ list_any (λ (c : Child). not (is_empty c.phase)) s.children → not some ≡ true → IsAllGone s
is-gone s some sound up serves is none =
    let empty : AllEmpty s = λ k. empty-at s.children k (sym is ∙ not-any some none) in
    let ending = ends s s.going refl up serves in
    record { until = ending.0; going = ending.1; down = record { live = none-live-gone s sound empty; empty = empty } }

-- where it is at its end it takes no connections, and no child is left
pub gone-unserving : (s : State) → IsAllGone s → is_serving s.going ≡ false
gone-unserving s gone = ap is_serving gone.going

pub gone-empty : (s : State) (some : Bool) → some ≡ list_any (λ (c : Child). not (is_empty c.phase)) s.children → IsAllGone s → not some ≡ true
gone-empty s some is gone = ap not (is ∙ none-left s.children gone.down.empty)
