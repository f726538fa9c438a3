-- Which connections are held by the listener, and how each of them may be left.
use Rattle.std.proofs.Common.{◌≡◌, ◌==◌, ℕ, zero, suc, Bool, true, false, not, ◌&&◌, ◌||◌, List, [], ◌∷◌, nat_le, Option, None, Some, slice_set, slice_index_or, is_some, refl, sym, ap, subst, ◌∙◌}
use Rattle.std.specs.Option.{option_map_or}
use Rattle.mpm_base.specs.declared.conn.ConnName.{ConnName}
use Rattle.mpm_base.specs.declared.conn.Cause.{Cause}
use Rattle.mpm_base.specs.declared.conn.Cause.TheVariants as cause
use Rattle.mpm_base.specs.declared.conn.Kind.{Kind}
use Rattle.mpm_base.specs.declared.conn.Kind.TheVariants.{Reading, KeepAlive, Writing, Linger, ShortLinger}
use Rattle.mpm_base.specs.declared.conn.Tail.TheVariants as tail
use Rattle.conn_machine.specs.declared.row.Place.{Place}
use Rattle.conn_machine.specs.declared.row.Place.TheVariants.{Vacant, Spent, Held, Parked, Queued, Working}
use Rattle.conn_machine.specs.declared.row.Row.{Row}
use Rattle.conn_machine.specs.declared.event.Event.TheVariants as event
use Rattle.conn_machine.specs.declared.state.State.{State}
use Rattle.conn_machine.specs.Rows.{is_from, is_linger_kind, is_lingering, is_parked, kind_number, live_row, lives_and}
use Rattle.conn_machine.specs.Children.{is_stopping}
use Rattle.conn_machine.specs.States.{child_of, is_halted, is_signalled}
use Rattle.conn_machine.specs.Table.{direct_cause_fits, held_row, is_allowed, linger_cause_fits, may_be_held, next, signal_after_hold}
use Rattle.conn_machine.specs.Sound.{IsSound, KindFits}
use Rattle.conn_state.specs.Answered.{ShowsAtOnce}
use Rattle.conn_state.specs.Conn.{SeenConn}
use Rattle.board_book.specs.Finds.{cause_of, has_to_be_drained, is_let_go}
use Rattle.board.specs.Fits.{NotesEnd}
use Rattle.worker_group.specs.InHand.{IsClosable, IsInHand}
use Rattle.rounds.proofs.FoundLemmas.{found-fits, lives, passes-found}
use Rattle.rounds.proofs.HeldLemmas.{IsHolding, cause-of, closes-lingering, held-hand, held-lingering}

-- ## Parts of tests

parts-three : (a b c : Bool) → (a && b && c) ≡ true → (a ≡ true) × (b ≡ true) × (c ≡ true)
parts-three true true true all = (refl, refl, refl)
parts-three false b c all = absurd (cc)
parts-three true false c all = absurd (cc)
parts-three true true false all = absurd (cc)

parts-four : (a b c d : Bool) → (a && b && c && d) ≡ true → (a ≡ true) × (b ≡ true) × (c ≡ true) × (d ≡ true)
parts-four true true true true all = (refl, refl, refl, refl)
parts-four false b c d all = absurd (cc)
parts-four true false c d all = absurd (cc)
parts-four true true false d all = absurd (cc)
parts-four true true true false all = absurd (cc)

not-set : (b : Bool) → not b ≡ true → b ≡ false
not-set true at = absurd (cc)
not-set false at = refl

second-of-four : (a l h : Bool) → (a || true || (l && false) || h) ≡ true
second-of-four true l h = refl
second-of-four false l h = refl

-- ## One whose child stops

-- the row is kept alive, its child stops, and nothing came for it
pub record Retires (s : State) (name : ConnName) (r : Row) : Type 0 where
  pub found : live_row s.rows name ≡ Some r
  pub waits : is_parked r.place ≡ true
  pub from_it : is_from KeepAlive r ≡ true
  pub stops : is_stopping (child_of s r).phase ≡ true
  pub none_came : is_signalled s name.slot ≡ false

pub retires : (s : State) (name : ConnName) → (found : lives_and (is_let_go s name.slot) s.rows name ≡ true)
    → Retires s name (lives (is_let_go s name.slot) s.rows name found).row
retires s name found =
    let live = lives (is_let_go s name.slot) s.rows name found in
    let parts =
    parts-four (is_parked live.row.place) (is_from KeepAlive live.row) (is_stopping (child_of s live.row).phase) (not (is_signalled s name.slot)) live.passes in
    record {
      found = live.found;
      waits = parts.0;
      from_it = parts.1;
      stops = parts.2;
      none_came = not-set (is_signalled s name.slot) parts.3;
    }

-- it may be held
pub may-hold_retiring : (s : State) (name : ConnName) (r : Row) → Retires s name r → is_allowed s (event.Hold name) ≡ true
may-hold_retiring s name r is =
    passes-found (may_be_held s (is_signalled s name.slot)) s.rows name r is.found
    (rw (is.waits, is.from_it, is.stops, is.none_came) (second-of-four (nat_le r.deadline s.moment) (is_lingering r) (is_halted s.going)))

from-kept : (o : Option Kind) → option_map_or (λ k. kind_number k == 1) o false ≡ true → o ≡ Some KeepAlive
from-kept None is = absurd (cc)
from-kept (Some Reading) is = absurd (cc)
from-kept (Some KeepAlive) is = refl
from-kept (Some Writing) is = absurd (cc)
from-kept (Some Linger) is = absurd (cc)
from-kept (Some ShortLinger) is = absurd (cc)

none-some : (o : Option Cause) → is_some o ≡ false → o ≡ None
none-some None none = refl
none-some (Some why) none = absurd (cc)

parked-fits : (p : Place) (r : Row) → is_parked p ≡ true → KindFits p r → r.from ≡ Some KeepAlive → is_lingering r ≡ false
parked-fits Vacant r at fits from = absurd (cc)
parked-fits Spent r at fits from = absurd (cc)
parked-fits Held r at fits from = absurd (cc)
parked-fits (Parked kind) r at fits from =
    let same : kind ≡ KeepAlive = cc (fits.own, from) in
    sym fits.lingers ∙ ap is_linger_kind same
parked-fits Queued r at fits from = absurd (cc)
parked-fits (Working cell phase) r at fits from = absurd (cc)

-- it doesn't linger yet
pub retires-serves : (s : State) (name : ConnName) (r : Row) → IsSound s → Retires s name r → r.cause ≡ None
retires-serves s name r sound is =
    none-some r.cause (parked-fits r.place r is.waits (found-fits s name r sound is.found) (from-kept r.from is.from_it))

pub retires-from : (s : State) (name : ConnName) (r : Row) → Retires s name r → r.from ≡ Some KeepAlive
retires-from s name r is = from-kept r.from is.from_it

cleared : (signals : List Bool) (slot : ℕ) → slice_index_or (slice_set signals slot false) slot false ≡ false
cleared [] slot = refl
cleared (x ∷ signals) zero = refl
cleared (x ∷ signals) (suc slot) = cleared signals slot

-- a hold signals nothing
stays-unsignalled : (s : State) (name : ConnName) → is_signalled s name.slot ≡ false → is_signalled (next s (event.Hold name)) name.slot ≡ false
stays-unsignalled s name none =
    let goes : signal_after_hold s name.slot ≡ false = rw none refl in
    subst (λ (b : Bool). slice_index_or (slice_set s.signals name.slot b) name.slot false ≡ false) (sym goes) (cleared s.signals name.slot)

-- it may linger for that
pub retiring-lingers : (s s' : State) (name : ConnName) (r : Row) (c : SeenConn) → IsHolding s s' name r c → Retires s name r → r.cause ≡ None → c.name ≡ name
    → is_allowed s' (event.Linger c.name cause.Retiring) ≡ true
retiring-lingers s s' name r c holds is none named =
    let quiet : is_signalled s' c.name.slot ≡ false =
    ap (λ (n : ConnName). is_signalled s' n.slot) named ∙ ap (λ (t : State). is_signalled t name.slot) holds.state ∙ stays-unsignalled s name is.none_came in
    let stops : is_stopping (child_of s' (held_row r)).phase ≡ true = ap (λ (t : State). is_stopping (child_of t r).phase) holds.state ∙ is.stops in
    passes-found (λ (x : Row). not (is_lingering x) && linger_cause_fits s' cause.Retiring (is_signalled s' c.name.slot) x) s'.rows c.name (held_row r)
    holds.held.found (rw (none, is.from_it, stops, quiet) refl)

-- ## One that lingers, and for which something came

pub record IsToDrain (s : State) (name : ConnName) (r : Row) : Type 0 where
  pub found : live_row s.rows name ≡ Some r
  pub waits : is_parked r.place ≡ true
  pub lingers : is_lingering r ≡ true
  pub came : is_signalled s name.slot ≡ true

pub to-drain : (s : State) (name : ConnName) → (found : lives_and (has_to_be_drained s name.slot) s.rows name ≡ true)
    → IsToDrain s name (lives (has_to_be_drained s name.slot) s.rows name found).row
to-drain s name found =
    let live = lives (has_to_be_drained s name.slot) s.rows name found in
    let parts = parts-three (is_parked live.row.place) (is_lingering live.row) (is_signalled s name.slot) live.passes in
    record { found = live.found; waits = parts.0; lingers = parts.1; came = parts.2 }

-- ## One that is late, and one that waits when the server has stopped

-- the cause of its row
pub row-cause : (s : State) (name : ConnName) (r : Row) (o : Option Cause) → live_row s.rows name ≡ Some r → cause_of s name ≡ o → r.cause ≡ o
row-cause s name r o found is = sym (cause-of s name r found) ∙ is

-- a late one that lingers may be closed for its cause
pub late-closes : (s s' : State) (name : ConnName) (r : Row) (c : SeenConn) (why : Cause) → IsHolding s s' name r c → r.cause ≡ Some why
    → nat_le r.deadline s.moment ≡ true → IsClosable s' why tail.Late c
late-closes s s' name r c why holds some late =
    let held = held-lingering s s' name r c why holds some in
    closes-lingering s' why tail.Late c held (ap (λ (t : State). nat_le r.deadline t.moment) holds.state ∙ late) held.shut

-- so may one that lingers when the server has stopped
pub halted-closes : (s s' : State) (name : ConnName) (r : Row) (c : SeenConn) (why : Cause) → IsHolding s s' name r c → r.cause ≡ Some why
    → is_halted s.going ≡ true → IsClosable s' why tail.Halted c
halted-closes s s' name r c why holds some halted =
    let held = held-lingering s s' name r c why holds some in
    closes-lingering s' why tail.Halted c held (ap (λ (t : State). is_halted t.going) holds.state ∙ halted) held.shut

-- the law of the service: a connection in hand may be closed for each cause that fits its row, and that it shows
abbrev pub ClosesDirectly : Type 0
ClosesDirectly =
    (s : State) (why : Cause) (c : SeenConn) (hand : IsInHand s c) → direct_cause_fits s why hand.row ≡ true → ShowsAtOnce why c
    → NotesEnd why c.notes hand.row.notes → IsClosable s why tail.Direct c

-- and another one as stopped
pub halted-stops : ClosesDirectly → (s s' : State) (name : ConnName) (r : Row) (c : SeenConn) → IsHolding s s' name r c → r.cause ≡ None
    → is_halted s.going ≡ true → IsClosable s' cause.Stopped tail.Direct c
halted-stops law s s' name r c holds none halted =
    let hand = held-hand s s' name r c holds none in
    law s' cause.Stopped c hand (ap (λ (t : State). is_halted t.going) holds.state ∙ halted) tt hand.fits.notes
