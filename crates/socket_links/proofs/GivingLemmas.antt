-- What fits a part of a buffer or of a piece fits the whole of it.
use Rattle.std.proofs.Common.{◌≡◌, ℕ, ◌==◌, ◌<◌, ◌≤◌, true, false, Bool, if◌then◌else◌, List, [], ◌∷◌, ◌++◌, arith}
use Rattle.mpm_base.specs.Link.{FitsBuffer, FitsPiece}
use Rattle.mpm_base.specs.declared.link.Got.{Got}
use Rattle.mpm_base.specs.declared.link.Got.TheVariants as got
use Rattle.mpm_base.specs.declared.link.Sent.{Sent}
use Rattle.mpm_base.specs.declared.link.Sent.TheVariants as sent
use Rattle.socket_links.specs.Answers.{count_of_got}
use Rattle.socket_links.specs.EventsInside.{has_slot}
use Rattle.socket_links.specs.GivingWay.{count_of_sent}
use Rattle.socket_links.proofs.EventLemmas.{has_more, or_left}

pub fits_buffer : (g : Got) (part whole : ℕ) → FitsBuffer g part → part ≤ whole → 0 < part → FitsBuffer g whole
fits_buffer (got.Got n) part whole f within some = (omega (arith, f.0, within), λ room. f.1 some)
fits_buffer got.End part whole f within some = tt
fits_buffer got.NotReady part whole f within some = tt
fits_buffer got.Failed part whole f within some = tt

pub got_count : (g : Got) (room : ℕ) → FitsBuffer g room → count_of_got g ≤ room
got_count (got.Got n) room f = f.0
got_count got.End room f = omega arith
got_count got.NotReady room f = omega arith
got_count got.Failed room f = omega arith

pub fits_piece : (s : Sent) (part whole : ℕ) → FitsPiece s part → part ≤ whole → 0 < part → FitsPiece s whole
fits_piece (sent.Put n) part whole f within some = (omega (arith, f.0, within), λ room. f.1 some)
fits_piece sent.NotReady part whole f within some = tt
fits_piece sent.Failed part whole f within some = tt

pub sent_count : (s : Sent) (room : ℕ) → FitsPiece s room → count_of_sent s ≤ room
sent_count (sent.Put n) room f = f.0
sent_count sent.NotReady room f = omega arith
sent_count sent.Failed room f = omega arith

given_by : (old : List ℕ) (x slot : ℕ) (there : Bool) → has_slot old slot ≡ true → has_slot (if there then old else old ++ x ∷ []) slot ≡ true
given_by old x slot true has = has
given_by old x slot false has = rw (has_more old x slot) (or_left (has_slot old slot) (x == slot) has)

-- a slot that was given stays given
pub given_stays : (old new : List ℕ) (x slot : ℕ) → new ≡ (if has_slot old x then old else old ++ x ∷ []) → has_slot old slot ≡ true
    → has_slot new slot ≡ true
given_stays old new x slot is has = rw is (given_by old x slot (has_slot old x) has)
