-- How often a row may still be held where nothing comes for it, and what its changes make of that.
use Rattle.std.proofs.Common.{◌≡◌, ◌≤◌, ℕ, ◌+◌, Bool, true, false, not, ◌&&◌, ◌||◌, cond, Option, None, Some, is_none, nat_lt, nat_le, ◌==◌, [], refl, arith}
use Rattle.std.specs.Option.{option_map_or}
use Rattle.std.proofs.lemmas.Bool.{and_parts, and_right, or_from, or_left, or_right, ltb-true, leb-true, lt-leb, le-leb}
use Rattle.mpm_base.specs.declared.conn.Kind.{Kind}
use Rattle.mpm_base.specs.declared.conn.Kind.TheVariants.{Reading, KeepAlive, Writing, Linger, ShortLinger}
use Rattle.conn_machine.specs.declared.row.Phase.{Phase}
use Rattle.conn_machine.specs.declared.row.Place.{Place}
use Rattle.conn_machine.specs.declared.row.Place.TheVariants.{Vacant, Spent, Held, Parked, Queued, Working}
use Rattle.conn_machine.specs.declared.row.Row.{Row}
use Rattle.conn_machine.specs.Rows.{is_lingering, is_linger_kind, kind_number, is_held, is_parked, is_queued, is_working, in_phase}
use Rattle.conn_machine.specs.Table.{linger_kind, greatest_life, closed_row}

-- ## The number

-- a row that never waited may be held once more
abbrev pub first : Option Kind → ℕ
first None = 1
first (Some kind) = 0

-- what a row waited for last is a kind of lingering
abbrev pub lingered : Option Kind → Bool
lingered from = option_map_or is_linger_kind from false

-- the row lingers, and so was its last wait
abbrev pub rests : Option Kind → Bool → Bool
rests from lingers = lingered from && lingers

-- by whether its time is over, its place, what it waited for, whether it rests, and its signal: a row that rests is held
-- once because its time is over, and else only where its signal is set
abbrev pub chances_by : Bool → Place → Option Kind → Bool → Bool → ℕ
chances_by late Vacant from rest b = 0
chances_by late Spent from rest b = 0
chances_by late Held from true b = cond b 1 0 + cond late 0 1
chances_by late Held from false b = 2 + first from
chances_by late (Parked kind) from true b = cond b 1 0 + 1
chances_by late (Parked kind) from false b = 3 + first from
chances_by late Queued from rest b = 3 + first from
chances_by late (Working cell phase) from rest b = 3 + first from

-- the same of a row and its signal, at a moment, by whether the server stopped
abbrev pub chances : ℕ → Bool → Row → Bool → ℕ
chances moment halted r b =
    chances_by (nat_le r.deadline moment || halted) r.place r.from (rests r.from (is_lingering r)) b

-- ## Bounds

-- a signal makes a difference of 1 at most
pub chances_by-small : (late : Bool) (place : Place) (from : Option Kind) (rest b b' : Bool)
    → chances_by late place from rest b ≤ chances_by late place from rest b' + 1
chances_by-small late Vacant from rest b b' = omega arith
chances_by-small late Spent from rest b b' = omega arith
chances_by-small late Held from true true b' = omega arith
chances_by-small late Held from true false b' = omega arith
chances_by-small late Held from false b b' = omega arith
chances_by-small late (Parked kind) from true true b' = omega arith
chances_by-small late (Parked kind) from true false b' = omega arith
chances_by-small late (Parked kind) from false b b' = omega arith
chances_by-small late Queued from rest b b' = omega arith
chances_by-small late (Working cell phase) from rest b b' = omega arith

-- the same of the one hold that lateness gives
cond-late : (late late' : Bool) → (late ≡ true → late' ≡ true) → cond late' 0 1 ≤ cond late 0 1
cond-late true true later = omega arith
cond-late true false later = absurd (cc (later refl))
cond-late false true later = omega arith
cond-late false false later = omega arith

-- there are no more once the time is over
pub chances_by-late : (late late' : Bool) (place : Place) (from : Option Kind) (rest b : Bool) → (late ≡ true → late' ≡ true)
    → chances_by late' place from rest b ≤ chances_by late place from rest b
chances_by-late late late' Vacant from rest b later = omega arith
chances_by-late late late' Spent from rest b later = omega arith
chances_by-late late late' Held from true b later = omega (arith, cond-late late late' later)
chances_by-late late late' Held from false b later = omega arith
chances_by-late late late' (Parked kind) from true b later = omega arith
chances_by-late late late' (Parked kind) from false b later = omega arith
chances_by-late late late' Queued from rest b later = omega arith
chances_by-late late late' (Working cell phase) from rest b later = omega arith

-- ## Places

-- three or four where a worker serves
pub chances_by-works : (late : Bool) (place : Place) (from : Option Kind) (rest b : Bool) → is_working place ≡ true
    → chances_by late place from rest b ≡ 3 + first from
chances_by-works late Vacant from rest b works = absurd (cc)
chances_by-works late Spent from rest b works = absurd (cc)
chances_by-works late Held from rest b works = absurd (cc)
chances_by-works late (Parked kind) from rest b works = absurd (cc)
chances_by-works late Queued from rest b works = absurd (cc)
chances_by-works late (Working cell phase) from rest b works = refl

-- a worker serves after a change of its phase if it did before
pub works-in_phase : (phase : Phase) (place : Place) → is_working (in_phase phase place) ≡ is_working place
works-in_phase phase Vacant = refl
works-in_phase phase Spent = refl
works-in_phase phase Held = refl
works-in_phase phase (Parked kind) = refl
works-in_phase phase Queued = refl
works-in_phase phase (Working cell before) = refl

-- as many where a worker will
pub chances_by-queued : (late : Bool) (place : Place) (from : Option Kind) (rest b : Bool) → is_queued place ≡ true
    → chances_by late place from rest b ≡ 3 + first from
chances_by-queued late Vacant from rest b queued = absurd (cc)
chances_by-queued late Spent from rest b queued = absurd (cc)
chances_by-queued late Held from rest b queued = absurd (cc)
chances_by-queued late (Parked kind) from rest b queued = absurd (cc)
chances_by-queued late Queued from rest b queued = refl
chances_by-queued late (Working cell phase) from rest b queued = absurd (cc)

-- as many where the row waits, and doesn't rest
pub chances_by-parked : (late : Bool) (place : Place) (from : Option Kind) (rest b : Bool) → is_parked place ≡ true
    → rest ≡ false → chances_by late place from rest b ≡ 3 + first from
chances_by-parked late Vacant from rest b parked stays = absurd (cc)
chances_by-parked late Spent from rest b parked stays = absurd (cc)
chances_by-parked late Held from rest b parked stays = absurd (cc)
chances_by-parked late (Parked kind) from true b parked stays = absurd (cc)
chances_by-parked late (Parked kind) from false b parked stays = refl
chances_by-parked late Queued from rest b parked stays = absurd (cc)
chances_by-parked late (Working cell phase) from rest b parked stays = absurd (cc)

-- one, and its signal, where the listener has a row that rests, before its time is over
pub chances_by-rests : (late : Bool) (place : Place) (from : Option Kind) (rest b : Bool) → is_held place ≡ true
    → rest ≡ true → late ≡ false → chances_by late place from rest b ≡ cond b 1 0 + 1
chances_by-rests late Vacant from rest b held is early = absurd (cc)
chances_by-rests late Spent from rest b held is early = absurd (cc)
chances_by-rests true Held from rest b held is early = absurd (cc)
chances_by-rests false Held from true b held is early = refl
chances_by-rests false Held from false b held is early = absurd (cc)
chances_by-rests late (Parked kind) from rest b held is early = absurd (cc)
chances_by-rests late Queued from rest b held is early = absurd (cc)
chances_by-rests late (Working cell phase) from rest b held is early = absurd (cc)

-- ## Kinds

-- a row that doesn't linger doesn't rest
pub rests-not : (from : Option Kind) (lingers : Bool) → not lingers ≡ true → rests from lingers ≡ false
rests-not from true stays = absurd (cc)
rests-not from false stays = and_right (lingered from) false refl

-- a row that waited for the first kind of lingering lingered
pub lingered-linger : (from : Option Kind) → option_map_or (λ k. kind_number k == 3) from false ≡ true → lingered from ≡ true
lingered-linger None is = absurd (cc)
lingered-linger (Some Reading) is = absurd (cc)
lingered-linger (Some KeepAlive) is = absurd (cc)
lingered-linger (Some Writing) is = absurd (cc)
lingered-linger (Some Linger) is = refl
lingered-linger (Some ShortLinger) is = refl

-- and so did one that waited for the other kind of lingering
pub lingered-short : (from : Option Kind) → option_map_or (λ k. kind_number k == 4) from false ≡ true → lingered from ≡ true
lingered-short None is = absurd (cc)
lingered-short (Some Reading) is = absurd (cc)
lingered-short (Some KeepAlive) is = absurd (cc)
lingered-short (Some Writing) is = absurd (cc)
lingered-short (Some Linger) is = refl
lingered-short (Some ShortLinger) is = refl

-- a row that lingered didn't wait for a further request
lingered-keep : (from : Option Kind) → lingered from ≡ true → option_map_or (λ k. kind_number k == 1) from false ≡ false
lingered-keep None is = absurd (cc)
lingered-keep (Some Reading) is = absurd (cc)
lingered-keep (Some KeepAlive) is = absurd (cc)
lingered-keep (Some Writing) is = absurd (cc)
lingered-keep (Some Linger) is = refl
lingered-keep (Some ShortLinger) is = refl

-- what a row waits for that begins to linger is a kind of lingering
pub linger_kind-lingers : (r : Row) → is_linger_kind (linger_kind r) ≡ true
linger_kind-lingers r = by_length r.short
  where
    by_length : (short : Bool) → is_linger_kind (cond short ShortLinger Linger) ≡ true
    by_length true = refl
    by_length false = refl

-- ## A row that is held, or waits

-- a row that is new, or is served and goes on, has three at least
pub at_least-reading : (late : Bool) (place : Place) (from : Option Kind) (lingers b last : Bool)
    → ((is_held place && is_none from) || (is_working place && not last)) ≡ true
    → 3 ≤ chances_by late place from (rests from lingers) b
at_least-reading late Vacant from lingers b last fits = absurd (cc)
at_least-reading late Spent from lingers b last fits = absurd (cc)
at_least-reading late Held None lingers b last fits = omega arith
at_least-reading late Held (Some kind) lingers b last fits = absurd (cc)
at_least-reading late (Parked kind) from lingers b last fits = absurd (cc)
at_least-reading late Queued from lingers b last fits = absurd (cc)
at_least-reading late (Working cell phase) from lingers b last fits = omega arith

-- a row whose service ends has two at least
pub at_least-ends : (late : Bool) (place : Place) (from : Option Kind) (rest b : Bool)
    → (is_held place || is_working place) ≡ true → rest ≡ false → 2 ≤ chances_by late place from rest b
at_least-ends late Vacant from rest b there stays = absurd (cc)
at_least-ends late Spent from rest b there stays = absurd (cc)
at_least-ends late Held from true b there stays = absurd (cc)
at_least-ends late Held from false b there stays = omega arith
at_least-ends late (Parked kind) from rest b there stays = absurd (cc)
at_least-ends late Queued from rest b there stays = absurd (cc)
at_least-ends late (Working cell phase) from rest b there stays = omega arith

-- a row that begins to linger has two at most
pub at_most-lingers : (late : Bool) (kind : Kind) (from : Option Kind) (rest b : Bool) → rest ≡ true
    → chances_by late (Parked kind) from rest b ≤ 2
at_most-lingers late kind from true true is = omega arith
at_most-lingers late kind from true false is = omega arith
at_most-lingers late kind from false b is = absurd (cc)

-- a row that rests is held because its time is over, or because something came
may_rest : (early halted keeps stopping lingers b : Bool) → keeps ≡ false
    → (early || (keeps && stopping && not b) || (lingers && b) || halted) ≡ true → ((early || halted) || b) ≡ true
may_rest true halted keeps stopping lingers b not_keep may = refl
may_rest false halted true stopping lingers b not_keep may = absurd (cc)
may_rest false true false stopping lingers b not_keep may = refl
may_rest false false false stopping lingers true not_keep may = refl
may_rest false false false stopping true false not_keep may = absurd (cc)
may_rest false false false stopping false false not_keep may = absurd (cc)

-- a row that waits has one less once it is held, where its time was over or its signal goes
held_by : (late : Bool) (kind : Kind) (from : Option Kind) (rest b b' : Bool) → (rest ≡ true → (late || b) ≡ true)
    → (rest ≡ true → b' ≡ false) → 1 + chances_by late Held from rest b' ≤ chances_by late (Parked kind) from rest b
held_by late kind from false b b' pays goes = omega arith
held_by late kind from true b true pays goes = absurd (cc (goes refl))
held_by true kind from true b false pays goes = omega arith
held_by false kind from true true false pays goes = omega arith
held_by false kind from true false false pays goes = absurd (cc (pays refl))

-- a row that may be held has one less once it is
pub held_pays : (early halted stopping : Bool) (place : Place) (from : Option Kind) (lingers b b' : Bool)
    → (is_parked place
    && (early || (option_map_or (λ k. kind_number k == 1) from false && stopping && not b) || (lingers && b) || halted)) ≡ true
    → (b' ≡ true → (b && not lingers) ≡ true)
    → 1 + chances_by (early || halted) Held from (rests from lingers) b' ≤ chances_by (early || halted) place from (rests from lingers) b
held_pays early halted stopping Vacant from lingers b b' may less = absurd (cc)
held_pays early halted stopping Spent from lingers b b' may less = absurd (cc)
held_pays early halted stopping Held from lingers b b' may less = absurd (cc)
held_pays early halted stopping (Parked kind) from lingers b b' may less =
    held_by (early || halted) kind from (rests from lingers) b b'
    (λ is. may_rest early halted (option_map_or (λ k. kind_number k == 1) from false) stopping lingers b
    (lingered-keep from (and_parts (lingered from) lingers is).0) may)
    (λ is. cleared lingers b b' (and_parts (lingered from) lingers is).1 less)
  where
    cleared : (lingers b b' : Bool) → lingers ≡ true → (b' ≡ true → (b && not lingers) ≡ true) → b' ≡ false
    cleared lingers b false is less = refl
    cleared false b true is less = absurd (cc)
    cleared true true true is less = absurd (cc (less refl))
    cleared true false true is less = absurd (cc (less refl))
held_pays early halted stopping Queued from lingers b b' may less = absurd (cc)
held_pays early halted stopping (Working cell phase) from lingers b b' may less = absurd (cc)

-- ## A row that is closed

-- none, where neither of two rows has one
chances-either : (moment : ℕ) (halted test : Bool) (r r' : Row) (b : Bool) → chances moment halted r b ≡ 0
    → chances moment halted r' b ≡ 0 → chances moment halted (cond test r r') b ≡ 0
chances-either moment halted true r r' b none none' = none
chances-either moment halted false r r' b none none' = none'

-- a closed row has none
pub chances-closed : (moment : ℕ) (halted : Bool) (r : Row) (b : Bool) → chances moment halted (closed_row r) b ≡ 0
chances-closed moment halted r b =
    chances-either moment halted (r.life == greatest_life) (record r { place = Spent; notes = [] })
    (record r { life = r.life + 1; place = Vacant; notes = [] }) b refl refl

-- ## Lateness

-- a deadline that is to come isn't over
pub not_late : (moment deadline : ℕ) (halted : Bool) → nat_lt moment deadline ≡ true → halted ≡ false
    → (nat_le deadline moment || halted) ≡ false
not_late moment deadline halted before running = or_from (nat_le deadline moment) halted
    (lt-leb deadline moment (ltb-true moment deadline before)) running

-- a deadline that is over stays so
pub late_later : (deadline moment later : ℕ) (halted halted' : Bool) → moment ≤ later → (halted ≡ true → halted' ≡ true)
    → (nat_le deadline moment || halted) ≡ true → (nat_le deadline later || halted') ≡ true
late_later deadline moment later halted halted' after more late =
    late_by (nat_le deadline moment) halted refl refl late
  where
    late_by : (over stopped : Bool) → nat_le deadline moment ≡ over → halted ≡ stopped → (over || stopped) ≡ true
        → (nat_le deadline later || halted') ≡ true
    late_by true stopped is stop late =
        let d : deadline ≤ later = omega (arith, leb-true deadline moment is) in
        or_left (nat_le deadline later) halted' (le-leb deadline later d)
    late_by false true is stop late = or_right (nat_le deadline later) halted' (more stop)
    late_by false false is stop late = absurd (cc)
