use Rattle.std.proofs.Common.{◌≡◌, sym, ◌∙◌, subst, nat_lt, true, false, arith}
use Rattle.board_turns.specs.Books.{state_of}
use Rattle.listener_parts.specs.Rounds.{IsRestedFor, TicksAtOnce, TicksTo}
use Rattle.board_book.specs.Moments.{moment_for}
use Rattle.listener_parts.proofs.RestLemmas.{rested_later, ticks_on}
use Rattle.listener_parts.proofs.RoundLemmas.{alone_late, alone_moment, is_below, later_is, not_below, passes_later, passes_none, present_is}
use Rattle.listener_parts.proofs.time.let_time_pass.Goals as goal

-- ## Later

pub returns-then-moment-present-clause-passes : goal.returns-then-moment-present-clause-passes
returns-then-moment-present-clause-passes g c =
    let to = moment_for c.args.moment in
    let now = (state_of c.args.pass.now.seat.me.0).moment in
    let later : nat_lt now to ≡ true = is_below now to (omega (arith, c.requires.present, c.min-moment.ensures, c.if-moment-present.true)) in
    passes_later to _ _ _ later (subst (λ m. TicksTo m c.args.pass.now.seat.me.0 c.tick.new.pass.seat.me.0) c.min-moment.ensures c.in_ok-tick.ensures.ticks)
    c.let_go_late.ensures.gone

pub returns-then-moment-present-clause-at_once : goal.returns-then-moment-present-clause-at_once
returns-then-moment-present-clause-at_once g c rested =
    let once =
    subst (λ m. IsRestedFor m c.args.pass.now.seat.me.0 → TicksAtOnce m c.args.pass.now.seat.me.0 c.tick.new.pass.seat.me.0) c.min-moment.ensures
    c.in_ok-tick.ensures.at_once in
    ticks_on (moment_for c.args.moment) _ _ _ (once rested) c.let_go_late.ensures.gone.did.goes_on

pub returns-then-moment-present-clause-moment : goal.returns-then-moment-present-clause-moment
returns-then-moment-present-clause-moment g c =
    let now = (state_of c.args.pass.now.seat.me.0).moment in
    let at = c.let_go_late.ensures.rest.stands.moment ∙ c.in_ok-tick.ensures.moment ∙ c.min-moment.ensures in
    at ∙ sym (later_is now (moment_for c.args.moment) (omega (arith, c.requires.present, c.min-moment.ensures, c.if-moment-present.true)))

pub returns-then-moment-present-clause-credits : goal.returns-then-moment-present-clause-credits
returns-then-moment-present-clause-credits g c = c.let_go_late.ensures.credits ∙ c.tick.ensures.credits

pub returns-then-moment-present-clause-no_row : goal.returns-then-moment-present-clause-no_row
returns-then-moment-present-clause-no_row g c = c.let_go_late.ensures.gone.did.row

pub returns-then-moment-present-clause-rest : goal.returns-then-moment-present-clause-rest
returns-then-moment-present-clause-rest g c = alone_late (state_of c.args.pass.now.seat.me.0) (state_of c.tick.new.pass.seat.me.0) (state_of c.let_go_late.new.pass.seat.me.0) c.tick.ensures.rest c.let_go_late.ensures.rest

-- ## Not later

pub returns-clause-passes : goal.returns-clause-passes
returns-clause-passes g c =
    let to = moment_for c.args.moment in
    let now = (state_of c.args.pass.now.seat.me.0).moment in
    let early : nat_lt now to ≡ false = not_below now to (omega (arith, c.requires.present, c.min-moment.ensures, c.if-moment-present.false)) in
    passes_none to _ _ early c.let_go_late-2.ensures.gone

pub returns-clause-at_once : goal.returns-clause-at_once
returns-clause-at_once g c rested =
    let to = moment_for c.args.moment in
    let now = (state_of c.args.pass.now.seat.me.0).moment in
    let early : nat_lt now to ≡ false = not_below now to (omega (arith, c.requires.present, c.min-moment.ensures, c.if-moment-present.false)) in
    absurd (rested_later to c.args.pass.now.seat.me.0 rested early)

pub returns-clause-moment : goal.returns-clause-moment
returns-clause-moment g c =
    let now = (state_of c.args.pass.now.seat.me.0).moment in
    c.let_go_late-2.ensures.rest.stands.moment
    ∙ sym (present_is now (moment_for c.args.moment) (omega (arith, c.requires.present, c.min-moment.ensures, c.if-moment-present.false)))

pub returns-clause-no_row : goal.returns-clause-no_row
returns-clause-no_row g c = c.let_go_late-2.ensures.gone.did.row

pub returns-clause-rest : goal.returns-clause-rest
returns-clause-rest g c = alone_moment _ _ c.let_go_late-2.ensures.rest
