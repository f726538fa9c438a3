use Rattle.std.proofs.Common.{◌≡◌, [], length, subst, sym, ◌∙◌, ◌-◌, arith}
use Rattle.std.proofs.lemmas.Option.{slice_get_within}
use Rattle.conn_machine.specs.Sound.{IsSound}
use Rattle.table_rule.specs.declared.view.Origin.{Origin}
use Rattle.table_rule.specs.Tie.{origin_of}
use Rattle.board.specs.Ledger.{ledger_of}
use Rattle.board_lock.specs.Passes.{fresh_view}
use Rattle.listener_hands.specs.Opened.{opening_origin}
use Rattle.listener_hands.proofs.OpeningLemmas.{first_listens, first_opens, fresh_is, last_is, numbered, opens_dropped, opens_live, opens_own, rest_is, state_is}
use Rattle.listener_hands.proofs.opening.open.Goals as goal

pub returns-in-Ok-clause-own : goal.returns-in-Ok-clause-own
returns-in-Ok-clause-own g c =
    last_is (λ p pass. pass.seat.table_id ≡ c.in-Ok.shared.table.shared.table_id) c.in-Ok.all.items c.pop.new.self.items c.in-Some.pass
    (sym c.reverse.ensures.items ∙ c.in-Some.ensures.items) c.in-Ok.ensures.own

pub returns-in-Ok-clause-listener : goal.returns-in-Ok-clause-listener
returns-in-Ok-clause-listener g c =
    let b = c.in_ok-board.board in
    let is = last_is (λ p pass. pass.seat.me ≡ (fresh_view (origin_of (ledger_of b)) p, [])) c.in-Ok.all.items c.pop.new.self.items c.in-Some.pass
    (sym c.reverse.ensures.items ∙ c.in-Some.ensures.items) c.in-Ok.ensures.fresh in
    first_listens (origin_of (ledger_of b)) c.in-Some.pass.seat.me is

pub returns-in-Ok-clause-opens : goal.returns-in-Ok-clause-opens
returns-in-Ok-clause-opens g c =
    let b = c.in_ok-board.board in
    let is = last_is (λ p pass. pass.seat.me ≡ (fresh_view (origin_of (ledger_of b)) p, [])) c.in-Ok.all.items c.pop.new.self.items c.in-Some.pass
    (sym c.reverse.ensures.items ∙ c.in-Some.ensures.items) c.in-Ok.ensures.fresh in
    let opens = first_opens (opening_origin c.args.slots c.args.children c.args.passes c.args.shape) c.in-Some.pass.seat.me
    (fresh_is b c.args.slots c.args.children c.args.passes c.args.shape 0 c.in-Some.pass.seat.me c.in_ok-board.ensures.base c.in_ok-board.ensures.passes is) in
    opens

pub returns-in-Ok-clause-state : goal.returns-in-Ok-clause-state
returns-in-Ok-clause-state g c =
    let b = c.in_ok-board.board in
    let is = last_is (λ p pass. pass.seat.me ≡ (fresh_view (origin_of (ledger_of b)) p, [])) c.in-Ok.all.items c.pop.new.self.items c.in-Some.pass
    (sym c.reverse.ensures.items ∙ c.in-Some.ensures.items) c.in-Ok.ensures.fresh in
    let opens = first_opens (opening_origin c.args.slots c.args.children c.args.passes c.args.shape) c.in-Some.pass.seat.me
    (fresh_is b c.args.slots c.args.children c.args.passes c.args.shape 0 c.in-Some.pass.seat.me c.in_ok-board.ensures.base c.in_ok-board.ensures.passes is) in
    state_is c.args.slots c.args.children c.args.passes c.args.shape c.in-Some.pass.seat.me.0 opens

pub returns-in-Ok-clause-opened : goal.returns-in-Ok-clause-opened
returns-in-Ok-clause-opened g c =
    let b = c.in_ok-board.board in
    let is = last_is (λ p pass. pass.seat.me ≡ (fresh_view (origin_of (ledger_of b)) p, [])) c.in-Ok.all.items c.pop.new.self.items c.in-Some.pass
    (sym c.reverse.ensures.items ∙ c.in-Some.ensures.items) c.in-Ok.ensures.fresh in
    let opens = first_opens (opening_origin c.args.slots c.args.children c.args.passes c.args.shape) c.in-Some.pass.seat.me
    (fresh_is b c.args.slots c.args.children c.args.passes c.args.shape 0 c.in-Some.pass.seat.me c.in_ok-board.ensures.base c.in_ok-board.ensures.passes is) in
    opens_own c.args.slots c.args.children c.args.passes c.args.shape c.in-Some.pass.seat.me.0 opens c.each_pass_has_its_own_connection.ensures c.requires.shape

pub returns-in-Ok-clause-none : goal.returns-in-Ok-clause-none
returns-in-Ok-clause-none g c =
    let b = c.in_ok-board.board in
    let is = last_is (λ p pass. pass.seat.me ≡ (fresh_view (origin_of (ledger_of b)) p, [])) c.in-Ok.all.items c.pop.new.self.items c.in-Some.pass
    (sym c.reverse.ensures.items ∙ c.in-Some.ensures.items) c.in-Ok.ensures.fresh in
    let opens = first_opens (opening_origin c.args.slots c.args.children c.args.passes c.args.shape) c.in-Some.pass.seat.me
    (fresh_is b c.args.slots c.args.children c.args.passes c.args.shape 0 c.in-Some.pass.seat.me c.in_ok-board.ensures.base c.in_ok-board.ensures.passes is) in
    opens_live c.args.slots c.args.children c.args.passes c.args.shape c.in-Some.pass.seat.me.0 opens

pub returns-in-Ok-clause-sound : goal.returns-in-Ok-clause-sound
returns-in-Ok-clause-sound g c =
    let b = c.in_ok-board.board in
    let is = last_is (λ p pass. pass.seat.me ≡ (fresh_view (origin_of (ledger_of b)) p, [])) c.in-Ok.all.items c.pop.new.self.items c.in-Some.pass
    (sym c.reverse.ensures.items ∙ c.in-Some.ensures.items) c.in-Ok.ensures.fresh in
    let opens = first_opens (opening_origin c.args.slots c.args.children c.args.passes c.args.shape) c.in-Some.pass.seat.me
    (fresh_is b c.args.slots c.args.children c.args.passes c.args.shape 0 c.in-Some.pass.seat.me c.in_ok-board.ensures.base c.in_ok-board.ensures.passes is) in
    subst (λ (o : Origin). IsSound o.state) (sym opens.origin_is) (c.events_keep_states_sound.ensures.opening c.args.slots c.args.children c.args.shape c.requires.shape)

pub returns-in-Ok-clause-dropped : goal.returns-in-Ok-clause-dropped
returns-in-Ok-clause-dropped g c =
    let b = c.in_ok-board.board in
    let is = last_is (λ p pass. pass.seat.me ≡ (fresh_view (origin_of (ledger_of b)) p, [])) c.in-Ok.all.items c.pop.new.self.items c.in-Some.pass
    (sym c.reverse.ensures.items ∙ c.in-Some.ensures.items) c.in-Ok.ensures.fresh in
    let opens = first_opens (opening_origin c.args.slots c.args.children c.args.passes c.args.shape) c.in-Some.pass.seat.me
    (fresh_is b c.args.slots c.args.children c.args.passes c.args.shape 0 c.in-Some.pass.seat.me c.in_ok-board.ensures.base c.in_ok-board.ensures.passes is) in
    opens_dropped c.args.slots c.args.children c.args.passes c.args.shape c.in-Some.pass.seat.me.0 opens c.folds_are_one_fold.ensures g.N.Known.known

pub returns-in-Ok-clause-theirs : goal.returns-in-Ok-clause-theirs
returns-in-Ok-clause-theirs g c i pass at =
    let rest = c.pop.new.self.items in
    let less = slice_get_within rest i pass at in
    rest_is (λ p pass. pass.seat.table_id ≡ c.in-Ok.shared.table.shared.table_id) c.in-Ok.all.items rest c.in-Some.pass
    (sym c.reverse.ensures.items ∙ c.in-Some.ensures.items) c.in-Ok.ensures.own i (length rest - i) pass at (omega (arith, less))

pub returns-in-Ok-clause-numbered : goal.returns-in-Ok-clause-numbered
returns-in-Ok-clause-numbered g c i pass at =
    let b = c.in_ok-board.board in
    let rest = c.pop.new.self in
    let less = slice_get_within rest.items i pass at in
    numbered (opening_origin c.args.slots c.args.children c.args.passes c.args.shape) rest.len i pass.seat.me (omega (arith, less, rest.ok.0))
    (λ k sum. fresh_is b c.args.slots c.args.children c.args.passes c.args.shape k pass.seat.me c.in_ok-board.ensures.base c.in_ok-board.ensures.passes
    (rest_is (λ p pass. pass.seat.me ≡ (fresh_view (origin_of (ledger_of b)) p, [])) c.in-Ok.all.items rest.items c.in-Some.pass
    (sym c.reverse.ensures.items ∙ c.in-Some.ensures.items) c.in-Ok.ensures.fresh i k pass at (omega (arith, sum, rest.ok.0))))
