use Rattle.std.proofs.Common.{Some, ap, sym, ◌∙◌}
use Rattle.mpm_base.specs.declared.conn.ConnName.{ConnName}
use Rattle.mpm_base.specs.declared.conn.Cause.TheVariants as cause
use Rattle.board.specs.Board.{SeenBoard}
use Rattle.rounds.specs.ClosingInside.{IsRetiringWay}
use Rattle.rounds.proofs.ClosingLemmas.{held-acts, let-go, rest-held}
use Rattle.rounds.proofs.HeldLemmas.{held-hand, held-open, holding, retiring-shows}
use Rattle.rounds.proofs.LeavingLemmas.{may-hold_retiring, retires, retires-from, retires-serves, retiring-lingers}
use Rattle.rounds.proofs.MeasureLemmas.{serving-out}
use Rattle.rounds.proofs.closing.let_go_retiring_one.Goals as goal

pub hold-conn-requires-clause-allowed : goal.hold-conn-requires-clause-allowed
hold-conn-requires-clause-allowed g c =
    may-hold_retiring c.args.board.now.book.state c.args.name _ (retires c.args.board.now.book.state c.args.name c.requires.retires)

pub linger_for-requires-clause-row : goal.linger_for-requires-clause-row
linger_for-requires-clause-row g c = c.hold-conn.ensures.row ∙ ap (λ (n : ConnName). Some n) (sym c.hold-conn.ensures.name)

pub linger_for-requires-clause-hand : goal.linger_for-requires-clause-hand
linger_for-requires-clause-hand g c =
    let s = c.args.board.now.book.state in
    let s' = c.hold-conn.new.self.book.state in
    let is = retires s c.args.name c.requires.retires in
    let holds =
    holding c.rows_change_one_at_a_time.ensures.there s s' c.args.name _ c.hold-conn.result is.found (ap (λ (b : SeenBoard). b.book.state) c.hold-conn.ensures.is) c.hold-conn.ensures.name
    c.hold-conn.ensures.handed c.hold-conn.ensures.way in
    held-hand s s' c.args.name _ c.hold-conn.result holds (retires-serves s c.args.name _ c.show.ensures.sound is)

pub linger_for-requires-clause-open : goal.linger_for-requires-clause-open
linger_for-requires-clause-open g c =
    let s = c.args.board.now.book.state in
    let s' = c.hold-conn.new.self.book.state in
    let is = retires s c.args.name c.requires.retires in
    let holds =
    holding c.rows_change_one_at_a_time.ensures.there s s' c.args.name _ c.hold-conn.result is.found (ap (λ (b : SeenBoard). b.book.state) c.hold-conn.ensures.is) c.hold-conn.ensures.name
    c.hold-conn.ensures.handed c.hold-conn.ensures.way in
    held-open s s' c.args.name _ c.hold-conn.result holds (retires-serves s c.args.name _ c.show.ensures.sound is)

pub linger_for-requires-clause-allowed : goal.linger_for-requires-clause-allowed
linger_for-requires-clause-allowed g c =
    let s = c.args.board.now.book.state in
    let s' = c.hold-conn.new.self.book.state in
    let is = retires s c.args.name c.requires.retires in
    let holds =
    holding c.rows_change_one_at_a_time.ensures.there s s' c.args.name _ c.hold-conn.result is.found (ap (λ (b : SeenBoard). b.book.state) c.hold-conn.ensures.is) c.hold-conn.ensures.name
    c.hold-conn.ensures.handed c.hold-conn.ensures.way in
    retiring-lingers s s' c.args.name _ c.hold-conn.result holds is (retires-serves s c.args.name _ c.show.ensures.sound is) c.hold-conn.ensures.name

pub linger_for-requires-clause-shows : goal.linger_for-requires-clause-shows
linger_for-requires-clause-shows g c =
    let s = c.args.board.now.book.state in
    let s' = c.hold-conn.new.self.book.state in
    let is = retires s c.args.name c.requires.retires in
    let holds =
    holding c.rows_change_one_at_a_time.ensures.there s s' c.args.name _ c.hold-conn.result is.found (ap (λ (b : SeenBoard). b.book.state) c.hold-conn.ensures.is) c.hold-conn.ensures.name
    c.hold-conn.ensures.handed c.hold-conn.ensures.way in
    retiring-shows s' _ c.hold-conn.result holds.held (retires-from s c.args.name _ is)

pub returns-clause-gone : goal.returns-clause-gone
returns-clause-gone g c =
    let left = c.linger_for.ensures.left in
    let-go c.passes_act_in_steps.ensures.acts IsRetiringWay left.way c.args.name c.hold-conn.result.name c.args.board.now.book c.hold-conn.new.self.book c.linger_for.new.board.book left.out
    (held-acts c.passes_act_in_steps.ensures.acts c.args.name _ c.args.board.now c.hold-conn.new.self c.hold-conn.ensures.is c.hold-conn.ensures.entries c.hold-conn.ensures.row)
    c.hold-conn.ensures.name left.acts

pub returns-clause-fewer : goal.returns-clause-fewer
returns-clause-fewer g c =
    let law = c.rows_change_one_at_a_time.ensures in
    let s = c.args.board.now.book.state in
    let is = retires s c.args.name c.requires.retires in
    let left = c.linger_for.ensures.left in
    serving-out (record { there = law.there; kept = law.kept; more = law.more; none = law.none })
    s c.hold-conn.new.self.book.state c.linger_for.new.board.book.state c.args.name c.hold-conn.result.name cause.Retiring left.way _ is.found
    is.waits (retires-serves s c.args.name _ c.show.ensures.sound is) (ap (λ (b : SeenBoard). b.book.state) c.hold-conn.ensures.is)
    c.hold-conn.ensures.name left.out left.state

pub returns-clause-rest : goal.returns-clause-rest
returns-clause-rest g c =
    c.passes_act_in_steps.ensures.rest c.args.board.now.book c.hold-conn.new.self.book c.linger_for.new.board.book
    (rest-held c.args.name _ c.args.board.now c.hold-conn.new.self c.hold-conn.ensures.is) c.linger_for.ensures.rest
