use Rattle.std.proofs.Common.{◌≡◌, true, false, not, ap, sym, ◌∙◌}
use Rattle.std.specs.List.{list_any}
use Rattle.conn_machine.specs.Children.{is_empty}
use Rattle.conn_machine.specs.States.{is_serving}
use Rattle.conn_machine.specs.declared.child.Child.{Child}
use Rattle.conn_machine.specs.declared.state.State.{State}
use Rattle.rounds.proofs.GoneLemmas.{gone-empty, gone-unserving, is-gone}
use Rattle.rounds.proofs.TimelyLemmas.{at-end-unserving, not-at_end_serving}
use Rattle.rounds.proofs.round.is_gone.Goals as goal

pub returns-then-is_serving-clause-gone : goal.returns-then-is_serving-clause-gone
returns-then-is_serving-clause-gone g c =
    let s = c.args.board.now.book.state in
    let serves : is_serving s.going ≡ true =
    ap (λ (t : State). is_serving t.going) (sym c.state-state.ensures) ∙ sym c.is_serving.ensures ∙ c.if-is_serving.true in
    ((λ no. absurd (cc)), (λ gone. absurd (cc (serves, gone-unserving s gone))))

pub returns-clause-gone : goal.returns-clause-gone
returns-clause-gone g c =
    let s = c.args.board.now.book.state in
    let serves : is_serving s.going ≡ false =
    ap (λ (t : State). is_serving t.going) (sym c.state-state.ensures) ∙ sym c.is_serving.ensures ∙ c.if-is_serving.false in
    let some : c.has_some.result ≡ list_any (λ (c : Child). not (is_empty c.phase)) s.children =
    c.has_some.ensures ∙ ap (list_any (λ (c : Child). not (is_empty c.phase))) (c.as_slice.ensures ∙ ap (λ (t : State). t.children) c.state-state.ensures) in
    ((λ none. is-gone s c.has_some.result c.show.ensures.sound c.requires serves some none), (λ gone. gone-empty s c.has_some.result some gone))

pub returns-then-is_serving-clause-end : goal.returns-then-is_serving-clause-end
returns-then-is_serving-clause-end g c =
    let s = c.args.board.now.book.state in
    let serves : is_serving s.going ≡ true =
    ap (λ (t : State). is_serving t.going) (sym c.state-state.ensures) ∙ sym c.is_serving.ensures ∙ c.if-is_serving.true in
    sym (not-at_end_serving s serves)

pub returns-clause-end : goal.returns-clause-end
returns-clause-end g c =
    let s = c.args.board.now.book.state in
    let serves : is_serving s.going ≡ false =
    ap (λ (t : State). is_serving t.going) (sym c.state-state.ensures) ∙ sym c.is_serving.ensures ∙ c.if-is_serving.false in
    let some : c.has_some.result ≡ list_any (λ (c : Child). not (is_empty c.phase)) s.children =
    c.has_some.ensures ∙ ap (list_any (λ (c : Child). not (is_empty c.phase))) (c.as_slice.ensures ∙ ap (λ (t : State). t.children) c.state-state.ensures) in
    ap not some ∙ sym (at-end-unserving s serves c.requires)
