use Rattle.std.proofs.Common.{◌≡◌, Bool, Some, None, IfSome, inl, inr, sym, subst}
use Rattle.http_read.specs.RequestParts.{RequestParts}
use Rattle.http_core.specs.Ask.{IsServedOf, plan_for}
use Rattle.conn_state.specs.Replies.{IsResponse}
use Rattle.conn_state.specs.Outgoing.{IsUnsentOf, pending_bytes}
use Rattle.conn_state.proofs.AnswerLemmas.{ready, served-of, held-answered, held-lost, takes-note}
use Rattle.conn_state.proofs.conn.Conn.answer.Goals as goal

pub take_note-requires-clause-served : goal.take_note-requires-clause-served
take_note-requires-clause-served g c =
    let r = ready _ _ c.args.self.now c.self.inside.plan c.self.inside.unsent c.args.note c.self.invariant c.self.view_is c.requires.asked c.requires.not_shut in
    subst (λ st. IfSome c.self.inside.plan (λ p. IsServedOf st p.served)) (sym c.deref.ensures)
    (served-of c.self.inside.site.value c.self.inside.reader.stage r.ask c.self.inside.plan r.planned)

pub invariant_of-self-in-Err : goal.invariant_of-self-in-Err
invariant_of-self-in-Err g c =
    let r = ready _ _ c.args.self.now c.self.inside.plan c.self.inside.unsent c.args.note c.self.invariant c.self.view_is c.requires.asked c.requires.not_shut in
    rw c.in-Err.ensures.err
    (held-lost c.follows_what_was_read.ensures.may _ _ c.self.inside.plan c.self.inside.unsent c.args.note c.self.invariant r)

pub invariant_of-self : goal.invariant_of-self
invariant_of-self g c =
    let taken = c.in-Ok.ensures in
    let unsent = c.in-Ok.unsent in
    let planned = subst (λ st. (request : RequestParts) → c.self.inside.plan ≡ Some (plan_for st request) → IsResponse st (inl request) c.args.note (pending_bytes st unsent))
    c.deref.ensures taken.planned in
    let refused = subst (λ st. c.self.inside.plan ≡ None → (expected : Bool)
    → IsResponse st (inr (record { code = c.args.note.code; expected = expected })) c.args.note (pending_bytes st unsent)) c.deref.ensures taken.refused in
    held-answered c.answered_items_go_on.ensures c.replies_go_on.ensures c.responses_have_bytes.ensures c.follows_what_was_read.ensures.first
    _ _ c.args.self.now c.self.inside.plan c.self.inside.unsent unsent c.args.note c.take_note.new.notes c.leave_item.new.self c.self.invariant c.self.view_is c.requires.asked
    c.requires.not_shut taken.ok planned refused c.leave_item.ensures.limits c.leave_item.ensures.leaves (subst (λ st. IsUnsentOf st unsent) c.deref.ensures taken.of) c.leave_item.ensures.untold

pub returns-in-Ok-clause-ok : goal.returns-in-Ok-clause-ok
returns-in-Ok-clause-ok g c =
    let taken = c.in-Ok.ensures in
    let unsent = c.in-Ok.unsent in
    let planned = subst (λ st. (request : RequestParts) → c.self.inside.plan ≡ Some (plan_for st request) → IsResponse st (inl request) c.args.note (pending_bytes st unsent))
    c.deref.ensures taken.planned in
    let refused = subst (λ st. c.self.inside.plan ≡ None → (expected : Bool)
    → IsResponse st (inr (record { code = c.args.note.code; expected = expected })) c.args.note (pending_bytes st unsent)) c.deref.ensures taken.refused in
    takes-note c.answered_items_go_on.ensures c.replies_go_on.ensures c.responses_have_bytes.ensures c.follows_what_was_read.ensures.first
    _ _ c.args.self.now c.self.inside.plan c.self.inside.unsent unsent c.args.note c.take_note.new.notes c.leave_item.new.self c.self.invariant c.self.view_is c.requires.asked
    c.requires.not_shut taken.ok planned refused c.leave_item.ensures.limits c.leave_item.ensures.leaves
