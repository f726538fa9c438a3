use Rattle.std.proofs.Common.{sym, ap, subst, ◌∙◌}
use Rattle.std.proofs.lemmas.Result.{on_err_weaker, on_ok_weaker}
use Rattle.conn_machine.specs.declared.event.Refusal.{Refusal}
use Rattle.conn_machine.specs.declared.event.Refusal.TheVariants as refusal
use Rattle.listener_round.specs.OrdersInside.{AnswersRefusal}
use Rattle.listener_round.specs.OrdersInside as inside
use Rattle.listener_round.specs.StandingInside.{standing}
use Rattle.listener_round.proofs.RestartLemmas.{behind-as, breaks-as, carried-stands, cause-as, does-carried, does-refused, in_time-carried, in_time-either, in_time-refused, knows-as, knows-carried, knows-refused, late-stands, makes-carried, makes-refused, orders-carried, orders-refused, serves-either}
use Rattle.listener_round.proofs.RefusalLemmas.{answers-carried, answers-refused, cause-says, late-says}
use Rattle.listener_round.proofs.listener_state.Listener.restart.Goals as goal

pub returns-then-not-may_begin-clause-does : goal.returns-then-not-may_begin-clause-does
returns-then-not-may_begin-clause-does g c =
    on_ok_weaker c.refuse.result (does-refused refusal.Late c.args.self.now.board.book c.refuse.new.self.board.book) c.refuse.ensures.refuses

pub returns-then-not-may_begin-clause-stands : goal.returns-then-not-may_begin-clause-stands
returns-then-not-may_begin-clause-stands g c =
    on_ok_weaker c.refuse.result
    (λ refuses.
    behind-as g.N.Known.known c.args.self.now.config
    (λ f. standing c.args.self.now.edition.stop_ms (g.D.Store.seen c.args.store.now) f c.args.self.now.board.book) c.args.self.now.edition.stop_ms
    c.refuse.new.self.edition.stop_ms (g.D.Store.seen c.renew.new.self) c.refuse.new.self.board.book
    (ap (λ (l : _). l.edition.stop_ms) c.refuse.ensures.others)
    (late-stands c.histories_join.ensures.state g.N.Known.known c.args.self.now.config c.args.self.now.edition.stop_ms
    (g.D.Store.seen c.args.store.now) (g.D.Store.seen c.renew.new.self) c.args.self.now.board.book c.refuse.new.self.board.book refuses
    c.show.ensures.after c.may_begin.ensures.in_range (sym c.may_begin.ensures.may ∙ c.if-not-may_begin.true)
    c.renew.ensures))
    c.refuse.ensures.refuses

pub returns-then-not-may_begin-clause-broken : goal.returns-then-not-may_begin-clause-broken
returns-then-not-may_begin-clause-broken g c =
    on_err_weaker c.refuse.result
    (λ same.
    breaks-as g.N.Known.known c.args.self.now.config c.args.self.now.edition.stop_ms c.refuse.new.self.edition.stop_ms
    (g.D.Store.seen c.args.store.now) (g.D.Store.seen c.renew.new.self) c.args.self.now.board.book c.refuse.new.self.board.book
    (ap (λ (l : _). l.edition.stop_ms) same) (ap (λ (l : _). l.board.book) same) c.renew.ensures)
    c.refuse.ensures.same

pub returns-then-not-may_begin-clause-knows : goal.returns-then-not-may_begin-clause-knows
returns-then-not-may_begin-clause-knows g c =
    on_ok_weaker c.refuse.result
    (λ refuses.
    knows-as g.N.Known.known c.args.self.now.config c.refuse.new.self.config (g.D.Store.seen c.renew.new.self).told c.refuse.new.self.board.book
    (ap (λ (l : _). l.config) c.refuse.ensures.others)
    (knows-refused refusal.Late g.N.Known.known c.args.self.now.config (g.D.Store.seen c.args.store.now) (g.D.Store.seen c.renew.new.self)
    c.args.self.now.board.book c.refuse.new.self.board.book refuses c.renew.ensures c.requires.knows))
    c.refuse.ensures.refuses

pub returns-in-Ok-clause-does : goal.returns-in-Ok-clause-does
returns-in-Ok-clause-does g c =
    on_ok_weaker c.begin.result
    (does-carried c.in-Ok.plan c.args.self.now.board.book c.begin.new.self.board.book c.args.self.now.edition c.begin.new.self.edition)
    c.begin.ensures.carries

pub returns-in-Ok-clause-stands : goal.returns-in-Ok-clause-stands
returns-in-Ok-clause-stands g c =
    on_ok_weaker c.begin.result
    (λ carries. carried-stands c.histories_join.ensures.state g.N.Known.known c.args.self.now.config (g.D.Store.seen c.args.store.now)
    (g.D.Store.seen c.reload.new.store) c.args.self.now.board.book c.begin.new.self.board.book c.in-Ok.plan c.args.self.now.edition
    c.begin.new.self.edition carries c.show.ensures.after c.in-Ok.ensures.store c.in-Ok.ensures.answer)
    c.begin.ensures.carries

pub returns-in-Ok-clause-broken : goal.returns-in-Ok-clause-broken
returns-in-Ok-clause-broken g c =
    on_err_weaker c.begin.result
    (λ same.
    breaks-as g.N.Known.known c.args.self.now.config c.args.self.now.edition.stop_ms c.begin.new.self.edition.stop_ms
    (g.D.Store.seen c.args.store.now) (g.D.Store.seen c.reload.new.store) c.args.self.now.board.book c.begin.new.self.board.book
    (ap (λ (l : _). l.edition.stop_ms) same) (ap (λ (l : _). l.board.book) same) c.in-Ok.ensures.store)
    c.begin.ensures.same

pub returns-in-Ok-clause-knows : goal.returns-in-Ok-clause-knows
returns-in-Ok-clause-knows g c =
    on_ok_weaker c.begin.result
    (λ carries.
    knows-as g.N.Known.known c.args.self.now.config c.begin.new.self.config (g.D.Store.seen c.reload.new.store).told c.begin.new.self.board.book
    (ap (λ (l : _). l.config) c.begin.ensures.others)
    (knows-carried c.in-Ok.plan g.N.Known.known c.args.self.now.config (g.D.Store.seen c.args.store.now) (g.D.Store.seen c.reload.new.store)
    c.args.self.now.board.book c.begin.new.self.board.book c.args.self.now.edition c.begin.new.self.edition carries c.in-Ok.ensures.store
    c.requires.knows))
    c.begin.ensures.carries

pub returns-in-Ok-clause-serves : goal.returns-in-Ok-clause-serves
returns-in-Ok-clause-serves g c =
    serves-either c.generations_keep_their_editions.ensures g.N.Known.known c.args.self.now.config (g.D.Store.seen c.args.store.now)
    (g.D.Store.seen c.reload.new.store) c.args.self.now.board.book c.begin.new.self.board.book c.in-Ok.plan c.args.self.now.edition
    c.begin.new.self.edition c.begin.result c.begin.ensures.carries
    (on_err_weaker c.begin.result (λ same. (ap (λ (l : _). l.board.book) same, ap (λ (l : _). l.edition) same)) c.begin.ensures.same)
    c.in-Ok.ensures.store c.in-Ok.ensures.answer c.requires.knows c.requires.serves

pub returns-in-Err-clause-does : goal.returns-in-Err-clause-does
returns-in-Err-clause-does g c =
    on_ok_weaker c.refuse-in-Err.result (does-refused c.reason_for.result c.args.self.now.board.book c.refuse-in-Err.new.self.board.book)
    c.refuse-in-Err.ensures.refuses

pub returns-in-Err-clause-stands : goal.returns-in-Err-clause-stands
returns-in-Err-clause-stands g c =
    on_ok_weaker c.refuse-in-Err.result
    (λ refuses.
    behind-as g.N.Known.known c.args.self.now.config
    (λ f. standing c.args.self.now.edition.stop_ms (g.D.Store.seen c.args.store.now) f c.args.self.now.board.book) c.args.self.now.edition.stop_ms
    c.refuse-in-Err.new.self.edition.stop_ms (g.D.Store.seen c.reload.new.store) c.refuse-in-Err.new.self.board.book
    (ap (λ (l : _). l.edition.stop_ms) c.refuse-in-Err.ensures.others)
    (cause-as c.histories_join.ensures.state g.N.Known.known c.args.self.now.config c.args.self.now.edition.stop_ms (g.D.Store.seen c.args.store.now)
    (g.D.Store.seen c.reload.new.store) c.args.self.now.board.book c.refuse-in-Err.new.self.board.book c.in-Err.fault c.reason_for.result
    c.reason_for.ensures refuses (sym c.may_begin.ensures.may ∙ c.if-not-may_begin.false) c.show.ensures.after c.in-Err.ensures.store
    c.in-Err.ensures.answer))
    c.refuse-in-Err.ensures.refuses

pub returns-in-Err-clause-broken : goal.returns-in-Err-clause-broken
returns-in-Err-clause-broken g c =
    on_err_weaker c.refuse-in-Err.result
    (λ same.
    breaks-as g.N.Known.known c.args.self.now.config c.args.self.now.edition.stop_ms c.refuse-in-Err.new.self.edition.stop_ms
    (g.D.Store.seen c.args.store.now) (g.D.Store.seen c.reload.new.store) c.args.self.now.board.book c.refuse-in-Err.new.self.board.book
    (ap (λ (l : _). l.edition.stop_ms) same) (ap (λ (l : _). l.board.book) same) c.in-Err.ensures.store)
    c.refuse-in-Err.ensures.same

pub returns-in-Err-clause-knows : goal.returns-in-Err-clause-knows
returns-in-Err-clause-knows g c =
    on_ok_weaker c.refuse-in-Err.result
    (λ refuses.
    knows-as g.N.Known.known c.args.self.now.config c.refuse-in-Err.new.self.config (g.D.Store.seen c.reload.new.store).told
    c.refuse-in-Err.new.self.board.book (ap (λ (l : _). l.config) c.refuse-in-Err.ensures.others)
    (knows-refused c.reason_for.result g.N.Known.known c.args.self.now.config (g.D.Store.seen c.args.store.now) (g.D.Store.seen c.reload.new.store)
    c.args.self.now.board.book c.refuse-in-Err.new.self.board.book refuses c.in-Err.ensures.store c.requires.knows))
    c.refuse-in-Err.ensures.refuses

pub returns-then-not-may_begin-clause-makes : goal.returns-then-not-may_begin-clause-makes
returns-then-not-may_begin-clause-makes g c =
    on_ok_weaker c.refuse.result (makes-refused refusal.Late c.args.self.now.board.book c.refuse.new.self.board.book) c.refuse.ensures.refuses

pub returns-then-not-may_begin-clause-timely : goal.returns-then-not-may_begin-clause-timely
returns-then-not-may_begin-clause-timely g c before =
    let did =
    in_time-either c.refuse.result c.args.self.now.board.book c.refuse.new.self.board.book c.refuse.ensures.refuses
    (λ refuses. in_time-refused refusal.Late c.args.self.now.board.book c.refuse.new.self.board.book refuses c.show.ensures.after c.requires.in_time)
    (on_err_weaker c.refuse.result (λ same. ap (λ (l : _). l.board.book) same) c.refuse.ensures.same) c.requires.in_time in
    did.timely before

pub returns-then-not-may_begin-clause-in_time : goal.returns-then-not-may_begin-clause-in_time
returns-then-not-may_begin-clause-in_time g c =
    let did =
    in_time-either c.refuse.result c.args.self.now.board.book c.refuse.new.self.board.book c.refuse.ensures.refuses
    (λ refuses. in_time-refused refusal.Late c.args.self.now.board.book c.refuse.new.self.board.book refuses c.show.ensures.after c.requires.in_time)
    (on_err_weaker c.refuse.result (λ same. ap (λ (l : _). l.board.book) same) c.refuse.ensures.same) c.requires.in_time in
    did.in_time

pub returns-in-Ok-clause-makes : goal.returns-in-Ok-clause-makes
returns-in-Ok-clause-makes g c =
    on_ok_weaker c.begin.result
    (makes-carried c.in-Ok.plan c.args.self.now.board.book c.begin.new.self.board.book c.args.self.now.edition c.begin.new.self.edition)
    c.begin.ensures.carries

pub returns-in-Ok-clause-timely : goal.returns-in-Ok-clause-timely
returns-in-Ok-clause-timely g c before =
    let did =
    in_time-either c.begin.result c.args.self.now.board.book c.begin.new.self.board.book c.begin.ensures.carries
    (λ carries. in_time-carried c.in-Ok.plan c.args.self.now.board.book c.begin.new.self.board.book c.args.self.now.edition c.begin.new.self.edition carries c.show.ensures.after c.requires.in_time)
    (on_err_weaker c.begin.result (λ same. ap (λ (l : _). l.board.book) same) c.begin.ensures.same) c.requires.in_time in
    did.timely before

pub returns-in-Ok-clause-in_time : goal.returns-in-Ok-clause-in_time
returns-in-Ok-clause-in_time g c =
    let did =
    in_time-either c.begin.result c.args.self.now.board.book c.begin.new.self.board.book c.begin.ensures.carries
    (λ carries. in_time-carried c.in-Ok.plan c.args.self.now.board.book c.begin.new.self.board.book c.args.self.now.edition c.begin.new.self.edition carries c.show.ensures.after c.requires.in_time)
    (on_err_weaker c.begin.result (λ same. ap (λ (l : _). l.board.book) same) c.begin.ensures.same) c.requires.in_time in
    did.in_time

pub returns-in-Err-clause-makes : goal.returns-in-Err-clause-makes
returns-in-Err-clause-makes g c =
    on_ok_weaker c.refuse-in-Err.result (makes-refused c.reason_for.result c.args.self.now.board.book c.refuse-in-Err.new.self.board.book)
    c.refuse-in-Err.ensures.refuses

pub returns-in-Err-clause-timely : goal.returns-in-Err-clause-timely
returns-in-Err-clause-timely g c before =
    let did =
    in_time-either c.refuse-in-Err.result c.args.self.now.board.book c.refuse-in-Err.new.self.board.book c.refuse-in-Err.ensures.refuses
    (λ refuses. in_time-refused c.reason_for.result c.args.self.now.board.book c.refuse-in-Err.new.self.board.book refuses c.show.ensures.after c.requires.in_time)
    (on_err_weaker c.refuse-in-Err.result (λ same. ap (λ (l : _). l.board.book) same) c.refuse-in-Err.ensures.same) c.requires.in_time in
    did.timely before

pub returns-in-Err-clause-in_time : goal.returns-in-Err-clause-in_time
returns-in-Err-clause-in_time g c =
    let did =
    in_time-either c.refuse-in-Err.result c.args.self.now.board.book c.refuse-in-Err.new.self.board.book c.refuse-in-Err.ensures.refuses
    (λ refuses. in_time-refused c.reason_for.result c.args.self.now.board.book c.refuse-in-Err.new.self.board.book refuses c.show.ensures.after c.requires.in_time)
    (on_err_weaker c.refuse-in-Err.result (λ same. ap (λ (l : _). l.board.book) same) c.refuse-in-Err.ensures.same) c.requires.in_time in
    did.in_time

pub returns-then-not-may_begin-clause-orders : goal.returns-then-not-may_begin-clause-orders
returns-then-not-may_begin-clause-orders g c =
    on_ok_weaker c.refuse.result (orders-refused refusal.Late c.args.self.now.board.book c.refuse.new.self.board.book) c.refuse.ensures.refuses

pub returns-in-Ok-clause-orders : goal.returns-in-Ok-clause-orders
returns-in-Ok-clause-orders g c =
    on_ok_weaker c.begin.result
    (orders-carried c.in-Ok.plan c.args.self.now.board.book c.begin.new.self.board.book c.args.self.now.edition c.begin.new.self.edition)
    c.begin.ensures.carries

pub returns-in-Err-clause-orders : goal.returns-in-Err-clause-orders
returns-in-Err-clause-orders g c =
    on_ok_weaker c.refuse-in-Err.result (orders-refused c.reason_for.result c.args.self.now.board.book c.refuse-in-Err.new.self.board.book)
    c.refuse-in-Err.ensures.refuses

-- ## What its line is answered

pub returns-then-not-may_begin-clause-answers : goal.returns-then-not-may_begin-clause-answers
returns-then-not-may_begin-clause-answers g c =
    answers-refused c.args.self.now.config (g.D.Store.seen c.args.store.now) c.args.self.now.board.book c.refuse.new.self.board.book refusal.Late
    c.late_answer.result c.refuse.result c.refuse.ensures.refuses c.refuse.ensures.says
    (subst (AnswersRefusal c.args.self.now.config (g.D.Store.seen c.args.store.now) refusal.Late) (sym c.late_answer.ensures)
    (late-says c.args.self.now.config (g.D.Store.seen c.args.store.now)))

pub returns-in-Ok-clause-answers : goal.returns-in-Ok-clause-answers
returns-in-Ok-clause-answers g c =
    answers-carried c.args.self.now.config (g.D.Store.seen c.args.store.now) c.in-Ok.plan c.args.self.now.board.book c.begin.new.self.board.book
    c.args.self.now.edition c.begin.new.self.edition c.begin.result c.begin.ensures.carries c.begin.ensures.answers

pub returns-in-Err-clause-answers : goal.returns-in-Err-clause-answers
returns-in-Err-clause-answers g c =
    let says : AnswersRefusal c.args.self.now.config (g.D.Store.seen c.args.store.now) c.reason_for.result c.refused_answer-answer.result =
    subst (λ (reason : Refusal). AnswersRefusal c.args.self.now.config (g.D.Store.seen c.args.store.now) reason c.refused_answer-answer.result)
    (sym c.reason_for.ensures)
    (subst (AnswersRefusal c.args.self.now.config (g.D.Store.seen c.args.store.now) (inside.reason_for c.in-Err.fault)) (sym c.refused_answer-answer.ensures)
    (cause-says c.args.self.now.config (g.D.Store.seen c.args.store.now) (g.D.Store.seen c.reload.new.store) c.in-Err.fault c.in-Err.ensures.store
    c.in-Err.ensures.answer)) in
    answers-refused c.args.self.now.config (g.D.Store.seen c.args.store.now) c.args.self.now.board.book c.refuse-in-Err.new.self.board.book
    c.reason_for.result c.refused_answer-answer.result c.refuse-in-Err.result c.refuse-in-Err.ensures.refuses c.refuse-in-Err.ensures.says says
