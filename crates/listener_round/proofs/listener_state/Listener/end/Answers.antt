use Rattle.std.proofs.Common.{◌≡◌, ℕ, Option, Bool, [], ◌∷◌, None, Some, true, false, append-nil, refl, sym, ap, subst, ◌∙◌, rules}
use Rattle.mpm_base.specs.CommandWord.{command_word}
use Rattle.mpm_base.specs.Front.{Commands, FrontSeen}
use Rattle.mpm_base.specs.Store.{StoreSeen}
use Rattle.mpm_base.specs.declared.script_line.CommandWord.TheVariants as word
use Rattle.conn_machine.specs.declared.event.Commanded.TheVariants as commanded
use Rattle.conn_machine.specs.declared.state.State.{State}
use Rattle.conn_machine.specs.States.{is_serving}
use Rattle.board.specs.Board.{SeenBoard}
use Rattle.listener_round.specs.Orders.{ending_moment}
use Rattle.listener_round.specs.OrdersInside.{ActsEnding, MakesOrders, end_if}
use Rattle.listener_round.specs.Pace.{brought}
use Rattle.conn_machine.specs.declared.event.Event.TheVariants as event
use Rattle.conn_machine.specs.Table.{next}
use Rattle.rounds.specs.TableInside.{StandsInTime}
use Rattle.board_book.specs.Timely.{AreTimely}
use Rattle.rounds.proofs.TimelyLemmas.{not-at_end, timely-command}
use Rattle.listener_round.proofs.BroughtLemmas.{brought-as}
use Rattle.listener_round.specs.StandingInside.{StandsBroken, standing}
use Rattle.listener_round.proofs.RestartLemmas.{ended-by, ended-stands, ending-stands, in_time-ending, unended-breaks}
use Rattle.listener_round.proofs.StandingLemmas.{lines-hushed}
use Rattle.listener_round.proofs.listener_state.Listener.end.Goals as goal

pub returns-then-not-is_serving-clause-stands : goal.returns-then-not-is_serving-clause-stands
returns-then-not-is_serving-clause-stands g c f store gave =
    ended-stands g.N.Known.known c.args.self.now.config c.args.self.now.edition.stop_ms store f (g.F.Front.seen c.args.front.now) c.args.self.now.board.book gave

-- the server takes no connections any more, and nothing is done
pub returns-then-not-is_serving-clause-makes : goal.returns-then-not-is_serving-clause-makes
returns-then-not-is_serving-clause-makes g c =
    let a = c.args.self.now.board.book in
    let off : is_serving a.state.going ≡ false =
    sym (c.is_serving.ensures ∙ ap (λ (s : State). is_serving s.going) c.state.ensures) ∙ c.if-not-is_serving.true in
    subst (λ (serves : Bool). MakesOrders (end_if serves) a a) (sym off) (sym (append-nil (brought a.history)))

pub returns-in_err-command-clause-broken : goal.returns-in_err-command-clause-broken
returns-in_err-command-clause-broken g c =
    let known = g.N.Known.known in
    let config = c.args.self.now.config in
    let ms = c.args.self.now.edition.stop_ms in
    let now = g.F.Front.seen c.args.front.now in
    let a = c.args.self.now.board.book in
    let broken : (f : FrontSeen) (store : StoreSeen) → Commands f now (Some (command_word word.GracefulStop))
    → StandsBroken known config (standing ms store f a) (standing ms store now c.command.new.self.book) =
    λ f store gave.
    subst (λ (x : SeenBoard). StandsBroken known config (standing ms store f a) (standing ms store now x.book)) (sym c.in_err-command.ensures.err)
    (unended-breaks known config ms store f now a gave) in
    search (rules, broken)

pub returns-clause-does : goal.returns-clause-does
returns-clause-does g c = record {
  orders = commanded.GracefulStop (ending_moment c.args.self.now.board.book.state.moment c.args.self.now.edition.stop_ms) ∷ [];
  none = tt;
  acts =
      ended-by c.passes_act_in_steps.ensures.acts c.ending_moment-until.result c.args.self.now.edition.stop_ms c.args.self.now.board.book c.command.new.self.book
      (search rules) (ap (λ (x : SeenBoard). x.book) c.in_ok-command.ensures.ok.new_is) c.in_ok-command.ensures.entries
      (c.in_ok-command.ensures.row ∙ c.requires.free);
}

pub returns-clause-stands : goal.returns-clause-stands
returns-clause-stands g c f store gave =
    let a = c.args.self.now.board.book in
    let b = c.command.new.self.book in
    ending-stands c.histories_join.ensures.state g.N.Known.known c.args.self.now.config c.args.self.now.edition.stop_ms store f
    (g.F.Front.seen c.args.front.now) (g.F.Front.seen c.hush.new.self) a b
    (ended-by c.passes_act_in_steps.ensures.acts c.ending_moment-until.result c.args.self.now.edition.stop_ms a b
    (search rules) (ap (λ (x : SeenBoard). x.book) c.in_ok-command.ensures.ok.new_is) c.in_ok-command.ensures.entries
    (c.in_ok-command.ensures.row ∙ c.requires.free))
    (sym (c.is_serving.ensures ∙ ap (λ (s : State). is_serving s.going) c.state.ensures) ∙ c.if-not-is_serving.false)
    (ap (λ (x : SeenBoard). is_serving x.book.state.going) c.in_ok-command.ensures.ok.new_is) c.show.ensures.after gave
    (lines-hushed (g.F.Front.seen c.args.front.now) (g.F.Front.seen c.hush.new.self) c.hush.ensures)

pub returns-clause-makes : goal.returns-clause-makes
returns-clause-makes g c =
    let a = c.args.self.now.board.book in
    let b = c.command.new.self.book in
    let on : is_serving a.state.going ≡ true =
    sym (c.is_serving.ensures ∙ ap (λ (s : State). is_serving s.going) c.state.ensures) ∙ c.if-not-is_serving.false in
    let acts =
    ended-by c.passes_act_in_steps.ensures.acts c.ending_moment-until.result c.args.self.now.edition.stop_ms a b
    (search rules) (ap (λ (x : SeenBoard). x.book) c.in_ok-command.ensures.ok.new_is) c.in_ok-command.ensures.entries
    (c.in_ok-command.ensures.row ∙ c.requires.free) in
    subst (λ (serves : Bool). MakesOrders (end_if serves) a b) (sym on) (brought-as _ None a b _ acts refl)

pub returns-clause-timely : goal.returns-clause-timely
returns-clause-timely g c before =
    let a = c.args.self.now.board.book in
    let b = c.command.new.self.book in
    let acts =
    ended-by c.passes_act_in_steps.ensures.acts c.ending_moment-until.result c.args.self.now.edition.stop_ms a b
    (search rules) (ap (λ (x : SeenBoard). x.book) c.in_ok-command.ensures.ok.new_is) c.in_ok-command.ensures.entries
    (c.in_ok-command.ensures.row ∙ c.requires.free) in
    timely-command (commanded.GracefulStop (ending_moment a.state.moment c.args.self.now.edition.stop_ms)) a b acts c.show.ensures.after
    (not-at_end a.state c.requires.in_time.staffed) before

pub returns-clause-in_time : goal.returns-clause-in_time
returns-clause-in_time g c =
    let a = c.args.self.now.board.book in
    let b = c.command.new.self.book in
    let moment : c.ending_moment-until.result ≡ ending_moment a.state.moment c.args.self.now.edition.stop_ms = search rules in
    let is : b.state ≡ next a.state (event.Command (commanded.GracefulStop (ending_moment a.state.moment c.args.self.now.edition.stop_ms))) =
    ap (λ (x : SeenBoard). x.book.state) c.in_ok-command.ensures.ok.new_is
    ∙ ap (λ (m : Option ℕ). next a.state (event.Command (commanded.GracefulStop m))) moment in
    subst StandsInTime (sym is)
    (in_time-ending c.args.self.now.edition.stop_ms a.state c.show.ensures.sound.numbers.moment c.requires.in_time.staffed)

pub returns-in_err-command-clause-timely : goal.returns-in_err-command-clause-timely
returns-in_err-command-clause-timely g c before =
    subst (λ (x : SeenBoard). AreTimely x.book.base x.book.history) (sym c.in_err-command.ensures.err) before

pub returns-in_err-command-clause-in_time : goal.returns-in_err-command-clause-in_time
returns-in_err-command-clause-in_time g c =
    subst (λ (x : SeenBoard). StandsInTime x.book.state) (sym c.in_err-command.ensures.err) c.requires.in_time

pub returns-then-not-is_serving-clause-ended : goal.returns-then-not-is_serving-clause-ended
returns-then-not-is_serving-clause-ended g c =
    sym (c.is_serving.ensures ∙ ap (λ (s : State). is_serving s.going) c.state.ensures) ∙ c.if-not-is_serving.true

pub returns-clause-ended : goal.returns-clause-ended
returns-clause-ended g c = ap (λ (x : SeenBoard). is_serving x.book.state.going) c.in_ok-command.ensures.ok.new_is

pub returns-then-not-is_serving-clause-acts : goal.returns-then-not-is_serving-clause-acts
returns-then-not-is_serving-clause-acts g c =
    let a = c.args.self.now.board.book in
    let off : is_serving a.state.going ≡ false =
    sym (c.is_serving.ensures ∙ ap (λ (s : State). is_serving s.going) c.state.ensures) ∙ c.if-not-is_serving.true in
    subst (λ (serves : Bool). ActsEnding serves a a) (sym off) (c.passes_act_in_steps.ensures.acts.none 0 None a c.requires.free)

pub returns-clause-acts : goal.returns-clause-acts
returns-clause-acts g c =
    let a = c.args.self.now.board.book in
    let b = c.command.new.self.book in
    let on : is_serving a.state.going ≡ true =
    sym (c.is_serving.ensures ∙ ap (λ (s : State). is_serving s.going) c.state.ensures) ∙ c.if-not-is_serving.false in
    subst (λ (serves : Bool). ActsEnding serves a b) (sym on) (
      ending_moment a.state.moment c.args.self.now.edition.stop_ms,
      ended-by c.passes_act_in_steps.ensures.acts c.ending_moment-until.result c.args.self.now.edition.stop_ms a b
          (search rules) (ap (λ (x : SeenBoard). x.book) c.in_ok-command.ensures.ok.new_is) c.in_ok-command.ensures.entries
          (c.in_ok-command.ensures.row ∙ c.requires.free),
    )
