use Rattle.std.proofs.Common.{◌≡◌, ℕ, ◌<◌, [], None, true, refl, sym, subst, rules}
use Rattle.board.specs.Board.{SeenBoard}
use Rattle.board_book.specs.Faults.{IsRefusedFor}
use Rattle.worker_group.specs.Service.{LeavesRest}
use Rattle.rounds.specs.PartsInside.{ServesSome, StaysTimely}
use Rattle.conn_machine.specs.States.{is_staffed}
use Rattle.rounds.proofs.DueLemmas.{serves-in_time}
use Rattle.rounds.proofs.PassLemmas.{due-none, fewer-asking, serves-acts, serves-more, serves-rest, service-acts}
use Rattle.rounds.proofs.round.serve_all.Goals as goal

pub loop-name-init : goal.loop-name-init
loop-name-init g c = record {
  serves =
      record {
        names = [];
        none = λ none. refl;
        served =
            record { acts = c.passes_act_in_steps.ensures.acts.none 1 None c.args.board.now.book c.requires.free; conns = refl; ended = refl };
      };
  still = λ none. none;
  state = c.show_state.ensures.after;
  timely = λ before. before;
  soon = c.requires.in_time;
  staffed = c.requires.staffed;
}

pub serve-requires-clause-who : goal.serve-requires-clause-who
serve-requires-clause-who g c =
    subst (λ (n : ℕ). 1 < n)
    (sym (serves-acts c.passes_act_in_steps.ensures.acts c.args.board.now c.loop-name.board c.loop-name.invariant.serves).acts.passes) c.requires.passes

pub serve-requires-clause-free : goal.serve-requires-clause-free
serve-requires-clause-free g c =
    (serves-acts c.passes_act_in_steps.ensures.acts c.args.board.now c.loop-name.board c.loop-name.invariant.serves).acts.row

pub loop-name-smaller : goal.loop-name-smaller
loop-name-smaller g c =
    fewer-asking 1 c.in-Some.name _ None c.loop-name.board.book c.serve.new.board.book (λ (same : 1 ≡ 0). cc) c.loop-name.invariant.state
    c.show.ensures.state
    (service-acts c.passes_act_in_steps.ensures.acts 1 c.in-Some.name c.loop-name.board c.serve.new.board c.in_ok-serve.ensures.served)
    c.passes_leave_the_rest_to_the_listener.ensures.queued

pub loop-name-preserved : goal.loop-name-preserved
loop-name-preserved g c =
    let still = c.loop-name.invariant.still in
    let found = c.in-Some.ensures in
    let in_time =
    serves-in_time c.histories_join.ensures.state c.passes_act_in_steps.ensures.acts c.rows_change_one_at_a_time.ensures.others 1 c.in-Some.name
    c.loop-name.board c.serve.new.board c.in_ok-serve.ensures.served c.loop-name.invariant.state c.show.ensures.state found c.loop-name.invariant.soon
    c.loop-name.invariant.staffed in
    record {
      serves =
          serves-more c.passes_act_in_steps.ensures.acts c.in-Some.name c.args.board.now c.loop-name.board c.serve.new.board c.loop-name.invariant.serves
          (λ none. due-none c.loop-name.board.book.state c.in-Some.name found (still none)) c.in_ok-serve.ensures.served;
      still = λ none. absurd (due-none c.loop-name.board.book.state c.in-Some.name found (still none));
      state = c.show.ensures.state;
      timely = λ before. in_time.timely (c.loop-name.invariant.timely before);
      soon = in_time.soon;
      staffed = in_time.staffed;
    }

pub returns-in_err-serve-clause-timely : goal.returns-in_err-serve-clause-timely
returns-in_err-serve-clause-timely g c =
    subst (λ (b : SeenBoard). StaysTimely c.args.board.now.book b.book) (sym c.in_err-serve.ensures.err) c.loop-name.invariant.timely

pub returns-in_err-serve-clause-staffed : goal.returns-in_err-serve-clause-staffed
returns-in_err-serve-clause-staffed g c =
    subst (λ (b : SeenBoard). is_staffed b.book.state ≡ true) (sym c.in_err-serve.ensures.err) c.loop-name.invariant.staffed

pub returns-in_err-serve-clause-serves : goal.returns-in_err-serve-clause-serves
returns-in_err-serve-clause-serves g c =
    subst (ServesSome c.args.board.now) (sym c.in_err-serve.ensures.err) c.loop-name.invariant.serves

pub returns-in_err-serve-clause-why : goal.returns-in_err-serve-clause-why
returns-in_err-serve-clause-why g c =
    let why : IsRefusedFor c.in_err-serve.field-0.0 c.serve.new.board.book =
    subst (λ (b : SeenBoard). IsRefusedFor c.in_err-serve.field-0.0 b.book) (sym c.in_err-serve.ensures.err) c.in_err-serve.ensures.why in
    search (rules, why)

pub returns-in_err-serve-clause-rest : goal.returns-in_err-serve-clause-rest
returns-in_err-serve-clause-rest g c =
    let serves = serves-acts c.passes_act_in_steps.ensures.acts c.args.board.now c.loop-name.board c.loop-name.invariant.serves in
    subst (λ (b : SeenBoard). LeavesRest c.args.board.now.book b.book) (sym c.in_err-serve.ensures.err)
    (serves-rest 1 serves.events None c.args.board.now.book c.loop-name.board.book (λ (same : 1 ≡ 0). cc) c.show_state.ensures.after
    c.loop-name.invariant.state serves.acts c.passes_leave_the_rest_to_the_listener.ensures.rest)

pub returns-clause-rest : goal.returns-clause-rest
returns-clause-rest g c =
    let serves = serves-acts c.passes_act_in_steps.ensures.acts c.args.board.now c.loop-name.board c.loop-name.invariant.serves in
    serves-rest 1 serves.events None c.args.board.now.book c.loop-name.board.book (λ (same : 1 ≡ 0). cc) c.show_state.ensures.after
    c.loop-name.invariant.state serves.acts c.passes_leave_the_rest_to_the_listener.ensures.rest
