use Rattle.run_laws.proofs.UndisturbedLemmas.{RunLaws, opens-played, script-served, sends-served, server-served, tests-served}
use Rattle.run_laws.proofs.undisturbed_runs_answer_each_request.Goals as goal

pub returns : goal.returns
returns c =
    let one = c.words_have_one_form.ensures in
    let answer = c.one_answer.ensures in
    let laws : RunLaws = record {
      folds = c.folds_are_one_fold.ensures;
      joins = c.histories_join.ensures;
      runs = c.made_histories_are_runs.ensures;
      opens = c.records_open_with_nothing.ensures;
      ended = c.ended_connections_join.ensures;
      items = c.items_wait_for_nothing.ensures;
    } in
    record {
      opens = opens-played one answer;
      script = λ o s played is some calm. script-served laws o s played calm;
      server = λ o t b run is some tells calm. server-served laws o t b run tells calm;
      tests = tests-served one answer;
      sends = sends-served one answer;
    }
