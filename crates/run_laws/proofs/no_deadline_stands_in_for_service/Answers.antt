use Rattle.run_laws.proofs.UndisturbedLemmas.{RunLaws}
use Rattle.run_laws.proofs.UnhurriedLemmas.{passes-unhurried}
use Rattle.run_laws.proofs.no_deadline_stands_in_for_service.Goals as goal

pub returns : goal.returns
returns c =
    let laws : RunLaws = record {
      folds = c.folds_are_one_fold.ensures;
      joins = c.histories_join.ensures;
      runs = c.made_histories_are_runs.ensures;
      opens = c.records_open_with_nothing.ensures;
      ended = c.ended_connections_join.ensures;
      items = c.items_wait_for_nothing.ensures;
    } in
    λ o s played is some before rest e m split tick. passes-unhurried laws o s played before rest e m split tick
