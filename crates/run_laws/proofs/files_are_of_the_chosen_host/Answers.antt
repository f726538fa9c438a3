use Rattle.script_run.specs.Played.{script_opening}
use Rattle.server_run.specs.Ends.{server_opening}
use Rattle.run_laws.proofs.ChosenHostLemmas.{run-by-hosts}
use Rattle.run_laws.proofs.files_are_of_the_chosen_host.Goals as goal

pub returns : goal.returns
returns c =
    let law = c.hosts_have_their_files.ensures in
    let own = c.served_files_are_of_the_chosen_host.ensures in
    let joins = c.ended_connections_join.ensures in
    record {
      script = λ o s played.
          run-by-hosts law own joins (script_opening s.front.script s.config played.site) played.site_is.is_site s.board played.has_run;
      server = λ o b run.
          run-by-hosts law own joins (server_opening o.call o.front run.name run.config run.site) run.loads.is_site b run.has_run;
    }
