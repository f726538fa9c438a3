-- What is served is of the host that the request is for.
use Rattle.std.proofs.Common.{subst, sym}
use Rattle.http_core.specs.Ask.{IsServedFor}
use Rattle.http_core.specs.Served.{chosen_host}
use Rattle.http_core.proofs.planning.ask_of.Goals as goal

pub returns-clause-host : goal.returns-clause-host
returns-clause-host c =
    let site = c.args.site.now in
    let request = c.args.request.now in
    subst (IsServedFor site (chosen_host site request)) (sym c.in_ok-served.ensures.value) (c.served_files_are_of_the_chosen_host.ensures site request)
