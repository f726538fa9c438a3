use Rattle.std.proofs.Common.{ap, ◌∙◌}
use Rattle.name_hosts.specs.Host.{choose}
use Rattle.http_core.specs.Target.{named_host}
use Rattle.http_core.proofs.planning.chosen_host.Goals as goal

pub returns-clause-which : goal.returns-clause-which
returns-clause-which c =
    let site = c.args.site.now in
    let request = c.args.request.now in
    c.choose.ensures.which ∙ ap (λ names. choose names c.named_host.result.now) c.hosts.ensures.names
    ∙ ap (choose site.names) (c.named_host.ensures ∙ ap (λ target. named_host target c.host.result.now) c.target.ensures ∙ ap (named_host request.target) c.host.ensures)
