-- What is searched for is the name of the value.
use Rattle.std.proofs.Common.{◌≡◌, position, unwrap_or, sym, ap, ◌∙◌}
use Rattle.name_hosts.specs.Host as spec
use Rattle.name_hosts.specs.Host.{has_name}
use Rattle.name_hosts.proofs.choose.Goals as goal

pub returns-in-Some-clause-which : goal.returns-in-Some-clause-which
returns-in-Some-clause-which c =
    let host : c.without_point.result.now ≡ spec.without_point (spec.host_part c.args.value.now) = c.without_point.ensures ∙ ap spec.without_point c.host_part.ensures in
    ap (λ o. unwrap_or o 0) (sym c.in-Some.is ∙ c.place_of_host.ensures ∙ ap (λ h. position (has_name h) c.args.hosts.now) host)

pub returns-in-None-clause-which : goal.returns-in-None-clause-which
returns-in-None-clause-which c =
    let host : c.without_point.result.now ≡ spec.without_point (spec.host_part c.args.value.now) = c.without_point.ensures ∙ ap spec.without_point c.host_part.ensures in
    ap (λ o. unwrap_or o 0) (sym c.in-None.is ∙ c.place_of_host.ensures ∙ ap (λ h. position (has_name h) c.args.hosts.now) host)
