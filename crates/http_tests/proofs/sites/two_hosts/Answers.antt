-- Two hosts make a site, each of whose roots is UTF-8.
use Rattle.std.proofs.Common.{◌≡◌, ◌<◌, ◌^◌, ◌∷◌, ◌++◌, [], List, All, IsUtf8, ap, arith, length, subst, sym, ◌∙◌}
use Rattle.std.proofs.lemmas.List.Elements.{All-cons, All-nil}
use Rattle.file_table.specs.Site.{IsLoadable}
use Rattle.file_table.specs.declared.site_order.HostOrder.{HostOrder}
use Rattle.file_table.specs.declared.site_order.SiteOrder.{SiteOrder}
use Rattle.http_tests.proofs.sites.two_hosts.Goals as goal

are_loadable : (order : SiteOrder) (a b : HostOrder) → order.hosts ≡ a ∷ b ∷ [] → IsUtf8 a.root → IsUtf8 b.root → IsLoadable order
are_loadable order a b is h k = record {
  some = subst (λ (hosts : List HostOrder). 0 < length hosts) (sym is) (omega arith);
  most = subst (λ (hosts : List HostOrder). length hosts < 2 ^ 32) (sym is) (omega arith);
  roots = subst (λ (hosts : List HostOrder). All (λ (host : HostOrder). IsUtf8 host.root) hosts) (sym is)
      (All-cons (λ (host : HostOrder). IsUtf8 host.root) a (b ∷ []) h
      (All-cons (λ (host : HostOrder). IsUtf8 host.root) b [] k (All-nil (λ (host : HostOrder). IsUtf8 host.root))));
}

pub returns : goal.returns
returns c =
    let first : HostOrder = c.in_ok-host_of.field-0 in
    let second : HostOrder = c.in_ok-host_of-2.field-0 in
    let one : c.push.new.self ≡ first ∷ [] = c.in_ok-push.ensures.ok ∙ ap (λ (l : List HostOrder). l ++ first ∷ []) c.make-hosts.ensures in
    let both : c.push-2.new.self ≡ first ∷ second ∷ [] = c.in_ok-push-2.ensures.ok ∙ ap (λ (l : List HostOrder). l ++ second ∷ []) one in
    are_loadable _ first second both c.in_ok-host_of.ensures c.in_ok-host_of-2.ensures
