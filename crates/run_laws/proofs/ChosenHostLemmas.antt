-- By which hosts the connections of a run are served.
use Rattle.std.proofs.Common.{◌≡◌, ℕ, zero, suc, List, [], ◌∷◌, map, Option, None, Some, IfSome, option_map, sym, ap, subst}
use Rattle.std.specs.Prelude.{slice_get}
use Rattle.board_book.specs.Book.{SeenBook}
use Rattle.board.specs.Board.{AreEnded, SeenBoard}
use Rattle.board.specs.BoardLaws.{EndedConnectionsJoin}
use Rattle.board.specs.Editions.{HasItsEdition}
use Rattle.conn_state.specs.Answered.{SeenEnded}
use Rattle.conn_state.specs.Known.{IsOfEdition}
use Rattle.file_table.specs.HostFiles.{HostsHaveTheirFiles}
use Rattle.file_table.specs.Resource.{IsFoundFor}
use Rattle.file_table.specs.Site.{IsSiteOf, SeenSite}
use Rattle.file_table.specs.declared.found.Found.TheVariants.{File as IsFile}
use Rattle.file_table.specs.declared.site_order.SiteOrder.{SiteOrder}
use Rattle.http_core.specs.Ask.{IsServedFor}
use Rattle.http_core.specs.Served.{chosen_host, served_to}
use Rattle.http_core.specs.Target.{named_host}
use Rattle.http_core.specs.declared.plan.Served.{Served}
use Rattle.http_core.specs.declared.plan.Served.TheVariants as served
use Rattle.http_read.specs.declared.request.Limits.{Limits}
use Rattle.listener_round.specs.FirstNumbers.{numbers_of}
use Rattle.listener_round.specs.Folded.{whole_book}
use Rattle.listener_round.specs.Generations.{Opening, config_among, edition_of_files, known_edition, known_editions, made_edition, renewed}
use Rattle.listener.specs.Runs.{HasRun, ended_of_run, entries_of_run}
use Rattle.listener.specs.Served.{AreServedIn}
use Rattle.mpm_base.specs.Store.{StoreTold}
use Rattle.mpm_base.specs.declared.store.File.{File}
use Rattle.mpm_config.specs.Config.{Configuration}
use Rattle.name_hosts.specs.Host.{choose}
use Rattle.restart_control.specs.Reload.{order_of}
use Rattle.run_laws.specs.ChosenHost.{AreServedByHosts, HasOfHost, IsServedByHosts, RunServesByHosts, ServesByConfig, ServesByEdition, ServesByHosts, ServesOfHost, ServesOwnFiles, host_for}

-- what holds where a store tells
told-so : {X : Type 0} {P Q : X → Type 0} (o : Option X) → IfSome o P → ((x : X) → P x → Q x) → IfSome o Q
told-so None holds means = tt
told-so (Some x) holds means = means x holds

-- the law: a file that a request is served is one that the host has which the request is for
abbrev pub ServedByHost : Type 0
ServedByHost = (site : SeenSite) → ServesOwnFiles site

module _ (law : HostsHaveTheirFiles) (serves-own : ServedByHost) where
  -- ---- a site

  has-of-host : (order : SiteOrder) (given : List File) (site : SeenSite) (host place : ℕ) → IsSiteOf order given site
      → IsFoundFor site host (IsFile place) → HasOfHost order given site host place
  has-of-host order given site host place is found = record {
    has = found;
    own = λ file at. law.own order given site host place file is found at;
    apart = λ other wanted meant at there again. law.apart order given site host other place wanted meant is at there found again;
  }

  of-host : (order : SiteOrder) (given : List File) (site : SeenSite) (host : ℕ) (s : Served) → IsSiteOf order given site → IsServedFor site host s
      → ServesOfHost order given site host s
  of-host order given site host (served.Whole part) is found = has-of-host order given site host part.file is found
  of-host order given site host (served.Part part) is found = has-of-host order given site host part.file is found
  of-host order given site host (served.Unsatisfied size) is found = tt
  of-host order given site host (served.Unmodified place) is found = has-of-host order given site host place is found
  of-host order given site host (served.Moved path) is found = tt
  of-host order given site host served.Options is found = tt
  of-host order given site host (served.Page auto) is found = tt
  of-host order given site host (served.Refused code) is found = tt

  by-hosts : (order : SiteOrder) (given : List File) (site : SeenSite) → IsSiteOf order given site → ServesByHosts order given site
  by-hosts order given site is r =
      let same : chosen_host site r ≡ host_for order r = ap (λ names. choose names (named_host r.target r.host)) is.names in
      subst (λ (host : ℕ). ServesOfHost order given site host (served_to site r)) same
      (of-host order given site (chosen_host site r) (served_to site r) is (serves-own site r))

  -- ---- an edition

  by-config : (given : List File) (limits : Limits) (site : SeenSite) (c : Option Configuration)
      → IsOfEdition (option_map (edition_of_files given) c) limits site → ServesByConfig c given site
  by-config given limits site None is = absurd is
  by-config given limits site (Some c) is = by-hosts (order_of c) given site is.site_is

  by-edition : (o : Opening) → IfSome o.store.told (λ t. IsSiteOf (order_of o.config) t.files o.site) → (number : ℕ) (limits : Limits) (site : SeenSite)
      → IfSome (known_edition o number) (λ e. IsOfEdition e limits site) → ServesByEdition o number site
  by-edition o opened zero limits site is =
      told-so o.store.told opened
      (λ t made. by-hosts (order_of o.config) t.files site (subst (λ (s : SeenSite). IsSiteOf (order_of o.config) t.files s) (sym is.site_is) made))
  by-edition o opened (suc n) limits site is = by-told o.store.told is where
    by-told : (told : Option StoreTold)
        → IfSome (option_map (λ t. made_edition o.config o.name (renewed (suc n) t).files) told) (λ e. IsOfEdition e limits site)
        → IfSome told (λ t. ServesByConfig (config_among o.config o.name (renewed (suc n) t).files) (renewed (suc n) t).files site)
    by-told None is = tt
    by-told (Some t) is =
        by-config (renewed (suc n) t).files limits site (config_among o.config o.name (renewed (suc n) t).files) is

  -- ---- the connections of a run

  all-by-hosts : (o : Opening) → IfSome o.store.told (λ t. IsSiteOf (order_of o.config) t.files o.site) → (b : SeenBook) (ended : List SeenEnded)
      → AreEnded ended → AreServedIn (known_editions o) b ended → AreServedByHosts o b ended
  all-by-hosts o opened b [] shown are = tt
  all-by-hosts o opened b (e ∷ ended) shown are = (
    record {
      number = are.0.number;
      found = are.0.found;
      serves = by-edition o opened are.0.number e.limits e.site are.0.is_of;
      own = serves-own e.site;
      sent = shown.0.answered;
    },
    all-by-hosts o opened b ended shown.1 are.1,
  )

  -- all of them, folded ones too
  pub run-by-hosts : EndedConnectionsJoin → (o : Opening) → IfSome o.store.told (λ t. IsSiteOf (order_of o.config) t.files o.site) → (b : SeenBoard)
      → (run : HasRun o b) → RunServesByHosts o b run
  run-by-hosts joins o opened b run =
      let f = run.folded in
      all-by-hosts o opened (whole_book (numbers_of o.config) (entries_of_run o b run)) (ended_of_run o b run)
      (joins.answered f.ended b.ended f.answered run.run.agrees.answered) run.served
