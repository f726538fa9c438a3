-- That the files which a run's connections are sent are those of the hosts that their requests are for.
use Rattle.board.specs.Board.{SeenBoard}
use Rattle.board_book.specs.Book.{SeenBook}
use Rattle.board_book.specs.Editions.{edition_of}
use Rattle.conn_state.specs.Answered.{IsAnswered, SeenEnded}
use Rattle.file_table.specs.HostFiles.{IsFileOfHost}
use Rattle.file_table.specs.Resource.{IsFoundFor}
use Rattle.file_table.specs.Site.{SeenSite}
use Rattle.file_table.specs.declared.found.Found.TheVariants.{File as IsFile}
use Rattle.file_table.specs.declared.site_order.HostOrder.{HostOrder}
use Rattle.file_table.specs.declared.site_order.SiteOrder.{SiteOrder}
use Rattle.http_core.specs.Ask.{IsServedFor}
use Rattle.http_core.specs.Served.{chosen_host, served_to}
use Rattle.http_core.specs.Target.{named_host}
use Rattle.http_core.specs.declared.plan.Served.{Served}
use Rattle.http_core.specs.declared.plan.Served.TheVariants as served
use Rattle.http_read.specs.RequestParts.{RequestParts}
use Rattle.listener_round.specs.FirstNumbers.{numbers_of}
use Rattle.listener_round.specs.Generations.{Opening, config_among, renewed}
use Rattle.listener.specs.Runs.{HasRun, ended_of_run, entries_of_run}
use Rattle.listener_round.specs.Folded.{whole_book}
use Rattle.mpm_base.specs.declared.store.File.{File}
use Rattle.mpm_config.specs.Config.{Configuration}
use Rattle.name_hosts.specs.Host.{choose}
use Rattle.restart_control.specs.Reload.{order_of}
use Rattle.run_laws.specs.Outcomes.{SeenOutcome}
use Rattle.script_run.specs.Played.{HasPlayed, script_opening}
use Rattle.script_run.specs.declared.scripted.Scripted.{Scripted}
use Rattle.server_run.specs.Ends.{HasRunServer, server_opening}
use Rattle.std.specs.Prelude.{◌≡◌, ℕ, zero, suc, List, [], ◌∷◌, map, Option, Some, None, IfSome, slice_get, ⊤}

-- ## Of a site

-- the place of the host that a request is for, among those of the order: the first that has the name by which it asks, else the first
abbrev pub host_for : SiteOrder → RequestParts → ℕ
host_for order r = choose (map (λ (host : HostOrder). host.names) order.hosts) (named_host r.target r.host)

-- the file of the site at the place is one that the host has, of those under the host's root; and where another host has it too, the two hosts
-- have one root
pub record HasOfHost (order : SiteOrder) (given : List File) (site : SeenSite) (host place : ℕ) : Type 0 where
  pub has : IsFoundFor site host (IsFile place)
  pub own : (file : File) → slice_get site.files place ≡ Some file → IsFileOfHost order given host file
  pub apart : (other : ℕ) (wanted meant : HostOrder)
      → slice_get order.hosts host ≡ Some wanted
      → slice_get order.hosts other ≡ Some meant
      → IsFoundFor site other (IsFile place)
      → wanted.root ≡ meant.root

-- what is served, where it is a file or a part of one, with 200 or 206, or that the client has it as it is, with 304, is of such a file
abbrev pub ServesOfHost : SiteOrder → List File → SeenSite → ℕ → Served → Type 0
ServesOfHost order given site host (served.Whole part) = HasOfHost order given site host part.file
ServesOfHost order given site host (served.Part part) = HasOfHost order given site host part.file
ServesOfHost order given site host (served.Unsatisfied size) = ⊤
ServesOfHost order given site host (served.Unmodified place) = HasOfHost order given site host place
ServesOfHost order given site host (served.Moved path) = ⊤
ServesOfHost order given site host served.Options = ⊤
ServesOfHost order given site host (served.Page auto) = ⊤
ServesOfHost order given site host (served.Refused code) = ⊤

-- what each request is served, where it is a file or a part of one, is of one that the site has for the host that the request is for, whatever
-- the site was made of
abbrev pub ServesOwnFiles : SeenSite → Type 0
ServesOwnFiles site = (r : RequestParts) → IsServedFor site (chosen_host site r) (served_to site r)

-- so each request is served: of the files of the host that it is for, and of none that a host with another root has
abbrev pub ServesByHosts : SiteOrder → List File → SeenSite → Type 0
ServesByHosts order given site = (r : RequestParts) → ServesOfHost order given site (host_for order r) (served_to site r)

-- ## Of an edition

-- the same by the hosts of this configuration, without which no server serves
abbrev pub ServesByConfig : Option Configuration → List File → SeenSite → Type 0
ServesByConfig None given site = ⊥
ServesByConfig (Some c) given site = ServesByHosts (order_of c) given site

-- the same by the edition of that number, where the store tells it: by the hosts of its configuration, and of its files
abbrev pub ServesByEdition : Opening → ℕ → SeenSite → Type 0
ServesByEdition o zero site = IfSome o.store.told (λ t. ServesByHosts (order_of o.config) t.files site)
ServesByEdition o (suc n) site =
    IfSome o.store.told (λ t. ServesByConfig (config_among o.config o.name (renewed (suc n) t).files) (renewed (suc n) t).files site)

-- ## Of a run

-- the site by which the connection was served has for each host the files that it serves for it, and where the store tells it is so by the
-- edition of the connection's generation; and where the link tells, what was sent are the replies of this site to the first requests that it
-- received, or a front of them, with the bytes of these files
pub record IsServedByHosts (o : Opening) (b : SeenBook) (e : SeenEnded) : Type 0 where
  pub number : ℕ
  pub found : edition_of b e.generation ≡ Some number
  pub serves : ServesByEdition o number e.site
  pub own : ServesOwnFiles e.site
  pub sent : IfSome e.told (IsAnswered e.cause e.tail e.site e.limits e.notes)

-- so it is of each
abbrev pub AreServedByHosts : Opening → SeenBook → List SeenEnded → Type 0
AreServedByHosts o b [] = ⊤
AreServedByHosts o b (e ∷ ended) = IsServedByHosts o b e × AreServedByHosts o b ended

-- so it is of each connection of the run that ended, folded ones too
abbrev pub RunServesByHosts : (o : Opening) (b : SeenBoard) → HasRun o b → Type 0
RunServesByHosts o b run = AreServedByHosts o (whole_book (numbers_of o.config) (entries_of_run o b run)) (ended_of_run o b run)

-- so it is of the run of a script, whose store tells, and of that of a server
pub record FilesAreOfTheChosenHost : Type 0 where
  pub script : (o : SeenOutcome) (s : Scripted) (played : HasPlayed o.call s.config s.board s.front s.clock s.store o.status)
      → RunServesByHosts (script_opening s.front.script s.config played.site) s.board played.has_run
  pub server : (o : SeenOutcome) (b : SeenBoard) (run : HasRunServer o.call o.front o.front' o.clock' o.status b)
      → RunServesByHosts (server_opening o.call o.front run.name run.config run.site) b run.has_run
