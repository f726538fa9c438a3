-- What a type knows of the outside, and what that says of a link, and of the limits of heads and the site by which a server serves.
use Rattle.std.specs.Prelude.{◌≡◌, ℕ, ◌<◌, List, ◌++◌, length, Option, Some, None, IfSome}
use Rattle.mpm_base.specs.declared.store.File.{File}
use Rattle.mpm_base.specs.Front.{client_at}
use Rattle.mpm_base.specs.Link.{LinkTold}
use Rattle.http_read.specs.declared.request.Limits.{Limits}
use Rattle.file_table.specs.declared.site_order.SiteOrder.{SiteOrder}
use Rattle.file_table.specs.Site.{SeenSite, IsSiteOf}

-- of what the site of an edition is made: it is this one, or it is what the order makes of the files of a store
pub data MadeSite : Type 0 where
  This : SeenSite → MadeSite
  Of : SiteOrder → List File → MadeSite

-- what a server may serve by: the limits of heads, and of what the site is made
pub record KnownEdition : Type 0 where
  pub limits : Limits
  pub site : MadeSite

-- what a type knows of the outside: what each client sends, in the order of arrival, where the front tells that; and of each edition,
-- by its number, nothing (`None`), that no server may serve by it (`Some None`), or its limits and its site
pub record KnownOutside : Type 0 where
  pub clients : Option (List (List ℕ))
  pub edition : ℕ → Option (Option KnownEdition)

-- the link tells, and is that of one of these clients: what it received, and what still comes behind it, are what that
-- client sends
pub record TellsFrom (clients : List (List ℕ)) (told : Option LinkTold) : Type 0 where
  pub t : LinkTold
  pub told_is : told ≡ Some t
  pub known : t.rank < length clients
  pub offered : t.received ++ t.coming ≡ client_at clients t.rank

-- where the type knows the clients, the link is that of one of them
abbrev pub IsOfClient : Option KnownOutside → Option LinkTold → Type 0
IsOfClient known told = IfSome known (λ k. IfSome k.clients (λ clients. TellsFrom clients told))

-- the site is made so
abbrev pub IsMadeSite : MadeSite → SeenSite → Type 0
IsMadeSite (This made) site = site ≡ made
IsMadeSite (Of order files) site = IsSiteOf order files site

-- the limits and the site are those of the edition
pub record HasEdition (e : KnownEdition) (limits : Limits) (site : SeenSite) : Type 0 where
  pub limits_are : limits ≡ e.limits
  pub site_is : IsMadeSite e.site site

-- the limits and the site are those of the edition, by which a server may serve
abbrev pub IsOfEdition : Option KnownEdition → Limits → SeenSite → Type 0
IsOfEdition None limits site = ⊥
IsOfEdition (Some e) limits site = HasEdition e limits site
