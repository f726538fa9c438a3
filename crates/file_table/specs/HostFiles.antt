-- Which files a host of a site has: those of the store under its root, and none under the root of another host alone.
use Rattle.std.specs.Prelude.{◌≡◌, ℕ, List, Some, slice_get}
use Rattle.mpm_base.specs.declared.store.File.{File}
use Rattle.file_table.specs.declared.found.Found.TheVariants.{File as IsFile}
use Rattle.file_table.specs.declared.site_order.HostOrder.{HostOrder}
use Rattle.file_table.specs.declared.site_order.SiteOrder.{SiteOrder}
use Rattle.file_table.specs.Resource.{IsFoundFor, resource_of}
use Rattle.file_table.specs.Site.{AreUnder, IsSiteOf, SeenSite}

-- the file is one of those under the root, with its name there and its bytes
pub record IsFileUnder (root : List ℕ) (given : List File) (file : File) : Type 0 where
  pub files : List File
  pub under : AreUnder root given files
  pub place : ℕ
  pub there : slice_get files place ≡ Some file

-- it is one of those under the root of the host at the place
pub record IsFileOfHost (order : SiteOrder) (given : List File) (host : ℕ) (file : File) : Type 0 where
  pub wanted : HostOrder
  pub is_wanted : slice_get order.hosts host ≡ Some wanted
  pub under : IsFileUnder wanted.root given file

-- what a path names for a host is a file that the host has; such a file of a site is one of those under the host's root; and where two hosts
-- have that place in the site they have one root
pub record HostsHaveTheirFiles : Type 0 where
  pub named : (site : SeenSite) (host : ℕ) (path : List ℕ) → IsFoundFor site host (resource_of site host path)
  pub own : (order : SiteOrder) (given : List File) (site : SeenSite) (host place : ℕ) (file : File)
      → IsSiteOf order given site
      → IsFoundFor site host (IsFile place)
      → slice_get site.files place ≡ Some file
      → IsFileOfHost order given host file
  pub apart : (order : SiteOrder) (given : List File) (site : SeenSite) (host other place : ℕ) (wanted meant : HostOrder)
      → IsSiteOf order given site
      → slice_get order.hosts host ≡ Some wanted
      → slice_get order.hosts other ≡ Some meant
      → IsFoundFor site host (IsFile place)
      → IsFoundFor site other (IsFile place)
      → wanted.root ≡ meant.root
