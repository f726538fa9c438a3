-- A front of which nothing was asked yet.
use Rattle.std.specs.Prelude.{◌≡◌, false, []}
use Rattle.mpm_base.specs.Front.{FrontTold}

-- the front was neither bound nor hushed, and tells no wait, no link that it handed out, no command line that was read, no answer to one, and
-- no dial
pub record IsUnused (t : FrontTold) : Type 0 where
  pub accepted : t.accepted ≡ 0
  pub watches : t.watches ≡ []
  pub turned_away : t.turned_away ≡ []
  pub read : t.read ≡ 0
  pub answers : t.answers ≡ []
  pub bound : t.bound ≡ []
  pub dialled : t.dialled ≡ []
  pub hushed : t.hushed ≡ false
  pub waits : t.waits ≡ []
