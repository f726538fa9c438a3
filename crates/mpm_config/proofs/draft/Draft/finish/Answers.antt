-- The hosts keep what the settings keep.
use Rattle.std.proofs.Common.{◌≤◌, length, IsUtf8, subst, sym}
use Rattle.std.specs.List.{All}
use Rattle.mpm_config.specs.Config.{AreHostConfs}
use Rattle.mpm_config.specs.Settings.{HostSettings}
use Rattle.mpm_config.specs.SettingsInside.{IsKeptHost}
use Rattle.mpm_config.proofs.HostLemmas.{confs_are}
use Rattle.mpm_config.proofs.draft.Draft.finish.Goals as goal

pub invariant_of-config : goal.invariant_of-config
invariant_of-config c = record {
  in_range = c.self.invariant.in_range;
  fixed = c.correct.ensures;
  root_text = c.self.invariant.root_text;
  index_text = c.self.invariant.index_text;
  hosts_are = subst AreHostConfs (sym c.in_ok-hosts.ensures)
      (confs_are _ c.as_slice-2.result.now c.as_slice-3.result.now c.as_slice.result.now (subst IsUtf8 (sym c.as_slice-2.ensures) c.self.invariant.root_text)
      (subst IsUtf8 (sym c.as_slice-3.ensures) c.self.invariant.index_text) (subst (λ l. length l ≤ 64) (sym c.as_slice.ensures.value) c.self.invariant.few)
      (subst (λ l. All (λ (h : HostSettings). IsKeptHost h.root h.index) l) (sym c.as_slice.ensures.value) c.self.invariant.hosts_are));
}
