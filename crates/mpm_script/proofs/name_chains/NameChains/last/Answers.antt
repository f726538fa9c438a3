use Rattle.mpm_script.proofs.name_chains.NameChains.last.Goals as goal

pub returns : goal.returns
returns c = rw (← c.self.view_is, c.copied.ensures, c.get.ensures.value) (c.self.invariant.found c.args.name.now)
