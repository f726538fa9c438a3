use Rattle.mpm_script.proofs.LoadLemmas.{load_named}
use Rattle.mpm_script.proofs.load.load_names_are_texts.Goals as goal

pub returns : goal.returns
returns c = load_named
