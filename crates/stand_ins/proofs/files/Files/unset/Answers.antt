use Rattle.stand_ins.proofs.LookupLemmas.{content_of_unset, content_of_left}
use Rattle.stand_ins.proofs.files.Files.unset.Goals as goal

pub returns-clause-missing : goal.returns-clause-missing
returns-clause-missing c = rw (c.unset.ensures.files, c.as_bytes.ensures.value) (content_of_unset c.args.name.now c.self.inside.shelf.files)

pub returns-clause-others : goal.returns-clause-others
returns-clause-others c =
    λ other ne. rw (← c.self.view_is, c.unset.ensures.files, c.as_bytes.ensures.value) (content_of_left other c.args.name.now c.self.inside.shelf.files ne)
