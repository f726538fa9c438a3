use Rattle.file_table.proofs.RootLemmas.{parts_read}
use Rattle.file_table.proofs.loading.load_by.Goals as goal

pub site_of-requires-clause-parts : goal.site_of-requires-clause-parts
site_of-requires-clause-parts g c =
    rw c.as_slice-3.ensures.value (parts_read _ _ c.in-Ok-read_roots.read.0.items c.in-Ok-read_roots.read.1.items c.in-Ok-read_roots.ensures.read)
