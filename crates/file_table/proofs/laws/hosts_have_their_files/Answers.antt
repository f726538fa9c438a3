use Rattle.file_table.proofs.HostLemmas.{apart, own}
use Rattle.file_table.proofs.ResourceLemmas.{named_for}
use Rattle.file_table.proofs.laws.hosts_have_their_files.Goals as goal

pub returns : goal.returns
returns c = record {
  named = named_for;
  own = λ order given site host place file is found there. own order given site is host place file found there;
  apart = λ order given site host other place wanted meant is at there found again. apart order given site is host other place wanted meant at there found again;
}
