mod CutLemmas
mod PageLemmas
