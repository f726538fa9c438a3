mod OpeningLemmas
mod SendLemmas
mod StepLemmas
mod TakingLemmas
