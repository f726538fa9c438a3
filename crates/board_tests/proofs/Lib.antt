mod BoardLemmas
mod DrivenLemmas
mod NotedLemmas
