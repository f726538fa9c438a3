use Rattle.std.proofs.Common.{◌≡◌, ℕ, ◌<◌, ◌≤◌, vec_len, vec_capacity}
use Rattle.timeout_queues.specs.RingsInside.{place_at}
use Rattle.timeout_queues.proofs.rings.alone.Given as goal

-- each place so far is its own neighbour, and there is room for all
abbrev pub invariant-loop-place : goal.invariant-loop-place
invariant-loop-place l = record {
  itself : (i : ℕ) → i < l.place → place_at l.made.items i ≡ i;
  count : vec_len l.made ≡ l.place;
  room : l.places ≤ vec_capacity l.made;
}
