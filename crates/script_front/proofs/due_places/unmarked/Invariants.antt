use Rattle.std.proofs.Common.{◌≡◌, ℕ, false, length, get_or}
use Rattle.script_front.proofs.due_places.unmarked.Given as goal

abbrev pub invariant-loop-place : goal.invariant-loop-place
invariant-loop-place l = record {
  each : length l.marks.items ≡ l.place;
  unmarked : (k : ℕ) → get_or l.marks.items k false ≡ false;
}
