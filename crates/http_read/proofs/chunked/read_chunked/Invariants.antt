use Rattle.std.proofs.Common.{length, ◌-◌, ◌≡◌, ◌≤◌, drop}
use Rattle.http_read.specs.ChunkStepsInside.{run}
use Rattle.http_read.specs.BodyPlaces.{chunked_begun_len}
use Rattle.http_read.specs.BodyPlacesInside.{IsSmallChunked}
use Rattle.http_read.proofs.chunked.read_chunked.Given as goal

abbrev pub invariant-loop-at : goal.invariant-loop-at
invariant-loop-at l = record {
  ahead : chunked_begun_len l.fn.from ≤ l.at;
  within : l.at ≤ length l.bytes;
  begun : chunked_begun_len l.place ≤ l.at;
  small : IsSmallChunked l.place;
  runs : run (drop (chunked_begun_len l.fn.from) l.bytes) l.fn.from ≡ run (drop l.at l.bytes) l.place;
}

abbrev pub decreases-loop-at : goal.decreases-loop-at
decreases-loop-at l = length l.bytes - l.at
