use Rattle.std.proofs.Common.{◌≡◌, drop}
use Rattle.http_read.specs.Authority.{are_name_bytes}
use Rattle.http_read.proofs.authority.are_name_bytes.Given as goal

abbrev pub invariant-loop-place : goal.invariant-loop-place
invariant-loop-place l = are_name_bytes (drop l.place l.text) ≡ are_name_bytes l.text
