use Rattle.std.proofs.Common.{◌≡◌, true, take}
use Rattle.std.specs.List.{list_all}
use Rattle.http_read.specs.Authority.{is_address_byte}
use Rattle.http_read.proofs.authority.are_address_bytes.Given as goal

abbrev pub invariant-loop-b : goal.invariant-loop-b
invariant-loop-b l = list_all is_address_byte (take l.b-index l.text) ≡ true
