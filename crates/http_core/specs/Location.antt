-- The Location of a redirect (RFC 9110, section 10.2.2): the path of the folder, and behind it the query of the target.
use Rattle.std.specs.Prelude.{ℕ, ◌&&◌, nat_le, Bool, List, [], ◌∷◌, ◌++◌, if◌then◌else◌}
use Rattle.std.specs.List.{flat_map, list_any}
use Rattle.percent_encoding.specs.Percent.{percent_encode_byte}
use Rattle.http_core.specs.Target.{begins_query, query_of}

-- a byte of a query that stands in a Location as it is: visible ASCII
abbrev pub is_visible : ℕ → Bool
is_visible b = nat_le 33 b && nat_le b 126

-- a byte of a query as a Location has it
abbrev pub query_byte : ℕ → List ℕ
query_byte b = if is_visible b then b ∷ [] else percent_encode_byte b

-- what stands behind the path: where the target has a query, a question mark (63) and the query, also an empty one
abbrev pub query_part : List ℕ → List ℕ
query_part target = if list_any begins_query target then 63 ∷ flat_map query_byte (query_of target) else []

-- where a target that names a folder is sent: the path of the folder, and the query
unfoldable pub location_of : List ℕ → List ℕ → List ℕ
location_of target path = path ++ query_part target
