-- The entity tag of a file: a strong validator (RFC 9110, section 8.8.3) that is made of its bytes alone. Two files with the same bytes have one
-- tag, whichever server has them, and whenever they were written.
-- Why it is so stands in docs/DECISIONS.md: 119, What a tag is made of.
use Rattle.std.specs.Prelude.{ℕ, List, ◌++◌, codes, take}
use Rattle.hex.specs.Hex.{encode_lower}
use Rattle.sha2.specs.Sha256.{sha256}

-- so many bytes of the digest make the tag
abbrev pub marked_bytes : ℕ
marked_bytes = 16

-- the tag of a file with these bytes: the first 16 bytes of their SHA-256 in hexadecimal digits, in lower case, between quotes
unfoldable pub tag_of : List ℕ → List ℕ
tag_of bytes = codes "\"" ++ encode_lower (take marked_bytes (sha256 bytes)) ++ codes "\""
