-- A host, and a host with a port (RFC 9110, sections 4.2.1 and 7.2; RFC 3986, sections 3.2.2 and 3.2.3).
use Rattle.std.specs.Prelude.{ℕ, ◌==◌, ◌&&◌, ◌||◌, nat_lt, Bool, true, List, [], ◌∷◌, length, drop, slice_index, codes, if◌then◌else◌}
use Rattle.std.specs.List.{after_first, before_first, list_all, list_any, position_or_len}
use Rattle.std.specs.Char.{is_ascii_alphanumeric, is_ascii_digit, is_ascii_hexdigit}

-- a byte of a name or of an address with points, other than the percent sign
abbrev pub is_name_byte : ℕ → Bool
is_name_byte b = is_ascii_alphanumeric b || list_any (λ c. c == b) (codes "-._~!$&'()*+,;=")

-- two hexadecimal digits stand at the front
abbrev pub begins_with_digits : List ℕ → Bool
begins_with_digits bytes = is_ascii_hexdigit (slice_index bytes 0) && is_ascii_hexdigit (slice_index bytes 1)

-- each byte is one of a name, or a percent sign (37) with two hexadecimal digits behind it
abbrev pub are_name_bytes : List ℕ → Bool
are_name_bytes [] = true
are_name_bytes (b ∷ bytes) = (if b == 37 then begins_with_digits bytes else is_name_byte b) && are_name_bytes bytes

-- a name, or an address with points: one or more such bytes
abbrev pub is_name : List ℕ → Bool
is_name text = nat_lt 0 (length text) && are_name_bytes text

-- a byte of an address in brackets: a hexadecimal digit, a colon (58) or a point (46)
abbrev pub is_address_byte : ℕ → Bool
is_address_byte b = is_ascii_hexdigit b || b == 58 || b == 46

-- the byte behind an address in brackets
abbrev pub closes_bracket : ℕ → Bool
closes_bracket b = b == 93

-- the byte before a port
abbrev pub begins_port : ℕ → Bool
begins_port b = b == 58

-- a port: nothing, or a colon and digits, perhaps none
abbrev pub is_port : List ℕ → Bool
is_port text = length text == 0 || (begins_port (slice_index text 0) && list_all is_ascii_digit (drop 1 text))

-- an address: one or more of its bytes
abbrev pub is_address : List ℕ → Bool
is_address text = nat_lt 0 (length text) && list_all is_address_byte text

-- an address behind its opening bracket: the closing one stands behind it, and behind that perhaps a port
abbrev pub ends_address : List ℕ → Bool
ends_address text =
    nat_lt (position_or_len closes_bracket text) (length text)
    && is_address (before_first closes_bracket text) && is_port (after_first closes_bracket text)

-- a name, and behind it perhaps a port
abbrev pub is_named : List ℕ → Bool
is_named text = is_name (before_first begins_port text) && is_port (drop (position_or_len begins_port text) text)

-- a host, and behind it perhaps a port: the host is an address in brackets ([ is 91), or a name
unfoldable pub is_authority : List ℕ → Bool
is_authority text = if slice_index text 0 == 91 then ends_address (drop 1 text) else is_named text

-- the value of a Host: nothing, or a host with or without a port
abbrev pub is_host_value : List ℕ → Bool
is_host_value value = length value == 0 || is_authority value
