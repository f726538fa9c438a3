-- What the value of a directive spells.
use Rattle.std.specs.Prelude.{ℕ, ◌+◌, ◌-◌, ◌*◌, ◌==◌, ◌&&◌, nat_le, if◌then◌else◌, Bool, true, false, not, List, [], ◌∷◌, length, take, drop, codes, Option, Some, None, option_map, option_and_then, slice_index}
use Rattle.std.specs.List.{list_any}
use Rattle.std.specs.Str.{bytes_eq}
use Rattle.conf_text.specs.Parts.{Parts, parts_around}
use Rattle.mpm_base.specs.Digits.{number_in_digits}
use Rattle.mpm_base.specs.LetterCase.{is_same_ignoring_case}
use Rattle.mpm_base.specs.declared.addr.Addr.{Addr}
use Rattle.mpm_config.specs.declared.directive.Quantity.{Quantity}
use Rattle.mpm_config.specs.declared.directive.Quantity.TheVariants.{AsyncRequestWorkerFactor, KeepAliveTimeout}
use Rattle.mpm_config.specs.declared.range.NumberRange.{NumberRange}
use Rattle.mpm_config.specs.Range.{range_of, millisecond_range, octet_range, port_range, number_in}

-- a whole number, of at most nine digits, in a range of the table
abbrev pub number : NumberRange → List ℕ → Option ℕ
number r v = option_and_then (number_in r) (number_in_digits 9 v)

-- hundredths: one or two digits after the point
abbrev pub decimals : List ℕ → Option ℕ
decimals v = option_map (λ n. if length v == 1 then 10 * n else n) (number_in_digits 2 v)

-- hundredths: one to three digits, and where there is a point (46) the decimals after it
abbrev pub hundredths_of : List ℕ → Option Parts → Option ℕ
hundredths_of v None = option_map (λ n. 100 * n) (number_in_digits 3 v)
hundredths_of v (Some p) = option_and_then (λ n. option_map (λ m. 100 * n + m) (decimals p.after)) (number_in_digits 3 p.before)

-- the hundredths that a value spells: digits, perhaps with a point and decimals
abbrev pub hundredths : List ℕ → Option ℕ
hundredths v = hundredths_of v (parts_around 46 v)

-- milliseconds: a number that ends in ms, or else seconds
abbrev pub milliseconds : List ℕ → Option ℕ
milliseconds v =
    if bytes_eq (drop (length v - 2) v) (codes "ms") then number millisecond_range (take (length v - 2) v) else number (range_of KeepAliveTimeout) v

-- the number of a directive
abbrev pub number_of : Quantity → List ℕ → Option ℕ
number_of AsyncRequestWorkerFactor v = option_and_then (number_in (range_of AsyncRequestWorkerFactor)) (hundredths v)
number_of KeepAliveTimeout v = milliseconds v
number_of q v = number (range_of q) v

-- on or off, in which case does not count
abbrev pub switch : List ℕ → Option Bool
switch v =
    if is_same_ignoring_case v (codes "On") then Some true
    else (if is_same_ignoring_case v (codes "Off") then Some false else None)

-- whether files have tags: Digest or None, in which case of letters doesn't count
abbrev pub tags_of_value : List ℕ → Option Bool
tags_of_value v =
    if is_same_ignoring_case v (codes "Digest") then Some true
    else (if is_same_ignoring_case v (codes "None") then Some false else None)

-- the four octets of an address, with a point (46) between them
abbrev pub octets : List ℕ → Option (List ℕ)
octets v =
    option_and_then (λ (p : Parts). option_and_then (λ (q : Parts). option_and_then (λ (r : Parts).
    option_and_then (λ a. option_and_then (λ b. option_and_then (λ c. option_map (λ d. a ∷ b ∷ c ∷ d ∷ [])
    (number octet_range r.after)) (number octet_range r.before)) (number octet_range q.before)) (number octet_range p.before))
    (parts_around 46 q.after)) (parts_around 46 p.after)) (parts_around 46 v)

-- a port, or an address, a colon (58) and a port; without an address it is that of this machine alone
abbrev pub address_of : List ℕ → Option Parts → Option Addr
address_of v None = option_map (λ port. record { host = 127 ∷ 0 ∷ 0 ∷ 1 ∷ []; port = port }) (number port_range v)
address_of v (Some p) = option_and_then (λ host. option_map (λ port. record { host = host; port = port }) (number port_range p.after)) (octets p.before)

-- the address that a value spells: a port, or four numbers and a port
abbrev pub address : List ℕ → Option Addr
address v = address_of v (parts_around 58 v)

-- 1 to 255 bytes
abbrev pub is_short : List ℕ → Bool
is_short v = nat_le 1 (length v) && nat_le (length v) 255

-- the name of a folder: no slash (47) at its ends
abbrev pub is_folder : List ℕ → Bool
is_folder v = is_short v && not (slice_index v 0 == 47) && not (slice_index v (length v - 1) == 47)

-- the name of a file: no slash
abbrev pub is_file : List ℕ → Bool
is_file v = is_short v && not (list_any (λ b. b == 47) v)

-- the name of a log: no bar (124), behind which Apache has a program, stands in front
abbrev pub is_log : List ℕ → Bool
is_log v = is_short v && not (slice_index v 0 == 124)
