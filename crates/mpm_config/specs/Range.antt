-- What the table of numbers says of each directive whose value is a number.
use Rattle.std.specs.Prelude.{ℕ, ◌*◌, ◌≤◌, ◌==◌, ◌&&◌, nat_le, if◌then◌else◌, Option, Some, None}
use Rattle.mpm_config.specs.declared.range.NumberRange.{NumberRange}
use Rattle.mpm_config.specs.declared.directive.Quantity.{Quantity}
use Rattle.mpm_config.specs.declared.directive.Quantity.TheVariants.{ServerLimit, ThreadLimit, StartServers, MinSpareThreads, MaxSpareThreads, ThreadsPerChild, MaxRequestWorkers, MaxConnectionsPerChild, AsyncRequestWorkerFactor, Timeout, RequestReadTimeout, KeepAliveTimeout, MaxKeepAliveRequests, GracefulShutdownTimeout, LimitRequestLine, LimitRequestFieldSize, LimitRequestFields}

-- a line of the table: the default, the least and greatest number that may be written, what 0 is taken as (0: as it is), and what 1 is kept as
abbrev pub table_line : ℕ → ℕ → ℕ → ℕ → ℕ → NumberRange
table_line n least most taken unit = record { default = n; least = least; greatest = most; zero = taken; unit = unit }

-- the line of the table for each directive: the factor is in hundredths, the timeouts are in seconds and kept in milliseconds
abbrev pub range_of : Quantity → NumberRange
range_of ServerLimit = table_line 16 1 32 0 1
range_of ThreadLimit = table_line 64 1 64 0 1
range_of StartServers = table_line 3 0 999999999 0 1
range_of MinSpareThreads = table_line 75 0 999999999 0 1
range_of MaxSpareThreads = table_line 250 0 999999999 0 1
range_of ThreadsPerChild = table_line 25 0 999999999 0 1
range_of MaxRequestWorkers = table_line 400 0 999999999 0 1
range_of MaxConnectionsPerChild = table_line 0 0 999999999 0 1
range_of AsyncRequestWorkerFactor = table_line 200 1 10000 0 1
range_of Timeout = table_line 60 1 65535 0 1000
range_of RequestReadTimeout = table_line 0 0 65535 0 1000
range_of KeepAliveTimeout = table_line 5 1 65535 0 1000
range_of MaxKeepAliveRequests = table_line 100 0 999999999 65535 1
range_of GracefulShutdownTimeout = table_line 0 0 65535 0 1000
range_of LimitRequestLine = table_line 8190 1 65000 0 1
range_of LimitRequestFieldSize = table_line 8190 1 65000 0 1
range_of LimitRequestFields = table_line 100 0 1000 1000 1

-- the line for the timeout of a kept connection where its value ends in ms, in milliseconds
abbrev pub millisecond_range : NumberRange
millisecond_range = table_line 5000 1 65535000 0 1

-- the line for a port
abbrev pub port_range : NumberRange
port_range = table_line 8080 1 65535 0 1

-- the line for a part of an address; it has no default
abbrev pub octet_range : NumberRange
octet_range = table_line 0 0 255 0 1

-- what a written number is kept as
abbrev pub kept_as : NumberRange → ℕ → ℕ
kept_as r n = (if n == 0 then r.zero else n) * r.unit

-- the least number that is kept: where 0 is taken as another number, 1 is the least
abbrev pub least_kept : NumberRange → ℕ
least_kept r = (if r.zero == 0 then r.least else 1) * r.unit

-- a kept number of the range
pub record IsNumberIn (r : NumberRange) (n : ℕ) : Type 0 where
  pub least : least_kept r ≤ n
  pub greatest : n ≤ r.greatest * r.unit

-- the range of what is kept: that of the table, but that the timeout of a kept connection may be any number of milliseconds
abbrev pub kept_range : Quantity → NumberRange
kept_range KeepAliveTimeout = millisecond_range
kept_range q = range_of q

-- a number that the directive may have
abbrev pub IsAllowed : Quantity → ℕ → Type 0
IsAllowed q n = IsNumberIn (kept_range q) n

-- what a number is kept as, where it is in the range
abbrev pub number_in : NumberRange → ℕ → Option ℕ
number_in r n = if nat_le r.least n && nat_le n r.greatest then Some (kept_as r n) else None
