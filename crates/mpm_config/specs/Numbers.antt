-- The numbers of a configuration: which one a directive names, what they are at first, and when they are in their ranges.
use Rattle.std.specs.Prelude.{ℕ, true, ◌*◌}
use Rattle.mpm_config.specs.declared.numbers.Numbers.{Numbers}
use Rattle.mpm_config.specs.declared.directive.Quantity.{Quantity}
use Rattle.mpm_config.specs.declared.directive.Quantity.TheVariants.{ServerLimit, ThreadLimit, StartServers, MinSpareThreads, MaxSpareThreads, ThreadsPerChild, MaxRequestWorkers, MaxConnectionsPerChild, AsyncRequestWorkerFactor, Timeout, RequestReadTimeout, KeepAliveTimeout, MaxKeepAliveRequests, GracefulShutdownTimeout, LimitRequestLine, LimitRequestFieldSize, LimitRequestFields}
use Rattle.mpm_config.specs.Range.{range_of, IsAllowed}

-- the number that a directive names
abbrev pub number_at : Numbers → Quantity → ℕ
number_at n ServerLimit = n.server_limit
number_at n ThreadLimit = n.thread_limit
number_at n StartServers = n.start_servers
number_at n MinSpareThreads = n.min_spare
number_at n MaxSpareThreads = n.max_spare
number_at n ThreadsPerChild = n.threads
number_at n MaxRequestWorkers = n.max_workers
number_at n MaxConnectionsPerChild = n.max_conns
number_at n AsyncRequestWorkerFactor = n.factor
number_at n Timeout = n.timeout_ms
number_at n RequestReadTimeout = n.whole_ms
number_at n KeepAliveTimeout = n.keep_ms
number_at n MaxKeepAliveRequests = n.most
number_at n GracefulShutdownTimeout = n.stop_ms
number_at n LimitRequestLine = n.line
number_at n LimitRequestFieldSize = n.field
number_at n LimitRequestFields = n.fields

-- the numbers with that one changed
abbrev pub with_number : Numbers → Quantity → ℕ → Numbers
with_number n ServerLimit m = record n { server_limit = m }
with_number n ThreadLimit m = record n { thread_limit = m }
with_number n StartServers m = record n { start_servers = m }
with_number n MinSpareThreads m = record n { min_spare = m }
with_number n MaxSpareThreads m = record n { max_spare = m }
with_number n ThreadsPerChild m = record n { threads = m }
with_number n MaxRequestWorkers m = record n { max_workers = m }
with_number n MaxConnectionsPerChild m = record n { max_conns = m }
with_number n AsyncRequestWorkerFactor m = record n { factor = m }
with_number n Timeout m = record n { timeout_ms = m }
with_number n RequestReadTimeout m = record n { whole_ms = m }
with_number n KeepAliveTimeout m = record n { keep_ms = m }
with_number n MaxKeepAliveRequests m = record n { most = m }
with_number n GracefulShutdownTimeout m = record n { stop_ms = m }
with_number n LimitRequestLine m = record n { line = m }
with_number n LimitRequestFieldSize m = record n { field = m }
with_number n LimitRequestFields m = record n { fields = m }

-- the default of the table, as it is kept
abbrev pub default_of : Quantity → ℕ
default_of q = (range_of q).default * (range_of q).unit

-- the numbers of the empty configuration; connections are kept
abbrev pub initial_numbers : Numbers
initial_numbers = record {
  server_limit = default_of ServerLimit;
  thread_limit = default_of ThreadLimit;
  start_servers = default_of StartServers;
  min_spare = default_of MinSpareThreads;
  max_spare = default_of MaxSpareThreads;
  threads = default_of ThreadsPerChild;
  max_workers = default_of MaxRequestWorkers;
  max_conns = default_of MaxConnectionsPerChild;
  factor = default_of AsyncRequestWorkerFactor;
  timeout_ms = default_of Timeout;
  whole_ms = default_of RequestReadTimeout;
  keep_ms = default_of KeepAliveTimeout;
  keep = true;
  most = default_of MaxKeepAliveRequests;
  stop_ms = default_of GracefulShutdownTimeout;
  line = default_of LimitRequestLine;
  field = default_of LimitRequestFieldSize;
  fields = default_of LimitRequestFields;
}

-- every number is one that its directive may have
abbrev pub IsInRange : Numbers → Type 0
IsInRange n = (q : Quantity) → IsAllowed q (number_at n q)
