-- Numbers in their ranges stay so where one is set to a number that its directive may have.
use Rattle.std.proofs.Common.{ℕ}
use Rattle.mpm_config.specs.declared.numbers.Numbers.{Numbers}
use Rattle.mpm_config.specs.declared.directive.Quantity.{Quantity}
use Rattle.mpm_config.specs.declared.directive.Quantity.TheVariants.{ServerLimit, ThreadLimit, StartServers, MinSpareThreads, MaxSpareThreads, ThreadsPerChild, MaxRequestWorkers, MaxConnectionsPerChild, AsyncRequestWorkerFactor, Timeout, RequestReadTimeout, KeepAliveTimeout, MaxKeepAliveRequests, GracefulShutdownTimeout, LimitRequestLine, LimitRequestFieldSize, LimitRequestFields}
use Rattle.mpm_config.specs.Range.{IsAllowed}
use Rattle.mpm_config.specs.Numbers.{with_number, IsInRange}

pub set_in_range : (n : Numbers) → IsInRange n → (q : Quantity) (m : ℕ) → IsAllowed q m → IsInRange (with_number n q m)
set_in_range n h ServerLimit m w ServerLimit = w
set_in_range n h ThreadLimit m w ThreadLimit = w
set_in_range n h StartServers m w StartServers = w
set_in_range n h MinSpareThreads m w MinSpareThreads = w
set_in_range n h MaxSpareThreads m w MaxSpareThreads = w
set_in_range n h ThreadsPerChild m w ThreadsPerChild = w
set_in_range n h MaxRequestWorkers m w MaxRequestWorkers = w
set_in_range n h MaxConnectionsPerChild m w MaxConnectionsPerChild = w
set_in_range n h AsyncRequestWorkerFactor m w AsyncRequestWorkerFactor = w
set_in_range n h Timeout m w Timeout = w
set_in_range n h RequestReadTimeout m w RequestReadTimeout = w
set_in_range n h KeepAliveTimeout m w KeepAliveTimeout = w
set_in_range n h MaxKeepAliveRequests m w MaxKeepAliveRequests = w
set_in_range n h GracefulShutdownTimeout m w GracefulShutdownTimeout = w
set_in_range n h LimitRequestLine m w LimitRequestLine = w
set_in_range n h LimitRequestFieldSize m w LimitRequestFieldSize = w
set_in_range n h LimitRequestFields m w LimitRequestFields = w
set_in_range n h q m w r = h r

-- the two limits of other numbers that are in their ranges
pub limits_in_range : (n o : Numbers) → IsInRange n → IsInRange o → IsInRange (record n { server_limit = o.server_limit; thread_limit = o.thread_limit })
limits_in_range n o h k =
    set_in_range (with_number n ServerLimit o.server_limit) (set_in_range n h ServerLimit o.server_limit (k ServerLimit)) ThreadLimit o.thread_limit (k ThreadLimit)
