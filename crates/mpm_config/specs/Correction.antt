-- The ten corrections, in their order: which number each corrects, where it applies, and what the number becomes.
use Rattle.std.specs.Prelude.{ℕ, ◌+◌, ◌-◌, ◌*◌, ◌/◌, ◌%◌, ◌==◌, nat_lt, if◌then◌else◌, List, [], ◌∷◌, ◌++◌, Option, Some, None, option_map, unwrap_or, slice_get}
use Rattle.std.specs.Option.{option_to_list, option_map_or}
use Rattle.mpm_config.specs.declared.numbers.Numbers.{Numbers}
use Rattle.mpm_config.specs.declared.directive.Quantity.{Quantity}
use Rattle.mpm_config.specs.declared.directive.Quantity.TheVariants.{ThreadsPerChild, MaxRequestWorkers, StartServers, MinSpareThreads, MaxSpareThreads, MaxKeepAliveRequests}
use Rattle.mpm_config.specs.declared.correction.Correction.{Correction}
use Rattle.mpm_config.specs.declared.correction.Correction.TheVariants.{NoThreads, ThreadsAboveLimit, WorkersBelowThreads, WorkersNoMultiple, WorkersAboveProduct, NoServers, ServersAboveQuotient, NoSpare, SpareBelowSum, RequestsAboveLimit}
use Rattle.mpm_config.specs.Directive.{quantity_name}
use Rattle.mpm_config.specs.Numbers.{number_at, with_number}
use Rattle.mpm_config.specs.Warning.{Notice, warning_bytes}

-- the corrections in the order in which they are made
abbrev pub order : List Correction
order = NoThreads ∷ ThreadsAboveLimit ∷ WorkersBelowThreads ∷ WorkersNoMultiple ∷ WorkersAboveProduct
    ∷ NoServers ∷ ServersAboveQuotient ∷ NoSpare ∷ SpareBelowSum ∷ RequestsAboveLimit ∷ []

-- the number of a correction, from 1
abbrev pub place_of : Correction → ℕ
place_of NoThreads = 1
place_of ThreadsAboveLimit = 2
place_of WorkersBelowThreads = 3
place_of WorkersNoMultiple = 4
place_of WorkersAboveProduct = 5
place_of NoServers = 6
place_of ServersAboveQuotient = 7
place_of NoSpare = 8
place_of SpareBelowSum = 9
place_of RequestsAboveLimit = 10

-- the number that it corrects
abbrev pub quantity_of : Correction → Quantity
quantity_of NoThreads = ThreadsPerChild
quantity_of ThreadsAboveLimit = ThreadsPerChild
quantity_of WorkersBelowThreads = MaxRequestWorkers
quantity_of WorkersNoMultiple = MaxRequestWorkers
quantity_of WorkersAboveProduct = MaxRequestWorkers
quantity_of NoServers = StartServers
quantity_of ServersAboveQuotient = StartServers
quantity_of NoSpare = MinSpareThreads
quantity_of SpareBelowSum = MaxSpareThreads
quantity_of RequestsAboveLimit = MaxKeepAliveRequests

-- what that number becomes, where the correction applies
abbrev pub becomes : Correction → Numbers → Option ℕ
becomes NoThreads n = if n.threads == 0 then Some 1 else None
becomes ThreadsAboveLimit n = if nat_lt n.thread_limit n.threads then Some n.thread_limit else None
becomes WorkersBelowThreads n = if nat_lt n.max_workers n.threads then Some n.threads else None
becomes WorkersNoMultiple n = if n.max_workers % n.threads == 0 then None else Some (n.max_workers - n.max_workers % n.threads)
becomes WorkersAboveProduct n = if nat_lt (n.server_limit * n.threads) n.max_workers then Some (n.server_limit * n.threads) else None
becomes NoServers n = if n.start_servers == 0 then Some 1 else None
becomes ServersAboveQuotient n = if nat_lt (n.max_workers / n.threads) n.start_servers then Some (n.max_workers / n.threads) else None
becomes NoSpare n = if n.min_spare == 0 then Some 1 else None
becomes SpareBelowSum n = if nat_lt n.max_spare (n.min_spare + n.threads) then Some (n.min_spare + n.threads) else None
becomes RequestsAboveLimit n = if nat_lt 65535 n.most then Some 65535 else None

-- the numbers after a correction
abbrev pub after_correction : Correction → Numbers → Numbers
after_correction c n = with_number n (quantity_of c) (unwrap_or (becomes c n) (number_at n (quantity_of c)))

-- what a correction tells, where it applies
abbrev pub notice_of : Correction → Numbers → Option Notice
notice_of c n = option_map (λ m. record { correction = place_of c; before = number_at n (quantity_of c); after = m }) (becomes c n)

-- the numbers after some corrections, one after the other
abbrev pub corrected_by : List Correction → Numbers → Numbers
corrected_by [] n = n
corrected_by (c ∷ cs) n = corrected_by cs (after_correction c n)

-- what these corrections tell
abbrev pub notices_by : List Correction → Numbers → List Notice
notices_by [] n = []
notices_by (c ∷ cs) n = option_to_list (notice_of c n) ++ notices_by cs (after_correction c n)

-- the corrected numbers, and what an operator is told of them
abbrev pub after_corrections : Numbers → Numbers
after_corrections n = corrected_by order n

-- what is told of the corrections, in their order
abbrev pub notices : Numbers → List Notice
notices n = notices_by order n

-- the name of the number that the correction of a number corrects
abbrev pub corrected_name_of : ℕ → List ℕ
corrected_name_of place = option_map_or (λ c. quantity_name (quantity_of c)) (slice_get order (place - 1)) []

-- the line that tells a correction: its directive goes by the first spelling of its name
abbrev pub notice_text : Notice → List ℕ
notice_text n = warning_bytes (corrected_name_of n.correction) n.before n.after
