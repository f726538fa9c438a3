-- What each command of a history was asked for, and by which edition it was done: a new generation has the shape of its configuration, a
-- restart that was refused has its cause, and a graceful stop ends when the newest generation's configuration says.
use Rattle.std.specs.Prelude.{◌≡◌, ◌⊎◌, ◌==◌, ◌&&◌, ℕ, ◌+◌, Bool, nat_lt, true, false, List, [], ◌∷◌, Option, None, Some, option_map, IfSome, Err, if◌then◌else◌, ⊤}
use Rattle.mpm_base.specs.Store.{StoreTold, bytes_of}
use Rattle.mpm_base.specs.declared.shape.Shape.{Shape}
use Rattle.mpm_config.specs.Config.{Configuration}
use Rattle.mpm_config.specs.Shape.{shape_of_numbers}
use Rattle.file_table.specs.Load.{IsWithinLimits, MayLoad, is_limit}
use Rattle.file_table.specs.Site.{IsSiteOf, SeenSite}
use Rattle.file_table.specs.declared.load_fault.LoadFault.{LoadFault}
use Rattle.conn_machine.specs.declared.event.Commanded.{Commanded}
use Rattle.conn_machine.specs.declared.event.Commanded.TheVariants as commanded
use Rattle.conn_machine.specs.declared.event.Entry.{Entry}
use Rattle.conn_machine.specs.declared.event.Event.{Event}
use Rattle.conn_machine.specs.declared.event.Event.TheVariants as event
use Rattle.conn_machine.specs.declared.event.Refusal.{Refusal}
use Rattle.conn_machine.specs.declared.event.Refusal.TheVariants as refusal
use Rattle.conn_machine.specs.declared.state.State.{State}
use Rattle.conn_machine.specs.Events.{begins_generation, is_order}
use Rattle.conn_machine.specs.States.{is_serving, later}
use Rattle.conn_machine.specs.Table.{greatest_generation, next}
use Rattle.listener_round.specs.Generations.{Opening, config_among, config_at, config_in, renewed}
use Rattle.restart_control.specs.Reload.{order_of}

-- ## Numbers

-- how many orders there were, where there were so many before the event
abbrev pub orders_with : Event → ℕ → ℕ
orders_with e orders = if is_order e then orders + 1 else orders

-- the edition of the newest generation, where it was this one before the event, and there were so many orders: that of an order which
-- began one has its number
abbrev pub edition_with : Event → ℕ → ℕ → ℕ
edition_with e orders edition = if begins_generation e then orders + 1 else edition

-- ## A new generation

-- the shape of a generation by its configuration
abbrev pub shape_by : Configuration → Shape
shape_by c = shape_of_numbers c.current

-- the edition of that number has a configuration, and the shape is by that, where it is known
abbrev pub HasShape : Opening → ℕ → Shape → Type 0
HasShape o number shape = IfSome (config_at o number) (λ c. option_map shape_by c ≡ Some shape)

-- by the configuration the files make a site that is within the limits of one
pub record MakesSite (o : Opening) (t : StoreTold) : Type 0 where
  pub config : Configuration
  pub accepted : config_among o.config o.name t.files ≡ Some config
  pub site : SeenSite
  pub makes : IsSiteOf (order_of config) t.files site
  pub within : IsWithinLimits site

-- so do those of the edition of that number, where they are known
abbrev pub HasSite : Opening → ℕ → Type 0
HasSite o number = IfSome o.store.told (λ t. MakesSite o (renewed number t))

-- ## A restart that was refused

-- the configuration is there, and is too large or refused
pub record HasNoConfig (o : Opening) (t : StoreTold) : Type 0 where
  pub text : List ℕ
  pub found : bytes_of o.name t.files ≡ Some text
  pub refused : config_in o.config text ≡ None

-- by the configuration there is no site: its files are more, or larger, than one takes
pub record HasNoSite (o : Opening) (t : StoreTold) : Type 0 where
  pub config : Configuration
  pub accepted : config_among o.config o.name t.files ≡ Some config
  pub fault : LoadFault
  pub limit : is_limit fault ≡ true
  pub lacks : MayLoad (order_of config) t.files (Err fault)

-- a generation may begin in the state: the server takes connections, and there is a number for one
abbrev pub may_begin : State → Bool
may_begin s = is_serving s.going && nat_lt s.newest greatest_generation

-- why a restart in the state is refused that asks for the edition of that number: where no generation may begin it is late, and nothing is
-- read. How often the store failed is said beside; memory may lack at any time
abbrev pub IsRefusedAs : Opening → ℕ → State → Refusal → Type 0
IsRefusedAs o number s refusal.Late = (is_serving s.going ≡ false) ⊎ (s.newest ≡ greatest_generation)
IsRefusedAs o number s refusal.Absent =
    (may_begin s ≡ true) × IfSome o.store.told (λ t. bytes_of o.name (renewed number t).files ≡ None)
IsRefusedAs o number s refusal.Conf = (may_begin s ≡ true) × IfSome o.store.told (λ t. HasNoConfig o (renewed number t))
IsRefusedAs o number s refusal.Site = (may_begin s ≡ true) × IfSome o.store.told (λ t. HasNoSite o (renewed number t))
IsRefusedAs o number s refusal.Store = may_begin s ≡ true
IsRefusedAs o number s refusal.NoMemory = ⊤

-- ## A graceful stop

-- the moment until which a server may end that begins to at this one, by GracefulShutdownTimeout in milliseconds: 0 is no limit
abbrev pub ending_moment : ℕ → ℕ → Option ℕ
ending_moment moment stop_ms = if stop_ms == 0 then None else Some (later moment stop_ms)

-- the same by the configuration
abbrev pub ending_by : ℕ → Configuration → Option ℕ
ending_by moment c = ending_moment moment c.current.stop_ms

-- the server ends so by the configuration of the edition of that number, where it is known
abbrev pub EndsUntil : Opening → ℕ → State → Option ℕ → Type 0
EndsUntil o edition s until = IfSome (config_at o edition) (λ c. option_map (ending_by s.moment) c ≡ Some until)

-- ## Each command

-- the command, behind so many orders, in the state, where the newest generation has that edition
abbrev pub IsDoneBy : Opening → ℕ → ℕ → State → Commanded → Type 0
IsDoneBy o orders edition s (commanded.Graceful shape) = HasShape o (orders + 1) shape × HasSite o (orders + 1)
IsDoneBy o orders edition s (commanded.Refused reason) = IsRefusedAs o (orders + 1) s reason
IsDoneBy o orders edition s (commanded.GracefulStop until) = EndsUntil o edition s until
IsDoneBy o orders edition s (commanded.Stop why) = ⊤

-- the same of an event, where it is a command
abbrev pub IsOrdered : Opening → ℕ → ℕ → State → Event → Type 0
IsOrdered o orders edition s (event.Accept slot) = ⊤
IsOrdered o orders edition s (event.Park name kind) = ⊤
IsOrdered o orders edition s (event.Hold name) = ⊤
IsOrdered o orders edition s (event.Queue name) = ⊤
IsOrdered o orders edition s (event.Start name) = ⊤
IsOrdered o orders edition s (event.Answer name ask) = ⊤
IsOrdered o orders edition s (event.Linger name cause) = ⊤
IsOrdered o orders edition s (event.Close name cause tail) = ⊤
IsOrdered o orders edition s (event.Ready slot) = ⊤
IsOrdered o orders edition s (event.Tick m) = ⊤
IsOrdered o orders edition s (event.StartChild k) = ⊤
IsOrdered o orders edition s (event.Command c) = IsDoneBy o orders edition s c
IsOrdered o orders edition s (event.Retire k) = ⊤

-- the same of each entry of a history from the state on
abbrev pub AreOrdered : Opening → ℕ → ℕ → State → List Entry → Type 0
AreOrdered o orders edition s [] = ⊤
AreOrdered o orders edition s (e ∷ history) =
    IsOrdered o orders edition s e.event
    × AreOrdered o (orders_with e.event orders) (edition_with e.event orders edition) (next s e.event) history
