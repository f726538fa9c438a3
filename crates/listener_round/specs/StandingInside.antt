-- Where a run stands on its way, of all that it did, the entries that were folded among it: what its orders and its store are to that.
use Rattle.std.specs.Prelude.{◌≡◌, ℕ, ◌≤◌, ◌+◌, not, List, [], ◌∷◌, ◌++◌, Option, None, Some, option_map, IfSome, Result, Ok, Err}
use Rattle.std.specs.List.{list_any}
use Rattle.mpm_base.specs.Front.{FrontSeen}
use Rattle.mpm_base.specs.Store.{StoreSeen, StoreTold}
use Rattle.mpm_config.specs.Config.{Configuration}
use Rattle.conn_machine.specs.declared.event.Entry.{Entry}
use Rattle.conn_machine.specs.Events.{count_events, is_order}
use Rattle.conn_machine.specs.States.{is_serving}
use Rattle.conn_state.specs.Answered.{SeenEnded}
use Rattle.conn_state.specs.Known.{KnownEdition, KnownOutside}
use Rattle.board.specs.Board.{EndedOfOutside}
use Rattle.board_book.specs.declared.faults.BoardFault.{BoardFault}
use Rattle.board_book.specs.Book.{SeenBook}
use Rattle.listener_round.specs.Commands.{is_by_line, is_graceful_stop}
use Rattle.listener_round.specs.FirstNumbers.{opened_by}
use Rattle.listener_round.specs.Generations.{Opening, config_at, made_edition, renewed}
use Rattle.listener_round.specs.Folded.{HasFolded, all_entries, whole_book}
use Rattle.listener_round.specs.Orders.{AreOrdered, edition_with, orders_with}
use Rattle.board_book.specs.Timely.{AreTimely}
use Rattle.listener_round.specs.Stores.{IsRenewed, RisesBy}
use Rattle.listener_round.specs.declared.edition.NamedConfig.{NamedConfig}
use Rattle.rounds.specs.declared.ends.End.{End}
use Rattle.rounds.specs.declared.ends.End.TheVariants as end
use Rattle.listener_round.specs.declared.run_numbers.RunNumbers.{RunNumbers}

-- ## What the type knows of the editions to come

-- what is known of the edition that comes behind so many further ones: what this store, whose next edition is the first of them, makes by
-- the configuration of that name, with the two limits of this one
abbrev pub later_edition : List ℕ → Configuration → Option StoreTold → ℕ → Option (Option KnownEdition)
later_edition name first told further = option_map (λ t. made_edition first name (renewed (further + 1) t).files) told

-- the type knows of each edition behind so many orders what the store makes of it
abbrev pub KnowsLater : Option KnownOutside → ℕ → List ℕ → Configuration → Option StoreTold → Type 0
KnowsLater known orders name first told =
    IfSome known (λ k. (further : ℕ) → k.edition (orders + (further + 1)) ≡ later_edition name first told further)

-- ## What a run did

-- the edition of the newest generation behind the history, where it was this one before, and there were so many orders
abbrev pub newest_edition : ℕ → ℕ → List Entry → ℕ
newest_edition orders edition [] = edition
newest_edition orders edition (e ∷ history) =
    newest_edition (orders_with e.event orders) (edition_with e.event orders edition) history

-- where a run stands: GracefulShutdownTimeout of its newest generation, its store, its front and its book
pub record Standing : Type 0 where
  pub stop_ms : ℕ
  pub store : StoreSeen
  pub front : FrontSeen
  pub book : SeenBook

-- what was folded of a run: its entries, and the connections that ended in them
pub record Past : Type 0 where
  pub entries : List Entry
  pub ended : List SeenEnded

-- all entries of a run of which so much was folded, and whose book is this one
abbrev pub entries_behind : Past → SeenBook → List Entry
entries_behind past b = past.entries ++ b.history

-- the newest generation has that GracefulShutdownTimeout, where its configuration is known
abbrev pub HasTimeout : Opening → ℕ → ℕ → Type 0
HasTimeout o edition stop_ms = IfSome (config_at o edition) (λ c. option_map (λ c. c.current.stop_ms) c ≡ Some stop_ms)

-- a graceful stop was begun in the history exactly where the server takes no connections any more
abbrev pub EndsAsBegun : List Entry → SeenBook → Type 0
EndsAsBegun history b = is_serving b.state.going ≡ not (list_any (λ e. is_graceful_stop e.event) history)

-- what a run by these numbers, which opened so, did until it stands so, where so much was folded of it: its commands; each connection that
-- ended in what was folded was of the outside, where the type knows that; as many lines were given as it did, and so many besides; and its
-- store was renewed at each order, and so many times at most besides
pub record StandsSo (known : Option KnownOutside) (o : Opening) (n : RunNumbers) (past : Past) (spare owed : ℕ) (s : Standing) : Type 0 where
  pub passes : s.book.passes ≡ n.passes
  pub folded : HasFolded n s.book
  pub past_is : past ≡ record { entries = folded.entries; ended = folded.ended }
  pub outside : EndedOfOutside known (whole_book n folded.entries) folded.ended
  pub ordered : AreOrdered o 0 0 (opened_by n) (all_entries n s.book folded)
  pub timeout : HasTimeout o (newest_edition 0 0 (all_entries n s.book folded)) s.stop_ms
  pub given : RisesBy (count_events is_by_line (all_entries n s.book folded) + owed) o.front.counts.commands s.front.counts.commands
  pub ending : EndsAsBegun (all_entries n s.book folded) s.book
  pub renewals : ℕ
  pub each : count_events is_order (all_entries n s.book folded) ≤ renewals
  pub no_more : renewals ≤ count_events is_order (all_entries n s.book folded) + spare
  pub store : IsRenewed renewals (all_entries n s.book folded) o.store s.store

-- the server opened by the configuration of that name
pub record IsOpenedBy (c : NamedConfig) (o : Opening) : Type 0 where
  pub name : o.name ≡ c.name.now
  pub config : o.config ≡ c.config.now

-- so a run that opened by this configuration stands later, where it stood so and it was time for each event, and nothing was folded meanwhile
abbrev pub StandsOn : Option KnownOutside → NamedConfig → ℕ → ℕ → Standing → Standing → Type 0
StandsOn known c spare owed old new =
    (o : Opening) (n : RunNumbers) (past : Past) → IsOpenedBy c o → AreTimely old.book.base old.book.history
    → StandsSo known o n past 0 0 old → StandsSo known o n past spare owed new

-- a standing of its parts
abbrev pub standing : ℕ → StoreSeen → FrontSeen → SeenBook → Standing
standing stop_ms store front b = record { stop_ms = stop_ms; store = store; front = front; book = b }

-- the same, where the store may have been renewed once more
abbrev pub StandsBroken : Option KnownOutside → NamedConfig → Standing → Standing → Type 0
StandsBroken known c old new = StandsOn known c 1 0 old new

-- it stands so over a book behind a fold, where it stood so over the one before; and all its entries are the same
pub record StandsFolded (known : Option KnownOutside) (o : Opening) (n : RunNumbers) (past : Past) (old new : Standing) : Type 0 where
  pub later : Past
  pub stands : StandsSo known o n later 0 0 new
  pub same : entries_behind later new.book ≡ entries_behind past old.book

-- so it does whatever the run
abbrev pub StandsOverFold : Option KnownOutside → SeenBook → SeenBook → Type 0
StandsOverFold known old new =
    (c : NamedConfig) (stop_ms : ℕ) (store : StoreSeen) (front : FrontSeen) (o : Opening) (n : RunNumbers) (past : Past) → IsOpenedBy c o
    → AreTimely old.base old.history → StandsSo known o n past 0 0 (standing stop_ms store front old)
    → StandsFolded known o n past (standing stop_ms store front old) (standing stop_ms store front new)

-- how it stands behind a turn that ended the turns for this, or didn't: one line more was given where it asks to stop
abbrev pub owed_at : Option End → ℕ
owed_at None = 0
owed_at (Some end.Ended) = 0
owed_at (Some end.Asked) = 1
owed_at (Some end.Failed) = 0
owed_at (Some end.Overdue) = 0
owed_at (Some end.Gone) = 0

-- the same behind turns that ended so
abbrev pub owed_behind : Result End BoardFault → ℕ
owed_behind (Ok end) = owed_at (Some end)
owed_behind (Err fault) = 0

-- how often the store may have been renewed besides
abbrev pub spare_behind : Result End BoardFault → ℕ
spare_behind (Ok end) = 0
spare_behind (Err fault) = 1
