-- What a run did with its front.
use Rattle.std.specs.Prelude.{◌≡◌, ℕ, true, false, List, [], ◌∷◌, ◌++◌, map, Option, None, Some, ⊤}
use Rattle.std.specs.List.{flat_map}
use Rattle.mpm_base.specs.Count.{next_count}
use Rattle.mpm_base.specs.Front.{FrontTold, WatchTold}
use Rattle.mpm_base.specs.declared.conn.Cause.TheVariants.{LinkFailed}
use Rattle.mpm_base.specs.declared.conn.ConnName.{ConnName}
use Rattle.mpm_base.specs.declared.conn.Tail.TheVariants.{Direct}
use Rattle.conn_machine.specs.declared.event.Entry.{Entry}
use Rattle.conn_machine.specs.declared.event.Event.{Event}
use Rattle.conn_machine.specs.declared.event.Event.TheVariants as event
use Rattle.conn_machine.specs.declared.event.Reply.{Reply}
use Rattle.conn_machine.specs.Runs.{entries_of, taken_name}
use Rattle.listener_round.specs.declared.run_numbers.RunNumbers.{RunNumbers}

-- ## Opening and closing

-- the front was bound once, to what the numbers say
abbrev pub IsBoundOnce : RunNumbers → FrontTold → Type 0
IsBoundOnce n t = t.bound ≡ record { listen = n.listen; control = n.control } ∷ []

-- it takes no further connection
abbrev pub IsHushed : FrontTold → Type 0
IsHushed t = t.hushed ≡ true

-- both, and it dialled nothing
pub record IsOpenedAndHushed (n : RunNumbers) (t : FrontTold) : Type 0 where
  pub bound : IsBoundOnce n t
  pub hushed : IsHushed t
  pub dialled : t.dialled ≡ []

-- ## Watches

-- the name, where there is one
abbrev pub names_taken : Option ConnName → List ConnName
names_taken None = []
names_taken (Some name) = name ∷ []

-- the name that the event gave to a connection that was taken
abbrev pub names_given : Event → Reply → List ConnName
names_given (event.Accept slot) answer = names_taken (taken_name answer)
names_given (event.Park name kind) answer = []
names_given (event.Hold name) answer = []
names_given (event.Queue name) answer = []
names_given (event.Start name) answer = []
names_given (event.Answer name ask) answer = []
names_given (event.Linger name cause) answer = []
names_given (event.Close name cause tail) answer = []
names_given (event.Ready slot) answer = []
names_given (event.Tick m) answer = []
names_given (event.StartChild k) answer = []
names_given (event.Command c) answer = []
names_given (event.Retire k) answer = []

-- the names of the connections that the table took, in order
abbrev pub accepted_names : List Entry → List ConnName
accepted_names history = flat_map (λ e. names_given e.event e.reply) history

-- the link that was to be watched, by its number, and under which name
abbrev pub link_watched : WatchTold → ℕ × ConnName
link_watched w = (w.rank, w.name)

-- links whose numbers count on from this one, each with one of the names
abbrev pub links_from : ℕ → List ConnName → List (ℕ × ConnName)
links_from number [] = []
links_from number (name ∷ names) = (number, name) ∷ links_from (next_count number) names

-- the listener took the connection of that name, and its next entry closed it, as its link failed
pub record IsClosedAtOnce (history : List Entry) (name : ConnName) : Type 0 where
  pub before : List Entry
  pub took : Entry
  pub closed : Entry
  pub rest : List Entry
  pub stand : entries_of 0 history ≡ before ++ took ∷ closed ∷ rest
  pub takes : names_given took.event took.reply ≡ name ∷ []
  pub closes : closed.event ≡ event.Close name LinkFailed Direct

-- so it was with the connection of each watch that failed
abbrev pub AreClosedAtOnce : List Entry → List WatchTold → Type 0
AreClosedAtOnce history [] = ⊤
AreClosedAtOnce history (w ∷ watches) = (w.answer ≡ false → IsClosedAtOnce history w.name) × AreClosedAtOnce history watches

-- each link that the table took in the history was watched once, in order, under the name of its connection, and no other link was; the
-- links are those of the numbers 0, 1, .. in order; and where such a watch failed the connection was closed at once
pub record AreWatched (history : List Entry) (t : FrontTold) : Type 0 where
  pub watches : map link_watched t.watches ≡ links_from 0 (accepted_names history)
  pub failed : AreClosedAtOnce history t.watches
