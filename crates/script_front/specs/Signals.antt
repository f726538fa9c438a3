-- What the front of a script knows of its clients, what lines and a watch do to them, and which signals a wait gives.
-- Why it is so stands in docs/DECISIONS.md: 12, Which signals are due.
use Rattle.std.specs.Prelude.{◌≡◌, ℕ, zero, suc, Bool, true, false, ◌||◌, ◌⊎◌, nat_lt, bytes_eq, if◌then◌else◌, List, [], ◌∷◌, length, Option, None, Some}
use Rattle.std.specs.List.{list_all}
use Rattle.mpm_base.specs.declared.conn.ConnName.{ConnName}
use Rattle.mpm_base.specs.declared.script_line.ClientAct.{ClientAct}
use Rattle.mpm_base.specs.declared.script_line.ClientAct.TheVariants as act
use Rattle.mpm_base.specs.declared.script_line.ScriptLine.{ScriptLine}
use Rattle.mpm_base.specs.declared.script_line.ScriptLine.TheVariants as line

-- the client of a connection: its name, whether a byte of it has come, whether it sends no more, whether a signal is due
-- for its link, and whether the front found that its link was closed
pub record SeenClient : Type 0 where
  pub name : List ℕ
  pub came : Bool
  pub ended : Bool
  pub due : Bool
  pub closed : Bool

-- nothing of it has come
abbrev pub new_client : List ℕ → SeenClient
new_client name = record { name = name; came = false; ended = false; due = false; closed = false }

-- ## When a signal becomes due

-- its act happened; what it sends behind its end does nothing, and neither does a second end; a call that is to fail gives no
-- signal
abbrev pub after_act : ClientAct → SeenClient → SeenClient
after_act (act.Send bytes) client =
    if client.ended then client
    else record client { came = client.came || nat_lt 0 (length bytes); due = true }
after_act act.End client = if client.ended then client else record client { ended = true; due = true }
after_act act.Drop client = record client { due = true }
after_act (act.Room room) client = record client { due = true }
after_act (act.Fail which number) client = client

-- the line happened, which acts only on the client that it names
abbrev pub client_after_line : ScriptLine → SeenClient → SeenClient
client_after_line (line.At m) client = client
client_after_line (line.Conn name) client = client
client_after_line (line.Client name act) client = if bytes_eq name client.name then after_act act client else client
client_after_line (line.Command word) client = client
client_after_line (line.Site site) client = client

-- the lines happened, one after the other
abbrev pub client_after_lines : List ScriptLine → SeenClient → SeenClient
client_after_lines [] client = client
client_after_lines (line ∷ lines) client = client_after_lines lines (client_after_line line client)

-- from now on its link is watched: a signal is due where a byte came before, or its end has
abbrev pub watched_client : SeenClient → SeenClient
watched_client client = record client { due = client.came || client.ended }

-- the link of that number is watched
abbrev pub after_watch_of : ℕ → List SeenClient → List SeenClient
after_watch_of number [] = []
after_watch_of zero (client ∷ clients) = watched_client client ∷ clients
after_watch_of (suc number) (client ∷ clients) = client ∷ after_watch_of number clients

-- ## Which signals are given

-- no signal is due for it any more
abbrev pub without_signal : SeenClient → SeenClient
without_signal client = record client { due = false }

-- the front looked whether the link of the client was closed: once it was found so it stays so, and nothing else changes
pub record LooksAt (client found : SeenClient) : Type 0 where
  pub found_is : found ≡ record client { closed = found.closed }
  pub once : client.closed ≡ true → found.closed ≡ true

-- each link was found closed
abbrev pub all_closed : List SeenClient → Bool
all_closed clients = list_all (λ client. client.closed) clients

-- where there is room for so many slots, and these are the clients and the name under which the link of each is watched, the
-- clients then are these, and these slots are given: exactly those of the watched links for which a signal is due, and which
-- weren't found closed
pub data Gives : ℕ → List SeenClient → List (Option ConnName) → List SeenClient → List ℕ → Type 0 where
  -- no room is left
  full : {clients : List SeenClient} {names : List (Option ConnName)} → Gives 0 clients names clients []
  -- no client is left
  done : {room : ℕ} → Gives room [] [] [] []
  -- its link isn't watched, or no signal is due for it
  idle : {room : ℕ} {client found : SeenClient} {clients clients' : List SeenClient} {name : Option ConnName} {names : List (Option ConnName)} {slots : List ℕ}
      → LooksAt client found → (name ≡ None) ⊎ (found.due ≡ false) → Gives room clients names clients' slots
      → Gives room (client ∷ clients) (name ∷ names) (found ∷ clients') slots
  -- the signal that is due for it is given
  given : {room : ℕ} {client found : SeenClient} {clients clients' : List SeenClient} {name : ConnName} {names : List (Option ConnName)} {slots : List ℕ}
      → LooksAt client found → found.due ≡ true → found.closed ≡ false → Gives room clients names clients' slots
      → Gives (suc room) (client ∷ clients) (Some name ∷ names) (without_signal found ∷ clients') (name.slot ∷ slots)
  -- its link was closed, so the signal that is due for it isn't given, then or later
  gone : {room : ℕ} {client found : SeenClient} {clients clients' : List SeenClient} {name : ConnName} {names : List (Option ConnName)} {slots : List ℕ}
      → LooksAt client found → found.due ≡ true → found.closed ≡ true → Gives (suc room) clients names clients' slots
      → Gives (suc room) (client ∷ clients) (Some name ∷ names) (without_signal found ∷ clients') slots
