-- How a connection is taken: it is accepted in one turn, its link is watched, and it waits or is closed.
use Rattle.std.specs.Prelude.{◌≡◌, ◌⊎◌, ℕ, Bool, true, false, List, [], ◌∷◌, Option, None}
use Rattle.mpm_base.specs.Count.{next_count}
use Rattle.mpm_base.specs.Front.{FrontSeen, front_after_turning_away, front_after_watch}
use Rattle.mpm_base.specs.Link.{LinkTold}
use Rattle.mpm_base.specs.declared.conn.Cause.TheVariants as cause
use Rattle.mpm_base.specs.declared.conn.ConnName.{ConnName}
use Rattle.mpm_base.specs.declared.conn.Kind.TheVariants.{Reading}
use Rattle.mpm_base.specs.declared.conn.Tail.TheVariants.{Direct}
use Rattle.http_read.specs.declared.request.Limits.{Limits}
use Rattle.file_table.specs.Site.{SeenSite}
use Rattle.conn_machine.specs.declared.event.Event.{Event}
use Rattle.conn_machine.specs.declared.event.Event.TheVariants as event
use Rattle.conn_state.specs.declared.turn.LastLinger.TheVariants as linger
use Rattle.conn_state.specs.declared.turn.LastTurn.TheVariants as turn
use Rattle.conn_state.specs.Conn.{SeenConn}
use Rattle.conn_state.specs.Known.{KnownOutside}
use Rattle.table_rule.specs.declared.view.View.{View}
use Rattle.board_book.specs.declared.faults.BoardFault.{BoardFault}
use Rattle.board_book.specs.Faults.{IsRefusedFor}
use Rattle.board.specs.Editions.{IsOfGeneration}
use Rattle.worker_group.specs.declared.service.Exit.{Exit}
use Rattle.worker_group.specs.declared.service.Exit.TheVariants as exit
use Rattle.worker_group.specs.Service.{give_up_events, left_events}
use Rattle.board_turns.specs.Books.{book_of, state_of}
use Rattle.board_turns.specs.Turns.{HadTurns}
use Rattle.listener_parts.specs.Did.{Did}

-- a connection that the front watches waits for its first request, and another one is closed
abbrev pub way_of : Bool → Exit
way_of true = exit.Park Reading
way_of false = exit.Close cause.LinkFailed Direct

-- the limits and the site are those of the edition of the newest generation of all that the pass has seen, where the type knows that
abbrev pub ServesNewest : Option KnownOutside → View → Limits → SeenSite → Type 0
ServesNewest known v limits site = IsOfGeneration known (book_of v) (state_of v).newest limits site

-- the connection is a new one of that name, child and generation: nothing was read, answered or written yet
pub record IsNew (name : ConnName) (child generation : ℕ) (c : SeenConn) : Type 0 where
  pub name_is : c.name ≡ name
  pub child_is : c.child ≡ child
  pub generation_is : c.generation ≡ generation
  pub notes : c.notes ≡ []
  pub turn : c.turn ≡ turn.New
  pub linger : c.linger ≡ linger.Open

-- the events by which a connection of that name is taken, and then left so
abbrev pub taking_events : ConnName → Exit → List Event
taking_events name way = event.Accept name.slot ∷ left_events way name

-- a connection was taken under that name, and waits or was closed by whether its link is watched
pub record TakesOne (name : ConnName) (watched : Bool) (old new : View) : Type 0 where
  pub did : Did (taking_events name (way_of watched)) None old new

-- one was taken under that name; then, of what the pass had seen, its wait was refused for the fault, and it was given up
pub record TakesUntil (name : ConnName) (fault : BoardFault) (old new : View) : Type 0 where
  pub between : View
  pub took : HadTurns (event.Accept name.slot ∷ []) old between
  pub why : IsRefusedFor fault (book_of between)
  pub given_up : HadTurns (give_up_events fault name) between new
  pub row : new.row ≡ None

-- ## With its front

-- a connection of the link was taken, and counted, and its link was to be watched under its name
pub record TakesLink (link : Option LinkTold) (front front' : FrontSeen) (old new : View) : Type 0 where
  pub name : ConnName
  pub watched : Bool
  pub takes : TakesOne name watched old new
  pub counted : (state_of new).accepted ≡ next_count (state_of old).accepted
  pub front_is : front' ≡ front_after_watch name watched link front

-- none was taken for the fault, and the front turned the link away
pub record TurnsAway (fault : BoardFault) (link : Option LinkTold) (front front' : FrontSeen)
    (old new : View) : Type 0 where
  pub did : Did [] None old new
  pub why : IsRefusedFor fault (book_of new)
  pub uncounted : (state_of new).accepted ≡ (state_of old).accepted
  pub front_is : front' ≡ front_after_turning_away link front

-- one was taken, and counted, whose link is watched, and given up for the fault as its wait was refused
pub record GivesUpNew (fault : BoardFault) (link : Option LinkTold) (front front' : FrontSeen)
    (old new : View) : Type 0 where
  pub name : ConnName
  pub takes : TakesUntil name fault old new
  pub counted : (state_of new).accepted ≡ next_count (state_of old).accepted
  pub front_is : front' ≡ front_after_watch name true link front

-- why the link's connection doesn't wait
abbrev pub FailsTaking : BoardFault → Option LinkTold → FrontSeen → FrontSeen → View → View → Type 0
FailsTaking fault link front front' old new =
    TurnsAway fault link front front' old new ⊎ GivesUpNew fault link front front' old new
