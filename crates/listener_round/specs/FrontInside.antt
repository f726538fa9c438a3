-- What a round keeps of its front and its table, and what it says of them where it ends the turns.
use Rattle.board_book.specs.Book.{SeenBook}
use Rattle.board_book.specs.Finds.{acceptable}
use Rattle.conn_machine.specs.declared.event.Entry.{Entry}
use Rattle.conn_machine.specs.States.{is_halted, is_over, is_serving}
use Rattle.conn_machine.specs.declared.state.State.{State}
use Rattle.conn_state.specs.Conn.{IsFresh}
use Rattle.conn_state.specs.Known.{KnownOutside}
use Rattle.mpm_base.specs.Count.{NeverFalls, Rises, greatest_count, next_count}
use Rattle.mpm_base.specs.Front.{FrontTold, FrontSeen, HasNoneToTake}
use Rattle.mpm_base.specs.Link.{LinkTold}
use Rattle.mpm_base.specs.declared.conn.ConnName.{ConnName}
use Rattle.listener_round.specs.Commands.{NoneStops, StopsAtLast, lines_read}
use Rattle.listener_round.specs.Links.{HandsOutTaken, TurnsOneAway}
use Rattle.listener_round.specs.Clients.{clients_told, comings_told}
use Rattle.listener_round.specs.Watched.{AreWatched, accepted_names}
use Rattle.rounds.specs.declared.ends.End.{End}
use Rattle.std.specs.Prelude.{◌≡◌, ◌<◌, ℕ, List, Option, IfSome, ◌⊎◌, ◌≤◌, true, false, not, [], ◌∷◌, ◌++◌, None, Some, length}
use Rattle.rounds.specs.declared.ends.End.TheVariants as end
use Rattle.rounds.specs.EndsInside.{IsAllGone}

-- links were handed out, watched and turned away, or an accept failed, and nothing else happened to the front
pub record OnlyTakes (t t' : FrontTold) : Type 0 where
  pub rest : t' ≡ record t { accepted = t'.accepted; watches = t'.watches; turned_away = t'.turned_away; failed = t'.failed }

-- command lines were read and answered, listening was stopped or not, and nothing else happened to the front
pub record OnlyReads (t t' : FrontTold) : Type 0 where
  pub rest : t' ≡ record t { read = t'.read; answers = t'.answers; hushed = t'.hushed }

-- both
pub record OnlyReadsAndTakes (t t' : FrontTold) : Type 0 where
  pub rest : t' ≡ record t { accepted = t'.accepted; watches = t'.watches; turned_away = t'.turned_away; read = t'.read; answers = t'.answers; hushed = t'.hushed; failed = t'.failed }

-- no command line that was read stops the server, and none was read that didn't come
pub record HasNoneToHeed (t : FrontTold) : Type 0 where
  pub none : NoneStops (lines_read t)
  pub came : t.read ≤ length t.lines

-- the last one that was read stops it, while fewer were read than the greatest count
abbrev pub HasOneToHeed : FrontTold → Type 0
HasOneToHeed t = t.read < greatest_count → StopsAtLast t

-- where the front tells, so does the link
abbrev pub TellsAlike : Option FrontTold → Option LinkTold → Type 0
TellsAlike told link = IfSome told (λ t. (l : LinkTold) × (link ≡ Some l))

-- each command line that came was read, of a front that tells
abbrev pub HasReadAll : Option FrontTold → Type 0
HasReadAll told = IfSome told (λ t. t.read ≡ length t.lines)

-- what the type knows that the clients send
abbrev pub clients_known : Option KnownOutside → Option (List (List ℕ))
clients_known None = None
clients_known (Some k) = k.clients

-- the type knows of the clients what the front tells of them
abbrev pub IsKnownOfFront : Option KnownOutside → Option FrontTold → Type 0
IsKnownOfFront known told = clients_known known ≡ clients_told told

-- the front is still the one that it was
pub record Follows (old new : FrontSeen) : Type 0 where
  pub script : new.script ≡ old.script
  pub clients : clients_told new.told ≡ clients_told old.told
  pub comings : comings_told new.told ≡ comings_told old.told
  pub faults : NeverFalls old.counts.faults new.counts.faults
  pub ends : NeverFalls old.counts.ends new.counts.ends
  pub commands : NeverFalls old.counts.commands new.counts.commands
  pub stops : NeverFalls old.counts.words.stop new.counts.words.stop

-- the front listens exactly while the server takes connections
abbrev pub ListensAsServed : State → FrontTold → Type 0
ListensAsServed s t = t.hushed ≡ not (is_serving s.going)

-- the same, and the front handed out as many links as the table took, and turned none away
pub record KeepsStep (s : State) (t : FrontTold) : Type 0 where
  pub listens : ListensAsServed s t
  pub taken : HandsOutTaken s t

-- the same of a front that tells
abbrev pub IsInStep : Option FrontTold → State → Type 0
IsInStep told s = IfSome told (KeepsStep s)

-- the table took each link that a front that tells handed out, or it turned the last one away
abbrev pub HandsOut : Option FrontTold → State → Type 0
HandsOut told s = IfSome told (λ t. HandsOutTaken s t ⊎ TurnsOneAway s t)

-- the number at which a count from this one stands behind the names
abbrev pub number_after : ℕ → List ConnName → ℕ
number_after number [] = number
number_after number (name ∷ names) = number_after (next_count number) names

-- behind these entries of a run, whose state is this one, the front watches each link that the table took, and the table counted them
pub record WatchesAll (s : State) (history : List Entry) (t : FrontTold) : Type 0 where
  pub watches : AreWatched history t
  pub count : s.accepted ≡ number_after 0 (accepted_names history)

-- where a front that tells did so, it still does, whatever was folded before
abbrev pub StaysWatching : Option FrontTold → Option FrontTold → SeenBook → SeenBook → Type 0
StaysWatching told told' old new =
    (before : List Entry) → IfSome told (WatchesAll old.state (before ++ old.history)) → IfSome told' (WatchesAll new.state (before ++ new.history))

-- the link is as the front hands it out, and is the arrival of that number
pub record Arrives (number : ℕ) (t : LinkTold) : Type 0 where
  pub fresh : IsFresh t
  pub rank : t.rank ≡ number

-- the same of a link that tells
abbrev pub IsArrival : ℕ → Option LinkTold → Type 0
IsArrival number told = IfSome told (Arrives number)

-- no further connection is taken: none could be, or a front that tells has none to take, or an accept of it failed
abbrev pub TookAll : Option FrontTold → State → Type 0
TookAll told s = (acceptable s ≡ None) ⊎ IfSome told HasNoneToTake ⊎ IfSome told (λ t. t.failed ≡ true)

-- what taking in what has come says, where it ends the turns for this, or doesn't: then each connection was taken that could be, and each
-- command line was read
abbrev pub TakesInTo : Option End → FrontSeen → FrontSeen → State → Type 0
TakesInTo None old new s = TookAll new.told s × HasReadAll new.told × IfSome new.told HasNoneToHeed
TakesInTo (Some end.Asked) old new s =
    (is_halted s.going ≡ false) × Rises old.counts.words.stop new.counts.words.stop × IfSome new.told HasOneToHeed
TakesInTo (Some end.Overdue) old new s = (is_over s.moment s.going ≡ true) × IfSome new.told HasNoneToHeed
TakesInTo (Some end.Gone) old new s = IsAllGone s × IfSome new.told HasNoneToHeed
TakesInTo (Some end.Ended) old new s = ⊥
TakesInTo (Some end.Failed) old new s = ⊥
