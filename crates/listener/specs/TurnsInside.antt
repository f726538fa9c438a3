-- What is seen of a listener with all that it works on, what it needs to take turns, and what its turns do.
use Rattle.std.specs.Prelude.{◌≡◌, ◌<◌, ℕ, Bool, List, [], ◌++◌, length, replicate, Option, Result, is_some, IfSome, OnErr, OnOk, ◌⊎◌, ◌+◌, ◌∷◌, map, Ok, Err}
use Rattle.mpm_base.specs.Front.{FrontCounts, FrontSeen}
use Rattle.mpm_base.specs.Sink.{SinkSeen}
use Rattle.mpm_base.specs.Store.{StoreSeen}
use Rattle.conn_machine.specs.Events.{count_events}
use Rattle.conn_machine.specs.declared.event.Entry.{Entry}
use Rattle.conn_machine.specs.declared.state.Going.TheVariants.{Serving}
use Rattle.conn_state.specs.Known.{KnownOutside}
use Rattle.board_book.specs.declared.faults.BoardFault.{BoardFault}
use Rattle.board.specs.Board.{EndedOfOutside, SeenBoard}
use Rattle.worker_group.specs.Service.{IsUp}
use Rattle.rounds.specs.declared.ends.End.{End}
use Rattle.rounds.specs.EndsInside.{is_at_end}
use Rattle.rounds.specs.PartsInside.{NoneHas, StaysTimely}
use Rattle.rounds.specs.TableInside.{IsOpening}
use Rattle.conn_machine.specs.States.{is_at_its_end}
use Rattle.listener_round.specs.declared.edition.LoadedEdition.{LoadedEdition}
use Rattle.listener_round.specs.declared.edition.NamedConfig.{NamedConfig}
use Rattle.listener_round.specs.declared.run_numbers.RunNumbers.{RunNumbers}
use Rattle.listener_round.specs.Commands.{HeedsLines, is_by_line}
use Rattle.listener.specs.Counted.{GivesNoEnding}
use Rattle.listener_round.specs.CountedInside.{CountsSo}
use Rattle.listener_round.specs.FirstNumbers.{opened_by}
use Rattle.listener_round.specs.FirstNumbersInside.{opened_book}
use Rattle.listener_round.specs.Generations.{Opening}
use Rattle.listener_round.specs.Heard.{KeepsLines, open_lines}
use Rattle.listener_round.specs.HeardInside.{HasHeardIn, WritesOn}
use Rattle.listener_round.specs.Folded.{HasFolded, all_entries, whole_book}
use Rattle.listener_round.specs.FrontInside.{Follows, HandsOut, HasNoneToHeed, IsInStep, ListensAsServed, WatchesAll}
use Rattle.listener.specs.ListenInside.{HandedOut, HasNotBegun, HasStopped, HeedsUntil, IsAtStart, TurnsEnd, contacts_of}
use Rattle.listener_round.specs.Orders.{AreOrdered}
use Rattle.listener_round.specs.OrdersInside.{KnowsComing, ServesNewest}
use Rattle.listener_round.specs.Pace.{AreSharesOfAll, Brought, KeepsPace, Share, answers_in, brought, moved, IsCutShort, IsUnsignalled, made_from, ordered}
use Rattle.listener.specs.Patient.{HasNothingCome, IsPatientFrom}
use Rattle.listener_round.specs.StandingInside.{IsOpenedBy, Past, Standing, StandsSo, entries_behind, owed_behind, spare_behind, standing}
use Rattle.listener.specs.StartedFirst.{IsStartedFirst}
use Rattle.listener.specs.Stops.{TakesEach}
use Rattle.listener_round.specs.Stores.{KeepsStore, RisesBy}
use Rattle.listener_round.specs.Times.{IsInTime, answers_of, waits_of}
use Rattle.listener_round.specs.Watched.{IsHushed}
use Rattle.mpm_base.specs.declared.script_line.CommandWord.{CommandWord}
use Rattle.mpm_base.specs.declared.script_line.CommandWord.TheVariants as word
use Rattle.rounds.specs.declared.ends.End.TheVariants as end

-- ## The turns

-- what was made is all of the shares, but for these orders at the end, and with the last share no connection was handed out, so that
-- children that are let go of behind it are of it
pub record EndsUntaken (missing : List CommandWord) (shares : List Share) (made : List Brought) : Type 0 where
  pub before : List Share
  pub last : Share
  pub shares_are : shares ≡ before ++ last ∷ []
  pub none : last.handed ≡ 0
  pub made_are : made ++ map ordered missing ≡ made_from 0 shares

-- nothing was signalled of the last share, and nothing ordered or handed out with it
pub record EndsUnsignalled (shares : List Share) (made : List Brought) : Type 0 where
  pub unsignalled : IsUnsignalled shares made
  pub none : unsignalled.last.handed ≡ 0

-- what turns that ended so made of all shares
abbrev pub TurnsMake : Result End BoardFault → List Share → List Brought → Type 0
TurnsMake (Ok end.Ended) shares made = EndsUntaken [] shares made
TurnsMake (Ok end.Asked) shares made = EndsUntaken (word.Stop ∷ []) shares made
TurnsMake (Ok end.Failed) shares made = EndsUntaken [] shares made
TurnsMake (Ok end.Overdue) shares made = EndsUnsignalled shares made
TurnsMake (Ok end.Gone) shares made = EndsUntaken [] shares made
TurnsMake (Err fault) shares made = (made ≡ made_from 0 shares) ⊎ IsCutShort shares made

-- ## A listener

-- what is seen of a listener with its front, its clock and its store: the board, the front, the calls of the clock, the slots that the last
-- wait gave, what the newest generation works by, the store, the configuration by which the server opened, and the output, with whether what
-- stands in it was written whole
pub record SeenListener : Type 0 where
  pub board : SeenBoard
  pub front : FrontSeen
  pub calls : Option (List (ℕ × ℕ))
  pub ready : List ℕ
  pub edition : LoadedEdition
  pub store : StoreSeen
  pub config : NamedConfig
  pub out : SinkSeen
  pub written : Bool

-- the same, of its parts
abbrev pub listener_of : SeenBoard → FrontSeen → Option (List (ℕ × ℕ)) → List ℕ → LoadedEdition → StoreSeen → NamedConfig → SinkSeen → Bool → SeenListener
listener_of board front calls ready edition store config out written =
    record {
      board = board;
      front = front;
      calls = calls;
      ready = ready;
      edition = edition;
      store = store;
      config = config;
      out = out;
      written = written;
    }

-- where its run stands
abbrev pub stands_at : SeenListener → Standing
stands_at l = standing l.edition.stop_ms l.store l.front l.board.book

-- the clock was told what the waits gave
abbrev pub InTime : SeenListener → Type 0
InTime l = IsInTime (waits_of l.front.told) l.calls

-- ## All entries of its run

-- all entries of a run that opened so, by these numbers, are to the front and the clock what they are to be: where the front waited at all the
-- children were started before all else; each link that the table took was watched; and time passed patiently
pub record KeepsUp (o : Opening) (n : RunNumbers) (l : SeenListener) (history : List Entry) : Type 0 where
  pub started : IfSome l.front.told (IsStartedFirst n history)
  pub watched : IfSome l.front.told (WatchesAll l.board.book.state history)
  pub patient : IsPatientFrom o.front.told l.front.told l.calls (opened_by n) history

-- the shares are those of the front, and of the clock
pub record HasShares (rows : ℕ) (l : SeenListener) (shares : List Share) : Type 0 where
  pub waits : IfSome l.front.told (λ t. AreSharesOfAll rows t shares)
  pub answers : IfSome l.calls (λ calls. answers_in shares ≡ answers_of calls)

-- a run that opened so begins: nothing was folded, or done, and nothing asked of the front but to be bound, nor of the clock
pub record IsBegun (known : Option KnownOutside) (o : Opening) (n : RunNumbers) (l : SeenListener) : Type 0 where
  pub book : l.board.book ≡ opened_book n
  pub opening : IsOpening l.board.book
  pub stands : StandsSo known o n (record { entries = []; ended = [] }) 0 0 (stands_at l)
  pub unused : IfSome l.front.told HasNotBegun
  pub unasked : IfSome l.calls (λ calls. calls ≡ [])
  pub first : IfSome o.front.told HasNothingCome → IsAtStart l.front.told l.board.book
  pub words : l.front.counts.words ≡ o.front.counts.words
  pub answers : l.front.counts.answers ≡ o.front.counts.answers

-- what the turns of a run that opened so did, of all its entries, until they ended so, since the listener was the one
pub record HasTurned (known : Option KnownOutside) (o : Opening) (n : RunNumbers) (turns : Result End BoardFault) (from now : SeenListener) : Type 0 where
  pub past : Past
  pub stands : StandsSo known o n past (spare_behind turns) (owed_behind turns) (stands_at now)
  pub keeps : KeepsUp o n now (entries_behind past now.board.book)
  pub shares : List Share
  pub are : HasShares n.slots now shares
  pub first : ℕ
  pub made : List Brought
  pub brought_is : brought (entries_behind past now.board.book) ≡ replicate first moved ++ made
  pub makes : TurnsMake turns shares made
  pub heard : HasHeardIn turns o n (entries_behind past now.board.book) first shares now.front from.out from.written now.out now.written

-- ## What it needs to take turns

-- the server goes on, in its time, and no pass has a connection; the type knows what the store tells of the editions to come, the newest
-- generation is served by its edition, and of what the front gave nothing is left to be done
pub record MayListen (known : Option KnownOutside) (now : SeenListener) : Type 0 where
  pub passes : 1 < now.board.book.passes
  pub knows : KnowsComing known now.board.book now.config now.store.told
  pub serves : ServesNewest known now.board.book now.edition
  pub free : NoneHas now.board.book
  pub going : now.board.book.state.going ≡ Serving
  pub children : 0 < length now.board.book.state.children
  pub step : IsInStep now.front.told now.board.book.state
  pub heeded : IfSome now.front.told HasNoneToHeed

-- ## What its turns do

-- its turns ended so, since it was the first: what all entries of its run did, and that it was time for each; no pass has a connection, and a
-- graceful stop is at its end exactly where the turns ended for that; and what the turns did with the front, the clock and the waits is what
-- they ended with
pub record AreOver (known : Option KnownOutside) (turns : Result End BoardFault) (first now : SeenListener) : Type 0 where
  pub turned : (o : Opening) (n : RunNumbers) → IsOpenedBy first.config o → IsBegun known o n first → HasTurned known o n turns first now
  pub timely : StaysTimely first.board.book now.board.book
  pub end : is_at_its_end now.board.book.state ≡ is_at_end turns
  pub passes : now.board.book.passes ≡ first.board.book.passes
  pub free : NoneHas now.board.book
  pub up : IsUp now.board.book.state.going
  pub follows : Follows first.front now.front
  pub contacts : contacts_of now.front.told ≡ contacts_of first.front.told
  pub heeded : IfSome now.front.told (HeedsUntil turns)
  pub step : OnOk turns (IsInStep now.front.told now.board.book.state)
  pub listens : IfSome now.front.told (ListensAsServed now.board.book.state)
  pub links : OnErr turns (HandsOut now.front.told now.board.book.state)
  pub clock : is_some now.calls ≡ is_some first.calls
  pub time : InTime first → InTime now
  pub ends : TurnsEnd turns first.front now.front now.board.book

-- what the listener of a run that opened so did, of all its entries, to the end, since it was the first
pub record HasStood (known : Option KnownOutside) (o : Opening) (n : RunNumbers) (first now : SeenListener) : Type 0 where
  pub passes : now.board.book.passes ≡ n.passes
  pub folded : HasFolded n now.board.book
  pub outside : EndedOfOutside known (whole_book n folded.entries) folded.ended
  pub ordered : AreOrdered o 0 0 (opened_by n) (all_entries n now.board.book folded)
  pub each : IfSome now.front.told (TakesEach now.board.book.state.going (all_entries n now.board.book folded))
  pub given : RisesBy (count_events is_by_line (all_entries n now.board.book folded)) o.front.counts.commands now.front.counts.commands
  pub store : KeepsStore now.board.book.state.going (all_entries n now.board.book folded) o.store now.store
  pub keeps : KeepsUp o n now (all_entries n now.board.book folded)
  pub pace : KeepsPace n.slots now.front.told now.calls now.board.book.state.going (all_entries n now.board.book folded)
  pub unended :
      (from : FrontCounts) → CountsSo 0 from first.front.counts first.board.book
      → GivesNoEnding now.board.book.state.going (all_entries n now.board.book folded) from now.front.counts
  pub lines :
      KeepsLines o (opened_by n) pace.first pace.shares o.front now.front now.board.book.state.going (all_entries n now.board.book folded)
  pub writes :
      WritesOn (open_lines (opened_by n) (all_entries n now.board.book folded) lines.heard) first.out first.written now.out now.written

-- it listened to the end, since it was the first: the same behind the stop of the server, which closed down, and the front listens no more
pub record HasListened (known : Option KnownOutside) (first now : SeenListener) : Type 0 where
  pub stood : (o : Opening) (n : RunNumbers) → IsOpenedBy first.config o → IsBegun known o n first → HasStood known o n first now
  pub timely : StaysTimely first.board.book now.board.book
  pub passes : now.board.book.passes ≡ first.board.book.passes
  pub stopped : HasStopped first.front now.front now.board.book.state
  pub follows : Follows first.front now.front
  pub contacts : contacts_of now.front.told ≡ contacts_of first.front.told
  pub hushed : IfSome now.front.told IsHushed
  pub heeded : IfSome now.front.told (HeedsLines now.board.book.state.going)
  pub links : HandedOut now.front.told now.board.book.state
  pub clock : is_some now.calls ≡ is_some first.calls
  pub time : InTime first → InTime now
