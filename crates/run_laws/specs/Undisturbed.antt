-- What a run answers that nothing disturbs: no call of the outside failed, it wasn't asked to stop, no connection was late, and memory was found.
use Rattle.board.specs.Board.{SeenBoard}
use Rattle.board_book.specs.Book.{SeenBook}
use Rattle.conn_machine.specs.Events.{count_events, is_close_for}
use Rattle.conn_machine.specs.declared.event.Why.TheVariants as why
use Rattle.conn_machine.specs.declared.state.Going.TheVariants.{Halted}
use Rattle.conn_state.specs.Answered.{SeenEnded}
use Rattle.conn_state.specs.Items.{Item, AreFirst}
use Rattle.conn_state.specs.Replies.{AreNotesOf, AreReplies, IsInterim}
use Rattle.http_read.specs.RequestParts.{RequestParts}
use Rattle.http_read.specs.Requests.{AreItems}
use Rattle.listener_round.specs.Commands.{lines_read, stop_line}
use Rattle.listener.specs.Tells.{AllReceive}
use Rattle.mpm_base.specs.Cause.{cause_number}
use Rattle.mpm_base.specs.CommandWord.{command_word}
use Rattle.mpm_base.specs.Count.{Rises, greatest_count}
use Rattle.mpm_base.specs.Front.{FrontTold}
use Rattle.mpm_base.specs.Link.{LinkTold}
use Rattle.mpm_base.specs.Notes.{says_last}
use Rattle.mpm_base.specs.declared.conn.Cause.{Cause}
use Rattle.mpm_base.specs.declared.conn.Cause.TheVariants as cause
use Rattle.mpm_base.specs.declared.script_line.CommandWord.TheVariants as word
use Rattle.mpm_config.specs.Config.{Configuration}
use Rattle.mpm_base.specs.declared.script_line.CommandWord.{CommandWord}
use Rattle.server_run.specs.Ends.{EndsRestartRefused, HasRunServer}
use Rattle.mpm_script.specs.Clients.{clients_of, names_of}
use Rattle.run_laws.specs.Grounds.{SendsBy, TestsFit, WritesSite}
use Rattle.run_laws.specs.Outcomes.{IsOutcome, SeenOutcome}
use Rattle.run_opening.specs.Calls.{StoreFailed}
use Rattle.script_run.specs.Played.{HasPlayed}
use Rattle.script_run.specs.declared.scripted.Scripted.{Scripted}
use Rattle.std.specs.Prelude.{◌≡◌, ◌≢◌, ◌⊎◌, ◌+◌, ◌<◌, ℕ, true, List, [], ◌∷◌, ◌++◌, length, slice_index, None, Some, IfSome, IsSome, ⊤}

-- ## What disturbs none

-- how many connections ended for the cause, those that were folded among them, as the report counts them
abbrev pub ended_for : Cause → SeenBook → ℕ
ended_for why b = slice_index b.folded.causes (cause_number why) + count_events (is_close_for why) b.history

-- none was late, and none ended for want of memory
pub record HasNoneLate (b : SeenBook) : Type 0 where
  pub keep_alive : ended_for cause.KeepAliveLate b ≡ 0
  pub read : ended_for cause.ReadLate b ≡ 0
  pub write : ended_for cause.WriteLate b ≡ 0
  pub memory : ended_for cause.NoMemory b ≡ 0

-- the line asks for no stop, at once or graceful
pub record IsNoStop (line : List ℕ) : Type 0 where
  pub at_once : line ≢ stop_line
  pub graceful : line ≢ command_word word.GracefulStop

-- so it is of each
abbrev pub NoneAsksStop : List (List ℕ) → Type 0
NoneAsksStop [] = ⊤
NoneAsksStop (line ∷ lines) = IsNoStop line × NoneAsksStop lines

-- no call failed of the link of any of the connections
abbrev pub NoneFailed : List SeenEnded → Type 0
NoneFailed [] = ⊤
NoneFailed (e ∷ ended) = (e.counts.faults ≡ 0) × NoneFailed ended

-- nothing disturbed the connections of a run over a front that tells: those that are left, and behind how many the record counts the ones
-- before. A front that failed to hand out a connection disturbs none
pub record IsUndisturbed (t : FrontTold) (b : SeenBoard) (ended : List SeenEnded) : Type 0 where
  pub none_late : HasNoneLate b.book
  pub lines : NoneAsksStop (lines_read t)
  pub few : t.read < greatest_count
  pub links : NoneFailed ended

-- nothing disturbed the run of a script: nor did a write of the output fail, and memory was found
pub record IsUndisturbedScript (o : SeenOutcome) (s : Scripted) (played : HasPlayed o.call s.config s.board s.front s.clock s.store o.status) : Type 0 where
  pub run : IsUndisturbed s.front.told s.board (played.has_run.folded.ended ++ s.board.ended)
  pub output : ¬ (Rises o.call.sink.faults o.call.sink'.faults)
  pub memory : o.status ≢ 6

-- nothing disturbed the run of a server over a front that tells: besides, no wait of it failed
pub record IsUndisturbedServer (o : SeenOutcome) (t : FrontTold) (b : SeenBoard) (ran : HasRunServer o.call o.front o.front' o.clock' o.status b) : Type 0 where
  pub run : IsUndisturbed t b (ran.has_run.folded.ended ++ b.ended)
  pub front : ¬ (Rises o.front.counts.faults o.front'.counts.faults)
  pub output : ¬ (Rises o.call.sink.faults o.call.sink'.faults)
  pub memory : o.status ≢ 6

-- ## What is answered

-- its client had done, its last response was sent, or it waited for a further request when its generation was replaced
abbrev pub IsServedCause : Cause → Type 0
IsServedCause why = (why ≡ cause.ClientDone) ⊎ (why ≡ cause.LastSent) ⊎ (why ≡ cause.Retiring)

-- the client's bytes were all received, and spell just so many whole requests as there are responses, and no refusal
pub record AnswersEachRequest (e : SeenEnded) (t : LinkTold) : Type 0 where
  pub came : t.coming ≡ []
  pub requests : List (RequestParts × ℕ)
  pub rest : List ℕ
  pub all : AreItems e.limits t.received requests None rest
  pub one_each : length e.notes ≡ length requests

-- the connection has one response for each of the first requests that it received before its half-close, the refusal behind them among
-- these; all of them were sent whole, and besides what the head of the next request may ask for: for each request of a client that had done;
-- up to the last response; and for each that was received of one that waited
pub record IsAnsweredWhole (e : SeenEnded) (t : LinkTold) : Type 0 where
  pub items : List Item
  pub rest : List ℕ
  pub first : AreFirst e.limits items rest t.before_shut
  pub noted : AreNotesOf e.site items e.notes
  pub one_each : length e.notes ≡ length items
  pub replies : List ℕ
  pub are_replies : AreReplies e.site items e.notes replies
  pub interim : List ℕ
  pub all_sent : t.sent ≡ replies ++ interim
  pub done : e.cause ≡ cause.ClientDone → AnswersEachRequest e t × IsInterim e.limits e.notes rest interim
  pub last : e.cause ≡ cause.LastSent → (says_last e.notes ≡ true) × (interim ≡ [])
  pub waited : e.cause ≡ cause.Retiring → (rest ≡ []) × (interim ≡ [])

-- a connection that nothing disturbed: for such a cause it ended, and where its link tells it was answered whole
pub record IsServedWhole (e : SeenEnded) : Type 0 where
  pub cause : IsServedCause e.cause
  pub answered : IfSome e.told (IsAnsweredWhole e)

-- so it is of each
abbrev pub AreServedWhole : List SeenEnded → Type 0
AreServedWhole [] = ⊤
AreServedWhole (e ∷ ended) = IsServedWhole e × AreServedWhole ended

-- ## The law

-- a run that nothing disturbed ended well, as nothing more could come, and served each of its connections
pub record EndsServed (o : SeenOutcome) (b : SeenBoard) (ended : List SeenEnded) : Type 0 where
  pub well : o.status ≡ 0
  pub going : b.book.state.going ≡ Halted why.FrontEnded
  pub served : AreServedWhole ended

-- the run of a script took besides each connection of it, and each received what its client sends, all of it where that had done
pub record EndsPlayed (o : SeenOutcome) (s : Scripted) (ended : List SeenEnded) : Type 0 where
  pub run : EndsServed o s.board ended
  pub taken : s.board.book.state.accepted ≡ length (names_of s.front.script)
  pub receive : AllReceive (clients_of s.front.script) ended

-- what an undisturbed call does
pub record UndisturbedRunsAnswerEachRequest : Type 0 where
  -- the run of a script that isn't refused, and writes a configuration and a site that aren't, opens
  pub opens : (o : SeenOutcome) → IsOutcome o → WritesSite o.call → ¬ (StoreFailed o.call) → o.status ≢ 6 → IsSome o.scripted
  -- it serves each of its connections, folded ones among them
  pub script : (o : SeenOutcome) (s : Scripted) (played : HasPlayed o.call s.config s.board s.front s.clock s.store o.status)
      → IsOutcome o
      → o.scripted ≡ Some s
      → IsUndisturbedScript o s played
      → EndsPlayed o s (played.has_run.folded.ended ++ s.board.ended)
  -- so does the run of a server over a front that tells
  pub server : (o : SeenOutcome) (t : FrontTold) (b : SeenBoard) (run : HasRunServer o.call o.front o.front' o.clock' o.status b)
      → IsOutcome o
      → o.board ≡ Some b
      → o.front'.told ≡ Some t
      → IsUndisturbedServer o t b run
      → EndsServed o b (run.has_run.folded.ended ++ b.ended)
  -- the test of a configuration that is accepted ends well
  pub tests : (o : SeenOutcome) (c : Configuration)
      → IsOutcome o
      → TestsFit o.call c
      → ¬ (StoreFailed o.call)
      → ¬ (Rises o.call.sink.faults o.call.sink'.faults)
      → o.status ≢ 6
      → o.status ≡ 0
  -- and so does the sending of a word, where the configuration has a control line, unless what comes back says that a restart was refused
  pub sends : (o : SeenOutcome) (word : CommandWord) (c : Configuration) (port : ℕ)
      → IsOutcome o
      → SendsBy o.call word c
      → c.control ≡ Some port
      → ¬ (StoreFailed o.call)
      → ¬ (Rises o.front.counts.faults o.front'.counts.faults)
      → ¬ (Rises o.call.sink.faults o.call.sink'.faults)
      → o.status ≢ 6
      → (o.status ≡ 0) ⊎ ((o.status ≡ 12) × EndsRestartRefused o.call o.front o.front')
