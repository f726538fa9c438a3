-- The pace: what the listener makes of what its front and its clock bring, wait by wait. Behind each wait time passes, where the clock's
-- answer is later than all before; then the slots that the wait gave are signalled; then the command lines that are read are done; then
-- children are let go of and started; and then the connections are taken that the front hands out. Nothing of it is made behind the next
-- wait, and no child is let go of or started between two parts before that.
use Rattle.std.specs.Prelude.{◌≡◌, ◌⊎◌, ◌<◌, ◌≤◌, ◌+◌, ◌-◌, ℕ, List, [], ◌∷◌, ◌++◌, drop, map, max, replicate, take, Option, None, Some, is_some, IfSome}
use Rattle.std.specs.List.{flat_map, list_any}
use Rattle.mpm_base.specs.Count.{greatest_count}
use Rattle.mpm_base.specs.Front.{FrontTold, Progress, WaitTold, is_woken, progress_of}
use Rattle.mpm_base.specs.declared.script_line.CommandWord.{CommandWord}
use Rattle.mpm_base.specs.declared.script_line.CommandWord.TheVariants as word
use Rattle.conn_machine.specs.declared.event.Commanded.{Commanded}
use Rattle.conn_machine.specs.declared.event.Commanded.TheVariants.{Graceful, Refused, GracefulStop, Stop}
use Rattle.conn_machine.specs.declared.event.Entry.{Entry}
use Rattle.conn_machine.specs.declared.event.Event.{Event}
use Rattle.conn_machine.specs.declared.event.Event.TheVariants as event
use Rattle.conn_machine.specs.declared.event.Why.TheVariants as why
use Rattle.conn_machine.specs.declared.state.Going.{Going}
use Rattle.conn_machine.specs.declared.state.Going.TheVariants.{Halted}
use Rattle.worker_group.specs.Acts.{events_of}
use Rattle.listener_round.specs.Commands.{asked_by, asks_to_end}
use Rattle.listener_round.specs.Times.{answers_of}
use Rattle.board_book.specs.Moments.{known_slots, moment_for, ticks_to}

-- ## What of a history comes from outside

-- time passed to the moment, the slot was signalled, what a command line asks for was done, or a connection was taken; and, as what comes
-- from outside stands before or behind it, a child was started or let go of
pub data Brought : Type 0 where
  ticked : ℕ → Brought
  signalled : ℕ → Brought
  ordered : CommandWord → Brought
  moved : Brought
  taken : Brought

-- the command line that a command does: an order, be it taken or refused, a graceful stop, or a stop for which it was asked
abbrev pub ordered_in : Commanded → List CommandWord
ordered_in (Graceful shape) = word.Graceful ∷ []
ordered_in (Refused reason) = word.Graceful ∷ []
ordered_in (GracefulStop until) = word.GracefulStop ∷ []
ordered_in (Stop why.Asked) = word.Stop ∷ []
ordered_in (Stop other) = []

-- what an event is of these
abbrev pub brought_in : Event → List Brought
brought_in (event.Tick m) = ticked m ∷ []
brought_in (event.Ready slot) = signalled slot ∷ []
brought_in (event.Command c) = map ordered (ordered_in c)
brought_in (event.StartChild k) = moved ∷ []
brought_in (event.Retire k) = moved ∷ []
brought_in (event.Accept slot) = taken ∷ []
brought_in other = []

-- what the listener made of what came from outside, in order
abbrev pub brought : List Entry → List Brought
brought history = flat_map brought_in (events_of 0 history)

-- ## What a wait asks for

-- what comes with a wait: what the clock answered, where it was asked; the slots that the wait gave and the table has; what the command
-- lines ask for that were read behind it; how many connections were handed out behind it; and how many children are started or let go of
-- between the last two, which is the listener's own
pub record Share : Type 0 where
  pub answer : Option ℕ
  pub signals : List ℕ
  pub orders : List CommandWord
  pub moves : ℕ
  pub handed : ℕ

-- the moment to which time passes by what the clock answered at this one, where that is later
abbrev pub ticks_by : ℕ → Option ℕ → List ℕ
ticks_by moment None = []
ticks_by moment (Some answer) = ticks_to moment (moment_for answer)

-- the moment that it is then
abbrev pub moment_by : ℕ → Option ℕ → ℕ
moment_by moment None = moment
moment_by moment (Some answer) = max moment (moment_for answer)

-- what the listener makes of a share at this moment: each part once, and in order
abbrev pub made_of : ℕ → Share → List Brought
made_of moment s =
    map ticked (ticks_by moment s.answer) ++ map signalled s.signals ++ map ordered s.orders ++ replicate s.moves moved
    ++ replicate s.handed taken

-- the same of shares, one behind the other
abbrev pub made_from : ℕ → List Share → List Brought
made_from moment [] = []
made_from moment (s ∷ shares) = made_of moment s ++ made_from (moment_by moment s.answer) shares

-- the moment that it is behind them
abbrev pub moment_behind : ℕ → List Share → ℕ
moment_behind moment [] = moment
moment_behind moment (s ∷ shares) = moment_behind (moment_by moment s.answer) shares

-- ## Shares of waits

-- the command lines that were read from the first of these counts of them up to the second
abbrev pub lines_between : List (List ℕ) → ℕ → ℕ → List (List ℕ)
lines_between lines from to = take (to - from) (drop from lines)

-- the share is that of the wait, where the server was so far with the front when the next wait began, or in the end: the clock was asked
-- exactly where the wait gave a moment, and the lines and connections are those that were read and handed out between the two. When the wait
-- began listening was stopped exactly where a line that was read by then asks for a graceful stop, and no line was given back since
pub record IsShareOf (rows : ℕ) (t : FrontTold) (wait : WaitTold) (next : Progress) (s : Share) : Type 0 where
  pub answer : is_some s.answer ≡ is_woken wait.answer
  pub signals : s.signals ≡ known_slots rows wait.slots
  pub reads : t.read < greatest_count → wait.began.read ≤ next.read
  pub hushed : t.read < greatest_count → wait.began.hushed ≡ list_any asks_to_end (take wait.began.read t.lines)
  pub orders : t.read < greatest_count → s.orders ≡ asked_by wait.began.hushed (lines_between t.lines wait.began.read next.read)
  pub handed : t.accepted < greatest_count → wait.began.accepted + s.handed ≡ next.accepted

-- how far the server was with the front when the first of the waits began, or is now where there is none
abbrev pub progress_at : FrontTold → List WaitTold → Progress
progress_at t [] = progress_of t
progress_at t (wait ∷ waits) = wait.began

-- the shares are those of the waits, one of each
abbrev pub AreSharesOf : ℕ → FrontTold → List WaitTold → List Share → Type 0
AreSharesOf rows t [] shares = shares ≡ []
AreSharesOf rows t (wait ∷ waits) [] = ⊥
AreSharesOf rows t (wait ∷ waits) (s ∷ shares) = IsShareOf rows t wait (progress_at t waits) s × AreSharesOf rows t waits shares

-- the shares are those of all waits of the front, before the first of which no line was read and no connection was handed out
pub record AreSharesOfAll (rows : ℕ) (t : FrontTold) (shares : List Share) : Type 0 where
  pub unread : (progress_at t t.waits).read ≡ 0
  pub untaken : (progress_at t t.waits).accepted ≡ 0
  pub each : AreSharesOf rows t t.waits shares

-- the answer, where there is one
abbrev pub answer_if : Option ℕ → List ℕ
answer_if None = []
answer_if (Some answer) = answer ∷ []

-- what the clock answered in the shares, in order
abbrev pub answers_in : List Share → List ℕ
answers_in shares = flat_map (λ s. answer_if s.answer) shares

-- ## The pace

-- what the listener made is what the shares ask for, but for the end of the last one's; then children were let go of
pub record IsCutShort (shares : List Share) (made : List Brought) : Type 0 where
  pub before : List Share
  pub last : Share
  pub part : List Brought
  pub missing : List Brought
  pub behind : ℕ
  pub shares_are : shares ≡ before ++ last ∷ []
  pub made_are : made ≡ made_from 0 before ++ part ++ replicate behind moved
  pub rest : made_of (moment_behind 0 before) last ≡ part ++ missing

-- what the listener made is what the shares ask for, but for the signals of the last one
pub record IsUnsignalled (shares : List Share) (made : List Brought) : Type 0 where
  pub before : List Share
  pub last : Share
  pub shares_are : shares ≡ before ++ last ∷ []
  pub made_are : made ≡ made_from 0 (before ++ record last { signals = [] } ∷ [])

-- what the listener of a server that goes on so made of the shares: all of it. Where the server stopped for want of memory the end may be
-- missing of what the last one asks for; and where the time of a graceful stop was over nothing was signalled of that one
abbrev pub AreMadeOf : Going → List Share → List Brought → Type 0
AreMadeOf (Halted why.NoMemory) shares made = (made ≡ made_from 0 shares) ⊎ IsCutShort shares made
AreMadeOf (Halted why.Overdue) shares made = IsUnsignalled shares made
AreMadeOf other shares made = made ≡ made_from 0 shares

-- the pace of a server that goes on so, whose table has so many slots: of the shares that came with the waits that the front tells, and
-- with the answers that the clock tells, the history has what the listener made, behind the children that it started at first
pub record KeepsPace (rows : ℕ) (told : Option FrontTold) (calls : Option (List (ℕ × ℕ))) (going : Going) (history : List Entry) : Type 0 where
  pub shares : List Share
  pub waits : IfSome told (λ t. AreSharesOfAll rows t shares)
  pub answers : IfSome calls (λ calls. answers_in shares ≡ answers_of calls)
  pub first : ℕ
  pub made : List Brought
  pub brought_is : brought history ≡ replicate first moved ++ made
  pub are : AreMadeOf going shares made
