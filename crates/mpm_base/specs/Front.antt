-- A front is where connections, command lines, signals and time come from. What it tells of itself, its counts, and what each
-- call does to them.
-- Why it is so stands in docs/DECISIONS.md: 5, What a front tells of its waits; 6, What a front that tells says of time; 9, A front that
-- tells hands out links that tell; 76, A link that the table refuses.
use Rattle.std.specs.Prelude.{◌≡◌, ◌⊎◌, ℕ, ◌-◌, ◌<◌, ◌≤◌, Bool, true, false, not, List, [], ◌∷◌, ◌++◌, length, find, nat_lt, min, Option, None, Some, option_map, is_some, IfSome, slice_get, slice_index_or, ⊤}
use Rattle.std.specs.List.{flat_map}
use Rattle.mpm_base.specs.Count.{CountsWhere, next_count, RisesWhere, RisesExactlyWhere}
use Rattle.mpm_base.specs.GivenAnswers.{CountsAnswer, most_answer}
use Rattle.mpm_base.specs.GivenWords.{CountsWords}
use Rattle.mpm_base.specs.Link.{LinkTold, LinkSeen, OnlyFaults, after_close, fresh_link}
use Rattle.mpm_base.specs.declared.addr.Addr.{Addr}
use Rattle.mpm_base.specs.declared.conn.ConnName.{ConnName}
use Rattle.mpm_base.specs.declared.front.Arrival.{Arrival}
use Rattle.mpm_base.specs.declared.front.Arrival.TheVariants as arrival
use Rattle.mpm_base.specs.declared.front.Woke.{Woke}
use Rattle.mpm_base.specs.declared.front.Woke.TheVariants as woke
use Rattle.mpm_base.specs.declared.given_answers.GivenAnswers.{GivenAnswers}
use Rattle.mpm_base.specs.declared.given_words.GivenWords.{GivenWords}
use Rattle.mpm_base.specs.declared.script_line.ScriptLine.{ScriptLine}

-- what waited to be taken just before a wait let time pass: connections that had arrived, and command lines that had come
pub record Backlog : Type 0 where
  pub arrivals : ℕ
  pub lines : ℕ

-- how far a server is with a front: how many connections were handed out to it, how many command lines it has read, and whether it has
-- stopped listening
pub record Progress : Type 0 where
  pub accepted : ℕ
  pub read : ℕ
  pub hushed : Bool

-- a wait of a front: how far the server was as the wait began; until when it was to last at most, and whether time might pass in it; the
-- slots that it gave, and its answer; and what waited to be taken just before it let time pass, where it did
pub record WaitTold : Type 0 where
  pub began : Progress
  pub until : Option ℕ
  pub quiet : Bool
  pub slots : List ℕ
  pub answer : Woke
  pub passed : Option Backlog

-- a watch of a front: the number of the link, the name under which it was to be watched, and what the watch answered
pub record WatchTold : Type 0 where
  pub rank : ℕ
  pub name : ConnName
  pub answer : Bool

-- what a front was bound to: where connections are taken, and the port where command lines are, if they are
pub record BoundTold : Type 0 where
  pub listen : Addr
  pub control : Option ℕ

-- a dial of a front: the port of this machine, the word that was to be sent there, whether that succeeded, and what came back
pub record DialTold : Type 0 where
  pub port : ℕ
  pub word : List ℕ
  pub answer : Bool
  pub text : List ℕ

-- what the sender of a command line was answered: how many lines had been read by then, of which the last one is that line, and the text
pub record AnswerTold : Type 0 where
  pub read : ℕ
  pub text : List ℕ

-- what a front that tells has done and has before it: what the client of each connection sends, of those that have arrived
-- and of those that will; how many have arrived, and how many of these were handed out; its watches, in order; the links
-- that it turned away, in order, each as it was left; the command lines that have come, how many of these were read, and what their
-- senders were answered, in order; what it was bound to, its dials, in order, and whether listening was stopped; how many things are still to happen; the
-- moment at which it stands; of a patient one the moments at which something comes by itself, in order; whether an accept
-- failed since the last wait; and its waits, in order
pub record FrontTold : Type 0 where
  pub clients : List (List ℕ)
  pub arrived : ℕ
  pub accepted : ℕ
  pub watches : List WatchTold
  pub turned_away : List LinkTold
  pub lines : List (List ℕ)
  pub read : ℕ
  pub answers : List AnswerTold
  pub bound : List BoundTold
  pub dialled : List DialTold
  pub hushed : Bool
  pub left : ℕ
  pub moment : ℕ
  pub comings : Option (List ℕ)
  pub failed : Bool
  pub waits : List WaitTold

-- counts that each front keeps, whether it tells or not: of failed binds, waits and dials, of failed accepts, of waits that answered
-- Ended, of waits that gave a moment, of the command lines that it gave, of those of them that say each of the words, of the answers that
-- their senders were given, and of the links that it handed out
pub record FrontCounts : Type 0 where
  pub faults : ℕ
  pub accept_faults : ℕ
  pub ends : ℕ
  pub commands : ℕ
  pub wakes : ℕ
  pub words : GivenWords
  pub answers : GivenAnswers
  pub handed : ℕ

-- what is seen of a front: the script that it was made of, where it was made of one; what it tells, where it tells; and its
-- counts
pub record FrontSeen : Type 0 where
  pub script : Option (List ScriptLine)
  pub told : Option FrontTold
  pub counts : FrontCounts

-- how far a server is with a front that tells
abbrev pub progress_of : FrontTold → Progress
progress_of t = record { accepted = t.accepted; read = t.read; hushed = t.hushed }

-- it tells before and after, and this holds of what it tells; or it tells nothing
abbrev pub TellsOn : (FrontTold → FrontTold → Type 0) → Option FrontTold → Option FrontTold → Type 0
TellsOn Goes None told' = told' ≡ None
TellsOn Goes (Some t) told' = (t' : FrontTold) × (told' ≡ Some t') × Goes t t'

-- ## Opening and closing

-- what the front tells after it was bound to these, or could not be
abbrev pub after_bind : Bool → Addr → Option ℕ → FrontTold → FrontTold
after_bind true listen control t = record t { bound = t.bound ++ record { listen = listen; control = control } ∷ [] }
after_bind false listen control t = t

-- what a bind answered, and left of the front
pub record Binds (old new : FrontSeen) (listen : Addr) (control : Option ℕ) (answer : Bool) : Type 0 where
  pub script : new.script ≡ old.script
  pub told_is : new.told ≡ option_map (after_bind answer listen control) old.told
  pub faults : RisesWhere (not answer) old.counts.faults new.counts.faults
  pub accept_faults : new.counts.accept_faults ≡ old.counts.accept_faults
  pub ends : new.counts.ends ≡ old.counts.ends
  pub wakes : new.counts.wakes ≡ old.counts.wakes
  pub commands : new.counts.commands ≡ old.counts.commands
  pub words : new.counts.words ≡ old.counts.words
  pub answers_stay : new.counts.answers ≡ old.counts.answers
  pub handed : new.counts.handed ≡ old.counts.handed

-- the front takes no further connection
abbrev pub hushed_front : FrontTold → FrontTold
hushed_front t = record t { hushed = true }

-- what is seen of a front after listening was stopped
abbrev pub after_hush : FrontSeen → FrontSeen
after_hush f = record f { told = option_map hushed_front f.told }

-- ## A wait

-- the wait answered that nothing comes any more
abbrev pub is_ended : Woke → Bool
is_ended (woke.Woke m) = false
is_ended woke.Ended = true
is_ended woke.Failed = false

-- the wait gave a moment
abbrev pub is_woken : Woke → Bool
is_woken (woke.Woke m) = true
is_woken woke.Ended = false
is_woken woke.Failed = false

-- the wait failed
abbrev pub wait_failed : Woke → Bool
wait_failed (woke.Woke m) = false
wait_failed woke.Ended = false
wait_failed woke.Failed = true

-- the moment that the answer gives, where it gives one
abbrev pub moments_in : Woke → List ℕ
moments_in (woke.Woke m) = m ∷ []
moments_in woke.Ended = []
moments_in woke.Failed = []

-- the moments that the waits gave, in order
abbrev pub moments_of : List WaitTold → List ℕ
moments_of waits = flat_map (λ wait. moments_in wait.answer) waits

-- all has happened, each command line was read, and each connection was handed out or listening was stopped
pub record HasAllTaken (t : FrontTold) : Type 0 where
  pub left : t.left ≡ 0
  pub read : t.read ≡ length t.lines
  pub accepted : ((t.accepted ≡ t.arrived) × (t.accepted ≡ length t.clients)) ⊎ (t.hushed ≡ true)

-- a wait that wakes gives the moment at which the front then stands, and one answers Ended only where all was taken
abbrev pub IsAnswerOf : Woke → FrontTold → Type 0
IsAnswerOf (woke.Woke m) t = m ≡ t.moment
IsAnswerOf woke.Ended t = HasAllTaken t
IsAnswerOf woke.Failed t = ⊤

-- the smaller of the moments that are there
abbrev pub earlier : Option ℕ → Option ℕ → Option ℕ
earlier None other = other
earlier (Some m) None = Some m
earlier (Some m) (Some other) = Some (min m other)

-- of the moments at which something comes by itself, in the order in which it comes, the first that is later than this one
abbrev pub next_coming : ℕ → List ℕ → Option ℕ
next_coming moment comings = find (nat_lt moment) comings

-- how many connections and command lines wait to be taken
abbrev pub waiting_in : FrontTold → Backlog
waiting_in t = record { arrivals = t.arrived - t.accepted; lines = length t.lines - t.read }

-- a patient front let time pass in a wait: the wait was told that it may, and no accept failed since the one before; the front
-- went on to the earlier of `until` and the next moment at which something comes by itself, and woke; and this waited before
pub record LetsTimePass (comings : List ℕ) (until : Option ℕ) (quiet : Bool) (answer : Woke) (waited : Backlog) (t t' : FrontTold) : Type 0 where
  pub may : quiet ≡ true
  pub steady : t.failed ≡ false
  pub to : earlier until (next_coming t.moment comings) ≡ Some t'.moment
  pub later : t.moment < t'.moment
  pub wakes : answer ≡ woke.Woke t'.moment
  pub waited_is : waited ≡ waiting_in t

-- a patient front, at which something comes by itself at these moments, lets time pass only so, and else stands where it stood
abbrev pub IsPatient : List ℕ → Option ℕ → Bool → Woke → Option Backlog → FrontTold → FrontTold → Type 0
IsPatient comings until quiet answer None t t' = t'.moment ≡ t.moment
IsPatient comings until quiet answer (Some waited) t t' = LetsTimePass comings until quiet answer waited t t'

-- what a front that tells does in a wait: connections, command lines and time come, and nothing goes back
pub record GoesForward (until : Option ℕ) (quiet : Bool) (answer : Woke) (ready : List ℕ) (t t' : FrontTold) : Type 0 where
  pub clients : t'.clients ≡ t.clients
  pub arrived : t.arrived ≤ t'.arrived
  pub within : t'.arrived ≤ length t.clients
  pub accepted : t'.accepted ≡ t.accepted
  pub watches : t'.watches ≡ t.watches
  pub turned_away : t'.turned_away ≡ t.turned_away
  pub come : List (List ℕ)
  pub lines : t'.lines ≡ t.lines ++ come
  pub read : t'.read ≡ t.read
  pub answers_stay : t'.answers ≡ t.answers
  pub bound : t'.bound ≡ t.bound
  pub dialled : t'.dialled ≡ t.dialled
  pub hushed : t'.hushed ≡ t.hushed
  pub left : t'.left ≤ t.left
  pub moment : t.moment ≤ t'.moment
  pub comings : t'.comings ≡ t.comings
  pub failed : t'.failed ≡ false
  pub answers : IsAnswerOf answer t'
  pub passed : Option Backlog
  pub patient : IfSome t.comings (λ comings. IsPatient comings until quiet answer passed t t')
  pub waits :
      t'.waits ≡ t.waits ++ record { began = progress_of t; until = until; quiet = quiet; slots = ready; answer = answer; passed = passed } ∷ []

-- nothing comes any more
pub record StandsStill (t t' : FrontTold) : Type 0 where
  pub arrived : t'.arrived ≡ t.arrived
  pub lines : t'.lines ≡ t.lines
  pub left : t'.left ≡ t.left
  pub moment : t'.moment ≡ t.moment

-- only a wait that wakes gives slots
abbrev pub GivesOnlyAwake : Woke → List ℕ → Type 0
GivesOnlyAwake (woke.Woke m) ready = ⊤
GivesOnlyAwake woke.Ended ready = ready ≡ []
GivesOnlyAwake woke.Failed ready = ready ≡ []

-- after a wait that answered Ended none gives a slot, and nothing comes
pub record IsOver (told told' : Option FrontTold) (ready : List ℕ) : Type 0 where
  pub none : ready ≡ []
  pub still : TellsOn StandsStill told told'

-- what a wait answered and gave, and left of the front
pub record Waits (old new : FrontSeen) (until : Option ℕ) (quiet : Bool) (answer : Woke) (ready : List ℕ) : Type 0 where
  pub script : new.script ≡ old.script
  pub tells : TellsOn (GoesForward until quiet answer ready) old.told new.told
  pub over : 0 < old.counts.ends → IsOver old.told new.told ready
  pub awake : GivesOnlyAwake answer ready
  pub few : length ready ≤ 256
  pub faults : RisesWhere (wait_failed answer) old.counts.faults new.counts.faults
  pub accept_faults : new.counts.accept_faults ≡ old.counts.accept_faults
  pub ends : RisesExactlyWhere (is_ended answer) old.counts.ends new.counts.ends
  pub wakes : CountsWhere (is_woken answer) old.counts.wakes new.counts.wakes
  pub commands : new.counts.commands ≡ old.counts.commands
  pub words : new.counts.words ≡ old.counts.words
  pub answers_stay : new.counts.answers ≡ old.counts.answers
  pub handed : new.counts.handed ≡ old.counts.handed

-- ## An accept

-- what the client of that number sends
abbrev pub client_at : List (List ℕ) → ℕ → List ℕ
client_at clients number = slice_index_or clients number []

-- one waits, and listening was not stopped
pub record HasOneToTake (t : FrontTold) : Type 0 where
  pub listens : t.hushed ≡ false
  pub arrived : t.accepted < t.arrived

-- the link is that of the next connection: its number is how many were handed out before it
pub record IsNext (t : FrontTold) (link : LinkTold) : Type 0 where
  pub known : t.accepted < length t.clients
  pub fresh : link ≡ fresh_link t.accepted (client_at t.clients t.accepted)

-- the link tells exactly where the front does, and then it is the next one
abbrev pub IsHandedOut : Option FrontTold → Option LinkTold → Type 0
IsHandedOut told None = told ≡ None
IsHandedOut told (Some link) = (t : FrontTold) × (told ≡ Some t) × IsNext t link

-- none waits, or listening was stopped
abbrev pub HasNoneToTake : FrontTold → Type 0
HasNoneToTake t = (t.accepted ≡ t.arrived) ⊎ (t.hushed ≡ true)

-- a link comes fresh and without a fault, where one waits and listening was not stopped, and none comes only where it is not so
abbrev pub Hands : {L : Type 0} → (L → LinkSeen) → Option FrontTold → Arrival L → Type 0
Hands link_seen told (arrival.Some link) =
    IfSome told HasOneToTake × IsHandedOut told (link_seen link).told × ((link_seen link).counts.faults ≡ 0)
Hands link_seen told arrival.None = IfSome told HasNoneToTake
Hands link_seen told arrival.Failed = ⊤

-- the accept handed a link out
abbrev pub is_handed : {L : Type 0} → Arrival L → Bool
is_handed (arrival.Some link) = true
is_handed arrival.None = false
is_handed arrival.Failed = false

-- the accept failed
abbrev pub accept_failed : {L : Type 0} → Arrival L → Bool
accept_failed (arrival.Some link) = false
accept_failed arrival.None = false
accept_failed arrival.Failed = true

-- what the front tells after an accept that answered this
abbrev pub after_accept : {L : Type 0} → Arrival L → FrontTold → FrontTold
after_accept (arrival.Some link) t = record t { accepted = next_count t.accepted }
after_accept arrival.None t = t
after_accept arrival.Failed t = record t { failed = true }

-- what an accept answered, and left of the front
pub record Accepts {L : Type 0} (link_seen : L → LinkSeen) (old new : FrontSeen) (answer : Arrival L) : Type 0 where
  pub script : new.script ≡ old.script
  pub told_is : new.told ≡ option_map (after_accept answer) old.told
  pub hands : Hands link_seen old.told answer
  pub faults : new.counts.faults ≡ old.counts.faults
  pub accept_faults : RisesWhere (accept_failed answer) old.counts.accept_faults new.counts.accept_faults
  pub ends : new.counts.ends ≡ old.counts.ends
  pub wakes : new.counts.wakes ≡ old.counts.wakes
  pub commands : new.counts.commands ≡ old.counts.commands
  pub words : new.counts.words ≡ old.counts.words
  pub answers_stay : new.counts.answers ≡ old.counts.answers
  pub handed : CountsWhere (is_handed answer) old.counts.handed new.counts.handed

-- ## A watch

-- what the front tells after a watch of the link under the name, which answered this
abbrev pub after_watch : ConnName → Bool → Option LinkTold → FrontTold → FrontTold
after_watch name answer None t = t
after_watch name answer (Some link) t =
    record t { watches = t.watches ++ record { rank = link.rank; name = name; answer = answer } ∷ [] }

-- what is seen of a front after a watch
abbrev pub front_after_watch : ConnName → Bool → Option LinkTold → FrontSeen → FrontSeen
front_after_watch name answer link f = record f { told = option_map (after_watch name answer link) f.told }

-- what a watch answered, and left of the front and of the link, which tells the same
pub record Watches (old new : FrontSeen) (name : ConnName) (link link' : LinkSeen) (answer : Bool) : Type 0 where
  pub front : new ≡ front_after_watch name answer link.told old
  pub link_is : link'.told ≡ link.told
  pub only_faults : OnlyFaults (not answer) link.counts link'.counts

-- ## A link that is turned away

-- the link was closed, and is told as it was left
abbrev pub after_turning_away : Option LinkTold → FrontTold → FrontTold
after_turning_away None t = t
after_turning_away (Some link) t = record t { turned_away = t.turned_away ++ after_close link ∷ [] }

-- what is seen of a front after it turned a link away
abbrev pub front_after_turning_away : Option LinkTold → FrontSeen → FrontSeen
front_after_turning_away link f = record f { told = option_map (after_turning_away link) f.told }

-- ## A command line

-- what the front tells after it gave a command line, or none
abbrev pub after_command : Bool → FrontTold → FrontTold
after_command true t = record t { read = next_count t.read }
after_command false t = t

-- the line is the next one that came, and none is given only where each was read
abbrev pub GivesLine : Option (List ℕ) → FrontTold → Type 0
GivesLine None t = t.read ≡ length t.lines
GivesLine (Some line) t = slice_get t.lines t.read ≡ Some line

-- what a call for a command line answered, and left of the front
pub record Commands (old new : FrontSeen) (answer : Option (List ℕ)) : Type 0 where
  pub script : new.script ≡ old.script
  pub told_is : new.told ≡ option_map (after_command (is_some answer)) old.told
  pub gives : IfSome old.told (GivesLine answer)
  pub faults : new.counts.faults ≡ old.counts.faults
  pub accept_faults : new.counts.accept_faults ≡ old.counts.accept_faults
  pub ends : new.counts.ends ≡ old.counts.ends
  pub wakes : new.counts.wakes ≡ old.counts.wakes
  pub commands : RisesExactlyWhere (is_some answer) old.counts.commands new.counts.commands
  pub words : CountsWords answer old.counts.words new.counts.words
  pub answers_stay : new.counts.answers ≡ old.counts.answers
  pub handed : new.counts.handed ≡ old.counts.handed

-- ## An answer to a command line

-- what the front tells after the sender of the line that was read last was answered with the text
abbrev pub after_answer : List ℕ → FrontTold → FrontTold
after_answer text t = record t { answers = t.answers ++ record { read = t.read; text = text } ∷ [] }

-- what is left of the front after that: it counted the answer
pub record Answers (old new : FrontSeen) (text : List ℕ) : Type 0 where
  pub rest : new ≡ record old { told = option_map (after_answer text) old.told; counts = record old.counts { answers = new.counts.answers } }
  pub counted : CountsAnswer text old.counts.answers new.counts.answers

-- ## A dial

-- what the front tells after a dial of the port with the word, which answered this, and of which this came back
abbrev pub after_dial : ℕ → List ℕ → Bool → List ℕ → FrontTold → FrontTold
after_dial port word answer text t =
    record t { dialled = t.dialled ++ record { port = port; word = word; answer = answer; text = text } ∷ [] }

-- what a dial answered, what came back, at most 512 bytes, none where it failed, and what is left of the front
pub record Dials (old new : FrontSeen) (port : ℕ) (word : List ℕ) (answer : Bool) (text : List ℕ) : Type 0 where
  pub script : new.script ≡ old.script
  pub told_is : new.told ≡ option_map (after_dial port word answer text) old.told
  pub few : length text ≤ most_answer
  pub none : answer ≡ false → text ≡ []
  pub faults : RisesWhere (not answer) old.counts.faults new.counts.faults
  pub accept_faults : new.counts.accept_faults ≡ old.counts.accept_faults
  pub ends : new.counts.ends ≡ old.counts.ends
  pub wakes : new.counts.wakes ≡ old.counts.wakes
  pub commands : new.counts.commands ≡ old.counts.commands
  pub words : new.counts.words ≡ old.counts.words
  pub answers_stay : new.counts.answers ≡ old.counts.answers
  pub handed : new.counts.handed ≡ old.counts.handed
