-- What the listener keeps of its generations on its way, and what it does for a command line.
use Rattle.std.specs.Prelude.{◌≡◌, ◌⊎◌, ℕ, ◌+◌, Bool, true, false, List, [], ◌∷◌, ◌++◌, map, if◌then◌else◌, Option, None, Some, option_map}
use Rattle.mpm_base.specs.CommandWord.{command_word}
use Rattle.mpm_base.specs.Front.{Answers, Commands, FrontSeen, after_hush}
use Rattle.mpm_base.specs.Store.{StoreSeen, StoreTold}
use Rattle.mpm_base.specs.declared.script_line.CommandWord.{CommandWord}
use Rattle.mpm_base.specs.declared.script_line.CommandWord.TheVariants as word
use Rattle.conn_machine.specs.declared.event.Commanded.TheVariants.{Graceful, Refused, GracefulStop}
use Rattle.conn_machine.specs.declared.event.Event.TheVariants as event
use Rattle.conn_machine.specs.Table.{next}
use Rattle.conn_state.specs.Known.{KnownOutside}
use Rattle.board_book.specs.Book.{SeenBook}
use Rattle.board_book.specs.Editions.{edition_of, orders_in}
use Rattle.board.specs.Editions.{IsOfGeneration}
use Rattle.worker_group.specs.Acts.{Acts}
use Rattle.restart_control.specs.declared.plan.Plan.{Plan}
use Rattle.restart_control.specs.declared.reload_fault.ReloadFault.{ReloadFault}
use Rattle.restart_control.specs.declared.reload_fault.ReloadFault.TheVariants as fault
use Rattle.conn_machine.specs.declared.event.Refusal.{Refusal}
use Rattle.conn_machine.specs.declared.event.Refusal.TheVariants as refusal
use Rattle.command_answers.specs.Answers.{generation_answer, memory_answer}
use Rattle.mpm_base.specs.declared.shape.Shape.{Shape}
use Rattle.listener_round.specs.Generations.{Opening, known_edition, head_limits_of, renewed}
use Rattle.listener_round.specs.LineAnswers.{IsRefusalAnswer}
use Rattle.listener_round.specs.Clients.{clients_told}
use Rattle.listener_round.specs.Orders.{shape_by}
use Rattle.listener_round.specs.Pace.{brought, ordered}
use Rattle.listener_round.specs.StandingInside.{IsOpenedBy, KnowsLater, Standing, StandsBroken, StandsOn, standing}
use Rattle.listener_round.specs.declared.edition.LoadedEdition.{LoadedEdition}
use Rattle.listener_round.specs.declared.edition.NamedConfig.{NamedConfig}

-- the limits and the site are those of the edition of the newest generation, where the type knows that
abbrev pub ServesNewest : Option KnownOutside → SeenBook → LoadedEdition → Type 0
ServesNewest known b e = IsOfGeneration known b b.state.newest e.limits e.site.value

-- the type knows of each edition that is still to come what the store makes of it
abbrev pub KnowsComing : Option KnownOutside → SeenBook → NamedConfig → Option StoreTold → Type 0
KnowsComing known b c told = KnowsLater known (orders_in b) c.name.now c.config.now told

-- how many lines were given besides, where the last one asks to stop
abbrev pub owed_by : Bool → ℕ
owed_by asked = if asked then 1 else 0

-- why a restart is refused for the fault
abbrev pub reason_for : ReloadFault → Refusal
reason_for fault.Absent = refusal.Absent
reason_for (fault.Conf f) = refusal.Conf
reason_for (fault.Load f root) = refusal.Site
reason_for fault.StoreFault = refusal.Store
reason_for fault.NoMemory = refusal.NoMemory

-- how a server opens by the configuration and the edition, over this store and this front
abbrev pub opening_by : NamedConfig → LoadedEdition → StoreSeen → FrontSeen → Opening
opening_by c e store front =
    record { name = c.name.now; config = c.config.now; site = e.site.value; store = store; front = front }

-- what is known of the outside of a server that opens so: what its clients send, and its editions
abbrev pub known_outside : Opening → KnownOutside
known_outside o = record { clients = clients_told o.front.told; edition = known_edition o }

-- ## A command line

-- a generation began by the plan, with the number of its order as that of its edition, and connections are served by the plan from then on
pub record Begins (plan : Plan) (old new : SeenBook) (e : LoadedEdition) : Type 0 where
  pub acts : Acts 0 (event.Command (Graceful (shape_by plan.config)) ∷ []) None old new
  pub state : new.state ≡ next old.state (event.Command (Graceful (shape_by plan.config)))
  pub edition : edition_of new (old.state.newest + 1) ≡ Some (orders_in old + 1)
  pub limits : e.limits ≡ head_limits_of plan.config
  pub site : e.site.value ≡ plan.site
  pub stop : e.stop_ms ≡ plan.config.current.stop_ms

-- a restart was refused for the reason
pub record Refuses (reason : Refusal) (old new : SeenBook) : Type 0 where
  pub acts : Acts 0 (event.Command (Refused reason) ∷ []) None old new
  pub state : new.state ≡ old.state

-- the same for want of memory, and connections are served as before
pub record LacksMemory (old new : SeenBook) (e e' : LoadedEdition) : Type 0 where
  pub refuses : Refuses refusal.NoMemory old new
  pub same : e' ≡ e

-- what comes of a plan
abbrev pub Carries : Plan → SeenBook → SeenBook → LoadedEdition → LoadedEdition → Type 0
Carries plan old new e e' = Begins plan old new e' ⊎ LacksMemory old new e e'

-- the listener made this of command lines, and of nothing else that came from outside
abbrev pub MakesOrders : List CommandWord → SeenBook → SeenBook → Type 0
MakesOrders words old new = brought new.history ≡ brought old.history ++ map ordered words

-- what a line that asks for a graceful stop asks for, where the server takes connections, or doesn't
abbrev pub end_if : Bool → List CommandWord
end_if true = word.GracefulStop ∷ []
end_if false = []

-- a graceful stop was begun by an event of the listener, where the server took connections
abbrev pub ActsEnding : Bool → SeenBook → SeenBook → Type 0
ActsEnding true old new = (until : Option ℕ) × Acts 0 (event.Command (GracefulStop until) ∷ []) None old new
ActsEnding false old new = Acts 0 [] None old new

-- a run stands on over whichever front gave a line of that word, which was done
abbrev pub StandsBehind : Option KnownOutside → NamedConfig → CommandWord → (FrontSeen → Standing) → (FrontSeen → Standing) → Type 0
StandsBehind known c asked old new =
    (f f' : FrontSeen) → Commands f f' (Some (command_word asked)) → StandsOn known c 0 0 (old f) (new f')

-- the same of one that is broken off
abbrev pub BreaksBehind : Option KnownOutside → NamedConfig → CommandWord → (FrontSeen → Standing) → (FrontSeen → Standing) → Type 0
BreaksBehind known c asked old new =
    (f f' : FrontSeen) → Commands f f' (Some (command_word asked)) → StandsBroken known c (old f) (new f')

-- behind a line that asks for a graceful stop, which the front gave then, a run stands on from the one book to the other, over whichever store
abbrev pub EndingStands : Option KnownOutside → NamedConfig → ℕ → FrontSeen → FrontSeen → SeenBook → SeenBook → Type 0
EndingStands known c stop_ms front front' old new =
    (f : FrontSeen) (store : StoreSeen) → Commands f front (Some (command_word word.GracefulStop))
    → StandsOn known c 0 0 (standing stop_ms store f old) (standing stop_ms store front' new)

-- the same of one that is broken off
abbrev pub EndingBreaks : Option KnownOutside → NamedConfig → ℕ → FrontSeen → FrontSeen → SeenBook → SeenBook → Type 0
EndingBreaks known c stop_ms front front' old new =
    (f : FrontSeen) (store : StoreSeen) → Commands f front (Some (command_word word.GracefulStop))
    → StandsBroken known c (standing stop_ms store f old) (standing stop_ms store front' new)

-- listening was stopped, or the front is as it was
abbrev pub IsHushedIf : Bool → FrontSeen → FrontSeen → Type 0
IsHushedIf true old new = new ≡ after_hush old
IsHushedIf false old new = new ≡ old

-- the front is as it was, or listening was stopped
abbrev pub MayHush : FrontSeen → FrontSeen → Type 0
MayHush old new = (new ≡ old) ⊎ (new ≡ after_hush old)

-- ## What a restart is answered

-- it is refused for the reason, and answered so whatever the run: its edition is the next one of this store
abbrev pub AnswersRefusal : NamedConfig → StoreSeen → Refusal → List ℕ → Type 0
AnswersRefusal c store reason answer =
    (o : Opening) (orders : ℕ) → IsOpenedBy c o → store.told ≡ option_map (renewed orders) o.store.told
    → IsRefusalAnswer o (orders + 1) reason answer

-- a plan was carried out, and the answer is the generation's number; or memory lacked for it
abbrev pub AnswersPlan : SeenBook → SeenBook → List ℕ → Type 0
AnswersPlan old new answer =
    ((new.state.newest ≡ old.state.newest + 1) × (answer ≡ generation_answer (old.state.newest + 1)))
    ⊎ (Refuses refusal.NoMemory old new × (answer ≡ memory_answer))

-- a generation began by an event of the listener, and the answer is its number
pub record AnswersBegin (old new : SeenBook) (answer : List ℕ) : Type 0 where
  pub shape : Shape
  pub acts : Acts 0 (event.Command (Graceful shape) ∷ []) None old new
  pub says : answer ≡ generation_answer (old.state.newest + 1)

-- a restart was refused by an event of the listener, and the answer says why
pub record AnswersRefused (c : NamedConfig) (store : StoreSeen) (old new : SeenBook) (answer : List ℕ) : Type 0 where
  pub reason : Refusal
  pub refuses : Refuses reason old new
  pub says : AnswersRefusal c store reason answer

-- a restart by the next edition of this store is answered by the event that the listener made for it
abbrev pub AnswersRestart : NamedConfig → StoreSeen → SeenBook → SeenBook → List ℕ → Type 0
AnswersRestart c store old new answer = AnswersBegin old new answer ⊎ AnswersRefused c store old new answer

-- ## The next line

-- the sender of the line before was answered, where that is still to be done
abbrev pub AnswersIf : Option (List ℕ) → FrontSeen → FrontSeen → Type 0
AnswersIf None old new = new ≡ old
AnswersIf (Some text) old new = Answers old new text

-- so it was, and then the front gave this line, or none
abbrev pub GivesNext : Option (List ℕ) → FrontSeen → FrontSeen → Option (List ℕ) → Type 0
GivesNext answer old new line = (mid : FrontSeen) × AnswersIf answer old mid × Commands mid new line
