-- What a part leaves alone that the listener alone decides.
use Rattle.std.proofs.Common.{◌≡◌, ℕ, Bool, true, false, List, [], ◌∷◌, map, if◌then◌else◌, refl, sym, ap, subst, ◌∙◌}
use Rattle.std.specs.Prelude.{⊤}
use Rattle.mpm_base.specs.declared.conn.Cause.{Cause}
use Rattle.mpm_base.specs.declared.conn.ConnName.{ConnName}
use Rattle.mpm_base.specs.declared.conn.Kind.{Kind}
use Rattle.mpm_base.specs.declared.conn.Tail.{Tail}
use Rattle.mpm_base.specs.declared.conn.Tail.TheVariants.{Direct}
use Rattle.conn_machine.specs.declared.event.Entry.{Entry}
use Rattle.conn_machine.specs.declared.event.Event.{Event}
use Rattle.conn_machine.specs.declared.event.Event.TheVariants as event
use Rattle.conn_machine.specs.declared.state.State.{State}
use Rattle.conn_machine.specs.BetweenTurns.{OthersLeaveTheRestToTheListener}
use Rattle.conn_machine.specs.Folds.{opening_record}
use Rattle.conn_machine.specs.Made.{AreMade, HasSeen}
use Rattle.conn_machine.specs.Passes.{OnlyServes}
use Rattle.conn_machine.specs.Runs.{after, entries_of}
use Rattle.conn_machine.specs.Table.{next}
use Rattle.table_rule.specs.declared.view.Origin.{Origin}
use Rattle.table_rule.specs.declared.view.View.{View}
use Rattle.worker_group.specs.declared.service.Exit.{Exit}
use Rattle.worker_group.specs.declared.service.Exit.TheVariants as exit
use Rattle.worker_group.specs.Service.{given_up_cause, left_events}
use Rattle.board_turns.specs.Books.{state_of}
use Rattle.board_turns.specs.Rests.{TurnsRestOn}
use Rattle.board_turns.specs.Turns.{HadATurn, HadQuietTurn, HadTurn, state_found}
use Rattle.listener_turns.specs.Credits.{HadCreditTurn}
use Rattle.listener_turns.specs.Looks.{LooksIdle}
use Rattle.listener_parts.specs.Did.{AreOfConns, IsOfConns, LeavesAlone, StandsAs}

-- ## States

pub stands_same : (s : State) → StandsAs s s
stands_same s = record { moment = refl; accepted = refl; newest = refl; shape = refl; going = refl }

pub stands_more : (a b c : State) → StandsAs a b → StandsAs b c → StandsAs a c
stands_more a b c first second = record {
  moment = second.moment ∙ first.moment;
  accepted = second.accepted ∙ first.accepted;
  newest = second.newest ∙ first.newest;
  shape = second.shape ∙ first.shape;
  going = second.going ∙ first.going;
}

pub alone_same : (s : State) → LeavesAlone s s
alone_same s = record { stands = stands_same s; children = refl }

pub alone_more : (a b c : State) → LeavesAlone a b → LeavesAlone b c → LeavesAlone a c
alone_more a b c first second = record {
  stands = stands_more a b c first.stands second.stands;
  children = second.children ∙ first.children;
}

pub alone_serves : (s t : State) → OnlyServes s t → LeavesAlone s t
alone_serves s t only = record {
  stands = record { moment = only.moment; accepted = only.accepted; newest = only.newest; shape = only.shape; going = only.going };
  children = only.children;
}

alone_entries : (s : State) (added : List Entry) → AreOfConns (map (λ (e : Entry). e.event) added) → LeavesAlone s (after s added)
alone_entries s [] all = alone_same s
alone_entries s (e ∷ added) all =
    alone_more s (next s e.event) (after (next s e.event) added) (all.0 s) (alone_entries (next s e.event) added all.1)

-- ## Events

pub holds_alone : (name : ConnName) → IsOfConns (event.Hold name)
holds_alone name s = record { stands = record { moment = refl; accepted = refl; newest = refl; shape = refl; going = refl }; children = refl }

pub parks_alone : (name : ConnName) (kind : Kind) → IsOfConns (event.Park name kind)
parks_alone name kind s = record { stands = record { moment = refl; accepted = refl; newest = refl; shape = refl; going = refl }; children = refl }

pub lingers_alone : (name : ConnName) (why : Cause) → IsOfConns (event.Linger name why)
lingers_alone name why s = record { stands = record { moment = refl; accepted = refl; newest = refl; shape = refl; going = refl }; children = refl }

pub closes_alone : (name : ConnName) (why : Cause) (how : Tail) → IsOfConns (event.Close name why how)
closes_alone name why how s = record { stands = record { moment = refl; accepted = refl; newest = refl; shape = refl; going = refl }; children = refl }

pub signals_alone : (slot : ℕ) → IsOfConns (event.Ready slot)
signals_alone slot s = record { stands = record { moment = refl; accepted = refl; newest = refl; shape = refl; going = refl }; children = refl }

-- however a connection is left
pub left_alone : (way : Exit) (name : ConnName) → AreOfConns (left_events way name)
left_alone (exit.Park kind) name = (parks_alone name kind, tt)
left_alone (exit.Linger why) name = (lingers_alone name why, tt)
left_alone (exit.Close why how) name = (closes_alone name why how, tt)
left_alone (exit.GiveUp fault) name = (closes_alone name (given_up_cause fault) Direct, tt)

pub ready_alone : (slots : List ℕ) → AreOfConns (map event.Ready slots)
ready_alone [] = tt
ready_alone (slot ∷ slots) = (signals_alone slot, ready_alone slots)

-- ## Turns

-- what others added since leaves all of that alone
pub others_alone : OthersLeaveTheRestToTheListener → (v : View) (history : List Entry) → v.who.number ≡ 0
    → AreMade v.origin.state (opening_record v.origin.passes) history → HasSeen v.who.number v.seen history → LeavesAlone (state_of v) (state_found v history)
others_alone law v history number made seen =
    alone_serves (state_of v) (state_found v history)
    (law.rest v.origin.state (opening_record v.origin.passes) v.seen history made
    (seen.0, seen.1, subst (λ p. entries_of p seen.0 ≡ []) number seen.2))

-- the state behind a turn is that behind what the pass added to what the turn found
pub state_behind : TurnsRestOn → (found : List Entry) (events : List Event) (old new : View) → (t : HadTurn found events old new)
    → state_of new ≡ after (state_found old found) t.added
state_behind rests found events old new t =
    ap (λ (o : Origin). after o.state new.seen) t.stays.origin ∙ ap (after old.origin.state) t.seen
    ∙ rests.joins old.origin.state found t.added

-- so does a turn in which only such events were made
pub turn_alone : OthersLeaveTheRestToTheListener → TurnsRestOn → (events : List Event) (old new : View) → old.who.number ≡ 0 → AreOfConns events
    → HadATurn events old new → LeavesAlone (state_of old) (state_of new)
turn_alone law rests events old new number all (found, t) =
    subst (LeavesAlone (state_of old)) (sym (state_behind rests found events old new t))
    (alone_more (state_of old) (state_found old found) (after (state_found old found) t.added) (others_alone law old found number t.made t.others)
    (alone_entries (state_found old found) t.added (subst AreOfConns (sym t.events_are) all)))

-- ## Steps on idle words

state_seen : (old new : View) (history : List Entry) → new.origin ≡ old.origin → new.seen ≡ history → state_of new ≡ state_found old history
state_seen old new history origin seen =
    ap (λ (o : Origin). after o.state new.seen) origin ∙ ap (after old.origin.state) seen

pub look_alone : OthersLeaveTheRestToTheListener → (child threads : ℕ) (old new : View) (idle : Bool) → old.who.number ≡ 0
    → LooksIdle child threads old idle new → LeavesAlone (state_of old) (state_of new)
look_alone law child threads old new idle number looks =
    let f = looks.looked in
    subst (LeavesAlone (state_of old)) (sym (state_seen old new new.seen (ap (λ (q : View). q.origin) f.looked.0) refl))
    (others_alone law old new.seen number f.made f.seen)

pub credit_alone : OthersLeaveTheRestToTheListener → (found : List Entry) (child threads : ℕ) (old new : View) → old.who.number ≡ 0
    → HadCreditTurn found child threads old new → LeavesAlone (state_of old) (state_of new)
credit_alone law found child threads old new number t =
    subst (LeavesAlone (state_of old)) (sym (state_seen old new found t.origin t.seen))
    (others_alone law old found number t.made t.others)

-- ## Folds

pub quiet_alone : OthersLeaveTheRestToTheListener → (old new : View) → old.who.number ≡ 0 → HadQuietTurn new.seen old new
    → LeavesAlone (state_of old) (state_of new)
quiet_alone law old new number t =
    subst (LeavesAlone (state_of old)) (sym (state_seen old new new.seen t.stays.origin refl)) (others_alone law old new.seen number t.made t.others)

-- ## Children

-- a start, or an end, of a child leaves the rest as it stands
pub starts_stand : (k : ℕ) (s : State) → StandsAs s (next s (event.StartChild k))
starts_stand k s = record { moment = refl; accepted = refl; newest = refl; shape = refl; going = refl }

pub retires_stand : (k : ℕ) (s : State) → StandsAs s (next s (event.Retire k))
retires_stand k s = record { moment = refl; accepted = refl; newest = refl; shape = refl; going = refl }

-- so do some of them
abbrev pub AllStand : List Event → Type 0
AllStand [] = ⊤
AllStand (e ∷ events) = ((s : State) → StandsAs s (next s e)) × AllStand events

pub starts_all : (children : List ℕ) → AllStand (map event.StartChild children)
starts_all [] = tt
starts_all (k ∷ children) = (starts_stand k, starts_all children)

pub retires_all : (children : List ℕ) → AllStand (map event.Retire children)
retires_all [] = tt
retires_all (k ∷ children) = (retires_stand k, retires_all children)

stands_entries : (s : State) (added : List Entry) → AllStand (map (λ (e : Entry). e.event) added) → StandsAs s (after s added)
stands_entries s [] all = stands_same s
stands_entries s (e ∷ added) all =
    stands_more s (next s e.event) (after (next s e.event) added) (all.0 s) (stands_entries (next s e.event) added all.1)

pub turn_stands : OthersLeaveTheRestToTheListener → TurnsRestOn → (events : List Event) (old new : View) → old.who.number ≡ 0 → AllStand events
    → HadATurn events old new → StandsAs (state_of old) (state_of new)
turn_stands law rests events old new number all (found, t) =
    subst (StandsAs (state_of old)) (sym (state_behind rests found events old new t))
    (stands_more (state_of old) (state_found old found) (after (state_found old found) t.added) (others_alone law old found number t.made t.others).stands
    (stands_entries (state_found old found) t.added (subst AllStand (sym t.events_are) all)))

-- one start, or one end, alone
pub one_stands : (k : ℕ) → AllStand (event.StartChild k ∷ [])
one_stands k = (starts_stand k, tt)

pub gone_stands : (k : ℕ) (gone : Bool) → AllStand (if gone then event.Retire k ∷ [] else [])
gone_stands k true = (retires_stand k, tt)
gone_stands k false = tt
