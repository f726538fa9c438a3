-- How connections that wait are let go of, one behind the other.
use Rattle.std.proofs.Common.{◌≡◌, List, [], ◌∷◌, ◌++◌, Option, None, Some, sym, ap, subst, ◌∙◌, append-nil}
use Rattle.std.proofs.lemmas.Grind.{flat_map-append}
use Rattle.std.specs.List.{flat_map}
use Rattle.std.specs.Prelude.{Result, IfErr, IfNone, IfSome, OnErr}
use Rattle.std.specs.declared.result.Result.TheVariants.{Ok, Err}
use Rattle.mpm_base.specs.declared.conn.Cause.{Cause}
use Rattle.mpm_base.specs.declared.conn.ConnName.{ConnName}
use Rattle.mpm_base.specs.declared.conn.Tail.{Tail}
use Rattle.conn_machine.specs.declared.event.Event.{Event}
use Rattle.conn_machine.specs.declared.event.Event.TheVariants as event
use Rattle.conn_machine.specs.BetweenTurns.{OthersLeaveTheRestToTheListener}
use Rattle.conn_machine.specs.States.{is_halted}
use Rattle.table_rule.specs.declared.view.View.{View}
use Rattle.table_rule.specs.declared.view.Who.{Who}
use Rattle.board_book.specs.declared.faults.BoardFault.{BoardFault}
use Rattle.board_book.specs.declared.faults.BoardFault.TheVariants as fault
use Rattle.board_book.specs.Faults.{IsRefusedFor}
use Rattle.worker_group.specs.declared.service.Exit.{Exit}
use Rattle.worker_group.specs.Service.{left_events}
use Rattle.board_turns.specs.Books.{book_of, state_of}
use Rattle.board_turns.specs.Carries.{Lasts}
use Rattle.board_turns.specs.Rests.{TurnsRestOn}
use Rattle.board_turns.specs.Turns.{HadATurn}
use Rattle.board_turns.proofs.TurnLemmas.{more_turns, one_turn}
use Rattle.listener_turns.specs.declared.held.Due.{Due}
use Rattle.listener_turns.specs.Holds.{TookUpFor}
use Rattle.listener_parts.specs.Did.{AreOfConns, Did, LeavesAlone}
use Rattle.listener_parts.specs.Letting.{AllLeftBy, Departure, DrainsUntil, GivesUpDrained, IsDrainedWay, IsLateWay, IsRetiringWay, LetsGo, LetsGoOfConns, LetsGoUntil, LetsOneGo, RefusedWait, departure_events, given_up_tail, gone_events, lingering_give_up_events}
use Rattle.listener_parts.proofs.AloneLemmas.{alone_more, closes_alone, holds_alone, turn_alone}
use Rattle.listener_parts.proofs.DidLemmas.{did_as, did_more, did_nothing, did_turns, two_turns}

-- ## One connection

-- the turn in which it was taken up
pub held_turn : (why : Due) (name : ConnName) (old new : View) → TookUpFor why name old new → HadATurn (event.Hold name ∷ []) old new
held_turn why name old new took = (took.0, took.1)

-- it was held, and then left
pub lets_one : (Way : Exit → Type 0) (why : Due) (name : ConnName) (way : Exit) (a b c : View) → Way way → TookUpFor why name a b
    → HadATurn (left_events way name) b c → c.row ≡ None → LetsOneGo Way a c
lets_one Way why name way a b c is_way took left none = record {
  one = record { name = name; way = way };
  is_way = is_way;
  did = did_turns (event.Hold name ∷ left_events way name) None a c
      (two_turns (event.Hold name ∷ []) (left_events way name) a b c (held_turn why name a b took) left) none;
}

-- by another spelling of its name
pub lets_named : (Way : Exit → Type 0) (why : Due) (name named : ConnName) (way : Exit) (a b c : View) → Way way → TookUpFor why name a b → named ≡ name
    → HadATurn (left_events way named) b c → c.row ≡ None → LetsOneGo Way a c
lets_named Way why name named way a b c is_way took same left none =
    lets_one Way why name way a b c is_way took (subst (λ (n : ConnName). HadATurn (left_events way n) b c) same left) none

-- ## Several

pub lets_none : (Way : Exit → Type 0) (v : View) → v.row ≡ None → LetsGo Way v v
lets_none Way v row = record { gone = []; ways = tt; did = did_nothing v None row }

ways_more : (Way : Exit → Type 0) (gone : List Departure) (l : Departure) → AllLeftBy Way gone → Way l.way → AllLeftBy Way (gone ++ l ∷ [])
ways_more Way [] l all one = (one, tt)
ways_more Way (x ∷ gone) l all one = (all.0, ways_more Way gone l all.1 one)

-- the events of some with those of one behind them
letting_more : (gone : List Departure) (l : Departure) → gone_events gone ++ departure_events l ≡ gone_events (gone ++ l ∷ [])
letting_more gone l =
    ap (λ (es : List Event). flat_map departure_events gone ++ es) (sym (append-nil (departure_events l))) ∙ sym (flat_map-append departure_events gone (l ∷ []))

-- one more was let go of
pub lets_more : (Way : Exit → Type 0) (a b c : View) → LetsGo Way a b → LetsOneGo Way b c → LetsGo Way a c
lets_more Way a b c lets one = record {
  gone = lets.gone ++ one.one ∷ [];
  ways = ways_more Way lets.gone one.one lets.ways one.is_way;
  did = did_as _ _ None a c (letting_more lets.gone one.one)
      (did_more (gone_events lets.gone) (departure_events one.one) None None a b c lets.did one.did);
}

-- and then nothing more was done
pub lets_end : (Way : Exit → Type 0) (a b c : View) → LetsGo Way a b → Did [] None b c → LetsGo Way a c
lets_end Way a b c lets nothing = record {
  gone = lets.gone;
  ways = lets.ways;
  did = did_as _ _ None a c (append-nil (gone_events lets.gone)) (did_more (gone_events lets.gone) [] None None a b c lets.did nothing);
}

-- some, and then some more
gone_join : (a b : List Departure) → gone_events a ++ gone_events b ≡ gone_events (a ++ b)
gone_join a b = sym (flat_map-append departure_events a b)

ways_join : (Way : Exit → Type 0) (a b : List Departure) → AllLeftBy Way a → AllLeftBy Way b → AllLeftBy Way (a ++ b)
ways_join Way [] b first second = second
ways_join Way (l ∷ a) b first second = (first.0, ways_join Way a b first.1 second)

pub lets_join : (Way : Exit → Type 0) (a b c : View) → LetsGo Way a b → LetsGo Way b c → LetsGo Way a c
lets_join Way a b c first second = record {
  gone = first.gone ++ second.gone;
  ways = ways_join Way first.gone second.gone first.ways second.ways;
  did = did_as _ _ None a c (gone_join first.gone second.gone)
      (did_more (gone_events first.gone) (gone_events second.gone) None None a b c first.did second.did);
}

-- ## What it leaves alone

-- the hold of one, by the listener's pass
pub held_number : (why : Due) (name : ConnName) (a b : View) → a.who.number ≡ 0 → TookUpFor why name a b → b.who.number ≡ 0
held_number why name a b number took = ap (λ (w : Who). w.number) (held_turn why name a b took).1.stays.who ∙ number

pub held_alone : OthersLeaveTheRestToTheListener → TurnsRestOn → (why : Due) (name : ConnName) (a b : View) → a.who.number ≡ 0 → TookUpFor why name a b
    → LeavesAlone (state_of a) (state_of b)
held_alone law rests why name a b number took =
    turn_alone law rests (event.Hold name ∷ []) a b number (holds_alone name, tt) (held_turn why name a b took)

pub one_alone : OthersLeaveTheRestToTheListener → TurnsRestOn → (why : Due) (name : ConnName) (events : List Event) (a b c : View) → a.who.number ≡ 0
    → TookUpFor why name a b → AreOfConns events → HadATurn events b c → LeavesAlone (state_of a) (state_of c)
one_alone law rests why name events a b c number took all left =
    alone_more (state_of a) (state_of b) (state_of c) (held_alone law rests why name a b number took)
    (turn_alone law rests events b c (held_number why name a b number took) all left)

-- ## A refused wait

-- it was held, its further wait was refused, and it was given up
pub gives_up_drained : (f : BoardFault) (why : Due) (name named : ConnName) (ending : Cause) (a b c : View) → TookUpFor why name a b → named ≡ name
    → RefusedWait f (lingering_give_up_events f ending named) b c → c.row ≡ None → GivesUpDrained f a c
gives_up_drained f why name named ending a b c took same refused none = record {
  name = name;
  ending = ending;
  between = refused.between;
  held = more_turns (event.Hold name ∷ []) [] a b refused.between (one_turn (event.Hold name ∷ []) a b (held_turn why name a b took))
      (one_turn [] b refused.between refused.tried);
  why = refused.why;
  closed = one_turn (lingering_give_up_events f ending name) refused.between c
      (subst (λ (n : ConnName). HadATurn (lingering_give_up_events f ending n) refused.between c) same refused.made);
  row = none;
}

-- what it leaves alone
pub refused_alone : OthersLeaveTheRestToTheListener → TurnsRestOn → (f : BoardFault) (events : List Event) (a c : View) → a.who.number ≡ 0
    → AreOfConns events → RefusedWait f events a c → LeavesAlone (state_of a) (state_of c)
refused_alone law rests f events a c number all refused =
    let number' : refused.between.who.number ≡ 0 = ap (λ (w : Who). w.number) refused.tried.1.stays.who ∙ number in
    alone_more (state_of a) (state_of refused.between) (state_of c) (turn_alone law rests [] a refused.between number tt refused.tried)
    (turn_alone law rests events refused.between c number' all refused.made)

-- what lasts of the refusal
pub refusal_lasts : (f : BoardFault) (v u : View) → IsRefusedFor f (book_of v) → LeavesAlone (state_of v) (state_of u) → Lasts f (state_of u)
refusal_lasts fault.Halted v u why alone = ap is_halted alone.stands.going ∙ why
refusal_lasts fault.NoMemory v u why alone = tt

pub refused_lasts : OthersLeaveTheRestToTheListener → TurnsRestOn → (f : BoardFault) (events : List Event) (a c : View) → a.who.number ≡ 0
    → AreOfConns events → RefusedWait f events a c → Lasts f (state_of c)
refused_lasts law rests f events a c number all refused =
    let number' : refused.between.who.number ≡ 0 = ap (λ (w : Who). w.number) refused.tried.1.stays.who ∙ number in
    refusal_lasts f refused.between c refused.why (turn_alone law rests events refused.between c number' all refused.made)

-- the events of that are of a connection
pub drained_alone : (f : BoardFault) (ending : Cause) (name : ConnName) → AreOfConns (lingering_give_up_events f ending name)
drained_alone f ending name = (closes_alone name ending (given_up_tail f), tt)

-- ## Until one is refused

pub drains_until : (f : BoardFault) (a b c : View) → LetsGo IsDrainedWay a b → GivesUpDrained f b c → DrainsUntil f a c
drains_until f a b c drains last = record { between = b; drains = drains; last = last }

-- all three parts
pub lets_go_conns : (a b c d : View) → LetsGo IsRetiringWay a b → LetsGo IsLateWay b c → LetsGo IsDrainedWay c d → LetsGoOfConns a d
lets_go_conns a b c d retiring cut drained = record {
  departures = record { retiring = retiring.gone; cut = cut.gone; drained = drained.gone };
  ways = record { retiring = retiring.ways; cut = cut.ways; drained = drained.ways };
  did = did_more (gone_events retiring.gone ++ gone_events cut.gone) (gone_events drained.gone) None None a c d
      (did_more (gone_events retiring.gone) (gone_events cut.gone) None None a b c retiring.did cut.did) drained.did;
}

pub lets_go_until : (f : BoardFault) (a b c d : View) → LetsGo IsRetiringWay a b → LetsGo IsLateWay b c → DrainsUntil f c d → LetsGoUntil f a d
lets_go_until f a b c d retiring cut until = record {
  between = until.between;
  lets = lets_go_conns a b c until.between retiring cut until.drains;
  last = until.last;
}

-- ## Of an answer

pub on_err : {T E : Type 0} (r : Result T E) (P : Type 0) → P → OnErr r P
on_err (Ok x) P holds = tt
on_err (Err e) P holds = holds

pub if_err : {T E : Type 0} (r : Result T E) (P : Type 0) → P → IfErr r (λ x. P)
if_err (Ok x) P holds = tt
if_err (Err e) P holds = holds

pub some_of : {X : Type 0} (o : Option X) (P : X → Type 0) → IfSome o P → (x : X) → o ≡ Some x → P x
some_of o P holds x is = subst (λ q. IfSome q P) is holds

pub none_of : {X : Type 0} (o : Option X) (P : Type 0) → IfNone o P → o ≡ None → P
none_of None P holds is = holds
none_of (Some x) P holds is = absurd (cc)

pub if_err_as : {T E : Type 0} (r : Result T E) (P Q : E → Type 0) → ((e : E) → P e → Q e) → IfErr r P → IfErr r Q
if_err_as (Ok x) P Q goes holds = tt
if_err_as (Err e) P Q goes holds = goes e holds

-- ## A close behind a refused wait

pub refused_closed : OthersLeaveTheRestToTheListener → TurnsRestOn → (name : ConnName) (why : Cause) (how : Tail) (a b c : View) → a.who.number ≡ 0
    → HadATurn [] a b → HadATurn (event.Close name why how ∷ []) b c → LeavesAlone (state_of a) (state_of c)
refused_closed law rests name why how a b c number tried closed =
    let number' : b.who.number ≡ 0 = ap (λ (w : Who). w.number) tried.1.stays.who ∙ number in
    alone_more (state_of a) (state_of b) (state_of c) (turn_alone law rests [] a b number tt tried)
    (turn_alone law rests (event.Close name why how ∷ []) b c number' (closes_alone name why how, tt) closed)

pub if_err_both : {T E : Type 0} (r : Result T E) (P Q R : E → Type 0) → ((e : E) → P e → Q e → R e) → IfErr r P → IfErr r Q → IfErr r R
if_err_both (Ok x) P Q R both first second = tt
if_err_both (Err e) P Q R both first second = both e first second
