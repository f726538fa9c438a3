-- What a worker did with its connection, put together turn by turn.
use Rattle.std.proofs.Common.{◌≡◌, ◌≢◌, inl, inr, ℕ, List, [], ◌∷◌, ◌++◌, map, Option, Some, None, IfNone, IfSome, refl, sym, ap, subst, ◌∙◌}
use Rattle.mpm_base.specs.Link.{LinkCounts}
use Rattle.mpm_base.specs.declared.conn.Ask.{Ask}
use Rattle.mpm_base.specs.declared.conn.Cause.{Cause}
use Rattle.mpm_base.specs.declared.conn.Cause.TheVariants as cause
use Rattle.mpm_base.specs.declared.conn.ConnName.{ConnName}
use Rattle.mpm_base.specs.declared.conn.Kind.{Kind}
use Rattle.mpm_base.specs.declared.conn.Tail.{Tail}
use Rattle.mpm_base.specs.declared.conn.Tail.TheVariants.{Direct}
use Rattle.conn_machine.specs.declared.event.Event.{Event}
use Rattle.conn_machine.specs.declared.event.Event.TheVariants as event
use Rattle.conn_state.specs.declared.turn.LastTurn.{LastTurn}
use Rattle.conn_state.specs.declared.turn.LastTurn.TheVariants as last_turn
use Rattle.conn_state.specs.Conn.{SeenConn}
use Rattle.conn_state.specs.Known.{KnownOutside}
use Rattle.table_rule.specs.declared.view.View.{View}
use Rattle.board_book.specs.declared.faults.BoardFault.{BoardFault}
use Rattle.worker_group.specs.declared.service.Exit.{Exit}
use Rattle.worker_group.specs.declared.service.Exit.TheVariants as exit
use Rattle.worker_group.specs.Service.{ExitsAfter, IsMadeSince, NoneFalls, answer_events, given_up_cause, left_events}
use Rattle.worker_group.proofs.TurnedLemmas.{none_falls-more, none_falls-same, turned-answered, turned-more, turned-refused, turned-unanswered}
use Rattle.board_turns.specs.Carries.{HadNoResponse, HasPermitOnly, LeavesBy, TookResponse}
use Rattle.board_turns.specs.Turns.{HadATurn, HadTurn, HadTurns}
use Rattle.board_turns.proofs.TurnLemmas.{more_turns, no_turn, one_turn}
use Rattle.worker_threads.specs.Serving.{Conversed, HasServed, WasLeft}

-- ## Events of answers

answers_join : (name : ConnName) (a b : List Ask) → answer_events name (a ++ b) ≡ answer_events name a ++ answer_events name b
answers_join name [] b = refl
answers_join name (x ∷ a) b = ap (λ l. event.Answer name x ∷ l) (answers_join name a b)

-- ## Between two turns

-- what was done off the lock
pub off_the_lock : (v : View) (c c' : SeenConn) → c'.name ≡ c.name → c'.child ≡ c.child → IsMadeSince c'.turn c.counts c'.counts
    → (asks : List Ask) × Conversed asks v v c c'
off_the_lock v c c' name child turned = ([], record { name = name; child = child; turns = no_turn v; turned = turned })

-- and then a turn
pub behind_that : (v u : View) (c c1 c' : SeenConn) → c1.name ≡ c.name → c1.child ≡ c.child → NoneFalls c.counts c1.counts
    → (asks : List Ask) × Conversed asks v u c1 c' → (asks : List Ask) × Conversed asks v u c c'
behind_that v u c c1 c' name child falls (asks, then_) = (
  asks,
  record {
    name = then_.name ∙ name;
    child = then_.child ∙ child;
    turns = subst (λ n. HadTurns (answer_events n asks) v u) name then_.turns;
    turned = turned-more c'.turn c.counts c1.counts c'.counts falls then_.turned;
  },
)

-- ## The turn of an answer

took_one : (ask : Ask) (v u : View) (c c' : SeenConn) → TookResponse ask v u c c' → (asks : List Ask) × Conversed asks v u c c'
took_one ask v u c c' took = (
  ask ∷ [],
  record {
    name = ap (λ (x : SeenConn). x.name) took.takes.new_is;
    child = ap (λ (x : SeenConn). x.child) took.takes.new_is;
    turns = one_turn (event.Answer c.name ask ∷ []) v u (took.found, took.turn);
    turned = turned-answered c c' took.note took.takes;
  },
)

took_none : (ask : Ask) (v u : View) (c c' : SeenConn) (way : Exit) → c.turn ≡ last_turn.Asked ask → HadNoResponse ask v u c c' way
    → (asks : List Ask) × Conversed asks v u c c'
took_none ask v u c c' (exit.Park kind) asked had = absurd had
took_none ask v u c c' (exit.Linger why) asked had = absurd had
took_none ask v u c c' (exit.Close why how) asked had = (
  ask ∷ [],
  record {
    name = ap (λ (x : SeenConn). x.name) had.2.stands;
    child = ap (λ (x : SeenConn). x.child) had.2.stands;
    turns = one_turn (event.Answer c.name ask ∷ []) v u had.2.turn;
    turned = turned-unanswered c c' had.2.stands;
  },
)
took_none ask v u c c' (exit.GiveUp f) asked had = (
  [],
  record {
    name = ap (λ (x : SeenConn). x.name) had.stands;
    child = ap (λ (x : SeenConn). x.child) had.stands;
    turns = one_turn [] v u had.turn;
    turned = subst (λ (x : SeenConn). IsMadeSince x.turn c.counts x.counts) (sym had.stands) (turned-refused c ask asked);
  },
)

-- whatever came of it
pub asked_then : (ask : Ask) (v u : View) (c c' : SeenConn) (o : Option Exit) → c.turn ≡ last_turn.Asked ask → IfNone o (TookResponse ask v u c c')
    → IfSome o (HadNoResponse ask v u c c') → (asks : List Ask) × Conversed asks v u c c'
asked_then ask v u c c' None asked took had = took_one ask v u c c' took
asked_then ask v u c c' (Some way) asked took had = took_none ask v u c c' way asked had

exits_unanswered : (ask : Ask) (v u : View) (c c' : SeenConn) (way : Exit) → c.turn ≡ last_turn.Asked ask → HadNoResponse ask v u c c' way → ExitsAfter c'.turn c' way
exits_unanswered ask v u c c' (exit.Park kind) asked had = absurd had
exits_unanswered ask v u c c' (exit.Linger why) asked had = absurd had
exits_unanswered ask v u c c' (exit.Close why how) asked had =
    subst (λ (t : LastTurn). ExitsAfter t c' (exit.Close why how)) (sym (ap (λ (x : SeenConn). x.turn) had.2.stands))
    (ap (λ w. exit.Close w how) had.0 ∙ ap (exit.Close cause.NoMemory) had.1)
exits_unanswered ask v u c c' (exit.GiveUp f) asked had =
    subst (λ (t : LastTurn). ExitsAfter t c' (exit.GiveUp f)) (sym (ap (λ (x : SeenConn). x.turn) had.stands ∙ asked)) (f, refl)

-- so it is left then, where no response is to be sent
pub exits_asked : (ask : Ask) (v u : View) (c c' : SeenConn) (o : Option Exit) → c.turn ≡ last_turn.Asked ask → IfSome o (HadNoResponse ask v u c c')
    → IfSome o (ExitsAfter c'.turn c')
exits_asked ask v u c c' None asked had = tt
exits_asked ask v u c c' (Some way) asked had = exits_unanswered ask v u c c' way asked had

-- ## Some turns

-- as the loop knows it
pub record ConversedSoFar (v u : View) (c c' : SeenConn) : Type 0 where
  pub name : c'.name ≡ c.name
  pub child : c'.child ≡ c.child
  pub asks : List Ask
  pub turns : HadTurns (answer_events c.name asks) v u
  pub falls : NoneFalls c.counts c'.counts

pub nothing_yet : (v : View) (c : SeenConn) → ConversedSoFar v v c c
nothing_yet v c = record { name = refl; child = refl; asks = []; turns = no_turn v; falls = none_falls-same c.counts }

pub goes_further : (v w u : View) (c c1 c2 : SeenConn) → ConversedSoFar v w c c1 → (asks : List Ask) × Conversed asks w u c1 c2 → ConversedSoFar v u c c2
goes_further v w u c c1 c2 so (asks, more) = record {
  name = more.name ∙ so.name;
  child = more.child ∙ so.child;
  asks = so.asks ++ asks;
  turns = subst (λ l. HadTurns l v u) (sym (answers_join c.name so.asks asks))
      (more_turns (answer_events c.name so.asks) (answer_events c.name asks) v w u so.turns (subst (λ n. HadTurns (answer_events n asks) w u) so.name more.turns));
  falls = none_falls-more c.counts c1.counts c2.counts so.falls more.turned.none_falls;
}

pub all_of_it : (v w u : View) (c c1 c2 : SeenConn) → ConversedSoFar v w c c1 → (asks : List Ask) × Conversed asks w u c1 c2 → (asks : List Ask) × Conversed asks v u c c2
all_of_it v w u c c1 c2 so (asks, more) =
    let on = goes_further v w u c c1 c2 so (asks, more) in (
      on.asks,
      record {
        name = on.name;
        child = on.child;
        turns = on.turns;
        turned = turned-more c2.turn c.counts c1.counts c2.counts so.falls more.turned;
      },
    )

-- ## The whole service

pub served_all : (v a b u : View) (c c' : SeenConn) (way out : Exit) (started : HadATurn (event.Start c.name ∷ []) v a) → (asks : List Ask) × Conversed asks a b c c'
    → ExitsAfter c'.turn c' way → WasLeft way out → HadTurns (left_events out c'.name) b u → HasServed out c v u
served_all v a b u c c' way out started (asks, conversed) exits left turns = record {
  asks = asks;
  served = c';
  named = conversed.name;
  turned = conversed.turned;
  way = way;
  exits = exits;
  left = left;
  turns = more_turns (event.Start c.name ∷ []) (answer_events c.name asks ++ left_events out c.name) v a u (one_turn (event.Start c.name ∷ []) v a started)
      (more_turns (answer_events c.name asks) (left_events out c.name) a b u conversed.turns (subst (λ n. HadTurns (left_events out n) b u) conversed.name turns));
}

-- ## How it is left

-- a pass has the permit of its connection's child, whatever else of that changed
pub has_permit_as : (child child' : ℕ) (v : View) → child' ≡ child → HasPermitOnly child' v → HasPermitOnly child v
has_permit_as child child' v is has = subst (λ k. HasPermitOnly k v) is has

-- one that was given up for the fault was closed
pub gave_up : (v u : View) (name : ConnName) (f : BoardFault) (why : Cause) → why ≡ given_up_cause f → HadATurn (event.Close name why Direct ∷ []) v u
    → HadTurns (left_events (exit.GiveUp f) name) v u
gave_up v u name f why is turn = one_turn (left_events (exit.GiveUp f) name) v u (subst (λ x. HadATurn (event.Close name x Direct ∷ []) v u) is turn)

pub given_up_so : (v u : View) (name : ConnName) (f : BoardFault) (out : Exit) → out ≡ exit.GiveUp f → HadTurns (left_events (exit.GiveUp f) name) v u
    → HadTurns (left_events out name) v u
given_up_so v u name f out is turns = subst (λ x. HadTurns (left_events x name) v u) (sym is) turns

-- one whose wait was refused before
pub gave_up_then : (v w u : View) (c c' : SeenConn) (f : BoardFault) (out : Exit) → c' ≡ c → HadATurn [] v w → HadTurns (left_events (exit.GiveUp f) c'.name) w u
    → out ≡ exit.GiveUp f → HadTurns (left_events out c.name) v u
gave_up_then v w u c c' f out back refused turns is =
    given_up_so v u c.name f out is
    (more_turns [] (left_events (exit.GiveUp f) c.name) v w u (one_turn [] v w refused)
    (subst (λ (x : SeenConn). HadTurns (left_events (exit.GiveUp f) x.name) w u) back turns))

pub refused_so : (kind : Kind) (f : BoardFault) (way out : Exit) → way ≡ exit.Park kind → out ≡ exit.GiveUp f → WasLeft way out
refused_so kind f way out is gave = inr (kind, f, is, gave)

pub lingers_so : (known : Option KnownOutside) (v : View) (c : SeenConn) (way : Exit) (why : Cause) → way ≡ exit.Linger why → LeavesBy known v c way
    → WasLeft way (exit.Linger cause.LastSent)
lingers_so known v c way why is by =
    let by' : LeavesBy known v c (exit.Linger why) = subst (LeavesBy known v c) is by in inl (ap exit.Linger (sym by'.may.0) ∙ sym is)

pub closed_so : (known : Option KnownOutside) (v : View) (c : SeenConn) (way : Exit) (why : Cause) (how : Tail) → way ≡ exit.Close why how → LeavesBy known v c way
    → WasLeft way (exit.Close why Direct)
closed_so known v c way why how is by =
    let by' : LeavesBy known v c (exit.Close why how) = subst (LeavesBy known v c) is by in inl (ap (exit.Close why) (sym by'.may.0) ∙ sym is)
