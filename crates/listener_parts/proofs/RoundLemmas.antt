-- How time passes, slots are signalled, and children start and go, in parts of some turns.
use Rattle.std.proofs.Common.{◌≡◌, ◌≢◌, ◌⊎◌, inl, inr, ℕ, zero, suc, ◌+◌, ◌<◌, ◌≤◌, Bool, true, false, List, [], ◌∷◌, ◌++◌, map, max, nat_lt, length, None, Some, replicate, slice_set, slice_index, if◌then◌else◌, refl, sym, ap, subst, ◌∙◌, append_assoc, arith}
use Rattle.std.proofs.lemmas.Bool.Decides.{nat_tests}
use Rattle.std.proofs.lemmas.List.{map-append}
use Rattle.std.proofs.lemmas.Result.{on_err_weaker, on_ok_weaker}
use Rattle.std.specs.Prelude.{Result, OnErr, OnOk}
use Rattle.std.specs.declared.result.Result.TheVariants.{Ok, Err}
use Rattle.conn_machine.specs.declared.event.Entry.{Entry}
use Rattle.conn_machine.specs.declared.event.Event.{Event}
use Rattle.conn_machine.specs.declared.event.Event.TheVariants as event
use Rattle.conn_machine.specs.declared.state.State.{State}
use Rattle.conn_machine.specs.BetweenTurns.{OthersLeaveTheRestToTheListener, QuietTablesAreTheListeners}
use Rattle.conn_machine.specs.Folds.{opening_record}
use Rattle.conn_machine.specs.Passes.{EachHasItsOwn}
use Rattle.conn_machine.specs.Runs.{after, first_row}
use Rattle.conn_machine.specs.Table.{next}
use Rattle.table_rule.specs.declared.view.Origin.{Origin}
use Rattle.table_rule.specs.declared.view.View.{View}
use Rattle.board_turns.specs.Books.{state_of}
use Rattle.board_turns.specs.Rests.{TurnsRestOn}
use Rattle.board_turns.specs.Turns.{HadATurn, HadTurn, state_found}
use Rattle.idle_workers.specs.Found.{TakesCreditBack}
use Rattle.board_book.specs.Finds.{startable}
use Rattle.listener_turns.specs.Children.{AreStarted}
use Rattle.listener_turns.specs.Looks.{LooksIdle}
use Rattle.board_book.specs.AtRest.{IsAtRest}
use Rattle.listener_turns.specs.Signals.{SignalsAll, SignalsFirst, ready_events}
use Rattle.listener_parts.specs.Did.{AreOfConns, Did, LeavesAlone}
use Rattle.listener_parts.specs.Letting.{IsLateWay, LetsGo, gone_events}
use Rattle.listener_parts.specs.Rounds.{AreAsked, AreCredits, IsStill, OpenedWithNone, PassesTime, RetiresSome, Signals, SignalsSome, StartsAsked, StartsAtFirst, StartsEach, StartsSome, TicksTo, WasFoundIdle, time_events}
use Rattle.board_book.specs.Moments.{ticks_to}
use Rattle.listener_parts.proofs.AloneLemmas.{alone_same, others_alone, ready_alone, state_behind, turn_alone}
use Rattle.listener_parts.proofs.DidLemmas.{did_as, did_more, did_no_more, did_nothing, did_turn}
use Rattle.listener_parts.proofs.DownLemmas.{down_found}

-- ## Time

one_entry : (e : Event) (s : State) (added : List Entry) → map (λ (x : Entry). x.event) added ≡ e ∷ [] → after s added ≡ next s e
one_entry e s [] is = absurd (cc)
one_entry e s (x ∷ []) is =
    let same : x.event ≡ e = cc in
    ap (next s) same
one_entry e s (x ∷ y ∷ added) is = absurd (cc)

-- the state behind a turn in which one event was made, of which is known what it makes of each state
pub next_behind : TurnsRestOn → (found : List Entry) (e : Event) (old new : View) → HadTurn found (e ∷ []) old new → state_of new ≡ next (state_found old found) e
next_behind rests found e old new t =
    state_behind rests found (e ∷ []) old new t ∙ one_entry e (state_found old found) t.added t.events_are

-- time passed to the moment, and nothing else the listener decides was done
pub tick_behind : OthersLeaveTheRestToTheListener → TurnsRestOn → (to : ℕ) (old new : View) → old.who.number ≡ 0 → HadATurn (event.Tick to ∷ []) old new
    → LeavesAlone (record (state_of old) { moment = to }) (state_of new)
tick_behind law rests to old new number (found, t) =
    let only = others_alone law old found number t.made t.others in
    subst (LeavesAlone (record (state_of old) { moment = to })) (sym (next_behind rests found (event.Tick to) old new t))
    (record {
      stands = record {
        moment = refl;
        accepted = only.stands.accepted;
        newest = only.stands.newest;
        shape = only.stands.shape;
        going = only.stands.going;
      };
      children = only.children;
    })

-- by the moment that it has then
pub alone_as : (s t : State) (to : ℕ) → LeavesAlone (record s { moment = to }) t → LeavesAlone (record s { moment = t.moment }) t
alone_as s t to alone = record {
  stands = record {
    moment = refl;
    accepted = alone.stands.accepted;
    newest = alone.stands.newest;
    shape = alone.stands.shape;
    going = alone.stands.going;
  };
  children = alone.children;
}

-- where no time passed
pub alone_moment : (s t : State) → LeavesAlone s t → LeavesAlone (record s { moment = t.moment }) t
alone_moment s t alone = record {
  stands = record {
    moment = refl;
    accepted = alone.stands.accepted;
    newest = alone.stands.newest;
    shape = alone.stands.shape;
    going = alone.stands.going;
  };
  children = alone.children;
}

-- behind parts that leave all of that alone
pub alone_before : (s t u : State) (to : ℕ) → LeavesAlone s t → LeavesAlone (record t { moment = to }) u → LeavesAlone (record s { moment = to }) u
alone_before s t u to before behind = record {
  stands = record {
    moment = behind.stands.moment;
    accepted = behind.stands.accepted ∙ before.stands.accepted;
    newest = behind.stands.newest ∙ before.stands.newest;
    shape = behind.stands.shape ∙ before.stands.shape;
    going = behind.stands.going ∙ before.stands.going;
  };
  children = behind.children ∙ before.children;
}

-- and before such
pub alone_late : (s t u : State) → LeavesAlone (record s { moment = t.moment }) t → LeavesAlone t u → LeavesAlone (record s { moment = u.moment }) u
alone_late s t u first behind = record {
  stands = record {
    moment = refl;
    accepted = behind.stands.accepted ∙ first.stands.accepted;
    newest = behind.stands.newest ∙ first.stands.newest;
    shape = behind.stands.shape ∙ first.stands.shape;
    going = behind.stands.going ∙ first.stands.going;
  };
  children = behind.children ∙ first.children;
}

-- the greater of two moments
pub later_is : (m n : ℕ) → m < n → max m n ≡ n
later_is m n less = omega (arith, less)

pub present_is : (m n : ℕ) → n ≤ m → max m n ≡ m
present_is m n less = omega (arith, less)

-- late connections were let go of, and then time passed
pub ticks : (to : ℕ) (a b c : View) → LetsGo IsLateWay a b → HadATurn (event.Tick to ∷ []) b c → c.row ≡ None → TicksTo to a c
ticks to a b c lets turn none = record {
  early = lets.gone;
  early_ways = lets.ways;
  did = did_more (gone_events lets.gone) (event.Tick to ∷ []) None None a b c lets.did (did_turn (event.Tick to ∷ []) None b c turn none);
}

-- so it passed, where the moment is later
pub passes_later : (to : ℕ) (a b c : View) → nat_lt (state_of a).moment to ≡ true → TicksTo to a b → LetsGo IsLateWay b c → PassesTime to a c
passes_later to a b c later ticked lets =
    let is : ticks_to (state_of a).moment to ≡ to ∷ [] = rw later refl in
    record {
      early = ticked.early;
      late = lets.gone;
      early_ways = ticked.early_ways;
      late_ways = lets.ways;
      did = did_as _ _ None a c
          (ap (λ (ms : List ℕ). time_events ticked.early ms lets.gone) (sym is))
          (did_more (gone_events ticked.early ++ event.Tick to ∷ []) (gone_events lets.gone) None None a b c ticked.did lets.did);
    }

-- and where it isn't
pub passes_none : (to : ℕ) (a c : View) → nat_lt (state_of a).moment to ≡ false → LetsGo IsLateWay a c → PassesTime to a c
passes_none to a c later lets =
    let is : ticks_to (state_of a).moment to ≡ [] = rw later refl in
    record {
      early = [];
      late = lets.gone;
      early_ways = tt;
      late_ways = lets.ways;
      did = did_as _ _ None a c (ap (λ (ms : List ℕ). time_events [] ms lets.gone) (sym is)) lets.did;
    }

-- the number is below the other, or isn't
pub is_below : (m n : ℕ) → m < n → nat_lt m n ≡ true
is_below m n less = grind (arith, nat_tests, less)

pub not_below : (m n : ℕ) → n ≤ m → nat_lt m n ≡ false
not_below m n less = grind (arith, nat_tests, less)

-- ## Signals

pub signals_of_conns : (count : ℕ) (slots : List ℕ) → AreOfConns (ready_events count slots)
signals_of_conns count slots = ready_alone _

-- ## Children

pub starts_none : (v : View) → Did [] None v v → StartsSome v v
starts_none v did = record { children = []; did = did }

pub starts_more : (a b c d : View) (k : ℕ) → StartsSome a b → HadATurn (event.StartChild k ∷ []) b c → c.row ≡ None → Did [] None c d → StartsSome a d
starts_more a b c d k starts turn none credited = record {
  children = starts.children ++ k ∷ [];
  did = did_as _ _ None a d (sym (map-append event.StartChild starts.children (k ∷ [])))
      (did_more (map event.StartChild starts.children) (event.StartChild k ∷ []) None None a b d starts.did
      (did_no_more (event.StartChild k ∷ []) None None b c d (did_turn (event.StartChild k ∷ []) None b c turn none) credited));
}

pub starts_end : (a b c : View) → StartsSome a b → Did [] None b c → StartsSome a c
starts_end a b c starts nothing = record {
  children = starts.children;
  did = did_no_more (map event.StartChild starts.children) None None a b c starts.did nothing;
}

pub retires_none : (v : View) → Did [] None v v → RetiresSome v v
retires_none v did = record { children = []; did = did }

-- a look finds out which
pub retires_of : (old new : View) → HadATurn [] old new → new.row ≡ None → RetiresSome old new
retires_of old new turn none = record { children = []; did = did_turn [] None old new turn none }

pub retires_join : (a b c : View) → RetiresSome a b → RetiresSome b c → RetiresSome a c
retires_join a b c first second = record {
  children = first.children ++ second.children;
  did = did_as _ _ None a c (sym (map-append event.Retire first.children second.children))
      (did_more (map event.Retire first.children) (map event.Retire second.children) None None a b c first.did second.did);
}

pub retires_end : (a b c : View) → RetiresSome a b → Did [] None b c → RetiresSome a c
retires_end a b c retires nothing = record {
  children = retires.children;
  did = did_no_more (map event.Retire retires.children) None None a b c retires.did nothing;
}

-- a look, a credit that is taken back, and the turn in which the child was let go of, or not
pub retires_one : (a b c d : View) (k : ℕ) (gone : Bool) → RetiresSome a b → Did [] None b c → HadATurn (if gone then event.Retire k ∷ [] else []) c d
    → d.row ≡ None → RetiresSome a d
retires_one a b c d k true looked back turn none =
    retires_join a c d (retires_end a b c looked back)
    (record { children = k ∷ []; did = did_turn (event.Retire k ∷ []) None c d turn none })
retires_one a b c d k false looked back turn none = retires_join a c d (retires_end a b c looked back) (retires_of c d turn none)

-- ## Credits

length_set : {X : Type 0} (xs : List X) (i : ℕ) (x : X) → length (slice_set xs i x) ≡ length xs
length_set [] i x = refl
length_set (y ∷ xs) zero x = refl
length_set (y ∷ xs) (suc i) x = ap suc (length_set xs i x)

-- the child has the credit that it was given
pub credits_given : (credits credits' : List ℕ) (child threads : ℕ) (old new : View) → AreCredits credits old → credits' ≡ slice_set credits child threads
    → new.credits ≡ slice_set old.credits child threads → AreCredits credits' new
credits_given credits credits' child threads old new are is gives = record {
  own = is ∙ ap (λ (l : List ℕ). slice_set l child threads) are.own ∙ sym gives;
  full = ap length is ∙ length_set credits child threads ∙ are.full;
}

-- they are as they were
pub credits_stay : (credits : List ℕ) (old new : View) → new.credits ≡ old.credits → AreCredits credits old → AreCredits credits new
credits_stay credits old new same are = record { own = are.own ∙ sym same; full = are.full }

-- one that was taken back is gone
pub taken_back : (child threads : ℕ) (old new : View) → TakesCreditBack child threads old true new → new.credits ≡ slice_set old.credits child 0
taken_back child threads old new takes = ap (λ (q : View). q.credits) takes.tried.0

-- one that wasn't stays
pub not_taken_back : (child threads : ℕ) (old new : View) → TakesCreditBack child threads old false new → new.credits ≡ old.credits
not_taken_back child threads old new takes = ap (λ (q : View). q.credits) takes.tried.0

-- ## What was signalled, by an answer

module _ {T E : Type 0} (r : Result T E) (slots : List ℕ) (old new : View) where
  pub signalled_all : OnOk r (SignalsAll slots old new) → new.row ≡ None → OnOk r (Signals slots old new)
  signalled_all all none = on_ok_weaker r (λ (turn : SignalsAll slots old new). did_turn _ None old new turn none) all

  pub signalled_some : OnErr r (SignalsFirst slots old new) → new.row ≡ None → OnErr r (SignalsSome slots old new)
  signalled_some first none =
      on_err_weaker r
      (λ (is : SignalsFirst slots old new).
      record {
        first = is.first;
        slot = is.slot;
        rest = is.rest;
        slots_are = is.slots_are;
        signals = did_turn _ None old new is.signals none;
      })
      first

-- which slots were signalled in a turn
pub record SignalsIn (old new : View) : Type 0 where
  pub slots : List ℕ
  pub turn : SignalsAll slots old new

pub signals_in : {T E : Type 0} (r : Result T E) (slots : List ℕ) (old new : View) → OnOk r (SignalsAll slots old new) → OnErr r (SignalsFirst slots old new)
    → SignalsIn old new
signals_in (Ok x) slots old new all first = record { slots = slots; turn = all }
signals_in (Err e) slots old new all is = record { slots = is.first; turn = is.signals }

pub signalled_credits : {T E : Type 0} (r : Result T E) (slots : List ℕ) (old new : View) → OnOk r (SignalsAll slots old new) → OnErr r (SignalsFirst slots old new)
    → new.credits ≡ old.credits
signalled_credits r slots old new all first = (signals_in r slots old new all first).turn.1.stays.credits

pub signalled_alone : {T E : Type 0} → OthersLeaveTheRestToTheListener → TurnsRestOn → (r : Result T E) (slots : List ℕ) (old new : View) → old.who.number ≡ 0
    → OnOk r (SignalsAll slots old new) → OnErr r (SignalsFirst slots old new) → LeavesAlone (state_of old) (state_of new)
signalled_alone law rests r slots old new number all first =
    let signals = signals_in r slots old new all first in
    turn_alone law rests (ready_events (length (state_of new).rows) signals.slots) old new number
    (signals_of_conns (length (state_of new).rows) signals.slots) signals.turn

-- ## Children without a credit

-- none is below the first
pub none_below : (credits : List ℕ) (child : ℕ) → child < 0 → slice_index credits child ≡ 0
none_below credits child below = absurd (omega (arith, below))

-- one that is set to nothing has none, and the others have what they had
at_or_below : (child last : ℕ) → child < last + 1 → (child ≡ last) ⊎ (child < last)
at_or_below zero zero below = inl refl
at_or_below zero (suc last) below = inr (omega arith)
at_or_below (suc child) zero below = absurd (omega (arith, below))
at_or_below (suc child) (suc last) below =
    elim (at_or_below child last (omega (arith, below))) [
      | inl same ↦ inl (ap suc same)
      | inr less ↦ inr (omega (arith, less))
    ]

set_at : (credits : List ℕ) (child : ℕ) → slice_index (slice_set credits child 0) child ≡ 0
set_at [] child = refl
set_at (x ∷ credits) zero = refl
set_at (x ∷ credits) (suc child) = set_at credits child

set_below : (credits : List ℕ) (child last : ℕ) → child < last → slice_index (slice_set credits last 0) child ≡ slice_index credits child
set_below [] child last less = refl
set_below (x ∷ credits) child zero less = absurd (omega (arith, less))
set_below (x ∷ credits) zero (suc last) less = refl
set_below (x ∷ credits) (suc child) (suc last) less = set_below credits child last (omega (arith, less))

pub none_more : (credits credits' : List ℕ) (last : ℕ) → credits' ≡ slice_set credits last 0 → ((child : ℕ) → child < last → slice_index credits child ≡ 0)
    → (child : ℕ) → child < last + 1 → slice_index credits' child ≡ 0
none_more credits credits' last is none child below =
    elim (at_or_below child last below) [
      | inl same ↦ ap (λ (l : List ℕ). slice_index l child) is ∙ ap (λ (k : ℕ). slice_index (slice_set credits k 0) child) (sym same) ∙ set_at credits child
      | inr less ↦ ap (λ (l : List ℕ). slice_index l child) is ∙ set_below credits child last less ∙ none child less
    ]

-- one that has none is one more
pub none_same : (credits : List ℕ) (last : ℕ) → slice_index credits last ≡ 0 → ((child : ℕ) → child < last → slice_index credits child ≡ 0)
    → (child : ℕ) → child < last + 1 → slice_index credits child ≡ 0
none_same credits last is none child below =
    elim (at_or_below child last below) [
      | inl same ↦ ap (slice_index credits) same ∙ is
      | inr less ↦ none child less
    ]

-- behind the last there is none
beyond : (credits : List ℕ) (child : ℕ) → length credits ≤ child → slice_index credits child ≡ 0
beyond [] child less = refl
beyond (x ∷ credits) zero less = absurd (omega (arith, less))
beyond (x ∷ credits) (suc child) less = beyond credits child (omega (arith, less))

below_or_not : (child last : ℕ) → (child < last) ⊎ (last ≤ child)
below_or_not child zero = inr (omega arith)
below_or_not zero (suc last) = inl (omega arith)
below_or_not (suc child) (suc last) =
    elim (below_or_not child last) [
      | inl less ↦ inl (omega (arith, less))
      | inr more ↦ inr (omega (arith, more))
    ]

pub none_left : (credits : List ℕ) (last : ℕ) → ((child : ℕ) → child < last → slice_index credits child ≡ 0) → length credits ≡ 32 → 32 ≤ last
    → (child : ℕ) → slice_index credits child ≡ 0
none_left credits last none full all child =
    elim (below_or_not child last) [
      | inl less ↦ none child less
      | inr more ↦ beyond credits child (omega (arith, full, all, more))
    ]

-- ## What stays so while nothing is seen

pub opened_still : (old new : View) → new.origin ≡ old.origin → OpenedWithNone old → OpenedWithNone new
opened_still old new origin opened =
    subst (λ (o : Origin). EachHasItsOwn o.state (first_row (opening_record o.passes))) (sym origin) opened

pub still_state : (old new : View) → new.origin ≡ old.origin → new.seen ≡ old.seen → state_of new ≡ state_of old
still_state old new origin seen = ap (λ (o : Origin). after o.state new.seen) origin ∙ ap (after old.origin.state) seen

pub rests_still : (old new : View) → new.origin ≡ old.origin → new.seen ≡ old.seen → IsAtRest (state_of old) → IsAtRest (state_of new)
rests_still old new origin seen rest = subst IsAtRest (sym (still_state old new origin seen)) rest

pub alone_still : (old new : View) → new.origin ≡ old.origin → new.seen ≡ old.seen → LeavesAlone (state_of old) (state_of new)
alone_still old new origin seen = subst (LeavesAlone (state_of old)) (sym (still_state old new origin seen)) (alone_same (state_of old))

pub is_still : (old new : View) → new.origin ≡ old.origin → new.seen ≡ old.seen → IsAtRest (state_of old) → IsStill old new
is_still old new origin seen rest = record { seen = seen; rest = rests_still old new origin seen rest }

-- ## The first children

pub starts_turn : (children : List ℕ) (old new : View) → HadATurn (map event.StartChild children) old new → new.row ≡ None → StartsSome old new
starts_turn children old new turn none = record {
  children = children;
  did = did_turn (map event.StartChild children) None old new turn none;
}

pub starts_at_first : QuietTablesAreTheListeners → (children : List ℕ) (found : List Entry) (a b c : View) → a.who.number ≡ 0 → HadTurn found (map event.StartChild children) a b
    → AreStarted (state_found a found) children → Did [] None b c → StartsAtFirst a c
starts_at_first law children found a b c number turn started credited = record {
  children = children;
  found = found;
  alone = λ opened none. down_found law found (map event.StartChild children) a b opened number none turn;
  behind = b;
  turn = turn;
  started = started;
  did = credited;
}

-- whether one may start depends on nothing but what the listener alone decides
pub startable_still : (s t : State) → LeavesAlone s t → startable t ≡ startable s
startable_still s t alone = rw (alone.stands.going, alone.stands.shape, alone.children) refl

-- a child whose credit was taken back has none
pub credit_gone : (credits credits' : List ℕ) (child : ℕ) (v : View) → credits' ≡ slice_set credits child 0 → AreCredits credits' v
    → slice_index v.credits child ≡ 0
credit_gone credits credits' child v is are =
    ap (λ (l : List ℕ). slice_index l child) (sym are.own) ∙ ap (λ (l : List ℕ). slice_index l child) is ∙ set_at credits child

pub retires_turn : (children : List ℕ) (old new : View) → HadATurn (map event.Retire children) old new → new.row ≡ None → RetiresSome old new
retires_turn children old new turn none = record {
  children = children;
  did = did_turn (map event.Retire children) None old new turn none;
}

-- where no credit was given no child has one
pub none_given : (count child : ℕ) → slice_index (replicate count 0) child ≡ 0
none_given zero child = refl
none_given (suc count) zero = refl
none_given (suc count) (suc child) = none_given count child

-- ## Further children

asked_more : (a b c : View) (children : List ℕ) (k : ℕ) → AreAsked a children b → StartsAsked k b c → AreAsked a (children ++ k ∷ []) c
asked_more a b c [] k did one = (
  c,
  record {
    before = one.before;
    waits = did_no_more [] None None a b one.before did one.waits;
    found = one.found;
    behind = one.behind;
    turn = one.turn;
    asked = one.asked;
    rest = one.rest;
  },
  did_nothing c None one.rest.row,
)
asked_more a b c (x ∷ children) k asked one = (asked.0, asked.1, asked_more asked.0 b c children k asked.2 one)

asked_end : (a b c : View) (children : List ℕ) → AreAsked a children b → Did [] None b c → AreAsked a children c
asked_end a b c [] did nothing = did_no_more [] None None a b c did nothing
asked_end a b c (x ∷ children) asked nothing = (asked.0, asked.1, asked_end asked.0 b c children asked.2 nothing)

pub each_none : (v : View) → Did [] None v v → StartsEach v v
each_none v did = record { children = []; asked = did; did = did }

pub each_more : (a b c d : View) (k : ℕ) (found : List Entry) → StartsEach a b → HadTurn found (event.StartChild k ∷ []) b c
    → startable (state_found b found) ≡ Some k → c.row ≡ None → Did [] None c d → StartsEach a d
unfolding starts_more
each_more a b c d k found starts turn asked none credited = record {
  children = starts.children ++ k ∷ [];
  asked = asked_more a b d starts.children k starts.asked
      (record {
        before = b;
        waits = did_nothing b None starts.did.row;
        found = found;
        behind = c;
        turn = turn;
        asked = asked;
        rest = credited;
      });
  did = (starts_more a b c d k (record { children = starts.children; did = starts.did }) (found, turn) none credited).did;
}

pub each_end : (a b c : View) → StartsEach a b → Did [] None b c → StartsEach a c
each_end a b c starts nothing = record {
  children = starts.children;
  asked = asked_end a b c starts.children starts.asked nothing;
  did = did_no_more (map event.StartChild starts.children) None None a b c starts.did nothing;
}

-- ## Idle workers

idle_behind : (child threads : ℕ) (a b c : View) → Did [] None a b → WasFoundIdle child threads b c → WasFoundIdle child threads a c
idle_behind child threads a b c did idle = record {
  before = idle.before;
  behind = idle.behind;
  first = did_no_more [] None None a b idle.before did idle.first;
  looked = idle.looked;
  rest = idle.rest;
}

idle_before : (child threads : ℕ) (a b c : View) → WasFoundIdle child threads a b → Did [] None b c → WasFoundIdle child threads a c
idle_before child threads a b c idle did = record {
  before = idle.before;
  behind = idle.behind;
  first = idle.first;
  looked = idle.looked;
  rest = did_no_more [] None None idle.behind b c idle.rest did;
}

-- one child more was found so
pub idle_next : (credits : List ℕ) (last : ℕ) (a b c : View) → Did [] None a b → Did [] None b c
    → ((child : ℕ) → child < last → slice_index credits child ≢ 0 → WasFoundIdle child (slice_index credits child) a b)
    → (slice_index credits last ≢ 0 → WasFoundIdle last (slice_index credits last) b c)
    → (child : ℕ) → child < last + 1 → slice_index credits child ≢ 0 → WasFoundIdle child (slice_index credits child) a c
idle_next credits last a b c first second all one child below some =
    elim (at_or_below child last below) [
      | inl same ↦
          idle_behind child (slice_index credits child) a b c first
          (subst (λ (k : ℕ). WasFoundIdle k (slice_index credits k) b c) (sym same) (one (subst (λ (k : ℕ). slice_index credits k ≢ 0) same some)))
      | inr less ↦ idle_before child (slice_index credits child) a b c (all child less some) second
    ]

-- the child was found so by the step
pub found_idle : (child threads credit : ℕ) (old new : View) (idle : Bool) → threads ≡ credit → idle ≡ true → LooksIdle child threads old idle new
    → old.row ≡ None → new.row ≡ None → WasFoundIdle child credit old new
found_idle child threads credit old new idle same is looks none none' = record {
  before = old;
  behind = new;
  first = did_nothing old None none;
  looked = subst (λ (n : ℕ). LooksIdle child n old true new) same (subst (λ (b : Bool). LooksIdle child threads old b new) is looks);
  rest = did_nothing new None none';
}
