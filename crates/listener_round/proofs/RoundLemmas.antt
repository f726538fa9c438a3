-- That the parts of a round, one behind the other, are a round, which may be broken off.
use Rattle.std.proofs.Common.{◌≡◌, inl, inr, ℕ, Result, Ok, Err, OnOk, List, [], ◌∷◌, ◌++◌, length, None, Some, refl, sym, ap, ◌∙◌, append-nil}
use Rattle.std.proofs.lemmas.Grind.{flat_map-append}
use Rattle.std.specs.List.{flat_map}
use Rattle.mpm_base.specs.declared.conn.ConnName.{ConnName}
use Rattle.conn_machine.specs.declared.event.Event.{Event}
use Rattle.conn_machine.specs.declared.event.Event.TheVariants as event
use Rattle.board_book.specs.declared.faults.BoardFault.{BoardFault}
use Rattle.board_book.specs.Book.{SeenBook, row_in}
use Rattle.board_book.specs.Faults.{IsRefusedFor}
use Rattle.worker_group.specs.Acts.{Acts, ActsInSteps}
use Rattle.worker_group.specs.Service.{left_events}
use Rattle.rounds.specs.ClosingInside.{IsLateWay, LetsGo}
use Rattle.listener_round.specs.RoundInside.{AllLeft, BreaksOff, DoesOrders, EndsRound, GoesRound, IsLeftAsWatched, Round, RoundEnds, Intake, TakesSome, round_events, intake_events}
use Rattle.rounds.specs.PartsInside.{LetsGoOfConns, PassesTime, RetiresSome, SignalsFirst, StartsSome, signal_events}
use Rattle.board_book.specs.Moments.{known_slots, ticks_to}
use Rattle.rounds.specs.declared.ends.End.TheVariants as end
use Rattle.rounds.proofs.ActLemmas.{acts-spelled}

-- ## Connections that are taken

pub takes-none : ActsInSteps → (b : SeenBook) → row_in 0 b ≡ None → TakesSome b b
takes-none steps b row = record { takes = []; left = tt; acts = steps.none 0 None b row }

left-more : (takes : List Intake) (t : Intake) → AllLeft takes → IsLeftAsWatched t.way → AllLeft (takes ++ t ∷ [])
left-more [] t all one = (one, tt)
left-more (x ∷ takes) t all one = (all.0, left-more takes t all.1 one)

-- the events of connections with one behind them
taking-more : (takes : List Intake) (t : Intake) → flat_map intake_events takes ++ intake_events t ≡ flat_map intake_events (takes ++ t ∷ [])
taking-more takes t =
    ap (λ (es : List Event). flat_map intake_events takes ++ es) (sym (append-nil (intake_events t))) ∙ sym (flat_map-append intake_events takes (t ∷ []))

-- one more was taken and left
pub takes-more : ActsInSteps → (t : Intake) (a b c : SeenBook) → TakesSome a b → IsLeftAsWatched t.way → Acts 0 (intake_events t) None b c → TakesSome a c
takes-more steps t a b c takes left one = record {
  takes = takes.takes ++ t ∷ [];
  left = left-more takes.takes t takes.left left;
  acts =
      acts-spelled _ _ a c (steps.more 0 _ _ None None a b c takes.acts one) (taking-more takes.takes t);
}

-- a connection that was taken was left so
pub takes-one : ActsInSteps → (name : ConnName) (way : _) (a b c : SeenBook) → Acts 0 (event.Accept name.slot ∷ []) (Some name) a b
    → Acts 0 (left_events way name) None b c → Acts 0 (intake_events (record { name = name; way = way })) None a c
takes-one steps name way a b c taken left = steps.more 0 (event.Accept name.slot ∷ []) (left_events way name) (Some name) None a b c taken left

-- ## A round

-- all the slots are the first of them
pub signals-all : (slots : List ℕ) (a b : SeenBook) → Acts 0 (signal_events a slots) None a b → SignalsFirst slots a b
signals-all slots a b acts =
    record { first = known_slots (length a.base.rows) slots; front = ([], sym (append-nil (known_slots (length a.base.rows) slots))); acts = acts }

-- no command was done
pub does-none : ActsInSteps → (b : SeenBook) → row_in 0 b ≡ None → DoesOrders b b
does-none steps b row = record { orders = []; none = tt; acts = steps.none 0 None b row }

-- nothing was let go of
pub lets-go-none : ActsInSteps → (b : SeenBook) → row_in 0 b ≡ None → LetsGoOfConns b b
lets-go-none steps b row = record {
  departures = record { retiring = []; cut = []; drained = [] };
  ways = record { retiring = tt; cut = tt; drained = tt };
  acts = steps.none 0 None b row;
}

-- the parts of a round
pub goes-round : ActsInSteps → (to : ℕ) (slots : List ℕ) (a b c d e f h i : SeenBook) → PassesTime to a b → Acts 0 (signal_events b slots) None b c
    → LetsGoOfConns c d → DoesOrders d e → RetiresSome e f → StartsSome f h → TakesSome h i → GoesRound to slots a i
goes-round steps to slots a b c d e f h i time signals lets does retires starts takes = record {
  round =
      record {
        early = time.early;
        ticks = ticks_to a.state.moment to;
        late = time.late;
        signals = known_slots (length b.base.rows) slots;
        departures = lets.departures;
        orders = does.orders;
        retired = retires.children;
        starts = starts.children;
        takes = takes.takes;
      };
  soon = time.soon;
  ticks = refl;
  signals = ap (λ (s : _). known_slots (length s.rows) slots) time.acts.base;
  ways = record { early = time.early_ways; late = time.late_ways; departures = lets.ways; orders = does.none };
  left = takes.left;
  acts =
      steps.more 0 _ _ None None a h i
      (steps.more 0 _ _ None None a f h
      (steps.more 0 _ _ None None a e f
      (steps.more 0 _ _ None None a d e
      (steps.more 0 _ _ None None a c d (steps.more 0 _ _ None None a b c time.acts signals) lets.acts) does.acts) retires.acts) starts.acts) takes.acts;
}

-- and of one that was broken off behind the time
pub breaks-behind : ActsInSteps → (fault : BoardFault) (to : ℕ) (slots : List ℕ) (a b c d e f h i x : SeenBook) → PassesTime to a b → SignalsFirst slots b c
    → LetsGoOfConns c d → DoesOrders d e → RetiresSome e f → StartsSome f h → TakesSome h i → EndsRound fault i x → BreaksOff fault to slots a x
breaks-behind steps fault to slots a b c d e f h i x time signals lets does retires starts takes last = record {
  round =
      record {
        early = time.early;
        ticks = ticks_to a.state.moment to;
        late = time.late;
        signals = signals.first;
        departures = lets.departures;
        orders = does.orders;
        retired = retires.children;
        starts = starts.children;
        takes = takes.takes;
      };
  soon = inr time.soon;
  ticks = ([], sym (append-nil (ticks_to a.state.moment to)));
  signals = (signals.front.0, ap (λ (s : _). known_slots (length s.rows) slots) (sym time.acts.base) ∙ signals.front.1);
  ways = record { early = time.early_ways; late = time.late_ways; departures = lets.ways; orders = does.none };
  left = takes.left;
  book = i;
  acts =
      steps.more 0 _ _ None None a h i
      (steps.more 0 _ _ None None a f h
      (steps.more 0 _ _ None None a e f
      (steps.more 0 _ _ None None a d e
      (steps.more 0 _ _ None None a c d (steps.more 0 _ _ None None a b c time.acts signals.acts) lets.acts) does.acts) retires.acts) starts.acts) takes.acts;
  last = last;
}

-- a round that ends behind a command line
pub ends-asked : ActsInSteps → (to : ℕ) (slots : List ℕ) (a b c d e : SeenBook) → PassesTime to a b → Acts 0 (signal_events b slots) None b c
    → LetsGoOfConns c d → DoesOrders d e → RoundEnds (Some end.Asked) to slots a e
ends-asked steps to slots a b c d e time signals lets does =
    let none = steps.none 0 None e does.acts.row in (
      record {
        round =
            record {
              early = time.early;
              ticks = ticks_to a.state.moment to;
              late = time.late;
              signals = known_slots (length b.base.rows) slots;
              departures = lets.departures;
              orders = does.orders;
              retired = [];
              starts = [];
              takes = [];
            };
        soon = time.soon;
        ticks = refl;
        signals = ap (λ (s : _). known_slots (length s.rows) slots) time.acts.base;
        ways = record { early = time.early_ways; late = time.late_ways; departures = lets.ways; orders = does.none };
        left = tt;
        acts =
            steps.more 0 _ _ None None a e e
            (steps.more 0 _ _ None None a e e
            (steps.more 0 _ _ None None a e e
            (steps.more 0 _ _ None None a d e
            (steps.more 0 _ _ None None a c d (steps.more 0 _ _ None None a b c time.acts signals) lets.acts) does.acts) none) none) none;
      },
      record { retired = refl; starts = refl; takes = refl },
    )

-- and one that ends once children were let go of
pub ends-gone : ActsInSteps → (to : ℕ) (slots : List ℕ) (a b c d e f : SeenBook) → PassesTime to a b → Acts 0 (signal_events b slots) None b c
    → LetsGoOfConns c d → DoesOrders d e → RetiresSome e f → RoundEnds (Some end.Gone) to slots a f
ends-gone steps to slots a b c d e f time signals lets does retires =
    let none = steps.none 0 None f retires.acts.row in (
      record {
        round =
            record {
              early = time.early;
              ticks = ticks_to a.state.moment to;
              late = time.late;
              signals = known_slots (length b.base.rows) slots;
              departures = lets.departures;
              orders = does.orders;
              retired = retires.children;
              starts = [];
              takes = [];
            };
        soon = time.soon;
        ticks = refl;
        signals = ap (λ (s : _). known_slots (length s.rows) slots) time.acts.base;
        ways = record { early = time.early_ways; late = time.late_ways; departures = lets.ways; orders = does.none };
        left = tt;
        acts =
            steps.more 0 _ _ None None a f f
            (steps.more 0 _ _ None None a f f
            (steps.more 0 _ _ None None a e f
            (steps.more 0 _ _ None None a d e
            (steps.more 0 _ _ None None a c d (steps.more 0 _ _ None None a b c time.acts signals) lets.acts) does.acts) retires.acts) none) none;
      },
      record { starts = refl; takes = refl },
    )

-- where a call was refused, and nothing was done then
pub ends-idle : (fault : BoardFault) (b : SeenBook) → IsRefusedFor fault b → EndsRound fault b b
ends-idle fault b why = inr (inl (record { why = why; same = refl }))

-- or before time passed
pub breaks-early : (fault : BoardFault) (to : ℕ) (slots : List ℕ) (a b : SeenBook) → LetsGo IsLateWay a b → IsRefusedFor fault b → BreaksOff fault to slots a b
breaks-early fault to slots a b early why =
    let only : Round = record {
      early = early.gone;
      ticks = [];
      late = [];
      signals = [];
      departures = record { retiring = []; cut = []; drained = [] };
      orders = [];
      retired = [];
      starts = [];
      takes = [];
    } in
    record {
      round = only;
      soon = inl refl;
      ticks = (ticks_to a.state.moment to, refl);
      signals = (known_slots (length a.base.rows) slots, refl);
      ways = record { early = early.ways; late = tt; departures = record { retiring = tt; cut = tt; drained = tt }; orders = tt };
      left = tt;
      book = b;
      acts = acts-spelled _ (round_events only) a b early.acts (simp append-nil);
      last = ends-idle fault b why;
    }

-- ## Results

pub on-ok : {T E : Type 0} (r : Result T E) (P : Type 0) → P → OnOk r P
on-ok (Ok x) P holds = holds
on-ok (Err e) P holds = tt
