-- What a line was answered it was answered in a longer history too, and one line more behind those that were answered.
use Rattle.std.proofs.Common.{◌≡◌, ◌≤◌, ℕ, zero, suc, List, [], ◌∷◌, ◌++◌, drop, length, map, take, slice_get, Option, None, Some, IfSome, IsSome, refl, sym, ap, subst, ◌∙◌, length-append, arith}
use Rattle.std.proofs.lemmas.List.{map-append}
use Rattle.std.proofs.lemmas.List.Elements.{filter-append}
use Rattle.conn_machine.specs.declared.event.Entry.{Entry}
use Rattle.conn_machine.specs.declared.event.Event.{Event}
use Rattle.conn_machine.specs.declared.state.State.{State}
use Rattle.conn_machine.specs.Events.{count_events, is_order}
use Rattle.conn_machine.specs.Runs.{after, is_of_pass}
use Rattle.worker_group.specs.Acts.{events_of}
use Rattle.listener_round.specs.Generations.{Opening}
use Rattle.listener_round.specs.Heard.{AreAnswered, Heard, orders_behind}
use Rattle.listener_round.specs.LineAnswers.{IsAnswerTo, next_event, state_behind}
use Rattle.listener_round.specs.LineAnswers.IsAnswerTo.{restarted, refused, ends, ends_already, stops, told, unknown}
use Rattle.listener_round.specs.HeardInside.{AllAnswered, orders_after}

-- ## The front of a history

pub take-in : {X : Type 0} (xs ys : List X) (n : ℕ) → n ≤ length xs → take n (xs ++ ys) ≡ take n xs
take-in [] ys zero within = refl
take-in [] ys (suc n) within = absurd (omega (arith, within))
take-in (x ∷ xs) ys zero within = refl
take-in {X} (x ∷ xs) ys (suc n) within = ap (λ (l : List X). x ∷ l) (take-in xs ys n (omega (arith, within)))

pub drop-in : {X : Type 0} (xs ys : List X) (n : ℕ) → n ≤ length xs → drop n (xs ++ ys) ≡ drop n xs ++ ys
drop-in [] ys zero within = refl
drop-in [] ys (suc n) within = absurd (omega (arith, within))
drop-in (x ∷ xs) ys zero within = refl
drop-in (x ∷ xs) ys (suc n) within = drop-in xs ys n (omega (arith, within))

-- what stands first stays first
first-kept : {X : Type 0} (xs ys : List X) (x : X) → slice_get xs 0 ≡ Some x → slice_get (xs ++ ys) 0 ≡ Some x
first-kept [] ys x at = absurd (cc at)
first-kept (y ∷ xs) ys x at = at

pub events-append : (who : ℕ) (a b : List Entry) → events_of who (a ++ b) ≡ events_of who a ++ events_of who b
events-append who a b =
    ap (map (λ (e : Entry). e.event)) (filter-append (is_of_pass who) a b) ∙ map-append (λ (e : Entry). e.event) _ _

-- the listener's next event is the same one, where there is one
event-kept : (history more : List Entry) (made : ℕ) (e : Event) → made ≤ length history → next_event history made ≡ Some e
    → next_event (history ++ more) made ≡ Some e
event-kept history more made e within at =
    ap (λ (l : List Entry). slice_get (events_of 0 l) 0) (drop-in history more made within)
    ∙ ap (λ (l : List Event). slice_get l 0) (events-append 0 (drop made history) more)
    ∙ first-kept (events_of 0 (drop made history)) (events_of 0 more) e at

-- ## What a line is answered

-- whatever comes to be the next event, where it is the one that was there
pub answer-kept : (o : Opening) (orders : ℕ) (s : State) (next next' : Option Event) (line answer : List ℕ)
    → ((e : Event) → next ≡ Some e → next' ≡ Some e) → IsAnswerTo o orders s next line answer → IsAnswerTo o orders s next' line answer
answer-kept o orders s next next' line answer kept (restarted at) = restarted (kept _ at)
answer-kept o orders s next next' line answer kept (refused at says) = refused (kept _ at) says
answer-kept o orders s next next' line answer kept (ends serves at) = ends serves (kept _ at)
answer-kept o orders s next next' line answer kept (ends_already off) = ends_already off
answer-kept o orders s next next' line answer kept (stops at) = stops (kept _ at)
answer-kept o orders s next next' line answer kept told = told
answer-kept o orders s next next' line answer kept (unknown other) = unknown other

if-kept : (o : Opening) (orders : ℕ) (first : State) (history more : List Entry) (made : ℕ) (line : List ℕ) (answer : Option (List ℕ))
    → made ≤ length history → IfSome answer (IsAnswerTo o orders (state_behind first history made) (next_event history made) line)
    → IfSome answer (IsAnswerTo o orders (state_behind first (history ++ more) made) (next_event (history ++ more) made) line)
if-kept o orders first history more made line None within is = tt
if-kept o orders first history more made line (Some text) within is =
    subst (λ (s : State). IsAnswerTo o orders s (next_event (history ++ more) made) line text)
    (ap (after first) (sym (take-in history more made within)))
    (answer-kept o orders (state_behind first history made) (next_event history made) (next_event (history ++ more) made) line text
    (λ e at. event-kept history more made e within at) is)

-- ## The lines of a run

-- each was answered, in a longer history too
pub answered-later : (o : Opening) (first : State) (history more : List Entry) (orders from : ℕ) (heard : List Heard)
    → AreAnswered o first history orders from heard → AreAnswered o first (history ++ more) orders from heard
answered-later o first history more orders from [] answered = tt
answered-later o first history more orders from (h ∷ heard) answered = (
  answered.0,
  omega (arith, answered.1, length-append history more),
  ap (count_events is_order) (take-in history more h.made answered.1) ∙ answered.2,
  if-kept o orders first history more h.made h.line h.answer answered.1 answered.3,
  answered-later o first history more (orders_behind orders h.line) h.made heard answered.4,
)

-- how much had been made where the last one was read
abbrev pub made_after : ℕ → List Heard → ℕ
made_after from [] = from
made_after from (h ∷ heard) = made_after h.made heard

-- and one line more behind them
pub answered-snoc : (o : Opening) (first : State) (history : List Entry) (orders from : ℕ) (heard : List Heard) (h : Heard)
    → AreAnswered o first history orders from heard
    → AreAnswered o first history (orders_after orders heard) (made_after from heard) (h ∷ [])
    → AreAnswered o first history orders from (heard ++ h ∷ [])
answered-snoc o first history orders from [] h answered last = last
answered-snoc o first history orders from (g ∷ heard) h answered last = (
  answered.0,
  answered.1,
  answered.2,
  answered.3,
  answered-snoc o first history (orders_behind orders g.line) g.made heard h answered.4 last,
)

-- it had been made by then
pub made-within : (o : Opening) (first : State) (history : List Entry) (orders from : ℕ) (heard : List Heard)
    → AreAnswered o first history orders from heard → from ≤ length history → made_after from heard ≤ length history
made-within o first history orders from [] answered within = within
made-within o first history orders from (h ∷ heard) answered within =
    made-within o first history (orders_behind orders h.line) h.made heard answered.4 answered.1

-- and so many orders are behind it
pub orders-snoc : (orders : ℕ) (heard : List Heard) (h : Heard) → orders_after orders (heard ++ h ∷ []) ≡ orders_behind (orders_after orders heard) h.line
orders-snoc orders [] h = refl
orders-snoc orders (g ∷ heard) h = orders-snoc (orders_behind orders g.line) heard h

pub all-snoc : (heard : List Heard) (h : Heard) → AllAnswered heard → IsSome h.answer → AllAnswered (heard ++ h ∷ [])
all-snoc [] h all is = (is, tt)
all-snoc (g ∷ heard) h all is = (all.0, all-snoc heard h all.1 is)
