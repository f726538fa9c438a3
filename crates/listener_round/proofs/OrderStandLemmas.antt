-- How a run stands behind a command line that was read, and what was done for it.
use Rattle.std.proofs.Common.{◌≡◌, inl, inr, ◌≤◌, ◌<◌, ◌+◌, ℕ, suc, Bool, true, false, not, ◌||◌, cond, List, [], ◌∷◌, ◌++◌, Option, None, Some, option_map, refl, sym, ap, subst, ◌∙◌, arith}
use Rattle.std.proofs.lemmas.Bool.{cases_order}
use Rattle.std.proofs.lemmas.List.Folds.{list_any-append}
use Rattle.std.proofs.lemmas.List.Sums.{sum_by-cons}
use Rattle.std.specs.List.{list_any}
use Rattle.mpm_base.specs.Count.{Rises, greatest_count}
use Rattle.mpm_base.specs.Front.{FrontSeen}
use Rattle.mpm_base.specs.Store.{StoreSeen, StoreTold, after_renew}
use Rattle.conn_machine.specs.declared.event.Commanded.{Commanded}
use Rattle.conn_machine.specs.declared.event.Entry.{Entry}
use Rattle.conn_machine.specs.declared.event.Event.{Event}
use Rattle.conn_machine.specs.declared.event.Event.TheVariants as event
use Rattle.conn_machine.specs.declared.state.State.{State}
use Rattle.conn_machine.specs.Events.{count_events, is_order}
use Rattle.conn_machine.specs.Runs.{after}
use Rattle.conn_machine.specs.States.{is_serving}
use Rattle.conn_state.specs.Known.{KnownOutside}
use Rattle.board_book.specs.Book.{SeenBook}
use Rattle.worker_group.specs.Acts.{Acts}
use Rattle.listener_round.specs.Commands.{is_by_line, is_graceful_stop}
use Rattle.listener_round.specs.FirstNumbers.{opened_by}
use Rattle.listener_round.specs.Generations.{Opening, renewed}
use Rattle.listener_round.specs.Orders.{AreOrdered, IsDoneBy, IsOrdered, edition_with}
use Rattle.listener_round.specs.Folded.{all_entries}
use Rattle.listener_round.specs.StandingInside.{HasTimeout, Past, StandsSo, standing, newest_edition}
use Rattle.listener_round.specs.Stores.{IsRenewed, RisesBy, is_store_refusal}
use Rattle.listener_round.specs.declared.run_numbers.RunNumbers.{RunNumbers}
use Rattle.rounds.proofs.AddedLemmas.{added-events, events_in}
use Rattle.listener_round.proofs.StandingLemmas.{SameLines, counted-both, entries-acts, folded-acts, newest-both, ordered-both, orders-counted, orders_behind, renewed-kept, rises-more}

-- ## Counts

-- a graceful stop was begun in the history
abbrev pub has_ended : List Entry → Bool
has_ended history = list_any (λ (e : Entry). is_graceful_stop e.event) history

pub rises-one : (old new : ℕ) → Rises old new → RisesBy 1 old new
rises-one old new rises = elim (cases_order old greatest_count) [
  | inl same ↦ inr (omega (arith, same, rises.0))
  | inr (inl lower) ↦ inl (let more : old < new = rises.1 lower in omega (arith, more))
  | inr (inr higher) ↦ inr (omega (arith, higher, rises.0))
]

pub rises-both : (many more old mid new : ℕ) → RisesBy many old mid → RisesBy more mid new → RisesBy (many + more) old new
rises-both many more old mid new (inl first) (inl second) = inl (omega (arith, first, second))
rises-both many more old mid new (inl first) (inr full) = inr full
rises-both many more old mid new (inr full) (inl second) = inr (omega (arith, full, second))
rises-both many more old mid new (inr full) (inr full') = inr full'

-- ## The store

-- a store that was renewed once more
pub record IsRenewedOnce (failed : ℕ) (old new : StoreSeen) : Type 0 where
  pub told : new.told ≡ option_map after_renew old.told
  pub faults : RisesBy failed old.counts.faults new.counts.faults

pub once-more : (renewals : ℕ) (first last last' : Option StoreTold) → last ≡ option_map (renewed renewals) first → last' ≡ option_map after_renew last
    → last' ≡ option_map (renewed (suc renewals)) first
once-more renewals None last last' is more = more ∙ ap (option_map after_renew) is
once-more renewals (Some t) last last' is more = more ∙ ap (option_map after_renew) is

renewed-more : (renewals failed : ℕ) (old new : List Entry) (first last last' : StoreSeen)
    → count_events is_store_refusal new ≡ count_events is_store_refusal old + failed → IsRenewedOnce failed last last'
    → IsRenewed renewals old first last → IsRenewed (suc renewals) new first last'
renewed-more renewals failed old new first last last' refusals once is = record {
  told = once-more renewals first.told last.told last'.told is.told once.told;
  failed =
      subst (λ (n : ℕ). RisesBy n first.counts.faults last'.counts.faults) (sym refusals)
      (rises-both _ failed first.counts.faults last.counts.faults last'.counts.faults is.failed once.faults);
}

-- ## One command

-- the entries are one of this event
pub one-entry : (e : Event) (entries : List Entry) → events_in entries ≡ e ∷ [] → (entry : Entry) × (entries ≡ entry ∷ []) × (entry.event ≡ e)
one-entry e [] is = absurd (cc is)
one-entry e (entry ∷ []) is = let same : entry.event ≡ e = cc is in (entry, refl, same)
one-entry e (entry ∷ other ∷ entries) is = absurd (cc is)

-- what one more entry of this event makes of a history
record GoesOnBy (o : Opening) (s : State) (e : Event) (old new : List Entry) : Type 0 where
  ordered : AreOrdered o 0 0 s old → IsOrdered o (count_events is_order old) (newest_edition 0 0 old) (after s old) e → AreOrdered o 0 0 s new
  newest : newest_edition 0 0 new ≡ edition_with e (count_events is_order old) (newest_edition 0 0 old)
  counted : (test : Event → Bool) → count_events test new ≡ count_events test old + cond (test e) 1 0
  ending : has_ended new ≡ (has_ended old || is_graceful_stop e)

or-false : (b : Bool) → (b || false) ≡ b
or-false true = refl
or-false false = refl

goes-on : (o : Opening) (s : State) (history : List Entry) (entry : Entry) → GoesOnBy o s entry.event history (history ++ entry ∷ [])
goes-on o s history entry =
    let many : orders_behind 0 history ≡ count_events is_order history = orders-counted 0 history ∙ omega arith in
    record {
      ordered =
          λ before this. ordered-both o 0 0 s history (entry ∷ []) before
          (subst (λ (n : ℕ). IsOrdered o n (newest_edition 0 0 history) (after s history) entry.event) (sym many) this, tt);
      newest =
          newest-both 0 0 history (entry ∷ [])
          ∙ ap (λ (n : ℕ). edition_with entry.event n (newest_edition 0 0 history)) many;
      counted =
          λ test. let one = sum_by-cons (λ (x : Entry). cond (test x.event) 1 0) entry [] in
          omega (arith, counted-both test history (entry ∷ []), one);
      ending =
          list_any-append (λ (e : Entry). is_graceful_stop e.event) history (entry ∷ [])
          ∙ ap (λ (b : Bool). has_ended history || b) (or-false (is_graceful_stop entry.event));
    }

goes-on-by : (o : Opening) (s : State) (e : Event) (history added new : List Entry) → new ≡ history ++ added → events_in added ≡ e ∷ []
    → GoesOnBy o s e history new
goes-on-by o s e history added new is events =
    let one = one-entry e added events in
    subst (λ (x : Event). GoesOnBy o s x history new) one.2
    (subst (GoesOnBy o s one.0.event history) (sym (is ∙ ap (λ (xs : List Entry). history ++ xs) one.1)) (goes-on o s history one.0))

goes-on-acts : (o : Opening) (s : State) (e : Event) (a b : SeenBook) (before : List Entry) → Acts 0 (e ∷ []) None a b
    → GoesOnBy o s e (before ++ a.history) (before ++ b.history)
goes-on-acts o s e a b before acts =
    goes-on-by o s e (before ++ a.history) acts.entries.0 (before ++ b.history) (entries-acts 0 (e ∷ []) None a b acts before)
    (added-events 0 (e ∷ []) None a b acts)

-- the state behind all entries is the present one
pub state-behind : (s base state : State) (first last : List Entry) → after s (first ++ last) ≡ after (after s first) last → base ≡ after s first
    → after base last ≡ state → after s (first ++ last) ≡ state
state-behind s base state first last joins is now = joins ∙ ap (λ (x : State). after x last) (sym is) ∙ now

-- ## An order

-- the command is an order, and what a line `graceful` asks for
pub record IsOrder (c : Commanded) : Type 0 where
  pub order : is_order (event.Command c) ≡ true
  pub line : is_by_line (event.Command c) ≡ true
  pub ending : is_graceful_stop (event.Command c) ≡ false

counts-one : (test : Bool) (many old : ℕ) → test ≡ true → many ≡ old + cond test 1 0 → many ≡ old + 1
counts-one test many old is same = same ∙ ap (λ (b : Bool). old + cond b 1 0) is

counts-none : (test : Bool) (many old : ℕ) → test ≡ false → many ≡ old + cond test 1 0 → many ≡ old
counts-none test many old is same = same ∙ ap (λ (b : Bool). old + cond b 1 0) is ∙ omega arith

-- an order was recorded for a line, and the store renewed
pub stands-order : (known : Option KnownOutside) (o : Opening) (n : RunNumbers) (past : Past) (c : Commanded) (ms ms' : ℕ) (s s' : StoreSeen) (f f' : FrontSeen) (a b : SeenBook)
    → IsOrder c → (acts : Acts 0 (event.Command c ∷ []) None a b) → is_serving b.state.going ≡ is_serving a.state.going
    → (stood : StandsSo known o n past 0 0 (standing ms s f a)) → Rises f.counts.commands f'.counts.commands
    → IsDoneBy o (count_events is_order (all_entries n a stood.folded)) (newest_edition 0 0 (all_entries n a stood.folded)) (after (opened_by n) (all_entries n a stood.folded)) c
    → HasTimeout o (edition_with (event.Command c) (count_events is_order (all_entries n a stood.folded)) (newest_edition 0 0 (all_entries n a stood.folded))) ms'
    → IsRenewedOnce (cond (is_store_refusal (event.Command c)) 1 0) s s'
    → StandsSo known o n past 0 0 (standing ms' s' f' b)
stands-order known o n past c ms ms' s s' f f' a b is acts serving stood read done timeout once =
    let folded = folded-acts 0 (event.Command c ∷ []) None n a b acts stood.folded in
    let old = all_entries n a stood.folded in
    let new = all_entries n b folded in
    let goes : GoesOnBy o (opened_by n) (event.Command c) old new = goes-on-acts o (opened_by n) (event.Command c) a b stood.folded.entries acts in
    let orders : count_events is_order new ≡ count_events is_order old + 1 = counts-one _ _ _ is.order (goes.counted is_order) in
    let lines : count_events is_by_line new ≡ count_events is_by_line old + 1 = counts-one _ _ _ is.line (goes.counted is_by_line) in
    record {
      passes = acts.passes ∙ stood.passes;
      folded = folded;
      past_is = stood.past_is;
      outside = stood.outside;
      ordered = goes.ordered stood.ordered done;
      timeout = subst (λ (edition : ℕ). HasTimeout o edition ms') (sym goes.newest) timeout;
      given =
          rises-more _ _ o.front.counts.commands f'.counts.commands f'.counts.commands (omega (arith, lines)) (omega arith)
          (rises-both _ 1 o.front.counts.commands f.counts.commands f'.counts.commands stood.given (rises-one f.counts.commands f'.counts.commands read));
      ending =
          serving ∙ stood.ending
          ∙ ap not (sym (goes.ending ∙ ap (λ (b : Bool). has_ended old || b) is.ending ∙ or-false (has_ended old)));
      renewals = suc stood.renewals;
      each = omega (arith, orders, stood.each);
      no_more = omega (arith, orders, stood.no_more);
      store = renewed-more stood.renewals (cond (is_store_refusal (event.Command c)) 1 0) old new o.store s s' (goes.counted is_store_refusal) once stood.store;
    }

-- the order could not be recorded, though the store was renewed
pub stands-unordered : (known : Option KnownOutside) (o : Opening) (n : RunNumbers) (past : Past) (ms : ℕ) (s s' : StoreSeen) (f f' : FrontSeen) (a : SeenBook)
    → StandsSo known o n past 0 0 (standing ms s f a) → Rises f.counts.commands f'.counts.commands → IsRenewedOnce 0 s s'
    → StandsSo known o n past 1 0 (standing ms s' f' a)
stands-unordered known o n past ms s s' f f' a stood read once =
    let history = all_entries n a stood.folded in
    record {
      passes = stood.passes;
      folded = stood.folded;
      past_is = stood.past_is;
      outside = stood.outside;
      ordered = stood.ordered;
      timeout = stood.timeout;
      given =
          rises-more _ _ o.front.counts.commands f.counts.commands f'.counts.commands refl read.0 stood.given;
      ending = stood.ending;
      renewals = suc stood.renewals;
      each = omega (arith, stood.each);
      no_more = omega (arith, stood.no_more);
      store = renewed-more stood.renewals 0 history history o.store s s' (omega arith) once stood.store;
    }

-- ## A line for which the store isn't renewed

-- one was read, and one line was given besides, or none
pub stands-line : (known : Option KnownOutside) (o : Opening) (n : RunNumbers) (past : Past) (spare owed ms : ℕ) (s : StoreSeen) (f f' : FrontSeen)
    (a : SeenBook) → owed ≤ 1 → StandsSo known o n past 0 0 (standing ms s f a) → Rises f.counts.commands f'.counts.commands
    → StandsSo known o n past spare owed (standing ms s f' a)
stands-line known o n past spare owed ms s f f' a few stood read =
    let history = all_entries n a stood.folded in
    let given : RisesBy (count_events is_by_line history + 0 + 1) o.front.counts.commands f'.counts.commands =
    rises-both _ 1 o.front.counts.commands f.counts.commands f'.counts.commands stood.given (rises-one f.counts.commands f'.counts.commands read) in
    record {
      passes = stood.passes;
      folded = stood.folded;
      past_is = stood.past_is;
      outside = stood.outside;
      ordered = stood.ordered;
      timeout = stood.timeout;
      given = rises-fewer _ _ o.front.counts.commands f'.counts.commands (omega (arith, few)) given;
      ending = stood.ending;
      renewals = stood.renewals;
      each = stood.each;
      no_more = omega (arith, stood.no_more);
      store = stood.store;
    } where
      rises-fewer : (many fewer old new : ℕ) → fewer ≤ many → RisesBy many old new → RisesBy fewer old new
      rises-fewer many fewer old new less (inl more) = inl (omega (arith, less, more))
      rises-fewer many fewer old new less (inr full) = inr full

-- ## A graceful stop

-- it was recorded for a line
pub stands-ending : (known : Option KnownOutside) (o : Opening) (n : RunNumbers) (past : Past) (c : Commanded) (ms : ℕ) (s : StoreSeen) (f f' : FrontSeen) (a b : SeenBook)
    → is_order (event.Command c) ≡ false → is_by_line (event.Command c) ≡ true → is_store_refusal (event.Command c) ≡ false
    → is_graceful_stop (event.Command c) ≡ true
    → (acts : Acts 0 (event.Command c ∷ []) None a b) → is_serving b.state.going ≡ false
    → (stood : StandsSo known o n past 0 0 (standing ms s f a)) → Rises f.counts.commands f'.counts.commands
    → IsDoneBy o (count_events is_order (all_entries n a stood.folded)) (newest_edition 0 0 (all_entries n a stood.folded)) (after (opened_by n) (all_entries n a stood.folded)) c
    → edition_with (event.Command c) (count_events is_order (all_entries n a stood.folded)) (newest_edition 0 0 (all_entries n a stood.folded)) ≡ newest_edition 0 0 (all_entries n a stood.folded)
    → StandsSo known o n past 0 0 (standing ms s f' b)
stands-ending known o n past c ms s f f' a b unordered line unrefused ends acts serving stood read done same =
    let folded = folded-acts 0 (event.Command c ∷ []) None n a b acts stood.folded in
    let old = all_entries n a stood.folded in
    let new = all_entries n b folded in
    let goes : GoesOnBy o (opened_by n) (event.Command c) old new = goes-on-acts o (opened_by n) (event.Command c) a b stood.folded.entries acts in
    let orders : count_events is_order new ≡ count_events is_order old = counts-none _ _ _ unordered (goes.counted is_order) in
    let refusals : count_events is_store_refusal new ≡ count_events is_store_refusal old = counts-none _ _ _ unrefused (goes.counted is_store_refusal) in
    let lines : count_events is_by_line new ≡ count_events is_by_line old + 1 = counts-one _ _ _ line (goes.counted is_by_line) in
    record {
      passes = acts.passes ∙ stood.passes;
      folded = folded;
      past_is = stood.past_is;
      outside = stood.outside;
      ordered = goes.ordered stood.ordered done;
      timeout = subst (λ (edition : ℕ). HasTimeout o edition ms) (sym (goes.newest ∙ same)) stood.timeout;
      given =
          rises-more _ _ o.front.counts.commands f'.counts.commands f'.counts.commands (omega (arith, lines)) (omega arith)
          (rises-both _ 1 o.front.counts.commands f.counts.commands f'.counts.commands stood.given (rises-one f.counts.commands f'.counts.commands read));
      ending = serving ∙ sym (ap not (goes.ending ∙ ap (λ (b : Bool). has_ended old || b) ends ∙ or-true (has_ended old)));
      renewals = stood.renewals;
      each = omega (arith, orders, stood.each);
      no_more = omega (arith, orders, stood.no_more);
      store = renewed-kept stood.renewals old new o.store s s refusals refl stood.store;
    } where
      or-true : (b : Bool) → (b || true) ≡ true
      or-true true = refl
      or-true false = refl

-- ## Another front

-- it stands so over a front that counts no fewer lines
pub stands-front : (known : Option KnownOutside) (o : Opening) (n : RunNumbers) (past : Past) (spare owed ms : ℕ) (s : StoreSeen) (f f' : FrontSeen)
    (a : SeenBook) → SameLines f f' → StandsSo known o n past spare owed (standing ms s f a) → StandsSo known o n past spare owed (standing ms s f' a)
stands-front known o n past spare owed ms s f f' a same stood = record {
  passes = stood.passes;
  folded = stood.folded;
  past_is = stood.past_is;
  outside = stood.outside;
  ordered = stood.ordered;
  timeout = stood.timeout;
  given = rises-more _ _ o.front.counts.commands f.counts.commands f'.counts.commands refl same stood.given;
  ending = stood.ending;
  renewals = stood.renewals;
  each = stood.each;
  no_more = stood.no_more;
  store = stood.store;
}
