-- How a run stands where its history goes on by entries none of which is a command, and its front reads no line.
use Rattle.std.proofs.Common.{◌≡◌, inl, inr, ◌+◌, ℕ, Bool, true, false, not, ◌||◌, cond, List, [], ◌∷◌, ◌++◌, Option, refl, sym, ap, subst, ◌∙◌, append_assoc, arith}
use Rattle.std.proofs.lemmas.List.Folds.{list_any-append}
use Rattle.std.proofs.lemmas.List.Sums.{sum_by-append, sum_by-cons}
use Rattle.std.specs.List.{flat_map, list_any}
use Rattle.mpm_base.specs.Count.{NeverFalls}
use Rattle.mpm_base.specs.Front.{FrontSeen, Waits, after_hush}
use Rattle.mpm_base.specs.declared.front.Woke.{Woke}
use Rattle.mpm_base.specs.Store.{StoreSeen}
use Rattle.mpm_base.specs.declared.conn.ConnName.{ConnName}
use Rattle.conn_machine.specs.declared.event.Commanded.{Commanded}
use Rattle.conn_machine.specs.declared.event.Entry.{Entry}
use Rattle.conn_machine.specs.declared.event.Event.{Event}
use Rattle.conn_machine.specs.declared.event.Event.TheVariants as event
use Rattle.conn_machine.specs.declared.state.State.{State}
use Rattle.conn_machine.specs.Events.{begins_generation, count_events, is_order}
use Rattle.conn_machine.specs.Runs.{after}
use Rattle.conn_machine.specs.States.{is_serving}
use Rattle.conn_machine.specs.Table.{next}
use Rattle.conn_state.specs.Known.{KnownOutside}
use Rattle.board.specs.Board.{EndedOfOutside}
use Rattle.board_book.specs.Book.{SeenBook}
use Rattle.worker_group.specs.Acts.{Acts}
use Rattle.listener_round.specs.Commands.{is_by_line, is_graceful_stop}
use Rattle.listener_round.specs.FirstNumbers.{opened_by}
use Rattle.listener_round.specs.Generations.{Opening}
use Rattle.listener_round.specs.Folded.{HasFolded, all_entries, whole_book}
use Rattle.listener_round.specs.FrontInside.{Follows}
use Rattle.listener_round.specs.Orders.{AreOrdered, IsOrdered, edition_with, orders_with}
use Rattle.rounds.specs.PartsInside.{StaysTimely}
use Rattle.listener_round.specs.StandingInside.{HasTimeout, Past, Standing, StandsBroken, StandsOn, StandsSo, newest_edition}
use Rattle.listener_round.specs.Stores.{IsRenewed, RisesBy, is_store_refusal}
use Rattle.listener_round.specs.declared.edition.NamedConfig.{NamedConfig}
use Rattle.listener_round.specs.declared.run_numbers.RunNumbers.{RunNumbers}
use Rattle.rounds.proofs.AddedLemmas.{events_in}
use Rattle.listener_round.proofs.CommandlessLemmas.{AreCommandless, commands_in}

-- ## Histories that go on

-- how many orders there were behind the entries
abbrev pub orders_behind : ℕ → List Entry → ℕ
orders_behind orders [] = orders
orders_behind orders (e ∷ history) = orders_behind (orders_with e.event orders) history

orders-one : (e : Event) (orders many : ℕ) → orders_with e orders + many ≡ orders + (cond (is_order e) 1 0 + many)
orders-one e orders many = by (is_order e) where
  by : (b : Bool) → cond b (orders + 1) orders + many ≡ orders + (cond b 1 0 + many)
  by true = omega arith
  by false = omega arith

pub orders-counted : (orders : ℕ) (history : List Entry) → orders_behind orders history ≡ orders + count_events is_order history
orders-counted orders [] = omega arith
orders-counted orders (e ∷ history) =
    orders-counted (orders_with e.event orders) history
    ∙ orders-one e.event orders (count_events is_order history)
    ∙ ap (λ (n : ℕ). orders + n) (sym (sum_by-cons (λ (x : Entry). cond (is_order x.event) 1 0) e history))

pub newest-both : (orders edition : ℕ) (a b : List Entry)
    → newest_edition orders edition (a ++ b) ≡ newest_edition (orders_behind orders a) (newest_edition orders edition a) b
newest-both orders edition [] b = refl
newest-both orders edition (e ∷ a) b = newest-both (orders_with e.event orders) (edition_with e.event orders edition) a b

pub ordered-both : (o : Opening) (orders edition : ℕ) (s : State) (a b : List Entry) → AreOrdered o orders edition s a
    → AreOrdered o (orders_behind orders a) (newest_edition orders edition a) (after s a) b → AreOrdered o orders edition s (a ++ b)
ordered-both o orders edition s [] b first second = second
ordered-both o orders edition s (e ∷ a) b first second =
    (first.0, ordered-both o (orders_with e.event orders) (edition_with e.event orders edition) (next s e.event) a b first.1 second)

pub counted-both : (test : Event → Bool) (a b : List Entry) → count_events test (a ++ b) ≡ count_events test a + count_events test b
counted-both test a b = sum_by-append (λ (e : Entry). cond (test e.event) 1 0) a b

-- ## Events that are no commands

-- what is said of an event by which nothing is ordered, and no line done
record IsPlain (e : Event) : Type 0 where
  ordered : (o : Opening) (orders edition : ℕ) (s : State) → IsOrdered o orders edition s e
  begins : begins_generation e ≡ false
  order : is_order e ≡ false
  line : is_by_line e ≡ false
  refusal : is_store_refusal e ≡ false
  ending : is_graceful_stop e ≡ false

plain-event : (e : Event) (rest : List Commanded) → commands_in e ++ rest ≡ [] → IsPlain e × (rest ≡ [])
plain-event (event.Accept slot) rest none = (record { ordered = λ o orders edition s. tt; begins = refl; order = refl; line = refl; refusal = refl; ending = refl }, none)
plain-event (event.Park name kind) rest none = (record { ordered = λ o orders edition s. tt; begins = refl; order = refl; line = refl; refusal = refl; ending = refl }, none)
plain-event (event.Hold name) rest none = (record { ordered = λ o orders edition s. tt; begins = refl; order = refl; line = refl; refusal = refl; ending = refl }, none)
plain-event (event.Queue name) rest none = (record { ordered = λ o orders edition s. tt; begins = refl; order = refl; line = refl; refusal = refl; ending = refl }, none)
plain-event (event.Start name) rest none = (record { ordered = λ o orders edition s. tt; begins = refl; order = refl; line = refl; refusal = refl; ending = refl }, none)
plain-event (event.Answer name ask) rest none = (record { ordered = λ o orders edition s. tt; begins = refl; order = refl; line = refl; refusal = refl; ending = refl }, none)
plain-event (event.Linger name cause) rest none = (record { ordered = λ o orders edition s. tt; begins = refl; order = refl; line = refl; refusal = refl; ending = refl }, none)
plain-event (event.Close name cause tail) rest none = (record { ordered = λ o orders edition s. tt; begins = refl; order = refl; line = refl; refusal = refl; ending = refl }, none)
plain-event (event.Ready slot) rest none = (record { ordered = λ o orders edition s. tt; begins = refl; order = refl; line = refl; refusal = refl; ending = refl }, none)
plain-event (event.Tick m) rest none = (record { ordered = λ o orders edition s. tt; begins = refl; order = refl; line = refl; refusal = refl; ending = refl }, none)
plain-event (event.StartChild k) rest none = (record { ordered = λ o orders edition s. tt; begins = refl; order = refl; line = refl; refusal = refl; ending = refl }, none)
plain-event (event.Command c) rest none = absurd (cc none)
plain-event (event.Retire k) rest none = (record { ordered = λ o orders edition s. tt; begins = refl; order = refl; line = refl; refusal = refl; ending = refl }, none)

-- each entry has such an event
abbrev ArePlain : List Entry → Type 0
ArePlain [] = Unit {0}
ArePlain (e ∷ entries) = IsPlain e.event × ArePlain entries

plain-entries : (entries : List Entry) → AreCommandless (events_in entries) → ArePlain entries
plain-entries [] none = tt
plain-entries (e ∷ entries) none =
    let parts = plain-event e.event (flat_map commands_in (events_in entries)) none in
    (parts.0, plain-entries entries parts.1)

plain-ordered : (o : Opening) (orders edition : ℕ) (s : State) (entries : List Entry) → ArePlain entries → AreOrdered o orders edition s entries
plain-ordered o orders edition s [] plain = tt
plain-ordered o orders edition s (e ∷ entries) plain =
    (plain.0.ordered o orders edition s, plain-ordered o (orders_with e.event orders) (edition_with e.event orders edition) (next s e.event) entries plain.1)

plain-newest : (orders edition : ℕ) (entries : List Entry) → ArePlain entries → newest_edition orders edition entries ≡ edition
plain-newest orders edition [] plain = refl
plain-newest orders edition (e ∷ entries) plain =
    plain-newest (orders_with e.event orders) (edition_with e.event orders edition) entries plain.1
    ∙ ap (λ (b : Bool). cond b (orders + 1) edition) plain.0.begins

-- none of them passes a test that none such passes
plain-counted : (test : Event → Bool) → ((e : Event) → IsPlain e → test e ≡ false) → (entries : List Entry) → ArePlain entries → count_events test entries ≡ 0
plain-counted test fails [] plain = refl
plain-counted test fails (e ∷ entries) plain =
    sum_by-cons (λ (x : Entry). cond (test x.event) 1 0) e entries
    ∙ ap (λ (b : Bool). cond b 1 0 + count_events test entries) (fails e.event plain.0)
    ∙ omega (arith, plain-counted test fails entries plain.1)

plain-any : (test : Event → Bool) → ((e : Event) → IsPlain e → test e ≡ false) → (entries : List Entry) → ArePlain entries
    → list_any (λ (e : Entry). test e.event) entries ≡ false
plain-any test fails [] plain = refl
plain-any test fails (e ∷ entries) plain = rw (fails e.event plain.0) (plain-any test fails entries plain.1)

-- ## What stays

-- all that was ordered and done in the one history is so in the other, and nothing else
pub record KeepsPast (o : Opening) (s : State) (old new : List Entry) : Type 0 where
  pub ordered : AreOrdered o 0 0 s old → AreOrdered o 0 0 s new
  pub newest : newest_edition 0 0 new ≡ newest_edition 0 0 old
  pub given : count_events is_by_line new ≡ count_events is_by_line old
  pub ending : list_any (λ (e : Entry). is_graceful_stop e.event) new ≡ list_any (λ (e : Entry). is_graceful_stop e.event) old
  pub orders : count_events is_order new ≡ count_events is_order old
  pub refusals : count_events is_store_refusal new ≡ count_events is_store_refusal old

or-none : (a b : Bool) → b ≡ false → (a || b) ≡ a
or-none true b none = refl
or-none false b none = none

pub keeps-plain : (o : Opening) (s : State) (history more : List Entry) → AreCommandless (events_in more) → KeepsPast o s history (history ++ more)
keeps-plain o s history more none =
    let plain = plain-entries more none in
    let counted : (test : Event → Bool) → ((e : Event) → IsPlain e → test e ≡ false) → count_events test (history ++ more) ≡ count_events test history =
    λ test fails. omega (arith, counted-both test history more, plain-counted test fails more plain) in
    record {
      ordered = λ before. ordered-both o 0 0 s history more before (plain-ordered o _ _ (after s history) more plain);
      newest = newest-both 0 0 history more ∙ plain-newest _ _ more plain;
      given = counted is_by_line (λ e p. p.line);
      ending =
          list_any-append (λ (e : Entry). is_graceful_stop e.event) history more
          ∙ or-none (list_any (λ (e : Entry). is_graceful_stop e.event) history) _ (plain-any is_graceful_stop (λ e p. p.ending) more plain);
      orders = counted is_order (λ e p. p.order);
      refusals = counted is_store_refusal (λ e p. p.refusal);
    }

-- ## The front

-- the front counts no fewer lines
abbrev pub SameLines : FrontSeen → FrontSeen → Type 0
SameLines old new = NeverFalls old.counts.commands new.counts.commands

-- ## Counts

pub rises-more : (many many' old new new' : ℕ) → many' ≡ many → NeverFalls new new' → RisesBy many old new → RisesBy many' old new'
rises-more many many' old new new' same stays (inl more) = inl (omega (arith, same, stays, more))
rises-more many many' old new new' same stays (inr full) = inr (omega (arith, stays, full))

-- ## A run

-- the run stands elsewhere, where what isn't of its history is as it was
pub record SameRest (old new : Standing) : Type 0 where
  pub passes : new.book.passes ≡ old.book.passes
  pub serving : is_serving new.book.state.going ≡ is_serving old.book.state.going
  pub stop : new.stop_ms ≡ old.stop_ms
  pub store : new.store ≡ old.store
  pub front : SameLines old.front new.front

stop-kept : (o : Opening) (edition edition' ms ms' : ℕ) → edition' ≡ edition → ms' ≡ ms → HasTimeout o edition ms → HasTimeout o edition' ms'
stop-kept o edition edition' ms ms' same same_ms has =
    subst (λ (n : ℕ). HasTimeout o n ms') (sym same) (subst (HasTimeout o edition) (sym same_ms) has)

pub renewed-kept : (renewals : ℕ) (old new : List Entry) (first last last' : StoreSeen) → count_events is_store_refusal new ≡ count_events is_store_refusal old
    → last' ≡ last → IsRenewed renewals old first last → IsRenewed renewals new first last'
renewed-kept renewals old new first last last' refusals same is =
    subst (IsRenewed renewals new first) (sym same)
    (record { told = is.told; failed = subst (λ (n : ℕ). RisesBy n first.counts.faults last.counts.faults) (sym refusals) is.failed })

pub stands-past : (known : Option KnownOutside) (o : Opening) (n : RunNumbers) (past later : Past) (spare owed : ℕ) (old new : Standing)
    (stood : StandsSo known o n past spare owed old) (folded : HasFolded n new.book) → later ≡ record { entries = folded.entries; ended = folded.ended }
    → EndedOfOutside known (whole_book n folded.entries) folded.ended
    → KeepsPast o (opened_by n) (all_entries n old.book stood.folded) (all_entries n new.book folded) → SameRest old new
    → StandsSo known o n later spare owed new
stands-past known o n past later spare owed old new stood folded past_is outside keeps same =
    let entries = all_entries n old.book stood.folded in
    let entries' = all_entries n new.book folded in
    record {
      passes = same.passes ∙ stood.passes;
      folded = folded;
      past_is = past_is;
      outside = outside;
      ordered = keeps.ordered stood.ordered;
      timeout = stop-kept o _ _ old.stop_ms new.stop_ms keeps.newest same.stop stood.timeout;
      given =
          rises-more _ _ o.front.counts.commands old.front.counts.commands new.front.counts.commands
          (ap (λ (n : ℕ). n + owed) keeps.given) same.front stood.given;
      ending = same.serving ∙ stood.ending ∙ ap not (sym keeps.ending);
      renewals = stood.renewals;
      each = omega (arith, keeps.orders, stood.each);
      no_more = omega (arith, keeps.orders, stood.no_more);
      store = renewed-kept stood.renewals entries entries' o.store old.store new.store keeps.refusals same.store stood.store;
    }

-- what was folded is the same behind what a pass did
abbrev pub folded-acts : (who : ℕ) (es : List Event) (has : Option ConnName) (n : RunNumbers) (a b : SeenBook) → Acts who es has a b → HasFolded n a → HasFolded n b
folded-acts who es has n a b acts f = record {
  entries = f.entries;
  ended = f.ended;
  made = f.made;
  few = f.few;
  timely = f.timely;
  base_is = acts.base ∙ f.base_is;
  record_is = acts.folded ∙ f.record_is;
  closed = f.closed;
  answered = f.answered;
}

-- all entries go on by those that the pass added
pub entries-acts : (who : ℕ) (es : List Event) (has : Option ConnName) (a b : SeenBook) (acts : Acts who es has a b) (before : List Entry)
    → before ++ b.history ≡ (before ++ a.history) ++ acts.entries.0
entries-acts who es has a b acts before =
    ap (λ (xs : List Entry). before ++ xs) acts.entries.1 ∙ sym (append_assoc before a.history acts.entries.0)

-- behind what a pass did, none of which is a command
pub stands-acts : (known : Option KnownOutside) (o : Opening) (n : RunNumbers) (past : Past) (spare owed : ℕ) (who : ℕ) (es : List Event)
    (has : Option ConnName) (old new : Standing) (acts : Acts who es has old.book new.book) → AreCommandless (events_in acts.entries.0)
    → SameRest old new → StandsSo known o n past spare owed old → StandsSo known o n past spare owed new
stands-acts known o n past spare owed who es has old new acts none same stood =
    let folded = folded-acts who es has n old.book new.book acts stood.folded in
    let history = all_entries n old.book stood.folded in
    stands-past known o n past past spare owed old new stood folded stood.past_is stood.outside
    (subst (KeepsPast o (opened_by n) history) (sym (entries-acts who es has old.book new.book acts stood.folded.entries))
    (keeps-plain o (opened_by n) history acts.entries.0 none)) same

-- ## One thing behind the other

-- what goes on behind what went on goes on
pub stands-more : (known : Option KnownOutside) (cfg : NamedConfig) (spare owed : ℕ) (a b c : Standing) → StandsOn known cfg 0 0 a b
    → StaysTimely a.book b.book → StandsOn known cfg spare owed b c → StandsOn known cfg spare owed a c
stands-more known cfg spare owed a b c first timely second o n past opened before stood =
    second o n past opened (timely before) (first o n past opened before stood)

-- and stays so behind what changes nothing
pub stands-before : (known : Option KnownOutside) (cfg : NamedConfig) (spare owed : ℕ) (a b c : Standing) → StandsOn known cfg spare owed a b
    → ((o : Opening) (n : RunNumbers) (past : Past) → StandsSo known o n past spare owed b → StandsSo known o n past spare owed c) → StandsOn known cfg spare owed a c
stands-before known cfg spare owed a b c first second o n past opened before stood = second o n past (first o n past opened before stood)

pub broken-behind : (known : Option KnownOutside) (cfg : NamedConfig) (a b c : Standing) → StandsOn known cfg 0 0 a b → StaysTimely a.book b.book
    → StandsBroken known cfg b c → StandsBroken known cfg a c
broken-behind known cfg a b c first timely broken = stands-more known cfg 1 0 a b c first timely broken

-- where the store was renewed no more than at each order, it was once more at most
pub so-broken : (known : Option KnownOutside) (o : Opening) (n : RunNumbers) (past : Past) (s : Standing) → StandsSo known o n past 0 0 s → StandsSo known o n past 1 0 s
so-broken known o n past s stood = record {
  passes = stood.passes;
  folded = stood.folded;
  past_is = stood.past_is;
  outside = stood.outside;
  ordered = stood.ordered;
  timeout = stood.timeout;
  given = stood.given;
  ending = stood.ending;
  renewals = stood.renewals;
  each = stood.each;
  no_more = omega (arith, stood.no_more);
  store = stood.store;
}

pub broken-none : (known : Option KnownOutside) (cfg : NamedConfig) (a b : Standing) → StandsOn known cfg 0 0 a b → StandsBroken known cfg a b
broken-none known cfg a b stands o n past opened before stood = so-broken known o n past b (stands o n past opened before stood)

-- what a pass did, none of which is a command
pub acts-stand : (known : Option KnownOutside) (cfg : NamedConfig) (who : ℕ) (es : List Event) (has : Option ConnName) (old new : Standing)
    (acts : Acts who es has old.book new.book) → AreCommandless (events_in acts.entries.0) → SameRest old new → StandsOn known cfg 0 0 old new
acts-stand known cfg who es has old new acts none same o n past opened before stood = stands-acts known o n past 0 0 who es has old new acts none same stood

-- ## Fronts that give no line

pub same-lines : (f : FrontSeen) → SameLines f f
same-lines f = omega arith

-- connections were taken
pub lines-taken : (old new : FrontSeen) → Follows old new → SameLines old new
lines-taken old new follows = follows.commands

-- a wait may let more lines come
pub lines-waited : (until : Option ℕ) (quiet : Bool) (answer : Woke) (ready : List ℕ) (old new : FrontSeen) → Waits old new until quiet answer ready
    → SameLines old new
lines-waited until quiet answer ready old new waits = omega (arith, waits.commands)

-- listening was stopped
pub lines-hushed : (old new : FrontSeen) → new ≡ after_hush old → SameLines old new
lines-hushed old new is = omega (arith, ap (λ (f : FrontSeen). f.counts.commands) is)

-- ## What is said of all entries

pub past-base : (known : Option KnownOutside) (o : Opening) (n : RunNumbers) (past : Past) (spare owed : ℕ) (s : Standing)
    → StandsSo known o n past spare owed s → s.book.base ≡ after (opened_by n) past.entries
past-base known o n past spare owed s stands =
    stands.folded.base_is ∙ ap (λ (p : Past). after (opened_by n) p.entries) (sym stands.past_is)
