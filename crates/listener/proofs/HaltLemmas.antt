-- What stopping the server adds, and what is left of the store then.
use Rattle.std.proofs.Common.{◌≡◌, ◌⊎◌, inl, inr, ◌≤◌, ◌<◌, ◌+◌, ℕ, Bool, true, false, ◌||◌, cond, List, [], ◌∷◌, ◌++◌, Option, None, Some, Result, Ok, Err, refl, sym, ap, subst, ◌∙◌, append-nil, arith}
use Rattle.std.proofs.lemmas.Bool.{cases_order}
use Rattle.std.proofs.lemmas.List.Folds.{list_any-append}
use Rattle.std.proofs.lemmas.List.Sums.{sum_by-cons}
use Rattle.std.specs.List.{list_any}
use Rattle.mpm_base.specs.Store.{StoreSeen}
use Rattle.conn_machine.specs.declared.event.Commanded.TheVariants.{Stop}
use Rattle.conn_machine.specs.declared.event.Entry.{Entry}
use Rattle.conn_machine.specs.declared.event.Event.{Event}
use Rattle.conn_machine.specs.declared.event.Event.TheVariants as event
use Rattle.conn_machine.specs.declared.event.Why.{Why}
use Rattle.conn_machine.specs.declared.event.Why.TheVariants as why
use Rattle.conn_machine.specs.declared.state.Going.{Going}
use Rattle.conn_machine.specs.declared.state.State.{State}
use Rattle.conn_machine.specs.Events.{count_events, is_order}
use Rattle.conn_machine.specs.Runs.{after}
use Rattle.board_book.specs.declared.faults.BoardFault.{BoardFault}
use Rattle.rounds.specs.declared.ends.End.{End}
use Rattle.listener_round.specs.Commands.{is_by_line, is_graceful_stop}
use Rattle.listener_round.specs.Generations.{Opening}
use Rattle.rounds.specs.EndsInside.{why_of}
use Rattle.listener_round.specs.Orders.{AreOrdered, IsOrdered}
use Rattle.rounds.specs.PartsInside.{halt_events, halts_for}
use Rattle.listener_round.specs.StandingInside.{newest_edition}
use Rattle.listener_round.specs.Pace.{ordered}
use Rattle.listener_round.specs.Stores.{IsRenewed, KeepsStore, RisesBy, is_store_refusal}
use Rattle.board_book.specs.ClosedDown.{IsBrokenOff}
use Rattle.rounds.proofs.AddedLemmas.{events_in}
use Rattle.listener_round.proofs.StandingLemmas.{KeepsPast, counted-both, ordered-both, orders_behind}

-- ## What stopping the server adds

-- all that was ordered and done before is so, and nothing else, but for so many lines that were given
pub record StopsPast (o : Opening) (s : State) (given : ℕ) (old new : List Entry) : Type 0 where
  pub ordered : AreOrdered o 0 0 s old → AreOrdered o 0 0 s new
  pub given_is : count_events is_by_line new ≡ count_events is_by_line old + given
  pub ending : list_any (λ (e : Entry). is_graceful_stop e.event) new ≡ list_any (λ (e : Entry). is_graceful_stop e.event) old
  pub orders : count_events is_order new ≡ count_events is_order old
  pub refusals : count_events is_store_refusal new ≡ count_events is_store_refusal old

-- what keeps all of it, behind that
pub keeps-stopped : (o : Opening) (s : State) (given : ℕ) (a b c : List Entry) → StopsPast o s given a b → KeepsPast o s b c → StopsPast o s given a c
keeps-stopped o s given a b c first keeps = record {
  ordered = λ before. keeps.ordered (first.ordered before);
  given_is = keeps.given ∙ first.given_is;
  ending = keeps.ending ∙ first.ending;
  orders = keeps.orders ∙ first.orders;
  refusals = keeps.refusals ∙ first.refusals;
}

-- how many lines a stop for this was asked for by
abbrev pub lines_for : Option Why → ℕ
lines_for None = 0
lines_for (Some why.FrontEnded) = 0
lines_for (Some why.Asked) = 1
lines_for (Some why.FrontFailed) = 0
lines_for (Some why.NoMemory) = 0
lines_for (Some why.Overdue) = 0

-- how often one entry passes a test
counted-one : (test : Event → Bool) (e : Entry) → count_events test (e ∷ []) ≡ cond (test e.event) 1 0
counted-one test e = sum_by-cons (λ (x : Entry). cond (test x.event) 1 0) e [] ∙ omega arith

module _ (o : Opening) (s : State) (history : List Entry) (e : Entry) (reason : Why) (is : e.event ≡ event.Command (Stop reason)) where
  counted-stop : (test : Event → Bool) (b : Bool) → test (event.Command (Stop reason)) ≡ b
      → count_events test (history ++ e ∷ []) ≡ count_events test history + cond b 1 0
  counted-stop test b passes =
      counted-both test history (e ∷ [])
      ∙ ap (λ (n : ℕ). count_events test history + n) (counted-one test e ∙ ap (λ (x : Event). cond (test x) 1 0) is ∙ ap (λ (x : Bool). cond x 1 0) passes)

  stops-by : (given : ℕ) → cond (is_by_line (event.Command (Stop reason))) 1 0 ≡ given → StopsPast o s given history (history ++ e ∷ [])
  stops-by given many = record {
    ordered =
        λ before. ordered-both o 0 0 s history (e ∷ []) before
        (subst (IsOrdered o (orders_behind 0 history) (newest_edition 0 0 history) (after s history)) (sym is) tt, tt);
    given_is = counted-stop is_by_line (is_by_line (event.Command (Stop reason))) refl ∙ ap (λ (n : ℕ). count_events is_by_line history + n) many;
    ending =
        list_any-append (λ (x : Entry). is_graceful_stop x.event) history (e ∷ [])
        ∙ none-more (list_any (λ (x : Entry). is_graceful_stop x.event) history) e is;
    orders = let one = counted-stop is_order false refl in omega (arith, one);
    refusals = let one = counted-stop is_store_refusal false refl in omega (arith, one);
  } where
    none-more : (b : Bool) (x : Entry) → x.event ≡ event.Command (Stop reason)
        → (b || list_any (λ (y : Entry). is_graceful_stop y.event) (x ∷ [])) ≡ b
    none-more true x same = refl
    none-more false x same = rw same refl

stops-one : (o : Opening) (s : State) (history : List Entry) (e : Entry) (reason : Why) → e.event ≡ event.Command (Stop reason)
    → StopsPast o s (lines_for (Some reason)) history (history ++ e ∷ [])
stops-one o s history e why.FrontEnded is = stops-by o s history e why.FrontEnded is 0 refl
stops-one o s history e why.Asked is = stops-by o s history e why.Asked is 1 refl
stops-one o s history e why.FrontFailed is = stops-by o s history e why.FrontFailed is 0 refl
stops-one o s history e why.NoMemory is = stops-by o s history e why.NoMemory is 0 refl
stops-one o s history e why.Overdue is = stops-by o s history e why.Overdue is 0 refl

stops-none : (o : Opening) (s : State) (history : List Entry) → StopsPast o s 0 history (history ++ [])
stops-none o s history =
    subst (StopsPast o s 0 history) (sym (append-nil history))
    (record { ordered = λ before. before; given_is = omega arith; ending = refl; orders = refl; refusals = refl })

-- entries of these events
pub stops-for : (o : Opening) (s : State) (history more : List Entry) (for : Option Why) → events_in more ≡ halts_for for
    → StopsPast o s (lines_for for) history (history ++ more)
stops-for o s history [] None is = stops-none o s history
stops-for o s history (e ∷ more) None is = absurd (cc is)
stops-for o s history [] (Some reason) is = absurd (cc is)
stops-for o s history (e ∷ []) (Some reason) is =
    let same : e.event ≡ event.Command (Stop reason) = cc is in
    stops-one o s history e reason same
stops-for o s history (e ∷ f ∷ more) (Some reason) is = absurd (cc is)

-- why the server is stopped then
abbrev pub stopped_for : Result End BoardFault → Option Why
stopped_for (Ok e) = why_of e
stopped_for (Err fault) = Some why.NoMemory

pub halts-spelled : (turns : Result End BoardFault) → halt_events turns ≡ halts_for (stopped_for turns)
halts-spelled (Ok e) = refl
halts-spelled (Err fault) = refl

-- ## What was left

-- the store was renewed at no order besides, or the server was broken off
abbrev pub IsLeft : Going → ℕ → Type 0
IsLeft going spare = (spare ≡ 0) ⊎ (IsBrokenOff going × (spare ≤ 1))

-- a number between another one and the next is one of them
one-or-next : (a b : ℕ) → a ≤ b → b ≤ a + 1 → (b ≡ a) ⊎ (b ≡ a + 1)
one-or-next a b low high = elim (below-or-not a b) [
  | inl less ↦ inr (omega (arith, less, high))
  | inr not_less ↦ inl (omega (arith, not_less, low))
] where
  below-or-not : (n m : ℕ) → (n < m) ⊎ (m ≤ n)
  below-or-not n m = elim (cases_order n m) [
    | inl same ↦ inr (omega (arith, same))
    | inr (inl lower) ↦ inl lower
    | inr (inr higher) ↦ inr (omega (arith, higher))
  ]

renewed-as : (renewals many : ℕ) (old new : List Entry) (first last : StoreSeen) → renewals ≡ many → count_events is_store_refusal new ≡ count_events is_store_refusal old
    → IsRenewed renewals old first last → IsRenewed many new first last
renewed-as renewals many old new first last same refusals is =
    subst (λ (n : ℕ). IsRenewed n new first last) same
    (record { told = is.told; failed = subst (λ (n : ℕ). RisesBy n first.counts.faults last.counts.faults) (sym refusals) is.failed })

pub store-left : (going : Going) (spare : ℕ) (renewals : ℕ) (old new : List Entry) (first last : StoreSeen) → IsLeft going spare
    → count_events is_order new ≡ count_events is_order old → count_events is_store_refusal new ≡ count_events is_store_refusal old
    → count_events is_order old ≤ renewals → renewals ≤ count_events is_order old + spare → IsRenewed renewals old first last
    → KeepsStore going new first last
store-left going spare renewals old new first last (inl none) orders refusals each no_more is =
    inl (renewed-as renewals (count_events is_order new) old new first last (omega (arith, orders, each, no_more, none)) refusals is)
store-left going spare renewals old new first last (inr (broken, one)) orders refusals each no_more is =
    elim (one-or-next (count_events is_order new) renewals (omega (arith, orders, each)) (omega (arith, orders, no_more, one))) [
      | inl same ↦ inl (renewed-as renewals (count_events is_order new) old new first last same refusals is)
      | inr more ↦ inr (broken, renewed-as renewals (count_events is_order new + 1) old new first last more refusals is)
    ]
