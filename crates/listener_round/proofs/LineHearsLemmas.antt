-- What is heard of each line that the listener reads: how it was done, and what it was answered.
use Rattle.std.proofs.Common.{◌≡◌, ◌≢◌, ◌⊎◌, ◌+◌, inl, inr, ℕ, Bool, true, false, ◌&&◌, cond, List, [], ◌∷◌, ◌++◌, slice_get, Option, None, Some, option_map, refl, sym, ap, subst, ◌∙◌, arith}
use Rattle.std.proofs.lemmas.List.Sums.{sum_by-cons}
use Rattle.std.specs.List.{count_by}
use Rattle.mpm_base.specs.CommandWord.{command_word}
use Rattle.mpm_base.specs.Front.{Answers, Commands, FrontSeen}
use Rattle.mpm_base.specs.Sink.{SinkSeen}
use Rattle.mpm_base.specs.Store.{StoreSeen, StoreTold}
use Rattle.mpm_base.specs.Count.{NeverFalls}
use Rattle.mpm_base.specs.declared.script_line.CommandWord.{CommandWord}
use Rattle.mpm_base.specs.declared.script_line.CommandWord.TheVariants as word
use Rattle.conn_machine.specs.declared.event.Commanded.TheVariants.{Graceful, GracefulStop, Refused}
use Rattle.conn_machine.specs.declared.event.Event.{Event}
use Rattle.conn_machine.specs.declared.event.Event.TheVariants as event
use Rattle.conn_machine.specs.declared.state.State.{State}
use Rattle.conn_machine.specs.Events.{is_order}
use Rattle.conn_machine.specs.Runs.{after}
use Rattle.conn_machine.specs.Shown.{totals_of}
use Rattle.conn_machine.specs.States.{is_serving}
use Rattle.conn_state.specs.Known.{KnownOutside}
use Rattle.board_book.specs.Book.{SeenBook, row_in}
use Rattle.command_answers.specs.Answers.{ending_answer, generation_answer, open_line, status_answer, unknown_answer}
use Rattle.run_report.specs.EndingsInside.{WritesAll}
use Rattle.worker_group.specs.Acts.{Acts, ActsInSteps}
use Rattle.listener_round.specs.Generations.{Opening}
use Rattle.listener_round.specs.Heard.{asks_for_state, asks_to_restart}
use Rattle.listener_round.specs.HeardInside.{HearsUntil, Hears, WritesOn, hearing, never_answered, stop_unanswered}
use Rattle.listener_round.specs.LineAnswers.{IsAnswerTo}
use Rattle.listener_round.specs.LineAnswers.IsAnswerTo.{restarted, refused, ends, ends_already, told, unknown}
use Rattle.listener_round.specs.OrdersInside.{ActsEnding, AnswersBegin, AnswersRefused, AnswersRestart, MayHush}
use Rattle.listener_round.specs.StandingInside.{Standing, standing}
use Rattle.listener_round.specs.declared.edition.NamedConfig.{NamedConfig}
use Rattle.listener_round.proofs.HeardLineLemmas.{IsHeardOn, heard-answer, heard-command, heard-may, keeps-command, keeps-same}
use Rattle.listener_round.proofs.HearsLemmas.{AnswersLine, hears-kept, hears-last, hears-line, hears-same}
use Rattle.listener_round.proofs.HeedLemmas.{HasHeeded}
use Rattle.listener_round.proofs.LineLemmas.{other-word}
use Rattle.listener_round.proofs.OpenLemmas.{state_text}
use Rattle.listener_round.proofs.PartLemmas.{orderless-none}
use Rattle.listener_round.proofs.WrittenLemmas.{writes-none, writes-text}

-- ## By its event

count-one : (test : Event → Bool) (e : Event) → count_by test (e ∷ []) ≡ cond (test e) 1 0
count-one test e = sum_by-cons (λ (x : Event). cond (test x) 1 0) e [] ∙ omega arith

-- a restart that was done
answers-begun : (c : NamedConfig) (store : StoreSeen) (b d : SeenBook) (line text : List ℕ) → line ≡ command_word word.Graceful
    → (begin : AnswersBegin b d text) → AnswersLine c store b.state (event.Command (Graceful begin.shape) ∷ []) line text
answers-begun c store b d line text is begin = record {
  orders =
      count-one is_order (event.Command (Graceful begin.shape)) ∙ sym (ap (λ (l : List ℕ). cond (asks_to_restart l) 1 0) is);
  answer =
      λ o orders opened stored.
      subst (λ (l : List ℕ). IsAnswerTo o orders b.state (Some (event.Command (Graceful begin.shape))) l text) (sym is)
      (subst (λ (t : List ℕ). IsAnswerTo o orders b.state (Some (event.Command (Graceful begin.shape))) (command_word word.Graceful) t) (sym begin.says)
      (restarted refl));
}

-- one that was refused
answers-refused : (c : NamedConfig) (store : StoreSeen) (b d : SeenBook) (line text : List ℕ) → line ≡ command_word word.Graceful
    → (refusal : AnswersRefused c store b d text) → AnswersLine c store b.state (event.Command (Refused refusal.reason) ∷ []) line text
answers-refused c store b d line text is refusal = record {
  orders =
      count-one is_order (event.Command (Refused refusal.reason)) ∙ sym (ap (λ (l : List ℕ). cond (asks_to_restart l) 1 0) is);
  answer =
      λ o orders opened stored.
      subst (λ (l : List ℕ). IsAnswerTo o orders b.state (Some (event.Command (Refused refusal.reason))) l text) (sym is)
      (refused refl (refusal.says o orders opened stored));
}

-- a graceful stop that begins
answers-ending : (c : NamedConfig) (store : StoreSeen) (s : State) (until : Option ℕ) (line : List ℕ) → line ≡ command_word word.GracefulStop
    → is_serving s.going ≡ true → AnswersLine c store s (event.Command (GracefulStop until) ∷ []) line (ending_answer true)
answers-ending c store s until line is serves = record {
  orders = count-one is_order (event.Command (GracefulStop until)) ∙ sym (ap (λ (l : List ℕ). cond (asks_to_restart l) 1 0) is);
  answer =
      λ o orders opened stored.
      subst (λ (l : List ℕ). IsAnswerTo o orders s (Some (event.Command (GracefulStop until))) l (ending_answer true)) (sym is) (ends serves refl);
}

-- or had begun
answers-ended : (c : NamedConfig) (store : StoreSeen) (s : State) (line : List ℕ) → line ≡ command_word word.GracefulStop → is_serving s.going ≡ false
    → AnswersLine c store s [] line (ending_answer false)
answers-ended c store s line is off = record {
  orders = sym (ap (λ (l : List ℕ). cond (asks_to_restart l) 1 0) is);
  answer = λ o orders opened stored. subst (λ (l : List ℕ). IsAnswerTo o orders s None l (ending_answer false)) (sym is) (ends_already off);
}

-- one for the state
answers-told : (c : NamedConfig) (store : StoreSeen) (s : State) (line : List ℕ) → line ≡ command_word word.Status
    → AnswersLine c store s [] line (status_answer (totals_of s))
answers-told c store s line is = record {
  orders = sym (ap (λ (l : List ℕ). cond (asks_to_restart l) 1 0) is);
  answer = λ o orders opened stored. subst (λ (l : List ℕ). IsAnswerTo o orders s None l (status_answer (totals_of s))) (sym is) told;
}

-- one that is no command
answers-unknown : (c : NamedConfig) (store : StoreSeen) (s : State) (line : List ℕ) → ((w : CommandWord) → line ≢ command_word w)
    → AnswersLine c store s [] line unknown_answer
answers-unknown c store s line other = record {
  orders = sym (ap (λ (b : Bool). cond b 1 0) (other-word line (command_word word.Graceful) (other word.Graceful)));
  answer = λ o orders opened stored. unknown other;
}

-- ## At the start

-- nothing was heard yet
pub hears-start : ActsInSteps → (known : Option KnownOutside) (c : NamedConfig) (ms : ℕ) (s : StoreSeen) (f f' : FrontSeen) (a : SeenBook) (out : SinkSeen)
    (written : Bool) → row_in 0 a ≡ None → f' ≡ f → Hears known c [] None (hearing (standing ms s f a) out written) (hearing (standing ms s f' a) out written)
hears-start steps known c ms s f f' a out written row same =
    subst (λ (x : FrontSeen). Hears known c [] None (hearing (standing ms s f a) out written) (hearing (standing ms s x a) out written)) (sym same)
    (hears-same known c [] (standing ms s f a) (standing ms s f a) out written (orderless-none steps a row) (keeps-same f))

-- ## A line

module _ (known : Option KnownOutside) (c : NamedConfig) (ms ms' : ℕ) (s s' : StoreSeen) (f mid : FrontSeen) (a b : SeenBook) (out now : SinkSeen) (written was : Bool) (heeded : HasHeeded known c ms ms' s s' f mid a b) (hears : Hears known c [] None (hearing (standing ms s f a) out written) (hearing (standing ms' s' mid b) now was)) where
  -- the output has nothing of a line that doesn't ask for the state
  silent : (line : List ℕ) → asks_for_state line ≡ false → WritesOn (state_text b.state line) now was now was
  silent line quiet =
      subst (λ (xs : List ℕ). WritesOn xs now was now was) (sym (ap (λ (x : Bool). cond x (open_line (totals_of b.state)) []) quiet)) (writes-none now was)

  -- one that asked for a restart
  pub hears-restart : (then : Standing) (given : FrontSeen) (line text : List ℕ) → after b.base b.history ≡ b.state → line ≡ command_word word.Graceful
      → Commands mid given (Some line) → Answers given then.front text → AnswersRestart c s' b then.book text
      → Hears known c [] None (hearing (standing ms s f a) out written) (hearing then now was)
  hears-restart then given line text state is gave answered (inl begin) =
      hears-line known c ms ms' s s' f mid a b out now written was heeded hears then now was line text (event.Command (Graceful begin.shape) ∷ []) state begin.acts
      (answers-begun c s' b then.book line text is begin) (heard-answer mid given then.front line text (heard-command mid given line gave) answered)
      (silent line (ap asks_for_state is))
  hears-restart then given line text state is gave answered (inr refusal) =
      hears-line known c ms ms' s s' f mid a b out now written was heeded hears then now was line text (event.Command (Refused refusal.reason) ∷ []) state
      refusal.refuses.acts (answers-refused c s' b then.book line text is refusal)
      (heard-answer mid given then.front line text (heard-command mid given line gave) answered) (silent line (ap asks_for_state is))

  -- one that asked for a graceful stop
  pub hears-ending : (serves : Bool) (then : Standing) (given hushed : FrontSeen) (line text : List ℕ) → after b.base b.history ≡ b.state
      → line ≡ command_word word.GracefulStop → Commands mid given (Some line) → MayHush given hushed → Answers hushed then.front text
      → is_serving b.state.going ≡ serves → text ≡ ending_answer serves → ActsEnding serves b then.book
      → Hears known c [] None (hearing (standing ms s f a) out written) (hearing then now was)
  hears-ending true then given hushed line text state is gave may answered serves says acts =
      hears-line known c ms ms' s s' f mid a b out now written was heeded hears then now was line text (event.Command (GracefulStop acts.0) ∷ []) state acts.1
      (subst (λ (t : List ℕ). AnswersLine c s' b.state (event.Command (GracefulStop acts.0) ∷ []) line t) (sym says)
      (answers-ending c s' b.state acts.0 line is serves))
      (heard-answer mid hushed then.front line text (heard-may mid given hushed line None (heard-command mid given line gave) may) answered)
      (silent line (ap asks_for_state is))
  hears-ending false then given hushed line text state is gave may answered serves says acts =
      hears-line known c ms ms' s s' f mid a b out now written was heeded hears then now was line text [] state acts
      (subst (λ (t : List ℕ). AnswersLine c s' b.state [] line t) (sym says) (answers-ended c s' b.state line is serves))
      (heard-answer mid hushed then.front line text (heard-may mid given hushed line None (heard-command mid given line gave) may) answered)
      (silent line (ap asks_for_state is))

  -- one that asked for the state
  pub hears-state : ActsInSteps → (given new : FrontSeen) (out' : SinkSeen) (whole : Bool) (line : List ℕ) → row_in 0 b ≡ None → after b.base b.history ≡ b.state
      → line ≡ command_word word.Status → Commands mid given (Some line) → Answers given new (status_answer (totals_of b.state))
      → NeverFalls now.faults out'.faults → WritesAll now out' (open_line (totals_of b.state)) whole
      → Hears known c [] None (hearing (standing ms s f a) out written) (hearing (standing ms' s' new b) out' (was && whole))
  hears-state steps given new out' whole line row state is gave answered faults all =
      hears-line known c ms ms' s s' f mid a b out now written was heeded hears (standing ms' s' new b) out' (was && whole) line (status_answer (totals_of b.state))
      [] state (steps.none 0 None b row) (answers-told c s' b.state line is)
      (heard-answer mid given new line (status_answer (totals_of b.state)) (heard-command mid given line gave) answered)
      (subst (λ (xs : List ℕ). WritesOn xs now was out' (was && whole)) (sym (ap (state_text b.state) is))
      (writes-text now out' (open_line (totals_of b.state)) was whole faults all))

  -- one that is no command
  pub hears-unknown : ActsInSteps → (given new : FrontSeen) (line text : List ℕ) → row_in 0 b ≡ None → after b.base b.history ≡ b.state
      → ((w : CommandWord) → line ≢ command_word w) → Commands mid given (Some line) → Answers given new text → text ≡ unknown_answer
      → Hears known c [] None (hearing (standing ms s f a) out written) (hearing (standing ms' s' new b) now was)
  hears-unknown steps given new line text row state other gave answered says =
      hears-line known c ms ms' s s' f mid a b out now written was heeded hears (standing ms' s' new b) now was line text [] state (steps.none 0 None b row)
      (subst (λ (t : List ℕ). AnswersLine c s' b.state [] line t) (sym says) (answers-unknown c s' b.state line other))
      (heard-answer mid given new line text (heard-command mid given line gave) answered)
      (silent line (other-word line (command_word word.Status) (other word.Status)))

  -- none was there
  pub hears-none : ActsInSteps → (new : FrontSeen) → row_in 0 b ≡ None → Commands mid new None
      → Hears known c [] None (hearing (standing ms s f a) out written) (hearing (standing ms' s' new b) now was)
  hears-none steps new row gave =
      hears-kept known c [] (hearing (standing ms s f a) out written) (standing ms' s' mid b) (standing ms' s' new b) now was (orderless-none steps b row)
      (keeps-command mid new gave) hears

  -- one that asks to stop
  pub hears-stop : (new : FrontSeen) (line : List ℕ) → line ≡ command_word word.Stop → Commands mid new (Some line)
      → Hears known c [] (Some stop_unanswered) (hearing (standing ms s f a) out written) (hearing (standing ms' s' new b) now was)
  hears-stop new line is gave =
      hears-last known c ms ms' s s' f mid a b out now written was heeded hears (standing ms' s' new b) stop_unanswered refl
      (subst (λ (l : List ℕ). Commands mid new (Some l)) is gave)

  -- one for which memory lacked
  pub hears-lacking : (then : Standing) (w : Bool) (line : List ℕ) → asks_for_state line ≡ false → then.book ≡ b → w ≡ was → Commands mid then.front (Some line)
      → HearsUntil known c [] (hearing (standing ms s f a) out written) (hearing then now w)
  hears-lacking then w line quiet same kept gave = (
    Some line,
    quiet,
    subst (λ (x : Bool). Hears known c [] (Some (never_answered line)) (hearing (standing ms s f a) out written) (hearing then now x)) (sym kept)
        (hears-last known c ms ms' s s' f mid a b out now written was heeded hears then (never_answered line) same gave),
  )
