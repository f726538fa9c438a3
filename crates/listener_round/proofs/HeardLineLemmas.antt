-- What a line that was read changes of a front, and its answer; and that the lines are heard with it.
use Rattle.std.proofs.Common.{◌≡◌, ◌<◌, ◌≤◌, ◌+◌, ◌-◌, inl, inr, ℕ, suc, Bool, true, false, cond, List, [], ◌∷◌, ◌++◌, drop, length, map, slice_get, take, Option, None, Some, option_map, IfSome, is_some, refl, sym, ap, subst, ◌∙◌, append-nil, append_assoc, length-append, arith}
use Rattle.std.proofs.Math.Seq.{drop-append_seam, take-append_seam}
use Rattle.std.proofs.lemmas.List.{append_cancel_left, map-append}
use Rattle.std.proofs.lemmas.List.Sums.{sum_by-append, sum_by-cons}
use Rattle.std.specs.List.{count_by}
use Rattle.std.specs.Option.{option_map_or}
use Rattle.mpm_base.specs.Count.{CountsWhere, RisesJustBy, greatest_count, next_count}
use Rattle.mpm_base.specs.Front.{Accepts, Answers, Commands, FrontCounts, FrontSeen, FrontTold, GivesLine, TellsOn, after_answer, after_command, after_hush, hushed_front}
use Rattle.mpm_base.specs.GivenAnswers.{CountsAnswer, says_refused}
use Rattle.mpm_base.specs.GivenWords.{CountsWords}
use Rattle.mpm_base.specs.Link.{LinkSeen}
use Rattle.mpm_base.specs.declared.front.Arrival.{Arrival}
use Rattle.mpm_base.specs.declared.given_answers.GivenAnswers.{GivenAnswers}
use Rattle.mpm_base.specs.declared.given_words.GivenWords.{GivenWords}
use Rattle.conn_machine.specs.declared.event.Entry.{Entry}
use Rattle.conn_machine.specs.declared.state.State.{State}
use Rattle.conn_machine.specs.Events.{count_events, is_order}
use Rattle.conn_machine.specs.Runs.{after}
use Rattle.worker_group.specs.Acts.{events_of}
use Rattle.listener_round.specs.Commands.{lines_read}
use Rattle.listener_round.specs.Generations.{Opening}
use Rattle.listener_round.specs.Heard.{AreAnswered, AreCounted, AreToldBy, Heard, answer_told, answers_behind, asks_for_state, asks_to_restart, orders_behind, was_answered, was_refused}
use Rattle.listener_round.specs.HeardInside.{AreAllRead, HasHeard, KeepsHeard, StaysHeard, orders_after}
use Rattle.listener_round.specs.LineAnswers.{IsAnswerTo, next_event, state_behind}
use Rattle.listener_round.specs.FrontInside.{OnlyTakes}
use Rattle.listener_round.specs.OrdersInside.{AnswersIf, MayHush}
use Rattle.listener_round.specs.Pace.{lines_between}
use Rattle.listener_round.proofs.CommandLemmas.{take-next}
use Rattle.listener_round.proofs.HeardLemmas.{all-snoc, answered-later, answered-snoc, made-within, orders-snoc}
use Rattle.listener_round.proofs.ShareLemmas.{first-both}
use Rattle.listener_round.proofs.StandingLemmas.{counted-both}

-- ## A front

-- the line was read, and its sender answered so, where it was
pub record IsToldOn (line : List ℕ) (answer : Option (List ℕ)) (t t' : FrontTold) : Type 0 where
  pub gives : slice_get t.lines t.read ≡ Some line
  pub read : t'.read ≡ next_count t.read
  pub lines : t'.lines ≡ t.lines
  pub answers : t'.answers ≡ t.answers ++ answer_told t'.read answer

-- the answer was counted, where there was one
abbrev pub CountsIf : Option (List ℕ) → GivenAnswers → GivenAnswers → Type 0
CountsIf None old new = new ≡ old
CountsIf (Some text) old new = CountsAnswer text old new

-- the same of a front that may tell
pub record IsHeardOn (line : List ℕ) (answer : Option (List ℕ)) (f f' : FrontSeen) : Type 0 where
  pub told : TellsOn (IsToldOn line answer) f.told f'.told
  pub words : CountsWords (Some line) f.counts.words f'.counts.words
  pub answers : CountsIf answer f.counts.answers f'.counts.answers

-- what holds of what a front tells holds behind a change that keeps it
tells-then : (P Q : FrontTold → FrontTold → Type 0) (change : FrontTold → FrontTold) → ((t u : FrontTold) → P t u → Q t (change u))
    → (told mid new : Option FrontTold) → new ≡ option_map change mid → TellsOn P told mid → TellsOn Q told new
tells-then P Q change keeps None mid new is so = is ∙ ap (option_map change) so
tells-then P Q change keeps (Some t) mid new is so = (change so.0, is ∙ ap (option_map change) so.1, keeps t so.0 so.2)

told-command : (line : List ℕ) (told told' : Option FrontTold) → told' ≡ option_map (after_command true) told → IfSome told (GivesLine (Some line))
    → TellsOn (IsToldOn line None) told told'
told-command line None told' is gives = is
told-command line (Some t) told' is gives =
    (after_command true t, is, record { gives = gives; read = refl; lines = refl; answers = sym (append-nil t.answers) })

pub heard-command : (f f' : FrontSeen) (line : List ℕ) → Commands f f' (Some line) → IsHeardOn line None f f'
heard-command f f' line gave =
    record { told = told-command line f.told f'.told gave.told_is gave.gives; words = gave.words; answers = gave.answers_stay }

-- listening was stopped behind it, or not
pub heard-may : (f f' f'' : FrontSeen) (line : List ℕ) (answer : Option (List ℕ)) → IsHeardOn line answer f f' → MayHush f' f'' → IsHeardOn line answer f f''
heard-may f f' f'' line answer on (inl same) = subst (IsHeardOn line answer f) (sym same) on
heard-may f f' f'' line answer on (inr hushed) = record {
  told =
      tells-then (IsToldOn line answer) (IsToldOn line answer) hushed_front
      (λ t u so. record { gives = so.gives; read = so.read; lines = so.lines; answers = so.answers }) f.told f'.told f''.told
      (ap (λ (x : FrontSeen). x.told) hushed) on.told;
  words = subst (λ (x : FrontSeen). CountsWords (Some line) f.counts.words x.counts.words) (sym hushed) on.words;
  answers = subst (λ (x : FrontSeen). CountsIf answer f.counts.answers x.counts.answers) (sym hushed) on.answers;
}

-- and its sender was answered
answered-told : (line text : List ℕ) (t u : FrontTold) → IsToldOn line None t u → IsToldOn line (Some text) t (after_answer text u)
answered-told line text t u so = record {
  gives = so.gives;
  read = so.read;
  lines = so.lines;
  answers = ap (λ (xs : List _). xs ++ answer_told u.read (Some text)) (so.answers ∙ append-nil t.answers);
}

pub heard-answer : (f f' f'' : FrontSeen) (line text : List ℕ) → IsHeardOn line None f f' → Answers f' f'' text → IsHeardOn line (Some text) f f''
heard-answer f f' f'' line text on given = record {
  told =
      tells-then (IsToldOn line None) (IsToldOn line (Some text)) (after_answer text) (answered-told line text) f.told f'.told f''.told
      (ap (λ (x : FrontSeen). x.told) given.rest) on.told;
  words =
      subst (λ (w : _). CountsWords (Some line) f.counts.words w) (sym (ap (λ (x : FrontSeen). x.counts.words) given.rest)) on.words;
  answers = subst (λ (a : GivenAnswers). CountsAnswer text a f''.counts.answers) on.answers given.counted;
}

-- ## What it tells of the lines

-- the answers with that of one line more
answers-snoc : (number : ℕ) (heard : List Heard) (h : Heard)
    → answers_behind number (heard ++ h ∷ []) ≡ answers_behind number heard ++ answer_told (number + length heard + 1) h.answer
answers-snoc number [] h =
    let same : number + 1 ≡ number + 0 + 1 = omega arith in
    append-nil (answer_told (number + 1) h.answer) ∙ ap (λ (n : ℕ). answer_told n h.answer) same
answers-snoc number (g ∷ heard) h =
    let same : number + 1 + length heard + 1 ≡ number + suc (length heard) + 1 = omega arith in
    ap (λ (xs : List _). answer_told (number + 1) g.answer ++ xs) (answers-snoc (number + 1) heard h)
    ∙ sym (append_assoc (answer_told (number + 1) g.answer) (answers_behind (number + 1) heard) (answer_told (number + 1 + length heard + 1) h.answer))
    ∙ ap (λ (n : ℕ). answers_behind number (g ∷ heard) ++ answer_told n h.answer) same

told-line : (heard : List Heard) (h : Heard) (t u : FrontTold) → IsToldOn h.line h.answer t u → AreToldBy heard t → AreAllRead heard t
    → AreToldBy (heard ++ h ∷ []) u
told-line heard h t u on told read = record {
  lines =
      λ few.
      let fewer : t.read < greatest_count = omega (arith, few, on.read) in
      let one : u.read ≡ suc t.read = omega (arith, few, on.read) in
      map-append (λ (x : Heard). x.line) heard (h ∷ [])
      ∙ ap (λ (xs : List (List ℕ)). xs ++ h.line ∷ []) (told.lines fewer)
      ∙ sym (ap (λ (n : ℕ). take n t.lines) one ∙ take-next t.lines t.read h.line on.gives)
      ∙ ap (take u.read) (sym on.lines);
  answers =
      λ few.
      let fewer : t.read < greatest_count = omega (arith, few, on.read) in
      let number : u.read ≡ 0 + length heard + 1 = omega (arith, few, on.read, read fewer) in
      on.answers
      ∙ ap (λ (xs : List _). xs ++ answer_told u.read h.answer) (told.answers fewer)
      ∙ ap (λ (n : ℕ). answers_behind 0 heard ++ answer_told n h.answer) number
      ∙ sym (answers-snoc 0 heard h);
}

read-line : (heard : List Heard) (h : Heard) (t u : FrontTold) → IsToldOn h.line h.answer t u → AreAllRead heard t → AreAllRead (heard ++ h ∷ []) u
read-line heard h t u on read few =
    omega (arith, length-append heard (h ∷ []), on.read, few, read (omega (arith, few, on.read)))

pub told-on : (heard : List Heard) (h : Heard) (told told' : Option FrontTold) → TellsOn (IsToldOn h.line h.answer) told told' → IfSome told (AreToldBy heard)
    → IfSome told (AreAllRead heard) → IfSome told' (AreToldBy (heard ++ h ∷ []))
told-on heard h None told' on told read = subst (λ (x : Option FrontTold). IfSome x (AreToldBy (heard ++ h ∷ []))) (sym on) tt
told-on heard h (Some t) told' on told read =
    subst (λ (x : Option FrontTold). IfSome x (AreToldBy (heard ++ h ∷ []))) (sym on.1) (told-line heard h t on.0 on.2 told read)

pub read-on : (heard : List Heard) (h : Heard) (told told' : Option FrontTold) → TellsOn (IsToldOn h.line h.answer) told told' → IfSome told (AreAllRead heard)
    → IfSome told' (AreAllRead (heard ++ h ∷ []))
read-on heard h None told' on read = subst (λ (x : Option FrontTold). IfSome x (AreAllRead (heard ++ h ∷ []))) (sym on) tt
read-on heard h (Some t) told' on read =
    subst (λ (x : Option FrontTold). IfSome x (AreAllRead (heard ++ h ∷ []))) (sym on.1) (read-line heard h t on.0 on.2 read)

-- the lines that were read of a front between two
pub mine-lines : (t m : FrontTold) (heard mine : List Heard) → t.read ≤ m.read → m.lines ≡ t.lines → map (λ (x : Heard). x.line) heard ≡ lines_read t
    → map (λ (x : Heard). x.line) (heard ++ mine) ≡ lines_read m → map (λ (x : Heard). x.line) mine ≡ lines_between m.lines t.read m.read
mine-lines t m heard mine order lines first both =
    append_cancel_left (take t.read m.lines) (map (λ (x : Heard). x.line) mine) (lines_between m.lines t.read m.read)
    (ap (λ (xs : List (List ℕ)). xs ++ map (λ (x : Heard). x.line) mine) (ap (take t.read) lines ∙ sym first)
    ∙ sym (map-append (λ (x : Heard). x.line) heard mine)
    ∙ both
    ∙ first-both m.lines t.read m.read order)

-- ## What it counted

rises-where : (many : ℕ) (test : Bool) (a b c : ℕ) → RisesJustBy many a b → CountsWhere test b c → RisesJustBy (many + cond test 1 0) a c
rises-where many true a b c first one = (
  omega (arith, first.0, one.0),
  λ few.
      let fewer : b < greatest_count = omega (arith, few, one.0) in
      let there = one.1 fewer in
      let here = first.1 fewer in
      omega (arith, there, here),
)
rises-where many false a b c first same = (
  omega (arith, first.0, same),
  λ few.
      let fewer : b < greatest_count = omega (arith, few, same) in
      let here = first.1 fewer in
      omega (arith, same, here),
)

count-snoc : (test : Heard → Bool) (heard : List Heard) (h : Heard) → count_by test (heard ++ h ∷ []) ≡ count_by test heard + cond (test h) 1 0
count-snoc test heard h =
    let one : count_by test (h ∷ []) ≡ cond (test h) 1 0 = sum_by-cons (λ (x : Heard). cond (test x) 1 0) h [] ∙ omega arith in
    sum_by-append (λ (x : Heard). cond (test x) 1 0) heard (h ∷ []) ∙ ap (λ (n : ℕ). count_by test heard + n) one

rises-snoc : (test : Heard → Bool) (heard : List Heard) (h : Heard) (a b c : ℕ) → RisesJustBy (count_by test heard) a b → CountsWhere (test h) b c
    → RisesJustBy (count_by test (heard ++ h ∷ [])) a c
rises-snoc test heard h a b c first one =
    subst (λ (n : ℕ). RisesJustBy n a c) (sym (count-snoc test heard h)) (rises-where (count_by test heard) (test h) a b c first one)

answers-all : (answer : Option (List ℕ)) (old new : GivenAnswers) → CountsIf answer old new → CountsWhere (is_some answer) old.all new.all
answers-all None old new same = ap (λ (a : GivenAnswers). a.all) same
answers-all (Some text) old new counted = counted.all

answers-refused : (answer : Option (List ℕ)) (old new : GivenAnswers) → CountsIf answer old new
    → CountsWhere (option_map_or says_refused answer false) old.refused new.refused
answers-refused None old new same = ap (λ (a : GivenAnswers). a.refused) same
answers-refused (Some text) old new counted = counted.refused

pub counted-line : (heard : List Heard) (h : Heard) (old mid new : FrontCounts) → CountsWords (Some h.line) mid.words new.words
    → CountsIf h.answer mid.answers new.answers → AreCounted heard old mid → AreCounted (heard ++ h ∷ []) old new
counted-line heard h old mid new words answers counted = record {
  lines =
      subst (λ (n : ℕ). RisesJustBy n old.words.all new.words.all) (sym (length-append heard (h ∷ [])))
      (rises-where (length heard) true old.words.all mid.words.all new.words.all counted.lines words.all);
  restarts =
      rises-snoc (λ (x : Heard). asks_to_restart x.line) heard h old.words.graceful mid.words.graceful new.words.graceful counted.restarts words.graceful;
  states =
      rises-snoc (λ (x : Heard). asks_for_state x.line) heard h old.words.status mid.words.status new.words.status counted.states words.status;
  answers = rises-snoc was_answered heard h old.answers.all mid.answers.all new.answers.all counted.answers (answers-all h.answer mid.answers new.answers answers);
  refusals =
      rises-snoc was_refused heard h old.answers.refused mid.answers.refused new.answers.refused counted.refusals
      (answers-refused h.answer mid.answers new.answers answers);
}

-- ## What was heard, with one line more

orders-one : (asks : Bool) (orders : ℕ) → cond asks (orders + 1) orders ≡ orders + cond asks 1 0
orders-one true orders = refl
orders-one false orders = omega arith

-- each was answered, with one more that was read behind all of the history, and was answered by what came then
pub answered-line : (o : Opening) (first : State) (history more : List Entry) (heard : List Heard) (line : List ℕ) (answer : Option (List ℕ))
    → AreAnswered o first history 0 0 heard → orders_after 0 heard ≡ count_events is_order history
    → IfSome answer (IsAnswerTo o (count_events is_order history) (after first history) (slice_get (events_of 0 more) 0) line)
    → AreAnswered o first (history ++ more) 0 0 (heard ++ record { line = line; made = length history; answer = answer } ∷ [])
answered-line o first history more heard line answer answered orders is =
    let front = take-append_seam history more in
    let back = drop-append_seam history more in
    answered-snoc o first (history ++ more) 0 0 heard (record { line = line; made = length history; answer = answer })
    (answered-later o first history more 0 0 heard answered) (
      made-within o first history 0 0 heard answered (omega arith),
      omega (arith, length-append history more),
      ap (count_events is_order) front ∙ sym orders,
      subst (λ (es : List Entry). IfSome answer (IsAnswerTo o (orders_after 0 heard) (after first es) (next_event (history ++ more) (length history)) line)) (sym front)
          (subst (λ (es : List Entry). IfSome answer (IsAnswerTo o (orders_after 0 heard) (after first history) (slice_get (events_of 0 es) 0) line)) (sym back)
          (subst (λ (n : ℕ). IfSome answer (IsAnswerTo o n (after first history) (slice_get (events_of 0 more) 0) line)) (sym orders) is)),
      tt,
    )

pub has-line : (o : Opening) (first : State) (history more : List Entry) (old mid new : FrontSeen) (heard : List Heard) (line text : List ℕ)
    → HasHeard o first history old mid heard → IsHeardOn line (Some text) mid new → count_events is_order more ≡ cond (asks_to_restart line) 1 0
    → IsAnswerTo o (count_events is_order history) (after first history) (slice_get (events_of 0 more) 0) line text
    → HasHeard o first (history ++ more) old new (heard ++ record { line = line; made = length history; answer = Some text } ∷ [])
has-line o first history more old mid new heard line text has on many is =
    let h : Heard = record { line = line; made = length history; answer = Some text } in
    record {
      answered = answered-line o first history more heard line (Some text) has.answered has.orders is;
      orders =
          orders-snoc 0 heard h
          ∙ orders-one (asks_to_restart line) (orders_after 0 heard)
          ∙ ap (λ (n : ℕ). n + cond (asks_to_restart line) 1 0) has.orders
          ∙ ap (λ (n : ℕ). count_events is_order history + n) (sym many)
          ∙ sym (counted-both is_order history more);
      each = all-snoc heard h has.each refl;
      told = told-on heard h mid.told new.told on.told has.told has.read;
      read = read-on heard h mid.told new.told on.told has.read;
      counted = counted-line heard h old.counts mid.counts new.counts on.words on.answers has.counted;
    }

-- ## What keeps it

-- entries none of which is an order
pub has-later : (o : Opening) (first : State) (history more : List Entry) (old new : FrontSeen) (heard : List Heard)
    → count_events is_order (history ++ more) ≡ count_events is_order history → HasHeard o first history old new heard
    → HasHeard o first (history ++ more) old new heard
has-later o first history more old new heard same has = record {
  answered = answered-later o first history more 0 0 heard has.answered;
  orders = has.orders ∙ sym same;
  each = has.each;
  told = has.told;
  read = has.read;
  counted = has.counted;
}

told-kept : (heard : List Heard) (told told' : Option FrontTold) → TellsOn StaysHeard told told' → IfSome told (AreToldBy heard) → IfSome told' (AreToldBy heard)
told-kept heard None told' stays told = subst (λ (x : Option FrontTold). IfSome x (AreToldBy heard)) (sym stays) tt
told-kept heard (Some t) told' stays told =
    subst (λ (x : Option FrontTold). IfSome x (AreToldBy heard)) (sym stays.1)
    (record {
      lines = λ few. told.lines (omega (arith, few, stays.2.read)) ∙ sym stays.2.lines;
      answers = λ few. stays.2.answers ∙ told.answers (omega (arith, few, stays.2.read));
    })

read-kept : (heard : List Heard) (told told' : Option FrontTold) → TellsOn StaysHeard told told' → IfSome told (AreAllRead heard) → IfSome told' (AreAllRead heard)
read-kept heard None told' stays read = subst (λ (x : Option FrontTold). IfSome x (AreAllRead heard)) (sym stays) tt
read-kept heard (Some t) told' stays read =
    subst (λ (x : Option FrontTold). IfSome x (AreAllRead heard)) (sym stays.1)
    (λ few. read (omega (arith, few, stays.2.read)) ∙ sym stays.2.read)

counted-kept : (heard : List Heard) (old : FrontCounts) (mid new : FrontSeen) → KeepsHeard mid new → AreCounted heard old mid.counts
    → AreCounted heard old new.counts
counted-kept heard old mid new keeps counted = record {
  lines = subst (RisesJustBy (length heard) old.words.all) (sym keeps.lines) counted.lines;
  restarts = subst (RisesJustBy (count_by (λ x. asks_to_restart x.line) heard) old.words.graceful) (sym keeps.restarts) counted.restarts;
  states = subst (RisesJustBy (count_by (λ x. asks_for_state x.line) heard) old.words.status) (sym keeps.states) counted.states;
  answers = subst (λ (a : GivenAnswers). RisesJustBy (count_by was_answered heard) old.answers.all a.all) (sym keeps.answers) counted.answers;
  refusals = subst (λ (a : GivenAnswers). RisesJustBy (count_by was_refused heard) old.answers.refused a.refused) (sym keeps.answers) counted.refusals;
}

pub has-kept : (o : Opening) (first : State) (history : List Entry) (old mid new : FrontSeen) (heard : List Heard) → KeepsHeard mid new
    → HasHeard o first history old mid heard → HasHeard o first history old new heard
has-kept o first history old mid new heard keeps has = record {
  answered = has.answered;
  orders = has.orders;
  each = has.each;
  told = told-kept heard mid.told new.told keeps.told has.told;
  read = read-kept heard mid.told new.told keeps.told has.read;
  counted = counted-kept heard old.counts mid new keeps has.counted;
}

-- ## What keeps a front so

-- connections were taken, and nothing else
takes-stay : (told told' : Option FrontTold) → TellsOn OnlyTakes told told' → TellsOn StaysHeard told told'
takes-stay None told' takes = takes
takes-stay (Some t) told' takes = (
  takes.0,
  takes.1,
  record {
    read = ap (λ (x : FrontTold). x.read) takes.2.rest;
    lines = ap (λ (x : FrontTold). lines_read x) takes.2.rest;
    answers = ap (λ (x : FrontTold). x.answers) takes.2.rest;
  },
)

pub keeps-takes : (f f' : FrontSeen) → TellsOn OnlyTakes f.told f'.told → f'.counts ≡ f.counts → KeepsHeard f f'
keeps-takes f f' takes counts = record {
  told = takes-stay f.told f'.told takes;
  lines = ap (λ (x : FrontCounts). x.words.all) counts;
  restarts = ap (λ (x : FrontCounts). x.words.graceful) counts;
  states = ap (λ (x : FrontCounts). x.words.status) counts;
  answers = ap (λ (x : FrontCounts). x.answers) counts;
}

pub keeps-accept : {L : Type 0} (link_seen : L → LinkSeen) (f f' : FrontSeen) (answer : Arrival L) → TellsOn OnlyTakes f.told f'.told
    → Accepts link_seen f f' answer → KeepsHeard f f'
keeps-accept link_seen f f' answer takes accepts = record {
  told = takes-stay f.told f'.told takes;
  lines = ap (λ (w : GivenWords). w.all) accepts.words;
  restarts = ap (λ (w : GivenWords). w.graceful) accepts.words;
  states = ap (λ (w : GivenWords). w.status) accepts.words;
  answers = accepts.answers_stay;
}

pub stays-same : (t : FrontTold) → StaysHeard t t
stays-same t = record { read = refl; lines = refl; answers = refl }

pub keeps-same : (f : FrontSeen) → KeepsHeard f f
keeps-same f = record { told = tells-same f.told; lines = refl; restarts = refl; states = refl; answers = refl }
  where
    tells-same : (told : Option FrontTold) → TellsOn StaysHeard told told
    tells-same None = refl
    tells-same (Some t) = (t, refl, stays-same t)

stays-trans : (told mid new : Option FrontTold) → TellsOn StaysHeard told mid → TellsOn StaysHeard mid new → TellsOn StaysHeard told new
stays-trans None mid new first second = subst (λ (x : Option FrontTold). TellsOn StaysHeard x new) first second
stays-trans (Some t) mid new first second =
    let then : TellsOn StaysHeard (Some first.0) new = subst (λ (x : Option FrontTold). TellsOn StaysHeard x new) first.1 second in (
      then.0,
      then.1,
      record {
        read = then.2.read ∙ first.2.read;
        lines = then.2.lines ∙ first.2.lines;
        answers = then.2.answers ∙ first.2.answers;
      },
    )

pub keeps-trans : (a b c : FrontSeen) → KeepsHeard a b → KeepsHeard b c → KeepsHeard a c
keeps-trans a b c first second = record {
  told = stays-trans a.told b.told c.told first.told second.told;
  lines = second.lines ∙ first.lines;
  restarts = second.restarts ∙ first.restarts;
  states = second.states ∙ first.states;
  answers = second.answers ∙ first.answers;
}

-- no line was there
idle-stays : (told told' : Option FrontTold) → told' ≡ option_map (after_command false) told → TellsOn StaysHeard told told'
idle-stays None told' is = is
idle-stays (Some t) told' is = (t, is, stays-same t)

pub keeps-command : (f f' : FrontSeen) → Commands f f' None → KeepsHeard f f'
keeps-command f f' gave = record {
  told = idle-stays f.told f'.told gave.told_is;
  lines = gave.words.all;
  restarts = gave.words.graceful;
  states = gave.words.status;
  answers = gave.answers_stay;
}

-- listening was stopped
pub keeps-hushed : (f f' : FrontSeen) → f' ≡ after_hush f → KeepsHeard f f'
keeps-hushed f f' is = record {
  told = hushed-stays f.told f'.told (ap (λ (x : FrontSeen). x.told) is);
  lines = ap (λ (x : FrontSeen). x.counts.words.all) is;
  restarts = ap (λ (x : FrontSeen). x.counts.words.graceful) is;
  states = ap (λ (x : FrontSeen). x.counts.words.status) is;
  answers = ap (λ (x : FrontSeen). x.counts.answers) is;
}
  where
    hushed-stays : (told told' : Option FrontTold) → told' ≡ option_map hushed_front told → TellsOn StaysHeard told told'
    hushed-stays None told' is = is
    hushed-stays (Some t) told' is = (hushed_front t, is, record { read = refl; lines = refl; answers = refl })
