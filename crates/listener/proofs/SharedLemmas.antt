-- That what came with a wait is a share of the front, and of the clock.
use Rattle.std.proofs.Common.{◌≡◌, ◌<◌, ◌≤◌, ◌||◌, ℕ, Bool, true, false, List, [], ◌∷◌, ◌++◌, length, map, max, nat_lt, replicate, take, Option, None, Some, is_some, IfSome, refl, sym, ap, subst, ◌∙◌, append-nil, length-append, arith}
use Rattle.std.proofs.lemmas.Bool.Decides.{nat_tests}
use Rattle.std.proofs.lemmas.List.{map-append, take-append-le}
use Rattle.std.proofs.lemmas.List.Folds.{list_any-append}
use Rattle.std.specs.List.{list_any}
use Rattle.mpm_base.specs.Count.{greatest_count}
use Rattle.mpm_base.specs.Front.{FrontTold, GoesForward, TellsOn, WaitTold, is_woken, progress_of}
use Rattle.mpm_base.specs.declared.front.Woke.{Woke}
use Rattle.mpm_base.specs.declared.front.Woke.TheVariants as woke
use Rattle.mpm_base.specs.declared.script_line.CommandWord.{CommandWord}
use Rattle.listener_round.specs.Commands.{asked_by, asks_to_end}
use Rattle.listener.specs.ListenInside.{AsksFor}
use Rattle.listener_round.specs.FrontInside.{OnlyReadsAndTakes}
use Rattle.listener_round.specs.Pace.{AreSharesOf, AreSharesOfAll, Brought, IsShareOf, Share, answer_if, answers_in, lines_between, made_of, moment_by, moved, ordered, progress_at, signalled, taken, ticked, ticks_by}
use Rattle.listener_round.specs.ShareInside.{HandsMany, HushesFor, ReadsFor}
use Rattle.listener_round.specs.Times.{answers_of}
use Rattle.board_book.specs.Moments.{known_slots, moment_for, ticks_to}
use Rattle.listener.proofs.ShareLemmas.{AreBegunBy, GoesFurther, answers-more, begun-later, begun-more, progress-more, shares-more}
use Rattle.listener_round.proofs.ShareLemmas.{first-both}
use Rattle.listener.proofs.WholeLemmas.{IsShared}

-- ## The answer of the clock

-- what the clock answered behind a wait that answered so
abbrev pub answer_for : Woke → ℕ → Option ℕ
answer_for (woke.Woke m) moment = Some moment
answer_for woke.Ended moment = None
answer_for woke.Failed moment = None

-- a share with that answer
abbrev pub share_for : Woke → ℕ → Share → Share
share_for answer moment s = record s { answer = answer_for answer moment }

gives-answer : (answer : Woke) (moment : ℕ) → is_some (answer_for answer moment) ≡ is_woken answer
gives-answer (woke.Woke m) moment = refl
gives-answer woke.Ended moment = refl
gives-answer woke.Failed moment = refl

none-later : (present moment : ℕ) → moment ≡ present → nat_lt present (moment_for moment) ≡ false
none-later present moment same = by (nat_lt present (moment_for moment)) refl where
  by : (later : Bool) → nat_lt present (moment_for moment) ≡ later → nat_lt present (moment_for moment) ≡ false
  by true is = let more : present < moment_for moment = grind (arith, nat_tests) in absurd (omega (arith, more, same))
  by false is = is

no-ticks : (present moment : ℕ) → moment ≡ present → [] ≡ ticks_to present (moment_for moment)
no-ticks present moment same = rw (none-later present moment same) refl

-- time passes as it does by the moment behind the wait
pub ticks-for : (answer : Woke) (present moment : ℕ) (calls calls' : Option (List (ℕ × ℕ))) → AsksFor answer present calls calls' moment
    → ticks_by present (answer_for answer moment) ≡ ticks_to present (moment_for moment)
ticks-for (woke.Woke m) present moment calls calls' asks = refl
ticks-for woke.Ended present moment calls calls' asks = no-ticks present moment asks.1
ticks-for woke.Failed present moment calls calls' asks = no-ticks present moment asks.1

pub moment-for : (answer : Woke) (present moment : ℕ) (calls calls' : Option (List (ℕ × ℕ))) → AsksFor answer present calls calls' moment
    → moment_by present (answer_for answer moment) ≡ max present (moment_for moment)
moment-for (woke.Woke m) present moment calls calls' asks = refl
moment-for woke.Ended present moment calls calls' asks = omega (arith, asks.1)
moment-for woke.Failed present moment calls calls' asks = omega (arith, asks.1)

-- and so the listener makes the same of it
pub made-for : (answer : Woke) (present moment : ℕ) (calls calls' : Option (List (ℕ × ℕ))) (s : Share) → s.answer ≡ Some moment
    → AsksFor answer present calls calls' moment → made_of present s ≡ made_of present (share_for answer moment s)
made-for answer present moment calls calls' s is asks =
    let rest : List ℕ → List Brought =
    λ ticks. map ticked ticks ++ map signalled s.signals ++ map ordered s.orders ++ replicate s.moves moved ++ replicate s.handed taken in
    ap (λ (o : Option ℕ). rest (ticks_by present o)) is ∙ ap rest (sym (ticks-for answer present moment calls calls' asks))

-- where it wasn't asked they stay
answers-idle : (calls calls' : Option (List (ℕ × ℕ))) (shares : List Share) (s : Share) → s.answer ≡ None → calls' ≡ calls
    → IfSome calls (λ calls. answers_in shares ≡ answers_of calls) → IfSome calls' (λ calls. answers_in (shares ++ s ∷ []) ≡ answers_of calls)
answers-idle calls calls' shares s none same are =
    let kept : answers_in (shares ++ s ∷ []) ≡ answers_in shares =
    answers-more shares s ∙ ap (λ (o : Option ℕ). answers_in shares ++ answer_if o) none ∙ append-nil (answers_in shares) in
    subst (λ (o : Option (List (ℕ × ℕ))). IfSome o (λ calls. answers_in (shares ++ s ∷ []) ≡ answers_of calls)) (sym same)
    (idle-by calls shares s kept are)
  where
    idle-by : (calls : Option (List (ℕ × ℕ))) (shares : List Share) (s : Share) → answers_in (shares ++ s ∷ []) ≡ answers_in shares
        → IfSome calls (λ calls. answers_in shares ≡ answers_of calls) → IfSome calls (λ calls. answers_in (shares ++ s ∷ []) ≡ answers_of calls)
    idle-by None shares s kept are = tt
    idle-by (Some calls) shares s kept are = kept ∙ are

-- the clock's answers have one more
pub answers-on : (answer : Woke) (present moment : ℕ) (calls calls' : Option (List (ℕ × ℕ))) (shares : List Share) (s : Share)
    → AsksFor answer present calls calls' moment → IfSome calls (λ calls. answers_in shares ≡ answers_of calls)
    → IfSome calls' (λ calls. answers_in (shares ++ share_for answer moment s ∷ []) ≡ answers_of calls)
answers-on (woke.Woke m) present moment None calls' shares s asks are =
    subst (λ (o : Option (List (ℕ × ℕ))). IfSome o (λ calls. answers_in (shares ++ share_for (woke.Woke m) moment s ∷ []) ≡ answers_of calls)) (sym asks) tt
answers-on (woke.Woke m) present moment (Some calls) calls' shares s asks are =
    subst (λ (o : Option (List (ℕ × ℕ))). IfSome o (λ calls. answers_in (shares ++ share_for (woke.Woke m) moment s ∷ []) ≡ answers_of calls)) (sym asks)
    (answers-more shares (share_for (woke.Woke m) moment s)
    ∙ ap (λ (xs : List ℕ). xs ++ moment ∷ []) are
    ∙ sym (map-append (λ (call : ℕ × ℕ). call.1) calls ((m, moment) ∷ [])))
answers-on woke.Ended present moment calls calls' shares s asks are =
    answers-idle calls calls' shares (share_for woke.Ended moment s) refl asks.0 are
answers-on woke.Failed present moment calls calls' shares s asks are =
    answers-idle calls calls' shares (share_for woke.Failed moment s) refl asks.0 are

-- ## The front

or-turned : (a b : Bool) → (a || b) ≡ (b || a)
or-turned true true = refl
or-turned true false = refl
or-turned false true = refl
or-turned false false = refl

module _ (until : Option ℕ) (quiet : Bool) (answer : Woke) (ready : List ℕ) (t w u : FrontTold) (forward : GoesForward until quiet answer ready t w) (only : OnlyReadsAndTakes w u) (orders : List CommandWord) (handed : ℕ) (asked : ReadsFor orders w u) (counted : HandsMany handed w u) where
  -- the wait, as the front tells it
  abbrev wait_then : WaitTold
  wait_then =
      record { began = progress_of t; until = until; quiet = quiet; slots = ready; answer = answer; passed = forward.passed }

  waits-then : u.waits ≡ t.waits ++ wait_then ∷ []
  waits-then = ap (λ (x : FrontTold). x.waits) only.rest ∙ forward.waits

  lines-then : u.lines ≡ t.lines ++ forward.come
  lines-then = ap (λ (x : FrontTold). x.lines) only.rest ∙ forward.lines

  -- no line was given back
  reads-then : u.read < greatest_count → t.read ≤ u.read
  reads-then few = omega (arith, forward.read, asked.reads few)

  further-then : GoesFurther t u
  further-then = record {
    come = forward.come;
    lines = lines-then;
    read = reads-then;
    accepted = λ few. omega (arith, forward.accepted, counted few);
  }

  -- the lines that were read behind the wait
  between-then : lines_between u.lines w.read u.read ≡ lines_between u.lines t.read u.read
  between-then = ap (λ (from : ℕ). lines_between u.lines from u.read) forward.read

  -- the first of them are those that were read before
  first-then : t.read ≤ length t.lines → take t.read u.lines ≡ take t.read t.lines
  first-then came = ap (take t.read) lines-then ∙ take-append-le t.read t.lines forward.come came

  -- the share is that of the wait
  share-then : (rows moment : ℕ) (s : Share) → s.signals ≡ known_slots rows ready → s.orders ≡ orders → s.handed ≡ handed
      → (t.read < greatest_count → t.hushed ≡ list_any asks_to_end (take t.read t.lines)) → t.read ≤ length t.lines
      → IsShareOf rows u wait_then (progress_of u) (share_for answer moment s)
  share-then rows moment s signals orders_are handed_are hushed came = record {
    answer = gives-answer answer moment;
    signals = signals;
    reads = reads-then;
    hushed =
        λ few. hushed (omega (arith, few, reads-then few)) ∙ ap (list_any asks_to_end) (sym (first-then came));
    orders =
        λ few. orders_are ∙ asked.asks few
        ∙ ap (λ (b : Bool). asked_by b (lines_between u.lines w.read u.read)) forward.hushed
        ∙ ap (asked_by t.hushed) between-then;
    handed = λ few. omega (arith, forward.accepted, counted few, handed_are);
  }

  -- so the shares are those of the waits
  shares-then : (rows moment : ℕ) (shares : List Share) (s : Share) → s.signals ≡ known_slots rows ready → s.orders ≡ orders → s.handed ≡ handed
      → t.read ≤ length t.lines → IsShared rows shares t → AreSharesOfAll rows u (shares ++ share_for answer moment s ∷ [])
  shares-then rows moment shares s signals orders_are handed_are came before =
      let same : progress_at u (t.waits ++ wait_then ∷ []) ≡ progress_at t t.waits = progress-more t u t.waits wait_then refl in
      let whole : AreSharesOf rows u (t.waits ++ wait_then ∷ []) (shares ++ share_for answer moment s ∷ []) =
      shares-more rows t u t.waits shares wait_then (share_for answer moment s) further-then came before.begun refl before.are.each
      (share-then rows moment s signals orders_are handed_are before.hushed came) in
      record {
        unread =
            subst (λ (ws : List WaitTold). (progress_at u ws).read ≡ 0) (sym waits-then) (ap (λ (p : _). p.read) same ∙ before.are.unread);
        untaken =
            subst (λ (ws : List WaitTold). (progress_at u ws).accepted ≡ 0) (sym waits-then) (ap (λ (p : _). p.accepted) same ∙ before.are.untaken);
        each = subst (λ (ws : List WaitTold). AreSharesOf rows u ws (shares ++ share_for answer moment s ∷ [])) (sym waits-then) whole;
      }

  -- listening was stopped where a line that was read asks for that
  hushed-then : HushesFor w u → (t.read < greatest_count → t.hushed ≡ list_any asks_to_end (take t.read t.lines)) → t.read ≤ length t.lines
      → u.read < greatest_count → u.hushed ≡ list_any asks_to_end (take u.read u.lines)
  hushed-then hushes hushed came few =
      let before : t.hushed ≡ list_any asks_to_end (take t.read u.lines) =
      hushed (omega (arith, few, reads-then few)) ∙ ap (list_any asks_to_end) (sym (first-then came)) in
      hushes few
      ∙ ap (λ (lines : List (List ℕ)). list_any asks_to_end lines || w.hushed) between-then
      ∙ ap (λ (b : Bool). list_any asks_to_end (lines_between u.lines t.read u.read) || b) (forward.hushed ∙ before)
      ∙ or-turned (list_any asks_to_end (lines_between u.lines t.read u.read)) (list_any asks_to_end (take t.read u.lines))
      ∙ sym (list_any-append asks_to_end (take t.read u.lines) (lines_between u.lines t.read u.read))
      ∙ ap (list_any asks_to_end) (sym (first-both u.lines t.read u.read (reads-then few)))

  begun-then : t.read ≤ length t.lines → AreBegunBy (length t.lines) t.waits → AreBegunBy (length u.lines) u.waits
  begun-then came begun =
      let longer : length t.lines ≤ length u.lines = omega (arith, ap (λ (xs : List (List ℕ)). length xs) lines-then, length-append t.lines forward.come) in
      subst (AreBegunBy (length u.lines)) (sym waits-then)
      (begun-more (length u.lines) t.waits wait_then (begun-later (length t.lines) (length u.lines) t.waits longer begun) (omega (arith, came, longer)))

  -- they are those of a front that goes on
  shared-then : (rows moment : ℕ) (shares : List Share) (s : Share) → s.signals ≡ known_slots rows ready → s.orders ≡ orders → s.handed ≡ handed
      → HushesFor w u → t.read ≤ length t.lines → IsShared rows shares t → IsShared rows (shares ++ share_for answer moment s ∷ []) u
  shared-then rows moment shares s signals orders_are handed_are hushes came before = record {
    are = shares-then rows moment shares s signals orders_are handed_are came before;
    begun = begun-then came before.begun;
    hushed = hushed-then hushes before.hushed came;
  }

-- ## Over a front of any kind

-- the shares have one more
pub shares-on : (rows : ℕ) (until : Option ℕ) (quiet : Bool) (answer : Woke) (ready : List ℕ) (moment : ℕ) (told mid new : Option FrontTold)
    (shares : List Share) (s : Share) → TellsOn (GoesForward until quiet answer ready) told mid → TellsOn OnlyReadsAndTakes mid new
    → TellsOn (ReadsFor s.orders) mid new → TellsOn (HandsMany s.handed) mid new → s.signals ≡ known_slots rows ready
    → IfSome told (λ t. t.read ≤ length t.lines) → IfSome told (IsShared rows shares)
    → IfSome new (λ t. AreSharesOfAll rows t (shares ++ share_for answer moment s ∷ []))
shares-on rows until quiet answer ready moment None mid new shares s tells takes asked counted signals came before =
    let none : new ≡ None = subst (λ (o : Option FrontTold). TellsOn OnlyReadsAndTakes o new) tells takes in
    subst (λ (o : Option FrontTold). IfSome o (λ t. AreSharesOfAll rows t (shares ++ share_for answer moment s ∷ []))) (sym none) tt
shares-on rows until quiet answer ready moment (Some t) mid new shares s tells takes asked counted signals came before =
    let w = tells.0 in
    let only : TellsOn OnlyReadsAndTakes (Some w) new = subst (λ (o : Option FrontTold). TellsOn OnlyReadsAndTakes o new) tells.1 takes in
    let read : TellsOn (ReadsFor s.orders) (Some w) new = subst (λ (o : Option FrontTold). TellsOn (ReadsFor s.orders) o new) tells.1 asked in
    let took : TellsOn (HandsMany s.handed) (Some w) new = subst (λ (o : Option FrontTold). TellsOn (HandsMany s.handed) o new) tells.1 counted in
    let u = only.0 in
    let first : read.0 ≡ u = let here = read.1 in let there = only.1 in cc (here, there) in
    let second : took.0 ≡ u = let here = took.1 in let there = only.1 in cc (here, there) in
    subst (λ (o : Option FrontTold). IfSome o (λ x. AreSharesOfAll rows x (shares ++ share_for answer moment s ∷ []))) (sym only.1)
    (shares-then until quiet answer ready t w u tells.2 only.2 s.orders s.handed (subst (ReadsFor s.orders w) first read.2)
    (subst (HandsMany s.handed w) second took.2) rows moment shares s signals refl refl came before)

-- and so has a front that goes on
pub shared-on : (rows : ℕ) (until : Option ℕ) (quiet : Bool) (answer : Woke) (ready : List ℕ) (moment : ℕ) (told mid new : Option FrontTold)
    (shares : List Share) (s : Share) → TellsOn (GoesForward until quiet answer ready) told mid → TellsOn OnlyReadsAndTakes mid new
    → TellsOn (ReadsFor s.orders) mid new → TellsOn (HandsMany s.handed) mid new → TellsOn HushesFor mid new → s.signals ≡ known_slots rows ready
    → IfSome told (λ t. t.read ≤ length t.lines) → IfSome told (IsShared rows shares)
    → IfSome new (IsShared rows (shares ++ share_for answer moment s ∷ []))
shared-on rows until quiet answer ready moment None mid new shares s tells takes asked counted hushes signals came before =
    let none : new ≡ None = subst (λ (o : Option FrontTold). TellsOn OnlyReadsAndTakes o new) tells takes in
    subst (λ (o : Option FrontTold). IfSome o (IsShared rows (shares ++ share_for answer moment s ∷ []))) (sym none) tt
shared-on rows until quiet answer ready moment (Some t) mid new shares s tells takes asked counted hushes signals came before =
    let w = tells.0 in
    let only : TellsOn OnlyReadsAndTakes (Some w) new = subst (λ (o : Option FrontTold). TellsOn OnlyReadsAndTakes o new) tells.1 takes in
    let read : TellsOn (ReadsFor s.orders) (Some w) new = subst (λ (o : Option FrontTold). TellsOn (ReadsFor s.orders) o new) tells.1 asked in
    let took : TellsOn (HandsMany s.handed) (Some w) new = subst (λ (o : Option FrontTold). TellsOn (HandsMany s.handed) o new) tells.1 counted in
    let hush : TellsOn HushesFor (Some w) new = subst (λ (o : Option FrontTold). TellsOn HushesFor o new) tells.1 hushes in
    let u = only.0 in
    let first : read.0 ≡ u = let here = read.1 in let there = only.1 in cc (here, there) in
    let second : took.0 ≡ u = let here = took.1 in let there = only.1 in cc (here, there) in
    let third : hush.0 ≡ u = let here = hush.1 in let there = only.1 in cc (here, there) in
    subst (λ (o : Option FrontTold). IfSome o (IsShared rows (shares ++ share_for answer moment s ∷ []))) (sym only.1)
    (shared-then until quiet answer ready t w u tells.2 only.2 s.orders s.handed (subst (ReadsFor s.orders w) first read.2)
    (subst (HandsMany s.handed w) second took.2) rows moment shares s signals refl refl (subst (HushesFor w) third hush.2) came before)
