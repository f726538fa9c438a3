-- What comes with one wait more.
use Rattle.std.proofs.Common.{◌≡◌, ◌<◌, ◌≤◌, ◌+◌, ◌-◌, ℕ, List, [], ◌∷◌, ◌++◌, drop, length, take, refl, sym, ap, subst, ◌∙◌, append-nil, append_assoc, arith}
use Rattle.std.proofs.lemmas.Grind.{flat_map-append}
use Rattle.std.proofs.lemmas.List.{drop-append-le, length-drop, take-append-le}
use Rattle.std.specs.Prelude.{⊤}
use Rattle.std.specs.List.{list_any}
use Rattle.mpm_base.specs.Count.{greatest_count}
use Rattle.mpm_base.specs.Front.{FrontTold, Progress, WaitTold, progress_of}
use Rattle.listener_round.specs.Commands.{asked_by, asks_to_end}
use Rattle.listener_round.specs.Pace.{AreSharesOf, Brought, IsShareOf, Share, answer_if, answers_in, lines_between, made_from, made_of, moment_behind, moment_by, progress_at}

-- ## What is made of shares

pub made-more : (m : ℕ) (shares : List Share) (s : Share) → made_from m (shares ++ s ∷ []) ≡ made_from m shares ++ made_of (moment_behind m shares) s
made-more m [] s = append-nil (made_of m s)
made-more m (x ∷ shares) s =
    ap (λ (zs : List Brought). made_of m x ++ zs) (made-more (moment_by m x.answer) shares s)
    ∙ sym (append_assoc (made_of m x) (made_from (moment_by m x.answer) shares) (made_of (moment_behind (moment_by m x.answer) shares) s))

pub moment-more : (m : ℕ) (shares : List Share) (s : Share) → moment_behind m (shares ++ s ∷ []) ≡ moment_by (moment_behind m shares) s.answer
moment-more m [] s = refl
moment-more m (x ∷ shares) s = moment-more (moment_by m x.answer) shares s

pub answers-more : (shares : List Share) (s : Share) → answers_in (shares ++ s ∷ []) ≡ answers_in shares ++ answer_if s.answer
answers-more shares s =
    flat_map-append (λ (x : Share). answer_if x.answer) shares (s ∷ [])
    ∙ ap (λ (zs : List ℕ). answers_in shares ++ zs) (append-nil (answer_if s.answer))

-- ## Lines

-- those between two counts stay, whatever comes behind them
pub between-kept : (lines come : List (List ℕ)) (from to : ℕ) → from ≤ length lines → to ≤ length lines
    → lines_between (lines ++ come) from to ≡ lines_between lines from to
between-kept lines come from to first within =
    ap (take (to - from)) (drop-append-le from lines come first)
    ∙ take-append-le (to - from) (drop from lines) come (omega (arith, length-drop from lines))

-- ## What a share is of

-- a front that went on: further lines came, more were read, and more connections were handed out
pub record GoesFurther (t t' : FrontTold) : Type 0 where
  pub come : List (List ℕ)
  pub lines : t'.lines ≡ t.lines ++ come
  pub read : t'.read < greatest_count → t.read ≤ t'.read
  pub accepted : t'.accepted < greatest_count → t.accepted ≤ t'.accepted

-- no wait began when more lines were read than so many
abbrev pub AreBegunBy : ℕ → List WaitTold → Type 0
AreBegunBy read [] = ⊤
AreBegunBy read (wait ∷ waits) = (wait.began.read ≤ read) × AreBegunBy read waits

pub begun-later : (read read' : ℕ) (waits : List WaitTold) → read ≤ read' → AreBegunBy read waits → AreBegunBy read' waits
begun-later read read' [] more all = tt
begun-later read read' (wait ∷ waits) more all = (omega (arith, more, all.0), begun-later read read' waits more all.1)

pub begun-more : (read : ℕ) (waits : List WaitTold) (wait : WaitTold) → AreBegunBy read waits → wait.began.read ≤ read → AreBegunBy read (waits ++ wait ∷ [])
begun-more read [] wait all one = (one, tt)
begun-more read (x ∷ waits) wait all one = (all.0, begun-more read waits wait all.1 one)

progress-within : (t : FrontTold) (waits : List WaitTold) → t.read ≤ length t.lines → AreBegunBy (length t.lines) waits
    → (progress_at t waits).read ≤ length t.lines
progress-within t [] came all = came
progress-within t (wait ∷ waits) came all = all.0

-- a share of a front that went on
share-kept : (rows : ℕ) (t t' : FrontTold) (wait : WaitTold) (next : Progress) (s : Share) → GoesFurther t t' → wait.began.read ≤ length t.lines
    → next.read ≤ length t.lines → IsShareOf rows t wait next s → IsShareOf rows t' wait next s
share-kept rows t t' wait next s further began within is = record {
  answer = is.answer;
  signals = is.signals;
  reads = λ few. is.reads (omega (arith, few, further.read few));
  hushed =
      λ few. is.hushed (omega (arith, few, further.read few))
      ∙ ap (list_any asks_to_end) (sym (take-append-le wait.began.read t.lines further.come began))
      ∙ ap (λ (lines : List (List ℕ)). list_any asks_to_end (take wait.began.read lines)) (sym further.lines);
  orders =
      λ few. is.orders (omega (arith, few, further.read few))
      ∙ ap (asked_by wait.began.hushed) (sym (between-kept t.lines further.come wait.began.read next.read began within))
      ∙ ap (λ (lines : List (List ℕ)). asked_by wait.began.hushed (lines_between lines wait.began.read next.read)) (sym further.lines);
  handed = λ few. is.handed (omega (arith, few, further.accepted few));
}

pub progress-more : (t t' : FrontTold) (waits : List WaitTold) (wait : WaitTold) → wait.began ≡ progress_of t
    → progress_at t' (waits ++ wait ∷ []) ≡ progress_at t waits
progress-more t t' [] wait began = began
progress-more t t' (x ∷ waits) wait began = refl

-- the shares of waits, and that of one behind them
pub shares-more : (rows : ℕ) (t t' : FrontTold) (waits : List WaitTold) (shares : List Share) (wait : WaitTold) (s : Share) → GoesFurther t t'
    → t.read ≤ length t.lines → AreBegunBy (length t.lines) waits → wait.began ≡ progress_of t → AreSharesOf rows t waits shares
    → IsShareOf rows t' wait (progress_of t') s → AreSharesOf rows t' (waits ++ wait ∷ []) (shares ++ s ∷ [])
shares-more rows t t' [] shares wait s further came begun began are one =
    subst (λ (xs : List Share). AreSharesOf rows t' (wait ∷ []) (xs ++ s ∷ [])) (sym are) (one, refl)
shares-more rows t t' (x ∷ waits) [] wait s further came begun began are one = absurd are
shares-more rows t t' (x ∷ waits) (y ∷ shares) wait s further came begun began are one =
    let next = progress_at t waits in
    let here : IsShareOf rows t' x next y = share-kept rows t t' x next y further begun.0 (progress-within t waits came begun.1) are.0 in (
      subst (λ (p : Progress). IsShareOf rows t' x p y) (sym (progress-more t t' waits wait began)) here,
      shares-more rows t t' waits shares wait s further came begun.1 began are.1 one,
    )

-- how many children were moved behind the last one doesn't count
pub shares-moved : (rows : ℕ) (t : FrontTold) (waits : List WaitTold) (before : List Share) (last : Share) (moves : ℕ)
    → AreSharesOf rows t waits (before ++ last ∷ []) → AreSharesOf rows t waits (before ++ record last { moves = moves } ∷ [])
shares-moved rows t [] [] last moves are = absurd (cc are)
shares-moved rows t [] (x ∷ before) last moves are = absurd (cc are)
shares-moved rows t (w ∷ waits) [] last moves are = (
  record { answer = are.0.answer; signals = are.0.signals; reads = are.0.reads; hushed = are.0.hushed; orders = are.0.orders; handed = are.0.handed },
  shares-none rows t waits are.1,
)
  where
    shares-none : (rows : ℕ) (t : FrontTold) (waits : List WaitTold) → AreSharesOf rows t waits [] → AreSharesOf rows t waits []
    shares-none rows t waits are = are
shares-moved rows t (w ∷ waits) (x ∷ before) last moves are = (are.0, shares-moved rows t waits before last moves are.1)
