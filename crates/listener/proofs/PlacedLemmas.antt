-- Where the lines of a run were read, over its waits, and further ones behind them.
use Rattle.std.proofs.Common.{◌≡◌, ◌+◌, ◌-◌, ℕ, List, [], ◌∷◌, ◌++◌, length, map, refl, sym, ap, subst, ◌∙◌, append-nil, append_assoc}
use Rattle.mpm_base.specs.Front.{FrontTold, WaitTold}
use Rattle.conn_machine.specs.declared.event.Entry.{Entry}
use Rattle.listener_round.specs.Heard.{AreReadAt, AreReadBehind, Heard}
use Rattle.listener_round.specs.Pace.{AreSharesOf, Brought, Share, made_from, made_of, moment_behind, moment_by, progress_at, signalled, ticked, ticks_by}
use Rattle.listener_round.proofs.PlacedLemmas.{AreWithin, within-back, placed-later}

-- ## How far the history was

pub within-both : (many : ℕ) (a b : List Heard) → AreWithin many a → AreWithin many b → AreWithin many (a ++ b)
within-both many [] b first second = second
within-both many (h ∷ a) b first second = (first.0, within-both many a b first.1 second)

pub within-front : (many : ℕ) (a b : List Heard) → AreWithin many (a ++ b) → AreWithin many a
within-front many [] b all = tt
within-front many (h ∷ a) b all = (all.0, within-front many a b all.1)

-- ## All lines

-- of a front that read no more, in a longer history
pub behind-later : (t u : FrontTold) (history more : List Entry) (before : List Brought) (moment : ℕ) (waits : List WaitTold) (shares : List Share)
    (heard : List Heard) → u.read ≡ t.read → AreWithin (length history) heard → AreReadBehind t history before moment waits shares heard
    → AreReadBehind u (history ++ more) before moment waits shares heard
behind-later t u history more before moment [] shares heard same within behind = behind
behind-later t u history more before moment (w ∷ waits) [] heard same within behind = behind
behind-later t u history more before moment (w ∷ waits) (s ∷ shares) heard same within behind =
    let all : AreWithin (length history) (behind.0 ++ behind.1) = subst (AreWithin (length history)) behind.2 within in (
      behind.0,
      behind.1,
      behind.2,
      behind.3 ∙ ap (λ (r : ℕ). r - w.began.read) (progress-same t u waits same),
      placed-later history more (before ++ map ticked (ticks_by moment s.answer) ++ map signalled s.signals) w.began.hushed behind.0
          (within-front (length history) behind.0 behind.1 all) behind.4,
      behind-later t u history more (before ++ made_of moment s) (moment_by moment s.answer) waits shares behind.1 same
          (within-back (length history) behind.0 behind.1 all) behind.5,
    )
  where
    progress-same : (t u : FrontTold) (waits : List WaitTold) → u.read ≡ t.read → (progress_at t waits).read ≡ (progress_at u waits).read
    progress-same t u [] same = sym same
    progress-same t u (w ∷ waits) same = refl

progress-next : (t u : FrontTold) (waits : List WaitTold) (wait : WaitTold) → wait.began.read ≡ t.read
    → (progress_at t waits).read ≡ (progress_at u (waits ++ wait ∷ [])).read
progress-next t u [] wait began = sym began
progress-next t u (w ∷ waits) wait began = refl

-- and with those that were read behind one wait more
pub behind-more : (rows : ℕ) (t u : FrontTold) (history more : List Entry) (before : List Brought) (moment : ℕ) (waits : List WaitTold) (shares : List Share)
    (wait : WaitTold) (s : Share) (heard mine : List Heard) → wait.began.read ≡ t.read → AreSharesOf rows t waits shares → AreWithin (length history) heard
    → AreReadBehind t history before moment waits shares heard → length mine ≡ u.read - wait.began.read
    → AreReadAt (history ++ more) ((before ++ made_from moment shares) ++ map ticked (ticks_by (moment_behind moment shares) s.answer) ++ map signalled s.signals)
    wait.began.hushed mine
    → AreReadBehind u (history ++ more) before moment (waits ++ wait ∷ []) (shares ++ s ∷ []) (heard ++ mine)
behind-more rows t u history more before moment [] [] wait s heard mine began are within none many at =
    subst (λ (xs : List Heard). AreReadBehind u (history ++ more) before moment (wait ∷ []) (s ∷ []) (xs ++ mine)) (sym none) (
      mine,
      [],
      sym (append-nil mine),
      many,
      subst (λ (xs : List Brought). AreReadAt (history ++ more) (xs ++ map ticked (ticks_by moment s.answer) ++ map signalled s.signals) wait.began.hushed mine)
          (append-nil before) at,
      refl,
    )
behind-more rows t u history more before moment [] (x ∷ shares) wait s heard mine began are within none many at = absurd (cc are)
behind-more rows t u history more before moment (w ∷ waits) [] wait s heard mine began are within behind many at = absurd are
behind-more rows t u history more before moment (w ∷ waits) (x ∷ shares) wait s heard mine began are within behind many at =
    let all : AreWithin (length history) (behind.0 ++ behind.1) = subst (AreWithin (length history)) behind.2 within in (
      behind.0,
      behind.1 ++ mine,
      ap (λ (xs : List Heard). xs ++ mine) behind.2 ∙ append_assoc behind.0 behind.1 mine,
      behind.3 ∙ ap (λ (r : ℕ). r - w.began.read) (progress-next t u waits wait began),
      placed-later history more (before ++ map ticked (ticks_by moment x.answer) ++ map signalled x.signals) w.began.hushed behind.0
          (within-front (length history) behind.0 behind.1 all) behind.4,
      behind-more rows t u history more (before ++ made_of moment x) (moment_by moment x.answer) waits shares wait s behind.1 mine began are.1
          (within-back (length history) behind.0 behind.1 all) behind.5 many
          (subst (λ (xs : List Brought). AreReadAt (history ++ more)
          (xs ++ map ticked (ticks_by (moment_behind moment (x ∷ shares)) s.answer) ++ map signalled s.signals) wait.began.hushed mine)
          (sym (append_assoc before (made_of moment x) (made_from (moment_by moment x.answer) shares))) at),
    )

-- where the last share has children of the end
pub behind-moved : (t : FrontTold) (history : List Entry) (before : List Brought) (moment : ℕ) (waits : List WaitTold) (shares : List Share) (last : Share)
    (moves : ℕ) (heard : List Heard) → AreReadBehind t history before moment waits (shares ++ last ∷ []) heard
    → AreReadBehind t history before moment waits (shares ++ record last { moves = moves } ∷ []) heard
behind-moved t history before moment [] shares last moves heard behind = behind
behind-moved t history before moment (w ∷ []) [] last moves heard behind =
    (behind.0, behind.1, behind.2, behind.3, behind.4, behind.5)
behind-moved t history before moment (w ∷ x ∷ waits) [] last moves heard behind = absurd behind.5
behind-moved t history before moment (w ∷ waits) (s ∷ shares) last moves heard behind = (
  behind.0,
  behind.1,
  behind.2,
  behind.3,
  behind.4,
  behind-moved t history (before ++ made_of moment s) (moment_by moment s.answer) waits shares last moves behind.1 behind.5,
)

-- where there is no share it is the same whatever was made before
pub behind-none : (t : FrontTold) (history : List Entry) (before before' : List Brought) (moment : ℕ) (waits : List WaitTold) (heard : List Heard)
    → AreReadBehind t history before moment waits [] heard → AreReadBehind t history before' moment waits [] heard
behind-none t history before before' moment [] heard behind = behind
behind-none t history before before' moment (w ∷ waits) heard behind = behind
