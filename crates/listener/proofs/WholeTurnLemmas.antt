-- What a run did behind a turn: its pace, and all else.
use Rattle.std.proofs.Common.{◌≡◌, inr, ◌≤◌, ℕ, List, [], ◌∷◌, ◌++◌, length, map, max, replicate, Option, None, Some, IfSome, option_map, Bool, Result, Ok, Err, refl, sym, ap, subst, ◌∙◌, append-nil, append_assoc}
use Rattle.mpm_base.specs.Front.{FrontSeen, FrontTold, moments_in}
use Rattle.mpm_base.specs.Sink.{SinkSeen}
use Rattle.mpm_base.specs.declared.front.Woke.{Woke}
use Rattle.mpm_base.specs.declared.front.Woke.TheVariants as woke
use Rattle.mpm_base.specs.declared.script_line.CommandWord.TheVariants as word
use Rattle.conn_state.specs.Known.{KnownOutside}
use Rattle.board.specs.Board.{SeenBoard}
use Rattle.board_book.specs.Book.{SeenBook}
use Rattle.board_book.specs.declared.faults.BoardFault.{BoardFault}
use Rattle.worker_group.specs.Acts.{Acts, ActsInSteps}
use Rattle.rounds.specs.declared.ends.End.{End}
use Rattle.rounds.specs.declared.ends.End.TheVariants as end
use Rattle.rounds.specs.declared.ends.Rest.{Rest}
use Rattle.board_book.specs.Moments.{known_slots, moment_for}
use Rattle.rounds.specs.PartsInside.{NoneHas}
use Rattle.board_book.specs.Started.{BeginsWithStarts}
use Rattle.board_book.specs.Timely.{AreTimely}
use Rattle.listener.specs.StartedFirst.{first_children}
use Rattle.listener.specs.declared.listen.Pause.{Pause}
use Rattle.listener_round.specs.declared.run_numbers.RunNumbers.{RunNumbers}
use Rattle.listener_round.specs.FirstNumbers.{opened_by}
use Rattle.listener_round.specs.Generations.{Opening}
use Rattle.listener_round.specs.HeardInside.{HasHeard, HasHeardAll, HasHeardIn, Hears, HearsMore, Unanswered, last_at, made_first, never_answered}
use Rattle.listener_round.specs.FrontInside.{HasNoneToHeed, StaysWatching, WatchesAll}
use Rattle.listener_round.specs.Pace.{AreSharesOf, Brought, Share, answers_in, brought, made_from, made_of, moment_behind, moment_by, moved, ordered, signalled, ticked, ticks_by}
use Rattle.listener_round.specs.ShareInside.{ComesWith}
use Rattle.listener.specs.TurnsInside.{EndsUntaken, TurnsMake, HasShares, IsBegun, SeenListener}
use Rattle.listener_round.specs.Times.{answers_of}
use Rattle.listener_round.specs.StandingInside.{IsOpenedBy, Past, entries_behind}
use Rattle.listener_round.proofs.BroughtLemmas.{brought-acts, brought-behind, brought_by}
use Rattle.listener_round.proofs.FrontLemmas.{only-takes, takes-same}
use Rattle.listener_round.proofs.HandedLemmas.{counts-same}
use Rattle.listener.proofs.HeardAllLemmas.{all-turn, keeps-wait, more-none}
use Rattle.listener_round.proofs.HeardLineLemmas.{has-kept}
use Rattle.listener.proofs.PaceLemmas.{patience-past}
use Rattle.listener_round.proofs.RoundShareLemmas.{reads-still}
use Rattle.listener.proofs.ShareLemmas.{made-more, moment-more}
use Rattle.listener.proofs.SharedLemmas.{answer_for, answers-on, made-for, moment-for, share_for, shared-on, shares-on, ticks-for}
use Rattle.listener_round.proofs.StandingLemmas.{entries-acts}
use Rattle.listener.proofs.StandingTurnLemmas.{StandsStep, stands-then, stands-waited}
use Rattle.listener.proofs.TurnLemmas.{DidSome, HasBrokenOff, HasGoneRound, HasKept, HasTakenIn, hears_at}
use Rattle.listener.proofs.WaitLemmas.{HasWaited}
use Rattle.listener.proofs.WatchLemmas.{watched-wait}
use Rattle.listener_round.proofs.WatchLemmas.{watched-both}
use Rattle.listener.proofs.WholeLemmas.{IsOnPace, IsShared, IsWhole, KeepsWhole, WholeFrom, begins-acts, timely-begun, whole-acts}
use Rattle.listener.proofs.WholeEndLemmas.{EndsFrom, EndsOnPace}

-- ## What is brought

cancel : (a xs ys : List Brought) → a ++ xs ≡ a ++ ys → xs ≡ ys
cancel [] xs ys is = is
cancel (x ∷ a) xs ys is = let rest : a ++ xs ≡ a ++ ys = cc is in cancel a xs ys rest

-- what was done behind all entries
brought-on : (past : Past) (a b : SeenBook) (first : ℕ) (made xs : List Brought) → brought b.history ≡ brought a.history ++ xs
    → brought (entries_behind past a) ≡ replicate first moved ++ made → brought (entries_behind past b) ≡ replicate first moved ++ (made ++ xs)
brought-on past a b first made xs is before =
    brought-behind past.entries a.history b.history xs is
    ∙ ap (λ (zs : List Brought). zs ++ xs) before
    ∙ append_assoc (replicate first moved) made xs

-- ## A turn

module _ (steps : ActsInSteps) (known : Option KnownOutside) (rest : Rest) (pause : Pause) (first a w : SeenListener) (kept : HasKept first a) (whole : WholeFrom known first a) (waited : HasWaited rest pause a w) (heeded : IfSome a.front.told HasNoneToHeed) where
  -- the book before the wait is the one behind it
  book_is : w.board.book ≡ a.board.book
  book_is = ap (λ (b : SeenBoard). b.book) waited.board

  opened-a : (o : Opening) → IsOpenedBy first.config o → IsOpenedBy a.config o
  opened-a o opened = subst (λ (c : _). IsOpenedBy c o) (sym kept.config) opened

  came-a : IfSome a.front.told (λ t. t.read ≤ length t.lines)
  came-a = came-of a.front.told heeded
    where
      came-of : (told : Option FrontTold) → IfSome told HasNoneToHeed → IfSome told (λ t. t.read ≤ length t.lines)
      came-of None none = tt
      came-of (Some t) none = none.came

  -- all but the pace, of a round
  keeps-round : (spare owed : ℕ) (b : SeenListener) → DidSome w.board.book b.board.book → HasTakenIn w b → StandsStep known spare owed w b
      → (o : Opening) (n : RunNumbers) (past : Past) → IsOpenedBy first.config o → IsBegun known o n first
      → BeginsWithStarts (first_children n) (entries_behind past a.board.book) → KeepsWhole known o n past 0 0 a → KeepsWhole known o n past spare owed b
  keeps-round spare owed b did took stands o n past opened begun begins before =
      whole-acts known o n past spare owed 0 did.events a b (subst (λ (x : SeenBook). Acts 0 did.events None x b.board.book) book_is did.acts) (opened-a o opened)
      (timely-begun known o n first a begun kept.timely) (stands-then rest pause known spare owed a w b waited stands)
      (watched-both a.front.told w.front.told b.front.told a.board.book a.board.book b.board.book
      (watched-wait _ _ _ _ a.front.told w.front.told a.board.book waited.waits.tells)
      (subst (λ (x : SeenBook). StaysWatching w.front.told b.front.told x b.board.book) book_is took.watched))
      (λ s history. patience-past rest pause a w b waited took.front took.calls s history) begins before

  -- and of a wait behind which nothing was done
  keeps-idle : NoneHas a.board.book → (o : Opening) (n : RunNumbers) (past : Past) → IsOpenedBy first.config o → IsBegun known o n first
      → BeginsWithStarts (first_children n) (entries_behind past a.board.book) → KeepsWhole known o n past 0 0 a → KeepsWhole known o n past 0 0 w
  keeps-idle free o n past opened begun begins before =
      whole-acts known o n past 0 0 0 [] a w (subst (Acts 0 [] None a.board.book) (sym book_is) (steps.none 0 None a.board.book (free 0))) (opened-a o opened)
      (timely-begun known o n first a begun kept.timely) (stands-waited rest pause known a w waited)
      (λ old all. subst (λ (x : SeenBook). IfSome w.front.told (WatchesAll x.state (old ++ x.history))) (sym book_is)
      (watched-wait _ _ _ _ a.front.told w.front.told a.board.book waited.waits.tells old all))
      (λ s history. patience-past rest pause a w w waited (only-takes _ _ (takes-same _)) refl s history) begins before

  -- ## The share

  signals-a : (n : RunNumbers) (s : Share) → length a.board.book.base.rows ≡ n.slots → s.signals ≡ known_slots (length w.board.book.base.rows) w.ready
      → s.signals ≡ known_slots n.slots w.ready
  signals-a n s rows is = is ∙ ap (λ (x : SeenBook). known_slots (length x.base.rows) w.ready) book_is ∙ ap (λ (m : ℕ). known_slots m w.ready) rows

  -- the shares have that of the wait
  shares-turn : (n : RunNumbers) (b : SeenListener) (shares : List Share) (s : Share) → length a.board.book.base.rows ≡ n.slots → HasTakenIn w b
      → ComesWith pause.moment w.ready (length w.board.book.base.rows) s w.front.told b.front.told → IfSome a.front.told (IsShared n.slots shares)
      → IfSome a.calls (λ calls. answers_in shares ≡ answers_of calls) → HasShares n.slots b (shares ++ share_for pause.woke pause.moment s ∷ [])
  shares-turn n b shares s rows took comes front clock = record {
    waits =
        shares-on n.slots rest.until rest.quiet pause.woke w.ready pause.moment a.front.told w.front.told b.front.told shares s waited.waits.tells took.front
        comes.asked comes.counted (signals-a n s rows comes.signals) came-a front;
    answers =
        subst (λ (cs : Option (List (ℕ × ℕ))). IfSome cs (λ calls. answers_in (shares ++ share_for pause.woke pause.moment s ∷ []) ≡ answers_of calls))
        (sym took.calls)
        (answers-on pause.woke a.board.book.state.moment pause.moment a.calls w.calls shares s waited.asks clock);
  }

  -- what is made of it
  made-turn : (shares : List Share) (s : Share) → s.answer ≡ Some pause.moment → a.board.book.state.moment ≡ moment_behind 0 shares
      → made_of w.board.book.state.moment s ≡ made_of (moment_behind 0 shares) (share_for pause.woke pause.moment s)
  made-turn shares s is here =
      ap (λ (x : SeenBook). made_of x.state.moment s) book_is
      ∙ made-for pause.woke a.board.book.state.moment pause.moment a.calls w.calls s is waited.asks
      ∙ ap (λ (m : ℕ). made_of m (share_for pause.woke pause.moment s)) here

  -- the whole of the shares with it
  whole-made : (shares : List Share) (s : Share) (xs : List Brought) → xs ≡ made_of (moment_behind 0 shares) s
      → made_from 0 shares ++ xs ≡ made_from 0 (shares ++ s ∷ [])
  whole-made shares s xs is = ap (λ (zs : List Brought). made_from 0 shares ++ zs) is ∙ sym (made-more 0 shares s)

  moment-turn : (shares : List Share) (s : Share) (b : SeenListener) → a.board.book.state.moment ≡ moment_behind 0 shares
      → b.board.book.state.moment ≡ max w.board.book.state.moment (moment_for pause.moment)
      → b.board.book.state.moment ≡ moment_behind 0 (shares ++ share_for pause.woke pause.moment s ∷ [])
  moment-turn shares s b here later =
      later
      ∙ ap (λ (x : SeenBook). max x.state.moment (moment_for pause.moment)) book_is
      ∙ sym (moment-for pause.woke a.board.book.state.moment pause.moment a.calls w.calls waited.asks)
      ∙ ap (λ (m : ℕ). moment_by m (answer_for pause.woke pause.moment)) here
      ∙ sym (moment-more 0 shares (share_for pause.woke pause.moment s))

  -- ## What was heard

  -- the front read nothing in the wait
  has-waited-so : (o : Opening) (n : RunNumbers) (past : Past) (pace : IsOnPace o n first a (entries_behind past a.board.book))
      → HasHeard o (opened_by n) (entries_behind past w.board.book) o.front w.front pace.heard.heard
  has-waited-so o n past pace =
      subst (λ (x : SeenBook). HasHeard o (opened_by n) (entries_behind past x) o.front w.front pace.heard.heard) (sym book_is)
      (has-kept o (opened_by n) (entries_behind past a.board.book) o.front a.front w.front pace.heard.heard
      (keeps-wait rest.until rest.quiet pause.woke w.ready a.front w.front waited.waits came-a)
      (subst (λ (x : FrontSeen). HasHeard o (opened_by n) (entries_behind past a.board.book) o.front x pace.heard.heard) (sym pace.heard.gave) pace.heard.has))

  shares-each : (rows : ℕ) (told : Option FrontTold) (shares : List Share) → IfSome told (IsShared rows shares)
      → IfSome told (λ t. AreSharesOf rows t t.waits shares)
  shares-each rows None shares is = tt
  shares-each rows (Some t) shares is = is.are.each

  -- what was made before the first line
  first-made : (shares : List Share) (s : Share) → s.signals ≡ known_slots (length w.board.book.base.rows) w.ready
      → a.board.book.state.moment ≡ moment_behind 0 shares
      → made_first pause.moment w.ready a.board.book
      ≡ map ticked (ticks_by (moment_behind 0 shares) (answer_for pause.woke pause.moment)) ++ map signalled s.signals
  first-made shares s signals here =
      ap (λ (ticks : List ℕ). map ticked ticks ++ map signalled (known_slots (length a.board.book.base.rows) w.ready))
      (sym (ticks-for pause.woke a.board.book.state.moment pause.moment a.calls w.calls waited.asks)
      ∙ ap (λ (m : ℕ). ticks_by m (answer_for pause.woke pause.moment)) here)
      ∙ ap (λ (xs : List ℕ). map ticked (ticks_by (moment_behind 0 shares) (answer_for pause.woke pause.moment)) ++ map signalled xs)
      (sym (signals ∙ ap (λ (x : SeenBook). known_slots (length x.base.rows) w.ready) book_is))

  -- all lines, with those of a round
  heard-round : (last : Option Unanswered) (b : SeenListener) (did : DidSome w.board.book b.board.book) → HasTakenIn w b → (s : Share)
      → ComesWith pause.moment w.ready (length w.board.book.base.rows) s w.front.told b.front.told
      → Hears known w.config (made_first pause.moment w.ready w.board.book) last (hears_at w) (hears_at b)
      → (o : Opening) (n : RunNumbers) (past : Past) → IsOpenedBy first.config o → IsBegun known o n first → KeepsWhole known o n past 0 0 a
      → (pace : IsOnPace o n first a (entries_behind past a.board.book))
      → HasHeardAll o n (entries_behind past b.board.book) pace.first (pace.shares ++ share_for pause.woke pause.moment s ∷ []) last b.front first.out
      first.written b.out b.written
  heard-round last b did took s comes hears o n past opened begun keeps pace =
      let entries = entries_behind past a.board.book in
      let acts : Acts 0 did.events None a.board.book b.board.book = subst (λ (x : SeenBook). Acts 0 did.events None x b.board.book) book_is did.acts in
      let timely = timely-begun known o n first a begun kept.timely in
      let further =
      hears o n past pace.heard.heard (subst (λ (c : _). IsOpenedBy c o) (sym waited.config) (opened-a o opened))
      (subst (λ (x : SeenBook). AreTimely x.base x.history) (sym book_is) timely)
      (stands-waited rest pause known a w waited o n past (opened-a o opened) timely keeps.stands) (has-waited-so o n past pace) in
      let from_a : HearsMore o (opened_by n) (entries_behind past b.board.book) (brought entries ++ made_first pause.moment w.ready a.board.book) o.front w.front
      b.front pace.heard.heard last a.out a.written b.out b.written =
      subst (λ (x : Bool). HearsMore o (opened_by n) (entries_behind past b.board.book) (brought entries ++ made_first pause.moment w.ready a.board.book) o.front
      w.front b.front pace.heard.heard last a.out x b.out b.written) waited.written
      (subst (λ (x : SinkSeen). HearsMore o (opened_by n) (entries_behind past b.board.book) (brought entries ++ made_first pause.moment w.ready a.board.book)
      o.front w.front b.front pace.heard.heard last x w.written b.out b.written) waited.out
      (subst (λ (x : SeenBook). HearsMore o (opened_by n) (entries_behind past b.board.book) (brought (entries_behind past x) ++ made_first pause.moment w.ready x)
      o.front w.front b.front pace.heard.heard last w.out w.written b.out b.written) book_is further)) in
      all-turn o n n.slots rest.until rest.quiet pause.woke w.ready a.front w.front b.front entries (entries_behind past b.board.book) acts.entries.0 pace.first
      pace.shares (share_for pause.woke pause.moment s) (made_first pause.moment w.ready a.board.book) s.orders last first.out first.written a.out a.written b.out
      b.written waited.waits took.front comes.asked (entries-acts 0 did.events None a.board.book b.board.book acts past.entries) pace.brought_is
      (first-made pace.shares s comes.signals pace.moment) (shares-each n.slots a.front.told pace.shares pace.front) pace.heard from_a

  -- and of a wait behind which nothing was read
  heard-idle : (o : Opening) (n : RunNumbers) (past : Past) (pace : IsOnPace o n first a (entries_behind past a.board.book)) (s : Share)
      → HasHeardAll o n (entries_behind past w.board.book) pace.first (pace.shares ++ s ∷ []) None w.front first.out first.written w.out w.written
  heard-idle o n past pace s =
      let entries = entries_behind past a.board.book in
      let made = map ticked (ticks_by (moment_behind 0 pace.shares) s.answer) ++ map signalled s.signals in
      let none : HearsMore o (opened_by n) (entries_behind past w.board.book) (brought entries ++ made) o.front w.front w.front pace.heard.heard None a.out a.written
      w.out w.written =
      subst (λ (x : Bool). HearsMore o (opened_by n) (entries_behind past w.board.book) (brought entries ++ made) o.front w.front w.front pace.heard.heard None a.out x
      w.out w.written) waited.written
      (subst (λ (x : SinkSeen). HearsMore o (opened_by n) (entries_behind past w.board.book) (brought entries ++ made) o.front w.front w.front pace.heard.heard None x
      w.written w.out w.written) waited.out
      (more-none o (opened_by n) (entries_behind past w.board.book) (brought entries ++ made) o.front w.front pace.heard.heard w.out w.written
      (has-waited-so o n past pace))) in
      all-turn o n n.slots rest.until rest.quiet pause.woke w.ready a.front w.front w.front entries (entries_behind past w.board.book) [] pace.first pace.shares s made
      [] None first.out first.written a.out a.written w.out w.written waited.waits (only-takes _ _ (takes-same _)) (reads-still w.front.told)
      (ap (λ (x : SeenBook). entries_behind past x) book_is ∙ sym (append-nil entries)) pace.brought_is refl
      (shares-each n.slots a.front.told pace.shares pace.front) pace.heard none

  -- ## Turns that go on

  pub whole-round : (b : SeenListener) → HasGoneRound known None pause w b → DidSome w.board.book b.board.book → WholeFrom known first b
  whole-round b gone did o n opened begun =
      let before = whole o n opened begun in
      let pace = before.pace in
      let keeps = keeps-round 0 0 b did gone.took gone.stands o n before.past opened begun before.begins before.keeps in
      let s = gone.share.share in
      let s' = share_for pause.woke pause.moment s in
      let comes = gone.share.comes in
      let xs = made_of w.board.book.state.moment s in
      let made : brought b.board.book.history ≡ brought a.board.book.history ++ xs =
      gone.share.made ∙ ap (λ (x : SeenBook). brought x.history ++ xs) book_is in
      let shares = shares-turn n b pace.shares s before.keeps.rows gone.took comes pace.front pace.clock in
      record {
        past = before.past;
        keeps = keeps;
        begins =
            begins-acts n before.past 0 did.events a.board.book b.board.book (subst (λ (x : SeenBook). Acts 0 did.events None x b.board.book) book_is did.acts)
            before.begins;
        pace =
            record {
              shares = pace.shares ++ s' ∷ [];
              front =
                  shared-on n.slots rest.until rest.quiet pause.woke w.ready pause.moment a.front.told w.front.told b.front.told pace.shares s
                  waited.waits.tells gone.took.front comes.asked comes.counted gone.hushes (signals-a n s before.keeps.rows comes.signals) came-a pace.front;
              clock = shares.answers;
              first = pace.first;
              brought_is =
                  brought-on before.past a.board.book b.board.book pace.first (made_from 0 pace.shares) xs made pace.brought_is
                  ∙ ap (λ (zs : List Brought). replicate pace.first moved ++ zs)
                  (whole-made pace.shares s' xs (made-turn pace.shares s comes.answer_is pace.moment));
              moment = moment-turn pace.shares s b pace.moment gone.moment;
              heard = heard-round None b did gone.took s comes gone.heard o n before.past opened begun before.keeps pace;
            };
      }

  -- ## Turns that end

  -- a round that was broken off
  pub ends-broken : (fault other : BoardFault) (b : SeenListener) → HasBrokenOff known fault pause w b → DidSome w.board.book b.board.book
      → EndsFrom known (Err other) first b
  ends-broken fault other b broken did o n opened begun =
      let before = whole o n opened begun in
      let pace = before.pace in
      let s = broken.share.share in
      let s' = share_for pause.woke pause.moment s in
      let comes = broken.share.comes in
      let xs = brought_by did.events in
      let added : brought b.board.book.history ≡ brought w.board.book.history ++ xs = brought-acts did.events None w.board.book b.board.book did.acts in
      let rest_is : xs ++ broken.share.missing ≡ made_of w.board.book.state.moment s =
      cancel (brought w.board.book.history) (xs ++ broken.share.missing) (made_of w.board.book.state.moment s)
      (sym (append_assoc (brought w.board.book.history) xs broken.share.missing)
      ∙ ap (λ (zs : List Brought). zs ++ broken.share.missing) (sym added) ∙ broken.share.made) in
      record {
        past = before.past;
        keeps = keeps-round 1 0 b did broken.took broken.stands o n before.past opened begun before.begins before.keeps;
        pace =
            record {
              shares = pace.shares ++ s' ∷ [];
              are = shares-turn n b pace.shares s before.keeps.rows broken.took comes pace.front pace.clock;
              first = pace.first;
              made = made_from 0 pace.shares ++ xs;
              heard = (
                broken.heard.0,
                broken.heard.1,
                heard-round (option_map never_answered broken.heard.0) b did broken.took s comes broken.heard.2 o n before.past opened begun before.keeps pace,
              );
              brought_is =
                  brought-on before.past a.board.book b.board.book pace.first (made_from 0 pace.shares) xs
                  (added ∙ ap (λ (x : SeenBook). brought x.history ++ xs) book_is) pace.brought_is;
              makes =
                  inr (record {
                    before = pace.shares;
                    last = s';
                    part = xs;
                    missing = broken.share.missing;
                    behind = 0;
                    shares_are = refl;
                    made_are = sym (append-nil (made_from 0 pace.shares ++ xs));
                    rest = sym (rest_is ∙ made-turn pace.shares s comes.answer_is pace.moment);
                  });
            };
      }

  -- a round that ended the turns
  pub ends-asked : (b : SeenListener) → HasGoneRound known (Some end.Asked) pause w b → DidSome w.board.book b.board.book
      → EndsFrom known (Ok end.Asked) first b
  ends-asked b gone did o n opened begun =
      let before = whole o n opened begun in
      let pace = before.pace in
      let s = gone.share.share in
      let s' = share_for pause.woke pause.moment s in
      let comes = gone.share.comes in
      let xs = brought_by did.events in
      let stop : List Brought = ordered word.Stop ∷ [] in
      let added : brought b.board.book.history ≡ brought w.board.book.history ++ xs = brought-acts did.events None w.board.book b.board.book did.acts in
      let rest_is : xs ++ stop ≡ made_of w.board.book.state.moment s =
      cancel (brought w.board.book.history) (xs ++ stop) (made_of w.board.book.state.moment s)
      (sym (append_assoc (brought w.board.book.history) xs stop) ∙ ap (λ (zs : List Brought). zs ++ stop) (sym added) ∙ gone.share.made.1) in
      record {
        past = before.past;
        keeps = keeps-round 0 1 b did gone.took gone.stands o n before.past opened begun before.begins before.keeps;
        pace =
            record {
              shares = pace.shares ++ s' ∷ [];
              are = shares-turn n b pace.shares s before.keeps.rows gone.took comes pace.front pace.clock;
              first = pace.first;
              made = made_from 0 pace.shares ++ xs;
              heard = heard-round (last_at (Some end.Asked)) b did gone.took s comes gone.heard o n before.past opened begun before.keeps pace;
              brought_is =
                  brought-on before.past a.board.book b.board.book pace.first (made_from 0 pace.shares) xs
                  (added ∙ ap (λ (x : SeenBook). brought x.history ++ xs) book_is) pace.brought_is;
              makes =
                  record {
                    before = pace.shares;
                    last = s';
                    shares_are = refl;
                    none = gone.share.made.0;
                    made_are =
                        append_assoc (made_from 0 pace.shares) xs stop
                        ∙ whole-made pace.shares s' (xs ++ stop) (rest_is ∙ made-turn pace.shares s comes.answer_is pace.moment);
                  };
            };
      }

  pub ends-overdue : (b : SeenListener) → HasGoneRound known (Some end.Overdue) pause w b → DidSome w.board.book b.board.book
      → EndsFrom known (Ok end.Overdue) first b
  ends-overdue b gone did o n opened begun =
      let before = whole o n opened begun in
      let pace = before.pace in
      let s = gone.share.share in
      let s' = share_for pause.woke pause.moment s in
      let comes = gone.share.comes in
      let quiet : Share = record s { signals = [] } in
      let xs = made_of w.board.book.state.moment quiet in
      record {
        past = before.past;
        keeps = keeps-round 0 0 b did gone.took gone.stands o n before.past opened begun before.begins before.keeps;
        pace =
            record {
              shares = pace.shares ++ s' ∷ [];
              are = shares-turn n b pace.shares s before.keeps.rows gone.took comes pace.front pace.clock;
              first = pace.first;
              made = made_from 0 pace.shares ++ xs;
              heard = heard-round (last_at (Some end.Overdue)) b did gone.took s comes gone.heard o n before.past opened begun before.keeps pace;
              brought_is =
                  brought-on before.past a.board.book b.board.book pace.first (made_from 0 pace.shares) xs
                  (gone.share.made.1 ∙ ap (λ (x : SeenBook). brought x.history ++ xs) book_is) pace.brought_is;
              makes =
                  record {
                    unsignalled =
                        record {
                          before = pace.shares;
                          last = s';
                          shares_are = refl;
                          made_are = whole-made pace.shares (record s' { signals = [] }) xs (made-turn pace.shares quiet comes.answer_is pace.moment);
                        };
                    none = gone.share.made.0;
                  };
            };
      }

  pub ends-all_gone : (b : SeenListener) → HasGoneRound known (Some end.Gone) pause w b → DidSome w.board.book b.board.book
      → EndsFrom known (Ok end.Gone) first b
  ends-all_gone b gone did o n opened begun =
      let before = whole o n opened begun in
      let pace = before.pace in
      let s = gone.share.share in
      let s' = share_for pause.woke pause.moment s in
      let comes = gone.share.comes in
      let xs = made_of w.board.book.state.moment s in
      record {
        past = before.past;
        keeps = keeps-round 0 0 b did gone.took gone.stands o n before.past opened begun before.begins before.keeps;
        pace =
            record {
              shares = pace.shares ++ s' ∷ [];
              are = shares-turn n b pace.shares s before.keeps.rows gone.took comes pace.front pace.clock;
              first = pace.first;
              made = made_from 0 pace.shares ++ xs;
              heard = heard-round (last_at (Some end.Gone)) b did gone.took s comes gone.heard o n before.past opened begun before.keeps pace;
              brought_is =
                  brought-on before.past a.board.book b.board.book pace.first (made_from 0 pace.shares) xs
                  (gone.share.made.1 ∙ ap (λ (x : SeenBook). brought x.history ++ xs) book_is) pace.brought_is;
              makes =
                  record {
                    before = pace.shares;
                    last = s';
                    shares_are = refl;
                    none = gone.share.made.0;
                    made_are =
                        append-nil (made_from 0 pace.shares ++ xs)
                        ∙ whole-made pace.shares s' xs (made-turn pace.shares s comes.answer_is pace.moment);
                  };
            };
      }

  -- a wait that gave no moment
  abbrev idle_share : Share
  idle_share = record { answer = Some pause.moment; signals = []; orders = []; moves = 0; handed = 0 }

  idle-pace : (turns : Result End BoardFault) → (moments_in pause.woke ≡ []) → w.ready ≡ [] → (o : Opening) (n : RunNumbers) (before : IsWhole known o n first a)
      → ((made : List Brought) → EndsUntaken [] (before.pace.shares ++ share_for pause.woke pause.moment idle_share ∷ []) made
      → TurnsMake turns (before.pace.shares ++ share_for pause.woke pause.moment idle_share ∷ []) made)
      → (HasHeardAll o n (entries_behind before.past w.board.book) before.pace.first
      (before.pace.shares ++ share_for pause.woke pause.moment idle_share ∷ []) None w.front first.out first.written w.out w.written
      → HasHeardIn turns o n (entries_behind before.past w.board.book) before.pace.first
      (before.pace.shares ++ share_for pause.woke pause.moment idle_share ∷ []) w.front first.out first.written w.out w.written)
      → EndsOnPace o n turns first w (entries_behind before.past w.board.book)
  idle-pace turns none unready o n before makes hears =
      let pace = before.pace in
      let s = idle_share in
      let s' = share_for pause.woke pause.moment s in
      let nothing : made_of (moment_behind 0 pace.shares) s' ≡ [] = idle-made pause.woke pause.moment (moment_behind 0 pace.shares) none in
      let all : made_from 0 pace.shares ++ [] ≡ made_from 0 (pace.shares ++ s' ∷ []) = whole-made pace.shares s' [] (sym nothing) in
      record {
        shares = pace.shares ++ s' ∷ [];
        are =
            record {
              waits =
                  shares-on n.slots rest.until rest.quiet pause.woke w.ready pause.moment a.front.told w.front.told w.front.told pace.shares s waited.waits.tells
                  (only-takes _ _ (takes-same _)) (reads-still w.front.told) (counts-same w.front.told)
                  (sym (ap (known_slots n.slots) unready)) came-a pace.front;
              answers = answers-on pause.woke a.board.book.state.moment pause.moment a.calls w.calls pace.shares s waited.asks pace.clock;
            };
        first = pace.first;
        made = made_from 0 pace.shares;
        brought_is = ap (λ (x : SeenBook). brought (entries_behind before.past x)) book_is ∙ pace.brought_is;
        makes = makes (made_from 0 pace.shares) (record { before = pace.shares; last = s'; shares_are = refl; none = refl; made_are = all });
        heard = hears (heard-idle o n before.past pace s');
      }
    where
      idle-made : (answer : Woke) (moment present : ℕ) → moments_in answer ≡ []
          → made_of present (share_for answer moment (record { answer = Some moment; signals = []; orders = []; moves = 0; handed = 0 })) ≡ []
      idle-made (woke.Woke m) moment present none = absurd (cc none)
      idle-made woke.Ended moment present none = refl
      idle-made woke.Failed moment present none = refl

  pub ends-ended : NoneHas a.board.book → moments_in pause.woke ≡ [] → w.ready ≡ [] → EndsFrom known (Ok end.Ended) first w
  ends-ended free none unready o n opened begun =
      let before = whole o n opened begun in
      record {
        past = before.past;
        keeps = keeps-idle free o n before.past opened begun before.begins before.keeps;
        pace = idle-pace (Ok end.Ended) none unready o n before (λ made ends. ends) (λ all. all);
      }

  pub ends-failed : NoneHas a.board.book → moments_in pause.woke ≡ [] → w.ready ≡ [] → EndsFrom known (Ok end.Failed) first w
  ends-failed free none unready o n opened begun =
      let before = whole o n opened begun in
      record {
        past = before.past;
        keeps = keeps-idle free o n before.past opened begun before.begins before.keeps;
        pace = idle-pace (Ok end.Failed) none unready o n before (λ made ends. ends) (λ all. all);
      }
