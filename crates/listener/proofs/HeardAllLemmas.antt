-- All that was heard of a run: at its start, over what goes on without a line, and behind one wait more.
use Rattle.std.proofs.Common.{◌≡◌, ◌<◌, ◌≤◌, ◌+◌, ◌-◌, ℕ, Bool, List, [], ◌∷◌, ◌++◌, length, map, replicate, take, Option, None, Some, IfSome, refl, sym, ap, subst, ◌∙◌, append-nil, append_assoc, length-append, arith}
use Rattle.std.proofs.lemmas.List.{take-append-le}
use Rattle.std.proofs.lemmas.Grind.{flat_map-append}
use Rattle.mpm_base.specs.Count.{RisesJustBy, greatest_count, next_count}
use Rattle.mpm_base.specs.Front.{Commands, FrontSeen, FrontTold, GoesForward, TellsOn, WaitTold, Waits, progress_of}
use Rattle.mpm_base.specs.Sink.{SinkSeen}
use Rattle.mpm_base.specs.declared.front.Woke.{Woke}
use Rattle.conn_machine.specs.declared.event.Entry.{Entry}
use Rattle.conn_machine.specs.declared.state.State.{State}
use Rattle.conn_machine.specs.Events.{count_events, is_order}
use Rattle.listener_round.specs.FirstNumbers.{opened_by}
use Rattle.listener_round.specs.Generations.{Opening}
use Rattle.listener_round.specs.Heard.{AreReadAt, AreReadBehind, AreReadInPlace, AreToldBy, Heard, open_line_of, open_lines}
use Rattle.listener_round.specs.HeardInside.{AreAllRead, GivesLast, HasHeard, HasHeardAll, HearsMore, KeepsHeard, ReadsAt, StaysHeard, Unanswered, WritesOn, with_last}
use Rattle.listener_round.specs.FrontInside.{OnlyReadsAndTakes}
use Rattle.listener_round.specs.Pace.{AreSharesOf, Brought, Share, brought, made_from, moment_behind, moved, signalled, ticked, ticks_by}
use Rattle.listener_round.specs.ShareInside.{ReadsFor}
use Rattle.listener_round.specs.declared.run_numbers.RunNumbers.{RunNumbers}
use Rattle.listener_round.proofs.HeardLineLemmas.{IsToldOn, has-later, heard-command, keeps-same}
use Rattle.listener_round.proofs.OpenLemmas.{open-later}
use Rattle.listener_round.proofs.PlacedLemmas.{AreWithin, within-answered}
use Rattle.listener.proofs.PlacedLemmas.{behind-later, behind-more}
use Rattle.listener_round.proofs.WrittenLemmas.{writes-more, writes-none}

-- ## The start

-- before any line was read
pub all-first : (o : Opening) (n : RunNumbers) (history : List Entry) (moves : ℕ) (front : FrontSeen) (out : SinkSeen) (written : Bool)
    → count_events is_order history ≡ 0 → IfSome front.told (λ t. t.read ≡ 0) → IfSome front.told (λ t. t.answers ≡ []) → IfSome front.told (λ t. t.waits ≡ [])
    → front.counts.words ≡ o.front.counts.words → front.counts.answers ≡ o.front.counts.answers
    → HasHeardAll o n history moves [] None front out written out written
all-first o n history moves front out written none read answers waits words counted = record {
  heard = [];
  mid = front;
  has =
      record {
        answered = tt;
        orders = sym none;
        each = tt;
        told = told-none front.told read answers;
        read = read-none front.told read;
        counted =
            record {
              lines = rises-none o.front.counts.words.all front.counts.words.all (ap (λ w. w.all) words);
              restarts = rises-none o.front.counts.words.graceful front.counts.words.graceful (ap (λ w. w.graceful) words);
              states = rises-none o.front.counts.words.status front.counts.words.status (ap (λ w. w.status) words);
              answers = rises-none o.front.counts.answers.all front.counts.answers.all (ap (λ a. a.all) counted);
              refusals = rises-none o.front.counts.answers.refused front.counts.answers.refused (ap (λ a. a.refused) counted);
            };
      };
  gave = refl;
  placed = placed-none front.told waits;
  writes = writes-none out written;
}
  where
    rises-none : (a b : ℕ) → b ≡ a → RisesJustBy 0 a b
    rises-none a b same = (omega (arith, same), λ few. omega (arith, same))

    told-none : (told : Option FrontTold) → IfSome told (λ t. t.read ≡ 0) → IfSome told (λ t. t.answers ≡ []) → IfSome told (AreToldBy [])
    told-none None read answers = tt
    told-none (Some t) read answers = record { lines = λ few. ap (λ (n : ℕ). take n t.lines) (sym read); answers = λ few. answers }

    read-none : (told : Option FrontTold) → IfSome told (λ t. t.read ≡ 0) → IfSome told (AreAllRead [])
    read-none None read = tt
    read-none (Some t) read = λ few. sym read

    placed-none : (told : Option FrontTold) → IfSome told (λ t. t.waits ≡ []) → IfSome told (AreReadInPlace history moves [] [])
    placed-none None waits = tt
    placed-none (Some t) waits =
        λ few. subst (λ (ws : List WaitTold). AreReadBehind t history (replicate moves moved) 0 ws [] []) (sym waits) refl

-- ## Entries none of which is an order

pub all-later : (o : Opening) (n : RunNumbers) (history more : List Entry) (moves : ℕ) (shares : List Share) (front : FrontSeen) (out : SinkSeen)
    (written : Bool) (out' : SinkSeen) (written' : Bool) → count_events is_order (history ++ more) ≡ count_events is_order history
    → HasHeardAll o n history moves shares None front out written out' written'
    → HasHeardAll o n (history ++ more) moves shares None front out written out' written'
all-later o n history more moves shares front out written out' written' same all =
    let within = within-answered o (opened_by n) history 0 0 all.heard all.has.answered in
    record {
      heard = all.heard;
      mid = all.mid;
      has = has-later o (opened_by n) history more o.front all.mid all.heard same all.has;
      gave = all.gave;
      placed = later front.told all.heard within all.placed;
      writes =
          subst (λ (xs : List ℕ). WritesOn xs out written out' written') (sym (open-later (opened_by n) history more all.heard within)) all.writes;
    }
  where
    later : (told : Option FrontTold) (heard : List Heard) → AreWithin (length history) heard → IfSome told (AreReadInPlace history moves shares heard)
        → IfSome told (AreReadInPlace (history ++ more) moves shares heard)
    later None heard within placed = tt
    later (Some t) heard within placed =
        λ few. behind-later t t history more (replicate moves moved) 0 t.waits shares heard refl within (placed few)

-- ## A wait

wait-stays : (until : Option ℕ) (quiet : Bool) (answer : Woke) (ready : List ℕ) (told told' : Option FrontTold)
    → TellsOn (GoesForward until quiet answer ready) told told' → IfSome told (λ t. t.read ≤ length t.lines) → TellsOn StaysHeard told told'
wait-stays until quiet answer ready None told' tells came = tells
wait-stays until quiet answer ready (Some t) told' tells came =
    let w = tells.0 in
    let forward = tells.2 in (
      w,
      tells.1,
      record {
        read = forward.read;
        lines =
            ap (λ (k : ℕ). take k w.lines) forward.read
            ∙ ap (take t.read) forward.lines
            ∙ take-append-le t.read t.lines forward.come came;
        answers = forward.answers_stay;
      },
    )

-- no line was read or answered in it
pub keeps-wait : (until : Option ℕ) (quiet : Bool) (answer : Woke) (ready : List ℕ) (f f' : FrontSeen) → Waits f f' until quiet answer ready
    → IfSome f.told (λ t. t.read ≤ length t.lines) → KeepsHeard f f'
keeps-wait until quiet answer ready f f' waits came = record {
  told = wait-stays until quiet answer ready f.told f'.told waits.tells came;
  lines = ap (λ w. w.all) waits.words;
  restarts = ap (λ w. w.graceful) waits.words;
  states = ap (λ w. w.status) waits.words;
  answers = waits.answers_stay;
}

-- nothing was read
pub more-none : (o : Opening) (first : State) (history : List Entry) (before : List Brought) (begun f : FrontSeen) (heard : List Heard) (out : SinkSeen)
    (written : Bool) → HasHeard o first history begun f heard → HearsMore o first history before begun f f heard None out written out written
more-none o first history before begun f heard out written has = record {
  mine = [];
  mid = f;
  has = subst (HasHeard o first history begun f) (sym (append-nil heard)) has;
  gave = refl;
  placed = none-placed f.told;
  writes = writes-none out written;
}
  where
    none-placed : (told : Option FrontTold) → TellsOn (ReadsAt history before []) told told
    none-placed None = refl
    none-placed (Some t) = (t, refl, λ few. tt)

-- ## Behind a wait

last-behind : (last : Option Unanswered) (made : ℕ) (heard mine : List Heard) → heard ++ with_last last made mine ≡ with_last last made (heard ++ mine)
last-behind None made heard mine = refl
last-behind (Some u) made heard mine =
    sym (append_assoc heard mine (record { line = u.line; made = made; answer = u.answer } ∷ []))

one-read : (heard : List Heard) (h : Heard) (line : List ℕ) (told told' : Option FrontTold) → TellsOn (IsToldOn line None) told told'
    → IfSome told (AreAllRead heard) → IfSome told' (AreAllRead (heard ++ h ∷ []))
one-read heard h line None told' on read = subst (λ (x : Option FrontTold). IfSome x (AreAllRead (heard ++ h ∷ []))) (sym on) tt
one-read heard h line (Some t) told' on read =
    subst (λ (x : Option FrontTold). IfSome x (AreAllRead (heard ++ h ∷ []))) (sym on.1)
    (λ few. omega (arith, length-append heard (h ∷ []), on.2.read, few, read (omega (arith, few, on.2.read))))

-- the front tells as many lines as read, the last one among them
pub last-read : (last : Option Unanswered) (made : ℕ) (heard : List Heard) (mid new : FrontSeen) → GivesLast last mid new → IfSome mid.told (AreAllRead heard)
    → IfSome new.told (AreAllRead (with_last last made heard))
last-read None made heard mid new gave read = subst (λ (x : FrontSeen). IfSome x.told (AreAllRead heard)) (sym gave) read
last-read (Some u) made heard mid new gave read =
    let on = heard-command mid new u.line gave in
    one-read heard (record { line = u.line; made = made; answer = u.answer }) u.line mid.told new.told on.told read

-- of a front that tells
module _ (until : Option ℕ) (quiet : Bool) (answer : Woke) (ready : List ℕ) (t w u : FrontTold) (forward : GoesForward until quiet answer ready t w) (only : OnlyReadsAndTakes w u) where
  place-then : (rows : ℕ) (history history' more : List Entry) (moves : ℕ) (shares : List Share) (s : Share) (made : List Brought)
      (heard mine : List Heard) → history' ≡ history ++ more → brought history ≡ replicate moves moved ++ made_from 0 shares
      → made ≡ map ticked (ticks_by (moment_behind 0 shares) s.answer) ++ map signalled s.signals → (u.read < greatest_count → t.read ≤ u.read)
      → AreSharesOf rows t t.waits shares → AreWithin (length history) heard → AreReadInPlace history moves shares heard t → AreAllRead heard t
      → AreAllRead (heard ++ mine) u → ReadsAt history' (brought history ++ made) mine w u → AreReadInPlace history' moves (shares ++ s ∷ []) (heard ++ mine) u
  place-then rows history history' more moves shares s made heard mine is brings made_is order are within placed first both at few =
      let wait : WaitTold = record { began = progress_of t; until = until; quiet = quiet; slots = ready; answer = answer; passed = forward.passed } in
      let waits : u.waits ≡ t.waits ++ wait ∷ [] = ap (λ (x : FrontTold). x.waits) only.rest ∙ forward.waits in
      let fewer : t.read < greatest_count = omega (arith, few, order few) in
      let ticks = map ticked (ticks_by (moment_behind 0 shares) s.answer) in
      let signals = map signalled s.signals in
      let before : brought history ++ made ≡ (replicate moves moved ++ made_from 0 shares) ++ ticks ++ signals =
      ap (λ (xs : List Brought). xs ++ made) brings
      ∙ ap (λ (xs : List Brought). (replicate moves moved ++ made_from 0 shares) ++ xs) made_is
      ∙ sym (append_assoc (replicate moves moved ++ made_from 0 shares) ticks signals) in
      let many : length mine ≡ u.read - t.read = omega (arith, first fewer, both few, length-append heard mine, order few) in
      let there : AreReadAt (history ++ more) ((replicate moves moved ++ made_from 0 shares) ++ ticks ++ signals) t.hushed mine =
      subst (λ (b : Bool). AreReadAt (history ++ more) ((replicate moves moved ++ made_from 0 shares) ++ ticks ++ signals) b mine) forward.hushed
      (subst (λ (xs : List Brought). AreReadAt (history ++ more) xs w.hushed mine) before
      (subst (λ (es : List Entry). AreReadAt es (brought history ++ made) w.hushed mine) is (at few))) in
      subst (λ (es : List Entry). AreReadBehind u es (replicate moves moved) 0 u.waits (shares ++ s ∷ []) (heard ++ mine)) (sym is)
      (subst (λ (ws : List WaitTold). AreReadBehind u (history ++ more) (replicate moves moved) 0 ws (shares ++ s ∷ []) (heard ++ mine)) (sym waits)
      (behind-more rows t u history more (replicate moves moved) 0 t.waits shares wait s heard mine refl are within (placed fewer) many there))

-- of a front of any kind
place-on : (rows : ℕ) (until : Option ℕ) (quiet : Bool) (answer : Woke) (ready : List ℕ) (told mid new : Option FrontTold)
    (history history' more : List Entry) (moves : ℕ) (shares : List Share) (s : Share) (made : List Brought) (orders : List _) (heard mine : List Heard)
    → TellsOn (GoesForward until quiet answer ready) told mid → TellsOn OnlyReadsAndTakes mid new → TellsOn (ReadsFor orders) mid new
    → history' ≡ history ++ more → brought history ≡ replicate moves moved ++ made_from 0 shares
    → made ≡ map ticked (ticks_by (moment_behind 0 shares) s.answer) ++ map signalled s.signals → IfSome told (λ t. AreSharesOf rows t t.waits shares)
    → AreWithin (length history) heard → IfSome told (AreReadInPlace history moves shares heard) → IfSome told (AreAllRead heard)
    → IfSome new (AreAllRead (heard ++ mine)) → TellsOn (ReadsAt history' (brought history ++ made) mine) mid new
    → IfSome new (AreReadInPlace history' moves (shares ++ s ∷ []) (heard ++ mine))
place-on rows until quiet answer ready None mid new history history' more moves shares s made orders heard mine tells takes asked is brings made_is are within placed first both at =
    let none : new ≡ None = subst (λ (o : Option FrontTold). TellsOn OnlyReadsAndTakes o new) tells takes in
    subst (λ (o : Option FrontTold). IfSome o (AreReadInPlace history' moves (shares ++ s ∷ []) (heard ++ mine))) (sym none) tt
place-on rows until quiet answer ready (Some t) mid new history history' more moves shares s made orders heard mine tells takes asked is brings made_is are within placed first both at =
    let w = tells.0 in
    let only : TellsOn OnlyReadsAndTakes (Some w) new = subst (λ (o : Option FrontTold). TellsOn OnlyReadsAndTakes o new) tells.1 takes in
    let read : TellsOn (ReadsFor orders) (Some w) new = subst (λ (o : Option FrontTold). TellsOn (ReadsFor orders) o new) tells.1 asked in
    let where_read : TellsOn (ReadsAt history' (brought history ++ made) mine) (Some w) new =
    subst (λ (o : Option FrontTold). TellsOn (ReadsAt history' (brought history ++ made) mine) o new) tells.1 at in
    let u = only.0 in
    let one : read.0 ≡ u = let here = read.1 in let there = only.1 in cc (here, there) in
    let two : where_read.0 ≡ u = let here = where_read.1 in let there = only.1 in cc (here, there) in
    let asks : ReadsFor orders w u = subst (ReadsFor orders w) one read.2 in
    let same = tells.2.read in
    let all : AreAllRead (heard ++ mine) u = subst (λ (o : Option FrontTold). IfSome o (AreAllRead (heard ++ mine))) only.1 both in
    subst (λ (o : Option FrontTold). IfSome o (AreReadInPlace history' moves (shares ++ s ∷ []) (heard ++ mine))) (sym only.1)
    (place-then until quiet answer ready t w u tells.2 only.2 rows history history' more moves shares s made heard mine is brings made_is
    (λ few. let order = asks.reads few in omega (arith, order, same)) are within placed first all
    (subst (ReadsAt history' (brought history ++ made) mine w) two where_read.2))

-- all lines, with those that were read behind it
pub all-turn : (o : Opening) (n : RunNumbers) (rows : ℕ) (until : Option ℕ) (quiet : Bool) (answer : Woke) (ready : List ℕ) (a w b : FrontSeen)
    (history history' more : List Entry) (moves : ℕ) (shares : List Share) (s : Share) (made : List Brought) (orders : List _) (last : Option Unanswered)
    (out : SinkSeen) (written : Bool) (mid : SinkSeen) (whole : Bool) (out' : SinkSeen) (written' : Bool) → Waits a w until quiet answer ready
    → TellsOn OnlyReadsAndTakes w.told b.told → TellsOn (ReadsFor orders) w.told b.told → history' ≡ history ++ more
    → brought history ≡ replicate moves moved ++ made_from 0 shares
    → made ≡ map ticked (ticks_by (moment_behind 0 shares) s.answer) ++ map signalled s.signals → IfSome a.told (λ t. AreSharesOf rows t t.waits shares)
    → (all : HasHeardAll o n history moves shares None a out written mid whole)
    → HearsMore o (opened_by n) history' (brought history ++ made) o.front w b all.heard last mid whole out' written'
    → HasHeardAll o n history' moves (shares ++ s ∷ []) last b out written out' written'
all-turn o n rows until quiet answer ready a w b history history' more moves shares s made orders last out written mid whole out' written' waits takes asked is brings made_is are all further =
    let first = opened_by n in
    let has_a : HasHeard o first history o.front a all.heard = subst (λ (x : FrontSeen). HasHeard o first history o.front x all.heard) (sym all.gave) all.has in
    let within = within-answered o first history 0 0 all.heard all.has.answered in
    let behind = last-behind last (length history') all.heard further.mine in
    let read : IfSome b.told (AreAllRead (with_last last (length history') (all.heard ++ further.mine))) =
    last-read last (length history') (all.heard ++ further.mine) further.mid b further.gave further.has.read in
    let text : open_lines first history' (all.heard ++ further.mine) ≡ open_lines first history all.heard ++ open_lines first history' further.mine =
    flat_map-append (open_line_of first history') all.heard further.mine
    ∙ ap (λ (es : List Entry). open_lines first es all.heard ++ open_lines first history' further.mine) is
    ∙ ap (λ (xs : List ℕ). xs ++ open_lines first history' further.mine) (open-later first history more all.heard within) in
    record {
      heard = all.heard ++ further.mine;
      mid = further.mid;
      has = further.has;
      gave = further.gave;
      placed =
          subst (λ (hs : List Heard). IfSome b.told (AreReadInPlace history' moves (shares ++ s ∷ []) hs)) behind
          (place-on rows until quiet answer ready a.told w.told b.told history history' more moves shares s made orders all.heard
          (with_last last (length history') further.mine) waits.tells takes asked is brings made_is are within all.placed has_a.read
          (subst (λ (hs : List Heard). IfSome b.told (AreAllRead hs)) (sym behind) read) further.placed);
      writes =
          subst (λ (xs : List ℕ). WritesOn xs out written out' written') (sym text)
          (writes-more out mid out' written whole written' (open_lines first history all.heard) (open_lines first history' further.mine) all.writes further.writes);
    }
