-- What is heard of further lines, whatever the run: one more, none, or the last one; and what goes on over it.
use Rattle.std.proofs.Common.{◌≡◌, ◌<◌, ◌≤◌, ◌+◌, ◌||◌, ℕ, Bool, false, cond, List, [], ◌∷◌, ◌++◌, length, map, slice_get, take, Option, None, Some, IfSome, option_map, refl, sym, ap, subst, ◌∙◌, append-nil, append_assoc, arith}
use Rattle.std.proofs.Math.Seq.{take-append_seam}
use Rattle.std.proofs.lemmas.List.Sums.{sum_by-cons}
use Rattle.std.specs.List.{count_by}
use Rattle.mpm_base.specs.Count.{greatest_count, next_count}
use Rattle.mpm_base.specs.Front.{Commands, FrontSeen, FrontTold, TellsOn}
use Rattle.mpm_base.specs.Sink.{SinkSeen}
use Rattle.mpm_base.specs.Store.{StoreSeen}
use Rattle.mpm_base.specs.declared.script_line.CommandWord.{CommandWord}
use Rattle.conn_machine.specs.declared.event.Entry.{Entry}
use Rattle.conn_machine.specs.declared.event.Event.{Event}
use Rattle.conn_machine.specs.declared.state.State.{State}
use Rattle.conn_machine.specs.Events.{count_events, is_order}
use Rattle.conn_machine.specs.Runs.{after}
use Rattle.conn_machine.specs.Table.{next}
use Rattle.conn_state.specs.Known.{KnownOutside}
use Rattle.board_book.specs.Book.{SeenBook}
use Rattle.worker_group.specs.Acts.{Acts, events_of}
use Rattle.rounds.specs.PartsInside.{StaysTimely}
use Rattle.listener_round.specs.Commands.{asked_by}
use Rattle.listener_round.specs.FirstNumbers.{opened_by}
use Rattle.listener_round.specs.Generations.{Opening, renewed}
use Rattle.listener_round.specs.Heard.{AreReadAt, AreToldBy, Heard, asks_to_restart, open_lines}
use Rattle.listener_round.specs.HeardInside.{HasHeard, Hearing, Hears, HearsMore, KeepsHeard, ReadsAt, StaysHeard, Unanswered, WritesOn, hearing, with_last}
use Rattle.listener_round.specs.LineAnswers.{IsAnswerTo}
use Rattle.listener_round.specs.Pace.{Brought, brought, lines_between, ordered}
use Rattle.listener_round.specs.StandingInside.{IsOpenedBy, Past, Standing, StandsOn, StandsSo, entries_behind, standing}
use Rattle.listener_round.specs.declared.edition.NamedConfig.{NamedConfig}
use Rattle.listener_round.specs.declared.run_numbers.RunNumbers.{RunNumbers}
use Rattle.rounds.proofs.AddedLemmas.{added-events, added-own, events_in}
use Rattle.listener_round.proofs.BroughtLemmas.{brought-behind}
use Rattle.listener_round.proofs.CommandlessLemmas.{commandless-added}
use Rattle.listener_round.proofs.HeardLineLemmas.{IsHeardOn, IsToldOn, has-kept, has-later, has-line, heard-command, keeps-command, mine-lines}
use Rattle.listener_round.proofs.HeedLemmas.{HasHeeded}
use Rattle.listener_round.proofs.LineLemmas.{HasRead, reads-none}
use Rattle.listener_round.proofs.OpenLemmas.{open-later, open-snoc, state_text}
use Rattle.listener_round.proofs.PartLemmas.{ActsOrderless}
use Rattle.listener_round.proofs.PlacedLemmas.{AreWithin, placed-later, placed-snoc, within-answered, within-back}
use Rattle.listener_round.proofs.StandingLemmas.{entries-acts, keeps-plain, past-base}
use Rattle.listener_round.proofs.WrittenLemmas.{writes-more, writes-none}

-- ## Where a line was read

-- one more was read behind what the others ask for
placed-line : (words : List CommandWord) (told mid new : Option FrontTold) (history more : List Entry) (from : List Brought) (heard mine : List Heard)
    (line : List ℕ) (answer other : Option (List ℕ)) → HasRead words told mid → brought history ≡ from ++ map ordered words → AreWithin (length history) mine
    → IfSome told (AreToldBy heard) → IfSome mid (AreToldBy (heard ++ mine)) → TellsOn (ReadsAt history (from ++ []) mine) told mid
    → TellsOn (IsToldOn line answer) mid new
    → TellsOn (ReadsAt (history ++ more) (from ++ []) (mine ++ record { line = line; made = length history; answer = other } ∷ [])) told new
placed-line words None mid new history more from heard mine line answer other so makes within first both at on =
    subst (λ (x : Option FrontTold). TellsOn (IsToldOn line answer) x new) so on
placed-line words (Some t) mid new history more from heard mine line answer other so makes within first both at on =
    let m = so.0 in
    let then : TellsOn (IsToldOn line answer) (Some m) new = subst (λ (x : Option FrontTold). TellsOn (IsToldOn line answer) x new) so.1 on in
    let told_both : AreToldBy (heard ++ mine) m = subst (λ (x : Option FrontTold). IfSome x (AreToldBy (heard ++ mine))) so.1 both in
    let same : at.0 ≡ m = let here = at.1 in let there = so.1 in cc (here, there) in
    let there : ReadsAt history (from ++ []) mine t m = subst (ReadsAt history (from ++ []) mine t) same at.2 in
    let h : Heard = record { line = line; made = length history; answer = other } in (
      then.0,
      then.1,
      λ few.
          let fewer : m.read < greatest_count = omega (arith, few, then.2.read) in
          let order = so.2.read fewer in
          let lines = mine-lines t m heard mine order so.2.lines (first.lines (omega (arith, fewer, order))) (told_both.lines fewer) in
          placed-snoc (history ++ more) (from ++ []) t.hushed mine h (placed-later history more (from ++ []) t.hushed mine within (there fewer))
          (ap brought (take-append_seam history more)
          ∙ makes
          ∙ ap (λ (ws : List CommandWord). from ++ map ordered ws) (so.2.reads.asks fewer ∙ ap (asked_by t.hushed) (sym lines))
          ∙ ap (λ (xs : List Brought). xs ++ map ordered (asked_by t.hushed (map (λ (x : Heard). x.line) mine))) (sym (append-nil from))),
    )

-- none was
places-kept : (history more : List Entry) (before : List Brought) (mine : List Heard) (told mid new : Option FrontTold) → AreWithin (length history) mine
    → TellsOn (ReadsAt history before mine) told mid → TellsOn StaysHeard mid new → TellsOn (ReadsAt (history ++ more) before mine) told new
places-kept history more before mine None mid new within at stays = subst (λ (x : Option FrontTold). TellsOn StaysHeard x new) at stays
places-kept history more before mine (Some t) mid new within at stays =
    let then : TellsOn StaysHeard (Some at.0) new = subst (λ (x : Option FrontTold). TellsOn StaysHeard x new) at.1 stays in (
      then.0,
      then.1,
      λ few. placed-later history more before t.hushed mine within (at.2 (omega (arith, few, then.2.read))),
    )

places-none : (history : List Entry) (before : List Brought) (told new : Option FrontTold) → TellsOn StaysHeard told new
    → TellsOn (ReadsAt history before []) told new
places-none history before None new stays = stays
places-none history before (Some t) new stays = (stays.0, stays.1, λ few. tt)

-- ## Where the run stands

after-both : (s : State) (a b : List Entry) → after s (a ++ b) ≡ after (after s a) b
after-both s [] b = refl
after-both s (e ∷ a) b = after-both (next s e.event) a b

-- its state is the one behind all entries
state-so : (known : Option KnownOutside) (o : Opening) (n : RunNumbers) (past : Past) (s : Standing) → StandsSo known o n past 0 0 s
    → after s.book.base s.book.history ≡ s.book.state → after (opened_by n) (entries_behind past s.book) ≡ s.book.state
state-so known o n past s stood state =
    after-both (opened_by n) past.entries s.book.history
    ∙ ap (λ (base : State). after base s.book.history) (sym (past-base known o n past 0 0 s stood))
    ∙ state

-- its store was renewed at each order
renewed-so : (known : Option KnownOutside) (o : Opening) (n : RunNumbers) (past : Past) (s : Standing) → StandsSo known o n past 0 0 s
    → s.store.told ≡ option_map (renewed (count_events is_order (entries_behind past s.book))) o.store.told
renewed-so known o n past s stood =
    let same : entries_behind past s.book ≡ stood.folded.entries ++ s.book.history = ap (λ (p : Past). p.entries ++ s.book.history) stood.past_is in
    let counts : count_events is_order (entries_behind past s.book) ≡ count_events is_order (stood.folded.entries ++ s.book.history) =
    ap (count_events is_order) same in
    let many : stood.renewals ≡ count_events is_order (entries_behind past s.book) = omega (arith, stood.each, stood.no_more, counts) in
    subst (λ (k : ℕ). s.store.told ≡ option_map (renewed k) o.store.told) many stood.store.told

-- ## The events of a line

-- by these events a line is answered so, whatever the run, where its store is this one
pub record AnswersLine (c : NamedConfig) (store : StoreSeen) (s : State) (es : List Event) (line text : List ℕ) : Type 0 where
  pub orders : count_by is_order es ≡ cond (asks_to_restart line) 1 0
  pub answer :
      (o : Opening) (orders : ℕ) → IsOpenedBy c o → store.told ≡ option_map (renewed orders) o.store.told
      → IsAnswerTo o orders s (slice_get es 0) line text

counted-in : (test : Event → Bool) (entries : List Entry) → count_events test entries ≡ count_by test (events_in entries)
counted-in test [] = refl
counted-in test (e ∷ entries) =
    sum_by-cons (λ (x : Entry). cond (test x.event) 1 0) e entries
    ∙ ap (λ (n : ℕ). cond (test e.event) 1 0 + n) (counted-in test entries)
    ∙ sym (sum_by-cons (λ (x : Event). cond (test x) 1 0) e.event (events_in entries))

pub acts-events : (es : List Event) (a b : SeenBook) (acts : Acts 0 es None a b) → events_of 0 acts.entries.0 ≡ es
acts-events es a b acts =
    ap events_in (added-own 0 a.base a.folded a.history acts.entries.0 acts.entries.2) ∙ added-events 0 es None a b acts

-- ## One line more, or none

module _ (known : Option KnownOutside) (c : NamedConfig) (ms ms' : ℕ) (s s' : StoreSeen) (f mid : FrontSeen) (a b : SeenBook) (out now : SinkSeen) (written was : Bool) (heeded : HasHeeded known c ms ms' s s' f mid a b) (hears : Hears known c [] None (hearing (standing ms s f a) out written) (hearing (standing ms' s' mid b) now was)) where
  read-so : HasRead heeded.words f.told mid.told
  read-so = heeded.reads [] f.told (reads-none f.told)

  -- one was read, done and answered
  pub hears-line : (then : Standing) (out' : SinkSeen) (written' : Bool) (line text : List ℕ) (es : List Event) → after b.base b.history ≡ b.state
      → Acts 0 es None b then.book → AnswersLine c s' b.state es line text → IsHeardOn line (Some text) mid then.front
      → WritesOn (state_text b.state line) now was out' written'
      → Hears known c [] None (hearing (standing ms s f a) out written) (hearing then out' written')
  hears-line then out' written' line text es state acts answers on writes o n past heard opened timely stood has =
      let more = hears o n past heard opened timely stood has in
      let there : StandsSo known o n past 0 0 (standing ms' s' mid b) = heeded.stands o n past opened timely stood in
      let first = opened_by n in
      let entries = entries_behind past b in
      let added = acts.entries.0 in
      let before = brought (entries_behind past a) ++ [] in
      let grows : entries_behind past then.book ≡ entries ++ added = entries-acts 0 es None b then.book acts past.entries in
      let here : after first entries ≡ b.state = state-so known o n past (standing ms' s' mid b) there state in
      let has_mid : HasHeard o first entries o.front mid (heard ++ more.mine) =
      subst (λ (x : FrontSeen). HasHeard o first entries o.front x (heard ++ more.mine)) (sym more.gave) more.has in
      let within = within-back (length entries) heard more.mine (within-answered o first entries 0 0 (heard ++ more.mine) has_mid.answered) in
      let is : IsAnswerTo o (count_events is_order entries) (after first entries) (slice_get (events_of 0 added) 0) line text =
      subst (λ (st : State). IsAnswerTo o (count_events is_order entries) st (slice_get (events_of 0 added) 0) line text) (sym here)
      (subst (λ (xs : List Event). IsAnswerTo o (count_events is_order entries) b.state (slice_get xs 0) line text) (sym (acts-events es b then.book acts))
      (answers.answer o (count_events is_order entries) opened (renewed-so known o n past (standing ms' s' mid b) there))) in
      let h : Heard = record { line = line; made = length entries; answer = Some text } in
      let many : count_events is_order added ≡ cond (asks_to_restart line) 1 0 =
      counted-in is_order added ∙ ap (count_by is_order) (added-events 0 es None b then.book acts) ∙ answers.orders in
      let text_is : open_lines first (entries ++ added) (more.mine ++ h ∷ []) ≡ open_lines first entries more.mine ++ state_text b.state line =
      open-snoc first entries added more.mine line (Some text) within
      ∙ ap (λ (st : State). open_lines first entries more.mine ++ state_text st line) here in
      subst (λ (xs : List Entry). HearsMore o first xs before o.front f then.front heard None out written out' written') (sym grows)
      (record {
        mine = more.mine ++ h ∷ [];
        mid = then.front;
        has =
            subst (HasHeard o first (entries ++ added) o.front then.front) (append_assoc heard more.mine (h ∷ []))
            (has-line o first entries added o.front mid then.front (heard ++ more.mine) line text has_mid on many is);
        gave = refl;
        placed =
            placed-line heeded.words f.told mid.told then.front.told entries added (brought (entries_behind past a)) heard more.mine line (Some text) (Some text)
            read-so (brought-behind past.entries a.history b.history (map ordered heeded.words) heeded.makes) within has.told has_mid.told more.placed on.told;
        writes =
            subst (λ (xs : List ℕ). WritesOn xs out written out' written') (sym text_is)
            (writes-more out now out' written was written' (open_lines first entries more.mine) (state_text b.state line) more.writes writes);
      })

  -- one was read that isn't answered yet
  pub hears-last : (then : Standing) (last : Unanswered) → then.book ≡ b → Commands mid then.front (Some last.line)
      → Hears known c [] (Some last) (hearing (standing ms s f a) out written) (hearing then now was)
  hears-last then last same gave o n past heard opened timely stood has =
      let more = hears o n past heard opened timely stood has in
      let first = opened_by n in
      let entries = entries_behind past b in
      let before = brought (entries_behind past a) ++ [] in
      let has_mid : HasHeard o first entries o.front mid (heard ++ more.mine) =
      subst (λ (x : FrontSeen). HasHeard o first entries o.front x (heard ++ more.mine)) (sym more.gave) more.has in
      let within = within-back (length entries) heard more.mine (within-answered o first entries 0 0 (heard ++ more.mine) has_mid.answered) in
      let on = heard-command mid then.front last.line gave in
      subst (λ (x : SeenBook). HearsMore o first (entries_behind past x) before o.front f then.front heard (Some last) out written now was) (sym same)
      (record {
        mine = more.mine;
        mid = mid;
        has = has_mid;
        gave = gave;
        placed =
            subst (λ (xs : List Entry). TellsOn (ReadsAt xs before (with_last (Some last) (length entries) more.mine)) f.told then.front.told) (append-nil entries)
            (placed-line heeded.words f.told mid.told then.front.told entries [] (brought (entries_behind past a)) heard more.mine last.line None last.answer
            read-so (brought-behind past.entries a.history b.history (map ordered heeded.words) heeded.makes) within has.told has_mid.told more.placed on.told);
        writes = more.writes;
      })

-- ## What goes on over it

-- entries none of which is an order, over a front that gave no line
pub hears-kept : (known : Option KnownOutside) (c : NamedConfig) (made : List Brought) (old : Hearing) (s s' : Standing) (out : SinkSeen) (written : Bool)
    → ActsOrderless s.book s'.book → KeepsHeard s.front s'.front → Hears known c made None old (hearing s out written)
    → Hears known c made None old (hearing s' out written)
hears-kept known c made old s s' out written orderless keeps hears o n past heard opened timely stood has =
    let more = hears o n past heard opened timely stood has in
    let first = opened_by n in
    let entries = entries_behind past s.book in
    let added = orderless.acts.entries.0 in
    let before = brought (entries_behind past old.stands.book) ++ made in
    let grows : entries_behind past s'.book ≡ entries ++ added = entries-acts 0 orderless.events None s.book s'.book orderless.acts past.entries in
    let plain =
    keeps-plain o first entries added (commandless-added 0 orderless.events None s.book s'.book orderless.acts orderless.none) in
    let has_mid : HasHeard o first entries o.front s.front (heard ++ more.mine) =
    subst (λ (x : FrontSeen). HasHeard o first entries o.front x (heard ++ more.mine)) (sym more.gave) more.has in
    let within = within-back (length entries) heard more.mine (within-answered o first entries 0 0 (heard ++ more.mine) has_mid.answered) in
    subst (λ (xs : List Entry). HearsMore o first xs before o.front old.stands.front s'.front heard None old.out old.written out written) (sym grows)
    (record {
      mine = more.mine;
      mid = s'.front;
      has =
          has-kept o first (entries ++ added) o.front s.front s'.front (heard ++ more.mine) keeps
          (has-later o first entries added o.front s.front (heard ++ more.mine) plain.orders has_mid);
      gave = refl;
      placed = places-kept entries added before more.mine old.stands.front.told s.front.told s'.front.told within more.placed keeps.told;
      writes =
          subst (λ (xs : List ℕ). WritesOn xs old.out old.written out written) (sym (open-later first entries added more.mine within)) more.writes;
    })

-- where nothing was read
pub hears-same : (known : Option KnownOutside) (c : NamedConfig) (made : List Brought) (s s' : Standing) (out : SinkSeen) (written : Bool)
    → ActsOrderless s.book s'.book → KeepsHeard s.front s'.front → Hears known c made None (hearing s out written) (hearing s' out written)
hears-same known c made s s' out written orderless keeps o n past heard opened timely stood has =
    let first = opened_by n in
    let entries = entries_behind past s.book in
    let added = orderless.acts.entries.0 in
    let before = brought entries ++ made in
    let grows : entries_behind past s'.book ≡ entries ++ added = entries-acts 0 orderless.events None s.book s'.book orderless.acts past.entries in
    let plain =
    keeps-plain o first entries added (commandless-added 0 orderless.events None s.book s'.book orderless.acts orderless.none) in
    subst (λ (xs : List Entry). HearsMore o first xs before o.front s.front s'.front heard None out written out written) (sym grows)
    (record {
      mine = [];
      mid = s'.front;
      has =
          subst (HasHeard o first (entries ++ added) o.front s'.front) (sym (append-nil heard))
          (has-kept o first (entries ++ added) o.front s.front s'.front heard keeps (has-later o first entries added o.front s.front heard plain.orders has));
      gave = refl;
      placed = places-none (entries ++ added) before s.front.told s'.front.told keeps.told;
      writes = writes-none out written;
    })

-- behind what was made before
pub hears-before : (known : Option KnownOutside) (c : NamedConfig) (made : List Brought) (last : Option Unanswered) (ms : ℕ) (store : StoreSeen)
    (front : FrontSeen) (a d : SeenBook) (out : SinkSeen) (written : Bool) (new : Hearing) → ActsOrderless a d → StaysTimely a d
    → StandsOn known c 0 0 (standing ms store front a) (standing ms store front d) → brought d.history ≡ brought a.history ++ made
    → Hears known c [] last (hearing (standing ms store front d) out written) new → Hears known c made last (hearing (standing ms store front a) out written) new
hears-before known c made last ms store front a d out written new orderless timely stands brings hears o n past heard opened before stood has =
    let first = opened_by n in
    let entries = entries_behind past a in
    let added = orderless.acts.entries.0 in
    let grows : entries_behind past d ≡ entries ++ added = entries-acts 0 orderless.events None a d orderless.acts past.entries in
    let plain = keeps-plain o first entries added (commandless-added 0 orderless.events None a d orderless.acts orderless.none) in
    let there : HasHeard o first (entries_behind past d) o.front front heard =
    subst (λ (xs : List Entry). HasHeard o first xs o.front front heard) (sym grows) (has-later o first entries added o.front front heard plain.orders has) in
    let more = hears o n past heard opened (timely before) (stands o n past opened before stood) there in
    record {
      mine = more.mine;
      mid = more.mid;
      has = more.has;
      gave = more.gave;
      placed =
          subst (λ (xs : List Brought). TellsOn (ReadsAt (entries_behind past new.stands.book) xs (with_last last (length (entries_behind past new.stands.book)) more.mine))
          front.told new.stands.front.told) (append-nil (brought (entries_behind past d)) ∙ brought-behind past.entries a.history d.history made brings) more.placed;
      writes = more.writes;
    }
