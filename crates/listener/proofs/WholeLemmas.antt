-- What a run did, of all its entries, on its way.
use Rattle.std.proofs.Common.{◌≡◌, ℕ, ◌<◌, false, List, [], ◌∷◌, ◌++◌, length, map, min, replicate, take, Option, None, Some, IfSome, refl, sym, ap, subst, ◌∙◌, append-nil, append_assoc}
use Rattle.std.proofs.lemmas.List.{length-replicate, map-append}
use Rattle.std.specs.List.{list_any}
use Rattle.mpm_base.specs.Count.{greatest_count}
use Rattle.mpm_base.specs.Front.{FrontTold, WaitTold}
use Rattle.conn_machine.specs.declared.event.Entry.{Entry}
use Rattle.conn_machine.specs.declared.event.Event.{Event}
use Rattle.conn_machine.specs.declared.state.State.{State}
use Rattle.conn_machine.specs.Children.{no_child}
use Rattle.conn_machine.specs.Events.{count_events, is_order}
use Rattle.conn_machine.specs.Runs.{after, AllAt}
use Rattle.conn_machine.specs.States.{unused_row}
use Rattle.conn_state.specs.Known.{KnownOutside}
use Rattle.board.specs.Board.{SeenBoard}
use Rattle.board_book.specs.Book.{SeenBook}
use Rattle.worker_group.specs.Acts.{Acts}
use Rattle.rounds.specs.PartsInside.{StartsSome, StaysTimely}
use Rattle.board_book.specs.Started.{BeginsWithStarts, starts_of}
use Rattle.rounds.specs.TableInside.{asked_children}
use Rattle.board_book.specs.Timely.{AreTimely}
use Rattle.conn_machine.specs.Table.{next}
use Rattle.rounds.proofs.TimelyLemmas.{all-both}
use Rattle.listener_round.specs.Commands.{asks_to_end}
use Rattle.listener_round.specs.FirstNumbers.{opened_by}
use Rattle.listener_round.specs.FirstNumbersInside.{opened_book}
use Rattle.listener.specs.FoldsInside.{ListensOn}
use Rattle.listener_round.specs.Generations.{Opening}
use Rattle.listener_round.specs.HeardInside.{HasHeardAll}
use Rattle.listener.specs.ListenInside.{HasNotBegun}
use Rattle.listener_round.specs.FrontInside.{StaysWatching, WatchesAll}
use Rattle.listener_round.specs.Pace.{AreSharesOf, AreSharesOfAll, Brought, Share, answers_in, brought, made_from, moment_behind, moved, progress_at}
use Rattle.listener.specs.Patient.{HasNothingCome, IsPatientEvent, IsPatientRun}
use Rattle.listener_round.specs.StandingInside.{IsOpenedBy, Past, StandsFolded, StandsOn, StandsSo, entries_behind, standing}
use Rattle.listener.specs.StartedFirst.{IsStartedFirst, first_children}
use Rattle.listener_round.specs.Times.{answers_of}
use Rattle.listener.specs.TurnsInside.{IsBegun, KeepsUp, SeenListener, stands_at}
use Rattle.listener_round.specs.Watched.{AreClosedAtOnce, link_watched}
use Rattle.listener_round.specs.declared.run_numbers.RunNumbers.{RunNumbers}
use Rattle.listener_round.proofs.BroughtLemmas.{brings-starts, brought-as, brought-behind}
use Rattle.listener_round.proofs.CommandlessLemmas.{commandless-added, commandless-starts}
use Rattle.listener.proofs.HeardAllLemmas.{all-first, all-later}
use Rattle.listener.proofs.ShareLemmas.{AreBegunBy}
use Rattle.listener_round.proofs.StandingLemmas.{entries-acts, keeps-plain, past-base}

-- ## What holds on the way

-- all but the pace of a run that stands so: where the front waited the children were started before all else; each link that the table took was watched; and in
-- what was folded time passed patiently
pub record KeepsWhole (known : Option KnownOutside) (o : Opening) (n : RunNumbers) (past : Past) (spare owed : ℕ) (l : SeenListener) : Type 0 where
  pub stands : StandsSo known o n past spare owed (stands_at l)
  pub rows : length l.board.book.base.rows ≡ n.slots
  pub started : IfSome l.front.told (IsStartedFirst n (entries_behind past l.board.book))
  pub watched : IfSome l.front.told (WatchesAll l.board.book.state (entries_behind past l.board.book))
  pub patient : IfSome o.front.told HasNothingCome → IsPatientRun l.front.told l.calls (opened_by n) past.entries

-- the shares are those of a front that goes on
pub record IsShared (rows : ℕ) (shares : List Share) (t : FrontTold) : Type 0 where
  pub are : AreSharesOfAll rows t shares
  pub begun : AreBegunBy (length t.lines) t.waits
  pub hushed : t.read < greatest_count → t.hushed ≡ list_any asks_to_end (take t.read t.lines)

-- the pace of a run that opened so and stands so, all of whose entries these are; and all that was heard, since the listener was the one
pub record IsOnPace (o : Opening) (n : RunNumbers) (from l : SeenListener) (entries : List Entry) : Type 0 where
  pub shares : List Share
  pub front : IfSome l.front.told (IsShared n.slots shares)
  pub clock : IfSome l.calls (λ calls. answers_in shares ≡ answers_of calls)
  pub first : ℕ
  pub brought_is : brought entries ≡ replicate first moved ++ made_from 0 shares
  pub moment : l.board.book.state.moment ≡ moment_behind 0 shares
  pub heard : HasHeardAll o n entries first shares None l.front from.out from.written l.out l.written

-- both, once the children were started, since the listener was the one
pub record IsWhole (known : Option KnownOutside) (o : Opening) (n : RunNumbers) (from l : SeenListener) : Type 0 where
  pub past : Past
  pub keeps : KeepsWhole known o n past 0 0 l
  pub begins : BeginsWithStarts (first_children n) (entries_behind past l.board.book)
  pub pace : IsOnPace o n from l (entries_behind past l.board.book)

-- it holds of each run that opened as the first one says
abbrev pub WholeFrom : Option KnownOutside → SeenListener → SeenListener → Type 0
WholeFrom known first now = (o : Opening) (n : RunNumbers) → IsOpenedBy first.config o → IsBegun known o n first → IsWhole known o n first now

-- it was time for each of the entries that are kept
pub timely-begun : (known : Option KnownOutside) (o : Opening) (n : RunNumbers) (first now : SeenListener) → IsBegun known o n first
    → StaysTimely first.board.book now.board.book → AreTimely now.board.book.base now.board.book.history
timely-begun known o n first now begun stays =
    stays (subst (λ (b : SeenBook). AreTimely b.base b.history) (sym begun.book) tt)

-- ## A step

-- entries behind starts
pub begins-behind : (n : ℕ) (entries more entries' : List Entry) → entries' ≡ entries ++ more → BeginsWithStarts n entries → BeginsWithStarts n entries'
begins-behind n entries more entries' is begins =
    let events = map (λ (e : Entry). e.event) more in (
      begins.0 ++ events,
      ap (map (λ (e : Entry). e.event)) is
          ∙ map-append (λ (e : Entry). e.event) entries more
          ∙ ap (λ (xs : List Event). xs ++ events) begins.1
          ∙ append_assoc (starts_of n) begins.0 events,
    )

started-if : (n : RunNumbers) (told : Option FrontTold) (entries : List Entry) → BeginsWithStarts (first_children n) entries
    → IfSome told (IsStartedFirst n entries)
started-if n None entries begins = tt
started-if n (Some t) entries begins = λ waited. begins

-- they stay the first ones
pub begins-acts : (n : RunNumbers) (past : Past) (who : ℕ) (es : List Event) (a b : SeenBook) → Acts who es None a b
    → BeginsWithStarts (first_children n) (entries_behind past a) → BeginsWithStarts (first_children n) (entries_behind past b)
begins-acts n past who es a b acts begins =
    begins-behind (first_children n) (entries_behind past a) acts.entries.0 (entries_behind past b) (entries-acts who es None a b acts past.entries) begins

-- a pass did something, and so the run stands then
pub whole-acts : (known : Option KnownOutside) (o : Opening) (n : RunNumbers) (past : Past) (spare owed : ℕ) (who : ℕ) (es : List Event) (a b : SeenListener)
    → Acts who es None a.board.book b.board.book → IsOpenedBy a.config o → AreTimely a.board.book.base a.board.book.history
    → StandsOn known a.config spare owed (stands_at a) (stands_at b)
    → StaysWatching a.front.told b.front.told a.board.book b.board.book
    → ((s : State) (history : List Entry) → IsPatientRun a.front.told a.calls s history → IsPatientRun b.front.told b.calls s history)
    → BeginsWithStarts (first_children n) (entries_behind past a.board.book) → KeepsWhole known o n past 0 0 a → KeepsWhole known o n past spare owed b
whole-acts known o n past spare owed who es a b acts opened timely stands watched patient begins whole = record {
  stands = stands o n past opened timely whole.stands;
  rows = ap (λ (s : State). length s.rows) acts.base ∙ whole.rows;
  started =
      started-if n b.front.told (entries_behind past b.board.book) (begins-acts n past who es a.board.book b.board.book acts begins);
  watched = watched past.entries whole.watched;
  patient = λ none. patient (opened_by n) past.entries (whole.patient none);
}

-- ## What is said of all entries

-- time passed patiently in all of them
patient-all : (o : Opening) (n : RunNumbers) (past : Past) (l : SeenListener) → l.board.book.base ≡ after (opened_by n) past.entries
    → IsPatientRun l.front.told l.calls (opened_by n) past.entries → IsPatientRun l.front.told l.calls l.board.book.base l.board.book.history
    → IsPatientRun l.front.told l.calls (opened_by n) (entries_behind past l.board.book)
patient-all o n past l base first second steady =
    all-both (IsPatientEvent steady.comings steady.front.waits) (opened_by n) past.entries l.board.book.history (first steady)
    (subst (λ (s : State). AllAt (IsPatientEvent steady.comings steady.front.waits) s l.board.book.history) base (second steady))

pub keeps-up : (known : Option KnownOutside) (o : Opening) (n : RunNumbers) (past : Past) (spare owed : ℕ) (l : SeenListener) (whole : KeepsWhole known o n past spare owed l)
    → (IfSome o.front.told HasNothingCome → IsPatientRun l.front.told l.calls l.board.book.base l.board.book.history)
    → KeepsUp o n l (entries_behind past l.board.book)
keeps-up known o n past spare owed l whole patient = record {
  started = whole.started;
  watched = whole.watched;
  patient =
      λ none. patient-all o n past l (past-base known o n past spare owed (stands_at l) whole.stands) (whole.patient none) (patient none);
}

-- ## The start

-- nothing was folded
abbrev pub nothing_past : Past
nothing_past = record { entries = []; ended = [] }

first-watches : (l : SeenListener) (n : RunNumbers) (told : Option FrontTold) → l.board.book ≡ opened_book n → IfSome told HasNotBegun
    → IfSome told (WatchesAll l.board.book.state ([] ++ l.board.book.history))
first-watches l n None book unused = tt
first-watches l n (Some t) book unused =
    subst (λ (b : SeenBook). WatchesAll b.state ([] ++ b.history) t) (sym book)
    (record {
      watches =
          record {
            watches = ap (map link_watched) unused.watches;
            failed = subst (AreClosedAtOnce []) (sym unused.watches) tt;
          };
      count = refl;
    })

-- no wait, and no share
none-shared : (rows : ℕ) (told : Option FrontTold) → IfSome told HasNotBegun → IfSome told (IsShared rows [])
none-shared rows None unused = tt
none-shared rows (Some t) unused = record {
  are =
      record {
        unread = subst (λ (ws : List WaitTold). (progress_at t ws).read ≡ 0) (sym unused.waits) unused.read;
        untaken = subst (λ (ws : List WaitTold). (progress_at t ws).accepted ≡ 0) (sym unused.waits) unused.accepted;
        each = subst (λ (ws : List WaitTold). AreSharesOf rows t ws []) (sym unused.waits) refl;
      };
  begun = subst (AreBegunBy (length t.lines)) (sym unused.waits) tt;
  hushed = λ few. unused.hushed ∙ sym (ap (λ (m : ℕ). list_any asks_to_end (take m t.lines)) unused.read ∙ none-taken t.lines);
} where
  none-taken : (lines : List (List ℕ)) → list_any asks_to_end (take 0 lines) ≡ false
  none-taken [] = refl
  none-taken (line ∷ lines) = refl

none-answered : (calls : Option (List (ℕ × ℕ))) → IfSome calls (λ calls. calls ≡ []) → IfSome calls (λ calls. answers_in [] ≡ answers_of calls)
none-answered None unasked = tt
none-answered (Some calls) unasked = sym (ap answers_of unasked)

-- none of the first entries is an order
begun-orders : (known : Option KnownOutside) (o : Opening) (n : RunNumbers) (l : SeenListener) (b : SeenBoard) → IsBegun known o n l
    → StartsSome l.board.book b.book → count_events is_order (entries_behind nothing_past b.book) ≡ 0
begun-orders known o n l b begun starts =
    let acts = starts.acts in
    let plain =
    keeps-plain o (opened_by n) ([] ++ l.board.book.history) acts.entries.0
    (commandless-added 0 _ None l.board.book b.book acts (commandless-starts starts.children)) in
    ap (count_events is_order) (entries-acts 0 _ None l.board.book b.book acts [])
    ∙ plain.orders
    ∙ ap (λ (x : SeenBook). count_events is_order ([] ++ x.history)) begun.book

begun-told : (P : FrontTold → Type 0) (told : Option FrontTold) → ((t : FrontTold) → HasNotBegun t → P t) → IfSome told HasNotBegun → IfSome told P
begun-told P None holds unused = tt
begun-told P (Some t) holds unused = holds t unused

-- what was brought at the start
pub begun-pace : (known : Option KnownOutside) (o : Opening) (n : RunNumbers) (l : SeenListener) (b : SeenBoard) → IsBegun known o n l
    → StartsSome l.board.book b.book → b.book.state.moment ≡ l.board.book.state.moment
    → IsOnPace o n l (record l { board = b }) (entries_behind nothing_past b.book)
begun-pace known o n l b begun starts moment =
    let none : brought l.board.book.history ≡ [] = ap (λ (x : SeenBook). brought x.history) begun.book in
    record {
      shares = [];
      front = none-shared n.slots l.front.told begun.unused;
      clock = none-answered l.calls begun.unasked;
      first = length starts.children;
      brought_is =
          brought-as _ None l.board.book b.book (replicate (length starts.children) moved) starts.acts (brings-starts starts.children)
          ∙ ap (λ (xs : List Brought). xs ++ replicate (length starts.children) moved) none
          ∙ sym (append-nil (replicate (length starts.children) moved));
      moment = moment ∙ ap (λ (x : SeenBook). x.state.moment) begun.book;
      heard =
          all-first o n (entries_behind nothing_past b.book) (length starts.children) l.front l.out l.written (begun-orders known o n l b begun starts)
          (begun-told (λ t. t.read ≡ 0) l.front.told (λ t unused. unused.read) begun.unused)
          (begun-told (λ t. t.answers ≡ []) l.front.told (λ t unused. unused.answers) begun.unused)
          (begun-told (λ t. t.waits ≡ []) l.front.told (λ t unused. unused.waits) begun.unused) begun.words begun.answers;
    }

-- and all else, where the children that were started at first are so
pub begun-keeps : (known : Option KnownOutside) (o : Opening) (n : RunNumbers) (l : SeenListener) (b : SeenBoard) → IsOpenedBy l.config o → IsBegun known o n l
    → StartsSome l.board.book b.book → StandsOn known l.config 0 0 (stands_at l) (stands_at (record l { board = b }))
    → StaysWatching l.front.told l.front.told l.board.book b.book → IfSome l.front.told (IsStartedFirst n (entries_behind nothing_past b.book))
    → KeepsWhole known o n nothing_past 0 0 (record l { board = b })
begun-keeps known o n l b opened begun starts stands watched started = record {
  stands = stands o n nothing_past opened (timely-begun known o n l l begun (λ before. before)) begun.stands;
  rows =
      ap (λ (s : State). length s.rows) starts.acts.base
      ∙ ap (λ (x : SeenBook). length x.base.rows) begun.book
      ∙ length-replicate n.slots unused_row;
  started = started;
  watched = watched [] (first-watches l n l.front.told begun.book begun.unused);
  patient = λ none steady. tt;
}

-- the children were started
pub whole-begun : (known : Option KnownOutside) (o : Opening) (n : RunNumbers) (l m : SeenListener) → IsOpenedBy l.config o → IsBegun known o n l
    → m ≡ record l { board = m.board } → StartsSome l.board.book m.board.book → BeginsWithStarts (asked_children l.board.book.base) m.board.book.history
    → m.board.book.state.moment ≡ l.board.book.state.moment → StandsOn known l.config 0 0 (stands_at l) (stands_at (record l { board = m.board }))
    → StaysWatching l.front.told l.front.told l.board.book m.board.book → IsWhole known o n l m
whole-begun known o n l m opened begun is starts first moment stands watched =
    let begins : BeginsWithStarts (first_children n) m.board.book.history =
    subst (λ (count : ℕ). BeginsWithStarts count m.board.book.history)
    (ap (λ (x : SeenBook). asked_children x.base) begun.book ∙ ap (min n.shape.target) (length-replicate n.children no_child)) first in
    subst (IsWhole known o n l) (sym is)
    (record {
      past = nothing_past;
      keeps =
          begun-keeps known o n l m.board opened begun starts stands watched
          (started-if n l.front.told (entries_behind nothing_past m.board.book) begins);
      begins = begins;
      pace = begun-pace known o n l m.board begun starts moment;
    })

-- ## The service

-- what another pass did brings nothing, and orders nothing
pub pace-kept : (o : Opening) (n : RunNumbers) (from a : SeenListener) (b : SeenBoard) (past : Past) (more : List Entry)
    → entries_behind past b.book ≡ entries_behind past a.board.book ++ more
    → count_events is_order (entries_behind past a.board.book ++ more) ≡ count_events is_order (entries_behind past a.board.book)
    → brought b.book.history ≡ brought a.board.book.history → b.book.state.moment ≡ a.board.book.state.moment
    → IsOnPace o n from a (entries_behind past a.board.book) → IsOnPace o n from (record a { board = b }) (entries_behind past b.book)
pace-kept o n from a b past more grows orders same moment pace = record {
  shares = pace.shares;
  front = pace.front;
  clock = pace.clock;
  first = pace.first;
  brought_is =
      brought-behind past.entries a.board.book.history b.book.history [] (same ∙ sym (append-nil (brought a.board.book.history)))
      ∙ append-nil (brought (past.entries ++ a.board.book.history))
      ∙ pace.brought_is;
  moment = moment ∙ pace.moment;
  heard =
      subst (λ (es : List Entry). HasHeardAll o n es pace.first pace.shares None a.front from.out from.written a.out a.written) (sym grows)
      (all-later o n (entries_behind past a.board.book) more pace.first pace.shares a.front from.out from.written a.out a.written orders pace.heard);
}

-- ## A fold

-- all entries are the same over a fold of the history
pub whole-folded : (known : Option KnownOutside) (o : Opening) (n : RunNumbers) (from a : SeenListener) (b : SeenBoard) → ListensOn known a.board b → IsOpenedBy a.config o
    → AreTimely a.board.book.base a.board.book.history
    → (IfSome o.front.told HasNothingCome → IsPatientRun a.front.told a.calls a.board.book.base a.board.book.history)
    → IsWhole known o n from a → IsWhole known o n from (record a { board = b })
whole-folded known o n from a b listens opened timely patient whole =
    let keeps = whole.keeps in
    let folded : StandsFolded known o n whole.past (stands_at a) (standing a.edition.stop_ms a.store a.front b.book) =
    listens.folded a.config a.edition.stop_ms a.store a.front o n whole.past opened timely keeps.stands in
    let same : entries_behind folded.later b.book ≡ entries_behind whole.past a.board.book = folded.same in
    record {
      past = folded.later;
      keeps =
          record {
            stands = folded.stands;
            rows = listens.rows ∙ keeps.rows;
            started = subst (λ (es : List Entry). IfSome a.front.told (IsStartedFirst n es)) (sym same) keeps.started;
            watched =
                subst (λ (es : List Entry). IfSome a.front.told (WatchesAll b.book.state es)) (sym same)
                (subst (λ (s : State). IfSome a.front.told (WatchesAll s (entries_behind whole.past a.board.book))) (sym listens.state) keeps.watched);
            patient =
                λ none. patient-front o n folded.later b.book a.front.told a.calls
                (subst (IsPatientRun a.front.told a.calls (opened_by n)) (sym same)
                (patient-all o n whole.past a (past-base known o n whole.past 0 0 (stands_at a) keeps.stands) (keeps.patient none) (patient none)));
          };
      begins = subst (BeginsWithStarts (first_children n)) (sym same) whole.begins;
      pace =
          subst (IsOnPace o n from (record a { board = b })) (sym same)
          (record {
            shares = whole.pace.shares;
            front = whole.pace.front;
            clock = whole.pace.clock;
            first = whole.pace.first;
            brought_is = whole.pace.brought_is;
            moment = ap (λ (s : State). s.moment) listens.state ∙ whole.pace.moment;
            heard = whole.pace.heard;
          });
    }
  where
    front-of : (P : State → Event → Type 0) (s : State) (xs ys : List Entry) → AllAt P s (xs ++ ys) → AllAt P s xs
    front-of P s [] ys holds = tt
    front-of P s (x ∷ xs) ys holds = (holds.0, front-of P (next s x.event) xs ys holds.1)

    patient-front : (o : Opening) (n : RunNumbers) (later : Past) (b : SeenBook) (told : Option FrontTold) (calls : Option (List (ℕ × ℕ)))
        → IsPatientRun told calls (opened_by n) (entries_behind later b) → IsPatientRun told calls (opened_by n) later.entries
    patient-front o n later b told calls all steady =
        front-of (IsPatientEvent steady.comings steady.front.waits) (opened_by n) later.entries b.history (all steady)
