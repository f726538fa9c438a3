-- Where the turns of a run end, behind the service or at its start.
use Rattle.std.proofs.Common.{◌≡◌, inl, ℕ, List, ◌++◌, replicate, Option, None, Some, IfSome, Result, Err, refl, sym, subst}
use Rattle.mpm_base.specs.Front.{FrontTold}
use Rattle.conn_machine.specs.declared.event.Entry.{Entry}
use Rattle.conn_state.specs.Known.{KnownOutside}
use Rattle.board_book.specs.declared.faults.BoardFault.{BoardFault}
use Rattle.worker_group.specs.Acts.{ActsInSteps}
use Rattle.rounds.specs.declared.ends.End.{End}
use Rattle.rounds.specs.PartsInside.{StartsSome}
use Rattle.listener.specs.StartedFirst.{IsStartedFirst}
use Rattle.listener_round.specs.declared.run_numbers.RunNumbers.{RunNumbers}
use Rattle.listener_round.specs.FirstNumbers.{opened_by}
use Rattle.listener_round.specs.Generations.{Opening}
use Rattle.listener_round.specs.HeardInside.{HasHeardIn}
use Rattle.listener_round.specs.FrontInside.{StaysWatching}
use Rattle.listener.specs.ListenInside.{HasNotBegun, IsAtStart}
use Rattle.listener_round.specs.Pace.{AreSharesOfAll, Brought, Share, brought, made_from, moved}
use Rattle.listener.specs.TurnsInside.{TurnsMake, HasShares, HasTurned, IsBegun, SeenListener, stands_at}
use Rattle.listener_round.specs.StandingInside.{IsOpenedBy, Past, entries_behind, owed_behind, spare_behind}
use Rattle.rounds.proofs.PassLemmas.{serves-acts}
use Rattle.rounds.proofs.AddedLemmas.{added-events}
use Rattle.listener_round.proofs.BroughtLemmas.{brought-others}
use Rattle.listener_round.proofs.CommandlessLemmas.{AreCommandless, commandless-added, commandless-served}
use Rattle.listener.proofs.PaceLemmas.{HasPatience}
use Rattle.listener_round.proofs.StandingLemmas.{entries-acts, keeps-plain, so-broken}
use Rattle.listener.proofs.StandingTurnLemmas.{StandsStep, stands-acted}
use Rattle.listener.proofs.TurnLemmas.{HasKept, HasServedRows}
use Rattle.listener.proofs.WatchLemmas.{nobody-served}
use Rattle.listener_round.proofs.WatchLemmas.{watched-as}
use Rattle.listener.proofs.WholeLemmas.{IsOnPace, IsShared, IsWhole, KeepsWhole, WholeFrom, begins-acts, begun-keeps, begun-pace, keeps-up, nothing_past, pace-kept, timely-begun, whole-acts}

-- ## Where the turns end

-- the pace of turns that ended so, and what was heard, since the listener was the one
pub record EndsOnPace (o : Opening) (n : RunNumbers) (turns : Result End BoardFault) (from l : SeenListener) (entries : List Entry) : Type 0 where
  pub shares : List Share
  pub are : HasShares n.slots l shares
  pub first : ℕ
  pub made : List Brought
  pub brought_is : brought entries ≡ replicate first moved ++ made
  pub makes : TurnsMake turns shares made
  pub heard : HasHeardIn turns o n entries first shares l.front from.out from.written l.out l.written

-- and all else
pub record EndsWhole (known : Option KnownOutside) (o : Opening) (n : RunNumbers) (turns : Result End BoardFault) (from l : SeenListener) : Type 0 where
  pub past : Past
  pub keeps : KeepsWhole known o n past (spare_behind turns) (owed_behind turns) l
  pub pace : EndsOnPace o n turns from l (entries_behind past l.board.book)

abbrev pub EndsFrom : Option KnownOutside → Result End BoardFault → SeenListener → SeenListener → Type 0
EndsFrom known turns first now = (o : Opening) (n : RunNumbers) → IsOpenedBy first.config o → IsBegun known o n first → EndsWhole known o n turns first now

-- so they did this of all entries
pub has-turned : (known : Option KnownOutside) (turns : Result End BoardFault) (first now : SeenListener) → EndsFrom known turns first now
    → (IsAtStart first.front.told first.board.book → HasPatience now) → (o : Opening) (n : RunNumbers) → IsOpenedBy first.config o → IsBegun known o n first
    → HasTurned known o n turns first now
has-turned known turns first now ends patient o n opened begun =
    let whole = ends o n opened begun in
    record {
      past = whole.past;
      stands = whole.keeps.stands;
      keeps = keeps-up known o n whole.past (spare_behind turns) (owed_behind turns) now whole.keeps (λ none. patient (begun.first none));
      shares = whole.pace.shares;
      are = whole.pace.are;
      first = whole.pace.first;
      made = whole.pace.made;
      brought_is = whole.pace.brought_is;
      makes = whole.pace.makes;
      heard = whole.pace.heard;
    }

-- the shares of a front that goes on are its shares
shares-of : (rows : ℕ) (told : Option FrontTold) (shares : List Share) → IfSome told (IsShared rows shares) → IfSome told (λ t. AreSharesOfAll rows t shares)
shares-of rows None shares is = tt
shares-of rows (Some t) shares is = is.are

-- turns that were broken off between two rounds
pub pace-done : (o : Opening) (n : RunNumbers) (fault : BoardFault) (from l : SeenListener) (entries : List Entry) → IsOnPace o n from l entries
    → EndsOnPace o n (Err fault) from l entries
pace-done o n fault from l entries pace = record {
  shares = pace.shares;
  are = record { waits = shares-of n.slots l.front.told pace.shares pace.front; answers = pace.clock };
  first = pace.first;
  made = made_from 0 pace.shares;
  brought_is = pace.brought_is;
  makes = inl refl;
  heard = (None, tt, pace.heard);
}

-- ## The service

-- it goes on behind it
pub whole-served : ActsInSteps → (known : Option KnownOutside) (first a b : SeenListener) → HasKept first a → WholeFrom known first a → HasServedRows a b
    → WholeFrom known first b
whole-served steps known first a b kept whole served o n opened begun =
    let before = whole o n opened begun in
    let did = serves-acts steps a.board b.board served.serves in
    let there : SeenListener = record a { board = b.board } in
    let none : AreCommandless did.events =
    subst AreCommandless (added-events 1 did.events None a.board.book b.board.book did.acts)
    (commandless-served 1 did.events None a.board.book b.board.book (λ (same : 1 ≡ 0). cc) did.acts) in
    let brings : brought b.board.book.history ≡ brought a.board.book.history =
    brought-others steps 1 did.events None a.board.book b.board.book (λ (same : 0 ≡ 1). cc) did.acts in
    let plain =
    keeps-plain o (opened_by n) (entries_behind before.past a.board.book) did.acts.entries.0
    (commandless-added 1 did.events None a.board.book b.board.book did.acts none) in
    subst (IsWhole known o n first) (sym served.others)
    (record {
      past = before.past;
      keeps =
          whole-acts known o n before.past 0 0 1 did.events a there did.acts (subst (λ (c : _). IsOpenedBy c o) (sym kept.config) opened)
          (timely-begun known o n first a begun kept.timely)
          (stands-acted known 1 did.events None a b.board did.acts none served.rest.going)
          (watched-as a.front.told a.board.book b.board.book
          (nobody-served 1 did.events None a.board.book b.board.book (λ (same : 1 ≡ 0). cc) did.acts) served.rest.accepted)
          (λ s history patient. patient) before.begins before.keeps;
      begins = begins-acts n before.past 1 did.events a.board.book b.board.book did.acts before.begins;
      pace =
          pace-kept o n first a b.board before.past did.acts.entries.0
          (entries-acts 1 did.events None a.board.book b.board.book did.acts before.past.entries) plain.orders brings served.rest.moment before.pace;
    })

-- where the store may have been renewed once more
spared : (known : Option KnownOutside) (o : Opening) (n : RunNumbers) (past : Past) (now : SeenListener) → KeepsWhole known o n past 0 0 now
    → KeepsWhole known o n past 1 0 now
spared known o n past now keeps = record {
  stands = so-broken known o n past (stands_at now) keeps.stands;
  rows = keeps.rows;
  started = keeps.started;
  watched = keeps.watched;
  patient = keeps.patient;
}

-- turns that were broken off so
pub ends-done : (known : Option KnownOutside) (fault : BoardFault) (first now : SeenListener) → WholeFrom known first now → EndsFrom known (Err fault) first now
ends-done known fault first now whole o n opened begun =
    let before = whole o n opened begun in
    record { past = before.past; keeps = spared known o n before.past now before.keeps; pace = pace-done o n fault first now (entries_behind before.past now.board.book) before.pace }

-- ## The start

-- where a child could not be started the front wasn't waited for yet
unwaited : (n : RunNumbers) (told : Option FrontTold) (entries : List Entry) → IfSome told HasNotBegun → IfSome told (IsStartedFirst n entries)
unwaited n None entries unused = tt
unwaited n (Some t) entries unused = λ waited. absurd (waited unused.waits)

-- turns that were broken off then
pub begun-broken : (known : Option KnownOutside) (o : Opening) (n : RunNumbers) (fault : BoardFault) (l m : SeenListener) → IsOpenedBy l.config o
    → IsBegun known o n l → m ≡ record l { board = m.board } → StartsSome l.board.book m.board.book → m.board.book.state.moment ≡ l.board.book.state.moment
    → StandsStep known 0 0 l (record l { board = m.board }) → StaysWatching l.front.told l.front.told l.board.book m.board.book
    → EndsWhole known o n (Err fault) l m
begun-broken known o n fault l m opened begun is starts moment stands watched =
    let there : SeenListener = record l { board = m.board } in
    let keeps =
    begun-keeps known o n l m.board opened begun starts stands watched
    (unwaited n l.front.told (entries_behind nothing_past m.board.book) begun.unused) in
    subst (EndsWhole known o n (Err fault) l) (sym is)
    (record {
      past = nothing_past;
      keeps = spared known o n nothing_past there keeps;
      pace = pace-done o n fault l there (entries_behind nothing_past m.board.book) (begun-pace known o n l m.board begun starts moment);
    })
