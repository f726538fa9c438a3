-- What a server that was run shows, and why one wasn't.
use Rattle.listener.proofs.LeftLemmas.{store-since}
use Rattle.std.proofs.Common.{◌≡◌, ◌∙◌, ◌⊎◌, ◌++◌, inl, inr, ℕ, false, List, Option, None, Some, IfSome, IsNone, IsSome, Result, Ok, Err, refl, sym, subst, arith}
use Rattle.mpm_base.specs.Count.{NeverFalls}
use Rattle.mpm_base.specs.Front.{Binds, FrontSeen}
use Rattle.mpm_base.specs.Sink.{SinkSeen}
use Rattle.mpm_base.specs.Store.{ReadsBytes, StoreSeen, StoreTold, answers_with, is_failure, is_refusal}
use Rattle.mpm_base.specs.declared.store.File.{File}
use Rattle.mpm_base.specs.declared.store.StoreFault.{StoreFault}
use Rattle.mpm_config.specs.Config.{Configuration}
use Rattle.file_table.specs.declared.load_fault.LoadFault.{LoadFault}
use Rattle.file_table.specs.declared.load_fault.LoadFault.TheVariants as fault
use Rattle.file_table.specs.Load.{IsWithinLimits, LeavesStore, MayLoad}
use Rattle.file_table.specs.Site.{IsSiteOf, SeenSite}
use Rattle.conn_machine.specs.declared.state.Going.{Going}
use Rattle.board.specs.Board.{SeenBoard}
use Rattle.run_opening.specs.Calls.{Call, HadConfigAccepted, HasConfigAccepted, KeepsFiles, LoadsSite}
use Rattle.restart_control.specs.Reload.{most_config, order_of}
use Rattle.run_opening.specs.Configured.{warnings_of}
use Rattle.run_report.specs.Endings.{EndsAs, MayEndWith}
use Rattle.server_run.specs.Ends.{EndsServedSiteRefused, EndsUnbound, EndsUnread, HasRunServer, IsUnbound, LeavesFront, EndsFileRefused}
use Rattle.listener.specs.Counted.{LeavesClock}
use Rattle.listener.specs.RunsInside.{HasRunBy, open_lines_of}
use Rattle.server_run.specs.EndsInside.{LeavesUnbound, RefusesFolder, IsOpenedStatus, EndsServe}
use Rattle.run_opening.specs.RefusalsInside.{RefusesRun}
use Rattle.listener_round.specs.FirstNumbers.{numbers_of, opened_by}
use Rattle.listener_round.specs.Generations.{Opening}
use Rattle.command_words.specs.Invocations.{IsServeWords}
use Rattle.listener.specs.Runs.{ended_of_run, entries_of_run}
use Rattle.listener_round.specs.Folded.{whole_book}
use Rattle.run_opening.specs.Sites.{IsSiteRefusedOf}
use Rattle.run_report.specs.Texts.{front_fault}
use Rattle.run_opening.proofs.ConfigLemmas.{accepted-still}
use Rattle.run_report.proofs.CountLemmas.{rises-behind, where-stays}
use Rattle.listener.proofs.ServedLemmas.{ordered-reopened, served-reopened}
use Rattle.server_run.proofs.HeardLemmas.{lines-reopened}
use Rattle.run_report.specs.EndingsInside.{IsEnd}
use Rattle.run_report.proofs.EndingLemmas.{may-end}
use Rattle.run_opening.specs.Refusals.{EndsSilently}

-- ## With which exit status

-- with these statuses a run ends that came to its end
good-status : (status : ℕ) → (status ≡ 0) ⊎ (status ≡ 5) ⊎ (status ≡ 6) → IsOpenedStatus status
good-status status (inl zero) = inl zero
good-status status (inr (inl five)) = inr (inr (inl five))
good-status status (inr (inr six)) = inr (inr (inr six))

failed-status : (status : ℕ) → (status ≡ 4) ⊎ (status ≡ 6) → IsOpenedStatus status
failed-status status (inl four) = inr (inl four)
failed-status status (inr six) = inr (inr (inr six))

-- with these each run
pub opened-status : (going : Going) (status : ℕ) → IsEnd going → MayEndWith going status → IsOpenedStatus status
opened-status going status (inl ended) may = good-status status (may-end going _ status ended may)
opened-status going status (inr (inl asked)) may = good-status status (may-end going _ status asked may)
opened-status going status (inr (inr (inl failed))) may = failed-status status (may-end going _ status failed may)
opened-status going status (inr (inr (inr (inl no_memory)))) may = inr (inr (inr (may-end going _ status no_memory may)))
opened-status going status (inr (inr (inr (inr (inl ending))))) may = good-status status (may-end going _ status ending.1 may)
opened-status going status (inr (inr (inr (inr (inr overdue))))) may = good-status status (may-end going _ status overdue may)

-- ## A server

-- the site is that of the files that the store told before
loads-site : (call : Call) (read : StoreSeen) (c : Configuration) (site : SeenSite) → read.told ≡ call.store.told → IsWithinLimits site
    → IfSome read.told (λ t. MayLoad (order_of c) t.files (Ok site)) → LoadsSite call c site
loads-site call read c site same within loads = record {
  within = within;
  is_site = subst (λ (told : Option StoreTold). IfSome told (λ t. IsSiteOf (order_of c) t.files site)) same loads;
}

-- what was read and loaded for a server: its configuration was accepted, and its site loaded
pub record IsReady (call : Call) (name : List ℕ) (c : Configuration) (site : SeenSite) : Type 0 where
  pub command : IsServeWords call.words name
  pub accepted : HadConfigAccepted call name c
  pub loads : LoadsSite call c site

pub is-ready : (call : Call) (read : StoreSeen) (name : List ℕ) (c : Configuration) (site : SeenSite) → IsServeWords call.words name
    → HadConfigAccepted call name c → read.told ≡ call.store.told → IsWithinLimits site → IfSome read.told (λ t. MayLoad (order_of c) t.files (Ok site))
    → IsReady call name c site
is-ready call read name c site command accepted same within loads =
    record { command = command; accepted = accepted; loads = loads-site call read c site same within loads }

-- the store tells, behind what was read and loaded for a server, what it told before, and no count of failed calls fell
pub record IsAskedOnly (old new : StoreSeen) : Type 0 where
  pub told : new.told ≡ old.told
  pub faults : NeverFalls old.counts.faults new.counts.faults

pub asked-only : (old read loaded : StoreSeen) (name : List ℕ) (answer : Result (List ℕ) StoreFault) (site : SeenSite) → ReadsBytes old read name most_config answer
    → LeavesStore {T = SeenSite} read loaded (Ok site) → IsAskedOnly old loaded
asked-only old read loaded name answer site reads leaves =
    let stays = where-stays (answers_with is_failure answer) old.counts.faults read.counts.faults reads.counted.faults in
    record { told = leaves.told ∙ reads.told_stays; faults = omega (arith, stays, leaves.faults) }

-- what is left is of a run that opened so, and it ended as its exit status says
abbrev pub ServedBy : Opening → StoreSeen → FrontSeen → Option (List (ℕ × ℕ)) → SinkSeen → SinkSeen → ℕ → SeenBoard → Type 0
ServedBy o store f calls sink sink' status b =
    (run : HasRunBy o store f calls b) × EndsAs sink sink' (warnings_of o.config ++ open_lines_of run) b status

-- a run that opened behind that
pub serves : (o : Option SeenBoard) (call : Call) (name : List ℕ) (c : Configuration) (site : SeenSite) (loaded : StoreSeen) (f f' : FrontSeen)
    (calls : Option (List (ℕ × ℕ))) (status : ℕ) → IsReady call name c site → IsAskedOnly call.store loaded → (IsSome o → call.shown ≡ None)
    → IfSome o (ServedBy (record { name = name; config = c; site = site; store = loaded; front = f }) call.store' f' calls call.sink call.sink' status)
    → IfSome o (HasRunServer call f f' calls status)
serves None call name c site loaded f f' calls status ready asked shows served = tt
serves (Some b) call name c site loaded f f' calls status ready asked shows served =
    let run = served.0 in
    let opening : Opening = record { name = name; config = c; site = site; store = loaded; front = f } in
    let ran = run.has_run in
    let n = numbers_of c in
    let entries = entries_of_run opening b ran in
    record {
      name = name;
      config = c;
      site = site;
      command = ready.command;
      accepted = ready.accepted;
      loads = ready.loads;
      shows = shows refl;
      has_run = record {
        run = ran.run;
        folded = ran.folded;
        closed = ran.closed;
        ordered = ordered-reopened opening call.store f 0 0 (opened_by n) entries (sym asked.told) ran.ordered;
        served = served-reopened opening call.store f (whole_book n entries) (ended_of_run opening b ran) (sym asked.told) ran.served;
        backed = ran.backed;
      };
      outside = run.outside;
      counted = run.counted;
      unended = run.unended;
      given = run.given;
      lines =
          lines-reopened opening call.store f (opened_by n) run.outside.pace.first run.outside.pace.shares f' b.book.state.going entries (sym asked.told) refl
          run.lines;
      store = store-since b.book.state.going entries call.store loaded call.store' asked.told asked.faults run.store_is;
      ends = served.1;
    }

-- where no run opened the clock was asked nothing
pub clock-unserved : (left : Option SeenBoard) (greatest : ℕ) → IsNone left → LeavesClock left greatest greatest
clock-unserved None greatest none = refl
clock-unserved (Some b) greatest none = absurd (cc none)

-- the front could not be bound
is-unbound : (call : Call) (name : List ℕ) (c : Configuration) (site : SeenSite) (f f' : FrontSeen) → IsReady call name c site → KeepsFiles call
    → Binds f f' c.listen c.control false → IsUnbound call f f'
is-unbound call name c site f f' ready kept binds = record {
  name = name;
  config = c;
  site = site;
  command = ready.command;
  accepted = accepted-still call name c kept ready.accepted;
  loads = ready.loads;
  binds = binds;
}

-- what became of it where none opened
pub leaves-front : (call : Call) (name : List ℕ) (c : Configuration) (site : SeenSite) (f f' : FrontSeen) (status : ℕ) → IsReady call name c site
    → KeepsFiles call → LeavesUnbound f f' c status → LeavesFront call f f' status
leaves-front call name c site f f' status ready kept (inl same) = inl same
leaves-front call name c site f f' status ready kept (inr failed) =
    inr (inr (record { status_is = failed.0; failed = inl (is-unbound call name c site f f' ready kept failed.1) }))

-- none did, as the front could not be bound
pub unbound : (o : Option SeenBoard) (call : Call) (name : List ℕ) (c : Configuration) (site : SeenSite) (f f' : FrontSeen)
    → IsReady call name c site → (IsNone o → KeepsFiles call)
    → (IsNone o → Binds f f' c.listen c.control false × RefusesRun call.sink call.sink' None front_fault call.shown)
    → IsSome o ⊎ EndsUnbound call f f'
unbound (Some b) call name c site f f' ready kept refused = inl refl
unbound None call name c site f f' ready kept refused =
    let back = refused refl in
    inr (record { unbound = is-unbound call name c site f f' ready (kept refl) back.0; shows = back.1.shows; text = back.1.writes })

-- ## A site that is refused

-- a call of the store failed
pub folder-unread : (call : Call) (read : StoreSeen) (name : List ℕ) (c : Configuration) (e : LoadFault) (answer : Result (List ℕ) StoreFault) (status : ℕ)
    → IsServeWords call.words name → HasConfigAccepted call name c → ReadsBytes call.store read name most_config answer
    → LeavesStore {T = SeenSite} read call.store' (Err e) → RefusesFolder call.sink call.sink' c e status call.shown → status ≡ 3 → EndsUnread call
folder-unread call read name c fault.StoreFault answer status command accepted reads leaves refused three =
    let stays = where-stays (answers_with is_failure answer) call.store.counts.faults read.counts.faults reads.counted.faults in
    inr (record {
      name = name;
      config = c;
      command = command;
      accepted = accepted;
      failed = rises-behind call.store.counts.faults read.counts.faults call.store'.counts.faults stays leaves.faults;
      shows = refused.1.shows;
      text = refused.1.writes;
    })
folder-unread call read name c (fault.TooMany root) answer status command accepted reads leaves refused three = absurd (omega (arith, refused.0, three))
folder-unread call read name c (fault.TooLarge file size) answer status command accepted reads leaves refused three = absurd (omega (arith, refused.0, three))
folder-unread call read name c fault.NoMemory answer status command accepted reads leaves refused three = absurd refused

-- the files that the store told make none
lacks-site : (told told' : Option StoreTold) (c : Configuration) (e : LoadFault) (name : List ℕ) → told' ≡ told
    → ((files : List File) → MayLoad (order_of c) files (Err e) → IsSiteRefusedOf files c name)
    → IfSome told' (λ t. MayLoad (order_of c) t.files (Err e)) → IfSome told (λ t. IsSiteRefusedOf t.files c name)
lacks-site None told' c e name same means may = tt
lacks-site (Some t) told' c e name same means may =
    means t.files (subst (λ (o : Option StoreTold). IfSome o (λ t. MayLoad (order_of c) t.files (Err e))) same may)

-- the folder has too many files, or one is too large
pub folder-refused : (call : Call) (read : StoreSeen) (name : List ℕ) (c : Configuration) (e : LoadFault) (answer : Result (List ℕ) StoreFault) (status : ℕ)
    → IsServeWords call.words name → HasConfigAccepted call name c → ReadsBytes call.store read name most_config answer
    → LeavesStore {T = SeenSite} read call.store' (Err e) → IfSome read.told (λ t. MayLoad (order_of c) t.files (Err e))
    → RefusesFolder call.sink call.sink' c e status call.shown → status ≡ 9 → EndsServedSiteRefused call
folder-refused call read name c fault.StoreFault answer status command accepted reads leaves may refused nine = absurd (omega (arith, refused.0, nine))
folder-refused call read name c (fault.TooMany root) answer status command accepted reads leaves may refused nine =
    let stays = where-stays (answers_with is_refusal answer) call.store.counts.refusals read.counts.refusals reads.counted.refusals in
    record {
      name = name;
      config = c;
      refused_for = root;
      command = command;
      accepted = accepted;
      refused = record {
        refused = rises-behind call.store.counts.refusals read.counts.refusals call.store'.counts.refusals stays leaves.refusals;
        lacks = lacks-site call.store.told read.told c (fault.TooMany root) root reads.told_stays (λ files many. inl (record { many = many })) may;
      };
      shows = refused.1.shows;
      text = refused.1.writes;
    }
folder-refused call read name c (fault.TooLarge file size) answer status command accepted reads leaves may refused nine =
    let stays = where-stays (answers_with is_refusal answer) call.store.counts.refusals read.counts.refusals reads.counted.refusals in
    record {
      name = name;
      config = c;
      refused_for = file;
      command = command;
      accepted = accepted;
      refused = record {
        refused = rises-behind call.store.counts.refusals read.counts.refusals call.store'.counts.refusals stays leaves.refusals;
        lacks = lacks-site call.store.told read.told c (fault.TooLarge file size) file reads.told_stays (λ files large. inr (record { size = size; large = large })) may;
      };
      shows = refused.1.shows;
      text = refused.1.writes;
    }
folder-refused call read name c fault.NoMemory answer status command accepted reads leaves may refused nine = absurd refused

-- ## How a server ends that never opened

-- its configuration or its site is none, or memory lacked for them
pub unserved : (call : Call) (f : FrontSeen) (calls : Option (List (ℕ × ℕ))) (status : ℕ) (left : Option SeenBoard) → IsNone left
    → (status ≡ 1) ⊎ (status ≡ 3) ⊎ (status ≡ 6) ⊎ (status ≡ 9) → (status ≡ 1 → EndsFileRefused call) → (status ≡ 3 → EndsUnread call)
    → (status ≡ 6 → EndsSilently call.sink call.sink' call.shown) → (status ≡ 9 → EndsServedSiteRefused call) → EndsServe call f f calls calls status left
unserved call f calls status None none known refused unread silent siteless = record {
  known =
      elim known [
        | inl one ↦ inr (inl one)
        | inr other ↦
            elim other [
              | inl three ↦ inr (inr (inl three))
              | inr rest ↦ elim rest [ inl six ↦ inl (inr (inr (inr six))) | inr nine ↦ inr (inr (inr nine)) ]
            ]
      ];
  server = tt;
  opened = λ good. absurd (omega (arith, known, good));
  unopened = λ nothing. record { front = inl refl; clock = refl };
  misconfigured = refused;
  unread = unread;
  front_failed = λ four. absurd (omega (arith, known, four));
  silent = λ six nothing. silent six;
  site_refused = siteless;
}
unserved call f calls status (Some b) none known refused unread silent siteless = absurd (cc none)
