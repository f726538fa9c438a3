use Rattle.std.proofs.Common.{◌≡◌, ℕ, List, Option, refl, sym, subst}
use Rattle.std.specs.String.{string_bytes}
use Rattle.mpm_base.specs.Front.{FrontSeen}
use Rattle.mpm_base.specs.Sink.{SinkSeen}
use Rattle.mpm_base.specs.Store.{StoreSeen}
use Rattle.board.specs.Board.{SeenBoard}
use Rattle.command_words.specs.Invocations.{IsInvocation, IsLoadWords, IsScriptWords, IsSendWords, IsServeWords, IsTestWords}
use Rattle.command_words.specs.declared.invocation.Invocation.{Invocation}
use Rattle.run_opening.specs.Calls.{seen_call}
use Rattle.listener.specs.Counted.{LeavesClock}
use Rattle.mpm_run.specs.ExitStatuses.{Causes, LeavesAll}
use Rattle.mpm_run.specs.declared.outcome.Outcome.{Outcome}
use Rattle.script_run.specs.declared.scripted.Scripted.{Scripted}
use Rattle.listener.proofs.CountedEndLemmas.{asks-as, asks-none}
use Rattle.mpm_run.proofs.FormLemmas.{script-causes, script-leaves, send-causes, send-leaves, serve-causes, serve-leaves, test-causes, test-leaves}
use Rattle.mpm_run.proofs.top_call.run.Goals as goal

-- what a call leaves, and why it has its exit status
abbrev Said : List (List ℕ) → StoreSeen → StoreSeen → SinkSeen → SinkSeen → FrontSeen → FrontSeen → Option (List (ℕ × ℕ)) → Option (List (ℕ × ℕ)) → ℕ → Option ℕ → Option Scripted → Option SeenBoard → Type 0
Said words d d' k k' f f' calls calls' status shown scripted board =
    let call = seen_call words d d' k k' shown in
    LeavesAll call f f' calls calls' status scripted board × Causes call f f' status scripted board

pub returns-in-Ok-Script-clause-ends : goal.returns-in-Ok-Script-clause-ends
returns-in-Ok-Script-clause-ends g c =
    let named : c.deref.result.now ≡ string_bytes c.in-Ok-Script.name = c.deref.ensures in
    let command : IsScriptWords c.args.words.now c.deref.result.now =
    subst (λ (name : List ℕ). IsScriptWords c.args.words.now name) (sym named)
    (subst (λ (i : Invocation). IsInvocation c.args.words.now i) c.in-Ok-Script.field-0-is c.in-Ok-Script.ensures.form) in
    let ended = c.run_script.ensures c.args.words.now command in
    subst (λ (o : Outcome _). Said c.args.words.now (g.D.Store.seen c.args.store.now) (g.D.Store.seen c.run_script.new.store) (g.K.Sink.seen c.args.out.now) (g.K.Sink.seen c.run_script.new.out) (g.F.Front.seen c.args.front.now) (g.F.Front.seen c.args.front.now) (g.C.Clock.told c.args.clock.now) (g.C.Clock.told c.args.clock.now) o.status o.shown o.scripted o.board)
    (sym c.scripted_outcome.ensures) (script-leaves _ (g.F.Front.seen c.args.front.now) (g.C.Clock.told c.args.clock.now) c.run_script.result.status c.run_script.result.left ended, script-causes _ (g.F.Front.seen c.args.front.now) c.run_script.result.status c.run_script.result.left ended)

pub returns-in-Ok-Load-clause-ends : goal.returns-in-Ok-Load-clause-ends
returns-in-Ok-Load-clause-ends g c =
    let command : IsLoadWords c.args.words.now c.in-Ok-Load.count =
    subst (λ (i : Invocation). IsInvocation c.args.words.now i) c.in-Ok-Load.field-0-is c.in-Ok-Load.ensures.form in
    let ended = c.run_load.ensures c.args.words.now (g.D.Store.seen c.args.store.now) command in
    subst (λ (o : Outcome _). Said c.args.words.now (g.D.Store.seen c.args.store.now) (g.D.Store.seen c.args.store.now) (g.K.Sink.seen c.args.out.now) (g.K.Sink.seen c.run_load.new.out) (g.F.Front.seen c.args.front.now) (g.F.Front.seen c.args.front.now) (g.C.Clock.told c.args.clock.now) (g.C.Clock.told c.args.clock.now) o.status o.shown o.scripted o.board)
    (sym c.scripted_outcome-in-Ok-Load.ensures) (script-leaves _ (g.F.Front.seen c.args.front.now) (g.C.Clock.told c.args.clock.now) c.run_load.result.status c.run_load.result.left ended, script-causes _ (g.F.Front.seen c.args.front.now) c.run_load.result.status c.run_load.result.left ended)

pub returns-in-Ok-Serve-clause-ends : goal.returns-in-Ok-Serve-clause-ends
returns-in-Ok-Serve-clause-ends g c =
    let named : c.deref-in-Ok-Serve.result.now ≡ string_bytes c.in-Ok-Serve.name = c.deref-in-Ok-Serve.ensures in
    let command : IsServeWords c.args.words.now c.deref-in-Ok-Serve.result.now =
    subst (λ (name : List ℕ). IsServeWords c.args.words.now name) (sym named)
    (subst (λ (i : Invocation). IsInvocation c.args.words.now i) c.in-Ok-Serve.field-0-is c.in-Ok-Serve.ensures.form) in
    let ended = c.serve_file.ensures.ends c.args.words.now command in
    subst (λ (o : Outcome _). Said c.args.words.now (g.D.Store.seen c.args.store.now) (g.D.Store.seen c.serve_file.new.store) (g.K.Sink.seen c.args.out.now) (g.K.Sink.seen c.serve_file.new.out) (g.F.Front.seen c.args.front.now) (g.F.Front.seen c.serve_file.new.front) (g.C.Clock.told c.args.clock.now) (g.C.Clock.told c.serve_file.new.clock) o.status o.shown o.scripted o.board)
    (sym c.served_outcome.ensures) (serve-leaves _ (g.F.Front.seen c.args.front.now) (g.F.Front.seen c.serve_file.new.front) (g.C.Clock.told c.args.clock.now) (g.C.Clock.told c.serve_file.new.clock) c.serve_file.result.status c.serve_file.result.left ended, serve-causes _ (g.F.Front.seen c.args.front.now) (g.F.Front.seen c.serve_file.new.front) (g.C.Clock.told c.args.clock.now) (g.C.Clock.told c.serve_file.new.clock) c.serve_file.result.status c.serve_file.result.left ended)

pub returns-in-Ok-Test-clause-ends : goal.returns-in-Ok-Test-clause-ends
returns-in-Ok-Test-clause-ends g c =
    let named : c.deref-in-Ok-Test.result.now ≡ string_bytes c.in-Ok-Test.name = c.deref-in-Ok-Test.ensures in
    let command : IsTestWords c.args.words.now c.deref-in-Ok-Test.result.now =
    subst (λ (name : List ℕ). IsTestWords c.args.words.now name) (sym named)
    (subst (λ (i : Invocation). IsInvocation c.args.words.now i) c.in-Ok-Test.field-0-is c.in-Ok-Test.ensures.form) in
    let ended = c.test_config.ensures c.args.words.now command in
    subst (λ (o : Outcome _). Said c.args.words.now (g.D.Store.seen c.args.store.now) (g.D.Store.seen c.test_config.new.store) (g.K.Sink.seen c.args.out.now) (g.K.Sink.seen c.test_config.new.out) (g.F.Front.seen c.args.front.now) (g.F.Front.seen c.args.front.now) (g.C.Clock.told c.args.clock.now) (g.C.Clock.told c.args.clock.now) o.status o.shown o.scripted o.board)
    (sym c.closed_outcome.ensures) (test-leaves _ (g.F.Front.seen c.args.front.now) (g.C.Clock.told c.args.clock.now) c.test_config.result.status ended, test-causes _ (g.F.Front.seen c.args.front.now) c.test_config.result.status ended)

pub returns-in-Ok-Send-clause-ends : goal.returns-in-Ok-Send-clause-ends
returns-in-Ok-Send-clause-ends g c =
    let named : c.deref-in-Ok-Send.result.now ≡ string_bytes c.in-Ok-Send.name = c.deref-in-Ok-Send.ensures in
    let command : IsSendWords c.args.words.now c.in-Ok-Send.word c.deref-in-Ok-Send.result.now =
    subst (λ (name : List ℕ). IsSendWords c.args.words.now c.in-Ok-Send.word name) (sym named)
    (subst (λ (i : Invocation). IsInvocation c.args.words.now i) c.in-Ok-Send.field-0-is c.in-Ok-Send.ensures.form) in
    let ended = c.send_command.ensures.ends c.args.words.now command in
    subst (λ (o : Outcome _). Said c.args.words.now (g.D.Store.seen c.args.store.now) (g.D.Store.seen c.send_command.new.store) (g.K.Sink.seen c.args.out.now) (g.K.Sink.seen c.send_command.new.out) (g.F.Front.seen c.args.front.now) (g.F.Front.seen c.send_command.new.front) (g.C.Clock.told c.args.clock.now) (g.C.Clock.told c.args.clock.now) o.status o.shown o.scripted o.board)
    (sym c.closed_outcome-in-Ok-Send.ensures) (send-leaves _ (g.F.Front.seen c.args.front.now) (g.F.Front.seen c.send_command.new.front) (g.C.Clock.told c.args.clock.now) c.send_command.result.status ended, send-causes _ (g.F.Front.seen c.args.front.now) (g.F.Front.seen c.send_command.new.front) c.send_command.result.status ended)

pub returns-in-Ok-Serve-clause-clocked : goal.returns-in-Ok-Serve-clause-clocked
returns-in-Ok-Serve-clause-clocked g c =
    subst (λ (o : Outcome _). LeavesClock o.board (g.C.Clock.greatest c.args.clock.now) (g.C.Clock.greatest c.serve_file.new.clock))
    (sym c.served_outcome.ensures) c.serve_file.ensures.clocked

pub returns-in-Ok-Script-clause-clocked : goal.returns-in-Ok-Script-clause-clocked
returns-in-Ok-Script-clause-clocked g c =
    subst (λ (o : Outcome _). LeavesClock o.board (g.C.Clock.greatest c.args.clock.now) (g.C.Clock.greatest c.args.clock.now))
    (sym c.scripted_outcome.ensures) refl

pub returns-in-Ok-Load-clause-clocked : goal.returns-in-Ok-Load-clause-clocked
returns-in-Ok-Load-clause-clocked g c =
    subst (λ (o : Outcome _). LeavesClock o.board (g.C.Clock.greatest c.args.clock.now) (g.C.Clock.greatest c.args.clock.now))
    (sym c.scripted_outcome-in-Ok-Load.ensures) refl

pub returns-in-Ok-Script-clause-asked : goal.returns-in-Ok-Script-clause-asked
returns-in-Ok-Script-clause-asked g c = asks-none (g.F.Front.seen c.args.front.now).counts.wakes (g.C.Clock.asked c.args.clock.now)

pub returns-in-Ok-Load-clause-asked : goal.returns-in-Ok-Load-clause-asked
returns-in-Ok-Load-clause-asked g c = asks-none (g.F.Front.seen c.args.front.now).counts.wakes (g.C.Clock.asked c.args.clock.now)

pub returns-in-Ok-Test-clause-asked : goal.returns-in-Ok-Test-clause-asked
returns-in-Ok-Test-clause-asked g c = asks-none (g.F.Front.seen c.args.front.now).counts.wakes (g.C.Clock.asked c.args.clock.now)

pub returns-in-Ok-Send-clause-asked : goal.returns-in-Ok-Send-clause-asked
returns-in-Ok-Send-clause-asked g c =
    asks-as (g.F.Front.seen c.args.front.now).counts.wakes (g.F.Front.seen c.args.front.now).counts.wakes
    (g.F.Front.seen c.send_command.new.front).counts.wakes (g.C.Clock.asked c.args.clock.now) (g.C.Clock.asked c.args.clock.now)
    c.send_command.ensures.wakes (asks-none (g.F.Front.seen c.args.front.now).counts.wakes (g.C.Clock.asked c.args.clock.now))
