-- A wait of the listener.
use Rattle.std.proofs.Common.{◌≡◌, ℕ, List, [], Option, is_some, subst}
use Rattle.mpm_base.specs.Front.{GivesOnlyAwake, Waits, moments_in}
use Rattle.mpm_base.specs.declared.front.Woke.{Woke}
use Rattle.mpm_base.specs.declared.front.Woke.TheVariants as woke
use Rattle.conn_machine.specs.Runs.{after}
use Rattle.conn_machine.specs.Sound.{IsSound}
use Rattle.listener.specs.declared.listen.Pause.{Pause}
use Rattle.rounds.specs.declared.ends.Rest.{Rest}
use Rattle.listener.specs.ListenInside.{AsksFor}
use Rattle.listener.specs.TurnsInside.{SeenListener}

-- the wait was told this and answered that, the moment is the clock's behind the answer, which tells where it did, and the board is the
-- one that it was; its state is that after the history, and sound. The edition, the store, the configuration and the output are the same
pub record HasWaited (rest : Rest) (pause : Pause) (old new : SeenListener) : Type 0 where
  pub board : new.board ≡ old.board
  pub edition : new.edition ≡ old.edition
  pub store : new.store ≡ old.store
  pub config : new.config ≡ old.config
  pub out : new.out ≡ old.out
  pub written : new.written ≡ old.written
  pub state : after old.board.book.base old.board.book.history ≡ old.board.book.state
  pub sound : IsSound old.board.book.state
  pub waits : Waits old.front new.front rest.until rest.quiet pause.woke new.ready
  pub asks : AsksFor pause.woke old.board.book.state.moment old.calls new.calls pause.moment
  pub clock : is_some new.calls ≡ is_some old.calls

-- so it was where the present moment is that of the board
pub has-waited : (rest : Rest) (pause : Pause) (a w : SeenListener) (present : ℕ) → w.board ≡ a.board → w.edition ≡ a.edition → w.store ≡ a.store
    → w.config ≡ a.config → w.out ≡ a.out → w.written ≡ a.written → after a.board.book.base a.board.book.history ≡ a.board.book.state → IsSound a.board.book.state → present ≡ a.board.book.state.moment
    → Waits a.front w.front rest.until rest.quiet pause.woke w.ready → AsksFor pause.woke present a.calls w.calls pause.moment
    → is_some w.calls ≡ is_some a.calls → HasWaited rest pause a w
has-waited rest pause a w present board edition store config out written state sound now waits asks clock = record {
  board = board;
  edition = edition;
  store = store;
  config = config;
  out = out;
  written = written;
  state = state;
  sound = sound;
  waits = waits;
  asks = subst (λ (m : ℕ). AsksFor pause.woke m a.calls w.calls pause.moment) now asks;
  clock = clock;
}

-- one whose answer gives no moment gave no slot, and the clock wasn't asked
pub idle-wait : (answer : Woke) (present moment : ℕ) (calls calls' : Option (List (ℕ × ℕ))) (ready : List ℕ) → moments_in answer ≡ []
    → AsksFor answer present calls calls' moment → GivesOnlyAwake answer ready → (calls' ≡ calls) × (ready ≡ [])
idle-wait (woke.Woke m) present moment calls calls' ready none asks awake = absurd (cc none)
idle-wait woke.Ended present moment calls calls' ready none asks awake = (asks.0, awake)
idle-wait woke.Failed present moment calls calls' ready none asks awake = (asks.0, awake)
