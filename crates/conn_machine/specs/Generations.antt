-- Generations: how they begin in a history, and which of them are in use.
use Rattle.std.specs.Prelude.{◌≡◌, ◌==◌, ◌<◌, ◌≤◌, ◌⊎◌, ℕ, ◌+◌, true, false, List, [], ◌∷◌, ◌++◌, filter, if◌then◌else◌, map, Some, slice_get}
use Rattle.std.specs.List.{find, range_with_len}
use Rattle.mpm_base.specs.declared.shape.Shape.{Shape}
use Rattle.conn_machine.specs.declared.event.Commanded.TheVariants.{Graceful}
use Rattle.conn_machine.specs.declared.event.Entry.{Entry}
use Rattle.conn_machine.specs.declared.event.Event.{Event}
use Rattle.conn_machine.specs.declared.event.Event.TheVariants as event
use Rattle.conn_machine.specs.declared.folded.Edition.{Edition}
use Rattle.conn_machine.specs.declared.row.Row.{Row}
use Rattle.conn_machine.specs.declared.state.State.{State}
use Rattle.conn_machine.specs.Events.{begins_generation, count_events, is_order}
use Rattle.conn_machine.specs.Folds.{begun_editions, is_in_use}
use Rattle.conn_machine.specs.Rows.{is_live}
use Rattle.conn_machine.specs.Runs.{after}
use Rattle.conn_machine.specs.Sound.{IsSound}
use Rattle.conn_machine.specs.Table.{next}

-- the edition of the generation that begins next behind the history, where its order comes next too
abbrev pub next_edition : State → List Entry → ℕ → Edition
next_edition base history orders =
    record {
      generation = (after base history).newest + 1;
      edition = orders + count_events is_order history + 1;
    }

-- the generations begin one by one, each with the next number and the edition of its order, and are in use as long as they are the newest
-- or a child of theirs is there
pub record GenerationsBeginInOrder : Type 0 where
  -- the generations that begin in a history have the next numbers, in their order
  pub begun : (base : State) (history : List Entry) (orders : ℕ)
      → map (λ e. e.generation) (begun_editions base.newest orders history)
      ≡ range_with_len (base.newest + 1) (count_events begins_generation history)
  -- the newest generation rises by one for each
  pub newest : (base : State) (history : List Entry)
      → (after base history).newest ≡ base.newest + count_events begins_generation history
  -- a generation that is in use behind a history was so before it, or began in it
  pub used : (base : State) (history : List Entry) (g : ℕ) → is_in_use (after base history) g ≡ true
      → (is_in_use base g ≡ true) ⊎ ((base.newest < g) × (g ≤ (after base history).newest))
  -- one entry more adds the edition of the generation that it begins, where it begins one
  pub one_more : (base : State) (history : List Entry) (orders : ℕ) (e : Entry)
      → begun_editions base.newest orders (history ++ e ∷ [])
      ≡ (if begins_generation e.event
      then begun_editions base.newest orders history ++ next_edition base history orders ∷ []
      else begun_editions base.newest orders history)
  -- a command `graceful` that is taken begins the next generation
  pub begins : (s : State) (shape : Shape)
      → (next s (event.Command (Graceful shape))).newest ≡ s.newest + 1
  -- every other event leaves the newest one
  pub stays : (s : State) (e : Event) → begins_generation e ≡ false → (next s e).newest ≡ s.newest
  -- in a sound state the generation of each live connection is in use
  pub live : (s : State) (slot : ℕ) (r : Row)
      → IsSound s
      → slice_get s.rows slot ≡ Some r
      → is_live r ≡ true
      → is_in_use s r.generation ≡ true
  -- editions that aren't in use may be dropped: that of a generation in use is found as before
  pub kept_in_use : (s : State) (g : ℕ) (editions : List Edition)
      → is_in_use s g ≡ true
      → find (λ e. e.generation == g) (filter (λ e. is_in_use s e.generation) editions)
      ≡ find (λ e. e.generation == g) editions
