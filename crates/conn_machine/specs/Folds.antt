-- Folds: what a value that keeps a history still knows of the entries that it folded.
-- Why it is so stands in docs/DECISIONS.md: 52, A history is folded.
use Rattle.std.specs.Prelude.{◌≡◌, ◌==◌, ◌≤◌, ℕ, ◌+◌, ◌-◌, nat_le, nat_lt, Bool, ◌&&◌, ◌||◌, not, List, [], ◌∷◌, ◌++◌, length, map, filter, take, replicate, slice_get, slice_index, Option, None, Some}
use Rattle.std.specs.List.{enumerate_from, flat_map, list_any}
use Rattle.conn_machine.specs.declared.child.Child.{Child}
use Rattle.conn_machine.specs.declared.event.Entry.{Entry}
use Rattle.conn_machine.specs.declared.folded.Edition.{Edition}
use Rattle.conn_machine.specs.declared.folded.Folded.{Folded}
use Rattle.conn_machine.specs.declared.state.State.{State}
use Rattle.conn_machine.specs.Children.{is_empty}
use Rattle.conn_machine.specs.Events.{causes, count_events, is_accept, is_answer, is_close, is_close_for, begins_generation, is_order, is_ready, is_start_child, is_tick}
use Rattle.conn_machine.specs.Runs.{after, entries_of, first_row, load, row_after, row_from}
use Rattle.mpm_base.specs.Cause.{cause_number}
use Rattle.mpm_base.specs.declared.conn.Cause.{Cause}
use Rattle.mpm_base.specs.declared.conn.ConnName.{ConnName}

-- ## The record

-- the edition of the first generation
abbrev pub first_edition : Edition
first_edition = record { generation = 0; edition = 0 }

-- the record of a value that never folded, for so many passes
abbrev pub opening_record : ℕ → Folded
opening_record passes =
    record {
      entries = 0;
      accepted = 0;
      closed = 0;
      responses = 0;
      causes = replicate 9 0;
      children = 0;
      lines = [];
      ticks = 0;
      readies = 0;
      orders = 0;
      editions = first_edition ∷ [];
      ordinals = replicate passes 0;
      rows = replicate passes None;
    }

-- the record has a next number and a place for a connection for each of so many passes, and for no others
pub record HasPlacesFor (passes : ℕ) (f : Folded) : Type 0 where
  pub ordinals : length f.ordinals ≡ passes
  pub rows : length f.rows ≡ passes

-- of the pass the later record says what this one and the history behind it say: its next number, and its connection
pub record GoesOnFrom (p : ℕ) (f : Folded) (history : List Entry) (later : Folded) : Type 0 where
  pub ordinal : slice_index later.ordinals p
      ≡ slice_index f.ordinals p + length (entries_of p history)
  pub row : first_row later p ≡ row_from f p history

-- no number that the record counts is above that of its entries
pub record CountsWithin (f : Folded) : Type 0 where
  pub accepted : f.accepted ≤ f.entries
  pub closed : f.closed ≤ f.entries
  pub responses : f.responses ≤ f.entries
  pub causes : (why : Cause) → slice_index f.causes (cause_number why) ≤ f.entries
  pub children : f.children ≤ f.entries
  pub ticks : f.ticks ≤ f.entries
  pub readies : f.readies ≤ f.entries
  pub orders : f.orders ≤ f.entries
  pub ordinals : (p : ℕ) → slice_index f.ordinals p ≤ f.entries

-- ## When a history may be folded

-- the load that is worth a fold
abbrev pub fold_load : ℕ
fold_load = 65536

-- fewer entries than these may have been folded, so that no number grows out of its range
abbrev pub most_folded : ℕ
most_folded = 4611686018427387904

-- a history of this load behind the record may be folded
abbrev pub may_fold : Folded → List Entry → Bool
may_fold f history = nat_le fold_load (load history) && nat_lt f.entries most_folded

-- ## Editions

-- the orders of the history with their numbers, where the first of them has this one
abbrev pub orders_from : ℕ → List Entry → List (ℕ × Entry)
orders_from number history = enumerate_from number (filter (λ e. is_order e.event) history)

-- the editions of the generations that began in the history: a generation has the number of the order that began it
abbrev pub begun_editions : ℕ → ℕ → List Entry → List Edition
begun_editions newest orders history =
    map (λ p. record { generation = p.0; edition = p.1.0 })
    (enumerate_from (newest + 1)
    (filter (λ p. begins_generation p.1.event) (orders_from (orders + 1) history)))

-- the child is there, and of the generation
abbrev pub is_child_of : ℕ → Child → Bool
is_child_of generation c = not (is_empty c.phase) && c.generation == generation

-- the generation is the newest one, or that of a child which is there
abbrev pub is_in_use : State → ℕ → Bool
is_in_use s generation = generation == s.newest || list_any (is_child_of generation) s.children

-- each edition of the record is that of a generation that has begun in the state
abbrev pub HaveBegun : State → Folded → Type 0
HaveBegun s f =
    (place : ℕ) (e : Edition) → slice_get f.editions place ≡ Some e → e.generation ≤ s.newest

-- ## What a fold makes

-- the counts for each cause, with those of the history
abbrev pub causes_after : List Entry → List ℕ → List ℕ
causes_after history counts =
    map (λ why. slice_index counts (cause_number why) + count_events (is_close_for why) history)
    causes

-- the lines of the first 64 connections that ended, where so many had ended before
abbrev pub lines_after : List (List ℕ) → ℕ → List ℕ → List ℕ
lines_after ended closed lines = lines ++ flat_map (λ line. line) (take (64 - closed) ended)

-- the next number of each pass behind the history
abbrev pub ordinals_after : List Entry → List ℕ → List ℕ
ordinals_after history ordinals =
    map (λ p. p.1 + length (entries_of p.0 history)) (enumerate_from 0 ordinals)

-- the connection of each pass behind the history
abbrev pub rows_after : List Entry → List (Option ConnName) → List (Option ConnName)
rows_after history rows = map (λ p. row_after p.1 (entries_of p.0 history)) (enumerate_from 0 rows)

-- the record that a fold makes of one, of the base and the history behind it, and of the report lines of the connections that ended in it
abbrev pub fold_of : State → List Entry → List (List ℕ) → Folded → Folded
fold_of base history ended f =
    record {
      entries = f.entries + length history;
      accepted = f.accepted + count_events is_accept history;
      closed = f.closed + count_events is_close history;
      responses = f.responses + count_events is_answer history;
      causes = causes_after history f.causes;
      children = f.children + count_events is_start_child history;
      lines = lines_after ended f.closed f.lines;
      ticks = f.ticks + count_events is_tick history;
      readies = f.readies + count_events is_ready history;
      orders = f.orders + count_events is_order history;
      editions = filter (λ e. is_in_use (after base history) e.generation) (f.editions ++ begun_editions base.newest f.orders history);
      ordinals = ordinals_after history f.ordinals;
      rows = rows_after history f.rows;
    }
