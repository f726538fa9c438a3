-- When a connection may be taken.
use Rattle.std.proofs.Common.{◌≡◌, ◌==◌, ℕ, ◌+◌, ◌*◌, true, false, ◌&&◌, nat_lt, Option, None, Some, is_none, is_some, refl}
use Rattle.std.proofs.lemmas.Bool.{and_parts, and_from}
use Rattle.conn_machine.specs.declared.event.Event.TheVariants as event
use Rattle.conn_machine.specs.declared.state.State.{State}
use Rattle.conn_machine.specs.Rows.{open_count}
use Rattle.conn_machine.specs.Children.{child_at, is_running}
use Rattle.conn_machine.specs.States.{is_serving, pick_child}
use Rattle.conn_machine.specs.Table.{is_allowed, is_vacant_at}
use Rattle.conn_machine.specs.Sound.{IsSound}
use Rattle.conn_machine.specs.Laws.{IsChosen, idle_in}

-- the child that is picked is the one that the rule of admission names
abbrev pub PicksChosen : State → Type 0
PicksChosen s = (k : ℕ) → pick_child s ≡ Some k → IsChosen s k

-- so a server serves where a child takes a connection, since that child runs
picked-serving : (s : State) (o : Option ℕ) → PicksChosen s → IsSound s → pick_child s ≡ o → is_none o ≡ false → is_serving s.going ≡ true
picked-serving s None law sound picked some = absurd (cc)
picked-serving s (Some k) law sound picked some =
    let chosen = law k picked in
    let c = child_at s.children k in
    let parts = and_parts (is_running c.phase && c.generation == s.newest)
    (nat_lt (100 * open_count s.rows k) (100 * c.shape.threads + c.shape.factor * idle_in s k)) chosen.admits in
    let runs = (and_parts (is_running c.phase) (c.generation == s.newest) parts.0).0 in
    (sound.running k runs).serving

-- what isn't none is some
picked-some : (o : Option ℕ) → is_none o ≡ false → is_some o ≡ true
picked-some None some = absurd (cc)
picked-some (Some k) some = refl

-- a connection may be taken into a vacant slot where a child takes one
pub slot-allowed : (s : State) (slot : ℕ) → PicksChosen s → IsSound s → is_none (pick_child s) ≡ false → is_vacant_at s slot ≡ true
    → is_allowed s (event.Accept slot) ≡ true
slot-allowed s slot law sound some vacant =
    let serving = picked-serving s (pick_child s) law sound refl some in
    and_from (is_serving s.going && is_vacant_at s slot) (is_some (pick_child s))
    (and_from (is_serving s.going) (is_vacant_at s slot) serving vacant) (picked-some (pick_child s) some)
