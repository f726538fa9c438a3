-- What a row keeps of its waits.
use Rattle.std.specs.Prelude.{List, map}
use Rattle.mpm_base.specs.declared.conn.Kind.{Kind}

-- the waits of a log of them
abbrev pub logged_waits : List (Kind × Unit {0}) → List Kind
logged_waits items = map (λ (item : Kind × Unit {0}). item.0) items
