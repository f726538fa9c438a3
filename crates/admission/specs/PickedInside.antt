-- What helps to prove which child takes the next connection, and no public contract reaches.
use Rattle.std.specs.Prelude.{Bool, ◌&&◌, ◌||◌, ◌==◌, nat_lt}
use Rattle.admission.specs.declared.ChildCount.{ChildCount}

-- a has more idle workers than b, or as many and a lower number
abbrev pub goes_before : ChildCount → ChildCount → Bool
goes_before a b = nat_lt b.idle a.idle || (a.idle == b.idle && nat_lt a.child b.child)
