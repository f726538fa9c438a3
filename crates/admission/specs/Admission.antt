-- The rule by which a child of the event MPM takes a further connection, as the manual of Apache's
-- event MPM states it under AsyncRequestWorkerFactor, and the choice among several children.
use Rattle.std.specs.Prelude.{ℕ, ◌+◌, ◌*◌, Bool, ◌&&◌, List, [], ◌∷◌, Option, None, Some, map, filter, nat_lt, ◌==◌, min, max}
use Rattle.std.specs.Option.{option_map_or}
use Rattle.admission.specs.declared.ChildCount.{ChildCount}

-- a child of t workers, of which idle carry nothing, has room beside count open connections; the factor is in hundredths
abbrev pub has_room : ℕ → ℕ → ℕ → ℕ → Bool
has_room t factor idle count = nat_lt (100 * count) (100 * t + factor * idle)

-- the child runs, and has room
abbrev pub is_candidate : ChildCount → Bool
is_candidate c = c.running && has_room c.t c.factor c.idle c.count

-- the children that run and have room
abbrev pub candidates : List ChildCount → List ChildCount
candidates children = filter is_candidate children

-- the greatest of some numbers, 0 where there is none
abbrev pub greatest : List ℕ → ℕ
greatest [] = 0
greatest (n ∷ ns) = max n (greatest ns)

-- the least of some numbers
abbrev pub least : List ℕ → Option ℕ
least [] = None
least (n ∷ ns) = Some (option_map_or (min n) (least ns) n)

-- how many workers are idle in the candidate that has most of them
abbrev pub most_idle : List ChildCount → ℕ
most_idle children = greatest (map (λ c. c.idle) (candidates children))

-- the lowest number among the candidates with most idle workers
abbrev pub pick_of : List ChildCount → Option ℕ
pick_of children =
    least (map (λ c. c.child) (filter (λ c. c.idle == most_idle children) (candidates children)))
