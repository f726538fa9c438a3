-- No carrier is lost: each one that was laid down rests, or was taken.
use Rattle.std.specs.Prelude.{◌≡◌, ℕ, ◌+◌, ◌*◌, List}
use Rattle.table_rule.specs.declared.trail.Step.{Step}
use Rattle.recycle_perch.specs.Words.{IsRestWord, known_of, laid_one, took_one}

-- where the rule of a place holds, of all its marks together: as many steps laid a carrier down as took one, and one more where one
-- rests
abbrev pub CarriersRestOrWereTaken : Type 0
CarriersRestOrWereTaken =
    (word : ℕ) (views : List (List Step))
    → IsRestWord word views
    → 2 * known_of laid_one views ≡ word + 2 * known_of took_one views
