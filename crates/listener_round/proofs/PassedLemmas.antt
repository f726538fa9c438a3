-- What an answer owes that passes a fault on.
use Rattle.std.proofs.Common.{◌≡◌, Result, Ok, Err, IsErrAnd, MatchResult, sym, subst}

-- what is said of that fault
pub passed : {T E : Type 0} (r : Result T E) (fault : E) (P : T → Type 0) (Q : E → Type 0) → IsErrAnd r (λ e. e ≡ fault) → Q fault → MatchResult r P Q
passed (Ok x) fault P Q is holds = absurd is
passed (Err e) fault P Q is holds = subst Q (sym is) holds
