-- Two calls on one store that tells its files have one outcome.
use Rattle.std.proofs.Common.{◌≡◌, ℕ, List, length, Some, Ok, Err, Result, Option, refl, ap, arith}
use Rattle.mpm_base.specs.Store.{MayRead, MayList, IsOutcome}
use Rattle.mpm_base.specs.declared.store.Content.{Content}
use Rattle.mpm_base.specs.declared.store.StoreFault.{StoreFault}
use Rattle.mpm_base.specs.declared.store.StoreFault.TheVariants as fault

pub one_read : (file : Option Content) (most : ℕ) (one other : Result Content StoreFault)
    → MayRead (Some file) most one → MayRead (Some file) most other → IsOutcome one → IsOutcome other → one ≡ other
one_read file most (Ok xs) (Ok ys) p q i j =
    let content : xs ≡ ys = cc in
    ap Ok content
one_read file most (Ok xs) (Err fault.Missing) p q i j = absurd (cc)
one_read file most (Ok xs) (Err (fault.Large m)) p q i j =
    let content : xs ≡ q.1.0 = cc in
    let size : length xs.bytes ≡ m = cc in
    absurd (omega (arith, p.0, q.0, size))
one_read file most (Err fault.Missing) (Ok ys) p q i j = absurd (cc)
one_read file most (Err fault.Missing) (Err fault.Missing) p q i j = refl
one_read file most (Err fault.Missing) (Err (fault.Large m)) p q i j = absurd (cc)
one_read file most (Err (fault.Large n)) (Ok ys) p q i j =
    let content : ys ≡ p.1.0 = cc in
    let size : length ys.bytes ≡ n = cc in
    absurd (omega (arith, q.0, p.0, size))
one_read file most (Err (fault.Large n)) (Err fault.Missing) p q i j = absurd (cc)
one_read file most (Err (fault.Large n)) (Err (fault.Large m)) p q i j =
    let content : p.1.0 ≡ q.1.0 = cc in
    let size : n ≡ m = cc in
    ap (λ s. Err (fault.Large s)) size
one_read file most (Ok xs) (Err fault.Many) p q i j = elim q [ ]
one_read file most (Ok xs) (Err fault.Failed) p q i j = elim j [ ]
one_read file most (Ok xs) (Err fault.NoMemory) p q i j = elim j [ ]
one_read file most (Err fault.Missing) (Err fault.Many) p q i j = elim q [ ]
one_read file most (Err fault.Missing) (Err fault.Failed) p q i j = elim j [ ]
one_read file most (Err fault.Missing) (Err fault.NoMemory) p q i j = elim j [ ]
one_read file most (Err (fault.Large n)) (Err fault.Many) p q i j = elim q [ ]
one_read file most (Err (fault.Large n)) (Err fault.Failed) p q i j = elim j [ ]
one_read file most (Err (fault.Large n)) (Err fault.NoMemory) p q i j = elim j [ ]
one_read file most (Err fault.Many) other p q i j = elim p [ ]
one_read file most (Err fault.Failed) other p q i j = elim i [ ]
one_read file most (Err fault.NoMemory) other p q i j = elim i [ ]

pub one_listing : (all : List (List ℕ)) (most : ℕ) (one other : Result (List (List ℕ)) StoreFault)
    → MayList (Some all) most one → MayList (Some all) most other → IsOutcome one → IsOutcome other → one ≡ other
one_listing all most (Ok xs) (Ok ys) p q i j =
    let names : xs ≡ ys = cc in
    ap Ok names
one_listing all most (Ok xs) (Err fault.Many) p q i j =
    let size : length xs ≡ length all = ap length p.2 in
    absurd (omega (arith, p.0, q, size))
one_listing all most (Err fault.Many) (Ok ys) p q i j =
    let size : length ys ≡ length all = ap length q.2 in
    absurd (omega (arith, q.0, p, size))
one_listing all most (Err fault.Many) (Err fault.Many) p q i j = refl
one_listing all most (Ok xs) (Err fault.Missing) p q i j = elim q [ ]
one_listing all most (Ok xs) (Err (fault.Large n)) p q i j = elim q [ ]
one_listing all most (Ok xs) (Err fault.Failed) p q i j = elim j [ ]
one_listing all most (Ok xs) (Err fault.NoMemory) p q i j = elim j [ ]
one_listing all most (Err fault.Missing) other p q i j = elim p [ ]
one_listing all most (Err (fault.Large n)) other p q i j = elim p [ ]
one_listing all most (Err fault.Many) (Err fault.Missing) p q i j = elim q [ ]
one_listing all most (Err fault.Many) (Err (fault.Large n)) p q i j = elim q [ ]
one_listing all most (Err fault.Many) (Err fault.Failed) p q i j = elim j [ ]
one_listing all most (Err fault.Many) (Err fault.NoMemory) p q i j = elim j [ ]
one_listing all most (Err fault.Failed) other p q i j = elim i [ ]
one_listing all most (Err fault.NoMemory) other p q i j = elim i [ ]
