-- What is left to send, and what a call of the link takes of it.
use Rattle.std.proofs.Common.{◌≡◌, ◌==◌, true, false, ℕ, zero, suc, ◌+◌, ◌-◌, ◌<◌, ◌≤◌, min, List, [], ◌∷◌, ◌++◌, take, drop, length, slice_get, Option, Some, None, option_map, IfSome, refl, sym, ap, ◌∙◌, arith, length-append, append_assoc}
use Rattle.std.proofs.lemmas.List.{length-drop, length-take, drop-drop, drop-take, take-append-drop, take-append-le, length-take-le, nil_from_length}
use Rattle.std.proofs.lemmas.Bool.Decides.{nat_tests}
use Rattle.std.proofs.Math.Seq.{drop-nil}
use Rattle.mpm_base.specs.declared.store.File.{File}
use Rattle.mpm_base.specs.Link.{LinkTold, LinkCounts, Writes}
use Rattle.mpm_base.specs.declared.link.Sent.TheVariants as sent
use Rattle.file_table.specs.Site.{SeenSite}
use Rattle.http_core.specs.Served.{size_of_file}
use Rattle.conn_state.specs.declared.outgoing.FileRange.{FileRange}
use Rattle.conn_state.specs.Replies.{file_range}
use Rattle.conn_state.specs.Outgoing.{Unsent, IsRangeOf, IsUnsentOf, range_bytes, pending_bytes, range_len}
use Rattle.conn_state.specs.OutgoingInside.{range_behind, unsent_behind}
use Rattle.conn_state.specs.declared.turn.WriteTurn.TheVariants as write
use Rattle.conn_state.specs.Writing.{SendsOn}
use Rattle.conn_state.specs.WritingInside.{HasSent}

-- ## A range of a file

-- how many bytes it has
range-length : (o : Option File) (from to : ℕ) → from ≤ to → to ≤ size_of_file o → length (file_range o from to) ≡ to - from
range-length None from to ordered within = omega (arith, ordered, within)
range-length (Some file) from to ordered within =
    length-take-le (to - from) (drop from file.bytes) (omega (arith, ordered, within, length-drop from file.bytes))

-- without some bytes at its front
range-drop : (o : Option File) (from to n : ℕ) → from + n ≤ to → file_range o (from + n) to ≡ drop n (file_range o from to)
range-drop None from to n fits = sym (drop-nil n)
range-drop (Some file) from to n fits =
    let left : ℕ = to - (from + n) in
    let size : n + left ≡ to - from = omega (arith, fits) in
    ap (take left) (sym (drop-drop n from file.bytes)) ∙ sym (drop-take n left (drop from file.bytes))
    ∙ ap (λ m. drop n (take m (drop from file.bytes))) size

-- the first bytes of the first bytes
take-take : (n m : ℕ) (xs : List ℕ) → take n (take m xs) ≡ take (min m n) xs
take-take zero m xs = let e : min m 0 ≡ 0 = omega arith in rw e refl
take-take (suc n) zero xs = let e : min 0 (suc n) ≡ 0 = omega arith in rw e refl
take-take (suc n) (suc m) [] = let e : min (suc m) (suc n) ≡ suc (min m n) = omega arith in rw e refl
take-take (suc n) (suc m) (x ∷ xs) =
    let e : min (suc m) (suc n) ≡ suc (min m n) = omega arith in
    rw e (ap (λ ys. x ∷ ys) (take-take n m xs))

-- the first bytes of a range, as a slice of the file
pub piece-is : (o : Option File) (bytes : List ℕ) (from to count : ℕ) → option_map (λ (f : File). f.bytes) o ≡ Some bytes → count ≡ min (to - from) 65536
    → take (from + count - from) (drop from bytes) ≡ take 65536 (file_range o from to)
piece-is None bytes from to count file size = absurd (cc)
piece-is (Some f) bytes from to count file size =
    let same : f.bytes ≡ bytes = cc in
    let few : from + count - from ≡ min (to - from) 65536 = omega (arith, size) in
    rw few (ap (λ xs. take (min (to - from) 65536) (drop from xs)) (sym same) ∙ sym (take-take 65536 (to - from) (drop from f.bytes)))

-- ## What is left

-- how many bytes the range has that is left of the body
body-length : (site : SeenSite) (body : Option FileRange) → IfSome body (IsRangeOf site) → length (range_bytes site body) ≡ range_len body
body-length site None of = refl
body-length site (Some r) of = range-length (slice_get site.files r.file) r.from r.to of.ordered of.within

-- the body without some bytes at its front
body-drop : (site : SeenSite) (body : Option FileRange) (n : ℕ) → IfSome body (IsRangeOf site) → n ≤ range_len body
    → range_bytes site (option_map (range_behind n) body) ≡ drop n (range_bytes site body)
body-drop site None n of fits = sym (drop-nil n)
body-drop site (Some r) n of fits = range-drop (slice_get site.files r.file) r.from r.to n (omega (arith, fits, of.ordered))

-- it is of the site
body-of : (site : SeenSite) (body : Option FileRange) (n : ℕ) → IfSome body (IsRangeOf site) → n ≤ range_len body
    → IfSome (option_map (range_behind n) body) (IsRangeOf site)
body-of site None n of fits = tt
body-of site (Some r) n of fits = record { there = of.there; ordered = omega (arith, fits, of.ordered); within = of.within }

-- how many bytes are pending
pub pending-length : (site : SeenSite) (u : Unsent) → IsUnsentOf site u → length (pending_bytes site u) ≡ length u.head + range_len u.body
pending-length site u of = length-append u.head (range_bytes site u.body) ∙ ap (λ n. length u.head + n) (body-length site u.body of)

-- the front of two lists left out
drop-append-any : (xs ys : List ℕ) (n : ℕ) → drop n (xs ++ ys) ≡ drop n xs ++ drop (n - length xs) ys
drop-append-any [] ys zero = refl
drop-append-any [] ys (suc n) =
    let same : suc n ≡ suc n - 0 = omega arith in
    ap (λ m. drop m ys) same
drop-append-any (x ∷ xs) ys zero =
    let same : 0 ≡ 0 - length (x ∷ xs) = omega arith in
    ap (λ m. (x ∷ xs) ++ drop m ys) same
drop-append-any (x ∷ xs) ys (suc n) =
    let same : suc n - length (x ∷ xs) ≡ n - length xs = omega arith in
    rw same (drop-append-any xs ys n)

-- so many bytes more were sent
pub pending-behind : (site : SeenSite) (u : Unsent) (n : ℕ) → IsUnsentOf site u → n ≤ length u.head + range_len u.body
    → pending_bytes site (unsent_behind n u) ≡ drop n (pending_bytes site u)
pending-behind site u n of fits =
    ap (λ xs. drop n u.head ++ xs) (body-drop site u.body (n - length u.head) of (omega (arith, fits)))
    ∙ sym (drop-append-any u.head (range_bytes site u.body) n)

-- what is left is of the site
pub unsent-behind : (site : SeenSite) (u : Unsent) (n : ℕ) → IsUnsentOf site u → n ≤ length u.head + range_len u.body → IsUnsentOf site (unsent_behind n u)
unsent-behind site u n of fits = body-of site u.body (n - length u.head) of (omega (arith, fits))

-- ## One call of the link

-- what is offered: the head, and a piece of the body
abbrev pub offered : SeenSite → Unsent → List ℕ
offered site u = u.head ++ take 65536 (range_bytes site u.body)

-- the two pieces are what is offered
pub offered-is : (site : SeenSite) (u : Unsent) (first second : List ℕ) → first ≡ u.head → second ≡ take 65536 (range_bytes site u.body)
    → first ++ second ≡ offered site u
offered-is site u first second is_first is_second = ap (λ xs. xs ++ second) is_first ∙ ap (λ ys. u.head ++ ys) is_second

-- it is a front of what is pending
pending-offered : (site : SeenSite) (u : Unsent) → pending_bytes site u ≡ offered site u ++ drop 65536 (range_bytes site u.body)
pending-offered site u =
    ap (λ xs. u.head ++ xs) (sym (take-append-drop 65536 (range_bytes site u.body)))
    ∙ sym (append_assoc u.head (take 65536 (range_bytes site u.body)) (drop 65536 (range_bytes site u.body)))

-- how many bytes are offered
pub offered-length : (site : SeenSite) (u : Unsent) → IsUnsentOf site u → length (offered site u) ≡ length u.head + min 65536 (range_len u.body)
offered-length site u of =
    length-append u.head (take 65536 (range_bytes site u.body))
    ∙ ap (λ n. length u.head + n) (length-take 65536 (range_bytes site u.body) ∙ ap (λ n. min 65536 n) (body-length site u.body of))

-- how many bytes of the head are left once some more were sent
pub head-behind : (u u' : Unsent) (n : ℕ) → u' ≡ unsent_behind n u → length u'.head ≡ length u.head - n
head-behind u u' n left = ap (λ (x : Unsent). length x.head) left ∙ length-drop n u.head

-- how many bytes a range has without some at its front
range-behind : (n : ℕ) (body : Option FileRange) → range_len (option_map (range_behind n) body) ≡ range_len body - n
range-behind n None = omega arith
range-behind n (Some r) = omega arith

-- how many bytes of the body are left then
pub body-behind : (u u' : Unsent) (n : ℕ) → u' ≡ unsent_behind n u → range_len u'.body ≡ range_len u.body - (n - length u.head)
body-behind u u' n left = ap (λ (x : Unsent). range_len x.body) left ∙ range-behind (n - length u.head) u.body

-- no more was taken than is left
pub taken-fits : (site : SeenSite) (u : Unsent) (n : ℕ) → IsUnsentOf site u → n ≤ length (offered site u) → n ≤ length u.head + range_len u.body
taken-fits site u n of fits = omega (arith, fits, offered-length site u of)

-- some of it is offered where some is left
pub offers-some : (site : SeenSite) (u : Unsent) → IsUnsentOf site u → (length u.head + range_len u.body == 0) ≡ false → 0 < length (offered site u)
offers-some site u of left = grind (arith, nat_tests, left, offered-length site u of)

-- the call took so many bytes of it
pub has_sent-offered : (told told' : Option LinkTold) (counts counts' : LinkCounts) (site : SeenSite) (u u' : Unsent) (n : ℕ) → IsUnsentOf site u → u' ≡ unsent_behind n u
    → Writes (record { told = told; counts = counts }) (record { told = told'; counts = counts' }) (sent.Put n) (offered site u)
    → HasSent told told' counts counts' (pending_bytes site u) (pending_bytes site u')
has_sent-offered told told' counts counts' site u u' n of left writes =
    let fits = taken-fits site u n of writes.fits.0 in
    let behind : pending_bytes site u' ≡ drop n (pending_bytes site u) = ap (pending_bytes site) left ∙ pending-behind site u n of fits in
    let front : take n (pending_bytes site u) ≡ take n (offered site u) =
    ap (take n) (pending-offered site u) ∙ take-append-le n (offered site u) (drop 65536 (range_bytes site u.body)) writes.fits.0 in
    record {
      sent = take n (offered site u);
      front = sym (take-append-drop n (pending_bytes site u)) ∙ ap (λ xs. xs ++ drop n (pending_bytes site u)) front
          ∙ ap (λ xs. take n (offered site u) ++ xs) (sym behind);
      told_is = writes.told_is;
      faults = writes.faults;
      late_reads = writes.late_reads;
      late_writes = writes.late_writes;
      ends = writes.ends;
    }

-- where nothing is left, a front of what was pending and no more was sent
pub sends-done : (told told' : Option LinkTold) (counts counts' : LinkCounts) (bytes : List ℕ) (site : SeenSite) (u : Unsent) → IsUnsentOf site u
    → HasSent told told' counts counts' bytes (pending_bytes site u) → (length u.head + range_len u.body == 0) ≡ true
    → SendsOn told told' counts counts' bytes [] write.Done
sends-done told told' counts counts' bytes site u of sent left =
    let none : pending_bytes site u ≡ [] = nil_from_length (pending_bytes site u) (grind (arith, nat_tests, left, pending-length site u of)) in
    record {
      leaves = refl;
      sent = sent.sent;
      front = sent.front ∙ ap (λ xs. sent.sent ++ xs) none;
      told_is = sent.told_is;
      faults = sent.faults;
      late_reads = sent.late_reads;
      late_writes = sent.late_writes;
      ends = sent.ends;
    }

-- fewer bytes are left then
pub fewer-left : (site : SeenSite) (u u' : Unsent) (n : ℕ) → IsUnsentOf site u → u' ≡ unsent_behind n u → n ≤ length (offered site u) → 0 < n
    → length (pending_bytes site u') < length (pending_bytes site u)
fewer-left site u u' n of left fits some =
    let within = taken-fits site u n of fits in
    let behind : pending_bytes site u' ≡ drop n (pending_bytes site u) = ap (pending_bytes site) left ∙ pending-behind site u n of within in
    omega (arith, some, within, ap length behind, length-drop n (pending_bytes site u), pending-length site u of)
