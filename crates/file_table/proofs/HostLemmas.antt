-- The files that hosts have of a site: each those under its root.
use Rattle.std.proofs.Common.{◌≡◌, inl, inr, ℕ, zero, suc, ◌+◌, ◌-◌, ◌<◌, ◌≤◌, List, [], ◌∷◌, ◌++◌, length, get_or, Option, Some, None, refl, sym, ap, subst, ◌∙◌, arith}
use Rattle.std.specs.List.{position}
use Rattle.std.specs.Option.{option_and_then, option_map}
use Rattle.std.specs.Prelude.{slice_get, unwrap_or}
use Rattle.std.specs.Str.{bytes_eq}
use Rattle.std.proofs.lemmas.Bool.{cases_order}
use Rattle.std.proofs.lemmas.List.Quantifiers.{position-Some}
use Rattle.std.proofs.lemmas.Option.{none-some, same_Some, slice_get-map}
use Rattle.std.proofs.lemmas.Slice.Eq.{bytes_eq-Decides}
use Rattle.mpm_base.specs.declared.store.File.{File}
use Rattle.file_table.specs.declared.found.Found.TheVariants.{File as IsFile}
use Rattle.file_table.specs.declared.part.Part.{Part}
use Rattle.file_table.specs.declared.site_order.HostOrder.{HostOrder}
use Rattle.file_table.specs.declared.site_order.SiteOrder.{SiteOrder}
use Rattle.file_table.specs.HostFiles.{IsFileOfHost, IsFileUnder}
use Rattle.file_table.specs.Resource.{IsFoundFor}
use Rattle.file_table.specs.Site.{AreUnderEach, IsSiteOf, SeenHost, SeenSite, all_files, host_at, host_of, part_of_root, parts_from, roots_of}

-- ---- lists one behind the other

left_of : {X : Type 0} (xs ys : List X) (i : ℕ) → i < length xs → slice_get (xs ++ ys) i ≡ slice_get xs i
left_of [] ys i within = absurd (omega (arith, within))
left_of (x ∷ xs) ys zero within = refl
left_of (x ∷ xs) ys (suc i) within = left_of xs ys i (omega (arith, within))

right_of : {X : Type 0} (xs ys : List X) (k i : ℕ) → i ≡ length xs + k → slice_get (xs ++ ys) i ≡ slice_get ys k
right_of [] ys k i e = ap (slice_get ys) (omega (arith, e))
right_of (x ∷ xs) ys k zero e = absurd (omega (arith, e))
right_of (x ∷ xs) ys k (suc i) e = right_of xs ys k i (omega (arith, e))

-- ---- the parts of the roots

-- none begins before the first
parts_behind : (first : ℕ) (lists : List (List File)) (number : ℕ) (part : Part) → slice_get (parts_from first lists) number ≡ Some part → first ≤ part.first
parts_behind first [] number part at = absurd (none-some part at)
parts_behind first (files ∷ lists) zero part at =
    let is = same_Some (record { first = first; count = length files }) part at in
    omega (arith, ap (λ (p : Part). p.first) is)
parts_behind first (files ∷ lists) (suc number) part at =
    let behind = parts_behind (first + length files) lists number part at in
    omega (arith, behind)

-- no file is in two of them
parts_apart : (first : ℕ) (lists : List (List File)) (m n : ℕ) (a b : Part) (place : ℕ) → m < n → slice_get (parts_from first lists) m ≡ Some a
    → slice_get (parts_from first lists) n ≡ Some b → place < a.first + a.count → b.first ≤ place → ⊥
parts_apart first [] m n a b place less at there high low = absurd (none-some a at)
parts_apart first (files ∷ lists) m zero a b place less at there high low = absurd (omega (arith, less))
parts_apart first (files ∷ lists) zero (suc n) a b place less at there high low =
    let is = same_Some (record { first = first; count = length files }) a at in
    let behind = parts_behind (first + length files) lists n b there in
    absurd (omega (arith, behind, high, low, ap (λ (p : Part). p.first) is, ap (λ (p : Part). p.count) is))
parts_apart first (files ∷ lists) (suc m) (suc n) a b place less at there high low =
    parts_apart (first + length files) lists m n a b place (omega (arith, less)) at there high low

-- a file in the part of a root is one under it
part_files : (given : List File) (roots : List (List ℕ)) (lists : List (List File)) (first number : ℕ) (part : Part) (i : ℕ) (file : File)
    → AreUnderEach given roots lists → slice_get (parts_from first lists) number ≡ Some part → part.first ≤ first + i → first + i < part.first + part.count
    → slice_get (all_files lists) i ≡ Some file → IsFileUnder (get_or roots number []) given file
part_files given [] [] first number part i file each at low high there = absurd (none-some part at)
part_files given [] (files ∷ lists) first number part i file each at low high there = absurd each
part_files given (root ∷ roots) [] first number part i file each at low high there = absurd each
part_files given (root ∷ roots) (files ∷ lists) first zero part i file each at low high there =
    let is = same_Some (record { first = first; count = length files }) part at in
    let within : i < length files = omega (arith, high, ap (λ (p : Part). p.first) is, ap (λ (p : Part). p.count) is) in
    record { files = files; under = each.0; place = i; there = sym (left_of files (all_files lists) i within) ∙ there }
part_files given (root ∷ roots) (files ∷ lists) first (suc number) part i file each at low high there =
    let behind = parts_behind (first + length files) lists number part at in
    let k = i - length files in
    let is : i ≡ length files + k = omega (arith, behind, low) in
    part_files given roots lists (first + length files) number part k file each.1 at (omega (arith, low, is)) (omega (arith, high, is))
    (sym (right_of files (all_files lists) k i is) ∙ there)

-- ---- the part of a host

-- the place lies in the part of the root, which is one of the roots
record LiesIn (roots : List (List ℕ)) (parts : List Part) (root : List ℕ) (place : ℕ) : Type 0 where
  number : ℕ
  part : Part
  of_root : position (bytes_eq root) roots ≡ Some number
  is_part : slice_get parts number ≡ Some part
  low : part.first ≤ place
  high : place < part.first + part.count

lies_in : (roots : List (List ℕ)) (parts : List Part) (root : List ℕ) (place : ℕ) → (part_of_root roots parts root).first ≤ place
    → place < (part_of_root roots parts root).first + (part_of_root roots parts root).count → LiesIn roots parts root place
lies_in roots parts root place = by_place (position (bytes_eq root) roots) refl where
  by_part : (number : ℕ) (o : Option Part) → position (bytes_eq root) roots ≡ Some number → slice_get parts number ≡ o
      → (unwrap_or o (record { first = 0; count = 0 })).first ≤ place
      → place < (unwrap_or o (record { first = 0; count = 0 })).first + (unwrap_or o (record { first = 0; count = 0 })).count
      → LiesIn roots parts root place
  by_part number None at_root at low high = absurd (omega (arith, high))
  by_part number (Some part) at_root at low high = record { number = number; part = part; of_root = at_root; is_part = at; low = low; high = high }

  by_place : (o : Option ℕ) → position (bytes_eq root) roots ≡ o
      → (unwrap_or (option_and_then (λ i. slice_get parts i) o) (record { first = 0; count = 0 })).first ≤ place
      → place < (unwrap_or (option_and_then (λ i. slice_get parts i) o) (record { first = 0; count = 0 })).first
      + (unwrap_or (option_and_then (λ i. slice_get parts i) o) (record { first = 0; count = 0 })).count
      → LiesIn roots parts root place
  by_place None at_root low high = absurd (omega (arith, high))
  by_place (Some number) at_root low high = by_part number (slice_get parts number) at_root refl low high

-- it is the root of that number
root_is : (roots : List (List ℕ)) (root : List ℕ) (number : ℕ) → position (bytes_eq root) roots ≡ Some number → root ≡ get_or roots number []
root_is roots root number at_root = (bytes_eq-Decides root (get_or roots number [])).0 (position-Some (bytes_eq root) roots number [] at_root).1

module _ (order : SiteOrder) (given : List File) (site : SeenSite) (is : IsSiteOf order given site) where
  abbrev roots : List (List ℕ)
  roots = roots_of order.hosts

  abbrev parts : List Part
  parts = parts_from 0 is.lists

  -- where there is no host it has nothing
  abbrev no_host : SeenHost
  no_host = record { index = []; part = record { first = 0; count = 0 } }

  host_is : (host : ℕ) → host_at site host ≡ unwrap_or (option_map (host_of roots parts) (slice_get order.hosts host)) no_host
  host_is host =
      ap (λ (o : Option SeenHost). unwrap_or o no_host)
      (ap (λ (l : List SeenHost). slice_get l host) is.hosts ∙ slice_get-map (host_of roots parts) order.hosts host)

  -- a file that is found for a host lies in the part of its root
  found_in_part : (host place : ℕ) (wanted : HostOrder) → slice_get order.hosts host ≡ Some wanted → IsFoundFor site host (IsFile place)
      → LiesIn roots parts wanted.root place
  found_in_part host place wanted at found =
      let same : host_at site host ≡ host_of roots parts wanted =
      host_is host ∙ ap (λ (o : Option HostOrder). unwrap_or (option_map (host_of roots parts) o) no_host) at in
      lies_in roots parts wanted.root place (subst (λ (h : SeenHost). h.part.first ≤ place) same found.0)
      (subst (λ (h : SeenHost). place < h.part.first + h.part.count) same found.1)

  own_by : (host place : ℕ) (file : File) (o : Option HostOrder) → slice_get order.hosts host ≡ o → IsFoundFor site host (IsFile place)
      → slice_get site.files place ≡ Some file → IsFileOfHost order given host file
  own_by host place file None at found there =
      let same : host_at site host ≡ no_host = host_is host ∙ ap (λ (o : Option HostOrder). unwrap_or (option_map (host_of roots parts) o) no_host) at in
      let high = subst (λ (h : SeenHost). place < h.part.first + h.part.count) same found.1 in
      absurd (omega (arith, high))
  own_by host place file (Some wanted) at found there =
      let lies = found_in_part host place wanted at found in
      let among = sym (ap (λ (l : List File). slice_get l place) is.files) ∙ there in
      record {
        wanted = wanted;
        is_wanted = at;
        under = subst (λ (root : List ℕ). IsFileUnder root given file) (sym (root_is roots wanted.root lies.number lies.of_root))
            (part_files given roots is.lists 0 lies.number lies.part place file is.under lies.is_part (omega (arith, lies.low)) (omega (arith, lies.high)) among);
      }

  pub own : (host place : ℕ) (file : File) → IsFoundFor site host (IsFile place) → slice_get site.files place ≡ Some file → IsFileOfHost order given host file
  own host place file found there = own_by host place file (slice_get order.hosts host) refl found there

  -- one that is found for two hosts lies in one part
  one_root : (a b : List ℕ) (place : ℕ) → LiesIn roots parts a place → LiesIn roots parts b place → a ≡ b
  one_root a b place x y = elim (cases_order x.number y.number) [
    | inl same ↦ root_is roots a x.number x.of_root ∙ ap (λ n. get_or roots n []) same ∙ sym (root_is roots b y.number y.of_root)
    | inr (inl less) ↦ absurd (parts_apart 0 is.lists x.number y.number x.part y.part place less x.is_part y.is_part x.high y.low)
    | inr (inr more) ↦ absurd (parts_apart 0 is.lists y.number x.number y.part x.part place more y.is_part x.is_part y.high x.low)
  ]

  pub apart : (host other place : ℕ) (wanted meant : HostOrder) → slice_get order.hosts host ≡ Some wanted → slice_get order.hosts other ≡ Some meant
      → IsFoundFor site host (IsFile place) → IsFoundFor site other (IsFile place) → wanted.root ≡ meant.root
  apart host other place wanted meant at there found again =
      one_root wanted.root meant.root place (found_in_part host place wanted at found) (found_in_part other place meant there again)
