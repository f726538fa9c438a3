-- The names of a site's files in their order, and the files that were read.
use Rattle.std.proofs.Common.{◌≡◌, ℕ, ◌+◌, ◌<◌, ◌≤◌, Bool, true, false, cond, List, [], ◌∷◌, ◌++◌, length, map, take, drop, get_or, Option, Some, None, IsUtf8, refl, sym, ap, ◌∙◌, subst, arith, append_assoc}
use Rattle.std.specs.Cmp.Lexicographic.{slice_cmp}
use Rattle.std.specs.List.{All, filter, slice_get}
use Rattle.std.specs.List.Sorted.{IsPermutation, IsSortedByKey}
use Rattle.std.specs.Option.{IfSome}
use Rattle.std.specs.Ordering.{is_lt, nat_cmp, ordering_then}
use Rattle.std.specs.declared.cmp.Ordering.{Ordering}
use Rattle.std.proofs.lemmas.Bool.Decides.{nat_tests, Decides-eqb}
use Rattle.std.proofs.lemmas.Cmp.{nat_cmp_total, tied_itself}
use Rattle.std.proofs.lemmas.List.{append-nil, length_push, length-map, get_or-map, take_more, drop_more, take-append-drop, map-append}
use Rattle.std.proofs.lemmas.List.Elements.{filter_more, filter_passes, All-filter}
use Rattle.std.proofs.lemmas.List.Sorted.{All-permutation, length_permutation}
use Rattle.std.proofs.lemmas.Option.{get_or_from_slice_get, slice_get_within}
use Rattle.std.proofs.lemmas.Slice.Eq.{starts_is}
use Rattle.mpm_base.specs.declared.store.File.{File}
use Rattle.mpm_base.specs.Store.{StoreTold, lies_under, names_under}
use Rattle.file_table.specs.declared.load_fault.LoadFault.{LoadFault}
use Rattle.file_table.specs.declared.load_fault.LoadFault.TheVariants as fault
use Rattle.std.specs.Prelude.{Err, Result, MatchResult}
use Rattle.file_table.specs.Order.{IsInOrder}
use Rattle.file_table.specs.Site.{AreUnder, file_within, first_too_large, is_too_large, most_bytes_together, most_files, name_within, size_of}
use Rattle.file_table.specs.LoadInside.{HasReadFiles, IsTooLargeUnder, MayListFiles, MayNotRead, MayNotReadRoot, MayReadNext}

-- ---- the names under a root

one_more : (p : List ℕ → Bool) (xs : List (List ℕ)) (i : ℕ) (x : List ℕ) → slice_get xs i ≡ Some x
    → filter p (take (i + 1) xs) ≡ filter p (take i xs) ++ cond (p x) (x ∷ []) []
one_more p xs i x h =
    filter_more p xs i x (slice_get_within xs i x h)
    ∙ ap (λ y. filter p (take i xs) ++ cond (p y) (y ∷ []) []) (get_or_from_slice_get xs i x x h)

pub one_kept : (p : List ℕ → Bool) (xs : List (List ℕ)) (i : ℕ) (x : List ℕ) (done : List (List ℕ)) → slice_get xs i ≡ Some x
    → p x ≡ true → done ≡ filter p (take i xs) → done ++ x ∷ [] ≡ filter p (take (i + 1) xs)
one_kept p xs i x done h pass e = sym (one_more p xs i x h ∙ ap (λ b. filter p (take i xs) ++ cond b (x ∷ []) []) pass ∙ ap (λ d. d ++ x ∷ []) (sym e))

pub one_left : (p : List ℕ → Bool) (xs : List (List ℕ)) (i : ℕ) (x : List ℕ) (done : List (List ℕ)) → slice_get xs i ≡ Some x
    → p x ≡ false → done ≡ filter p (take i xs) → done ≡ filter p (take (i + 1) xs)
one_left p xs i x done h fail e =
    sym (one_more p xs i x h ∙ ap (λ b. filter p (take i xs) ++ cond b (x ∷ []) []) fail ∙ append-nil (filter p (take i xs)) ∙ sym e)

filter_same : (p : List ℕ → Bool) (xs : List (List ℕ)) → filter p (filter p xs) ≡ filter p xs
filter_same p [] = refl
filter_same p (x ∷ xs) = by_test (p x) refl (filter_same p xs) where
  by_test : (t : Bool) → p x ≡ t → filter p (filter p xs) ≡ filter p xs → filter p (cond t (x ∷ filter p xs) (filter p xs)) ≡ cond t (x ∷ filter p xs) (filter p xs)
  by_test true e h = rw e (ap (λ ys. x ∷ ys) h)
  by_test false e h = h

pub all_unmapped : {X Y : Type 0} (f : X → Y) (P : Y → Type 0) (xs : List X) → All P (map f xs) → All (λ x. P (f x)) xs
all_unmapped f P xs all k d lt = subst P (get_or-map f xs k d (f d) lt) (all k (f d) (rw (length-map xs f) lt))

pub sorted_mapped : {X Y : Type 0} (f : X → Y) (cmp : Y → Y → Ordering) (xs : List X) → IsSortedByKey f cmp xs → IsSortedByKey (λ y. y) cmp (map f xs)
sorted_mapped f cmp [] in_order k d low high = absurd (omega (arith, high))
sorted_mapped f cmp (x ∷ xs) in_order k d low high =
    let within : k + 1 < length (x ∷ xs) = rw length-map at high in
    rw (get_or-map f (x ∷ xs) (k + 1) x d within, get_or-map f (x ∷ xs) k x d (omega (arith, within))) (in_order k x low within)

-- ---- the order of names within a root

compare_behind : (front a b : List ℕ) → slice_cmp nat_cmp (front ++ a) (front ++ b) ≡ slice_cmp nat_cmp a b
compare_behind [] a b = refl
compare_behind (f ∷ fs) a b = ap (λ o. ordering_then o (slice_cmp nat_cmp (fs ++ a) (fs ++ b))) (tied_itself nat_cmp_total f) ∙ compare_behind fs a b

under_parts : (root name : List ℕ) → lies_under root name ≡ true → name ≡ (root ++ 47 ∷ []) ++ name_within root name
under_parts root name h =
    (starts_is Decides-eqb name (root ++ 47 ∷ []) true (sym h)).0 refl
    ∙ ap (λ n. (root ++ 47 ∷ []) ++ drop n name) (length_push root 47)

pub whole_name : (root name : List ℕ) → lies_under root name ≡ true → name ≡ root ++ 47 ∷ name_within root name
whole_name root name h = under_parts root name h ∙ append_assoc root (47 ∷ []) (name_within root name)

order_within : (root x y : List ℕ) → lies_under root x ≡ true → lies_under root y ≡ true
    → slice_cmp nat_cmp (name_within root x) (name_within root y) ≡ slice_cmp nat_cmp x y
order_within root x y h k =
    sym (compare_behind (root ++ 47 ∷ []) (name_within root x) (name_within root y))
    ∙ ap (λ n. slice_cmp nat_cmp n ((root ++ 47 ∷ []) ++ name_within root y)) (sym (under_parts root x h))
    ∙ ap (λ n. slice_cmp nat_cmp x n) (sym (under_parts root y k))

module _ (root : List ℕ) (names : List (List ℕ)) (files : List File) (named : map (λ (file : File). file.name) files ≡ map (name_within root) names) where
  same_length : length files ≡ length names
  same_length = sym (length-map files (λ (file : File). file.name)) ∙ ap length named ∙ length-map names (name_within root)

  name_of_file : (k : ℕ) (d : File) → k < length files → (get_or files k d).name ≡ name_within root (get_or names k [])
  name_of_file k d lt =
      sym (get_or-map (λ (file : File). file.name) files k d [] lt) ∙ ap (λ l. get_or l k []) named
      ∙ get_or-map (name_within root) names k [] [] (rw (← same_length) lt)

  -- files are in the order of their names within the root where these are
  pub in_order_within : All (λ name. lies_under root name ≡ true) names → IsSortedByKey (λ name. name) (slice_cmp nat_cmp) names → IsInOrder files
  in_order_within under in_order k d low high =
      let within : k + 1 < length names = rw (← same_length) high in
      let e = order_within root (get_or names (k + 1) []) (get_or names k []) (under (k + 1) [] within) (under k [] (omega (arith, within))) in
      rw (name_of_file (k + 1) d high, name_of_file k d (omega (arith, high))) (ap is_lt e ∙ in_order k [] low within)

-- ---- the files that were read

pub nothing_read : (root : List ℕ) (told : Option StoreTold) (before : ℕ) → before ≤ most_bytes_together → HasReadFiles root told [] before [] before
nothing_read root None before h = record { named = refl; counted = record { judged = λ more. refl; bounded = h }; known = tt }
nothing_read root (Some t) before h = record { named = refl; counted = record { judged = λ more. refl; bounded = h }; known = refl }

module _ (root : List ℕ) (names : List (List ℕ)) (before i : ℕ) (name : List ℕ) (within : i < length names) (is_name : name ≡ get_or names i []) where
  next_name : take (i + 1) names ≡ take i names ++ name ∷ []
  next_name = take_more names i [] within ∙ ap (λ n. take i names ++ n ∷ []) (sym is_name)

  one_read : (told : Option StoreTold) (files : List File) (sum : ℕ) (file : File) → HasReadFiles root told (take i names) before files sum
      → file.name ≡ name_within root name → is_too_large sum file ≡ false → IfSome told (λ t. file ≡ file_within root t.files name)
      → HasReadFiles root told (take (i + 1) names) before (files ++ file ∷ []) (sum + size_of file)
  one_read told files sum file h named small known = record {
    named = map-append (λ (f : File). f.name) files (file ∷ []) ∙ ap (λ l. l ++ file.name ∷ []) h.named ∙ ap (λ n. map (name_within root) (take i names) ++ n ∷ []) named
        ∙ sym (map-append (name_within root) (take i names) (name ∷ [])) ∙ ap (map (name_within root)) (sym next_name);
    counted = record {
      judged = λ more. ap (first_too_large before) (append_assoc files (file ∷ []) more) ∙ h.counted.judged (file ∷ more) ∙ rw small refl;
      bounded = grind (arith, nat_tests);
    };
    known = more_known told h.known known;
  } where
    more_known : (told : Option StoreTold) → IfSome told (λ t. files ≡ map (file_within root t.files) (take i names)) → IfSome told (λ t. file ≡ file_within root t.files name)
        → IfSome told (λ t. files ++ file ∷ [] ≡ map (file_within root t.files) (take (i + 1) names))
    more_known None a b = tt
    more_known (Some t) a b =
        ap (λ l. l ++ file ∷ []) a ∙ ap (λ f. map (file_within root t.files) (take i names) ++ f ∷ []) b
        ∙ sym (map-append (file_within root t.files) (take i names) (name ∷ [])) ∙ ap (map (file_within root t.files)) (sym next_name)

  first_here : (given files : List File) (sum : ℕ) → ((more : List File) → first_too_large before (files ++ more) ≡ first_too_large sum more)
      → files ≡ map (file_within root given) (take i names) → is_too_large sum (file_within root given name) ≡ true
      → first_too_large before (map (file_within root given) names) ≡ Some (file_within root given name)
  first_here given files sum judged known large =
      let rest = map (file_within root given) (drop (i + 1) names) in
      let parts : names ≡ take i names ++ name ∷ drop (i + 1) names =
      sym (take-append-drop i names) ∙ ap (λ l. take i names ++ l) (drop_more names i [] within ∙ ap (λ n. n ∷ drop (i + 1) names) (sym is_name)) in
      ap (λ l. first_too_large before (map (file_within root given) l)) parts
      ∙ ap (first_too_large before) (map-append (file_within root given) (take i names) (name ∷ drop (i + 1) names) ∙ ap (λ l. l ++ file_within root given name ∷ rest) (sym known))
      ∙ judged (file_within root given name ∷ rest) ∙ rw large refl

  why_not : (given files : List File) (sum : ℕ) (e : LoadFault) → ((more : List File) → first_too_large before (files ++ more) ≡ first_too_large sum more)
      → files ≡ map (file_within root given) (take i names) → lies_under root name ≡ true
      → MayReadNext (file_within root given name) name sum (Err e) → MayNotRead root given names before e
  why_not given files sum fault.StoreFault judged known under m = tt
  why_not given files sum (fault.TooMany r) judged known under m = m
  why_not given files sum (fault.TooLarge n s) judged known under m =
      subst (λ w. (first_too_large before (map (file_within root given) names) ≡ Some (file_within root given w)) × (s ≡ size_of (file_within root given w)) × (lies_under root w ≡ true))
      (sym m.0) (first_here given files sum judged known m.2, m.1, under)
  why_not given files sum fault.NoMemory judged known under m = tt

  not_read : (told : Option StoreTold) (files : List File) (sum : ℕ) (e : LoadFault) → HasReadFiles root told (take i names) before files sum
      → lies_under root name ≡ true → IfSome told (λ t. MayReadNext (file_within root t.files name) name sum (Err e)) → IfSome told (λ t. MayNotRead root t.files names before e)
  not_read None files sum e h under m = tt
  not_read (Some t) files sum e h under m = why_not t.files files sum e h.counted.judged h.known under m

  -- the same of a store that tells what it told before
  pub one_more_read : (told told' : Option StoreTold) (files : List File) (sum : ℕ) (file : File) → told' ≡ told → HasReadFiles root told (take i names) before files sum
      → file.name ≡ name_within root name → is_too_large sum file ≡ false → IfSome told' (λ t. file ≡ file_within root t.files name)
      → HasReadFiles root told (take (i + 1) names) before (files ++ file ∷ []) (sum + size_of file)
  one_more_read told told' files sum file e h named small known =
      one_read told files sum file h named small (subst (λ o. IfSome o (λ t. file ≡ file_within root t.files name)) e known)

  pub none_read : (told told' : Option StoreTold) (files : List File) (sum : ℕ) (e : LoadFault) → told' ≡ told → HasReadFiles root told (take i names) before files sum
      → lies_under root name ≡ true → IfSome told' (λ t. MayReadNext (file_within root t.files name) name sum (Err e)) → IfSome told (λ t. MayNotRead root t.files names before e)
  none_read told told' files sum e same h under m =
      not_read told files sum e h under (subst (λ o. IfSome o (λ t. MayReadNext (file_within root t.files name) name sum (Err e))) same m)

-- ---- the files of a root

pub is_under : (root : List ℕ) (given : List File) (listed names : List (List ℕ)) (files : List File) → listed ≡ names_under root given
    → IsPermutation (filter (lies_under root) listed) names → files ≡ map (file_within root given) names → IsInOrder files → AreUnder root given files
is_under root given listed names files e all are in_order = record {
  names = names;
  all = subst (λ l. IsPermutation l names) (ap (filter (lies_under root)) e ∙ filter_same (lies_under root) _) all;
  are = are;
  in_order = in_order;
}

named_within : (root : List ℕ) (given : List File) (names : List (List ℕ)) → map (λ (file : File). file.name) (map (file_within root given) names) ≡ map (name_within root) names
named_within root given [] = refl
named_within root given (name ∷ names) = ap (λ l. name_within root name ∷ l) (named_within root given names)

filter_short : (p : List ℕ → Bool) (xs : List (List ℕ)) → length (filter p xs) ≤ length xs
filter_short p [] = omega arith
filter_short p (x ∷ xs) = by_test (p x) (filter_short p xs) where
  by_test : (t : Bool) → length (filter p xs) ≤ length xs → length (cond t (x ∷ filter p xs) (filter p xs)) ≤ length (x ∷ xs)
  by_test true h = omega (arith, h)
  by_test false h = omega (arith, h)

-- no more files than names that were listed
pub few_files : (p : List ℕ → Bool) (root : List ℕ) (listed names : List (List ℕ)) (files : List File) → IsPermutation (filter p listed) names
    → map (λ (file : File). file.name) files ≡ map (name_within root) names → length files ≤ length listed
few_files p root listed names files all named =
    omega (arith, same_length root names files named, length_permutation _ _ all, filter_short p listed)

-- the names that were sorted lie under the root, and are texts where all are
pub sorted_under : (root : List ℕ) (listed names : List (List ℕ)) → IsPermutation (filter (lies_under root) listed) names → All (λ n. lies_under root n ≡ true) names
sorted_under root listed names all = All-permutation (λ n. lies_under root n ≡ true) _ _ all (filter_passes (lies_under root) listed)

pub sorted_texts : (root : List ℕ) (listed names : List (List ℕ)) → IsPermutation (filter (lies_under root) listed) names → All IsUtf8 listed → All IsUtf8 names
sorted_texts root listed names all texts = All-permutation IsUtf8 _ _ all (All-filter (lies_under root) IsUtf8 listed texts)

module _ (root : List ℕ) (listed names : List (List ℕ)) (all : IsPermutation (filter (lies_under root) listed) names) where
  -- the files of the names that were listed are those under the root
  pub listed_under : (told : Option StoreTold) (files : List File) → IsInOrder files → IfSome told (λ t. files ≡ map (file_within root t.files) names)
      → IfSome told (λ t. (count : ℕ) → count + length listed ≤ most_files → listed ≡ names_under root t.files → AreUnder root t.files files)
  listed_under None files in_order known = tt
  listed_under (Some t) files in_order known = λ count few e. is_under root t.files listed names files e all known in_order

  too_large : (given : List File) (count before : ℕ) (name : List ℕ) (size : ℕ) → count + length listed ≤ most_files → listed ≡ names_under root given
      → IsSortedByKey (λ n. n) (slice_cmp nat_cmp) names → MayNotRead root given names before (fault.TooLarge name size) → IsTooLargeUnder root given count before name size
  too_large given count before name size few e in_order m =
      let files = map (file_within root given) names in
      let named = named_within root given names in
      record {
        files = files;
        under = is_under root given listed names files e all refl (in_order_within root names files named (sorted_under root listed names all) in_order);
        few = omega (arith, few, few_files (lies_under root) root listed names files all named);
        file = file_within root given name;
        first = m.0;
        named = whole_name root name m.2;
        sized = m.1;
      }

  by_fault : (given : List File) (count before : ℕ) (e : LoadFault) → count + length listed ≤ most_files → listed ≡ names_under root given
      → IsSortedByKey (λ n. n) (slice_cmp nat_cmp) names → MayNotRead root given names before e → MayNotReadRoot root given count before e
  by_fault given count before fault.StoreFault few e in_order m = tt
  by_fault given count before (fault.TooMany r) few e in_order m = absurd m
  by_fault given count before (fault.TooLarge name size) few e in_order m = too_large given count before name size few e in_order m
  by_fault given count before fault.NoMemory few e in_order m = tt

  -- why they weren't read
  pub listed_not : (told : Option StoreTold) (before : ℕ) (e : LoadFault) → IsSortedByKey (λ n. n) (slice_cmp nat_cmp) names
      → IfSome told (λ t. MayNotRead root t.files names before e)
      → IfSome told (λ t. (count : ℕ) → count + length listed ≤ most_files → listed ≡ names_under root t.files → MayNotReadRoot root t.files count before e)
  listed_not None before e in_order m = tt
  listed_not (Some t) before e in_order m = λ count few same. by_fault t.files count before e few same in_order m

-- why a root's files weren't listed
not_listed : (root : List ℕ) (given : List File) (count before : ℕ) (e : LoadFault) → MayListFiles root count (names_under root given) (Err e)
    → MayNotReadRoot root given count before e
not_listed root given count before fault.StoreFault m = tt
not_listed root given count before (fault.TooMany r) m = m
not_listed root given count before (fault.TooLarge name size) m = absurd m
not_listed root given count before fault.NoMemory m = tt

pub unlisted : (told : Option StoreTold) (root : List ℕ) (count before : ℕ) (e : LoadFault)
    → IfSome told (λ t. MayListFiles root count (names_under root t.files) (Err e)) → IfSome told (λ t. MayNotReadRoot root t.files count before e)
unlisted None root count before e m = tt
unlisted (Some t) root count before e m = not_listed root t.files count before e m

-- what was read of a root whose names were listed
pub read_of_listed : {X : Type 0} (files_of : X → List File) (answer : Result X LoadFault) (told told' : Option StoreTold) (root : List ℕ) (count before : ℕ) (listed : List (List ℕ))
    → told' ≡ told → count + length listed ≤ most_files → IfSome told (λ t. listed ≡ names_under root t.files)
    → IfSome told' (λ t. (count : ℕ) → count + length listed ≤ most_files → listed ≡ names_under root t.files
    → MatchResult answer (λ read. AreUnder root t.files (files_of read)) (MayNotReadRoot root t.files count before))
    → IfSome told (λ t. MatchResult answer (λ read. AreUnder root t.files (files_of read)) (MayNotReadRoot root t.files count before))
read_of_listed files_of answer None told' root count before listed e few known h = tt
read_of_listed files_of answer (Some t) told' root count before listed e few known h =
    (subst (λ o. IfSome o (λ t. (count : ℕ) → count + length listed ≤ most_files → listed ≡ names_under root t.files
    → MatchResult answer (λ read. AreUnder root t.files (files_of read)) (MayNotReadRoot root t.files count before))) e h) count few known
