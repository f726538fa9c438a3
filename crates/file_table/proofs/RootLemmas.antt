-- The roots of hosts, the files that were read root by root, and the site that they make.
use Rattle.std.proofs.Common.{◌≡◌, ℕ, ◌+◌, ◌<◌, ◌≤◌, ◌^◌, ◌||◌, nat_lt, cond, not, Bool, true, false, List, [], ◌∷◌, ◌++◌, length, map, take, drop, get_or, IsUtf8, Option, Some, None, refl, sym, ap, ◌∙◌, subst, arith, append_assoc}
use Rattle.std.specs.List.{All, list_any, position_or_len}
use Rattle.std.specs.Option.{IfSome}
use Rattle.std.specs.Prelude.{Ok, Err, slice_get, position, unwrap_or}
use Rattle.std.specs.Option.{option_and_then}
use Rattle.std.specs.Str.{bytes_eq}
use Rattle.std.proofs.lemmas.List.{append-nil, drop_more, get_or_past, take_more, length-append, length-map, at_drop_more, take-append-drop, take_at, drop_at}
use Rattle.std.proofs.lemmas.List.Elements.{All-cons, All-head, All-tail, All-nil, All-push, All-map}
use Rattle.std.proofs.lemmas.Option.{slice_get_within, get_or_from_slice_get, unwrap_or-slice_get}
use Rattle.mpm_base.specs.declared.store.File.{File}
use Rattle.mpm_base.specs.Store.{StoreTold}
use Rattle.file_table.specs.declared.load_fault.LoadFault.{LoadFault}
use Rattle.file_table.specs.declared.load_fault.LoadFault.TheVariants as fault
use Rattle.file_table.specs.declared.part.Part.{Part}
use Rattle.file_table.specs.declared.site_order.HostOrder.{HostOrder}
use Rattle.file_table.specs.declared.site_order.SiteOrder.{SiteOrder}
use Rattle.file_table.specs.Order.{IsInOrder}
use Rattle.file_table.specs.Site.{AreUnder, AreUnderEach, IsSiteOf, SeenHost, SeenSite, all_files, files_of_part, first_too_large, host_of, most_files, part_of_root, parts_from, roots_of, with_roots}
use Rattle.file_table.specs.SiteInside.{AreHosts, IsPartOf}
use Rattle.file_table.specs.Load.{AreTooMany, ComesTo, IsTooLargeFile, MayLoad, MayNotLoad}
use Rattle.file_table.specs.LoadInside.{AddsRoot, HasReadRoots, IsReadingRoots, IsTooLargeUnder, MayNotReadRoot}

-- ---- the roots of hosts

pub any_mapped : {X Y : Type 0} (f : X → Y) (p : Y → Bool) (xs : List X) → list_any (λ x. p (f x)) xs ≡ list_any p (map f xs)
any_mapped f p [] = refl
any_mapped f p (x ∷ xs) = ap (λ b. p (f x) || b) (any_mapped f p xs)

place_mapped : {X Y : Type 0} (f : X → Y) (p : Y → Bool) (xs : List X) → position_or_len (λ x. p (f x)) xs ≡ position_or_len p (map f xs)
place_mapped f p [] = refl
place_mapped f p (x ∷ xs) = ap (λ n. cond (not (p (f x))) (1 + n) 0) (place_mapped f p xs)

pub position_mapped : {X Y : Type 0} (f : X → Y) (p : Y → Bool) (xs : List X) → position (λ x. p (f x)) xs ≡ position p (map f xs)
position_mapped f p xs =
    ap (λ n. cond (nat_lt n (length xs)) (Some n) None) (place_mapped f p xs)
    ∙ ap (λ n. cond (nat_lt (position_or_len p (map f xs)) n) (Some (position_or_len p (map f xs))) None) (sym (length-map xs f))

-- what part_of_root answers, by the place of the root
pub part_there : (roots : List (List ℕ)) (parts : List Part) (root : List ℕ) (place : ℕ) → position (bytes_eq root) roots ≡ Some place
    → get_or parts place (record { first = 0; count = 0 }) ≡ part_of_root roots parts root
part_there roots parts root place e =
    sym (ap (λ o. unwrap_or (option_and_then (λ i. slice_get parts i) o) (record { first = 0; count = 0 })) e ∙ unwrap_or-slice_get parts place (record { first = 0; count = 0 }))

pub part_past : (roots : List (List ℕ)) (parts : List Part) (root : List ℕ) (place : ℕ) → length parts ≤ place → position (bytes_eq root) roots ≡ Some place
    → record { first = 0; count = 0 } ≡ part_of_root roots parts root
part_past roots parts root place past e = sym (get_or_past parts place (record { first = 0; count = 0 }) past) ∙ part_there roots parts root place e

pub part_none : (roots : List (List ℕ)) (parts : List Part) (root : List ℕ) → position (bytes_eq root) roots ≡ None
    → record { first = 0; count = 0 } ≡ part_of_root roots parts root
part_none roots parts root e = sym (ap (λ o. unwrap_or (option_and_then (λ i. slice_get parts i) o) (record { first = 0; count = 0 })) e)

-- a host whose root is there, and one whose root isn't
module _ (roots : List (List ℕ)) (hosts : List HostOrder) (i : ℕ) (host : HostOrder) (root : List ℕ) (within : i < length hosts) (is : host ≡ get_or hosts i host)
    (is_root : root ≡ host.root) where
  one_more_host : with_roots roots (drop i hosts) ≡ with_roots (cond (list_any (bytes_eq root) roots) roots (roots ++ root ∷ [])) (drop (i + 1) hosts)
  one_more_host =
      at_drop_more (with_roots roots) hosts i host within ∙ ap (λ (h : HostOrder). with_roots roots (h ∷ drop (i + 1) hosts)) (sym is)
      ∙ ap (λ r. with_roots (cond (list_any (bytes_eq r) roots) roots (roots ++ r ∷ [])) (drop (i + 1) hosts)) (sym is_root)

  pub root_there : list_any (bytes_eq root) roots ≡ true → with_roots roots (drop (i + 1) hosts) ≡ with_roots roots (drop i hosts)
  root_there there = sym (one_more_host ∙ ap (λ b. with_roots (cond b roots (roots ++ root ∷ [])) (drop (i + 1) hosts)) there)

  pub root_new : list_any (bytes_eq root) roots ≡ false → with_roots (roots ++ root ∷ []) (drop (i + 1) hosts) ≡ with_roots roots (drop i hosts)
  root_new new = sym (one_more_host ∙ ap (λ b. with_roots (cond b roots (roots ++ root ∷ [])) (drop (i + 1) hosts)) new)

  -- it is a text where the roots of all hosts are
  pub root_text : All (λ (h : HostOrder). IsUtf8 h.root) hosts → IsUtf8 root
  root_text all = subst IsUtf8 (sym is_root) (subst (λ (h : HostOrder). IsUtf8 h.root) (sym is) (all i host within))

-- ---- lists of files

all_push : (lists : List (List File)) (more : List File) → all_files (lists ++ more ∷ []) ≡ all_files lists ++ more
all_push [] more = append-nil more
all_push (files ∷ lists) more = ap (λ l. files ++ l) (all_push lists more) ∙ sym (append_assoc files (all_files lists) more)

parts_push : (first : ℕ) (lists : List (List File)) (more : List File)
    → parts_from first (lists ++ more ∷ []) ≡ parts_from first lists ++ record { first = first + length (all_files lists); count = length more } ∷ []
parts_push first [] more = ap (λ n. record { first = n; count = length more } ∷ []) (omega arith)
parts_push first (files ∷ lists) more =
    ap (λ l. record { first = first; count = length files } ∷ l) (parts_push (first + length files) lists more
    ∙ ap (λ n. parts_from (first + length files) lists ++ record { first = n; count = length more } ∷ []) (omega (arith, length-append files (all_files lists))))

each_push : (given : List File) (roots : List (List ℕ)) (lists : List (List File)) (root : List ℕ) (more : List File) → AreUnderEach given roots lists
    → AreUnder root given more → AreUnderEach given (roots ++ root ∷ []) (lists ++ more ∷ [])
each_push given [] [] root more each under = (under, tt)
each_push given [] (files ∷ lists) root more each under = absurd each
each_push given (r ∷ roots) [] root more each under = absurd each
each_push given (r ∷ roots) (files ∷ lists) root more each under = (each.0, each_push given roots lists root more each.1 under)

-- ---- the files that were read, root by root

pub no_roots : (told : Option StoreTold) → IsReadingRoots told [] [] [] 0
no_roots told = record {
  lists = [];
  in_order = All-nil IsInOrder;
  are = refl;
  parts_are = refl;
  few = omega arith;
  counted = record { judged = λ more. refl; bounded = omega arith };
  known = none told;
} where
  none : (told : Option StoreTold) → IfSome told (λ t. AreUnderEach t.files [] [])
  none None = tt
  none (Some t) = tt

pub one_more_root : (told told' : Option StoreTold) (roots : List (List ℕ)) (root : List ℕ) (files files' : List File) (parts parts' : List Part) (sum sum' : ℕ)
    → told' ≡ told → IsReadingRoots told roots files parts sum → AddsRoot told' root files files' parts parts' sum sum'
    → IsReadingRoots told (roots ++ root ∷ []) files' parts' sum'
one_more_root told told' roots root files files' parts parts' sum sum' same h adds = record {
  lists = h.lists ++ adds.more ∷ [];
  in_order = All-push IsInOrder h.lists adds.more h.in_order adds.read.in_order;
  are = adds.files_are ∙ ap (λ l. l ++ adds.more) h.are ∙ sym (all_push h.lists adds.more);
  parts_are = adds.parts_are ∙ ap (λ l. l ++ record { first = length files; count = length adds.more } ∷ []) h.parts_are
      ∙ ap (λ n. parts_from 0 h.lists ++ record { first = n; count = length adds.more } ∷ []) (behind_none (length files) (length (all_files h.lists)) (ap length h.are))
      ∙ sym (parts_push 0 h.lists adds.more);
  few = subst (λ l. length l ≤ most_files) (sym adds.files_are) (omega (arith, length-append files adds.more, adds.read.few));
  counted = record {
    judged = λ rest. ap (λ l. first_too_large 0 (l ++ rest)) adds.files_are ∙ ap (first_too_large 0) (append_assoc files adds.more rest)
        ∙ h.counted.judged (adds.more ++ rest) ∙ adds.read.counted.judged rest;
    bounded = adds.read.counted.bounded;
  };
  known = more_known told h.known (subst (λ o. IfSome o (λ t. AreUnder root t.files adds.more)) same adds.known);
} where
  behind_none : (m n : ℕ) → m ≡ n → m ≡ 0 + n
  behind_none m n e = omega (arith, e)

  more_known : (told : Option StoreTold) → IfSome told (λ t. AreUnderEach t.files roots h.lists) → IfSome told (λ t. AreUnder root t.files adds.more)
      → IfSome told (λ t. AreUnderEach t.files (roots ++ root ∷ []) (h.lists ++ adds.more ∷ []))
  more_known None each under = tt
  more_known (Some t) each under = each_push t.files roots h.lists root adds.more each under

-- the same along the roots
pub next_read : (told told' : Option StoreTold) (roots : List (List ℕ)) (i : ℕ) (root : List ℕ) (files files' : List File) (parts parts' : List Part) (sum sum' : ℕ)
    → i < length roots → root ≡ get_or roots i [] → told' ≡ told → IsReadingRoots told (take i roots) files parts sum
    → AddsRoot told' root files files' parts parts' sum sum' → IsReadingRoots told (take (i + 1) roots) files' parts' sum'
next_read told told' roots i root files files' parts parts' sum sum' within is_root same h adds =
    subst (λ l. IsReadingRoots told l files' parts' sum') (sym (take_more roots i [] within ∙ ap (λ r. take i roots ++ r ∷ []) (sym is_root)))
    (one_more_root told told' (take i roots) root files files' parts parts' sum sum' same h adds)

pub all_read : (told : Option StoreTold) (roots : List (List ℕ)) (files : List File) (parts : List Part) (sum : ℕ) → IsReadingRoots told roots files parts sum
    → HasReadRoots told roots files parts
all_read told roots files parts sum h = record {
  lists = h.lists;
  in_order = h.in_order;
  are = h.are;
  parts_are = h.parts_are;
  few = h.few;
  small = ap (first_too_large 0) (sym (append-nil files)) ∙ h.counted.judged [];
  known = h.known;
}

-- ---- why a root wasn't read

module _ (roots : List (List ℕ)) (i : ℕ) (root : List ℕ) (within : i < length roots) (is_root : root ≡ get_or roots i []) where
  comes : (given files : List File) (parts : List Part) (sum : ℕ) (told : Option StoreTold) (h : IsReadingRoots told (take i roots) files parts sum)
      → AreUnderEach given (take i roots) h.lists → ComesTo roots given root files
  comes given files parts sum told h each = record {
    done = take i roots;
    behind = drop (i + 1) roots;
    all = sym (take-append-drop i roots) ∙ ap (λ l. take i roots ++ l) (drop_more roots i [] within ∙ ap (λ r. r ∷ drop (i + 1) roots) (sym is_root));
    lists = h.lists;
    under = each;
    are = h.are;
    few = h.few;
    small = ap (first_too_large 0) (sym (append-nil files)) ∙ h.counted.judged [];
  }

  too_large : (given files : List File) (parts : List Part) (sum : ℕ) (told : Option StoreTold) (name : List ℕ) (size : ℕ)
      → (h : IsReadingRoots told (take i roots) files parts sum) → AreUnderEach given (take i roots) h.lists
      → IsTooLargeUnder root given (length files) sum name size → IsTooLargeFile roots given name size
  too_large given files parts sum told name size h each large = record {
    root = root;
    before = files;
    comes = comes given files parts sum told h each;
    files = large.files;
    under = large.under;
    few = large.few;
    file = large.file;
    first = h.counted.judged large.files ∙ large.first;
    named = large.named;
    sized = large.sized;
  }

  by_fault : (given files : List File) (parts : List Part) (sum : ℕ) (told : Option StoreTold) (e : LoadFault) (h : IsReadingRoots told (take i roots) files parts sum)
      → AreUnderEach given (take i roots) h.lists → MayNotReadRoot root given (length files) sum e → MayNotLoad roots given e
  by_fault given files parts sum told fault.StoreFault h each m = tt
  by_fault given files parts sum told (fault.TooMany r) h each m =
      subst (λ x. AreTooMany roots given x) (sym m.0) (record { before = files; comes = comes given files parts sum told h each; many = m.1 })
  by_fault given files parts sum told (fault.TooLarge name size) h each m = too_large given files parts sum told name size h each m
  by_fault given files parts sum told fault.NoMemory h each m = tt

  pub not_loaded : (told told' : Option StoreTold) (files : List File) (parts : List Part) (sum : ℕ) (e : LoadFault) → told' ≡ told
      → IsReadingRoots told (take i roots) files parts sum → IfSome told' (λ t. MayNotReadRoot root t.files (length files) sum e)
      → IfSome told (λ t. MayNotLoad roots t.files e)
  not_loaded None told' files parts sum e same h m = tt
  not_loaded (Some t) told' files parts sum e same h m =
      by_fault t.files files parts sum (Some t) e h h.known (subst (λ o. IfSome o (λ t. MayNotReadRoot root t.files (length files) sum e)) same m)

-- ---- the parts of the files

pub parts_stand : (front : List File) (lists : List (List File)) → All IsInOrder lists → All (IsPartOf (front ++ all_files lists)) (parts_from (length front) lists)
parts_stand front [] in_order = All-nil (IsPartOf (front ++ []))
parts_stand front (files ∷ lists) in_order =
    let all = front ++ (files ++ all_files lists) in
    let rest = parts_stand (front ++ files) lists (All-tail IsInOrder files lists in_order) in
    All-cons (IsPartOf all) (record { first = length front; count = length files }) (parts_from (length front + length files) lists)
    (record {
      within = omega (arith, length-append front (files ++ all_files lists), length-append files (all_files lists));
      in_order = subst IsInOrder (sym own) (All-head IsInOrder files lists in_order);
    })
    (subst (λ n. All (IsPartOf all) (parts_from n lists)) (length-append front files)
    (subst (λ l. All (IsPartOf l) (parts_from (length (front ++ files)) lists)) (append_assoc front files (all_files lists)) rest))
  where
    own : files_of_part (front ++ (files ++ all_files lists)) (record { first = length front; count = length files }) ≡ files
    own = ap (take (length files)) (drop_at front (files ++ all_files lists) (length front) refl) ∙ take_at files (all_files lists) (length files) refl

no_part : (files : List File) → IsPartOf files (record { first = 0; count = 0 })
no_part files = record { within = omega arith; in_order = λ k d low high. absurd (omega (arith, high)) }

pub root_part : (files : List File) (roots : List (List ℕ)) (parts : List Part) (root : List ℕ) → All (IsPartOf files) parts → IsPartOf files (part_of_root roots parts root)
root_part files roots parts root all = by_place (position (bytes_eq root) roots) where
  by_part : (part : Option Part) → (place : ℕ) → slice_get parts place ≡ part → IsPartOf files (unwrap_or part (record { first = 0; count = 0 }))
  by_part None place e = no_part files
  by_part (Some part) place e =
      subst (IsPartOf files) (get_or_from_slice_get parts place part part e) (all place part (slice_get_within parts place part e))

  by_place : (place : Option ℕ) → IsPartOf files (unwrap_or (option_and_then (λ i. slice_get parts i) place) (record { first = 0; count = 0 }))
  by_place None = no_part files
  by_place (Some place) = by_part (slice_get parts place) place refl

pub host_parts : (files : List File) (roots : List (List ℕ)) (parts : List Part) (hosts : List HostOrder) → All (IsPartOf files) parts
    → All (λ (host : SeenHost). IsPartOf files host.part) (map (host_of roots parts) hosts)
host_parts files roots parts hosts all =
    All-map (λ (host : SeenHost). IsPartOf files host.part) (host_of roots parts) hosts (λ k d lt. root_part files roots parts (get_or hosts k d).root all)

pub parts_read : (told : Option StoreTold) (roots : List (List ℕ)) (files : List File) (parts : List Part) → HasReadRoots told roots files parts
    → All (IsPartOf files) parts
parts_read told roots files parts h =
    subst (λ p. All (IsPartOf files) p) (sym h.parts_are) (subst (λ l. All (IsPartOf l) (parts_from 0 h.lists)) (sym h.are) (parts_stand [] h.lists h.in_order))

-- ---- the site

pub are_hosts : (orders : List HostOrder) (roots : List (List ℕ)) (parts : List Part) (names : List (List (List ℕ))) (hosts : List SeenHost) (files : List File)
    → 0 < length orders → length orders < 2 ^ 32 → length files ≤ most_files → All (IsPartOf files) parts → names ≡ map (λ (h : HostOrder). h.names) orders
    → hosts ≡ map (host_of roots parts) orders → AreHosts names hosts files
are_hosts orders roots parts names hosts files some most few all e f =
    let named : length names ≡ length orders = ap length e ∙ length-map orders (λ (h : HostOrder). h.names) in
    let hosted : length hosts ≡ length orders = ap length f ∙ length-map orders (host_of roots parts) in
    record {
      some = omega (arith, some, hosted);
      most = subst (λ n. n < 2 ^ 32) (sym hosted) most;
      named = named ∙ sym hosted;
      parts = subst (λ l. All (λ (host : SeenHost). IsPartOf files host.part) l) (sym f) (host_parts files roots parts orders all);
      few = few;
    }

pub is_site : (order : SiteOrder) (roots : List (List ℕ)) (told : Option StoreTold) (files : List File) (parts : List Part) (site : SeenSite) → roots ≡ roots_of order.hosts
    → HasReadRoots told roots files parts
    → site ≡ record { names = map (λ (h : HostOrder). h.names) order.hosts; hosts = map (host_of roots parts) order.hosts; status = order.status; marks = order.marks; types = order.types; files = files }
    → IfSome told (λ t. MayLoad order t.files (Ok site))
is_site order roots None files parts site same h e = tt
is_site order roots (Some t) files parts site same h e =
    subst (λ s. IsSiteOf order t.files s) (sym e)
    (record {
      names = refl;
      lists = h.lists;
      under = subst (λ r. AreUnderEach t.files r h.lists) same h.known;
      files = h.are;
      hosts = ap (λ r. map (host_of r parts) order.hosts) same ∙ ap (λ p. map (host_of (roots_of order.hosts) p) order.hosts) h.parts_are;
      status = refl;
      marks = refl;
      types = refl;
    })

pub no_site : (order : SiteOrder) (roots : List (List ℕ)) (told : Option StoreTold) (e : LoadFault) → roots ≡ roots_of order.hosts
    → IfSome told (λ t. MayNotLoad roots t.files e) → IfSome told (λ t. MayLoad order t.files (Err e))
no_site order roots None e same m = tt
no_site order roots (Some t) e same m = subst (λ r. MayNotLoad r t.files e) same m
