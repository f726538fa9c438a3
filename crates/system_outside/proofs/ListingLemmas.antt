-- What lies below a folder, and a listing with one more entry.
use Rattle.std.proofs.Common.{◌≡◌, ℕ, ◌≤◌, true, Option, IfSome, List, [], ◌∷◌, ◌++◌, IsUtf8, length, nat_eq, sym, ◌∙◌, ap, subst, refl, arith}
use Rattle.std.proofs.lemmas.Grind.{common_steps}
use Rattle.std.specs.List.{starts_with}
use Rattle.std.specs.Option.{option_to_list}
use Rattle.std.proofs.lemmas.List.{append_assoc}
use Rattle.std.proofs.lemmas.List.Elements.{All-push, All-pop, All-cons, All-nil}
use Rattle.mpm_base.specs.Store.{lies_under}
use Rattle.system_outside.specs.declared.entry.EntryKind.{EntryKind}
use Rattle.system_outside.specs.declared.entry.EntryKind.TheVariants as entry
use Rattle.system_outside.specs.ListingInside.{IsFolderOf, IsListing, SeenListing, first_listing, with_entry}

-- what begins with a list does so with more behind it
pub starts_more : (xs ys p : List ℕ) → starts_with nat_eq xs p ≡ true → starts_with nat_eq (xs ++ ys) p ≡ true
starts_more xs ys [] h = grind (arith, common_steps)
starts_more [] ys (q ∷ p) h = grind (arith, common_steps)
starts_more (x ∷ xs) ys (q ∷ p) h = let more = starts_more xs ys p in grind (arith, common_steps)

-- a list begins with itself
pub starts_self : (xs : List ℕ) → starts_with nat_eq xs xs ≡ true
starts_self [] = refl
starts_self (x ∷ xs) = let same = starts_self xs in grind (arith, common_steps)

-- a name in a folder lies below the first one
pub name_below : (under folder name : List ℕ) → IsFolderOf under folder → lies_under under (folder ++ 47 ∷ name) ≡ true
name_below under folder name h =
    let more = starts_more (folder ++ 47 ∷ []) name (under ++ 47 ∷ []) h in
    subst (λ xs. starts_with nat_eq xs (under ++ 47 ∷ []) ≡ true) (append_assoc folder (47 ∷ []) name) more

-- so does what stands in a folder there
pub folder_below : (under folder name : List ℕ) → IsFolderOf under folder → IsFolderOf under (folder ++ 47 ∷ name)
folder_below under folder name h =
    starts_more (folder ++ 47 ∷ name) (47 ∷ []) (under ++ 47 ∷ []) (name_below under folder name h)

-- one more entry of a folder
pub listing_with : (under folder name : List ℕ) (most : ℕ) (l : SeenListing) (b : EntryKind)
    → IsFolderOf under folder → IsUtf8 (folder ++ 47 ∷ name) → IsListing under most l
    → (length l.names ≤ most → length (with_entry l (folder ++ 47 ∷ name) b).names ≤ most)
    → IsListing under most (with_entry l (folder ++ 47 ∷ name) b)
listing_with under folder name most l entry.Folder f u h few = record {
  few = h.few;
  text = h.text;
  below = h.below;
  folders = All-push (IsFolderOf under) l.folders (folder ++ 47 ∷ name) h.folders (folder_below under folder name f);
}
listing_with under folder name most l entry.File f u h few = record {
  few = few h.few;
  text = All-push IsUtf8 l.names (folder ++ 47 ∷ name) h.text u;
  below = All-push (λ n. lies_under under n ≡ true) l.names (folder ++ 47 ∷ name) h.below (name_below under folder name f);
  folders = h.folders;
}
listing_with under folder name most l entry.Other f u h few = h

pub listing_more : (under folder name whole : List ℕ) (most : ℕ) (l m : SeenListing) (b : EntryKind)
    → whole ≡ folder ++ 47 ∷ name → m ≡ with_entry l whole b → IsFolderOf under folder → IsUtf8 whole → IsListing under most l
    → (length l.names ≤ most → length m.names ≤ most) → IsListing under most m
listing_more under folder name whole most l m b e d f u h few =
    let P : SeenListing → Type 0 = λ k. IsListing under most k in
    let F : SeenListing → Type 0 = λ k. length l.names ≤ most → length k.names ≤ most in
    let same : m ≡ with_entry l (folder ++ 47 ∷ name) b = d ∙ ap (λ w. with_entry l w b) e in
    subst P (sym same) (listing_with under folder name most l b f (subst IsUtf8 e u) h (subst F same few))

-- a listing without the folder that is gone through next
pub listing_less : (under : List ℕ) (most : ℕ) (l m : SeenListing) (next : Option (List ℕ))
    → m.names ≡ l.names → l.folders ≡ m.folders ++ option_to_list next → IsListing under most l → IsListing under most m × IfSome next (IsFolderOf under)
listing_less under most l m next same taken h =
    let left = All-pop (IsFolderOf under) l.folders m.folders next taken h.folders in
    (record { few = rw same h.few; text = rw same h.text; below = rw same h.below; folders = left.0 }, left.1)

-- a listing of nothing yet
pub first_is_listing : (under : List ℕ) (most : ℕ) → IsListing under most (first_listing under)
first_is_listing under most = record {
  few = omega arith;
  text = All-nil IsUtf8;
  below = All-nil (λ n. lies_under under n ≡ true);
  folders = All-cons (IsFolderOf under) under [] (starts_self (under ++ 47 ∷ [])) (All-nil (IsFolderOf under));
}
