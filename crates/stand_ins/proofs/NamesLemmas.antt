-- The names below a folder.
use Rattle.std.proofs.Common.{◌≡◌, ℕ, true, false, Bool, cond, ◌&&◌, List, [], ◌∷◌, ◌++◌, length, drop, map, Option, None, Some, IsUtf8, nat_eq, refl, sym, ap, subst, ◌∙◌, arith}
use Rattle.std.specs.List.{All, count_by, filter, starts_with}
use Rattle.std.specs.Option.{is_some}
use Rattle.std.proofs.lemmas.List.{length-map}
use Rattle.std.proofs.lemmas.List.Sums.{length-filter}
use Rattle.std.proofs.lemmas.List.Elements.{All-filter, All-map, filter_passes}
use Rattle.mpm_base.specs.declared.store.Content.{Content}
use Rattle.mpm_base.specs.declared.store.File.{File}
use Rattle.mpm_base.specs.Store.{lies_under, names_under}
use Rattle.stand_ins.specs.declared.slot.Slot.{Slot}
use Rattle.stand_ins.specs.Files.{file_ahead, files_in}
use Rattle.stand_ins.specs.FilesInside.{HaveTexts, is_listed, names_in}

-- a list begins with two others, one behind the other
pub starts_with-append : (xs ys zs : List ℕ)
    → starts_with nat_eq xs (ys ++ zs) ≡ (starts_with nat_eq xs ys && starts_with nat_eq (drop (length ys) xs) zs)
starts_with-append xs [] zs = refl
starts_with-append [] (y ∷ ys) zs = refl
starts_with-append (x ∷ xs) (y ∷ ys) zs = grind (arith, starts_with-append xs ys zs)

-- the first of the places, and the others
first-name : (listed : Bool) (slot : Slot) (slots : List Slot)
    → map (λ (s : Slot). s.name) (cond listed (slot ∷ slots) slots) ≡ cond listed (slot.name ∷ map (λ (s : Slot). s.name) slots) (map (λ (s : Slot). s.name) slots)
first-name true slot slots = refl
first-name false slot slots = refl

first-listed : (folder own : List ℕ) (content : Option Content) (files : List File)
    → cond (is_some content && lies_under folder own) (own ∷ names_under folder files) (names_under folder files) ≡ names_under folder (file_ahead own content files)
first-listed folder own None files = refl
first-listed folder own (Some b) files = refl

-- they are the names of the files at the places
pub names_in-is : (folder : List ℕ) (slots : List Slot) → names_in folder slots ≡ names_under folder (files_in slots)
names_in-is folder [] = refl
names_in-is folder (slot ∷ slots) =
    first-name (is_listed folder slot) slot (filter (is_listed folder) slots)
    ∙ ap (λ names. cond (is_listed folder slot) (slot.name ∷ names) names) (names_in-is folder slots)
    ∙ first-listed folder slot.name slot.content (files_in slots)

-- as many as there are places at which one is listed
pub length-listed : (folder : List ℕ) (slots : List Slot) → length (names_under folder (files_in slots)) ≡ count_by (is_listed folder) slots
length-listed folder slots =
    ap length (sym (names_in-is folder slots)) ∙ length-map (filter (is_listed folder) slots) (λ (s : Slot). s.name) ∙ length-filter (is_listed folder) slots

-- the names are UTF-8 where those at all places are
pub utf8-listed : (folder : List ℕ) (slots : List Slot) → HaveTexts slots → All IsUtf8 (names_in folder slots)
utf8-listed folder slots all =
    All-map IsUtf8 (λ (s : Slot). s.name) (filter (is_listed folder) slots) (All-filter (is_listed folder) (λ (s : Slot). IsUtf8 s.name) slots all)

-- each name below a folder lies there
pub below-listed : (folder : List ℕ) (slots : List Slot) → All (λ name. lies_under folder name ≡ true) (names_in folder slots)
below-listed folder slots =
    subst (All (λ name. lies_under folder name ≡ true)) (sym (names_in-is folder slots)) (filter_passes (lies_under folder) (map (λ (f : File). f.name) (files_in slots)))
