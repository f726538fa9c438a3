-- What a change at one place leaves of the files.
use Rattle.std.proofs.Common.{◌≡◌, ◌≢◌, ℕ, zero, suc, ◌<◌, Bool, true, false, ◌&&◌, List, [], ◌∷◌, ◌++◌, length, Option, None, Some, get_or, set, bytes_eq, refl, sym, ap, ◌∙◌, arith}
use Rattle.std.specs.Option.{is_some}
use Rattle.std.proofs.lemmas.Bool.Decides.{nat_tests}
use Rattle.std.proofs.lemmas.Grind.{common_steps}
use Rattle.std.proofs.lemmas.List.{append-nil, get_or_default}
use Rattle.mpm_base.specs.Store.{content_of}
use Rattle.mpm_base.specs.declared.store.Content.{Content}
use Rattle.mpm_base.specs.declared.store.File.{File}
use Rattle.stand_ins.specs.declared.slot.Slot.{Slot}
use Rattle.stand_ins.specs.Files.{file_ahead, file_with, files_in, with_file, without_file}
use Rattle.stand_ins.specs.FilesInside.{HasNone, IsOnlyAt, gone, has_name, slot_at}

-- the test at a place whose name and content these are
abbrev named : List ℕ → List ℕ → Option Content → Bool
named name own content = is_some content && bytes_eq own name

-- ## The first of some files

set-here : (name : List ℕ) (content : Content) (own : List ℕ) (old : Option Content) (files : List File) → named name own old ≡ true
    → with_file name content (file_ahead own old files) ≡ file_ahead own (Some content) files
set-here name content own None files is = absurd (cc is)
set-here name content own (Some b) files is = let yes : bytes_eq own name ≡ true = is in rw yes refl

set-past : (name : List ℕ) (content : Content) (own : List ℕ) (old : Option Content) (files : List File) → named name own old ≡ false
    → with_file name content (file_ahead own old files) ≡ file_ahead own old (with_file name content files)
set-past name content own None files not = refl
set-past name content own (Some b) files not = let no : bytes_eq own name ≡ false = not in rw no refl

unset-here : (name own : List ℕ) (old : Option Content) (files : List File) → named name own old ≡ true
    → without_file name (file_ahead own old files) ≡ without_file name files
unset-here name own None files is = absurd (cc is)
unset-here name own (Some b) files is = let yes : bytes_eq own name ≡ true = is in rw yes refl

unset-past : (name own : List ℕ) (old : Option Content) (files : List File) → named name own old ≡ false
    → without_file name (file_ahead own old files) ≡ file_ahead own old (without_file name files)
unset-past name own None files not = refl
unset-past name own (Some b) files not = let no : bytes_eq own name ≡ false = not in rw no refl

content-here : (name own : List ℕ) (old : Option Content) (files : List File) → named name own old ≡ true → content_of name (file_ahead own old files) ≡ old
content-here name own None files is = absurd (cc is)
content-here name own (Some b) files is = let yes : bytes_eq own name ≡ true = is in rw yes refl

content-past : (name own : List ℕ) (old : Option Content) (files : List File) → named name own old ≡ false → content_of name (file_ahead own old files) ≡ content_of name files
content-past name own None files not = refl
content-past name own (Some b) files not = let no : bytes_eq own name ≡ false = not in rw no refl

ahead-append : (own : List ℕ) (old : Option Content) (xs ys : List File) → file_ahead own old (xs ++ ys) ≡ file_ahead own old xs ++ ys
ahead-append own None xs ys = refl
ahead-append own (Some b) xs ys = refl

-- ## None of that name

set-none : (name : List ℕ) (content : Content) (slots : List Slot) → HasNone name slots → with_file name content (files_in slots) ≡ files_in slots ++ file_with name content ∷ []
set-none name content [] none = refl
set-none name content (slot ∷ slots) none =
    set-past name content slot.name slot.content (files_in slots) (none 0)
    ∙ ap (file_ahead slot.name slot.content) (set-none name content slots (λ k. none (suc k)))
    ∙ ahead-append slot.name slot.content (files_in slots) (file_with name content ∷ [])

unset-none : (name : List ℕ) (slots : List Slot) → HasNone name slots → without_file name (files_in slots) ≡ files_in slots
unset-none name [] none = refl
unset-none name (slot ∷ slots) none =
    unset-past name slot.name slot.content (files_in slots) (none 0) ∙ ap (file_ahead slot.name slot.content) (unset-none name slots (λ k. none (suc k)))

content-none : (name : List ℕ) (slots : List Slot) → HasNone name slots → content_of name (files_in slots) ≡ None
content-none name [] none = refl
content-none name (slot ∷ slots) none = content-past name slot.name slot.content (files_in slots) (none 0) ∙ content-none name slots (λ k. none (suc k))

-- one more at the end
files-push : (slots : List Slot) (slot : Slot) → files_in (slots ++ slot ∷ []) ≡ files_in slots ++ file_ahead slot.name slot.content []
files-push [] slot = refl
files-push (first ∷ slots) slot = ap (file_ahead first.name first.content) (files-push slots slot) ∙ ahead-append first.name first.content (files_in slots) (file_ahead slot.name slot.content [])

pub put-last : (name : List ℕ) (content : Content) (slots : List Slot) → HasNone name slots
    → files_in (slots ++ record { name = name; content = Some content } ∷ []) ≡ with_file name content (files_in slots)
put-last name content slots none = files-push slots (record { name = name; content = Some content }) ∙ sym (set-none name content slots none)

-- ## One of that name

-- at that place and at none before
set-at : (name : List ℕ) (content : Content) (slots : List Slot) (i : ℕ) → has_name name (slot_at slots i) ≡ true → ((k : ℕ) → k < i → has_name name (slot_at slots k) ≡ false)
    → with_file name content (files_in slots) ≡ files_in (set slots i (record (slot_at slots i) { content = Some content }))
set-at name content [] i is before = absurd (cc is)
set-at name content (slot ∷ slots) zero is before = set-here name content slot.name slot.content (files_in slots) is
set-at name content (slot ∷ slots) (suc i) is before =
    set-past name content slot.name slot.content (files_in slots) (before 0 (omega arith))
    ∙ ap (file_ahead slot.name slot.content) (set-at name content slots i is (λ k l. before (suc k) (omega arith)))

content-at : (name : List ℕ) (slots : List Slot) (i : ℕ) → has_name name (slot_at slots i) ≡ true → ((k : ℕ) → k < i → has_name name (slot_at slots k) ≡ false)
    → content_of name (files_in slots) ≡ (slot_at slots i).content
content-at name [] i is before = absurd (cc is)
content-at name (slot ∷ slots) zero is before = content-here name slot.name slot.content (files_in slots) is
content-at name (slot ∷ slots) (suc i) is before =
    content-past name slot.name slot.content (files_in slots) (before 0 (omega arith)) ∙ content-at name slots i is (λ k l. before (suc k) (omega arith))

-- at that place and at no other
unset-at : (name : List ℕ) (slots : List Slot) (i : ℕ) → has_name name (slot_at slots i) ≡ true → ((k : ℕ) → k ≢ i → has_name name (slot_at slots k) ≡ false)
    → without_file name (files_in slots) ≡ files_in (set slots i (record (slot_at slots i) { content = None }))
unset-at name [] i is others = absurd (cc is)
unset-at name (slot ∷ slots) zero is others =
    unset-here name slot.name slot.content (files_in slots) is ∙ unset-none name slots (λ k. others (suc k) (λ e. absurd (omega arith)))
unset-at name (slot ∷ slots) (suc i) is others =
    unset-past name slot.name slot.content (files_in slots) (others 0 (λ e. absurd (omega arith)))
    ∙ ap (file_ahead slot.name slot.content) (unset-at name slots i is (λ k off. others (suc k) (λ e. off (omega arith))))

before-only : (name : List ℕ) (slots : List Slot) (i : ℕ) → IsOnlyAt name i slots → (k : ℕ) → k < i → has_name name (slot_at slots k) ≡ false
before-only name slots i only k l = only.others k (λ e. absurd (omega arith))

-- what stands at the place, however it was read
there : (slots : List Slot) (i : ℕ) (slot : Slot) → i < length slots → slot ≡ get_or slots i slot → slot_at slots i ≡ slot
there slots i slot within is = get_or_default slots i gone slot within ∙ sym is

pub set-only : (name : List ℕ) (content : Content) (slots : List Slot) (i : ℕ) (slot : Slot) → IsOnlyAt name i slots → slot ≡ get_or slots i slot
    → files_in (set slots i (record slot { content = Some content })) ≡ with_file name content (files_in slots)
set-only name content slots i slot only is =
    ap (λ (s : Slot). files_in (set slots i (record s { content = Some content }))) (sym (there slots i slot only.within is))
    ∙ sym (set-at name content slots i only.named (before-only name slots i only))

pub content-only : (name : List ℕ) (slots : List Slot) (i : ℕ) (slot : Slot) → IsOnlyAt name i slots → slot ≡ get_or slots i slot → content_of name (files_in slots) ≡ slot.content
content-only name slots i slot only is =
    content-at name slots i only.named (before-only name slots i only) ∙ ap (λ (s : Slot). s.content) (there slots i slot only.within is)

pub unset-only : (name : List ℕ) (slots : List Slot) (i : ℕ) (slot : Slot) → IsOnlyAt name i slots → slot ≡ get_or slots i slot
    → files_in (set slots i (record slot { content = None })) ≡ without_file name (files_in slots)
unset-only name slots i slot only is =
    ap (λ (s : Slot). files_in (set slots i (record s { content = None }))) (sym (there slots i slot only.within is)) ∙ sym (unset-at name slots i only.named only.others)

pub unset-missing : (name : List ℕ) (slots : List Slot) → HasNone name slots → files_in slots ≡ without_file name (files_in slots)
unset-missing name slots none = sym (unset-none name slots none)

pub get-missing : (name : List ℕ) (slots : List Slot) → HasNone name slots → None ≡ content_of name (files_in slots)
get-missing name slots none = sym (content-none name slots none)

-- the file that is there has something
pub has-content : (name : List ℕ) (slot : Slot) → has_name name slot ≡ true → is_some slot.content ≡ true
has-content name slot is = first (is_some slot.content) (bytes_eq slot.name name) is
  where
    first : (a b : Bool) → (a && b) ≡ true → a ≡ true
    first true b h = refl
    first false b h = absurd (cc h)

-- what stands where one is, of its name
pub only-name : (name : List ℕ) (slots : List Slot) (i : ℕ) (slot : Slot) → IsOnlyAt name i slots → slot ≡ get_or slots i slot → has_name name slot ≡ true
only-name name slots i slot only is = ap (has_name name) (sym (there slots i slot only.within is)) ∙ only.named
