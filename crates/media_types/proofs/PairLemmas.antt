-- Where the pair of an extension stands, and the type that stands there.
use Rattle.std.proofs.Common.{◌≡◌, ℕ, ◌+◌, ◌<◌, ◌≤◌, zero, suc, Bool, true, false, cond, List, [], ◌∷◌, ◌++◌, length, get_or, map, reverse, Option, Some, None, refl, sym, ap, subst, ◌∙◌, arith}
use Rattle.std.specs.Prelude.{codes}
use Rattle.std.specs.List.{find, position, position_or_len}
use Rattle.std.proofs.lemmas.List.{length-map, reverse-append}
use Rattle.media_types.specs.MediaType.{extension_of, is_pair_of, pair_of_extension, pairs_of, type_of_name, type_of_pair, with_charset}
use Rattle.media_types.specs.PairLaws.{with_pair}
use Rattle.media_types.specs.PairsInside.{ArePairsOf, pair_sent}
use Rattle.media_types.specs.Places.{place_of_extension, place_of_name}
use Rattle.media_types.specs.declared.types.MediaTypes.{MediaTypes}
use Rattle.media_types.specs.declared.types.TypePair.{TypePair}

-- a pair has the place that it has without the character sets
pub sent_place : (extension : List ℕ) (charset : Option (List ℕ)) (pairs : List TypePair)
    → position_or_len (is_pair_of extension) (map (pair_sent charset) pairs) ≡ position_or_len (is_pair_of extension) pairs
sent_place extension charset [] = refl
sent_place extension charset (p ∷ pairs) = rw (sent_place extension charset pairs) refl

-- the type that says nothing takes no character set
plain_type : (charset : Option (List ℕ)) → codes "application/octet-stream" ≡ with_charset charset (codes "application/octet-stream")
plain_type None = refl
plain_type (Some charset) = refl

-- a pair of another extension is passed
further : (extension : List ℕ) (p : TypePair) (pairs : List TypePair) → is_pair_of extension p ≡ false
    → position_or_len (is_pair_of extension) (p ∷ pairs) ≡ suc (position_or_len (is_pair_of extension) pairs)
further extension p pairs is =
    let place : position_or_len (is_pair_of extension) (p ∷ pairs) ≡ 1 + position_or_len (is_pair_of extension) pairs = rw is refl in
    omega (arith, place)

-- the first pair is of the extension, or the others decide
first_by : (charset : Option (List ℕ)) (extension : List ℕ) (p : TypePair) (pairs : List TypePair) (d : TypePair)
    → position_or_len (is_pair_of extension) (p ∷ pairs) < length (p ∷ pairs) → (b : Bool) → is_pair_of extension p ≡ b
    → (position_or_len (is_pair_of extension) pairs < length pairs
    → (get_or (map (pair_sent charset) pairs) (position_or_len (is_pair_of extension) pairs) d).media
    ≡ with_charset charset (type_of_pair (find (is_pair_of extension) pairs)))
    → (get_or (map (pair_sent charset) (p ∷ pairs)) (position_or_len (is_pair_of extension) (p ∷ pairs)) d).media
    ≡ with_charset charset (type_of_pair (find (is_pair_of extension) (p ∷ pairs)))
first_by charset extension p pairs d within true is others = rw is refl
first_by charset extension p pairs d within false is others =
    let place : position_or_len (is_pair_of extension) (p ∷ pairs) ≡ suc (position_or_len (is_pair_of extension) pairs) = further extension p pairs is in
    let inside : position_or_len (is_pair_of extension) pairs < length pairs = omega (arith, within, place) in
    ap (λ n. (get_or (map (pair_sent charset) (p ∷ pairs)) n d).media) place
    ∙ others inside
    ∙ sym (ap (λ b. with_charset charset (type_of_pair (cond b (Some p) (find (is_pair_of extension) pairs)))) is)

-- at the place of the first pair of the extension stands its type
at_first : (charset : Option (List ℕ)) (extension : List ℕ) (pairs : List TypePair) (d : TypePair)
    → position_or_len (is_pair_of extension) pairs < length pairs
    → (get_or (map (pair_sent charset) pairs) (position_or_len (is_pair_of extension) pairs) d).media
    ≡ with_charset charset (type_of_pair (find (is_pair_of extension) pairs))
at_first charset extension [] d within = absurd (omega (arith, within))
at_first charset extension (p ∷ pairs) d within =
    first_by charset extension p pairs d within (is_pair_of extension p) refl (at_first charset extension pairs d)

none_by : (extension : List ℕ) (p : TypePair) (pairs : List TypePair) → length (p ∷ pairs) ≤ position_or_len (is_pair_of extension) (p ∷ pairs)
    → (b : Bool) → is_pair_of extension p ≡ b
    → (length pairs ≤ position_or_len (is_pair_of extension) pairs → type_of_pair (find (is_pair_of extension) pairs) ≡ codes "application/octet-stream")
    → type_of_pair (find (is_pair_of extension) (p ∷ pairs)) ≡ codes "application/octet-stream"
none_by extension p pairs past true is others =
    let place : position_or_len (is_pair_of extension) (p ∷ pairs) ≡ 0 = rw is refl in
    absurd (omega (arith, past, place))
none_by extension p pairs past false is others =
    let place : position_or_len (is_pair_of extension) (p ∷ pairs) ≡ suc (position_or_len (is_pair_of extension) pairs) = further extension p pairs is in
    let behind : length pairs ≤ position_or_len (is_pair_of extension) pairs = omega (arith, past, place) in
    rw is (others behind)

-- where there is no pair of the extension, the type is the one that says nothing
none_found : (extension : List ℕ) (pairs : List TypePair) → length pairs ≤ position_or_len (is_pair_of extension) pairs
    → type_of_pair (find (is_pair_of extension) pairs) ≡ codes "application/octet-stream"
none_found extension [] past = refl
none_found extension (p ∷ pairs) past = none_by extension p pairs past (is_pair_of extension p) refl (none_found extension pairs)

there : (charset : Option (List ℕ)) (pairs : List TypePair) (extension : Option (List ℕ)) (d : TypePair)
    → place_of_extension pairs extension < length pairs
    → (get_or (map (pair_sent charset) pairs) (place_of_extension pairs extension) d).media
    ≡ with_charset charset (type_of_pair (pair_of_extension pairs extension))
there charset pairs None d within = absurd (omega (arith, within))
there charset pairs (Some extension) d within = at_first charset extension pairs d within

missing : (charset : Option (List ℕ)) (pairs : List TypePair) (extension : Option (List ℕ)) → length pairs ≤ place_of_extension pairs extension
    → codes "application/octet-stream" ≡ with_charset charset (type_of_pair (pair_of_extension pairs extension))
missing charset pairs None past = plain_type charset
missing charset pairs (Some extension) past =
    plain_type charset ∙ ap (with_charset charset) (sym (none_found extension pairs past))

-- the type at the place of a name is that of the name
pub type_there : (types : MediaTypes) (pairs : List TypePair) (name : List ℕ) (place : ℕ) (d : TypePair) → ArePairsOf types pairs
    → place ≡ place_of_name types name → place < length pairs → (get_or pairs place d).media ≡ type_of_name types name
unfolding place_of_name type_of_name
type_there types pairs name place d are is within =
    let many : length pairs ≡ length (pairs_of types) = ap length are ∙ length-map (pairs_of types) (pair_sent types.charset) in
    let inside : place_of_extension (pairs_of types) (extension_of name) < length (pairs_of types) = omega (arith, within, is, many) in
    ap (λ ps. (get_or ps place d).media) are
    ∙ ap (λ n. (get_or (map (pair_sent types.charset) (pairs_of types)) n d).media) is
    ∙ there types.charset (pairs_of types) (extension_of name) d inside

pub type_missing : (types : MediaTypes) (pairs : List TypePair) (name : List ℕ) (place : ℕ) → ArePairsOf types pairs → place ≡ place_of_name types name
    → length pairs ≤ place → codes "application/octet-stream" ≡ type_of_name types name
unfolding place_of_name type_of_name
type_missing types pairs name place are is past =
    let many : length pairs ≡ length (pairs_of types) = ap length are ∙ length-map (pairs_of types) (pair_sent types.charset) in
    let behind : length (pairs_of types) ≤ place_of_extension (pairs_of types) (extension_of name) = omega (arith, past, is, many) in
    missing types.charset (pairs_of types) (extension_of name) behind

-- a pair that is added stands before all others
pub pushed : (types : MediaTypes) (p : TypePair) → pairs_of (with_pair types p) ≡ p ∷ pairs_of types
pushed types p = rw (reverse-append types.added (p ∷ [])) refl

pub own_type : (types : MediaTypes) (p : TypePair) (name extension : List ℕ) → extension_of name ≡ Some extension → is_pair_of extension p ≡ true
    → type_of_name (with_pair types p) name ≡ with_charset types.charset p.media
unfolding type_of_name
own_type types p name extension ends is =
    ap (λ ps. with_charset types.charset (type_of_pair (pair_of_extension ps (extension_of name)))) (pushed types p)
    ∙ ap (λ e. with_charset types.charset (type_of_pair (pair_of_extension (p ∷ pairs_of types) e))) ends
    ∙ ap (λ b. with_charset types.charset (type_of_pair (cond b (Some p) (find (is_pair_of extension) (pairs_of types))))) is

pub other_type : (types : MediaTypes) (p : TypePair) (name extension : List ℕ) → extension_of name ≡ Some extension → is_pair_of extension p ≡ false
    → type_of_name (with_pair types p) name ≡ type_of_name types name
unfolding type_of_name
other_type types p name extension ends is =
    ap (λ ps. with_charset types.charset (type_of_pair (pair_of_extension ps (extension_of name)))) (pushed types p)
    ∙ ap (λ e. with_charset types.charset (type_of_pair (pair_of_extension (p ∷ pairs_of types) e))) ends
    ∙ ap (λ b. with_charset types.charset (type_of_pair (cond b (Some p) (find (is_pair_of extension) (pairs_of types))))) is
    ∙ ap (λ e. with_charset types.charset (type_of_pair (pair_of_extension (pairs_of types) e))) (sym ends)

pub unnamed_type : (types : MediaTypes) (p : TypePair) (name : List ℕ) → extension_of name ≡ None
    → type_of_name (with_pair types p) name ≡ type_of_name types name
unfolding type_of_name
unnamed_type types p name ends =
    ap (λ e. with_charset types.charset (type_of_pair (pair_of_extension (pairs_of (with_pair types p)) e))) ends
    ∙ ap (λ e. with_charset types.charset (type_of_pair (pair_of_extension (pairs_of types) e))) (sym ends)
