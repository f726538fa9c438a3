-- Where a tick stands among what a listener made of the shares of its waits.
use Rattle.std.proofs.Common.{◌≡◌, ◌⊎◌, inl, inr, ℕ, zero, suc, Bool, true, false, cond, nat_lt, List, [], ◌∷◌, ◌++◌, map, replicate, Option, None, Some, refl, sym, ap, subst, ◌∙◌, append-nil, append_assoc}
use Rattle.std.proofs.lemmas.Bool.{cases_Bool, or_from, or_parts}
use Rattle.std.proofs.lemmas.Grind.{flat_map-append}
use Rattle.std.proofs.lemmas.List.Folds.{list_any-append}
use Rattle.std.specs.List.{flat_map, list_any}
use Rattle.conn_machine.specs.declared.state.Going.{Going}
use Rattle.conn_machine.specs.declared.state.Going.TheVariants.{Ending, Halted, Serving}
use Rattle.conn_machine.specs.declared.event.Why.TheVariants as why
use Rattle.mpm_base.specs.declared.script_line.CommandWord.{CommandWord}
use Rattle.listener_round.specs.Pace.{AreMadeOf, Brought, IsCutShort, IsUnsignalled, Share, made_from, made_of, moment_behind, moment_by, moved, ordered, signalled, taken, ticked, ticks_by}
use Rattle.board_book.specs.Moments.{moment_for}
use Rattle.run_laws.specs.Unhurried.{slots_in}

-- ## Lists with a tick

-- time passed
abbrev pub is_ticked : Brought → Bool
is_ticked (ticked m) = true
is_ticked (signalled slot) = false
is_ticked (ordered word) = false
is_ticked moved = false
is_ticked taken = false

-- neither of two lists has what has neither
pub none-append : (test : Brought → Bool) (a b : List Brought) → list_any test a ≡ false → list_any test b ≡ false → list_any test (a ++ b) ≡ false
none-append test a b first second = list_any-append test a b ∙ or_from (list_any test a) (list_any test b) first second

-- a list with a tick has one
has-tick : (xs ys : List Brought) (m : ℕ) → list_any is_ticked (xs ++ ticked m ∷ ys) ≡ false → ⊥
has-tick [] ys m none = cc none
has-tick (x ∷ xs) ys m none = has-tick xs ys m (or_parts (is_ticked x) (list_any is_ticked (xs ++ ticked m ∷ ys)) none).1

-- a tick that isn't among the first of a list stands behind them
pub tick-behind : (zs tail xs ys : List Brought) (m : ℕ) → list_any is_ticked zs ≡ false → zs ++ tail ≡ xs ++ ticked m ∷ ys
    → (xs' : List Brought) × (xs ≡ zs ++ xs') × (tail ≡ xs' ++ ticked m ∷ ys)
tick-behind [] tail xs ys m none eq = (xs, refl, eq)
tick-behind (z ∷ zs) tail [] ys m none eq =
    let same : z ≡ ticked m = cc eq in
    let here = (or_parts (is_ticked z) (list_any is_ticked zs) none).0 in
    absurd (cc (subst (λ (b : Brought). is_ticked b ≡ false) same here))
tick-behind (z ∷ zs) tail (x ∷ xs) ys m none eq =
    let heads : x ≡ z = cc eq in
    let tails : zs ++ tail ≡ xs ++ ticked m ∷ ys = cc eq in
    let rest = (or_parts (is_ticked z) (list_any is_ticked zs) none).1 in
    let found = tick-behind zs tail xs ys m rest tails in
    (found.0, cc (heads, found.1), found.2)

-- and one that isn't among the last ones before those
tick-before : (zs tail xs ys : List Brought) (m : ℕ) → list_any is_ticked tail ≡ false → zs ++ tail ≡ xs ++ ticked m ∷ ys
    → (ys' : List Brought) × (zs ≡ xs ++ ticked m ∷ ys')
tick-before [] tail xs ys m none eq = absurd (has-tick xs ys m (subst (λ (l : List Brought). list_any is_ticked l ≡ false) eq none))
tick-before (z ∷ zs) tail [] ys m none eq =
    let same : z ≡ ticked m = cc eq in (zs, ap (λ (b : Brought). b ∷ zs) same)
tick-before (z ∷ zs) tail (x ∷ xs) ys m none eq =
    let heads : x ≡ z = cc eq in
    let tails : zs ++ tail ≡ xs ++ ticked m ∷ ys = cc eq in
    let found = tick-before zs tail xs ys m none tails in
    (found.0, cc (heads, found.1))

-- ## A share

-- what is made of it besides that time passes
abbrev rest_of : Share → List Brought
rest_of s = map signalled s.signals ++ map ordered s.orders ++ replicate s.moves moved ++ replicate s.handed taken

-- of none of these
none-signalled : (test : Brought → Bool) (slots : List ℕ) → ((slot : ℕ) → test (signalled slot) ≡ false) → list_any test (map signalled slots) ≡ false
none-signalled test [] none = refl
none-signalled test (slot ∷ slots) none = or_from (test (signalled slot)) _ (none slot) (none-signalled test slots none)

none-ordered : (test : Brought → Bool) (words : List CommandWord) → ((word : CommandWord) → test (ordered word) ≡ false)
    → list_any test (map ordered words) ≡ false
none-ordered test [] none = refl
none-ordered test (word ∷ words) none = or_from (test (ordered word)) _ (none word) (none-ordered test words none)

pub none-replicated : (test : Brought → Bool) (n : ℕ) (b : Brought) → test b ≡ false → list_any test (replicate n b) ≡ false
none-replicated test zero b none = refl
none-replicated test (suc n) b none = or_from (test b) _ none (none-replicated test n b none)

rest-still : (s : Share) → list_any is_ticked (rest_of s) ≡ false
rest-still s =
    none-append is_ticked (map signalled s.signals ++ map ordered s.orders ++ replicate s.moves moved) (replicate s.handed taken)
    (none-append is_ticked (map signalled s.signals ++ map ordered s.orders) (replicate s.moves moved)
    (none-append is_ticked (map signalled s.signals) (map ordered s.orders) (none-signalled is_ticked s.signals (λ slot. refl))
    (none-ordered is_ticked s.orders (λ word. refl)))
    (none-replicated is_ticked s.moves moved refl))
    (none-replicated is_ticked s.handed taken refl)

-- time passes once for its answer, or not
ticks-are : (moment : ℕ) (answer : Option ℕ)
    → (ticks_by moment answer ≡ []) ⊎ ((a : ℕ) × (answer ≡ Some a) × (ticks_by moment answer ≡ moment_for a ∷ []))
ticks-are moment None = inl refl
ticks-are moment (Some a) =
    elim (cases_Bool (nat_lt moment (moment_for a))) [
      | inl later ↦ inr (a, refl, ap (λ (b : Bool). cond b (moment_for a ∷ []) []) later)
      | inr not ↦ inl (ap (λ (b : Bool). cond b (moment_for a ∷ []) []) not)
    ]

-- what is made of it, by the ticks of it
made-by : (moment : ℕ) (s : Share) (ticks : List ℕ) → ticks_by moment s.answer ≡ ticks
    → made_of moment s
    ≡ map ticked ticks ++ map signalled s.signals ++ map ordered s.orders ++ replicate s.moves moved ++ replicate s.handed taken
made-by moment s ticks is =
    ap
    (λ (l : List ℕ). map ticked l ++ map signalled s.signals ++ map ordered s.orders ++ replicate s.moves moved ++ replicate s.handed taken)
    is

-- ## The share of a tick

-- of these shares one is that of the tick to the moment, and what stands before the tick is what the shares before it ask for
pub record TickOf (moment : ℕ) (shares : List Share) (xs : List Brought) (m : ℕ) : Type 0 where
  pub before : List Share
  pub share : Share
  pub behind : List Share
  pub shares_are : shares ≡ before ++ share ∷ behind
  pub answer : ℕ
  pub answered : share.answer ≡ Some answer
  pub moment_is : m ≡ moment_for answer
  pub made : xs ≡ made_from moment before

-- one share further on
further : (moment : ℕ) (s : Share) (shares : List Share) (xs xs' : List Brought) (m : ℕ) → xs ≡ made_of moment s ++ xs'
    → TickOf (moment_by moment s.answer) shares xs' m → TickOf moment (s ∷ shares) xs m
further moment s shares xs xs' m is found = record {
  before = s ∷ found.before;
  share = found.share;
  behind = found.behind;
  shares_are = ap (λ (l : List Share). s ∷ l) found.shares_are;
  answer = found.answer;
  answered = found.answered;
  moment_is = found.moment_is;
  made = is ∙ ap (λ (l : List Brought). made_of moment s ++ l) found.made;
}

-- behind a share that ticks
by-ticking : (moment a : ℕ) (s : Share) (shares : List Share) (xs ys : List Brought) (m : ℕ) → s.answer ≡ Some a
    → made_of moment s ≡ ticked (moment_for a) ∷ rest_of s
    → ((xs' : List Brought) → made_from (moment_by moment s.answer) shares ≡ xs' ++ ticked m ∷ ys → TickOf (moment_by moment s.answer) shares xs' m)
    → (ticked (moment_for a) ∷ rest_of s) ++ made_from (moment_by moment s.answer) shares ≡ xs ++ ticked m ∷ ys
    → TickOf moment (s ∷ shares) xs m
by-ticking moment a s shares [] ys m answered made onward eq =
    let same : ticked m ≡ ticked (moment_for a) = cc eq in
    record {
      before = [];
      share = s;
      behind = shares;
      shares_are = refl;
      answer = a;
      answered = answered;
      moment_is = cc same;
      made = refl;
    }
by-ticking moment a s shares (x ∷ xs) ys m answered made onward eq =
    let more = made_from (moment_by moment s.answer) shares in
    let head : x ≡ ticked (moment_for a) = cc eq in
    let tails : rest_of s ++ more ≡ xs ++ ticked m ∷ ys = cc eq in
    let found = tick-behind (rest_of s) more xs ys m (rest-still s) tails in
    let all : x ∷ xs ≡ (ticked (moment_for a) ∷ rest_of s) ++ found.0 = cc (head, found.1) in
    further moment s shares (x ∷ xs) found.0 m (all ∙ ap (λ (l : List Brought). l ++ found.0) (sym made)) (onward found.0 found.2)

-- behind one that doesn't
by-still : (moment : ℕ) (s : Share) (shares : List Share) (xs ys : List Brought) (m : ℕ) → made_of moment s ≡ rest_of s
    → ((xs' : List Brought) → made_from (moment_by moment s.answer) shares ≡ xs' ++ ticked m ∷ ys → TickOf (moment_by moment s.answer) shares xs' m)
    → rest_of s ++ made_from (moment_by moment s.answer) shares ≡ xs ++ ticked m ∷ ys
    → TickOf moment (s ∷ shares) xs m
by-still moment s shares xs ys m made onward eq =
    let found = tick-behind (rest_of s) (made_from (moment_by moment s.answer) shares) xs ys m (rest-still s) eq in
    further moment s shares xs found.0 m (found.1 ∙ ap (λ (l : List Brought). l ++ found.0) (sym made)) (onward found.0 found.2)

-- each tick is that of a share
tick-of : (moment : ℕ) (shares : List Share) (xs ys : List Brought) (m : ℕ) → made_from moment shares ≡ xs ++ ticked m ∷ ys → TickOf moment shares xs m
tick-of moment [] xs ys m eq = absurd (has-tick xs ys m (ap (λ (l : List Brought). list_any is_ticked l) (sym eq)))
tick-of moment (s ∷ shares) xs ys m eq =
    let more = made_from (moment_by moment s.answer) shares in
    let onward = λ (xs' : List Brought). λ (eq' : more ≡ xs' ++ ticked m ∷ ys). tick-of (moment_by moment s.answer) shares xs' ys m eq' in
    elim (ticks-are moment s.answer) [
      | inl none ↦
          let made = made-by moment s [] none in
          by-still moment s shares xs ys m made onward (ap (λ (l : List Brought). l ++ more) (sym made) ∙ eq)
      | inr one ↦
          let made = made-by moment s (moment_for one.0 ∷ []) one.2 in
          by-ticking moment one.0 s shares xs ys m one.1 made onward (ap (λ (l : List Brought). l ++ more) (sym made) ∙ eq)
    ]

-- ## What may be missing

-- what is made of shares and then of others
pub made-both : (moment : ℕ) (a b : List Share) → made_from moment (a ++ b) ≡ made_from moment a ++ made_from (moment_behind moment a) b
made-both moment [] b = refl
made-both moment (s ∷ a) b =
    ap (λ (l : List Brought). made_of moment s ++ l) (made-both (moment_by moment s.answer) a b)
    ∙ sym (append_assoc (made_of moment s) (made_from (moment_by moment s.answer) a) (made_from (moment_behind (moment_by moment s.answer) a) b))

-- where the last one is cut short
tick-cut : (shares : List Share) (made xs ys : List Brought) (m : ℕ) → IsCutShort shares made → made ≡ xs ++ ticked m ∷ ys → TickOf 0 shares xs m
tick-cut shares made xs ys m cut eq =
    let first = made_from 0 cut.before in
    let parts : (first ++ cut.part) ++ replicate cut.behind moved ≡ xs ++ ticked m ∷ ys = sym cut.made_are ∙ eq in
    let found = tick-before (first ++ cut.part) (replicate cut.behind moved) xs ys m (none-replicated is_ticked cut.behind moved refl) parts in
    let last : made_from (moment_behind 0 cut.before) (cut.last ∷ []) ≡ cut.part ++ cut.missing =
    append-nil (made_of (moment_behind 0 cut.before) cut.last) ∙ cut.rest in
    let whole : made_from 0 shares ≡ xs ++ ticked m ∷ (found.0 ++ cut.missing) =
    ap (λ (l : List Share). made_from 0 l) cut.shares_are
    ∙ made-both 0 cut.before (cut.last ∷ [])
    ∙ ap (λ (l : List Brought). first ++ l) last
    ∙ sym (append_assoc first cut.part cut.missing)
    ∙ ap (λ (l : List Brought). l ++ cut.missing) found.1
    ∙ append_assoc xs (ticked m ∷ found.0) cut.missing in
    tick-of 0 shares xs (found.0 ++ cut.missing) m whole

-- of shares whose last one was changed one stands before it, or is that
last-one : (before a b : List Share) (last s : Share) → before ++ last ∷ [] ≡ a ++ s ∷ b
    → ((b' : List Share) × (before ≡ a ++ s ∷ b') × (b ≡ b' ++ last ∷ [])) ⊎ ((before ≡ a) × (last ≡ s) × (b ≡ []))
last-one [] [] b last s eq = inr (refl, cc eq, cc eq)
last-one [] (x ∷ []) b last s eq = absurd (cc eq)
last-one [] (x ∷ y ∷ a) b last s eq = absurd (cc eq)
last-one (x ∷ before) [] b last s eq =
    let head : x ≡ s = cc eq in
    let tail : b ≡ before ++ last ∷ [] = cc eq in
    inl (before, ap (λ (h : Share). h ∷ before) head, tail)
last-one (x ∷ before) (y ∷ a) b last s eq =
    let head : x ≡ y = cc eq in
    elim (last-one before a b last s (cc eq)) [
      | inl found ↦ inl (found.0, cc (head, found.1), found.2)
      | inr found ↦ inr (cc (head, found.0), found.1, found.2)
    ]

-- where it wasn't signalled
tick-unsignalled : (shares : List Share) (made xs ys : List Brought) (m : ℕ) → IsUnsignalled shares made → made ≡ xs ++ ticked m ∷ ys
    → TickOf 0 shares xs m
tick-unsignalled shares made xs ys m cut eq =
    let hushed : Share = record cut.last { signals = [] } in
    let found = tick-of 0 (cut.before ++ hushed ∷ []) xs ys m (sym cut.made_are ∙ eq) in
    elim (last-one cut.before found.before found.behind hushed found.share found.shares_are) [
      | inl inside ↦
          let all : shares ≡ found.before ++ found.share ∷ (inside.0 ++ cut.last ∷ []) =
          cut.shares_are
          ∙ ap (λ (l : List Share). l ++ cut.last ∷ []) inside.1
          ∙ append_assoc found.before (found.share ∷ inside.0) (cut.last ∷ []) in
          record {
            before = found.before;
            share = found.share;
            behind = inside.0 ++ cut.last ∷ [];
            shares_are = all;
            answer = found.answer;
            answered = found.answered;
            moment_is = found.moment_is;
            made = found.made;
          }
      | inr at_last ↦
          let answered : cut.last.answer ≡ Some found.answer = ap (λ (s : Share). s.answer) at_last.1 ∙ found.answered in
          record {
            before = found.before;
            share = cut.last;
            behind = [];
            shares_are = cut.shares_are ∙ ap (λ (l : List Share). l ++ cut.last ∷ []) at_last.0;
            answer = found.answer;
            answered = answered;
            moment_is = found.moment_is;
            made = found.made;
          }
    ]

-- so each tick of a listener is that of a share
pub tick-share : (going : Going) (shares : List Share) (made xs ys : List Brought) (m : ℕ) → AreMadeOf going shares made → made ≡ xs ++ ticked m ∷ ys
    → TickOf 0 shares xs m
tick-share Serving shares made xs ys m are eq = tick-of 0 shares xs ys m (sym are ∙ eq)
tick-share (Ending until) shares made xs ys m are eq = tick-of 0 shares xs ys m (sym are ∙ eq)
tick-share (Halted why.Asked) shares made xs ys m are eq = tick-of 0 shares xs ys m (sym are ∙ eq)
tick-share (Halted why.Overdue) shares made xs ys m are eq = tick-unsignalled shares made xs ys m are eq
tick-share (Halted why.FrontEnded) shares made xs ys m are eq = tick-of 0 shares xs ys m (sym are ∙ eq)
tick-share (Halted why.FrontFailed) shares made xs ys m are eq = tick-of 0 shares xs ys m (sym are ∙ eq)
tick-share (Halted why.NoMemory) shares made xs ys m (inl are) eq = tick-of 0 shares xs ys m (sym are ∙ eq)
tick-share (Halted why.NoMemory) shares made xs ys m (inr cut) eq = tick-cut shares made xs ys m cut eq

-- ## The slots that were signalled

-- the slots that the shares ask for
abbrev pub slots_asked : List Share → List ℕ
slots_asked shares = flat_map (λ (s : Share). s.signals) shares

slots-ticked : (ticks : List ℕ) → flat_map slots_in (map ticked ticks) ≡ []
slots-ticked [] = refl
slots-ticked (m ∷ ticks) = slots-ticked ticks

slots-signalled : (slots : List ℕ) → flat_map slots_in (map signalled slots) ≡ slots
slots-signalled [] = refl
slots-signalled (slot ∷ slots) = ap (λ (l : List ℕ). slot ∷ l) (slots-signalled slots)

slots-ordered : (words : List CommandWord) → flat_map slots_in (map ordered words) ≡ []
slots-ordered [] = refl
slots-ordered (word ∷ words) = slots-ordered words

pub slots-moved : (n : ℕ) → flat_map slots_in (replicate n moved) ≡ []
slots-moved zero = refl
slots-moved (suc n) = slots-moved n

slots-taken : (n : ℕ) → flat_map slots_in (replicate n taken) ≡ []
slots-taken zero = refl
slots-taken (suc n) = slots-taken n

-- one list behind another
pub slots-both : (a b : List Brought) (x y : List ℕ) → flat_map slots_in a ≡ x → flat_map slots_in b ≡ y → flat_map slots_in (a ++ b) ≡ x ++ y
slots-both a b x y first second = flat_map-append slots_in a b ∙ cc (first, second)

slots-made : (moment : ℕ) (s : Share) → flat_map slots_in (made_of moment s) ≡ s.signals
slots-made moment s =
    let ticks = map ticked (ticks_by moment s.answer) in
    let signals = map signalled s.signals in
    let orders = map ordered s.orders in
    let all =
    slots-both (ticks ++ signals ++ orders ++ replicate s.moves moved) (replicate s.handed taken) _ _
    (slots-both (ticks ++ signals ++ orders) (replicate s.moves moved) _ _
    (slots-both (ticks ++ signals) orders _ _ (slots-both ticks signals _ _ (slots-ticked (ticks_by moment s.answer)) (slots-signalled s.signals))
    (slots-ordered s.orders))
    (slots-moved s.moves))
    (slots-taken s.handed) in
    all
    ∙ append-nil ((s.signals ++ []) ++ [])
    ∙ append-nil (s.signals ++ [])
    ∙ append-nil s.signals

-- the listener signalled just those
pub slots-of : (moment : ℕ) (shares : List Share) → flat_map slots_in (made_from moment shares) ≡ slots_asked shares
slots-of moment [] = refl
slots-of moment (s ∷ shares) =
    slots-both (made_of moment s) (made_from (moment_by moment s.answer) shares) s.signals (slots_asked shares) (slots-made moment s)
    (slots-of (moment_by moment s.answer) shares)
