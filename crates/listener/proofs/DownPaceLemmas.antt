-- What is left of the pace once the server was stopped for what ended the turns.
use Rattle.std.proofs.Common.{◌≡◌, ◌⊎◌, inl, inr, ◌+◌, ℕ, List, [], ◌∷◌, ◌++◌, length, map, replicate, Option, None, Some, option_map, IfSome, Result, Ok, Err, refl, sym, ap, subst, ◌∙◌, append-nil, append_assoc}
use Rattle.mpm_base.specs.Front.{AnswerTold, FrontTold, WaitTold}
use Rattle.mpm_base.specs.declared.script_line.CommandWord.TheVariants as word
use Rattle.conn_machine.specs.declared.event.Entry.{Entry}
use Rattle.conn_machine.specs.declared.event.Why.TheVariants as why
use Rattle.conn_machine.specs.declared.state.Going.{Going}
use Rattle.conn_machine.specs.declared.state.Going.TheVariants.{Ending, Halted}
use Rattle.board_book.specs.Book.{SeenBook}
use Rattle.board_book.specs.declared.faults.BoardFault.{BoardFault}
use Rattle.rounds.specs.EndsInside.{HaltsAs}
use Rattle.rounds.specs.PartsInside.{GoesDown}
use Rattle.rounds.specs.declared.ends.End.{End}
use Rattle.rounds.specs.declared.ends.End.TheVariants as end
use Rattle.listener_round.specs.Heard.{AreReadInPlace, Heard}
use Rattle.listener_round.specs.Pace.{AreMadeOf, AreSharesOf, AreSharesOfAll, Brought, IsCutShort, KeepsPace, Share, answers_in, brought, made_from, made_of, moment_behind, moved, ordered, progress_at, signalled, taken, ticked, ticks_by}
use Rattle.listener.specs.TurnsInside.{TurnsMake}
use Rattle.listener_round.specs.Times.{answers_of}
use Rattle.listener_round.proofs.BroughtLemmas.{brings-halts, brings-retires, brought-as, brought-kept, moves-both, stopped_by, unbrought-gone}
use Rattle.listener.proofs.FrontCallLemmas.{left_front}
use Rattle.listener.proofs.PlacedLemmas.{behind-moved, behind-none}
use Rattle.listener.proofs.ShareLemmas.{answers-more, made-more, shares-moved}

-- ## Children that are let go of at the end

-- behind a share with which no connection was handed out they are of it
moved-more : (m : ℕ) (s : Share) (k : ℕ) → s.handed ≡ 0 → made_of m s ++ replicate k moved ≡ made_of m (record s { moves = s.moves + k })
moved-more m s k none =
    let first = map ticked (ticks_by m s.answer) ++ map signalled s.signals ++ map ordered s.orders in
    ap (λ (h : ℕ). ((first ++ replicate s.moves moved) ++ replicate h taken) ++ replicate k moved) none
    ∙ ap (λ (xs : List Brought). xs ++ replicate k moved) (append-nil (first ++ replicate s.moves moved))
    ∙ append_assoc first (replicate s.moves moved) (replicate k moved)
    ∙ ap (λ (xs : List Brought). first ++ xs) (moves-both s.moves k)
    ∙ sym (append-nil (first ++ replicate (s.moves + k) moved))
    ∙ ap (λ (h : ℕ). (first ++ replicate (s.moves + k) moved) ++ replicate h taken) (sym none)

from-more : (m : ℕ) (before : List Share) (last : Share) (k : ℕ) → last.handed ≡ 0
    → made_from m (before ++ last ∷ []) ++ replicate k moved ≡ made_from m (before ++ record last { moves = last.moves + k } ∷ [])
from-more m before last k none =
    ap (λ (xs : List Brought). xs ++ replicate k moved) (made-more m before last)
    ∙ append_assoc (made_from m before) (made_of (moment_behind m before) last) (replicate k moved)
    ∙ ap (λ (xs : List Brought). made_from m before ++ xs) (moved-more (moment_behind m before) last k none)
    ∙ sym (made-more m before (record last { moves = last.moves + k }))

-- ## The front that was left

shares-hushed : (rows : ℕ) (more : List AnswerTold) (t : FrontTold) (waits : List WaitTold) (shares : List Share) → AreSharesOf rows t waits shares
    → AreSharesOf rows (left_front more t) waits shares
shares-hushed rows more t [] shares are = are
shares-hushed rows more t (w ∷ waits) [] are = are
shares-hushed rows more t (w ∷ []) (s ∷ shares) are = (
  record {
    answer = are.0.answer;
    signals = are.0.signals;
    reads = are.0.reads;
    hushed = are.0.hushed;
    orders = are.0.orders;
    handed = are.0.handed;
  },
  are.1,
)
shares-hushed rows more t (w ∷ x ∷ waits) (s ∷ shares) are = (
  record {
    answer = are.0.answer;
    signals = are.0.signals;
    reads = are.0.reads;
    hushed = are.0.hushed;
    orders = are.0.orders;
    handed = are.0.handed;
  },
  shares-hushed rows more t (x ∷ waits) shares are.1,
)

first-hushed : (P : ℕ → Type 0) (more : List AnswerTold) (t : FrontTold) (waits : List WaitTold) → P (progress_at t waits).read
    → P (progress_at (left_front more t) waits).read
first-hushed P more t [] holds = holds
first-hushed P more t (w ∷ waits) holds = holds

taken-hushed : (P : ℕ → Type 0) (more : List AnswerTold) (t : FrontTold) (waits : List WaitTold) → P (progress_at t waits).accepted
    → P (progress_at (left_front more t) waits).accepted
taken-hushed P more t [] holds = holds
taken-hushed P more t (w ∷ waits) holds = holds

all-hushed : (rows : ℕ) (more : List AnswerTold) (told told' : Option FrontTold) (shares : List Share) → told' ≡ option_map (left_front more) told
    → IfSome told (λ t. AreSharesOfAll rows t shares) → IfSome told' (λ t. AreSharesOfAll rows t shares)
all-hushed rows more None told' shares is are = subst (λ (o : Option FrontTold). IfSome o (λ t. AreSharesOfAll rows t shares)) (sym is) tt
all-hushed rows more (Some t) told' shares is are =
    subst (λ (o : Option FrontTold). IfSome o (λ t. AreSharesOfAll rows t shares)) (sym is)
    (record {
      unread = first-hushed (λ n. n ≡ 0) more t t.waits are.unread;
      untaken = taken-hushed (λ n. n ≡ 0) more t t.waits are.untaken;
      each = shares-hushed rows more t t.waits shares are.each;
    })

-- ## Shares whose last one has children of the end

-- what is told of the shares is so of them
all-moved : (rows : ℕ) (told : Option FrontTold) (before : List Share) (last : Share) (moves : ℕ)
    → IfSome told (λ t. AreSharesOfAll rows t (before ++ last ∷ [])) → IfSome told (λ t. AreSharesOfAll rows t (before ++ record last { moves = moves } ∷ []))
all-moved rows None before last moves are = tt
all-moved rows (Some t) before last moves are =
    record { unread = are.unread; untaken = are.untaken; each = shares-moved rows t t.waits before last moves are.each }

answers-moved : (calls : Option (List (ℕ × ℕ))) (before : List Share) (last : Share) (moves : ℕ)
    → IfSome calls (λ calls. answers_in (before ++ last ∷ []) ≡ answers_of calls)
    → IfSome calls (λ calls. answers_in (before ++ record last { moves = moves } ∷ []) ≡ answers_of calls)
answers-moved None before last moves are = tt
answers-moved (Some calls) before last moves are =
    answers-more before (record last { moves = moves }) ∙ sym (answers-more before last) ∙ are

-- and the lines are read in their places among them
places-moved : (told : Option FrontTold) (entries : List Entry) (first : ℕ) (before : List Share) (last : Share) (moves : ℕ) (heard : List Heard)
    → IfSome told (AreReadInPlace entries first (before ++ last ∷ []) heard)
    → IfSome told (AreReadInPlace entries first (before ++ record last { moves = moves } ∷ []) heard)
places-moved None entries first before last moves heard placed = tt
places-moved (Some t) entries first before last moves heard placed =
    λ few. behind-moved t entries (replicate first moved) 0 t.waits before last moves heard (placed few)

places-none : (told : Option FrontTold) (entries : List Entry) (first first' : ℕ) (heard : List Heard) → IfSome told (AreReadInPlace entries first [] heard)
    → IfSome told (AreReadInPlace entries first' [] heard)
places-none None entries first first' heard placed = tt
places-none (Some t) entries first first' heard placed =
    λ few. behind-none t entries (replicate first moved) (replicate first' moved) 0 t.waits heard (placed few)

-- the pace, and these lines in their places among its shares
abbrev pub PacesLines : ℕ → Option FrontTold → Option (List (ℕ × ℕ)) → Going → List Entry → List Heard → Type 0
PacesLines rows told calls going entries heard =
    (pace : KeepsPace rows told calls going entries) × IfSome told (AreReadInPlace entries pace.first pace.shares heard)

-- ## What the end brings

-- what stops the server, and the children that are let go of then
pub down-brings : (turns : Result End BoardFault) (b d : SeenBook) → (down : GoesDown turns b d)
    → brought d.history ≡ brought b.history ++ (map ordered (stopped_by turns) ++ replicate (length down.retires.children) moved)
down-brings turns b d down =
    brought-as _ None down.closed d (replicate (length down.retires.children) moved) down.retires.acts (brings-retires down.retires.children)
    ∙ ap (λ (xs : List Brought). xs ++ replicate (length down.retires.children) moved)
    (brought-kept _ None down.halted down.closed down.closes.acts (unbrought-gone down.closes.gone)
    ∙ brought-as _ None b down.halted (map ordered (stopped_by turns)) down.halts (brings-halts turns))
    ∙ append_assoc (brought b.history) (map ordered (stopped_by turns)) (replicate (length down.retires.children) moved)

-- ## The pace in the end

-- the pace of a run that stopped so, whose entries bring this
module _ (rows : ℕ) (told : Option FrontTold) (calls : Option (List (ℕ × ℕ))) (entries : List Entry) (first : ℕ) (heard : List Heard) where
  -- where all was made of the shares, with the last of which none was handed out
  whole-down : (going : Going) (before : List Share) (last : Share) (made : List Brought) (k : ℕ)
      → IfSome told (λ t. AreSharesOfAll rows t (before ++ last ∷ [])) → IfSome calls (λ calls. answers_in (before ++ last ∷ []) ≡ answers_of calls)
      → last.handed ≡ 0 → made ≡ made_from 0 (before ++ last ∷ []) → brought entries ≡ replicate first moved ++ (made ++ replicate k moved)
      → ((shares : List Share) (all : List Brought) → all ≡ made_from 0 shares → AreMadeOf going shares all)
      → IfSome told (AreReadInPlace entries first (before ++ last ∷ []) heard) → PacesLines rows told calls going entries heard
  whole-down going before last made k are answers none made_are brings makes placed = (
    record {
      shares = before ++ record last { moves = last.moves + k } ∷ [];
      waits = all-moved rows told before last (last.moves + k) are;
      answers = answers-moved calls before last (last.moves + k) answers;
      first = first;
      made = made ++ replicate k moved;
      brought_is = brings;
      are =
          makes (before ++ record last { moves = last.moves + k } ∷ []) (made ++ replicate k moved)
          (ap (λ (xs : List Brought). xs ++ replicate k moved) made_are ∙ from-more 0 before last k none);
    },
    places-moved told entries first before last (last.moves + k) heard placed,
  )

  -- where nothing was signalled of the last one
  overdue-down : (before : List Share) (last : Share) (made : List Brought) (k : ℕ) → IfSome told (λ t. AreSharesOfAll rows t (before ++ last ∷ []))
      → IfSome calls (λ calls. answers_in (before ++ last ∷ []) ≡ answers_of calls) → last.handed ≡ 0
      → made ≡ made_from 0 (before ++ record last { signals = [] } ∷ []) → brought entries ≡ replicate first moved ++ (made ++ replicate k moved)
      → IfSome told (AreReadInPlace entries first (before ++ last ∷ []) heard) → PacesLines rows told calls (Halted why.Overdue) entries heard
  overdue-down before last made k are answers none made_are brings placed = (
    record {
      shares = before ++ record last { moves = last.moves + k } ∷ [];
      waits = all-moved rows told before last (last.moves + k) are;
      answers = answers-moved calls before last (last.moves + k) answers;
      first = first;
      made = made ++ replicate k moved;
      brought_is = brings;
      are =
          record {
            before = before;
            last = record last { moves = last.moves + k };
            shares_are = refl;
            made_are =
                ap (λ (xs : List Brought). xs ++ replicate k moved) made_are ∙ from-more 0 before (record last { signals = [] }) k none;
          };
    },
    places-moved told entries first before last (last.moves + k) heard placed,
  )

  -- where the end was missing of the last one
  cut-down : (shares : List Share) (made : List Brought) (k : ℕ) → IfSome told (λ t. AreSharesOfAll rows t shares)
      → IfSome calls (λ calls. answers_in shares ≡ answers_of calls) → IsCutShort shares made
      → brought entries ≡ replicate first moved ++ (made ++ replicate k moved) → IfSome told (AreReadInPlace entries first shares heard)
      → PacesLines rows told calls (Halted why.NoMemory) entries heard
  cut-down shares made k are answers cut brings placed =
      let so_far = made_from 0 cut.before ++ cut.part in (
        record {
          shares = shares;
          waits = are;
          answers = answers;
          first = first;
          made = made ++ replicate k moved;
          brought_is = brings;
          are =
              inr (record {
                before = cut.before;
                last = cut.last;
                part = cut.part;
                missing = cut.missing;
                behind = cut.behind + k;
                shares_are = cut.shares_are;
                made_are =
                    ap (λ (xs : List Brought). xs ++ replicate k moved) cut.made_are
                    ∙ append_assoc so_far (replicate cut.behind moved) (replicate k moved)
                    ∙ ap (λ (xs : List Brought). so_far ++ xs) (moves-both cut.behind k);
                rest = cut.rest;
              });
        },
        placed,
      )

  -- where there was no share they are of the first ones
  none-down : (made : List Brought) (k : ℕ) → IfSome told (λ t. AreSharesOfAll rows t []) → IfSome calls (λ calls. answers_in [] ≡ answers_of calls)
      → made ≡ [] → brought entries ≡ replicate first moved ++ (made ++ replicate k moved) → IfSome told (AreReadInPlace entries first [] heard)
      → PacesLines rows told calls (Halted why.NoMemory) entries heard
  none-down made k are answers none brings placed = (
    record {
      shares = [];
      waits = are;
      answers = answers;
      first = first + k;
      made = [];
      brought_is =
          brings
          ∙ ap (λ (xs : List Brought). replicate first moved ++ (xs ++ replicate k moved)) none
          ∙ moves-both first k
          ∙ sym (append-nil (replicate (first + k) moved));
      are = inl refl;
    },
    places-none told entries first (first + k) heard placed,
  )

-- a list has a last item, or is empty
data EndsWith (shares : List Share) : Type 0 where
  nothing : shares ≡ [] → EndsWith shares
  with_last : (before : List Share) (last : Share) → shares ≡ before ++ last ∷ [] → EndsWith shares

ends-with : (shares : List Share) → EndsWith shares
ends-with [] = nothing refl
ends-with (s ∷ shares) = by (ends-with shares) where
  by : EndsWith shares → EndsWith (s ∷ shares)
  by (nothing none) = with_last [] s (ap (λ (xs : List Share). s ∷ xs) none)
  by (with_last before last is) = with_last (s ∷ before) last (ap (λ (xs : List Share). s ∷ xs) is)

-- turns that were broken off
broken-down : (rows : ℕ) (told : Option FrontTold) (calls : Option (List (ℕ × ℕ))) (entries : List Entry) (first : ℕ) (heard : List Heard) (shares : List Share) (made : List Brought)
    (k : ℕ) → EndsWith shares → IfSome told (λ t. AreSharesOfAll rows t shares) → IfSome calls (λ calls. answers_in shares ≡ answers_of calls)
    → (made ≡ made_from 0 shares) ⊎ IsCutShort shares made → brought entries ≡ replicate first moved ++ (made ++ replicate k moved)
    → IfSome told (AreReadInPlace entries first shares heard) → PacesLines rows told calls (Halted why.NoMemory) entries heard
broken-down rows told calls entries first heard shares made k ends are answers (inr cut) brings placed =
    cut-down rows told calls entries first heard shares made k are answers cut brings placed
broken-down rows told calls entries first heard shares made k (nothing none) are answers (inl all) brings placed =
    none-down rows told calls entries first heard made k (subst (λ (xs : List Share). IfSome told (λ t. AreSharesOfAll rows t xs)) none are)
    (subst (λ (xs : List Share). IfSome calls (λ calls. answers_in xs ≡ answers_of calls)) none answers) (all ∙ ap (made_from 0) none) brings
    (subst (λ (xs : List Share). IfSome told (AreReadInPlace entries first xs heard)) none placed)
broken-down rows told calls entries first heard shares made k (with_last before last is) are answers (inl all) brings placed =
    cut-down rows told calls entries first heard shares made k are answers
    (record {
      before = before;
      last = last;
      part = made_of (moment_behind 0 before) last;
      missing = [];
      behind = 0;
      shares_are = is;
      made_are =
          all ∙ ap (made_from 0) is ∙ made-more 0 before last
          ∙ sym (append-nil (made_from 0 before ++ made_of (moment_behind 0 before) last));
      rest = sym (append-nil (made_of (moment_behind 0 before) last));
    }) brings placed

-- of turns that ended so
pub pace-down : (rows : ℕ) (answered : List AnswerTold) (turns : Result End BoardFault) (told told' : Option FrontTold) (calls : Option (List (ℕ × ℕ))) (old going : Going)
    (entries : List Entry) (first : ℕ) (heard : List Heard) (shares : List Share) (made : List Brought) (k : ℕ) → told' ≡ option_map (left_front answered) told
    → HaltsAs turns old going → (turns ≡ Ok end.Gone → (until : Option ℕ) × (old ≡ Ending until)) → IfSome told (λ t. AreSharesOfAll rows t shares)
    → IfSome calls (λ calls. answers_in shares ≡ answers_of calls) → TurnsMake turns shares made
    → brought entries ≡ replicate first moved ++ (made ++ (map ordered (stopped_by turns) ++ replicate k moved))
    → IfSome told' (AreReadInPlace entries first shares heard) → PacesLines rows told' calls going entries heard
pace-down rows answered (Ok end.Ended) told told' calls old going entries first heard shares made k hushed halts ending are answers makes brings placed =
    subst (λ (x : Going). PacesLines rows told' calls x entries heard) (sym halts)
    (whole-down rows told' calls entries first heard (Halted why.FrontEnded) makes.before makes.last made k
    (subst (λ (xs : List Share). IfSome told' (λ t. AreSharesOfAll rows t xs)) makes.shares_are (all-hushed rows answered told told' shares hushed are))
    (subst (λ (xs : List Share). IfSome calls (λ calls. answers_in xs ≡ answers_of calls)) makes.shares_are answers) makes.none
    (sym (append-nil made) ∙ makes.made_are ∙ ap (made_from 0) makes.shares_are) brings (λ xs all is. is)
    (subst (λ (xs : List Share). IfSome told' (AreReadInPlace entries first xs heard)) makes.shares_are placed))
pace-down rows answered (Ok end.Failed) told told' calls old going entries first heard shares made k hushed halts ending are answers makes brings placed =
    subst (λ (x : Going). PacesLines rows told' calls x entries heard) (sym halts)
    (whole-down rows told' calls entries first heard (Halted why.FrontFailed) makes.before makes.last made k
    (subst (λ (xs : List Share). IfSome told' (λ t. AreSharesOfAll rows t xs)) makes.shares_are (all-hushed rows answered told told' shares hushed are))
    (subst (λ (xs : List Share). IfSome calls (λ calls. answers_in xs ≡ answers_of calls)) makes.shares_are answers) makes.none
    (sym (append-nil made) ∙ makes.made_are ∙ ap (made_from 0) makes.shares_are) brings (λ xs all is. is)
    (subst (λ (xs : List Share). IfSome told' (AreReadInPlace entries first xs heard)) makes.shares_are placed))
pace-down rows answered (Ok end.Asked) told told' calls old going entries first heard shares made k hushed halts ending are answers makes brings placed =
    let stop : List Brought = ordered word.Stop ∷ [] in
    subst (λ (x : Going). PacesLines rows told' calls x entries heard) (sym halts)
    (whole-down rows told' calls entries first heard (Halted why.Asked) makes.before makes.last (made ++ stop) k
    (subst (λ (xs : List Share). IfSome told' (λ t. AreSharesOfAll rows t xs)) makes.shares_are (all-hushed rows answered told told' shares hushed are))
    (subst (λ (xs : List Share). IfSome calls (λ calls. answers_in xs ≡ answers_of calls)) makes.shares_are answers) makes.none
    (makes.made_are ∙ ap (made_from 0) makes.shares_are)
    (brings ∙ ap (λ (xs : List Brought). replicate first moved ++ xs) (sym (append_assoc made stop (replicate k moved)))) (λ xs all is. is)
    (subst (λ (xs : List Share). IfSome told' (AreReadInPlace entries first xs heard)) makes.shares_are placed))
pace-down rows answered (Ok end.Overdue) told told' calls old going entries first heard shares made k hushed halts ending are answers makes brings placed =
    let un = makes.unsignalled in
    subst (λ (x : Going). PacesLines rows told' calls x entries heard) (sym halts)
    (overdue-down rows told' calls entries first heard un.before un.last made k
    (subst (λ (xs : List Share). IfSome told' (λ t. AreSharesOfAll rows t xs)) un.shares_are (all-hushed rows answered told told' shares hushed are))
    (subst (λ (xs : List Share). IfSome calls (λ calls. answers_in xs ≡ answers_of calls)) un.shares_are answers) makes.none un.made_are brings
    (subst (λ (xs : List Share). IfSome told' (AreReadInPlace entries first xs heard)) un.shares_are placed))
pace-down rows answered (Ok end.Gone) told told' calls old going entries first heard shares made k hushed halts ending are answers makes brings placed =
    let until = ending refl in
    subst (λ (x : Going). PacesLines rows told' calls x entries heard) (sym (halts ∙ until.1))
    (whole-down rows told' calls entries first heard (Ending until.0) makes.before makes.last made k
    (subst (λ (xs : List Share). IfSome told' (λ t. AreSharesOfAll rows t xs)) makes.shares_are (all-hushed rows answered told told' shares hushed are))
    (subst (λ (xs : List Share). IfSome calls (λ calls. answers_in xs ≡ answers_of calls)) makes.shares_are answers) makes.none
    (sym (append-nil made) ∙ makes.made_are ∙ ap (made_from 0) makes.shares_are) brings (λ xs all is. is)
    (subst (λ (xs : List Share). IfSome told' (AreReadInPlace entries first xs heard)) makes.shares_are placed))
pace-down rows answered (Err fault) told told' calls old going entries first heard shares made k hushed halts ending are answers makes brings placed =
    subst (λ (x : Going). PacesLines rows told' calls x entries heard) (sym halts)
    (broken-down rows told' calls entries first heard shares made k (ends-with shares) (all-hushed rows answered told told' shares hushed are) answers makes brings placed)
