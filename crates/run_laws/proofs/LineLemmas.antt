-- That a run ends gracefully, or is stopped, only where a command line asks for it.
use Rattle.std.proofs.Common.{◌≡◌, ◌≢◌, ◌==◌, ◌<◌, ◌≤◌, ◌-◌, ℕ, zero, suc, Bool, true, false, not, cond, drop, ◌&&◌, ◌||◌, List, [], ◌∷◌, ◌++◌, map, replicate, take, Option, Some, inl, inr, refl, sym, ap, subst, ◌∙◌, append-nil, append_assoc, arith}
use Rattle.std.proofs.lemmas.Bool.{both_ways, cases_Bool, or_from, or_parts}
use Rattle.std.proofs.lemmas.List.Folds.{list_any-append}
use Rattle.std.proofs.lemmas.List.Sums.{sum_by-cons}
use Rattle.std.proofs.lemmas.Slice.Eq.{bytes_eq-Decides}
use Rattle.std.specs.List.{flat_map, list_any}
use Rattle.std.specs.Str.{bytes_eq}
use Rattle.mpm_base.specs.CommandWord.{command_word}
use Rattle.mpm_base.specs.Count.{greatest_count}
use Rattle.mpm_base.specs.Front.{FrontTold, WaitTold}
use Rattle.mpm_base.specs.declared.conn.ConnName.{ConnName}
use Rattle.mpm_base.specs.declared.script_line.CommandWord.{CommandWord}
use Rattle.mpm_base.specs.declared.script_line.CommandWord.TheVariants as word
use Rattle.conn_machine.specs.declared.event.Commanded.{Commanded}
use Rattle.conn_machine.specs.declared.event.Commanded.TheVariants as commanded
use Rattle.conn_machine.specs.declared.event.Entry.{Entry}
use Rattle.conn_machine.specs.declared.event.Event.{Event}
use Rattle.conn_machine.specs.declared.event.Event.TheVariants as event
use Rattle.conn_machine.specs.declared.event.Why.TheVariants as why
use Rattle.conn_machine.specs.declared.folded.Folded.{Folded}
use Rattle.conn_machine.specs.declared.state.Going.{Going}
use Rattle.conn_machine.specs.declared.state.Going.TheVariants.{Ending, Halted, Serving}
use Rattle.conn_machine.specs.declared.state.State.{State}
use Rattle.conn_machine.specs.Events.{count_events}
use Rattle.conn_machine.specs.Made.{AreMade, AreMadeBehind}
use Rattle.conn_machine.specs.Runs.{entries_of, may_make}
use Rattle.listener_round.specs.Commands.{HeedsLines, asked_by, asked_in, asks_to_end, is_graceful_stop, lines_read, stop_line}
use Rattle.listener_round.specs.Pace.{AreMadeOf, AreSharesOf, Brought, IsCutShort, IsUnsignalled, KeepsPace, Share, brought, brought_in, lines_between, made_from, made_of, moment_behind, moment_by, moved, ordered, progress_at, signalled, taken, ticked, ticks_by}
use Rattle.run_report.specs.Endings.{MayEndWith}
use Rattle.run_laws.specs.Undisturbed.{IsNoStop, NoneAsksStop}
use Rattle.run_laws.proofs.MachineLemmas.{NeverEnds}
use Rattle.run_laws.proofs.TickLemmas.{made-both, none-append, none-replicated}

-- ## Words

-- the word is that of a graceful stop
abbrev ends_word : CommandWord → Bool
ends_word word.Graceful = false
ends_word word.GracefulStop = true
ends_word word.Stop = false
ends_word word.Status = false

-- a line was done that says so
abbrev ends_brought : Brought → Bool
ends_brought (ticked m) = false
ends_brought (signalled slot) = false
ends_brought (ordered word) = ends_word word
ends_brought moved = false
ends_brought taken = false

ends-command : (c : Commanded) → list_any ends_brought (brought_in (event.Command c)) ≡ is_graceful_stop (event.Command c)
ends-command (commanded.Graceful shape) = refl
ends-command (commanded.Refused reason) = refl
ends-command (commanded.GracefulStop until) = refl
ends-command (commanded.Stop why.Asked) = refl
ends-command (commanded.Stop why.Overdue) = refl
ends-command (commanded.Stop why.FrontEnded) = refl
ends-command (commanded.Stop why.FrontFailed) = refl
ends-command (commanded.Stop why.NoMemory) = refl

ends-event : (e : Event) → list_any ends_brought (brought_in e) ≡ is_graceful_stop e
ends-event (event.Command c) = ends-command c
ends-event e = refl

-- no pass but the listener's begins one
no-command : (p : ℕ) (had : Option ConnName) (e : Event) → may_make p had e ≡ true → (p == 0) ≡ false → is_graceful_stop e ≡ false
no-command p had (event.Command c) role other = absurd (both_ways (p == 0) other role)
no-command p had e role other = refl

-- what an entry brings
pub brought-on : (e : Entry) (history : List Entry) (own : Bool) → (e.pass == 0) ≡ own
    → brought (e ∷ history) ≡ cond own (brought_in e.event ++ brought history) (brought history)
brought-on e history true own =
    ap (λ (b : Bool). flat_map brought_in (map (λ (x : Entry). x.event) (cond b (e ∷ entries_of 0 history) (entries_of 0 history)))) own
brought-on e history false own =
    ap (λ (b : Bool). flat_map brought_in (map (λ (x : Entry). x.event) (cond b (e ∷ entries_of 0 history) (entries_of 0 history)))) own

-- a history that passes made begins a graceful stop exactly where it brings that word
brought-ends : (base : State) (f : Folded) (behind history : List Entry) → AreMadeBehind base f behind history
    → list_any ends_brought (brought history) ≡ list_any (λ (e : Entry). is_graceful_stop e.event) history
brought-ends base f behind [] made = refl
brought-ends base f behind (e ∷ history) made =
    let rest = brought-ends base f (behind ++ e ∷ []) history made.1 in
    elim (cases_Bool (e.pass == 0)) [
      | inl own ↦
          ap (λ (l : List Brought). list_any ends_brought l) (brought-on e history true own)
          ∙ list_any-append ends_brought (brought_in e.event) (brought history)
          ∙ ap (λ (b : Bool). b || list_any ends_brought (brought history)) (ends-event e.event)
          ∙ ap (λ (b : Bool). is_graceful_stop e.event || b) rest
      | inr other ↦
          ap (λ (l : List Brought). list_any ends_brought l) (brought-on e history false other)
          ∙ rest
          ∙ sym (ap (λ (b : Bool). b || list_any (λ (x : Entry). is_graceful_stop x.event) history) (no-command e.pass _ e.event made.0.role other))
    ]

-- ## Lines that ask for no stop

asks-none : (graceful stops ends ending : Bool) → ends ≡ false
    → list_any ends_word (cond graceful (word.Graceful ∷ []) (cond stops (word.Stop ∷ []) (cond (ends && not ending) (word.GracefulStop ∷ []) [])))
    ≡ false
asks-none true stops ends ending none = refl
asks-none false true ends ending none = refl
asks-none false false true ending none = absurd (cc none)
asks-none false false false ending none = refl

-- the line isn't the word
no-word : (line : List ℕ) (w : CommandWord) → line ≢ command_word w → bytes_eq line (command_word w) ≡ false
no-word line w other =
    elim (cases_Bool (bytes_eq line (command_word w))) [
      | inl same ↦ absurd (other ((bytes_eq-Decides line (command_word w)).0 same))
      | inr none ↦ none
    ]

asked-in-none : (ending : Bool) (line : List ℕ) → IsNoStop line → list_any ends_word (asked_in ending line) ≡ false
asked-in-none ending line none =
    asks-none (bytes_eq line (command_word word.Graceful)) (bytes_eq line stop_line) (asks_to_end line) ending
    (no-word line word.GracefulStop none.graceful)

asked-none : (ending : Bool) (lines : List (List ℕ)) → NoneAsksStop lines → list_any ends_word (asked_by ending lines) ≡ false
asked-none ending [] none = refl
asked-none ending (line ∷ lines) none =
    list_any-append ends_word (asked_in ending line) (asked_by (asks_to_end line || ending) lines)
    ∙ or_from (list_any ends_word (asked_in ending line)) (list_any ends_word (asked_by (asks_to_end line || ending) lines))
    (asked-in-none ending line none.0) (asked-none (asks_to_end line || ending) lines none.1)

-- nor does the last one, or any of those between two counts of them
none-last : (lines : List (List ℕ)) (last : List ℕ) → NoneAsksStop (lines ++ last ∷ []) → IsNoStop last
none-last [] last none = none.0
none-last (line ∷ lines) last none = none-last lines last none.1

-- nothing asks for none
none-nothing : (n : ℕ) → NoneAsksStop (take n [])
none-nothing zero = tt
none-nothing (suc n) = tt

none-first : (lines : List (List ℕ)) (few many : ℕ) → few ≤ many → NoneAsksStop (take many lines) → NoneAsksStop (take few lines)
none-first lines zero many less none = tt
none-first [] (suc few) many less none = tt
none-first (line ∷ lines) (suc few) zero less none = absurd (omega (arith, less))
none-first (line ∷ lines) (suc few) (suc many) less none = (none.0, none-first lines few many (omega (arith, less)) none.1)

none-between : (lines : List (List ℕ)) (from to many : ℕ) → from ≤ to → to ≤ many → NoneAsksStop (take many lines)
    → NoneAsksStop (lines_between lines from to)
none-between lines zero to many first less none = none-first lines (to - 0) many (omega (arith, less)) none
none-between [] (suc from) to many first less none = none-nothing (to - suc from)
none-between (line ∷ lines) (suc from) zero many first less none = absurd (omega (arith, first))
none-between (line ∷ lines) (suc from) (suc to) zero first less none = absurd (omega (arith, less))
none-between (line ∷ lines) (suc from) (suc to) (suc many) first less none =
    let rest : NoneAsksStop (lines_between lines from to) = none-between lines from to many (omega (arith, first)) (omega (arith, less)) none.1 in
    let same : to - from ≡ suc to - suc from = omega arith in
    subst (λ (n : ℕ). NoneAsksStop (take n (drop from lines))) same rest

-- ## What a listener makes of them

-- of the shares none asks for one
abbrev NoneEnds : List Share → Type 0
NoneEnds shares = list_any (λ (s : Share). list_any ends_word s.orders) shares ≡ false

-- so it is of shares that came with waits of a front by which no line was read that does
none-asked : (rows : ℕ) (t : FrontTold) (waits : List WaitTold) (shares : List Share) → AreSharesOf rows t waits shares → t.read < greatest_count
    → NoneAsksStop (lines_read t) → NoneEnds shares × ((progress_at t waits).read ≤ t.read)
none-asked rows t [] [] each few none = (refl, omega (arith))
none-asked rows t [] (s ∷ shares) each few none = absurd (cc each)
none-asked rows t (wait ∷ waits) [] each few none = absurd each
none-asked rows t (wait ∷ waits) (s ∷ shares) each few none =
    let next = progress_at t waits in
    let later = none-asked rows t waits shares each.1 few none in
    let reads = each.0.reads few in
    let lines = none-between t.lines wait.began.read next.read t.read reads later.1 none in
    let here : list_any ends_word s.orders ≡ false =
    ap (λ (words : List CommandWord). list_any ends_word words) (each.0.orders few)
    ∙ asked-none wait.began.hushed (lines_between t.lines wait.began.read next.read) lines in
    (or_from (list_any ends_word s.orders) _ here later.0, omega (arith, reads, later.1))

none-words : (words : List CommandWord) → list_any ends_word words ≡ false → list_any ends_brought (map ordered words) ≡ false
none-words [] none = refl
none-words (word ∷ words) none =
    let parts = or_parts (ends_word word) (list_any ends_word words) none in or_from (ends_word word) _ parts.0 (none-words words parts.1)

none-ticked : (ticks : List ℕ) → list_any ends_brought (map ticked ticks) ≡ false
none-ticked [] = refl
none-ticked (m ∷ ticks) = none-ticked ticks

none-signals : (slots : List ℕ) → list_any ends_brought (map signalled slots) ≡ false
none-signals [] = refl
none-signals (slot ∷ slots) = none-signals slots

none-of : (moment : ℕ) (s : Share) → list_any ends_word s.orders ≡ false → list_any ends_brought (made_of moment s) ≡ false
none-of moment s none =
    let ticks = map ticked (ticks_by moment s.answer) in
    let signals = map signalled s.signals in
    let orders = map ordered s.orders in
    none-append ends_brought (ticks ++ signals ++ orders ++ replicate s.moves moved) (replicate s.handed taken)
    (none-append ends_brought (ticks ++ signals ++ orders) (replicate s.moves moved)
    (none-append ends_brought (ticks ++ signals) orders
    (none-append ends_brought ticks signals (none-ticked (ticks_by moment s.answer)) (none-signals s.signals)) (none-words s.orders none))
    (none-replicated ends_brought s.moves moved refl))
    (none-replicated ends_brought s.handed taken refl)

none-from : (moment : ℕ) (shares : List Share) → NoneEnds shares → list_any ends_brought (made_from moment shares) ≡ false
none-from moment [] none = refl
none-from moment (s ∷ shares) none =
    let parts = or_parts (list_any ends_word s.orders) _ none in
    none-append ends_brought (made_of moment s) (made_from (moment_by moment s.answer) shares) (none-of moment s parts.0)
    (none-from (moment_by moment s.answer) shares parts.1)

-- nor does the listener then begin one
none-cut : (shares : List Share) (made : List Brought) → IsCutShort shares made → NoneEnds shares → list_any ends_brought made ≡ false
none-cut shares made cut none =
    let first = made_from 0 cut.before in
    let last : made_from (moment_behind 0 cut.before) (cut.last ∷ []) ≡ cut.part ++ cut.missing =
    append-nil (made_of (moment_behind 0 cut.before) cut.last) ∙ cut.rest in
    let whole : made_from 0 shares ≡ (first ++ cut.part) ++ cut.missing =
    ap (λ (l : List Share). made_from 0 l) cut.shares_are
    ∙ made-both 0 cut.before (cut.last ∷ [])
    ∙ ap (λ (l : List Brought). first ++ l) last
    ∙ sym (append_assoc first cut.part cut.missing) in
    let all : list_any ends_brought ((first ++ cut.part) ++ cut.missing) ≡ false =
    ap (λ (l : List Brought). list_any ends_brought l) (sym whole) ∙ none-from 0 shares none in
    let kept = (or_parts _ _ (sym (list_any-append ends_brought (first ++ cut.part) cut.missing) ∙ all)).0 in
    ap (λ (l : List Brought). list_any ends_brought l) cut.made_are
    ∙ none-append ends_brought (first ++ cut.part) (replicate cut.behind moved) kept (none-replicated ends_brought cut.behind moved refl)

none-unsignalled : (shares : List Share) (made : List Brought) → IsUnsignalled shares made → NoneEnds shares → list_any ends_brought made ≡ false
none-unsignalled shares made cut none =
    let hushed : Share = record cut.last { signals = [] } in
    let asks = λ (s : Share). list_any ends_word s.orders in
    let same : list_any asks (cut.before ++ hushed ∷ []) ≡ list_any asks (cut.before ++ cut.last ∷ []) =
    list_any-append asks cut.before (hushed ∷ []) ∙ sym (list_any-append asks cut.before (cut.last ∷ [])) in
    let all : NoneEnds (cut.before ++ hushed ∷ []) = same ∙ ap (λ (l : List Share). list_any asks l) (sym cut.shares_are) ∙ none in
    ap (λ (l : List Brought). list_any ends_brought l) cut.made_are ∙ none-from 0 (cut.before ++ hushed ∷ []) all

none-made : (going : Going) (shares : List Share) (made : List Brought) → AreMadeOf going shares made → NoneEnds shares
    → list_any ends_brought made ≡ false
none-made Serving shares made are none = ap (λ (l : List Brought). list_any ends_brought l) are ∙ none-from 0 shares none
none-made (Ending until) shares made are none = ap (λ (l : List Brought). list_any ends_brought l) are ∙ none-from 0 shares none
none-made (Halted why.Asked) shares made are none = ap (λ (l : List Brought). list_any ends_brought l) are ∙ none-from 0 shares none
none-made (Halted why.Overdue) shares made are none = none-unsignalled shares made are none
none-made (Halted why.FrontEnded) shares made are none = ap (λ (l : List Brought). list_any ends_brought l) are ∙ none-from 0 shares none
none-made (Halted why.FrontFailed) shares made are none = ap (λ (l : List Brought). list_any ends_brought l) are ∙ none-from 0 shares none
none-made (Halted why.NoMemory) shares made (inl are) none = ap (λ (l : List Brought). list_any ends_brought l) are ∙ none-from 0 shares none
none-made (Halted why.NoMemory) shares made (inr cut) none = none-cut shares made cut none

-- so a run that keeps the pace begins no graceful stop
pub none-begun : (base : State) (f : Folded) (rows : ℕ) (calls : Option (List (ℕ × ℕ))) (going : Going) (history : List Entry) (t : FrontTold)
    → AreMade base f history → KeepsPace rows (Some t) calls going history → t.read < greatest_count → NoneAsksStop (lines_read t)
    → list_any (λ (e : Entry). is_graceful_stop e.event) history ≡ false
none-begun base f rows calls going history t made pace few none =
    let asked = (none-asked rows t t.waits pace.shares pace.waits.each few none).0 in
    sym (brought-ends base f [] history made)
    ∙ ap (λ (l : List Brought). list_any ends_brought l) pace.brought_is
    ∙ none-append ends_brought (replicate pace.first moved) pace.made (none-replicated ends_brought pace.first moved refl)
    (none-made going pace.shares pace.made pace.are asked)

-- and isn't stopped by them
pub not-asked : (going : Going) (t : FrontTold) → HeedsLines going t → t.read < greatest_count → NoneAsksStop (lines_read t) → going ≡ Halted why.Asked → ⊥
not-asked going t heeds few none is =
    let stops = (subst (λ (g : Going). HeedsLines g t) is heeds) few in
    let last = none-last stops.before stop_line (subst NoneAsksStop stops.lines_are none) in
    last.at_once refl

-- ## Counts

-- what isn't there isn't counted
pub uncounted : (test : Event → Bool) (history : List Entry) → list_any (λ (e : Entry). test e.event) history ≡ false → count_events test history ≡ 0
uncounted test [] none = refl
uncounted test (e ∷ history) none =
    let parts = or_parts (test e.event) (list_any (λ (x : Entry). test x.event) history) none in
    let here : ◌≡◌ {A = ℕ} (cond (test e.event) 1 0) 0 = ap (λ (b : Bool). cond b 1 0) parts.0 in
    let rest = uncounted test history parts.1 in
    omega (arith, sum_by-cons (λ (x : Entry). cond (test x.event) 1 0) e history, here, rest)

-- ## How such a run ends

-- it ends as nothing more can come
pub ended-going : (going : Going) (status : ℕ) → MayEndWith going status → NeverEnds going → (going ≡ Halted why.Asked → ⊥)
    → (going ≡ Halted why.FrontFailed → ⊥) → status ≢ 6 → going ≡ Halted why.FrontEnded
ended-going Serving status may never asked failed memory = absurd may
ended-going (Ending until) status may never asked failed memory = absurd never
ended-going (Halted why.Asked) status may never asked failed memory = absurd (asked refl)
ended-going (Halted why.Overdue) status may never asked failed memory = absurd never
ended-going (Halted why.FrontEnded) status may never asked failed memory = refl
ended-going (Halted why.FrontFailed) status may never asked failed memory = absurd (failed refl)
ended-going (Halted why.NoMemory) status may never asked failed memory = absurd (memory may)
