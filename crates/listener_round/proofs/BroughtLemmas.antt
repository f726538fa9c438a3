-- What the events of the listener bring.
use Rattle.std.proofs.Common.{◌≡◌, ◌≢◌, ℕ, ◌+◌, List, [], ◌∷◌, ◌++◌, length, map, replicate, Option, Result, Ok, Err, refl, sym, ap, ◌∙◌, append-nil, append_assoc}
use Rattle.std.proofs.lemmas.Grind.{flat_map-append}
use Rattle.std.proofs.lemmas.List.{map-append, replicate-append-replicate}
use Rattle.std.proofs.lemmas.List.Elements.{filter-append}
use Rattle.std.specs.List.{flat_map}
use Rattle.mpm_base.specs.declared.conn.Cause.{Cause}
use Rattle.mpm_base.specs.declared.conn.ConnName.{ConnName}
use Rattle.mpm_base.specs.declared.script_line.CommandWord.{CommandWord}
use Rattle.mpm_base.specs.declared.script_line.CommandWord.TheVariants as word
use Rattle.conn_machine.specs.declared.event.Commanded.{Commanded}
use Rattle.conn_machine.specs.declared.event.Entry.{Entry}
use Rattle.conn_machine.specs.declared.event.Event.{Event}
use Rattle.conn_machine.specs.declared.event.Event.TheVariants as event
use Rattle.conn_machine.specs.Runs.{entries_of, is_of_pass}
use Rattle.board_book.specs.declared.faults.BoardFault.{BoardFault}
use Rattle.board_book.specs.Book.{SeenBook}
use Rattle.worker_group.specs.declared.service.Exit.{Exit}
use Rattle.worker_group.specs.declared.service.Exit.TheVariants as exit
use Rattle.worker_group.specs.Acts.{Acts, ActsInSteps, events_of}
use Rattle.worker_group.specs.Service.{left_events}
use Rattle.rounds.specs.declared.ends.End.{End}
use Rattle.rounds.specs.declared.ends.End.TheVariants as end
use Rattle.rounds.specs.ClosingInside.{Departure, departure_events, lingering_give_up_events}
use Rattle.rounds.specs.PartsInside.{Departures, departures_events, gone_events, halt_events, time_events}
use Rattle.listener_round.specs.Pace.{Brought, brought, brought_in, moved, ordered, ordered_in, signalled, taken, ticked}
use Rattle.listener_round.specs.RoundInside.{Intake, intake_events}

-- ## Lists of events

abbrev pub brought_by : List Event → List Brought
brought_by es = flat_map brought_in es

-- what the events of one list bring behind another
pub brings-both : (es fs : List Event) (xs ys : List Brought) → brought_by es ≡ xs → brought_by fs ≡ ys → brought_by (es ++ fs) ≡ xs ++ ys
brings-both es fs xs ys first second =
    flat_map-append brought_in es fs ∙ ap (λ (zs : List Brought). zs ++ brought_by fs) first ∙ ap (λ (zs : List Brought). xs ++ zs) second

-- nothing behind something
pub brings-first : (es fs : List Event) (xs : List Brought) → brought_by es ≡ xs → brought_by fs ≡ [] → brought_by (es ++ fs) ≡ xs
brings-first es fs xs first none = brings-both es fs xs [] first none ∙ append-nil xs

-- ## Events that bring nothing

pub unbrought-left : (way : Exit) (name : ConnName) → brought_by (left_events way name) ≡ []
unbrought-left (exit.Park kind) name = refl
unbrought-left (exit.Linger why) name = refl
unbrought-left (exit.Close why how) name = refl
unbrought-left (exit.GiveUp fault) name = refl

pub unbrought-held : (fault : BoardFault) (ending : Cause) (name : ConnName) → brought_by (event.Hold name ∷ lingering_give_up_events fault ending name) ≡ []
unbrought-held fault ending name = refl

pub unbrought-gone : (gone : List Departure) → brought_by (gone_events gone) ≡ []
unbrought-gone [] = refl
unbrought-gone (l ∷ gone) =
    brings-both (departure_events l) (gone_events gone) [] [] (unbrought-left l.way l.name) (unbrought-gone gone)

pub unbrought-departures : (l : Departures) → brought_by (departures_events l) ≡ []
unbrought-departures l =
    brings-both (gone_events l.retiring ++ gone_events l.cut) (gone_events l.drained) [] []
    (brings-both (gone_events l.retiring) (gone_events l.cut) [] [] (unbrought-gone l.retiring) (unbrought-gone l.cut)) (unbrought-gone l.drained)

-- ## Events that bring something

pub brings-ticks : (ms : List ℕ) → brought_by (map event.Tick ms) ≡ map ticked ms
brings-ticks [] = refl
brings-ticks (m ∷ ms) = ap (λ (xs : List Brought). ticked m ∷ xs) (brings-ticks ms)

pub brings-readies : (slots : List ℕ) → brought_by (map event.Ready slots) ≡ map signalled slots
brings-readies [] = refl
brings-readies (slot ∷ slots) = ap (λ (xs : List Brought). signalled slot ∷ xs) (brings-readies slots)

pub brings-orders : (cs : List Commanded) → brought_by (map event.Command cs) ≡ map ordered (flat_map ordered_in cs)
brings-orders [] = refl
brings-orders (c ∷ cs) =
    ap (λ (xs : List Brought). map ordered (ordered_in c) ++ xs) (brings-orders cs) ∙ sym (map-append ordered (ordered_in c) (flat_map ordered_in cs))

pub brings-retires : (ks : List ℕ) → brought_by (map event.Retire ks) ≡ replicate (length ks) moved
brings-retires [] = refl
brings-retires (k ∷ ks) = ap (λ (xs : List Brought). moved ∷ xs) (brings-retires ks)

pub brings-starts : (ks : List ℕ) → brought_by (map event.StartChild ks) ≡ replicate (length ks) moved
brings-starts [] = refl
brings-starts (k ∷ ks) = ap (λ (xs : List Brought). moved ∷ xs) (brings-starts ks)

brings-taken : (t : Intake) → brought_by (intake_events t) ≡ taken ∷ []
brings-taken t = ap (λ (xs : List Brought). taken ∷ xs) (unbrought-left t.way t.name)

pub brings-takes : (takes : List Intake) → brought_by (flat_map intake_events takes) ≡ replicate (length takes) taken
brings-takes [] = refl
brings-takes (t ∷ takes) =
    brings-both (intake_events t) (flat_map intake_events takes) (taken ∷ []) (replicate (length takes) taken) (brings-taken t) (brings-takes takes)

-- time that passes
pub brings-time : (early : List Departure) (ms : List ℕ) (late : List Departure) → brought_by (time_events early ms late) ≡ map ticked ms
brings-time early ms late =
    brings-first (gone_events early ++ map event.Tick ms) (gone_events late) (map ticked ms)
    (brings-both (gone_events early) (map event.Tick ms) [] (map ticked ms) (unbrought-gone early) (brings-ticks ms)) (unbrought-gone late)

-- what stops the server: an order, where it was asked to
abbrev pub stopped_by : Result End BoardFault → List CommandWord
stopped_by (Ok end.Ended) = []
stopped_by (Ok end.Asked) = word.Stop ∷ []
stopped_by (Ok end.Failed) = []
stopped_by (Ok end.Overdue) = []
stopped_by (Ok end.Gone) = []
stopped_by (Err fault) = []

pub brings-halts : (turns : Result End BoardFault) → brought_by (halt_events turns) ≡ map ordered (stopped_by turns)
brings-halts (Ok end.Ended) = refl
brings-halts (Ok end.Asked) = refl
brings-halts (Ok end.Failed) = refl
brings-halts (Ok end.Overdue) = refl
brings-halts (Ok end.Gone) = refl
brings-halts (Err fault) = refl

-- ## Histories

-- what the listener did in its order
pub brought-acts : (es : List Event) (has : Option ConnName) (a b : SeenBook) → Acts 0 es has a b → brought b.history ≡ brought a.history ++ brought_by es
brought-acts es has a b acts = ap (flat_map brought_in) acts.made ∙ flat_map-append brought_in (events_of 0 a.history) es

-- the same of what its events bring
pub brought-as : (es : List Event) (has : Option ConnName) (a b : SeenBook) (xs : List Brought) → Acts 0 es has a b → brought_by es ≡ xs
    → brought b.history ≡ brought a.history ++ xs
brought-as es has a b xs acts is = brought-acts es has a b acts ∙ ap (λ (zs : List Brought). brought a.history ++ zs) is

-- events that bring nothing
pub brought-kept : (es : List Event) (has : Option ConnName) (a b : SeenBook) → Acts 0 es has a b → brought_by es ≡ [] → brought b.history ≡ brought a.history
brought-kept es has a b acts none = brought-as es has a b [] acts none ∙ append-nil (brought a.history)

-- another pass brings nothing
pub brought-others : ActsInSteps → (who : ℕ) (es : List Event) (has : Option ConnName) (a b : SeenBook) → ◌≢◌ {A = ℕ} 0 who → Acts who es has a b
    → brought b.history ≡ brought a.history
brought-others steps who es has a b other acts =
    ap (λ (entries : List Entry). flat_map brought_in (map (λ (e : Entry). e.event) entries)) (steps.others who 0 es has a b acts other)

-- one history behind another
pub brought-both : (xs ys : List Entry) → brought (xs ++ ys) ≡ brought xs ++ brought ys
brought-both xs ys =
    ap (λ (entries : List Entry). flat_map brought_in (map (λ (e : Entry). e.event) entries)) (filter-append (is_of_pass 0) xs ys)
    ∙ ap (flat_map brought_in) (map-append (λ (e : Entry). e.event) (entries_of 0 xs) (entries_of 0 ys))
    ∙ flat_map-append brought_in (events_of 0 xs) (events_of 0 ys)

-- what went on behind the same history
pub brought-behind : (before : List Entry) (old new : List Entry) (xs : List Brought) → brought new ≡ brought old ++ xs
    → brought (before ++ new) ≡ brought (before ++ old) ++ xs
brought-behind before old new xs is =
    brought-both before new ∙ ap (λ (zs : List Brought). brought before ++ zs) is ∙ sym (append_assoc (brought before) (brought old) xs)
    ∙ ap (λ (zs : List Brought). zs ++ xs) (sym (brought-both before old))

-- ## Children

pub moves-both : (m n : ℕ) → replicate m moved ++ replicate n moved ≡ replicate (m + n) moved
moves-both m n = replicate-append-replicate m n moved
