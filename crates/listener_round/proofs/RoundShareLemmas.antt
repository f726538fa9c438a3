-- What the parts of a round make of what came with a wait.
use Rattle.std.proofs.Common.{◌≡◌, ◌+◌, ℕ, List, [], ◌∷◌, ◌++◌, length, map, replicate, Option, None, Some, refl, sym, ap, subst, ◌∙◌, append-nil, append_assoc, arith}
use Rattle.std.proofs.lemmas.List.{map-append}
use Rattle.mpm_base.specs.Front.{FrontTold, TellsOn}
use Rattle.mpm_base.specs.declared.script_line.CommandWord.{CommandWord}
use Rattle.mpm_base.specs.declared.script_line.CommandWord.TheVariants as word
use Rattle.conn_machine.specs.declared.state.State.{State}
use Rattle.board_book.specs.Book.{SeenBook}
use Rattle.board_book.specs.declared.faults.BoardFault.{BoardFault}
use Rattle.worker_group.specs.Acts.{Acts}
use Rattle.rounds.specs.ClosingInside.{IsLateWay, LetsGo}
use Rattle.board_book.specs.Moments.{known_slots, moment_for, ticks_to}
use Rattle.rounds.specs.PartsInside.{LetsGoOfConns, LetsGoUntil, PassesTime, RetiresSome, SignalsFirst, StartsSome, signal_events}
use Rattle.rounds.specs.declared.ends.End.TheVariants as end
use Rattle.listener_round.specs.FrontInside.{OnlyReads, OnlyTakes}
use Rattle.listener_round.specs.Pace.{Brought, Share, brought, made_of, moved, ordered, signalled, taken, ticked}
use Rattle.listener_round.specs.ShareInside.{ComesWith, CutsShare, DoesAllButOne, DoesAsked, HandsMany, HushesFor, MakesShare, ReadsFor, TakesAllButOne, TakesHanded}
use Rattle.listener_round.proofs.BroughtLemmas.{brings-readies, brings-retires, brings-starts, brings-time, brought-as, brought-kept, moves-both, unbrought-departures, unbrought-gone}
use Rattle.listener_round.proofs.HandedLemmas.{counts-both, counts-same}
use Rattle.listener_round.proofs.LineLemmas.{read-none}

-- ## Of what is brought

-- one thing behind the other
adds-both : (a b c xs ys : List Brought) → b ≡ a ++ xs → c ≡ b ++ ys → c ≡ a ++ (xs ++ ys)
adds-both a b c xs ys first second = second ∙ ap (λ (zs : List Brought). zs ++ ys) first ∙ append_assoc a xs ys

-- what comes before the command lines
abbrev before_orders : ℕ → List ℕ → SeenBook → List Brought
before_orders to slots a = map ticked (ticks_to a.state.moment to) ++ map signalled (known_slots (length a.base.rows) slots)

brought-time : (to : ℕ) (a b : SeenBook) → PassesTime to a b → brought b.history ≡ brought a.history ++ map ticked (ticks_to a.state.moment to)
brought-time to a b time =
    brought-as _ None a b (map ticked (ticks_to a.state.moment to)) time.acts (brings-time time.early (ticks_to a.state.moment to) time.late)

-- time passed, slots were signalled, and connections let go of
pub record Begins (to : ℕ) (slots : List ℕ) (a d : SeenBook) : Type 0 where
  pub made : brought d.history ≡ brought a.history ++ before_orders to slots a

brought-signals : (to : ℕ) (slots : List ℕ) (a b c : SeenBook) → PassesTime to a b → Acts 0 (signal_events b slots) None b c
    → brought c.history ≡ brought a.history ++ before_orders to slots a
brought-signals to slots a b c time signals =
    let known : known_slots (length b.base.rows) slots ≡ known_slots (length a.base.rows) slots =
    ap (λ (s : State). known_slots (length s.rows) slots) time.acts.base in
    adds-both (brought a.history) (brought b.history) (brought c.history) (map ticked (ticks_to a.state.moment to))
    (map signalled (known_slots (length a.base.rows) slots)) (brought-time to a b time)
    (brought-as _ None b c (map signalled (known_slots (length a.base.rows) slots)) signals
    (brings-readies (known_slots (length b.base.rows) slots) ∙ ap (map signalled) known))

pub begins : (to : ℕ) (slots : List ℕ) (a b c d : SeenBook) → PassesTime to a b → Acts 0 (signal_events b slots) None b c → LetsGoOfConns c d
    → Begins to slots a d
begins to slots a b c d time signals lets = record {
  made =
      brought-kept _ None c d lets.acts (unbrought-departures lets.departures) ∙ brought-signals to slots a b c time signals;
}

-- children were let go of and started
brought-moves : (a b c : SeenBook) (retires : RetiresSome a b) (starts : StartsSome b c)
    → brought c.history ≡ brought a.history ++ replicate (length retires.children + length starts.children) moved
brought-moves a b c retires starts =
    adds-both (brought a.history) (brought b.history) (brought c.history) (replicate (length retires.children) moved)
    (replicate (length starts.children) moved) (brought-as _ None a b _ retires.acts (brings-retires retires.children))
    (brought-as _ None b c _ starts.acts (brings-starts starts.children))
    ∙ ap (λ (xs : List Brought). brought a.history ++ xs) (moves-both (length retires.children) (length starts.children))

-- ## The share

-- what came with a wait that gave these slots
abbrev share_of : ℕ → List ℕ → SeenBook → List CommandWord → ℕ → ℕ → Share
share_of answer slots a orders moves handed =
    record { answer = Some answer; signals = known_slots (length a.base.rows) slots; orders = orders; moves = moves; handed = handed }

-- where nothing came behind the signals
made-plain : (moment answer : ℕ) (slots : List ℕ) (a : SeenBook)
    → made_of moment (share_of answer slots a [] 0 0)
    ≡ map ticked (ticks_to moment (moment_for answer)) ++ map signalled (known_slots (length a.base.rows) slots)
made-plain moment answer slots a =
    let first = map ticked (ticks_to moment (moment_for answer)) ++ map signalled (known_slots (length a.base.rows) slots) in
    append-nil ((first ++ []) ++ []) ∙ append-nil (first ++ []) ∙ append-nil first

-- ## The front

-- nothing was read
pub reads-still : (told : Option FrontTold) → TellsOn (ReadsFor []) told told
reads-still None = refl
reads-still (Some t) = (t, refl, (read-none t).reads)

pub hushes-still : (told : Option FrontTold) → TellsOn HushesFor told told
hushes-still None = refl
hushes-still (Some t) = (t, refl, (read-none t).hushes)

comes-still : (answer : ℕ) (slots : List ℕ) (a : SeenBook) (told : Option FrontTold)
    → ComesWith answer slots (length a.base.rows) (share_of answer slots a [] 0 0) told told
comes-still answer slots a told = record { answer_is = refl; signals = refl; asked = reads-still told; counted = counts-same told }

-- reading handed nothing out
reads-count : (t t' : FrontTold) → OnlyReads t t' → HandsMany 0 t t'
reads-count t t' reads few = let same : t'.accepted ≡ t.accepted = ap (λ (x : FrontTold). x.accepted) reads.rest in omega (arith, same)

counts-reads : (told told' : Option FrontTold) → TellsOn OnlyReads told told' → TellsOn (HandsMany 0) told told'
counts-reads None told' reads = reads
counts-reads (Some t) told' reads = (reads.0, reads.1, reads-count t reads.0 reads.2)

-- and taking read no line
takes-words : (words : List CommandWord) (t t' t'' : FrontTold) → ReadsFor words t t' → OnlyTakes t' t'' → ReadsFor words t t''
takes-words words t t' t'' reads takes =
    subst (ReadsFor words t) (sym takes.rest) (record { reads = λ few. reads.reads few; asks = λ few. reads.asks few })

reads-takes : (words : List CommandWord) (told told' told'' : Option FrontTold) → TellsOn (ReadsFor words) told told' → TellsOn OnlyTakes told' told''
    → TellsOn (ReadsFor words) told told''
reads-takes words None told' told'' reads takes = subst (λ (o : Option FrontTold). TellsOn OnlyTakes o told'') reads takes
reads-takes words (Some t) told' told'' reads takes =
    let here : TellsOn OnlyTakes (Some reads.0) told'' = subst (λ (o : Option FrontTold). TellsOn OnlyTakes o told'') reads.1 takes in
    (here.0, here.1, takes-words words t reads.0 here.0 reads.2 here.2)

pub hushes-takes : (told told' told'' : Option FrontTold) → TellsOn HushesFor told told' → TellsOn OnlyTakes told' told'' → TellsOn HushesFor told told''
hushes-takes None told' told'' hushes takes = subst (λ (o : Option FrontTold). TellsOn OnlyTakes o told'') hushes takes
hushes-takes (Some t) told' told'' hushes takes =
    let here : TellsOn OnlyTakes (Some hushes.0) told'' = subst (λ (o : Option FrontTold). TellsOn OnlyTakes o told'') hushes.1 takes in
    (here.0, here.1, subst (HushesFor t) (sym here.2.rest) (λ few. hushes.2 few))

comes-read : (answer : ℕ) (slots : List ℕ) (a : SeenBook) (words : List CommandWord) (moves : ℕ) (told told' : Option FrontTold)
    → TellsOn (ReadsFor words) told told' → TellsOn OnlyReads told told'
    → ComesWith answer slots (length a.base.rows) (share_of answer slots a words moves 0) told told'
comes-read answer slots a words moves told told' asked reads =
    record { answer_is = refl; signals = refl; asked = asked; counted = counts-reads told told' reads }

comes-taken : (answer : ℕ) (slots : List ℕ) (a : SeenBook) (words : List CommandWord) (moves handed : ℕ) (told told' told'' : Option FrontTold)
    → TellsOn (ReadsFor words) told told' → TellsOn OnlyReads told told' → TellsOn (HandsMany handed) told' told'' → TellsOn OnlyTakes told' told''
    → ComesWith answer slots (length a.base.rows) (share_of answer slots a words moves handed) told told''
comes-taken answer slots a words moves handed told told' told'' asked reads counted takes = record {
  answer_is = refl;
  signals = refl;
  asked = reads-takes words told told' told'' asked takes;
  counted =
      let same : 0 + handed ≡ handed = omega arith in
      subst (λ (n : ℕ). TellsOn (HandsMany n) told told'') same (counts-both 0 handed told told' told'' (counts-reads told told' reads) counted);
}

-- ## Rounds that were broken off

-- before time passed
pub cuts-time : (answer : ℕ) (slots : List ℕ) (told : Option FrontTold) (a b : SeenBook) → LetsGo IsLateWay a b → CutsShare answer slots told told a b
cuts-time answer slots told a b lets =
    let share = share_of answer slots a [] 0 0 in
    record {
      share = share;
      comes = comes-still answer slots a told;
      missing = made_of a.state.moment share;
      made = ap (λ (xs : List Brought). xs ++ made_of a.state.moment share) (brought-kept _ None a b lets.acts (unbrought-gone lets.gone));
    }

-- within the signals
pub cuts-signals : (answer : ℕ) (slots : List ℕ) (told : Option FrontTold) (a b c : SeenBook) → PassesTime (moment_for answer) a b → SignalsFirst slots b c
    → CutsShare answer slots told told a c
cuts-signals answer slots told a b c time first =
    let to = moment_for answer in
    let done : List Brought = map signalled first.first in
    let rest : List Brought = map signalled first.front.0 in
    let known : known_slots (length a.base.rows) slots ≡ first.first ++ first.front.0 =
    ap (λ (s : State). known_slots (length s.rows) slots) (sym time.acts.base) ∙ first.front.1 in
    let ticks : List Brought = map ticked (ticks_to a.state.moment to) in
    record {
      share = share_of answer slots a [] 0 0;
      comes = comes-still answer slots a told;
      missing = rest;
      made =
          ap (λ (xs : List Brought). xs ++ rest)
          (adds-both (brought a.history) (brought b.history) (brought c.history) ticks done (brought-time to a b time)
          (brought-as _ None b c done first.acts (brings-readies first.first)))
          ∙ append_assoc (brought a.history) (ticks ++ done) rest
          ∙ ap (λ (xs : List Brought). brought a.history ++ xs) (append_assoc ticks done rest)
          ∙ ap (λ (xs : List Brought). brought a.history ++ (ticks ++ xs)) (sym (map-append signalled first.first first.front.0))
          ∙ ap (λ (xs : List ℕ). brought a.history ++ (ticks ++ map signalled xs)) (sym known)
          ∙ ap (λ (xs : List Brought). brought a.history ++ xs) (sym (made-plain a.state.moment answer slots a));
    }

-- as connections were let go of
pub cuts-lets : (answer : ℕ) (slots : List ℕ) (told : Option FrontTold) (fault : BoardFault) (a b c d : SeenBook) → PassesTime (moment_for answer) a b
    → Acts 0 (signal_events b slots) None b c → LetsGoUntil fault c d → CutsShare answer slots told told a d
cuts-lets answer slots told fault a b c d time signals until =
    let m = until.book in
    let last = until.last in
    record {
      share = share_of answer slots a [] 0 0;
      comes = comes-still answer slots a told;
      missing = [];
      made =
          append-nil (brought d.history)
          ∙ brought-kept _ None last.book d last.acts refl
          ∙ brought-kept _ (Some last.name) m last.book last.held refl
          ∙ brought-kept _ None c m until.lets.acts (unbrought-departures until.lets.departures)
          ∙ brought-signals (moment_for answer) slots a b c time signals
          ∙ ap (λ (xs : List Brought). brought a.history ++ xs) (sym (made-plain a.state.moment answer slots a));
    }

-- as command lines were done
lines-made : (to : ℕ) (slots : List ℕ) (told told' : Option FrontTold) (missing : List CommandWord) (a d e : SeenBook) → Begins to slots a d
    → (does : DoesAsked missing told told' d e)
    → brought e.history ++ map ordered missing ≡ brought a.history ++ (before_orders to slots a ++ map ordered does.words)
lines-made to slots told told' missing a d e before does =
    adds-both (brought a.history) (brought d.history) (brought e.history ++ map ordered missing) (before_orders to slots a) (map ordered does.words)
    before.made does.made

made-asked : (moment answer : ℕ) (slots : List ℕ) (a : SeenBook) (words : List CommandWord)
    → made_of moment (share_of answer slots a words 0 0)
    ≡ map ticked (ticks_to moment (moment_for answer)) ++ map signalled (known_slots (length a.base.rows) slots) ++ map ordered words
made-asked moment answer slots a words =
    let first = map ticked (ticks_to moment (moment_for answer)) ++ map signalled (known_slots (length a.base.rows) slots) ++ map ordered words in
    append-nil (first ++ []) ∙ append-nil first

pub cuts-asked : (answer : ℕ) (slots : List ℕ) (told told' : Option FrontTold) (a d e : SeenBook) → Begins (moment_for answer) slots a d
    → DoesAllButOne told told' d e → TellsOn OnlyReads told told' → CutsShare answer slots told told' a e
cuts-asked answer slots told told' a d e before does reads =
    let words = does.1.words in
    record {
      share = share_of answer slots a words 0 0;
      comes = comes-read answer slots a words 0 told told' does.1.asked reads;
      missing = map ordered (does.0 ∷ []);
      made =
          lines-made (moment_for answer) slots told told' (does.0 ∷ []) a d e before does.1
          ∙ ap (λ (xs : List Brought). brought a.history ++ xs) (sym (made-asked a.state.moment answer slots a words));
    }

-- all that was asked for was done
lines-done : (to : ℕ) (slots : List ℕ) (told told' : Option FrontTold) (a d e : SeenBook) → Begins to slots a d → (does : DoesAsked [] told told' d e)
    → brought e.history ≡ brought a.history ++ (before_orders to slots a ++ map ordered does.words)
lines-done to slots told told' a d e before does = sym (append-nil (brought e.history)) ∙ lines-made to slots told told' [] a d e before does

-- and then children were let go of, and started
moves-done : (to : ℕ) (slots : List ℕ) (told told' : Option FrontTold) (a d e f h : SeenBook) → Begins to slots a d → (does : DoesAsked [] told told' d e)
    → (retires : RetiresSome e f) (starts : StartsSome f h)
    → brought h.history
    ≡ brought a.history ++ (before_orders to slots a ++ map ordered does.words ++ replicate (length retires.children + length starts.children) moved)
moves-done to slots told told' a d e f h before does retires starts =
    adds-both (brought a.history) (brought e.history) (brought h.history) (before_orders to slots a ++ map ordered does.words)
    (replicate (length retires.children + length starts.children) moved) (lines-done to slots told told' a d e before does)
    (brought-moves e f h retires starts)

pub cuts-started : (answer : ℕ) (slots : List ℕ) (told told' : Option FrontTold) (a d e f h : SeenBook) → Begins (moment_for answer) slots a d
    → DoesAsked [] told told' d e → TellsOn OnlyReads told told' → RetiresSome e f → StartsSome f h → CutsShare answer slots told told' a h
cuts-started answer slots told told' a d e f h before does reads retires starts =
    let moves = length retires.children + length starts.children in
    record {
      share = share_of answer slots a does.words moves 0;
      comes = comes-read answer slots a does.words moves told told' does.asked reads;
      missing = [];
      made =
          append-nil (brought h.history)
          ∙ moves-done (moment_for answer) slots told told' a d e f h before does retires starts
          ∙ ap (λ (xs : List Brought). brought a.history ++ xs)
          (sym (append-nil (before_orders (moment_for answer) slots a ++ map ordered does.words ++ replicate moves moved)));
    }

-- and as connections were taken
pub cuts-taken : (answer : ℕ) (slots : List ℕ) (told told' told'' : Option FrontTold) (a d e f h i : SeenBook) → Begins (moment_for answer) slots a d
    → DoesAsked [] told told' d e → TellsOn OnlyReads told told' → RetiresSome e f → StartsSome f h → TakesAllButOne told' told'' h i
    → TellsOn OnlyTakes told' told'' → CutsShare answer slots told told'' a i
cuts-taken answer slots told told' told'' a d e f h i before does reads retires starts cut takes =
    let moves = length retires.children + length starts.children in
    let handed = cut.takes.handed in
    record {
      share = share_of answer slots a does.words moves handed;
      comes = comes-taken answer slots a does.words moves handed told told' told'' does.asked reads cut.takes.counted takes;
      missing = replicate cut.missing taken;
      made =
          adds-both (brought a.history) (brought h.history) (brought i.history ++ replicate cut.missing taken)
          (before_orders (moment_for answer) slots a ++ map ordered does.words ++ replicate moves moved) (replicate handed taken)
          (moves-done (moment_for answer) slots told told' a d e f h before does retires starts) cut.takes.made;
    }

-- ## Rounds that went on, or ended the turns

-- the time of a graceful stop is over
pub makes-overdue : (answer : ℕ) (slots : List ℕ) (told : Option FrontTold) (a b : SeenBook) → PassesTime (moment_for answer) a b
    → MakesShare (Some end.Overdue) answer slots told told a b
makes-overdue answer slots told a b time =
    let ticks = map ticked (ticks_to a.state.moment (moment_for answer)) in
    record {
      share = share_of answer slots a [] 0 0;
      comes = comes-still answer slots a told;
      made = (
        refl,
        brought-time (moment_for answer) a b time
            ∙ ap (λ (xs : List Brought). brought a.history ++ xs)
            (sym (append-nil (((ticks ++ []) ++ []) ++ []) ∙ append-nil ((ticks ++ []) ++ []) ∙ append-nil (ticks ++ []) ∙ append-nil ticks)),
      );
    }

-- a command line asks to stop
pub makes-asked : (answer : ℕ) (slots : List ℕ) (told told' : Option FrontTold) (a d e : SeenBook) → Begins (moment_for answer) slots a d
    → DoesAsked (word.Stop ∷ []) told told' d e → TellsOn OnlyReads told told' → MakesShare (Some end.Asked) answer slots told told' a e
makes-asked answer slots told told' a d e before does reads = record {
  share = share_of answer slots a does.words 0 0;
  comes = comes-read answer slots a does.words 0 told told' does.asked reads;
  made = (
    refl,
    lines-made (moment_for answer) slots told told' (word.Stop ∷ []) a d e before does
        ∙ ap (λ (xs : List Brought). brought a.history ++ xs) (sym (made-asked a.state.moment answer slots a does.words)),
  );
}

-- all is gone
pub makes-gone : (answer : ℕ) (slots : List ℕ) (told told' : Option FrontTold) (a d e f : SeenBook) → Begins (moment_for answer) slots a d
    → DoesAsked [] told told' d e → TellsOn OnlyReads told told' → RetiresSome e f → MakesShare (Some end.Gone) answer slots told told' a f
makes-gone answer slots told told' a d e f before does reads retires =
    let moves = length retires.children in
    let first = before_orders (moment_for answer) slots a ++ map ordered does.words in
    record {
      share = share_of answer slots a does.words moves 0;
      comes = comes-read answer slots a does.words moves told told' does.asked reads;
      made = (
        refl,
        adds-both (brought a.history) (brought e.history) (brought f.history) first (replicate moves moved)
            (lines-done (moment_for answer) slots told told' a d e before does)
            (brought-as _ None e f (replicate moves moved) retires.acts (brings-retires retires.children))
            ∙ ap (λ (xs : List Brought). brought a.history ++ xs) (sym (append-nil (first ++ replicate moves moved))),
      );
    }

-- the turns go on
pub makes-round : (answer : ℕ) (slots : List ℕ) (told told' told'' : Option FrontTold) (a d e f h i : SeenBook) → Begins (moment_for answer) slots a d
    → DoesAsked [] told told' d e → TellsOn OnlyReads told told' → RetiresSome e f → StartsSome f h → TakesHanded 0 told' told'' h i
    → TellsOn OnlyTakes told' told'' → MakesShare None answer slots told told'' a i
makes-round answer slots told told' told'' a d e f h i before does reads retires starts hands takes =
    let moves = length retires.children + length starts.children in
    record {
      share = share_of answer slots a does.words moves hands.handed;
      comes = comes-taken answer slots a does.words moves hands.handed told told' told'' does.asked reads hands.counted takes;
      made =
          sym (append-nil (brought i.history))
          ∙ adds-both (brought a.history) (brought h.history) (brought i.history ++ [])
          (before_orders (moment_for answer) slots a ++ map ordered does.words ++ replicate moves moved) (replicate hands.handed taken)
          (moves-done (moment_for answer) slots told told' a d e f h before does retires starts) hands.made;
    }
