-- What the end of listening, a bind and the last answer leave of a front.
use Rattle.std.proofs.Common.{◌≡◌, ℕ, Bool, true, false, not, List, [], ◌∷◌, ◌++◌, Option, None, Some, option_map, IfSome, Result, Ok, Err, refl, sym, ap, subst, ◌∙◌, append-nil, arith}
use Rattle.mpm_base.specs.Front.{AnswerTold, FrontTold, FrontSeen, Binds, after_answer, after_bind, after_hush, hushed_front}
use Rattle.mpm_base.specs.declared.addr.Addr.{Addr}
use Rattle.mpm_base.specs.declared.given_words.GivenWords.{GivenWords}
use Rattle.conn_machine.specs.declared.state.State.{State}
use Rattle.board_book.specs.declared.faults.BoardFault.{BoardFault}
use Rattle.command_answers.specs.Answers.{stopping_answer}
use Rattle.rounds.specs.declared.ends.End.{End}
use Rattle.rounds.specs.declared.ends.End.TheVariants as end
use Rattle.listener_round.specs.Watched.{IsHushed}
use Rattle.listener.specs.ListenInside.{AnswersStop, contacts, contacts_of}
use Rattle.listener_round.specs.FrontInside.{Follows}
use Rattle.listener.specs.Stops.{HasFailedLast, HasGivenAll}
use Rattle.listener_round.specs.Times.{waits_of}
use Rattle.run_report.proofs.CountLemmas.{where-stays}
use Rattle.listener_round.proofs.FrontLemmas.{clients-mapped, comings-mapped}

-- ## The end of listening

hushed-part : {X : Type 0} (part : FrontTold → X) (told told' : Option FrontTold) → ((t : FrontTold) → part (hushed_front t) ≡ part t)
    → told' ≡ option_map hushed_front told → option_map part told' ≡ option_map part told
hushed-part part None told' keeps is = ap (option_map part) is
hushed-part part (Some t) told' keeps is = ap (option_map part) is ∙ ap (λ (x : _). Some x) (keeps t)

-- its waits are as they were
pub waits-hushed : (old new : FrontSeen) → new ≡ after_hush old → waits_of new.told ≡ waits_of old.told
waits-hushed old new is = hushed-part (λ (t : FrontTold). t.waits) old.told new.told (λ t. refl) (ap (λ (f : FrontSeen). f.told) is)

-- and what it was bound to, and its dials
pub contacts-hushed : (old new : FrontSeen) → new ≡ after_hush old → contacts_of new.told ≡ contacts_of old.told
contacts-hushed old new is = hushed-part contacts old.told new.told (λ t. refl) (ap (λ (f : FrontSeen). f.told) is)

-- and the last wait failed still
pub failed-hushed : (told told' : Option FrontTold) → told' ≡ option_map hushed_front told → IfSome told HasFailedLast → IfSome told' HasFailedLast
failed-hushed None told' is failed = subst (λ (o : Option FrontTold). IfSome o HasFailedLast) (sym is) tt
failed-hushed (Some t) told' is failed =
    subst (λ (o : Option FrontTold). IfSome o HasFailedLast) (sym is)
    (record { before = failed.before; last = failed.last; waits = failed.waits; failed = failed.failed })

-- it takes no further connection
pub is-hushed : (told told' : Option FrontTold) → told' ≡ option_map hushed_front told → IfSome told' IsHushed
is-hushed None told' is = subst (λ (o : Option FrontTold). IfSome o IsHushed) (sym is) tt
is-hushed (Some t) told' is = subst (λ (o : Option FrontTold). IfSome o IsHushed) (sym is) refl

-- and had given all that it has, as the table took it
pub given-hushed : (s s' : State) (told told' : Option FrontTold) → told' ≡ option_map hushed_front told → s'.accepted ≡ s.accepted
    → IfSome told (HasGivenAll s) → IfSome told' (HasGivenAll s')
given-hushed s s' None told' is same given = subst (λ (o : Option FrontTold). IfSome o (HasGivenAll s')) (sym is) tt
given-hushed s s' (Some t) told' is same given =
    subst (λ (o : Option FrontTold). IfSome o (HasGivenAll s')) (sym is)
    (record { left = given.left; read = given.read; taken = given.taken ∙ sym same })

-- ## A bind

after_bind-clients : (answer : Bool) (listen : Addr) (control : Option ℕ) (t : FrontTold) → (after_bind answer listen control t).clients ≡ t.clients
after_bind-clients true listen control t = refl
after_bind-clients false listen control t = refl

after_bind-comings : (answer : Bool) (listen : Addr) (control : Option ℕ) (t : FrontTold) → (after_bind answer listen control t).comings ≡ t.comings
after_bind-comings true listen control t = refl
after_bind-comings false listen control t = refl

-- after it the front is still the one that it was
pub follows-bind : (old new : FrontSeen) (listen : Addr) (control : Option ℕ) (answer : Bool) → Binds old new listen control answer → Follows old new
follows-bind old new listen control answer binds = record {
  script = binds.script;
  clients =
      clients-mapped old.told new.told (after_bind answer listen control) (after_bind-clients answer listen control) binds.told_is;
  comings =
      comings-mapped old.told new.told (after_bind answer listen control) (after_bind-comings answer listen control) binds.told_is;
  faults = where-stays (not answer) old.counts.faults new.counts.faults binds.faults;
  ends = omega (arith, binds.ends);
  commands = omega (arith, binds.commands);
  stops = omega (arith, ap (λ (w : GivenWords). w.stop) binds.words);
}

-- ## The end

-- listening was stopped, and then these answers were given
abbrev pub left_front : List AnswerTold → FrontTold → FrontTold
left_front more t = record t { hushed = true; answers = t.answers ++ more }

left-answered : (text : List ℕ) (told told' : Option FrontTold) → told' ≡ option_map (after_answer text) (option_map hushed_front told)
    → (more : List AnswerTold) × (told' ≡ option_map (left_front more) told)
left-answered text None told' is = ([], is)
left-answered text (Some t) told' is = (record { read = t.read; text = text } ∷ [], is)

left-hushed : (told told' : Option FrontTold) → told' ≡ option_map hushed_front told → told' ≡ option_map (left_front []) told
left-hushed None told' is = is
left-hushed (Some t) told' is = is ∙ ap (λ (answers : List AnswerTold). Some (record t { hushed = true; answers = answers })) (sym (append-nil t.answers))

-- so it is behind turns that ended so
pub left-so : (turns : Result End BoardFault) (f hushed f' : FrontSeen) → hushed ≡ after_hush f → AnswersStop turns hushed f'
    → (more : List AnswerTold) × (f'.told ≡ option_map (left_front more) f.told)
left-so (Ok end.Asked) f hushed f' is given =
    left-answered stopping_answer f.told f'.told
    (ap (λ (x : FrontSeen). x.told) given.rest ∙ ap (λ (x : FrontSeen). option_map (after_answer stopping_answer) x.told) is)
left-so (Ok end.Ended) f hushed f' is same = ([], left-hushed f.told f'.told (ap (λ (x : FrontSeen). x.told) (same ∙ is)))
left-so (Ok end.Failed) f hushed f' is same = ([], left-hushed f.told f'.told (ap (λ (x : FrontSeen). x.told) (same ∙ is)))
left-so (Ok end.Overdue) f hushed f' is same = ([], left-hushed f.told f'.told (ap (λ (x : FrontSeen). x.told) (same ∙ is)))
left-so (Ok end.Gone) f hushed f' is same = ([], left-hushed f.told f'.told (ap (λ (x : FrontSeen). x.told) (same ∙ is)))
left-so (Err fault) f hushed f' is same = ([], left-hushed f.told f'.told (ap (λ (x : FrontSeen). x.told) (same ∙ is)))

-- and it counted what it had, but for answers
pub record CountsAsLeft (f f' : FrontSeen) : Type 0 where
  pub script : f'.script ≡ f.script
  pub faults : f'.counts.faults ≡ f.counts.faults
  pub ends : f'.counts.ends ≡ f.counts.ends
  pub commands : f'.counts.commands ≡ f.counts.commands
  pub wakes : f'.counts.wakes ≡ f.counts.wakes
  pub words : f'.counts.words ≡ f.counts.words
  pub handed : f'.counts.handed ≡ f.counts.handed

left-same : (f f' : FrontSeen) → f' ≡ f → CountsAsLeft f f'
left-same f f' same = record {
  script = ap (λ (x : FrontSeen). x.script) same;
  faults = ap (λ (x : FrontSeen). x.counts.faults) same;
  ends = ap (λ (x : FrontSeen). x.counts.ends) same;
  commands = ap (λ (x : FrontSeen). x.counts.commands) same;
  wakes = ap (λ (x : FrontSeen). x.counts.wakes) same;
  words = ap (λ (x : FrontSeen). x.counts.words) same;
  handed = ap (λ (x : FrontSeen). x.counts.handed) same;
}

pub left-counts : (turns : Result End BoardFault) (hushed f' : FrontSeen) → AnswersStop turns hushed f' → CountsAsLeft hushed f'
left-counts (Ok end.Asked) hushed f' given = record {
  script = ap (λ (x : FrontSeen). x.script) given.rest;
  faults = ap (λ (x : FrontSeen). x.counts.faults) given.rest;
  ends = ap (λ (x : FrontSeen). x.counts.ends) given.rest;
  commands = ap (λ (x : FrontSeen). x.counts.commands) given.rest;
  wakes = ap (λ (x : FrontSeen). x.counts.wakes) given.rest;
  words = ap (λ (x : FrontSeen). x.counts.words) given.rest;
  handed = ap (λ (x : FrontSeen). x.counts.handed) given.rest;
}
left-counts (Ok end.Ended) hushed f' same = left-same hushed f' same
left-counts (Ok end.Failed) hushed f' same = left-same hushed f' same
left-counts (Ok end.Overdue) hushed f' same = left-same hushed f' same
left-counts (Ok end.Gone) hushed f' same = left-same hushed f' same
left-counts (Err fault) hushed f' same = left-same hushed f' same

-- what holds of what it told holds of what it tells then, where that is so whatever was answered
pub left-told : (P : FrontTold → Type 0) (turns : Result End BoardFault) (hushed f' : FrontSeen) → ((text : List ℕ) (t : FrontTold) → P t → P (after_answer text t))
    → AnswersStop turns hushed f' → IfSome hushed.told P → IfSome f'.told P
left-told P (Ok end.Asked) hushed f' keeps given holds =
    answered-holds hushed.told f'.told (ap (λ (x : FrontSeen). x.told) given.rest) holds
  where
    answered-holds : (told told' : Option FrontTold) → told' ≡ option_map (after_answer stopping_answer) told → IfSome told P → IfSome told' P
    answered-holds None told' is holds = subst (λ (x : Option FrontTold). IfSome x P) (sym is) tt
    answered-holds (Some t) told' is holds = subst (λ (x : Option FrontTold). IfSome x P) (sym is) (keeps stopping_answer t holds)
left-told P (Ok end.Ended) hushed f' keeps same holds = subst (λ (x : FrontSeen). IfSome x.told P) (sym same) holds
left-told P (Ok end.Failed) hushed f' keeps same holds = subst (λ (x : FrontSeen). IfSome x.told P) (sym same) holds
left-told P (Ok end.Overdue) hushed f' keeps same holds = subst (λ (x : FrontSeen). IfSome x.told P) (sym same) holds
left-told P (Ok end.Gone) hushed f' keeps same holds = subst (λ (x : FrontSeen). IfSome x.told P) (sym same) holds
left-told P (Err fault) hushed f' keeps same holds = subst (λ (x : FrontSeen). IfSome x.told P) (sym same) holds

left-part : {X : Type 0} (part : FrontTold → X) (more : List AnswerTold) (told told' : Option FrontTold) → ((t : FrontTold) → part (left_front more t) ≡ part t)
    → told' ≡ option_map (left_front more) told → option_map part told' ≡ option_map part told
left-part part more None told' same is = ap (option_map part) is
left-part part more (Some t) told' same is = ap (option_map part) is ∙ ap (λ (x : _). Some x) (same t)

-- what it was bound to, and its dials, are as they were
pub contacts-left : (turns : Result End BoardFault) (f hushed f' : FrontSeen) → hushed ≡ after_hush f → AnswersStop turns hushed f'
    → contacts_of f'.told ≡ contacts_of f.told
contacts-left turns f hushed f' is given =
    let left = left-so turns f hushed f' is given in
    left-part contacts left.0 f.told f'.told (λ t. refl) left.1

pub waits-left : (turns : Result End BoardFault) (f hushed f' : FrontSeen) → hushed ≡ after_hush f → AnswersStop turns hushed f'
    → waits_of f'.told ≡ waits_of f.told
waits-left turns f hushed f' is given =
    let left = left-so turns f hushed f' is given in
    left-part (λ (t : FrontTold). t.waits) left.0 f.told f'.told (λ t. refl) left.1

-- it is still the one that it was
pub follows-left : (turns : Result End BoardFault) (f hushed f' : FrontSeen) → hushed ≡ after_hush f → AnswersStop turns hushed f' → Follows f f'
follows-left turns f hushed f' is given =
    let left = left-so turns f hushed f' is given in
    let counts = left-counts turns hushed f' given in
    record {
      script = counts.script ∙ ap (λ (x : FrontSeen). x.script) is;
      clients = clients-mapped f.told f'.told (left_front left.0) (λ t. refl) left.1;
      comings = comings-mapped f.told f'.told (left_front left.0) (λ t. refl) left.1;
      faults = omega (arith, counts.faults, ap (λ (x : FrontSeen). x.counts.faults) is);
      ends = omega (arith, counts.ends, ap (λ (x : FrontSeen). x.counts.ends) is);
      commands = omega (arith, counts.commands, ap (λ (x : FrontSeen). x.counts.commands) is);
      stops = omega (arith, ap (λ (w : GivenWords). w.stop) counts.words, ap (λ (x : FrontSeen). x.counts.words.stop) is);
    }
