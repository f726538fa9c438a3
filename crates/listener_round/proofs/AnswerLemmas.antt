-- An answer changes nothing of a front but what was answered.
use Rattle.std.proofs.Common.{◌≡◌, ◌≢◌, ℕ, List, [], ◌∷◌, ◌++◌, Option, None, Some, option_map, IfSome, refl, sym, ap, subst, ◌∙◌, append-nil, arith}
use Rattle.mpm_base.specs.CommandWord.{command_word}
use Rattle.mpm_base.specs.Front.{Answers, Commands, FrontCounts, FrontSeen, FrontTold, TellsOn, after_answer}
use Rattle.mpm_base.specs.Store.{StoreSeen}
use Rattle.mpm_base.specs.declared.script_line.CommandWord.{CommandWord}
use Rattle.conn_machine.specs.declared.state.State.{State}
use Rattle.conn_state.specs.Known.{KnownOutside}
use Rattle.board_book.specs.Book.{SeenBook, row_in}
use Rattle.worker_group.specs.Acts.{ActsInSteps}
use Rattle.rounds.specs.TableInside.{StandsInTime}
use Rattle.listener_round.specs.CountedInside.{CountsOn}
use Rattle.listener_round.specs.FrontInside.{Follows, HasNoneToHeed, IsInStep, OnlyReads}
use Rattle.listener_round.specs.OrdersInside.{AnswersIf}
use Rattle.listener_round.specs.declared.edition.NamedConfig.{NamedConfig}
use Rattle.listener_round.specs.StandingInside.{standing}
use Rattle.listener_round.proofs.CountedLemmas.{CountsSame, alike-same, counts-alike, counts-more, same-words}
use Rattle.listener_round.proofs.FrontLemmas.{clients-mapped, comings-mapped, follows-same}
use Rattle.listener_round.specs.Pace.{brought}
use Rattle.listener_round.proofs.HeedLemmas.{GoesOn, HasHeeded, ReadsOn, does-none, goes-command, goes-more, heeded-more, heeded-start}
use Rattle.listener_round.proofs.LineLemmas.{HasRead, HasReadSo}
use Rattle.listener_round.proofs.OrderStandLemmas.{stands-front}
use Rattle.listener_round.proofs.WatchLemmas.{watched-reads}

-- ## What a front tells behind an answer

told-behind : (f f' : FrontSeen) (text : List ℕ) → Answers f f' text → f'.told ≡ option_map (after_answer text) f.told
told-behind f f' text a = ap (λ (x : FrontSeen). x.told) a.rest

-- the front is still the one that it was
follows-answer : (f f' : FrontSeen) (text : List ℕ) → Answers f f' text → Follows f f'
follows-answer f f' text a = record {
  script = ap (λ (x : FrontSeen). x.script) a.rest;
  clients = clients-mapped f.told f'.told (after_answer text) (λ t. refl) (told-behind f f' text a);
  comings = comings-mapped f.told f'.told (after_answer text) (λ t. refl) (told-behind f f' text a);
  faults = omega (arith, ap (λ (x : FrontSeen). x.counts.faults) a.rest);
  ends = omega (arith, ap (λ (x : FrontSeen). x.counts.ends) a.rest);
  commands = omega (arith, ap (λ (x : FrontSeen). x.counts.commands) a.rest);
  stops = omega (arith, ap (λ (x : FrontSeen). x.counts.words.stop) a.rest);
}

reads-answer : (text : List ℕ) (told told' : Option FrontTold) → told' ≡ option_map (after_answer text) told → TellsOn OnlyReads told told'
reads-answer text None told' is = is
reads-answer text (Some t) told' is = (after_answer text t, is, record { rest = refl })

goes-answer : (f f' : FrontSeen) (a : SeenBook) (text : List ℕ) → Answers f f' text → GoesOn f f' a a
goes-answer f f' a text given =
    let front = reads-answer text f.told f'.told (told-behind f f' text given) in
    record { follows = follows-answer f f' text given; front = front; watched = watched-reads f.told f'.told a front }

-- as many lines were read of it, which ask for what they did
read-answered : (words : List CommandWord) (t m : FrontTold) (text : List ℕ) → HasReadSo words t m → HasReadSo words t (after_answer text m)
read-answered words t m text so = record {
  reads = record { reads = λ few. so.reads.reads few; asks = λ few. so.reads.asks few };
  hushes = λ few. so.hushes few;
  read = λ few. so.read few;
  lines = so.lines;
}

has-answered : (words : List CommandWord) (text : List ℕ) (told mid new : Option FrontTold) → new ≡ option_map (after_answer text) mid
    → HasRead words told mid → HasRead words told new
has-answered words text None mid new is so = is ∙ ap (option_map (after_answer text)) so
has-answered words text (Some t) mid new is so =
    (after_answer text so.0, is ∙ ap (option_map (after_answer text)) so.1, read-answered words t so.0 text so.2)

on-answer : (text : List ℕ) (mid new : Option FrontTold) → new ≡ option_map (after_answer text) mid → ReadsOn [] mid new
on-answer text mid new is words told so =
    subst (λ (xs : List CommandWord). HasRead xs told new) (sym (append-nil words)) (has-answered words text told mid new is so)

-- the table is in step with it
step-told : (text : List ℕ) (told told' : Option FrontTold) (s : State) → told' ≡ option_map (after_answer text) told → IsInStep told s → IsInStep told' s
step-told text None told' s is step = subst (λ (o : Option FrontTold). IsInStep o s) (sym is) tt
step-told text (Some t) told' s is step =
    subst (λ (o : Option FrontTold). IsInStep o s) (sym is)
    (record { listens = step.listens; taken = record { accepted = step.taken.accepted; none = step.taken.none } })

-- no line that was read stops the server, as none did
heeds-told : (text : List ℕ) (told told' : Option FrontTold) → told' ≡ option_map (after_answer text) told → IfSome told HasNoneToHeed
    → IfSome told' HasNoneToHeed
heeds-told text None told' is heeded = subst (λ (o : Option FrontTold). IfSome o HasNoneToHeed) (sym is) tt
heeds-told text (Some t) told' is heeded =
    subst (λ (o : Option FrontTold). IfSome o HasNoneToHeed) (sym is) (record { none = heeded.none; came = heeded.came })

-- it counts the words and the links as it did
same-answer : (f f' : FrontSeen) (text : List ℕ) → Answers f f' text → CountsSame f.counts f'.counts
same-answer f f' text a =
    same-words f.counts f'.counts (ap (λ (x : FrontSeen). x.counts.words) a.rest) (ap (λ (x : FrontSeen). x.counts.handed) a.rest)

-- ## An answer that is still to be given, or was given

pub heeded-answered : ActsInSteps → (known : Option KnownOutside) (c : NamedConfig) (ms : ℕ) (s : StoreSeen) (answer : Option (List ℕ)) (f f' : FrontSeen)
    (a : SeenBook) → row_in 0 a ≡ None → StandsInTime a.state → AnswersIf answer f f' → HasHeeded known c ms ms s s f f' a a
heeded-answered steps known c ms s None f f' a row in_time same =
    subst (λ (x : FrontSeen). HasHeeded known c ms ms s s f x a a) (sym same) (heeded-start steps known c ms s f a row in_time)
heeded-answered steps known c ms s (Some text) f f' a row in_time given =
    record {
      does = does-none steps a row;
      words = [];
      reads = on-answer text f.told f'.told (told-behind f f' text given);
      makes = sym (append-nil (brought a.history));
      timely = λ before. before;
      in_time = in_time;
      stands = λ o n past opened before stood. stands-front known o n past 0 0 ms s f f' a (omega (arith, ap (λ (x : FrontSeen). x.counts.commands) given.rest)) stood;
      moment = refl;
      accepted = refl;
      goes = goes-answer f f' a text given;
    }

pub step-answered : (answer : Option (List ℕ)) (f f' : FrontSeen) (s : State) → AnswersIf answer f f' → IsInStep f.told s → IsInStep f'.told s
step-answered None f f' s same step = subst (λ (x : FrontSeen). IsInStep x.told s) (sym same) step
step-answered (Some text) f f' s given step = step-told text f.told f'.told s (told-behind f f' text given) step

pub none-answered : (answer : Option (List ℕ)) (f f' : FrontSeen) → AnswersIf answer f f' → IfSome f.told HasNoneToHeed → IfSome f'.told HasNoneToHeed
none-answered None f f' same heeded = subst (λ (x : FrontSeen). IfSome x.told HasNoneToHeed) (sym same) heeded
none-answered (Some text) f f' given heeded = heeds-told text f.told f'.told (told-behind f f' text given) heeded

pub counts-answered : (answer : Option (List ℕ)) (f f' : FrontSeen) (a : SeenBook) → AnswersIf answer f f' → CountsOn 0 f.counts f'.counts a a
counts-answered None f f' a same =
    counts-alike f.counts f'.counts a a (same-words f.counts f'.counts (ap (λ (x : FrontSeen). x.counts.words) same) (ap (λ (x : FrontSeen). x.counts.handed) same)) (alike-same a a refl)
counts-answered (Some text) f f' a given = counts-alike f.counts f'.counts a a (same-answer f f' text given) (alike-same a a refl)

pub wakes-answered : (answer : Option (List ℕ)) (f f' : FrontSeen) → AnswersIf answer f f' → f'.counts.wakes ≡ f.counts.wakes
wakes-answered None f f' same = ap (λ (x : FrontSeen). x.counts.wakes) same
wakes-answered (Some text) f f' given = ap (λ (x : FrontSeen). x.counts.wakes) given.rest

pub follows-answered : (answer : Option (List ℕ)) (f f' : FrontSeen) → AnswersIf answer f f' → Follows f f'
follows-answered None f f' same = subst (λ (x : FrontSeen). Follows f x) (sym same) (follows-same f)
follows-answered (Some text) f f' given = follows-answer f f' text given

-- ## What was heeded, behind the answer of the last line

pub heeded-mid : ActsInSteps → (known : Option KnownOutside) (c : NamedConfig) (ms ms' : ℕ) (s s' : StoreSeen) (answer : Option (List ℕ)) (f f' mid : FrontSeen)
    (a b : SeenBook) → HasHeeded known c ms ms' s s' f f' a b → AnswersIf answer f' mid → HasHeeded known c ms ms' s s' f mid a b
heeded-mid steps known c ms ms' s s' answer f f' mid a b heeded given =
    heeded-more steps known c ms ms' ms' s s' s' f f' mid a b b heeded
    (heeded-answered steps known c ms' s' answer f' mid b heeded.does.acts.row heeded.in_time given)

pub counts-mid : (answer : Option (List ℕ)) (f f' mid : FrontSeen) (a b : SeenBook) → CountsOn 0 f.counts f'.counts a b → AnswersIf answer f' mid
    → CountsOn 0 f.counts mid.counts a b
counts-mid answer f f' mid a b counts given = counts-more 0 f.counts f'.counts mid.counts a b b counts (counts-answered answer f' mid b given)

-- and behind the line that the front gave then, or none
pub goes-next : (f mid new : FrontSeen) (a b : SeenBook) (line : Option (List ℕ)) → GoesOn f mid a b → Commands mid new line → GoesOn f new a b
goes-next f mid new a b line given gave = goes-more f mid new a b b given (goes-command mid new b line gave)
