-- How the listener heeds its command lines, one behind the other.
use Rattle.std.proofs.Common.{◌≡◌, ◌≢◌, ◌≤◌, inl, inr, ℕ, Bool, true, false, not, List, [], ◌∷◌, ◌++◌, map, Option, None, Some, option_map, IfSome, refl, sym, ap, subst, ◌∙◌, append-nil, append_assoc, arith}
use Rattle.std.proofs.lemmas.List.{map-append}
use Rattle.std.specs.Str.{bytes_eq}
use Rattle.mpm_base.specs.CommandWord.{command_word}
use Rattle.mpm_base.specs.Count.{Rises}
use Rattle.mpm_base.specs.Front.{Commands, FrontSeen, FrontTold, GivesLine, TellsOn, after_command, hushed_front}
use Rattle.mpm_base.specs.Store.{StoreSeen, StoreTold}
use Rattle.mpm_base.specs.declared.script_line.CommandWord.{CommandWord}
use Rattle.mpm_base.specs.declared.script_line.CommandWord.TheVariants as word
use Rattle.conn_machine.specs.declared.event.Commanded.{Commanded}
use Rattle.conn_machine.specs.declared.event.Commanded.TheVariants as commanded
use Rattle.conn_machine.specs.declared.event.Event.{Event}
use Rattle.conn_machine.specs.declared.event.Event.TheVariants as event
use Rattle.conn_machine.specs.declared.state.State.{State}
use Rattle.conn_state.specs.Known.{KnownOutside}
use Rattle.board_book.specs.Book.{SeenBook, row_in}
use Rattle.board_book.specs.Editions.{orders_in}
use Rattle.board.specs.Editions.{GenerationsKeepTheirEditions}
use Rattle.worker_group.specs.Acts.{Acts, ActsInSteps}
use Rattle.listener_round.specs.Commands.{asked_in, asks_to_end, stop_line}
use Rattle.listener_round.specs.FrontInside.{Follows, HasNoneToHeed, HasOneToHeed, IsInStep, OnlyReads, StaysWatching}
use Rattle.listener_round.specs.OrdersInside.{IsHushedIf, KnowsComing, MakesOrders, MayHush, ServesNewest, StandsBehind, end_if}
use Rattle.listener_round.specs.Pace.{Brought, brought, ordered}
use Rattle.listener_round.specs.ShareInside.{DoesAsked, HushesFor, ReadsFor}
use Rattle.rounds.specs.TableInside.{StandsInTime}
use Rattle.conn_machine.specs.States.{is_serving}
use Rattle.listener_round.specs.RoundInside.{DoesOrders, NoneHalts}
use Rattle.rounds.specs.PartsInside.{StaysTimely}
use Rattle.listener_round.specs.StandingInside.{KnowsLater, StandsOn, standing}
use Rattle.listener_round.specs.declared.edition.LoadedEdition.{LoadedEdition}
use Rattle.listener_round.specs.declared.edition.NamedConfig.{NamedConfig}
use Rattle.listener_round.proofs.CommandLemmas.{heeded-line, stopped-line}
use Rattle.listener_round.proofs.CountedLemmas.{gave-word, one-rises}
use Rattle.run_report.proofs.CountLemmas.{rises-behind}
use Rattle.listener_round.proofs.EditionLemmas.{newest-acts}
use Rattle.listener_round.proofs.FrontLemmas.{follows-same, follows-trans}
use Rattle.listener_round.proofs.FrontCallLemmas.{follows-command, follows-hushed, reads-command, reads-same, reads-trans}
use Rattle.listener_round.proofs.LineLemmas.{HasRead, IsIdle, asks-ending, asks-graceful, asks-nothing, asks-stop, ends-not, is_off, reads-ended, reads-ending, reads-line, reads-none, words-differ}
use Rattle.listener_round.proofs.OrderStandLemmas.{stands-front, stands-line}
use Rattle.listener_round.proofs.StandingLemmas.{stands-more}
use Rattle.listener_round.proofs.NobodyLemmas.{nobody-ordered}
use Rattle.listener_round.proofs.WatchLemmas.{watched-as, watched-reads}

-- ## Changes

-- the same change of two equal values
pub changed : {A B : Type 0} {x y : A} → x ≡ y → (change : A → B) → change x ≡ change y
changed same change = ap change same

-- ## Commands behind commands

none-both : (a b : List Commanded) → NoneHalts a → NoneHalts b → NoneHalts (a ++ b)
none-both [] b first second = second
none-both (commanded.Graceful shape ∷ a) b first second = none-both a b first second
none-both (commanded.Refused reason ∷ a) b first second = none-both a b first second
none-both (commanded.GracefulStop until ∷ a) b first second = none-both a b first second
none-both (commanded.Stop why ∷ a) b first second = absurd first

pub does-none : ActsInSteps → (b : SeenBook) → row_in 0 b ≡ None → DoesOrders b b
does-none steps b row = record { orders = []; none = tt; acts = steps.none 0 None b row }

pub does-more : ActsInSteps → (a b c : SeenBook) → DoesOrders a b → DoesOrders b c → DoesOrders a c
does-more steps a b c first second = record {
  orders = first.orders ++ second.orders;
  none = none-both first.orders second.orders first.none second.none;
  acts =
      subst (λ (es : List Event). Acts 0 es None a c) (sym (map-append event.Command first.orders second.orders))
      (steps.more 0 (map event.Command first.orders) (map event.Command second.orders) None None a b c first.acts second.acts);
}

-- ## A front that gave a line, or none

-- the front is still the one that it was, but for lines that were read
pub record GoesOn (f f' : FrontSeen) (a b : SeenBook) : Type 0 where
  pub follows : Follows f f'
  pub front : TellsOn OnlyReads f.told f'.told
  pub watched : StaysWatching f.told f'.told a b

pub goes-same : (f : FrontSeen) (a : SeenBook) → GoesOn f f a a
goes-same f a = record { follows = follows-same f; front = reads-same f.told; watched = λ before all. all }

pub goes-more : (f f' f'' : FrontSeen) (a b c : SeenBook) → GoesOn f f' a b → GoesOn f' f'' b c → GoesOn f f'' a c
goes-more f f' f'' a b c first second = record {
  follows = follows-trans f f' f'' first.follows second.follows;
  front = reads-trans f.told f'.told f''.told first.front second.front;
  watched = λ before all. second.watched before (first.watched before all);
}

-- a call for a command line
pub goes-command : (f f' : FrontSeen) (a : SeenBook) (answer : Option (List ℕ)) → Commands f f' answer → GoesOn f f' a a
goes-command f f' a answer gave =
    let front = reads-command answer f.told f'.told gave.told_is in
    record { follows = follows-command f f' answer gave; front = front; watched = watched-reads f.told f'.told a front }

-- commands that were done
pub goes-ordered : (f : FrontSeen) (a b : SeenBook) → DoesOrders a b → b.state.accepted ≡ a.state.accepted → GoesOn f f a b
goes-ordered f a b does accepted = record {
  follows = follows-same f;
  front = reads-same f.told;
  watched = watched-as f.told a b (nobody-ordered a b does) accepted;
}

hushed-reads : (told told' : Option FrontTold) → told' ≡ option_map hushed_front told → TellsOn OnlyReads told told'
hushed-reads None told' is = is
hushed-reads (Some t) told' is = (hushed_front t, is, record { rest = refl })

-- listening was stopped, or not
pub goes-hushed : (f f' : FrontSeen) (a : SeenBook) → MayHush f f' → GoesOn f f' a a
goes-hushed f f' a (inl same) = subst (λ (x : FrontSeen). GoesOn f x a a) (sym same) (goes-same f a)
goes-hushed f f' a (inr hushed) =
    let front = hushed-reads f.told f'.told (ap (λ (x : FrontSeen). x.told) hushed) in
    record { follows = follows-hushed f f' hushed; front = front; watched = watched-reads f.told f'.told a front }

heeded-hushed : (told told' : Option FrontTold) → told' ≡ option_map hushed_front told → IfSome told HasNoneToHeed → IfSome told' HasNoneToHeed
heeded-hushed None told' is heeded = subst (λ (o : Option FrontTold). IfSome o HasNoneToHeed) (sym is) tt
heeded-hushed (Some t) told' is heeded =
    subst (λ (o : Option FrontTold). IfSome o HasNoneToHeed) (sym is) (record { none = heeded.none; came = heeded.came })

pub heeded-may : (f f' : FrontSeen) → MayHush f f' → IfSome f.told HasNoneToHeed → IfSome f'.told HasNoneToHeed
heeded-may f f' (inl same) heeded = subst (λ (x : FrontSeen). IfSome x.told HasNoneToHeed) (sym same) heeded
heeded-may f f' (inr hushed) heeded = heeded-hushed f.told f'.told (ap (λ (x : FrontSeen). x.told) hushed) heeded

-- the table is in step with a front that gave a line, or none
step-told : (given : _) (told told' : Option FrontTold) (s : State) → told' ≡ option_map (after_command given) told → IsInStep told s → IsInStep told' s
step-told given None told' s is step = subst (λ (o : Option FrontTold). IsInStep o s) (sym is) tt
step-told true (Some t) told' s is step =
    subst (λ (o : Option FrontTold). IsInStep o s) (sym is) (record { listens = step.listens; taken = record { accepted = step.taken.accepted; none = step.taken.none } })
step-told false (Some t) told' s is step = subst (λ (o : Option FrontTold). IsInStep o s) (sym is) step

pub step-line : (f f' : FrontSeen) (line : List ℕ) (s : State) → Commands f f' (Some line) → IsInStep f.told s → IsInStep f'.told s
step-line f f' line s gave step = step-told true f.told f'.told s gave.told_is step

pub step-none : (f f' : FrontSeen) (s : State) → Commands f f' None → IsInStep f.told s → IsInStep f'.told s
step-none f f' s gave step = step-told false f.told f'.told s gave.told_is step

-- ## How the run stands

-- no line was there
pub stands-none : (known : Option KnownOutside) (c : NamedConfig) (ms : ℕ) (s : StoreSeen) (f f' : FrontSeen) (a : SeenBook) → Commands f f' None
    → StandsOn known c 0 0 (standing ms s f a) (standing ms s f' a)
stands-none known c ms s f f' a gave o n past opened before stood = stands-front known o n past 0 0 ms s f f' a (omega (arith, gave.commands)) stood

-- one was there for which nothing was done, and which is owed or isn't
pub stands-read : (known : Option KnownOutside) (c : NamedConfig) (owed ms : ℕ) (s : StoreSeen) (f f' : FrontSeen) (a : SeenBook) (line : List ℕ) → owed ≤ 1
    → Commands f f' (Some line) → StandsOn known c 0 owed (standing ms s f a) (standing ms s f' a)
stands-read known c owed ms s f f' a line few gave o n past opened before stood = stands-line known o n past 0 owed ms s f f' a few stood gave.commands

-- ## What the lines ask for

-- what lines were read, behind others, that ask for this
abbrev pub ReadsOn : List CommandWord → Option FrontTold → Option FrontTold → Type 0
ReadsOn more mid new = (words : List CommandWord) (told : Option FrontTold) → HasRead words told mid → HasRead (words ++ more) told new

on-none : (mid : Option FrontTold) → ReadsOn [] mid mid
on-none mid words told so = subst (λ (xs : List CommandWord). HasRead xs told mid) (sym (append-nil words)) so

on-more : (first second : List CommandWord) (a b c : Option FrontTold) → ReadsOn first a b → ReadsOn second b c → ReadsOn (first ++ second) a c
on-more first second a b c reads more words told so =
    subst (λ (xs : List CommandWord). HasRead xs told c) (append_assoc words first second) (more (words ++ first) told (reads words told so))

-- a line that doesn't ask for a graceful stop
on-line : (asked : List CommandWord) (line : List ℕ) (mid new : Option FrontTold) → new ≡ option_map (after_command true) mid
    → IfSome mid (GivesLine (Some line)) → asks_to_end line ≡ false → ((ending : Bool) → asked_in ending line ≡ asked) → ReadsOn asked mid new
on-line asked line mid new is gives ends asks words told so =
    subst (λ (xs : List CommandWord). HasRead (words ++ xs) told new) (asks (is_off mid)) (reads-line words line told mid new so is gives ends)

-- whether the front listens no more is whether the server takes no connections, where it tells
off-as : (told mid : Option FrontTold) (words more : List CommandWord) (line : List ℕ) (new : Option FrontTold) (s : State) → IsInStep mid s
    → HasRead words told mid → asked_in (not (is_serving s.going)) line ≡ more → HasRead (words ++ asked_in (is_off mid) line) told new
    → HasRead (words ++ more) told new
off-as None mid words more line new s step so asks has = has
off-as (Some t) None words more line new s step so asks has = let there = so.1 in absurd (cc there)
off-as (Some t) (Some m) words more line new s step so asks has =
    subst (λ (xs : List CommandWord). HasRead (words ++ xs) (Some t) new) (ap (λ (b : Bool). asked_in b line) step.listens ∙ asks) has

-- a line that asks for a graceful stop, which was begun
on-ending : (line : List ℕ) (mid next new : Option FrontTold) (s : State) → line ≡ command_word word.GracefulStop → next ≡ option_map (after_command true) mid
    → IfSome mid (GivesLine (Some line)) → new ≡ option_map hushed_front next → IsInStep mid s → is_serving s.going ≡ true
    → ReadsOn (word.GracefulStop ∷ []) mid new
on-ending line mid next new s is after gives hush step serves words told so =
    off-as told mid words (word.GracefulStop ∷ []) line new s step so
    (ap (λ (b : Bool). asked_in (not b) line) serves ∙ ap (asked_in false) is ∙ asks-ending false)
    (reads-ending words line told mid next new so after gives (ap asks_to_end is) hush)

off-told : (mid : Option FrontTold) (s : State) → IsInStep mid s → is_serving s.going ≡ false → IfSome mid (λ t. t.hushed ≡ true)
off-told None s step off = tt
off-told (Some t) s step off = step.listens ∙ ap not off

-- or had been
on-ended : (line : List ℕ) (mid new : Option FrontTold) (s : State) → line ≡ command_word word.GracefulStop → new ≡ option_map (after_command true) mid
    → IfSome mid (GivesLine (Some line)) → IsInStep mid s → is_serving s.going ≡ false → ReadsOn [] mid new
on-ended line mid new s is after gives step off words told so =
    off-as told mid words [] line new s step so
    (ap (λ (b : Bool). asked_in (not b) line) off ∙ ap (asked_in true) is ∙ asks-ending true)
    (reads-ended words line told mid new so after gives (ap asks_to_end is) (off-told mid s step off))

-- ## On the way

-- what the listener has heeded: what it did, each in its time, what the lines that it read ask for, how the run stands, and all else of the
-- front and the table
pub record HasHeeded (known : Option KnownOutside) (c : NamedConfig) (ms ms' : ℕ) (s s' : StoreSeen) (f f' : FrontSeen) (a b : SeenBook) : Type 0 where
  pub does : DoesOrders a b
  pub words : List CommandWord
  pub reads : ReadsOn words f.told f'.told
  pub makes : MakesOrders words a b
  pub timely : StaysTimely a b
  pub in_time : StandsInTime b.state
  pub stands : StandsOn known c 0 0 (standing ms s f a) (standing ms' s' f' b)
  pub moment : b.state.moment ≡ a.state.moment
  pub accepted : b.state.accepted ≡ a.state.accepted
  pub goes : GoesOn f f' a b

makes-none : (b : SeenBook) → MakesOrders [] b b
makes-none b = sym (append-nil (brought b.history))

makes-more : (first second : List CommandWord) (a b c : SeenBook) → MakesOrders first a b → MakesOrders second b c → MakesOrders (first ++ second) a c
makes-more first second a b c makes more =
    more ∙ ap (λ (xs : List Brought). xs ++ map ordered second) makes
    ∙ append_assoc (brought a.history) (map ordered first) (map ordered second)
    ∙ ap (λ (xs : List Brought). brought a.history ++ xs) (sym (map-append ordered first second))

pub heeded-start : ActsInSteps → (known : Option KnownOutside) (c : NamedConfig) (ms : ℕ) (s : StoreSeen) (f : FrontSeen) (a : SeenBook) → row_in 0 a ≡ None
    → StandsInTime a.state → HasHeeded known c ms ms s s f f a a
heeded-start steps known c ms s f a row in_time = record {
  does = does-none steps a row;
  words = [];
  reads = on-none f.told;
  makes = makes-none a;
  timely = λ before. before;
  in_time = in_time;
  stands = λ o n past opened before stood. stood;
  moment = refl;
  accepted = refl;
  goes = goes-same f a;
}

pub heeded-more : ActsInSteps → (known : Option KnownOutside) (cfg : NamedConfig) (ms ms' ms'' : ℕ) (s s' s'' : StoreSeen) (f f' f'' : FrontSeen) (a b c : SeenBook)
    → HasHeeded known cfg ms ms' s s' f f' a b → HasHeeded known cfg ms' ms'' s' s'' f' f'' b c → HasHeeded known cfg ms ms'' s s'' f f'' a c
heeded-more steps known cfg ms ms' ms'' s s' s'' f f' f'' a b c first second = record {
  does = does-more steps a b c first.does second.does;
  words = first.words ++ second.words;
  reads = on-more first.words second.words f.told f'.told f''.told first.reads second.reads;
  makes = makes-more first.words second.words a b c first.makes second.makes;
  timely = λ before. second.timely (first.timely before);
  in_time = second.in_time;
  stands =
      stands-more known cfg 0 0 (standing ms s f a) (standing ms' s' f' b) (standing ms'' s'' f'' c) first.stands first.timely second.stands;
  moment = second.moment ∙ first.moment;
  accepted = second.accepted ∙ first.accepted;
  goes = goes-more f f' f'' a b c first.goes second.goes;
}

-- ## A line behind those that were heeded

-- one asked for nothing
pub heeded-dropped : ActsInSteps → (known : Option KnownOutside) (c : NamedConfig) (ms : ℕ) (s : StoreSeen) (f f' : FrontSeen) (a : SeenBook) (line : List ℕ)
    → row_in 0 a ≡ None → StandsInTime a.state → IsIdle line → Commands f f' (Some line)
    → HasHeeded known c ms ms s s f f' a a
heeded-dropped steps known c ms s f f' a line row in_time idle gave = record {
  does = does-none steps a row;
  words = [];
  reads = on-line [] line f.told f'.told gave.told_is gave.gives (ends-not line idle) (λ ending. asks-nothing ending line idle);
  makes = makes-none a;
  timely = λ before. before;
  in_time = in_time;
  stands = stands-read known c 0 ms s f f' a line (omega arith) gave;
  moment = refl;
  accepted = refl;
  goes = goes-command f f' a (Some line) gave;
}

-- one asked for a restart, which was done
pub heeded-restarted : (known : Option KnownOutside) (c : NamedConfig) (ms ms' : ℕ) (s s' : StoreSeen) (f f' : FrontSeen) (a b : SeenBook) (line : List ℕ)
    → line ≡ command_word word.Graceful → Commands f f' (Some line) → DoesOrders a b → MakesOrders (word.Graceful ∷ []) a b → StaysTimely a b
    → StandsInTime b.state → StandsBehind known c word.Graceful (λ x. standing ms s x a) (λ x. standing ms' s' x b)
    → b.state.moment ≡ a.state.moment → b.state.accepted ≡ a.state.accepted → HasHeeded known c ms ms' s s' f f' a b
heeded-restarted known c ms ms' s s' f f' a b line is gave does makes timely in_time stands moment accepted = record {
  does = does;
  words = word.Graceful ∷ [];
  reads =
      on-line (word.Graceful ∷ []) line f.told f'.told gave.told_is gave.gives (ap asks_to_end is) (λ ending. ap (asked_in ending) is ∙ asks-graceful ending);
  makes = makes;
  timely = timely;
  in_time = in_time;
  stands = stands f f' (subst (λ (l : List ℕ). Commands f f' (Some l)) is gave);
  moment = moment;
  accepted = accepted;
  goes = goes-more f f' f' a a b (goes-command f f' a (Some line) gave) (goes-ordered f' a b does accepted);
}

-- how it stands where a graceful stop was asked for, whatever the store
abbrev pub StandsEnding : Option KnownOutside → NamedConfig → ℕ → FrontSeen → FrontSeen → SeenBook → SeenBook → Type 0
StandsEnding known c ms f' f'' a b =
    (f : FrontSeen) (s : StoreSeen) → Commands f f' (Some (command_word word.GracefulStop)) → StandsOn known c 0 0 (standing ms s f a) (standing ms s f'' b)

-- what it asks for
reads-end : (serves : Bool) (line : List ℕ) (f f' f'' : FrontSeen) (s : State) → is_serving s.going ≡ serves → line ≡ command_word word.GracefulStop
    → Commands f f' (Some line) → IsHushedIf serves f' f'' → IsInStep f.told s → ReadsOn (end_if serves) f.told f''.told
reads-end true line f f' f'' s serves is gave hushed step =
    on-ending line f.told f'.told f''.told s is gave.told_is gave.gives (ap (λ (x : FrontSeen). x.told) hushed) step serves
reads-end false line f f' f'' s serves is gave hushed step =
    on-ended line f.told f''.told s is (ap (λ (x : FrontSeen). x.told) hushed ∙ gave.told_is) gave.gives step serves

may-hush : (serves : Bool) (f f' : FrontSeen) → IsHushedIf serves f f' → MayHush f f'
may-hush true f f' hushed = inr hushed
may-hush false f f' same = inl same

-- one asked for a graceful stop, which was done
pub heeded-ended : (known : Option KnownOutside) (c : NamedConfig) (ms : ℕ) (s : StoreSeen) (f f' f'' : FrontSeen) (a b : SeenBook) (line : List ℕ)
    → line ≡ command_word word.GracefulStop → Commands f f' (Some line) → DoesOrders a b → MakesOrders (end_if (is_serving a.state.going)) a b → StaysTimely a b
    → StandsInTime b.state → StandsEnding known c ms f' f'' a b → IsHushedIf (is_serving a.state.going) f' f'' → IsInStep f.told a.state
    → b.state.moment ≡ a.state.moment → b.state.accepted ≡ a.state.accepted → HasHeeded known c ms ms s s f f'' a b
heeded-ended known c ms s f f' f'' a b line is gave does makes timely in_time stands hushed step moment accepted = record {
  does = does;
  words = end_if (is_serving a.state.going);
  reads = reads-end (is_serving a.state.going) line f f' f'' a.state refl is gave hushed step;
  makes = makes;
  timely = timely;
  in_time = in_time;
  stands = stands f s (subst (λ (l : List ℕ). Commands f f' (Some l)) is gave);
  moment = moment;
  accepted = accepted;
  goes =
      goes-more f f' f'' a b b (goes-more f f' f' a a b (goes-command f f' a (Some line) gave) (goes-ordered f' a b does accepted))
      (goes-hushed f' f'' b (may-hush (is_serving a.state.going) f' f'' hushed));
}

-- ## What was heeded at all

reads-as : (words : List CommandWord) (told told' : Option FrontTold) → HasRead words told told' → TellsOn (ReadsFor words) told told'
reads-as words None told' so = so
reads-as words (Some t) told' so = (so.0, so.1, so.2.reads)

hushes-as : (words : List CommandWord) (told told' : Option FrontTold) → HasRead words told told' → TellsOn HushesFor told told'
hushes-as words None told' so = so
hushes-as words (Some t) told' so = (so.0, so.1, so.2.hushes)

idle-told : (told told' : Option FrontTold) → told' ≡ option_map (after_command false) told → told' ≡ told
idle-told None told' is = is
idle-told (Some t) told' is = is

-- no further line was there
pub does-all : (words : List CommandWord) (told mid new : Option FrontTold) (a b : SeenBook) → ReadsOn words told mid → new ≡ option_map (after_command false) mid
    → MakesOrders words a b → DoesAsked [] told new a b
does-all words told mid new a b reads is makes = record {
  words = words;
  asked =
      subst (TellsOn (ReadsFor words) told) (sym (idle-told mid new is)) (reads-as words told mid (reads [] told (reads-none told)));
  made = append-nil (brought b.history) ∙ makes;
}

-- one more was, of which this is left to be done
pub does-but : (words more : List CommandWord) (told mid new : Option FrontTold) (a b : SeenBook) → ReadsOn words told mid → ReadsOn more mid new
    → MakesOrders words a b → DoesAsked more told new a b
does-but words more told mid new a b reads further makes = record {
  words = words ++ more;
  asked = reads-as (words ++ more) told new (further words told (reads [] told (reads-none told)));
  made =
      ap (λ (xs : List Brought). xs ++ map ordered more) makes
      ∙ append_assoc (brought a.history) (map ordered words) (map ordered more)
      ∙ ap (λ (xs : List Brought). brought a.history ++ xs) (sym (map-append ordered words more));
}

-- listening was stopped as they ask
pub hushes-all : (words : List CommandWord) (told mid new : Option FrontTold) → ReadsOn words told mid → new ≡ option_map (after_command false) mid
    → TellsOn HushesFor told new
hushes-all words told mid new reads is =
    subst (TellsOn HushesFor told) (sym (idle-told mid new is)) (hushes-as words told mid (reads [] told (reads-none told)))

pub hushes-but : (words more : List CommandWord) (told mid new : Option FrontTold) → ReadsOn words told mid → ReadsOn more mid new → TellsOn HushesFor told new
hushes-but words more told mid new reads further =
    hushes-as (words ++ more) told new (further words told (reads [] told (reads-none told)))

-- a line that stops the server
pub on-stop : (line : List ℕ) (f f' : FrontSeen) → line ≡ command_word word.Stop → Commands f f' (Some line) → ReadsOn (word.Stop ∷ []) f.told f'.told
on-stop line f f' is gave =
    on-line (word.Stop ∷ []) line f.told f'.told gave.told_is gave.gives (ap asks_to_end is) (λ ending. ap (asked_in ending) is ∙ asks-stop ending)

-- one for which a restart was refused
pub on-graceful : (line : List ℕ) (f f' : FrontSeen) → line ≡ command_word word.Graceful → Commands f f' (Some line) → ReadsOn (word.Graceful ∷ []) f.told f'.told
on-graceful line f f' is gave =
    on-line (word.Graceful ∷ []) line f.told f'.told gave.told_is gave.gives (ap asks_to_end is) (λ ending. ap (asked_in ending) is ∙ asks-graceful ending)

-- what was read is the same once listening was stopped
reads-hushed : (words : List CommandWord) (told new : Option FrontTold) → TellsOn (ReadsFor words) told (option_map hushed_front new)
    → TellsOn (ReadsFor words) told new
reads-hushed words None None so = refl
reads-hushed words None (Some t) so = absurd (cc so)
reads-hushed words (Some t) None so = let there = so.1 in absurd (cc there)
reads-hushed words (Some t) (Some m) so =
    let there : hushed_front m ≡ so.0 = let at = so.1 in cc at in
    let reads : ReadsFor words t (hushed_front m) = subst (ReadsFor words t) (sym there) so.2 in
    (m, refl, record { reads = λ few. reads.reads few; asks = λ few. reads.asks few })

-- one for which a graceful stop could not be begun: what it asks for, though listening goes on
pub reads-unended : (line : List ℕ) (words : List CommandWord) (told mid new : Option FrontTold) (s : State) → line ≡ command_word word.GracefulStop
    → new ≡ option_map (after_command true) mid → IfSome mid (GivesLine (Some line)) → IsInStep mid s → is_serving s.going ≡ true → HasRead words told mid
    → TellsOn (ReadsFor (words ++ word.GracefulStop ∷ [])) told new
reads-unended line words told mid new s is after gives step serves so =
    reads-hushed (words ++ word.GracefulStop ∷ []) told new
    (reads-as (words ++ word.GracefulStop ∷ []) told (option_map hushed_front new)
    (on-ending line mid new (option_map hushed_front new) s is after gives refl step serves words told so))

pub does-unended : (line : List ℕ) (words : List CommandWord) (f f' f'' : FrontSeen) (a b : SeenBook) → line ≡ command_word word.GracefulStop
    → Commands f' f'' (Some line) → IsInStep f'.told b.state → is_serving b.state.going ≡ true → ReadsOn words f.told f'.told → MakesOrders words a b
    → DoesAsked (word.GracefulStop ∷ []) f.told f''.told a b
does-unended line words f f' f'' a b is gave step serves reads makes = record {
  words = words ++ word.GracefulStop ∷ [];
  asked = reads-unended line words f.told f'.told f''.told b.state is gave.told_is gave.gives step serves (reads [] f.told (reads-none f.told));
  made =
      ap (λ (xs : List Brought). xs ++ map ordered (word.GracefulStop ∷ [])) makes
      ∙ append_assoc (brought a.history) (map ordered words) (map ordered (word.GracefulStop ∷ []))
      ∙ ap (λ (xs : List Brought). brought a.history ++ xs) (sym (map-append ordered words (word.GracefulStop ∷ [])));
}

-- ## Lines that don't stop the server

pub graceful-other : (line : List ℕ) → line ≡ command_word word.Graceful → line ≢ stop_line
graceful-other line is = words-differ word.Graceful word.Stop line refl is

pub ending-other : (line : List ℕ) → line ≡ command_word word.GracefulStop → line ≢ stop_line
ending-other line is = words-differ word.GracefulStop word.Stop line refl is

pub idle-other : (line : List ℕ) → IsIdle line → line ≢ stop_line
idle-other line idle = idle.stop

-- the line that was read is no stop, and no line before it was
pub none-stops : (f f' : FrontSeen) (line : List ℕ) → Commands f f' (Some line) → line ≢ stop_line → IfSome f.told HasNoneToHeed
    → IfSome f'.told HasNoneToHeed
none-stops f f' line gave other heeded = heeded-line f.told f'.told line gave.told_is gave.gives other heeded

-- ## What stays behind a graceful stop

pub knows-kept : (known : Option KnownOutside) (c : NamedConfig) (told : Option StoreTold) (a b : SeenBook) → orders_in b ≡ orders_in a
    → KnowsComing known a c told → KnowsComing known b c told
knows-kept known c told a b same knows =
    subst (λ (orders : ℕ). KnowsLater known orders c.name.now c.config.now told) (sym same) knows

pub serves-kept : GenerationsKeepTheirEditions → (known : Option KnownOutside) (a b : SeenBook) (e : LoadedEdition) → DoesOrders a b
    → b.state.newest ≡ a.state.newest → ServesNewest known a e → ServesNewest known b e
serves-kept law known a b e does newest serves =
    newest-acts law known 0 (map event.Command does.orders) None a b e does.acts newest serves

-- ## The ends

-- the last line stops the server
pub heeded-stopped : (f f' f'' : FrontSeen) (line : List ℕ) → line ≡ stop_line → Follows f f' → Commands f' f'' (Some line) → IfSome f'.told HasNoneToHeed
    → Rises f.counts.words.stop f''.counts.words.stop × IfSome f''.told HasOneToHeed
heeded-stopped f f' f'' line is follows gave heeded = (
  rises-behind f.counts.words.stop f'.counts.words.stop f''.counts.words.stop follows.stops
      (one-rises f'.counts.words.stop f''.counts.words.stop (gave-word f' f'' line gave word.Stop is).words.stop),
  stopped-line f'.told f''.told line gave.told_is gave.gives is heeded,
)
