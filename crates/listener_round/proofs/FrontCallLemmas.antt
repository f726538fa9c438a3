-- What a watch, a link that is turned away and a command line leave of a front.
use Rattle.std.proofs.Common.{◌≡◌, ℕ, Bool, true, false, List, Option, None, Some, is_some, option_map, refl, sym, ap, subst, ◌∙◌, arith}
use Rattle.mpm_base.specs.Front.{FrontTold, FrontSeen, Commands, TellsOn, after_command, after_hush, after_turning_away, after_watch, front_after_turning_away, front_after_watch, hushed_front}
use Rattle.mpm_base.specs.GivenWords.{says_word}
use Rattle.mpm_base.specs.declared.conn.ConnName.{ConnName}
use Rattle.mpm_base.specs.declared.script_line.CommandWord.TheVariants as word
use Rattle.mpm_base.specs.Link.{LinkTold}
use Rattle.conn_machine.specs.declared.state.State.{State}
use Rattle.listener_round.specs.FrontInside.{Follows, IsInStep, KeepsStep, OnlyReads}
use Rattle.run_report.proofs.CountLemmas.{exactly-stays}
use Rattle.listener_round.proofs.CountedLemmas.{counted-stays}
use Rattle.listener_round.proofs.FrontLemmas.{clients-mapped, comings-mapped}

-- ## A watch

after_watch-clients : (name : ConnName) (answer : Bool) (link : Option LinkTold) (t : FrontTold) → (after_watch name answer link t).clients ≡ t.clients
after_watch-clients name answer None t = refl
after_watch-clients name answer (Some l) t = refl

after_watch-comings : (name : ConnName) (answer : Bool) (link : Option LinkTold) (t : FrontTold) → (after_watch name answer link t).comings ≡ t.comings
after_watch-comings name answer None t = refl
after_watch-comings name answer (Some l) t = refl

after_watch-step : (name : ConnName) (answer : Bool) (link : Option LinkTold) (t : FrontTold) (s : State) → KeepsStep s t
    → KeepsStep s (after_watch name answer link t)
after_watch-step name answer None t s step = step
after_watch-step name answer (Some l) t s step =
    record { listens = step.listens; taken = record { accepted = step.taken.accepted; none = step.taken.none } }

-- after it the front is still the one that it was
pub follows-watch : (old new : FrontSeen) (name : ConnName) (answer : Bool) (link : Option LinkTold) → new ≡ front_after_watch name answer link old
    → Follows old new
follows-watch old new name answer link is = record {
  script = ap (λ (f : FrontSeen). f.script) is;
  clients =
      clients-mapped old.told new.told (after_watch name answer link) (after_watch-clients name answer link) (ap (λ (f : FrontSeen). f.told) is);
  comings =
      comings-mapped old.told new.told (after_watch name answer link) (after_watch-comings name answer link) (ap (λ (f : FrontSeen). f.told) is);
  faults = omega (arith, ap (λ (f : FrontSeen). f.counts.faults) is);
  ends = omega (arith, ap (λ (f : FrontSeen). f.counts.ends) is);
  commands = omega (arith, ap (λ (f : FrontSeen). f.counts.commands) is);
  stops = omega (arith, ap (λ (f : FrontSeen). f.counts.words.stop) is);
}

-- and the table in step with it
pub step-watch : (told told' : Option FrontTold) (name : ConnName) (answer : Bool) (link : Option LinkTold) (s : State)
    → told' ≡ option_map (after_watch name answer link) told → IsInStep told s → IsInStep told' s
step-watch None told' name answer link s is step = subst (λ (o : Option FrontTold). IsInStep o s) (sym is) tt
step-watch (Some t) told' name answer link s is step = subst (λ (o : Option FrontTold). IsInStep o s) (sym is) (after_watch-step name answer link t s step)

-- ## A link that is turned away

after_turning_away-clients : (link : Option LinkTold) (t : FrontTold) → (after_turning_away link t).clients ≡ t.clients
after_turning_away-clients None t = refl
after_turning_away-clients (Some l) t = refl

after_turning_away-comings : (link : Option LinkTold) (t : FrontTold) → (after_turning_away link t).comings ≡ t.comings
after_turning_away-comings None t = refl
after_turning_away-comings (Some l) t = refl

-- the front is still the one that it was
pub follows-turned : (old new : FrontSeen) (link : Option LinkTold) → new ≡ front_after_turning_away link old → Follows old new
follows-turned old new link is = record {
  script = ap (λ (f : FrontSeen). f.script) is;
  clients =
      clients-mapped old.told new.told (after_turning_away link) (after_turning_away-clients link) (ap (λ (f : FrontSeen). f.told) is);
  comings =
      comings-mapped old.told new.told (after_turning_away link) (after_turning_away-comings link) (ap (λ (f : FrontSeen). f.told) is);
  faults = omega (arith, ap (λ (f : FrontSeen). f.counts.faults) is);
  ends = omega (arith, ap (λ (f : FrontSeen). f.counts.ends) is);
  commands = omega (arith, ap (λ (f : FrontSeen). f.counts.commands) is);
  stops = omega (arith, ap (λ (f : FrontSeen). f.counts.words.stop) is);
}

-- ## The end of listening

-- the front is still the one that it was
pub follows-hushed : (old new : FrontSeen) → new ≡ after_hush old → Follows old new
follows-hushed old new is = record {
  script = ap (λ (f : FrontSeen). f.script) is;
  clients = clients-mapped old.told new.told hushed_front (λ t. refl) (ap (λ (f : FrontSeen). f.told) is);
  comings = comings-mapped old.told new.told hushed_front (λ t. refl) (ap (λ (f : FrontSeen). f.told) is);
  faults = omega (arith, ap (λ (f : FrontSeen). f.counts.faults) is);
  ends = omega (arith, ap (λ (f : FrontSeen). f.counts.ends) is);
  commands = omega (arith, ap (λ (f : FrontSeen). f.counts.commands) is);
  stops = omega (arith, ap (λ (f : FrontSeen). f.counts.words.stop) is);
}

-- ## Command lines

after_command-clients : (given : Bool) (t : FrontTold) → (after_command given t).clients ≡ t.clients
after_command-clients true t = refl
after_command-clients false t = refl

after_command-comings : (given : Bool) (t : FrontTold) → (after_command given t).comings ≡ t.comings
after_command-comings true t = refl
after_command-comings false t = refl

-- after a call for one the front is still the one that it was
pub follows-command : (old new : FrontSeen) (answer : Option (List ℕ)) → Commands old new answer → Follows old new
follows-command old new answer commands = record {
  script = commands.script;
  clients = clients-mapped old.told new.told (after_command (is_some answer)) (after_command-clients (is_some answer)) commands.told_is;
  comings = comings-mapped old.told new.told (after_command (is_some answer)) (after_command-comings (is_some answer)) commands.told_is;
  faults = omega (arith, commands.faults);
  ends = omega (arith, commands.ends);
  commands = exactly-stays (is_some answer) old.counts.commands new.counts.commands commands.commands;
  stops = counted-stays (says_word word.Stop answer) old.counts.words.stop new.counts.words.stop commands.words.stop;
}

after_command-only : (given : Bool) (t : FrontTold) → OnlyReads t (after_command given t)
after_command-only true t = record { rest = refl }
after_command-only false t = record { rest = refl }

-- and only read one
pub reads-command : (answer : Option (List ℕ)) (told told' : Option FrontTold) → told' ≡ option_map (after_command (is_some answer)) told
    → TellsOn OnlyReads told told'
reads-command answer None told' is = is
reads-command answer (Some t) told' is = (after_command (is_some answer) t, is, after_command-only (is_some answer) t)

pub reads-same : (told : Option FrontTold) → TellsOn OnlyReads told told
reads-same None = refl
reads-same (Some t) = (t, refl, record { rest = refl })

pub reads-trans : (a b c : Option FrontTold) → TellsOn OnlyReads a b → TellsOn OnlyReads b c → TellsOn OnlyReads a c
reads-trans None b c first second = subst (λ (o : Option FrontTold). TellsOn OnlyReads o c) first second
reads-trans (Some t) b c first second =
    let later = subst (λ (o : Option FrontTold). TellsOn OnlyReads o c) first.1 second in
    (later.0, later.1, record { rest = later.2.rest ∙ ap (λ (x : FrontTold). record x { read = later.0.read; answers = later.0.answers; hushed = later.0.hushed }) first.2.rest })
