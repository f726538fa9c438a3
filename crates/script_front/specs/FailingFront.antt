-- A front that plays a script, and some of whose waits, accepts and watches fail: what contracts see of it, and what such a call leaves of
-- it.
use Rattle.std.specs.Prelude.{◌≡◌, ℕ, Bool, true, false, List, [], ◌∷◌, ◌++◌, Option, None, Some}
use Rattle.mpm_base.specs.Count.{next_count}
use Rattle.mpm_base.specs.Front.{FrontSeen, progress_of}
use Rattle.stand_ins.specs.Calls.{next_is_listed}
use Rattle.script_front.specs.ScriptFront.{Plays, SeenFront, new_front, woken_waits}
use Rattle.mpm_base.specs.declared.conn.ConnName.{ConnName}
use Rattle.mpm_base.specs.declared.front.Woke.{Woke}
use Rattle.mpm_base.specs.declared.front.Woke.TheVariants as woke
use Rattle.mpm_base.specs.declared.script_line.ScriptLine.{ScriptLine}

-- the front without its failures, the numbers, from 1, of the waits, of the accepts and of the watches that are to fail, how many of each
-- were made, whatever they answered, and how many waits and accepts failed
pub record SeenFailingFront : Type 0 where
  pub front : SeenFront
  pub fail_waits : List ℕ
  pub fail_accepts : List ℕ
  pub fail_watches : List ℕ
  pub waits : ℕ
  pub accepts : ℕ
  pub watches : ℕ
  pub faults : ℕ
  pub accept_faults : ℕ

-- it as each front is seen: as the front without its failures, but for the counts of these
abbrev pub failing_front_seen : SeenFailingFront → FrontSeen
failing_front_seen f =
    record {
      script = Some f.front.script;
      told = Some f.front.told;
      counts = record {
        faults = f.faults;
        accept_faults = f.accept_faults;
        ends = f.front.ends;
        wakes = woken_waits f.front.told.waits;
        commands = f.front.told.read;
        words = f.front.words;
        answers = f.front.answers;
        handed = f.front.told.accepted;
      };
    }

-- no line has happened, and no call was made
abbrev pub new_failing_front : List ScriptLine → List ℕ → List ℕ → List ℕ → SeenFailingFront
new_failing_front lines listed_waits listed_accepts listed_watches =
    record {
      front = new_front lines;
      fail_waits = listed_waits;
      fail_accepts = listed_accepts;
      fail_watches = listed_watches;
      waits = 0;
      accepts = 0;
      watches = 0;
      faults = 0;
      accept_faults = 0;
    }

-- the next wait is to fail
abbrev pub next_wait_fails : SeenFailingFront → Bool
next_wait_fails f = next_is_listed f.fail_waits f.waits

-- the next accept is to fail
abbrev pub next_accept_fails : SeenFailingFront → Bool
next_accept_fails f = next_is_listed f.fail_accepts f.accepts

-- the next watch is to fail
abbrev pub next_watch_fails : SeenFailingFront → Bool
next_watch_fails f = next_is_listed f.fail_watches f.watches

-- a watch of the link of that number under that name was told, which answered this; nothing else happened
abbrev pub told_watch : ConnName → ℕ → Bool → SeenFront → SeenFront
told_watch name number answer f =
    record f {
      told = record f.told {
        watches = f.told.watches ++ record { rank = number; name = name; answer = answer } ∷ [];
      };
    }

-- a watch of it failed
abbrev pub after_failed_watch : ConnName → ℕ → SeenFront → SeenFront
after_failed_watch name number f = told_watch name number false f

-- a wait that failed was told, and an accept that failed before it is forgotten; nothing else happened
abbrev pub after_failed_wait : Option ℕ → Bool → SeenFront → SeenFront
after_failed_wait until quiet f =
    record f {
      told = record f.told {
        failed = false;
        waits =
            f.told.waits
            ++ record { began = progress_of f.told; until = until; quiet = quiet; slots = []; answer = woke.Failed; passed = None } ∷ [];
      };
    }

-- a wait fails exactly where its number is listed, and is else one of the front without its failures
pub data PlaysUnlessListed (old new : SeenFailingFront) (until : Option ℕ) (quiet : Bool) : Woke → List ℕ → Type 0 where
  -- it fails, whatever else it would have done
  fails : next_wait_fails old ≡ true
      → new ≡ record old { front = after_failed_wait until quiet old.front; waits = next_count old.waits; faults = next_count old.faults }
      → PlaysUnlessListed old new until quiet woke.Failed []
  -- it plays
  unlisted : {answer : Woke} {ready : List ℕ} → next_wait_fails old ≡ false → Plays old.front new.front until quiet answer ready
      → new ≡ record old { front = new.front; waits = next_count old.waits } → PlaysUnlessListed old new until quiet answer ready
