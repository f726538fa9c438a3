-- What a wait did, from what its front is then.
use Rattle.std.proofs.Common.{◌≡◌, ◌==◌, ℕ, ◌<◌, ◌⊎◌, inl, inr, Bool, true, false, not, ◌&&◌, max, List, [], ◌∷◌, length, take, Option, None, Some, refl, arith}
use Rattle.std.proofs.lemmas.Bool.Decides.{nat_tests}
use Rattle.mpm_base.specs.Front.{HasAllTaken, earlier}
use Rattle.script_front.specs.PlayedFrontInside.{gone_to, with_begun, with_clients, with_end, with_lines}
use Rattle.script_front.specs.ScriptFront.{IsUnderWay, MayPass, Moves, Plays, SeenFront, begins, ends, lines_by, lines_now, next_moment, over, passes, recovers, served, signals, stays, all_taken_closed, to_come}
use Rattle.script_front.specs.Signals.{Gives, SeenClient, all_closed}
use Rattle.mpm_base.specs.declared.front.Woke.TheVariants as woke

-- no slot was given, or some was
pub none-of : (slots : List ℕ) → true ≡ (length slots == 0) → slots ≡ []
none-of [] e = refl
none-of (slot ∷ slots) e = absurd (grind (arith, nat_tests))

pub some-of : (slots : List ℕ) → false ≡ (length slots == 0) → 0 < length slots
some-of slots e = grind (arith, nat_tests)

-- time may pass, or it may not for one of these
pub may-pass : (f : SeenFront) (quiet : Bool) → (quiet && not f.told.failed) ≡ true → MayPass f quiet
may-pass f quiet e = by quiet f.told.failed e refl refl
  where
    by : (b failed : Bool) → (b && not failed) ≡ true → quiet ≡ b → f.told.failed ≡ failed → MayPass f quiet
    by true true e is lost = absurd (cc)
    by true false e is lost = record { idle = is; steady = lost }
    by false failed e is lost = absurd (cc)

pub may-not : (quiet failed : Bool) → (quiet && not failed) ≡ false → (quiet ≡ false) ⊎ (failed ≡ true)
may-not true true e = inr refl
may-not true false e = absurd (cc)
may-not false failed e = inl refl

moves-over : (old new : SeenFront) → new ≡ with_end old → old.begun ≡ true → Moves old new 0 old.told.moment
moves-over old new is begun = rw is (record { script = refl; begun = begun; happened = omega arith; moment_is = refl })

moves-lines : (old new : SeenFront) (count : ℕ) → new ≡ with_begun (with_lines count old) → Moves old new count old.told.moment
moves-lines old new count is = rw is (record { script = refl; begun = refl; happened = refl; moment_is = refl })

module _ (old new : SeenFront) (still : List SeenClient) where
  moves-still : new ≡ with_clients still (with_begun old) → Moves old new 0 old.told.moment
  moves-still is = rw is (record { script = refl; begun = refl; happened = omega arith; moment_is = refl })

  moves-end : new ≡ with_end (with_clients still (with_begun old)) → Moves old new 0 old.told.moment
  moves-end is = rw is (record { script = refl; begun = refl; happened = omega arith; moment_is = refl })

  moves-gone : (to : ℕ) → new ≡ gone_to to (with_clients still (with_begun old)) → Moves old new (lines_by to (to_come old)) to
  moves-gone to is = rw is (record { script = refl; begun = refl; happened = refl; moment_is = refl })

module _ (old new : SeenFront) (until : Option ℕ) (quiet : Bool) (ready : List ℕ) where
  pub plays-over : new ≡ with_end old → ready ≡ [] → old.begun ≡ true → 0 < old.ends → Plays old new until quiet woke.Ended ready
  plays-over is none begun ended = rw none (over ended (moves-over old new is begun) (rw is refl))

  pub plays-begins : (m : ℕ) → new ≡ with_begun (with_lines (lines_now (to_come old)) old) → ready ≡ [] → m ≡ old.told.moment → old.ends ≡ 0 → old.begun ≡ false
      → 0 < lines_now (to_come old) → Plays old new until quiet (woke.Woke m) ready
  plays-begins m is none stands lasts first some =
      rw (none, stands) (begins lasts first some (moves-lines old new (lines_now (to_come old)) is) (rw is refl))

  module _ (still : List SeenClient) (goes : IsUnderWay old) (gives : Gives 256 old.clients old.names still ready) where
    gives-new : new ≡ with_clients still (with_begun old) → Gives 256 old.clients old.names new.clients ready
    gives-new is = rw is gives

    pub plays-signals : (m : ℕ) → new ≡ with_clients still (with_begun old) → m ≡ old.told.moment → ((quiet ≡ false) ⊎ (old.told.failed ≡ true)) ⊎ (0 < length ready)
        → Plays old new until quiet (woke.Woke m) ready
    plays-signals m is stands why = rw stands (go ready (gives-new is) why)
      where
        go : (slots : List ℕ) → Gives 256 old.clients old.names new.clients slots → ((quiet ≡ false) ⊎ (old.told.failed ≡ true)) ⊎ (0 < length slots)
            → Plays old new until quiet (woke.Woke old.told.moment) slots
        go [] g (inl (inl busy)) = served goes g busy (moves-still old new still is)
        go [] g (inl (inr lost)) = recovers goes g lost (moves-still old new still is)
        go [] g (inr some) = absurd (omega arith)
        go (slot ∷ slots) g why = signals goes g (omega arith) (moves-still old new still is)

    pub plays-passes : (next m : ℕ) → new ≡ gone_to (max old.told.moment next) (with_clients still (with_begun old)) → ready ≡ [] → m ≡ max old.told.moment next → MayPass old quiet
        → earlier until (next_moment (to_come old)) ≡ Some next → Plays old new until quiet (woke.Woke m) ready
    plays-passes next m is none stands idle comes =
        rw (none, stands) (passes goes (rw none at gives) idle comes refl (moves-gone old new still (max old.told.moment next) is) (rw is refl))

    pub plays-ends : new ≡ with_end (with_clients still (with_begun old)) → ready ≡ [] → MayPass old quiet → earlier until (next_moment (to_come old)) ≡ None → HasAllTaken old.told
        → all_closed (take old.told.accepted still) ≡ true → Plays old new until quiet woke.Ended ready
    plays-ends is none idle comes taken closed =
        rw none (ends goes (rw is (rw none at gives)) idle comes (rw is taken) (rw is closed) (moves-end old new still is))

    pub plays-stays : (m : ℕ) → new ≡ with_clients still (with_begun old) → ready ≡ [] → m ≡ old.told.moment → MayPass old quiet → earlier until (next_moment (to_come old)) ≡ None
        → (HasAllTaken new.told → all_taken_closed new ≡ false) → Plays old new until quiet (woke.Woke m) ready
    plays-stays m is none stands idle comes some = rw (none, stands) (stays goes (rw none at gives-new is) idle comes some (moves-still old new still is))
