-- The calls of the front to which nothing comes.
use Rattle.std.proofs.Common.{◌≡◌, ℕ, Bool, false, List, [], Option, refl, arith}
use Rattle.mpm_base.specs.Count.{Rises}
use Rattle.mpm_base.specs.Front.{Binds, Dials, Waits}
use Rattle.mpm_base.specs.declared.addr.Addr.{Addr}
use Rattle.mpm_base.specs.declared.front.Woke.TheVariants as woke
use Rattle.mpm_base.specs.declared.given_answers.GivenAnswers.{GivenAnswers}
use Rattle.run_tests.specs.ShutFrontInside.{shut_front_seen}

-- a bind that fails
pub fails-to-bind : (n m : ℕ) (given given' : GivenAnswers) (listen : Addr) (control : Option ℕ) → Rises n m → given' ≡ given
    → Binds (shut_front_seen n given) (shut_front_seen m given') listen control false
fails-to-bind n m given given' listen control rises same =
    rw same (record { script = refl; told_is = refl; faults = rises; accept_faults = refl; ends = refl; wakes = refl; commands = refl; words = refl; answers_stay = refl; handed = refl })

-- a dial that fails
pub fails-to-dial : (n m port : ℕ) (given given' : GivenAnswers) (word answer : List ℕ) → Rises n m → given' ≡ given → answer ≡ []
    → Dials (shut_front_seen n given) (shut_front_seen m given') port word false answer
fails-to-dial n m port given given' word answer rises same none =
    rw (none, same) (record { script = refl; told_is = refl; few = omega arith; none = λ _. refl; faults = rises; accept_faults = refl; ends = refl; wakes = refl; commands = refl; words = refl; answers_stay = refl; handed = refl })

-- a wait that fails
pub fails-to-wait : (n m : ℕ) (given given' : GivenAnswers) (until : Option ℕ) (quiet : Bool) (ready : List ℕ) → Rises n m → given' ≡ given
    → ready ≡ [] → Waits (shut_front_seen n given) (shut_front_seen m given') until quiet woke.Failed ready
fails-to-wait n m given given' until quiet ready rises same none = rw (none, same) (record {
  script = refl;
  tells = refl;
  over = λ _. record { none = refl; still = refl };
  awake = refl;
  few = omega arith;
  faults = rises;
  accept_faults = refl;
  ends = refl;
  wakes = refl;
  commands = refl;
  words = refl;
  answers_stay = refl;
  handed = refl;
})
