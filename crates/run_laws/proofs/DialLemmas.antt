-- That an exit status tells of a dial, as a front does that tells its dials, and of a bind.
use Rattle.std.proofs.Common.{◌≡◌, ◌⊎◌, inl, inr, ℕ, ◌++◌, Bool, true, false, List, [], ◌∷◌, length, length-append, Option, None, Some, IsNone, IsSome, option_map, is_some, refl, sym, ap, subst, ◌∙◌, arith}
use Rattle.std.proofs.lemmas.Bool.{both_ways, cases_Bool}
use Rattle.mpm_base.specs.Count.{Rises}
use Rattle.mpm_base.specs.Front.{Binds, Dials, DialTold, FrontSeen, FrontTold, after_bind, after_dial}
use Rattle.mpm_base.specs.GivenAnswers.{says_refused}
use Rattle.mpm_base.specs.declared.addr.Addr.{Addr}
use Rattle.mpm_config.specs.Config.{Configuration}
use Rattle.command_words.specs.Invocations.{sends, serves}
use Rattle.run_report.specs.Written.{LeavesUnwritten}
use Rattle.server_run.specs.Ends.{HasDialled, LeavesFront}
use Rattle.run_laws.specs.Exact.{EndsWith, HasWritten, LacksIt}
use Rattle.run_laws.specs.Outcomes.{IsOutcome, SeenOutcome}
use Rattle.run_laws.proofs.FileLemmas.{written-whole}
use Rattle.run_laws.proofs.WayLemmas.{OneForm, SendWays, config_large, config_unfit, config_unread, ended-as, holds-of, restart_refused, send_unconfigured, sent, sent_unwritten, some-of, uncontrolled, undialled}

-- ## Dials that a front tells

-- the last one of two lists that are one
last-same : {X : Type 0} (xs : List X) (x y : X) → xs ++ x ∷ [] ≡ xs ++ y ∷ [] → x ≡ y
last-same [] x y same = cc same
last-same (z ∷ xs) x y same = let rest : xs ++ x ∷ [] ≡ xs ++ y ∷ [] = cc same in last-same xs x y rest

-- a list isn't longer than it is
never-more : {X : Type 0} (xs : List X) (x : X) → xs ≡ xs ++ x ∷ [] → ⊥
never-more xs x same = let lengths = ap length same in omega (arith, lengths, length-append xs (x ∷ []))

-- a front that tells is another one behind a dial
dialled-on : (f f' : FrontSeen) (t : FrontTold) (port : ℕ) (word : List ℕ) (answer : Bool) (text : List ℕ) → f.told ≡ Some t
    → Dials f f' port word answer text → f'.told ≡ f.told → ⊥
dialled-on f f' t port word answer text tells dials same =
    let is : Some t ≡ Some (after_dial port word answer text t) =
    sym tells ∙ sym same ∙ dials.told_is ∙ ap (option_map (after_dial port word answer text)) tells in
    let grown : t ≡ after_dial port word answer text t = cc is in
    never-more t.dialled (record { port = port; word = word; answer = answer; text = text }) (ap (λ (x : FrontTold). x.dialled) grown)

-- it tells the dial once
dialled-once : (f f' : FrontSeen) (t : FrontTold) (port port' : ℕ) (word word' : List ℕ) (answer answer' : Bool) (text text' : List ℕ) → f.told ≡ Some t
    → Dials f f' port word answer text → Dials f f' port' word' answer' text'
    → ◌≡◌ {A = DialTold} (record { port = port; word = word; answer = answer; text = text }) (record { port = port'; word = word'; answer = answer'; text = text' })
dialled-once f f' t port port' word word' answer answer' text text' tells dials dials' =
    let is : Some (after_dial port word answer text t) ≡ Some (after_dial port' word' answer' text' t) =
    ap (option_map (after_dial port word answer text)) (sym tells)
    ∙ sym dials.told_is
    ∙ dials'.told_is
    ∙ ap (option_map (after_dial port' word' answer' text')) tells in
    let grown : after_dial port word answer text t ≡ after_dial port' word' answer' text' t = cc is in
    last-same t.dialled _ _ (ap (λ (x : FrontTold). x.dialled) grown)

unbound-same : (told : Option FrontTold) (listen : Addr) (control : Option ℕ) → option_map (after_bind false listen control) told ≡ told
unbound-same None listen control = refl
unbound-same (Some t) listen control = refl

-- a bind that failed leaves what a front tells
still-told : (f f' : FrontSeen) (c : Configuration) → Binds f f' c.listen c.control false → f'.told ≡ f.told
still-told f f' c binds = binds.told_is ∙ unbound-same f.told c.listen c.control

-- the exit status of a command that was answered so
abbrev pub AnsweredBy : List ℕ → ℕ → Type 0
AnsweredBy text status = ((says_refused text ≡ true) × (status ≡ 12)) ⊎ ((says_refused text ≡ false) × ((status ≡ 0) ⊎ (status ≡ 5)))

-- what became of a front that tells, where it dialled, and what came back
module _ (one : OneForm) (o : SeenOutcome) (is : IsOutcome o) (answer : Bool) (text : List ℕ) (d : HasDialled o.call o.front o.front' answer text) (tells : IsSome o.front.told) where
  -- each other dial is that one
  same-dial : (answer' : Bool) (text' : List ℕ) → HasDialled o.call o.front o.front' answer' text' → (answer ≡ answer') × (text ≡ text')
  same-dial answer' text' d' =
      let t = some-of o.front.told tells in
      let dial = dialled-once o.front o.front' t.0 d.port d'.port _ _ answer answer' text text' t.1 d.dials d'.dials in
      (ap (λ (x : DialTold). x.answer) dial, ap (λ (x : DialTold). x.text) dial)

  -- no server ran
  no-server : is_some o.board ≡ true → ⊥
  no-server some =
      let b = some-of o.board some in
      let run = holds-of _ o.board b.0 b.1 is.leaves.server in
      let same = one o.call.words (sends d.word d.sends.name) (serves run.name) d.sends.command run.command in cc same

  left-front : LeavesFront o.call o.front o.front' o.status
  left-front = elim (cases_Bool (is_some o.board)) [ inl some ↦ absurd (no-server some) | inr none ↦ (is.leaves.unopened none).front ]

  -- so it was dialled as its exit status says
  dialled-ends : LeavesFront o.call o.front o.front' o.status
      → ((answer ≡ true) × AnsweredBy text o.status) ⊎ ((answer ≡ false) × ((o.status ≡ 4) ⊎ (o.status ≡ 6)))
  dialled-ends (inl same) =
      let t = some-of o.front.told tells in
      absurd (dialled-on o.front o.front' t.0 d.port _ answer text t.1 d.dials (ap (λ (f : FrontSeen). f.told) same))
  dialled-ends (inr (inl well)) =
      let dial = same-dial true well.text well.dialled in
      inl (dial.0, subst (λ (x : List ℕ). AnsweredBy x o.status) (sym dial.1) well.status_is)
  dialled-ends (inr (inr fails)) =
      let t = some-of o.front.told tells in
      elim fails.failed [
        | inl never ↦ absurd (dialled-on o.front o.front' t.0 d.port _ answer text t.1 d.dials (still-told o.front o.front' never.config never.binds))
        | inr dialled ↦ inr ((same-dial false [] dialled).0, fails.status_is)
      ]

  -- with exit status 0 what came back was written
  written-by : o.status ≡ 0 → SendWays o d.word d.sends.name → o.call.sink'.told ≡ option_map (λ written. written ++ text) o.call.sink.told
  written-by zero (send_unconfigured (config_unread three unread)) = absurd (omega (arith, zero, three))
  written-by zero (send_unconfigured (config_large one refused shows)) = absurd (omega (arith, zero, one))
  written-by zero (send_unconfigured (config_unfit one bytes number why has refused shows)) = absurd (omega (arith, zero, one))
  written-by zero (uncontrolled ten c accepted control shows) = absurd (omega (arith, zero, ten))
  written-by zero (sent _ c port accepted control shows ends) =
      let dial = same-dial true ends.text ends.answered.dialled in
      subst (λ (x : List ℕ). o.call.sink'.told ≡ option_map (λ written. written ++ x) o.call.sink.told) (sym dial.1) ends.written
  written-by zero (sent_unwritten five c port accepted control shows ends) = absurd (omega (arith, zero, five))
  written-by zero (restart_refused twelve c port accepted control shows ends) = absurd (omega (arith, zero, twelve))
  written-by zero (undialled four c port accepted control shows dials) = absurd (omega (arith, zero, four))

  -- and with 5 it wasn't written whole
  unwritten-by : o.status ≡ 5 → SendWays o d.word d.sends.name → LeavesUnwritten o.call.sink o.call.sink' text
  unwritten-by five (send_unconfigured (config_unread three unread)) = absurd (omega (arith, five, three))
  unwritten-by five (send_unconfigured (config_large one refused shows)) = absurd (omega (arith, five, one))
  unwritten-by five (send_unconfigured (config_unfit one bytes number why has refused shows)) = absurd (omega (arith, five, one))
  unwritten-by five (uncontrolled ten c accepted control shows) = absurd (omega (arith, five, ten))
  unwritten-by five (sent zero c port accepted control shows ends) = absurd (omega (arith, five, zero))
  unwritten-by five (sent_unwritten _ c port accepted control shows ends) =
      let dial = same-dial true ends.text ends.answered.dialled in
      subst (λ (x : List ℕ). LeavesUnwritten o.call.sink o.call.sink' x) (sym dial.1) ends.unwritten
  unwritten-by five (restart_refused twelve c port accepted control shows ends) = absurd (omega (arith, five, twelve))
  unwritten-by five (undialled four c port accepted control shows dials) = absurd (omega (arith, five, four))

  -- what came back says that a restart was refused
  refused-by : says_refused text ≡ true → AnsweredBy text o.status → o.status ≡ 12
  refused-by refused (inl by) = by.1
  refused-by refused (inr by) = absurd (both_ways (says_refused text) by.0 refused)

  -- or doesn't
  well-by : says_refused text ≡ false → AnsweredBy text o.status → (o.status ≡ 0) ⊎ (o.status ≡ 5)
  well-by well (inl by) = absurd (both_ways (says_refused text) well by.0)
  well-by well (inr by) = by.1

pub refused-ends : OneForm → (o : SeenOutcome) → IsOutcome o → (text : List ℕ) → HasDialled o.call o.front o.front' true text → IsSome o.front.told
    → says_refused text ≡ true → EndsWith o 12
refused-ends one o is text d tells refused =
    elim (dialled-ends one o is true text d tells (left-front one o is true text d tells)) [
      | inl well ↦ inl (refused-by one o is true text d tells refused well.1)
      | inr failed ↦ absurd (cc failed.0)
    ]

-- where it doesn't say so, by what was written
pub answered-ends : OneForm → (o : SeenOutcome) → IsOutcome o → (text : List ℕ) → HasDialled o.call o.front o.front' true text → IsSome o.front.told
    → says_refused text ≡ false
    → ((o.status ≡ 0) × (o.call.sink'.told ≡ option_map (λ written. written ++ text) o.call.sink.told))
    ⊎ ((o.status ≡ 5) × LeavesUnwritten o.call.sink o.call.sink' text)
    ⊎ (o.status ≡ 6)
answered-ends one o is text d tells well =
    elim (dialled-ends one o is true text d tells (left-front one o is true text d tells)) [
      | inr failed ↦ absurd (cc failed.0)
      | inl dialled ↦ elim (ended-as one o is (sends d.word d.sends.name) d.sends.command) [
        | inr six ↦ inr (inr six)
        | inl way ↦ elim (well-by one o is true text d tells well dialled.1) [
          | inl zero ↦ inl (zero, written-by one o is true text d tells zero way)
          | inr five ↦ inr (inl (five, unwritten-by one o is true text d tells five way))
        ]
      ]
    ]

pub sent-well : OneForm → (o : SeenOutcome) → IsOutcome o → (text : List ℕ) → HasDialled o.call o.front o.front' true text → IsSome o.front.told
    → says_refused text ≡ false → HasWritten o.call.sink o.call.sink' text → EndsWith o 0
sent-well one o is text d tells well written =
    elim (answered-ends one o is text d tells well) [
      | inl zero ↦ inl zero.0
      | inr other ↦ elim other [ inl five ↦ absurd (written-whole o.call.sink o.call.sink' text written five.1) | inr six ↦ inr six ]
    ]

pub unanswered-ends : OneForm → (o : SeenOutcome) → IsOutcome o → (text : List ℕ) → HasDialled o.call o.front o.front' true text → IsSome o.front.told
    → says_refused text ≡ false → LacksIt o.call.sink o.call.sink' text → EndsWith o 5
unanswered-ends one o is text d tells well lacks =
    elim (answered-ends one o is text d tells well) [
      | inl zero ↦ absurd (lacks zero.1)
      | inr other ↦ elim other [ inl five ↦ inl five.0 | inr six ↦ inr six ]
    ]

pub undialled-fails : OneForm → (o : SeenOutcome) → IsOutcome o → (text : List ℕ) → HasDialled o.call o.front o.front' false text → IsSome o.front.told
    → EndsWith o 4
undialled-fails one o is text d tells =
    elim (dialled-ends one o is false text d tells (left-front one o is false text d tells)) [ inl well ↦ absurd (cc well.0) | inr failed ↦ failed.1 ]

-- where none opened a bind or a dial failed
pub unopened-fails : (o : SeenOutcome) → IsOutcome o → IsNone o.board → o.status ≡ 4 → Rises o.front.counts.faults o.front'.counts.faults
unopened-fails o is none four =
    elim (is.causes.front_failed four) [
      | inl some ↦ absurd (both_ways (is_some o.board) none some)
      | inr other ↦ elim other [ inl never ↦ never.unbound.binds.faults | inr other ↦ other.dialled.dials.faults ]
    ]
