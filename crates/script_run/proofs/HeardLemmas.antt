-- What the command lines of a run were answered is the same of an opening that differs in the counts of its store, and in its front.
use Rattle.std.proofs.Common.{◌≡◌, ℕ, List, [], ◌∷◌, Option, None, Some, IfSome, sym, subst}
use Rattle.std.proofs.lemmas.Option.{IfSome_then}
use Rattle.mpm_base.specs.Front.{FrontCounts, FrontSeen}
use Rattle.mpm_base.specs.Store.{StoreSeen, StoreTold}
use Rattle.conn_machine.specs.declared.event.Entry.{Entry}
use Rattle.conn_machine.specs.declared.event.Event.{Event}
use Rattle.conn_machine.specs.declared.event.Refusal.{Refusal}
use Rattle.conn_machine.specs.declared.event.Refusal.TheVariants as refusal
use Rattle.conn_machine.specs.declared.state.Going.{Going}
use Rattle.conn_machine.specs.declared.state.State.{State}
use Rattle.listener_round.specs.Generations.{Opening, renewed}
use Rattle.listener_round.specs.Heard.{AreAnswered, AreCounted, Heard, KeepsLines, orders_behind}
use Rattle.listener_round.specs.LineAnswers.{IsAnswerTo, IsRefusalAnswer, RefusesConf, RefusesSite, next_event, state_behind}
use Rattle.listener_round.specs.LineAnswers.IsAnswerTo.{restarted, refused, ends, ends_already, stops, told, unknown}
use Rattle.listener_round.specs.Pace.{Share}
use Rattle.listener.proofs.ServedLemmas.{reopened}

-- the reason of a restart that was refused
reason-reopened : (o : Opening) (store : StoreSeen) (front : FrontSeen) (edition : ℕ) (reason : Refusal) (answer : List ℕ) → store.told ≡ o.store.told
    → IsRefusalAnswer o edition reason answer → IsRefusalAnswer (reopened o store front) edition reason answer
reason-reopened o store front edition refusal.Late answer same is = is
reason-reopened o store front edition refusal.Absent answer same is = is
reason-reopened o store front edition refusal.Conf answer same is = record {
  why = is.why;
  number = is.number;
  says = is.says;
  refused =
      subst (λ (told : Option StoreTold). IfSome told (λ (t : StoreTold). RefusesConf (reopened o store front) (renewed edition t) is.why is.number)) (sym same)
      (IfSome_then o.store.told is.refused (λ t none. record { text = none.text; found = none.found; refused = none.refused }));
}
reason-reopened o store front edition refusal.Site answer same is = record {
  name = is.name;
  says = is.says;
  refused =
      subst (λ (told : Option StoreTold). IfSome told (λ (t : StoreTold). RefusesSite (reopened o store front) (renewed edition t) is.name)) (sym same)
      (IfSome_then o.store.told is.refused (λ t none. record { config = none.config; accepted = none.accepted; refused = none.refused }));
}
reason-reopened o store front edition refusal.Store answer same is = is
reason-reopened o store front edition refusal.NoMemory answer same is = is

-- what a line was answered
answer-reopened : (o : Opening) (store : StoreSeen) (front : FrontSeen) (orders : ℕ) (s : State) (next : Option Event) (line answer : List ℕ)
    → store.told ≡ o.store.told → IsAnswerTo o orders s next line answer → IsAnswerTo (reopened o store front) orders s next line answer
answer-reopened o store front orders s next line answer same (restarted at) = restarted at
answer-reopened o store front orders s next line answer same (refused at says) = refused at (reason-reopened o store front _ _ _ same says)
answer-reopened o store front orders s next line answer same (ends serves at) = ends serves at
answer-reopened o store front orders s next line answer same (ends_already off) = ends_already off
answer-reopened o store front orders s next line answer same (stops at) = stops at
answer-reopened o store front orders s next line answer same told = told
answer-reopened o store front orders s next line answer same (unknown other) = unknown other

-- where it was answered
if-reopened : (o : Opening) (store : StoreSeen) (front : FrontSeen) (orders : ℕ) (s : State) (next : Option Event) (line : List ℕ)
    (answer : Option (List ℕ)) → store.told ≡ o.store.told → IfSome answer (IsAnswerTo o orders s next line)
    → IfSome answer (IsAnswerTo (reopened o store front) orders s next line)
if-reopened o store front orders s next line None same is = tt
if-reopened o store front orders s next line (Some text) same is = answer-reopened o store front orders s next line text same is

-- so it is of each line
pub answered-reopened : (o : Opening) (store : StoreSeen) (front : FrontSeen) (first : State) (history : List Entry) (orders from : ℕ) (heard : List Heard)
    → store.told ≡ o.store.told → AreAnswered o first history orders from heard
    → AreAnswered (reopened o store front) first history orders from heard
answered-reopened o store front first history orders from [] same answered = tt
answered-reopened o store front first history orders from (h ∷ heard) same answered = (
  answered.0,
  answered.1,
  answered.2,
  if-reopened o store front orders (state_behind first history h.made) (next_event history h.made) h.line h.answer same answered.3,
  answered-reopened o store front first history (orders_behind orders h.line) h.made heard same answered.4,
)

-- so it is of a run, where the fronts had counted the same
abbrev pub lines-reopened : (o : Opening) (store : StoreSeen) (front : FrontSeen) (first : State) (moves : ℕ) (shares : List Share) (f' : FrontSeen)
    (going : Going) (history : List Entry) → store.told ≡ o.store.told → front.counts ≡ o.front.counts
    → KeepsLines o first moves shares o.front f' going history → KeepsLines (reopened o store front) first moves shares front f' going history
lines-reopened o store front first moves shares f' going history same counts lines = record {
  heard = lines.heard;
  answered = answered-reopened o store front first history 0 0 lines.heard same lines.answered;
  each = lines.each;
  told = lines.told;
  placed = lines.placed;
  counted = subst (λ (old : FrontCounts). AreCounted lines.heard old f'.counts) (sym counts) lines.counted;
}
