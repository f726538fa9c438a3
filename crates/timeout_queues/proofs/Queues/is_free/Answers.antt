use Rattle.std.proofs.Common.{refl}
use Rattle.std.proofs.lemmas.Bool.{false≢true}
use Rattle.timeout_queues.proofs.KeptLemmas.{free_here, free_none, past_not_free}
use Rattle.timeout_queues.proofs.Queues.is_free.Goals as goal

pub returns-in-Some-None : goal.returns-in-Some-None
returns-in-Some-None c = (
  λ _. rw (← c.self.view_is)
      (free_here c.self.inside.slots.items c.deref.result.now c.args.slot c.in-Some-None.field-0.now c.deref.ensures.value
      c.in-Some-None.ensures.lookup.3.0 c.in-Some-None.ensures.lookup.1 c.in-Some-None.field-0-is),
  λ _. refl,
)

pub returns-in_default : goal.returns-in_default
returns-in_default c =
    let look = rw c.in_default.is at c.get.ensures.lookup in (
      λ no. absurd (false≢true no),
      λ free.
          let none = free_none c.self.inside.slots.items c.deref.result.now c.args.slot c.in_default.field-0.now c.deref.ensures.value look.3.0 look.1
          (rw (← c.self.view_is) at free) in absurd (cc),
    )

pub returns-in_default-2 : goal.returns-in_default-2
returns-in_default-2 c =
    let look = rw c.in_default.is at c.get.ensures.lookup in (
      λ no. absurd (false≢true no),
      λ free.
          absurd (past_not_free c.self.inside.slots.items c.deref.result.now c.args.slot c.deref.ensures.value look.3 (rw (← c.self.view_is) at free)),
    )
