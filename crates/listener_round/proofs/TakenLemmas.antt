-- What a front tells of a connection that the table took, or refused.
use Rattle.std.proofs.Common.{◌≡◌, ◌⊎◌, inl, inr, option_map, IfSome, true, Option, None, Some, refl, sym, ap, subst, ◌∙◌}
use Rattle.mpm_base.specs.Front.{FrontTold, FrontSeen, HasNoneToTake, Hands, Accepts, after_accept}
use Rattle.mpm_base.specs.Link.{LinkSeen}
use Rattle.mpm_base.specs.declared.front.Arrival.{Arrival}
use Rattle.mpm_base.specs.declared.front.Arrival.TheVariants as arrival
use Rattle.conn_machine.specs.declared.state.State.{State}
use Rattle.listener_round.specs.FrontInside.{TookAll}

-- ## No further one is taken

-- an accept that hands nothing out leaves what the front tells
tells-kept : (told told' : Option FrontTold) → told' ≡ option_map (λ (t : FrontTold). t) told → IfSome told HasNoneToTake → IfSome told' HasNoneToTake
tells-kept None told' is none = subst (λ (o : Option FrontTold). IfSome o HasNoneToTake) (sym is) tt
tells-kept (Some t) told' is none = subst (λ (o : Option FrontTold). IfSome o HasNoneToTake) (sym is) none

-- one that failed says so
tells-failed : (told told' : Option FrontTold) → told' ≡ option_map (λ (t : FrontTold). record t { failed = true }) told → IfSome told' (λ t. t.failed ≡ true)
tells-failed None told' is = subst (λ (o : Option FrontTold). IfSome o (λ t. t.failed ≡ true)) (sym is) tt
tells-failed (Some t) told' is = subst (λ (o : Option FrontTold). IfSome o (λ t. t.failed ≡ true)) (sym is) refl

-- where none was handed out no further one is taken
pub took-none : {L : Type 0} (link_seen : L → LinkSeen) (old new : FrontSeen) (answer : Arrival L) (s : State)
    → (answer ≡ arrival.None) ⊎ (answer ≡ arrival.Failed) → Accepts link_seen old new answer → TookAll new.told s
took-none link_seen old new answer s (inl none) accepts =
    inr (inl (tells-kept old.told new.told (accepts.told_is ∙ ap (λ (a : Arrival _). option_map (after_accept a) old.told) none)
    (subst (Hands link_seen old.told) none accepts.hands)))
took-none link_seen old new answer s (inr failed) accepts =
    inr (inr (tells-failed old.told new.told (accepts.told_is ∙ ap (λ (a : Arrival _). option_map (after_accept a) old.told) failed)))
