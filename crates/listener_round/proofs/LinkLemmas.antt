-- What became of a link that the front handed out, and of one that the table refused.
use Rattle.std.proofs.Common.{◌≡◌, ◌⊎◌, inl, inr, ◌++◌, ◌∷◌, [], List, Option, None, Some, option_map, IfSome, sym, ap, subst, ◌∙◌}
use Rattle.mpm_base.specs.Count.{next_count}
use Rattle.mpm_base.specs.Front.{FrontTold, IsHandedOut, IsNext, after_accept, after_turning_away, client_at}
use Rattle.mpm_base.specs.Link.{LinkTold, after_close, fresh_link}
use Rattle.mpm_base.specs.declared.front.Arrival.TheVariants as arrival
use Rattle.conn_machine.specs.declared.state.State.{State}
use Rattle.listener_round.specs.Links.{HandsOutTaken, TurnsOneAway}
use Rattle.listener_round.specs.FrontInside.{HandsOut, IsInStep, KeepsStep}
use Rattle.listener_round.specs.RoundInside.{EndsTaking}
use Rattle.listener_round.proofs.FrontLemmas.{step-taken}

-- ## While the server goes on

-- where the table is in step with the front it took each link
step-links : (told : Option FrontTold) (s : State) → IsInStep told s → IfSome told (λ t. HandsOutTaken s t ⊎ TurnsOneAway s t)
step-links None s step = tt
step-links (Some t) s step = inl step.taken

pub hands-step : (told : Option FrontTold) (s : State) → IsInStep told s → HandsOut told s
hands-step told s step = step-links told s step

-- ## A link that the table refuses

-- the link that was handed out was turned away
turned-next : (t : FrontTold) (l : LinkTold) (s s' : State) → KeepsStep s t → IsNext t l → s'.accepted ≡ s.accepted
    → TurnsOneAway s' (after_turning_away (Some l) (record t { accepted = next_count t.accepted }))
turned-next t l s s' step next same =
    let count : t.accepted ≡ s'.accepted = step.taken.accepted ∙ sym same in
    record {
      accepted = ap next_count count;
      one =
          ap (λ (links : List LinkTold). links ++ after_close l ∷ []) step.taken.none
          ∙ ap (λ (x : LinkTold). after_close x ∷ []) next.fresh
          ∙ ap (λ (n : _). after_close (fresh_link n (client_at t.clients n)) ∷ []) count;
    }

-- the same of a front that tells, whose link tells
turned-away : {L : Type 0} (link : L) (l : LinkTold) (told told' told'' : Option FrontTold) (s s' : State) → IsHandedOut told (Some l) → IsInStep told s
    → told' ≡ option_map (after_accept (arrival.Some link)) told → s'.accepted ≡ s.accepted → told'' ≡ option_map (after_turning_away (Some l)) told'
    → IfSome told'' (λ t. HandsOutTaken s' t ⊎ TurnsOneAway s' t)
turned-away link l None told' told'' s s' handed step is same turned = let at = handed.1 in absurd (cc at)
turned-away link l (Some t) told' told'' s s' handed step is same turned =
    let at = handed.1 in
    let there : t ≡ handed.0 = cc at in
    let next : IsNext t l = subst (λ (x : FrontTold). IsNext x l) (sym there) handed.2 in
    subst (λ (o : Option FrontTold). IfSome o (λ u. HandsOutTaken s' u ⊎ TurnsOneAway s' u))
    (sym (turned ∙ ap (option_map (after_turning_away (Some l))) is)) (inr (turned-next t l s s' step next same))

-- the same of any front
turned-handed : {L : Type 0} (link : L) (told told' told'' : Option FrontTold) (l : Option LinkTold) (s s' : State) → IsHandedOut told l → IsInStep told s
    → told' ≡ option_map (after_accept (arrival.Some link)) told → s'.accepted ≡ s.accepted → told'' ≡ option_map (after_turning_away l) told'
    → HandsOut told'' s'
turned-handed link told told' told'' None s s' handed step is same turned =
    let none = handed in
    let gone : told' ≡ None = is ∙ ap (option_map (after_accept (arrival.Some link))) none in
    subst (λ (o : Option FrontTold). HandsOut o s') (sym (turned ∙ ap (option_map (after_turning_away None)) gone)) tt
turned-handed link told told' told'' (Some l) s s' handed step is same turned = turned-away link l told told' told'' s s' handed step is same turned

-- a connection was taken and given up, or its link was turned away
pub hands-ended : {L : Type 0} (link : L) (l : Option LinkTold) (told told' told'' : Option FrontTold) (s a b : State) → IsHandedOut told l → IsInStep told s
    → told' ≡ option_map (after_accept (arrival.Some link)) told → a.accepted ≡ s.accepted → b.going ≡ s.going → EndsTaking l told' told'' a b
    → HandsOut told'' b
hands-ended link l told told' told'' s a b handed step is same going (inl taken) =
    hands-step told'' b (taken.step (step-taken link told told' s b is (taken.accepted ∙ ap next_count same) going step))
hands-ended link l told told' told'' s a b handed step is same going (inr refused) =
    turned-handed link told told' told'' l s b handed step is (refused.accepted ∙ same) refused.told_is
