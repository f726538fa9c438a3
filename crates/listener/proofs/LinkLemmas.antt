-- What became of the links that the front handed out.
use Rattle.std.proofs.Common.{◌≡◌, ◌⊎◌, inl, inr, ◌∷◌, [], Option, None, Some, option_map, IfSome, OnErr, OnOk, Result, Ok, Err, refl, sym, ap, subst, ◌∙◌}
use Rattle.mpm_base.specs.Count.{next_count}
use Rattle.mpm_base.specs.Front.{FrontTold, client_at, hushed_front}
use Rattle.mpm_base.specs.Link.{after_close, fresh_link}
use Rattle.conn_machine.specs.declared.state.State.{State}
use Rattle.board_book.specs.declared.faults.BoardFault.{BoardFault}
use Rattle.rounds.specs.declared.ends.End.{End}
use Rattle.listener_round.specs.Links.{HandsOutTaken, TakesLinks, TurnsOneAway}
use Rattle.rounds.specs.EndsInside.{HaltsAs}
use Rattle.listener.specs.ListenInside.{HandedOut}
use Rattle.listener_round.specs.FrontInside.{HandsOut, IsInStep}
use Rattle.board_book.specs.ClosedDown.{IsBrokenOff}

-- ## Where nothing was taken

-- it stays so
still-handed : (t t' : FrontTold) (s s' : State) → t'.accepted ≡ t.accepted → t'.turned_away ≡ t.turned_away → t'.clients ≡ t.clients
    → s'.accepted ≡ s.accepted → HandsOutTaken s t ⊎ TurnsOneAway s t → HandsOutTaken s' t' ⊎ TurnsOneAway s' t'
still-handed t t' s s' accepted turned clients same (inl taken) =
    inl (record { accepted = accepted ∙ taken.accepted ∙ sym same; none = turned ∙ taken.none })
still-handed t t' s s' accepted turned clients same (inr one) =
    inr (record {
      accepted = accepted ∙ one.accepted ∙ ap next_count (sym same);
      one =
          turned ∙ one.one
          ∙ ap (λ (n : _). after_close (fresh_link n (client_at t.clients n)) ∷ []) (sym same)
          ∙ ap (λ (cs : _). after_close (fresh_link s'.accepted (client_at cs s'.accepted)) ∷ []) (sym clients);
    })

-- ## The end

-- a link was turned away only where the server was broken off
takes-links : (t : FrontTold) (s : State) → HandsOutTaken s t ⊎ TurnsOneAway s t → IsBrokenOff s.going → TakesLinks s t
takes-links t s (inl taken) stopped = inl taken
takes-links t s (inr one) stopped = inr (stopped, one)

handed-down : (turns : Result End BoardFault) (told : Option FrontTold) (s s' : State) → HaltsAs turns s.going s'.going → s'.accepted ≡ s.accepted
    → OnOk turns (IsInStep told s) → OnErr turns (IfSome told (λ t. HandsOutTaken s t ⊎ TurnsOneAway s t))
    → IfSome (option_map hushed_front told) (TakesLinks s')
handed-down turns None s s' halts same step links = tt
handed-down (Ok end) (Some t) s s' halts same step links =
    inl (record { accepted = step.taken.accepted ∙ sym same; none = step.taken.none })
handed-down (Err fault) (Some t) s s' halts same step links =
    takes-links (hushed_front t) s' (still-handed t (hushed_front t) s s' refl refl refl same links) halts

-- what became of the links once the server has stopped
pub handed-out : (turns : Result End BoardFault) (told told' : Option FrontTold) (s s' : State) → HaltsAs turns s.going s'.going → s'.accepted ≡ s.accepted
    → told' ≡ option_map hushed_front told → OnOk turns (IsInStep told s) → OnErr turns (HandsOut told s) → HandedOut told' s'
handed-out turns told told' s s' halts same is step links =
    subst (λ (o : Option FrontTold). IfSome o (TakesLinks s')) (sym is) (handed-down turns told s s' halts same step links)
