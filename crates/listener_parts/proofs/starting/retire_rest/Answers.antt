use Rattle.std.proofs.Common.{List, ℕ, slice_index, ap, sym, ◌∙◌}
use Rattle.listener_parts.proofs.AloneLemmas.{retires_all, turn_stands}
use Rattle.listener_parts.proofs.DownLemmas.{retires_live}
use Rattle.listener_parts.proofs.RoundLemmas.{credits_stay, retires_turn}
use Rattle.listener_parts.proofs.starting.retire_rest.Goals as goal

pub retire_children-requires-clause-none : goal.retire_children-requires-clause-none
retire_children-requires-clause-none g c child =
    ap (λ (l : List ℕ). slice_index l child) (sym c.requires.credits.own) ∙ c.requires.taken_back child

pub returns-clause-retires : goal.returns-clause-retires
returns-clause-retires g c =
    retires_turn c.retire_children.ensures.turn.0 _ _ c.retire_children.ensures.turn.1 (c.retire_children.ensures.row ∙ c.requires.none)

pub returns-clause-rest : goal.returns-clause-rest
returns-clause-rest g c =
    let t = c.retire_children.ensures.turn in
    turn_stands c.others_leave_the_rest_to_the_listener.ensures c.turns_rest_on_these.ensures _ _ _ c.requires.listener.number (retires_all t.0) t.1

pub returns-clause-credits : goal.returns-clause-credits
returns-clause-credits g c = credits_stay c.args.credits.now _ _ c.retire_children.ensures.turn.1.1.stays.credits c.requires.credits

pub returns-clause-live : goal.returns-clause-live
returns-clause-live g c opened none =
    let t = c.retire_children.ensures.turn in
    retires_live c.quiet_tables_are_the_listeners.ensures c.turns_rest_on_these.ensures t.0 _ _ c.requires.listener.number t.1 opened none
