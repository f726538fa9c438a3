use Rattle.std.proofs.Common.{◌≡◌, true, is_some, sym, subst}
use Rattle.conn_state.specs.Reader.{item_kept}
use Rattle.conn_state.proofs.exchange.read_item.Goals as goal

pub ask_item-requires : goal.ask_item-requires
ask_item-requires g c =
    subst (λ s. is_some (item_kept s) ≡ true) (sym c.stage.ensures) (c.in-Item.ensures.reads.finds c.show.ensures.0 c.show.ensures.1)
