-- Where the lines of a run were read: in a longer history too.
use Rattle.std.proofs.Common.{◌≡◌, ◌≤◌, ◌+◌, ◌-◌, ◌||◌, ℕ, Bool, List, [], ◌∷◌, ◌++◌, length, map, take, sym, ap, ◌∙◌, append-nil, append_assoc}
use Rattle.std.proofs.lemmas.List.{map-append, take-append-le}
use Rattle.conn_machine.specs.declared.event.Entry.{Entry}
use Rattle.conn_machine.specs.declared.state.State.{State}
use Rattle.listener_round.specs.Commands.{asked_by, asked_in, asks_to_end}
use Rattle.listener_round.specs.Generations.{Opening}
use Rattle.listener_round.specs.Heard.{AreAnswered, AreReadAt, Heard, orders_behind}
use Rattle.listener_round.specs.Pace.{Brought, brought, ordered}

-- ## How far the history was

-- each was read behind so many entries at most
abbrev pub AreWithin : ℕ → List Heard → Type 0
AreWithin many [] = Unit {0}
AreWithin many (h ∷ heard) = (h.made ≤ many) × AreWithin many heard

pub within-back : (many : ℕ) (a b : List Heard) → AreWithin many (a ++ b) → AreWithin many b
within-back many [] b all = all
within-back many (h ∷ a) b all = within-back many a b all.1

pub within-answered : (o : Opening) (first : State) (history : List Entry) (orders from : ℕ) (heard : List Heard)
    → AreAnswered o first history orders from heard → AreWithin (length history) heard
within-answered o first history orders from [] answered = tt
within-answered o first history orders from (h ∷ heard) answered =
    (answered.1, within-answered o first history (orders_behind orders h.line) h.made heard answered.4)

-- ## A share's lines

-- what had been made where a line was read is so in a longer history
brought-later : (history more : List Entry) (made : ℕ) → made ≤ length history → brought (take made (history ++ more)) ≡ brought (take made history)
brought-later history more made within = ap brought (take-append-le made history more within)

pub placed-later : (history more : List Entry) (before : List Brought) (ending : Bool) (heard : List Heard) → AreWithin (length history) heard
    → AreReadAt history before ending heard → AreReadAt (history ++ more) before ending heard
placed-later history more before ending [] within at = tt
placed-later history more before ending (h ∷ heard) within at = (
  brought-later history more h.made within.0 ∙ at.0,
  placed-later history more (before ++ map ordered (asked_in ending h.line)) (asks_to_end h.line || ending) heard within.1 at.1,
)

-- and one more behind them
pub placed-snoc : (history : List Entry) (before : List Brought) (ending : Bool) (heard : List Heard) (h : Heard) → AreReadAt history before ending heard
    → brought (take h.made history) ≡ before ++ map ordered (asked_by ending (map (λ (x : Heard). x.line) heard))
    → AreReadAt history before ending (heard ++ h ∷ [])
placed-snoc history before ending [] h at here = (here ∙ append-nil before, tt)
placed-snoc history before ending (g ∷ heard) h at here =
    let first = map ordered (asked_in ending g.line) in
    let further = asked_by (asks_to_end g.line || ending) (map (λ (x : Heard). x.line) heard) in (
      at.0,
      placed-snoc history (before ++ first) (asks_to_end g.line || ending) heard h at.1
          (here
          ∙ ap (λ (xs : List Brought). before ++ xs) (map-append ordered (asked_in ending g.line) further)
          ∙ sym (append_assoc before first (map ordered further))),
    )
