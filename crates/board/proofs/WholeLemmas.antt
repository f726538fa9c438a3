-- Editions in what is left of a whole history, and in the whole.
use Rattle.std.proofs.Common.{◌≡◌, ℕ, true, List, [], ◌++◌, Option, Some, None, refl, sym, ap, subst, ◌∙◌, append_assoc}
use Rattle.http_read.specs.declared.request.Limits.{Limits}
use Rattle.file_table.specs.Site.{SeenSite}
use Rattle.conn_machine.specs.declared.event.Entry.{Entry}
use Rattle.conn_machine.specs.declared.folded.Folded.{Folded}
use Rattle.conn_machine.specs.Folds.{fold_of, is_in_use}
use Rattle.conn_state.specs.Known.{KnownOutside}
use Rattle.board_book.specs.Book.{SeenBook}
use Rattle.board_book.specs.Editions.{KeepsEditions, UsedHaveEditions, edition_of}
use Rattle.board.specs.Editions.{GenerationsKeepTheirEditions, HasItsEdition, IsOfGeneration}
use Rattle.board.specs.WholeEditions.{IsLeftOf, with_more}

-- what has an edition in what is left has it in the whole
pub left_keeps : GenerationsKeepTheirEditions → (whole b : SeenBook) → IsLeftOf whole b → KeepsEditions b whole
left_keeps law whole b is generation number at =
    let later : SeenBook = record b { folded = fold_of whole.base is.entries [] whole.folded } in
    law.unfolded later whole is.entries [] is.begun is.base refl is.history_is generation number
    (sym (ap (λ (r : Folded). edition_of (record b { folded = r }) generation) is.one_fold) ∙ at)

some_same : {X : Type 0} (o : Option X) (a b : X) → o ≡ Some a → o ≡ Some b → a ≡ b
some_same None a b ea eb = absurd (cc)
some_same (Some x) a b ea eb = cc

-- so a generation has one edition in both, where it has one in what is left
same_edition : (k : KnownOutside) (whole b : SeenBook) (generation : ℕ) (limits : Limits) (site : SeenSite) → KeepsEditions b whole → (number : ℕ)
    → edition_of b generation ≡ Some number → HasItsEdition k whole generation limits site → HasItsEdition k b generation limits site
same_edition k whole b generation limits site keeps number is has =
    let same : number ≡ has.number = some_same (edition_of whole generation) number has.number (keeps generation number is) has.found in
    record { number = has.number; found = is ∙ ap Some same; is_of = has.is_of }

pub left_edition : GenerationsKeepTheirEditions → (known : Option KnownOutside) (whole b : SeenBook) (generation : ℕ) (limits : Limits) (site : SeenSite)
    → IsLeftOf whole b → UsedHaveEditions b → is_in_use b.state generation ≡ true → IsOfGeneration known whole generation limits site
    → IsOfGeneration known b generation limits site
left_edition law None whole b generation limits site is used in_use of = tt
left_edition law (Some k) whole b generation limits site is used in_use of =
    let here = used generation in_use in
    same_edition k whole b generation limits site (left_keeps law whole b is) here.0 here.1 of

-- the same entries behind both
pub left_more : (whole b : SeenBook) (more : List Entry) → IsLeftOf whole b → IsLeftOf (with_more more whole) (with_more more b)
left_more whole b more is = record {
  entries = is.entries;
  history_is = ap (λ l. l ++ more) is.history_is ∙ append_assoc is.entries b.history more;
  base = is.base;
  one_fold = is.one_fold;
  begun = is.begun;
}
