-- What the output has of lines that ask for the state.
use Rattle.std.proofs.Common.{◌≡◌, ℕ, cond, List, [], ◌∷◌, ◌++◌, length, Option, refl, sym, ap, ◌∙◌, append-nil}
use Rattle.std.proofs.Math.Seq.{take-append_seam}
use Rattle.std.proofs.lemmas.Grind.{flat_map-append}
use Rattle.std.proofs.lemmas.List.{take-append-le}
use Rattle.std.proofs.lemmas.List.Concat.{flat_map-cons}
use Rattle.conn_machine.specs.declared.event.Entry.{Entry}
use Rattle.conn_machine.specs.declared.state.State.{State}
use Rattle.conn_machine.specs.Runs.{after}
use Rattle.conn_machine.specs.Shown.{totals_of}
use Rattle.command_answers.specs.Answers.{open_line}
use Rattle.listener_round.specs.Heard.{Heard, asks_for_state, open_line_of, open_lines}
use Rattle.listener_round.proofs.PlacedLemmas.{AreWithin}

-- a line of the state for one that asks for that
abbrev pub state_text : State → List ℕ → List ℕ
state_text s line = cond (asks_for_state line) (open_line (totals_of s)) []

pub open-later : (first : State) (history more : List Entry) (heard : List Heard) → AreWithin (length history) heard
    → open_lines first (history ++ more) heard ≡ open_lines first history heard
open-later first history more [] within = refl
open-later first history more (h ∷ heard) within =
    let one : open_line_of first (history ++ more) h ≡ open_line_of first history h =
    ap (λ (es : List Entry). state_text (after first es) h.line) (take-append-le h.made history more within.0) in
    flat_map-cons (open_line_of first (history ++ more)) h heard
    ∙ ap (λ (xs : List ℕ). xs ++ open_lines first (history ++ more) heard) one
    ∙ ap (λ (xs : List ℕ). open_line_of first history h ++ xs) (open-later first history more heard within.1)
    ∙ sym (flat_map-cons (open_line_of first history) h heard)

pub open-snoc : (first : State) (history more : List Entry) (heard : List Heard) (line : List ℕ) (answer : Option (List ℕ)) → AreWithin (length history) heard
    → open_lines first (history ++ more) (heard ++ record { line = line; made = length history; answer = answer } ∷ [])
    ≡ open_lines first history heard ++ state_text (after first history) line
open-snoc first history more heard line answer within =
    let h : Heard = record { line = line; made = length history; answer = answer } in
    flat_map-append (open_line_of first (history ++ more)) heard (h ∷ [])
    ∙ ap (λ (xs : List ℕ). xs ++ open_lines first (history ++ more) (h ∷ [])) (open-later first history more heard within)
    ∙ ap (λ (xs : List ℕ). open_lines first history heard ++ xs)
    (flat_map-cons (open_line_of first (history ++ more)) h []
    ∙ append-nil (open_line_of first (history ++ more) h)
    ∙ ap (λ (es : List Entry). state_text (after first es) line) (take-append_seam history more))
