use Rattle.std.proofs.Common.{◌≡◌, ◌-◌, ◌++◌, ℕ, List, length, map, min, take, sym, ap, ◌∙◌, arith}
use Rattle.std.proofs.lemmas.List.{take_min, take-map}
use Rattle.std.proofs.lemmas.List.Folds.{flat_map-map}
use Rattle.std.specs.List.{flat_map}
use Rattle.conn_machine.specs.Folds.{lines_after}
use Rattle.conn_state.specs.Answered.{SeenEnded}
use Rattle.board.specs.ReportLine.{line_of}
use Rattle.board.proofs.report_line.lines_after.Goals as goal

-- the lines of as many of the connections as find room behind those of the earlier ones
lines_behind : (ended : List SeenEnded) (closed i : ℕ) (lines text : List ℕ) → i ≡ min (64 - closed) (length ended)
    → text ≡ lines ++ flat_map line_of (take i ended) → text ≡ lines_after (map line_of ended) closed lines
lines_behind ended closed i lines text at is =
    is
    ∙ ap (λ xs. lines ++ flat_map line_of xs) (ap (λ n. take n ended) at ∙ take_min (64 - closed) ended)
    ∙ ap (λ ys. lines ++ ys) (sym (flat_map-map (λ line. line) line_of (take (64 - closed) ended)))
    ∙ ap (λ xs. lines ++ flat_map (λ line. line) xs) (sym (take-map line_of (64 - closed) ended))

pub returns : goal.returns
returns g c =
    lines_behind c.args.ended.now c.args.closed c.loop-i.i c.args.lines.now c.loop-i.text
    (omega (arith, c.loop-i-test.false, c.loop-i.auto.i-end, c.min-i-end.ensures, c.saturating_sub.ensures)) c.loop-i.invariant
