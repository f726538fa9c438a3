use Rattle.std.proofs.Common.{◌∙◌, ◌<◌, ap, sym, arith, List, [], length, ℕ, map, Bor}
use Rattle.std.proofs.lemmas.Option.{slice_get-get_or}
use Rattle.command_words.proofs.InvocationLemmas.{one-more}
use Rattle.command_words.proofs.options.texts_of.Goals as goal
use Rattle.command_words.proofs.options.texts_of.Goals.{in-Some+in_ok-push, in_default}

pub loop-place-preserved : goal.loop-place-preserved
loop-place-preserved c = elim c.match-get.branch [
  | in-Some+in_ok-push w ↦
      ap (λ (v : _). map (λ (t : Bor (List ℕ)). t.now) v.items) w.texts-is ∙ ap (map (λ (t : Bor (List ℕ)). t.now)) w.in_ok-push.ensures.items
      ∙ one-more c.args.words.now c.loop-place.place c.loop-place.texts.items w.in-Some.word c.loop-place.invariant (sym w.in-Some.ensures)
  | in_default w ↦
      let within : c.loop-place.place < length c.args.words.now = omega arith in
      let there = slice_get-get_or c.args.words.now c.loop-place.place [] within in
      absurd (cc (w.in_default.ensures, there))
]
