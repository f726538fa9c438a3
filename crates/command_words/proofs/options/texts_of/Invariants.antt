-- The texts so far are the first words.
use Rattle.std.proofs.Common.{◌≡◌, map, take}
use Rattle.command_words.proofs.options.texts_of.Given as goal

abbrev pub invariant-loop-place : goal.invariant-loop-place
invariant-loop-place l = map (λ text. text.now) l.texts.items ≡ take l.place l.words
