use Rattle.std.proofs.Common.{rules, ◌<◌, length, arith, add-one}
use Rattle.std.proofs.lemmas.List.{take_rest, length-drop}
use Rattle.http_read.proofs.WordLemmas.{parts_at, parts_whole}
use Rattle.http_read.proofs.words.split_at_comma.Goals as goal

pub returns-in-Some : goal.returns-in-Some
returns-in-Some c =
    let bytes = c.args.bytes.now in
    let at = c.in-Some.comma in
    let inside : at < length bytes = search rules in
    let split = parts_at bytes at inside (search rules) (search rules) in (
      simp (take_rest, add-one, split),
      simp (take_rest, length-drop) (omega arith),
    )

pub returns-in-None : goal.returns-in-None
returns-in-None c = parts_whole c.args.bytes.now (search rules)
