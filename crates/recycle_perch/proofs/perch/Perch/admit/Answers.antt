use Rattle.std.proofs.Common.{◌∙◌, ap, sym}
use Rattle.std.proofs.lemmas.List.{map_push}
use Rattle.recycle_perch.specs.Looking.{word_names_of}
use Rattle.recycle_perch.proofs.perch.Perch.admit.Goals as goal

pub returns-clause-looks : goal.returns-clause-looks
returns-clause-looks g c = λ i looks at.
    let known = c.add_place.ensures.looks i looks at in
    record {
      words = known.words
          ∙ sym (ap word_names_of c.push_reserved.ensures.items ∙ map_push (λ place. place.perch.name) c.args.self.now.places.items c.make-place.result.0);
      room = known.room ∙ sym c.push_reserved.ensures.capacity;
    }

pub returns-clause-placed : goal.returns-clause-placed
returns-clause-placed g c = (c.make-place.result.0, c.push_reserved.ensures.items, c.make-place.ensures.place.1)
