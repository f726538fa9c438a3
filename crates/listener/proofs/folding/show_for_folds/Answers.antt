use Rattle.listener.proofs.folding.show_for_folds.Goals as goal

pub returns : goal.returns
returns g c =
    let shows = c.show.ensures in
    record {
      places = shows.places;
      within = shows.within;
      countable = shows.countable;
      made = shows.made;
      few = shows.few;
      state = shows.state;
      agrees = shows.agrees;
      outside = shows.outside.ended;
    }
