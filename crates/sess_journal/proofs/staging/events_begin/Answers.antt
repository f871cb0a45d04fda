use Rattle.sess_journal.proofs.staging.events_begin.Goals as goal

pub returns-clause-at : goal.returns-clause-at
returns-clause-at g c = λ entries desk server moment keeps early.
    let seeded_draws = c.seeded_draws_go_on.ensures.after in
    let seeded_places = g.met.D.Seeded.places in
    record {
      keeps = keeps;
      goes = λ place words below. seeded_draws keeps.recorded.file.seed place words below;
      places = λ place below. seeded_places keeps.recorded.file.seed place below;
      early = early;
      laws = record {
        at_once = c.crashes_by_acts.ensures.at_once;
        synced = c.crashes_after_a_sync.ensures.synced;
        spells = c.calls_in_a_row.ensures.spells;
        one = c.calls_in_a_row.ensures.one;
      };
    }

pub returns-clause-begun : goal.returns-clause-begun
returns-clause-begun g c = λ entries job desk server moment has early.
    let seeded_draws = c.seeded_draws_go_on.ensures.after in
    let seeded_places = g.met.D.Seeded.places in
    record {
      stage = record {
        keeps = has.keeps;
        goes = λ place words below. seeded_draws has.keeps.recorded.file.seed place words below;
        places = λ place below. seeded_places has.keeps.recorded.file.seed place below;
        early = early;
        laws = record {
          at_once = c.crashes_by_acts.ensures.at_once;
          synced = c.crashes_after_a_sync.ensures.synced;
          spells = c.calls_in_a_row.ensures.spells;
          one = c.calls_in_a_row.ensures.one;
        };
      };
      begun = has.begun;
    }
