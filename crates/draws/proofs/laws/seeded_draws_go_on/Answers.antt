use Rattle.draws.proofs.SeededLemmas.{draw_after-standing, word_after-standing}
use Rattle.draws.proofs.laws.seeded_draws_go_on.Goals as goal

pub returns-clause-after : goal.returns-clause-after
returns-clause-after g c = λ seed place n inside.
    draw_after-standing g.D.Draw.step (g.D.Seeded.standing_at seed) (g.D.Seeded.word_of seed) (g.met.D.Seeded.steps seed)
    n place inside

pub returns-clause-word : goal.returns-clause-word
returns-clause-word g c = λ seed place n inside.
    word_after-standing g.D.Draw.step (g.D.Seeded.standing_at seed) (g.D.Seeded.word_of seed)
    (g.met.D.Seeded.steps seed) n place inside
