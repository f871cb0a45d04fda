use Rattle.salt_line.specs.Rows.{period_at}
use Rattle.salt_line.specs.Line.{line_after}
use Rattle.salt_line.proofs.LawLemmas.{has-needed_first, current-valid}
use Rattle.salt_line.proofs.laws.current_salts_are_valid.Goals as goal

pub returns : goal.returns
returns g c = λ line now n draw started some not_zero. (
  not_zero,
  current-valid line.start now (line_after g.D.Draw.step now n line draw).rows started
      (has-needed_first g.D.Draw.step (period_at line.start now) n (line.rows, draw) some),
)
