use Rattle.std.proofs.Common.{rules, ◌≡◌, ◌≤◌, ℕ, subst, arith}
use Rattle.std.specs.Prelude.{◌≢◌}
use Rattle.salt_line.specs.Line.{fresh_line, line_after}
use Rattle.test_server_parts.proofs.salts.gives_and_judges.Goals as goal
use Rattle.test_server_parts.proofs.salts.gives_and_judges.Goals.{then-salt-eq0, else-salt-eq0}

pub returns : goal.returns
returns g c = elim c.if-salt-eq0.branch [
  | then-salt-eq0 w ↦ rw w.result-is (search rules)
  | else-salt-eq0 w ↦
      let line = fresh_line c.new.result c.word-first.result in
      let after = line_after g.D.Draw.step c.new-at.result 1 line c.word-first.new.self in
      let not_zero : c.current-salt.result ≢ 0 = search rules in
      let started : c.new.result ≤ c.new-at.result = omega arith in
      let salt_is = c.current-salt.ensures.salt line c.in_ok-line.ensures.fresh in
      let valid = c.current_salts_are_valid.ensures line c.new-at.result 1 c.word-first.new.self started (omega arith)
      (subst (λ (s : ℕ). s ≢ 0) salt_is not_zero) in
      let judged = w.judge.ensures.judged after (c.current-salt.ensures.line line c.in_ok-line.ensures.fresh) in
      rw w.result-is (judged.1 (rw salt_is valid))
]
