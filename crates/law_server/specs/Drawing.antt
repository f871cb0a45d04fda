-- What a session draws in what it says: the words of its salts, period by period.
use Rattle.std.specs.Prelude.{◌≡◌, ℕ, List}
use Rattle.salt_line.specs.Rows.{Row, period_at}
use Rattle.salt_line.specs.Needed.{needed_from}
use Rattle.server_rules.specs.Event.{Setting, Speaker}

-- From these rows and this draw, those of so many periods from this one are needed, each of which has its row already or
-- draws a word for it. That leaves these rows and this draw.
pub record AreNeeded {S : Type 0} (step : S → ℕ × S) (period : ℕ) (rows : List Row) (draw : S) (later_rows : List Row) (later_draw : S) : Type 0 where
  pub periods : ℕ
  pub rows_then : later_rows ≡ (needed_from step period periods (rows, draw)).0
  pub draw_then : later_draw ≡ (needed_from step period periods (rows, draw)).1

-- Between these two the session drew no other words than those of its salts from now, and kept its unique number.
abbrev pub DrawsSalts : {S : Type 0} → Setting S → Speaker S → Speaker S → Type 0
DrawsSalts setting before after =
    (after.session.unique ≡ before.session.unique)
    × AreNeeded setting.step (period_at before.session.salts.start setting.now) before.session.salts.rows before.draw after.session.salts.rows after.draw
