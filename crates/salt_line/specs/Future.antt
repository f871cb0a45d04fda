-- Rows that are handed out (core.telegram.org/mtproto/service_messages, "Request for several future salts").
use Rattle.std.specs.Prelude.{ℕ, zero, suc, List, [], ◌∷◌}
use Rattle.salt_line.specs.declared.salt_line.SaltRow.{SaltRow}
use Rattle.salt_line.specs.Rows.{period_at, since, until}
use Rattle.salt_line.specs.Needed.{word_in}
use Rattle.salt_line.specs.Line.{Line}

-- the rows of n periods from this one on
abbrev pub salt_rows_from : Line → ℕ → ℕ → List SaltRow
salt_rows_from line period zero = []
salt_rows_from line period (suc n) =
    record {
      since = since line.start period;
      until = until line.start period;
      salt = word_in period line.rows;
    } ∷ salt_rows_from line (suc period) n

-- the rows of n periods from the current one on
abbrev pub salt_rows : Line → ℕ → ℕ → List SaltRow
salt_rows line now n = salt_rows_from line (period_at line.start now) n
