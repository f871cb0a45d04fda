use Rattle.std.proofs.Common.{◌≡◌, ℕ, ◌+◌, ◌-◌, ◌<◌, ◌≤◌, max, true, List, length, take, drop}
use Rattle.salt_line.specs.Rows.{Row}
use Rattle.salt_line.specs.Needed.{has_row, needed_from}
use Rattle.salt_line.specs.Held.{rows_of}
use Rattle.salt_line.specs.Future.{salt_rows_from}
use Rattle.salt_line.proofs.salt_line.hand_out.Given as goal

-- so many rows were needed and handed out
abbrev pub invariant-loop-k : goal.invariant-loop-k
invariant-loop-k g l = record {
  needed : ◌≡◌ {A = List Row × g.row.D.Denot} (rows_of l.rows.first l.rows.words.items, l.draw)
      (needed_from g.D.Draw.step l.period l.k (rows_of l.initial.rows.first l.initial.rows.words.items, l.initial.draw));
  first : l.rows.first ≡ l.initial.rows.first;
  room : l.rows.words.capacity ≡ l.initial.rows.words.capacity;
  count : length l.rows.words.items ≡ max (length l.initial.rows.words.items) (l.period + l.k - l.rows.first);
  there : (q : ℕ) → l.period ≤ q → q < l.period + l.k → has_row q (rows_of l.rows.first l.rows.words.items) ≡ true;
  out : take l.k l.into
      ≡ salt_rows_from record { start = l.start; rows = rows_of l.rows.first l.rows.words.items } l.period l.k;
  others : drop l.k l.into ≡ drop l.k l.initial.into;
}
