-- How much one event gives.
use Rattle.std.specs.Prelude.{◌≤◌, ◌+◌, length}
use Rattle.server_rules.specs.Events.{Course}

-- between these two, at most 8,192 packets more than there were unfinished jobs, and at most as many entries
pub record GivesFew (S V : Type 0) (before after : Course S V) : Type 0 where
  pub packets : length after.packets ≤ length before.packets + (8192 + length before.server.jobs)
  pub entries : length after.entries ≤ length before.entries + (8192 + length before.server.jobs)
