-- How many jobs there are: words of private contracts, which are no promise of this crate.
use Rattle.std.specs.Prelude.{◌≡◌, ◌+◌, ◌^◌, ◌<◌, ◌≤◌, not, List, length}
use Rattle.waits.specs.declared.stamped.Stamped.{Stamped}
use Rattle.waits.specs.declared.totals.Totals.{Totals}
use Rattle.waits.specs.Jobs.{is_waiting, is_ready, has_failed, one_if}
use Rattle.waits.specs.Stamps.{tally}

-- they are those of these jobs
pub record AreTotals (xs : List Stamped) (totals : Totals) : Type 0 where
  pub count : totals.count ≡ length xs
  pub waiting : totals.waiting ≡ tally (λ x. is_waiting x.one) xs
  pub blocked : totals.blocked ≡ tally (λ x. not (is_ready x.one)) xs
  pub failing : totals.failing ≡ tally (λ x. has_failed x.one) xs

-- one more can be counted
pub record AreBelow (totals : Totals) : Type 0 where
  pub count : totals.count + 1 < 2 ^ 64
  pub waiting : totals.waiting ≤ totals.count
  pub blocked : totals.blocked ≤ totals.count
  pub failing : totals.failing ≤ totals.count

-- they count this job
pub record Counts (x : Stamped) (totals : Totals) : Type 0 where
  pub count : 1 ≤ totals.count
  pub waiting : one_if (is_waiting x.one) ≤ totals.waiting
  pub blocked : one_if (not (is_ready x.one)) ≤ totals.blocked
  pub failing : one_if (has_failed x.one) ≤ totals.failing

-- a part of the jobs has these totals, and can have those in place of them
pub record Holds (all before new : Totals) : Type 0 where
  pub count : before.count ≤ all.count
  pub waiting : before.waiting ≤ all.waiting
  pub blocked : before.blocked ≤ all.blocked
  pub failing : before.failing ≤ all.failing
  pub count_fits : all.count + new.count < before.count + 2 ^ 64
  pub waiting_fits : all.waiting + new.waiting < before.waiting + 2 ^ 64
  pub blocked_fits : all.blocked + new.blocked < before.blocked + 2 ^ 64
  pub failing_fits : all.failing + new.failing < before.failing + 2 ^ 64

-- the sums after such a change
pub record Differ (all before new left : Totals) : Type 0 where
  pub count : left.count + before.count ≡ all.count + new.count
  pub waiting : left.waiting + before.waiting ≡ all.waiting + new.waiting
  pub blocked : left.blocked + before.blocked ≡ all.blocked + new.blocked
  pub failing : left.failing + before.failing ≡ all.failing + new.failing
