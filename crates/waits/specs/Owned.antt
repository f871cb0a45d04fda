-- What is counted of a session's jobs is right: words of private contracts, which are no promise of this crate.
use Rattle.std.specs.Prelude.{◌≡◌, ℕ, ◌<◌, ◌≤◌, true, not, length}
use Rattle.waits.specs.declared.owner.Owner.TheInside.{Inside}
use Rattle.waits.specs.Limits.{most_jobs, most_job_bytes}
use Rattle.waits.specs.Jobs.{is_of, waits_for}
use Rattle.waits.specs.Stamps.{tally, bytes_of, IsRising}
use Rattle.waits.specs.Totals.{AreTotals}

-- the jobs are within the session's limits, their stamps rise, and what is counted of them is right; none waits for a number
-- above the greatest, and where it is single no two wait for one number
pub record IsOwned (owner : Inside) : Type 0 where
  pub own : tally (λ x. not (is_of owner.key owner.session x.one)) owner.jobs ≡ 0
  pub rising : IsRising owner.jobs
  pub fits : length owner.jobs ≤ most_jobs
  pub bytes_fit : owner.bytes ≤ most_job_bytes
  pub totals : AreTotals owner.jobs owner.totals
  pub bytes : owner.bytes ≡ bytes_of owner.jobs
  pub greatest : (number : ℕ) → owner.greatest < number → tally (λ x. waits_for owner.key owner.session number x.one) owner.jobs ≡ 0
  pub single : owner.single ≡ true → (number : ℕ) → tally (λ x. waits_for owner.key owner.session number x.one) owner.jobs ≤ 1
