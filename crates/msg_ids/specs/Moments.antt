-- Moments: seconds of Unix time.
use Rattle.std.specs.Prelude.{ℕ, min}

-- the latest moment, 4,000,000,000 seconds
abbrev pub latest_moment : ℕ
latest_moment = 4000000000

-- the moment of so many seconds: a later one than the latest counts as the latest
abbrev pub moment_of : ℕ → ℕ
moment_of seconds = min seconds latest_moment
