-- The limits of unfinished jobs, all of them this project's choice.
use Rattle.std.specs.Prelude.{ℕ}

-- how many unfinished jobs a session has at most
abbrev pub most_jobs : ℕ
most_jobs = 4096

-- how many bytes their loads have at most
abbrev pub most_job_bytes : ℕ
most_job_bytes = 4194304

-- what each number that a job waits for adds to its load, in bytes
abbrev pub number_bytes : ℕ
number_bytes = 8

-- how long a job waits for others before it is answered instead, in seconds
abbrev pub wait_seconds : ℕ
wait_seconds = 30
