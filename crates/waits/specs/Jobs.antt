-- The unfinished jobs of a server: calls that were accepted and aren't answered yet, in order of acceptance over all
-- sessions. A job waits for the calls that its `invokeAfterMsg` or `invokeAfterMsgs` names
-- (core.telegram.org/api/invoking; when a job fails and when it times out is this project's choice).
use Rattle.std.specs.Prelude.{ℕ, zero, suc, ◌+◌, ◌*◌, ◌≤◌, Bool, true, false, ◌==◌, ◌&&◌, not, nat_le, if◌then◌else◌, Option, Some, None, List, [], ◌∷◌, ◌++◌, length, map}
use Rattle.std.specs.List.{filter, list_any}
use Rattle.waits.specs.declared.job.Job.{Job}
use Rattle.waits.specs.declared.job.Unfinished.{Unfinished}
use Rattle.waits.specs.Limits.{most_jobs, most_job_bytes, number_bytes, wait_seconds}

-- in order of acceptance: each a job, and whether a call that it waits for was answered otherwise than well
abbrev pub Queue : Type 0
Queue = List Unfinished

-- a further job is accepted
abbrev pub accepted : Job → Queue → Queue
accepted job queue = queue ++ record { job = job; failed = false } ∷ []

-- ---- whose a job is

-- it belongs to this session of this key
abbrev pub is_of : ℕ → ℕ → Unfinished → Bool
is_of key session one = (one.job.key == key) && (one.job.session == session)

-- it is the call of this number there
abbrev pub is_call : ℕ → ℕ → ℕ → Unfinished → Bool
is_call key session number one = is_of key session one && (one.job.number == number)

-- ---- how far it is

abbrev pub is_empty : List ℕ → Bool
is_empty [] = true
is_empty (number ∷ numbers) = false

-- it waits for a number at least
abbrev pub is_waiting : Unfinished → Bool
is_waiting one = not (is_empty one.job.after)

-- it waits for none, and none was answered otherwise than well
abbrev pub is_ready : Unfinished → Bool
is_ready one = not one.failed && is_empty one.job.after

abbrev pub has_failed : Unfinished → Bool
has_failed one = one.failed

-- it has waited so long by now that it is answered, whether it has failed or not
abbrev pub is_overdue : ℕ → Unfinished → Bool
is_overdue now one = is_waiting one && nat_le (one.job.since + wait_seconds) now

-- it waits for the call of this number in this session
abbrev pub waits_for : ℕ → ℕ → ℕ → Unfinished → Bool
waits_for key session number one = is_of key session one && list_any (λ awaited. awaited == number) one.job.after

-- ---- a call is answered

-- the job waits for this number no more
abbrev pub without_number : ℕ → Job → Job
without_number number job = record job { after = filter (λ awaited. not (awaited == number)) job.after }

-- a job that waits for the call of this number, after that was answered well or not
abbrev pub told : ℕ → Bool → Unfinished → Unfinished
told number ok one = if ok then record one { job = without_number number one.job } else record one { failed = true }

-- a job after the call of this number in this session was answered
abbrev pub after_answer : ℕ → ℕ → ℕ → Bool → Unfinished → Unfinished
after_answer key session number ok one = if waits_for key session number one then told number ok one else one

-- all jobs after it
abbrev pub settled : ℕ → ℕ → ℕ → Bool → Queue → Queue
settled key session number ok queue = map (after_answer key session number ok) queue

-- ---- what is taken out

-- the first job that is so
abbrev pub first_job : (Unfinished → Bool) → Queue → Option Job
first_job test [] = None
first_job test (one ∷ others) = if test one then Some one.job else first_job test others

-- the others
abbrev pub without_first : (Unfinished → Bool) → Queue → Queue
without_first test [] = []
without_first test (one ∷ others) = if test one then others else one ∷ without_first test others

-- the ready job of this place among the ready ones, from 0
abbrev pub ready_job : ℕ → Queue → Option Job
ready_job place [] = None
ready_job zero (one ∷ others) = if is_ready one then Some one.job else ready_job zero others
ready_job (suc place) (one ∷ others) = ready_job (if is_ready one then place else suc place) others

-- the others
abbrev pub without_ready : ℕ → Queue → Queue
without_ready place [] = []
without_ready zero (one ∷ others) = if is_ready one then others else one ∷ without_ready zero others
without_ready (suc place) (one ∷ others) = one ∷ without_ready (if is_ready one then place else suc place) others

-- the jobs of other sessions
abbrev pub without_session : ℕ → ℕ → Queue → Queue
without_session key session queue = filter (λ one. not (is_of key session one)) queue

-- ---- counts and loads

-- the sum of this over the jobs
abbrev pub total : (Unfinished → ℕ) → Queue → ℕ
total measure [] = 0
total measure (one ∷ others) = measure one + total measure others

-- 1 where this holds
abbrev pub one_if : Bool → ℕ
one_if holds = if holds then 1 else 0

-- how many jobs are ready
abbrev pub ready_count : Queue → ℕ
ready_count queue = total (λ one. one_if (is_ready one)) queue

-- how many jobs aren't
abbrev pub blocked_count : Queue → ℕ
blocked_count queue = total (λ one. one_if (not (is_ready one))) queue

-- how many jobs have failed
abbrev pub failed_count : Queue → ℕ
failed_count queue = total (λ one. one_if (has_failed one)) queue

-- what a job counts against the bytes of its session
abbrev pub load_of : Job → ℕ
load_of job = length job.request + number_bytes * length job.after

-- how many jobs a session has
abbrev pub job_count : ℕ → ℕ → Queue → ℕ
job_count key session queue = total (λ one. one_if (is_of key session one)) queue

-- how many of them wait for a call
abbrev pub waiting_count : ℕ → ℕ → Queue → ℕ
waiting_count key session queue = total (λ one. one_if (is_of key session one && is_waiting one)) queue

-- how many of them aren't ready
abbrev pub blocked_count_of : ℕ → ℕ → Queue → ℕ
blocked_count_of key session queue = total (λ one. one_if (is_of key session one && not (is_ready one))) queue

-- how many jobs are overdue by now
abbrev pub overdue_count : ℕ → Queue → ℕ
overdue_count now queue = total (λ one. one_if (is_overdue now one)) queue

-- how many jobs of a session are
abbrev pub overdue_count_of : ℕ → ℕ → ℕ → Queue → ℕ
overdue_count_of key session now queue = total (λ one. one_if (is_of key session one && is_overdue now one)) queue

-- the bytes of their loads
abbrev pub job_bytes : ℕ → ℕ → Queue → ℕ
job_bytes key session queue = total (λ one. if is_of key session one then load_of one.job else 0) queue

-- each session is within its limits
abbrev pub AreWithinLimits : Queue → Type 0
AreWithinLimits queue = (key session : ℕ) → (job_count key session queue ≤ most_jobs) × (job_bytes key session queue ≤ most_job_bytes)
