-- Jobs that wait for other calls (core.telegram.org/api/invoking, "Saving query order"; when a job fails, and when it has
-- waited too long, is this project's choice).
use Rattle.std.specs.Prelude.{ℕ, zero, suc, ◌&&◌, not, nat_le, Bool, true, false, if◌then◌else◌, Option, Some, None, List, length}
use Rattle.std.specs.List.{list_any}
use Rattle.id_window.specs.declared.mark.Mark.{Mark}
use Rattle.id_window.specs.declared.mark.Mark.TheVariants.{Waiting, Replied, Acked, Dropped}
use Rattle.id_window.specs.History.{floor}
use Rattle.waits.specs.declared.job.Job.{Job}
use Rattle.waits.specs.Jobs.{Queue, has_failed, is_call, is_overdue, first_job, without_first, settled}
use Rattle.server_rules.specs.Server.{Session, mark_in}
use Rattle.server_rules.specs.Event.{Setting, State, Speaker, speaks}
use Rattle.server_rules.specs.Speaking.{answers_in_place, msg_wait_failed, msg_wait_timeout}

-- ---- what becomes of a number that a job waits for

-- the waiting for it is over, or in vain, or goes on
pub data Outlook : Type 0 where
  Over : Outlook
  InVain : Outlook
  GoesOn : Outlook

-- of a kept number: over where it was answered well
abbrev pub outlook_of_mark : Mark → Outlook
outlook_of_mark Waiting = GoesOn
outlook_of_mark (Replied good) = if good then Over else InVain
outlook_of_mark (Acked good) = if good then Over else InVain
outlook_of_mark (Dropped good) = if good then Over else InVain
outlook_of_mark _ = InVain

-- of one that isn't kept: in vain where it will never be a call that is answered
abbrev pub outlook_by : Option Mark → Bool → Bool → Outlook
outlook_by (Some mark) is_forgotten has_job = outlook_of_mark mark
outlook_by None is_forgotten has_job = if is_forgotten && not has_job then InVain else GoesOn

abbrev pub outlook : Session → Queue → ℕ → Outlook
outlook session jobs number =
    outlook_by (mark_in session number) (nat_le number (floor session.history))
    (list_any (is_call session.key session.number number) jobs)

-- the jobs of the session that wait for the number are told so
abbrev pub told : Outlook → Session → ℕ → Queue → Queue
told Over session number jobs = settled session.key session.number number true jobs
told InVain session number jobs = settled session.key session.number number false jobs
told GoesOn session number jobs = jobs

abbrev pub tells_of : {S : Type 0} → ℕ → Speaker S → Speaker S
tells_of number speaker =
    record speaker { jobs = told (outlook speaker.session speaker.jobs number) speaker.session number speaker.jobs }

-- ---- jobs that are answered in place

-- a job is answered so, and those that wait for it are told
abbrev pub gives_up : {S : Type 0} → Setting S → List ℕ → Job → Speaker S → Speaker S
gives_up setting content job speaker = tells_of job.number (answers_in_place setting job.number job.request content speaker)

abbrev pub given_up : {S : Type 0} → Setting S → List ℕ → Option Job → State S → State S
given_up setting content None state = state
given_up setting content (Some job) state =
    speaks (record { key = job.key; session = job.session }) (gives_up setting content job) state

-- the first job that is so, and the others
abbrev pub first_failed : Queue → Option Job × Queue
first_failed queue = (first_job has_failed queue, without_first has_failed queue)

abbrev pub first_overdue : ℕ → Queue → Option Job × Queue
first_overdue now queue = (first_job (is_overdue now) queue, without_first (is_overdue now) queue)

-- it is taken out and answered
abbrev pub first_given_up : {S : Type 0} → Setting S → List ℕ → (Queue → Option Job × Queue) → State S → State S
first_given_up setting content first state =
    given_up setting content (first state.jobs).0 (record state { jobs = (first state.jobs).1 })

-- and so on, up to so many
abbrev pub all_given_up : {S : Type 0} → Setting S → List ℕ → (Queue → Option Job × Queue) → ℕ → State S → State S
all_given_up setting content first zero state = state
all_given_up setting content first (suc n) state =
    all_given_up setting content first n (first_given_up setting content first state)

-- Each job that has failed is answered, the first in order of acceptance first. One that fails only by such an answer is
-- answered in its turn.
abbrev pub after_failures : {S : Type 0} → Setting S → State S → State S
after_failures setting state = all_given_up setting msg_wait_failed first_failed (length state.jobs) state

-- each job that has waited too long is answered
abbrev pub after_timeouts : {S : Type 0} → Setting S → State S → State S
after_timeouts setting state = all_given_up setting msg_wait_timeout (first_overdue setting.now) (length state.jobs) state
