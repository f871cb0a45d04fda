-- What a service gives on the way: replies that fit into a packet.
use Rattle.std.specs.Prelude.{◌≡◌, ◌≤◌, ⊤, Some, List, [], ◌∷◌, length}
use Rattle.regs_service.specs.Served.{Step, reply_bytes_max}
use Rattle.waits.specs.declared.job.Job.{Job}
use Rattle.waits.specs.Jobs.{ready_job}
use Rattle.server_rules.specs.Event.{Setting}
use Rattle.server_rules.specs.Events.{Event, Work, Course, after_event}

-- the reply of the job that this event runs, where it runs one, has at most 262,144 bytes
abbrev pub IsShortRun : {S V : Type 0} → Step V → Course S V → Event → Type 0
IsShortRun serve course (Work moment place) =
    (job : Job) → ready_job place course.server.jobs ≡ Some job → length (serve course.service job.request).0 ≤ reply_bytes_max
IsShortRun serve course _ = ⊤

-- each of these events has such a reply, if any
abbrev pub AreShortRuns : {S V : Type 0} → Setting S → Step V → V → Course S V → List Event → Type 0
AreShortRuns setting serve fresh course [] = ⊤
AreShortRuns setting serve fresh course (event ∷ events) =
    IsShortRun serve course event × AreShortRuns setting serve fresh (after_event setting serve fresh course event) events
