-- What a desk does: the events of a server, with what it draws from.
use Rattle.std.specs.Prelude.{◌≡◌, ◌≤◌, ℕ, ◌+◌, Option, Some, option_map, Result, Ok, Err, List, [], length}
use Rattle.auth_keys.specs.declared.ring.RingKey.{RingKey}
use Rattle.envelope.specs.Packet.{Lock}
use Rattle.mt_edge.specs.Faults.{Rose}
use Rattle.server_output.specs.Outs.{AreSent}
use Rattle.regs_service.specs.Served.{Step, reply_bytes_max}
use Rattle.waits.specs.declared.job.Job.{Job}
use Rattle.waits.specs.Jobs.{Queue, ready_job}
use Rattle.server_rules.specs.Answer.{Answer}
use Rattle.server_rules.specs.Server.{Server}
use Rattle.server_core.specs.declared.desk.DeskFault.{DeskFault}
use Rattle.server_core.specs.declared.desk.DeskFault.TheVariants as faults
use Rattle.server_core.specs.declared.desk.Reply.{Reply}
use Rattle.server_core.specs.declared.effects.Effects.{Effects}

-- the request of the ready job of this place among the ready ones, where there is one
abbrev pub request_at : ℕ → Queue → Option (List ℕ)
request_at place jobs = option_map (λ job. job.request) (ready_job place jobs)

-- where this place among the ready jobs has one, the service's reply to it has no more bytes than a reply may have
abbrev pub IsShortRunAt : {V : Type 0} → ℕ → Step V → V → Server → Type 0
IsShortRunAt place serve service server =
    (job : Job) → ready_job place server.jobs ≡ Some job → length (serve service job.request).0 ≤ reply_bytes_max

-- the most bytes of a packet that a frame carries
abbrev pub frame_bytes_max : ℕ
frame_bytes_max = 1048576

-- How many packets and entries an event gives at most beside one for each unfinished job: twice as many as a session keeps
-- replies. All of these may be said again, and what else an event answers is fewer.
abbrev pub event_most : ℕ
event_most = 8192

-- an event gives few packets and few entries, by how many jobs were unfinished before it
pub record AreFew (unfinished sent entered : ℕ) : Type 0 where
  pub packets : sent ≤ event_most + unfinished
  pub entries : entered ≤ event_most + unfinished

abbrev pub GivesFew : {D : Type 0} → Server → Answer D → Type 0
GivesFew server answer = AreFew (length server.jobs) (length answer.packets) (length answer.entries)

-- After an event the desk stands for the server that the definitions say, its draw is theirs, and so is what the event gives.
pub record Does {D : Type 0} (StandsFor : Server → Type 0) (lock : Lock) (keys : List RingKey) (draw : D) (effects : Effects) (answer : Answer D) : Type 0 where
  pub stands : StandsFor answer.server
  pub drawn : draw ≡ answer.draw
  -- each packet goes out, sealed with its padding, in order
  pub sent : AreSent lock keys answer.packets effects.out.outs
  pub entered : effects.entries.entries ≡ answer.entries

-- Nothing goes out, nothing is entered or drawn, and the desk stands for this server.
pub record DoesNothing {D : Type 0} (StandsFor : Server → Type 0) (before after : D) (reply : Reply) (server : Server) : Type 0 where
  pub stands : StandsFor server
  pub drawn : after ≡ before
  pub sent : reply.out.outs ≡ []
  pub entered : reply.entries.entries ≡ []

-- The count of the failed calls of what a desk keeps its events on rose where the desk answers `Disk`, and else it is as it was.
abbrev pub CountsFault : DeskFault → ℕ → ℕ → Type 0
CountsFault faults.Disk before after = Rose before after
CountsFault faults.Memory before after = after ≡ before
CountsFault faults.Closed before after = after ≡ before
CountsFault (faults.Full len) before after = after ≡ before

abbrev pub Counts : {A : Type 0} → Result A DeskFault → ℕ → ℕ → Type 0
Counts (Ok value) before after = after ≡ before
Counts (Err fault) before after = CountsFault fault before after
