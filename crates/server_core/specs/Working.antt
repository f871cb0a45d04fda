-- A ready job that is run, in room that was taken before.
use Rattle.std.specs.Prelude.{◌≡◌, ◌≤◌, ℕ, ◌+◌, ◌*◌, true, false, List, [], ◌∷◌, All, length}
use Rattle.auth_keys.specs.declared.ring.RingKey.{RingKey}
use Rattle.envelope.specs.Packet.{Lock}
use Rattle.id_window.specs.History.{History}
use Rattle.regs_service.specs.Served.{reply_bytes_max}
use Rattle.waits.specs.declared.job.Job.{Job}
use Rattle.waits.specs.Jobs.{Queue}
use Rattle.waits.specs.Limits.{most_jobs}
use Rattle.server_dispatch.specs.Contents.{short_bytes_max}
use Rattle.server_output.specs.Items.{IsContent, result_bytes}
use Rattle.server_output.specs.Outs.{AreSent}
use Rattle.server_rules.specs.Server.{Name, name_of}
use Rattle.server_rules.specs.Event.{Entry, Setting, Speaker}
use Rattle.server_rules.specs.Answer.{finishes}
use Rattle.law_server.specs.Order.{IsSpeaking}
use Rattle.server_session.specs.declared.session.SessionState.{SessionState}
use Rattle.server_session.specs.SessionState.{Stands}
use Rattle.server_core.specs.declared.effects.Effects.{Effects}
use Rattle.server_core.specs.declared.working.Work.{Work}
use Rattle.server_core.specs.One.{fails_all, says_its_own}
use Rattle.server_core.specs.Failures.{blocked_of}
use Rattle.server_core.specs.Speech.{IsRoomFor}

-- the bytes of the answer with a reply of so many bytes, and of a short answer to each of so many jobs
abbrev pub run_bytes : ℕ → ℕ → ℕ
run_bytes reply limit = result_bytes reply + limit * result_bytes short_bytes_max

-- There is room for all that a session says when its job has run with this reply: for the answer, and for a short one to
-- each of so many jobs, since they may fail by it.
pub record CanWork (foreseen : List ℕ) (most : ℕ) (work : Work) : Type 0 where
  pub reply : work.reply ≡ foreseen
  pub entered : work.entered ≡ foreseen
  pub content : IsContent foreseen
  pub limit : work.limit ≡ most
  pub few : most ≤ most_jobs
  pub short : length foreseen ≤ reply_bytes_max
  pub speech : IsRoomFor (most + 1) (run_bytes (length foreseen) most) work.speech
  pub entries : work.entries ≡ record { entries = []; room = most + 1 }

-- a job that was taken out has run with this reply, and each of the session's jobs that fails by that is answered
abbrev pub ran : {S : Type 0} → Setting S → Job → List ℕ → Speaker S → Speaker S
ran setting job reply speaker =
    let done = finishes setting job reply speaker in
    fails_all setting (length done.jobs) done

-- and after all that the session owes then went out
abbrev pub worked : {S : Type 0} → Setting S → Job → List ℕ → Speaker S → Speaker S
worked setting job reply speaker = says_its_own setting (ran setting job reply speaker)

-- What holds of a session whose job was taken out to be run: it is in order, no job has failed, and so many of its own aren't
-- ready at most.
pub record IsRunning {S : Type 0} (name : Name) (others : Name → Queue) (past : History) (job : Job) (limit : ℕ) (speaker : Speaker S) : Type 0 where
  pub named : name_of speaker.session ≡ name
  pub order : IsSpeaking name others past (job.number ∷ []) speaker
  pub unfailed : All (λ one. one.failed ≡ false) speaker.jobs
  pub few : blocked_of name speaker.jobs ≤ limit

-- the entry of a job that ran with this reply
abbrev pub run_entry : Job → List ℕ → Entry
run_entry job reply = record { key = job.key; session = job.session; number = job.number; request = job.request; reply = reply; ran = true }

-- What is kept of a session and of the jobs after an event, the draw, and what the event gives, are those of this speaker.
pub record Ends {S : Type 0} (lock : Lock) (keys : List RingKey) (moment : ℕ) (standing : SessionState) (queue : Queue) (draw : S) (effects : Effects) (speaker : Speaker S) : Type 0 where
  pub stands : Stands moment standing speaker.session
  pub jobs : queue ≡ speaker.jobs
  pub drawn : draw ≡ speaker.draw
  pub sent : AreSent lock keys speaker.sent effects.out.outs
  pub entered : effects.entries.entries ≡ speaker.entries
