-- One session that speaks in an event.
use Rattle.std.specs.Prelude.{◌≡◌, ℕ, zero, suc, Bool, true, if◌then◌else◌, Option, Some, None, List, [], ◌∷◌, All, length}
use Rattle.service_tl.specs.declared.lists.Message.{Message}
use Rattle.waits.specs.declared.job.Job.{Job}
use Rattle.waits.specs.Jobs.{Queue, is_of, without_ready}
use Rattle.server_rules.specs.Server.{Name, name_of}
use Rattle.server_rules.specs.Event.{Setting, Speaker, State, lost}
use Rattle.server_rules.specs.Sending.{messages_by, sends}
use Rattle.server_rules.specs.Speaking.{msg_wait_failed}
use Rattle.server_rules.specs.Waiting.{first_failed, gives_up}
use Rattle.server_rules.specs.Answer.{Answer, finishes}

-- where it owes nothing, it sends nothing and needs no salt
abbrev pub sends_all : {S : Type 0} → Setting S → List Message → Speaker S → Speaker S
sends_all setting [] speaker = speaker
sends_all setting (message ∷ messages) speaker = sends setting (message ∷ messages) speaker

-- all that it owes goes out
abbrev pub says_its_own : {S : Type 0} → Setting S → Speaker S → Speaker S
says_its_own setting speaker = sends_all setting (messages_by (name_of speaker.session) speaker.owed) speaker

-- a session is lost where this is so
abbrev pub lost_where : {S : Type 0} → Bool → Name → State S → State S
lost_where so name state = if so then lost name state else state

-- what an event gives, where it leaves this
abbrev pub answer_of : {S : Type 0} → Setting S → State S → Answer S
answer_of setting done =
    record {
      server = record { now = setting.now; sessions = done.sessions; jobs = done.jobs; bindings = done.bindings };
      draw = done.draw;
      packets = done.sent;
      entries = done.entries;
    }

-- ---- jobs of the session that have failed

abbrev pub given_up_by : {S : Type 0} → Setting S → Option Job → Speaker S → Speaker S
given_up_by setting None speaker = speaker
given_up_by setting (Some job) speaker = gives_up setting msg_wait_failed job speaker

-- the first job that has failed is taken out and answered
abbrev pub fails_first : {S : Type 0} → Setting S → Speaker S → Speaker S
fails_first setting speaker =
    given_up_by setting (first_failed speaker.jobs).0 (record speaker { jobs = (first_failed speaker.jobs).1 })

-- and so on, up to so many
abbrev pub fails_all : {S : Type 0} → Setting S → ℕ → Speaker S → Speaker S
fails_all setting zero speaker = speaker
fails_all setting (suc n) speaker = fails_all setting n (fails_first setting speaker)

-- all jobs that have failed are the session's own
abbrev pub AreOwnFailures : Name → Queue → Type 0
AreOwnFailures name jobs = All (λ one. one.failed ≡ true → is_of name.key name.session one ≡ true) jobs

-- its ready job of this place has run with this reply, and each of its jobs that fails by that is answered
abbrev pub finishes_all : {S : Type 0} → Setting S → ℕ → Job → List ℕ → Speaker S → Speaker S
finishes_all setting place job reply speaker =
    let done = finishes setting job reply (record speaker { jobs = without_ready place speaker.jobs }) in
    fails_all setting (length done.jobs) done
