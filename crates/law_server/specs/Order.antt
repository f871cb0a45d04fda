-- What holds of a server after every list of events: its sessions, their replies and their jobs fit each other.
use Rattle.std.specs.Prelude.{◌≡◌, ◌≢◌, ℕ, ◌+◌, ◌<◌, Bool, true, false, if◌then◌else◌, Option, Some, None, List, [], ◌∷◌, All, AllPairs, Contains}
use Rattle.std.specs.List.{filter}
use Rattle.id_window.specs.History.{History, FirstJudgement, AcceptedCall, EachOnce, was_accepted}
use Rattle.service_tl.specs.declared.item.Item.{Item}
use Rattle.service_tl.specs.declared.item.Item.TheVariants.{RpcResult, InvokeAfterMsg, InvokeAfterMsgs, Call}
use Rattle.inbox.specs.Verdicts.{Verdict, Accepted, Judgement}
use Rattle.inbox.specs.Judging.{is_accepted}
use Rattle.packing.specs.Numbering.{numbered}
use Rattle.waits.specs.Jobs.{Queue, is_of}
use Rattle.server_rules.specs.Server.{Session, Name, Reply, IsKept, name_of, session_named}
use Rattle.server_rules.specs.Event.{Setting, Speaker}

-- ---- numbers of a session

-- the number was accepted
abbrev pub WasAccepted : ℕ → History → Type 0
WasAccepted number history =
    (judgement : FirstJudgement) × Contains history judgement × (judgement.number ≡ number) × (was_accepted judgement.outcome ≡ true)

-- it was accepted as a call
abbrev pub WasCalled : ℕ → History → Type 0
WasCalled number history =
    (judgement : FirstJudgement) × Contains history judgement × (judgement.number ≡ number) × (judgement.outcome ≡ AcceptedCall)

-- no reply is to this number
abbrev pub IsUnanswered : List Reply → ℕ → Type 0
IsUnanswered replies number = All (λ reply. reply.call ≢ number) replies

-- no job is the call of this number
abbrev pub HasNoJob : Queue → ℕ → Type 0
HasNoJob jobs number = All (λ one. one.job.number ≢ number) jobs

-- ---- one session

-- the replies of a session, by its history and the last number that it gave
pub record AreReplies (history : History) (replies : List Reply) (last : ℕ) : Type 0 where
  -- each is to a number that was accepted, and no two are to one
  pub accepted : All (λ reply. WasAccepted reply.call history) replies
  pub once : AllPairs (λ one other. one.call ≢ other.call) replies
  -- their own numbers rise, and are below the next one that is given
  pub rising : AllPairs (λ one other. one.number < other.number) replies
  pub given : All (λ reply. reply.number < last + 4) replies

-- the unfinished jobs of a session
pub record AreJobs (history : History) (replies : List Reply) (jobs : Queue) : Type 0 where
  -- each is a number that was accepted as a call, and has no reply; no two are one number
  pub called : All (λ one. WasCalled one.job.number history) jobs
  pub unanswered : All (λ one. IsUnanswered replies one.job.number) jobs
  pub once : AllPairs (λ one other. one.job.number ≢ other.job.number) jobs

-- a session and its jobs
pub record IsOrderly (history : History) (replies : List Reply) (last : ℕ) (jobs : Queue) : Type 0 where
  -- no number was judged twice
  pub judged : EachOnce history
  pub replied : AreReplies history replies last
  pub unfinished : AreJobs history replies jobs

-- an accepted message that is this item is a call for the service: it becomes a job, or is answered in place of one
abbrev pub is_for_service : Item → Bool
is_for_service Call = true
is_for_service (InvokeAfterMsg other query) = true
is_for_service (InvokeAfterMsgs others query) = true
is_for_service _ = false

-- ---- within an event

-- Numbers of a session that are open: they were accepted just now, or their jobs were taken out just now, and they are
-- neither answered nor jobs yet.
pub record AreOpen (open_numbers : List ℕ) (history : History) (replies : List Reply) (jobs : Queue) : Type 0 where
  pub once : AllPairs (λ one other. one ≢ other) open_numbers
  pub accepted : All (λ number. WasAccepted number history) open_numbers
  pub unanswered : All (IsUnanswered replies) open_numbers
  pub unfinished : All (HasNoJob jobs) open_numbers

pub record IsMidway (open_numbers : List ℕ) (history : History) (replies : List Reply) (last : ℕ) (jobs : Queue) : Type 0 where
  pub order : IsOrderly history replies last jobs
  pub opened : AreOpen open_numbers history replies jobs

-- the numbers of judgements that accepted, in order
abbrev pub opens_of : List Judgement → List ℕ
opens_of [] = []
opens_of (judgement ∷ judged) = if is_accepted judgement.verdict then judgement.number ∷ opens_of judged else opens_of judged

-- what an accepted number has in a history
pub record IsTold (number : ℕ) (verdict : Verdict) (history : History) : Type 0 where
  pub accepted : is_accepted verdict ≡ true → WasAccepted number history
  pub called : (item : Item) → verdict ≡ Accepted item → is_for_service item ≡ true → WasCalled number history

-- the jobs of the session of this name
abbrev pub jobs_of : Name → Queue → Queue
jobs_of name jobs = filter (is_of name.key name.session) jobs

-- A session as it speaks, by its parts: it has this name, this history and these open numbers, and the jobs of other
-- names are these.
pub record Speaks (name : Name) (others : Name → Queue) (past : History) (open_numbers : List ℕ) (key number : ℕ) (history : History) (replies : List Reply) (last : ℕ) (jobs : Queue) : Type 0 where
  pub of_key : key ≡ name.key
  pub of_session : number ≡ name.session
  pub same : history ≡ past
  pub midway : IsMidway open_numbers history replies last (jobs_of name jobs)
  pub apart : (other : Name) → other ≢ name → jobs_of other jobs ≡ others other

abbrev pub IsSpeaking : {S : Type 0} → Name → (Name → Queue) → History → List ℕ → Speaker S → Type 0
IsSpeaking name others past open_numbers speaker =
    Speaks name others past open_numbers speaker.session.key speaker.session.number speaker.session.history speaker.session.replies
    speaker.session.counters.last speaker.jobs

-- the session of a name with its jobs: there are no jobs where there is none
abbrev pub IsMidwayAt : History → List ℕ → Option Session → Queue → Type 0
IsMidwayAt past open_numbers None jobs = jobs ≡ []
IsMidwayAt past open_numbers (Some session) jobs =
    (session.history ≡ past) × IsMidway open_numbers session.history session.replies session.counters.last jobs

-- all sessions, each with its own history and open numbers
pub record IsGoingOn (past : Name → History) (open_at : Name → List ℕ) (sessions : List Session) (jobs : Queue) : Type 0 where
  pub names : AllPairs (λ one other. name_of one ≢ name_of other) sessions
  pub each : (name : Name) → IsMidwayAt (past name) (open_at name) (session_named name sessions) (jobs_of name jobs)

-- the reply that an answer makes
abbrev pub reply_made : {S : Type 0} → Setting S → ℕ → List ℕ → Speaker S → Reply
reply_made setting call content speaker =
    record {
      call = call;
      number = (numbered setting.now speaker.session.counters (RpcResult call content)).number;
      seq = (numbered setting.now speaker.session.counters (RpcResult call content)).seq;
      content = content;
      fate = IsKept;
    }

-- ---- between events

abbrev pub IsOrderlyAt : Option Session → Queue → Type 0
IsOrderlyAt None jobs = jobs ≡ []
IsOrderlyAt (Some session) jobs = IsOrderly session.history session.replies session.counters.last jobs

-- the sessions, jobs and replies of a server fit each other
pub record AreOrdered (sessions : List Session) (jobs : Queue) : Type 0 where
  -- there is one session at most of each name
  pub names : AllPairs (λ one other. name_of one ≢ name_of other) sessions
  -- each job is one of a session that stands, and fits that
  pub each : (name : Name) → IsOrderlyAt (session_named name sessions) (jobs_of name jobs)
  -- no job that has failed is left
  pub unfailed : All (λ one. one.failed ≡ false) jobs
