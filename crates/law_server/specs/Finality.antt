-- What becomes of the calls of a life: each is unfinished, or was entered once.
use Rattle.std.specs.Prelude.{◌≡◌, ◌≢◌, ℕ, ◌+◌, ◌≤◌, ◌==◌, Bool, true, false, is_some, Some, List, map, length}
use Rattle.std.specs.List.{filter, All, AllPairs, Contains}
use Rattle.id_window.specs.History.{History, EachOnce, was_accepted}
use Rattle.waits.specs.declared.job.Unfinished.{Unfinished}
use Rattle.waits.specs.Jobs.{Queue, is_of, is_call, one_if}
use Rattle.server_rules.specs.Server.{Session, Name, session_named}
use Rattle.server_rules.specs.Event.{Entry}
use Rattle.law_server.specs.Lives.{Acceptance, Life, request_of}

-- how many unfinished jobs are the call of this number
abbrev pub unfinished_at : Name → ℕ → Queue → ℕ
unfinished_at name number jobs = length (filter (is_call name.key name.session number) jobs)

-- how many entries are of this number
abbrev pub entered_at : ℕ → List Entry → ℕ
entered_at number entries = length (filter (λ entry. entry.number == number) entries)

-- an accepted message is a call: it asks something of the service
abbrev pub is_asking : Acceptance → Bool
is_asking one = is_some (request_of one.item one.body)

-- a message of this number was accepted, and this is what it asks
abbrev pub WasAsked : List Acceptance → ℕ → List ℕ → Type 0
WasAsked accepted number request =
    (one : Acceptance) × Contains accepted one × (one.number ≡ number) × (request_of one.item one.body ≡ Some request)

-- the numbers that a history accepted
abbrev pub accepted_numbers : History → List ℕ
accepted_numbers history = map (λ judgement. judgement.number) (filter (λ judgement. was_accepted judgement.outcome) history)

-- A life, by the unfinished jobs of the server.
pub record IsFinal (jobs : Queue) (life : Life) : Type 0 where
  -- no number was judged twice; what was accepted is what the history says
  pub judged : EachOnce life.history
  pub accepted : map (λ one. one.number) life.accepted ≡ accepted_numbers life.history
  -- while it stands a call has its job or exactly one entry, never both, and any other message has neither
  pub standing : life.stands ≡ true
      → All (λ one. unfinished_at life.name one.number jobs + entered_at one.number life.entries ≡ one_if (is_asking one)) life.accepted
  -- once it is lost a call has one entry at most, and any other message has none
  pub lost : life.stands ≡ false → All (λ one. entered_at one.number life.entries ≤ one_if (is_asking one)) life.accepted
  -- a number that was noticed has neither
  pub noticed : All (λ judgement. was_accepted judgement.outcome ≡ false → entered_at judgement.number life.entries ≡ 0) life.history
  pub unworked : life.stands ≡ true
      → All (λ judgement. was_accepted judgement.outcome ≡ false → unfinished_at life.name judgement.number jobs ≡ 0) life.history
  -- each entry and each job is of a call that was accepted, and has what that asks
  pub entered : All (λ entry. WasAsked life.accepted entry.number entry.request) life.entries
  pub waiting : life.stands ≡ true
      → All (λ one. is_of life.name.key life.name.session one ≡ true → WasAsked life.accepted one.job.number one.job.request) jobs

-- a life that stands is that of the session of its name
abbrev pub IsLifeOf : Life → Session → Type 0
IsLifeOf life session = (session.first ≡ life.first) × (session.unique ≡ life.unique) × (session.history ≡ life.history)

abbrev pub IsStanding : List Session → Life → Type 0
IsStanding sessions life =
    life.stands ≡ true → (session : Session) × (session_named life.name sessions ≡ Some session) × IsLifeOf life session

-- each session that stands has a life that stands
abbrev pub AreLived : List Session → List Life → Type 0
AreLived sessions lives =
    (name : Name) (session : Session) → session_named name sessions ≡ Some session
    → (life : Life) × Contains lives life × (life.stands ≡ true) × (life.name ≡ name)

-- no two lives that stand have one name
abbrev pub AreApart : List Life → Type 0
AreApart lives = AllPairs (λ one other. one.stands ≡ true → other.stands ≡ true → one.name ≢ other.name) lives

-- an unfinished job is of a life that stands, which accepted its call: so a lost session has none
abbrev pub IsOfLife : List Life → Unfinished → Type 0
IsOfLife lives one =
    (life : Life)
    × Contains lives life
    × (life.stands ≡ true)
    × (life.name ≡ record { key = one.job.key; session = one.job.session })
    × WasAsked life.accepted one.job.number one.job.request
