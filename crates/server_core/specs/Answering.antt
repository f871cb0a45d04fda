-- Scaffolding, and no promise: a tick as it is kept, while its jobs are answered.
use Rattle.std.specs.Prelude.{◌≡◌, ◌≤◌, ◌<◌, ℕ, ◌+◌, ◌*◌, ◌||◌, not, Bool, true, if◌then◌else◌, Option, List, [], length, map, slice_index_or, sum_by, All, IfSome, IsSome}
use Rattle.std.specs.List.{list_any}
use Rattle.waits.specs.declared.job.Job.{Job}
use Rattle.waits.specs.declared.job.Unfinished.{Unfinished}
use Rattle.waits.specs.Jobs.{Queue, blocked_count, first_job, has_failed, is_overdue, one_if, without_first}
use Rattle.server_output.specs.Batch.{packets_most}
use Rattle.server_dispatch.specs.Entries.{Held}
use Rattle.server_dispatch.specs.declared.turn.Turn.{Turn}
use Rattle.server_rules.specs.Event.{Entry, Setting, State}
use Rattle.server_rules.specs.Sending.{messages_by, names_in}
use Rattle.server_rules.specs.Server.{Binding, Name, session_named}
use Rattle.server_rules.specs.Speaking.{msg_wait_failed, msg_wait_timeout}
use Rattle.server_rules.specs.Waiting.{all_given_up}
use Rattle.law_server.specs.Order.{IsOrderlyAt, jobs_of}
use Rattle.server_session.specs.declared.session.SessionState.{SessionState}
use Rattle.server_session.specs.Names.{name_kept}
use Rattle.server_session.specs.SessionState.{numbers_left, replies_left}
use Rattle.server_core.specs.declared.tick_turns.Cause.{Cause}
use Rattle.server_core.specs.declared.tick_turns.Cause.TheVariants.{Overdue, Failed}
use Rattle.server_core.specs.declared.tick_turns.TickTurn.{TickTurn}
use Rattle.server_core.specs.Sessions.{AreKept}
use Rattle.server_core.specs.Ticking.{has_spoken}

-- ---- which jobs are answered

-- what a job is that is answered for this cause
abbrev pub test_of : ℕ → Cause → Unfinished → Bool
test_of now Overdue = is_overdue now
test_of now Failed = has_failed

-- the first such job, and the others
abbrev pub first_for : ℕ → Cause → Queue → Option Job × Queue
first_for now cause queue = (first_job (test_of now cause) queue, without_first (test_of now cause) queue)

-- with what it is answered
abbrev pub content_for : Cause → List ℕ
content_for Overdue = msg_wait_timeout
content_for Failed = msg_wait_failed

-- a job that is to be answered in a tick
abbrev pub is_due : ℕ → Unfinished → Bool
is_due now one = is_overdue now one || has_failed one

-- each job that is so is due
abbrev pub IsDueTest : ℕ → (Unfinished → Bool) → Type 0
IsDueTest now test = (one : Unfinished) → test one ≡ true → is_due now one ≡ true

-- how many answers a session gives at most, with these jobs of its own: none where none is due
abbrev pub most_answers : ℕ → Queue → ℕ
most_answers now own = if list_any (is_due now) own then blocked_count own else 0

abbrev pub answers_left : ℕ → Queue → Name → ℕ
answers_left now jobs name = most_answers now (jobs_of name jobs)

-- ---- room

-- its turn, with the entries of the tick
abbrev pub turn_with : TickTurn → Held → Turn
turn_with voice entries = record { owing = voice.turn.owing; entries = entries }

-- the room of a session for its answers and their packets
pub record IsVoice (standing : SessionState) (voice : TickTurn) : Type 0 where
  pub places : voice.left ≤ voice.turn.owing.places
  pub bytes : voice.left * 48 ≤ voice.turn.owing.room
  pub replies : voice.left ≤ replies_left standing
  pub numbers : voice.left + 5 ≤ numbers_left standing
  -- where it may speak or has spoken there is room for its packets, for all that it can owe
  pub some : 1 ≤ voice.left + one_if voice.spoke → IsSome voice.packets
  pub packets : IfSome voice.packets (λ packets. packets ≡ record { messages = voice.turn.owing.places_taken; bytes = voice.turn.owing.bytes_taken })
  pub few : packets_most voice.turn.owing.places_taken voice.turn.owing.bytes_taken ≤ 5

-- 1 where it has said nothing
abbrev pub silent : TickTurn → ℕ
silent voice = one_if (not voice.spoke)

-- each session has a voice at its place; those that spoke are in order; and there is room for the entries
pub record AreVoices (standings : List SessionState) (voices : List TickTurn) (order : List ℕ) (room : ℕ) : Type 0 where
  pub long : length voices ≡ length standings
  pub each : (i : ℕ) (d : SessionState) (e : TickTurn) → i < length standings → IsVoice (slice_index_or standings i d) (slice_index_or voices i e)
  pub within : All (λ place. place < length standings) order
  pub entries : sum_by (λ voice. voice.left) voices ≤ room
  pub silent : sum_by silent voices + length order ≤ length standings

-- ---- what it stands for

-- a name that stands where there is no session
abbrev pub no_name : Name
no_name = record { key = 0; session = 0 }

-- the name of the session at this place
abbrev pub name_at : List SessionState → ℕ → Name
name_at standings place = slice_index_or (map name_kept standings) place no_name

-- what a session owes in the tick, and the order of first words, are the event's
pub record IsInTick {S : Type 0} (now : ℕ) (standings : List SessionState) (voices : List TickTurn) (order : List ℕ) (made : List Entry) (queue : Queue) (bound : List Binding) (draw : S) (state : State S) : Type 0 where
  pub kept : AreKept now standings state.sessions
  pub jobs : queue ≡ state.jobs
  pub bindings : bound ≡ state.bindings
  pub draws : draw ≡ state.draw
  pub entries : made ≡ state.entries
  pub sent : state.sent ≡ []
  pub in_order : (name : Name) → IsOrderlyAt (session_named name state.sessions) (jobs_of name state.jobs)
  pub owed : (i : ℕ) (d : SessionState) (e : TickTurn) → i < length standings
      → (slice_index_or voices i e).turn.owing.messages ≡ messages_by (name_kept (slice_index_or standings i d)) state.owed
  pub spoke : (i : ℕ) (d : SessionState) (e : TickTurn) → i < length standings
      → (slice_index_or voices i e).spoke ≡ has_spoken (name_kept (slice_index_or standings i d)) state.owed
  pub enough : (i : ℕ) (d : SessionState) (e : TickTurn) → i < length standings
      → answers_left now state.jobs (name_kept (slice_index_or standings i d)) ≤ (slice_index_or voices i e).left
  pub first : map (name_at standings) order ≡ names_in state.owed

-- there is such an event
pub record AreInTick (S : Type 0) (now : ℕ) (standings : List SessionState) (voices : List TickTurn) (order : List ℕ) (made : List Entry) (queue : Queue) : Type 0 where
  pub bound : List Binding
  pub draw : S
  pub state : State S
  pub is : IsInTick now standings voices order made queue bound draw state

-- so many steps of answering all jobs for a cause were made, and what is left of them gives what all give
pub record GoesOn {S : Type 0} (setting : Setting S) (cause : Cause) (steps all : ℕ) (standings : List SessionState) (voices : List TickTurn) (order : List ℕ) (made : List Entry) (queue : Queue) (bound : List Binding) (draw : S) (start : State S) : Type 0 where
  pub state : State S
  pub left : ℕ
  pub rest : left + steps ≡ all
  pub is : IsInTick setting.now standings voices order made queue bound draw state
  pub same : all_given_up setting (content_for cause) (first_for setting.now cause) left state ≡ all_given_up setting (content_for cause) (first_for setting.now cause) all start
