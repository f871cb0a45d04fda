-- Scaffolding, and no promise: the room that was taken for a tick.
use Rattle.std.specs.Prelude.{◌≡◌, ◌≤◌, ◌<◌, ℕ, ◌*◌, false, List, [], length, slice_index_or, All, IfSome, IsSome}
use Rattle.waits.specs.Jobs.{Queue}
use Rattle.waits.specs.Limits.{most_jobs}
use Rattle.server_output.specs.Batch.{packets_most}
use Rattle.server_session.specs.declared.session.SessionState.{SessionState}
use Rattle.server_session.specs.Names.{name_kept}
use Rattle.server_session.specs.Rooms.{with_replies_left}
use Rattle.server_core.specs.Answering.{answers_left}
use Rattle.server_core.specs.declared.tick_turns.TickTurn.{TickTurn}

-- it has said nothing, and has room for so many answers and their packets
pub record IsFresh (most : ℕ) (voice : TickTurn) : Type 0 where
  pub owing : voice.turn.owing ≡ record { messages = []; places = most; room = most * 48; places_taken = most; bytes_taken = most * 48 }
  pub left : voice.left ≡ most
  pub spoke : voice.spoke ≡ false
  pub some : 1 ≤ most → IsSome voice.packets
  pub packets : IfSome voice.packets (λ packets. packets ≡ record { messages = most; bytes = most * 48 })
  pub few : packets_most most (most * 48) ≤ 5

-- So are these voices, one for each session. No session gives more answers than its voice has.
pub record AreFresh (now : ℕ) (jobs : Queue) (standings : List SessionState) (voices : List TickTurn) : Type 0 where
  pub long : length voices ≡ length standings
  pub each : (i : ℕ) (e : TickTurn) → i < length voices → IsFresh (slice_index_or voices i e).left (slice_index_or voices i e)
  pub few : (i : ℕ) (e : TickTurn) → i < length voices → (slice_index_or voices i e).left ≤ most_jobs
  pub enough : All (λ one. one.failed ≡ false) jobs → (i : ℕ) (d : SessionState) (e : TickTurn) → i < length voices
      → answers_left now jobs (name_kept (slice_index_or standings i d)) ≤ (slice_index_or voices i e).left

-- it is the same but for its room for answers, which is so much at least
pub record IsReserved (most : ℕ) (before after : SessionState) : Type 0 where
  pub room : ℕ
  pub enough : most ≤ room
  pub same : after ≡ with_replies_left room before

-- from this place on the sessions have room for the answers of their voices, and those in front are as they were
pub record AreReserved (place : ℕ) (before : List SessionState) (voices : List TickTurn) (after : List SessionState) : Type 0 where
  pub long : length after ≡ length before
  pub front : (i : ℕ) (d : SessionState) → i < place → slice_index_or after i d ≡ slice_index_or before i d
  pub each : (i : ℕ) (d : SessionState) (e : TickTurn) → place ≤ i → i < length before → IsReserved (slice_index_or voices i e).left (slice_index_or before i d) (slice_index_or after i d)
