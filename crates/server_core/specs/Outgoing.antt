-- Scaffolding, and no promise: a tick as it is kept, while what is owed goes out.
use Rattle.std.specs.Prelude.{◌≡◌, ◌≢◌, ◌≤◌, ◌<◌, ℕ, List, fold, length, map, slice_index_or, All, AllPairs, IsSome, IfSome}
use Rattle.auth_keys.specs.declared.ring.RingKey.{RingKey}
use Rattle.auth_keys.specs.Rings.{entry_of}
use Rattle.envelope.specs.Packet.{Lock}
use Rattle.server_output.specs.Batch.{packets_most}
use Rattle.server_output.specs.Outs.{AreSent}
use Rattle.server_output.specs.declared.outs.Out.{Out}
use Rattle.server_rules.specs.Event.{Owed, Setting, State, speaks}
use Rattle.server_rules.specs.Sending.{all_sent, messages_by, sends}
use Rattle.server_rules.specs.Server.{Name}
use Rattle.server_session.specs.declared.session.SessionState.{SessionState}
use Rattle.server_session.specs.Names.{name_kept}
use Rattle.server_session.specs.SessionState.{IsAt, key_of, numbers_left}
use Rattle.server_core.specs.declared.tick_turns.TickTurn.{TickTurn}
use Rattle.server_core.specs.Answering.{name_at}
use Rattle.server_core.specs.Sessions.{AreKept}

-- where it has room for packets, that is enough for what it owes, and it has numbers for them
pub record IsSendable (voice : TickTurn) (left : ℕ) (messages bytes : ℕ) : Type 0 where
  pub few : voice.turn.owing.places_taken ≤ messages
  pub short : voice.turn.owing.bytes_taken ≤ bytes
  pub packets : packets_most messages bytes ≤ 5
  pub numbers : 5 ≤ left

pub record CanGoOut (ring : List RingKey) (now : ℕ) (standing : SessionState) (voice : TickTurn) : Type 0 where
  pub key : IsSome (entry_of (key_of standing) ring)
  pub at : IsAt now standing
  pub room : IfSome voice.packets (λ packets. IsSendable voice (numbers_left standing) packets.messages packets.bytes)

-- each session can send once
pub record CanSend (ring : List RingKey) (now : ℕ) (standings : List SessionState) (voices : List TickTurn) : Type 0 where
  pub long : length voices ≡ length standings
  pub each : (i : ℕ) (d : SessionState) (e : TickTurn) → i < length standings → CanGoOut ring now (slice_index_or standings i d) (slice_index_or voices i e)

-- these sessions send what they owe, one after the other
abbrev pub sent_by : {S : Type 0} → Setting S → List Owed → List Name → State S → State S
sent_by {S} setting owed names state =
    fold (λ (so_far : State S) (name : Name). speaks name (sends setting (messages_by name owed)) so_far) state names

-- some sessions have sent what they owe, and those at the places that are left have not; what is kept and has gone out is so
-- far that of the event that started so
pub record IsSending {S : Type 0} (lock : Lock) (ring : List RingKey) (setting : Setting S) (standings : List SessionState) (voices : List TickTurn) (left : List ℕ) (draw : S) (outs : List Out) (start : State S) : Type 0 where
  pub so_far : State S
  pub kept : AreKept setting.now standings so_far.sessions
  pub jobs : so_far.jobs ≡ start.jobs
  pub bindings : so_far.bindings ≡ start.bindings
  pub entries : so_far.entries ≡ start.entries
  pub same_owed : so_far.owed ≡ start.owed
  pub draws : draw ≡ so_far.draw
  pub sent : AreSent lock ring so_far.sent outs
  pub owed : (i : ℕ) (d : SessionState) (e : TickTurn) → i < length standings
      → (slice_index_or voices i e).turn.owing.messages ≡ messages_by (name_kept (slice_index_or standings i d)) start.owed
  pub packets : (e : TickTurn) → All (λ place. IsSome (slice_index_or voices place e).packets) left
  pub apart : AllPairs (λ one other. name_at standings one ≢ name_at standings other) left
  pub same : sent_by setting start.owed (map (name_at standings) left) so_far ≡ all_sent setting start
