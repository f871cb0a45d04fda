-- Where the records of a journal lead.
use Rattle.std.specs.Prelude.{◌≡◌, ◌≤◌, ℕ, List}
use Rattle.auth_keys.specs.declared.ring.RingKey.{RingKey}
use Rattle.envelope.specs.Packet.{Lock}
use Rattle.ring_rules.specs.Binding.{keys_of}
use Rattle.server_session.specs.Says.{setting_of}
use Rattle.sess_journal.specs.Replay.{Basis, Reached, Replays, at_first}
use Rattle.world_rules.specs.Setting.{Setting, at_server}
use Rattle.law_crashes.specs.Crashes.{Living}

-- what a replay stands on under this lock and ring: the draw of the journal's seed at a place, and the place of a draw
abbrev pub basis_of : {S : Type 0} → Lock → List RingKey → (S → ℕ × S) → (ℕ → S) → (S → ℕ) → Basis S
basis_of lock ring step at place_of = record { lock = lock; keys = ring; step = step; at = at; place_of = place_of }

-- the servers of a setting draw so, and see what this ring says of keys and bindings
abbrev pub SeesRing : {S V : Type 0} → (S → ℕ × S) → List RingKey → Setting S V → Type 0
SeesRing step ring setting = at_server setting ≡ setting_of 0 step (keys_of ring)

-- The journal's records lead to what is reached: the server is that one, but for a later moment, and its draw stands at the
-- place that is reached.
pub record IsReached {S V : Type 0} (basis : Basis S) (living : Living S V) : Type 0 where
  pub reached : Reached
  pub replays : Replays basis living.records at_first reached
  pub same : living.joint.world.server ≡ record reached.server { now = living.joint.world.server.now }
  pub later : reached.server.now ≤ living.joint.world.server.now
  pub drawn : living.joint.world.draw ≡ basis.at reached.place

-- The server is the one that they lead to, and its draw stands at the place that is reached.
pub record IsOpened {S V : Type 0} (basis : Basis S) (living : Living S V) : Type 0 where
  pub reached : Reached
  pub replays : Replays basis living.records at_first reached
  pub same : living.joint.world.server ≡ reached.server
  pub drawn : living.joint.world.draw ≡ basis.at reached.place
