-- The laws of the crates below, and the premises.
use Rattle.std.proofs.Common.{◌≡◌, ℕ, ◌<◌, ◌≤◌, ◌^◌, Bool, true, Option, Some, None, List, length, subst, sym, refl}
use Rattle.std.specs.Prelude.{is_some}
use Rattle.std.specs.List.{AllByRecursion, Contains}
use Rattle.auth_keys.specs.Keys.{identifier}
use Rattle.auth_keys.specs.Rings.{entry_of}
use Rattle.auth_keys.specs.declared.ring.RingKey.{RingKey}
use Rattle.envelope.specs.declared.parts.Dir.{Dir}
use Rattle.envelope.specs.declared.parts.Envelope.{Envelope}
use Rattle.envelope.specs.Packet.{IsEnvelope, IsPadding, Lock, Sealed, body_max, packet_of}
use Rattle.envelope.specs.Sizes.{KeepsSizes}
use Rattle.regs_service.specs.Served.{Step}
use Rattle.server_rules.specs.Event as server
use Rattle.server_rules.specs.Events as events
use Rattle.law_server_bounds.specs.Small.{DrawsWords}
use Rattle.client_rules.specs.Client.{Client, Temporary}
use Rattle.client_rules.specs.Events as wishes
use Rattle.client_rules.specs.Flush.{flush}
use Rattle.client_rules.specs.Sending as sending
use Rattle.law_packets.specs.Steady as own
use Rattle.law_server_bounds.specs.Steady as kept
use Rattle.world_rules.specs.Premises.{IsSealed, IsSound}
use Rattle.world_rules.specs.Setting.{Setting, at_client}
use Rattle.law_packets.specs.Lawful.{is_held}

-- what the laws say
pub record Laws (S V : Type 0) : Type 0 where
  pub found : (id : ℕ) (ring : List RingKey) (entry : RingKey) → entry_of id ring ≡ Some entry → Contains ring entry × (identifier entry.key ≡ id)
  pub long : (key : List ℕ) → identifier key < 2 ^ 64
  pub sealed : (lock : Lock) (ring : List RingKey) (dir : Dir) (envelope : Envelope) (padding : List ℕ) (entry : RingKey) → KeepsSizes lock
      → entry_of envelope.key ring ≡ Some entry → IsEnvelope envelope → length envelope.body ≤ body_max → IsPadding (length envelope.body) padding
      → Sealed lock ring dir envelope padding (packet_of lock entry.key dir envelope padding)
  pub made : (known : ℕ → Bool) (setting : sending.Setting S) (key : ℕ) (temporary : Option Temporary) (draw : S) → own.IsFit setting → known key ≡ true → key < 2 ^ 64
      → own.IsTemporary temporary → own.IsSteady known (wishes.made setting key temporary draw).client
  pub step : (known : ℕ → Bool) (setting : sending.Setting S) (run : wishes.Run S) (event : wishes.Event) → own.IsFit setting → own.IsFair event → own.IsSteady known run.client
      → own.IsSteady known (wishes.step setting run event).client
  pub flushed : (known : ℕ → Bool) (setting : sending.Setting S) (now : ℕ) (client : Client) (draw : S) → own.IsFit setting → own.IsSteady known client
      → own.IsSteady known (flush setting now client draw).client
  pub sent : (known : ℕ → Bool) (setting : sending.Setting S) (now : ℕ) (client : Client) (draw : S) → own.IsFit setting → own.IsSteady known client
      → own.MayGo known (flush setting now client draw).answer
  pub steady : (known : ℕ → Bool) (setting : server.Setting S) (serve : Step V) (service : V) (course : events.Course S V) (event : events.Event) → DrawsWords setting
      → kept.IsFair known serve course event → kept.IsSteady known course.server → kept.IsSteady known (events.after_event setting serve service course event).server
  pub packets : (known : ℕ → Bool) (setting : server.Setting S) (serve : Step V) (service : V) (course : events.Course S V) (event : events.Event) → DrawsWords setting
      → kept.IsFair known serve course event → kept.IsSteady known course.server → AllByRecursion (kept.IsSealable known) course.packets
      → AllByRecursion (kept.IsSealable known) (events.after_event setting serve service course event).packets

-- what is taken for granted
pub record Premises {S V : Type 0} (lock : Lock) (ring : List RingKey) (setting : Setting S V) : Type 0 where
  pub sizes : KeepsSizes lock
  pub seal : IsSealed lock ring setting
  pub sound : IsSound ring setting

-- the key that is held
entry-held : (found : Option RingKey) → is_some found ≡ true → (entry : RingKey) × (found ≡ Some entry)
entry-held None is = absurd (cc)
entry-held (Some entry) is = (entry, refl)

module _ {S V : Type 0} (laws : Laws S V) (lock : Lock) (ring : List RingKey) (setting : Setting S V) (premises : Premises lock ring setting) where
  -- a packet of lawful parts is sealed
  pub is-sealed : (dir : Dir) (envelope : Envelope) (padding : List ℕ) → is_held ring envelope.key ≡ true → IsEnvelope envelope → length envelope.body ≤ body_max
      → IsPadding (length envelope.body) padding → Sealed lock ring dir envelope padding (setting.sealed dir envelope padding)
  is-sealed dir envelope padding held lawful short padded =
      let entry = entry-held (entry_of envelope.key ring) held in
      let same = premises.seal.sealed dir envelope padding entry.0 entry.1 in
      let P : List ℕ → Type 0 = λ bytes. Sealed lock ring dir envelope padding bytes in
      subst P (sym same) (laws.sealed lock ring dir envelope padding entry.0 premises.sizes entry.1 lawful short padded)

  pub key-long : (key : ℕ) → is_held ring key ≡ true → key < 2 ^ 64
  key-long key held =
      let entry = entry-held (entry_of key ring) held in
      let L : ℕ → Type 0 = λ id. id < 2 ^ 64 in
      subst L (laws.found key ring entry.0 entry.1).1 (laws.long entry.0.key)

  -- what opens is a lawful envelope under a key of the ring
  pub record IsOpened (envelope : Envelope) : Type 0 where
    pub lawful : IsEnvelope envelope
    pub held : is_held ring envelope.key ≡ true

  pub opened-is : (now : ℕ) (dir : Dir) (bytes : List ℕ) (envelope : Envelope) → setting.opens now dir bytes ≡ Some envelope → IsOpened envelope
  opened-is now dir bytes envelope is =
      let opens = (premises.seal.opens now dir bytes envelope).0 is in
      let sealed = opens.sealed in
      let H : Option RingKey → Type 0 = λ found. is_some found ≡ true in
      record { lawful = sealed.lawful; held = subst H (sym sealed.found) refl }

  pub fit : own.IsFit (at_client setting)
  fit = record { words = premises.sound.words; bindings = premises.sound.bindings }
