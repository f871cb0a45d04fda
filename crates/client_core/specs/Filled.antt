-- What a packet is filled with, item by item, by what waits when an item's turn comes: scaffolding of private functions, and
-- no promise.
use Rattle.std.specs.Prelude.{◌≡◌, ◌≤◌, ◌+◌, ◌%◌, ℕ, List, [], ◌∷◌, length, fold}
use Rattle.containers.specs.Container.{bytes_max}
use Rattle.envelope.specs.Packet.{sealed_size, to_seal}
use Rattle.client_rules.specs.Sending.{Setting}
use Rattle.client_rules.specs.Filling.{Filling, says_acks, says_binding, says_call, says_destroyed, says_drop, says_ping, says_resent, says_salts, says_states, says_told}
use Rattle.service_tl.specs.declared.lists.Message.{Message}
use Rattle.packing.specs.Packing.{packed}
use Rattle.client_core.specs.Draft.{drops, queue}
use Rattle.client_core.specs.declared.filling.Filled.{Filled}

abbrev pub own_acks : {S : Type 0} → Filling S → Filling S
own_acks filling = says_acks filling.client.table.acks filling

abbrev pub own_told : {S : Type 0} → Filling S → Filling S
own_told filling = says_told filling.client.waiting.told filling

abbrev pub own_resent : {S : Type 0} → Filling S → Filling S
own_resent filling = says_resent filling.client.waiting.resent filling

abbrev pub own_states : {S : Type 0} → Filling S → Filling S
own_states filling = says_states filling.client.waiting.states filling

abbrev pub own_ping : {S : Type 0} → Filling S → Filling S
own_ping filling = says_ping filling.client.waiting.ping filling

abbrev pub own_salts : {S : Type 0} → Filling S → Filling S
own_salts filling = says_salts filling.client.waiting.salts filling

abbrev pub own_destroyed : {S : Type 0} → Filling S → Filling S
own_destroyed filling = says_destroyed filling.client.waiting.destroyed filling

abbrev pub own_binding : {S : Type 0} → Setting S → Filling S → Filling S
own_binding setting filling = says_binding setting filling.client.temporary filling

abbrev pub own_drops : {S : Type 0} → Filling S → Filling S
own_drops filling = fold says_drop filling (drops filling)

abbrev pub own_calls : {S : Type 0} → Filling S → Filling S
own_calls filling = fold says_call filling (queue filling)

-- what waits beside the calls and the binding
abbrev pub waiting_said : {S : Type 0} → Filling S → Filling S
waiting_said filling = own_destroyed (own_salts (own_ping (own_states (own_resent (own_told (own_acks filling))))))

-- the packet's body, behind what a seal puts in front
abbrev pub body_in : Filled → List ℕ
body_in filled = to_seal filled.text.bytes

-- there is room for what a seal puts around it
pub record CanBeSealed (filled : Filled) : Type 0 where
  pub front : 56 ≤ length filled.text.bytes
  pub words : length (body_in filled) % 4 ≡ 0
  pub short : length (body_in filled) ≤ bytes_max
  pub room : sealed_size (length (body_in filled)) ≤ length filled.text.bytes + filled.text.room

-- the only message of a packet
abbrev pub lone_of : Filled → Message
lone_of filled = record { number = filled.number; seq = filled.seq; body = body_in filled }

-- what a packet was filled with
pub record IsPacked {S : Type 0} (filled : Filled) (filling : Filling S) : Type 0 where
  pub count : filled.count ≡ length filling.messages
  pub last : (one : Message) → filling.messages ≡ one ∷ [] → (filled.number ≡ one.number) × (filled.seq ≡ one.seq)
  pub body : body_in filled ≡ packed filling.messages
  pub inner : filled.inner ≡ filling.inner
