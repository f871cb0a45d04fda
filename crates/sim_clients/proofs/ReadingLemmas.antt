-- What becomes of a client by what a packet opens to.
use Rattle.std.proofs.Common.{◌≡◌, ℕ, true, false, Option, Some, None, List, refl, ap, sym, ◌∙◌}
use Rattle.std.specs.Prelude.{is_some}
use Rattle.std.proofs.lemmas.Option.{none-some}
use Rattle.auth_keys.specs.declared.ring.RingKey.{RingKey}
use Rattle.envelope.specs.declared.parts.Dir.{Dir}
use Rattle.envelope.specs.declared.parts.Dir.TheVariants.{Down}
use Rattle.envelope.specs.declared.parts.Envelope.{Envelope}
use Rattle.envelope.specs.Opening.{Opens}
use Rattle.envelope.specs.Packet.{Lock}
use Rattle.client_rules.specs.Client.{Client, at_moment}
use Rattle.client_rules.specs.Events.{takes}
use Rattle.client_rules.specs.Taking.{take}
use Rattle.sim_clients.specs.Standing.{IsReading}

by_option : (P : Client → Type 0) (lock : Lock) (ring : List RingKey) (opens : ℕ → Dir → List ℕ → Option Envelope) (at now : ℕ) (packet : List ℕ) (whole : Client) (opened : Option Envelope)
    → opens at Down packet ≡ opened → IsReading lock ring opens
    → ((envelope : Envelope) → Opens lock ring at Down packet envelope → P (take now envelope whole))
    → (((envelope : Envelope) → Opens lock ring at Down packet envelope → ⊥) → P (at_moment now whole))
    → P (takes now opened whole)
by_option P lock ring opens at now packet whole (Some envelope) is reading some none = some envelope ((reading at Down packet envelope).0 is)
by_option P lock ring opens at now packet whole None is reading some none =
    none (λ envelope opening. none-some envelope (sym is ∙ (reading at Down packet envelope).1 opening))

pub by_reading : (P : Client → Type 0) (lock : Lock) (ring : List RingKey) (opens : ℕ → Dir → List ℕ → Option Envelope) (at now : ℕ) (packet : List ℕ) (whole : Client)
    → IsReading lock ring opens
    → ((envelope : Envelope) → Opens lock ring at Down packet envelope → P (take now envelope whole))
    → (((envelope : Envelope) → Opens lock ring at Down packet envelope → ⊥) → P (at_moment now whole))
    → P (takes now (opens at Down packet) whole)
by_reading P lock ring opens at now packet whole reading some none =
    by_option P lock ring opens at now packet whole (opens at Down packet) refl reading some none

pub opens_some : (lock : Lock) (ring : List RingKey) (opens : ℕ → Dir → List ℕ → Option Envelope) (at : ℕ) (packet : List ℕ) (envelope : Envelope)
    → IsReading lock ring opens → Opens lock ring at Down packet envelope → true ≡ is_some (opens at Down packet)
opens_some lock ring opens at packet envelope reading opening = sym (ap (λ (o : Option Envelope). is_some o) ((reading at Down packet envelope).1 opening))

none_of : (lock : Lock) (ring : List RingKey) (opens : ℕ → Dir → List ℕ → Option Envelope) (at : ℕ) (packet : List ℕ) (opened : Option Envelope)
    → opens at Down packet ≡ opened → IsReading lock ring opens → ((envelope : Envelope) → Opens lock ring at Down packet envelope → ⊥) → false ≡ is_some opened
none_of lock ring opens at packet None is reading none = refl
none_of lock ring opens at packet (Some envelope) is reading none = absurd (none envelope ((reading at Down packet envelope).0 is))

pub opens_none : (lock : Lock) (ring : List RingKey) (opens : ℕ → Dir → List ℕ → Option Envelope) (at : ℕ) (packet : List ℕ)
    → IsReading lock ring opens → ((envelope : Envelope) → Opens lock ring at Down packet envelope → ⊥) → false ≡ is_some (opens at Down packet)
opens_none lock ring opens at packet reading none = none_of lock ring opens at packet (opens at Down packet) refl reading none
