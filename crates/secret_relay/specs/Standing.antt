-- Which connection a relay stands for.
use Rattle.std.specs.Prelude.{◌≡◌, ⊤, ℕ, List, ◌++◌, length}
use Rattle.cipher_modes.specs.CounterMode.{advanced}
use Rattle.transport.specs.declared.form.Form.{Form}
use Rattle.secret_relay.specs.declared.fault.RelayFault.{RelayFault}
use Rattle.secret_relay.specs.declared.fault.RelayFault.TheVariants as faults
use Rattle.secret_relay.specs.declared.link.Link.{Link}
use Rattle.secret_relay.specs.declared.phase.Phase.{Phase}
use Rattle.secret_relay.specs.declared.phase.Phase.TheVariants.{Awaits, Links, Ended}
use Rattle.secret_relay.specs.Kept.{Kept}
use Rattle.secret_relay.specs.Stories.{Story, IsEarly, GoesOn, form_in}

-- it awaits more of the client's first bytes, and keeps those that came
pub record AwaitsMore (bytes : List ℕ) (story : Story) : Type 0 where
  pub first : bytes ≡ story.client
  pub early : IsEarly story

-- It goes on, and keeps the form inside, what is left of either side's stream behind its packets, and where both key streams
-- stand.
pub record KeepsLink (form : Form) (secret : List ℕ) (link : Link) (story : Story) : Type 0 where
  pub so_far : GoesOn form secret story
  pub inside : link.form ≡ form_in so_far.opens.pair
  pub up : link.up ≡ advanced so_far.opens.pair.up (length so_far.opens.rest)
  pub down : link.down ≡ advanced so_far.opens.pair.down (length story.downwards)
  pub client : link.client ≡ so_far.client.rest
  pub server : link.server ≡ so_far.server.rest

abbrev pub StandsIn : Form → List ℕ → Phase → Story → Type 0
StandsIn form secret (Awaits first) story = AwaitsMore first story
StandsIn form secret (Links link) story = KeepsLink form secret link story
StandsIn form secret (Ended fault) story = ⊥

-- The relay stands for this connection. One that ended stands for none.
abbrev pub Stands : Kept → Story → Type 0
Stands relay story = StandsIn relay.form relay.secret relay.phase story

-- that it ended, with this fault
abbrev pub HasEnded : RelayFault → Kept → Type 0
HasEnded fault relay = relay.phase ≡ Ended fault

-- ---- what a call answers

-- what a call put behind the text, of which this holds
pub record Adds (old new : List ℕ) (P : List ℕ → Type 0) : Type 0 where
  pub more : List ℕ
  pub appended : new ≡ old ++ more
  pub holds : P more

-- for the faults that end a relay
abbrev pub OnEnd : RelayFault → Type 0 → Type 0
OnEnd faults.Early P = ⊤
OnEnd (faults.Start found) P = P
OnEnd (faults.Frame fault) P = P
OnEnd (faults.Length len) P = P
OnEnd faults.Memory P = ⊤
