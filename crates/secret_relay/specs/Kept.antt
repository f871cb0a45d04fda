-- What a relay keeps.
use Rattle.std.specs.Prelude.{◌≢◌, ⊤, ℕ, List}
use Rattle.transport.specs.declared.form.Form.{Form}
use Rattle.transport.specs.declared.form.Form.TheVariants.{Full}
use Rattle.secret_relay.specs.declared.fault.RelayFault.{RelayFault}
use Rattle.secret_relay.specs.declared.fault.RelayFault.TheVariants as faults
use Rattle.secret_relay.specs.declared.phase.Phase.{Phase}
use Rattle.secret_relay.specs.declared.phase.Phase.TheVariants.{Awaits, Links, Ended}

-- the form of the plain side, the secret, and how far it came
pub record Kept : Type 0 where
  pub form : Form
  pub secret : List ℕ
  pub phase : Phase

-- a fault that ends a relay
abbrev pub IsEnd : RelayFault → Type 0
IsEnd faults.Early = ⊥
IsEnd (faults.Start found) = ⊤
IsEnd (faults.Frame fault) = ⊤
IsEnd (faults.Length len) = ⊤
IsEnd faults.Memory = ⊥

-- no side is of the full form, and only such a fault ended it
abbrev pub IsSound : Form → Phase → Type 0
IsSound form (Awaits first) = form ≢ Full
IsSound form (Links link) = (form ≢ Full) × (link.form ≢ Full)
IsSound form (Ended fault) = (form ≢ Full) × IsEnd fault
