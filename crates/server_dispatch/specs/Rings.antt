-- What a ring of keys says of an event: which keys are temporary, and what a binding call binds.
use Rattle.std.specs.Prelude.{◌≡◌, ℕ, List, Some, None}
use Rattle.auth_keys.specs.declared.ring.RingKey.{RingKey}
use Rattle.temp_keys.specs.Checking.{Binds, Call, IsFaultOf, call_of, is_temporary}
use Rattle.temp_keys.specs.declared.binding.Binding.{Binding}
use Rattle.temp_keys.specs.declared.binding.Bound.{Bound}
use Rattle.temp_keys.specs.declared.fault.BindFault.{BindFault}
use Rattle.server_rules.specs.Server.{Name}
use Rattle.server_rules.specs.Event.{BindingCall}
use Rattle.server_session.specs.Says.{Keys}
use Rattle.server_dispatch.specs.Bindings.{binding_told}

-- what a binding call says, as it is checked
abbrev pub said_by : BindingCall → Binding
said_by call = record { perm = call.perm; nonce = call.nonce; expires = call.expires; message = call.message }

abbrev pub checked : List RingKey → ℕ → Name → BindingCall → Call
checked ring now name call = call_of ring now name.key name.session call.number (said_by call)

-- these keys are as the ring has them: a key is temporary where the ring has it as such, and a binding call in a session
-- binds what its check says, or nothing where that refuses it
pub record AreOf (ring : List RingKey) (keys : Keys) : Type 0 where
  pub temporary : (key : ℕ) → keys.is_temporary key ≡ is_temporary ring key
  pub binds : (now : ℕ) (name : Name) (call : BindingCall) (bound : Bound) → Binds (checked ring now name call) bound → keys.bound_by now name call ≡ Some (binding_told bound)
  pub refuses : (now : ℕ) (name : Name) (call : BindingCall) (fault : BindFault) → IsFaultOf (checked ring now name call) fault → keys.bound_by now name call ≡ None
