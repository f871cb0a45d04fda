-- What is answered to a client's user.
use Rattle.std.specs.Prelude.{◌≡◌, Bool, true, false, Option, Some, None, Result, Ok, Err}
use Rattle.client_rules.specs.Client.{Binding, Needed, Asked, Held, Bound, Refused}
use Rattle.client_rules.specs.Asking.{Fault}
use Rattle.client_rules.specs.Asking as fault
use Rattle.client_core.specs.declared.binding.BindState.{BindState}
use Rattle.client_core.specs.declared.binding.BindState.TheVariants as told
use Rattle.client_core.specs.declared.fault.NotSent.{NotSent}
use Rattle.client_core.specs.declared.fault.SubmitFault.{SubmitFault}
use Rattle.client_core.specs.declared.fault.SubmitFault.TheVariants as refused

-- the answer is the refusal where there is one; else the call is taken, unless memory runs out
abbrev pub TellsFault : {X : Type 0} → Option Fault → Result X SubmitFault → Type 0
TellsFault due (Ok taken) = due ≡ None
TellsFault due (Err (refused.TooLong len)) = due ≡ Some (fault.TooLong len)
TellsFault due (Err (refused.NotWords len)) = due ≡ Some (fault.NotWords len)
TellsFault due (Err (refused.ServiceTag tag)) = due ≡ Some (fault.ServiceTag tag)
TellsFault due (Err refused.NoSuchCall) = due ≡ Some fault.NoSuchCall
TellsFault due (Err refused.TooMany) = due ≡ Some fault.TooMany
TellsFault due (Err refused.Memory) = due ≡ None

-- the answer is the refusal exactly where the answer to a call can't be dropped
abbrev pub TellsDrop : {X : Type 0} → Bool → Result X NotSent → Type 0
TellsDrop can (Ok done) = can ≡ true
TellsDrop can (Err fault) = can ≡ false

-- the binding's state, by the number of the message that asked for it
abbrev pub shown : Binding → BindState
shown Needed = told.Needed
shown (Asked message) = told.Asked message.number
shown Held = told.Held
shown Bound = told.Bound
shown (Refused code) = told.Refused code
