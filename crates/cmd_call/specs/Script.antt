-- What a script asks of a client.
use Rattle.std.specs.Prelude.{ℕ, ◌+◌, Option, Some, None, option_map, List, [], ◌∷◌, fold}
use Rattle.call_script.specs.declared.script.ScriptCall.{ScriptCall}
use Rattle.call_table.specs.declared.call.CallNo.{CallNo}
use Rattle.client_rules.specs.Client.{Client}
use Rattle.client_rules.specs.Asking.{Fault, fault_at, submitted}

-- the earlier call behind which a call is to execute, where its line names one
abbrev pub earlier_of : Option ℕ → Option CallNo
earlier_of after = option_map (λ n. record { n = n }) after

-- the client is given a call of a script; it is given all of them, in order
abbrev pub given : Client → ScriptCall → Client
given client call = submitted call.body (earlier_of call.after) client

abbrev pub given_all : List ScriptCall → Client → Client
given_all calls client = fold given client calls

-- why a client doesn't take the call at a place, from 0, if it doesn't
abbrev pub fault_of : ℕ → ScriptCall → Option Fault
fault_of place call = fault_at place call.body (earlier_of call.after)

abbrev pub first_of : ℕ → Option Fault → Option (ℕ × Fault) → Option (ℕ × Fault)
first_of line None later = later
first_of line (Some fault) later = Some (line, fault)

-- the first of these calls that isn't taken, by the number of its line, with its fault; the first one stands at this place
abbrev pub untaken_from : ℕ → List ScriptCall → Option (ℕ × Fault)
untaken_from place [] = None
untaken_from place (call ∷ calls) = first_of call.line (fault_of place call) (untaken_from (place + 1) calls)

-- of all calls of a script
abbrev pub untaken : List ScriptCall → Option (ℕ × Fault)
untaken calls = untaken_from 0 calls
