-- What private functions tell of a packet: scaffolding, and no promise.
use Rattle.std.specs.Prelude.{Option, Some, None, Result, Ok, Err}
use Rattle.envelope.specs.declared.refusal.Refusal.{Refusal}
use Rattle.octets.specs.declared.memory.Memory.{Memory}
use Rattle.kifzaro.specs.declared.error.Error.{Error}
use Rattle.kifzaro.specs.declared.error.Error.TheVariants as errors

-- why a packet that a client took doesn't open, where it doesn't, as it is told
abbrev pub told_of : Result (Option Refusal) Memory → Result Unit Error
told_of (Ok None) = Ok tt
told_of (Ok (Some why)) = Err (errors.Refused why)
told_of (Err memory) = Err errors.Memory
