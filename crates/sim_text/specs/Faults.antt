-- What tells that a call isn't submitted.
use Rattle.std.specs.Prelude.{Option, Some, None}
use Rattle.client_core.specs.declared.fault.SubmitFault.{SubmitFault}
use Rattle.client_core.specs.declared.fault.SubmitFault.TheVariants as told
use Rattle.client_rules.specs.Asking.{Fault, TooLong, NotWords, ServiceTag, NoSuchCall, TooMany}

-- the fault that is told; that memory ran out is none
abbrev pub fault_of : SubmitFault → Option Fault
fault_of (told.TooLong len) = Some (TooLong len)
fault_of (told.NotWords len) = Some (NotWords len)
fault_of (told.ServiceTag tag) = Some (ServiceTag tag)
fault_of told.NoSuchCall = Some NoSuchCall
fault_of told.TooMany = Some TooMany
fault_of told.Memory = None
