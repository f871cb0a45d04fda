-- Why a call gives nothing.
use Rattle.std.specs.Prelude.{◌≡◌, ◌≤◌, ◌^◌, ℕ, List, length, ⊤}
use Rattle.auth_keys.specs.KeyFile.{IsFaultOf}
use Rattle.auth_keys.specs.declared.fault.KeyFault.{KeyFault}
use Rattle.auth_keys.specs.declared.fault.KeyFault.TheVariants as key_fault
use Rattle.client_core.specs.declared.fault.SubmitFault.{SubmitFault}
use Rattle.client_core.specs.declared.fault.SubmitFault.TheVariants as submit
use Rattle.kifzaro.specs.declared.error.Error.{Error}
use Rattle.kifzaro.specs.declared.error.Error.TheVariants as errors

-- want of memory is told as that alone

abbrev pub of_submit : SubmitFault → Error
of_submit submit.Memory = errors.Memory
of_submit fault = errors.Submit fault

abbrev pub of_keys : KeyFault → Error
of_keys key_fault.Memory = errors.Memory
of_keys fault = errors.Keys fault

-- why the text of a key file gives no ring
abbrev pub IsKeysError : List ℕ → Error → Type 0
IsKeysError text (errors.Keys key_fault.Memory) = ⊥
IsKeysError text (errors.Keys fault) = IsFaultOf text fault
IsKeysError text (errors.LongKeys len) = (len ≡ length text) × (2 ^ 32 ≤ len)
IsKeysError text errors.Memory = ⊤
IsKeysError text other = ⊥
