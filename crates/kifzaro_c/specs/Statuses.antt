-- What C sees of what a call gives: the numbers of bindings/c/kifzaro.h, each under its name there. bindings/check compares both.
use Rattle.std.specs.Prelude.{ℕ, Result, Ok, Err}
use Rattle.call_table.specs.Table.{State, Queued, Sent, Held, Done, Refused, Unknown}
use Rattle.call_table.specs.declared.call.Cause.{Cause}
use Rattle.call_table.specs.declared.call.Cause.TheVariants as cause
use Rattle.client_core.specs.declared.fault.SubmitFault.{SubmitFault}
use Rattle.client_core.specs.declared.fault.SubmitFault.TheVariants as submit
use Rattle.envelope.specs.declared.refusal.Refusal.{Refusal}
use Rattle.envelope.specs.declared.refusal.Refusal.TheVariants as refusal
use Rattle.kifzaro.specs.declared.error.Error.{Error}
use Rattle.kifzaro.specs.declared.error.Error.TheVariants as errors

-- ---- statuses

-- why a call isn't taken
abbrev pub of_submit : SubmitFault → ℕ
of_submit submit.Memory = 1  -- KF_MEMORY
of_submit (submit.TooLong len) = 8  -- KF_BAD_BODY
of_submit (submit.NotWords len) = 8  -- KF_BAD_BODY
of_submit (submit.ServiceTag tag) = 8  -- KF_BAD_BODY
of_submit submit.NoSuchCall = 9  -- KF_NO_CALL
of_submit submit.TooMany = 10  -- KF_TOO_MANY

-- why a packet doesn't open
abbrev pub of_refusal : Refusal → ℕ
of_refusal (refusal.Size len) = 19  -- KF_REFUSED_SIZE
of_refusal (refusal.NoKey id) = 20  -- KF_REFUSED_KEY
of_refusal (refusal.KeyMismatch said found) = 21  -- KF_REFUSED_MESSAGE_KEY
of_refusal (refusal.Length said) = 22  -- KF_REFUSED_LENGTH
of_refusal (refusal.Padding bytes) = 23  -- KF_REFUSED_PADDING

-- why a call gives nothing
abbrev pub of_error : Error → ℕ
of_error errors.Memory = 1  -- KF_MEMORY
of_error (errors.TooShort needed) = 4  -- KF_TOO_SHORT
of_error (errors.Keys fault) = 5  -- KF_BAD_KEYS
of_error (errors.LongKeys len) = 5  -- KF_BAD_KEYS
of_error (errors.NoKey key) = 6  -- KF_NO_KEY
of_error (errors.NotPermanent key) = 6  -- KF_NO_KEY
of_error (errors.NotTemporary key) = 6  -- KF_NO_KEY
of_error (errors.Submit fault) = of_submit fault
of_error errors.NoCall = 9  -- KF_NO_CALL
of_error errors.Ended = 11  -- KF_ENDED
of_error errors.NotOpen = 12  -- KF_NOT_OPEN
of_error errors.NotSent = 13  -- KF_NOT_SENT
of_error errors.NoReply = 14  -- KF_NO_REPLY
of_error errors.Spent = 15  -- KF_SPENT
of_error errors.Busy = 16  -- KF_BUSY
of_error errors.NotAsked = 17  -- KF_NOT_ASKED
of_error (errors.BadReply len) = 18  -- KF_BAD_REPLY
of_error (errors.Refused why) = of_refusal why

-- what a call gives
abbrev pub status_of : {X : Type 0} → Result X Error → ℕ
status_of (Ok value) = 0  -- KF_OK
status_of (Err error) = of_error error

-- ---- what became of a call: its state

abbrev pub state_number : State → ℕ
state_number Queued = 0  -- KF_QUEUED
state_number Sent = 1  -- KF_SENT
state_number Held = 2  -- KF_HELD
state_number (Done reply) = 3  -- KF_DONE
state_number (Refused code) = 4  -- KF_REFUSED
state_number (Unknown why) = 5  -- KF_UNKNOWN

-- and its code: why it isn't known

abbrev pub cause_number : Cause → ℕ
cause_number cause.Session = 1
cause_number cause.Renewed = 2
cause_number cause.Ended = 3
cause_number cause.Forgotten = 4

abbrev pub code_number : State → ℕ
code_number (Refused code) = code
code_number (Unknown why) = cause_number why
code_number other = 0
