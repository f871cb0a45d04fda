-- Scaffolding, no promise: what the packed parts of a row say.
use Rattle.std.specs.Prelude.{ℕ, Bool, if◌then◌else◌, Option, Some, None, option_map}
use Rattle.call_table.specs.declared.call.CallNo.{CallNo}
use Rattle.call_table.specs.declared.call.Under.{Under}
use Rattle.call_table.specs.declared.call.Under.TheVariants as under
use Rattle.call_table.specs.declared.row.Progress.{Progress}
use Rattle.call_table.specs.declared.row.Progress.TheVariants as progress
use Rattle.call_table.specs.declared.row.Salts.{Salts}
use Rattle.call_table.specs.declared.row.Salts.TheVariants as salts
use Rattle.call_table.specs.declared.row.Packed.{Packed}
use Rattle.call_table.specs.declared.row.Packed.TheVariants as packed

-- the message identifier inside `invokeAfterMsg`, where there is one
abbrev pub wrap_told : Bool → ℕ → Option ℕ
wrap_told wrapped wrap = if wrapped then Some wrap else None

-- the salts, with the one salt where there is one
abbrev pub under_told : Salts → ℕ → Under
under_told salts.Zero salt = under.Zero
under_told salts.One salt = under.One salt
under_told salts.More salt = under.More

abbrev pub salts_kept : Under → Salts
salts_kept under.Zero = salts.Zero
salts_kept (under.One salt) = salts.One
salts_kept under.More = salts.More

abbrev pub salt_kept : Under → ℕ
salt_kept (under.One salt) = salt
salt_kept _ = 0

abbrev pub progress_told : Packed → Progress
progress_told packed.Queued = progress.Queued
progress_told (packed.Sent wrapped salts seq number wrap salt) = progress.Sent (record { number = number; seq = seq; wrap = wrap_told wrapped wrap }) (under_told salts salt)
progress_told packed.Held = progress.Held
progress_told (packed.DoneShort bytes) = progress.Done bytes
progress_told (packed.Done bytes) = progress.Done bytes
progress_told (packed.Refused code) = progress.Refused code
progress_told (packed.Unknown cause) = progress.Unknown cause

abbrev pub after_told : Option ℕ → Option CallNo
after_told after = option_map (λ n. record { n = n }) after
