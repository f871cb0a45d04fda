-- A binding call that is spelt right becomes no job and makes no entry.
use Rattle.std.proofs.Common.{◌≡◌, Option, Some, None, refl, ℕ}
use Rattle.server_rules.specs.Server.{Binding, name_of}
use Rattle.server_rules.specs.Event.{Setting, Speaker, BindingCall}
use Rattle.server_rules.specs.Calls.{binds_by, binds}

by-jobs : {S : Type 0} (setting : Setting S) (number : ℕ) (binding : Option Binding) (speaker : Speaker S) → (binds_by setting number binding speaker).jobs ≡ speaker.jobs
by-jobs setting number None speaker = refl
by-jobs setting number (Some binding) speaker = refl

by-entries : {S : Type 0} (setting : Setting S) (number : ℕ) (binding : Option Binding) (speaker : Speaker S) → (binds_by setting number binding speaker).entries ≡ speaker.entries
by-entries setting number None speaker = refl
by-entries setting number (Some binding) speaker = refl

pub binds-jobs : {S : Type 0} (setting : Setting S) (call : BindingCall) (speaker : Speaker S) → (binds setting call speaker).jobs ≡ speaker.jobs
binds-jobs setting call speaker = by-jobs setting call.number (setting.bound_by setting.now (name_of speaker.session) call) speaker

pub binds-entries : {S : Type 0} (setting : Setting S) (call : BindingCall) (speaker : Speaker S) → (binds setting call speaker).entries ≡ speaker.entries
binds-entries setting call speaker = by-entries setting call.number (setting.bound_by setting.now (name_of speaker.session) call) speaker
