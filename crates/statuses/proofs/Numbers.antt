-- The status of a number.
use Rattle.std.proofs.Common.{◌≡◌, ◌∙◌, ℕ, ◌==◌, ap, sym, refl}
use Rattle.std.specs.Prelude.{if◌then◌else◌}
use Rattle.statuses.specs.Statuses.{number_of}
use Rattle.statuses.specs.declared.status.Status.{Status}
use Rattle.statuses.specs.declared.status.Status.TheVariants as status

abbrev status_of : ℕ → Status
status_of n =
    if n == 0 then status.Done
    else if n == 1 then status.WordsRefused
    else if n == 2 then status.InputRefused
    else if n == 3 then status.ReadFault
    else if n == 4 then status.WriteFault
    else if n == 5 then status.KeysRefused
    else if n == 6 then status.NotAllDone
    else if n == 7 then status.LinkLost
    else if n == 8 then status.TurnsSpent
    else if n == 9 then status.Memory
    else if n == 10 then status.NumbersSpent
    else if n == 11 then status.NotListening
    else if n == 12 then status.JournalFault
    else status.Broken

its-own : (one : Status) → status_of (number_of one) ≡ one
its-own status.Done = refl
its-own status.WordsRefused = refl
its-own status.InputRefused = refl
its-own status.ReadFault = refl
its-own status.WriteFault = refl
its-own status.KeysRefused = refl
its-own status.NotAllDone = refl
its-own status.LinkLost = refl
its-own status.TurnsSpent = refl
its-own status.Memory = refl
its-own status.NumbersSpent = refl
its-own status.NotListening = refl
its-own status.JournalFault = refl
its-own status.Broken = refl

pub same-number : (one other : Status) → number_of one ≡ number_of other → one ≡ other
same-number one other h = sym (its-own one) ∙ (ap status_of h ∙ its-own other)
