-- Calls stay sound by a rule.
use Rattle.std.proofs.Common.{◌≡◌, refl, ℕ, List, [], ◌∷◌, Option, Some, None, map}
use Rattle.std.specs.List.{AllByRecursion}
use Rattle.call_table.specs.declared.call.Fate.{Fate}
use Rattle.call_table.specs.declared.row.Progress.{Progress}
use Rattle.call_table.specs.declared.row.Progress.TheVariants as progress
use Rattle.call_table.specs.declared.row.Row.{Row}
use Rattle.client_calls.specs.Sound.{AreSound, IsSound}
use Rattle.client_calls.specs.declared.settling.Rule.{Rule}
use Rattle.client_calls.specs.declared.settling.Rule.TheVariants as rule
use Rattle.client_calls.specs.Rules.{fate_in, row_by, settled_row_if}
use Rattle.client_calls.proofs.SoundLemmas.{settled_given}

all_by : {X : Type 0} (P Q : X → Type 0) (f : X → X) → ((x : X) → P x → Q (f x)) → (xs : List X) → AllByRecursion P xs → AllByRecursion Q (map f xs)
all_by P Q f gives [] all = tt
all_by P Q f gives (x ∷ xs) all = (gives x all.0, all_by P Q f gives xs all.1)

sound_if : (last : ℕ) (own : Option Fate) (row : Row) → IsSound last row → IsSound last (settled_row_if own row)
sound_if last None row is = is
sound_if last (Some fate) row is = settled_given last fate row is

pub sound_by : (last : ℕ) (rule : Rule) (rows : List Row) → AreSound last rows → AreSound last (map (row_by rule) rows)
sound_by last rule rows sound = all_by (IsSound last) (IsSound last) (row_by rule) (λ row is. sound_if last (fate_in rule row) row is) rows sound

-- after a renewal no call is outstanding under any number
renewed_given : (last : ℕ) (row : Row) (one : Progress) → row.progress ≡ one → IsSound last row → IsSound 0 (row_by rule.Renewed row)
renewed_given last row (progress.Sent living under) told is = rw told (record { words = is.words; short = is.short; given = tt })
renewed_given last row progress.Queued told is = rw told (record { words = is.words; short = is.short; given = tt })
renewed_given last row progress.Held told is = rw told (record { words = is.words; short = is.short; given = tt })
renewed_given last row (progress.Done bytes) told is = rw told (record { words = is.words; short = is.short; given = tt })
renewed_given last row (progress.Refused code) told is = rw told (record { words = is.words; short = is.short; given = tt })
renewed_given last row (progress.Unknown cause) told is = rw told (record { words = is.words; short = is.short; given = tt })

pub sound_renewed : (last : ℕ) (rows : List Row) → AreSound last rows → AreSound 0 (map (row_by rule.Renewed) rows)
sound_renewed last rows sound = all_by (IsSound last) (IsSound 0) (row_by rule.Renewed) (λ row is. renewed_given last row row.progress refl is) rows sound
