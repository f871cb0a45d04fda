-- Which changes keep the calls sound.
use Rattle.std.proofs.Common.{ℕ, zero, suc, ◌≤◌, List, [], ◌∷◌, Option, Some, None, arith}
use Rattle.std.specs.Prelude.{IfSome}
use Rattle.std.specs.List.{AllByRecursion}
use Rattle.call_table.specs.declared.call.CallNo.{CallNo}
use Rattle.call_table.specs.declared.call.Fate.{Fate}
use Rattle.call_table.specs.declared.call.Fate.TheVariants as fate
use Rattle.call_table.specs.declared.call.Flags.{Flags}
use Rattle.call_table.specs.declared.call.Living.{Living}
use Rattle.call_table.specs.declared.row.Progress.{Progress}
use Rattle.call_table.specs.declared.row.Progress.TheVariants as progress
use Rattle.call_table.specs.declared.row.Row.{Row}
use Rattle.call_table.specs.Table.{changed, changed_at}
use Rattle.call_table.specs.Kept.{again_row, flagged_row, number_in, progress_again, sent_row, settled_row}
use Rattle.client_calls.specs.Sound.{IsSound, AreSound}

all_changed : {X : Type 0} (P : X → Type 0) (f : X → X) → ((x : X) → P x → P (f x)) → (k : ℕ) (xs : List X) → AllByRecursion P xs → AllByRecursion P (changed_at k f xs)
all_changed P f keeps k [] h = tt
all_changed P f keeps zero (x ∷ xs) h = (keeps x h.0, h.1)
all_changed P f keeps (suc k) (x ∷ xs) h = (h.0, all_changed P f keeps k xs h.1)

all_each : {X : Type 0} (P Q : X → Type 0) → ((x : X) → P x → Q x) → (xs : List X) → AllByRecursion P xs → AllByRecursion Q xs
all_each P Q gives [] h = tt
all_each P Q gives (x ∷ xs) h = (gives x h.0, all_each P Q gives xs h.1)

-- other flags
pub sound_flagged : (last : ℕ) (call : CallNo) (flags : Flags) (rows : List Row) → AreSound last rows → AreSound last (changed call (flagged_row flags) rows)
sound_flagged last call flags rows sound =
    all_changed (IsSound last) (flagged_row flags) (λ row is. record { words = is.words; short = is.short; given = is.given }) _ rows sound

-- it isn't outstanding any more
pub settled_given : (last : ℕ) (fate : Fate) (row : Row) → IsSound last row → IsSound last (settled_row fate row)
settled_given last fate.Queue row is = record { words = is.words; short = is.short; given = tt }
settled_given last fate.Hold row is = record { words = is.words; short = is.short; given = tt }
settled_given last (fate.Done bytes) row is = record { words = is.words; short = is.short; given = tt }
settled_given last (fate.Refused code) row is = record { words = is.words; short = is.short; given = tt }
settled_given last (fate.Unknown cause) row is = record { words = is.words; short = is.short; given = tt }

pub sound_settled : (last : ℕ) (call : CallNo) (fate : Fate) (rows : List Row) → AreSound last rows → AreSound last (changed call (settled_row fate) rows)
sound_settled last call fate rows sound = all_changed (IsSound last) (settled_row fate) (settled_given last fate) _ rows sound

-- it went once more
again_given : (last salt : ℕ) (own : Progress) → IfSome (number_in own) (λ number. number ≤ last) → IfSome (number_in (progress_again salt own)) (λ number. number ≤ last)
again_given last salt progress.Queued given = tt
again_given last salt (progress.Sent living under) given = given
again_given last salt progress.Held given = tt
again_given last salt (progress.Done bytes) given = tt
again_given last salt (progress.Refused code) given = tt
again_given last salt (progress.Unknown cause) given = tt

pub sound_again : (last : ℕ) (call : CallNo) (salt : ℕ) (rows : List Row) → AreSound last rows → AreSound last (changed call (again_row salt) rows)
sound_again last call salt rows sound =
    all_changed (IsSound last) (again_row salt) (λ row is. record { words = is.words; short = is.short; given = again_given last salt row.progress is.given }) _ rows sound

-- it went under a number that was given
pub sound_sent : (last : ℕ) (call : CallNo) (living : Living) (salt : ℕ) (rows : List Row) → living.number ≤ last → AreSound last rows → AreSound last (changed call (sent_row living salt) rows)
sound_sent last call living salt rows given sound =
    all_changed (IsSound last) (sent_row living salt) (λ row is. record { words = is.words; short = is.short; given = given }) _ rows sound

-- further numbers were given
later_given : (last later : ℕ) → last ≤ later → (own : Option ℕ) → IfSome own (λ number. number ≤ last) → IfSome own (λ number. number ≤ later)
later_given last later le None given = tt
later_given last later le (Some number) given = omega (arith, le, given)

pub sound_later : (last later : ℕ) (rows : List Row) → last ≤ later → AreSound last rows → AreSound later rows
sound_later last later rows le sound =
    all_each (IsSound last) (IsSound later) (λ row is. record { words = is.words; short = is.short; given = later_given last later le (number_in row.progress) is.given }) rows sound
