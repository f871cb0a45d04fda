-- A call that goes again, alone.
use Rattle.std.proofs.Common.{◌≡◌, ◌∙◌, false, ℕ, zero, suc, ◌-◌, List, [], ◌∷◌, Option, Some, None, length, ap, refl, sym, arith}
use Rattle.std.specs.Prelude.{option_map, slice_get}
use Rattle.call_table.specs.declared.call.CallNo.{CallNo}
use Rattle.call_table.specs.declared.call.Flags.{Flags}
use Rattle.call_table.specs.declared.row.Row.{Row}
use Rattle.call_table.specs.Table.{Call, Table, at, changed, changed_at, flagged, sent_again, with_call}
use Rattle.call_table.specs.Kept.{Contents, Stands as StandsFor, flagged_row, state_in, state_of}
use Rattle.client_rules.specs.Flush.{gone_again}
use Rattle.client_core.proofs.CallLemmas.{same_at, value}

-- ---- the change

changed_one : {X : Type 0} (f : X → X) (k : ℕ) (xs : List X) → slice_get (changed_at k f xs) k ≡ option_map f (slice_get xs k)
changed_one f k [] = refl
changed_one f zero (x ∷ xs) = refl
changed_one f (suc k) (x ∷ xs) = changed_one f k xs

pub changed_count : {X : Type 0} (f : X → X) (k : ℕ) (xs : List X) → length (changed_at k f xs) ≡ length xs
changed_count f k [] = refl
changed_count f zero (x ∷ xs) = refl
changed_count f (suc k) (x ∷ xs) = omega (arith, changed_count f k xs)

changed_twice : {X : Type 0} (f g : X → X) (k : ℕ) (xs : List X) → changed_at k g (changed_at k f xs) ≡ changed_at k (λ x. g (f x)) xs
changed_twice f g k [] = refl
changed_twice f g zero (x ∷ xs) = refl
changed_twice f g (suc k) (x ∷ xs) = ap (λ ys. x ∷ ys) (changed_twice f g k xs)

state_flagged : (flags : Flags) (own : Option Row) → option_map (λ row. state_of row.progress) (option_map (flagged_row flags) own) ≡ option_map (λ row. state_of row.progress) own
state_flagged flags None = refl
state_flagged flags (Some row) = refl

-- other flags leave the state
pub state_kept : (call : CallNo) (flags : Flags) (rows : List Row) → state_in call (changed call (flagged_row flags) rows) ≡ state_in call rows
state_kept call flags rows =
    ap (option_map (λ row. state_of row.progress)) (changed_one (flagged_row flags) (call.n - 1) rows) ∙ state_flagged flags (at call rows)

pub count_kept : (call : CallNo) (flags : Flags) (rows : List Row) → length (changed call (flagged_row flags) rows) ≡ length rows
count_kept call flags rows = changed_count (flagged_row flags) (call.n - 1) rows

again_of : (salt : ℕ) (own : Option Call) (flags : Flags) → option_map (λ one. one.flags) own ≡ Some flags
    → option_map (λ call. sent_again salt (flagged (record flags { alone = false }) call)) own ≡ option_map (gone_again salt) own
again_of salt None flags told = refl
again_of salt (Some call) flags told = ap (λ now. Some (sent_again salt (flagged (record now { alone = false }) call))) (sym (ap (value call.flags) told))

-- a call goes again, with its flags as they are told
pub again_stands : (new : Contents) (table : Table) (call : CallNo) (salt : ℕ) (flags : Flags)
    → StandsFor new (with_call call (sent_again salt) (with_call call (flagged (record flags { alone = false })) table))
    → option_map (λ one. one.flags) (at call table.calls) ≡ Some flags
    → StandsFor new (with_call call (gone_again salt) table)
again_stands new table call salt flags calls told =
    rw (sym (changed_twice (flagged (record flags { alone = false })) (sent_again salt) (call.n - 1) table.calls
    ∙ same_at (λ one. sent_again salt (flagged (record flags { alone = false }) one)) (gone_again salt) (call.n - 1) table.calls (again_of salt (at call table.calls) flags told))) calls
