-- Changes of one call.
use Rattle.std.proofs.Common.{◌≡◌, ℕ, zero, suc, ◌-◌, true, List, [], ◌∷◌, Option, Some, None, ap, refl, sym}
use Rattle.std.specs.Prelude.{option_map, slice_get}
use Rattle.call_table.specs.declared.call.CallNo.{CallNo}
use Rattle.call_table.specs.declared.call.Flags.{Flags}
use Rattle.call_table.specs.Table.{Call, Table, at, changed_at, flagged, with_call}
use Rattle.call_table.specs.Kept.{Contents as Calls, Stands as StandsFor}
use Rattle.client_rules.specs.Asking.{alone}

abbrev pub value : {X : Type 0} → X → Option X → X
value x None = x
value x (Some y) = y

-- changes that agree on the changed element give the same list
pub same_at : {X : Type 0} (f g : X → X) (k : ℕ) (xs : List X) → option_map f (slice_get xs k) ≡ option_map g (slice_get xs k) → changed_at k f xs ≡ changed_at k g xs
same_at f g k [] same = refl
same_at f g zero (x ∷ xs) same = ap (λ y. y ∷ xs) (ap (value x) same)
same_at f g (suc k) (x ∷ xs) same = ap (λ ys. x ∷ ys) (same_at f g k xs same)

alone_of : (own : Option Call) (flags : Flags) → option_map (λ one. one.flags) own ≡ Some flags → option_map (flagged (record flags { alone = true })) own ≡ option_map alone own
alone_of None flags told = refl
alone_of (Some call) flags told = ap (λ now. Some (flagged (record now { alone = true }) call)) (sym (ap (value call.flags) told))

-- a call that is to be sent again, with its flags as they are told
pub alone_stands : (new : Calls) (table : Table) (call : CallNo) (flags : Flags)
    → StandsFor new (with_call call (flagged (record flags { alone = true })) table)
    → option_map (λ one. one.flags) (at call table.calls) ≡ Some flags
    → StandsFor new (with_call call alone table)
alone_stands new table call flags calls told =
    rw (sym (same_at (flagged (record flags { alone = true })) alone (call.n - 1) table.calls (alone_of (at call table.calls) flags told))) calls
