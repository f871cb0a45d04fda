-- Lemmas on the record of a net in which a connection is given back.
use Rattle.std.proofs.Common.{◌≡◌, ◌≤◌, ◌<◌, ℕ, zero, suc, List, [], ◌∷◌, ◌++◌, length, arith, refl, ap, slice_set, slice_index_or}
use Rattle.mt_edge.specs.declared.net_call.NetCall.{NetCall}
use Rattle.mt_edge.specs.Links.{Told}
use Rattle.mt_edge.specs.Nets.{closed, closed_at}

-- the call at the place is changed
pub closed_set : (calls : List NetCall) (place : ℕ) (call : NetCall) (told : Told) (faults : ℕ) → place < length calls
    → closed_at place told faults calls ≡ slice_set calls place (closed told faults (slice_index_or calls place call))
closed_set [] place call told faults h = absurd (omega (arith, h))
closed_set (x ∷ calls) zero call told faults h = refl
closed_set (x ∷ calls) (suc place) call told faults h = ap (λ l. x ∷ l) (closed_set calls place call told faults (omega (arith, h)))

-- with no call at the place nothing changes
pub closed_past : (calls : List NetCall) (place : ℕ) (told : Told) (faults : ℕ) → length calls ≤ place → closed_at place told faults calls ≡ calls
closed_past [] place told faults h = refl
closed_past (x ∷ calls) zero told faults h = absurd (omega (arith, h))
closed_past (x ∷ calls) (suc place) told faults h = ap (λ l. x ∷ l) (closed_past calls place told faults (omega (arith, h)))

-- the last call is changed
pub closed_last : (front : List NetCall) (call : NetCall) (told : Told) (faults : ℕ)
    → closed_at (length front) told faults (front ++ call ∷ []) ≡ front ++ closed told faults call ∷ []
closed_last [] call told faults = refl
closed_last (x ∷ front) call told faults = ap (λ l. x ∷ l) (closed_last front call told faults)
