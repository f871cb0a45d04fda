-- What a change of one call leaves.
use Rattle.std.proofs.Common.{◌≡◌, ◌≢◌, ℕ, zero, suc, ◌<◌, ◌≤◌, List, [], ◌∷◌, ◌++◌, Some, None, Option, length, ap, refl, arith}
use Rattle.std.specs.Prelude.{slice_get, option_map, IfSome}
use Rattle.std.specs.List.{AllByRecursion}
use Rattle.call_table.specs.declared.call.Fate.{Fate}
use Rattle.call_table.specs.declared.call.Fate.TheVariants as fate
use Rattle.call_table.specs.Table.{State, Queued, Sent, Held, Done, Refused, Unknown, Name, Call, AreBelow, changed_at, living_name, living_name_in, with_salt, state_after}

pub changed_one : {X : Type 0} (f : X → X) (k : ℕ) (xs : List X) → slice_get (changed_at k f xs) k ≡ option_map f (slice_get xs k)
changed_one f k [] = refl
changed_one f zero (x ∷ xs) = refl
changed_one f (suc k) (x ∷ xs) = changed_one f k xs

pub changed_other : {X : Type 0} (f : X → X) (k j : ℕ) (xs : List X) → j ≢ k → slice_get (changed_at k f xs) j ≡ slice_get xs j
changed_other f k j [] other = refl
changed_other f zero zero (x ∷ xs) other = absurd (other refl)
changed_other f zero (suc j) (x ∷ xs) other = refl
changed_other f (suc k) zero (x ∷ xs) other = refl
changed_other f (suc k) (suc j) (x ∷ xs) other = changed_other f k j xs (λ same. other (ap suc same))

pub changed_count : {X : Type 0} (f : X → X) (k : ℕ) (xs : List X) → length (changed_at k f xs) ≡ length xs
changed_count f k [] = refl
changed_count f zero (x ∷ xs) = refl
changed_count f (suc k) (x ∷ xs) = omega (arith, changed_count f k xs)

pub all_changed : {X : Type 0} (P : X → Type 0) (f : X → X) → ((x : X) → P x → P (f x)) → (k : ℕ) (xs : List X) → AllByRecursion P xs → AllByRecursion P (changed_at k f xs)
all_changed P f keeps k [] h = tt
all_changed P f keeps zero (x ∷ xs) h = (keeps x h.0, h.1)
all_changed P f keeps (suc k) (x ∷ xs) h = (h.0, all_changed P f keeps k xs h.1)

pub all_more : {X : Type 0} (P : X → Type 0) (xs : List X) (y : X) → AllByRecursion P xs → P y → AllByRecursion P (xs ++ y ∷ [])
all_more P [] y h new = (new, tt)
all_more P (x ∷ xs) y h new = (h.0, all_more P xs y h.1 new)

-- a name's number is below
abbrev pub IsUnder : ℕ → Option Name → Type 0
IsUnder number own = IfSome own (λ name. name.message.number < number)

pub under_salt : (number salt : ℕ) (s : State) (names : List Name) → IsUnder number (living_name_in s names) → IsUnder number (living_name_in s (with_salt salt names))
under_salt number salt Queued names h = tt
under_salt number salt Sent [] h = tt
under_salt number salt Sent (name ∷ names) h = h
under_salt number salt Held names h = tt
under_salt number salt (Done bytes) names h = tt
under_salt number salt (Refused code) names h = tt
under_salt number salt (Unknown cause) names h = tt

pub under_settled : (number : ℕ) (f : Fate) (names : List Name) → IsUnder number (living_name_in (state_after f) names)
under_settled number fate.Queue names = tt
under_settled number fate.Hold names = tt
under_settled number (fate.Done bytes) names = tt
under_settled number (fate.Refused code) names = tt
under_settled number (fate.Unknown cause) names = tt

under_greater : (number greater : ℕ) (own : Option Name) → number ≤ greater → IsUnder number own → IsUnder greater own
under_greater number greater None le h = tt
under_greater number greater (Some name) le h = omega (arith, h)

pub below_greater : (number greater : ℕ) (calls : List Call) → AreBelow number calls → number ≤ greater → AreBelow greater calls
below_greater number greater [] h le = tt
below_greater number greater (call ∷ calls) h le = (under_greater number greater (living_name call) le h.0, below_greater number greater calls h.1 le)
