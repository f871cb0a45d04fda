-- The first client that has or had a session number.
use Rattle.std.proofs.Common.{◌≡◌, ℕ, zero, suc, ◌<◌, ◌≤◌, true, false, Some, None, List, [], ◌∷◌, length, get_or, drop, refl, arith}
use Rattle.std.specs.List.{AllZip}
use Rattle.world_rules.specs.World.{Seat, owner_from, owns}

pub owner_found : {K : Type 0} (R : K → Seat → Type 0) (session number place : ℕ) (kept : List K) (seats : List Seat) (other : K)
    → AllZip R kept seats → place < length kept → ((seat : Seat) → R (get_or kept place other) seat → owns session seat.client ≡ true)
    → owner_from number session (drop place seats) ≡ Some number
owner_found R session number place [] [] other all less told = let no : ⊥ = omega (arith, less) in absurd no
owner_found R session number place [] (y ∷ ys) other all less told = absurd all
owner_found R session number place (x ∷ xs) [] other all less told = absurd all
owner_found R session number zero (x ∷ xs) (y ∷ ys) other all less told = rw (told y all.0) refl
owner_found R session number (suc place) (x ∷ xs) (y ∷ ys) other all less told = owner_found R session number place xs ys other all.1 (omega (arith, less)) told

pub owner_next : {K : Type 0} (R : K → Seat → Type 0) (session number place : ℕ) (kept : List K) (seats : List Seat) (other : K)
    → AllZip R kept seats → place < length kept → ((seat : Seat) → R (get_or kept place other) seat → owns session seat.client ≡ false)
    → owner_from number session (drop place seats) ≡ owner_from (suc number) session (drop (suc place) seats)
owner_next R session number place [] [] other all less told = let no : ⊥ = omega (arith, less) in absurd no
owner_next R session number place [] (y ∷ ys) other all less told = absurd all
owner_next R session number place (x ∷ xs) [] other all less told = absurd all
owner_next R session number zero (x ∷ xs) (y ∷ ys) other all less told = rw (told y all.0) refl
owner_next R session number (suc place) (x ∷ xs) (y ∷ ys) other all less told = owner_next R session number place xs ys other all.1 (omega (arith, less)) told

pub owner_none : {K : Type 0} (R : K → Seat → Type 0) (session number place : ℕ) (kept : List K) (seats : List Seat)
    → AllZip R kept seats → length kept ≤ place → owner_from number session (drop place seats) ≡ None
owner_none R session number zero [] [] all most = refl
owner_none R session number (suc place) [] [] all most = refl
owner_none R session number place [] (y ∷ ys) all most = absurd all
owner_none R session number place (x ∷ xs) [] all most = absurd all
owner_none R session number zero (x ∷ xs) (y ∷ ys) all most = let no : ⊥ = omega (arith, most) in absurd no
owner_none R session number (suc place) (x ∷ xs) (y ∷ ys) all most = owner_none R session number place xs ys all.1 (omega (arith, most))
