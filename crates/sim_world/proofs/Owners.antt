-- The client that has or had a session number is there.
use Rattle.std.proofs.Common.{◌≡◌, ◌∙◌, ℕ, suc, ◌+◌, Bool, true, false, List, [], ◌∷◌, Some, None, ap, refl, arith}
use Rattle.std.specs.List.{slice_get}
use Rattle.std.specs.Prelude.{if◌then◌else◌}
use Rattle.world_rules.specs.World.{Seat, counted, owner, owner_from, owns}

-- it stands at this place behind the number from which was counted
pub record IsAt (number from : ℕ) (seats : List Seat) : Type 0 where
  pub place : ℕ
  pub seat : Seat
  pub is : number ≡ from + place
  pub there : slice_get seats place ≡ Some seat

some-is : (one other : ℕ) → Some one ≡ Some other → one ≡ other
some-is one other same = cc

at-head : (owned : Bool) (from session number : ℕ) (seat : Seat) (seats : List Seat) → (if owned then Some from else owner_from (suc from) session seats) ≡ Some number
    → (owner_from (suc from) session seats ≡ Some number → IsAt number (suc from) seats) → IsAt number from (seat ∷ seats)
at-head true from session number seat seats is rest =
    let same : from ≡ number = some-is from number is in
    record { place = 0; seat = seat; is = omega (arith, same); there = refl }
at-head false from session number seat seats is rest =
    let behind = rest is in
    record { place = suc behind.place; seat = behind.seat; is = omega (arith, behind.is); there = behind.there }

owned-at : (from session number : ℕ) (seats : List Seat) → owner_from from session seats ≡ Some number → IsAt number from seats
owned-at from session number [] is = absurd (let no : None ≡ Some number = is in cc)
owned-at from session number (seat ∷ seats) is =
    at-head (owns session seat.client) from session number seat seats is (owned-at (suc from) session number seats)

pub owner-seated : (session number : ℕ) (seats : List Seat) → owner session seats ≡ Some number → (seat : Seat) × (counted number seats ≡ Some seat)
owner-seated session number seats is =
    let at = owned-at 1 session number seats is in
    let same : number ≡ suc at.place = omega (arith, at.is) in
    (at.seat, ap (λ (n : ℕ). counted n seats) same ∙ at.there)
