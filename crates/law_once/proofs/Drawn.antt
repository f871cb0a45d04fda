-- The session numbers that clients drew.
use Rattle.std.proofs.Common.{◌≡◌, ℕ, zero, suc, ◌+◌, ◌<◌, ◌≤◌, List, [], ◌∷◌, ◌++◌, reverse, Option, Some, None, inl, inr, refl, sym, ap, subst, arith}
use Rattle.std.specs.Prelude.{slice_get}
use Rattle.std.specs.List.{Contains, flat_map}
use Rattle.std.proofs.lemmas.List.Elements.{Contains-append_cases, Contains-append_left, Contains-append_right}
use Rattle.std.proofs.lemmas.List.{reverse-append}
use Rattle.law_moves.specs.Table as moves
use Rattle.law_moves.specs.World.{Owns, World as Moved, no_client}
use Rattle.law_moves.specs.Lawful.{IsNewSession}
use Rattle.client_rules.specs.Client.{Client}
use Rattle.law_client.specs.Clients.{client_there}
use Rattle.world_rules.specs.World.{Seat, World, changed_from_0, lives}
use Rattle.world_rules.specs.Premises.{drawn_for_session, names_drawn, sessions_drawn}
use Rattle.law_once.specs.Standing.{AreSeated, IsSeated}
use Rattle.law_once.proofs.Lists.{first_or, here, later as one_later}
use Rattle.law_once.proofs.Places.{get_there}
use Rattle.law_once.proofs.Counting.{AreFresh, count, count_append, new_word}

pub from_reverse : (xs : List ℕ) (x : ℕ) → Contains (reverse xs) x → Contains xs x
from_reverse [] x among = among
from_reverse (y ∷ xs) x among =
    elim (Contains-append_cases (reverse xs) (y ∷ []) x (subst (λ (l : List ℕ). Contains l x) (reverse-append (y ∷ []) xs) among)) [
      | inl old ↦ one_later x y xs (from_reverse xs x old)
      | inr new ↦
          elim (first_or x y [] new) [
            | inl is ↦ subst (λ (z : ℕ). Contains (y ∷ xs) z) is (here y xs)
            | inr none ↦ let below : none.0 < 0 = none.1 in absurd (omega (arith, below))
          ]
    ]

pub in_flat : {X : Type 0} (f : X → List ℕ) (xs : List X) (x : X) (word : ℕ) → Contains xs x → Contains (f x) word → Contains (flat_map f xs) word
in_flat f [] x word among its = let below : among.0 < 0 = among.1 in absurd (omega (arith, below))
in_flat f (y ∷ xs) x word among its =
    elim (first_or x y xs among) [
      | inl is ↦ Contains-append_left (f y) (flat_map f xs) word (subst (λ (z : _). Contains (f z) word) (sym is) its)
      | inr other ↦ Contains-append_right (f y) (flat_map f xs) word (in_flat f xs x word other its)
    ]

-- ---- who owns a number drew it

drawn_by : (there : moves.Client) (client : Client) (clock session : ℕ) → there ≡ client_there client → Owns there session → Contains (sessions_drawn (record { client = client; clock = clock })) session
drawn_by there client clock session is owns =
    let at : Owns (client_there client) session = subst (λ (c : moves.Client). Owns c session) is owns in
    elim at.1 [
      | inl present ↦ Contains-append_right client.former (client.session ∷ []) session (subst (λ (z : ℕ). Contains (client.session ∷ []) z) (sym present) (here client.session []))
      | inr former ↦ Contains-append_left client.former (client.session ∷ []) session (from_reverse client.former session former)
    ]

nobody_owns : (there : moves.Client) (session : ℕ) → there ≡ no_client → Owns there session → ⊥
nobody_owns there session is owns =
    let at : Owns no_client session = subst (λ (c : moves.Client). Owns c session) is owns in
    elim at.1 [
      | inl present ↦ at.0 present
      | inr former ↦ let below : former.0 < 0 = former.1 in absurd (omega (arith, below))
    ]

owner_seated : (w : Moved) (seats : List Seat) (place session : ℕ) (found : Option Seat) → slice_get seats place ≡ found → IsSeated w place found → Owns (w.clients place) session
    → Contains (flat_map sessions_drawn seats) session
owner_seated w seats place session None is h owns = absurd (nobody_owns (w.clients place) session h.parts owns)
owner_seated w seats place session (Some seat) is h owns =
    in_flat sessions_drawn seats seat session (get_there seats seat place is) (drawn_by (w.clients place) seat.client seat.clock session h.parts owns)

pub owned_drawn : (w : Moved) (seats : List Seat) (place session : ℕ) → AreSeated w seats → Owns (w.clients place) session → Contains (flat_map sessions_drawn seats) session
owned_drawn w seats place session h owns = owner_seated w seats place session (slice_get seats place) refl (h place) owns

-- ---- a new one

pub new_session : {S V : Type 0} (w : Moved) (before after : World S V) (word : ℕ) → AreSeated w before.seats → AreFresh (names_drawn after)
    → suc (count word (names_drawn before)) ≤ count word (names_drawn after) → IsNewSession w word
new_session w before after word seated fresh more =
    let new = new_word word (names_drawn before) (names_drawn after) fresh more in
    (new.0, λ place owns. new.1 (Contains-append_left (flat_map sessions_drawn before.seats) (flat_map drawn_for_session (lives before)) word (owned_drawn w before.seats place word seated owns)))

-- ---- who drew

pub flat_more : {X : Type 0} (f : X → List ℕ) (xs ys : List X) (x : ℕ) → count x (flat_map f (xs ++ ys)) ≡ count x (flat_map f xs) + count x (flat_map f ys)
flat_more f [] ys x = omega arith
flat_more f (y ∷ xs) ys x = omega (arith, count_append x (f y) (flat_map f (xs ++ ys)), count_append x (f y) (flat_map f xs), flat_more f xs ys x)

-- one of a list draws more
pub flat_changed : {X : Type 0} (f : X → List ℕ) (change : X → X) (xs : List X) (place : ℕ) (one : X) (more : List ℕ) → slice_get xs place ≡ Some one
    → f (change one) ≡ f one ++ more → (x : ℕ) → count x (flat_map f (changed_from_0 place change xs)) ≡ count x (flat_map f xs) + count x more
flat_changed f change [] place one more is so x = absurd (cc)
flat_changed f change (y ∷ xs) zero one more is so x =
    let same : y ≡ one = cc in
    let at : f (change y) ≡ f y ++ more = subst (λ (z : _). f (change z) ≡ f z ++ more) (sym same) so in
    omega (arith, count_append x (f (change y)) (flat_map f xs), count_append x (f y) (flat_map f xs), count_append x (f y) more, ap (count x) at)
flat_changed f change (y ∷ xs) (suc place) one more is so x =
    omega (arith, count_append x (f y) (flat_map f (changed_from_0 place change xs)), count_append x (f y) (flat_map f xs), flat_changed f change xs place one more is so x)
