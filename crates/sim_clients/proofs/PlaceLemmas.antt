-- The members of two lists that go together, one for one, by their places.
use Rattle.std.proofs.Common.{◌≡◌, ℕ, zero, suc, ◌<◌, ◌≤◌, Option, Some, None, List, [], ◌∷◌, ◌++◌, length, map, get_or, set, take, drop, refl, ap, sym, subst, arith, ◌∙◌}
use Rattle.std.specs.Prelude.{slice_get}
use Rattle.std.specs.List.{AllByRecursion, AllZip}
use Rattle.std.proofs.lemmas.Option.{none-some, same_Some}
use Rattle.world_rules.specs.World.{counted, changed_from_0}

pub zip_count : {K S : Type 0} (R : K → S → Type 0) (kept : List K) (seats : List S) → AllZip R kept seats → length kept ≡ length seats
zip_count R [] [] all = refl
zip_count R [] (y ∷ ys) all = absurd all
zip_count R (x ∷ xs) [] all = absurd all
zip_count R (x ∷ xs) (y ∷ ys) all = ap suc (zip_count R xs ys all.1)

-- what holds of whatever a member stands for, holds of the one at its place
pub at_place : {K S : Type 0} (R : K → S → Type 0) (P : Option S → Type 0) (place : ℕ) (kept : List K) (seats : List S) (other : K)
    → AllZip R kept seats → place < length kept
    → ((seat : S) → R (get_or kept place other) seat → P (Some seat)) → P (slice_get seats place)
at_place R P place [] [] other all less told = let no : ⊥ = omega (arith, less) in absurd no
at_place R P place [] (y ∷ ys) other all less told = absurd all
at_place R P place (x ∷ xs) [] other all less told = absurd all
at_place R P zero (x ∷ xs) (y ∷ ys) other all less told = told y all.0
at_place R P (suc place) (x ∷ xs) (y ∷ ys) other all less told = at_place R P place xs ys other all.1 (omega (arith, less)) told

pub of_seat : {K S : Type 0} (R : K → S → Type 0) (place : ℕ) (kept : List K) (seats : List S) (other : K) (seat : S)
    → AllZip R kept seats → slice_get seats place ≡ Some seat → R (get_or kept place other) seat
of_seat R place [] [] other seat all is = absurd (none-some seat is)
of_seat R place [] (y ∷ ys) other seat all is = absurd all
of_seat R place (x ∷ xs) [] other seat all is = absurd all
of_seat R zero (x ∷ xs) (y ∷ ys) other seat all is = subst (λ one. R x one) (same_Some y seat is) all.0
of_seat R (suc place) (x ∷ xs) (y ∷ ys) other seat all is = of_seat R place xs ys other seat all.1 is

-- where there is none of the one, there is none of the other
pub no_seat : {K S : Type 0} (R : K → S → Type 0) (number : ℕ) (kept : List K) (seats : List S)
    → AllZip R kept seats → counted number kept ≡ None → counted number seats ≡ None
no_seat R zero kept seats all none = refl
no_seat R (suc place) [] [] all none = refl
no_seat R (suc place) [] (y ∷ ys) all none = absurd all
no_seat R (suc place) (x ∷ xs) [] all none = absurd all
no_seat R (suc zero) (x ∷ xs) (y ∷ ys) all none = absurd (none-some x (sym none))
no_seat R (suc (suc place)) (x ∷ xs) (y ∷ ys) all none = no_seat R (suc place) xs ys all.1 none

-- one member changes, and what it stands for
pub changed : {K S : Type 0} (R : K → S → Type 0) (place : ℕ) (change : S → S) (kept : List K) (seats : List S) (now : K) (seat : S)
    → AllZip R kept seats → slice_get seats place ≡ Some seat → R now (change seat)
    → AllZip R (set kept place now) (changed_from_0 place change seats)
changed R place change [] [] now seat all is new = absurd (none-some seat is)
changed R place change [] (y ∷ ys) now seat all is new = absurd all
changed R place change (x ∷ xs) [] now seat all is new = absurd all
changed R zero change (x ∷ xs) (y ∷ ys) now seat all is new = (subst (λ one. R now (change one)) (sym (same_Some y seat is)) new, all.1)
changed R (suc place) change (x ∷ xs) (y ∷ ys) now seat all is new = (all.0, changed R place change xs ys now seat all.1 is new)

-- one member changes, and still stands for the same
pub kept : {K S : Type 0} (R : K → S → Type 0) (place : ℕ) (kept : List K) (seats : List S) (now : K) (seat : S)
    → AllZip R kept seats → slice_get seats place ≡ Some seat → R now seat → AllZip R (set kept place now) seats
kept R place [] [] now seat all is new = absurd (none-some seat is)
kept R place [] (y ∷ ys) now seat all is new = absurd all
kept R place (x ∷ xs) [] now seat all is new = absurd all
kept R zero (x ∷ xs) (y ∷ ys) now seat all is new = (subst (λ one. R now one) (sym (same_Some y seat is)) new, all.1)
kept R (suc place) (x ∷ xs) (y ∷ ys) now seat all is new = (all.0, kept R place xs ys now seat all.1 is new)

-- one more stands for one more
pub joined : {K S : Type 0} (R : K → S → Type 0) (kept : List K) (seats : List S) (now : K) (seat : S)
    → AllZip R kept seats → R now seat → AllZip R (kept ++ now ∷ []) (seats ++ seat ∷ [])
joined R [] [] now seat all new = (new, tt)
joined R [] (y ∷ ys) now seat all new = absurd all
joined R (x ∷ xs) [] now seat all new = absurd all
joined R (x ∷ xs) (y ∷ ys) now seat all new = (all.0, joined R xs ys now seat all.1 new)

-- all members change alike
pub all_changed : {K S : Type 0} (R : K → S → Type 0) (one : K → K) (other : S → S) (kept : List K) (seats : List S)
    → ((k : K) (s : S) → R k s → R (one k) (other s)) → AllZip R kept seats → AllZip R (map one kept) (map other seats)
all_changed R one other [] [] each all = tt
all_changed R one other [] (y ∷ ys) each all = absurd all
all_changed R one other (x ∷ xs) [] each all = absurd all
all_changed R one other (x ∷ xs) (y ∷ ys) each all = (each x y all.0, all_changed R one other xs ys each all.1)

-- ---- of one list

pub all_at : {K : Type 0} (P : K → Type 0) (place : ℕ) (kept : List K) (other : K) → AllByRecursion P kept → place < length kept → P (get_or kept place other)
all_at P place [] other all less = let no : ⊥ = omega (arith, less) in absurd no
all_at P zero (x ∷ xs) other all less = all.0
all_at P (suc place) (x ∷ xs) other all less = all_at P place xs other all.1 (omega (arith, less))

pub all_set : {K : Type 0} (P : K → Type 0) (place : ℕ) (kept : List K) (now : K) → AllByRecursion P kept → P now → AllByRecursion P (set kept place now)
all_set P place [] now all new = tt
all_set P zero (x ∷ xs) now all new = (new, all.1)
all_set P (suc place) (x ∷ xs) now all new = (all.0, all_set P place xs now all.1 new)

pub all_mapped : {K : Type 0} (P : K → Type 0) (change : K → K) (kept : List K) → ((k : K) → P k → P (change k)) → AllByRecursion P kept → AllByRecursion P (map change kept)
all_mapped P change [] each all = tt
all_mapped P change (x ∷ xs) each all = (each x all.0, all_mapped P change xs each all.1)

-- so many changed, and one more
pub one_more : {K : Type 0} (change : K → K) (place : ℕ) (before now : List K) (one new : K)
    → now ≡ map change (take place before) ++ drop place before → one ≡ get_or now place one → place < length now → new ≡ change one
    → set now place new ≡ map change (take (suc place) before) ++ drop (suc place) before
one_more change zero [] now one new same at less is =
    let no : ⊥ = omega (arith, subst (λ list. zero < length list) same less) in absurd no
one_more change zero (x ∷ xs) now one new same at less is =
    let first : one ≡ x = at ∙ ap (λ list. get_or list zero one) same in
    ap (λ list. set list zero new) same ∙ ap (λ y. y ∷ xs) (is ∙ ap change first)
one_more change (suc place) [] now one new same at less is =
    let no : ⊥ = omega (arith, subst (λ list. suc place < length list) same less) in absurd no
one_more change (suc place) (x ∷ xs) now one new same at less is =
    let rest = map change (take place xs) ++ drop place xs in
    let rest_at : one ≡ get_or rest place one = at ∙ ap (λ list. get_or list (suc place) one) same in
    let rest_less : place < length rest = omega (arith, subst (λ list. suc place < length list) same less) in
    ap (λ list. set list (suc place) new) same
    ∙ ap (λ list. change x ∷ list) (one_more change place xs rest one new refl rest_at rest_less is)

-- and all of them
pub all_done : {K : Type 0} (change : K → K) (place : ℕ) (before now : List K)
    → now ≡ map change (take place before) ++ drop place before → length before ≤ place → now ≡ map change before
all_done change zero [] now same most = same
all_done change zero (x ∷ xs) now same most = let no : ⊥ = omega (arith, most) in absurd no
all_done change (suc place) [] now same most = same
all_done change (suc place) (x ∷ xs) now same most =
    same ∙ ap (λ list. change x ∷ list) (all_done change place xs (map change (take place xs) ++ drop place xs) refl (omega (arith, most)))
