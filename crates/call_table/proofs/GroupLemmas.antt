-- The places of the calls that pass a test.
use Rattle.std.proofs.Common.{◌≡◌, ◌∙◌, ℕ, zero, suc, ◌+◌, ◌<◌, ◌≤◌, Bool, true, false, cond, ltb, eqb, None, List, [], ◌∷◌, ◌++◌, length, map, set, get_or, ap, refl, inl, inr, arith, Some, ◌-◌, sym, subst}
use Rattle.std.proofs.lemmas.Bool.{cases_Bool, lt-ltb, le-ltb, eq-eqb, ne_eqb}
use Rattle.std.specs.Prelude.{slice_get, option_map}
use Rattle.call_table.specs.Table.{places_from}
use Rattle.call_table.specs.Kept.{passes}
use Rattle.call_table.specs.Held.{IsAbove, Rises, with_member}

-- they are all at or behind the first one
pub places_above : {X : Type 0} (test : X → Bool) (low first : ℕ) (xs : List X) → low < first → IsAbove low (places_from test first xs)
places_above test low first [] below = tt
places_above test low first (x ∷ xs) below = elim (cases_Bool (test x)) [
  | inl pass ↦ rw pass (below, places_above test low (first + 1) xs (omega arith))
  | inr fail ↦ rw fail (places_above test low (first + 1) xs (omega arith))
]

pub places_rise : {X : Type 0} (test : X → Bool) (first : ℕ) (xs : List X) → Rises (places_from test first xs)
places_rise test first [] = tt
places_rise test first (x ∷ xs) = elim (cases_Bool (test x)) [
  | inl pass ↦ rw pass (places_above test first (first + 1) xs (omega arith), places_rise test (first + 1) xs)
  | inr fail ↦ rw fail (places_rise test (first + 1) xs)
]

pub places_few : {X : Type 0} (test : X → Bool) (first : ℕ) (xs : List X) → length (places_from test first xs) ≤ length xs
places_few test first [] = omega arith
places_few test first (x ∷ xs) = elim (cases_Bool (test x)) [
  | inl pass ↦ rw pass (omega (arith, places_few test (first + 1) xs))
  | inr fail ↦ rw fail (omega (arith, places_few test (first + 1) xs))
]

-- what is below all of them enters in front
pub enters_first : (member : ℕ) (enters : Bool) (xs : List ℕ) → IsAbove member xs → with_member member enters xs ≡ cond enters (member ∷ xs) xs
enters_first member enters [] h = refl
enters_first member enters (x ∷ xs) h =
    let e : ltb x member ≡ false = le-ltb x member (omega (arith, h.0)) in
    let f : eqb x member ≡ false = ne_eqb x member (λ same. omega (arith, h.0)) in
    rw (e, f) refl

enters_same : (member : ℕ) (enters : Bool) (xs : List ℕ) → with_member member enters (member ∷ xs) ≡ cond enters (member ∷ xs) xs
enters_same member enters xs =
    let e : ltb member member ≡ false = le-ltb member member (omega arith) in
    let f : eqb member member ≡ true = eq-eqb member member refl in
    rw (e, f) refl

enters_later : (member first : ℕ) (enters : Bool) (xs : List ℕ) → first < member → with_member member enters (first ∷ xs) ≡ first ∷ with_member member enters xs
enters_later member first enters xs below = let e : ltb first member ≡ true = lt-ltb first member below in rw e refl

places_set_first : {X : Type 0} (test : X → Bool) (first : ℕ) (xs : List X) (x y : X) → with_member first (test y) (places_from test first (x ∷ xs)) ≡ places_from test first (y ∷ xs)
places_set_first test first xs x y = elim (cases_Bool (test x)) [
  | inl pass ↦ rw pass (enters_same first (test y) (places_from test (first + 1) xs))
  | inr fail ↦ rw fail (enters_first first (test y) (places_from test (first + 1) xs) (places_above test first (first + 1) xs (omega arith)))
]

-- one is changed
pub places_set : {X : Type 0} (test : X → Bool) (member first : ℕ) (xs : List X) (k : ℕ) (y : X) → member ≡ first + k → k < length xs → with_member member (test y) (places_from test first xs) ≡ places_from test first (set xs k y)
places_set test member first [] k y at within = absurd (omega arith)
places_set test member first (x ∷ xs) zero y at within =
    ap (λ m. with_member m (test y) (places_from test first (x ∷ xs))) (omega arith) ∙ places_set_first test first xs x y
places_set test member first (x ∷ xs) (suc k) y at within =
    let rest = places_set test member (first + 1) xs k y (omega arith) (omega arith) in
    elim (cases_Bool (test x)) [
      | inl pass ↦ rw pass (enters_later member first (test y) (places_from test (first + 1) xs) (omega arith) ∙ ap (λ ps. first ∷ ps) rest)
      | inr fail ↦ rw fail rest
    ]

-- one more is behind them
pub places_push : {X : Type 0} (test : X → Bool) (member first : ℕ) (xs : List X) (y : X) → member ≡ first + length xs → with_member member (test y) (places_from test first xs) ≡ places_from test first (xs ++ y ∷ [])
places_push test member first [] y at = let same : member ≡ first = omega arith in rw same refl
places_push test member first (x ∷ xs) y at =
    let rest = places_push test member (first + 1) xs y (omega arith) in
    elim (cases_Bool (test x)) [
      | inl pass ↦ rw pass (enters_later member first (test y) (places_from test (first + 1) xs) (omega arith) ∙ ap (λ ps. first ∷ ps) rest)
      | inr fail ↦ rw fail rest
    ]

-- where the changed one passes as before, all places are as they were
pub places_same : {X : Type 0} (test : X → Bool) (first : ℕ) (xs : List X) (k : ℕ) (x y : X) → k < length xs → x ≡ get_or xs k x → test y ≡ test x → places_from test first (set xs k y) ≡ places_from test first xs
places_same test first [] k x y within is same = absurd (omega arith)
places_same test first (x' ∷ xs) zero x y within is same = ap (λ b. cond b (first ∷ places_from test (first + 1) xs) (places_from test (first + 1) xs)) (same ∙ ap test is)
places_same test first (x' ∷ xs) (suc k) x y within is same = ap (λ ps. cond (test x') (first ∷ ps) ps) (places_same test (first + 1) xs k x y (omega arith) is same)

pub get_map : {X Y : Type 0} (f : X → Y) (xs : List X) (k : ℕ) → slice_get (map f xs) k ≡ option_map f (slice_get xs k)
get_map f [] k = refl
get_map f (x ∷ xs) zero = refl
get_map f (x ∷ xs) (suc k) = get_map f xs k

pub get_past : {X : Type 0} (xs : List X) (k : ℕ) → length xs ≤ k → slice_get xs k ≡ None
get_past [] k past = refl
get_past (x ∷ xs) zero past = absurd (omega arith)
get_past (x ∷ xs) (suc k) past = get_past xs k (omega arith)

pub get_at : {X : Type 0} (xs : List X) (k : ℕ) (x : X) → k < length xs → x ≡ get_or xs k x → slice_get xs k ≡ Some x
get_at [] k x within is = absurd (omega arith)
get_at (x' ∷ xs) zero x within is = ap Some (sym is)
get_at (x' ∷ xs) (suc k) x within is = get_at xs k x (omega arith) is

pub get_push : {X : Type 0} (xs : List X) (x : X) → slice_get (xs ++ x ∷ []) (length xs) ≡ Some x
get_push [] x = refl
get_push (x' ∷ xs) x = get_push xs x

-- what stands at a place of them passes
record IsPlace {X : Type 0} (test : X → Bool) (first place : ℕ) (xs : List X) : Type 0 where
  behind : first ≤ place
  passing : passes test (slice_get xs (place - first)) ≡ true

next_place : {X : Type 0} (test : X → Bool) (first place : ℕ) (x : X) (xs : List X) → IsPlace test (first + 1) place xs → IsPlace test first place (x ∷ xs)
next_place test first place x xs h =
    let low : first + 1 ≤ place = h.behind in
    let e : place - first ≡ suc (place - (first + 1)) = omega arith in
    record { behind = omega arith; passing = subst (λ (j : ℕ). passes test (slice_get (x ∷ xs) j) ≡ true) (sym e) h.passing }

place_is : {X : Type 0} (test : X → Bool) (first : ℕ) (xs : List X) (k place : ℕ) → slice_get (places_from test first xs) k ≡ Some place → IsPlace test first place xs
place_is test first [] k place h = cc
place_is test first (x ∷ xs) zero place h = elim (cases_Bool (test x)) [
  | inl pass ↦
      let e : Some first ≡ Some place = rw pass at h in
      let same : first ≡ place = cc in
      let none : place - first ≡ 0 = omega arith in
      record { behind = omega arith; passing = subst (λ (j : ℕ). passes test (slice_get (x ∷ xs) j) ≡ true) (sym none) pass }
  | inr fail ↦
      let e : slice_get (places_from test (first + 1) xs) 0 ≡ Some place = rw fail at h in
      next_place test first place x xs (place_is test (first + 1) xs 0 place e)
]
place_is test first (x ∷ xs) (suc k) place h = elim (cases_Bool (test x)) [
  | inl pass ↦
      let e : slice_get (places_from test (first + 1) xs) k ≡ Some place = rw pass at h in
      next_place test first place x xs (place_is test (first + 1) xs k place e)
  | inr fail ↦
      let e : slice_get (places_from test (first + 1) xs) (suc k) ≡ Some place = rw fail at h in
      next_place test first place x xs (place_is test (first + 1) xs (suc k) place e)
]

pub place_passes : {X : Type 0} (test : X → Bool) (xs : List X) (k place : ℕ) → slice_get (places_from test 0 xs) k ≡ Some place → passes test (slice_get xs place) ≡ true
place_passes test xs k place h = subst (λ (j : ℕ). passes test (slice_get xs j) ≡ true) (omega arith) (place_is test 0 xs k place h).passing
