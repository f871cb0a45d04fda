-- Those that pass a test are changed, the last one first: what passes and has fewer before it is as it was.
use Rattle.std.proofs.Common.{◌≡◌, ◌∙◌, ℕ, zero, suc, ◌+◌, Bool, true, false, List, [], ◌∷◌, length, map, ap, refl, sym, inl, inr, Option, Some, None, ◌-◌, ◌<◌, arith}
use Rattle.std.specs.Prelude.{◌≢◌, if◌then◌else◌, option_map, slice_get}
use Rattle.std.proofs.lemmas.Bool.{cases_Bool}
use Rattle.call_table.specs.declared.call.CallNo.{CallNo}
use Rattle.call_table.specs.declared.call.Group.{Group}
use Rattle.call_table.specs.Table.{Call, call_no, changed, changed_at, group_of, is_in, places_from}
use Rattle.client_calls.specs.Rules.{changed_if}
use Rattle.client_calls.proofs.ChangeLemmas.{value}

-- those that pass and have at least so many before them that pass are changed
abbrev pub later : {X : Type 0} → (X → Bool) → (X → X) → ℕ → List X → List X
later test change k [] = []
later test change zero (x ∷ xs) = changed_if test change x ∷ later test change zero xs
later test change (suc k) (x ∷ xs) = if test x then x ∷ later test change k xs else x ∷ later test change (suc k) xs

abbrev pub put : Bool → ℕ → List ℕ → List ℕ
put is place places = if is then place ∷ places else places

pub places_here : {X : Type 0} (test : X → Bool) (place : ℕ) (x : X) (xs : List X) (is : Bool) → test x ≡ is → places_from test place (x ∷ xs) ≡ put is place (places_from test (place + 1) xs)
places_here test place x xs is told = ap (λ b. put b place (places_from test (place + 1) xs)) told

later_over : {X : Type 0} (test : X → Bool) (change : X → X) (k : ℕ) (x : X) (xs : List X) → test x ≡ false → later test change k (x ∷ xs) ≡ x ∷ later test change k xs
later_over test change zero x xs fails = ap (λ b. (if b then change x else x) ∷ later test change zero xs) fails
later_over test change (suc k) x xs fails = ap (λ b. if b then x ∷ later test change k xs else x ∷ later test change (suc k) xs) fails

later_past : {X : Type 0} (test : X → Bool) (change : X → X) (k : ℕ) (x : X) (xs : List X) → test x ≡ true → later test change (suc k) (x ∷ xs) ≡ x ∷ later test change k xs
later_past test change k x xs holds = ap (λ b. if b then x ∷ later test change k xs else x ∷ later test change (suc k) xs) holds

later_here : {X : Type 0} (test : X → Bool) (change : X → X) (x : X) (xs : List X) → test x ≡ true → later test change 0 (x ∷ xs) ≡ change x ∷ later test change 0 xs
later_here test change x xs holds = ap (λ b. (if b then change x else x) ∷ later test change zero xs) holds

-- all are changed
pub later_all : {X : Type 0} (test : X → Bool) (change : X → X) (xs : List X) → later test change 0 xs ≡ map (changed_if test change) xs
later_all test change [] = refl
later_all test change (x ∷ xs) = ap (λ ys. changed_if test change x ∷ ys) (later_all test change xs)

-- none is changed where there are no more
pub later_none : {X : Type 0} (test : X → Bool) (change : X → X) (place k : ℕ) (xs : List X) → length (places_from test place xs) ≡ k → later test change k xs ≡ xs
later_none test change place k [] told = refl
later_none test change place zero (x ∷ xs) told = elim (cases_Bool (test x)) [
  | inl holds ↦ absurd (omega (arith, sym (ap length (places_here test place x xs true holds)) ∙ told))
  | inr fails ↦ later_over test change 0 x xs fails
      ∙ ap (λ ys. x ∷ ys) (later_none test change (place + 1) 0 xs (sym (ap length (places_here test place x xs false fails)) ∙ told))
]
later_none test change place (suc k) (x ∷ xs) told = elim (cases_Bool (test x)) [
  | inl holds ↦ later_past test change k x xs holds
      ∙ ap (λ ys. x ∷ ys) (later_none test change (place + 1) k xs (omega (arith, sym (ap length (places_here test place x xs true holds)) ∙ told)))
  | inr fails ↦ later_over test change (suc k) x xs fails
      ∙ ap (λ ys. x ∷ ys) (later_none test change (place + 1) (suc k) xs (sym (ap length (places_here test place x xs false fails)) ∙ told))
]

abbrev IsNext : {X : Type 0} → (X → Bool) → (X → X) → ℕ → ℕ → ℕ → List X → Type 0
IsNext test change place k found xs = (j : ℕ) × ((found ≡ place + j) × (later test change k xs ≡ changed_at j change (later test change (suc k) xs)))

next_past : {X : Type 0} (test : X → Bool) (change : X → X) (place k found : ℕ) (x : X) (xs : List X) → test x ≡ true
    → ((before : ℕ) → slice_get (places_from test (place + 1) (later test change (suc before) xs)) before ≡ Some found → IsNext test change (place + 1) before found xs)
    → slice_get (place ∷ places_from test (place + 1) (later test change k xs)) k ≡ Some found → IsNext test change place k found (x ∷ xs)
next_past test change place zero found x xs holds next told =
    (0, (omega (arith, ap (value 0) told), later_here test change x xs holds ∙ ap (changed_at 0 change) (sym (later_past test change 0 x xs holds))))
next_past test change place (suc k) found x xs holds next told =
    let found_next = next k told in (
      suc found_next.0,
      (
        omega (arith, found_next.1.0),
        later_past test change k x xs holds ∙ (ap (λ ys. x ∷ ys) found_next.1.1 ∙ ap (changed_at (suc found_next.0) change) (sym (later_past test change (suc k) x xs holds))),
      ),
    )

-- the last one that isn't changed yet is changed too
pub later_next : {X : Type 0} (test : X → Bool) (change : X → X) (place k found : ℕ) (xs : List X)
    → slice_get (places_from test place (later test change (suc k) xs)) k ≡ Some found
    → IsNext test change place k found xs
later_next test change place k found [] told = grind (arith, told)
later_next test change place k found (x ∷ xs) told = elim (cases_Bool (test x)) [
  | inl holds ↦ next_past test change place k found x xs holds (λ before. later_next test change (place + 1) before found xs)
      (ap (λ places. slice_get places k) (sym (ap (places_from test place) (later_past test change k x xs holds) ∙ places_here test place x (later test change k xs) true holds)) ∙ told)
  | inr fails ↦
      let next = later_next test change (place + 1) k found xs
      (ap (λ places. slice_get places k) (sym (ap (places_from test place) (later_over test change (suc k) x xs fails) ∙ places_here test place x (later test change (suc k) xs) false fails)) ∙ told) in (
        suc next.0,
        (
          omega (arith, next.1.0),
          later_over test change k x xs fails ∙ (ap (λ ys. x ∷ ys) next.1.1 ∙ ap (changed_at (suc next.0) change) (sym (later_over test change (suc k) x xs fails))),
        ),
      )
]

-- there is one where so many pass
pub later_there : {X : Type 0} (test : X → Bool) (change : X → X) (place k : ℕ) (xs : List X)
    → k < length (places_from test place xs) → slice_get (places_from test place (later test change (suc k) xs)) k ≢ None
later_there test change place k [] less = absurd (omega (arith, less))
later_there test change place zero (x ∷ xs) less = elim (cases_Bool (test x)) [
  | inl holds ↦ rw (ap (places_from test place) (later_past test change 0 x xs holds) ∙ places_here test place x (later test change 0 xs) true holds) (λ told. grind (arith, told))
  | inr fails ↦ rw (ap (places_from test place) (later_over test change 1 x xs fails) ∙ places_here test place x (later test change 1 xs) false fails)
      (later_there test change (place + 1) 0 xs (omega (arith, less, ap length (places_here test place x xs false fails))))
]
later_there test change place (suc k) (x ∷ xs) less = elim (cases_Bool (test x)) [
  | inl holds ↦ rw (ap (places_from test place) (later_past test change (suc k) x xs holds) ∙ places_here test place x (later test change (suc k) xs) true holds)
      (later_there test change (place + 1) k xs (omega (arith, less, ap length (places_here test place x xs true holds))))
  | inr fails ↦ rw (ap (places_from test place) (later_over test change (suc (suc k)) x xs fails) ∙ places_here test place x (later test change (suc (suc k)) xs) false fails)
      (later_there test change (place + 1) (suc k) xs (omega (arith, less, ap length (places_here test place x xs false fails))))
]

-- ---- by what a group tells

got_map : {X Y : Type 0} (f : X → Y) (xs : List X) (k : ℕ) → slice_get (map f xs) k ≡ option_map f (slice_get xs k)
got_map f [] k = refl
got_map f (x ∷ xs) zero = refl
got_map f (x ∷ xs) (suc k) = got_map f xs k

abbrev no_of : Option CallNo → ℕ
no_of None = 0
no_of (Some call) = call.n

got_no : (own : Option ℕ) (call : CallNo) → option_map call_no own ≡ Some call → own ≡ Some (call.n - 1)
got_no None call told = absurd (grind (arith, told))
got_no (Some place) call told = ap Some (omega (arith, ap no_of told))

none_there : (own : Option ℕ) → option_map call_no own ≡ None → own ≡ None
none_there None told = refl
none_there (Some place) told = absurd (grind (arith, told))

-- the member of a group is the next one
pub walks : {X : Type 0} (test : X → Bool) (change : X → X) (n k : ℕ) (xs : List X) (call : CallNo) → k < n
    → option_map call_no (slice_get (places_from test 0 (later test change (n - k) xs)) (n - 1 - k)) ≡ Some call
    → changed call change (later test change (n - k) xs) ≡ later test change (n - (k + 1)) xs
walks test change n k xs call less told =
    let now : n - k ≡ suc (n - 1 - k) = omega (arith, less) in
    let after : n - 1 - k ≡ n - (k + 1) = omega (arith, less) in
    let there = ap (λ m. slice_get (places_from test 0 (later test change m xs)) (n - 1 - k)) (sym now) ∙ got_no _ call told in
    let next = later_next test change 0 (n - 1 - k) (call.n - 1) xs there in
    let place : call.n - 1 ≡ next.0 = omega (arith, next.1.0) in
    ap (λ m. changed call change (later test change m xs)) now
    ∙ (ap (λ j. changed_at j change (later test change (suc (n - 1 - k)) xs)) place
    ∙ (sym next.1.1 ∙ ap (λ m. later test change m xs) after))

pub walks_no_further : {X : Type 0} (test : X → Bool) (change : X → X) (n k : ℕ) (xs : List X) → k < n → n ≡ length (places_from test 0 xs)
    → option_map call_no (slice_get (places_from test 0 (later test change (n - k) xs)) (n - 1 - k)) ≢ None
walks_no_further test change n k xs less all told =
    let now : n - k ≡ suc (n - 1 - k) = omega (arith, less) in
    later_there test change 0 (n - 1 - k) xs (omega (arith, less, all))
    (ap (λ m. slice_get (places_from test 0 (later test change m xs)) (n - 1 - k)) (sym now) ∙ none_there _ told)

pub group_got : (group : Group) (calls : List Call) (k : ℕ) → slice_get (group_of group calls) k ≡ option_map call_no (slice_get (places_from (is_in group) 0 calls) k)
group_got group calls k = got_map call_no (places_from (is_in group) 0 calls) k

count_map : {X Y : Type 0} (f : X → Y) (xs : List X) → length (map f xs) ≡ length xs
count_map f [] = refl
count_map f (x ∷ xs) = ap suc (count_map f xs)

pub group_count : (group : Group) (calls : List Call) → length (group_of group calls) ≡ length (places_from (is_in group) 0 calls)
group_count group calls = count_map call_no (places_from (is_in group) 0 calls)
