-- The first so many that pass a test are changed, one after the other.
use Rattle.std.proofs.Common.{◌≡◌, ◌∙◌, ℕ, zero, suc, ◌+◌, Bool, true, false, List, [], ◌∷◌, length, map, ap, refl, sym, inl, inr, Some, None, ◌-◌, ◌<◌, arith}
use Rattle.std.specs.Prelude.{◌≢◌, if◌then◌else◌, option_map, slice_get}
use Rattle.std.proofs.lemmas.Bool.{cases_Bool}
use Rattle.call_table.specs.Table.{Call, call_no, changed, changed_at, group_of, is_in, places_from}
use Rattle.call_table.specs.declared.call.CallNo.{CallNo}
use Rattle.call_table.specs.declared.call.Group.TheVariants.{Outstanding}
use Rattle.client_rules.specs.Asking.{alone, alone_if_sent}
use Rattle.client_calls.proofs.ChangeLemmas.{value}
use Rattle.client_calls.proofs.WalkLemmas.{places_here}

-- so many of those that pass are changed
abbrev pub marks : {X : Type 0} → (X → Bool) → (X → X) → ℕ → List X → List X
marks test change k [] = []
marks test change zero (x ∷ xs) = x ∷ xs
marks test change (suc k) (x ∷ xs) = if test x then change x ∷ marks test change k xs else x ∷ marks test change (suc k) xs

-- none of them is changed
pub marks_none : {X : Type 0} (test : X → Bool) (change : X → X) (xs : List X) → marks test change 0 xs ≡ xs
marks_none test change [] = refl
marks_none test change (x ∷ xs) = refl

-- one that doesn't pass stays
marks_over : {X : Type 0} (test : X → Bool) (change : X → X) (k : ℕ) (x : X) (xs : List X) → test x ≡ false → marks test change k (x ∷ xs) ≡ x ∷ marks test change k xs
marks_over test change zero x xs fails = ap (λ ys. x ∷ ys) (sym (marks_none test change xs))
marks_over test change (suc k) x xs fails = ap (λ b. if b then change x ∷ marks test change k xs else x ∷ marks test change (suc k) xs) fails

marks_here : {X : Type 0} (test : X → Bool) (change : X → X) (k : ℕ) (x : X) (xs : List X) → test x ≡ true → marks test change (suc k) (x ∷ xs) ≡ change x ∷ marks test change k xs
marks_here test change k x xs holds = ap (λ b. if b then change x ∷ marks test change k xs else x ∷ marks test change (suc k) xs) holds

-- where the change leaves the test as it is, the same ones pass
pub places_marked : {X : Type 0} (test : X → Bool) (change : X → X) → ((x : X) → test (change x) ≡ test x) → (place k : ℕ) (xs : List X)
    → places_from test place (marks test change k xs) ≡ places_from test place xs
places_marked test change keeps place k [] = refl
places_marked test change keeps place zero (x ∷ xs) = refl
places_marked test change keeps place (suc k) (x ∷ xs) = elim (cases_Bool (test x)) [
  | inl holds ↦ ap (places_from test place) (marks_here test change k x xs holds)
      ∙ (places_here test place (change x) (marks test change k xs) true (keeps x ∙ holds)
      ∙ (ap (λ places. place ∷ places) (places_marked test change keeps (place + 1) k xs)
      ∙ sym (places_here test place x xs true holds)))
  | inr fails ↦ ap (places_from test place) (marks_over test change (suc k) x xs fails)
      ∙ (places_here test place x (marks test change (suc k) xs) false fails
      ∙ (places_marked test change keeps (place + 1) (suc k) xs
      ∙ sym (places_here test place x xs false fails)))
]

-- all of them are changed
pub marks_all : {X : Type 0} (test : X → Bool) (change : X → X) (place : ℕ) (xs : List X)
    → marks test change (length (places_from test place xs)) xs ≡ map (λ x. if test x then change x else x) xs
marks_all test change place [] = refl
marks_all test change place (x ∷ xs) = elim (cases_Bool (test x)) [
  | inl holds ↦ ap (λ places. marks test change (length places) (x ∷ xs)) (places_here test place x xs true holds)
      ∙ (marks_here test change (length (places_from test (place + 1) xs)) x xs holds
      ∙ (ap (λ ys. change x ∷ ys) (marks_all test change (place + 1) xs)
      ∙ sym (ap (λ b. (if b then change x else x) ∷ map (λ y. if test y then change y else y) xs) holds)))
  | inr fails ↦ ap (λ places. marks test change (length places) (x ∷ xs)) (places_here test place x xs false fails)
      ∙ (marks_over test change (length (places_from test (place + 1) xs)) x xs fails
      ∙ (ap (λ ys. x ∷ ys) (marks_all test change (place + 1) xs)
      ∙ sym (ap (λ b. (if b then change x else x) ∷ map (λ y. if test y then change y else y) xs) fails)))
]

abbrev IsNext : {X : Type 0} → (X → Bool) → (X → X) → ℕ → ℕ → ℕ → List X → Type 0
IsNext test change place k found xs = (j : ℕ) × ((found ≡ place + j) × (marks test change (suc k) xs ≡ changed_at j change (marks test change k xs)))

more_here : {X : Type 0} (test : X → Bool) (change : X → X) (place k found : ℕ) (x : X) (xs : List X) → test x ≡ true
    → ((before : ℕ) → slice_get (places_from test (place + 1) xs) before ≡ Some found → IsNext test change (place + 1) before found xs)
    → slice_get (place ∷ places_from test (place + 1) xs) k ≡ Some found → IsNext test change place k found (x ∷ xs)
more_here test change place zero found x xs holds later told =
    (0, (omega (arith, ap (value 0) told), marks_here test change 0 x xs holds ∙ ap (λ ys. change x ∷ ys) (marks_none test change xs)))
more_here test change place (suc k) found x xs holds later told =
    let next = later k told in (
      suc next.0,
      (
        omega (arith, next.1.0),
        marks_here test change (suc k) x xs holds ∙ (ap (λ ys. change x ∷ ys) next.1.1 ∙ ap (changed_at (suc next.0) change) (sym (marks_here test change k x xs holds))),
      ),
    )

-- the next one that passes is changed too
pub marks_more : {X : Type 0} (test : X → Bool) (change : X → X) (place k found : ℕ) (xs : List X)
    → slice_get (places_from test place xs) k ≡ Some found
    → IsNext test change place k found xs
marks_more test change place k found [] told = grind (arith, told)
marks_more test change place k found (x ∷ xs) told = elim (cases_Bool (test x)) [
  | inl holds ↦ more_here test change place k found x xs holds (λ before. marks_more test change (place + 1) before found xs) (ap (λ places. slice_get places k) (sym (places_here test place x xs true holds)) ∙ told)
  | inr fails ↦
      let later = marks_more test change (place + 1) k found xs (ap (λ places. slice_get places k) (sym (places_here test place x xs false fails)) ∙ told) in (
        suc later.0,
        (
          omega (arith, later.1.0),
          marks_over test change (suc k) x xs fails ∙ (ap (λ ys. x ∷ ys) later.1.1 ∙ ap (changed_at (suc later.0) change) (sym (marks_over test change k x xs fails))),
        ),
      )
]

is_there : {X : Type 0} (k : ℕ) (xs : List X) → k < length xs → slice_get xs k ≢ None
is_there k [] less = absurd (omega (arith, less))
is_there zero (x ∷ xs) less = λ told. grind (arith, told)
is_there (suc k) (x ∷ xs) less = is_there k xs (omega (arith, less))

-- ---- the calls that are sent

abbrev pub marked : ℕ → List Call → List Call
marked k calls = marks (is_in Outstanding) alone k calls

named_at : (places : List ℕ) (k : ℕ) → slice_get places k ≡ option_map (λ (call : CallNo). call.n - 1) (slice_get (map call_no places) k)
named_at [] k = refl
named_at (place ∷ places) zero = ap Some (omega arith)
named_at (place ∷ places) (suc k) = named_at places k

named_count : (places : List ℕ) → length (map call_no places) ≡ length places
named_count [] = refl
named_count (place ∷ places) = ap suc (named_count places)

-- the next call that is sent is marked
pub marked_more : (calls : List Call) (k : ℕ) (call : CallNo) → slice_get (group_of Outstanding (marked k calls)) k ≡ Some call → changed call alone (marked k calls) ≡ marked (k + 1) calls
marked_more calls k call told =
    let same = places_marked (is_in Outstanding) alone (λ x. refl) 0 k calls in
    let there = sym (ap (λ places. slice_get places k) same) ∙ (named_at (places_from (is_in Outstanding) 0 (marked k calls)) k ∙ ap (option_map (λ (one : CallNo). one.n - 1)) told) in
    let next = marks_more (is_in Outstanding) alone 0 k (call.n - 1) calls there in
    let more : k + 1 ≡ suc k = omega arith in
    let place : next.0 ≡ call.n - 1 = omega (arith, next.1.0) in
    sym (ap (λ n. marked n calls) more ∙ (next.1.1 ∙ ap (λ j. changed_at j alone (marked k calls)) place))

-- all calls that are sent are marked
pub marked_all : (calls : List Call) (k : ℕ) → k ≡ length (group_of Outstanding calls) → marked k calls ≡ map alone_if_sent calls
marked_all calls k all = ap (λ n. marked n calls) (all ∙ named_count (places_from (is_in Outstanding) 0 calls)) ∙ marks_all (is_in Outstanding) alone 0 calls

-- there is a next one where fewer are marked
pub marked_next : (calls : List Call) (k n : ℕ) → k < n → n ≡ length (group_of Outstanding calls) → slice_get (group_of Outstanding (marked k calls)) k ≢ None
marked_next calls k n less all =
    let same : group_of Outstanding (marked k calls) ≡ group_of Outstanding calls = ap (map call_no) (places_marked (is_in Outstanding) alone (λ x. refl) 0 k calls) in
    rw same (is_there k (group_of Outstanding calls) (omega (arith, less, all)))
