-- Tests over lists of constructors.
use Rattle.std.proofs.Common.{◌≡◌, ℕ, ◌+◌, Bool, true, false, nat_eq, nat_lt, List, [], ◌∷◌, length, map, refl, sym, arith}
use Rattle.std.specs.Prelude.{IsTrue, ◌↔◌, ◌≢◌, if◌then◌else◌, ◌||◌}
use Rattle.std.proofs.lemmas.Bool.Decides.{nat_tests}
use Rattle.service_tl.specs.Schema.{service_numbers, gzip_packed}
use Rattle.call_table.specs.declared.call.Group.{Group}
use Rattle.call_table.specs.Table.{Call, call_no, group_of, is_in, places_from}
use Rattle.client_rules.specs.Asking.{is_refused}
use Rattle.std.specs.List.{list_any, Contains}
use Rattle.std.specs.Cmp.{nat_eq_equiv}
use Rattle.std.proofs.lemmas.Bool.{eqb-true}
use Rattle.std.proofs.lemmas.Map.Views.{list_any-from_Contains, Contains-from_any}

-- tests that follow from one another answer the same
pub same_test : (a b : Bool) → (a ≡ true → b ≡ true) → (b ≡ true → a ≡ true) → a ≡ b
same_test true b there back = sym (there refl)
same_test false true there back = back refl
same_test false false there back = refl

-- whether a number is one of them
pub list_any_is : (number : ℕ) (numbers : List ℕ) (found : Bool) → (IsTrue found ↔ Contains numbers number) → list_any (λ one. nat_eq number one) numbers ≡ found
list_any_is number numbers found is =
    same_test _ _ (λ h. is.1 (Contains-from_any eqb-true number numbers h)) (λ h. list_any-from_Contains nat_eq_equiv number numbers (is.0 h))

-- a constructor is one that no call begins with
pub refused_is : (tag : ℕ) (found : Bool) → tag ≢ gzip_packed → (IsTrue found ↔ Contains service_numbers tag) → found ≡ is_refused tag
refused_is tag found other is =
    let no : nat_eq tag gzip_packed ≡ false = grind (arith, nat_tests) in
    rw no (sym (list_any_is tag service_numbers found is))

-- ---- groups of calls

-- there is a place where there is one that passes
pub any_placed : (test : Call → Bool) (place : ℕ) (calls : List Call) → nat_lt 0 (length (map call_no (places_from test place calls))) ≡ list_any test calls
any_placed test place [] = refl
any_placed test place (call ∷ calls) = elim (test call) as (λ b. nat_lt 0 (length (map call_no (if b then place ∷ places_from test (place + 1) calls else places_from test (place + 1) calls))) ≡ (b || list_any test calls)) [ true ↦ grind (arith, nat_tests) | false ↦ any_placed test (place + 1) calls ]

pub any_of_group : (group : Group) (calls : List Call) → nat_lt 0 (length (group_of group calls)) ≡ list_any (is_in group) calls
any_of_group group calls = any_placed (is_in group) 0 calls
