-- Queries that are for the service.
use Rattle.std.proofs.Common.{◌≡◌, ℕ, Bool, true, false, List, Option, Some, None, refl, sym}
use Rattle.std.specs.Prelude.{IsTrue, ◌↔◌, ◌==◌}
use Rattle.std.specs.List.{list_any, Contains}
use Rattle.std.specs.Cmp.{nat_eq_equiv}
use Rattle.std.proofs.lemmas.Bool.{eqb-true}
use Rattle.std.proofs.lemmas.Map.Views.{list_any-from_Contains, Contains-from_any}
use Rattle.service_tl.specs.Schema.{service_numbers, gzip_packed}
use Rattle.server_rules.specs.Calls.{query_refusal}

-- two tests of one fact
same_test : (a b : Bool) → (a ≡ true → b ≡ true) → (b ≡ true → a ≡ true) → a ≡ b
same_test true b there back = sym (there refl)
same_test false true there back = back refl
same_test false false there back = refl

-- a number that a test of membership finds
pub found-among : (number : ℕ) (numbers : List ℕ) (found : Bool) → (IsTrue found ↔ Contains numbers number) → list_any (λ one. number == one) numbers ≡ found
found-among number numbers found is =
    same_test _ _ (λ h. is.1 (Contains-from_any eqb-true number numbers h)) (λ h. list_any-from_Contains nat_eq_equiv number numbers (is.0 h))

-- a query that no service constructor begins isn't refused
pub not-refused : (beginning : Option ℕ) (number : ℕ) → beginning ≡ Some number → (number == gzip_packed) ≡ false
    → list_any (λ service. number == service) service_numbers ≡ false → None ≡ query_refusal beginning
not-refused beginning number is plain none = rw is (rw plain (rw none refl))
