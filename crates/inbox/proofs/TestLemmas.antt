-- Tests of the definitions, and the facts that they test.
use Rattle.std.proofs.Common.{◌≡◌, ◌≢◌, ℕ, Bool, true, false, cond, nat_eq, List, refl, sym, subst, arith}
use Rattle.std.specs.Prelude.{IsTrue, ◌↔◌}
use mathlib.Core.Bool.{not}
use Rattle.std.specs.List.{list_any, Contains}
use Rattle.std.specs.Cmp.{nat_eq_equiv}
use Rattle.std.proofs.lemmas.Bool.{eqb-true, eqb-false}
use Rattle.std.proofs.lemmas.Bool.Decides.{nat_tests}
use Rattle.std.proofs.lemmas.Map.Views.{list_any-from_Contains, Contains-from_any}
use Rattle.std.proofs.lemmas.List.Folds.{Any-from_list_any, list_any_at}
use Rattle.salt_line.specs.Rows.{Row, IsValidAt}
use Rattle.salt_line.specs.Line.{Line, IsValidSalt}
use Rattle.inbox.specs.Refusals.{is_row_of, is_valid_salt}

-- two tests of one fact
pub same_test : (a b : Bool) → (a ≡ true → b ≡ true) → (b ≡ true → a ≡ true) → a ≡ b
same_test true b there back = sym (there refl)
same_test false true there back = back refl
same_test false false there back = refl

-- a number that a test of membership finds
pub list_any-is : (number : ℕ) (numbers : List ℕ) (found : Bool) → (IsTrue found ↔ Contains numbers number) → list_any (λ one. nat_eq number one) numbers ≡ found
list_any-is number numbers found is =
    same_test _ _ (λ h. is.1 (Contains-from_any eqb-true number numbers h)) (λ h. list_any-from_Contains nat_eq_equiv number numbers (is.0 h))

-- what no service constructor begins is a call
pub not_service : (found test calling : Bool) → found ≡ false → test ≡ found → not found ≡ cond test calling true
not_service true test calling none is = cc
not_service false true calling none is = cc
not_service false false calling none is = refl

guarded : (b t : Bool) → cond b false t ≡ true → (b ≡ false) × (t ≡ true)
guarded true t h = (cc, cc)
guarded false t h = (refl, h)

guarded_back : (b t : Bool) → b ≡ false → t ≡ true → cond b false t ≡ true
guarded_back true t e h = cc
guarded_back false t e h = h

pub not_equal : (a b : ℕ) → a ≢ b → nat_eq a b ≡ false
not_equal a b ne = grind (arith, nat_tests)

row_valid : (start now salt : ℕ) (row : Row) → is_row_of start now salt row ≡ true → (row.word ≡ salt) × IsValidAt start row now
row_valid start now salt row h = grind (arith, nat_tests)

row_test : (start now salt : ℕ) (row : Row) → row.word ≡ salt → IsValidAt start row now → is_row_of start now salt row ≡ true
row_test start now salt row same valid = grind (arith, nat_tests)

-- a salt passes the test where it is valid, and only there
pub valid_passes : (line : Line) (now salt : ℕ) → IsValidSalt line now salt → is_valid_salt line now salt ≡ true
valid_passes line now salt valid =
    guarded_back (nat_eq salt 0) _ (not_equal salt 0 valid.0)
    (list_any_at (is_row_of line.start now salt) line.rows valid.1.0 valid.1.1 valid.1.2
    (let same = valid.1.3 in
    subst (λ (row : Row). is_row_of line.start now salt row ≡ true) (sym same) (row_test line.start now salt valid.1.1 valid.1.4.0 valid.1.4.1)))

pub passes_valid : (line : Line) (now salt : ℕ) → is_valid_salt line now salt ≡ true → IsValidSalt line now salt
passes_valid line now salt passes =
    let both = guarded (nat_eq salt 0) (list_any (is_row_of line.start now salt) line.rows) passes in
    let some = Any-from_list_any (is_row_of line.start now salt) line.rows both.1 in
    (eqb-false salt 0 both.0, (some.0, some.1, some.2, some.3, row_valid line.start now salt some.1 some.4))

pub salt_test : (line : Line) (now salt : ℕ) (found : Bool) → (IsTrue found ↔ IsValidSalt line now salt) → is_valid_salt line now salt ≡ found
salt_test line now salt found is = same_test _ _ (λ h. is.1 (passes_valid line now salt h)) (λ h. valid_passes line now salt (is.0 h))
