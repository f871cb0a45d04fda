-- Whether a number stands in a list.
use Rattle.std.proofs.Common.{◌≡◌, ℕ, Bool, List, get_or, Contains, sym, ◌∙◌, subst, nat_eq}
use Rattle.std.specs.Prelude.{◌↔◌, IsTrue}
use Rattle.std.specs.List.{list_any}
use Rattle.std.proofs.lemmas.Bool.{eqb-true, eq-eqb}
use Rattle.std.proofs.lemmas.List.Folds.{Any-from_list_any, list_any_at}

pub contains_number : (numbers : List ℕ) (number : ℕ) (result : Bool) → result ≡ list_any (λ y. nat_eq y number) numbers → IsTrue result ↔ Contains numbers number
contains_number numbers number result e = (
  (λ yes. let any = Any-from_list_any (λ y. nat_eq y number) numbers (sym e ∙ yes) in
      let same : any.1 ≡ number = eqb-true _ _ any.4 in
      (any.0, any.2, subst (λ (x : ℕ). get_or numbers any.0 x ≡ x) same any.3)),
  (λ held. e ∙ list_any_at (λ y. nat_eq y number) numbers held.0 number held.1 (eq-eqb _ _ held.2)),
)
