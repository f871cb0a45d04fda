-- Lists, and what stands in front of their last members.
use Rattle.std.proofs.Common.{◌≡◌, ◌∙◌, ℕ, Bool, true, false, List, [], ◌∷◌, ◌++◌, take, sym, ap, suc, zero, if◌then◌else◌}
use Rattle.std.specs.List.{AllByRecursion}
use Rattle.std.proofs.lemmas.Bool.{cond_both}

module _ {X : Type 0} where
  pub all_front : (P : X → Type 0) (xs ys : List X) → AllByRecursion P (xs ++ ys) → AllByRecursion P xs
  all_front P [] ys h = tt
  all_front P (x ∷ xs) ys h = (h.0, all_front P xs ys h.1)

  pub all_taken : (P : X → Type 0) (n : ℕ) (xs : List X) → AllByRecursion P xs → AllByRecursion P (take n xs)
  all_taken P zero xs h = tt
  all_taken P (suc n) [] h = tt
  all_taken P (suc n) (x ∷ xs) h = (h.0, all_taken P n xs h.1)

  -- what has a mark stands in front of those that have none
  module _ (marked : X → Bool) where
    none_marked : (xs before behind : List X) (x : X) → xs ≡ before ++ x ∷ behind → AllByRecursion (λ one. marked one ≡ false) xs → marked x ≡ false
    none_marked [] [] behind x is h = absurd (let e : [] ≡ x ∷ behind = is in cc)
    none_marked [] (b ∷ before) behind x is h = absurd (let e : [] ≡ b ∷ (before ++ x ∷ behind) = is in cc)
    none_marked (y ∷ xs) [] behind x is h = let same : y ≡ x = cc in ap marked (sym same) ∙ h.0
    none_marked (y ∷ xs) (b ∷ before) behind x is h = let rest : xs ≡ before ++ x ∷ behind = cc in none_marked xs before behind x rest h.1

    pub in_front : (old more before behind : List X) (x : X) → old ++ more ≡ before ++ x ∷ behind → AllByRecursion (λ one. marked one ≡ false) more → marked x ≡ true
        → (rest : List X) × (old ≡ before ++ x ∷ rest)
    in_front [] more before behind x is h has = absurd (let e : false ≡ true = sym (none_marked more before behind x is h) ∙ has in cc)
    in_front (y ∷ old) more [] behind x is h has = let same : y ≡ x = cc in (old, ap (λ (z : X). z ∷ old) same)
    in_front (y ∷ old) more (b ∷ before) behind x is h has =
        let same : y ≡ b = cc in
        let tail : old ++ more ≡ before ++ x ∷ behind = cc in
        let rest = in_front old more before behind x tail h has in
        (rest.0, let e : old ≡ before ++ x ∷ rest.0 = rest.1 in cc)

  -- some of one member are it or none
  pub taken_none : (P : List X → Type 0) (n : ℕ) → P [] → P (take n [])
  taken_none P zero none = none
  taken_none P (suc n) none = none

  pub taken_one : (P : List X → Type 0) (n : ℕ) (x : X) → P [] → P (x ∷ []) → P (take n (x ∷ []))
  taken_one P zero x none one = none
  taken_one P (suc zero) x none one = one
  taken_one P (suc (suc n)) x none one = one

  pub taken_if : (P : List X → Type 0) (n : ℕ) (test : Bool) (x : X) → P [] → (test ≡ true → P (x ∷ [])) → P (take n (if test then x ∷ [] else []))
  taken_if P n test x none one =
      cond_both test (x ∷ []) [] (λ (xs : List X). P (take n xs)) (λ is. taken_one P n x none (one is)) (λ is. taken_none P n none)

  pub taken_two : (P : List X → Type 0) (n : ℕ) (x y : X) → P [] → P (x ∷ []) → P (x ∷ y ∷ []) → P (take n (x ∷ y ∷ []))
  taken_two P zero x y none one two = none
  taken_two P (suc zero) x y none one two = one
  taken_two P (suc (suc zero)) x y none one two = two
  taken_two P (suc (suc (suc n))) x y none one two = two
