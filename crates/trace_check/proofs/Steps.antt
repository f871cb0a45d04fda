-- Steps that may fail, and tests.
use Rattle.std.proofs.Common.{◌≡◌, ◌∙◌, Bool, true, false, cond, Option, Some, None, ◌⊎◌, inl, inr, refl, ap}
use Rattle.std.specs.Option.{option_map}
use Rattle.sched_text.specs.Reading.{◌>>=◌}

-- ---- tests

pub branch : {A : Type 0} (b : Bool) (x y z : A) → cond b x y ≡ z → ((b ≡ true) × (x ≡ z)) ⊎ ((b ≡ false) × (y ≡ z))
branch true x y z e = inl (refl, e)
branch false x y z e = inr (refl, e)

pub not_equal : (b : Bool) → (b ≡ true → ⊥) → b ≡ false
not_equal true h = absurd (h refl)
not_equal false h = refl

-- ---- options

pub none_unless : {A : Type 0} (o : Option A) → ((x : A) → o ≡ Some x → ⊥) → o ≡ None
none_unless None h = refl
none_unless (Some x) h = absurd (h x refl)

-- the first step of two that gave a value gave one, and so did the second
pub given : {A B : Type 0} (o : Option A) (f : A → Option B) (y : B) → (o >>= f) ≡ Some y → (x : A) × (o ≡ Some x) × (f x ≡ Some y)
given (Some x) f y e = (x, refl, e)
given None f y e = cc

pub gives : {A B : Type 0} (o : Option A) (f : A → Option B) (x : A) (r : Option B) → o ≡ Some x → f x ≡ r → (o >>= f) ≡ r
gives (Some z) f x r h e = let same : z ≡ x = cc in ap f same ∙ e
gives None f x r h e = cc

pub mapped : {A B : Type 0} (f : A → B) (o : Option A) (y : B) → option_map f o ≡ Some y → (x : A) × (o ≡ Some x) × (f x ≡ y)
mapped f (Some x) y e = (x, refl, cc)
mapped f None y e = cc
