-- Steps of a reading, taken apart.
use Rattle.std.proofs.Common.{◌≡◌, Bool, true, false, cond, Result, Ok, Err, refl, ap}
use Rattle.tl_codec.specs.declared.fault.TlFault.{TlFault}
use Rattle.tl_codec.specs.Reading.{◌>>=◌}

-- the value of a step that did not fail
pub bind_ok : {A B : Type 0} (r : Result A TlFault) (f : A → Result B TlFault) (y : B) → (r >>= f) ≡ Ok y → (x : A) × (r ≡ Ok x) × (f x ≡ Ok y)
bind_ok (Ok x) f y e = (x, refl, e)
bind_ok (Err d) f y e = absurd cc

-- a test that did not fail
pub guard_ok : {A : Type 0} (b : Bool) (d : TlFault) (x y : A) → cond b (Err d) (Ok x) ≡ Ok y → (b ≡ false) × (x ≡ y)
guard_ok true d x y e = absurd cc
guard_ok false d x y e = (refl, cc)

-- a test that had to hold
pub guard_held : {A : Type 0} (b : Bool) (d : TlFault) (x y : A) → cond b (Ok x) (Err d) ≡ Ok y → (b ≡ true) × (x ≡ y)
guard_held true d x y e = (refl, cc)
guard_held false d x y e = absurd cc

-- a test before a further step
pub guard_then : {A : Type 0} (b : Bool) (d : TlFault) (r : Result A TlFault) (y : A) → cond b (Err d) r ≡ Ok y → (b ≡ false) × (r ≡ Ok y)
guard_then true d r y e = absurd cc
guard_then false d r y e = (refl, e)

-- a reading that gives two pairs
pub same_parts : {A B : Type 0} (r : Result (A × B) TlFault) (a c : A) (b d : B) → r ≡ Ok (a, b) → r ≡ Ok (c, d) → (a ≡ c) × (b ≡ d)
same_parts {A = A} {B = B} r a c b d e f =
    let both : ◌≡◌ {A = A × B} (a, b) (c, d) = cc in
    (ap (λ (p : A × B). p.0) both, ap (λ (p : A × B). p.1) both)

-- a reading that gives two values
pub same_value : {A : Type 0} (r : Result A TlFault) (x y : A) → r ≡ Ok x → r ≡ Ok y → x ≡ y
same_value r x y e f = cc
