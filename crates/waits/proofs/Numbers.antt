-- The numbers that a job waits for, before and after it is told of an answer.
use Rattle.std.proofs.Common.{◌≡◌, ℕ, ◌<◌, ◌≤◌, max, ◌⊎◌, inl, inr, Bool, true, false, not, ◌&&◌, ◌||◌, ◌==◌, cond, nat_lt, if◌then◌else◌, List, [], ◌∷◌, length, fold, ap, refl, arith}
use Rattle.std.specs.List.{filter, list_any}
use Rattle.std.proofs.lemmas.Bool.{eqb-true, ne_eqb, ltb-true, and_parts}
use Rattle.waits.specs.declared.job.Unfinished.{Unfinished}
use Rattle.waits.specs.Jobs.{is_of, one_if, load_of, told, waits_for, after_answer}
use Rattle.waits.specs.Numbers.{greatest_of, are_above}

-- how a job counts among those of a session that wait for the call of a number
abbrev pub looks : ℕ → ℕ → ℕ → Unfinished → ℕ
looks key session number one = one_if (waits_for key session number one)

-- ---- a job waits for none above the greatest of its numbers

or_none : (a b : Bool) → a ≡ false → b ≡ false → (a || b) ≡ false
or_none true b one two = let clash : true ≡ false = one in cc
or_none false b one two = two

max_less : (a b n : ℕ) → max a b < n → (a < n) × (b < n)
max_less a b n less = (omega arith, omega arith)

none_above : (number most : ℕ) (numbers : List ℕ) → fold max most numbers < number → (most < number) × (list_any (λ awaited. awaited == number) numbers ≡ false)
none_above number most [] less = (less, refl)
none_above number most (x ∷ xs) less =
    let later = none_above number (max most x) xs less in
    let both = max_less most x number later.0 in
    (both.0, or_none (x == number) _ (ne_eqb x number (λ same. absurd (omega (arith, same, both.1)))) later.1)

not_looked : (own any : Bool) → any ≡ false → one_if (own && any) ≡ 0
not_looked true any none = ap one_if none
not_looked false any none = refl

pub looks_below : (key session number : ℕ) (x : Unfinished) → greatest_of x.job.after < number → looks key session number x ≡ 0
looks_below key session number x above = not_looked (is_of key session x) _ (none_above number 0 x.job.after above).1

-- ---- a job whose numbers are all above another one either doesn't wait for a number or that is above it too

above_or_by : (floor number x : ℕ) (xs : List ℕ) (same : Bool) → (x == number) ≡ same → floor < x → (list_any (λ awaited. awaited == number) xs ≡ false) ⊎ (floor < number) → (((x == number) || list_any (λ awaited. awaited == number) xs) ≡ false) ⊎ (floor < number)
above_or_by floor number x xs true is above later = inr (omega (arith, above, eqb-true x number is))
above_or_by floor number x xs false is above (inl none) = inl (or_none (x == number) _ is none)
above_or_by floor number x xs false is above (inr past) = inr past

above_or : (floor number : ℕ) (numbers : List ℕ) → are_above floor numbers ≡ true → (list_any (λ awaited. awaited == number) numbers ≡ false) ⊎ (floor < number)
above_or floor number [] above = inl refl
above_or floor number (x ∷ xs) above =
    let both = and_parts (nat_lt floor x) (are_above floor xs) above in
    above_or_by floor number x xs (x == number) refl (ltb-true floor x both.0) (above_or floor number xs both.1)

pub looks_above : (key session floor number : ℕ) (x : Unfinished) → are_above floor x.job.after ≡ true → (looks key session number x ≡ 0) ⊎ (floor < number)
looks_above key session floor number x above = elim (above_or floor number x.job.after above) [
  | inl none ↦ inl (not_looked (is_of key session x) _ none)
  | inr past ↦ inr past
]

-- ---- a job that is told waits for no other number than before, is its session's as before, and weighs no more

or_more : (a b c : Bool) → one_if b ≤ one_if c → one_if b ≤ one_if (a || c)
or_more true true c less = omega arith
or_more true false c less = omega arith
or_more false b c less = less

or_both : (a b c : Bool) → one_if b ≤ one_if c → one_if (a || b) ≤ one_if (a || c)
or_both true b c less = omega arith
or_both false b c less = less

kept_any : (number other : ℕ) (same : Bool) (x : ℕ) (xs : List ℕ) → one_if (list_any (λ awaited. awaited == other) (filter (λ awaited. not (awaited == number)) xs)) ≤ one_if (list_any (λ awaited. awaited == other) xs) → one_if (list_any (λ awaited. awaited == other) (cond (not same) (x ∷ filter (λ awaited. not (awaited == number)) xs) (filter (λ awaited. not (awaited == number)) xs))) ≤ one_if ((x == other) || list_any (λ awaited. awaited == other) xs)
kept_any number other true x xs less = or_more (x == other) _ _ less
kept_any number other false x xs less = or_both (x == other) _ _ less

fewer_any : (number other : ℕ) (xs : List ℕ) → one_if (list_any (λ awaited. awaited == other) (filter (λ awaited. not (awaited == number)) xs)) ≤ one_if (list_any (λ awaited. awaited == other) xs)
fewer_any number other [] = omega arith
fewer_any number other (x ∷ xs) = kept_any number other (x == number) x xs (fewer_any number other xs)

own_less : (own a b : Bool) → one_if a ≤ one_if b → one_if (own && a) ≤ one_if (own && b)
own_less true a b less = less
own_less false a b less = omega arith

told_looks : (key session number other : ℕ) (waits ok : Bool) (x : Unfinished) → looks key session other (if waits then told number ok x else x) ≤ looks key session other x
told_looks key session number other true true x = own_less (is_of key session x) _ _ (fewer_any number other x.job.after)
told_looks key session number other true false x = omega arith
told_looks key session number other false ok x = omega arith

pub looks_less : (key session number other : ℕ) (ok : Bool) (x : Unfinished) → looks key session other (after_answer key session number ok x) ≤ looks key session other x
looks_less key session number other ok x = told_looks key session number other (waits_for key session number x) ok x

told_owner : (key session number : ℕ) (waits ok : Bool) (x : Unfinished) → is_of key session (if waits then told number ok x else x) ≡ is_of key session x
told_owner key session number true true x = refl
told_owner key session number true false x = refl
told_owner key session number false ok x = refl

pub same_owner : (other other_session key session number : ℕ) (ok : Bool) (x : Unfinished) → is_of other other_session (after_answer key session number ok x) ≡ is_of other other_session x
same_owner other other_session key session number ok x = told_owner other other_session number (waits_for key session number x) ok x

length_cond : (keeps : Bool) (x : ℕ) (ys xs : List ℕ) → length ys ≤ length xs → length (cond keeps (x ∷ ys) ys) ≤ length (x ∷ xs)
length_cond true x ys xs less = omega arith
length_cond false x ys xs less = omega arith

length_filter : (test : ℕ → Bool) (xs : List ℕ) → length (filter test xs) ≤ length xs
length_filter test [] = omega arith
length_filter test (x ∷ xs) = length_cond (test x) x (filter test xs) xs (length_filter test xs)

told_load : (number : ℕ) (waits ok : Bool) (x : Unfinished) → load_of ((if waits then told number ok x else x).job) ≤ load_of x.job
told_load number true true x = let fewer = length_filter (λ (awaited : ℕ). not (awaited == number)) x.job.after in omega arith
told_load number true false x = omega arith
told_load number false ok x = omega arith

pub less_load : (key session number : ℕ) (ok : Bool) (x : Unfinished) → load_of (after_answer key session number ok x).job ≤ load_of x.job
less_load key session number ok x = told_load number (waits_for key session number x) ok x

-- one that doesn't wait for a call isn't told of it
told_none : (number : ℕ) (waits ok : Bool) (x : Unfinished) → waits ≡ false → (if waits then told number ok x else x) ≡ x
told_none number true ok x none = let clash : true ≡ false = none in cc
told_none number false ok x none = refl

pub not_told : (key session number : ℕ) (ok : Bool) (x : Unfinished) → waits_for key session number x ≡ false → after_answer key session number ok x ≡ x
not_told key session number ok x none = told_none number (waits_for key session number x) ok x none
