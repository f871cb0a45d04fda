-- What is counted of a session's jobs stays right where one comes, goes or is told.
use Rattle.std.proofs.Common.{◌≡◌, ◌∙◌, ℕ, suc, ◌<◌, ◌≤◌, max, inl, inr, Bool, true, false, not, ◌&&◌, List, [], ◌∷◌, ◌++◌, take, drop, map, ap, refl, subst, arith, append_assoc}
use Rattle.std.specs.List.{remove}
use Rattle.std.proofs.lemmas.Bool.{and_parts}
use Rattle.waits.specs.declared.stamped.Stamped.{Stamped}
use Rattle.waits.specs.Jobs.{is_of, one_if, waits_for, load_of}
use Rattle.waits.specs.Numbers.{greatest_of, are_above}
use Rattle.waits.specs.Stamps.{tally, after, bytes_of, IsRising, IsWith}
use Rattle.waits.proofs.Sums.{weigh_append, weigh_le, weigh_map, weigh_same}
use Rattle.waits.proofs.Numbers.{looks, looks_below, looks_above, looks_less, same_owner, less_load}
use Rattle.waits.proofs.Rising.{IsAt, rising_less}

-- how a job counts among those that wait for the call of a number
abbrev pub waiters : ℕ → ℕ → ℕ → List Stamped → ℕ
waiters key session number xs = tally (λ x. waits_for key session number x.one) xs

-- the greatest number, and whether no two wait for one
pub record AreKnown (key session greatest : ℕ) (single : Bool) (xs : List Stamped) : Type 0 where
  pub none_above : (number : ℕ) → greatest < number → waiters key session number xs ≡ 0
  pub alone : single ≡ true → (number : ℕ) → waiters key session number xs ≤ 1

pub known_less : (key session greatest : ℕ) (single : Bool) (xs ys : List Stamped) → ((number : ℕ) → waiters key session number ys ≤ waiters key session number xs) → AreKnown key session greatest single xs → AreKnown key session greatest single ys
known_less key session greatest single xs ys less known =
    record {
      none_above = λ number above. omega (arith, less number, known.none_above number above);
      alone = λ one number. omega (arith, less number, known.alone one number);
    }

one_at_most : (b : Bool) → one_if b ≤ 1
one_at_most true = omega arith
one_at_most false = omega arith

pub known_more : (key session greatest : ℕ) (single : Bool) (xs : List Stamped) (x : Stamped) → AreKnown key session greatest single xs → AreKnown key session (max greatest (greatest_of x.one.job.after)) (single && are_above greatest x.one.job.after) (xs ++ x ∷ [])
known_more key session greatest single xs x known =
    record {
      none_above = λ number above. omega (arith, weigh_append (λ y. looks key session number y.one) xs (x ∷ []), known.none_above number (omega (arith, above)), looks_below key session number x.one (omega (arith, above)));
      alone = λ one number.
          let both = and_parts single (are_above greatest x.one.job.after) one in
          elim (looks_above key session greatest number x.one both.1) [
            | inl none ↦ omega (arith, weigh_append (λ y. looks key session number y.one) xs (x ∷ []), known.alone both.0 number, none)
            | inr past ↦ omega (arith, weigh_append (λ y. looks key session number y.one) xs (x ∷ []), known.none_above number past, one_at_most (waits_for key session number x.one))
          ];
    }

pub waiters_told : (key session number : ℕ) (ok : Bool) (xs : List Stamped) (other : ℕ) → waiters key session other (map (after key session number ok) xs) ≤ waiters key session other xs
waiters_told key session number ok xs other =
    omega (arith, weigh_map (λ y. looks key session other y.one) (after key session number ok) xs, weigh_le (λ y. looks key session other (after key session number ok y).one) (λ y. looks key session other y.one) (λ y. looks_less key session number other ok y.one) xs)

pub own_told : (other other_session key session number : ℕ) (ok : Bool) (xs : List Stamped) → tally (λ x. not (is_of other other_session x.one)) (map (after key session number ok) xs) ≡ tally (λ x. not (is_of other other_session x.one)) xs
own_told other other_session key session number ok xs =
    weigh_map (λ y. one_if (not (is_of other other_session y.one))) (after key session number ok) xs
    ∙ weigh_same (λ y. one_if (not (is_of other other_session (after key session number ok y).one))) (λ y. one_if (not (is_of other other_session y.one))) (λ y. ap (λ (b : Bool). one_if (not b)) (same_owner other other_session key session number ok y.one)) xs

pub bytes_told : (key session number : ℕ) (ok : Bool) (xs : List Stamped) → bytes_of (map (after key session number ok) xs) ≤ bytes_of xs
bytes_told key session number ok xs =
    omega (arith, weigh_map (λ y. load_of y.one.job) (after key session number ok) xs, weigh_le (λ y. load_of (after key session number ok y).one.job) (λ y. load_of y.one.job) (λ y. less_load key session number ok y.one) xs)

-- ---- the job of a place goes

pub among_at : (xs : List Stamped) (at : ℕ) (x : Stamped) → IsAt xs at x → IsWith x (remove xs at) xs
among_at xs at x one = record { front = take at xs; back = drop (suc at) xs; less = refl; more = one.parts }

pub rising_at : (xs : List Stamped) (at : ℕ) (x : Stamped) → IsAt xs at x → IsRising xs → IsRising (remove xs at)
rising_at xs at x one rising = rising_less (take at xs) x (drop (suc at) xs) (subst IsRising one.parts rising)

-- ---- the first of what is left is told

front_of : (xs : List Stamped) (x : Stamped) → take 1 xs ≡ x ∷ [] → xs ≡ x ∷ drop 1 xs
front_of [] x is = let clash : [] ≡ x ∷ [] = is in cc
front_of (y ∷ ys) x is = let same : y ∷ [] ≡ x ∷ [] = is in let one : y ≡ x = cc in ap (λ (z : Stamped). z ∷ ys) one

pub next_among : (told left : List Stamped) (x : Stamped) → take 1 left ≡ x ∷ [] → IsWith x (told ++ drop 1 left) (told ++ left)
next_among told left x is = record { front = told; back = drop 1 left; less = refl; more = ap (λ (xs : List Stamped). told ++ xs) (front_of left x is) }

pub told_among : (told left : List Stamped) (x : Stamped) → IsWith x (told ++ left) ((told ++ x ∷ []) ++ left)
told_among told left x = record { front = told; back = left; less = refl; more = append_assoc told (x ∷ []) left }
