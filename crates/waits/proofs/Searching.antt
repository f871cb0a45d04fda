-- A search over the jobs of a session, from the first one on.
use Rattle.std.proofs.Common.{◌≡◌, ◌∙◌, ℕ, zero, suc, ◌+◌, ◌<◌, ◌≤◌, Bool, true, false, ◌&&◌, nat_lt, List, [], ◌∷◌, ◌++◌, length, get_or, ap, sym, refl, subst, arith, append_assoc, length-append}
use Rattle.std.proofs.lemmas.List.{append-nil}
use Rattle.std.proofs.lemmas.Bool.{and_parts, lt-ltb}
use Rattle.waits.specs.declared.stamped.Stamped.{Stamped}
use Rattle.waits.specs.Jobs.{one_if}
use Rattle.waits.specs.Stamps.{tally, count_before, IsRising}
use Rattle.waits.specs.Parts.{IsFirst}
use Rattle.waits.proofs.Sums.{weigh_append, tally_less, tally_le}
use Rattle.waits.proofs.Rising.{none_before, none_behind, rising_back}

-- so many in front were passed, of which none passes the test
pub record IsPassed (test : Stamped → Bool) (xs rest : List Stamped) (at : ℕ) : Type 0 where
  pub front : List Stamped
  pub split : xs ≡ front ++ rest
  pub long : length front ≡ at
  pub none : tally test front ≡ 0

pub one_passed : (test : Stamped → Bool) (xs rest : List Stamped) (x : Stamped) (at : ℕ) → IsPassed test xs (x ∷ rest) at → test x ≡ false → IsPassed test xs rest (at + 1)
one_passed test xs rest x at passed fails =
    let nought : one_if (test x) ≡ 0 = rw fails refl in
    record {
      front = passed.front ++ x ∷ [];
      split = passed.split ∙ sym (append_assoc passed.front (x ∷ []) rest);
      long = omega (arith, length-append passed.front (x ∷ []), passed.long);
      none = omega (arith, weigh_append (λ y. one_if (test y)) passed.front (x ∷ []), passed.none, nought);
    }

pub few_before : (test : Stamped → Bool) (limit : ℕ) (xs : List Stamped) → tally test xs ≡ 0 → count_before test limit xs ≡ 0
few_before test limit xs none =
    let less = tally_less (λ y. test y && nat_lt y.stamp limit) test (λ y both. (and_parts (test y) (nat_lt y.stamp limit) both).0) xs in
    omega arith

pub all_passed : (test : Stamped → Bool) (limit : ℕ) (xs : List Stamped) (at : ℕ) → IsPassed test xs [] at → count_before test limit xs ≡ 0
all_passed test limit xs at passed =
    subst (λ (ys : List Stamped). count_before test limit ys ≡ 0) (sym (passed.split ∙ append-nil passed.front)) (few_before test limit passed.front passed.none)

pub past_limit : (test : Stamped → Bool) (limit : ℕ) (xs rest : List Stamped) (x : Stamped) (at : ℕ) → IsPassed test xs (x ∷ rest) at → limit ≤ x.stamp → IsRising xs → count_before test limit xs ≡ 0
past_limit test limit xs rest x at passed past rising =
    subst (λ (ys : List Stamped). count_before test limit ys ≡ 0) (sym passed.split) (none_before test passed.front x rest limit past (subst IsRising passed.split rising) passed.none)

there : (front rest : List Stamped) (x d : Stamped) (at : ℕ) → length front ≡ at → get_or (front ++ x ∷ rest) at d ≡ x
there [] rest x d zero long = refl
there [] rest x d (suc at) long = absurd (omega arith)
there (y ∷ front) rest x d zero long = absurd (omega arith)
there (y ∷ front) rest x d (suc at) long = there front rest x d at (omega arith)

pub first_found : (test : Stamped → Bool) (limit : ℕ) (xs rest : List Stamped) (x : Stamped) (at : ℕ) → IsPassed test xs (x ∷ rest) at → x.stamp < limit → test x ≡ true → IsRising xs → IsFirst test limit xs (record { at = at; stamp = x.stamp })
first_found test limit xs rest x at passed below passes rising =
    let here = λ (d : Stamped). subst (λ (ys : List Stamped). get_or ys at d ≡ x) (sym passed.split) (there passed.front rest x d at passed.long) in
    record {
      within = omega (arith, ap length passed.split, length-append passed.front (x ∷ rest), passed.long);
      passes = λ d. ap test (here d) ∙ passes;
      stamp = λ d. ap (λ (y : Stamped). y.stamp) (here d);
      below = below;
      none = past_limit test x.stamp xs rest x at passed (omega arith) rising;
    }

-- ---- those below a limit are counted

-- so many of those in front pass the test and are below the limit
pub record IsSummed (test : Stamped → Bool) (limit : ℕ) (xs rest : List Stamped) (count : ℕ) : Type 0 where
  pub front : List Stamped
  pub split : xs ≡ front ++ rest
  pub counted : count_before test limit front ≡ count

below_limit : (a b : Bool) → b ≡ true → one_if (a && b) ≡ one_if a
below_limit true true is = refl
below_limit false true is = refl
below_limit a false is = let clash : false ≡ true = is in cc

pub one_summed : (test : Stamped → Bool) (limit : ℕ) (xs rest : List Stamped) (x : Stamped) (count : ℕ) → IsSummed test limit xs (x ∷ rest) count → x.stamp < limit → IsSummed test limit xs rest (count + one_if (test x))
one_summed test limit xs rest x count summed below =
    let here = below_limit (test x) (nat_lt x.stamp limit) (lt-ltb x.stamp limit below) in
    record {
      front = summed.front ++ x ∷ [];
      split = summed.split ∙ sym (append_assoc summed.front (x ∷ []) rest);
      counted = omega (arith, weigh_append (λ y. one_if (test y && nat_lt y.stamp limit)) summed.front (x ∷ []), summed.counted, here);
    }

pub summed_to : (test : Stamped → Bool) (limit : ℕ) (xs rest : List Stamped) (x : Stamped) (count : ℕ) → IsSummed test limit xs (x ∷ rest) count → limit ≤ x.stamp → IsRising xs → count ≡ count_before test limit xs
summed_to test limit xs rest x count summed past rising =
    let behind = none_behind x rest limit past (rising_back summed.front (x ∷ rest) (subst IsRising summed.split rising)) in
    let last = tally_less (λ y. test y && nat_lt y.stamp limit) (λ y. nat_lt y.stamp limit) (λ y both. (and_parts (test y) (nat_lt y.stamp limit) both).1) (x ∷ rest) in
    omega (arith, ap (count_before test limit) summed.split, weigh_append (λ y. one_if (test y && nat_lt y.stamp limit)) summed.front (x ∷ rest), summed.counted)

-- and are no more than there are
pub summed_few : (test : Stamped → Bool) (limit : ℕ) (xs rest : List Stamped) (count : ℕ) → IsSummed test limit xs rest count → count + length rest ≤ length xs
summed_few test limit xs rest count summed =
    omega (arith, summed.counted, tally_le (λ y. test y && nat_lt y.stamp limit) summed.front, ap length summed.split, length-append summed.front rest)
