-- Jobs of a session, whose stamps rise.
use Rattle.std.proofs.Common.{◌≡◌, ◌∙◌, ℕ, zero, suc, ◌+◌, ◌-◌, ◌<◌, ◌≤◌, Bool, false, ◌&&◌, nat_le, nat_lt, List, [], ◌∷◌, ◌++◌, length, take, drop, map, get_or, ap, sym, refl, subst, arith}
use Rattle.std.proofs.lemmas.Bool.{ltb-true, leb-false, lt-leb, le-ltb, le-leb, and_parts}
use Rattle.waits.specs.declared.stamped.Stamped.{Stamped}
use Rattle.waits.specs.declared.job.Unfinished.{Unfinished}
use Rattle.waits.specs.Jobs.{one_if}
use Rattle.waits.specs.Stamps.{tally, count_before, IsRising}
use Rattle.waits.specs.Parts.{is_later}
use Rattle.waits.proofs.Sums.{weigh_append, weigh_with, weigh_map, tally_less, one_if_true}

-- ---- places

-- the element of a place, and what stands before and behind it
pub record IsAt {X : Type 0} (xs : List X) (at : ℕ) (x : X) : Type 0 where
  pub parts : xs ≡ take at xs ++ x ∷ drop (suc at) xs
  pub alone : take 1 (drop at xs) ≡ x ∷ []
  pub there : (d : X) → get_or xs at d ≡ x

pub element : {X : Type 0} (xs : List X) (at : ℕ) → at < length xs → (x : X) × IsAt xs at x
element [] at within = absurd (omega arith)
element (x ∷ xs) zero within = (x, record { parts = refl; alone = refl; there = λ d. refl })
element {X} (x ∷ xs) (suc at) within =
    let found = element xs at (omega arith) in
    (found.0, record { parts = ap (λ (ys : List X). x ∷ ys) found.1.parts; alone = found.1.alone; there = found.1.there })

-- the only one of what is taken out there
pub picked : {X : Type 0} (xs : List X) (at : ℕ) (x : X) → at < length xs → take 1 (drop at xs) ≡ x ∷ [] → IsAt xs at x
picked {X} xs at x within is =
    let found = element xs at within in
    let both : found.0 ∷ [] ≡ x ∷ [] = sym found.1.alone ∙ is in
    let same : found.0 ≡ x = cc in
    subst (λ (y : X). IsAt xs at y) same found.1

pub drop_next : {X : Type 0} (n : ℕ) (xs : List X) → drop 1 (drop n xs) ≡ drop (suc n) xs
drop_next zero xs = refl
drop_next (suc n) [] = refl
drop_next (suc n) (x ∷ xs) = drop_next n xs

-- ---- the order

pub rising_push : (xs : List Stamped) (x : Stamped) → IsRising xs → is_later x xs → IsRising (xs ++ x ∷ [])
rising_push [] x rising later = (refl, tt)
rising_push (y ∷ ys) x rising later =
    let above : nat_le x.stamp y.stamp ≡ false = one_if_true (nat_le x.stamp y.stamp) (omega arith) in
    let sum = weigh_append (λ z. one_if (nat_le z.stamp y.stamp)) ys (x ∷ []) in
    let nought : one_if (nat_le x.stamp y.stamp) ≡ 0 = rw above refl in
    (omega (arith, rising.0), rising_push ys x rising.1 (omega arith))

pub rising_less : (front : List Stamped) (x : Stamped) (back : List Stamped) → IsRising (front ++ x ∷ back) → IsRising (front ++ back)
rising_less [] x back rising = rising.1
rising_less (y ∷ front) x back rising =
    let sum = weigh_with (λ z. one_if (nat_le z.stamp y.stamp)) x front back in
    (omega (arith, rising.0), rising_less front x back rising.1)

pub rising_map : (f : Unfinished → Unfinished) (xs : List Stamped) → IsRising xs → IsRising (map (λ (x : Stamped). record x { one = f x.one }) xs)
rising_map f [] rising = tt
rising_map f (x ∷ xs) rising = (weigh_map (λ y. one_if (nat_le y.stamp x.stamp)) (λ (y : Stamped). record y { one = f y.one }) xs ∙ rising.0, rising_map f xs rising.1)

-- none behind a job has a stamp below its own
pub none_behind : (x : Stamped) (back : List Stamped) (limit : ℕ) → limit ≤ x.stamp → IsRising (x ∷ back) → tally (λ y. nat_lt y.stamp limit) (x ∷ back) ≡ 0
none_behind x back limit below rising =
    let here : nat_lt x.stamp limit ≡ false = le-ltb x.stamp limit below in
    let nought : one_if (nat_lt x.stamp limit) ≡ 0 = rw here refl in
    let less = tally_less (λ y. nat_lt y.stamp limit) (λ y. nat_le y.stamp x.stamp) (λ y lower. le-leb y.stamp x.stamp (omega (arith, ltb-true y.stamp limit lower))) back in
    omega (arith, rising.0)

pub rising_back : (front back : List Stamped) → IsRising (front ++ back) → IsRising back
rising_back [] back rising = rising
rising_back (x ∷ front) back rising = rising_back front back rising.1

-- where none in front passes, none that passes has a stamp below that of a job, or below a lesser limit
pub none_before : (test : Stamped → Bool) (front : List Stamped) (x : Stamped) (back : List Stamped) (limit : ℕ) → limit ≤ x.stamp → IsRising (front ++ x ∷ back) → tally test front ≡ 0 → count_before test limit (front ++ x ∷ back) ≡ 0
none_before test front x back limit below rising none =
    let behind = none_behind x back limit below (rising_back front (x ∷ back) rising) in
    let sum = weigh_append (λ y. one_if (test y && nat_lt y.stamp limit)) front (x ∷ back) in
    let first = tally_less (λ y. test y && nat_lt y.stamp limit) test (λ y both. (and_parts (test y) (nat_lt y.stamp limit) both).0) front in
    let last = tally_less (λ y. test y && nat_lt y.stamp limit) (λ y. nat_lt y.stamp limit) (λ y both. (and_parts (test y) (nat_lt y.stamp limit) both).1) (x ∷ back) in
    omega arith

last_at : (xs : List Stamped) (x : Stamped) (at stamp : ℕ) → IsRising xs → at + 1 ≡ length xs → x ≡ get_or xs at x → x.stamp < stamp → tally (λ y. nat_le stamp y.stamp) xs ≡ 0
last_at [] x at stamp rising last is below = refl
last_at (y ∷ []) x zero stamp rising last is below =
    let none : nat_le stamp y.stamp ≡ false = lt-leb stamp y.stamp (omega (arith, ap (λ (z : Stamped). z.stamp) is)) in
    rw none refl
last_at (y ∷ []) x (suc at) stamp rising last is below = absurd (omega arith)
last_at (y ∷ z ∷ xs) x zero stamp rising last is below = absurd (omega arith)
last_at (y ∷ z ∷ xs) x (suc at) stamp rising last is below =
    let rest = last_at (z ∷ xs) x at stamp rising.1 (omega arith) is below in
    let next : nat_le stamp z.stamp ≡ false = one_if_true (nat_le stamp z.stamp) (omega arith) in
    let order : nat_le z.stamp y.stamp ≡ false = one_if_true (nat_le z.stamp y.stamp) (omega (arith, rising.0)) in
    let none : nat_le stamp y.stamp ≡ false = lt-leb stamp y.stamp (omega (arith, leb-false stamp z.stamp next, leb-false z.stamp y.stamp order)) in
    let nought : one_if (nat_le stamp y.stamp) ≡ 0 = rw none refl in
    omega (arith, rest)

-- where the last is below a stamp, all are
pub last_before : (xs : List Stamped) (x : Stamped) (stamp : ℕ) → IsRising xs → x ≡ get_or xs (length xs - 1) x → x.stamp < stamp → tally (λ y. nat_le stamp y.stamp) xs ≡ 0
last_before [] x stamp rising is below = refl
last_before (y ∷ ys) x stamp rising is below = last_at (y ∷ ys) x (length (y ∷ ys) - 1) stamp rising (omega arith) is below
