-- Jobs in order of their stamps, where one comes, goes or changes.
use Rattle.std.proofs.Common.{◌≡◌, ◌∙◌, ℕ, zero, suc, ◌+◌, ◌≤◌, ◌<◌, Bool, true, false, ◌&&◌, ◌||◌, ◌==◌, cond, nat_le, nat_lt, if◌then◌else◌, Some, None, List, [], ◌∷◌, ◌++◌, map, ap, sym, refl, arith}
use Rattle.std.specs.List.{filter, list_any}
use Rattle.std.proofs.lemmas.Bool.{leb-true, leb-false, ltb-true, ltb-false, lt-ltb, le-ltb, lt-leb, le-leb, eq-eqb, and_parts}
use Rattle.waits.specs.declared.stamped.Stamped.{Stamped}
use Rattle.waits.specs.declared.job.Unfinished.{Unfinished}
use Rattle.waits.specs.Jobs.{Queue, is_ready, one_if, total, first_job, without_first, ready_job, without_ready}
use Rattle.waits.specs.Stamps.{weigh, tally, put_in, in_order, queue_of, count_before}
use Rattle.waits.proofs.Sums.{weigh_le, weigh_filter, tally_less, one_if_true, part_le}

-- ---- sums

put_by : (m : Stamped → ℕ) (x y : Stamped) (ys : List Stamped) (le : Bool) → weigh m (put_in x ys) ≡ m x + weigh m ys → weigh m (if le then x ∷ y ∷ ys else y ∷ put_in x ys) ≡ m x + (m y + weigh m ys)
put_by m x y ys true rest = refl
put_by m x y ys false rest = omega arith

weigh_put : (m : Stamped → ℕ) (x : Stamped) (ys : List Stamped) → weigh m (put_in x ys) ≡ m x + weigh m ys
weigh_put m x [] = refl
weigh_put m x (y ∷ ys) = put_by m x y ys (nat_le x.stamp y.stamp) (weigh_put m x ys)

pub weigh_in_order : (m : Stamped → ℕ) (xs : List Stamped) → weigh m (in_order xs) ≡ weigh m xs
weigh_in_order m [] = refl
weigh_in_order m (x ∷ xs) = let here = weigh_put m x (in_order xs) in let rest = weigh_in_order m xs in omega arith

total_map : (m : Unfinished → ℕ) (xs : List Stamped) → total m (map (λ x. x.one) xs) ≡ weigh (λ x. m x.one) xs
total_map m [] = refl
total_map m (x ∷ xs) = let rest = total_map m xs in omega arith

pub total_queue : (m : Unfinished → ℕ) (xs : List Stamped) → total m (queue_of xs) ≡ weigh (λ x. m x.one) xs
total_queue m xs = total_map m (in_order xs) ∙ weigh_in_order (λ x. m x.one) xs

-- ---- a change

abbrev change : (Unfinished → Unfinished) → Stamped → Stamped
change f x = record x { one = f x.one }

change_by : (f : Unfinished → Unfinished) (x y : Stamped) (ys : List Stamped) (le : Bool) → put_in (change f x) (map (change f) ys) ≡ map (change f) (put_in x ys) → (if le then change f x ∷ change f y ∷ map (change f) ys else change f y ∷ put_in (change f x) (map (change f) ys)) ≡ map (change f) (if le then x ∷ y ∷ ys else y ∷ put_in x ys)
change_by f x y ys true rest = refl
change_by f x y ys false rest = ap (λ (zs : List Stamped). change f y ∷ zs) rest

change_put : (f : Unfinished → Unfinished) (x : Stamped) (ys : List Stamped) → put_in (change f x) (map (change f) ys) ≡ map (change f) (put_in x ys)
change_put f x [] = refl
change_put f x (y ∷ ys) = change_by f x y ys (nat_le x.stamp y.stamp) (change_put f x ys)

change_in_order : (f : Unfinished → Unfinished) (xs : List Stamped) → in_order (map (change f) xs) ≡ map (change f) (in_order xs)
change_in_order f [] = refl
change_in_order f (x ∷ xs) = ap (λ (ys : List Stamped). put_in (change f x) ys) (change_in_order f xs) ∙ change_put f x (in_order xs)

map_change : (f : Unfinished → Unfinished) (xs : List Stamped) → map (λ x. x.one) (map (change f) xs) ≡ map f (map (λ x. x.one) xs)
map_change f [] = refl
map_change f (x ∷ xs) = ap (λ (ys : Queue). f x.one ∷ ys) (map_change f xs)

pub queue_changed : (f : Unfinished → Unfinished) (xs : List Stamped) → queue_of (map (λ (x : Stamped). record x { one = f x.one }) xs) ≡ map f (queue_of xs)
queue_changed f xs = ap (λ (ys : List Stamped). map (λ x. x.one) ys) (change_in_order f xs) ∙ map_change f (in_order xs)

-- ---- whether one passes

any_by : (p : Stamped → Bool) (x y : Stamped) (ys : List Stamped) (le here there : Bool) → list_any p (put_in x ys) ≡ (p x || list_any p ys) → p x ≡ here → p y ≡ there → list_any p (if le then x ∷ y ∷ ys else y ∷ put_in x ys) ≡ (p x || (p y || list_any p ys))
any_by p x y ys true here there rest e f = refl
any_by p x y ys false true true rest e f = rw (e, f) refl
any_by p x y ys false true false rest e f = rw (e, f, rest, e) refl
any_by p x y ys false false true rest e f = rw (e, f) refl
any_by p x y ys false false false rest e f = rw (e, f, rest, e) refl

any_put : (p : Stamped → Bool) (x : Stamped) (ys : List Stamped) → list_any p (put_in x ys) ≡ (p x || list_any p ys)
any_put p x [] = refl
any_put p x (y ∷ ys) = any_by p x y ys (nat_le x.stamp y.stamp) (p x) (p y) (any_put p x ys) refl refl

any_in_order : (p : Stamped → Bool) (xs : List Stamped) → list_any p (in_order xs) ≡ list_any p xs
any_in_order p [] = refl
any_in_order p (x ∷ xs) = any_put p x (in_order xs) ∙ ap (λ (b : Bool). p x || b) (any_in_order p xs)

any_map : (p : Unfinished → Bool) (xs : List Stamped) → list_any p (map (λ x. x.one) xs) ≡ list_any (λ x. p x.one) xs
any_map p [] = refl
any_map p (x ∷ xs) = ap (λ (b : Bool). p x.one || b) (any_map p xs)

pub any_queue : (p : Unfinished → Bool) (xs : List Stamped) → list_any p (queue_of xs) ≡ list_any (λ x. p x.one) xs
any_queue p xs = any_map p (in_order xs) ∙ any_in_order (λ x. p x.one) xs

-- ---- the order

-- no stamp behind a job is below its own
abbrev pub Sorted : List Stamped → Type 0
Sorted [] = Unit {0}
Sorted (x ∷ xs) = (tally (λ y. nat_lt y.stamp x.stamp) xs ≡ 0) × Sorted xs

below_less : (n m : ℕ) → n ≤ m → (xs : List Stamped) → tally (λ y. nat_lt y.stamp n) xs ≤ tally (λ y. nat_lt y.stamp m) xs
below_less n m less xs = tally_less (λ y. nat_lt y.stamp n) (λ y. nat_lt y.stamp m) (λ y below. lt-ltb y.stamp m (omega (arith, ltb-true y.stamp n below))) xs

sorted_by : (x y : Stamped) (ys : List Stamped) (le : Bool) → nat_le x.stamp y.stamp ≡ le → Sorted (y ∷ ys) → Sorted (put_in x ys) → Sorted (if le then x ∷ y ∷ ys else y ∷ put_in x ys)
sorted_by x y ys true is sorted rest =
    let le = leb-true x.stamp y.stamp is in
    let less = below_less x.stamp y.stamp le ys in
    let none : nat_lt y.stamp x.stamp ≡ false = le-ltb y.stamp x.stamp le in
    (rw none (omega (arith, sorted.0)), sorted)
sorted_by x y ys false is sorted rest =
    let none : nat_lt x.stamp y.stamp ≡ false = le-ltb x.stamp y.stamp (omega (arith, leb-false x.stamp y.stamp is)) in
    let sum = weigh_put (λ z. one_if (nat_lt z.stamp y.stamp)) x ys in
    let nought : one_if (nat_lt x.stamp y.stamp) ≡ 0 = rw none refl in
    (omega (arith, sorted.0), rest)

sorted_put : (x : Stamped) (ys : List Stamped) → Sorted ys → Sorted (put_in x ys)
sorted_put x [] sorted = (refl, tt)
sorted_put x (y ∷ ys) sorted = sorted_by x y ys (nat_le x.stamp y.stamp) refl sorted (sorted_put x ys sorted.1)

pub sorted_in_order : (xs : List Stamped) → Sorted (in_order xs)
sorted_in_order [] = tt
sorted_in_order (x ∷ xs) = sorted_put x (in_order xs) (sorted_in_order xs)

-- ---- those that pass a test

-- one with no stamp below its own goes to the front
front_put : (x : Stamped) (ys : List Stamped) → tally (λ y. nat_lt y.stamp x.stamp) ys ≡ 0 → put_in x ys ≡ x ∷ ys
front_put x [] none = refl
front_put x (y ∷ ys) none =
    let not_below : nat_lt y.stamp x.stamp ≡ false = one_if_true (nat_lt y.stamp x.stamp) (omega arith) in
    let le : nat_le x.stamp y.stamp ≡ true = le-leb x.stamp y.stamp (ltb-false y.stamp x.stamp not_below) in
    rw le refl

below_filter : (n : ℕ) (p : Stamped → Bool) (xs : List Stamped) → tally (λ y. nat_lt y.stamp n) (filter p xs) ≤ tally (λ y. nat_lt y.stamp n) xs
below_filter n p xs =
    omega (arith, weigh_filter (λ y. one_if (nat_lt y.stamp n)) p xs, weigh_le (λ y. if p y then one_if (nat_lt y.stamp n) else 0) (λ y. one_if (nat_lt y.stamp n)) (λ y. part_le (p y) (one_if (nat_lt y.stamp n))) xs)

-- one that passes
kept_by : (p : Stamped → Bool) (x y : Stamped) (ys : List Stamped) (le there : Bool) → nat_le x.stamp y.stamp ≡ le → p y ≡ there → p x ≡ true → Sorted (y ∷ ys) → filter p (put_in x ys) ≡ put_in x (filter p ys) → filter p (if le then x ∷ y ∷ ys else y ∷ put_in x ys) ≡ put_in x (filter p (y ∷ ys))
kept_by p x y ys true there is e passes sorted rest =
    let le = leb-true x.stamp y.stamp is in
    let none : nat_lt y.stamp x.stamp ≡ false = le-ltb y.stamp x.stamp le in
    let nought : one_if (nat_lt y.stamp x.stamp) ≡ 0 = rw none refl in
    let less = below_less x.stamp y.stamp le ys in
    let few = below_filter x.stamp p (y ∷ ys) in
    let front = front_put x (filter p (y ∷ ys)) (omega (arith, sorted.0)) in
    rw passes (sym front)
kept_by p x y ys false true is e passes sorted rest = rw (e, is) (ap (λ (zs : List Stamped). y ∷ zs) rest)
kept_by p x y ys false false is e passes sorted rest = rw e rest

kept_put : (p : Stamped → Bool) (x : Stamped) (ys : List Stamped) → p x ≡ true → Sorted ys → filter p (put_in x ys) ≡ put_in x (filter p ys)
kept_put p x [] passes sorted = rw passes refl
kept_put p x (y ∷ ys) passes sorted = kept_by p x y ys (nat_le x.stamp y.stamp) (p y) refl refl passes sorted (kept_put p x ys passes sorted.1)

-- one that fails
gone_by : (p : Stamped → Bool) (x y : Stamped) (ys : List Stamped) (le there : Bool) → p y ≡ there → p x ≡ false → filter p (put_in x ys) ≡ filter p ys → filter p (if le then x ∷ y ∷ ys else y ∷ put_in x ys) ≡ filter p (y ∷ ys)
gone_by p x y ys true there e fails rest = rw fails refl
gone_by p x y ys false true e fails rest = rw e (ap (λ (zs : List Stamped). y ∷ zs) rest)
gone_by p x y ys false false e fails rest = rw e rest

gone_put : (p : Stamped → Bool) (x : Stamped) (ys : List Stamped) → p x ≡ false → filter p (put_in x ys) ≡ filter p ys
gone_put p x [] fails = rw fails refl
gone_put p x (y ∷ ys) fails = gone_by p x y ys (nat_le x.stamp y.stamp) (p y) refl fails (gone_put p x ys fails)

filter_by : (p : Stamped → Bool) (x : Stamped) (xs : List Stamped) (here : Bool) → p x ≡ here → filter p (in_order xs) ≡ in_order (filter p xs) → filter p (put_in x (in_order xs)) ≡ in_order (cond here (x ∷ filter p xs) (filter p xs))
filter_by p x xs true passes rest = kept_put p x (in_order xs) passes (sorted_in_order xs) ∙ ap (λ (ys : List Stamped). put_in x ys) rest
filter_by p x xs false fails rest = gone_put p x (in_order xs) fails ∙ rest

pub filter_in_order : (p : Stamped → Bool) (xs : List Stamped) → filter p (in_order xs) ≡ in_order (filter p xs)
filter_in_order p [] = refl
filter_in_order p (x ∷ xs) = filter_by p x xs (p x) refl (filter_in_order p xs)

map_filter_by : (p : Unfinished → Bool) (x : Stamped) (xs : List Stamped) (here : Bool) → map (λ y. y.one) (filter (λ y. p y.one) xs) ≡ filter p (map (λ y. y.one) xs) → map (λ y. y.one) (cond here (x ∷ filter (λ y. p y.one) xs) (filter (λ y. p y.one) xs)) ≡ cond here (x.one ∷ filter p (map (λ y. y.one) xs)) (filter p (map (λ y. y.one) xs))
map_filter_by p x xs true rest = ap (λ (ys : Queue). x.one ∷ ys) rest
map_filter_by p x xs false rest = rest

map_filter : (p : Unfinished → Bool) (xs : List Stamped) → map (λ y. y.one) (filter (λ y. p y.one) xs) ≡ filter p (map (λ y. y.one) xs)
map_filter p [] = refl
map_filter p (x ∷ xs) = map_filter_by p x xs (p x.one) (map_filter p xs)

pub queue_filtered : (p : Unfinished → Bool) (xs : List Stamped) → queue_of (filter (λ y. p y.one) xs) ≡ filter p (queue_of xs)
queue_filtered p xs = sym (ap (λ (ys : List Stamped). map (λ y. y.one) ys) (filter_in_order (λ y. p y.one) xs)) ∙ map_filter p (in_order xs)

-- ---- one job somewhere among others

-- two with different stamps go in one after the other
swap_by : (x y z : Stamped) (zs : List Stamped) (a b : Bool) → x.stamp < y.stamp → nat_le x.stamp z.stamp ≡ a → nat_le y.stamp z.stamp ≡ b → put_in y (put_in x zs) ≡ put_in x (put_in y zs) → put_in y (if a then x ∷ z ∷ zs else z ∷ put_in x zs) ≡ put_in x (if b then y ∷ z ∷ zs else z ∷ put_in y zs)
swap_by x y z zs true true less e f rest =
    let up : nat_le x.stamp y.stamp ≡ true = le-leb x.stamp y.stamp (omega arith) in
    let down : nat_le y.stamp x.stamp ≡ false = lt-leb y.stamp x.stamp less in
    rw (up, down, f) refl
swap_by x y z zs true false less e f rest =
    let down : nat_le y.stamp x.stamp ≡ false = lt-leb y.stamp x.stamp less in
    rw (down, e, f) refl
swap_by x y z zs false true less e f rest = absurd (omega (arith, leb-false x.stamp z.stamp e, leb-true y.stamp z.stamp f))
swap_by x y z zs false false less e f rest = rw (e, f) (ap (λ (ys : List Stamped). z ∷ ys) rest)

swap_up : (x y : Stamped) (zs : List Stamped) → x.stamp < y.stamp → put_in y (put_in x zs) ≡ put_in x (put_in y zs)
swap_up x y [] less =
    let up : nat_le x.stamp y.stamp ≡ true = le-leb x.stamp y.stamp (omega arith) in
    let down : nat_le y.stamp x.stamp ≡ false = lt-leb y.stamp x.stamp less in
    rw (up, down) refl
swap_up x y (z ∷ zs) less = swap_by x y z zs (nat_le x.stamp z.stamp) (nat_le y.stamp z.stamp) less refl refl (swap_up x y zs less)

swap_ways : (x y : Stamped) (zs : List Stamped) (below above : Bool) → nat_lt x.stamp y.stamp ≡ below → nat_lt y.stamp x.stamp ≡ above → (y.stamp == x.stamp) ≡ false → put_in y (put_in x zs) ≡ put_in x (put_in y zs)
swap_ways x y zs true above e f apart = swap_up x y zs (ltb-true x.stamp y.stamp e)
swap_ways x y zs false true e f apart = sym (swap_up y x zs (ltb-true y.stamp x.stamp f))
swap_ways x y zs false false e f apart =
    let same : (y.stamp == x.stamp) ≡ true = eq-eqb y.stamp x.stamp (omega (arith, ltb-false x.stamp y.stamp e, ltb-false y.stamp x.stamp f)) in
    cc

pub pulled : (x : Stamped) (front back : List Stamped) → tally (λ y. y.stamp == x.stamp) front ≡ 0 → in_order (front ++ x ∷ back) ≡ put_in x (in_order (front ++ back))
pulled x [] back apart = refl
pulled x (y ∷ front) back apart =
    let other : (y.stamp == x.stamp) ≡ false = one_if_true (y.stamp == x.stamp) (omega arith) in
    ap (λ (zs : List Stamped). put_in y zs) (pulled x front back (omega arith))
    ∙ swap_ways x y (in_order (front ++ back)) (nat_lt x.stamp y.stamp) (nat_lt y.stamp x.stamp) refl refl other

-- one with a stamp above all others goes to the end
pub last_put : (x : Stamped) (ys : List Stamped) → tally (λ y. nat_le x.stamp y.stamp) ys ≡ 0 → put_in x ys ≡ ys ++ x ∷ []
last_put x [] later = refl
last_put x (y ∷ ys) later =
    let above : nat_le x.stamp y.stamp ≡ false = one_if_true (nat_le x.stamp y.stamp) (omega arith) in
    rw above (ap (λ (zs : List Stamped). y ∷ zs) (last_put x ys (omega arith)))

-- ---- the first that passes

first_by : (p : Unfinished → Bool) (x y : Stamped) (ys : List Stamped) (le there : Bool) → nat_le x.stamp y.stamp ≡ le → p y.one ≡ there → p x.one ≡ true → one_if (p y.one && nat_lt y.stamp x.stamp) ≡ 0 → (first_job p (map (λ z. z.one) (put_in x ys)) ≡ Some x.one.job) × (without_first p (map (λ z. z.one) (put_in x ys)) ≡ map (λ z. z.one) ys) → (first_job p (map (λ z. z.one) (if le then x ∷ y ∷ ys else y ∷ put_in x ys)) ≡ Some x.one.job) × (without_first p (map (λ z. z.one) (if le then x ∷ y ∷ ys else y ∷ put_in x ys)) ≡ map (λ z. z.one) (y ∷ ys))
first_by p x y ys true there e f passes none rest = (rw passes refl, rw passes refl)
first_by p x y ys false true e f passes none rest =
    let below : nat_lt y.stamp x.stamp ≡ true = lt-ltb y.stamp x.stamp (leb-false x.stamp y.stamp e) in
    let one : one_if (p y.one && nat_lt y.stamp x.stamp) ≡ 1 = rw (f, below) refl in
    absurd (omega arith)
first_by p x y ys false false e f passes none rest = (rw f rest.0, rw f (ap (λ (zs : Queue). y.one ∷ zs) rest.1))

pub first_put : (p : Unfinished → Bool) (x : Stamped) (ys : List Stamped) → p x.one ≡ true → count_before (λ y. p y.one) x.stamp ys ≡ 0 → (first_job p (map (λ z. z.one) (put_in x ys)) ≡ Some x.one.job) × (without_first p (map (λ z. z.one) (put_in x ys)) ≡ map (λ z. z.one) ys)
first_put p x [] passes none = (rw passes refl, rw passes refl)
first_put p x (y ∷ ys) passes none = first_by p x y ys (nat_le x.stamp y.stamp) (p y.one) refl refl passes (omega arith) (first_put p x ys passes (omega arith))

-- none passes
pub none_first : (p : Unfinished → Bool) (xs : Queue) → total (λ x. one_if (p x)) xs ≡ 0 → (first_job p xs ≡ None) × (without_first p xs ≡ xs)
none_first p [] none = (refl, refl)
none_first p (x ∷ xs) none =
    let fails : p x ≡ false = one_if_true (p x) (omega arith) in
    let rest = none_first p xs (omega arith) in
    (rw fails rest.0, rw fails (ap (λ (ys : Queue). x ∷ ys) rest.1))

-- ---- the ready one of a place

pub record IsReadyAt (k : ℕ) (x : Stamped) (all others : List Stamped) : Type 0 where
  pub job : ready_job k (map (λ z. z.one) all) ≡ Some x.one.job
  pub left : without_ready k (map (λ z. z.one) all) ≡ map (λ z. z.one) others

-- past one that is in front
past_by : (k : ℕ) (x y : Stamped) (ys zs : List Stamped) (there : Bool) (n : ℕ) → is_ready y.one ≡ there → one_if there + n ≡ k → ((j : ℕ) → n ≡ j → IsReadyAt j x zs ys) → IsReadyAt k x (y ∷ zs) (y ∷ ys)
past_by zero x y ys zs true n e sum rest = absurd (omega arith)
past_by zero x y ys zs false n e sum rest =
    let here = rest zero (omega arith) in
    record { job = rw e here.job; left = rw e (ap (λ (us : Queue). y.one ∷ us) here.left) }
past_by (suc k) x y ys zs true n e sum rest =
    let here = rest k (omega arith) in
    record {
      job = ap (λ (b : Bool). ready_job (if b then k else suc k) (map (λ z. z.one) zs)) e ∙ here.job;
      left = ap (λ (us : Queue). y.one ∷ us) (ap (λ (b : Bool). without_ready (if b then k else suc k) (map (λ z. z.one) zs)) e ∙ here.left);
    }
past_by (suc k) x y ys zs false n e sum rest =
    let here = rest (suc k) (omega arith) in
    record {
      job = ap (λ (b : Bool). ready_job (if b then k else suc k) (map (λ z. z.one) zs)) e ∙ here.job;
      left = ap (λ (us : Queue). y.one ∷ us) (ap (λ (b : Bool). without_ready (if b then k else suc k) (map (λ z. z.one) zs)) e ∙ here.left);
    }

here_by : (k : ℕ) (x : Stamped) (ys : List Stamped) → is_ready x.one ≡ true → 0 ≡ k → IsReadyAt k x (x ∷ ys) ys
here_by zero x ys passes none = record { job = rw passes refl; left = rw passes refl }
here_by (suc k) x ys passes none = absurd (omega arith)

ready_sum : (a b : Bool) (n k : ℕ) → b ≡ true → one_if (a && b) + n ≡ k → one_if a + n ≡ k
ready_sum true true n k is sum = sum
ready_sum false true n k is sum = sum
ready_sum true false n k is sum = cc
ready_sum false false n k is sum = sum

ready_by : (x y : Stamped) (ys : List Stamped) (le : Bool) (k : ℕ) → nat_le x.stamp y.stamp ≡ le → is_ready x.one ≡ true → Sorted (y ∷ ys) → count_before (λ z. is_ready z.one) x.stamp (y ∷ ys) ≡ k → ((j : ℕ) → count_before (λ z. is_ready z.one) x.stamp ys ≡ j → IsReadyAt j x (put_in x ys) ys) → IsReadyAt k x (if le then x ∷ y ∷ ys else y ∷ put_in x ys) (y ∷ ys)
ready_by x y ys true k e passes sorted count rest =
    let le = leb-true x.stamp y.stamp e in
    let not_below : nat_lt y.stamp x.stamp ≡ false = le-ltb y.stamp x.stamp le in
    let nought : one_if (nat_lt y.stamp x.stamp) ≡ 0 = rw not_below refl in
    let less = below_less x.stamp y.stamp le ys in
    let few = tally_less (λ z. is_ready z.one && nat_lt z.stamp x.stamp) (λ z. nat_lt z.stamp x.stamp) (λ z both. (and_parts (is_ready z.one) (nat_lt z.stamp x.stamp) both).1) (y ∷ ys) in
    here_by k x (y ∷ ys) passes (omega (arith, sorted.0))
ready_by x y ys false k e passes sorted count rest =
    let below : nat_lt y.stamp x.stamp ≡ true = lt-ltb y.stamp x.stamp (leb-false x.stamp y.stamp e) in
    past_by k x y ys (put_in x ys) (is_ready y.one) (count_before (λ z. is_ready z.one) x.stamp ys) refl (ready_sum (is_ready y.one) (nat_lt y.stamp x.stamp) (count_before (λ z. is_ready z.one) x.stamp ys) k below count) rest

pub ready_put : (x : Stamped) (ys : List Stamped) (k : ℕ) → is_ready x.one ≡ true → Sorted ys → count_before (λ z. is_ready z.one) x.stamp ys ≡ k → IsReadyAt k x (put_in x ys) ys
ready_put x [] k passes sorted count = here_by k x [] passes count
ready_put x (y ∷ ys) k passes sorted count = ready_by x y ys (nat_le x.stamp y.stamp) k refl passes sorted count (λ j. ready_put x ys j passes sorted.1)
