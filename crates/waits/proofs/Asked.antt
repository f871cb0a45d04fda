-- What a session's jobs are among all, in numbers.
use Rattle.std.proofs.Common.{◌≡◌, ◌∙◌, ℕ, ◌+◌, ◌≤◌, Bool, true, false, not, ◌&&◌, ◌==◌, nat_lt, nat_le, if◌then◌else◌, List, [], ◌∷◌, length, sym, refl, arith}
use Rattle.std.specs.List.{list_any}
use Rattle.std.proofs.lemmas.Bool.{ltb-false, le-leb, and_parts}
use Rattle.waits.specs.declared.stamped.Stamped.{Stamped}
use Rattle.waits.specs.declared.job.Unfinished.{Unfinished}
use Rattle.waits.specs.Jobs.{Queue, is_of, is_ready, is_waiting, is_overdue, is_empty, waits_for, one_if, total}
use Rattle.waits.specs.Stamps.{weigh, tally, own, queue_of, count_before}
use Rattle.waits.proofs.Sums.{tally_less, weigh_le, weigh_same, weigh_sum, weigh_filter}
use Rattle.waits.proofs.Order.{total_queue}

pub ones : {X : Type 0} (xs : List X) → weigh (λ _. 1) xs ≡ length xs
ones [] = refl
ones (x ∷ xs) = let rest = ones xs in omega arith

total_ones : (q : Queue) → total (λ _. 1) q ≡ length q
total_ones [] = refl
total_ones (x ∷ q) = let rest = total_ones q in omega arith

pub queue_length : (xs : List Stamped) → length (queue_of xs) ≡ length xs
queue_length xs = sym (total_ones (queue_of xs)) ∙ (total_queue (λ _. 1) xs ∙ ones xs)

pub own_sum : (m : Unfinished → ℕ) (key session : ℕ) (xs : List Stamped) → total (λ one. if is_of key session one then m one else 0) (queue_of xs) ≡ weigh (λ x. m x.one) (own key session xs)
own_sum m key session xs = total_queue (λ one. if is_of key session one then m one else 0) xs ∙ sym (weigh_filter (λ x. m x.one) (λ x. is_of key session x.one) xs)

pub own_length : (key session : ℕ) (xs : List Stamped) → total (λ one. one_if (is_of key session one)) (queue_of xs) ≡ length (own key session xs)
own_length key session xs = own_sum (λ _. 1) key session xs ∙ ones (own key session xs)

both_if : (a b : Bool) → one_if (a && b) ≡ (if a then one_if b else 0)
both_if true b = refl
both_if false b = refl

pub own_tally : (p : Unfinished → Bool) (key session : ℕ) (xs : List Stamped) → total (λ one. one_if (is_of key session one && p one)) (queue_of xs) ≡ tally (λ x. p x.one) (own key session xs)
own_tally p key session xs =
    total_queue (λ one. one_if (is_of key session one && p one)) xs
    ∙ (weigh_same (λ x. one_if (is_of key session x.one && p x.one)) (λ x. if is_of key session x.one then one_if (p x.one) else 0) (λ x. both_if (is_of key session x.one) (p x.one)) xs
    ∙ sym (weigh_filter (λ x. one_if (p x.one)) (λ x. is_of key session x.one) xs))

one_of_two : (ready : Bool) → 1 ≡ one_if ready + one_if (not ready)
one_of_two true = refl
one_of_two false = refl

pub ready_or_not : (xs : List Stamped) → length xs ≡ tally (λ x. is_ready x.one) xs + tally (λ x. not (is_ready x.one)) xs
ready_or_not xs = sym (ones xs) ∙ weigh_sum (λ _. 1) (λ x. one_if (is_ready x.one)) (λ x. one_if (not (is_ready x.one))) (λ x. one_of_two (is_ready x.one)) xs

-- all stamps are below a limit
before_by : (a b c : Bool) → one_if c ≡ 0 → (b ≡ false → c ≡ true) → one_if a ≡ one_if (a && b)
before_by true true c none leads = refl
before_by true false c none leads = let held = leads refl in let one : one_if c ≡ 1 = rw held refl in absurd (omega arith)
before_by false b c none leads = refl

pub all_before : (test : Stamped → Bool) (limit : ℕ) (xs : List Stamped) → tally (λ x. nat_le limit x.stamp) xs ≡ 0 → tally test xs ≡ count_before test limit xs
all_before test limit [] none = refl
all_before test limit (x ∷ xs) none =
    let here = before_by (test x) (nat_lt x.stamp limit) (nat_le limit x.stamp) (omega arith) (λ past. le-leb limit x.stamp (ltb-false x.stamp limit past)) in
    let rest = all_before test limit xs (omega arith) in
    omega arith

-- one that is overdue waits
late_waits : (waits late : Bool) → one_if (waits && late) ≤ one_if waits
late_waits true true = omega arith
late_waits true false = omega arith
late_waits false late = omega arith

pub overdue_waits : (now : ℕ) (xs : List Stamped) → tally (λ x. is_overdue now x.one) xs ≤ tally (λ x. is_waiting x.one) xs
overdue_waits now xs = weigh_le (λ x. one_if (is_overdue now x.one)) (λ x. one_if (is_waiting x.one)) (λ x. late_waits (is_waiting x.one) _) xs

-- and so does one that waits for a number
any_waits : (test : ℕ → Bool) (numbers : List ℕ) → list_any test numbers ≡ true → not (is_empty numbers) ≡ true
any_waits test [] some = some
any_waits test (x ∷ numbers) some = refl

pub waiter_waits : (key session number : ℕ) (xs : List Stamped) → tally (λ x. waits_for key session number x.one) xs ≤ tally (λ x. is_waiting x.one) xs
waiter_waits key session number xs = tally_less (λ x. waits_for key session number x.one) (λ x. is_waiting x.one) (λ x both. any_waits (λ awaited. awaited == number) x.one.job.after (and_parts (is_of key session x.one) _ both).1) xs

-- no more are ready from a stamp on than are
pub ready_from : (least : ℕ) (xs : List Stamped) → tally (λ x. nat_le least x.stamp && is_ready x.one) xs ≤ tally (λ x. is_ready x.one) xs
ready_from least xs = tally_less (λ x. nat_le least x.stamp && is_ready x.one) (λ x. is_ready x.one) (λ x both. (and_parts (nat_le least x.stamp) (is_ready x.one) both).1) xs

-- where all stamps are below the least one that is looked for, none is looked for
pub none_from : (test : Stamped → Bool) (least : ℕ) (xs : List Stamped) → ((x : Stamped) → test x ≡ true → least ≤ x.stamp) → tally (λ x. nat_le least x.stamp) xs ≡ 0 → tally test xs ≡ 0
none_from test least xs leads none = omega (arith, none, tally_less test (λ x. nat_le least x.stamp) (λ x is. le-leb least x.stamp (leads x is)) xs)
