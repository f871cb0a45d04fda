-- A job comes to all jobs, or goes.
use Rattle.std.proofs.Common.{◌≡◌, ◌∙◌, ℕ, zero, suc, Bor, ◌+◌, ◌≤◌, ◌<◌, Bool, true, false, ◌&&◌, ◌==◌, nat_lt, nat_le, if◌then◌else◌, Option, Some, None, List, [], ◌∷◌, ◌++◌, map, ap, sym, refl, subst, arith}
use Rattle.std.proofs.lemmas.Bool.{leb-true, ltb-true, ltb-false, lt-ltb, le-leb, lt-leb, le-ltb, eqb-true, eq-eqb, and_parts}
use Rattle.std.specs.Prelude.{IfSome, IfNone}
use Rattle.std.specs.List.{filter}
use Rattle.std.specs.Option.{option_copied}
use Rattle.std.proofs.lemmas.List.{map-append, length-map}
use Rattle.waits.specs.declared.stamped.Stamped.{Stamped}
use Rattle.waits.specs.declared.job.Unfinished.{Unfinished}
use Rattle.waits.specs.Jobs.{Queue, is_ready, one_if, total, ready_count, first_job, without_first, ready_job, without_ready}
use Rattle.waits.specs.Stamps.{weigh, tally, after, put_in, in_order, queue_of, count_before, AreStamped, IsWith}
use Rattle.waits.specs.declared.job.Job.{Job}
use Rattle.waits.specs.Kept.{Kept, IsFirstOf}
use Rattle.waits.specs.declared.stamp_search.Bound.{Bound}
use Rattle.waits.proofs.Sums.{weigh_append, weigh_le, weigh_map, weigh_same, weigh_sum, weigh_filter, part_le, tally_less}
use Rattle.waits.proofs.Counted.{among_sum, among_length}
use Rattle.waits.proofs.Asked.{ones, all_before}
use Rattle.waits.proofs.Places.{fewer_before}
use Rattle.waits.proofs.Order.{weigh_in_order, sorted_in_order, pulled, last_put, first_put, none_first, total_queue, ready_put}

-- ---- the stamps stay apart

pub stamped_less : (next : ℕ) (x : Stamped) (others all : List Stamped) → IsWith x others all → AreStamped next all → AreStamped next others
stamped_less next x others all among one =
    record {
      apart = λ s. omega (arith, one.apart s, among_sum (λ y. one_if (y.stamp == s)) x others all among);
      below = omega (arith, one.below, among_sum (λ y. one_if (nat_le next y.stamp)) x others all among);
      few = omega (arith, one.few, among_length x others all among);
    }

pub stamped_told : (next key session number : ℕ) (ok : Bool) (xs : List Stamped) → AreStamped next xs → AreStamped next (map (after key session number ok) xs)
stamped_told next key session number ok xs one =
    record {
      apart = λ s. omega (arith, one.apart s, weigh_map (λ y. one_if (y.stamp == s)) (after key session number ok) xs);
      below = omega (arith, one.below, weigh_map (λ y. one_if (nat_le next y.stamp)) (after key session number ok) xs);
      few = omega (arith, one.few, length-map xs (after key session number ok));
    }

filter_less : (m : Stamped → ℕ) (test : Stamped → Bool) (xs : List Stamped) → weigh m (filter test xs) ≤ weigh m xs
filter_less m test xs = omega (arith, weigh_filter m test xs, weigh_le (λ y. if test y then m y else 0) m (λ y. part_le (test y) (m y)) xs)

pub stamped_filtered : (next : ℕ) (test : Stamped → Bool) (xs : List Stamped) → AreStamped next xs → AreStamped next (filter test xs)
stamped_filtered next test xs one =
    record {
      apart = λ s. omega (arith, one.apart s, filter_less (λ y. one_if (y.stamp == s)) test xs);
      below = omega (arith, one.below, filter_less (λ y. one_if (nat_le next y.stamp)) test xs);
      few = omega (arith, one.few, filter_less (λ _. 1) test xs, ones xs, ones (filter test xs));
    }

same_stamp : (n : ℕ) → one_if (n == n) ≡ 1
same_stamp n = let is : (n == n) ≡ true = eq-eqb n n refl in rw is refl

-- a job among others goes in behind them
in_order_with : (next : ℕ) (x : Stamped) (others all : List Stamped) → IsWith x others all → AreStamped next all → in_order all ≡ put_in x (in_order others)
in_order_with next x others all among one =
    let sum = among_sum (λ y. one_if (y.stamp == x.stamp)) x others all among in
    let few = one.apart x.stamp in
    let here = same_stamp x.stamp in
    let parts = ap (λ (xs : List Stamped). tally (λ y. y.stamp == x.stamp) xs) among.less in
    let both = weigh_append (λ y. one_if (y.stamp == x.stamp)) among.front among.back in
    ap in_order among.more ∙ (pulled x among.front among.back (omega arith) ∙ ap (λ (xs : List Stamped). put_in x (in_order xs)) (sym among.less))

-- one with a later stamp is the last
later_apart : (x : Stamped) (s : ℕ) (same : Bool) (n m : ℕ) → (x.stamp == s) ≡ same → n ≤ 1 → m ≡ 0 → ((x.stamp == s) ≡ true → n ≤ m) → one_if same + n ≤ 1
later_apart x s true n m is few none leads = let less = leads is in omega arith
later_apart x s false n m is few none leads = omega arith

next_by : (x : Stamped) (next : ℕ) (y : Stamped) → x.stamp ≡ next → nat_le (next + 1) y.stamp ≡ true → nat_le next y.stamp ≡ true
next_by x next y is above = le-leb next y.stamp (omega (arith, leb-true (next + 1) y.stamp above))

pub stamped_more : (next : ℕ) (x : Stamped) (others all : List Stamped) → IsWith x others all → x.stamp ≡ next → AreStamped next others → AreStamped (next + 1) all
stamped_more next x others all among is one =
    let later : tally (λ y. nat_le x.stamp y.stamp) others ≡ 0 = subst (λ (n : ℕ). tally (λ y. nat_le n y.stamp) others ≡ 0) (sym is) one.below in
    let own : nat_le (next + 1) x.stamp ≡ false = lt-leb (next + 1) x.stamp (omega arith) in
    let nought : one_if (nat_le (next + 1) x.stamp) ≡ 0 = rw own refl in
    record {
      apart = λ s.
          let sum = among_sum (λ y. one_if (y.stamp == s)) x others all among in
          let here = later_apart x s (x.stamp == s) (tally (λ y. y.stamp == s) others) (tally (λ y. nat_le x.stamp y.stamp) others) refl (one.apart s) later
          (λ same. tally_less (λ y. y.stamp == s) (λ y. nat_le x.stamp y.stamp) (λ y other. le-leb x.stamp y.stamp (omega (arith, eqb-true x.stamp s same, eqb-true y.stamp s other))) others) in
          omega arith;
      below = omega (arith, one.below, nought, among_sum (λ y. one_if (nat_le (next + 1) y.stamp)) x others all among, tally_less (λ y. nat_le (next + 1) y.stamp) (λ y. nat_le next y.stamp) (λ y above. next_by x next y is above) others);
      few = omega (arith, one.few, among_length x others all among);
    }

pub queue_more : (next : ℕ) (x : Stamped) (others all : List Stamped) → IsWith x others all → x.stamp ≡ next → AreStamped next others → queue_of all ≡ queue_of others ++ x.one ∷ []
queue_more next x others all among is one =
    let later : tally (λ y. nat_le x.stamp y.stamp) others ≡ 0 = subst (λ (n : ℕ). tally (λ y. nat_le n y.stamp) others ≡ 0) (sym is) one.below in
    let last = last_put x (in_order others) (weigh_in_order (λ y. one_if (nat_le x.stamp y.stamp)) others ∙ later) in
    ap (λ (xs : List Stamped). map (λ y. y.one) xs) (in_order_with (next + 1) x others all among (stamped_more next x others all among is one) ∙ last)
    ∙ map-append (λ (y : Stamped). y.one) (in_order others) (x ∷ [])

-- ---- the first that passes goes

pub record IsFirstGone (test : Unfinished → Bool) (x : Stamped) (others all : List Stamped) : Type 0 where
  pub job : first_job test (queue_of all) ≡ Some x.one.job
  pub left : without_first test (queue_of all) ≡ queue_of others

pub first_gone : (next : ℕ) (test : Unfinished → Bool) (x : Stamped) (others all : List Stamped) → IsFirstOf (λ y. test y.one) x others all → AreStamped next all → IsFirstGone test x others all
first_gone next test x others all first one =
    let sum = among_sum (λ y. one_if (test y.one && nat_lt y.stamp x.stamp)) x others all first.among in
    let none = first.none in
    let ordered = weigh_in_order (λ y. one_if (test y.one && nat_lt y.stamp x.stamp)) others in
    let put = first_put test x (in_order others) first.passes (omega arith) in
    let whole = in_order_with next x others all first.among one in
    record {
      job = ap (λ (xs : List Stamped). first_job test (map (λ y. y.one) xs)) whole ∙ put.0;
      left = ap (λ (xs : List Stamped). without_first test (map (λ y. y.one) xs)) whole ∙ put.1;
    }

-- ---- the ready one of a place goes

-- the ready ones in front of a job are those below a lesser stamp, and those from that one on
split_by : (ready below from before : Bool) → (below ≡ true → before ≡ true) → (below ≡ true → from ≡ false) → (below ≡ false → from ≡ true) → one_if (ready && before) ≡ one_if (ready && below) + one_if ((from && ready) && before)
split_by true true from before one two three = let e = one refl in let f = two refl in rw (e, f) refl
split_by true false from before one two three = let f = three refl in rw f (omega arith)
split_by false below true before one two three = refl
split_by false below false before one two three = refl

pub split_ready : (least stamp : ℕ) → least ≤ stamp → (xs : List Stamped) → count_before (λ y. is_ready y.one) stamp xs ≡ count_before (λ y. is_ready y.one) least xs + count_before (λ y. nat_le least y.stamp && is_ready y.one) stamp xs
split_ready least stamp less xs =
    weigh_sum (λ y. one_if (is_ready y.one && nat_lt y.stamp stamp)) (λ y. one_if (is_ready y.one && nat_lt y.stamp least)) (λ y. one_if ((nat_le least y.stamp && is_ready y.one) && nat_lt y.stamp stamp))
    (λ y. split_by (is_ready y.one) (nat_lt y.stamp least) (nat_le least y.stamp) (nat_lt y.stamp stamp)
    (λ below. lt-ltb y.stamp stamp (omega (arith, ltb-true y.stamp least below)))
    (λ below. lt-leb least y.stamp (ltb-true y.stamp least below))
    (λ past. le-leb least y.stamp (ltb-false y.stamp least past))) xs

pub record IsReadyGone (k : ℕ) (x : Stamped) (others all : List Stamped) : Type 0 where
  pub job : ready_job k (queue_of all) ≡ Some x.one.job
  pub left : without_ready k (queue_of all) ≡ queue_of others

not_below : (n : ℕ) → nat_lt n n ≡ false
not_below n = le-ltb n n (omega arith)

nothing_before : (ready : Bool) (n : ℕ) → one_if (ready && nat_lt n n) ≡ 0
nothing_before true n = let none = not_below n in rw none refl
nothing_before false n = refl

pub ready_gone : (next k least : ℕ) (x : Stamped) (others all : List Stamped) → IsFirstOf (λ y. nat_le least y.stamp && is_ready y.one) x others all → count_before (λ y. is_ready y.one) least all ≡ k → AreStamped next all → IsReadyGone k x others all
ready_gone next k least x others all first count one =
    let both = and_parts (nat_le least x.stamp) (is_ready x.one) first.passes in
    let split = split_ready least x.stamp (leb-true least x.stamp both.0) all in
    let none = first.none in
    let sum = among_sum (λ y. one_if (is_ready y.one && nat_lt y.stamp x.stamp)) x others all first.among in
    let here = nothing_before (is_ready x.one) x.stamp in
    let ordered = weigh_in_order (λ y. one_if (is_ready y.one && nat_lt y.stamp x.stamp)) others in
    let put = ready_put x (in_order others) k both.1 (sorted_in_order others) (omega arith) in
    let whole = in_order_with next x others all first.among one in
    record {
      job = ap (λ (xs : List Stamped). ready_job k (map (λ y. y.one) xs)) whole ∙ put.job;
      left = ap (λ (xs : List Stamped). without_ready k (map (λ y. y.one) xs)) whole ∙ put.left;
    }

-- ---- a stamp below which so many are ready

before_zero_by : (ready : Bool) (n : ℕ) → one_if (ready && nat_lt n 0) ≡ 0
before_zero_by true n = let none : nat_lt n 0 ≡ false = le-ltb n 0 (omega arith) in rw none refl
before_zero_by false n = refl

pub none_before_zero : (test : Stamped → Bool) (xs : List Stamped) → count_before test 0 xs ≡ 0
none_before_zero test [] = refl
none_before_zero test (x ∷ xs) = omega (arith, before_zero_by (test x) x.stamp, none_before_zero test xs)

from_zero_by : (from ready before : Bool) → from ≡ true → one_if ((from && ready) && before) ≡ one_if (ready && before)
from_zero_by true ready before is = refl
from_zero_by false ready before is = let clash : false ≡ true = is in cc

pub ready_from_zero : (limit : ℕ) (xs : List Stamped) → count_before (λ y. nat_le 0 y.stamp && is_ready y.one) limit xs ≡ count_before (λ y. is_ready y.one) limit xs
ready_from_zero limit xs =
    weigh_same (λ y. one_if ((nat_le 0 y.stamp && is_ready y.one) && nat_lt y.stamp limit)) (λ y. one_if (is_ready y.one && nat_lt y.stamp limit)) (λ y. from_zero_by (nat_le 0 y.stamp) (is_ready y.one) (nat_lt y.stamp limit) (le-leb 0 y.stamp (omega arith))) xs

next_step : (ready more below same : Bool) → (more ≡ true → below ≡ false → same ≡ true) → one_if (ready && more) ≤ one_if (ready && below) + one_if same
next_step true true true same leads = omega arith
next_step true true false same leads = let is = leads refl refl in rw is (omega arith)
next_step true false below same leads = omega arith
next_step false more below same leads = omega arith

-- between two stamps that stand side by side there is one job at most
pub halved : (next : ℕ) (test : Stamped → Bool) (xs : List Stamped) (least above k : ℕ) → AreStamped next xs → count_before test least xs ≤ k → k < count_before test above xs → above ≤ least + 1 → count_before test least xs ≡ k
halved next test xs least above k one low high close =
    let step = weigh_le (λ y. one_if (test y && nat_lt y.stamp above)) (λ y. one_if (test y && nat_lt y.stamp least) + one_if (y.stamp == least))
    (λ y. next_step (test y) (nat_lt y.stamp above) (nat_lt y.stamp least) (y.stamp == least) (λ more past. eq-eqb y.stamp least (omega (arith, ltb-true y.stamp above more, ltb-false y.stamp least past)))) xs in
    let sum = weigh_sum (λ y. one_if (test y && nat_lt y.stamp least) + one_if (y.stamp == least)) (λ y. one_if (test y && nat_lt y.stamp least)) (λ y. one_if (y.stamp == least)) (λ y. refl) xs in
    omega (arith, one.apart least)

split_least : (ready below from before : Bool) → (below ≡ false → from ≡ true) → one_if (ready && before) ≤ one_if (ready && below) + one_if ((from && ready) && before)
split_least true true from true leads = omega arith
split_least true true from false leads = omega arith
split_least true false from before leads = let is = leads refl in rw is (omega arith)
split_least false below from before leads = omega arith

-- where more are ready than are below a stamp, one is that isn't
pub some_from : (next least k : ℕ) (xs : List Stamped) → AreStamped next xs → count_before (λ y. is_ready y.one) least xs ≡ k → k < tally (λ y. is_ready y.one) xs → count_before (λ y. nat_le least y.stamp && is_ready y.one) next xs ≡ 0 → ⊥
some_from next least k xs one count more none =
    let all = all_before (λ y. is_ready y.one) next xs one.below in
    let less = weigh_le (λ y. one_if (is_ready y.one && nat_lt y.stamp next)) (λ y. one_if (is_ready y.one && nat_lt y.stamp least) + one_if ((nat_le least y.stamp && is_ready y.one) && nat_lt y.stamp next))
    (λ y. split_least (is_ready y.one) (nat_lt y.stamp least) (nat_le least y.stamp) (nat_lt y.stamp next) (λ past. le-leb least y.stamp (ltb-false y.stamp least past))) xs in
    let sum = weigh_sum (λ y. one_if (is_ready y.one && nat_lt y.stamp least) + one_if ((nat_le least y.stamp && is_ready y.one) && nat_lt y.stamp next)) (λ y. one_if (is_ready y.one && nat_lt y.stamp least)) (λ y. one_if ((nat_le least y.stamp && is_ready y.one) && nat_lt y.stamp next)) (λ y. refl) xs in
    absurd (omega arith)

-- ---- what is taken out, if any

pub record IsTakenFirst (next : ℕ) (test : Unfinished → Bool) (all left : List Stamped) (found : Option Job) : Type 0 where
  pub job : found ≡ first_job test (queue_of all)
  pub others : queue_of left ≡ without_first test (queue_of all)
  pub stamped : AreStamped next left

call_or_none : (next : ℕ) (test : Unfinished → Bool) (old new : Kept) (found : Option Job) → IfSome found (λ job. (x : Stamped) × (job ≡ x.one.job) × IsFirstOf (λ y. test y.one) x new.jobs old.jobs) → IfNone found (tally (λ y. test y.one) old.jobs ≡ 0) → IfNone found (new ≡ old) → AreStamped next old.jobs → IsTakenFirst next test old.jobs new.jobs found
call_or_none next test old new (Some job) some none same one =
    let gone = first_gone next test some.0 new.jobs old.jobs some.2 one in
    record {
      job = ap (λ (j : Job). Some j) some.1 ∙ sym gone.job;
      others = sym gone.left;
      stamped = stamped_less next some.0 new.jobs old.jobs some.2.among one;
    }
call_or_none next test old new None some none same one =
    let nothing = none_first test (queue_of old.jobs) (total_queue (λ x. one_if (test x)) old.jobs ∙ none) in
    let jobs = ap (λ (kept : Kept). kept.jobs) same in
    record {
      job = sym nothing.0;
      others = ap queue_of jobs ∙ sym nothing.1;
      stamped = subst (AreStamped next) (sym jobs) one;
    }

none_by : (found : Option Job) (n m : ℕ) → n ≡ m → IfNone found (m ≡ 0) → IfNone found (n ≡ 0)
none_by (Some job) n m same none = tt
none_by None n m same none = same ∙ none

pub first_or_none : (next : ℕ) (test : Unfinished → Bool) (old new : Kept) (found : Option Job) → IfSome found (λ job. (x : Stamped) × (job ≡ x.one.job) × IsFirstOf (λ y. test y.one) x new.jobs old.jobs) → IfNone found (count_before (λ y. test y.one) next old.jobs ≡ 0) → IfNone found (new ≡ old) → AreStamped next old.jobs → IsTakenFirst next test old.jobs new.jobs found
first_or_none next test old new found some none same one =
    call_or_none next test old new found some (none_by found (tally (λ y. test y.one) old.jobs) (count_before (λ y. test y.one) next old.jobs) (all_before (λ y. test y.one) next old.jobs one.below) none) same one

-- ---- the ready one of a place, where it is only looked at

none_ready_by : (k : ℕ) (x : Unfinished) (xs : Queue) (ready : Bool) → is_ready x ≡ ready → one_if ready + total (λ y. one_if (is_ready y)) xs ≤ k → ((j : ℕ) → total (λ y. one_if (is_ready y)) xs ≤ j → ready_job j xs ≡ None) → ready_job k (x ∷ xs) ≡ None
none_ready_by zero x xs true is less rest = absurd (omega arith)
none_ready_by zero x xs false is less rest = rw is (rest zero (omega arith))
none_ready_by (suc k) x xs true is less rest = rw is (rest k (omega arith))
none_ready_by (suc k) x xs false is less rest = rw is (rest (suc k) (omega arith))

pub ready_none : (k : ℕ) (xs : Queue) → ready_count xs ≤ k → ready_job k xs ≡ None
ready_none k [] less = refl
ready_none k (x ∷ xs) less = none_ready_by k x xs (is_ready x) refl less (λ j. ready_none j xs)

pub ready_found : (next k least : ℕ) (xs : List Stamped) (found : Option (Bor Job)) → AreStamped next xs → count_before (λ y. is_ready y.one) least xs ≡ k → k < tally (λ y. is_ready y.one) xs → IfSome found (λ job. (x : Stamped) × (others : List Stamped) × (job.now ≡ x.one.job) × IsFirstOf (λ y. nat_le least y.stamp && is_ready y.one) x others xs) → IfNone found (count_before (λ y. nat_le least y.stamp && is_ready y.one) next xs ≡ 0) → option_copied found ≡ ready_job k (queue_of xs)
ready_found next k least xs (Some job) one count more some none =
    let gone = ready_gone next k least some.0 some.1 xs some.3 count one in
    ap (λ (j : Job). Some j) some.2 ∙ sym gone.job
ready_found next k least xs None one count more some none = absurd (some_from next least k xs one count more none)

pub some_shown : {A X : Type 0} (found : Option X) → A → IfSome found (λ _. A)
some_shown (Some x) holds = holds
some_shown None holds = tt

pub none_shown : (A : Type 0) {X : Type 0} (found : Option X) (n : ℕ) → IfNone found (n ≡ 0) → (n ≡ 0 → ⊥) → IfNone found A
none_shown A (Some x) n none never = tt
none_shown A None n none never = absurd (never none)

-- the stamp that is looked for isn't below the one bound, and is below the other
pub record IsBetween (xs : List Stamped) (k : ℕ) (low high : Bound) : Type 0 where
  pub below_low : low.ready ≡ count_before (λ y. is_ready y.one) low.stamp xs
  pub below_high : high.ready ≡ count_before (λ y. is_ready y.one) high.stamp xs
  pub few : low.ready ≤ k
  pub more : k < high.ready
  pub order : low.stamp < high.stamp

fewer_by : (xs : List Stamped) (low high : ℕ) (is : Bool) → nat_lt low high ≡ is → count_before (λ y. is_ready y.one) low xs < count_before (λ y. is_ready y.one) high xs → low < high
fewer_by xs low high true is less = ltb-true low high is
fewer_by xs low high false is less = absurd (omega (arith, fewer_before (λ y. is_ready y.one) high low (ltb-false low high is) xs))

-- the first bounds: below the one none is ready, and all stamps are below the other
pub all_between : (xs : List Stamped) (k : ℕ) (low high : Bound) → AreStamped high.stamp xs → k < tally (λ y. is_ready y.one) xs → low.ready ≡ 0 → count_before (λ y. is_ready y.one) low.stamp xs ≡ 0 → high.ready ≡ count_before (λ y. is_ready y.one) high.stamp xs → IsBetween xs k low high
all_between xs k low high one more none first last =
    let all = all_before (λ y. is_ready y.one) high.stamp xs one.below in
    record {
      below_low = omega (arith, none, first);
      below_high = last;
      few = omega (arith, none);
      more = omega (arith, more, all, last);
      order = fewer_by xs low.stamp high.stamp (nat_lt low.stamp high.stamp) refl (omega (arith, more, all, first));
    }
