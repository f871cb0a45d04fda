-- Places of jobs among all: what a search over the sessions finds, and what is taken out.
use Rattle.std.proofs.Common.{◌≡◌, ◌∙◌, ℕ, zero, suc, ◌+◌, ◌<◌, ◌≤◌, Bool, true, ◌&&◌, nat_lt, Option, Some, List, [], ◌∷◌, ◌++◌, length, take, get_or, ap, sym, refl, subst, arith}
use Rattle.std.proofs.lemmas.List.{append-nil}
use Rattle.std.specs.Prelude.{IfSome, IfNone}
use Rattle.std.proofs.lemmas.Bool.{ltb-true, lt-ltb, and_parts}
use Rattle.waits.specs.declared.stamped.Stamped.{Stamped}
use Rattle.waits.specs.declared.wanted.First.{First}
use Rattle.waits.specs.declared.owners.Place.{Place}
use Rattle.waits.specs.Jobs.{one_if}
use Rattle.waits.specs.Stamps.{count_before}
use Rattle.waits.specs.Parts.{Part, all_of, IsFirst}
use Rattle.waits.specs.Kept.{IsThere, job_at}
use Rattle.waits.proofs.Sums.{weigh_append, tally_less}
use Rattle.waits.proofs.Parts.{all_append}
use Rattle.waits.proofs.Rising.{IsAt, element}

both_of : (a b : Bool) → a ≡ true → b ≡ true → (a && b) ≡ true
both_of a b one two = rw (one, two) refl

-- a lesser limit
pub fewer_before : (test : Stamped → Bool) (least limit : ℕ) → least ≤ limit → (xs : List Stamped) → count_before test least xs ≤ count_before test limit xs
fewer_before test least limit less xs = tally_less (λ x. test x && nat_lt x.stamp least) (λ x. test x && nat_lt x.stamp limit) (λ x both. both_of (test x) (nat_lt x.stamp limit) (and_parts (test x) (nat_lt x.stamp least) both).0 (lt-ltb x.stamp limit (omega (arith, ltb-true x.stamp least (and_parts (test x) (nat_lt x.stamp least) both).1)))) xs

rest_at : (q : Part) (ps : List Part) (i : ℕ) (p : Part) → IsAt (q ∷ ps) (suc i) p → i < length ps → IsAt ps i p
rest_at q ps i p one within =
    let found = element ps i within in
    let same : found.0 ≡ p = sym (found.1.there q) ∙ one.there q in
    subst (λ (r : Part). IsAt ps i r) same found.1

take_next : (ps : List Part) (i : ℕ) (p : Part) → IsAt ps i p → i < length ps → take (suc i) ps ≡ take i ps ++ p ∷ []
take_next [] i p one within = absurd (omega arith)
take_next (q ∷ ps) zero p one within = ap (λ (r : Part). r ∷ []) (one.there q)
take_next (q ∷ ps) (suc i) p one within = ap (λ (rs : List Part). q ∷ rs) (take_next ps i p (rest_at q ps i p one (omega arith)) (omega arith))

-- the jobs of the sessions that were passed
pub passed_jobs : (ps : List Part) (i : ℕ) (p : Part) → IsAt ps i p → i < length ps → all_of (take (i + 1) ps) ≡ all_of (take i ps) ++ p.jobs
passed_jobs ps i p one within =
    let next : i + 1 ≡ suc i = omega arith in
    ap (λ (n : ℕ). all_of (take n ps)) next ∙ (ap all_of (take_next ps i p one within) ∙ (all_append (take i ps) (p ∷ []) ∙ ap (λ (xs : List Stamped). all_of (take i ps) ++ xs) (append-nil p.jobs)))

-- a place was found, whose job passes the test and has this stamp
pub record IsFound (test : Stamped → Bool) (ps : List Part) (least : ℕ) (place : Place) : Type 0 where
  pub there : IsThere ps place
  pub passes : (d : Part) (x : Stamped) → test (job_at ps place d x) ≡ true
  pub stamp : (d : Part) (x : Stamped) → (job_at ps place d x).stamp ≡ least

-- so many sessions were passed, and none of their jobs that pass has a stamp below the least one that was found
pub record IsSought (test : Stamped → Bool) (ps : List Part) (limit i least : ℕ) (found : Option Place) : Type 0 where
  pub none : count_before test least (all_of (take i ps)) ≡ 0
  pub some : IfSome found (IsFound test ps least)
  pub nothing : IfNone found (least ≡ limit)

pub sought_on : (test : Stamped → Bool) (ps : List Part) (limit i least : ℕ) (found : Option Place) (p : Part) → IsAt ps i p → i < length ps → IsSought test ps limit i least found → count_before test least p.jobs ≡ 0 → IsSought test ps limit (i + 1) least found
sought_on test ps limit i least found p one within sought none =
    record {
      none = omega (arith, ap (count_before test least) (passed_jobs ps i p one within), weigh_append (λ x. one_if (test x && nat_lt x.stamp least)) (all_of (take i ps)) p.jobs, sought.none, none);
      some = sought.some;
      nothing = sought.nothing;
    }

pub sought_here : (test : Stamped → Bool) (ps : List Part) (limit i least : ℕ) (found : Option Place) (p : Part) (first : First) → IsAt ps i p → i < length ps → IsSought test ps limit i least found → IsFirst test least p.jobs first → IsSought test ps limit (i + 1) first.stamp (Some (record { owner = i; at = first.at }))
sought_here test ps limit i least found p first one within sought here =
    record {
      none = omega (arith, ap (count_before test first.stamp) (passed_jobs ps i p one within), weigh_append (λ x. one_if (test x && nat_lt x.stamp first.stamp)) (all_of (take i ps)) p.jobs, sought.none, fewer_before test first.stamp least (omega (arith, here.below)) (all_of (take i ps)), here.none);
      some = record {
        there = record { within = within; at = λ d. subst (λ (q : Part). first.at < length q.jobs) (sym (one.there d)) here.within };
        passes = λ d x. ap (λ (q : Part). test (get_or q.jobs first.at x)) (one.there d) ∙ here.passes x;
        stamp = λ d x. ap (λ (q : Part). (get_or q.jobs first.at x).stamp) (one.there d) ∙ here.stamp x;
      };
      nothing = tt;
    }

pub take_whole : (ps : List Part) (i : ℕ) → length ps ≤ i → take i ps ≡ ps
take_whole [] zero past = refl
take_whole [] (suc i) past = refl
take_whole (p ∷ ps) zero past = absurd (omega arith)
take_whole (p ∷ ps) (suc i) past = ap (λ (qs : List Part). p ∷ qs) (take_whole ps i (omega arith))
