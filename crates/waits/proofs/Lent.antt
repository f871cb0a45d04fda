-- The jobs of all sessions, where those of one place change.
use Rattle.std.proofs.Common.{◌≡◌, ◌∙◌, ℕ, suc, ◌+◌, ◌<◌, ◌≤◌, Bool, true, not, ◌&&◌, nat_lt, Some, List, [], ◌∷◌, ◌++◌, length, take, drop, map, get_or, slice_set, ap, sym, refl, subst, arith, length-append}
use Rattle.std.specs.List.{filter, position, remove}
use Rattle.std.proofs.lemmas.Bool.{eq-eqb}
use Rattle.std.proofs.lemmas.List.{set_split, take-append-drop}
use Rattle.waits.specs.declared.stamped.Stamped.{Stamped}
use Rattle.waits.specs.declared.job.Job.{Job}
use Rattle.waits.specs.declared.job.Unfinished.{Unfinished}
use Rattle.waits.specs.declared.owners.Place.{Place}
use Rattle.waits.specs.declared.wanted.First.{First}
use Rattle.waits.specs.Jobs.{is_of, one_if}
use Rattle.waits.specs.Stamps.{weigh, after, count_before, IsWith}
use Rattle.waits.specs.Parts.{Part, is_part_of, all_of, IsFirst}
use Rattle.waits.specs.Kept.{strangers, AreParts, IsFirstAt, IsFirstOf, IsOut, job_at}
use Rattle.waits.proofs.Sums.{weigh_append, weigh_with, tally_le}
use Rattle.waits.proofs.Parts.{all_append, all_around, all_sum, found_part, same_part, IsPart}
use Rattle.waits.proofs.Places.{passed_jobs, take_whole}
use Rattle.waits.proofs.Rising.{IsAt, element}
use Rattle.waits.proofs.Keeping.{parts_changed, parts_less, put_behind, taken_from, without_none, all_told, all_forgotten}

-- what is lent at a place stands there
pub lent_at : (ps : List Part) (i : ℕ) (q : Part) → i < length ps → q ≡ get_or ps i q → IsAt ps i q
lent_at ps i q within lent =
    let found = element ps i within in
    subst (λ (r : Part). IsAt ps i r) (sym {A = Part} (lent ∙ found.1.there q)) found.1

-- a session's part stands at a place
pub record IsLent (key session : ℕ) (ps : List Part) (i : ℕ) (q : Part) : Type 0 where
  pub at : IsAt ps i q
  pub within : i < length ps
  pub among : IsPart key session (take i ps) q (drop (suc i) ps)

pub lent_part : (key session : ℕ) (ps : List Part) (i : ℕ) (q : Part) → Some i ≡ position (is_part_of key session) ps → AreParts ps → q ≡ get_or ps i q → IsLent key session ps i q
lent_part key session ps i q is kept lent =
    let one = found_part key session ps i is kept in
    let same : one.part ≡ q = sym {A = Part} (lent ∙ one.at.there q) in
    record {
      at = subst (λ (r : Part). IsAt ps i r) same one.at;
      within = one.within;
      among = subst (λ (r : Part). IsPart key session (take i ps) r (drop (suc i) ps)) same one.among;
    }

-- a sum that is nothing is nothing at each place
none_at : {X : Type 0} (m : X → ℕ) (xs : List X) (i : ℕ) (x : X) → IsAt xs i x → weigh m xs ≡ 0 → m x ≡ 0
none_at m xs i x one none = omega (arith, ap (weigh m) one.parts, weigh_with m x (take i xs) (drop (suc i) xs), none)

pub own_at : (ps : List Part) (i : ℕ) (q : Part) → IsAt ps i q → AreParts ps → strangers q ≡ 0
own_at ps i q one kept = none_at strangers ps i q one kept.own

pub none_of_part : (m : Stamped → ℕ) (ps : List Part) (i : ℕ) (q : Part) → IsAt ps i q → weigh m (all_of ps) ≡ 0 → weigh m q.jobs ≡ 0
none_of_part m ps i q one none = none_at (λ p. weigh m p.jobs) ps i q one (sym (all_sum m ps) ∙ none)

-- a job of a session is of the session's part
pub is_own : (key session : ℕ) (q : Part) (x : Unfinished) → x.job.key ≡ key → x.job.session ≡ session → is_part_of key session q ≡ true → is_of q.key q.session x ≡ true
is_own key session q x one two is =
    let same = same_part key session q is in
    rw (eq-eqb x.job.key q.key (one ∙ sym same.0), eq-eqb x.job.session q.session (two ∙ sym same.1)) refl

-- ---- a part is replaced

pub parts_set : (ps : List Part) (i : ℕ) (p q : Part) → IsAt ps i p → i < length ps → AreParts ps → q.key ≡ p.key → q.session ≡ p.session → strangers q ≡ 0 → AreParts (slice_set ps i q)
parts_set ps i p q one within kept key session none =
    subst AreParts (sym (set_split ps i q within)) (parts_changed (take i ps) p q (drop (suc i) ps) (subst AreParts one.parts kept) key session none)

all_set : (ps : List Part) (i : ℕ) (q : Part) → i < length ps → all_of (take i ps ++ q ∷ drop (suc i) ps) ≡ all_of (slice_set ps i q)
all_set ps i q within = ap all_of (sym (set_split ps i q within))

pub put_set : (ps : List Part) (i : ℕ) (p q : Part) (x : Stamped) → IsAt ps i p → i < length ps → q.jobs ≡ p.jobs ++ x ∷ [] → IsWith x (all_of ps) (all_of (slice_set ps i q))
put_set ps i p q x one within jobs =
    subst (λ (ys : List Stamped). IsWith x (all_of ps) ys) (all_set ps i q within)
    (subst (λ (ys : List Stamped). IsWith x ys (all_of (take i ps ++ q ∷ drop (suc i) ps))) (ap all_of (sym one.parts)) (put_behind (take i ps) p q (drop (suc i) ps) x jobs))

pub taken_set : (ps : List Part) (i : ℕ) (p q : Part) (at : ℕ) (x : Stamped) → IsAt ps i p → i < length ps → IsAt p.jobs at x → q.jobs ≡ remove p.jobs at → IsWith x (all_of (slice_set ps i q)) (all_of ps)
taken_set ps i p q at x one within there jobs =
    subst (λ (ys : List Stamped). IsWith x ys (all_of ps)) (all_set ps i q within)
    (subst (λ (ys : List Stamped). IsWith x (all_of (take i ps ++ q ∷ drop (suc i) ps)) ys) (ap all_of (sym one.parts)) (taken_from (take i ps) p q (drop (suc i) ps) at x there jobs))

pub told_set : (key session number : ℕ) (ok : Bool) (ps : List Part) (i : ℕ) (p q : Part) → IsLent key session ps i p → q.jobs ≡ map (after key session number ok) p.jobs → all_of (slice_set ps i q) ≡ map (after key session number ok) (all_of ps)
told_set key session number ok ps i p q lent jobs =
    sym (all_set ps i q lent.within) ∙ (all_told key session number ok (take i ps) p q (drop (suc i) ps) lent.among jobs ∙ ap (λ (rs : List Part). map (after key session number ok) (all_of rs)) (sym lent.at.parts))

-- ---- a part with no job goes

nothing : (xs : List Stamped) → length xs ≡ 0 → xs ≡ []
nothing [] none = refl
nothing (x ∷ xs) none = absurd (omega arith)

pub swept : (ps : List Part) (i : ℕ) (p : Part) → IsAt ps i p → length p.jobs ≡ 0 → AreParts ps → (all_of (remove ps i) ≡ all_of ps) × AreParts (remove ps i)
swept ps i p one none kept = (
  sym (ap all_of one.parts ∙ without_none (take i ps) p (drop (suc i) ps) (nothing p.jobs none)),
  parts_less (take i ps) p (drop (suc i) ps) (subst AreParts one.parts kept),
)

-- or one that is forgotten
pub forgotten : (key session : ℕ) (ps : List Part) (i : ℕ) (p : Part) → IsLent key session ps i p → AreParts ps → (all_of (remove ps i) ≡ filter (λ x. not (is_of key session x.one)) (all_of ps)) × AreParts (remove ps i)
forgotten key session ps i p lent kept = (
  all_forgotten key session (take i ps) p (drop (suc i) ps) lent.among ∙ ap (λ (rs : List Part). filter (λ x. not (is_of key session x.one)) (all_of rs)) (sym lent.at.parts),
  parts_less (take i ps) p (drop (suc i) ps) (subst AreParts lent.at.parts kept),
)

-- all jobs, in three parts
pub around_at : (ps : List Part) (i : ℕ) (p : Part) → IsAt ps i p → all_of ps ≡ all_of (take i ps) ++ (p.jobs ++ all_of (drop (suc i) ps))
around_at ps i p one = ap all_of one.parts ∙ all_around (take i ps) p (drop (suc i) ps)

pub around_set : (ps : List Part) (i : ℕ) (q : Part) → i < length ps → all_of (slice_set ps i q) ≡ all_of (take i ps) ++ (q.jobs ++ all_of (drop (suc i) ps))
around_set ps i q within = sym (all_set ps i q within) ∙ all_around (take i ps) q (drop (suc i) ps)

pub same_lent : (ps : List Part) (i : ℕ) (p q : Part) → IsAt ps i p → IsAt ps i q → p ≡ q
same_lent ps i p q one two = sym {A = Part} (one.there p) ∙ two.there p

-- ---- a job is found at a place

-- the first of a session that passes is the first of all, where those of the others don't pass or come later
pub first_at : (test : Stamped → Bool) (limit : ℕ) (ps : List Part) (i : ℕ) (p : Part) (first : First) → IsAt ps i p → i < length ps → IsFirst test limit p.jobs first → ((n : ℕ) → count_before test n p.jobs ≡ 0 → count_before test n (all_of ps) ≡ 0) → IsFirstAt test ps (record { owner = i; at = first.at })
first_at test limit ps i p first one within here leads =
    let stamp = λ (d : Part) (x : Stamped). ap (λ (q : Part). (get_or q.jobs first.at x).stamp) (one.there d) ∙ here.stamp x in
    record {
      there = record { within = within; at = λ d. subst (λ (q : Part). first.at < length q.jobs) (sym (one.there d)) here.within };
      passes = λ d x. ap (λ (q : Part). test (get_or q.jobs first.at x)) (one.there d) ∙ here.passes x;
      none = λ d x. subst (λ (n : ℕ). count_before test n (all_of ps) ≡ 0) (sym (stamp d x)) (leads first.stamp here.none);
    }

-- and is taken out
pub first_out : (test : Stamped → Bool) (old new : List Part) (place : Place) (job : Job) → IsFirstAt test old place → IsOut place old new job → (x : Stamped) × (job ≡ x.one.job) × IsFirstOf test x (all_of new) (all_of old)
first_out test old new place job first out =
    let none : Part = record { key = 0; session = 0; jobs = [] } in
    let here = out.here none out.stamped in (
      out.stamped,
      out.job,
      record {
        among = out.others;
        passes = subst (λ (y : Stamped). test y ≡ true) here (first.passes none out.stamped);
        none = subst (λ (y : Stamped). count_before test y.stamp (all_of old) ≡ 0) here (first.none none out.stamped);
      },
    )

-- or is looked at
pub first_among : (test : Stamped → Bool) (ps : List Part) (place : Place) → IsFirstAt test ps place → (x : Stamped) × (others : List Stamped) × ((d : Part) (y : Stamped) → job_at ps place d y ≡ x) × IsFirstOf test x others (all_of ps)
first_among test ps place first =
    let none : Part = record { key = 0; session = 0; jobs = [] } in
    let part = element ps place.owner first.there.within in
    let within : place.at < length part.0.jobs = subst (λ (q : Part). place.at < length q.jobs) (part.1.there none) (first.there.at none) in
    let one = element part.0.jobs place.at within in
    let here = λ (d : Part) (y : Stamped). ap (λ (q : Part). get_or q.jobs place.at y) (part.1.there d) ∙ one.1.there y in
    let left : Part = record part.0 { jobs = remove part.0.jobs place.at } in
    let among = taken_set ps place.owner part.0 left place.at one.0 part.1 first.there.within one.1 refl in (
      one.0,
      all_of (slice_set ps place.owner left),
      here,
      record {
        among = among;
        passes = subst (λ (y : Stamped). test y ≡ true) (here none one.0) (first.passes none one.0);
        none = subst (λ (y : Stamped). count_before test y.stamp (all_of ps) ≡ 0) (here none one.0) (first.none none one.0);
      },
    )

-- ---- all sessions are counted one after the other

pub front_few : (ps : List Part) (n : ℕ) → length (all_of (take n ps)) ≤ length (all_of ps)
front_few ps n =
    let parts : all_of ps ≡ all_of (take n ps) ++ all_of (drop n ps) = ap all_of (sym (take-append-drop n ps)) ∙ all_append (take n ps) (drop n ps) in
    omega (arith, ap (λ (xs : List Stamped). length xs) parts, length-append (all_of (take n ps)) (all_of (drop n ps)))

-- none is counted yet, one more is, and all are
pub count_none : (test : Stamped → Bool) (limit : ℕ) (ps : List Part) → 0 ≡ count_before test limit (all_of (take 0 ps))
count_none test limit ps = refl

pub count_on : (test : Stamped → Bool) (limit : ℕ) (ps : List Part) (i : ℕ) (p : Part) (count here : ℕ) → IsAt ps i p → i < length ps → count ≡ count_before test limit (all_of (take i ps)) → here ≡ count_before test limit p.jobs → count + here ≡ count_before test limit (all_of (take (i + 1) ps))
count_on test limit ps i p count here one within so_far is =
    omega (arith, so_far, is, ap (count_before test limit) (passed_jobs ps i p one within), weigh_append (λ x. one_if (test x && nat_lt x.stamp limit)) (all_of (take i ps)) p.jobs)

pub count_all : (test : Stamped → Bool) (limit : ℕ) (ps : List Part) (i count : ℕ) → length ps ≤ i → count ≡ count_before test limit (all_of (take i ps)) → count ≡ count_before test limit (all_of ps)
count_all test limit ps i count past so_far = so_far ∙ ap (λ (rs : List Part). count_before test limit (all_of rs)) (take_whole ps i past)

pub count_fits : (test : Stamped → Bool) (limit : ℕ) (ps : List Part) (n count : ℕ) → count ≡ count_before test limit (all_of (take n ps)) → count ≤ length (all_of ps)
count_fits test limit ps n count is = omega (arith, is, tally_le (λ x. test x && nat_lt x.stamp limit) (all_of (take n ps)), front_few ps n)
