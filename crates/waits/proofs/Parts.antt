-- The jobs of all sessions, where one session's change.
use Rattle.std.proofs.Common.{◌≡◌, ◌∙◌, ℕ, suc, ◌+◌, ◌<◌, ◌≤◌, Bool, true, false, not, ◌==◌, cond, nat_lt, Option, Some, None, List, [], ◌∷◌, ◌++◌, length, take, drop, map, get_or, ap, sym, refl, subst, arith, append_assoc}
use Rattle.std.specs.List.{filter, position, position_or_len}
use Rattle.std.proofs.lemmas.Bool.{eqb-true, eq-eqb, ltb-false, and_parts}
use Rattle.std.proofs.lemmas.List.Elements.{filter-append}
use Rattle.std.proofs.lemmas.List.{append-nil}
use Rattle.std.proofs.lemmas.List.Quantifiers.{position-Some}
use Rattle.waits.specs.declared.stamped.Stamped.{Stamped}
use Rattle.waits.specs.declared.job.Unfinished.{Unfinished}
use Rattle.waits.specs.Jobs.{is_of, one_if, waits_for}
use Rattle.waits.specs.Stamps.{weigh, tally, after, own}
use Rattle.waits.specs.Parts.{Part, is_part_of, all_of}
use Rattle.waits.specs.Kept.{strangers, AreParts}
use Rattle.waits.proofs.Sums.{weigh_append, tally_less, one_if_true}
use Rattle.waits.proofs.Numbers.{not_told}
use Rattle.waits.proofs.Rising.{IsAt, element}

-- ---- all jobs, by parts

pub all_append : (ps qs : List Part) → all_of (ps ++ qs) ≡ all_of ps ++ all_of qs
all_append [] qs = refl
all_append (p ∷ ps) qs = ap (λ (xs : List Stamped). p.jobs ++ xs) (all_append ps qs) ∙ sym (append_assoc p.jobs (all_of ps) (all_of qs))

pub all_around : (front : List Part) (p : Part) (back : List Part) → all_of (front ++ p ∷ back) ≡ all_of front ++ (p.jobs ++ all_of back)
all_around front p back = all_append front (p ∷ back)

pub all_sum : (m : Stamped → ℕ) (ps : List Part) → weigh m (all_of ps) ≡ weigh (λ p. weigh m p.jobs) ps
all_sum m [] = refl
all_sum m (p ∷ ps) = let here = weigh_append m p.jobs (all_of ps) in let rest = all_sum m ps in omega arith

-- ---- a list whose elements pass a test, or fail

not_false : (b : Bool) → not b ≡ false → b ≡ true
not_false true is = refl
not_false false is = let clash : true ≡ false = is in cc

filter_all : {X : Type 0} (test : X → Bool) (xs : List X) → tally (λ x. not (test x)) xs ≡ 0 → filter test xs ≡ xs
filter_all test [] none = refl
filter_all {X} test (x ∷ xs) none =
    let passes : test x ≡ true = not_false (test x) (one_if_true (not (test x)) (omega arith)) in
    rw passes (ap (λ (ys : List X). x ∷ ys) (filter_all test xs (omega arith)))

pub filter_none : {X : Type 0} (test : X → Bool) (xs : List X) → tally test xs ≡ 0 → filter test xs ≡ []
filter_none test [] none = refl
filter_none test (x ∷ xs) none =
    let fails : test x ≡ false = one_if_true (test x) (omega arith) in
    rw fails (filter_none test xs (omega arith))

twice_not : (test : Bool) → one_if (not (not test)) ≡ one_if test
twice_not true = refl
twice_not false = refl

tally_twice : {X : Type 0} (test : X → Bool) (xs : List X) → tally (λ x. not (not (test x))) xs ≡ tally test xs
tally_twice test [] = refl
tally_twice test (x ∷ xs) = let here = twice_not (test x) in let rest = tally_twice test xs in omega arith

pub filter_rest : {X : Type 0} (test : X → Bool) (xs : List X) → tally test xs ≡ 0 → filter (λ x. not (test x)) xs ≡ xs
filter_rest test xs none = filter_all (λ x. not (test x)) xs (tally_twice test xs ∙ none)

pub map_rest : (key session number : ℕ) (ok : Bool) (xs : List Stamped) → tally (λ x. waits_for key session number x.one) xs ≡ 0 → map (after key session number ok) xs ≡ xs
map_rest key session number ok [] none = refl
map_rest key session number ok (x ∷ xs) none =
    let idle : waits_for key session number x.one ≡ false = one_if_true (waits_for key session number x.one) (omega arith) in
    ap (λ (one : Unfinished). record x { one = one } ∷ map (after key session number ok) xs) (not_told key session number ok x.one idle)
    ∙ ap (λ (ys : List Stamped). x ∷ ys) (map_rest key session number ok xs (omega arith))

-- ---- whose jobs they are

pub same_part : (key session : ℕ) (p : Part) → is_part_of key session p ≡ true → (p.key ≡ key) × (p.session ≡ session)
same_part key session p is =
    let both = and_parts (p.key == key) (p.session == session) is in
    (eqb-true p.key key both.0, eqb-true p.session session both.1)

-- a part of another session has no job of this one
other_by : (key session : ℕ) (p : Part) (x : Unfinished) (mine : Bool) → is_of p.key p.session x ≡ mine → is_part_of key session p ≡ false → is_of key session x ≡ true → not mine ≡ true
other_by key session p x false is apart own = refl
other_by key session p x true is apart own =
    let mine = and_parts (x.job.key == p.key) (x.job.session == p.session) is in
    let here = and_parts (x.job.key == key) (x.job.session == session) own in
    let one = eqb-true x.job.key p.key mine.0 in
    let two = eqb-true x.job.session p.session mine.1 in
    let three = eqb-true x.job.key key here.0 in
    let four = eqb-true x.job.session session here.1 in
    let both : is_part_of key session p ≡ true = rw (eq-eqb p.key key (sym one ∙ three), eq-eqb p.session session (sym two ∙ four)) refl in
    cc

other_part : (key session : ℕ) (p : Part) → strangers p ≡ 0 → is_part_of key session p ≡ false → tally (λ x. is_of key session x.one) p.jobs ≡ 0
other_part key session p none apart =
    let less = tally_less (λ x. is_of key session x.one) (λ x. not (is_of p.key p.session x.one)) (λ x own. other_by key session p x.one (is_of p.key p.session x.one) refl apart own) p.jobs in
    omega arith

own_part : (key session : ℕ) (p : Part) → strangers p ≡ 0 → is_part_of key session p ≡ true → tally (λ x. not (is_of key session x.one)) p.jobs ≡ 0
own_part key session p none is =
    let same = same_part key session p is in
    subst (λ (k : ℕ). tally (λ x. not (is_of k session x.one)) p.jobs ≡ 0) same.0 (subst (λ (s : ℕ). tally (λ x. not (is_of p.key s x.one)) p.jobs ≡ 0) same.1 none)

-- where no part is of a session, no job is
pub absent : (key session : ℕ) (ps : List Part) → weigh strangers ps ≡ 0 → tally (is_part_of key session) ps ≡ 0 → tally (λ x. is_of key session x.one) (all_of ps) ≡ 0
absent key session [] none apart = refl
absent key session (p ∷ ps) none apart =
    let other : is_part_of key session p ≡ false = one_if_true (is_part_of key session p) (omega arith) in
    let here = other_part key session p (omega arith) other in
    let rest = absent key session ps (omega arith) (omega arith) in
    let sum = weigh_append (λ x. one_if (is_of key session x.one)) p.jobs (all_of ps) in
    omega arith

-- the part of a session among the others
pub record IsPart (key session : ℕ) (front : List Part) (p : Part) (back : List Part) : Type 0 where
  pub here : is_part_of key session p ≡ true
  pub own : tally (λ x. not (is_of key session x.one)) p.jobs ≡ 0
  pub before : tally (λ x. is_of key session x.one) (all_of front) ≡ 0
  pub behind : tally (λ x. is_of key session x.one) (all_of back) ≡ 0

pub part_of : (key session : ℕ) (front : List Part) (p : Part) (back : List Part) → weigh strangers (front ++ p ∷ back) ≡ 0 → tally (is_part_of key session) (front ++ p ∷ back) ≤ 1 → is_part_of key session p ≡ true → IsPart key session front p back
part_of key session front p back none few is =
    let all = weigh_append strangers front (p ∷ back) in
    let count = weigh_append (λ q. one_if (is_part_of key session q)) front (p ∷ back) in
    let one : one_if (is_part_of key session p) ≡ 1 = rw is refl in
    record {
      here = is;
      own = own_part key session p (omega arith) is;
      before = absent key session front (omega arith) (omega arith);
      behind = absent key session back (omega arith) (omega arith);
    }

pub own_jobs : (key session : ℕ) (front : List Part) (p : Part) (back : List Part) → IsPart key session front p back → own key session (all_of (front ++ p ∷ back)) ≡ p.jobs
own_jobs key session front p back part =
    let test = λ (x : Stamped). is_of key session x.one in
    ap (own key session) (all_around front p back)
    ∙ (filter-append test (all_of front) (p.jobs ++ all_of back)
    ∙ (ap (λ (xs : List Stamped). xs ++ filter test (p.jobs ++ all_of back)) (filter_none test (all_of front) part.before)
    ∙ (filter-append test p.jobs (all_of back)
    ∙ (ap (λ (xs : List Stamped). xs ++ filter test (all_of back)) (filter_all test p.jobs part.own)
    ∙ (ap (λ (xs : List Stamped). p.jobs ++ xs) (filter_none test (all_of back) part.behind) ∙ append-nil p.jobs)))))

-- what a search for a session finds
pub found : (key session : ℕ) (ps : List Part) (i : ℕ) → position (is_part_of key session) ps ≡ Some i → (p : Part) × IsAt ps i p × (is_part_of key session p ≡ true) × (i < length ps)
found key session ps i is =
    let there = position-Some (is_part_of key session) ps i (record { key = 0; session = 0; jobs = [] }) is in
    let one = element ps i there.0 in
    (one.0, one.1, subst (λ (q : Part). is_part_of key session q ≡ true) (one.1.there (record { key = 0; session = 0; jobs = [] })) there.1, there.0)

-- and doesn't find
prefix_by : {X : Type 0} (test : X → Bool) (x : X) (xs : List X) (here : Bool) → test x ≡ here → suc (length xs) ≤ cond (not here) (1 + position_or_len test xs) 0 → (length xs ≤ position_or_len test xs → tally test xs ≡ 0) → tally test (x ∷ xs) ≡ 0
prefix_by test x xs true is long rest = absurd (omega arith)
prefix_by test x xs false is long rest = let later = rest (omega arith) in let fails : one_if (test x) ≡ 0 = rw is refl in omega arith

none_by : (n m : ℕ) (less : Bool) → nat_lt n m ≡ less → ◌≡◌ {A = Option ℕ} (cond less (Some n) None) None → m ≤ n
none_by n m true is none = let clash : ◌≡◌ {A = Option ℕ} (Some n) None = none in cc
none_by n m false is none = ltb-false n m is

none_past : (n m : ℕ) → ◌≡◌ {A = Option ℕ} (cond (nat_lt n m) (Some n) None) None → m ≤ n
none_past n m none = none_by n m (nat_lt n m) refl none

prefix_all : {X : Type 0} (test : X → Bool) (xs : List X) → length xs ≤ position_or_len test xs → tally test xs ≡ 0
prefix_all test [] long = refl
prefix_all test (x ∷ xs) long = prefix_by test x xs (test x) refl long (prefix_all test xs)

pub not_found : {X : Type 0} (test : X → Bool) (xs : List X) → position test xs ≡ None → tally test xs ≡ 0
not_found test xs none = prefix_all test xs (none_past (position_or_len test xs) (length xs) none)

-- where a session's part is, and whose jobs it has
pub record IsFoundPart (key session : ℕ) (ps : List Part) (i : ℕ) : Type 0 where
  pub part : Part
  pub at : IsAt ps i part
  pub within : i < length ps
  pub among : IsPart key session (take i ps) part (drop (suc i) ps)

pub found_part : (key session : ℕ) (ps : List Part) (i : ℕ) → Some i ≡ position (is_part_of key session) ps → AreParts ps → IsFoundPart key session ps i
found_part key session ps i is kept =
    let one = found key session ps i (sym is) in
    let split = one.1.parts in
    record {
      part = one.0;
      at = one.1;
      within = one.3;
      among = part_of key session (take i ps) one.0 (drop (suc i) ps) (subst (λ (qs : List Part). weigh strangers qs ≡ 0) split kept.own) (subst (λ (qs : List Part). tally (is_part_of key session) qs ≤ 1) split (kept.apart key session)) one.2;
    }

-- which are the session's among all
pub found_own : (key session : ℕ) (ps : List Part) (i : ℕ) (q : Part) → Some i ≡ position (is_part_of key session) ps → AreParts ps → q ≡ get_or ps i q → own key session (all_of ps) ≡ q.jobs
found_own key session ps i q is kept lent =
    let one = found_part key session ps i is kept in
    ap (λ (qs : List Part). own key session (all_of qs)) one.at.parts
    ∙ (own_jobs key session (take i ps) one.part (drop (suc i) ps) one.among ∙ ap (λ (r : Part). r.jobs) (sym {A = Part} (lent ∙ one.at.there q)))

-- a session that isn't found has no job
pub none_there : (key session : ℕ) (ps : List Part) → None ≡ position (is_part_of key session) ps → AreParts ps → tally (λ x. is_of key session x.one) (all_of ps) ≡ 0
none_there key session ps none kept = absent key session ps kept.own (not_found (is_part_of key session) ps (sym none))
